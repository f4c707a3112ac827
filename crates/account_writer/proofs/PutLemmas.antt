-- A value that is put at a key of a table.
use Rattle.std.proofs.Common.{◌≡◌, List, [], ◌∷◌, String, Global, Ordering, Less, Equal, Greater, string_bytes, string_cmp, refl, ◌∙◌}
use Rattle.std.specs.BTreeMap.{insert_entry}
use Rattle.std.specs.Ordering.{match_ordering}
use Rattle.policy_model.specs.Settings.{Settings}
use Rattle.toml.specs.Data.{Data, no_members}
use Rattle.toml.specs.View.{view, members_view}
use Rattle.toml.specs.declared.value.Value.{Value}
use Rattle.account_writer.specs.Puts.{put_accounts, put_counts, put_member, put_texts}
use Rattle.account_writer.specs.Tables.{setup_members}

abbrev Entry : Type 0
Entry = String Global × Value

members_by : (o : Ordering) (a b c : List Entry) → members_view (match_ordering o a b c) ≡ match_ordering o (members_view a) (members_view b) (members_view c)
members_by Less a b c = refl
members_by Equal a b c = refl
members_by Greater a b c = refl

-- an entry that is put into a map's
pub put_entry : (es : List Entry) (k : String Global) (v : Value) → members_view (insert_entry string_cmp es k v) ≡ put_member (string_bytes k) (view v) (members_view es)
put_entry [] k v = refl
put_entry (e ∷ es) k v = members_by (string_cmp k e.0) _ _ _ ∙ rw (put_entry es k v) refl

-- all keys that are put are those of the setup
pub put_all : (s : Settings) (accounts : List Data) → put_accounts accounts (put_counts s (put_texts s no_members)) ≡ setup_members s accounts
put_all s [] = refl
put_all s (d ∷ ds) = refl
