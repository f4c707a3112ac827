-- Inner: the rising array of names.
use Rattle.std.specs.Prelude.{ℕ, ◌≡◌, ◌<◌, ◌≤◌, List, length, slice_index_or, Option, Some, None, option_map, position}
use Rattle.std.specs.Prelude.{if◌then◌else◌}
use Rattle.std.specs.List.{find}
use Rattle.std.specs.Ordering.{nat_cmp}
use Rattle.std.specs.Cmp.Lexicographic.{slice_cmp}
use Rattle.std.specs.declared.cmp.Ordering.{Ordering}
use Rattle.std.specs.declared.cmp.Ordering.TheVariants.{Less, Equal, Greater}
use Rattle.request_catalogue.specs.declared.texts.Name.{Name}
use Rattle.request_catalogue.specs.TextBytes.{name_bytes}
use Rattle.policy_model.specs.declared.account.Account.{Account}
use Rattle.policy_model.specs.Settings.{same_name}
use Rattle.otp_ledger.specs.declared.names.Named.{Named}

-- names by their bytes
abbrev pub name_cmp : Name → Name → Ordering
name_cmp a b = slice_cmp nat_cmp (name_bytes a) (name_bytes b)

-- the names rise strictly
pub record AreNamed (names : List Named) : Type 0 where
  pub rises : (i j : ℕ) (d : Named) → i < j → j < length names → name_cmp (slice_index_or names i d).name
      (slice_index_or names j d).name ≡ Less

-- the name is at this place
pub record IsNamedHere (names : List Named) (user : Name) (i : ℕ) : Type 0 where
  pub in_range : i < length names
  pub same : (d : Named) → name_cmp (slice_index_or names i d).name user ≡ Equal

-- the name would go at this place: those before it are below, those from it on above
pub record IsNameGap (names : List Named) (user : Name) (i : ℕ) : Type 0 where
  pub in_range : i ≤ length names
  pub below : (k : ℕ) (d : Named) → k < i → name_cmp (slice_index_or names k d).name user ≡ Less
  pub above : (k : ℕ) (d : Named) → i ≤ k → k < length names → name_cmp (slice_index_or names k d).name user ≡ Greater

-- the number of a name
abbrev pub number_named : List Named → Name → Option ℕ
number_named names user = option_map (λ e. e.account) (find (λ e. same_name e.name user) names)

-- the number of a name, where one more is named after the others
abbrev pub number_with : Option ℕ → Named → Name → Option ℕ
number_with (Some n) named user = Some n
number_with None named user = if same_name named.name user then Some named.account else None

-- the names are as before, and one more
abbrev pub AddsName : List Named → Named → List Named → Type 0
AddsName old named new = (user : Name) → number_named new user ≡ number_with (number_named old user) named user

-- the number of each name is that of its account
abbrev pub AreNumbersOf : List Account → List Named → Type 0
AreNumbersOf accounts names = (user : Name) → number_named names user ≡ position (λ a. same_name a.name user) accounts
