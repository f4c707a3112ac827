-- What an operation comes to.
use Rattle.std.proofs.Common.{◌≡◌, ◌≤◌, ◌<◌, ℕ, true, false, cond, nat_lt, arith, List, [], ◌∷◌, ◌++◌, length, take, map, Option, Some, None, refl, sym, ap, ◌∙◌}
use Rattle.std.proofs.lemmas.List.{length-take, length-take-le, take-append-le}
use Rattle.std.proofs.Math.Seq.{take-append_seam}
use Rattle.std.proofs.lemmas.Bool.Decides.{nat_tests}
use Rattle.std.specs.Prelude.{slice_get}
use Rattle.request_catalogue.specs.declared.texts.Name.{Name}
use Rattle.request_catalogue.specs.declared.width.Width.{Width}
use Rattle.request_catalogue.specs.declared.width.Width.TheVariants as widths
use Rattle.request_catalogue.specs.Replies.{Done}
use Rattle.request_catalogue.specs.Widths.{body_max, transfer_max}
use Rattle.policy_model.specs.declared.account.Account.{Account}
use Rattle.policy_model.specs.Logins.{account_of}
use Rattle.policy_model.specs.Settings.{Settings, account_number}
use Rattle.session_laws.proofs.Numbers.{numbered_by_name, numbered_by_number}
use Rattle.outside.specs.declared.act.Act.{Act}
use Rattle.outside.specs.Scene.{Scene}
use Rattle.service_model.specs.Acts.{Operation, operation_of}
use Rattle.service_model.specs.Answers.{challenge_text, decoy_challenge_text}
use Rattle.service_model.specs.Cases.{account_challenge_text}
use Rattle.session_asking.specs.declared.work.Outcome.{Outcome}
use Rattle.session_asking.specs.declared.work.Outcome.TheVariants as outcomes
use Rattle.session_asking.specs.Work.{Does, Fits, told}

-- what stands after the bytes that are told isn't looked at
told_front : (outcome : Outcome) (xs ys : List ℕ) → Fits outcome (length xs) → told outcome (xs ++ ys) ≡ told outcome xs
told_front (outcomes.Done len) xs ys fits = ap Done (take-append-le len xs ys fits)
told_front (outcomes.Failed device) xs ys fits = refl

-- what was put to the front of a piece
pub put_front : (operation : ℕ → Operation) (max : ℕ) (old piece rest : List ℕ) (outcome : Outcome) (s t : Option Scene) → max ≤ length old → Does (operation (length (take max old)) ∷ []) outcome piece s t → Fits outcome (length piece) → Does (operation max ∷ []) outcome (piece ++ rest) s t
put_front operation max old piece rest outcome s t within does fits = record {
  acts = does.acts;
  are = does.are ∙ ap (λ n. operation n ∷ []) (length-take-le max old within);
  comes = does.comes ∙ sym (told_front outcome piece rest fits);
  played = does.played;
}

-- nothing was done where nothing was asked
pub nothing_done : (acts : List Act) → map operation_of acts ≡ [] → acts ≡ []
nothing_done [] e = refl
nothing_done (act ∷ acts) e = absurd cc

-- the front of what was written is the text
pub taken : (len : ℕ) (text rest out : List ℕ) → len ≡ length text → out ≡ text ++ rest → take len out ≡ text
taken len text rest out len_is out_is = ap (λ n. take n out) len_is ∙ ap (take (length text)) out_is ∙ take-append_seam text rest

-- the account of a name, by its number
pub named_some : (setup : Settings) (user : Name) (number : ℕ) → account_number setup user ≡ Some number → slice_get setup.accounts number ≡ account_of setup user
named_some setup user number h = let n = numbered_by_number setup user number h in n.1.stands ∙ sym n.1.found

pub named_none : (setup : Settings) (user : Name) → account_number setup user ≡ None → account_of setup user ≡ None
named_none setup user h = go (account_of setup user) refl where
  go : (o : Option Account) → account_of setup user ≡ o → account_of setup user ≡ None
  go None is = is
  go (Some account) is =
      let n = numbered_by_name setup user account is in
      let wrong : None ≡ Some n.0 = sym h ∙ n.1.number_is in
      absurd cc

-- a challenge below the decoys is the account's, and else the decoy's
pub below_decoys : (setup : Settings) (user : Name) (value : ℕ) → value < 10000 → challenge_text setup user value ≡ account_challenge_text (account_of setup user) value
below_decoys setup user value lt =
    let below : nat_lt value 10000 ≡ true = grind (arith, nat_tests, lt) in
    ap (λ b. cond b (account_challenge_text (account_of setup user) value) (decoy_challenge_text setup user)) below

pub from_decoys : (setup : Settings) (user : Name) (value : ℕ) → 10000 ≤ value → challenge_text setup user value ≡ decoy_challenge_text setup user
from_decoys setup user value le =
    let above : nat_lt value 10000 ≡ false = grind (arith, nat_tests, le) in
    ap (λ b. cond b (account_challenge_text (account_of setup user) value) (decoy_challenge_text setup user)) above

-- what one request transfers fits a reply
pub has_room : (width : Width) (n : ℕ) → n ≡ transfer_max width → n < body_max width
has_room widths.Narrow n is = omega (arith, is)
has_room widths.Wide n is = omega (arith, is)

-- a frame that was made within some room is no longer than that
pub made_short : (frame : List ℕ) (len room : ℕ) (reply : List ℕ) → reply ≡ take len frame → len ≤ room → length reply ≤ room
made_short frame len room reply is le = omega (arith, ap length is, length-take len frame, le)
