-- What a challenge names.
use Rattle.std.proofs.Common.{◌≡◌, ℕ, ◌<◌, Bool, true, false, ◌||◌, cond, nat_le, nat_lt, List, [], Option, Some, None, refl, sym, ap, ◌∙◌, arith}
use Rattle.std.proofs.lemmas.Bool.Decides.{nat_tests}
use Rattle.std.specs.Prelude.{slice_get}
use Rattle.otp_hash.specs.SeedBytes.{seed_bytes}
use Rattle.otp_words.specs.Challenges.{challenge_of}
use Rattle.request_catalogue.specs.declared.texts.Name.{Name}
use Rattle.policy_model.specs.declared.account.Account.{Account}
use Rattle.policy_model.specs.declared.decoy.Decoy.{Decoy}
use Rattle.policy_model.specs.Decoys.{decoy_algo, decoy_number, decoy_seed}
use Rattle.policy_model.specs.Logins.{account_of}
use Rattle.policy_model.specs.Settings.{IsInRange, Settings, same_name}
use Rattle.session_laws.proofs.Numbers.{number_at}
use Rattle.session_laws.proofs.Permits.{same_from_same_name, same_some}
use Rattle.service_model.specs.Answers.{challenge_text, decoy_challenge_text}
use Rattle.service_model.specs.Cases.{account_challenge_text}
use Rattle.session_asking.specs.Made.{naming_of}
use Rattle.session_asking.proofs.Done.{named_some}

-- the account at a place is that of its name
pub named_there : (setup : Settings) (user : Name) (number : ℕ) (account : Account) → IsInRange setup → slice_get setup.accounts number ≡ Some account → same_name account.name user ≡ true → account_of setup user ≡ Some account
named_there setup user number account r stands is =
    let same : account.name ≡ user = same_from_same_name account.name user is in
    ap (account_of setup) (sym same) ∙ sym (named_some setup account.name number (number_at setup number account r stands)) ∙ stands

-- and that of a user that is challenged with its number
pub for_user : (setup : Settings) (user : Name) (number value : ℕ) (account : Account) → IsInRange setup → slice_get setup.accounts number ≡ Some account → (same_name account.name user || nat_le 10000 value) ≡ true → value < 10000 → Some account ≡ account_of setup user
for_user setup user number value account r stands is lt = go (same_name account.name user) refl (ap (λ b. same_name account.name user || b) above ∙ is) where
  above : false ≡ nat_le 10000 value
  above = grind (arith, nat_tests, lt)

  go : (b : Bool) → same_name account.name user ≡ b → (b || false) ≡ true → Some account ≡ account_of setup user
  go true same h = sym (named_there setup user number account r stands same)
  go false same h = absurd cc

-- the text of what is named
abbrev text_of : Decoy → List ℕ
text_of d = challenge_of d.algo d.n (seed_bytes d.seed)

own_text : (value : ℕ) (account : Option Account) (named : Decoy) → naming_of value account ≡ Some named → text_of named ≡ account_challenge_text account value
own_text value None named h = absurd cc
own_text value (Some account) named h = ap text_of (same_some named (record { algo = account.algo; n = value; seed = account.seed }) (sym h))

no_text : (value : ℕ) (account : Option Account) → naming_of value account ≡ None → account_challenge_text account value ≡ []
no_text value None h = refl
no_text value (Some account) h = absurd cc

below : (value : ℕ) → nat_lt value 10000 ≡ true → value < 10000
below value h = grind (arith, nat_tests, h)

-- a decoy is the name's
pub record IsDecoyOf (setup : Settings) (user : Name) (decoy : Decoy) : Type 0 where
  pub algo : decoy.algo ≡ decoy_algo setup user
  pub number : decoy.n ≡ decoy_number setup user
  pub seed : seed_bytes decoy.seed ≡ decoy_seed setup user

decoy_text : (setup : Settings) (user : Name) (decoy : Decoy) → IsDecoyOf setup user decoy → text_of decoy ≡ decoy_challenge_text setup user
decoy_text setup user decoy is =
    ap (λ a. challenge_of a decoy.n (seed_bytes decoy.seed)) is.algo
    ∙ ap (λ n. challenge_of (decoy_algo setup user) n (seed_bytes decoy.seed)) is.number
    ∙ ap (challenge_of (decoy_algo setup user) (decoy_number setup user)) is.seed

-- what is named is what the challenge says
pub named_text : (setup : Settings) (user : Name) (value : ℕ) (own : Option Decoy) (decoy named : Decoy) → (value < 10000 → own ≡ naming_of value (account_of setup user)) → IsDecoyOf setup user decoy → cond (nat_lt value 10000) own (Some decoy) ≡ Some named → challenge_of named.algo named.n (seed_bytes named.seed) ≡ challenge_text setup user value
named_text setup user value own decoy named is of h = go (nat_lt value 10000) refl h where
  go : (b : Bool) → nat_lt value 10000 ≡ b → cond b own (Some decoy) ≡ Some named → text_of named ≡ cond b (account_challenge_text (account_of setup user) value) (decoy_challenge_text setup user)
  go true lt h = own_text value (account_of setup user) named (sym (is (below value lt)) ∙ h)
  go false ge h = ap text_of (same_some named decoy (sym h)) ∙ decoy_text setup user decoy of

-- where nothing is named there is no text
pub unnamed_text : (setup : Settings) (user : Name) (value : ℕ) (own : Option Decoy) (decoy : Decoy) → (value < 10000 → own ≡ naming_of value (account_of setup user)) → cond (nat_lt value 10000) own (Some decoy) ≡ None → challenge_text setup user value ≡ []
unnamed_text setup user value own decoy is h = go (nat_lt value 10000) refl h where
  go : (b : Bool) → nat_lt value 10000 ≡ b → cond b own (Some decoy) ≡ None → cond b (account_challenge_text (account_of setup user) value) (decoy_challenge_text setup user) ≡ []
  go true lt h = no_text value (account_of setup user) (sym (is (below value lt)) ∙ h)
  go false ge h = absurd cc
