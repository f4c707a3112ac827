-- What follows of a renewal: the spent password isn't the next one.
use Rattle.std.proofs.Common.{◌≡◌, ℕ, ◌≤◌, Bool, true, false, not, ◌||◌, ◌==◌, List, [], ◌∷◌, ◌++◌, get_or, take, Option, Some, None, Ok, unwrap_or, refl, sym, ap, subst, ◌∙◌}
use Rattle.std.specs.Prelude.{Result}
use Rattle.std.specs.List.{last_or}
use Rattle.std.specs.Str.{bytes_eq}
use Rattle.std.proofs.lemmas.Bool.{and_parts, eq-eqb, eqb-true, false≢true}
use Rattle.std.proofs.lemmas.Option.{get_or_from_slice_get, slice_get_within}
use Rattle.otp_hash.specs.Hashing.{hash_of}
use Rattle.otp_hash.specs.SeedBytes.{seed_bytes}
use Rattle.request_catalogue.specs.declared.texts.Name.{Name}
use Rattle.policy_model.specs.declared.account.Account.{Account}
use Rattle.policy_model.specs.declared.event.Event.{Event}
use Rattle.policy_model.specs.Legal.{IsLegal, IsNext}
use Rattle.policy_model.specs.Logins.{account_of, current_password, replies_of, was_accepted}
use Rattle.policy_model.specs.Settings.{IsInRange, Settings, account_number}
use Rattle.policy_model.specs.Verdict.{is_next_password}
use Rattle.session_laws.specs.Numbered.{IsNumbered}
use Rattle.session_laws.proofs.Numbers.{number_at, numbered_by_number}
use Rattle.session_laws.proofs.Permits.{found_name, new_reply, same_some}
use Rattle.otp_extended.specs.declared.response.Response.{Response}
use Rattle.otp_extended.specs.declared.response.Response.TheVariants.{Plain, Init}
use Rattle.otp_extended.specs.declared.renewal.Renewed.{Renewed}
use Rattle.trouble.specs.declared.response.RenewFault.{RenewFault}
use Rattle.trouble.specs.declared.response.RenewFault.TheVariants.{Disabled, Exhausted, SameSeed, Replayed, NoMatch, Loop}
use Rattle.otp_extended.specs.Renewals.{IsNotNext, IsRenewed, account_with, fault_if, faults_of, first_of, is_loop, judged, new_chain_of, renewal_by, renewal_of, renewed_setup, spent_of}
use Rattle.otp_extended.proofs.SetupLemmas.{others_with, range_with, stands_with}

-- 1. No fault applies

fault_parts : (applies : Bool) (fault : RenewFault) (rest : List RenewFault) → first_of (fault_if applies fault ++ rest) ≡ None → (applies ≡ false) × (first_of rest ≡ None)
fault_parts true fault rest none = absurd cc
fault_parts false fault rest none = (refl, none)

last_fault : (applies : Bool) (fault : RenewFault) → first_of (fault_if applies fault) ≡ None → applies ≡ false
last_fault true fault none = absurd cc
last_fault false fault none = refl

neither : (a b : Bool) → (a || b) ≡ false → (a ≡ false) × (b ≡ false)
neither true b e = absurd (false≢true (sym e))
neither false b e = (refl, e)

-- a new chain whose password isn't what the spent one hashes to
record Begins (account : Account) (spent : ℕ) (new : Renewed) : Type 0 where
  pub apart : hash_of new.algo spent ≡ new.password → ⊥

same_ok : (x y : Renewed) → ◌≡◌ {A = Result Renewed RenewFault} (Ok x) (Ok y) → x ≡ y
same_ok x y e = cc

begins : (account : Account) (number : ℕ) (response : Response) (new : Renewed) → first_of (faults_of account response) ≡ None → new_chain_of number response ≡ Ok new → (new.account ≡ number) × Begins account (spent_of response) new
begins account number (Plain current) new none chain = absurd cc
begins account number (Init current algo sequence seed password) new none chain =
    let a = fault_parts (not account.enabled) Disabled _ none in
    let b = fault_parts (account.sequence == 0) Exhausted _ a.1 in
    let c = fault_parts (bytes_eq (seed_bytes seed) (seed_bytes account.seed)) SameSeed _ b.1 in
    let d = fault_parts (current == account.password) Replayed _ c.1 in
    let e = fault_parts (not (hash_of account.algo current == account.password)) NoMatch _ d.1 in
    let f = last_fault (is_loop account (Init current algo sequence seed password)) Loop e.1 in
    let g = (neither (password == account.password) (hash_of algo current == password) (neither (password == current) _ f).1).1 in
    let is = same_ok _ _ chain in (
      sym (ap (λ (r : Renewed). r.account) is),
      record {
        apart = λ same.
            let hashes : hash_of algo current ≡ password = ap (λ (r : Renewed). hash_of r.algo current) is ∙ same ∙ sym (ap (λ (r : Renewed). r.password) is) in
            false≢true (sym g ∙ eq-eqb (hash_of algo current) password hashes);
      },
    )

-- 2. Whose account is renewed

record Renews (setup : Settings) (user : Name) (response : Response) (new : Renewed) : Type 0 where
  pub account : Account
  pub numbered : IsNumbered setup user new.account account
  pub begins : Begins account (spent_of response) new

renews : (setup : Settings) (user : Name) (response : Response) (new : Renewed) → renewal_of setup user response ≡ Ok new → Renews setup user response new
unfolding renewal_of
renews setup user response new is = go (account_number setup user) refl where
  go : (o : Option ℕ) → account_number setup user ≡ o → Renews setup user response new
  go None none =
      let unknown = ap (λ (n : Option ℕ). renewal_by n (account_of setup user) response) (sym none) ∙ is in
      absurd cc
  go (Some number) some =
      let n = numbered_by_number setup user number some in
      let judgement : judged (first_of (faults_of n.0 response)) number response ≡ Ok new =
      ap (λ (o : Option Account). renewal_by (Some number) o response) (sym n.1.found) ∙ ap (λ (o : Option ℕ). renewal_by o (account_of setup user) response) (sym some) ∙ is in
      by (first_of (faults_of n.0 response)) refl judgement where
        by : (f : Option RenewFault) → first_of (faults_of (numbered_by_number setup user number some).0 response) ≡ f → judged f number response ≡ Ok new → Renews setup user response new
        by (Some fault) first judgement = absurd cc
        by None first judgement =
            let n = numbered_by_number setup user number some in
            let b = begins n.0 number response new first judgement in
            record {
              account = n.0;
              numbered = subst (λ (k : ℕ). IsNumbered setup user k n.0) (sym b.0) n.1;
              begins = b.1;
            }

-- 3. The setup after it

-- the next password of an account without replies hashes to the account's own
next_hashes : (journal : List Event) (account : Account) (user : Name) (password : ℕ) → account.name ≡ user → replies_of journal user ≡ [] → is_next_password journal account password ≡ true → hash_of account.algo password ≡ account.password
next_hashes journal account user password named none next =
    let current : current_password journal account ≡ account.password =
    ap (λ (n : Name). unwrap_or (last_or None (account.password ∷ replies_of journal n)) 0) named
    ∙ ap (λ (replies : List ℕ). unwrap_or (last_or None (account.password ∷ replies)) 0) none in
    let first = and_parts (hash_of account.algo password == current_password journal account) (not (was_accepted journal account password)) next in
    eqb-true (hash_of account.algo password) (current_password journal account) first.0 ∙ current

not_next : (setup : Settings) (user : Name) (account : Account) (spent : ℕ) (journal : List Event) → account_of setup user ≡ Some account → (hash_of account.algo spent ≡ account.password → ⊥) → IsLegal setup journal → IsNotNext journal user spent
not_next setup user account spent journal found apart legal = record {
  refused = λ k e stands none replied.
      let kn = slice_get_within journal k e stands in
      let here : get_or journal k e ≡ e = get_or_from_slice_get journal k e e stands in
      let front = take k journal in
      let next : IsNext setup front e = subst (IsNext setup front) here (legal k e kn) in
      let a = new_reply setup front e user spent next replied in
      let same : a.account ≡ account = same_some a.account account (sym a.found ∙ found) in
      let is : is_next_password front account spent ≡ true = subst (λ (x : Account). is_next_password front x spent ≡ true) same a.next in
      apart (next_hashes front account user spent (found_name setup user account found) none is);
}

pub is_renewed : (before after : Settings) (user : Name) (response : Response) (new : Renewed) → IsInRange before → new.sequence ≤ 9999 → renewal_of before user response ≡ Ok new → after ≡ renewed_setup before new → IsRenewed before after user (spent_of response) new
is_renewed before after user response new range small is made =
    let r = renews before user response new is in
    let a : Account = account_with r.account new in
    let full : Settings = renewed_setup before new in
    let there = stands_with before.accounts new.account new r.account r.numbered.stands in
    let number : account_number full user ≡ Some new.account = ap (account_number full) (sym r.numbered.named) ∙ number_at full new.account a (range_with before new small range) there in
    let n = numbered_by_number full user new.account number in
    let found : account_of full user ≡ Some a = n.1.found ∙ ap Some (same_some n.0 a (sym n.1.stands ∙ there)) in
    subst (λ (s : Settings). IsRenewed before s user (spent_of response) new) (sym made)
    (record {
      account = r.account;
      numbered = r.numbered.number_is;
      stood = r.numbered.stands;
      stands = there;
      found = found;
      others = λ k apart. others_with before.accounts new.account new k apart;
      keys = refl;
      not_next = λ journal legal. not_next full user a (spent_of response) journal found r.begins.apart legal;
    })
