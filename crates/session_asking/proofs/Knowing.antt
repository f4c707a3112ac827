-- What is known of a session, after the events of others and after its own.
use Rattle.std.proofs.Common.{◌≡◌, ℕ, ◌≤◌, Bool, true, false, ◌&&◌, ◌||◌, cond, eqb, List, [], ◌∷◌, ◌++◌, length, Option, Some, None, refl, sym, ap, subst, ◌∙◌, arith, nat_le}
use Rattle.std.specs.Prelude.{is_some}
use Rattle.std.specs.List.{find, list_all}
use Rattle.std.proofs.lemmas.Bool.{and_parts, false≢true}
use Rattle.std.proofs.lemmas.Bool.Decides.{nat_tests}
use Rattle.service_model.specs.Cases.{name_of_opening}
use Rattle.request_catalogue.specs.declared.kind.Kind.TheVariants as kinds
use Rattle.request_catalogue.specs.declared.texts.Name.{Name}
use Rattle.policy_model.specs.declared.account.Account.{Account}
use Rattle.policy_model.specs.declared.event.Ask.{Ask}
use Rattle.policy_model.specs.declared.event.Ask.TheVariants as asks
use Rattle.policy_model.specs.declared.event.Decision.{Decision}
use Rattle.policy_model.specs.declared.event.Decision.TheVariants.{Permit, Deny, Lost}
use Rattle.policy_model.specs.declared.event.Event.{Event}
use Rattle.policy_model.specs.declared.phase.Phase.{Phase}
use Rattle.policy_model.specs.declared.phase.Phase.TheVariants as phases
use Rattle.policy_model.specs.Asks.{accepts, came_by_frame, closes_file, exports, is_permit, kind_of, opens_file, value_of, label_named}
use Rattle.policy_model.specs.Handles.{handle_opening}
use Rattle.policy_model.specs.Journal.{has_event}
use Rattle.policy_model.specs.Legal.{IsNext}
use Rattle.policy_model.specs.Logins.{account_of, current_sequence, verified_user}
use Rattle.policy_model.specs.Phases.{phase_of, table_row}
use Rattle.policy_model.specs.Settings.{IsInRange, Settings, are_accounts, is_account, is_number}
use Rattle.policy_model.specs.Verdict.{info_verdict, kind_verdict}
use Rattle.policy_model.specs.Cases.{account_named, sequence_of, handle_of}
use Rattle.session_laws.proofs.HandleLaws.{gives_least, opened_in_user}
use Rattle.session_laws.proofs.Permits.{permit_from, request_permit, row_permit}
use Rattle.session_laws.proofs.Permitted.{accepted_in_challenged, permitted_live}
use Rattle.session_laws.proofs.PhaseLemmas.{phase_tests}
use Rattle.session_laws.proofs.SessionEvents.{has_event-own}
use Rattle.session_laws.proofs.UserLemmas.{verified_user-own}
use Rattle.session_turns.specs.Joins.{SessionStays}
use Rattle.session_asking.specs.declared.live.LoggedIn.{LoggedIn}
use Rattle.session_asking.specs.Known.{Knows, NotesFiles, name_after, names_in}
use Rattle.session_asking.specs.Work.{IsSmall}
use Rattle.session_asking.proofs.FileLemmas.{names_after}

-- others' events leave it
pub knows_others : (setup : Settings) (old before : List Event) (session : ℕ) (user : Option LoggedIn) → SessionStays session old before → Knows setup old session user → Knows setup before session user
knows_others setup old before session user stays known = record {
  exported = stays.exported ∙ known.exported;
  account = λ some. ap (account_named setup) stays.user ∙ known.account some;
  files = λ handle. ap (λ live. name_of_opening (find (λ e. eqb (handle_of e) handle) live)) stays.files ∙ known.files handle;
}

-- a session in User has exported
pub in_user : (journal : List Event) (session : ℕ) → phase_of journal session ≡ phases.User → has_event journal session exports ≡ true
in_user journal session h = (phase_tests journal session phases.User h).1

-- a session that exported accepts no reply any more
no_accepting : (setup : Settings) (journal : List Event) (e : Event) → IsNext setup journal e → has_event journal e.session exports ≡ true → accepts e ≡ false
no_accepting setup journal e next had = go (accepts e) refl where
  go : (b : Bool) → accepts e ≡ b → accepts e ≡ false
  go false is = is
  go true is =
      let none : has_event journal e.session exports ≡ false = (phase_tests journal e.session phases.Challenged (accepted_in_challenged setup journal e next is)).1.0 in
      absurd (false≢true (sym none ∙ had))

-- nor does one that hasn't open a file
no_opening : (setup : Settings) (journal : List Event) (e : Event) → IsNext setup journal e → has_event journal e.session exports ≡ false → opens_file e ≡ false
no_opening setup journal e next none = go (opens_file e) refl where
  go : (b : Bool) → opens_file e ≡ b → opens_file e ≡ false
  go false is = is
  go true is = absurd (false≢true (sym none ∙ in_user journal e.session (opened_in_user setup journal e next is)))

nobody_named : (user : Option LoggedIn) → is_some user ≡ false → (handle : ℕ) → names_in user handle ≡ None
nobody_named None h handle = refl
nobody_named (Some user) h handle = absurd cc

or_none : (b : Bool) → (b || false) ≡ b
or_none true = refl
or_none false = refl

-- its own event, but a permitted EXPORT, leaves all but the names of its files
pub knows_own : (setup : Settings) (journal : List Event) (e : Event) (session : ℕ) (user new : Option LoggedIn) → Knows setup journal session user → IsNext setup journal e → e.session ≡ session → exports e ≡ false → NotesFiles e user new → Knows setup (journal ++ e ∷ []) session new
knows_own setup journal e session user new known next own unexported notes = record {
  exported = has_event-own journal e session exports own ∙ ap (λ b. has_event journal session exports || b) unexported ∙ or_none (has_event journal session exports) ∙ known.exported ∙ sym notes.some;
  account = λ some.
      let was : is_some user ≡ true = sym notes.some ∙ some in
      let had : has_event journal e.session exports ≡ true = subst (λ s. has_event journal s exports ≡ true) (sym own) (known.exported ∙ was) in
      ap (account_named setup) (verified_user-own journal e session own ∙ ap (λ b. cond b (Rattle.policy_model.specs.Logins.challenged_user journal session) (verified_user journal session)) (no_accepting setup journal e next had))
      ∙ known.account was ∙ sym (notes.account setup);
  files = λ handle. files handle (is_some user) refl;
} where
  free : opens_file e ≡ true → handle_opening journal session (handle_of e) ≡ None
  free opened = subst (λ s. handle_opening journal s (handle_of e) ≡ None) own (gives_least setup journal e next opened).free

  files : (handle : ℕ) (b : Bool) → is_some user ≡ b → name_of_opening (handle_opening (journal ++ e ∷ []) session handle) ≡ names_in new handle
  files handle true some =
      names_after journal e session handle own free ∙ ap (λ o. name_after e o handle) (known.files handle) ∙ sym (notes.names some handle)
  files handle false some =
      let none : has_event journal e.session exports ≡ false = subst (λ s. has_event journal s exports ≡ false) (sym own) (known.exported ∙ some) in
      let unopened = no_opening setup journal e next none in
      names_after journal e session handle own free ∙ ap (λ o. name_after e o handle) (known.files handle ∙ nobody_named user some handle)
      ∙ ap (λ b. cond (b && eqb (handle_of e) handle) (label_named e.ask) (cond (closes_file handle e) None None)) unopened ∙ neither (closes_file handle e) ∙ sym (nobody_named new (notes.some ∙ some) handle) where
        neither : (b : Bool) → ◌≡◌ {A = Option Rattle.request_catalogue.specs.declared.texts.Label.Label} (cond b None None) None
        neither true = refl
        neither false = refl

-- IMPORT and INFO are permitted to a session that exported alone
pub import_after : (setup : Settings) (journal : List Event) (e : Event) → IsNext setup journal e → came_by_frame e.ask ≡ true → is_permit e.decision ≡ true → kind_of e.ask ≡ Some kinds.Import → has_event journal e.session exports ≡ true
import_after setup journal e next request permit kind = go (phase_of journal e.session) refl ((permitted_live setup journal e next request permit).cell kinds.Import kind) where
  go : (p : Phase) → phase_of journal e.session ≡ p → (table_row p kinds.Import).permitted ≡ true → has_event journal e.session exports ≡ true
  go phases.User is h = in_user journal e.session is
  go phases.Pre is h = absurd cc
  go phases.Challenged is h = absurd cc
  go phases.Verified is h = absurd cc
  go phases.Over is h = absurd cc

pub info_after : (setup : Settings) (journal : List Event) (e : Event) → IsNext setup journal e → came_by_frame e.ask ≡ true → is_permit e.decision ≡ true → kind_of e.ask ≡ Some kinds.Info → has_event journal e.session exports ≡ true
info_after setup journal e next request permit kind = go (phase_of journal e.session) refl ((permitted_live setup journal e next request permit).cell kinds.Info kind) where
  go : (p : Phase) → phase_of journal e.session ≡ p → (table_row p kinds.Info).permitted ≡ true → has_event journal e.session exports ≡ true
  go phases.User is h = in_user journal e.session is
  go phases.Pre is h = absurd cc
  go phases.Challenged is h = absurd cc
  go phases.Verified is h = absurd cc
  go phases.Over is h = absurd cc

-- what an account has left is at most 9,999
all_found : {X : Type 0} (p q : X → Bool) (xs : List X) (x : X) → find p xs ≡ Some x → list_all q xs ≡ true → q x ≡ true
all_found p q [] x h all = absurd cc
all_found p q (y ∷ ys) x h all = go (p y) h (and_parts (q y) (list_all q ys) all) (all_found p q ys x) where
  go : (b : Bool) → cond b (Some y) (find p ys) ≡ Some x → (q y ≡ true) × (list_all q ys ≡ true) → (find p ys ≡ Some x → list_all q ys ≡ true → q x ≡ true) → q x ≡ true
  go true h both later = let same : y ≡ x = cc in subst (λ z. q z ≡ true) same both.0
  go false h both later = later h both.1

sequence_few : (setup : Settings) (journal : List Event) (account : Account) (user : Name) → IsInRange setup → account_of setup user ≡ Some account → current_sequence journal account ≤ 9999
sequence_few setup journal account user range found =
    let each : list_all is_account setup.accounts ≡ true = go range.accounts in
    let is : is_account account ≡ true = all_found (λ a. Rattle.policy_model.specs.Settings.same_name a.name user) is_account setup.accounts account found each in
    let few : nat_le account.sequence 9999 ≡ true = middle (is_number 1 4294967294 account.uid) (nat_le account.sequence 9999) _ is in
    let le : account.sequence ≤ 9999 = grind (arith, nat_tests, few) in
    omega (arith, le) where
      go : are_accounts setup.accounts ≡ true → list_all is_account setup.accounts ≡ true
      go h =
          let all = list_all is_account setup.accounts in
          let few = nat_le (length setup.accounts) 1024 in
          let a = and_parts (few && all && _) _ h in
          let b = and_parts (few && all) _ a.0 in
          (and_parts few all b.0).1

      middle : (a b c : Bool) → (a && b && c) ≡ true → b ≡ true
      middle a b c h = (and_parts a b (and_parts (a && b) c h).0).1

info_few : (setup : Settings) (journal : List Event) (o : Option Name) → IsInRange setup → sequence_of journal (account_named setup o) ≤ 9999
info_few setup journal None range = omega arith
info_few setup journal (Some user) range = go (account_of setup user) refl where
  go : (o : Option Account) → account_of setup user ≡ o → sequence_of journal o ≤ 9999
  go None is = omega arith
  go (Some account) is = sequence_few setup journal account user range is

info_value : (setup : Settings) (journal : List Event) (e : Event) (number : ℕ) → IsInRange setup → IsNext setup journal e → e.ask ≡ asks.Info number → is_permit e.decision ≡ true → value_of e.decision ≤ 9999
unfolding kind_verdict info_verdict
info_value setup journal e number range next ask permit =
    let judged = request_permit setup journal e next (ap came_by_frame ask) permit in
    let v = value_of e.decision in
    let s = e.session in
    let a = permit_from (eqb s 0 || Rattle.policy_model.specs.Phases.is_over journal s) 6 11 v _ (ap (Rattle.policy_model.specs.Verdict.request_verdict setup journal s) (sym ask) ∙ judged) in
    let b = permit_from (eqb (Rattle.policy_model.specs.Journal.ask_count journal s) setup.requests) 1 setup.requests v _ a.1 in
    let r = row_permit setup journal s kinds.Info (asks.Info number) (table_row (phase_of journal s) kinds.Info) v b.1 in
    let is : Permit (sequence_of journal (account_named setup (verified_user journal s))) ≡ Permit v = allowed (Rattle.std.specs.List.list_any (Rattle.std.specs.Prelude.nat_eq number) setup.info) r.1 in
    let same : sequence_of journal (account_named setup (verified_user journal s)) ≡ v = cc in
    let few = info_few setup journal (verified_user journal s) range in
    omega (arith, same, few) where
      allowed : (b : Bool) → cond b (Permit (sequence_of journal (account_named setup (verified_user journal e.session)))) (Deny 22 number) ≡ Permit (value_of e.decision) → Permit (sequence_of journal (account_named setup (verified_user journal e.session))) ≡ Permit (value_of e.decision)
      allowed true h = h
      allowed false h = absurd cc

-- the values that are told are small
pub small_value : (setup : Settings) (journal : List Event) (e : Event) → IsInRange setup → IsNext setup journal e → IsSmall e.ask e.decision
small_value setup journal e range next = go e.ask e.decision refl refl where
  go : (ask : Ask) (d : Decision) → e.ask ≡ ask → e.decision ≡ d → IsSmall ask d
  go ask (Deny rule detail) a h = tt
  go ask Lost a h = tt
  go (asks.OpenFile mode name) (Permit value) a h =
      let opened : opens_file e ≡ true = rw (a, h) refl in
      let within : is_number 1 8 (handle_of e) ≡ true = (gives_least setup journal e next opened).within in
      let is : handle_of e ≡ value = ap value_of h in
      let both = and_parts (nat_le 1 (handle_of e)) (nat_le (handle_of e) 8) within in
      let low : 1 ≤ handle_of e = grind (arith, nat_tests, both.0) in
      let high : handle_of e ≤ 8 = grind (arith, nat_tests, both.1) in
      (omega (arith, is, low), omega (arith, is, high))
  go (asks.Info number) (Permit value) a h =
      let few = info_value setup journal e number range next a (ap is_permit h) in
      let is : value_of e.decision ≡ value = ap value_of h in
      omega (arith, is, few)
  go asks.Begin (Permit value) a h = tt
  go asks.Banner (Permit value) a h = tt
  go (asks.Challenge user now) (Permit value) a h = tt
  go (asks.Reply words hex) (Permit value) a h = tt
  go asks.Abandon (Permit value) a h = tt
  go (asks.Export len) (Permit value) a h = tt
  go asks.Import (Permit value) a h = tt
  go (asks.ReadAt handle offset max) (Permit value) a h = tt
  go (asks.WriteAt handle offset len) (Permit value) a h = tt
  go (asks.CloseFile handle) (Permit value) a h = tt
  go (asks.Note text) (Permit value) a h = tt
  go asks.Finish (Permit value) a h = tt
  go (asks.Bad rule detail) (Permit value) a h = tt
  go (asks.End why) (Permit value) a h = tt
