-- What is decided of a session's earlier tries, and what they make of it.
use Rattle.std.proofs.Common.{◌≡◌, ℕ, ◌+◌, ◌-◌, ◌<◌, ◌≤◌, Bool, true, false, not, cond, eqb, nat_le, nat_lt, List, []}
use Rattle.std.proofs.Common.{◌∷◌, ◌++◌, length, Option, Some, None, refl, sym, ap, subst, ◌∙◌, arith, inl, inr, ◌⊎◌, filter}
use Rattle.std.specs.List.{find, last_or, list_any}
use Rattle.std.specs.Option.{option_map_or}
use Rattle.std.proofs.lemmas.Bool.Decides.{nat_tests}
use Rattle.request_catalogue.specs.declared.kind.Kind.TheVariants as kinds
use Rattle.request_catalogue.specs.declared.texts.Name.{Name}
use Rattle.policy_model.specs.declared.account.Account.{Account}
use Rattle.policy_model.specs.declared.event.Ask.{Ask}
use Rattle.policy_model.specs.declared.event.Ask.TheVariants as asks
use Rattle.policy_model.specs.declared.event.Decision.{Decision}
use Rattle.policy_model.specs.declared.event.Decision.TheVariants.{Permit, Deny, Lost}
use Rattle.policy_model.specs.declared.event.Event.{Event}
use Rattle.policy_model.specs.declared.phase.Phase.TheVariants.{Pre, Challenged}
use Rattle.policy_model.specs.declared.reading.TheConstants.{DECOYS_FROM}
use Rattle.policy_model.specs.Asks.{came_by_frame, is_denied_reply, is_login_denial}
use Rattle.policy_model.specs.Asks.{kind_of, permits_kind, reserves}
use Rattle.policy_model.specs.Decoys.{decoy_number}
use Rattle.policy_model.specs.Journal.{count_of, has_event, openings_of}
use Rattle.policy_model.specs.Legal.{IsLegal}
use Rattle.policy_model.specs.Logins.{account_of, challenged_user, current_sequence, holder_of, is_live, last_taking_of}
use Rattle.policy_model.specs.Logins.{session_taking, was_accepted, was_decoyed}
use Rattle.policy_model.specs.Phases.{table_row}
use Rattle.policy_model.specs.Runs.{AreNumbered}
use Rattle.policy_model.specs.Settings.{Settings}
use Rattle.policy_model.specs.Verdict.{account_verdict, challenge_verdict, decoy_challenge, decoy_verdict, is_held}
use Rattle.policy_model.specs.Verdict.{is_next_password, kind_verdict, passwords_verdict, readings, reply_verdict}
use Rattle.policy_model.specs.Verdict.{user_verdict}
use Rattle.session_laws.specs.Judged.{cell_decision, is_over_phase}
use Rattle.session_laws.proofs.Judging.{free_is}
use Rattle.session_laws.proofs.Openings.{legal_numbered, openings_few}
use Rattle.login_laws.proofs.Judged.{decided}
use Rattle.login_laws.proofs.Stages.{event_as, spelled}
use Rattle.login_laws.proofs.Walk.{At, Comes, State, after, goes_on}

-- ---- what is decided

either : (P : Decision → Type 0) (b : Bool) (x y : Decision) → P x → P y → P (cond b x y)
either P true x y p q = p
either P false x y p q = q

-- a CHALLENGE is permitted, with a number below the decoys' only for a user who has an account, or another session
-- holds the user
abbrev pub IsJudgedChallenge : Settings → List Event → Name → Decision → Type 0
IsJudgedChallenge setup before user (Permit value) =
    nat_lt value DECOYS_FROM ≡ true → (account : Account) × (account_of setup user ≡ Some account)
IsJudgedChallenge setup before user (Deny rule detail) =
    (rule ≡ 12) × (detail ≡ session_taking (last_taking_of before user))
IsJudgedChallenge setup before user Lost = ⊥

pub challenge_judged : (setup : Settings) (journal : List Event) (worker session : ℕ) (s : State) (before : List Event)
    (e : Event) (user : Name) (now : ℕ) → At setup worker session s before → Comes setup journal before e
    → e.worker ≡ worker → s.phase ≡ Pre → s.asked < setup.requests → s.tried < setup.tries
    → e.ask ≡ asks.Challenge user now → IsJudgedChallenge setup before user e.decision
unfolding kind_verdict challenge_verdict
challenge_judged setup journal worker session s before e user now at comes own pre few tries is =
    subst (IsJudgedChallenge setup before user) (sym verdict) (by_account (account_of setup user) refl) where
      had : Bool
      had = has_event before session (permits_kind kinds.Challenge)

      below : (a b : ℕ) → a < b → nat_le b a ≡ false
      below a b lt = grind (arith, nat_tests, lt)

      untired : nat_le setup.tries (count_of before session is_denied_reply) ≡ false
      untired = ap (nat_le setup.tries) at.tries ∙ below s.tried setup.tries tries

      verdict : e.decision ≡ account_verdict setup before session user now (account_of setup user)
      verdict =
          decided setup journal worker session s before e kinds.Challenge had at comes own (ap came_by_frame is)
          (ap is_over_phase pre) few (ap kind_of is) refl
          ∙ ap (λ p. cell_decision (table_row p kinds.Challenge) had e.ask (kind_verdict setup before session e.ask))
          pre
          ∙ ap (kind_verdict setup before session) is
          ∙ ap (λ b. cond b (Deny 8 setup.tries) (account_verdict setup before session user now
          (account_of setup user))) untired

      decoy : (n : ℕ) → nat_lt (DECOYS_FROM + n) DECOYS_FROM ≡ true → ⊥
      decoy n low = let lt : DECOYS_FROM + n < DECOYS_FROM = grind (arith, nat_tests, low) in omega (arith, lt)

      by_account : (o : Option Account) → account_of setup user ≡ o
          → IsJudgedChallenge setup before user (account_verdict setup before session user now o)
      by_account None found = λ low. absurd (decoy (decoy_number setup user) low)
      by_account (Some account) found =
          either (IsJudgedChallenge setup before user) (not (is_live before account)) (decoy_challenge setup user)
          (cond (is_held setup before session user now) (Deny 12 (session_taking (last_taking_of before user)))
          (Permit (current_sequence before account - 1))) (λ low. (account, found))
          (either (IsJudgedChallenge setup before user) (is_held setup before session user now)
          (Deny 12 (session_taking (last_taking_of before user))) (Permit (current_sequence before account - 1))
          (refl, refl) (λ low. (account, found)))

-- a REPLY of a challenged session is permitted, or denied for what it said
abbrev pub IsJudgedReply : Decision → Type 0
IsJudgedReply (Permit value) = Unit {0}
IsJudgedReply (Deny rule detail) = is_login_denial (Deny rule detail) ≡ true
IsJudgedReply Lost = ⊥

pub reply_judged : (setup : Settings) (journal : List Event) (worker session : ℕ) (s : State) (before : List Event)
    (e : Event) (words hex : Option ℕ) → At setup worker session s before → Comes setup journal before e
    → e.worker ≡ worker → s.phase ≡ Challenged → s.asked < setup.requests → e.ask ≡ asks.Reply words hex
    → IsJudgedReply e.decision
unfolding kind_verdict reply_verdict
reply_judged setup journal worker session s before e words hex at comes own phase few is =
    subst IsJudgedReply (sym verdict)
    (either IsJudgedReply (was_decoyed before session) (decoy_verdict passwords)
    (option_map_or (user_verdict setup before session passwords) (challenged_user before session) (Deny 13 0))
    (either IsJudgedReply (eqb (length passwords) 0) (Deny 14 0) (Deny 16 0) refl refl)
    (by_user (challenged_user before session))) where
      had : Bool
      had = has_event before session (permits_kind kinds.Reply)

      passwords : List ℕ
      passwords = readings words hex

      verdict : e.decision ≡ reply_verdict setup before session words hex
      verdict =
          decided setup journal worker session s before e kinds.Reply had at comes own (ap came_by_frame is)
          (ap is_over_phase phase) few (ap kind_of is) refl
          ∙ ap (λ q. cell_decision (table_row q kinds.Reply) had e.ask (kind_verdict setup before session e.ask)) phase
          ∙ ap (kind_verdict setup before session) is

      by_found : (account : Account) (o : Option ℕ)
          → IsJudgedReply (option_map_or Permit o (cond (list_any (was_accepted before account) passwords) (Deny 15 0)
          (Deny 16 0)))
      by_found account (Some password) = tt
      by_found account None =
          either IsJudgedReply (list_any (was_accepted before account) passwords) (Deny 15 0) (Deny 16 0) refl refl

      by_account : (o : Option Account)
          → IsJudgedReply (option_map_or (passwords_verdict before passwords) o (Deny 16 0))
      by_account None = refl
      by_account (Some account) = by_found account (find (is_next_password before account) passwords)

      by_user : (o : Option Name)
          → IsJudgedReply (option_map_or (user_verdict setup before session passwords) o (Deny 13 0))
      by_user None = refl
      by_user (Some user) =
          either IsJudgedReply (not (option_map_or (λ holder. eqb holder session) (holder_of before user) false))
          (Deny 13 (session_taking (last_taking_of before user)))
          (cond (eqb (length passwords) 0) (Deny 14 0)
          (option_map_or (passwords_verdict before passwords) (account_of setup user) (Deny 16 0))) refl
          (either IsJudgedReply (eqb (length passwords) 0) (Deny 14 0)
          (option_map_or (passwords_verdict before passwords) (account_of setup user) (Deny 16 0)) refl
          (by_account (account_of setup user)))

-- an ABANDON of a challenged session is permitted
pub abandon_permitted : (setup : Settings) (journal : List Event) (worker session : ℕ) (s : State)
    (before : List Event) (e : Event) → At setup worker session s before → Comes setup journal before e
    → e.worker ≡ worker → s.phase ≡ Challenged → s.asked < setup.requests → e.ask ≡ asks.Abandon
    → e.decision ≡ Permit 0
abandon_permitted setup journal worker session s before e at comes own phase few is =
    let had = has_event before session (permits_kind kinds.Abandon) in
    decided setup journal worker session s before e kinds.Abandon had at comes own (ap came_by_frame is)
    (ap is_over_phase phase) few (ap kind_of is) refl
    ∙ ap (λ p. cell_decision (table_row p kinds.Abandon) had e.ask (kind_verdict setup before session e.ask)) phase
    ∙ ap (kind_verdict setup before session) is ∙ sym (free_is setup before session asks.Abandon refl)

-- ---- what becomes of the session

-- after a request with this ask and this decision
pub request_on : (setup : Settings) (journal : List Event) (worker session : ℕ) (s next : State) (before : List Event)
    (e : Event) (ask : Ask) (d : Decision) → At setup worker session s before → Comes setup journal before e
    → e.worker ≡ worker → e.ask ≡ ask → e.decision ≡ d → came_by_frame ask ≡ true → after s (event_as e ask d) ≡ next
    → At setup worker session next (before ++ e ∷ [])
request_on setup journal worker session s next before e ask d at comes own is decided request same =
    subst (λ (x : State). At setup worker session x (before ++ e ∷ [])) (ap (after s) (spelled e ask d is decided)
    ∙ same) (goes_on setup journal worker session s before e at comes own (ap came_by_frame is ∙ request))

-- ---- a session's number is small

-- an event stands in a list, and passes
pub record StandsIn (p : Event → Bool) (journal : List Event) (t : Event) : Type 0 where
  pub before : List Event
  pub rest : List Event
  pub parts : journal ≡ before ++ t ∷ rest
  pub passes : p t ≡ true

last_stands : (p : Event → Bool) (o : Option Event) (journal : List Event) (t : Event)
    → last_or o (filter p journal) ≡ Some t → (o ≡ Some t) ⊎ StandsIn p journal t
last_stands p o [] t h = inl h
last_stands p o (e ∷ es) t h =
    by_test (p e) refl (λ g. last_stands p (Some e) es t g) (λ g. last_stands p o es t g) h where
      further : StandsIn p es t → StandsIn p (e ∷ es) t
      further s = record {
        before = e ∷ s.before;
        rest = s.rest;
        parts = ap (λ xs. e ∷ xs) s.parts;
        passes = s.passes;
      }

      here : p e ≡ true → Some e ≡ Some t → StandsIn p (e ∷ es) t
      here is same =
          let it : e ≡ t = cc in record {
            before = [];
            rest = es;
            parts = ap (λ (x : Event). x ∷ es) it;
            passes = subst (λ (x : Event). p x ≡ true) it is;
          }

      by_test : (b : Bool) → p e ≡ b
          → (last_or (Some e) (filter p es) ≡ Some t → (Some e ≡ Some t) ⊎ StandsIn p es t)
          → (last_or o (filter p es) ≡ Some t → (o ≡ Some t) ⊎ StandsIn p es t)
          → last_or o (cond b (e ∷ filter p es) (filter p es)) ≡ Some t → (o ≡ Some t) ⊎ StandsIn p (e ∷ es) t
      by_test true is taken left h' = elim (taken h') [
        | inl same ↦ inr (here is same)
        | inr s ↦ inr (further s)
      ]
      by_test false is taken left h' = elim (left h') [
        | inl same ↦ inl same
        | inr s ↦ inr (further s)
      ]

numbered_at : (before rest : List Event) (e : Event) (last : ℕ) → AreNumbered (before ++ e ∷ rest) last
    → e.session ≤ last
numbered_at [] rest e last all = all.0
numbered_at (x ∷ before) rest e last all = numbered_at before rest e last all.1

-- the session that took a user last is one of those that were opened
pub taking_few : (setup : Settings) (journal : List Event) (user : Name) → IsLegal setup journal
    → session_taking (last_taking_of journal user) ≤ length journal
unfolding last_taking_of
taking_few setup journal user legal = by_last (last_or None (filter (reserves user) journal)) refl where
  by_last : (o : Option Event) → last_or None (filter (reserves user) journal) ≡ o
      → session_taking o ≤ length journal
  by_last None is = omega arith
  by_last (Some e) is = elim (last_stands (reserves user) None journal e is) [
    | inl same ↦ absurd cc
    | inr s ↦
        let all = subst (λ j. AreNumbered j (openings_of journal)) s.parts (legal_numbered setup journal legal) in
        omega (arith, numbered_at s.before s.rest e (openings_of journal) all, openings_few journal)
  ]
