-- Lists of which the same is shown: the policy says the same over them.
use Rattle.std.proofs.Common.{◌≡◌, ℕ, not, ◌&&◌, ◌||◌, eqb, List, [], ◌∷◌, map, Option, Some, None, refl, sym, ap, ◌∙◌}
use Rattle.request_catalogue.specs.declared.texts.Name.{Name}
use Rattle.policy_model.specs.declared.account.Account.{Account}
use Rattle.policy_model.specs.declared.event.Ask.{Ask}
use Rattle.policy_model.specs.declared.event.Decision.{Decision}
use Rattle.policy_model.specs.declared.event.Decision.TheVariants.{Permit, Deny, Lost}
use Rattle.policy_model.specs.declared.event.Event.{Event}
use Rattle.policy_model.specs.Journal.{ask_count, open_session_of}
use Rattle.policy_model.specs.Legal.{session_of}
use Rattle.policy_model.specs.Logins.{challenged_user, current_password, replies_of, was_decoyed}
use Rattle.policy_model.specs.Phases.{phase_of}
use Rattle.policy_model.specs.Settings.{Settings}
use Rattle.policy_model.specs.Verdict.{verdict_of}
use Rattle.policy_model.specs.Cases.{account_named, is_holder}
use Rattle.audit_check.specs.Legal.{holds_user, is_challenged_phase, is_password_of, may_be_decided, readings_decide}
use Rattle.audit_check.proofs.Shown.{asked_same, challenged_same, decoyed_same, holder_same, open_same, phase_same, plain, replies_same}
use Rattle.audit_check.proofs.ShownVerdicts.{next_same, password_same, session_of_same, verdict_same}

-- the same is shown of two lists
abbrev pub Alike : List Event → List Event → Type 0
Alike xs ys = map plain xs ≡ map plain ys

-- what is the same over what is shown is the same over such lists
over : {A : Type 0} (f : List Event → A) → ((xs : List Event) → f (map plain xs) ≡ f xs) → (xs ys : List Event) → Alike xs ys → f xs ≡ f ys
over f same xs ys h = sym (same xs) ∙ ap f h ∙ same ys

pub alike_verdict : (setup : Settings) (xs ys : List Event) → Alike xs ys → (worker : ℕ) (ask : Ask) → verdict_of setup xs worker ask ≡ verdict_of setup ys worker ask
alike_verdict setup xs ys h worker ask = over (λ l. verdict_of setup l worker ask) (λ l. verdict_same setup l worker ask) xs ys h

pub alike_session : (xs ys : List Event) → Alike xs ys → (worker : ℕ) (ask : Ask) (decision : Decision) → session_of xs worker ask decision ≡ session_of ys worker ask decision
alike_session xs ys h worker ask decision = over (λ l. session_of l worker ask decision) (λ l. session_of_same l worker ask decision) xs ys h

pub alike_open : (xs ys : List Event) → Alike xs ys → (worker : ℕ) → open_session_of xs worker ≡ open_session_of ys worker
alike_open xs ys h worker = over (λ l. open_session_of l worker) (λ l. open_same l worker) xs ys h

pub alike_challenged : (xs ys : List Event) → Alike xs ys → (session : ℕ) → challenged_user xs session ≡ challenged_user ys session
alike_challenged xs ys h session = over (λ l. challenged_user l session) (λ l. challenged_same l session) xs ys h

pub alike_replies : (xs ys : List Event) → Alike xs ys → (user : Name) → replies_of xs user ≡ replies_of ys user
alike_replies xs ys h user = over (λ l. replies_of l user) (λ l. replies_same l user) xs ys h

pub alike_password : (xs ys : List Event) → Alike xs ys → (account : Account) → current_password xs account ≡ current_password ys account
alike_password xs ys h account = over (λ l. current_password l account) (λ l. password_same l account) xs ys h

holds_same : (xs : List Event) (session : ℕ) (user : Option Name) → holds_user (map plain xs) session user ≡ holds_user xs session user
holds_same xs session None = refl
holds_same xs session (Some user) = ap (is_holder session) (holder_same xs user)

decide_same : (setup : Settings) (session : ℕ) (xs : List Event) → readings_decide setup (map plain xs) session ≡ readings_decide setup xs session
decide_same setup session xs =
    ap (λ p. not (eqb session 0) && is_challenged_phase p && not (eqb (ask_count (map plain xs) session) setup.requests) && (was_decoyed (map plain xs) session || holds_user (map plain xs) session (challenged_user (map plain xs) session))) (phase_same xs session)
    ∙ ap (λ n. not (eqb session 0) && is_challenged_phase (phase_of xs session) && not (eqb n setup.requests) && (was_decoyed (map plain xs) session || holds_user (map plain xs) session (challenged_user (map plain xs) session))) (asked_same xs session)
    ∙ ap (λ b. not (eqb session 0) && is_challenged_phase (phase_of xs session) && not (eqb (ask_count xs session) setup.requests) && (b || holds_user (map plain xs) session (challenged_user (map plain xs) session))) (decoyed_same xs session)
    ∙ ap (λ u. not (eqb session 0) && is_challenged_phase (phase_of xs session) && not (eqb (ask_count xs session) setup.requests) && (was_decoyed xs session || holds_user (map plain xs) session u)) (challenged_same xs session)
    ∙ ap (λ b. not (eqb session 0) && is_challenged_phase (phase_of xs session) && not (eqb (ask_count xs session) setup.requests) && (was_decoyed xs session || b)) (holds_same xs session (challenged_user xs session))

pub alike_decide : (setup : Settings) (xs ys : List Event) → Alike xs ys → (session : ℕ) → readings_decide setup xs session ≡ readings_decide setup ys session
alike_decide setup xs ys h session = over (λ l. readings_decide setup l session) (λ l. decide_same setup session l) xs ys h

password_of_same : (xs : List Event) (account : Option Account) (password : ℕ) → is_password_of (map plain xs) account password ≡ is_password_of xs account password
password_of_same xs None password = refl
password_of_same xs (Some account) password = next_same xs account password

may_same : (setup : Settings) (session : ℕ) (d : Decision) (xs : List Event) → may_be_decided setup (map plain xs) session d ≡ may_be_decided setup xs session d
may_same setup session (Permit password) xs =
    ap (λ b. not b && is_password_of (map plain xs) (account_named setup (challenged_user (map plain xs) session)) password) (decoyed_same xs session)
    ∙ ap (λ u. not (was_decoyed xs session) && is_password_of (map plain xs) (account_named setup u) password) (challenged_same xs session)
    ∙ ap (λ b. not (was_decoyed xs session) && b) (password_of_same xs (account_named setup (challenged_user xs session)) password)
may_same setup session (Deny rule detail) xs = ap (λ b. eqb detail 0 && (eqb rule 14 || eqb rule 16 || eqb rule 15 && not b)) (decoyed_same xs session)
may_same setup session Lost xs = refl

pub alike_may : (setup : Settings) (xs ys : List Event) → Alike xs ys → (session : ℕ) (d : Decision) → may_be_decided setup xs session d ≡ may_be_decided setup ys session d
alike_may setup xs ys h session d = over (λ l. may_be_decided setup l session d) (may_same setup session d) xs ys h

-- lists made by what leaves the same to show
pub alike_map : (f : Event → Event) → ((e : Event) → plain (f e) ≡ plain e) → (xs : List Event) → Alike (map f xs) xs
alike_map f same [] = refl
alike_map f same (x ∷ xs) = ap (λ y. y ∷ map plain (map f xs)) (same x) ∙ ap (λ ys. plain x ∷ ys) (alike_map f same xs)
