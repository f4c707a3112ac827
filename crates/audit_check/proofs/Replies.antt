-- What the policy says of a reply, by its readings and without them.
use Rattle.std.proofs.Common.{◌≡◌, ℕ, Bool, true, false, not, ◌&&◌, ◌||◌, cond, eqb, leb, arith, List, [], ◌∷◌, length, Option, Some, None, refl, sym, ap, ◌∙◌}
use Rattle.std.specs.List.{find, list_any}
use Rattle.std.proofs.lemmas.Bool.Decides.{nat_tests}
use Rattle.request_catalogue.specs.declared.texts.Name.{Name}
use Rattle.request_catalogue.specs.declared.kind.Kind.TheVariants as kinds
use Rattle.policy_model.specs.declared.account.Account.{Account}
use Rattle.policy_model.specs.declared.event.Ask.TheVariants as asks
use Rattle.policy_model.specs.declared.event.Decision.{Decision}
use Rattle.policy_model.specs.declared.event.Decision.TheVariants.{Permit, Deny, Lost}
use Rattle.policy_model.specs.declared.event.Event.{Event}
use Rattle.policy_model.specs.declared.phase.Phase.{Phase}
use Rattle.policy_model.specs.declared.phase.Phase.TheVariants.{Pre, Challenged, Verified, User, Over}
use Rattle.policy_model.specs.Asks.{is_permit, permits_kind}
use Rattle.policy_model.specs.Journal.{ask_count, has_event, open_session_of}
use Rattle.policy_model.specs.Logins.{account_of, challenged_user, holder_of, last_taking_of, session_taking, was_accepted, was_decoyed}
use Rattle.policy_model.specs.Phases.{is_over, phase_of, table_row}
use Rattle.policy_model.specs.Settings.{Settings}
use Rattle.policy_model.specs.Verdict.{decoy_verdict, is_next_password, kind_verdict, readings, reply_verdict, verdict_of}
use Rattle.policy_model.specs.Cases.{account_named, is_holder, login_verdict, matching_verdict, readings_verdict}
use Rattle.audit_check.specs.Following.{is_no_reading}
use Rattle.audit_check.specs.Legal.{holds_user, is_challenged_phase, is_password_of, may_be_decided, readings_decide}

-- what is decided where the readings decide
abbrev pub by_readings : Bool → List Event → Option Account → List ℕ → Decision
by_readings decoyed before account passwords = cond decoyed (decoy_verdict passwords) (cond (eqb (length passwords) 0) (Deny 14 0) (readings_verdict before passwords account))

-- a denial by no rule of the readings
pub record OtherDenial (decision : Decision) : Type 0 where
  pub rule : ℕ
  pub detail : ℕ
  pub is : decision ≡ Deny rule detail
  pub other : (leb 14 rule && leb rule 16) ≡ false

denied : (rule detail : ℕ) → (leb 14 rule && leb rule 16) ≡ false → OtherDenial (Deny rule detail)
denied rule detail other = record { rule = rule; detail = detail; is = refl; other = other }

-- a verdict is that of the readings, or the same as without any and no lack of one
pub record ReplyIs (free : Bool) (verdict silent decided : Decision) : Type 0 where
  pub opened : free ≡ true → verdict ≡ decided
  pub closed : free ≡ false → (verdict ≡ silent) × OtherDenial silent

-- of the session's user
user_is : (setup : Settings) (before : List Event) (session : ℕ) (passwords : List ℕ) (decoyed : Bool) (user : Option Name) → ReplyIs (decoyed || holds_user before session user) (cond decoyed (decoy_verdict passwords) (login_verdict setup before session passwords user)) (cond decoyed (decoy_verdict []) (login_verdict setup before session [] user)) (by_readings decoyed before (account_named setup user) passwords)
user_is setup before session passwords true user = record { opened = λ h. refl; closed = λ h. absurd cc }
user_is setup before session passwords false None = record { opened = λ h. absurd cc; closed = λ h. (refl, denied 13 0 refl) }
user_is setup before session passwords false (Some user) = go (is_holder session (holder_of before user)) where
  go : (holder : Bool) → ReplyIs holder (cond (not holder) (Deny 13 (session_taking (last_taking_of before user))) (cond (eqb (length passwords) 0) (Deny 14 0) (readings_verdict before passwords (account_of setup user)))) (cond (not holder) (Deny 13 (session_taking (last_taking_of before user))) (Deny 14 0)) (cond (eqb (length passwords) 0) (Deny 14 0) (readings_verdict before passwords (account_of setup user)))
  go true = record { opened = λ h. refl; closed = λ h. absurd cc }
  go false = record { opened = λ h. absurd cc; closed = λ h. (refl, denied 13 (session_taking (last_taking_of before user)) refl) }

-- a phase that is over
over_phase : (before : List Event) (session : ℕ) → is_over before session ≡ true → phase_of before session ≡ Over
unfolding phase_of
over_phase before session h = rw h refl

-- of the session, by its phase
abbrev in_session : Bool → Bool → Bool → ℕ → Bool → Phase → Decision → Decision
in_session zero over spent requests had phase decision =
    cond (zero || over) (Deny 6 3) (cond spent (Deny 1 requests) (cond (not (table_row phase kinds.Reply).permitted) (Deny 6 3) (cond ((table_row phase kinds.Reply).once && had) (Deny 7 3) decision)))

abbrev opens_by : Bool → Phase → Bool → Bool → Bool
opens_by zero phase spent inner = not zero && is_challenged_phase phase && not spent && inner

session_is : (zero over spent had inner : Bool) (requests : ℕ) (phase : Phase) (verdict silent decided : Decision) → (over ≡ true → phase ≡ Over) → ReplyIs inner verdict silent decided → ReplyIs (opens_by zero phase spent inner) (in_session zero over spent requests had phase verdict) (in_session zero over spent requests had phase silent) decided
session_is true over spent had inner requests phase verdict silent decided tied is = record { opened = λ h. absurd cc; closed = λ h. (refl, denied 6 3 refl) }
session_is false true spent had inner requests phase verdict silent decided tied is = record { opened = λ h. absurd (let e : is_challenged_phase phase ≡ false = ap is_challenged_phase (tied refl) in no (is_challenged_phase phase) e h); closed = λ h. (refl, denied 6 3 refl) } where
  no : (b : Bool) → b ≡ false → (b && not spent && inner) ≡ true → ⊥
  no true e h = absurd cc
  no false e h = absurd cc
session_is false false true had inner requests Challenged verdict silent decided tied is = record { opened = λ h. absurd cc; closed = λ h. (refl, denied 1 requests refl) }
session_is false false true had inner requests Pre verdict silent decided tied is = record { opened = λ h. absurd cc; closed = λ h. (refl, denied 1 requests refl) }
session_is false false true had inner requests Verified verdict silent decided tied is = record { opened = λ h. absurd cc; closed = λ h. (refl, denied 1 requests refl) }
session_is false false true had inner requests User verdict silent decided tied is = record { opened = λ h. absurd cc; closed = λ h. (refl, denied 1 requests refl) }
session_is false false true had inner requests Over verdict silent decided tied is = record { opened = λ h. absurd cc; closed = λ h. (refl, denied 1 requests refl) }
session_is false false false had inner requests Challenged verdict silent decided tied is = is
session_is false false false had inner requests Pre verdict silent decided tied is = record { opened = λ h. absurd cc; closed = λ h. (refl, denied 6 3 refl) }
session_is false false false had inner requests Verified verdict silent decided tied is = record { opened = λ h. absurd cc; closed = λ h. (refl, denied 6 3 refl) }
session_is false false false had inner requests User verdict silent decided tied is = record { opened = λ h. absurd cc; closed = λ h. (refl, denied 6 3 refl) }
session_is false false false had inner requests Over verdict silent decided tied is = record { opened = λ h. absurd cc; closed = λ h. (refl, denied 6 3 refl) }

abbrev pub of_session : Settings → List Event → ℕ → List ℕ → Decision
of_session setup before session passwords = by_readings (was_decoyed before session) before (account_named setup (challenged_user before session)) passwords

-- a reply's verdict is that of its readings where they decide, and else that of a reply without any
pub reply_is : (setup : Settings) (before : List Event) (worker : ℕ) (words hex : Option ℕ) → ReplyIs (readings_decide setup before (open_session_of before worker)) (verdict_of setup before worker (asks.Reply words hex)) (verdict_of setup before worker (asks.Reply None None)) (of_session setup before (open_session_of before worker) (readings words hex))
unfolding verdict_of kind_verdict reply_verdict
reply_is setup before worker words hex =
    let session : ℕ = open_session_of before worker in
    session_is (eqb session 0) (is_over before session) (eqb (ask_count before session) setup.requests) (has_event before session (permits_kind kinds.Reply))
    (was_decoyed before session || holds_user before session (challenged_user before session)) setup.requests (phase_of before session)
    (reply_verdict setup before session words hex) (reply_verdict setup before session None None) (of_session setup before session (readings words hex))
    (over_phase before session) (user_is setup before session (readings words hex) (was_decoyed before session) (challenged_user before session))

other_rule : (rule : ℕ) → (leb 14 rule && leb rule 16) ≡ false → eqb rule 14 ≡ false
other_rule rule h = grind (arith, nat_tests)

-- the readings decide just where a reply without any is denied for the lack of one
pub open_is : (setup : Settings) (before : List Event) (worker : ℕ) → is_no_reading (verdict_of setup before worker (asks.Reply None None)) ≡ readings_decide setup before (open_session_of before worker)
open_is setup before worker = go (readings_decide setup before (open_session_of before worker)) refl where
  silent : (decoyed : Bool) (account : Option Account) → is_no_reading (by_readings decoyed before account []) ≡ true
  silent true account = refl
  silent false account = refl

  go : (b : Bool) → readings_decide setup before (open_session_of before worker) ≡ b → is_no_reading (verdict_of setup before worker (asks.Reply None None)) ≡ b
  go true h = ap is_no_reading ((reply_is setup before worker None None).opened h) ∙ silent (was_decoyed before (open_session_of before worker)) (account_named setup (challenged_user before (open_session_of before worker)))
  go false h = none ((reply_is setup before worker None None).closed h).1 where
    none : OtherDenial (verdict_of setup before worker (asks.Reply None None)) → is_no_reading (verdict_of setup before worker (asks.Reply None None)) ≡ false
    none d = ap is_no_reading d.is ∙ other_rule d.rule d.other

-- a reply with one reading is permitted where it is the next password of the user
permit_by : (before : List Event) (decoyed : Bool) (account : Option Account) (password : ℕ) → is_permit (by_readings decoyed before account (password ∷ [])) ≡ (not decoyed && is_password_of before account password)
permit_by before true account password = refl
permit_by before false None password = refl
permit_by before false (Some account) password = go (is_next_password before account password) where
  refused : (b : Bool) → is_permit (cond b (Deny 15 0) (Deny 16 0)) ≡ false
  refused true = refl
  refused false = refl

  go : (b : Bool) → is_permit (matching_verdict before account (password ∷ []) (cond b (Some password) None)) ≡ b
  go true = refl
  go false = refused (list_any (was_accepted before account) (password ∷ []))

pub permit_is : (setup : Settings) (before : List Event) (worker password : ℕ) → readings_decide setup before (open_session_of before worker) ≡ true → is_permit (verdict_of setup before worker (asks.Reply (Some password) None)) ≡ may_be_decided setup before (open_session_of before worker) (Permit password)
permit_is setup before worker password h =
    ap is_permit ((reply_is setup before worker (Some password) None).opened h)
    ∙ permit_by before (was_decoyed before (open_session_of before worker)) (account_named setup (challenged_user before (open_session_of before worker))) password

-- the next password of the user is what is permitted
permitted : (before : List Event) (decoyed : Bool) (account : Option Account) (password : ℕ) → (not decoyed && is_password_of before account password) ≡ true → by_readings decoyed before account (password ∷ []) ≡ Permit password
permitted before true account password h = absurd cc
permitted before false None password h = absurd cc
permitted before false (Some account) password h = ap (λ b. matching_verdict before account (password ∷ []) (cond b (Some password) None)) h

pub permit_given : (setup : Settings) (before : List Event) (worker password : ℕ) → readings_decide setup before (open_session_of before worker) ≡ true → may_be_decided setup before (open_session_of before worker) (Permit password) ≡ true → verdict_of setup before worker (asks.Reply (Some password) None) ≡ Permit password
permit_given setup before worker password h may =
    (reply_is setup before worker (Some password) None).opened h
    ∙ permitted before (was_decoyed before (open_session_of before worker)) (account_named setup (challenged_user before (open_session_of before worker))) password may

-- without a reading it is rule 14
pub silent_given : (setup : Settings) (before : List Event) (worker : ℕ) → readings_decide setup before (open_session_of before worker) ≡ true → verdict_of setup before worker (asks.Reply None None) ≡ Deny 14 0
silent_given setup before worker h = (reply_is setup before worker None None).opened h ∙ silent (was_decoyed before (open_session_of before worker)) where
  silent : (decoyed : Bool) → by_readings decoyed before (account_named setup (challenged_user before (open_session_of before worker))) [] ≡ Deny 14 0
  silent true = refl
  silent false = refl

-- what is decided by readings may be decided
abbrev may_by : Bool → List Event → Option Account → Decision → Bool
may_by decoyed before account (Permit password) = not decoyed && is_password_of before account password
may_by decoyed before account (Deny rule detail) = eqb detail 0 && (eqb rule 14 || eqb rule 16 || eqb rule 15 && not decoyed)
may_by decoyed before account Lost = false

found_passes : (p : ℕ → Bool) (xs : List ℕ) (x : ℕ) → find p xs ≡ Some x → p x ≡ true
found_passes p [] x h = absurd cc
found_passes p (y ∷ ys) x h = go (p y) refl h (found_passes p ys x) where
  go : (b : Bool) → p y ≡ b → cond b (Some y) (find p ys) ≡ Some x → (find p ys ≡ Some x → p x ≡ true) → p x ≡ true
  go true t e rest = let same : y ≡ x = cc in ap p (sym same) ∙ t
  go false t e rest = rest e

may_given : (before : List Event) (decoyed : Bool) (account : Option Account) (passwords : List ℕ) → may_by decoyed before account (by_readings decoyed before account passwords) ≡ true
may_given before true account passwords = go (eqb (length passwords) 0) where
  go : (b : Bool) → may_by true before account (cond b (Deny 14 0) (Deny 16 0)) ≡ true
  go true = refl
  go false = refl
may_given before false None passwords = go (eqb (length passwords) 0) where
  go : (b : Bool) → may_by false before None (cond b (Deny 14 0) (Deny 16 0)) ≡ true
  go true = refl
  go false = refl
may_given before false (Some account) passwords = go (eqb (length passwords) 0) where
  refused : (b : Bool) → may_by false before (Some account) (cond b (Deny 15 0) (Deny 16 0)) ≡ true
  refused true = refl
  refused false = refl

  matched : (o : Option ℕ) → find (is_next_password before account) passwords ≡ o → may_by false before (Some account) (matching_verdict before account passwords o) ≡ true
  matched (Some p) h = found_passes (is_next_password before account) passwords p h
  matched None h = refused (list_any (was_accepted before account) passwords)

  go : (b : Bool) → may_by false before (Some account) (cond b (Deny 14 0) (matching_verdict before account passwords (find (is_next_password before account) passwords))) ≡ true
  go true = refl
  go false = matched (find (is_next_password before account) passwords) refl

may_is : (setup : Settings) (before : List Event) (session : ℕ) (d : Decision) → may_be_decided setup before session d ≡ may_by (was_decoyed before session) before (account_named setup (challenged_user before session)) d
may_is setup before session (Permit password) = refl
may_is setup before session (Deny rule detail) = refl
may_is setup before session Lost = refl

pub given_may : (setup : Settings) (before : List Event) (worker : ℕ) (words hex : Option ℕ) → readings_decide setup before (open_session_of before worker) ≡ true → may_be_decided setup before (open_session_of before worker) (verdict_of setup before worker (asks.Reply words hex)) ≡ true
given_may setup before worker words hex h =
    let session : ℕ = open_session_of before worker in
    ap (may_be_decided setup before session) ((reply_is setup before worker words hex).opened h)
    ∙ may_is setup before session (of_session setup before session (readings words hex))
    ∙ may_given before (was_decoyed before session) (account_named setup (challenged_user before session)) (readings words hex)
