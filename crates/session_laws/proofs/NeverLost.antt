-- The policy decides every ask, also one that names a rule out of its range.
use Rattle.std.proofs.Common.{◌≡◌, ℕ, Bool, true, false, ◌||◌, cond, eqb, List, refl}
use Rattle.policy_model.specs.declared.event.Ask.{Ask}
use Rattle.policy_model.specs.declared.event.Ask.TheVariants as asks
use Rattle.policy_model.specs.declared.event.Decision.{Decision}
use Rattle.policy_model.specs.declared.event.Decision.TheVariants.{Permit, Deny}
use Rattle.policy_model.specs.declared.event.Event.{Event}
use Rattle.policy_model.specs.Asks.{is_lost}
use Rattle.policy_model.specs.Journal.{ask_count, open_session_of}
use Rattle.policy_model.specs.Phases.{is_over}
use Rattle.policy_model.specs.Settings.{Settings}
use Rattle.policy_model.specs.Verdict.{verdict_of}
use Rattle.policy_model.proofs.Verdicts.{is_lost-verdict, verdict_of-is}

cond_kept : (b : Bool) (x y : Decision) → is_lost x ≡ false → is_lost y ≡ false → is_lost (cond b x y) ≡ false
cond_kept true x y p q = p
cond_kept false x y p q = q

pub never_lost : (setup : Settings) (journal : List Event) (worker : ℕ) (ask : Ask) → is_lost (verdict_of setup journal worker ask) ≡ false
unfolding verdict_of
never_lost setup journal worker (asks.End why) = cond_kept (eqb (open_session_of journal worker) 0) (Deny 6 0) (Permit 0) refl refl
never_lost setup journal worker (asks.Bad rule detail) =
    let session : ℕ = open_session_of journal worker in
    cond_kept (eqb session 0 || is_over journal session) (Deny 6 0) (cond (eqb (ask_count journal session) setup.requests) (Deny 1 setup.requests) (Deny rule detail)) refl
    (cond_kept (eqb (ask_count journal session) setup.requests) (Deny 1 setup.requests) (Deny rule detail) refl refl)
never_lost setup journal worker ask = is_lost-verdict (verdict_of setup journal worker ask) (verdict_of-is setup journal worker ask refl)
