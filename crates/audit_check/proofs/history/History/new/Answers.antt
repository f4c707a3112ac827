use Rattle.std.proofs.Common.{[], ◌≡◌, ◌∙◌, refl, List, ap, arith, get_or, length, map, subst, sym}
use Rattle.std.proofs.lemmas.List.{length-map}
use Rattle.std.proofs.lemmas.Option.{slice_get_within}
use Rattle.policy_model.specs.Settings.{Settings}
use Rattle.policy_model.proofs.LoginLemmas.{replies_of-none}
use Rattle.audit_check.specs.declared.history.Hold.{Hold}
use Rattle.audit_check.specs.Following.{IsRecent}
use Rattle.audit_check.specs.History.{first_hold}
use Rattle.audit_check.proofs.Fronts.{legal_none}
use Rattle.audit_check.proofs.KeptLemmas.{first_told}
use Rattle.audit_check.proofs.OwnEvents.{recent_none}
use Rattle.audit_check.specs.Seats.{IsSeat}
use Rattle.audit_check.proofs.SeatLemmas.{seat_none}
use Rattle.audit_check.proofs.history.History.new.Goals as goal

pub returns : goal.returns
returns c =
    let accounts : c.as_slice-accounts.result.now ≡ c.args.setup.now.accounts = c.as_slice-accounts.ensures ∙ ap (λ (s : Settings). s.accounts) c.parts.ensures.value in
    let holds : c.in_ok-first_holds.field-0.items ≡ map first_hold c.args.setup.now.accounts = c.in_ok-first_holds.ensures ∙ ap (map first_hold) accounts in
    let replied : length c.in_ok-no_replies.field-0.items ≡ length c.args.setup.now.accounts = c.in_ok-no_replies.ensures.same ∙ ap length accounts in
    record {
      in_range = c.parts.ensures.in_range;
      legal = legal_none c.args.setup.now;
      counted = refl;
      followed = c.in_ok-no_events.ensures.same ∙ c.workers.ensures.value;
      recents = λ n d lt. subst (λ own. IsRecent own n []) (sym (c.in_ok-no_events.ensures.none n d lt)) (recent_none n);
      seated = c.in_ok-no_sessions.ensures.same ∙ c.workers-2.ensures.value;
      seats = λ n d lt. subst (λ s. IsSeat s n []) (sym (c.in_ok-no_sessions.ensures.none n d lt)) (seat_none n);
      opened = refl;
      held = ap length holds ∙ length-map c.args.setup.now.accounts first_hold;
      holds = λ n account d stands. ap (λ (l : List Hold). get_or l n d) holds ∙ first_told c.args.setup.now.accounts n account d stands;
      replied = replied;
      replies = λ n account d stands.
          c.in_ok-no_replies.ensures.none n d (let lt = slice_get_within c.args.setup.now.accounts n account stands in omega (arith, lt, replied))
          ∙ sym (replies_of-none account.name);
    }
