use Rattle.std.proofs.Common.{◌+◌, ◌<◌, [], ◌∷◌, ◌++◌, ◌∙◌, arith, length, length-append, ap, cond, get_or, slice_get, subst, sym}
use Rattle.std.specs.Option.{option_to_list}
use Rattle.policy_model.specs.Asks.{opens}
use Rattle.policy_model.specs.Settings.{Settings}
use Rattle.policy_model.proofs.Sessions.{openings_of-push}
use Rattle.audit_check.specs.Following.{IsRecent}
use Rattle.audit_check.specs.History.{hold_after, reply_at}
use Rattle.audit_check.proofs.Fronts.{legal_push}
use Rattle.audit_check.proofs.KeptLemmas.{hold_more, replies_more}
use Rattle.audit_check.proofs.OwnEvents.{recent_more}
use Rattle.audit_check.specs.Seats.{IsSeat}
use Rattle.audit_check.proofs.SeatLemmas.{seat_more}
use Rattle.audit_check.proofs.history.History.push.Goals as goal

pub returns : goal.returns
returns c = λ events kept.
    let next = c.requires.next events kept in
    record {
      in_range = kept.in_range;
      legal = legal_push c.args.setup.now events c.args.event kept.legal next;
      counted = ap (λ n. n + 1) kept.counted ∙ sym (length-append events (c.args.event ∷ []));
      followed = c.in_ok-follow.ensures.same ∙ kept.followed;
      recents = λ n d lt.
          let same = c.in_ok-follow.ensures.same in
          let below : n < length c.args.self.now.recent.items = omega (arith, lt, same) in
          subst (λ own. IsRecent own n (events ++ c.args.event ∷ [])) (sym (c.in_ok-follow.ensures.each n d below))
          (recent_more c.args.setup.now events c.args.event n (get_or c.args.self.now.recent.items n d).items kept.legal next (kept.recents n d below));
      seated = c.seat.ensures.same ∙ kept.seated;
      seats = λ n d lt.
          let same = c.seat.ensures.same in
          let below : n < length c.args.self.now.seats.items = omega (arith, lt, same) in
          subst (λ s. IsSeat s n (events ++ c.args.event ∷ [])) (sym (c.seat.ensures.each n d below))
          (seat_more c.args.setup.now events c.args.event n (get_or c.args.self.now.seats.items n d) kept.legal next (kept.seats n d below));
      opened =
          c.opened_after-self.ensures
          ∙ ap (λ n. n + cond (opens c.args.event) 1 0) kept.opened
          ∙ sym (openings_of-push events c.args.event);
      held = c.settle.ensures.same ∙ kept.held;
      holds = λ n account d stands.
          c.settle.ensures.each n account d (ap (λ l. slice_get l n) (c.as_slice.ensures ∙ ap (λ (s : Settings). s.accounts) c.parts.ensures.value) ∙ stands)
          ∙ ap (hold_after account.name c.args.event) (kept.holds n account d stands)
          ∙ sym (hold_more c.args.setup.now events c.args.event account.name kept.legal next);
      replied = c.in_ok-accept.ensures.same ∙ kept.replied;
      replies = λ n account d stands.
          replies_more c.args.setup.now events c.args.event c.account_of_reply-account.result n account (get_or c.args.self.now.replies.items n d).items (get_or c.accept.new.replies.items n d).items (c.account_of_reply-account.ensures.each events kept next) stands (kept.replies n account d stands)
          (c.in_ok-accept.ensures.each n d ∙ ap (λ p. (get_or c.args.self.now.replies.items n d).items ++ option_to_list (reply_at c.account_of_reply-account.result p n)) c.value.ensures);
    }
