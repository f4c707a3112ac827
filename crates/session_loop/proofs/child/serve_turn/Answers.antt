use Rattle.std.proofs.Common.{◌∙◌, ◌++◌, length, ap, subst, sym, refl, arith}
use Rattle.std.proofs.lemmas.List.{length-append}
use Rattle.imsg_frame.specs.Cut.{IsPartialFront}
use Rattle.imsg_frame.specs.Held.{Held}
use Rattle.imsg_frame.specs.Message.{IsMessage, message_of, spelling_of}
use Rattle.outside.proofs.Counts.{NoneFell-none}
use Rattle.policy_model.specs.Journal.{ask_count}
use Rattle.request_catalogue.specs.Widths.{frame_max}
use Rattle.session_asking.specs.Serving.{desk_of, live_of, moment_of, stand, whose_of}
use Rattle.session_loop.specs.Child.{IsForSessions, IsStillReading, Receives}
use Rattle.session_loop.proofs.Parts.{Stays-none}
use Rattle.session_loop.proofs.Reading.{bad_front, frame_len, front_right, front_taken, message_advances, message_spends, nothing_taken, partial_front, received_advances, received_once, received_spends, still_open}
use Rattle.session_loop.proofs.Turning.{turn_bad, turn_message, turn_received}
use Rattle.session_loop.proofs.child.serve_turn.Goals as goal

pub in_front-message-requires-clause-low : goal.in_front-message-requires-clause-low
in_front-message-requires-clause-low g c = (frame_len c.next.result c.in-Frame.header _ c.in-Frame.is c.next.ensures.len).0

pub in_front-message-requires-clause-within : goal.in_front-message-requires-clause-within
in_front-message-requires-clause-within g c =
    let len = (frame_len c.next.result c.in-Frame.header _ c.in-Frame.is c.next.ensures.len).1 in
    omega (arith, len, ap length c.contiguous.ensures.value, length-append c.next.new.self.given c.next.new.self.bytes)

pub serve_message-requires-clause-right : goal.serve_message-requires-clause-right
serve_message-requires-clause-right g c κs within =
    let setup = (g.T.Texts.service c.args.desk.now.replies.texts.now).setup in
    let reader = c.args.desk.now.reader in
    let fits : IsForSessions setup.frames reader = record { right = c.args.desk.now.right; max = c.args.desk.now.max } in
    let new = c.next.new.self in
    let len = (frame_len c.next.result c.in-Frame.header _ c.in-Frame.is c.next.ensures.len).1 in
    let told = c.in_front-message.ensures new.given new.bytes c.contiguous.ensures.value len in
    record {
      serves = c.requires.served;
      right = subst (IsMessage setup.frames (frame_max setup.frames)) (sym told) (front_right setup.frames reader new.given c.next.result c.in-Frame.header c.in-Frame.is fits c.next.ensures.answer);
    }

pub returns-in-Frame-clause-done : goal.returns-in-Frame-clause-done
returns-in-Frame-clause-done g c =
    let before = (stand (g.A.Turns.at c.args.turns.now) (desk_of (g.T.Texts.service c.args.desk.now.replies.texts.now) c.args.desk.now.replies.exported) (live_of c.args.live.now.session c.args.live.now.user (g.L.LiveChild.role c.args.live.now.child) (g.L.LiveChild.link c.args.live.now.child) (g.L.LiveChild.faults c.args.live.now.child)) (g.P.Post.scene c.args.post.now) (g.P.Post.faults c.args.post.now)) in
    let served = c.serve_message in
    let after = (stand (g.A.Turns.at served.new.turns) (desk_of (g.T.Texts.service served.new.replies.texts.now) served.new.replies.exported) (live_of served.new.live.session served.new.live.user (g.L.LiveChild.role served.new.live.child) (g.L.LiveChild.link served.new.live.child) (g.L.LiveChild.faults served.new.live.child)) (g.P.Post.scene served.new.post) (g.P.Post.faults served.new.post)) in
    let answered = served.ensures.answered in
    let setup = before.desk.service.setup in
    let reader = c.args.desk.now.reader in
    let fits : IsForSessions setup.frames reader = record { right = c.args.desk.now.right; max = c.args.desk.now.max } in
    let new = c.next.new.self in
    let header = c.in-Frame.header in
    let len = (frame_len c.next.result header _ c.in-Frame.is c.next.ensures.len).1 in
    let told = c.in_front-message.ensures new.given new.bytes c.contiguous.ensures.value len in
    let lent = ap (λ (r : Held). r.bytes) c.contiguous.ensures.same in
    let taken = front_taken setup.frames reader new c.next.result header c.in-Frame.is fits c.next.ensures.after in
    let message = message_of c.in_front-message.result in
    let framed = taken ∙ ap (λ m. spelling_of setup.frames m ++ new.bytes) (sym told) ∙ ap (λ b. spelling_of setup.frames message ++ b) (sym lent) in
    record {
      taken = turn_message (whose_of before) message served.result after.desk.exported (moment_of before) (moment_of after) reader.bytes _ framed answered.replied answered.serves answered.unasked;
      leaves = record {
        spends = message_spends setup before.live.session served.result before.seat.rights after.seat.rights before.seat.seen after.seat.seen before.live.user after.live.user c.requires.served.served answered.leaves answered.rights;
        exported = answered.replied.kept;
        ends = answered.ends;
        stays = answered.stays;
      };
      advances = message_advances setup before.live.session served.result before.seat.rights after.seat.rights before.seat.seen after.seat.seen after.live.user (length reader.bytes) _ answered.leaves;
    }

pub receive-requires-clause-front : goal.receive-requires-clause-front
receive-requires-clause-front g c =
    let setup = (g.T.Texts.service c.args.desk.now.replies.texts.now).setup in
    let reader = c.args.desk.now.reader in
    let fits : IsForSessions setup.frames reader = record { right = c.args.desk.now.right; max = c.args.desk.now.max } in
    let same = nothing_taken reader c.next.new.self c.next.result c.in-NotYet.is c.next.ensures.after in
    partial_front setup.frames reader c.next.new.self c.next.new.self.given c.next.result c.in-NotYet.is same fits c.next.ensures.answer

pub returns-in-NotYet-clause-done : goal.returns-in-NotYet-clause-done
returns-in-NotYet-clause-done g c =
    let before = (stand (g.A.Turns.at c.args.turns.now) (desk_of (g.T.Texts.service c.args.desk.now.replies.texts.now) c.args.desk.now.replies.exported) (live_of c.args.live.now.session c.args.live.now.user (g.L.LiveChild.role c.args.live.now.child) (g.L.LiveChild.link c.args.live.now.child) (g.L.LiveChild.faults c.args.live.now.child)) (g.P.Post.scene c.args.post.now) (g.P.Post.faults c.args.post.now)) in
    let setup = before.desk.service.setup in
    let reader = c.args.desk.now.reader in
    let fits : IsForSessions setup.frames reader = record { right = c.args.desk.now.right; max = c.args.desk.now.max } in
    let received = c.receive in
    let is = received.ensures.received in
    let new = received.new.reader in
    let k = before.live.child.link in
    let l = g.L.LiveChild.link received.new.child in
    let same = nothing_taken reader c.next.new.self c.next.result c.in-NotYet.is c.next.ensures.after in
    let told = subst (λ r. Receives r.width received.result r.bytes new.bytes k l) same is.bytes in
    let front = partial_front setup.frames reader c.next.new.self c.next.new.self.given c.next.result c.in-NotYet.is same fits c.next.ensures.answer in
    let partial = subst (λ width. IsPartialFront width (frame_max width) reader.bytes) fits.right (subst (λ (r : Held). IsPartialFront r.width (frame_max r.width) r.bytes) same front) in
    record {
      taken = turn_received (whose_of before) received.result before.desk.exported before.seat.seen before.scene k l reader.bytes new.bytes partial is.asked
          (subst (λ width. Receives width received.result reader.bytes new.bytes k l) fits.right told);
      leaves = record {
        spends = received_spends c.next.new.self.width setup before.live.session received.result before.seat.rights before.seat.seen before.live.user c.next.new.self.bytes new.bytes k l is.bytes c.requires.served.served;
        exported = λ ne. refl;
        ends = record {
          proper = is.proper;
          fault = is.fault;
          calm = is.calm;
          once = λ e same. absurd (received_once c.next.new.self.width received.result e c.next.new.self.bytes new.bytes k l is.bytes same);
        };
        stays = record {
          setup = refl;
          service = refl;
          session = refl;
          role = received.ensures.child.0;
          user = refl;
          link = received.ensures.child.1;
          kept = NoneFell-none before.faults;
        };
      };
      advances = received_advances setup.requests (frame_max setup.frames) (ask_count before.seat.seen before.live.session) received.result (length reader.bytes) (length new.bytes) c.requires.served.served.serving.below
          (subst (λ n. IsStillReading received.result (length reader.bytes) (length new.bytes) n) fits.max (subst (λ r. IsStillReading received.result (length r.bytes) (length new.bytes) r.max) same is.reads));
    }

pub returns-in-Bad-clause-done : goal.returns-in-Bad-clause-done
returns-in-Bad-clause-done g c =
    let before = (stand (g.A.Turns.at c.args.turns.now) (desk_of (g.T.Texts.service c.args.desk.now.replies.texts.now) c.args.desk.now.replies.exported) (live_of c.args.live.now.session c.args.live.now.user (g.L.LiveChild.role c.args.live.now.child) (g.L.LiveChild.link c.args.live.now.child) (g.L.LiveChild.faults c.args.live.now.child)) (g.P.Post.scene c.args.post.now) (g.P.Post.faults c.args.post.now)) in
    let setup = before.desk.service.setup in
    let reader = c.args.desk.now.reader in
    let fits : IsForSessions setup.frames reader = record { right = c.args.desk.now.right; max = c.args.desk.now.max } in
    record {
      taken = turn_bad (whose_of before) c.in-Bad.len (moment_of before) reader.bytes
          (bad_front setup.frames reader c.next.new.self.given c.in-Bad.len c.next.result c.in-Bad.is fits c.next.ensures.answer);
      leaves = record {
        spends = still_open setup before.live.session before.seat.rights before.seat.seen before.live.user c.requires.served.served;
        exported = λ ne. refl;
        ends = record { proper = refl; fault = λ same. absurd cc; calm = λ ne. refl; once = λ e same. absurd cc };
        stays = Stays-none before;
      };
      advances = λ same. absurd cc;
    }
