use Rattle.std.proofs.Common.{ap, subst, ◌≡◌, ◌≤◌, ℕ, length, sym, ◌∙◌, refl, rules}
use Rattle.std.specs.Prelude.{is_some}
use Rattle.imsg_frame.specs.Message.{composed_of, message_of, spelling_of}
use Rattle.outside.proofs.Counts.{NoneFell-then}
use Rattle.request_catalogue.specs.Replies.{answer_of, reply_kind_of, reply_of}
use Rattle.session_asking.specs.Made.{exported_bytes}
use Rattle.session_asking.specs.Known.{Knows, account_in, file_in}
use Rattle.session_asking.specs.Serving.{whose}
use Rattle.session_asking.specs.Work.{Does, done_operations, told, told_of}
use Rattle.session_asking.proofs.Answering.{IsAsked, IsDone, known_before, own_session}
use Rattle.session_asking.proofs.Knowing.{small_value}
use Rattle.session_asking.proofs.Served.{handed_with, handed_state, has_exported, is_asked, leaves_after, served_lost, served_part, served_whole, still_open, turn_proper, turn_stays, turn_unfaulted, unlogged}
use Rattle.request_catalogue.specs.Widths.{frame_max}
use Rattle.session_asking.proofs.Links.{unasked_none}
use Rattle.session_asking.proofs.Done.{has_room, made_short}
use Rattle.session_asking.proofs.serving.serve_message.Goals as goal

pub returns-then-is_lost-clause-answered : goal.returns-then-is_lost-clause-answered
returns-then-is_lost-clause-answered g c =
    let service = g.T.Texts.service c.args.replies.now.texts.now in
    let seat = g.A.Turns.at c.args.turns.now in
    let rights = seat.rights in
    let w = whose service (exported_bytes c.args.replies.now.exported) c.args.live.now.session rights.worker in
    let old = seat.seen in
    let new = (g.A.Turns.at c.ask-event.new.self).seen in
    let s = g.P.Post.scene c.args.post.now in
    let t = g.P.Post.scene c.ask_of-ask.new.post in
    let e = c.ask-event.result in
    let ask = c.ask_of-ask in
    let read = c.read_request-request in
    let k = g.L.LiveChild.link c.args.live.now.child in
    let user = c.args.live.now.user in
    let message = message_of c.args.message.now in
    let may = c.requires.right.serves in
    let is : IsAsked w message read.result ask.result user old new e s t = is_asked w message read.result ask.result user old new e s t seat.setup c.parts.result.now rights.left may.one (c.parts.ensures.value ∙ c.setup.ensures.value) c.ask-event.ensures.joins may.served ask.ensures.request c.requires.right.right read.ensures.exact ask.ensures.asks ask.ensures.clock in
    record {
      serves = served_lost w message read.result ask.result user old new e s t is k (sym c.is_lost.ensures ∙ c.if-is_lost.true);
      leaves = still_open service.setup w.session ask.result user rights (g.A.Turns.at c.ask-event.new.self).rights old new e is.joins may.served ask.ensures.request c.ask-event.ensures.rights;
      rights = c.ask-event.ensures.rights;
      unasked = unasked_none k;
      replied = record { handed = λ event same. absurd cc; kept = λ ne. refl };
      ends = record { proper = refl; fault = λ same. absurd cc; calm = λ ne. refl; once = λ event same. absurd cc };
      stays = record {
        setup = c.ask-event.ensures.turns.1;
        service = refl;
        session = refl;
        role = refl;
        user = refl;
        link = search rules;
        kept = ask.ensures.kept;
      };
    }

pub returns-then-is_export-clause-answered : goal.returns-then-is_export-clause-answered
returns-then-is_export-clause-answered g c =
    let service = g.T.Texts.service c.args.replies.now.texts.now in
    let seat = g.A.Turns.at c.args.turns.now in
    let rights = seat.rights in
    let w = whose service (exported_bytes c.args.replies.now.exported) c.args.live.now.session rights.worker in
    let old = seat.seen in
    let new = (g.A.Turns.at c.ask-event.new.self).seen in
    let s = g.P.Post.scene c.args.post.now in
    let t = g.P.Post.scene c.ask_of-ask.new.post in
    let e = c.ask-event.result in
    let ask = c.ask_of-ask in
    let read = c.read_request-request in
    let k = g.L.LiveChild.link c.args.live.now.child in
    let user = c.args.live.now.user in
    let message = message_of c.args.message.now in
    let may = c.requires.right.serves in
    let is : IsAsked w message read.result ask.result user old new e s t = is_asked w message read.result ask.result user old new e s t seat.setup c.parts.result.now rights.left may.one (c.parts.ensures.value ∙ c.setup.ensures.value) c.ask-event.ensures.joins may.served ask.ensures.request c.requires.right.right read.ensures.exact ask.ensures.asks ask.ensures.clock in
    let exported = sym c.is_export.ensures ∙ c.if-is_export.true in
    let body = c.keep.ensures ∙ c.state_of.ensures.state ∙ handed_state c.parts.result.now.frames message read.result service.words ask.result e read.ensures.found ask.ensures.asks is.joins.asks exported in
    record {
      serves = has_exported w message read.result ask.result user old new e s t is k exported;
      leaves = handed_with service.setup w.session ask.result user rights (g.A.Turns.at c.ask-event.new.self).rights old new e is.joins may.served (own_session w message read.result ask.result user old new e s t is) ask.ensures.request ask.ensures.proper c.ask-event.ensures.rights exported;
      rights = c.ask-event.ensures.rights;
      unasked = unasked_none k;
      replied = record { handed = λ event same. body; kept = λ ne. absurd (ne e refl) };
      ends = record {
        proper = tt;
        fault = λ same. absurd cc;
        calm = λ ne. refl;
        once = λ event same. ap is_some (unlogged w message read.result ask.result user old new e s t is exported);
      };
      stays = record {
        setup = c.ask-event.ensures.turns.1;
        service = refl;
        session = refl;
        role = refl;
        user = refl;
        link = search rules;
        kept = ask.ensures.kept;
      };
    }

pub tell-outcome-requires-clause-small : goal.tell-outcome-requires-clause-small
tell-outcome-requires-clause-small g c =
    let service = g.T.Texts.service c.args.replies.now.texts.now in
    let seat = g.A.Turns.at c.args.turns.now in
    let rights = seat.rights in
    let w = whose service (exported_bytes c.args.replies.now.exported) c.args.live.now.session rights.worker in
    let old = seat.seen in
    let new = (g.A.Turns.at c.ask-event.new.self).seen in
    let s = g.P.Post.scene c.args.post.now in
    let t = g.P.Post.scene c.ask_of-ask.new.post in
    let e = c.ask-event.result in
    let ask = c.ask_of-ask in
    let read = c.read_request-request in
    let k = g.L.LiveChild.link c.args.live.now.child in
    let user = c.args.live.now.user in
    let message = message_of c.args.message.now in
    let may = c.requires.right.serves in
    let is : IsAsked w message read.result ask.result user old new e s t = is_asked w message read.result ask.result user old new e s t seat.setup c.parts.result.now rights.left may.one (c.parts.ensures.value ∙ c.setup.ensures.value) c.ask-event.ensures.joins may.served ask.ensures.request c.requires.right.right read.ensures.exact ask.ensures.asks ask.ensures.clock in
    small_value service.setup is.joins.before e c.setup.ensures.in_range is.joins.next

pub reply-len-requires : goal.reply-len-requires
reply-len-requires g c =
    let width = c.args.replies.now.frames.width in
    c.answer_of-answer.ensures.sendable width (has_room width (Rattle.std.proofs.Common.length c.tell-outcome.new.piece) (c.tell-outcome.ensures.piece.1 ∙ c.perform-outcome.ensures.len ∙ c.as_mut_slice-piece.ensures.len ∙ c.args.replies.now.piece_len))

pub noted-live-requires : goal.noted-live-requires
noted-live-requires g c =
    let service = g.T.Texts.service c.args.replies.now.texts.now in
    let seat = g.A.Turns.at c.args.turns.now in
    let rights = seat.rights in
    let w = whose service (exported_bytes c.args.replies.now.exported) c.args.live.now.session rights.worker in
    let old = seat.seen in
    let new = (g.A.Turns.at c.ask-event.new.self).seen in
    let s = g.P.Post.scene c.args.post.now in
    let t = g.P.Post.scene c.ask_of-ask.new.post in
    let e = c.ask-event.result in
    let ask = c.ask_of-ask in
    let read = c.read_request-request in
    let k = g.L.LiveChild.link c.args.live.now.child in
    let user = c.args.live.now.user in
    let message = message_of c.args.message.now in
    let may = c.requires.right.serves in
    let is : IsAsked w message read.result ask.result user old new e s t = is_asked w message read.result ask.result user old new e s t seat.setup c.parts.result.now rights.left may.one (c.parts.ensures.value ∙ c.setup.ensures.value) c.ask-event.ensures.joins may.served ask.ensures.request c.requires.right.right read.ensures.exact ask.ensures.asks ask.ensures.clock in
    record { small = small_value service.setup is.joins.before e c.setup.ensures.in_range is.joins.next }

pub returns-in-Ok-clause-answered : goal.returns-in-Ok-clause-answered
returns-in-Ok-clause-answered g c =
    let service = g.T.Texts.service c.args.replies.now.texts.now in
    let seat = g.A.Turns.at c.args.turns.now in
    let rights = seat.rights in
    let w = whose service (exported_bytes c.args.replies.now.exported) c.args.live.now.session rights.worker in
    let old = seat.seen in
    let new = (g.A.Turns.at c.ask-event.new.self).seen in
    let s = g.P.Post.scene c.args.post.now in
    let t = g.P.Post.scene c.ask_of-ask.new.post in
    let e = c.ask-event.result in
    let ask = c.ask_of-ask in
    let read = c.read_request-request in
    let k = g.L.LiveChild.link c.args.live.now.child in
    let user = c.args.live.now.user in
    let message = message_of c.args.message.now in
    let may = c.requires.right.serves in
    let is : IsAsked w message read.result ask.result user old new e s t = is_asked w message read.result ask.result user old new e s t seat.setup c.parts.result.now rights.left may.one (c.parts.ensures.value ∙ c.setup.ensures.value) c.ask-event.ensures.joins may.served ask.ensures.request c.requires.right.right read.ensures.exact ask.ensures.asks ask.ensures.clock in
    let piece = c.perform-outcome.new.piece in
    let last = told c.tell-outcome.result c.tell-outcome.new.piece in
    let answer = answer_of c.answer_of-answer.result in
    let reply = c.made.result.now in
    let u = g.P.Post.scene c.perform-outcome.new.post in
    let l = g.L.LiveChild.link c.send.new.self in
    let unhanded = sym c.is_export.ensures ∙ c.if-is_export.false in
    let done : IsDone w message read.result user e c.perform-outcome.result piece last answer reply t u = record {
      does = subst (λ operations. Does operations c.perform-outcome.result piece t u) (c.work_of-work.ensures.operations ∙ ap (done_operations e.ask e.decision (file_in service.setup user)) c.written.ensures) c.perform-outcome.ensures.done;
      unhanded = unhanded;
      tells = c.tell-outcome.ensures.told ∙ ap (λ state. told_of service state (account_in service.setup user) e.ask e.decision (told c.perform-outcome.result piece)) c.as_slice.ensures.bytes;
      gives = c.answer_of-answer.ensures.answer;
      framed = c.made.ensures ∙ c.reply-len.ensures.frame ∙ ap (λ width. spelling_of width (composed_of (reply_kind_of message.header.kind message.header.flags) message.header.peerid w.session (reply_of answer))) c.args.replies.now.fits;
    } in
    let own = own_session w message read.result ask.result user old new e s t is in
    let known : Knows service.setup is.joins.before w.session user = subst (λ n. Knows service.setup is.joins.before n user) own (known_before w message read.result ask.result user old new e s t is) in
    let follows = c.turn_of.ensures in
    let width_is : frame_max c.reply-len.new.self.width ≡ frame_max service.setup.frames = ap frame_max (c.reply-len.ensures.width ∙ c.args.replies.now.fits) in
    let short : length reply ≤ frame_max service.setup.frames = made_short c.reply-len.new.self.frame.items c.reply-len.result (frame_max service.setup.frames) reply c.made.ensures (subst (λ (n : ℕ). c.reply-len.result ≤ n) (c.reply-len.new.self.frame_len ∙ width_is) c.reply-len.ensures.within) in
    record {
      serves = served_whole w message read.result ask.result user old new e s t is c.perform-outcome.result piece last answer reply u k l c.turn_of.result done c.in-Ok.ensures.ok short follows;
      leaves = leaves_after service.setup w.session ask.result user c.noted-live.result rights (g.A.Turns.at c.ask-event.new.self).rights old new e c.turn_of.result is.joins may.served known own ask.ensures.request ask.ensures.proper c.ask-event.ensures.rights unhanded c.noted-live.ensures follows;
      rights = c.ask-event.ensures.rights;
      unasked = c.send.ensures.unasked;
      replied = record { handed = λ event same. turn_stays e event c.turn_of.result follows same; kept = λ ne. refl };
      ends = record {
        proper = turn_proper e c.turn_of.result follows;
        fault = λ same. absurd (turn_unfaulted e c.turn_of.result follows same);
        calm = λ ne. c.in-Ok.ensures.counts;
        once = λ event same. turn_stays e event c.turn_of.result follows same;
      };
      stays = record {
        setup = c.ask-event.ensures.turns.1;
        service = refl;
        session = refl;
        role = c.send.ensures.role;
        user = c.noted-live.ensures.some;
        link = c.send.ensures.kept;
        kept = NoneFell-then (g.P.Post.faults c.args.post.now) (g.P.Post.faults c.ask_of-ask.new.post) (g.P.Post.faults c.perform-outcome.new.post) ask.ensures.kept c.perform-outcome.ensures.kept;
      };
    }

pub returns-in-Err-clause-answered : goal.returns-in-Err-clause-answered
returns-in-Err-clause-answered g c =
    let service = g.T.Texts.service c.args.replies.now.texts.now in
    let seat = g.A.Turns.at c.args.turns.now in
    let rights = seat.rights in
    let w = whose service (exported_bytes c.args.replies.now.exported) c.args.live.now.session rights.worker in
    let old = seat.seen in
    let new = (g.A.Turns.at c.ask-event.new.self).seen in
    let s = g.P.Post.scene c.args.post.now in
    let t = g.P.Post.scene c.ask_of-ask.new.post in
    let e = c.ask-event.result in
    let ask = c.ask_of-ask in
    let read = c.read_request-request in
    let k = g.L.LiveChild.link c.args.live.now.child in
    let user = c.args.live.now.user in
    let message = message_of c.args.message.now in
    let may = c.requires.right.serves in
    let is : IsAsked w message read.result ask.result user old new e s t = is_asked w message read.result ask.result user old new e s t seat.setup c.parts.result.now rights.left may.one (c.parts.ensures.value ∙ c.setup.ensures.value) c.ask-event.ensures.joins may.served ask.ensures.request c.requires.right.right read.ensures.exact ask.ensures.asks ask.ensures.clock in
    let piece = c.perform-outcome.new.piece in
    let last = told c.tell-outcome.result c.tell-outcome.new.piece in
    let answer = answer_of c.answer_of-answer.result in
    let reply = c.made.result.now in
    let u = g.P.Post.scene c.perform-outcome.new.post in
    let l = g.L.LiveChild.link c.send.new.self in
    let unhanded = sym c.is_export.ensures ∙ c.if-is_export.false in
    let done : IsDone w message read.result user e c.perform-outcome.result piece last answer reply t u = record {
      does = subst (λ operations. Does operations c.perform-outcome.result piece t u) (c.work_of-work.ensures.operations ∙ ap (done_operations e.ask e.decision (file_in service.setup user)) c.written.ensures) c.perform-outcome.ensures.done;
      unhanded = unhanded;
      tells = c.tell-outcome.ensures.told ∙ ap (λ state. told_of service state (account_in service.setup user) e.ask e.decision (told c.perform-outcome.result piece)) c.as_slice.ensures.bytes;
      gives = c.answer_of-answer.ensures.answer;
      framed = c.made.ensures ∙ c.reply-len.ensures.frame ∙ ap (λ width. spelling_of width (composed_of (reply_kind_of message.header.kind message.header.flags) message.header.peerid w.session (reply_of answer))) c.args.replies.now.fits;
    } in
    record {
      serves = served_part w message read.result ask.result user old new e s t is c.perform-outcome.result piece last answer reply u k l c.in-Err.ensures.part.0 done c.in-Err.ensures.part.1;
      leaves = still_open service.setup w.session ask.result user rights (g.A.Turns.at c.ask-event.new.self).rights old new e is.joins may.served ask.ensures.request c.ask-event.ensures.rights;
      rights = c.ask-event.ensures.rights;
      unasked = c.send.ensures.unasked;
      replied = record { handed = λ event same. absurd cc; kept = λ ne. refl };
      ends = record { proper = refl; fault = λ same. search rules; calm = λ ne. absurd (ne refl); once = λ event same. absurd cc };
      stays = record {
        setup = c.ask-event.ensures.turns.1;
        service = refl;
        session = refl;
        role = c.send.ensures.role;
        user = c.noted-live.ensures.some;
        link = c.send.ensures.kept;
        kept = NoneFell-then (g.P.Post.faults c.args.post.now) (g.P.Post.faults c.ask_of-ask.new.post) (g.P.Post.faults c.perform-outcome.new.post) ask.ensures.kept c.perform-outcome.ensures.kept;
      };
    }
