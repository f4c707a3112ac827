use Rattle.std.proofs.Common.{◌≡◌, ℕ, ◌+◌, ◌<◌, ◌++◌, ◌∷◌, [], List, length, Bool, refl, sym, ap, subst, ◌∙◌, arith, take}
use Rattle.std.specs.Prelude.{is_err}
use Rattle.std.specs.Vec.{vec_capacity}
use Rattle.policy_model.specs.declared.event.Event.{Event}
use Rattle.policy_model.specs.Legal.{next_event}
use Rattle.policy_model.specs.Settings.{Settings, events_max}
use Rattle.decision_log.specs.Log.{line_of}
use Rattle.session_core.specs.Parts.{CoreParts, setup_of}
use Rattle.session_core.specs.Standing.{KeepsSetup}
use Rattle.monitor_book.specs.Entering.{Settles}
use Rattle.monitor_book.specs.Kept.{BookParts, book_parts}
use Rattle.monitor_book.specs.Lines.{held_by}
use Rattle.monitor_book.proofs.ApplyLemmas.{IsAsked, asked_by, asked_of, book_push, event_few, event_room, line_is, own_next, settle_room, typed_is, writes_line, writes_nothing}
use Rattle.monitor_book.proofs.LogLemmas.{WritesLine}
use Rattle.monitor_book.proofs.HistoryLemmas.{IsNextOf}
use Rattle.monitor_book.proofs.book.BookObject.apply.Goals as goal
use Rattle.monitor_book.proofs.book.BookObject.apply.Goals.{then-self, else-self}

pub next_event-next-requires-clause-few : goal.next_event-next-requires-clause-few
next_event-next-requires-clause-few g c =
    let s = c.self.inside in
    let book : BookParts = book_parts s.core s.journal.items s.lost (held_by g.K.Sink.held g.K.Sink.lengths s.opened.value) (held_by g.K.Sink.held g.K.Sink.lengths s.log) (g.K.Sink.faults s.opened.value) (g.K.Sink.faults s.log) in
    let asked : IsAsked s.core s.journal.items c.args.who = asked_of book c.args.self.now c.args.who c.self.view_is c.requires.who c.requires.quota in
    (settle_room book c.args.who Bool.true c.self.invariant.0 asked).few

pub overflow_cast-len : goal.overflow_cast-len
overflow_cast-len g c =
    let s = c.self.inside in
    let book : BookParts = book_parts s.core s.journal.items s.lost (held_by g.K.Sink.held g.K.Sink.lengths s.opened.value) (held_by g.K.Sink.held g.K.Sink.lengths s.log) (g.K.Sink.faults s.opened.value) (g.K.Sink.faults s.log) in
    let asked : IsAsked s.core s.journal.items c.args.who = asked_of book c.args.self.now c.args.who c.self.view_is c.requires.who c.requires.quota in
    omega (arith, event_few book c.args.who c.self.invariant.0 asked, c.len.ensures, s.journal.ok.0)

pub overflow_add-len : goal.overflow_add-len
overflow_add-len g c =
    let s = c.self.inside in
    let book : BookParts = book_parts s.core s.journal.items s.lost (held_by g.K.Sink.held g.K.Sink.lengths s.opened.value) (held_by g.K.Sink.held g.K.Sink.lengths s.log) (g.K.Sink.faults s.opened.value) (g.K.Sink.faults s.log) in
    let asked : IsAsked s.core s.journal.items c.args.who = asked_of book c.args.self.now c.args.who c.self.view_is c.requires.who c.requires.quota in
    omega (arith, event_few book c.args.who c.self.invariant.0 asked, c.len.ensures, s.journal.ok.0)

pub settled-event-requires-clause-worker : goal.settled-event-requires-clause-worker
settled-event-requires-clause-worker g c =
    let s = c.self.inside in
    let book : BookParts = book_parts s.core s.journal.items s.lost (held_by g.K.Sink.held g.K.Sink.lengths s.opened.value) (held_by g.K.Sink.held g.K.Sink.lengths s.log) (g.K.Sink.faults s.opened.value) (g.K.Sink.faults s.log) in
    let asked : IsAsked s.core s.journal.items c.args.who = asked_of book c.args.self.now c.args.who c.self.view_is c.requires.who c.requires.quota in
    let is : IsNextOf s.core c.args.who c.args.call c.next_event-next.result = λ journal st. c.next_event-next.ensures journal st in
    let core : c.if-self.self-inside.core ≡ s.core = elim c.if-self.branch [ then-self w ↦ rw w.self-inside-is refl | else-self w ↦ rw w.self-inside-is refl ] in
    rw core (subst (λ n. n < (setup_of s.core).workers) (sym (asked_by book c.args.who c.args.call c.next_event-next.result c.self.invariant.0 is).0) asked.who)

pub settled-event-requires-clause-next : goal.settled-event-requires-clause-next
settled-event-requires-clause-next g c =
    let s = c.self.inside in
    let book : BookParts = book_parts s.core s.journal.items s.lost (held_by g.K.Sink.held g.K.Sink.lengths s.opened.value) (held_by g.K.Sink.held g.K.Sink.lengths s.log) (g.K.Sink.faults s.opened.value) (g.K.Sink.faults s.log) in
    let asked : IsAsked s.core s.journal.items c.args.who = asked_of book c.args.self.now c.args.who c.self.view_is c.requires.who c.requires.quota in
    let is : IsNextOf s.core c.args.who c.args.call c.next_event-next.result = λ journal st. c.next_event-next.ensures journal st in
    let core : c.if-self.self-inside.core ≡ s.core = elim c.if-self.branch [ then-self w ↦ rw w.self-inside-is refl | else-self w ↦ rw w.self-inside-is refl ] in
    rw core (own_next book c.args.who c.args.call c.next_event-next.result c.self.invariant.0 is)

pub settled-event-requires-clause-room : goal.settled-event-requires-clause-room
settled-event-requires-clause-room g c =
    let s = c.self.inside in
    let book : BookParts = book_parts s.core s.journal.items s.lost (held_by g.K.Sink.held g.K.Sink.lengths s.opened.value) (held_by g.K.Sink.held g.K.Sink.lengths s.log) (g.K.Sink.faults s.opened.value) (g.K.Sink.faults s.log) in
    let asked : IsAsked s.core s.journal.items c.args.who = asked_of book c.args.self.now c.args.who c.self.view_is c.requires.who c.requires.quota in
    let core : c.if-self.self-inside.core ≡ s.core = elim c.if-self.branch [ then-self w ↦ rw w.self-inside-is refl | else-self w ↦ rw w.self-inside-is refl ] in
    rw core (settle_room book c.args.who _ c.self.invariant.0 asked)

pub push_reserved-requires : goal.push_reserved-requires
push_reserved-requires g c =
    let s = c.self.inside in
    let book : BookParts = book_parts s.core s.journal.items s.lost (held_by g.K.Sink.held g.K.Sink.lengths s.opened.value) (held_by g.K.Sink.held g.K.Sink.lengths s.log) (g.K.Sink.faults s.opened.value) (g.K.Sink.faults s.log) in
    let asked : IsAsked s.core s.journal.items c.args.who = asked_of book c.args.self.now c.args.who c.self.view_is c.requires.who c.requires.quota in
    elim c.if-self.branch [ then-self w ↦ rw w.self-inside-is (omega (arith, event_room book c.args.who c.self.invariant.0 asked, c.self.invariant.1, s.journal.ok.0)) | else-self w ↦ rw w.self-inside-is (omega (arith, event_room book c.args.who c.self.invariant.0 asked, c.self.invariant.1, s.journal.ok.0)) ]

pub invariant_of-self : goal.invariant_of-self
invariant_of-self g c =
    let s = c.self.inside in
    let t = c.if-self.self-inside in
    let book : BookParts = book_parts s.core s.journal.items s.lost (held_by g.K.Sink.held g.K.Sink.lengths s.opened.value) (held_by g.K.Sink.held g.K.Sink.lengths s.log) (g.K.Sink.faults s.opened.value) (g.K.Sink.faults s.log) in
    let asked : IsAsked s.core s.journal.items c.args.who = asked_of book c.args.self.now c.args.who c.self.view_is c.requires.who c.requires.quota in
    let is : IsNextOf s.core c.args.who c.args.call c.next_event-next.result = λ journal st. c.next_event-next.ensures journal st in
    let line : List ℕ = line_of (length s.journal.items + 1) (next_event (setup_of s.core) s.journal.items c.args.who c.args.call) in
    let core : c.if-self.self-inside.core ≡ s.core = elim c.if-self.branch [ then-self w ↦ rw w.self-inside-is refl | else-self w ↦ rw w.self-inside-is refl ] in
    let items : t.journal.items ≡ s.journal.items = elim c.if-self.branch [ then-self w ↦ rw w.self-inside-is refl | else-self w ↦ rw w.self-inside-is refl ] in
    let room : vec_capacity t.journal ≡ vec_capacity s.journal = elim c.if-self.branch [ then-self w ↦ rw w.self-inside-is refl | else-self w ↦ rw w.self-inside-is refl ] in
    let held_first : held_by g.K.Sink.held g.K.Sink.lengths t.opened.value ≡ held_by g.K.Sink.held g.K.Sink.lengths s.opened.value = elim c.if-self.branch [ then-self w ↦ rw w.self-inside-is refl | else-self w ↦ rw w.self-inside-is refl ] in
    let faults_first : g.K.Sink.faults t.opened.value ≡ g.K.Sink.faults s.opened.value = elim c.if-self.branch [ then-self w ↦ rw w.self-inside-is refl | else-self w ↦ rw w.self-inside-is refl ] in
    let writes : WritesLine s.lost c.if-self.lost line (held_by g.K.Sink.held g.K.Sink.lengths s.log) (held_by g.K.Sink.held g.K.Sink.lengths t.log) (g.K.Sink.faults s.log) (g.K.Sink.faults t.log) = elim c.if-self.branch [
      | then-self w ↦ rw (w.self-inside-is, w.lost-is) (writes_nothing s.lost line (held_by g.K.Sink.held g.K.Sink.lengths s.log) (g.K.Sink.faults s.log) w.if-self.true)
      | else-self w ↦
          let counted : c.len.result + 1 ≡ length s.journal.items + 1 = omega (arith, c.len.ensures, s.journal.ok.0) in
          let front : take c.line-len.result c.line-len.new.out ≡ line = line_is book c.args.who c.args.call c.next_event-next.result (c.len.result + 1) c.line-len.result c.line-len.new.out _ c.self.invariant.0 w.if-self.false is counted c.line-len.ensures.len c.line-len.ensures.written in
          let told : WritesLine Bool.false (is_err w.append.result) (take c.line-len.result c.line-len.new.out) (held_by g.K.Sink.held g.K.Sink.lengths s.log) (held_by g.K.Sink.held g.K.Sink.lengths w.append.new.self) (g.K.Sink.faults s.log) (g.K.Sink.faults w.append.new.self) = writes_line w.append.result _ _ _ _ _ w.append.ensures.ok w.append.ensures.part w.append.ensures.length_ok w.append.ensures.length_err w.append.ensures.counts w.append.ensures.kept in
          rw (w.self-inside-is, w.lost-is, w.is_err-lost.ensures.value, w.if-self.false) (subst (λ xs. WritesLine Bool.false (is_err w.append.result) xs (held_by g.K.Sink.held g.K.Sink.lengths s.log) (held_by g.K.Sink.held g.K.Sink.lengths w.append.new.self) (g.K.Sink.faults s.log) (g.K.Sink.faults w.append.new.self)) front told)
    ] in
    let typed = typed_is book c.args.who c.args.call c.next_event-next.result c.self.invariant.0 c.requires.proper is c.is_typed.ensures in
    let same : KeepsSetup s.core c.settled-event.new.core = subst (λ (x : CoreParts). KeepsSetup x c.settled-event.new.core) core c.settled-event.ensures.kept in
    let settled : Settles c.if-self.lost c.next_event-next.result s.core c.settled-event.new.core c.settled-event.result = subst (λ (x : CoreParts). Settles c.if-self.lost c.next_event-next.result x c.settled-event.new.core c.settled-event.result) core c.settled-event.ensures.settled in
    let pushed : c.push_reserved.new.self.items ≡ s.journal.items ++ c.settled-event.result ∷ [] = c.push_reserved.ensures.items ∙ ap (λ (xs : List Event). xs ++ c.settled-event.result ∷ []) items in (
      rw (pushed, held_first, faults_first) (book_push book c.settled-event.new.core c.if-self.lost c.args.who c.args.call c.next_event-next.result c.settled-event.result (held_by g.K.Sink.held g.K.Sink.lengths t.log) (g.K.Sink.faults t.log) c.self.invariant.0 asked c.requires.proper typed writes same is settled),
      omega (arith, c.self.invariant.1, room, c.push_reserved.ensures.capacity, ap (λ (x : Settings). events_max x) same.setup_is),
    )

pub returns-clause-legal : goal.returns-clause-legal
returns-clause-legal g c = (invariant_of-self g c).0.history.run
