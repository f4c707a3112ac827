-- Turns of serving a child, one after the other.
use Rattle.std.proofs.Common.{◌≡◌, ℕ, true, false, List, [], ◌∷◌, ◌++◌, Option, Some, None, option_to_list, refl, sym, ap, subst, ◌∙◌, append_assoc, append-nil}
use Rattle.std.specs.List.{AllByRecursion}
use Rattle.imsg_frame.specs.Cut.{IsBadFront}
use Rattle.imsg_frame.specs.Message.{Message, spelling_of}
use Rattle.imsg_frame.specs.Cut.{IsPartialFront}
use Rattle.outside.specs.Link.{Exchanged, IsAskedOnce, IsUnasked, Link}
use Rattle.outside.specs.Scene.{Played, Scene}
use Rattle.outside.specs.Told.{Goes}
use Rattle.outside.proofs.Exchanges.{Exchanges-none, Exchanges-then}
use Rattle.outside.proofs.Scenes.{Plays-none, Plays-then}
use Rattle.policy_model.specs.declared.event.Event.{Event}
use Rattle.policy_model.specs.declared.event.Why.{Why}
use Rattle.policy_model.specs.declared.event.Why.TheVariants as whys
use Rattle.request_catalogue.specs.Widths.{frame_max}
use Rattle.service_model.specs.Answers.{answer_to, answers}
use Rattle.service_model.specs.Parts.{EndsSession, GoesOn, IsRequestStep, LastSent, step_bytes}
use Rattle.service_model.specs.Cases.{message_bytes}
use Rattle.service_model.specs.Places.{Step, step_acts, step_places, worker_places}
use Rattle.service_model.proofs.Lists.{All-append}
use Rattle.service_model.proofs.Steps.{acts-append, places-append}
use Rattle.session_asking.specs.declared.asking.Turn.{Turn}
use Rattle.session_asking.specs.declared.asking.Turn.TheVariants as turns
use Rattle.session_asking.specs.Serving.{HasReplied, Moment, Serves, Steps, Whose, moment}
use Rattle.session_asking.proofs.Links.{unasked_none}
use Rattle.session_loop.proofs.AskOrder.{Asks-none, Asks-once, Asks-then, answers-append, bytes-append}
use Rattle.session_loop.specs.Child.{Concludes, HandsOn, PartTaken, Proceeds, Receives, TurnTaken, ends_part, export_step}

-- no step, and steps one after the other
pub Steps-none : (worker : ℕ) (seen : List Event) → Steps worker [] seen seen
Steps-none worker seen = record { own = sym (append-nil (worker_places seen worker)) }

pub Steps-then : (worker : ℕ) (xs ys : List Step) (a b c : List Event) → Steps worker xs a b → Steps worker ys b c → Steps worker (xs ++ ys) a c
Steps-then worker xs ys a b c first second = record {
  own = second.own ∙ ap (λ ps. ps ++ step_places ys) first.own ∙ append_assoc (worker_places a worker) (step_places xs) (step_places ys) ∙ ap (λ ps. worker_places a worker ++ ps) (sym (places-append xs ys));
}

-- two lists of acts, of bytes and of answers together
pub Plays-steps : (xs ys : List Step) (a b c : Option Scene) → Goes (Played (step_acts xs) [] []) a b → Goes (Played (step_acts ys) [] []) b c → Goes (Played (step_acts (xs ++ ys)) [] []) a c
Plays-steps xs ys a b c first second = subst (λ acts. Goes (Played acts [] []) a c) (sym (acts-append xs ys)) (Plays-then (step_acts xs) (step_acts ys) [] [] [] [] a b c first second)

joined : (h r r' a h' b h'' : List ℕ) → h ++ r ≡ a ++ h' → h' ++ r' ≡ b ++ h'' → h ++ (r ++ r') ≡ (a ++ b) ++ h''
joined h r r' a h' b h'' first second = sym (append_assoc h r r') ∙ ap (λ xs. xs ++ r') first ∙ append_assoc a h' r' ∙ ap (λ xs. a ++ xs) second ∙ sym (append_assoc a b h'')

-- a child that nothing was received from yet
pub Proceeds-none : (w : Whose) (m : Moment) (held : List ℕ) → Proceeds w m m held held
Proceeds-none w m held = record {
  served = [];
  steps = Steps-none w.worker m.seen;
  each = tt;
  on = tt;
  acts = Plays-none m.scene;
  received = [];
  framed = append-nil held;
  bytes = Exchanges-none m.link;
  asks = Asks-none w.service w.exported [] held [] m.link m.link (unasked_none m.link);
}

pub Proceeds-then : (w : Whose) (a b c : Moment) (h i j : List ℕ) → Proceeds w a b h i → Proceeds w b c i j → Proceeds w a c h j
Proceeds-then w a b c h i j first second =
    let width = w.service.setup.frames in
    record {
      served = first.served ++ second.served;
      steps = Steps-then w.worker first.served second.served a.seen b.seen c.seen first.steps second.steps;
      each = All-append (IsRequestStep w.service) first.served second.served first.each second.each;
      on = All-append (GoesOn w.service w.exported) first.served second.served first.on second.on;
      acts = Plays-steps first.served second.served a.scene b.scene c.scene first.acts second.acts;
      received = first.received ++ second.received;
      framed = joined h first.received second.received (step_bytes width first.served) i (step_bytes width second.served) j first.framed second.framed ∙ ap (λ xs. xs ++ j) (sym (bytes-append width first.served second.served));
      bytes = subst (λ xs. Goes (Exchanged (first.received ++ second.received) xs) a.link c.link) (sym (answers-append w.service w.exported first.served second.served))
          (Exchanges-then first.received (answers w.service w.exported first.served) second.received (answers w.service w.exported second.served) a.link b.link c.link first.bytes second.bytes);
      asks = Asks-then w.service w.exported first.served second.served h first.received i second.received a.link b.link c.link first.framed first.bytes first.asks second.asks;
    }

pub Concludes-after : (w : Whose) (why : Why) (a b c : Moment) (h i : List ℕ) → Proceeds w a b h i → Concludes w why b c i → Concludes w why a c h
Concludes-after w why a b c h i first second =
    let width = w.service.setup.frames in
    let final = option_to_list second.final in
    let later = second.served ++ final in
    let both : (first.served ++ second.served) ++ final ≡ first.served ++ later = append_assoc first.served second.served final in
    record {
      served = first.served ++ second.served;
      final = second.final;
      steps = subst (λ steps. Steps w.worker steps a.seen c.seen) (sym both) (Steps-then w.worker first.served later a.seen b.seen c.seen first.steps second.steps);
      each = subst (AllByRecursion (IsRequestStep w.service)) (sym both) (All-append (IsRequestStep w.service) first.served later first.each second.each);
      on = All-append (GoesOn w.service w.exported) first.served second.served first.on second.on;
      acts = subst (λ steps. Goes (Played (step_acts steps) [] []) a.scene c.scene) (sym both) (Plays-steps first.served later a.scene b.scene c.scene first.acts second.acts);
      received = first.received ++ second.received;
      rest = second.rest;
      framed = joined h first.received second.received (step_bytes width first.served) i (step_bytes width later) second.rest first.framed second.framed
          ∙ ap (λ xs. xs ++ second.rest) (sym (bytes-append width first.served later) ∙ ap (step_bytes width) (sym both));
      last = second.last;
      bytes = subst (λ xs. Goes (Exchanged (first.received ++ second.received) xs) a.link c.link)
          (sym (append_assoc (answers w.service w.exported first.served) (answers w.service w.exported second.served) second.last) ∙ ap (λ xs. xs ++ second.last) (sym (answers-append w.service w.exported first.served second.served)))
          (Exchanges-then first.received (answers w.service w.exported first.served) second.received (answers w.service w.exported second.served ++ second.last) a.link b.link c.link first.bytes second.bytes);
      asks = Asks-then w.service w.exported first.served second.served h first.received i second.received a.link b.link c.link first.framed first.bytes first.asks second.asks;
      sent = second.sent;
      ended = second.ended;
    }

-- the first child's turns up to its EXPORT
pub HandsOn-after : (w : Whose) (e : Event) (state : List ℕ) (a b c : Moment) (h i : List ℕ) → Proceeds w a b h i → HandsOn w e state b c i → HandsOn w e state a c h
HandsOn-after w e state a b c h i first second =
    let width = w.service.setup.frames in
    let step = export_step second.front e second.message in
    let both : (first.served ++ second.served) ++ step ∷ [] ≡ first.served ++ (second.served ++ step ∷ []) = append_assoc first.served second.served (step ∷ []) in
    record {
      served = first.served ++ second.served;
      front = second.front;
      message = second.message;
      body = second.body;
      exported = second.exported;
      came = second.came;
      session_is = second.session_is;
      steps = subst (λ steps. Steps w.worker steps a.seen c.seen) (sym both) (Steps-then w.worker first.served (second.served ++ step ∷ []) a.seen b.seen c.seen first.steps second.steps);
      each = All-append (IsRequestStep w.service) first.served second.served first.each second.each;
      on = All-append (GoesOn w.service w.exported) first.served second.served first.on second.on;
      acts = Plays-steps first.served second.served a.scene b.scene c.scene first.acts second.acts;
      received = first.received ++ second.received;
      rest = second.rest;
      framed = joined h first.received second.received (step_bytes width first.served) i (step_bytes width (second.served ++ step ∷ [])) second.rest first.framed second.framed
          ∙ ap (λ xs. xs ++ second.rest) (sym (bytes-append width first.served (second.served ++ step ∷ [])) ∙ ap (step_bytes width) (sym both));
      bytes = subst (λ xs. Goes (Exchanged (first.received ++ second.received) xs) a.link c.link) (sym (answers-append w.service w.exported first.served second.served))
          (Exchanges-then first.received (answers w.service w.exported first.served) second.received (answers w.service w.exported second.served) a.link b.link c.link first.bytes second.bytes);
      asks = Asks-then w.service w.exported first.served second.served h first.received i second.received a.link b.link c.link first.framed first.bytes first.asks second.asks;
      named = second.named;
      role = second.role;
    }

-- the turn that ends a part, after those before it
pub PartTaken-after : (w : Whose) (turn : Turn) (state : List ℕ) (a b c : Moment) (h i j : List ℕ) → ends_part turn ≡ true → Proceeds w a b h i → TurnTaken w turn state b c i j → PartTaken w turn state a c h
PartTaken-after w turns.GoesOn state a b c h i j ends first second = absurd cc
PartTaken-after w (turns.Ends why) state a b c h i j ends first second = Concludes-after w why a b c h i first second
PartTaken-after w (turns.HandsOver e) state a b c h i j ends first second = HandsOn-after w e state a b c h i first second

pub turn_proceeds : (w : Whose) (turn : Turn) (state : List ℕ) (a b : Moment) (h i : List ℕ) → ends_part turn ≡ false → TurnTaken w turn state a b h i → Proceeds w a b h i
turn_proceeds w turns.GoesOn state a b h i on taken = taken
turn_proceeds w (turns.Ends why) state a b h i on taken = absurd cc
turn_proceeds w (turns.HandsOver e) state a b h i on taken = absurd cc

-- a message that was held was served
pub turn_message : (w : Whose) (message : Message) (turn : Turn) (state : List ℕ) (a b : Moment) (held rest : List ℕ) → held ≡ spelling_of w.service.setup.frames message ++ rest → HasReplied turn message.body w.exported state → Serves w message turn a b → Goes IsUnasked a.link b.link → TurnTaken w turn state a b held rest
turn_message w message turns.GoesOn state a b held rest is replied served unasked =
    let width = w.service.setup.frames in
    record {
      served = served.step ∷ [];
      steps = served.steps;
      each = (served.is, tt);
      on = (served.answers.0, tt);
      acts = subst (λ acts. Goes (Played acts [] []) a.scene b.scene) (sym (append-nil served.step.acts)) served.acts;
      received = [];
      framed = append-nil held ∙ is ∙ ap (λ xs. xs ++ rest) (sym (append-nil (message_bytes width served.step.message) ∙ ap (message_bytes width) served.came));
      bytes = subst (λ xs. Goes (Exchanged [] xs) a.link b.link) (served.answers.1 ∙ sym (append-nil (answer_to w.service w.exported served.step))) served.bytes;
      asks = Asks-none w.service w.exported (served.step ∷ []) held [] a.link b.link unasked;
    }
turn_message w message (turns.HandsOver e) state a b held rest is replied served unasked =
    let width = w.service.setup.frames in
    record {
      served = [];
      front = served.front;
      message = message;
      body = sym (replied.handed e refl);
      exported = served.exported;
      came = served.came;
      session_is = served.session_is;
      steps = served.steps;
      each = tt;
      on = tt;
      acts = served.acts;
      received = [];
      rest = rest;
      framed = append-nil held ∙ is ∙ ap (λ xs. xs ++ rest) (sym (append-nil (spelling_of width message)));
      bytes = served.bytes;
      asks = Asks-none w.service w.exported [] held [] a.link b.link unasked;
      named = served.named;
      role = served.role;
    }
turn_message w message (turns.Ends why) state a b held rest is replied served unasked =
    let width = w.service.setup.frames in
    let whole : answers w.service w.exported (served.step ∷ []) ≡ answer_to w.service w.exported served.step = append-nil (answer_to w.service w.exported served.step) in
    record {
      served = [];
      final = Some served.step;
      steps = served.steps;
      each = (served.is, tt);
      on = tt;
      acts = subst (λ acts. Goes (Played acts [] []) a.scene b.scene) (sym (append-nil served.step.acts)) served.acts;
      received = [];
      rest = rest;
      framed = append-nil held ∙ is ∙ ap (λ xs. xs ++ rest) (sym (append-nil (message_bytes width served.step.message) ∙ ap (message_bytes width) served.came));
      last = served.sent;
      bytes = served.bytes;
      asks = Asks-none w.service w.exported [] held [] a.link b.link unasked;
      sent = subst (λ xs. LastSent (EndsSession why) xs served.sent) (sym whole) served.answers.0;
      ended = λ ne. served.answers.1 ne;
    }

-- bytes were received, or the child's bytes have ended
pub turn_received : (w : Whose) (turn : Turn) (state : List ℕ) (seen : List Event) (s : Option Scene) (k l : Option Link) (held_old held_new : List ℕ) → IsPartialFront w.service.setup.frames (frame_max w.service.setup.frames) held_old → Goes IsAskedOnce k l → Receives w.service.setup.frames turn held_old held_new k l → TurnTaken w turn state (moment seen s k) (moment seen s l) held_old held_new
turn_received w turns.GoesOn state seen s k l held_old held_new partial asked received = record {
  served = [];
  steps = Steps-none w.worker seen;
  each = tt;
  on = tt;
  acts = Plays-none s;
  received = received.0;
  framed = received.1;
  bytes = received.2;
  asks = Asks-once w.service w.exported held_old received.0 k l partial asked;
}
turn_received w (turns.Ends why) state seen s k l held_old held_new partial asked received = record {
  served = [];
  final = None;
  steps = Steps-none w.worker seen;
  each = tt;
  on = tt;
  acts = Plays-none s;
  received = [];
  rest = held_old;
  framed = append-nil held_old;
  last = [];
  bytes = received.0;
  asks = Asks-once w.service w.exported held_old [] k l partial asked;
  sent = record { cut = (0, refl); all = λ ne. refl };
  ended = received.1;
}
turn_received w (turns.HandsOver e) state seen s k l held_old held_new partial asked received = absurd received

-- a header of wrong length stands in front
pub turn_bad : (w : Whose) (len : ℕ) (m : Moment) (held : List ℕ) → IsBadFront w.service.setup.frames (frame_max w.service.setup.frames) held len → Concludes w (whys.BadFrame len) m m held
turn_bad w len m held bad = record {
  served = [];
  final = None;
  steps = Steps-none w.worker m.seen;
  each = tt;
  on = tt;
  acts = Plays-none m.scene;
  received = [];
  rest = held;
  framed = append-nil held;
  last = [];
  bytes = Exchanges-none m.link;
  asks = Asks-none w.service w.exported [] held [] m.link m.link (unasked_none m.link);
  sent = record { cut = (0, refl); all = λ ne. refl };
  ended = λ ne. bad;
}
