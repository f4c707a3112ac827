-- A child's part, turn by turn, as the loop keeps it.
use Rattle.std.proofs.Common.{◌≡◌, ◌≢◌, ℕ, true, false, List, Option, refl, sym, ap, subst, ◌∙◌, arith}
use Rattle.outside.proofs.Counts.{NoneFell-none, NoneFell-then}
use Rattle.policy_model.specs.declared.event.Event.{Event}
use Rattle.policy_model.specs.declared.event.Why.TheVariants.{LinkFault}
use Rattle.policy_model.specs.Settings.{Settings}
use Rattle.session_asking.specs.declared.asking.Turn.{Turn}
use Rattle.session_asking.specs.declared.asking.Turn.TheVariants as turns
use Rattle.session_asking.specs.declared.live.LoggedIn.{LoggedIn}
use Rattle.session_asking.specs.Known.{IsServed}
use Rattle.session_asking.specs.Serving.{EndsProperly, MayServe, Stand, Stays, moment_of, whose_of}
use Rattle.session_turns.specs.Joins.{Rights}
use Rattle.session_loop.specs.Child.{CountsAsks, IsUnderway, KeepsState, PartIsDone, SpendsOn, TurnIsDone, TurnTaken, ends_part}
use Rattle.session_loop.proofs.Turning.{PartTaken-after, Proceeds-none, Proceeds-then, turn_proceeds}

-- 1. What stays

pub Stays-none : (at : Stand) → Stays at at
Stays-none at = record {
  setup = refl;
  service = refl;
  session = refl;
  role = refl;
  user = refl;
  link = omega arith;
  kept = NoneFell-none at.faults;
}

pub Stays-then : (a b c : Stand) → Stays a b → Stays b c → Stays a c
Stays-then a b c first second =
    let low = first.link in
    let high = second.link in
    record {
      setup = second.setup ∙ first.setup;
      service = second.service ∙ first.service;
      session = second.session ∙ first.session;
      role = second.role ∙ first.role;
      user = second.user ∙ first.user;
      link = omega (arith, low, high);
      kept = NoneFell-then a.faults b.faults c.faults first.kept second.kept;
    }

-- 2. Where the loop stands

pub underway_none : (at : Stand) (held : List ℕ) → MayServe at → IsUnderway at at held held
underway_none at held may = record {
  served = may.served;
  counts = record { worker = refl; made = refl };
  exported = refl;
  calm = refl;
  stays = Stays-none at;
  proceeds = Proceeds-none (whose_of at) (moment_of at) held;
}

-- whose requests they are doesn't change
whose_same : (a b : Stand) (h i : List ℕ) → IsUnderway a b h i → whose_of b ≡ whose_of a
whose_same a b h i is = rw (is.stays.service, is.exported, is.stays.session, is.counts.worker) refl

-- so another turn may be taken
pub may_go_on : (a b : Stand) (h i : List ℕ) → a.seat.setup ≡ a.desk.service.setup → IsUnderway a b h i → MayServe b
may_go_on a b h i one is = record {
  one = is.stays.setup ∙ one ∙ ap (λ s. s.setup) (sym is.stays.service);
  served = subst (λ s. IsServed s.setup b.seat.rights b.seat.seen b.live.session b.live.user) (sym is.stays.service)
      (subst (λ n. IsServed a.desk.service.setup b.seat.rights b.seat.seen n b.live.user) (sym is.stays.session) is.served);
}

-- 3. One turn more

taken_here : (a b c : Stand) (h i j : List ℕ) (turn : Turn) → IsUnderway a b h i → TurnIsDone turn b c i j → TurnTaken (whose_of a) turn c.desk.exported (moment_of b) (moment_of c) i j
taken_here a b c h i j turn is done = subst (λ w. TurnTaken w turn c.desk.exported (moment_of b) (moment_of c) i j) (whose_same a b h i is) done.taken

spends_here : (a b c : Stand) (h i j : List ℕ) (turn : Turn) → IsUnderway a b h i → TurnIsDone turn b c i j → SpendsOn a.desk.service.setup a.live.session turn b.seat.rights b.seat.seen c.seat.rights c.seat.seen c.live.user
spends_here a b c h i j turn is done =
    subst (λ s. SpendsOn s.setup a.live.session turn b.seat.rights b.seat.seen c.seat.rights c.seat.seen c.live.user) is.stays.service
    (subst (λ n. SpendsOn b.desk.service.setup n turn b.seat.rights b.seat.seen c.seat.rights c.seat.seen c.live.user) is.stays.session done.leaves.spends)

ends_spent : (setup : Settings) (session : ℕ) (turn : Turn) (first rights after : Rights) (a b c : List Event) (user last : Option LoggedIn) → IsServed setup rights b session user → CountsAsks session first a rights b → ends_part turn ≡ true → SpendsOn setup session turn rights b after c last → SpendsOn setup session turn first a after c last
ends_spent setup session turns.GoesOn first rights after a b c user last served counts ends spends = absurd cc
ends_spent setup session (turns.Ends why) first rights after a b c user last served counts ends spends =
    let made = counts.made in
    let left = spends.1.left in
    (spends.0, record { worker = spends.1.worker ∙ counts.worker; left = omega (arith, made, left) })
ends_spent setup session (turns.HandsOver e) first rights after a b c user last served counts ends spends =
    (spends.0, record { worker = spends.1.worker ∙ counts.worker; made = spends.1.made ∙ counts.made })

-- a turn hands over only before a login, as the first stand has it
ends_here : (a b c : Stand) (h i : List ℕ) (turn : Turn) → IsUnderway a b h i → EndsProperly turn b c → EndsProperly turn a c
ends_here a b c h i turn is ends = record {
  proper = ends.proper;
  fault = ends.fault;
  calm = λ ne. ends.calm ne ∙ is.calm;
  once = λ e same. sym is.stays.user ∙ ends.once e same;
}

-- the turn that ends a part
pub part_done : (a b c : Stand) (h i j : List ℕ) (turn : Turn) → IsUnderway a b h i → ends_part turn ≡ true → TurnIsDone turn b c i j → PartIsDone turn a c h
part_done a b c h i j turn is ends done = record {
  taken = PartTaken-after (whose_of a) turn c.desk.exported (moment_of a) (moment_of b) (moment_of c) h i j ends is.proceeds (taken_here a b c h i j turn is done);
  leaves = record {
    spends = ends_spent a.desk.service.setup a.live.session turn a.seat.rights b.seat.rights c.seat.rights a.seat.seen b.seat.seen c.seat.seen b.live.user c.live.user is.served is.counts ends
        (spends_here a b c h i j turn is done);
    exported = λ ne. done.leaves.exported ne ∙ is.exported;
    ends = ends_here a b c h i turn is done.leaves.ends;
    stays = Stays-then a b c is.stays done.leaves.stays;
  };
}

on_spent : (setup : Settings) (session : ℕ) (turn : Turn) (first rights after : Rights) (a b c : List Event) (last : Option LoggedIn) → CountsAsks session first a rights b → ends_part turn ≡ false → SpendsOn setup session turn rights b after c last → IsServed setup after c session last × CountsAsks session first a after c
on_spent setup session turns.GoesOn first rights after a b c last counts on spends = (spends.0, record { worker = spends.1.worker ∙ counts.worker; made = spends.1.made ∙ counts.made })
on_spent setup session (turns.Ends why) first rights after a b c last counts on spends = absurd cc
on_spent setup session (turns.HandsOver e) first rights after a b c last counts on spends = absurd cc

same_state : (turn : Turn) (old new : List ℕ) → ends_part turn ≡ false → KeepsState turn old new → new ≡ old
same_state turns.GoesOn old new on keeps = keeps (λ e is. absurd cc)
same_state (turns.Ends why) old new on keeps = absurd cc
same_state (turns.HandsOver e) old new on keeps = absurd cc

on_calm : (turn : Turn) → ends_part turn ≡ false → turn ≢ turns.Ends LinkFault
on_calm turns.GoesOn on same = absurd cc
on_calm (turns.Ends why) on same = absurd cc
on_calm (turns.HandsOver e) on same = absurd cc

-- a turn after which the child is served on
pub underway_then : (a b c : Stand) (h i j : List ℕ) (turn : Turn) → IsUnderway a b h i → ends_part turn ≡ false → TurnIsDone turn b c i j → IsUnderway a c h j
underway_then a b c h i j turn is on done =
    let w = whose_of a in
    let spent = on_spent a.desk.service.setup a.live.session turn a.seat.rights b.seat.rights c.seat.rights a.seat.seen b.seat.seen c.seat.seen c.live.user is.counts on (spends_here a b c h i j turn is done) in
    record {
      served = spent.0;
      counts = spent.1;
      exported = same_state turn b.desk.exported c.desk.exported on done.leaves.exported ∙ is.exported;
      calm = done.leaves.ends.calm (on_calm turn on) ∙ is.calm;
      stays = Stays-then a b c is.stays done.leaves.stays;
      proceeds = Proceeds-then w (moment_of a) (moment_of b) (moment_of c) h i j is.proceeds (turn_proceeds w turn c.desk.exported (moment_of b) (moment_of c) i j on (taken_here a b c h i j turn is done));
    }
