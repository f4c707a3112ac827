-- The end of a session, from where its worker stood.
use Rattle.std.proofs.Common.{◌≡◌, ◌≢◌, ℕ, ◌+◌, ◌<◌, ◌≤◌, List, [], Option, Some, sym, ap, subst, ◌∙◌, arith}
use Rattle.std.specs.Prelude.{IfSome}
use Rattle.outside.specs.declared.act.Role.{Role}
use Rattle.outside.specs.declared.faults.Faults.{Faults}
use Rattle.outside.specs.Faults.{FinishCounts, NoneFell}
use Rattle.outside.specs.Scene.{IsUnused, Scene, planned_bytes}
use Rattle.outside.specs.Told.{next_count}
use Rattle.outside.proofs.Counts.{NoneFell-then}
use Rattle.child_keeper.specs.Tickets.{NamesAccount}
use Rattle.policy_model.specs.declared.event.Event.{Event}
use Rattle.policy_model.specs.declared.event.Why.{Why}
use Rattle.policy_model.specs.declared.event.Why.TheVariants as whys
use Rattle.policy_model.specs.Journal.{ask_count, open_session_of}
use Rattle.policy_model.specs.Settings.{Settings, quota_of}
use Rattle.session_asking.specs.declared.asking.Turn.TheVariants as turns
use Rattle.session_asking.specs.declared.live.LoggedIn.{LoggedIn}
use Rattle.session_asking.specs.Known.{IsServed}
use Rattle.session_asking.specs.Serving.{MayServe, Stand, moment_of, whose_of}
use Rattle.session_turns.specs.Joins.{KeepsRights, Rights, Seat}
use Rattle.session_loop.specs.Child.{PartIsDone, left_in}
use Rattle.session_loop.specs.Sessions.{CanEnd, ClosesWith, EndHasCause, EndsOpen, HasPart, IsOver, LeavesWithin, MayHandOver, SessionIsOver, WorkerIsFree}
use Rattle.session_loop.specs.Stories.{MayServeAll}
use Rattle.session_loop.proofs.EndLemmas.{can_end, has_part, leaves_within, no_keeper, served_leaves}

-- 1. The cause of an end

-- a child was given back with the faults that its link had
part_cause : (why : Why) (faults : ℕ) (a b c : Faults) → (why ≡ whys.LinkFault → 0 < faults) → why ≢ whys.KeeperFault → NoneFell a b → FinishCounts faults b c → NoneFell b c → EndHasCause why a c
part_cause why faults a b c fault started first counts second =
    let low = first.link in
    record {
      link = λ same. let one = counts.counted (fault same) in record { rose = omega (arith, one, low) };
      keeper = λ same. absurd (started same);
      kept = NoneFell-then a b c first second;
    }

-- a child could not be started
pub start_cause : (a b c : Faults) → b.keeper ≡ next_count a.keeper → NoneFell a b → NoneFell b c → EndHasCause whys.KeeperFault a c
start_cause a b c one first second =
    let later = second.keeper in
    record {
      link = λ same. absurd cc;
      keeper = λ same. record { rose = omega (arith, one, later) };
      kept = NoneFell-then a b c first second;
    }

pub cause_after : (why : Why) (a b c : Faults) → NoneFell a b → EndHasCause why b c → EndHasCause why a c
cause_after why a b c first cause =
    let link = first.link in
    let keeper = first.keeper in
    record {
      link = λ same. let rose = (cause.link same).rose in record { rose = omega (arith, link, rose) };
      keeper = λ same. let rose = (cause.keeper same).rose in record { rose = omega (arith, keeper, rose) };
      kept = NoneFell-then a b c first cause.kept;
    }

-- 2. A part that ends its session

pub can_end_part : (why : Why) (a b : Stand) (held : List ℕ) → MayServe a → PartIsDone (turns.Ends why) a b held → CanEnd b.seat.setup b.seat.rights b.seat.seen
can_end_part why a b held may done =
    can_end a.desk.service.setup a.live.session a.seat.rights b.seat.rights a.seat.seen b.seat.seen a.live.user may.served b.seat.setup (done.leaves.stays.setup ∙ may.one) done.leaves.spends

pub part_had : (live : Role) (why : Why) (a b : Stand) (held : List ℕ) (last : List Event) (end : Option Scene) → PartIsDone (turns.Ends why) a b held → held ≡ [] → EndsOpen b.seat.rights.worker why b.seat.seen last → ClosesWith live b.live.child.link b.scene end → IfSome a.live.child.link IsUnused → IfSome a.scene (λ x. IfSome a.live.child.link (λ y. y.left ≡ planned_bytes x live)) → HasPart (whose_of a) live why a.seat.seen last a.scene end
part_had live why a b held last end done none ends closes unused planned =
    let spent = done.leaves.spends in
    has_part (whose_of a) live why (moment_of a) (moment_of b) last end held done.taken none
    (subst (λ n. EndsOpen n why b.seat.seen last) spent.1.worker ends)
    (ap (open_session_of b.seat.seen) (sym spent.1.worker) ∙ spent.0.opened) closes unused planned

-- the setup and the worker of the seat are those that the session began with
pub over_here : (setup other : Settings) (worker same : ℕ) (seen : List Event) → other ≡ setup → same ≡ worker → IsOver other same seen → IsOver setup worker seen
over_here setup other worker same seen is is_worker over = subst (λ s. IsOver s worker seen) is (subst (λ n. IsOver other n seen) is_worker over)

pub part_over : (why : Why) (a b : Stand) (held : List ℕ) (last : Seat) (faults : Faults) → MayServe a → PartIsDone (turns.Ends why) a b held → IsOver b.seat.setup b.seat.rights.worker last.seen → KeepsRights 1 b.seat.rights last.rights → FinishCounts b.live.child.faults b.faults faults → NoneFell b.faults faults → SessionIsOver a.desk.service.setup a.live.session why a.seat last a.faults faults
part_over why a b held last faults may done over rights counts kept =
    let setup = a.desk.service.setup in
    let spent = done.leaves.spends in
    let taken = done.taken in
    let started = no_keeper setup.frames why taken.final taken.rest (left_in b.live.child.link) taken.ended in
    record {
      over = over_here setup b.seat.setup a.seat.rights.worker b.seat.rights.worker last.seen (done.leaves.stays.setup ∙ may.one) spent.1.worker over;
      rights = leaves_within setup a.live.session a.seat.rights b.seat.rights last.rights a.seat.seen spent.1 rights;
      cause = part_cause why b.live.child.faults a.faults b.faults faults (λ same. done.leaves.ends.fault (ap turns.Ends same)) started done.leaves.stays.kept counts kept;
    }

-- 3. A session whose child could not be started

pub unstarted_over : (setup : Settings) (session : ℕ) (user : Option LoggedIn) (seat last : Seat) (a b c : Faults) → seat.setup ≡ setup → IsServed setup seat.rights seat.seen session user → IsOver seat.setup seat.rights.worker last.seen → KeepsRights 1 seat.rights last.rights → b.keeper ≡ next_count a.keeper → NoneFell a b → NoneFell b c → SessionIsOver setup session whys.KeeperFault seat last a c
unstarted_over setup session user seat last a b c one served over rights counted first second = record {
  over = subst (λ s. IsOver s seat.rights.worker last.seen) one over;
  rights = served_leaves setup session seat.rights last.rights seat.seen user served rights;
  cause = start_cause a b c counted first second;
}

-- 4. A session that was handed over

pub may_hand_over : (e : Event) (a b : Stand) (held : List ℕ) → MayServe a → PartIsDone (turns.HandsOver e) a b held → MayHandOver b.desk.service.setup b.seat b.live.session e
may_hand_over e a b held may done =
    let stays = done.leaves.stays in
    let setup = ap (λ s. s.setup) (sym stays.service) in
    record {
      one = stays.setup ∙ may.one ∙ setup;
      exported = done.taken.exported;
      known = subst (λ s. NamesAccount s e) setup done.taken.named;
      served = λ user new. subst (λ s. IsServed s b.seat.rights b.seat.seen b.live.session (Some user)) setup
          (subst (λ n. IsServed a.desk.service.setup b.seat.rights b.seat.seen n (Some user)) (sym stays.session) (done.leaves.spends.0 user new));
    }

handed_within : (setup : Settings) (session : ℕ) (first rights last : Rights) (old seen : List Event) → rights.worker ≡ first.worker → rights.left + ask_count seen session ≡ first.left + ask_count old session → LeavesWithin setup session rights seen last → LeavesWithin setup session first old last
handed_within setup session first rights last old seen worker made within =
    let left = within.left in
    record { worker = within.worker ∙ worker; left = omega (arith, made, left) }

pub handed_is_over : (e : Event) (why : Why) (a b : Stand) (held : List ℕ) (last : Seat) (faults : Faults) → PartIsDone (turns.HandsOver e) a b held → SessionIsOver b.desk.service.setup b.live.session why b.seat last b.faults faults → SessionIsOver a.desk.service.setup a.live.session why a.seat last a.faults faults
handed_is_over e why a b held last faults done is =
    let setup = a.desk.service.setup in
    let stays = done.leaves.stays in
    let counts = done.leaves.spends.1 in
    let same = ap (λ s. s.setup) stays.service in
    let within : LeavesWithin setup a.live.session b.seat.rights b.seat.seen last.rights =
    subst (λ s. LeavesWithin s a.live.session b.seat.rights b.seat.seen last.rights) same (subst (λ n. LeavesWithin b.desk.service.setup n b.seat.rights b.seat.seen last.rights) stays.session is.rights) in
    record {
      over = over_here setup b.desk.service.setup a.seat.rights.worker b.seat.rights.worker last.seen same counts.worker is.over;
      rights = handed_within setup a.live.session a.seat.rights b.seat.rights last.rights a.seat.seen b.seat.seen counts.worker counts.made within;
      cause = cause_after why a.faults b.faults faults stays.kept is.cause;
    }

-- 5. A session from its opening on

pub over_started : (setup : Settings) (session : ℕ) (why : Why) (seat last : Seat) (a b c : Faults) → NoneFell a b → SessionIsOver setup session why seat last b c → SessionIsOver setup session why seat last a c
over_started setup session why seat last a b c first is = record { over = is.over; rights = is.rights; cause = cause_after why a b c first is.cause }

pub lost_is_free : (setup : Settings) (seat last : Seat) (a b : Faults) → IsOver setup seat.rights.worker last.seen → KeepsRights 1 seat.rights last.rights → NoneFell a b → WorkerIsFree setup whys.LogLost seat last a b
lost_is_free setup seat last a b over rights kept =
    let made = rights.made in
    record {
      over = over;
      rights = record { worker = rights.worker; left = omega (arith, made) };
      cause = record { link = λ same. absurd cc; keeper = λ same. absurd cc; kept = kept };
    }

pub opened_is_free : (setup : Settings) (session : ℕ) (why : Why) (seat mid last : Seat) (a b : Faults) → KeepsRights 1 seat.rights mid.rights → ask_count mid.seen session ≡ 0 → SessionIsOver setup session why mid last a b → WorkerIsFree setup why seat last a b
opened_is_free setup session why seat mid last a b opened none is =
    let made = opened.made in
    let left = is.rights.left in
    record {
      over = subst (λ n. IsOver setup n last.seen) opened.worker is.over;
      rights = record { worker = is.rights.worker ∙ opened.worker; left = omega (arith, made, none, left) };
      cause = is.cause;
    }

-- 6. A worker, from its first session on

pub first_over : (setup : Settings) (seat : Seat) → seat.setup ≡ setup → MayServeAll seat.setup seat.rights seat.seen → IsOver setup seat.rights.worker seat.seen
first_over setup seat one may = subst (λ s. IsOver s seat.rights.worker seat.seen) one (record { run = may.run; idle = may.idle })

pub quota_here : (setup : Settings) (seat : Seat) → seat.setup ≡ setup → MayServeAll seat.setup seat.rights seat.seen → quota_of setup ≤ seat.rights.left
quota_here setup seat one may = subst (λ s. quota_of s ≤ seat.rights.left) one may.left

pub ended_over : (setup : Settings) (seat : Seat) (seen : List Event) → seat.setup ≡ setup → IsOver setup seat.rights.worker seen → IsOver seat.setup seat.rights.worker seen
ended_over setup seat seen one over = subst (λ s. IsOver s seat.rights.worker seen) (sym one) over
