-- Where no link failed, each request of a child is answered.
use Rattle.std.proofs.Common.{◌≡◌, ◌≢◌, ℕ, cond, List, [], ◌∷◌, Option, Some, None, refl, sym, ap, subst, ◌∙◌, count_by, arith}
use Rattle.std.specs.List.{AllByRecursion, flat_map}
use Rattle.policy_model.specs.declared.event.Ask.{Ask}
use Rattle.policy_model.specs.declared.event.Ask.TheVariants as asks
use Rattle.policy_model.specs.declared.event.Why.{Why}
use Rattle.policy_model.specs.declared.event.Why.TheVariants as whys
use Rattle.service_model.specs.Ends.{is_link_end}
use Rattle.service_model.specs.Places.{Step, step_places}
use Rattle.service_model.specs.Answers.{answers}
use Rattle.service_model.specs.Parts.{EndsSession, HandsOver, IsPart, Part, PartEnd, exported_by, requests_of}
use Rattle.service_model.specs.Cases.{by_link}
use Rattle.service_model.specs.Service.{Service}
use Rattle.service_model.specs.Sittings.{AreAnswered, AreParts, EndsFirst, Follows, IsSitting, Sitting, all_steps}
use Rattle.service_model.proofs.Ends.{link_requests}
use Rattle.service_model.proofs.Sittings.{passes_end, passing}
use Rattle.service_model.proofs.Stories.{count-sittings}

-- a child was sent the answer to each of its requests, whole
abbrev IsAnswered : Service → List ℕ → Part → Type 0
IsAnswered service exported part = part.sent ≡ answers service exported (requests_of part)

answered_part : (service : Service) (exported : List ℕ) (end : PartEnd) (part : Part) → end ≢ by_link → IsPart service exported end part → IsAnswered service exported part
answered_part service exported end part ne is = is.whole ne

handed : HandsOver ≢ by_link
handed e = absurd cc

ended : (why : Why) → why ≢ whys.LinkFault → EndsSession why ≢ by_link
ended why ne e = ne (why_is e) where
  why_is : EndsSession why ≡ by_link → why ≡ whys.LinkFault
  why_is e = cc

answered_first : (service : Service) (why : Why) (pre : Part) → why ≢ whys.LinkFault → EndsFirst service why pre → IsAnswered service [] pre
answered_first service whys.KeeperFault pre ne is = answered_part service [] HandsOver pre handed is.0
answered_first service whys.LinkFault pre ne is = absurd (ne refl)
answered_first service whys.Finished pre ne is = answered_part service [] (EndsSession whys.Finished) pre (ended whys.Finished ne) is
answered_first service whys.ChildEnded pre ne is = answered_part service [] (EndsSession whys.ChildEnded) pre (ended whys.ChildEnded ne) is
answered_first service whys.Truncated pre ne is = answered_part service [] (EndsSession whys.Truncated) pre (ended whys.Truncated ne) is
answered_first service (whys.BadFrame len) pre ne is = answered_part service [] (EndsSession (whys.BadFrame len)) pre (ended (whys.BadFrame len) ne) is
answered_first service (whys.Violation rule) pre ne is = answered_part service [] (EndsSession (whys.Violation rule)) pre (ended (whys.Violation rule) ne) is
answered_first service whys.LogLost pre ne is = answered_part service [] (EndsSession whys.LogLost) pre (ended whys.LogLost ne) is

answered_parts : (service : Service) (why : Why) (opening : Step) (parts : List Part) → why ≢ whys.LinkFault → AreParts service why opening parts → AreAnswered service [] parts
answered_parts service why opening [] ne are = tt
answered_parts service why opening (pre ∷ []) ne are = (answered_first service why pre ne are.2, tt)
answered_parts service why opening (pre ∷ user ∷ []) ne are =
    (answered_part service [] HandsOver pre handed are.2.first, (answered_part service (exported_by pre.final) (EndsSession why) user (ended why ne) are.2.second, tt))
answered_parts service why opening (pre ∷ user ∷ other ∷ parts) ne are = absurd are

not_link : (ask : Ask) (why : Why) → ask ≡ asks.End why → ◌≡◌ {A = ℕ} (cond (is_link_end ask) 1 0) 0 → why ≢ whys.LinkFault
not_link ask why is none same =
    let n : ℕ = cond (is_link_end ask) 1 0 in
    let one : n ≡ 1 = ap (λ a. cond (is_link_end a) 1 0) (is ∙ ap asks.End same) in
    absurd (omega (arith, none, one))

by_ending : (service : Service) (opening : Step) (parts : List Part) (ending : Option Step) → Follows service opening parts ending → passes_end (λ e. is_link_end e.ask) ending ≡ 0 → AreAnswered service [] parts
by_ending service opening parts None round none = subst (AreAnswered service []) (sym round.1) tt
by_ending service opening parts (Some ending) round none = answered_parts service round.1.0 opening parts (not_link ending.place.event.ask round.1.0 round.1.1.ask none) round.1.2

answered_sitting : (service : Service) (s : Sitting) → IsSitting service s → count_by (λ p. is_link_end p.event.ask) (step_places (all_steps s)) ≡ 0 → AreAnswered service [] s.parts
answered_sitting service s is none =
    let count = passing service (λ e. is_link_end e.ask) s link_requests is in
    let last : passes_end (λ e. is_link_end e.ask) s.ending ≡ 0 = omega (arith, none, count) in
    by_ending service s.opening s.parts s.ending is.round last

-- each child of each session was answered, of sessions none of which ended by a fault of a link
abbrev pub AllAnswered : Service → List Sitting → Type 0
AllAnswered service sittings = AllByRecursion (λ s. AreAnswered service [] s.parts) sittings

pub all_answered : (service : Service) (sittings : List Sitting) → AllByRecursion (IsSitting service) sittings → count_by (λ p. is_link_end p.event.ask) (step_places (flat_map all_steps sittings)) ≡ 0 → AllAnswered service sittings
all_answered service [] each none = tt
all_answered service (s ∷ ss) each none =
    let both = count-sittings (λ e. is_link_end e.ask) s ss in
    let first : count_by (λ p. is_link_end p.event.ask) (step_places (all_steps s)) ≡ 0 = omega (arith, none, both) in
    let later : count_by (λ p. is_link_end p.event.ask) (step_places (flat_map all_steps ss)) ≡ 0 = omega (arith, none, both) in
    (answered_sitting service s each.0 first, all_answered service ss each.1 later)
