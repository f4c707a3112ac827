-- What one child asked of its table, and how its part ended.
use Rattle.std.proofs.Common.{◌≡◌, ◌≢◌, ℕ, ◌<◌, ◌≤◌, true, false, List, [], ◌∷◌, ◌++◌, length, map, Option, Some, None, option_to_list, refl, sym, ap, subst, ◌∙◌, append_assoc, arith, inl, inr, lit<, lit≤}
use Rattle.std.specs.Prelude.{codes}
use Rattle.std.specs.List.{AllByRecursion}
use Rattle.std.proofs.lemmas.List.{append-nil, length-append}
use Rattle.request_catalogue.specs.declared.width.Width.{Width}
use Rattle.request_catalogue.specs.declared.width.Width.TheVariants.{Narrow}
use Rattle.request_catalogue.specs.Catalogue.{RequestValue, payload_of}
use Rattle.request_catalogue.specs.Texts.{is_label, is_name}
use Rattle.imsg_frame.specs.Message.{header_bytes, spelling_of}
use Rattle.imsg_frame.specs.Requests.{request_message}
use Rattle.imsg_frame.specs.Fields.{len_bytes}
use Rattle.imsg_frame.proofs.Fronts.{IsBadFront-append, whole_not_bad, whole_not_partial}
use Rattle.imsg_frame.proofs.Spelling.{length-spelling_of}
use Rattle.state_export.specs.Spelling.{state_bytes}
use Rattle.policy_model.specs.declared.event.Event.{Event}
use Rattle.policy_model.specs.declared.event.Why.{Why}
use Rattle.policy_model.specs.declared.event.Why.TheVariants as whys
use Rattle.policy_model.specs.Asks.{ends_session, exports}
use Rattle.service_model.specs.Parts.{IsRequestStep, EndsAlone, EndsSession, EndsSo, GoesOn, IsPart, Part, requests_of, step_bytes, why_of}
use Rattle.service_model.specs.Cases.{by_link}
use Rattle.service_model.specs.Places.{Step}
use Rattle.service_model.specs.Service.{Service}
use Rattle.drill_plan.specs.declared.class.Class.{Class}
use Rattle.drill_plan.specs.declared.class.Class.TheVariants.{LogsIn, Repeats, Exports, BreaksOff}
use Rattle.drill_plan.specs.Drill.{AreAsked}
use Rattle.drill_plan.specs.Plan.{broken_header, request_bytes, requests_bytes}
use Rattle.drill_plan.specs.Requests.{early_requests_by, least_record, user_requests_by}
use Rattle.drill_plan.proofs.Ends.{Heard, IsLast}
use Rattle.drill_plan.proofs.Said.{AsksFirst, IsSent, Said, is_message, said}

-- how a session ends that none of its asks ended: its child's bytes end, or end within a header
abbrev pub alone_of : List ℕ → Why
alone_of [] = whys.ChildEnded
alone_of (byte ∷ bytes) = whys.Truncated

last_of : (all : List RequestValue) (step : Step) → exports step.place.event ≡ false → IsLast all step
last_of [] step h = h
last_of (request ∷ all) step h = tt

heard_all : (service : Service) (exported : List ℕ) (all : List RequestValue) (alone why : Why) (steps : List Step) → AsksFirst all steps [] → AllByRecursion (GoesOn service exported) steps → why ≡ alone → Heard all alone why steps
heard_all service exported [] alone why [] asked on so = so
heard_all service exported (request ∷ all) alone why [] asked on so = absurd cc
heard_all service exported [] alone why (step ∷ steps) asked on so = absurd asked
heard_all service exported (request ∷ all) alone why (step ∷ steps) asked on so = (asked.0, inr (on.0.unended, last_of all step on.0.unexported, heard_all service exported all alone why steps asked.1 on.1 so))

heard_end : (service : Service) (exported : List ℕ) (all : List RequestValue) (alone why : Why) (front : List Step) (step : Step) (left : List RequestValue) → AsksFirst all (front ++ step ∷ []) left → AllByRecursion (GoesOn service exported) front → ends_session step.place.event ≡ true → why ≡ why_of step.place.event.decision → Heard all alone why (front ++ step ∷ [])
heard_end service exported [] alone why [] step left asked on ends so = absurd asked
heard_end service exported [] alone why (first ∷ front) step left asked on ends so = absurd asked
heard_end service exported (request ∷ all) alone why [] step left asked on ends so = (asked.0, inl (ends, refl, so))
heard_end service exported (request ∷ all) alone why (first ∷ front) step left asked on ends so = (asked.0, inr (on.0.unended, last_of all first on.0.unexported, heard_end service exported all alone why front step left asked.1 on.1 ends so))

never_last : (all : List RequestValue) (request : RequestValue) (others : List RequestValue) (step : Step) → IsLast (all ++ request ∷ others) step
never_last [] request others step = tt
never_last (first ∷ all) request others step = tt

-- two children, one after the other
pub heard_join : (service : Service) (exported : List ℕ) (all : List RequestValue) (request : RequestValue) (others : List RequestValue) (alone why : Why) (front : List Step) (step : Step) (behind : List Step) → AsksFirst all (front ++ step ∷ []) [] → AllByRecursion (GoesOn service exported) front → ends_session step.place.event ≡ false
    → Heard (request ∷ others) alone why behind → Heard (all ++ request ∷ others) alone why ((front ++ step ∷ []) ++ behind)
heard_join service exported [] request others alone why [] step behind asked on unended heard = absurd asked
heard_join service exported [] request others alone why (first ∷ front) step behind asked on unended heard = absurd asked
heard_join service exported (only ∷ []) request others alone why [] step behind asked on unended heard = (asked.0, inr (unended, tt, heard))
heard_join service exported (only ∷ other ∷ all) request others alone why [] step behind asked on unended heard = let none = asked.1 in absurd cc
heard_join service exported (one ∷ all) request others alone why (first ∷ front) step behind asked on unended heard = (asked.0, inr (on.0.unended, never_last all request others first, heard_join service exported all request others alone why front step behind asked.1 on.1 unended heard))

-- bytes that are no whole frame have none of the requests' bytes in front
ends_alone : (why : Why) (tail rest unread : List ℕ) (left : List RequestValue) → length tail < 16 → AllByRecursion IsSent left → EndsAlone Narrow why rest unread → rest ++ unread ≡ requests_bytes left ++ tail → (left ≡ []) × (why ≡ alone_of tail)
ends_alone whys.ChildEnded tail rest unread left short sent ends same = by_bytes left tail (sym (ap (λ r. r ++ unread) ends.0 ∙ ends.1) ∙ same) where
  by_bytes : (left : List RequestValue) (tail : List ℕ) → [] ≡ requests_bytes left ++ tail → (left ≡ []) × (whys.ChildEnded ≡ alone_of tail)
  by_bytes [] [] e = (refl, refl)
  by_bytes [] (byte ∷ bytes) e = absurd cc
  by_bytes (request ∷ left) tail e =
      absurd (omega (arith, ap length e, length-append (request_bytes request ++ requests_bytes left) tail, length-append (request_bytes request) (requests_bytes left), length-spelling_of Narrow (request_message request)))
ends_alone whys.Truncated tail rest unread left short sent ends same = by_bytes left tail sent (sym (append-nil rest) ∙ ap (λ u. rest ++ u) (sym ends.1) ∙ same) where
  by_bytes : (left : List RequestValue) (tail : List ℕ) → AllByRecursion IsSent left → rest ≡ requests_bytes left ++ tail → (left ≡ []) × (whys.Truncated ≡ alone_of tail)
  by_bytes [] [] sent e = absurd (ends.0 e)
  by_bytes [] (byte ∷ bytes) sent e = (refl, refl)
  by_bytes (request ∷ left) tail sent e =
      absurd (whole_not_partial Narrow 16384 rest (request_message request) (record { right = is_message request sent.0; front = (requests_bytes left ++ tail, e ∙ append_assoc (request_bytes request) (requests_bytes left) tail) }) ends.2)
ends_alone (whys.BadFrame len) tail rest unread left short sent ends same = by_bytes left sent same where
  by_bytes : (left : List RequestValue) → AllByRecursion IsSent left → rest ++ unread ≡ requests_bytes left ++ tail → (left ≡ []) × (whys.BadFrame len ≡ alone_of tail)
  by_bytes [] sent e = absurd (omega (arith, ends.header, short, ap length e, length-append rest unread))
  by_bytes (request ∷ left) sent e =
      absurd (whole_not_bad Narrow 16384 (rest ++ unread) (request_message request) len (record { right = is_message request sent.0; front = (requests_bytes left ++ tail, e ∙ append_assoc (request_bytes request) (requests_bytes left) tail) }) (IsBadFront-append Narrow 16384 rest unread len ends))
ends_alone whys.Finished tail rest unread left short sent ends same = absurd ends
ends_alone (whys.Violation rule) tail rest unread left short sent ends same = absurd ends
ends_alone whys.LinkFault tail rest unread left short sent ends same = absurd ends
ends_alone whys.KeeperFault tail rest unread left short sent ends same = absurd ends
ends_alone whys.LogLost tail rest unread left short sent ends same = absurd ends

by_final : (service : Service) (exported : List ℕ) (all : List RequestValue) (tail : List ℕ) (why : Why) (served : List Step) (final : Option Step) (rest unread : List ℕ) → length tail < 16 → Said all tail (served ++ option_to_list final) (rest ++ unread) → AllByRecursion (GoesOn service exported) served
    → EndsSo Narrow (EndsSession why) final rest unread → Heard all (alone_of tail) why (served ++ option_to_list final)
by_final service exported all tail why served None rest unread short h on ends =
    let e = ends_alone why tail rest unread h.left short h.sent ends h.behind_is in
    let asked = subst (λ steps. AsksFirst all steps h.left) (append-nil served) h.asked in
    subst (λ steps. Heard all (alone_of tail) why steps) (sym (append-nil served)) (heard_all service exported all (alone_of tail) why served (subst (λ left. AsksFirst all served left) e.0 asked) on e.1)
by_final service exported all tail why served (Some step) rest unread short h on ends = heard_end service exported all (alone_of tail) why served step h.left h.asked on ends.0 ends.1

-- what a part was said to be, by its bytes
pub said_part : (service : Service) (part : Part) (all : List RequestValue) (tail : List ℕ) → service.setup.frames ≡ Narrow → AllByRecursion IsSent all → length tail < 16 → AllByRecursion (IsRequestStep service) (requests_of part)
    → part.taken ≡ step_bytes service.setup.frames (requests_of part) ++ part.rest → part.taken ++ part.unread ≡ requests_bytes all ++ tail → Said all tail (requests_of part) (part.rest ++ part.unread)
said_part service part all tail narrow sent short each taken same =
    let narrowly : part.taken ≡ step_bytes Narrow (requests_of part) ++ part.rest = taken ∙ ap (λ (w : Width). step_bytes w (requests_of part) ++ part.rest) narrow in
    let bytes : step_bytes Narrow (requests_of part) ++ (part.rest ++ part.unread) ≡ requests_bytes all ++ tail =
    sym (append_assoc (step_bytes Narrow (requests_of part)) part.rest part.unread) ∙ ap (λ (t : List ℕ). t ++ part.unread) (sym narrowly) ∙ same in
    said service all tail (requests_of part) (part.rest ++ part.unread) narrow sent short each bytes

no_link : (why : Why) → why ≢ whys.LinkFault → EndsSession why ≢ by_link
no_link why ne e = ne (same e) where
  same : EndsSession why ≡ by_link → why ≡ whys.LinkFault
  same e = cc

-- a child's part that ended its session
pub heard_part : (service : Service) (exported : List ℕ) (why : Why) (part : Part) (all : List RequestValue) (tail : List ℕ) → service.setup.frames ≡ Narrow → AllByRecursion IsSent all → length tail < 16 → why ≢ whys.LinkFault → IsPart service exported (EndsSession why) part
    → part.taken ++ part.unread ≡ requests_bytes all ++ tail → Heard all (alone_of tail) why (requests_of part)
heard_part service exported why part all tail narrow sent short ne is same =
    by_final service exported all tail why part.served part.final part.rest part.unread short (said_part service part all tail narrow sent short is.each is.taken same) is.on
    (subst (λ (w : Width). EndsSo w (EndsSession why) part.final part.rest part.unread) narrow (is.ended (no_link why ne)))

-- ---- the events of a session ask its table

abbrev pub events_in : List Step → List Event
events_in steps = map (λ (x : Step). x.place.event) steps

pub asked_heard : (all : List RequestValue) (alone why : Why) (steps : List Step) → Heard all alone why steps → AreAsked all (events_in steps)
asked_heard [] alone why [] heard = refl
asked_heard [] alone why (step ∷ steps) heard = absurd heard
asked_heard (request ∷ all) alone why [] heard = absurd heard
asked_heard (request ∷ all) alone why (step ∷ steps) heard = (
  heard.0,
  elim heard.1 [
    | inl end ↦ let ends = end.0 in let none = end.1 in rw (ends, none) refl
    | inr more ↦ let on = more.0 in rw on (asked_heard all alone why steps more.2)
  ],
)

-- and a longer table, where some ask ended the session
pub asked_longer : (all others : List RequestValue) (alone why : Why) (steps : List Step) → why ≢ alone → Heard all alone why steps → AreAsked (all ++ others) (events_in steps)
asked_longer [] others alone why [] ne heard = absurd (ne heard)
asked_longer [] others alone why (step ∷ steps) ne heard = absurd heard
asked_longer (request ∷ all) others alone why [] ne heard = absurd heard
asked_longer (request ∷ all) others alone why (step ∷ steps) ne heard = (
  heard.0,
  elim heard.1 [
    | inl end ↦ let ends = end.0 in let none = end.1 in rw (ends, none) refl
    | inr more ↦ let on = more.0 in rw on (asked_longer all others alone why steps ne more.2)
  ],
)

-- ---- the table's requests may be sent

least_short : length least_record ≤ 8192
unfolding state_bytes
least_short = lit≤ tt

nobody_named : is_name (codes "nobody") ≡ true
unfolding is_name
nobody_named = refl

notes_labelled : is_label (codes "notes") ≡ true
unfolding is_label
notes_labelled = refl

pub sent_early : (user : List ℕ) (current right : ℕ) (class : Class) → is_name user ≡ true → AllByRecursion IsSent (early_requests_by user current right class)
sent_early user current right LogsIn named = (tt, (named, ((right, refl), (least_short, tt))))
sent_early user current right Repeats named = (named, ((current, refl), (tt, tt)))
sent_early user current right Exports named = (least_short, tt)
sent_early user current right BreaksOff named = (named, (tt, (nobody_named, tt)))

pub sent_user : (class : Class) → AllByRecursion IsSent (user_requests_by class)
sent_user LogsIn = (tt, ((lit≤ tt, lit≤ tt, notes_labelled), ((lit< tt, lit< tt, lit≤ tt, lit≤ tt), ((lit< tt, lit< tt, lit≤ tt, lit≤ tt), (lit< tt, (tt, tt))))))
sent_user Repeats = tt
sent_user Exports = tt
sent_user BreaksOff = tt

pub broken_short : (class : Class) → length (broken_header class) < 16
unfolding spelling_of header_bytes len_bytes payload_of
broken_short LogsIn = lit< tt
broken_short Repeats = lit< tt
broken_short Exports = lit< tt
broken_short BreaksOff = lit< tt

pub broken_alone : alone_of (broken_header BreaksOff) ≡ whys.Truncated
unfolding spelling_of header_bytes len_bytes payload_of
broken_alone = refl
