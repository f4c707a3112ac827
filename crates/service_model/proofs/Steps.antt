-- What the steps of a session ask of the outside, and what their events are.
use Rattle.std.proofs.Common.{◌≡◌, ℕ, zero, suc, ◌+◌, Bool, true, false, cond, List, [], ◌∷◌, ◌++◌, map, Option, Some, None, refl, sym, ap, ◌∙◌, count_by}
use Rattle.std.specs.List.{AllByRecursion}
use Rattle.std.proofs.lemmas.List.{map-append}
use Rattle.std.proofs.lemmas.List.Concat.{flat_map-append}
use Rattle.imsg_frame.specs.Message.{Message}
use Rattle.outside.specs.declared.act.Act.{Act}
use Rattle.outside.specs.declared.act.Act.TheVariants as acts
use Rattle.outside.specs.declared.act.Role.{Role}
use Rattle.outside.specs.Scene.{came_count, is_coming}
use Rattle.policy_model.specs.declared.event.Ask.{Ask}
use Rattle.policy_model.specs.declared.event.Ask.TheVariants as asks
use Rattle.policy_model.specs.declared.event.Why.{Why}
use Rattle.policy_model.specs.declared.event.Why.TheVariants as whys
use Rattle.policy_model.specs.declared.event.Decision.{Decision}
use Rattle.policy_model.specs.declared.event.Decision.TheVariants as decisions
use Rattle.policy_model.specs.declared.event.Event.{Event}
use Rattle.policy_model.specs.Asks.{came_by_frame}
use Rattle.policy_model.specs.Journal.{Place}
use Rattle.policy_model.specs.Settings.{Settings}
use Rattle.service_model.specs.Service.{Service}
use Rattle.service_model.specs.Places.{Step, step_acts, step_places}
use Rattle.service_model.specs.Acts.{Operation, Accepts, ending_operations, operation_of, operations_by, operations_of, read_operations, write_operations}
use Rattle.service_model.specs.Cases.{if_permitted}
use Rattle.service_model.specs.Parts.{IsRequestStep}
use Rattle.service_model.specs.Users.{File}
use Rattle.service_model.proofs.Lists.{count-append, count-cons, count-none}

pub acts-append : (xs ys : List Step) → step_acts (xs ++ ys) ≡ step_acts xs ++ step_acts ys
acts-append xs ys = flat_map-append (λ s. s.acts) xs ys

pub places-append : (xs ys : List Step) → step_places (xs ++ ys) ≡ step_places xs ++ step_places ys
places-append xs ys = map-append (λ s. s.place) xs ys

-- an accept, whatever came of it
abbrev pub is_accept : Act → Bool
is_accept (acts.Accept outcome) = true
is_accept _ = false

abbrev pub accepts : Operation → Bool
accepts (Accepts outcome) = true
accepts _ = false

-- a test of acts that looks at what was asked alone
pub counts_asked : (test : Act → Bool) (of_asked : Operation → Bool) (done : List Act) → ((act : Act) → test act ≡ of_asked (operation_of act)) → count_by test done ≡ count_by of_asked (map operation_of done)
counts_asked test of_asked [] same = refl
counts_asked test of_asked (act ∷ rest) same =
    count-cons test act rest
    ∙ ap (λ b. cond b 1 0 + count_by test rest) (same act)
    ∙ ap (λ n. cond (of_asked (operation_of act)) 1 0 + n) (counts_asked test of_asked rest same)
    ∙ sym (count-cons of_asked (operation_of act) (map operation_of rest))

same_accept : (act : Act) → is_accept act ≡ accepts (operation_of act)
same_accept (acts.Accept outcome) = refl
same_accept (acts.Start role outcome) = refl
same_accept (acts.Finish role) = refl
same_accept acts.HangUp = refl
same_accept (acts.ConnRecv max outcome) = refl
same_accept (acts.ConnSend bytes outcome) = refl
same_accept (acts.VaultRead uid name offset max outcome) = refl
same_accept (acts.VaultWrite uid name offset bytes outcome) = refl
same_accept (acts.Clock moment) = refl

-- what was asked for tells how many accepts there are
pub accepts_asked : (done : List Act) → count_by is_accept done ≡ count_by accepts (map operation_of done)
accepts_asked done = counts_asked is_accept accepts done same_accept

if_none : (d : Decision) (operations : List Operation) → count_by accepts operations ≡ 0 → count_by accepts (if_permitted d operations) ≡ 0
if_none (decisions.Permit value) operations h = h
if_none (decisions.Deny rule detail) operations h = refl
if_none decisions.Lost operations h = refl

none_read : (handle : ℕ) (file : Option File) (offset max : ℕ) → count_by accepts (read_operations handle file offset max) ≡ 0
none_read zero file offset max = refl
none_read (suc handle) (Some file) offset max = refl
none_read (suc handle) None offset max = refl

none_written : (handle : ℕ) (file : Option File) (offset : ℕ) (bytes : List ℕ) → count_by accepts (write_operations handle file offset bytes) ≡ 0
none_written zero file offset bytes = refl
none_written (suc handle) (Some file) offset bytes = refl
none_written (suc handle) None offset bytes = refl

none_asked : (setup : Settings) (p : Place) (ask : Ask) (message : Option Message) → came_by_frame ask ≡ true → count_by accepts (operations_by setup p ask message) ≡ 0
none_asked setup p asks.Begin message h = absurd cc
none_asked setup p (asks.End why) message h = absurd cc
none_asked setup p (asks.Challenge user now) message h = refl
none_asked setup p (asks.Export len) message h = if_none p.event.decision _ refl
none_asked setup p (asks.ReadAt handle offset max) message h = if_none p.event.decision _ (none_read handle _ offset max)
none_asked setup p (asks.WriteAt handle offset len) message h = if_none p.event.decision _ (none_written handle _ offset _)
none_asked setup p _ message h = refl

-- no request leads to an accept
pub none_accepted : (service : Service) (step : Step) → IsRequestStep service step → count_by is_accept step.acts ≡ 0
unfolding operations_of
none_accepted service step is = accepts_asked step.acts ∙ ap (count_by accepts) is.acts.operations ∙ none_asked service.setup step.place step.place.event.ask step.message is.request

pub none_accepted_by : (service : Service) (steps : List Step) → AllByRecursion (IsRequestStep service) steps → count_by is_accept (step_acts steps) ≡ 0
none_accepted_by service [] each = refl
none_accepted_by service (step ∷ steps) each =
    count-append is_accept step.acts (step_acts steps)
    ∙ ap (λ n. n + count_by is_accept (step_acts steps)) (none_accepted service step each.0)
    ∙ ap (λ n. 0 + n) (none_accepted_by service steps each.1)

-- nor does an end
pub none_ended : (live : Role) (why : Why) → count_by accepts (ending_operations live why) ≡ 0
none_ended live whys.KeeperFault = refl
none_ended live _ = refl

pub coming_accepts : (act : Act) → is_coming act ≡ true → is_accept act ≡ true
coming_accepts (acts.Accept outcome) h = refl
coming_accepts (acts.Start role outcome) h = absurd cc
coming_accepts (acts.Finish role) h = absurd cc
coming_accepts acts.HangUp h = absurd cc
coming_accepts (acts.ConnRecv max outcome) h = absurd cc
coming_accepts (acts.ConnSend bytes outcome) h = absurd cc
coming_accepts (acts.VaultRead uid name offset max outcome) h = absurd cc
coming_accepts (acts.VaultWrite uid name offset bytes outcome) h = absurd cc
coming_accepts (acts.Clock moment) h = absurd cc

-- by no request a connection came
pub none_came_by : (service : Service) (steps : List Step) → AllByRecursion (IsRequestStep service) steps → came_count (step_acts steps) ≡ 0
none_came_by service steps each = count-none is_coming is_accept (step_acts steps) coming_accepts (none_accepted_by service steps each)

-- a test that no request passes
pub record FailsRequests (test : Event → Bool) : Type 0 where
  pub fails : (e : Event) → came_by_frame e.ask ≡ true → test e ≡ false

pub none_passes : (service : Service) (test : Event → Bool) (steps : List Step) → FailsRequests test → AllByRecursion (IsRequestStep service) steps → count_by (λ p. test p.event) (step_places steps) ≡ 0
none_passes service test [] fails each = refl
none_passes service test (step ∷ steps) fails each =
    count-cons (λ p. test p.event) step.place (step_places steps)
    ∙ ap (λ b. cond b 1 0 + count_by (λ p. test p.event) (step_places steps)) (fails.fails step.place.event each.0.request)
    ∙ ap (λ n. 0 + n) (none_passes service test steps fails each.1)
