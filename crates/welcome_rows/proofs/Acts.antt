-- What the acts of a post show of the first child's part, and of those after it.
use Rattle.std.proofs.Common.{◌≡◌, ℕ, ◌≤◌, Bool, true, false, List, [], ◌∷◌, ◌++◌, map, length}
use Rattle.std.proofs.Common.{◌+◌, Option, None, Ok, Err, refl, sym, ap, subst, ◌∙◌, append_assoc, arith, count_by}
use Rattle.std.proofs.Common.{drop, eqb, take}
use Rattle.std.specs.Prelude.{nat_le, option_to_list}
use Rattle.std.specs.List.{flat_map, list_all, list_any, starts_with}
use Rattle.std.proofs.lemmas.Bool.{and_parts, leb-true}
use Rattle.std.proofs.lemmas.List.{append-nil, take-append-drop}
use Rattle.std.proofs.lemmas.List.Folds.{list_all-append}
use Rattle.std.proofs.lemmas.Slice.Eq.{bytes_eq-Decides}
use Rattle.outside.specs.declared.act.Act.{Act}
use Rattle.outside.specs.declared.act.Act.TheVariants as acts
use Rattle.policy_model.specs.declared.event.Decision.{Decision}
use Rattle.policy_model.specs.declared.event.Decision.TheVariants as decisions
use Rattle.policy_model.specs.Settings.{Settings}
use Rattle.service_model.specs.Acts.{Operation, Receives, Sends, opening_operations, operation_of, operations_by}
use Rattle.service_model.specs.Acts.{operations_of}
use Rattle.service_model.specs.Parts.{Part, requests_of}
use Rattle.service_model.specs.Places.{Step, step_acts}
use Rattle.service_model.specs.Sittings.{IsOpening, Sitting, all_steps}
use Rattle.service_model.specs.Stories.{LastAccept, last_acts, story_acts}
use Rattle.service_model.proofs.Lists.{count-append}
use Rattle.service_model.proofs.Steps.{acts-append}
use Rattle.welcome_laws.specs.Client.{ClientSays, is_receiving}
use Rattle.welcome_laws.specs.Files.{GoesWell, bytes_received, later_acts}
use Rattle.welcome_laws.specs.Welcome.{first_acts}
use Rattle.welcome_rows.specs.Met.{goes_well}

-- ---- bytes that begin with others

pub starts : (s p : List ℕ) → starts_with eqb s p ≡ true → (more : List ℕ) × (s ≡ p ++ more)
starts s p h = (
  drop (length p) s,
  sym (take-append-drop (length p) s)
      ∙ ap (λ front. front ++ drop (length p) s) (sym ((bytes_eq-Decides p (take (length p) s)).0 h)),
)

-- ---- what a client says in acts that stand within others

-- an operation on the client's connection
abbrev is_talk : Operation → Bool
is_talk (Receives max) = true
is_talk (Sends bytes) = true
is_talk _ = false

pub says_later : (lines before : List ℕ) (done later : List Act) → list_any is_talk (map operation_of done) ≡ false
    → ClientSays lines before (done ++ later) → ClientSays lines before later
says_later lines before [] later none says = says
says_later lines before (acts.ConnRecv max outcome ∷ done) later none says = absurd cc
says_later lines before (acts.ConnSend bytes outcome ∷ done) later none says = absurd cc
says_later lines before (acts.Accept outcome ∷ done) later none says = says_later lines before done later none says
says_later lines before (acts.Start role outcome ∷ done) later none says = says_later lines before done later none says
says_later lines before (acts.Finish role ∷ done) later none says = says_later lines before done later none says
says_later lines before (acts.HangUp ∷ done) later none says = says_later lines before done later none says
says_later lines before (acts.VaultRead uid name offset max outcome ∷ done) later none says = says_later lines before
    done later none says
says_later lines before (acts.VaultWrite uid name offset bytes outcome ∷ done) later none says = says_later lines
    before done later none says
says_later lines before (acts.Clock moment ∷ done) later none says = says_later lines before done later none says

pub says_first : (lines before : List ℕ) (done later : List Act) → ClientSays lines before (done ++ later)
    → ClientSays lines before done
says_first lines before [] later says = tt
says_first lines before (acts.ConnRecv max (Ok bytes) ∷ done) later says =
    (says.0, says.1, says.2, says_first lines (before ++ bytes) done later says.3)
says_first lines before (acts.ConnRecv max (Err failed) ∷ done) later says = says
says_first lines before (acts.ConnSend bytes (Ok sent) ∷ done) later says = says_first lines before done later says
says_first lines before (acts.ConnSend bytes (Err failed) ∷ done) later says = says
says_first lines before (acts.Accept outcome ∷ done) later says = says_first lines before done later says
says_first lines before (acts.Start role outcome ∷ done) later says = says_first lines before done later says
says_first lines before (acts.Finish role ∷ done) later says = says_first lines before done later says
says_first lines before (acts.HangUp ∷ done) later says = says_first lines before done later says
says_first lines before (acts.VaultRead uid name offset max outcome ∷ done) later says = says_first lines before done
    later says
says_first lines before (acts.VaultWrite uid name offset bytes outcome ∷ done) later says = says_first lines before
    done later says
says_first lines before (acts.Clock moment ∷ done) later says = says_first lines before done later says

pub says_after : (lines before : List ℕ) (done later : List Act) → ClientSays lines before (done ++ later)
    → ClientSays lines (before ++ flat_map bytes_received done) later
says_after lines before [] later says =
    subst (λ bytes. ClientSays lines bytes later) (sym (append-nil before)) says
says_after lines before (acts.ConnRecv max (Ok bytes) ∷ done) later says =
    subst (λ said. ClientSays lines said later) (append_assoc before bytes (flat_map bytes_received done))
    (says_after lines (before ++ bytes) done later says.3)
says_after lines before (acts.ConnRecv max (Err failed) ∷ done) later says = absurd says
says_after lines before (acts.ConnSend bytes (Ok sent) ∷ done) later says = says_after lines before done later says
says_after lines before (acts.ConnSend bytes (Err failed) ∷ done) later says = absurd says
says_after lines before (acts.Accept outcome ∷ done) later says = says_after lines before done later says
says_after lines before (acts.Start role outcome ∷ done) later says = says_after lines before done later says
says_after lines before (acts.Finish role ∷ done) later says = says_after lines before done later says
says_after lines before (acts.HangUp ∷ done) later says = says_after lines before done later says
says_after lines before (acts.VaultRead uid name offset max outcome ∷ done) later says = says_after lines before done
    later says
says_after lines before (acts.VaultWrite uid name offset bytes outcome ∷ done) later says = says_after lines before
    done later says
says_after lines before (acts.Clock moment ∷ done) later says = says_after lines before done later says

-- a client that says these lines goes on well, where the operations on files do
well_by : (lines before : List ℕ) (done : List Act) → ClientSays lines before done → list_all goes_well done ≡ true
    → GoesWell lines before done
well_by lines before [] says well = tt
well_by lines before (acts.ConnRecv max (Ok bytes) ∷ done) says well =
    (λ short. (says.0, says.1, says.2), well_by lines (before ++ bytes) done says.3 well)
well_by lines before (acts.ConnRecv max (Err failed) ∷ done) says well = says
well_by lines before (acts.ConnSend bytes (Ok sent) ∷ done) says well = well_by lines before done says well
well_by lines before (acts.ConnSend bytes (Err failed) ∷ done) says well = says
well_by lines before (acts.VaultRead uid name offset max (Ok bytes) ∷ done) says well =
    let both = and_parts (nat_le (length bytes) max) (list_all goes_well done) well in
    (leb-true (length bytes) max both.0, well_by lines before done says both.1)
well_by lines before (acts.VaultRead uid name offset max (Err failed) ∷ done) says well = absurd cc
well_by lines before (acts.VaultWrite uid name offset bytes (Ok written) ∷ done) says well = well_by lines before done
    says well
well_by lines before (acts.VaultWrite uid name offset bytes (Err failed) ∷ done) says well = absurd cc
well_by lines before (acts.Accept outcome ∷ done) says well = well_by lines before done says well
well_by lines before (acts.Start role outcome ∷ done) says well = well_by lines before done says well
well_by lines before (acts.Finish role ∷ done) says well = well_by lines before done says well
well_by lines before (acts.HangUp ∷ done) says well = well_by lines before done says well
well_by lines before (acts.Clock moment ∷ done) says well = well_by lines before done says well

all_front : (front later : List Act) → list_all goes_well (front ++ later) ≡ true
    → (list_all goes_well front ≡ true) × (list_all goes_well later ≡ true)
all_front front later all =
    and_parts (list_all goes_well front) (list_all goes_well later) (sym (list_all-append goes_well front later) ∙ all)

-- ---- an opening doesn't talk to the client

opening_silent : (session : ℕ) (decision : Decision) → list_any is_talk (opening_operations session decision) ≡ false
opening_silent session (decisions.Permit value) = refl
opening_silent session decisions.Lost = refl
opening_silent session (decisions.Deny rule detail) = refl

pub silent : (setup : Settings) (step : Step) → IsOpening setup step → list_any is_talk (map operation_of step.acts) ≡
    false
unfolding operations_of
silent setup step opens =
    ap (list_any is_talk) opens.acts.operations
    ∙ ap (λ ask. list_any is_talk (operations_by setup step.place ask None)) opens.ask
    ∙ opening_silent step.place.event.session step.place.event.decision

-- ---- the children's acts among all

-- what follows the children's requests
abbrev end_acts : Option Step → LastAccept → List Act
end_acts ending last = step_acts (option_to_list ending) ++ last_acts last

-- what follows the first child's requests
abbrev acts_after : List Part → Option Step → LastAccept → List Act
acts_after parts ending last = later_acts parts ++ end_acts ending last

parts_acts : (parts : List Part)
    → step_acts (flat_map requests_of parts) ≡ flat_map (λ part. step_acts (requests_of part)) parts
parts_acts [] = refl
parts_acts (part ∷ parts) =
    acts-append (requests_of part) (flat_map requests_of parts)
    ∙ ap (λ done. step_acts (requests_of part) ++ done) (parts_acts parts)

split_first : (parts : List Part)
    → flat_map (λ part. step_acts (requests_of part)) parts ≡ first_acts parts ++ later_acts parts
split_first [] = refl
split_first (pre ∷ parts) = refl

split_parts : (parts : List Part) (ending : Option Step) (last : LastAccept)
    → step_acts (flat_map requests_of parts ++ option_to_list ending) ++ last_acts last ≡ first_acts parts ++ acts_after
    parts ending last
split_parts parts ending last =
    ap (λ done. done ++ last_acts last) (acts-append (flat_map requests_of parts) (option_to_list ending))
    ∙ append_assoc (step_acts (flat_map requests_of parts)) (step_acts (option_to_list ending)) (last_acts last)
    ∙ ap (λ done. done ++ end_acts ending last) (parts_acts parts ∙ split_first parts)
    ∙ append_assoc (first_acts parts) (later_acts parts) (end_acts ending last)

pub split_acts : (sitting : Sitting) (last : LastAccept)
    → story_acts (sitting ∷ []) last ≡ sitting.opening.acts ++ (first_acts sitting.parts ++ acts_after sitting.parts
    sitting.ending last)
split_acts sitting last =
    ap (λ steps. step_acts steps ++ last_acts last) (append-nil (all_steps sitting))
    ∙ append_assoc sitting.opening.acts (step_acts (flat_map requests_of sitting.parts ++ option_to_list
    sitting.ending)) (last_acts last)
    ∙ ap (λ done. sitting.opening.acts ++ done) (split_parts sitting.parts sitting.ending last)

says_from_first : (setup : Settings) (lines : List ℕ) (sitting : Sitting) (last : LastAccept)
    → IsOpening setup sitting.opening → ClientSays lines [] (story_acts (sitting ∷ []) last)
    → ClientSays lines [] (first_acts sitting.parts ++ acts_after sitting.parts sitting.ending last)
says_from_first setup lines sitting last opens says =
    says_later lines [] sitting.opening.acts (first_acts sitting.parts ++ acts_after sitting.parts sitting.ending last)
    (silent setup sitting.opening opens) (subst (ClientSays lines []) (split_acts sitting last) says)

pub client_of_first : (setup : Settings) (lines : List ℕ) (sitting : Sitting) (last : LastAccept)
    → IsOpening setup sitting.opening
    → ClientSays lines [] (story_acts (sitting ∷ []) last) → ClientSays lines [] (first_acts sitting.parts)
client_of_first setup lines sitting last opens says =
    says_first lines [] (first_acts sitting.parts) (acts_after sitting.parts sitting.ending last)
    (says_from_first setup lines sitting last opens says)

pub well_of_later : (setup : Settings) (lines : List ℕ) (sitting : Sitting) (last : LastAccept)
    → IsOpening setup sitting.opening
    → ClientSays lines [] (story_acts (sitting ∷ []) last)
    → list_all goes_well (story_acts (sitting ∷ []) last) ≡ true
    → GoesWell lines (flat_map bytes_received (first_acts sitting.parts)) (later_acts sitting.parts)
well_of_later setup lines sitting last opens says well =
    let first = first_acts sitting.parts in
    let later = later_acts sitting.parts in
    let rest = end_acts sitting.ending last in
    let whole = ap (list_all goes_well) (sym (split_acts sitting last)) ∙ well in
    let files = all_front first (later ++ rest) (all_front sitting.opening.acts (first ++ (later ++ rest)) whole).1 in
    well_by lines (flat_map bytes_received first) later
    (says_first lines (flat_map bytes_received first) later rest
    (says_after lines [] first (later ++ rest) (says_from_first setup lines sitting last opens says)))
    (all_front later rest files.1).0

pub few_of_children : (sitting : Sitting) (last : LastAccept)
    → count_by is_receiving (first_acts sitting.parts) + count_by is_receiving (later_acts sitting.parts)
    ≤ count_by is_receiving (story_acts (sitting ∷ []) last)
few_of_children sitting last =
    let first = first_acts sitting.parts in
    let later = later_acts sitting.parts in
    let rest = end_acts sitting.ending last in
    omega (
      arith,
      ap (count_by is_receiving) (split_acts sitting last),
      count-append is_receiving sitting.opening.acts (first ++ (later ++ rest)),
      count-append is_receiving first (later ++ rest),
      count-append is_receiving later rest,
    )
