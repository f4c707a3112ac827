-- Inner: what the children of a run are told.
use Rattle.std.specs.Prelude.{ℕ, List, [], ◌∷◌, length, if◌then◌else◌, ◌==◌}
use Rattle.outside.specs.declared.act.Talk.{Talk}
use Rattle.service_dialogues.specs.declared.dialogue.Dialogue.{Dialogue}

-- what a child was sent
abbrev pub sent_to : Talk → List ℕ
sent_to talk = talk.sent

-- what a session's children are told, the one before the login first; the user's is none where it says nothing
abbrev pub told_in : Dialogue → List (List ℕ)
told_in dialogue =
    dialogue.pre.told.items ∷ (if length dialogue.user.says.items == 0 then [] else dialogue.user.told.items ∷ [])
