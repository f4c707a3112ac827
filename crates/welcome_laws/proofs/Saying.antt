-- What a client says, and what holds of all that it said.
use Rattle.std.proofs.Common.{◌≡◌, ℕ, ◌≤◌, Bool, true, false, List, [], ◌∷◌, ◌++◌, length, map, Ok, Err, sym, ◌∙◌}
use Rattle.std.proofs.Common.{append_assoc}
use Rattle.std.specs.List.{flat_map, list_all}
use Rattle.std.proofs.lemmas.Bool.{and_parts}
use Rattle.std.proofs.lemmas.List.{append-nil}
use Rattle.outside.specs.declared.act.Act.{Act}
use Rattle.outside.specs.declared.act.Act.TheVariants as acts
use Rattle.service_model.specs.Acts.{Operation, Receives, Sends, operation_of}
use Rattle.welcome_laws.specs.Client.{AgreesWith, ClientSays}
use Rattle.welcome_laws.specs.Files.{bytes_received}

-- the client says these lines, and this holds of all that it said in the end
abbrev pub SaysThen : (List ℕ → Type 0) → List ℕ → List ℕ → List Act → Type 0
SaysThen Last lines before [] = Last before
SaysThen Last lines before (acts.ConnRecv max (Ok bytes) ∷ done) =
    (1 ≤ length bytes) × (length bytes ≤ max) × AgreesWith lines (before ++ bytes)
    × SaysThen Last lines (before ++ bytes) done
SaysThen Last lines before (acts.ConnRecv max (Err failed) ∷ done) = ⊥
SaysThen Last lines before (acts.ConnSend bytes (Err failed) ∷ done) = ⊥
SaysThen Last lines before (act ∷ done) = SaysThen Last lines before done

-- that it is what was received
pub says_then : (total lines before : List ℕ) (done : List Act) → before ++ flat_map bytes_received done ≡ total
    → ClientSays lines before done → SaysThen (λ heard. heard ≡ total) lines before done
says_then total lines before [] all says = sym (append-nil before) ∙ all
says_then total lines before (acts.ConnRecv max (Ok bytes) ∷ done) all says = (
  says.0,
  says.1,
  says.2,
  says_then total lines (before ++ bytes) done (append_assoc before bytes (flat_map bytes_received done) ∙ all) says.3,
)
says_then total lines before (acts.ConnRecv max (Err failed) ∷ done) all says = absurd says
says_then total lines before (acts.ConnSend bytes (Err failed) ∷ done) all says = absurd says
says_then total lines before (acts.ConnSend bytes (Ok sent) ∷ done) all says =
    says_then total lines before done all says
says_then total lines before (acts.Accept outcome ∷ done) all says = says_then total lines before done all says
says_then total lines before (acts.Start role outcome ∷ done) all says = says_then total lines before done all says
says_then total lines before (acts.Finish role ∷ done) all says = says_then total lines before done all says
says_then total lines before (acts.HangUp ∷ done) all says = says_then total lines before done all says
says_then total lines before (acts.VaultRead uid name offset max outcome ∷ done) all says =
    says_then total lines before done all says
says_then total lines before (acts.VaultWrite uid name offset bytes outcome ∷ done) all says =
    says_then total lines before done all says
says_then total lines before (acts.Clock moment ∷ done) all says = says_then total lines before done all says

-- operations that the client has no part in
abbrev pub is_aside : Operation → Bool
is_aside (Receives max) = false
is_aside (Sends bytes) = false
is_aside _ = true

module _ (Last : List ℕ → Type 0) (lines bytes : List ℕ) where
  one_aside : (act : Act) (later : List Act) → is_aside (operation_of act) ≡ true
      → SaysThen Last lines bytes (act ∷ later) → SaysThen Last lines bytes later
  one_aside (acts.ConnRecv max outcome) later is says = absurd cc
  one_aside (acts.ConnSend text outcome) later is says = absurd cc
  one_aside (acts.Accept outcome) later is says = says
  one_aside (acts.Start role outcome) later is says = says
  one_aside (acts.Finish role) later is says = says
  one_aside acts.HangUp later is says = says
  one_aside (acts.VaultRead uid name offset max outcome) later is says = says
  one_aside (acts.VaultWrite uid name offset text outcome) later is says = says
  one_aside (acts.Clock moment) later is says = says

  pub says_after : (done later : List Act) → list_all is_aside (map operation_of done) ≡ true
      → SaysThen Last lines bytes (done ++ later) → SaysThen Last lines bytes later
  says_after [] later all says = says
  says_after (act ∷ done) later all says =
      let both = and_parts (is_aside (operation_of act)) (list_all is_aside (map operation_of done)) all in
      says_after done later both.1 (one_aside act (done ++ later) both.0 says)
