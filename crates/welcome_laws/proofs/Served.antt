-- The requests of the user's child after its welcome: a text, more bytes of the client, and its files.
use Rattle.std.proofs.Common.{◌≡◌, ℕ, ◌+◌, ◌<◌, ◌≤◌, ◌^◌, true, false, cond, List, [], ◌∷◌, ◌++◌, length, map}
use Rattle.std.proofs.Common.{Option, Some, None, Result, Ok, Err, refl, ap, subst, ◌∙◌, arith, eq-eqb, lit<, lit≤}
use Rattle.std.specs.Prelude.{◌==◌, count_by, filter_map, option_map}
use Rattle.std.specs.Int.{to_le_bytes, w32}
use Rattle.std.specs.List.{find, flat_map}
use Rattle.std.specs.Option.{option_and_then, option_map_or}
use Rattle.std.specs.Str.{bytes_eq}
use Rattle.std.proofs.lemmas.List.{append-nil}
use Rattle.request_catalogue.specs.declared.request.Bad.{Bad}
use Rattle.request_catalogue.specs.declared.texts.Label.{Label}
use Rattle.request_catalogue.specs.declared.texts.Name.{Name}
use Rattle.request_catalogue.specs.TextBytes.{label_bytes}
use Rattle.request_catalogue.specs.Catalogue.{IsInRange, RequestValue}
use Rattle.request_catalogue.specs.Catalogue as requests
use Rattle.request_catalogue.specs.Replies.{Done}
use Rattle.request_catalogue.specs.Texts.{is_label}
use Rattle.imsg_frame.specs.Message.{Message, spelling_of}
use Rattle.imsg_frame.specs.Requests.{request_message}
use Rattle.outside.specs.declared.act.Act.{Act}
use Rattle.outside.specs.declared.act.Act.TheVariants as acts
use Rattle.outside.specs.declared.act.Failed.{Failed}
use Rattle.policy_model.specs.declared.account.Account.{Account}
use Rattle.policy_model.specs.declared.event.Ask.{Ask}
use Rattle.policy_model.specs.declared.event.Ask.TheVariants as asks
use Rattle.policy_model.specs.declared.event.Decision.{Decision}
use Rattle.policy_model.specs.declared.event.Decision.TheVariants.{Permit}
use Rattle.policy_model.specs.declared.event.Event.{Event}
use Rattle.policy_model.specs.declared.event.Why.{Why}
use Rattle.policy_model.specs.declared.phase.Phase.TheVariants as phases
use Rattle.policy_model.specs.Asks.{accepts, came_by_frame, closes_file, ends_session, exports, is_permit, label_named}
use Rattle.policy_model.specs.Asks.{mode_of, opens_file, value_of}
use Rattle.policy_model.specs.Cases.{account_named, handle_of}
use Rattle.policy_model.specs.Handles.{live_handles_of}
use Rattle.policy_model.specs.Journal.{Place, has_lost}
use Rattle.policy_model.specs.Legal.{IsLegal}
use Rattle.policy_model.specs.Logins.{account_of, verified_user}
use Rattle.policy_model.specs.Settings.{same_label}
use Rattle.policy_model.specs.Verdict.{allows}
use Rattle.child_protocol.specs.Exchanges.{Exchange}
use Rattle.child_protocol.specs.Frames.{frame_width}
use Rattle.child_protocol.specs.Pre.{read_more, say}
use Rattle.child_protocol.specs.Says.{User}
use Rattle.child_protocol.specs.User.{user_next}
use Rattle.child_protocol.proofs.Frames.{reads_in}
use Rattle.state_export.specs.Spelling.{StateValue, state_bytes}
use Rattle.service_model.specs.Acts.{ReadsFile, WritesFile, bytes_read, failed_device, operation_of}
use Rattle.service_model.specs.Acts.{operations_by, operations_of, read_operations, write_operations, written_by}
use Rattle.service_model.specs.Acts.{written_bytes}
use Rattle.service_model.specs.Answers.{answer_to, done_body, reply_message}
use Rattle.service_model.specs.Parts.{EndsSession, EndsSo}
use Rattle.service_model.specs.Places.{Step, step_acts}
use Rattle.service_model.specs.Service.{Service}
use Rattle.service_model.specs.Users.{File, file_at}
use Rattle.service_model.proofs.Lists.{count-cons}
use Rattle.login_laws.specs.Login.{is_talk}
use Rattle.login_laws.proofs.Files.{closes_one, close_permitted, having, is_allowed_by, leaves_files, open_permitted}
use Rattle.login_laws.proofs.Files.{opens_one, read_permitted, write_permitted}
use Rattle.login_laws.proofs.Stages.{Lasts, Stage, event_as, more}
use Rattle.login_laws.proofs.Tries.{request_on}
use Rattle.login_laws.proofs.Walk.{State, own_session}
use Rattle.welcome_laws.specs.Client.{AgreesWith, is_receiving}
use Rattle.welcome_laws.specs.Files.{GoesWell, has_grant}
use Rattle.welcome_laws.proofs.Before.{short_reply}
use Rattle.welcome_laws.proofs.Late as late
use Rattle.welcome_laws.proofs.Late.{who_of}
use Rattle.welcome_laws.proofs.Meeting.{IsReadable, had, readable}
use Rattle.welcome_laws.proofs.Serving.{Talks, answer_done, answered_now, event_by, next_served, no_acts}
use Rattle.welcome_laws.proofs.Serving.{receives_bytes, says_text, talks}

-- the session of a user's child that imported
abbrev pub serving_state : ℕ → ℕ → State
serving_state asked tried =
    record { phase = phases.User; asked = asked; tried = tried; greeted = true; imported = true }

no_more_tried : (n : ℕ) → n + 0 ≡ n
no_more_tried n = omega arith

-- how often something was received from the client
abbrev pub receives_in : List Act → ℕ
receives_in done = count_by is_receiving done

pub not_received : (act : Act) (done : List Act) → is_receiving act ≡ false
    → receives_in (act ∷ done) ≡ receives_in done
not_received act done is =
    count-cons is_receiving act done ∙ ap (λ b. cond b 1 0 + receives_in done) is ∙ none (receives_in done) where
      none : (n : ℕ) → 0 + n ≡ n
      none n = omega arith

-- the acts of a file's reading, and of its writing
one_read : (done : List Act) (uid : ℕ) (name : Label) (offset max : ℕ)
    → map operation_of done ≡ ReadsFile uid name offset max ∷ []
    → (outcome : Result (List ℕ) Failed) × (done ≡ acts.VaultRead uid name offset max outcome ∷ [])
one_read [] uid name offset max h = absurd cc
one_read (acts.VaultRead u n o m outcome ∷ []) uid name offset max h =
    let a : u ≡ uid = cc in
    let b : n ≡ name = cc in
    let c : o ≡ offset = cc in
    let d : m ≡ max = cc in (
      outcome,
      ap (λ x. acts.VaultRead x n o m outcome ∷ []) a ∙ ap (λ x. acts.VaultRead uid x o m outcome ∷ []) b
          ∙ ap (λ x. acts.VaultRead uid name x m outcome ∷ []) c
          ∙ ap (λ x. acts.VaultRead uid name offset x outcome ∷ []) d,
    )
one_read (acts.Accept outcome ∷ []) uid name offset max h = absurd cc
one_read (acts.Start role outcome ∷ []) uid name offset max h = absurd cc
one_read (acts.Finish role ∷ []) uid name offset max h = absurd cc
one_read (acts.HangUp ∷ []) uid name offset max h = absurd cc
one_read (acts.ConnRecv most outcome ∷ []) uid name offset max h = absurd cc
one_read (acts.ConnSend bytes outcome ∷ []) uid name offset max h = absurd cc
one_read (acts.VaultWrite u n o bytes outcome ∷ []) uid name offset max h = absurd cc
one_read (acts.Clock moment ∷ []) uid name offset max h = absurd cc
one_read (a ∷ b ∷ done) uid name offset max h = absurd cc

one_written : (done : List Act) (uid : ℕ) (name : Label) (offset : ℕ) (text : List ℕ)
    → map operation_of done ≡ WritesFile uid name offset text ∷ []
    → (outcome : Result (Unit {0}) Failed) × (done ≡ acts.VaultWrite uid name offset text outcome ∷ [])
one_written [] uid name offset text h = absurd cc
one_written (acts.VaultWrite u n o t outcome ∷ []) uid name offset text h =
    let a : u ≡ uid = cc in
    let b : n ≡ name = cc in
    let c : o ≡ offset = cc in
    let d : t ≡ text = cc in (
      outcome,
      ap (λ x. acts.VaultWrite x n o t outcome ∷ []) a ∙ ap (λ x. acts.VaultWrite uid x o t outcome ∷ []) b
          ∙ ap (λ x. acts.VaultWrite uid name x t outcome ∷ []) c
          ∙ ap (λ x. acts.VaultWrite uid name offset x outcome ∷ []) d,
    )
one_written (acts.Accept outcome ∷ []) uid name offset text h = absurd cc
one_written (acts.Start role outcome ∷ []) uid name offset text h = absurd cc
one_written (acts.Finish role ∷ []) uid name offset text h = absurd cc
one_written (acts.HangUp ∷ []) uid name offset text h = absurd cc
one_written (acts.ConnRecv most outcome ∷ []) uid name offset text h = absurd cc
one_written (acts.ConnSend bytes outcome ∷ []) uid name offset text h = absurd cc
one_written (acts.VaultRead u n o m outcome ∷ []) uid name offset text h = absurd cc
one_written (acts.Clock moment ∷ []) uid name offset text h = absurd cc
one_written (a ∷ b ∷ done) uid name offset text h = absurd cc

-- the file of a handle, by the account and the files that are open
abbrev file_with : ℕ → Option Label → Option File
file_with uid name = option_map (λ label. let f : File = record { uid = uid; name = label } in f) name

abbrev name_in : List Event → ℕ → Option Label
name_in live handle = option_and_then (λ e. label_named e.ask) (find (λ e. value_of e.decision == handle) live)

abbrev file_by : Option Account → List Event → ℕ → Option File
file_by found live handle = option_and_then (λ (a : Account). file_with a.uid (name_in live handle)) found

module _ (service : Service) (journal : List Event) (worker session : ℕ) (legal : IsLegal service.setup journal)
    (none : has_lost journal ≡ false) (small : session < 2 ^ 32) (account : Account) (state : StateValue) (why : Why)
    (final : Option Step) (rest unread : List ℕ) (ended : EndsSo service.setup.frames (EndsSession why) final rest
    unread) (behind : List Place) (user : Name) (found : account_of service.setup user ≡ Some account) where
  abbrev pub acts_left : List Step → List Act
  acts_left served =
      step_acts (late.left_after service journal worker session legal none small account state why final rest unread
      ended behind served)

  abbrev pub Here : State → (List Event → Type 0) → List Exchange → List Step → Type 0
  Here s Q history served =
      late.Here service journal worker session legal none small account state why final rest unread ended behind s Q
      history served

  abbrev pub Met : RequestValue → State → (List Event → Type 0) → List Exchange → List Step → Type 0
  Met request s Q history served =
      late.Met service journal worker session legal none small account state why final rest unread ended behind request
      s Q history served

  abbrev pub Logged : List Event → List Event → Type 0
  Logged live before =
      late.Logged service journal worker session legal none small account state why final rest unread ended behind user
      live before

  lasts_with : (live : List Event) → Lasts service.setup journal worker session (Logged live)
  lasts_with live = having service.setup journal worker session user live

  -- a request was done by these operations
  pub record Asked (request : RequestValue) (body : List ℕ) (next : State) (R : List Event → Type 0)
      (history : List Exchange) (served : List Step) (lines bytes : List ℕ) (own : List Act) : Type 0 where
    pub steps : List Step
    pub now : Here next R (had request (Done body) ∷ history) steps
    pub well : GoesWell lines bytes (acts_left steps)
    pub acts : acts_left served ≡ own ++ acts_left steps

  asked : (request : RequestValue) (body : List ℕ) (s next : State) (Q R : List Event → Type 0)
      (history : List Exchange) (served : List Step) (lines bytes : List ℕ) (own : List Act)
      → (v : Met request s Q history served) → user_next (who_of account) history ≡ Some request
      → length history < 4097 → ends_session v.step.place.event ≡ false → exports v.step.place.event ≡ false
      → Stage service.setup journal worker session next R (v.step.place.before ++ v.step.place.event ∷ [])
      → answer_to service (state_bytes state) v.step ≡ spelling_of service.setup.frames
      (reply_message (request_message request) session (Done body)) → IsReadable session request (Done body)
      → v.step.acts ≡ own → GoesWell lines bytes (step_acts v.left)
      → Asked request body next R history served lines bytes own
  asked request body s next Q R history served lines bytes own v some few going unexported stage told read is well =
      let b = answered_now service journal worker session legal none small (User (who_of account)) (state_bytes state)
      (EndsSession why) final rest unread ended behind request (Done body) s next Q R history served v some few going
      unexported stage told read in
      record {
        steps = b.more;
        now = b.now;
        well = subst (λ steps. GoesWell lines bytes (step_acts steps)) b.left_is well;
        acts = ap step_acts v.are ∙ ap (λ done. done ++ step_acts v.left) is
            ∙ ap (λ steps. own ++ step_acts steps) b.left_is;
      }

  -- what goes well after the acts of the next step
  goes_on : (request : RequestValue) (s : State) (Q : List Event → Type 0) (history : List Exchange)
      (served : List Step) (lines bytes : List ℕ) (own : List Act) → (v : Met request s Q history served)
      → v.step.acts ≡ own → GoesWell lines bytes (acts_left served)
      → GoesWell lines bytes (own ++ step_acts v.left)
  goes_on request s Q history served lines bytes own v is well =
      subst (λ done. GoesWell lines bytes (done ++ step_acts v.left)) is
      (subst (λ steps. GoesWell lines bytes (step_acts steps)) v.are well)

  -- ---- a text to the client

  pub record Said (s : State) (live : List Event) (history : List Exchange) (served : List Step)
      (lines bytes text : List ℕ) : Type 0 where
    pub sent : Unit {0}
    pub asked : Asked (say text) [] (more 1 s) (Logged live) history served lines bytes
        (acts.ConnSend text (Ok sent) ∷ [])

  pub says : (asked' tried : ℕ) (live : List Event) (history : List Exchange) (served : List Step)
      (lines bytes text : List ℕ) → Here (serving_state asked' tried) (Logged live) history served
      → user_next (who_of account) history ≡ Some (say text) → (1 ≤ length text) × (length text ≤ 16000)
      → length history < 4097 → asked' < service.setup.requests → GoesWell lines bytes (acts_left served)
      → Said (serving_state asked' tried) live history served lines bytes text
  says asked' tried live history served lines bytes text now next size short room well =
      let s = serving_state asked' tried in
      let v = next_served service journal worker session legal none small (User (who_of account)) (state_bytes state)
      (EndsSession why) final rest unread ended behind (say text) s (Logged live) history served (lasts_with live) now
      next (lit< tt, lit< tt, size.0, size.1) short in
      let ask : v.step.place.event.ask ≡ asks.WriteAt 0 0 (length text) = v.meets.asks in
      let t = talks service journal worker session legal none small (User (who_of account)) (state_bytes state)
      (EndsSession why) final rest unread ended behind (say text) s (Logged live) history served (lasts_with live) v
      (ap is_talk ask) refl room in
      let sent = says_text service v.step text (lit< tt, lit< tt, size.0, size.1) v.is v.meets.message ask t.permit in
      by_outcome v t sent.0 sent.1 (goes_on (say text) s (Logged live) history served lines bytes
      (acts.ConnSend text sent.0 ∷ []) v sent.1 well) where
        by_outcome : (v : Met (say text) (serving_state asked' tried) (Logged live) history served)
            → Talks service journal worker session legal none small (User (who_of account)) (state_bytes state)
            (EndsSession why) final rest unread ended behind (serving_state asked' tried) (Logged live) v.step
            → (outcome : Result (Unit {0}) Failed) → v.step.acts ≡ acts.ConnSend text outcome ∷ []
            → GoesWell lines bytes (acts.ConnSend text outcome ∷ step_acts v.left)
            → Said (serving_state asked' tried) live history served lines bytes text
        by_outcome v t (Err failed) is well' = absurd well'
        by_outcome v t (Ok sent) is well' =
            let told = answer_done service (state_bytes state) session (say text) v.step
            (asks.WriteAt 0 0 (length text)) 0 v.meets.message t.own v.meets.asks t.permit (λ len e. absurd cc)
            (ap (filter_map failed_device) is) in
            record {
              sent = sent;
              asked = asked (say text) [] (serving_state asked' tried) (more 1 (serving_state asked' tried))
                  (Logged live) (Logged live) history served lines bytes (acts.ConnSend text (Ok sent) ∷ []) v next short
                  t.going t.unexported t.stage told
                  (readable session (say text) (Done []) small tt refl (short_reply [] (lit≤ tt))) is well';
            }

  -- ---- more bytes of the client

  pub record Read (s : State) (live : List Event) (history : List Exchange) (served : List Step)
      (lines bytes : List ℕ) : Type 0 where
    pub c : ℕ
    pub body : List ℕ
    pub few : length (c ∷ body) ≤ 512
    pub agrees : AgreesWith lines (bytes ++ c ∷ body)
    pub step : Step
    pub steps : List Step
    pub served_is : served ≡ step ∷ steps
    pub now : Here (more 1 s) (Logged live) (had read_more (Done (c ∷ body)) ∷ history) steps
    pub well : GoesWell lines (bytes ++ c ∷ body) (acts_left steps)
    pub acts : acts_left served ≡ acts.ConnRecv 512 (Ok (c ∷ body)) ∷ acts_left steps

  pub reads : (asked' tried : ℕ) (live : List Event) (history : List Exchange) (served : List Step)
      (lines bytes : List ℕ) → Here (serving_state asked' tried) (Logged live) history served
      → user_next (who_of account) history ≡ Some read_more → length history < 4097 → asked' < service.setup.requests
      → length bytes < length lines → GoesWell lines bytes (acts_left served)
      → Read (serving_state asked' tried) live history served lines bytes
  reads asked' tried live history served lines bytes now next short room missing well =
      let s = serving_state asked' tried in
      let v = next_served service journal worker session legal none small (User (who_of account)) (state_bytes state)
      (EndsSession why) final rest unread ended behind read_more s (Logged live) history served (lasts_with live) now
      next (lit< tt, lit< tt, lit≤ tt, lit≤ tt) short in
      let ask : v.step.place.event.ask ≡ asks.ReadAt 0 0 512 = v.meets.asks in
      let t = talks service journal worker session legal none small (User (who_of account)) (state_bytes state)
      (EndsSession why) final rest unread ended behind read_more s (Logged live) history served (lasts_with live) v
      (ap is_talk ask) refl room in
      let got = receives_bytes service v.step v.step.message 512 v.is.acts ask t.permit in
      by_outcome v t got.0 got.1 (goes_on read_more s (Logged live) history served lines bytes
      (acts.ConnRecv 512 got.0 ∷ []) v got.1 well) where
        by_outcome : (v : Met read_more (serving_state asked' tried) (Logged live) history served)
            → Talks service journal worker session legal none small (User (who_of account)) (state_bytes state)
            (EndsSession why) final rest unread ended behind (serving_state asked' tried) (Logged live) v.step
            → (outcome : Result (List ℕ) Failed) → v.step.acts ≡ acts.ConnRecv 512 outcome ∷ []
            → GoesWell lines bytes (acts.ConnRecv 512 outcome ∷ step_acts v.left)
            → Read (serving_state asked' tried) live history served lines bytes
        by_outcome v t (Err failed) is well' = absurd well'
        by_outcome v t (Ok []) is well' = absurd (omega (arith, (well'.0 missing).0))
        by_outcome v t (Ok (c ∷ body)) is well' =
            let piece = well'.0 missing in
            let body_is : done_body service (state_bytes state) v.step.place v.step.acts (asks.ReadAt 0 0 512) 0 ≡ c
            ∷ body = ap (flat_map bytes_read) is ∙ append-nil (c ∷ body) in
            let told = answer_done service (state_bytes state) session read_more v.step (asks.ReadAt 0 0 512) 0
            v.meets.message t.own v.meets.asks t.permit (λ len e. absurd cc) (ap (filter_map failed_device) is) in
            let told' = subst (λ b. answer_to service (state_bytes state) v.step ≡ spelling_of service.setup.frames
            (reply_message (request_message read_more) session (Done b))) body_is told in
            let b = answered_now service journal worker session legal none small (User (who_of account))
            (state_bytes state) (EndsSession why) final rest unread ended behind read_more (Done (c ∷ body))
            (serving_state asked' tried) (more 1 (serving_state asked' tried)) (Logged live) (Logged live) history served
            v next short t.going t.unexported t.stage told' (readable session read_more (Done (c ∷ body)) small tt
            piece.1 (short_reply (c ∷ body) (omega (arith, piece.1)))) in
            record {
              c = c;
              body = body;
              few = piece.1;
              agrees = piece.2;
              step = v.step;
              steps = b.more;
              served_is = b.served_is;
              now = b.now;
              well = subst (λ steps. GoesWell lines (bytes ++ c ∷ body) (step_acts steps)) b.left_is well'.1;
              acts = ap step_acts v.are ∙ ap (λ done. done ++ step_acts v.left) is
                  ∙ ap (λ steps. acts.ConnRecv 512 (Ok (c ∷ body)) ∷ step_acts steps) b.left_is;
            }

  -- ---- OPEN

  -- a file is open: by this OPEN, as handle 1
  pub record IsOpening (mode : ℕ) (label : Label) (opening : Event) : Type 0 where
    pub handle : handle_of opening ≡ 1
    pub mode_is : mode_of opening.ask ≡ mode
    pub name : label_named opening.ask ≡ Some label

  pub record Opened (mode : ℕ) (name : List ℕ) (next : State) (history : List Exchange) (served : List Step)
      (lines bytes : List ℕ) : Type 0 where
    pub label : Label
    pub named : label_bytes label ≡ name
    pub opening : Event
    pub is : IsOpening mode label opening
    pub asked : Asked (requests.OpenFile mode name) (to_le_bytes w32 1) next (Logged (opening ∷ [])) history served
        lines bytes []

  pub opens : (mode : ℕ) (name : List ℕ) (asked' tried : ℕ) (history : List Exchange) (served : List Step)
      (lines bytes : List ℕ) → 1 ≤ mode → mode ≤ 3 → is_label name ≡ true → has_grant account mode name ≡ true
      → Here (serving_state asked' tried) (Logged []) history served
      → user_next (who_of account) history ≡ Some (requests.OpenFile mode name) → length history < 4097
      → asked' < service.setup.requests → GoesWell lines bytes (acts_left served)
      → Opened mode name (serving_state (asked' + 1) tried) history served lines bytes
  unfolding operations_of
  opens mode name asked' tried history served lines bytes some few is_name may now next short room well =
      let request = requests.OpenFile mode name in
      let s = serving_state asked' tried in
      let v = next_served service journal worker session legal none small (User (who_of account)) (state_bytes state)
      (EndsSession why) final rest unread ended behind request s (Logged []) history served (lasts_with []) now next
      (some, few, is_name) short in
      let p = v.step.place in
      let n = v.next in
      let label = v.meets.asks.0 in
      let named : label_bytes label ≡ name = v.meets.asks.1 in
      let ask : p.event.ask ≡ asks.OpenFile mode label = v.meets.asks.2 in
      let own = own_session service.setup journal worker session s p.before p.event n.holds.at n.comes n.own
      (ap came_by_frame ask) in
      let granted : is_allowed_by mode (find (λ g. same_label g.name label) account.grants) ≡ true = ap
      (λ t. option_map_or (λ g. allows g.mode mode) (find (λ g. bytes_eq (label_bytes g.name) t) account.grants) false)
      named ∙ may in
      let permit = open_permitted service.setup journal worker session s p.before p.event user account mode label
      n.holds.at n.comes n.own refl room ask found n.holds.known granted in
      let on = request_on service.setup journal worker session s (serving_state (asked' + 1) tried) p.before p.event
      (asks.OpenFile mode label) (Permit 1) n.holds.at n.comes n.own ask permit refl
      (ap (serving_state (asked' + 1)) (no_more_tried tried)) in
      let idle = no_acts v.step.acts (v.is.acts.operations
      ∙ ap (λ (k : Ask). operations_by service.setup p k v.step.message) ask) in
      let told = answer_done service (state_bytes state) session request v.step (asks.OpenFile mode label) 1
      v.meets.message own ask permit (λ len e. absurd cc) (ap (filter_map failed_device) idle) in
      record {
        label = label;
        named = named;
        opening = p.event;
        is = record { handle = ap value_of permit; mode_is = ap mode_of ask; name = ap label_named ask };
        asked = asked request (to_le_bytes w32 1) s (serving_state (asked' + 1) tried) (Logged [])
            (Logged (p.event ∷ [])) history served lines bytes [] v next short
            (event_by (λ e. ends_session e ≡ false) p.event (asks.OpenFile mode label) (Permit 1) ask permit refl)
            (event_by (λ e. exports e ≡ false) p.event (asks.OpenFile mode label) (Permit 1) ask permit refl)
            (record {
              at = on;
              known = opens_one service.setup journal worker session user p.before p.event mode 1 label own ask permit
                  n.holds.known;
            }) told
            (readable session request (Done (to_le_bytes w32 1)) small tt (refl, lit≤ tt, lit≤ tt)
            (short_reply (to_le_bytes w32 1) (lit≤ tt))) idle
            (goes_on request s (Logged []) history served lines bytes [] v idle well);
      }

  -- ---- a file that is open

  -- what is kept by a request that opens and closes nothing
  stays : (o : Event) (before : List Event) (e : Event) (ask : Ask) → e.session ≡ session → e.ask ≡ ask
      → e.decision ≡ Permit 0 → accepts (event_as e ask (Permit 0)) ≡ false
      → opens_file (event_as e ask (Permit 0)) ≡ false
      → ((handle : ℕ) → closes_file handle (event_as e ask (Permit 0)) ≡ false) → Logged (o ∷ []) before
      → Logged (o ∷ []) (before ++ e ∷ [])
  stays o before e ask own is permit silent opens closes known =
      leaves_files service.setup journal worker session user (o ∷ []) before e own
      (event_by (λ x. accepts x ≡ false) e ask (Permit 0) is permit silent)
      (event_by (λ x. opens_file x ≡ false) e ask (Permit 0) is permit opens)
      (λ handle. event_by (λ x. closes_file handle x ≡ false) e ask (Permit 0) is permit (closes handle)) known

  file_is : (mode : ℕ) (label : Label) (o : Event) (p : Place) → IsOpening mode label o → p.event.session ≡ session
      → Logged (o ∷ []) p.before
      → file_at service.setup p 1 ≡ Some (record { uid = account.uid; name = label })
  file_is mode label o p is own known =
      ap (λ (k : ℕ). file_by (account_named service.setup (verified_user p.before k)) (live_handles_of p.before k) 1) own
      ∙ ap (λ l. file_by (account_named service.setup (verified_user p.before session)) l 1) known.handles
      ∙ ap (λ u. file_by (account_named service.setup u) (o ∷ []) 1) known.verified
      ∙ ap (λ a. file_by a (o ∷ []) 1) found
      ∙ ap (λ b. file_with account.uid (option_and_then (λ (e : Event). label_named e.ask) (cond b (Some o) None)))
      (eq-eqb (handle_of o) 1 is.handle)
      ∙ ap (file_with account.uid) is.name

  pub record FileRead (label : Label) (o : Event) (next : State) (history : List Exchange) (served : List Step)
      (lines bytes : List ℕ) : Type 0 where
    pub got : List ℕ
    pub few : length got ≤ 4000
    pub asked : Asked (requests.ReadAt 1 0 4000) got next (Logged (o ∷ [])) history served lines bytes
        (acts.VaultRead account.uid label 0 4000 (Ok got) ∷ [])

  pub reads_file : (mode : ℕ) (label : Label) (o : Event) (asked' tried : ℕ) (history : List Exchange)
      (served : List Step) (lines bytes : List ℕ) → IsOpening mode label o → allows mode 1 ≡ true
      → Here (serving_state asked' tried) (Logged (o ∷ [])) history served
      → user_next (who_of account) history ≡ Some (requests.ReadAt 1 0 4000) → length history < 4097
      → asked' < service.setup.requests → GoesWell lines bytes (acts_left served)
      → FileRead label o (serving_state (asked' + 1) tried) history served lines bytes
  unfolding operations_of
  reads_file mode label o asked' tried history served lines bytes is may now next short room well =
      by_outcome got.0 got.1 (goes_on request s (Logged (o ∷ [])) history served lines bytes
      (acts.VaultRead account.uid label 0 4000 got.0 ∷ []) v got.1 well) where
        request : RequestValue
        request = requests.ReadAt 1 0 4000

        s : State
        s = serving_state asked' tried

        v : Met request s (Logged (o ∷ [])) history served
        v =
            next_served service journal worker session legal none small (User (who_of account)) (state_bytes state)
            (EndsSession why) final rest unread ended behind request s (Logged (o ∷ [])) history served
            (lasts_with (o ∷ [])) now next (lit< tt, lit< tt, lit≤ tt, lit≤ tt) short

        p : Place
        p = v.step.place

        ask : p.event.ask ≡ asks.ReadAt 1 0 4000
        ask = v.meets.asks

        own : p.event.session ≡ session
        own =
            own_session service.setup journal worker session s p.before p.event v.next.holds.at v.next.comes v.next.own
            (ap came_by_frame ask)

        permit : p.event.decision ≡ Permit 0
        permit =
            read_permitted service.setup journal worker session s p.before p.event user o 1 0 4000 v.next.holds.at
            v.next.comes v.next.own refl room ask refl v.next.holds.known is.handle
            (ap (λ m. allows m 1) is.mode_is ∙ may)

        got : (outcome : Result (List ℕ) Failed)
            × (v.step.acts ≡ acts.VaultRead account.uid label 0 4000 outcome ∷ [])
        got =
            one_read v.step.acts account.uid label 0 4000 (v.is.acts.operations
            ∙ ap (λ (k : Ask). operations_by service.setup p k v.step.message) ask
            ∙ ap (λ (d : Decision). cond (is_permit d) (read_operations 1 (file_at service.setup p 1) 0 4000) []) permit
            ∙ ap (λ f. read_operations 1 f 0 4000) (file_is mode label o p is own v.next.holds.known))

        by_outcome : (outcome : Result (List ℕ) Failed)
            → v.step.acts ≡ acts.VaultRead account.uid label 0 4000 outcome ∷ []
            → GoesWell lines bytes (acts.VaultRead account.uid label 0 4000 outcome ∷ step_acts v.left)
            → FileRead label o (serving_state (asked' + 1) tried) history served lines bytes
        by_outcome (Err failed) acts_are well' = absurd well'
        by_outcome (Ok found') acts_are well' =
            let on = request_on service.setup journal worker session s (serving_state (asked' + 1) tried) p.before
            p.event (asks.ReadAt 1 0 4000) (Permit 0) v.next.holds.at v.next.comes v.next.own ask permit refl
            (ap (serving_state (asked' + 1)) (no_more_tried tried)) in
            let body_is : done_body service (state_bytes state) p v.step.acts (asks.ReadAt 1 0 4000) 0 ≡ found' = ap
            (flat_map bytes_read) acts_are ∙ append-nil found' in
            let told = answer_done service (state_bytes state) session request v.step (asks.ReadAt 1 0 4000) 0
            v.meets.message own ask permit (λ len e. absurd cc) (ap (filter_map failed_device) acts_are) in
            let told' = subst (λ b. answer_to service (state_bytes state) v.step ≡ spelling_of service.setup.frames
            (reply_message (request_message request) session (Done b))) body_is told in
            record {
              got = found';
              few = well'.0;
              asked = asked request found' s (serving_state (asked' + 1) tried) (Logged (o ∷ [])) (Logged (o ∷ []))
                  history served lines bytes (acts.VaultRead account.uid label 0 4000 (Ok found') ∷ []) v next short
                  (event_by (λ e. ends_session e ≡ false) p.event (asks.ReadAt 1 0 4000) (Permit 0) ask permit refl)
                  (event_by (λ e. exports e ≡ false) p.event (asks.ReadAt 1 0 4000) (Permit 0) ask permit refl)
                  (record {
                    at = on;
                    known = stays o p.before p.event (asks.ReadAt 1 0 4000) own ask permit refl refl (λ handle. refl)
                        v.next.holds.known;
                  }) told' (readable session request (Done found') small tt well'.0
                  (short_reply found' (omega (arith, well'.0)))) acts_are well'.1;
            }

  pub record FileWritten (label : Label) (text : List ℕ) (o : Event) (next : State) (history : List Exchange)
      (served : List Step) (lines bytes : List ℕ) : Type 0 where
    pub written : Unit {0}
    pub asked : Asked (requests.WriteAt 1 0 text) [] next (Logged (o ∷ [])) history served lines bytes
        (acts.VaultWrite account.uid label 0 text (Ok written) ∷ [])

  pub writes_file : (mode : ℕ) (label : Label) (text : List ℕ) (o : Event) (asked' tried : ℕ) (history : List Exchange)
      (served : List Step) (lines bytes : List ℕ) → IsOpening mode label o → allows mode 2 ≡ true
      → (1 ≤ length text) × (length text ≤ 16000)
      → Here (serving_state asked' tried) (Logged (o ∷ [])) history served
      → user_next (who_of account) history ≡ Some (requests.WriteAt 1 0 text) → length history < 4097
      → asked' < service.setup.requests → GoesWell lines bytes (acts_left served)
      → FileWritten label text o (serving_state (asked' + 1) tried) history served lines bytes
  unfolding operations_of
  writes_file mode label text o asked' tried history served lines bytes is may size now next short room well =
      by_outcome put.0 put.1 (goes_on request s (Logged (o ∷ [])) history served lines bytes
      (acts.VaultWrite account.uid label 0 text put.0 ∷ []) v put.1 well) where
        request : RequestValue
        request = requests.WriteAt 1 0 text

        in_range : IsInRange frame_width request
        in_range = (lit< tt, lit< tt, size.0, size.1)

        s : State
        s = serving_state asked' tried

        v : Met request s (Logged (o ∷ [])) history served
        v =
            next_served service journal worker session legal none small (User (who_of account)) (state_bytes state)
            (EndsSession why) final rest unread ended behind request s (Logged (o ∷ [])) history served
            (lasts_with (o ∷ [])) now next in_range short

        p : Place
        p = v.step.place

        ask : p.event.ask ≡ asks.WriteAt 1 0 (length text)
        ask = v.meets.asks

        own : p.event.session ≡ session
        own =
            own_session service.setup journal worker session s p.before p.event v.next.holds.at v.next.comes v.next.own
            (ap came_by_frame ask)

        permit : p.event.decision ≡ Permit 0
        permit =
            write_permitted service.setup journal worker session s p.before p.event user o 1 0 (length text)
            v.next.holds.at v.next.comes v.next.own refl room ask refl v.next.holds.known is.handle
            (ap (λ m. allows m 2) is.mode_is ∙ may)

        written : written_bytes service.setup.frames (Some (request_message request)) ≡ text
        written = ap (λ (r : Result RequestValue Bad). written_by r) (reads_in request in_range service.setup.frames)

        put : (outcome : Result (Unit {0}) Failed)
            × (v.step.acts ≡ acts.VaultWrite account.uid label 0 text outcome ∷ [])
        put =
            one_written v.step.acts account.uid label 0 text (v.is.acts.operations
            ∙ ap (λ (m : Option Message). operations_of service.setup p m) v.meets.message
            ∙ ap (λ (k : Ask). operations_by service.setup p k (Some (request_message request))) ask
            ∙ ap (λ (d : Decision). cond (is_permit d) (write_operations 1 (file_at service.setup p 1) 0
            (written_bytes service.setup.frames (Some (request_message request)))) []) permit
            ∙ ap (λ f. write_operations 1 f 0 (written_bytes service.setup.frames (Some (request_message request))))
            (file_is mode label o p is own v.next.holds.known)
            ∙ ap (λ t. WritesFile account.uid label 0 t ∷ []) written)

        by_outcome : (outcome : Result (Unit {0}) Failed)
            → v.step.acts ≡ acts.VaultWrite account.uid label 0 text outcome ∷ []
            → GoesWell lines bytes (acts.VaultWrite account.uid label 0 text outcome ∷ step_acts v.left)
            → FileWritten label text o (serving_state (asked' + 1) tried) history served lines bytes
        by_outcome (Err failed) acts_are well' = absurd well'
        by_outcome (Ok done) acts_are well' =
            let on = request_on service.setup journal worker session s (serving_state (asked' + 1) tried) p.before
            p.event (asks.WriteAt 1 0 (length text)) (Permit 0) v.next.holds.at v.next.comes v.next.own ask permit refl
            (ap (serving_state (asked' + 1)) (no_more_tried tried)) in
            let told = answer_done service (state_bytes state) session request v.step (asks.WriteAt 1 0 (length text)) 0
            v.meets.message own ask permit (λ len e. absurd cc) (ap (filter_map failed_device) acts_are) in
            record {
              written = done;
              asked = asked request [] s (serving_state (asked' + 1) tried) (Logged (o ∷ [])) (Logged (o ∷ [])) history
                  served lines bytes (acts.VaultWrite account.uid label 0 text (Ok done) ∷ []) v next short
                  (event_by (λ e. ends_session e ≡ false) p.event (asks.WriteAt 1 0 (length text)) (Permit 0) ask permit
                  refl)
                  (event_by (λ e. exports e ≡ false) p.event (asks.WriteAt 1 0 (length text)) (Permit 0) ask permit refl)
                  (record {
                    at = on;
                    known = stays o p.before p.event (asks.WriteAt 1 0 (length text)) own ask permit refl refl
                        (λ handle. refl) v.next.holds.known;
                  }) told (readable session request (Done []) small tt refl (short_reply [] (lit≤ tt))) acts_are well';
            }

  -- ---- CLOSE

  pub closes : (mode : ℕ) (label : Label) (o : Event) (asked' tried : ℕ) (history : List Exchange)
      (served : List Step) (lines bytes : List ℕ) → IsOpening mode label o
      → Here (serving_state asked' tried) (Logged (o ∷ [])) history served
      → user_next (who_of account) history ≡ Some (requests.CloseFile 1) → length history < 4097
      → asked' < service.setup.requests → GoesWell lines bytes (acts_left served)
      → Asked (requests.CloseFile 1) [] (serving_state (asked' + 1) tried) (Logged []) history served lines bytes []
  unfolding operations_of
  closes mode label o asked' tried history served lines bytes is now next short room well =
      let request = requests.CloseFile 1 in
      let s = serving_state asked' tried in
      let v = next_served service journal worker session legal none small (User (who_of account)) (state_bytes state)
      (EndsSession why) final rest unread ended behind request s (Logged (o ∷ [])) history served (lasts_with (o ∷ []))
      now next (lit< tt) short in
      let p = v.step.place in
      let n = v.next in
      let ask : p.event.ask ≡ asks.CloseFile 1 = v.meets.asks in
      let own = own_session service.setup journal worker session s p.before p.event n.holds.at n.comes n.own
      (ap came_by_frame ask) in
      let permit = close_permitted service.setup journal worker session s p.before p.event user o 1 n.holds.at n.comes
      n.own refl room ask refl n.holds.known is.handle in
      let on = request_on service.setup journal worker session s (serving_state (asked' + 1) tried) p.before p.event
      (asks.CloseFile 1) (Permit 0) n.holds.at n.comes n.own ask permit refl
      (ap (serving_state (asked' + 1)) (no_more_tried tried)) in
      let idle = no_acts v.step.acts (v.is.acts.operations
      ∙ ap (λ (k : Ask). operations_by service.setup p k v.step.message) ask) in
      let told = answer_done service (state_bytes state) session request v.step (asks.CloseFile 1) 0 v.meets.message own
      ask permit (λ len e. absurd cc) (ap (filter_map failed_device) idle) in
      asked request [] s (serving_state (asked' + 1) tried) (Logged (o ∷ [])) (Logged []) history served lines bytes []
      v next short (event_by (λ e. ends_session e ≡ false) p.event (asks.CloseFile 1) (Permit 0) ask permit refl)
      (event_by (λ e. exports e ≡ false) p.event (asks.CloseFile 1) (Permit 0) ask permit refl)
      (record {
        at = on;
        known = closes_one service.setup journal worker session user p.before p.event o 1 own ask permit is.handle
            n.holds.known;
      }) told (readable session request (Done []) small tt refl (short_reply [] (lit≤ tt))) idle
      (goes_on request s (Logged (o ∷ [])) history served lines bytes [] v idle well)
