-- The user's child, up to its welcome.
use Rattle.std.proofs.Common.{◌≡◌, ℕ, ◌+◌, ◌<◌, ◌≤◌, ◌^◌, Bool, true, false, ◌&&◌, ◌==◌, cond, List, [], ◌∷◌, ◌++◌}
use Rattle.std.proofs.Common.{length, Option, Some, Result, refl, ap, subst, ◌∙◌, arith, lit<}
use Rattle.std.specs.Prelude.{codes, filter_map, nat_le}
use Rattle.std.specs.Int.{to_le_bytes, w32}
use Rattle.std.specs.List.{find, list_all}
use Rattle.std.specs.Str.{bytes_eq}
use Rattle.std.proofs.lemmas.Bool.{and_from, and_parts, eq-eqb}
use Rattle.std.proofs.lemmas.Bool.Decides.{nat_tests}
use Rattle.std.proofs.lemmas.List.{length-append}
use Rattle.std.proofs.lemmas.Slice.Eq.{bytes_eq-Decides}
use Rattle.request_catalogue.specs.declared.texts.Name.{Name}
use Rattle.request_catalogue.specs.TextBytes.{name_bytes}
use Rattle.request_catalogue.specs.Catalogue.{RequestValue}
use Rattle.request_catalogue.specs.Catalogue as requests
use Rattle.request_catalogue.specs.Replies.{Done, reply_of}
use Rattle.imsg_frame.specs.Message.{Message, spelling_of}
use Rattle.imsg_frame.specs.Requests.{request_message}
use Rattle.outside.specs.declared.act.Act.TheVariants as acts
use Rattle.outside.specs.declared.act.Failed.{Failed}
use Rattle.policy_model.specs.declared.account.Account.{Account}
use Rattle.policy_model.specs.declared.event.Ask.{Ask}
use Rattle.policy_model.specs.declared.event.Ask.TheVariants as asks
use Rattle.policy_model.specs.declared.event.Decision.TheVariants.{Permit}
use Rattle.policy_model.specs.declared.event.Event.{Event}
use Rattle.policy_model.specs.declared.event.Why.{Why}
use Rattle.policy_model.specs.Asks.{accepts, came_by_frame, closes_file, ends_session, exports, is_permit, opens_file}
use Rattle.policy_model.specs.Cases.{account_named}
use Rattle.policy_model.specs.Journal.{Place, has_lost}
use Rattle.policy_model.specs.Legal.{IsLegal}
use Rattle.policy_model.specs.Logins.{account_of, verified_user}
use Rattle.policy_model.specs.Settings.{IsInRange as IsSetupInRange, Settings, are_distinct, are_grants, is_account}
use Rattle.policy_model.specs.Settings.{is_number, same_name}
use Rattle.child_protocol.specs.Exchanges.{Exchange, imported_unread}
use Rattle.child_protocol.specs.Pre.{say}
use Rattle.child_protocol.specs.Says.{User}
use Rattle.child_protocol.specs.User.{Who, greeting_of, user_next}
use Rattle.state_export.specs.Reading.{import_of, imported}
use Rattle.state_export.specs.Spelling.{IsState, StateValue, import_bytes, state_bytes}
use Rattle.state_export.proofs.Imports.{import_written}
use Rattle.state_export.proofs.States.{state_written}
use Rattle.service_model.specs.Acts.{failed_device, operations_by, operations_of}
use Rattle.service_model.specs.Answers.{answer_to, done_body, reply_message}
use Rattle.service_model.specs.Cases.{imported_state}
use Rattle.service_model.specs.Parts.{EndsSession, EndsSo}
use Rattle.service_model.specs.Places.{Step, step_acts}
use Rattle.service_model.specs.Service.{Service}
use Rattle.login_laws.specs.Login.{is_talk}
use Rattle.login_laws.proofs.Judged.{import_permitted}
use Rattle.login_laws.proofs.Files.{Has, having, leaves_files}
use Rattle.login_laws.proofs.Stages.{import_on}
use Rattle.login_laws.proofs.Walk.{State, own_session}
use Rattle.welcome_laws.proofs.Before.{user_state}
use Rattle.welcome_laws.proofs.Lines.{state_short}
use Rattle.welcome_laws.proofs.Meeting.{had, name_short, readable}
use Rattle.welcome_laws.proofs.Serving.{Now, Served, answer_done, answered_now, event_by, left_of, next_served, no_acts}
use Rattle.welcome_laws.proofs.Serving.{says_text, talks}

-- ---- the account's number

found_fits : {X : Type 0} (p q : X → Bool) (xs : List X) (x : X) → list_all q xs ≡ true → find p xs ≡ Some x
    → q x ≡ true
found_fits p q [] x all h = absurd cc
found_fits p q (y ∷ ys) x all h =
    let here = and_parts (q y) (list_all q ys) all in go (p y) h here.0 (found_fits p q ys x here.1) where
      go : (b : Bool) → cond b (Some y) (find p ys) ≡ Some x → q y ≡ true → (find p ys ≡ Some x → q x ≡ true)
          → q x ≡ true
      go true h first rest = let same : y ≡ x = cc in subst (λ z. q z ≡ true) same first
      go false h first rest = rest h

small_uid : (setup : Settings) (user : Name) (account : Account) → IsSetupInRange setup
    → account_of setup user ≡ Some account → account.uid < 2 ^ 32
small_uid setup user account r found =
    let few = nat_le (length setup.accounts) 1024 in
    let each = list_all is_account setup.accounts in
    let names = are_distinct (λ (a b : Account). same_name a.name b.name) setup.accounts in
    let uids = are_distinct (λ (a b : Account). a.uid == b.uid) setup.accounts in
    let all : each ≡ true = (and_parts few each (and_parts (few && each) names
    (and_parts ((few && each) && names) uids r.accounts).0).0).1 in
    let fits : is_account account ≡ true = found_fits (λ a. same_name a.name user) is_account setup.accounts account all
    found in
    let is = (and_parts (is_number 1 4294967294 account.uid) (nat_le account.sequence 9999)
    (and_parts (is_number 1 4294967294 account.uid && nat_le account.sequence 9999) (are_grants account.grants)
    fits).0).0 in
    let le = (and_parts (nat_le 1 account.uid) (nat_le account.uid 4294967294) is).1 in
    below account.uid le
  where
    below : (n : ℕ) → nat_le n 4294967294 ≡ true → n < 2 ^ 32
    below n le = grind (arith, nat_tests, le)

-- ---- the dialogue

abbrev pub who_of : Account → Who
who_of account = record { uid = account.uid; name = name_bytes account.name }

abbrev pub welcome_text : Account → List ℕ
welcome_text account = codes "welcome " ++ name_bytes account.name ++ codes "\n"

first_next : (who : Who) → user_next who [] ≡ Some requests.Import
unfolding user_next
first_next who = refl

imported_next : (who : Who) (body : List ℕ)
    → user_next who (had requests.Import (Done body) ∷ []) ≡ Some (greeting_of who (import_of body))
unfolding user_next
imported_next who body = refl

-- the state that is told to the child greets it
greets : (account : Account) (state : StateValue) → IsState state → account.uid < 2 ^ 32
    → greeting_of (who_of account) (import_of (import_bytes account.uid (name_bytes account.name)
    (state_bytes state))) ≡ say (welcome_text account)
greets account state is small =
    ap (greeting_of (who_of account)) (import_written account.uid (name_bytes account.name) (state_bytes state) small
    account.name.legal ∙ ap (imported account.uid (name_bytes account.name)) (state_written state is))
    ∙ ap (λ b. cond b (say (welcome_text account)) requests.Finish)
    (and_from (account.uid == account.uid) (bytes_eq (name_bytes account.name) (name_bytes account.name))
    (eq-eqb account.uid account.uid refl) ((bytes_eq-Decides (name_bytes account.name) (name_bytes account.name)).1
    refl))

imported_short : (account : Account) (state : StateValue) → IsState state
    → length (reply_of (Done (import_bytes account.uid (name_bytes account.name) (state_bytes state)))) ≤ 16368
unfolding reply_of import_bytes
imported_short account state is =
    let name = name_bytes account.name in
    let head = to_le_bytes w32 account.uid ++ length name ∷ name in
    omega (
      arith,
      length-append head (state_bytes state),
      length-append (to_le_bytes w32 account.uid)
          (length name ∷ name),
      state_short state is,
      name_short name account.name.legal,
    )

pub welcome_short : (account : Account) → (1 ≤ length (welcome_text account)) × (length (welcome_text account) ≤ 16000)
welcome_short account =
    let name = name_bytes account.name in
    let size : length (welcome_text account) ≡ 8 + length name + 1 = omega
    (arith, length-append (codes "welcome " ++ name) (codes "\n"), length-append (codes "welcome ") name) in
    (omega (arith, size), omega (arith, size, name_short name account.name.legal))

module _ (service : Service) (journal : List Event) (worker session : ℕ) (legal : IsLegal service.setup journal)
    (none : has_lost journal ≡ false) (small : session < 2 ^ 32) (account : Account) (state : StateValue) (why : Why)
    (final : Option Step) (rest unread : List ℕ) (ended : EndsSo service.setup.frames (EndsSession why) final rest
    unread) (behind : List Place) where
  -- the child's steps that are left, and where its session stands
  abbrev pub left_after : List Step → List Step
  left_after served =
      left_of service journal worker session legal none small (User (who_of account)) (state_bytes state)
      (EndsSession why) final rest unread ended behind served

  abbrev pub Here : State → (List Event → Type 0) → List Exchange → List Step → Type 0
  Here s Q history served =
      Now service journal worker session legal none small (User (who_of account)) (state_bytes state) (EndsSession why)
      final rest unread ended behind s Q history served

  abbrev pub Met : RequestValue → State → (List Event → Type 0) → List Exchange → List Step → Type 0
  Met request s Q history served =
      Served service journal worker session legal none small (User (who_of account)) (state_bytes state)
      (EndsSession why) final rest unread ended behind request s Q history served

  abbrev pub Logged : Name → List Event → List Event → Type 0
  Logged user live before = Has service.setup journal worker session user live before

  -- the state that was imported, as a body
  abbrev pub told_state : List ℕ
  told_state = import_bytes account.uid (name_bytes account.name) (state_bytes state)

  -- after its first request, the IMPORT
  pub record Imported (user : Name) (asked tried : ℕ) (served : List Step) : Type 0 where
    pub step : Step
    pub more : List Step
    pub served_is : served ≡ step ∷ more
    pub acts : step_acts (left_after served) ≡ step_acts (left_after more)
    pub now : Here (record (user_state asked tried) { asked = asked + 1; imported = true }) (Logged user [])
        (had requests.Import (Done told_state) ∷ []) more
    pub next : user_next (who_of account) (had requests.Import (Done told_state) ∷ []) ≡ Some
        (say (welcome_text account))
    pub left_unread : imported_unread (import_of told_state) ≡ state.unread

  pub imports : IsSetupInRange service.setup → (user : Name) (asked tried : ℕ)
      → account_of service.setup user ≡ Some account → IsState state → asked + 2 ≤ service.setup.requests
      → (served : List Step) → Here (user_state asked tried) (Logged user []) [] served
      → Imported user asked tried served
  unfolding operations_of
  imports range user asked tried found in_range room served now =
      let Q = Logged user [] in
      let lasts = having service.setup journal worker session user [] in
      let who = who_of account in
      let s = user_state asked tried in
      let v = next_served service journal worker session legal none small (User who) (state_bytes state)
      (EndsSession why) final rest unread ended behind requests.Import s Q [] served lasts now (first_next who) tt
      (lit< tt) in
      let ask : v.step.place.event.ask ≡ asks.Import = v.meets.asks in
      let p = v.step.place in
      let n = v.next in
      let permit = import_permitted service.setup journal worker session s p.before p.event n.holds.at n.comes n.own
      refl refl (omega (arith, room)) ask in
      let on = import_on service.setup journal worker session s p.before p.event user n.holds.at n.comes n.own refl ask
      permit (record { verified = n.holds.known.verified }) in
      let own = own_session service.setup journal worker session s p.before p.event n.holds.at n.comes n.own
      (ap came_by_frame ask) in
      let idle = no_acts v.step.acts (v.is.acts.operations ∙ no_operations p v.step.message ask) in
      let at : account_named service.setup (verified_user p.before p.event.session) ≡ Some account = ap
      (λ (k : ℕ). account_named service.setup (verified_user p.before k)) own
      ∙ ap (account_named service.setup) n.holds.known.verified ∙ found in
      let body_is : done_body service (state_bytes state) p v.step.acts asks.Import 0 ≡ told_state = ap
      (λ o. imported_state o (state_bytes state)) at in
      let told = answer_done service (state_bytes state) session requests.Import v.step asks.Import 0 v.meets.message
      own ask permit (λ len e. absurd cc) (ap (filter_map failed_device) idle) in
      let told' = subst (λ b. answer_to service (state_bytes state) v.step ≡ spelling_of service.setup.frames
      (reply_message (request_message requests.Import) session (Done b))) body_is told in
      let b = answered_now service journal worker session legal none small (User who) (state_bytes state)
      (EndsSession why) final rest unread ended behind requests.Import (Done told_state) s
      (record s { asked = asked + 1; imported = true }) Q Q [] served v (first_next who) (lit< tt)
      (event_by (λ e. ends_session e ≡ false) p.event asks.Import (Permit 0) ask permit refl)
      (event_by (λ e. exports e ≡ false) p.event asks.Import (Permit 0) ask permit refl)
      (record {
        at = on.at;
        known = leaves_files service.setup journal worker session user [] p.before p.event own
            (event_by (λ e. accepts e ≡ false) p.event asks.Import (Permit 0) ask permit refl)
            (event_by (λ e. opens_file e ≡ false) p.event asks.Import (Permit 0) ask permit refl)
            (λ handle. event_by (λ e. closes_file handle e ≡ false) p.event asks.Import (Permit 0) ask permit refl)
            n.holds.known;
      }) told' (readable session requests.Import (Done told_state) small tt tt (imported_short account state in_range))
      in
      record {
        step = v.step;
        more = b.more;
        served_is = b.served_is;
        acts = ap step_acts v.are ∙ ap (λ done. done ++ step_acts v.left) idle ∙ ap step_acts b.left_is;
        now = b.now;
        next = imported_next who told_state ∙ ap (λ q. Some q)
            (greets account state in_range (small_uid service.setup user account range found));
        left_unread = ap imported_unread (import_written account.uid (name_bytes account.name) (state_bytes state)
            (small_uid service.setup user account range found) account.name.legal
            ∙ ap (imported account.uid (name_bytes account.name)) (state_written state in_range));
      }
    where
      no_operations : (p : Place) (message : Option Message) → p.event.ask ≡ asks.Import
          → operations_of service.setup p message ≡ []
      no_operations p message is = ap (λ (k : Ask). operations_by service.setup p k message) is

  -- the first two requests of the child
  pub record Told (served : List Step) : Type 0 where
    pub import : Step
    pub welcome : Step
    pub later : List Step
    pub served_is : served ≡ import ∷ welcome ∷ later
    pub permitted : is_permit welcome.place.event.decision ≡ true
    pub outcome : Result (Unit {0}) Failed
    pub told : welcome.acts ≡ acts.ConnSend (welcome_text account) outcome ∷ []

  pub late : IsSetupInRange service.setup → (user : Name) (asked tried : ℕ)
      → account_of service.setup user ≡ Some account → IsState state → asked + 2 ≤ service.setup.requests
      → (served : List Step) → Here (user_state asked tried) (Logged user []) [] served → Told served
  late range user asked tried found in_range room served now =
      let i = imports range user asked tried found in_range room served now in
      let s = record (user_state asked tried) { asked = asked + 1; imported = true } in
      let lasts = having service.setup journal worker session user [] in
      let text = welcome_text account in
      let history = had requests.Import (Done told_state) ∷ [] in
      let size = welcome_short account in
      let w = next_served service journal worker session legal none small (User (who_of account)) (state_bytes state)
      (EndsSession why) final rest unread ended behind (say text) s (Logged user []) history i.more lasts i.now i.next
      (lit< tt, lit< tt, size.0, size.1) (lit< tt) in
      let ask : w.step.place.event.ask ≡ asks.WriteAt 0 0 (length text) = w.meets.asks in
      let t = talks service journal worker session legal none small (User (who_of account)) (state_bytes state)
      (EndsSession why) final rest unread ended behind (say text) s (Logged user []) history i.more lasts w
      (ap is_talk ask) refl (omega (arith, room)) in
      let sent = says_text service w.step text (lit< tt, lit< tt, size.0, size.1) w.is w.meets.message ask t.permit in
      let inner = w.inner t.going t.unexported in
      record {
        import = i.step;
        welcome = w.step;
        later = inner.0;
        served_is = i.served_is ∙ ap (λ steps. i.step ∷ steps) inner.1;
        permitted = ap is_permit t.permit;
        outcome = sent.0;
        told = sent.1;
      }
