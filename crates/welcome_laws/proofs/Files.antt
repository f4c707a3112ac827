-- The user's child does what its client's lines ask of its files.
use Rattle.std.proofs.Common.{◌≡◌, ℕ, zero, suc, ◌+◌, ◌*◌, ◌<◌, ◌≤◌, ◌^◌, true, false, List, [], ◌∷◌, ◌++◌}
use Rattle.std.proofs.Common.{length, Option, Some, Ok, refl, sym, ap, subst, ◌∙◌, arith, inl, inr}
use Rattle.std.proofs.Common.{lit≤}
use Rattle.std.specs.Prelude.{codes, is_some}
use Rattle.std.specs.Fmt.{decimal}
use Rattle.std.specs.Int.{from_le_bytes, to_le_bytes, w32}
use Rattle.std.specs.List.{list_all}
use Rattle.std.proofs.lemmas.Bool.{and_from, and_parts}
use Rattle.std.proofs.lemmas.List.{append-nil, length-append}
use Rattle.request_catalogue.specs.declared.texts.Name.{Name}
use Rattle.request_catalogue.specs.Catalogue as requests
use Rattle.request_catalogue.specs.Replies.{Done}
use Rattle.request_catalogue.specs.Texts.{is_label}
use Rattle.outside.specs.declared.act.Act.{Act}
use Rattle.outside.specs.declared.act.Act.TheVariants as acts
use Rattle.policy_model.specs.declared.account.Account.{Account}
use Rattle.policy_model.specs.declared.event.Event.{Event}
use Rattle.policy_model.specs.declared.event.Why.{Why}
use Rattle.policy_model.specs.Journal.{Place, has_lost}
use Rattle.policy_model.specs.Legal.{IsLegal}
use Rattle.policy_model.specs.Logins.{account_of}
use Rattle.child_protocol.specs.Exchanges.{Exchange}
use Rattle.child_protocol.specs.Lines.{HasLines, Line, More, behind_lines, front_of, line_end}
use Rattle.child_protocol.specs.Pre.{read_more, say}
use Rattle.child_protocol.specs.User.{Get, Leave, Put, Remark, Tell, Unknown, UserCommand, is_content}
use Rattle.child_protocol.specs.User.{user_first}
use Rattle.child_protocol.proofs.MoreBytes.{HasLines-more, behind_lines-more, front_of-more}
use Rattle.state_export.specs.Spelling.{StateValue}
use Rattle.service_model.specs.Parts.{EndsSession, EndsSo}
use Rattle.service_model.specs.Places.{Step}
use Rattle.service_model.specs.Service.{Service}
use Rattle.service_model.proofs.Lists.{count-cons}
use Rattle.welcome_laws.specs.Client.{AgreesWith, is_receiving}
use Rattle.welcome_laws.specs.Files.{AreDone, BeginWithCommands, BeginsWithCommand, GoesWell, IsDone, file_text}
use Rattle.welcome_laws.specs.Files.{has_grant, is_granted}
use Rattle.welcome_laws.proofs.Late.{who_of}
use Rattle.welcome_laws.proofs.Lines.{IsWaiting, IsWhole, decimal_short, so_far}
use Rattle.welcome_laws.proofs.Meeting.{had}
use Rattle.welcome_laws.proofs.Served as served
use Rattle.welcome_laws.proofs.Served.{not_received, receives_in, serving_state}
use Rattle.welcome_laws.proofs.Tries.{only_end}
use Rattle.welcome_laws.proofs.UserLines.{Awaits, IsFileCommand, Underway, awaits_more, awaits_next, command_next}
use Rattle.welcome_laws.proofs.UserLines.{content_size, file_command, line_at, opened_next, user_done_next}

-- ---- lines

-- a line that was taken was one
earlier_lines : (count taken : ℕ) (bytes : List ℕ) → HasLines (line_at count taken) bytes → HasLines taken bytes
earlier_lines zero taken bytes has = has
earlier_lines (suc count) taken bytes has = earlier_lines count taken bytes has.0

-- while more of a line is to come, not all lines are there
still_short : (count : ℕ) (lines bytes text : List ℕ) → HasLines (suc count) lines
    → front_of (behind_lines count lines) ≡ Line text → front_of (behind_lines count bytes) ≡ More
    → AgreesWith lines bytes → length bytes < length lines
still_short count lines bytes text whole line more (inr (rest, is)) =
    let same : More ≡ Line text = sym more ∙ ap (λ b. front_of (behind_lines count b)) is
    ∙ ap front_of (behind_lines-more count lines rest whole.0)
    ∙ front_of-more (behind_lines count lines) rest whole.1 ∙ line in absurd cc
still_short count lines bytes text whole line more (inl ([], is)) =
    let same : More ≡ Line text = sym more
    ∙ ap (λ b. front_of (behind_lines count b)) (sym (is ∙ append-nil bytes)) ∙ line in absurd cc
still_short count lines bytes text whole line more (inl (c ∷ rest, is)) =
    omega (arith, ap length is, length-append bytes (c ∷ rest))

text_size : (bytes : List ℕ) → length bytes ≤ 4000
    → (1 ≤ length (file_text bytes)) × (length (file_text bytes) ≤ 16000)
text_size bytes few =
    let number = decimal (length bytes) in
    let first = codes "size " ++ number in
    let size : length (file_text bytes) ≡ 5 + length number + 1 + length bytes = omega (
      arith,
      length-append (first ++ codes "\n") bytes,
      length-append first (codes "\n"),
      length-append (codes "size ") number,
    ) in
    (omega (arith, size), omega (arith, size, few, decimal_short (length bytes) (omega (arith, few))))

first_handle : from_le_bytes w32 (to_le_bytes w32 1) ≡ 1
first_handle = refl

module _ (service : Service) (journal : List Event) (worker session : ℕ) (legal : IsLegal service.setup journal)
    (none : has_lost journal ≡ false) (small : session < 2 ^ 32) (account : Account) (state : StateValue) (why : Why)
    (final : Option Step) (rest unread : List ℕ) (ended : EndsSo service.setup.frames (EndsSession why) final rest
    unread) (behind : List Place) (user : Name) (found : account_of service.setup user ≡ Some account)
    (most : service.setup.requests ≤ 4096) (tried taken : ℕ) (lines : List ℕ) where
  abbrev acts_left : List Step → List Act
  acts_left steps =
      served.acts_left service journal worker session legal none small account state why final rest unread ended behind
      user found steps

  abbrev Here : ℕ → List Exchange → List Step → Type 0
  Here asked history steps =
      served.Here service journal worker session legal none small account state why final rest unread ended behind user
      found (serving_state asked tried) (served.Logged service journal worker session legal none small account state why
      final rest unread ended behind user found []) history steps

  -- the client's next line is waited for, and so many commands are to come
  pub record Expects (count more : ℕ) (steps : List Step) : Type 0 where
    pub history : List Exchange
    pub bytes : List ℕ
    pub asked : ℕ
    pub now : Here asked history steps
    pub awaits : Awaits (who_of account) count taken bytes history
    pub has : HasLines (line_at count taken) bytes
    pub agrees : AgreesWith lines bytes
    pub well : GoesWell lines bytes (acts_left steps)
    pub few : asked + (receives_in (acts_left steps) + 4 * more) ≤ service.setup.requests
    pub had_few : length history ≤ asked

  -- it came whole, after some receives
  record Lined (count more : ℕ) (steps : List Step) : Type 0 where
    pub received : List Act
    pub are : list_all is_receiving received ≡ true
    pub left : List Step
    pub acts : acts_left steps ≡ received ++ acts_left left
    pub expects : Expects count more left
    pub whole : IsWhole (line_at count taken) lines expects.bytes

  module _ (command : UserCommand) (count more : ℕ) (has : HasLines (line_at count taken) lines)
      (begin : BeginsWithCommand command (behind_lines (line_at count taken) lines)) where
    whole_line : HasLines (suc (line_at count taken)) lines
    whole_line = (has, ap is_some begin.whole)

    -- one more receive
    record ReadOn (steps : List Step) : Type 0 where
      pub act : Act
      pub is : is_receiving act ≡ true
      pub step : Step
      pub left : List Step
      pub steps_are : steps ≡ step ∷ left
      pub acts : acts_left steps ≡ act ∷ acts_left left
      pub expects : Expects count (suc more) left

    read_on : (steps : List Step) → (x : Expects count (suc more) steps) → IsWaiting (line_at count taken) lines x.bytes
        → ReadOn steps
    read_on steps x wait =
        let r = served.reads service journal worker session legal none small account state why final rest unread ended
        behind user found x.asked tried [] x.history steps lines x.bytes x.now
        (x.awaits.next ∙ ap (λ f. Some (user_first f)) wait.front) (omega (arith, x.had_few, x.few, most))
        (omega (arith, x.few))
        (still_short (line_at count taken) lines x.bytes begin.text whole_line begin.front wait.front x.agrees)
        x.well in
        let chunk = r.c ∷ r.body in
        let counted : receives_in (acts_left steps) ≡ 1 + receives_in (acts_left r.steps) = ap receives_in r.acts
        ∙ count-cons is_receiving (acts.ConnRecv 512 (Ok chunk)) (acts_left r.steps) in
        record {
          act = acts.ConnRecv 512 (Ok chunk);
          is = refl;
          step = r.step;
          left = r.steps;
          steps_are = r.served_is;
          acts = r.acts;
          expects = record {
            history = had read_more (Done chunk) ∷ x.history;
            bytes = x.bytes ++ chunk;
            asked = x.asked + 1;
            now = r.now;
            awaits = awaits_more (who_of account) count taken x.bytes x.history r.c r.body
                (earlier_lines count taken x.bytes x.has) x.awaits;
            has = HasLines-more (line_at count taken) x.bytes chunk x.has;
            agrees = r.agrees;
            well = r.well;
            few = omega (arith, x.few, counted);
            had_few = omega (arith, x.had_few);
          };
        }

    at_line : (steps : List Step) → (x : Expects count (suc more) steps) → IsWhole (line_at count taken) lines x.bytes
        → Lined count (suc more) steps
    at_line steps x whole =
        record { received = []; are = refl; left = steps; acts = refl; expects = x; whole = whole }

    after_one : (steps : List Step) → (r : ReadOn steps) → Lined count (suc more) r.left → Lined count (suc more) steps
    after_one steps r l = record {
      received = r.act ∷ l.received;
      are = and_from (is_receiving r.act) (list_all is_receiving l.received) r.is l.are;
      left = l.left;
      acts = r.acts ∙ ap (λ done. r.act ∷ done) l.acts;
      expects = l.expects;
      whole = l.whole;
    }

    lined : (steps : List Step) → Expects count (suc more) steps → Lined count (suc more) steps
    lined [] x =
        elim (so_far (line_at count taken) lines x.bytes whole_line
        (only_end (line_end (behind_lines (line_at count taken) lines)) begin.end begin.whole begin.short) x.has
        x.agrees) [
          | inl all ↦ at_line [] x all
          | inr wait ↦ let r = read_on [] x wait in let no : [] ≡ r.step ∷ r.left = r.steps_are in absurd cc
        ]
    lined (first ∷ steps) x =
        elim (so_far (line_at count taken) lines x.bytes whole_line
        (only_end (line_end (behind_lines (line_at count taken) lines)) begin.end begin.whole begin.short) x.has
        x.agrees) [
          | inl all ↦ at_line (first ∷ steps) x all
          | inr wait ↦
              let r = read_on (first ∷ steps) x wait in
              let same : r.left ≡ steps = let both : first ∷ steps ≡ r.step ∷ r.left = r.steps_are in cc in
              after_one (first ∷ steps) r (subst (λ left. Lined count (suc more) left) (sym same)
              (lined steps (subst (Expects count (suc more)) same r.expects)))
        ]

  -- ---- a command

  -- it was done, and the next line is waited for
  record Did (command : UserCommand) (count more : ℕ) (steps : List Step) : Type 0 where
    pub own : List Act
    pub is_done : IsDone account command own
    pub left : List Step
    pub acts : acts_left steps ≡ own ++ acts_left left
    pub expects : Expects (suc count) more left

  under : (count more : ℕ) (command : UserCommand) (steps : List Step) → (x : Expects count more steps)
      → IsWhole (line_at count taken) lines x.bytes
      → BeginsWithCommand command (behind_lines (line_at count taken) lines)
      → Underway (who_of account) count taken x.bytes command x.history
  under count more command steps x whole begin = record {
    texts = x.awaits.texts;
    came = x.awaits.came;
    line = begin.text;
    front = whole.same ∙ begin.front;
    is = begin.is;
  }

  gets : (count more : ℕ) (name : List ℕ) (steps : List Step) → (x : Expects count (suc more) steps)
      → IsWhole (line_at count taken) lines x.bytes
      → BeginsWithCommand (Get name) (behind_lines (line_at count taken) lines) → has_grant account 1 name ≡ true
      → Did (Get name) count more steps
  gets count more name steps x whole begin may =
      let who = who_of account in
      let u = under count (suc more) (Get name) steps x whole begin in
      let handle = to_le_bytes w32 1 in
      let is_name : is_label name ≡ true = subst IsFileCommand begin.is (file_command begin.text) in
      let o = served.opens service journal worker session legal none small account state why final rest unread ended
      behind user found 1 name x.asked tried x.history steps lines x.bytes (lit≤ tt) (lit≤ tt) is_name may x.now
      (command_next who count taken x.bytes (Get name) x.history x.awaits u) (omega (arith, x.had_few, x.few, most))
      (omega (arith, x.few)) x.well in
      let first = had (requests.OpenFile 1 name) (Done handle) ∷ x.history in
      let r = served.reads_file service journal worker session legal none small account state why final rest unread
      ended behind user found 1 o.label o.opening (x.asked + 1) tried first o.asked.steps lines x.bytes o.is refl
      o.asked.now
      (opened_next who count taken x.bytes (Get name) x.history 1 name handle u
      ∙ ap (λ n. Some (requests.ReadAt n 0 4000)) first_handle) (omega (arith, x.had_few, x.few, most))
      (omega (arith, x.few)) o.asked.well in
      let second = had (requests.ReadAt 1 0 4000) (Done r.got) ∷ first in
      let c = served.closes service journal worker session legal none small account state why final rest unread ended
      behind user found 1 o.label o.opening (x.asked + 1 + 1) tried second r.asked.steps lines x.bytes o.is r.asked.now
      (user_done_next who (requests.ReadAt 1 0 4000) r.got first refl) (omega (arith, x.had_few, x.few, most))
      (omega (arith, x.few)) r.asked.well in
      let third = had (requests.CloseFile 1) (Done []) ∷ second in
      let text = file_text r.got in
      let t = served.says service journal worker session legal none small account state why final rest unread ended
      behind user found (x.asked + 1 + 1 + 1) tried [] third c.steps lines x.bytes text c.now
      (user_done_next who (requests.CloseFile 1) [] second refl) (text_size r.got r.few)
      (omega (arith, x.had_few, x.few, most)) (omega (arith, x.few)) c.well in
      let reading = acts.VaultRead account.uid o.label 0 4000 (Ok r.got) in
      let telling = acts.ConnSend text (Ok t.sent) in
      let last = acts_left t.asked.steps in
      let all : acts_left steps ≡ reading ∷ telling ∷ last = o.asked.acts ∙ r.asked.acts
      ∙ ap (λ done. reading ∷ done) (c.acts ∙ t.asked.acts) in
      let counted : receives_in (acts_left steps) ≡ receives_in last = ap receives_in all
      ∙ not_received reading (telling ∷ last) refl ∙ not_received telling last refl in
      record {
        own = reading ∷ telling ∷ [];
        is_done = (o.label, o.named, r.got, t.sent, refl);
        left = t.asked.steps;
        acts = all;
        expects = record {
          history = had (say text) (Done []) ∷ third;
          bytes = x.bytes;
          asked = x.asked + 1 + 1 + 1 + 1;
          now = t.asked.now;
          awaits = awaits_next who count taken x.bytes text (Get name) third
              (record { texts = u.texts; came = u.came; line = u.line; front = u.front; is = u.is }) refl;
          has = whole.whole;
          agrees = x.agrees;
          well = t.asked.well;
          few = omega (arith, x.few, counted);
          had_few = omega (arith, x.had_few);
        };
      }

  puts : (count more : ℕ) (name text : List ℕ) (steps : List Step) → (x : Expects count (suc more) steps)
      → IsWhole (line_at count taken) lines x.bytes
      → BeginsWithCommand (Put name text) (behind_lines (line_at count taken) lines)
      → has_grant account 2 name ≡ true → Did (Put name text) count more steps
  puts count more name text steps x whole begin may =
      let who = who_of account in
      let u = under count (suc more) (Put name text) steps x whole begin in
      let handle = to_le_bytes w32 1 in
      let parts : (is_label name ≡ true) × (is_content text ≡ true) = subst IsFileCommand begin.is
      (file_command begin.text) in
      let size = content_size text parts.1 in
      let o = served.opens service journal worker session legal none small account state why final rest unread ended
      behind user found 2 name x.asked tried x.history steps lines x.bytes (lit≤ tt) (lit≤ tt) parts.0 may x.now
      (command_next who count taken x.bytes (Put name text) x.history x.awaits u)
      (omega (arith, x.had_few, x.few, most)) (omega (arith, x.few)) x.well in
      let first = had (requests.OpenFile 2 name) (Done handle) ∷ x.history in
      let w = served.writes_file service journal worker session legal none small account state why final rest unread
      ended behind user found 2 o.label text o.opening (x.asked + 1) tried first o.asked.steps lines x.bytes o.is refl
      (size.0, omega (arith, size.1)) o.asked.now
      (opened_next who count taken x.bytes (Put name text) x.history 2 name handle u
      ∙ ap (λ n. Some (requests.WriteAt n 0 text)) first_handle) (omega (arith, x.had_few, x.few, most))
      (omega (arith, x.few)) o.asked.well in
      let second = had (requests.WriteAt 1 0 text) (Done []) ∷ first in
      let c = served.closes service journal worker session legal none small account state why final rest unread ended
      behind user found 2 o.label o.opening (x.asked + 1 + 1) tried second w.asked.steps lines x.bytes o.is w.asked.now
      (user_done_next who (requests.WriteAt 1 0 text) [] first refl) (omega (arith, x.had_few, x.few, most))
      (omega (arith, x.few)) w.asked.well in
      let third = had (requests.CloseFile 1) (Done []) ∷ second in
      let t = served.says service journal worker session legal none small account state why final rest unread ended
      behind user found (x.asked + 1 + 1 + 1) tried [] third c.steps lines x.bytes (codes "done\n") c.now
      (user_done_next who (requests.CloseFile 1) [] second refl) (lit≤ tt, lit≤ tt)
      (omega (arith, x.had_few, x.few, most)) (omega (arith, x.few)) c.well in
      let writing = acts.VaultWrite account.uid o.label 0 text (Ok w.written) in
      let telling = acts.ConnSend (codes "done\n") (Ok t.sent) in
      let last = acts_left t.asked.steps in
      let all : acts_left steps ≡ writing ∷ telling ∷ last = o.asked.acts ∙ w.asked.acts
      ∙ ap (λ done. writing ∷ done) (c.acts ∙ t.asked.acts) in
      let counted : receives_in (acts_left steps) ≡ receives_in last = ap receives_in all
      ∙ not_received writing (telling ∷ last) refl ∙ not_received telling last refl in
      record {
        own = writing ∷ telling ∷ [];
        is_done = (o.label, o.named, w.written, t.sent, refl);
        left = t.asked.steps;
        acts = all;
        expects = record {
          history = had (say (codes "done\n")) (Done []) ∷ third;
          bytes = x.bytes;
          asked = x.asked + 1 + 1 + 1 + 1;
          now = t.asked.now;
          awaits = awaits_next who count taken x.bytes (codes "done\n") (Put name text) third
              (record { texts = u.texts; came = u.came; line = u.line; front = u.front; is = u.is }) refl;
          has = whole.whole;
          agrees = x.agrees;
          well = t.asked.well;
          few = omega (arith, x.few, counted);
          had_few = omega (arith, x.had_few);
        };
      }

  did : (count more : ℕ) (command : UserCommand) (steps : List Step) → (x : Expects count (suc more) steps)
      → IsWhole (line_at count taken) lines x.bytes
      → BeginsWithCommand command (behind_lines (line_at count taken) lines) → is_granted account command ≡ true
      → Did command count more steps
  did count more (Get name) steps x whole begin may = gets count more name steps x whole begin may
  did count more (Put name text) steps x whole begin may = puts count more name text steps x whole begin may
  did count more (Tell number) steps x whole begin may = absurd cc
  did count more (Remark text) steps x whole begin may = absurd cc
  did count more Leave steps x whole begin may = absurd cc
  did count more Unknown steps x whole begin may = absurd cc

  -- all of them
  pub all_done : (commands : List UserCommand) (count : ℕ) (steps : List Step) → HasLines (line_at count taken) lines
      → BeginWithCommands commands (behind_lines (line_at count taken) lines)
      → list_all (is_granted account) commands ≡ true → Expects count (length commands) steps
      → AreDone account commands (acts_left steps)
  all_done [] count steps has begin may x = tt
  all_done (command ∷ commands) count steps has begin may x =
      let both = and_parts (is_granted account command) (list_all (is_granted account) commands) may in
      let l = lined command count (length commands) has begin.0 steps x in
      let d = did count (length commands) command l.left l.expects l.whole begin.0 both.0 in (
        l.received,
        d.own,
        acts_left d.left,
        l.acts ∙ ap (λ done. l.received ++ done) d.acts,
        l.are,
        d.is_done,
        all_done commands (suc count) d.left (has, ap is_some begin.0.whole) begin.1 both.1 d.expects,
      )
