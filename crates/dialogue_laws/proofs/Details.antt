-- The numbers of a denial fit its reply.
use Rattle.std.proofs.Common.{◌≡◌, ℕ, ◌-◌, ◌<◌, ◌≤◌, ◌^◌, Bool, true, false, not, ◌&&◌, ◌||◌, cond, eqb, nat_eq}
use Rattle.std.proofs.Common.{List, [], ◌∷◌, length, Option, Some, None, filter, refl, sym, subst, ◌∙◌, arith, lit<}
use Rattle.std.proofs.Common.{lit≤}
use Rattle.std.specs.Prelude.{is_none, nat_le}
use Rattle.std.specs.List.{find, last_or, list_any}
use Rattle.request_catalogue.specs.declared.kind.Kind.{Kind}
use Rattle.request_catalogue.specs.declared.texts.Label.{Label}
use Rattle.request_catalogue.specs.declared.texts.Name.{Name}
use Rattle.request_catalogue.specs.Catalogue.{RequestValue}
use Rattle.request_catalogue.specs.Catalogue as requests
use Rattle.request_catalogue.specs.Replies.{Denied, IsAnswer}
use Rattle.policy_model.specs.declared.account.Account.{Account}
use Rattle.policy_model.specs.declared.account.Grant.{Grant}
use Rattle.policy_model.specs.declared.event.Ask.{Ask}
use Rattle.policy_model.specs.declared.event.Ask.TheVariants as asks
use Rattle.policy_model.specs.declared.event.Decision.{Decision}
use Rattle.policy_model.specs.declared.event.Decision.TheVariants.{Deny, Lost, Permit}
use Rattle.policy_model.specs.declared.event.Event.{Event}
use Rattle.policy_model.specs.declared.phase.Row.{Row}
use Rattle.policy_model.specs.declared.ranges.TheConstants.{EVENTS_LIMIT}
use Rattle.policy_model.specs.Asks.{came_by_frame, is_denied_reply, is_lost, is_proper, kind_of, mode_of, permits_kind}
use Rattle.policy_model.specs.Asks.{request_number, reserves, shown_of}
use Rattle.policy_model.specs.Cases.{account_named, grant_verdict, grants_of, is_holder, login_verdict}
use Rattle.policy_model.specs.Cases.{matching_verdict}
use Rattle.policy_model.specs.Cases.{readings_verdict, sequence_of, table_verdict, use_verdict}
use Rattle.policy_model.specs.Handles.{free_handle_of, handle_opening, live_handles_of}
use Rattle.policy_model.specs.Journal.{ask_count, count_of, has_event, open_session_of, openings_of}
use Rattle.policy_model.specs.Legal.{IsLegal, IsNext}
use Rattle.policy_model.specs.Logins.{account_of, challenged_user, current_sequence, holder_of, is_live, last_taking_of}
use Rattle.policy_model.specs.Logins.{session_taking, verified_user, was_accepted, was_decoyed}
use Rattle.policy_model.specs.Phases.{is_over, phase_of, table_row}
use Rattle.policy_model.specs.Runs.{AreNumbered}
use Rattle.policy_model.specs.Settings.{IsInRange, Settings, same_label}
use Rattle.policy_model.specs.Verdict.{IsVerdict, account_verdict, allows, challenge_verdict, close_verdict}
use Rattle.policy_model.specs.Verdict.{decoy_challenge, decoy_verdict, handle_verdict, info_verdict, is_held}
use Rattle.policy_model.specs.Verdict.{is_next_password, kind_verdict, open_verdict, own_verdict, readings}
use Rattle.policy_model.specs.Verdict.{reply_verdict}
use Rattle.policy_model.specs.Verdict.{request_verdict, row_verdict, verdict_of}
use Rattle.policy_model.proofs.LoginLemmas.{last_taking_of-last}
use Rattle.policy_model.proofs.Runs.{next_decision}
use Rattle.policy_model.proofs.Verdicts.{verdict_of-is, verdict_of-request}
use Rattle.session_laws.proofs.Openings.{legal_numbered, openings_few}
use Rattle.service_model.specs.Requests.{Asks}
use Rattle.dialogue_laws.proofs.Ranges.{Ranged}

-- the detail of a denial fits its four bytes
abbrev pub IsSmall : Decision → Type 0
IsSmall (Deny rule detail) = detail < 2 ^ 32
IsSmall _ = Unit {0}

small_if : (b : Bool) (one two : Decision) → IsSmall one → IsSmall two → IsSmall (cond b one two)
small_if true one two first second = first
small_if false one two first second = second

-- ---- what an ask names

-- the number that a denial of an ask may have as its detail
abbrev IsSmallAsk : Ask → Type 0
IsSmallAsk (asks.ReadAt handle offset max) = handle < 2 ^ 32
IsSmallAsk (asks.WriteAt handle offset len) = handle < 2 ^ 32
IsSmallAsk (asks.OpenFile mode name) = mode < 2 ^ 32
IsSmallAsk (asks.CloseFile handle) = handle < 2 ^ 32
IsSmallAsk (asks.Info number) = number < 2 ^ 32
IsSmallAsk (asks.Bad rule detail) = ⊥
IsSmallAsk _ = Unit {0}

-- an ask is a request, whose numbers are small
record IsAsked (ask : Ask) : Type 0 where
  pub request : came_by_frame ask ≡ true
  pub proper : is_proper ask ≡ true
  pub small : IsSmallAsk ask

asked_by : (words : List (List ℕ)) (request : RequestValue) (ask : Ask) → Ranged request → Asks words request ask
    → IsAsked ask
asked_by words requests.Banner ask range is =
    subst IsAsked (sym is) (record { request = refl; proper = refl; small = tt })
asked_by words (requests.Challenge user) ask range is =
    subst IsAsked (sym is.3) (record { request = refl; proper = refl; small = tt })
asked_by words (requests.Reply text) ask range is =
    subst IsAsked (sym is.3) (record { request = refl; proper = refl; small = tt })
asked_by words requests.Abandon ask range is =
    subst IsAsked (sym is) (record { request = refl; proper = refl; small = tt })
asked_by words (requests.Export state) ask range is =
    subst IsAsked (sym is) (record { request = refl; proper = refl; small = tt })
asked_by words requests.Import ask range is =
    subst IsAsked (sym is) (record { request = refl; proper = refl; small = tt })
asked_by words (requests.ReadAt handle offset max) ask range is =
    subst IsAsked (sym is) (record { request = refl; proper = refl; small = range.0 })
asked_by words (requests.WriteAt handle offset bytes) ask range is =
    subst IsAsked (sym is) (record { request = refl; proper = refl; small = range.0 })
asked_by words (requests.OpenFile mode name) ask range is =
    subst IsAsked (sym is.2) (record { request = refl; proper = refl; small = omega (arith, range.1) })
asked_by words (requests.CloseFile handle) ask range is =
    subst IsAsked (sym is) (record { request = refl; proper = refl; small = range })
asked_by words (requests.Info number) ask range is =
    subst IsAsked (sym is) (record { request = refl; proper = refl; small = range })
asked_by words (requests.Note text) ask range is =
    subst IsAsked (sym is.2) (record { request = refl; proper = refl; small = tt })
asked_by words requests.Finish ask range is =
    subst IsAsked (sym is) (record { request = refl; proper = refl; small = tt })

number_small : (ask : Ask) → request_number ask < 2 ^ 32
number_small asks.Begin = lit< tt
number_small asks.Banner = lit< tt
number_small (asks.Challenge user now) = lit< tt
number_small (asks.Reply words hex) = lit< tt
number_small asks.Abandon = lit< tt
number_small (asks.Export len) = lit< tt
number_small asks.Import = lit< tt
number_small (asks.ReadAt handle offset max) = lit< tt
number_small (asks.WriteAt handle offset len) = lit< tt
number_small (asks.OpenFile mode name) = lit< tt
number_small (asks.CloseFile handle) = lit< tt
number_small (asks.Info number) = lit< tt
number_small (asks.Note text) = lit< tt
number_small asks.Finish = lit< tt
number_small (asks.Bad rule detail) = lit< tt
number_small (asks.End why) = lit< tt

-- ---- the session that took a user

taker_below : (p : Event → Bool) (o : Option Event) (journal : List Event) (last : ℕ) (t : Event)
    → ((x : Event) → o ≡ Some x → x.session ≤ last) → AreNumbered journal last → last_or o (filter p journal) ≡ Some t
    → t.session ≤ last
taker_below p o [] last t first all is = first t is
taker_below p o (e ∷ es) last t first all is =
    elim (p e) as (λ b. last_or o (cond b (e ∷ filter p es) (filter p es)) ≡ Some t → t.session ≤ last) [
      | true ↦
          let own : (x : Event) → Some e ≡ Some x → x.session ≤ last = λ x same.
          let here : e ≡ x = cc in subst (λ (y : Event). y.session ≤ last) here all.0 in
          taker_below p (Some e) es last t own all.1
      | false ↦ taker_below p o es last t first all.1
    ] is

module _ (setup : Settings) (range : IsInRange setup) (journal : List Event) (legal : IsLegal setup journal)
    (few : length journal ≤ EVENTS_LIMIT) (session : ℕ) where
  taking_small : (user : Name) → session_taking (last_taking_of journal user) < 2 ^ 32
  taking_small user = by (last_taking_of journal user) refl where
    by : (o : Option Event) → last_taking_of journal user ≡ o → session_taking o < 2 ^ 32
    by None is = lit< tt
    by (Some t) is =
        let below = taker_below (reserves user) None journal (openings_of journal) t (λ x none. absurd cc)
        (legal_numbered setup journal legal) (sym (last_taking_of-last user journal) ∙ is) in
        omega (arith, below, openings_few journal, few)

  -- ---- the rules of each kind

  account_small : (user : Name) (now : ℕ) (account : Option Account)
      → IsSmall (account_verdict setup journal session user now account)
  account_small user now None = tt
  account_small user now (Some account) =
      let held : IsSmall (Deny 12 (session_taking (last_taking_of journal user))) = taking_small user in
      let permit : IsSmall (Permit (current_sequence journal account - 1)) = tt in
      let decoy : IsSmall (decoy_challenge setup user) = tt in
      small_if (not (is_live journal account)) _ _ decoy
      (small_if (is_held setup journal session user now) _ _ held permit)

  challenge_small : (user : Name) (now : ℕ) → IsSmall (challenge_verdict setup journal session user now)
  unfolding challenge_verdict
  challenge_small user now =
      let tries : IsSmall (Deny 8 setup.tries) = omega (arith, range.tries) in
      small_if (nat_le setup.tries (count_of journal session is_denied_reply)) (Deny 8 setup.tries)
      (account_verdict setup journal session user now (account_of setup user)) tries
      (account_small user now (account_of setup user))

  matching_small : (account : Account) (passwords : List ℕ) (o : Option ℕ)
      → IsSmall (matching_verdict journal account passwords o)
  matching_small account passwords (Some password) = tt
  matching_small account passwords None =
      small_if (list_any (was_accepted journal account) passwords) (Deny 15 0) (Deny 16 0) (lit< tt) (lit< tt)

  readings_small : (passwords : List ℕ) (account : Option Account)
      → IsSmall (readings_verdict journal passwords account)
  readings_small passwords None = lit< tt
  readings_small passwords (Some account) =
      matching_small account passwords (find (is_next_password journal account) passwords)

  login_small : (passwords : List ℕ) (user : Option Name) → IsSmall (login_verdict setup journal session passwords user)
  login_small passwords None = lit< tt
  login_small passwords (Some user) =
      small_if (not (is_holder session (holder_of journal user))) _ _ (taking_small user)
      (small_if (eqb (length passwords) 0) _ _ (lit< tt) (readings_small passwords (account_of setup user)))

  decoy_small : (passwords : List ℕ) → IsSmall (decoy_verdict passwords)
  decoy_small passwords = small_if (eqb (length passwords) 0) (Deny 14 0) (Deny 16 0) (lit< tt) (lit< tt)

  reply_small : (words hex : Option ℕ) → IsSmall (reply_verdict setup journal session words hex)
  unfolding reply_verdict
  reply_small words hex =
      small_if (was_decoyed journal session) _ _ (decoy_small (readings words hex))
      (login_small (readings words hex) (challenged_user journal session))

  use_small : (handle needed : ℕ) (o : Option Event) → handle < 2 ^ 32 → IsSmall (use_verdict handle needed o)
  use_small handle needed None small = small
  use_small handle needed (Some e) small =
      small_if (allows (mode_of e.ask) needed) (Permit 0) (Deny 18 handle) tt small

  handle_small : (handle needed : ℕ) → handle < 2 ^ 32 → IsSmall (handle_verdict journal session handle needed)
  unfolding handle_verdict
  handle_small handle needed small =
      small_if (eqb handle 0) (Permit 0) (use_verdict handle needed (handle_opening journal session handle)) tt
      (use_small handle needed (handle_opening journal session handle) small)

  grant_small : (free mode : ℕ) (o : Option Grant) → mode < 2 ^ 32 → IsSmall (grant_verdict free mode o)
  grant_small free mode None small = lit< tt
  grant_small free mode (Some grant) small = small_if (allows grant.mode mode) (Permit free) (Deny 21 mode) tt small

  open_small : (mode : ℕ) (name : Label) → mode < 2 ^ 32 → IsSmall (open_verdict setup journal session mode name)
  unfolding open_verdict
  open_small mode name small =
      small_if (nat_le 8 (length (live_handles_of journal session))) (Deny 19 8) _ (lit< tt)
      (grant_small (free_handle_of journal session) mode (find (λ g. same_label g.name name)
      (grants_of (account_named setup (verified_user journal session)))) small)

  close_small : (handle : ℕ) → handle < 2 ^ 32 → IsSmall (close_verdict journal session handle)
  unfolding close_verdict
  close_small handle small =
      small_if (eqb handle 0 || is_none (handle_opening journal session handle)) (Deny 17 handle) (Permit 0) small tt

  info_small : (number : ℕ) → number < 2 ^ 32 → IsSmall (info_verdict setup journal session number)
  unfolding info_verdict
  info_small number small =
      small_if (list_any (nat_eq number) setup.info)
      (Permit (sequence_of journal (account_named setup (verified_user journal session)))) (Deny 22 number) tt small

  kind_small : (ask : Ask) → IsSmallAsk ask → IsSmall (kind_verdict setup journal session ask)
  unfolding kind_verdict
  kind_small (asks.Challenge user now) small = challenge_small user now
  kind_small (asks.Reply words hex) small = reply_small words hex
  kind_small (asks.ReadAt handle offset max) small = handle_small handle 1 small
  kind_small (asks.WriteAt handle offset len) small = handle_small handle 2 small
  kind_small (asks.OpenFile mode name) small = open_small mode name small
  kind_small (asks.CloseFile handle) small = close_small handle small
  kind_small (asks.Info number) small = info_small number small
  kind_small _ small = tt

  -- ---- the table, and what comes before it

  row_small : (ask : Ask) (kind : Kind) (row : Row) → IsSmallAsk ask
      → IsSmall (row_verdict setup journal session ask kind row)
  row_small ask kind row small =
      small_if (not row.permitted) _ _ (number_small ask)
      (small_if (row.once && has_event journal session (permits_kind kind)) _ _ (number_small ask)
      (kind_small ask small))

  table_small : (ask : Ask) (kind : Option Kind) → IsSmallAsk ask
      → IsSmall (table_verdict setup journal session ask kind)
  table_small ask None small = tt
  table_small ask (Some kind) small = row_small ask kind (table_row (phase_of journal session) kind) small

  own_small : (ask : Ask) → IsSmallAsk ask → IsSmall (own_verdict setup journal session ask)
  own_small (asks.Bad rule detail) small = absurd small
  own_small ask small = table_small ask (kind_of ask) small

  request_small : (ask : Ask) → IsSmallAsk ask → IsSmall (request_verdict setup journal session ask)
  request_small ask small =
      let own = own_verdict setup journal session ask in
      let limit = eqb (ask_count journal session) setup.requests in
      let spent : IsSmall (Deny 1 setup.requests) = omega (arith, range.requests) in
      small_if (eqb session 0 || is_over journal session) (Deny 6 (request_number ask))
      (cond limit (Deny 1 setup.requests) own) (number_small ask)
      (small_if limit (Deny 1 setup.requests) own spent (own_small ask small))

-- ---- what is shown of a decision

shown_fits : (d : Decision) → IsVerdict d → IsSmall d → (rule detail : ℕ) → shown_of d ≡ Deny rule detail
    → IsAnswer (Denied rule detail)
shown_fits (Permit value) is small rule detail shown = absurd cc
shown_fits Lost is small rule detail shown = absurd is
shown_fits (Deny r t) is small rule detail shown = by (nat_le 13 r && nat_le r 16) shown where
  by : (b : Bool) → cond b (Deny 16 0) (Deny r t) ≡ Deny rule detail → IsAnswer (Denied rule detail)
  by true same =
      let one : 16 ≡ rule = cc in
      let two : 0 ≡ detail = cc in
      subst (λ (n : ℕ). IsAnswer (Denied n detail)) one (subst (λ (n : ℕ). IsAnswer (Denied 16 n)) two
      (lit≤ tt, lit≤ tt, lit< tt))
  by false same =
      let one : r ≡ rule = cc in
      let two : t ≡ detail = cc in
      subst (λ (n : ℕ). IsAnswer (Denied n detail)) one (subst (λ (n : ℕ). IsAnswer (Denied r n)) two
      (is.0, is.1, small))

-- the numbers of a denial of a request that is in its range fit its reply
pub denial_fits : (setup : Settings) (words : List (List ℕ)) (before : List Event) (e : Event) (request : RequestValue)
    → IsInRange setup → IsLegal setup before → length before ≤ EVENTS_LIMIT → IsNext setup before e
    → is_lost e.decision ≡ false → Ranged request → Asks words request e.ask → (rule detail : ℕ)
    → shown_of e.decision ≡ Deny rule detail → IsAnswer (Denied rule detail)
denial_fits setup words before e request range legal few next kept ranged is =
    let a = asked_by words request e.ask ranged is in
    let session = open_session_of before e.worker in
    let judged = next_decision setup before e next kept in
    let small : IsSmall (verdict_of setup before e.worker e.ask) = subst IsSmall
    (sym (verdict_of-request setup before e.worker e.ask a.request))
    (request_small setup range before legal few session e.ask a.small) in
    shown_fits e.decision (subst IsVerdict (sym judged) (verdict_of-is setup before e.worker e.ask a.proper))
    (subst IsSmall (sym judged) small)
