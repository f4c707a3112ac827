-- A user whose account is ready, before the session that asks for the user alone.
use Rattle.std.proofs.Common.{◌≡◌, ℕ, ◌-◌, Bool, true, false, not, ◌||◌, cond, eqb, List, [], ◌∷◌, length}
use Rattle.std.proofs.Common.{Option, None, Some, arith, drop, get_or, refl, sym, ap, subst, ◌∙◌, ◌+◌, ◌<◌}
use Rattle.std.specs.List.{find, list_any}
use Rattle.std.specs.Option.{option_map_or, option_to_list}
use Rattle.std.proofs.lemmas.Bool.{and_from, eq-eqb}
use Rattle.std.proofs.lemmas.List.{drop_more}
use Rattle.std.proofs.lemmas.List.Folds.{list_any-append}
use Rattle.request_catalogue.specs.declared.texts.Name.{Name}
use Rattle.otp_words.specs.Candidates.{AreCandidatesOf}
use Rattle.policy_model.specs.declared.account.Account.{Account}
use Rattle.policy_model.specs.declared.event.Event.{Event}
use Rattle.policy_model.specs.Logins.{current_sequence, holder_of, is_live, replies_of}
use Rattle.policy_model.specs.Settings.{Settings}
use Rattle.policy_model.specs.Verdict.{is_next_password}
use Rattle.session_laws.proofs.Permits.{found_name}
use Rattle.login_laws.specs.Login.{CanLogIn, IsRight}
use Rattle.welcome_rows.specs.declared.serving.Visit.{Visit}
use Rattle.welcome_rows.specs.Met.{CanBeReady, stands_in_way}
use Rattle.welcome_rows.proofs.Asked.{holder_own, unreplied_for}

-- the account at which a search through a list stops
pub found_in : (test : Account → Bool) (xs ys : List Account) (i : ℕ) (x : Account) → ys ≡ xs
    → find test xs ≡ find test (drop i xs) → i < length ys → x ≡ get_or ys i x → test x ≡ true → find test xs ≡ Some x
found_in test xs ys i x same so_far within is passes =
    let lt : i < length xs = subst (λ (zs : List Account). i < length zs) same within in
    so_far ∙ ap (find test) (drop_more xs i x lt)
    ∙ ap (λ y. find test (y ∷ drop (i + 1) xs)) (sym (is ∙ ap (λ (zs : List Account). get_or zs i x) same))
    ∙ ap (λ b. cond b (Some x) (find test (drop (i + 1) xs))) passes

module _ (setup : Settings) (visit : Visit) (before : List Event) (ready : CanBeReady setup visit) (session : ℕ)
    (alone : list_any (stands_in_way visit.user session) before ≡ false) where
  account : Account
  account = ready.account

  unreplied : replies_of before ready.account.name ≡ []
  unreplied = subst (λ (name : Name). replies_of before name ≡ []) (sym (found_name setup visit.user
      ready.account ready.found)) (unreplied_for visit.user session before alone)

  none_gone : ready.account.sequence - 0 ≡ ready.account.sequence
  none_gone = omega arith

  live : is_live before ready.account ≡ true
  live =
      and_from ready.account.enabled (not (eqb (current_sequence before ready.account) 0)) ready.ready.enabled
      (ap (λ (replies : List ℕ). not (eqb (ready.account.sequence - length replies) 0)) unreplied
      ∙ ap (λ n. not (eqb n 0)) none_gone ∙ ap not ready.ready.left)

  not_other : option_map_or (λ holder. not (eqb holder session)) (holder_of before visit.user) false ≡ false
  not_other = by (holder_of before visit.user) (holder_own visit.user session before alone) where
    by : (o : Option ℕ) → ((holder : ℕ) → o ≡ Some holder → holder ≡ session)
        → option_map_or (λ holder. not (eqb holder session)) o false ≡ false
    by None own = refl
    by (Some holder) own = ap not (eq-eqb holder session (own holder refl))

  pub can_log_in : (now : ℕ) → CanLogIn setup before session visit.user now ready.account
  can_log_in now = record { found = ready.found; live = live; free = rw not_other refl }

  next : is_next_password before ready.account ready.ready.password ≡ true
  next = rw unreplied (and_from _ _ ready.ready.next (ap (λ b. not (b || false)) ready.ready.fresh))

  pub is_right : (dictionary : List (List ℕ)) (words hex : Option ℕ)
      → AreCandidatesOf dictionary visit.response words hex
      → IsRight before ready.account words hex
  is_right dictionary words hex spelled = record {
    next = list_any-append (is_next_password before ready.account) (option_to_list words) (option_to_list hex)
        ∙ ap (λ (o : Option ℕ). list_any (is_next_password before ready.account) (option_to_list words) || list_any
        (is_next_password before ready.account) (option_to_list o)) (spelled.hexadecimal ∙ ready.ready.spelled)
        ∙ last (list_any (is_next_password before ready.account) (option_to_list words)) (is_next_password before
        ready.account ready.ready.password) next;
  } where
    last : (a b : Bool) → b ≡ true → (a || (b || false)) ≡ true
    last true b h = refl
    last false true h = refl
    last false false h = h
