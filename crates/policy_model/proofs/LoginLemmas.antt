-- What one more event makes of takings, holders and accepted passwords.
use Rattle.std.proofs.Common.{◌≡◌, ℕ, ◌+◌, ◌-◌, ◌≤◌, Bool, true, false, ◌&&◌, ◌||◌, not, cond, nat_eq, List, [], ◌∷◌, ◌++◌, length, Option, Some, None, refl, sym, ap, ◌∙◌, arith, filter, append_assoc, drop, length-append, reverse, unwrap_or}
use Rattle.std.specs.List.{after_last, cons_option, filter_map, last_or, list_any, prefix_len, suffix_len}
use Rattle.std.specs.Option.{option_to_list}
use Rattle.std.proofs.lemmas.List.{append-nil, drop_all, drop-append-le, length-reverse, reverse-append}
use Rattle.std.proofs.lemmas.List.Folds.{list_any-append}
use Rattle.request_catalogue.specs.declared.texts.Name.{Name}
use Rattle.policy_model.specs.declared.account.Account.{Account}
use Rattle.policy_model.specs.declared.event.Event.{Event}
use Rattle.policy_model.specs.Asks.{accepts, gives_up, reserves, takes}
use Rattle.policy_model.specs.Journal.{Place, is_own, last_event, places_after, places_of}
use Rattle.policy_model.specs.Logins.{challenged_user, current_password, last_taking_of, replies_of, reply_for, session_taking, verified_user, was_given_up}
use Rattle.policy_model.specs.Cases.{user_before, user_named}
use Rattle.policy_model.proofs.Lists.{last_or-filter_push}

places_after-push : (before events : List Event) (e : Event) → places_after before (events ++ e ∷ []) ≡ places_after before events ++ record { before = before ++ events; event = e } ∷ []
places_after-push before [] e = ap (λ (b : List Event). (let p : Place = record { before = b; event = e } in p) ∷ []) (sym (append-nil before))
places_after-push before (x ∷ xs) e =
    ap (λ (ps : List Place). (let p : Place = record { before = before; event = x } in p) ∷ ps)
    (places_after-push (before ++ x ∷ []) xs e ∙ ap (λ (b : List Event). places_after (before ++ x ∷ []) xs ++ (let p : Place = record { before = b; event = e } in p) ∷ []) (append_assoc before (x ∷ []) xs))

-- the places of one more event
pub places_of-push : (journal : List Event) (e : Event) → places_of (journal ++ e ∷ []) ≡ places_of journal ++ record { before = journal; event = e } ∷ []
places_of-push journal e = places_after-push [] journal e

-- the user of a session's last permitted CHALLENGE
pub challenged_user-push : (journal : List Event) (session : ℕ) (e : Event) → challenged_user (journal ++ e ∷ []) session ≡ cond (is_own session takes e) (user_named (Some e)) (challenged_user journal session)
unfolding challenged_user
challenged_user-push journal session e = ap user_named (last_or-filter_push (is_own session takes) journal e) ∙ go (is_own session takes e) where
  go : (b : Bool) → user_named (cond b (Some e) (last_event journal session takes)) ≡ cond b (user_named (Some e)) (user_named (last_event journal session takes))
  go true = refl
  go false = refl

-- the user that a session is logged in as
pub verified_user-push : (session : ℕ) (journal : List Event) (e : Event) → verified_user (journal ++ e ∷ []) session ≡ cond (is_own session accepts e) (challenged_user journal session) (verified_user journal session)
unfolding verified_user
verified_user-push session journal e =
    ap (λ ps. user_before session (last_or None (filter own ps))) (places_of-push journal e)
    ∙ ap (user_before session) (last_or-filter_push own (places_of journal) (record { before = journal; event = e }))
    ∙ go (is_own session accepts e) where
      own : Place → Bool
      own p = is_own session accepts p.event

      here : Place
      here = record { before = journal; event = e }

      go : (b : Bool) → user_before session (cond b (Some here) (last_or None (filter own (places_of journal)))) ≡ cond b (challenged_user journal session) (user_before session (last_or None (filter own (places_of journal))))
      go true = refl
      go false = refl

pub verified_user-none : (session : ℕ) → verified_user [] session ≡ None
unfolding verified_user
verified_user-none session = refl

-- the last taking of a user
pub last_taking_of-push : (user : Name) (journal : List Event) (e : Event) → last_taking_of (journal ++ e ∷ []) user ≡ cond (reserves user e) (Some e) (last_taking_of journal user)
unfolding last_taking_of
last_taking_of-push user journal e = last_or-filter_push (reserves user) journal e

pub last_taking_of-none : (user : Name) → last_taking_of [] user ≡ None
unfolding last_taking_of
last_taking_of-none user = refl

-- the passwords of a user's permitted replies
pub replies_of-push : (user : Name) (journal : List Event) (e : Event) → replies_of (journal ++ e ∷ []) user ≡ replies_of journal user ++ option_to_list (reply_for user (record { before = journal; event = e }))
unfolding replies_of
replies_of-push user journal e = ap (filter_map (reply_for user)) (places_of-push journal e) ∙ go (places_of journal) where
  here : Place
  here = record { before = journal; event = e }

  last : (o : Option ℕ) → cons_option o [] ≡ option_to_list o
  last None = refl
  last (Some x) = refl

  step : (o : Option ℕ) (xs ys zs : List ℕ) → xs ≡ ys ++ zs → cons_option o xs ≡ cons_option o ys ++ zs
  step None xs ys zs h = h
  step (Some x) xs ys zs h = ap (λ l. x ∷ l) h

  go : (ps : List Place) → filter_map (reply_for user) (ps ++ here ∷ []) ≡ filter_map (reply_for user) ps ++ option_to_list (reply_for user here)
  go [] = last (reply_for user here)
  go (p ∷ ps) = step (reply_for user p) (filter_map (reply_for user) (ps ++ here ∷ [])) (filter_map (reply_for user) ps) (option_to_list (reply_for user here)) (go ps)

pub replies_of-none : (user : Name) → replies_of [] user ≡ []
unfolding replies_of
replies_of-none user = refl

-- the number, the last and the membership of a user's permitted replies
pub count_replies-push : (user : Name) (journal : List Event) (e : Event) → length (replies_of (journal ++ e ∷ []) user) ≡ length (replies_of journal user) + length (option_to_list (reply_for user (record { before = journal; event = e })))
count_replies-push user journal e = ap length (replies_of-push user journal e) ∙ length-append (replies_of journal user) (option_to_list (reply_for user (record { before = journal; event = e })))

last_or-append : (o : Option ℕ) (xs ys : List ℕ) → last_or o (xs ++ ys) ≡ last_or (last_or o xs) ys
last_or-append o [] ys = refl
last_or-append o (x ∷ xs) ys = last_or-append (Some x) xs ys

pub last_reply-push : (user : Name) (journal : List Event) (e : Event) → last_or None (replies_of (journal ++ e ∷ []) user) ≡ last_or (last_or None (replies_of journal user)) (option_to_list (reply_for user (record { before = journal; event = e })))
last_reply-push user journal e = ap (last_or None) (replies_of-push user journal e) ∙ last_or-append None (replies_of journal user) (option_to_list (reply_for user (record { before = journal; event = e })))

pub was_replied-push : (user : Name) (password : ℕ) (journal : List Event) (e : Event) → list_any (nat_eq password) (replies_of (journal ++ e ∷ []) user) ≡ (list_any (nat_eq password) (replies_of journal user) || list_any (nat_eq password) (option_to_list (reply_for user (record { before = journal; event = e }))))
was_replied-push user password journal e = ap (list_any (nat_eq password)) (replies_of-push user journal e) ∙ list_any-append (nat_eq password) (replies_of journal user) (option_to_list (reply_for user (record { before = journal; event = e })))

-- the last of a list that something stands in front of
pub last_or-some : (a : ℕ) (xs : List ℕ) → last_or (Some a) xs ≡ Some (unwrap_or (last_or None xs) a)
last_or-some a [] = refl
last_or-some a (x ∷ xs) = let h = last_or-some x xs in h ∙ ap Some (sym (ap (λ o. unwrap_or o a) h))

-- the password accepted last is that of the last permitted reply, or the setup's
pub current_password-is : (journal : List Event) (account : Account) → current_password journal account ≡ unwrap_or (last_or None (replies_of journal account.name)) account.password
current_password-is journal account = ap (λ o. unwrap_or o 0) (last_or-some account.password (replies_of journal account.name))

-- what stands after the last that passes, of one more element
suffix_len-push : {X : Type 0} (q : X → Bool) (xs : List X) (x : X) → suffix_len q (xs ++ x ∷ []) ≡ cond (q x) (1 + suffix_len q xs) 0
suffix_len-push q xs x = ap (prefix_len q) (reverse-append xs (x ∷ []))

prefix_len-le : {X : Type 0} (q : X → Bool) (xs : List X) → prefix_len q xs ≤ length xs
prefix_len-le q [] = omega arith
prefix_len-le q (x ∷ xs) = elim (q x) as (λ b. cond b (1 + prefix_len q xs) 0 ≤ length (x ∷ xs)) [ true ↦ omega (arith, prefix_len-le q xs) | false ↦ omega arith ]

suffix_len-le : {X : Type 0} (q : X → Bool) (xs : List X) → suffix_len q xs ≤ length xs
suffix_len-le q xs = omega (arith, prefix_len-le q (reverse xs), length-reverse xs)

pub after_last-push : {X : Type 0} (p : X → Bool) (xs : List X) (x : X) → after_last p (xs ++ x ∷ []) ≡ cond (p x) [] (after_last p xs ++ x ∷ [])
after_last-push {X} p xs x = ap (λ n. drop (length (xs ++ x ∷ []) - n) (xs ++ x ∷ [])) (suffix_len-push (λ y. not (p y)) xs x) ∙ go (p x) where
  n : ℕ
  n = suffix_len (λ y. not (p y)) xs

  all : length (xs ++ x ∷ []) ≡ length xs + 1
  all = length-append xs (x ∷ [])

  go : (b : Bool) → drop (length (xs ++ x ∷ []) - cond (not b) (1 + n) 0) (xs ++ x ∷ []) ≡ cond b [] (drop (length xs - n) xs ++ x ∷ [])
  go true = drop_all (length (xs ++ x ∷ []) - 0) (xs ++ x ∷ []) (omega arith)
  go false =
      let less : length (xs ++ x ∷ []) - (1 + n) ≡ length xs - n = omega (arith, all) in
      ap (λ k. drop k (xs ++ x ∷ [])) less ∙ drop-append-le (length xs - n) xs (x ∷ []) (omega arith)

-- whether the last taker of a user gave it up
pub was_given_up-push : (user : Name) (journal : List Event) (e : Event) → was_given_up (journal ++ e ∷ []) user ≡ (not (reserves user e) && (was_given_up journal user || is_own (session_taking (last_taking_of journal user)) gives_up e))
unfolding was_given_up
was_given_up-push user journal e =
    ap (λ o. list_any (is_own (session_taking o) gives_up) (after_last (reserves user) (journal ++ e ∷ []))) (last_taking_of-push user journal e)
    ∙ ap (λ l. list_any (is_own (session_taking (cond (reserves user e) (Some e) (last_taking_of journal user))) gives_up) l) (after_last-push (reserves user) journal e)
    ∙ go (reserves user e) where
      behind : List Event
      behind = after_last (reserves user) journal

      p : Event → Bool
      p = is_own (session_taking (last_taking_of journal user)) gives_up

      or_false : (a b : Bool) → (a || (b || false)) ≡ (a || b)
      or_false true b = refl
      or_false false true = refl
      or_false false false = refl

      go : (b : Bool) → list_any (is_own (session_taking (cond b (Some e) (last_taking_of journal user))) gives_up) (cond b [] (behind ++ e ∷ [])) ≡ (not b && (list_any p behind || p e))
      go true = refl
      go false = list_any-append p behind (e ∷ []) ∙ or_false (list_any p behind) (p e)

pub was_given_up-none : (user : Name) → was_given_up [] user ≡ false
unfolding was_given_up
was_given_up-none user = refl

pub last_taking_of-last : (user : Name) (journal : List Event) → last_taking_of journal user ≡ last_or None (filter (reserves user) journal)
unfolding last_taking_of
last_taking_of-last user journal = refl
