-- The user's commands are legal.
use Rattle.std.proofs.Common.{◌≡◌, ℕ, suc, ◌<◌, ◌≤◌, ◌^◌, Bool, true, false, ◌&&◌, cond, List, length, take, drop, Option, Some, None, refl, subst}
use Rattle.std.specs.Prelude.{codes, nat_le, nat_lt, option_and_then}
use Rattle.std.specs.Bool.{then_some}
use Rattle.std.specs.Str.{bytes_eq}
use Rattle.std.proofs.lemmas.Bool.{and_parts, leb-true, ltb-true}
use Rattle.request_catalogue.specs.Texts.{is_label, is_note}
use Rattle.text_line.specs.Reading.{decimal_of}
use Rattle.child_protocol.specs.Commands.{text_behind}
use Rattle.child_protocol.specs.User.{Get, IsLegalUser, Leave, Put, Remark, Unknown, UserCommand, get_command, if_legal, info_command, is_content, note_command, number_of, put_command, put_or_command, space_in, tell_command, user_command}

legal_if : (test : Bool) (command : UserCommand) → (test ≡ true → IsLegalUser command)
    → IsLegalUser (if_legal test command)
legal_if true command is = is refl
legal_if false command is = tt

small_number : (o : Option ℕ) (number : ℕ) → option_and_then (λ n. then_some (nat_lt n (2 ^ 32)) n) o ≡ Some number
    → number < 2 ^ 32
small_number None number is = absurd cc
small_number (Some n) number is = by (nat_lt n (2 ^ 32)) refl is where
  by : (b : Bool) → nat_lt n (2 ^ 32) ≡ b → then_some b n ≡ Some number → number < 2 ^ 32
  by true lt same = let here : n ≡ number = cc in subst (λ (k : ℕ). k < 2 ^ 32) here (ltb-true n (2 ^ 32) lt)
  by false lt same = absurd cc

content_size : (text : List ℕ) → is_content text ≡ true → (1 ≤ length text) × (length text ≤ 200)
unfolding is_content
content_size text is =
    let sizes = and_parts (nat_le 1 (length text)) (nat_le (length text) 200)
    (and_parts (nat_le 1 (length text) && nat_le (length text) 200) _ is).0 in
    (leb-true 1 (length text) sizes.0, leb-true (length text) 200 sizes.1)

pub legal_line : (line : List ℕ) → IsLegalUser (user_command line)
unfolding user_command number_of
legal_line line = by_get (text_behind (codes "get ") line) where
  by_leave : (b : Bool) → IsLegalUser (cond b Leave Unknown)
  by_leave true = tt
  by_leave false = tt

  by_note : (o : Option (List ℕ)) → IsLegalUser (note_command line o)
  by_note None = by_leave (bytes_eq line (codes "quit"))
  by_note (Some text) = legal_if (is_note text) (Remark text) (λ is. is)

  by_number : (o : Option ℕ) → ((n : ℕ) → o ≡ Some n → n < 2 ^ 32) → IsLegalUser (tell_command o)
  by_number None small = tt
  by_number (Some n) small = small n refl

  by_info : (o : Option (List ℕ)) → IsLegalUser (info_command line o)
  by_info None = by_note (text_behind (codes "note ") line)
  by_info (Some text) = by_number (number_of text) (λ n is. small_number (decimal_of text) n is)

  by_space : (text : List ℕ) (o : Option ℕ) → IsLegalUser (put_command text o)
  by_space text None = tt
  by_space text (Some i) =
      legal_if (is_label (take i text) && is_content (drop (suc i) text)) (Put (take i text) (drop (suc i) text)) (λ is.
      let both = and_parts (is_label (take i text)) (is_content (drop (suc i) text)) is in
      let size = content_size (drop (suc i) text) both.1 in
      (both.0, size.0, size.1))

  by_put : (o : Option (List ℕ)) → IsLegalUser (put_or_command line o)
  by_put None = by_info (text_behind (codes "info ") line)
  by_put (Some text) = by_space text (space_in text)

  by_get : (o : Option (List ℕ)) → IsLegalUser (get_command line o)
  by_get None = by_put (text_behind (codes "put ") line)
  by_get (Some name) = legal_if (is_label name) (Get name) (λ is. is)
