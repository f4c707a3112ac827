-- Believed: the command line of the mode `enrol`.
use Rattle.std.specs.Prelude.{ℕ, ◌&&◌, nat_le, if◌then◌else◌, List, [], ◌∷◌, map, codes, Option, None, option_and_then}
use Rattle.std.specs.Prelude.{option_map}
use Rattle.std.specs.Bool.{then_some}
use Rattle.std.specs.Char.{to_ascii_lowercase}
use Rattle.std.specs.Str.{bytes_eq}
use Rattle.request_catalogue.specs.Texts.{is_name}
use Rattle.text_line.specs.Reading.{decimal_of}
use Rattle.otp_words.specs.Challenges.{decimal_value, is_number_text}
use Rattle.otp_hash.specs.declared.chain.Algo.{Algo}
use Rattle.otp_hash.specs.Names.{algo_named}
use Rattle.otp_hash.specs.Seeds.{is_seed_text}
use Rattle.policy_model.specs.Settings.{is_number}

-- what `enrol` is asked for: name, user's number, algorithm, the number of the first password, and seed
pub record EnrolParts : Type 0 where
  pub name : List ℕ
  pub uid : ℕ
  pub algo : Algo
  pub number : ℕ
  pub seed : List ℕ

-- the user's number that a word spells: 1 to 4,294,967,294, without a leading zero
abbrev pub uid_of : List ℕ → Option ℕ
uid_of word = option_and_then (λ n. then_some (is_number 1 4294967294 n) n) (decimal_of word)

-- the number of a first password that a word spells: 1 to 9,999, in one to four digits
abbrev pub sequence_of : List ℕ → Option ℕ
sequence_of word = then_some (is_number_text word && nat_le 1 (decimal_value word)) (decimal_value word)

-- what these six words ask for
abbrev pub parts_of : List ℕ → List ℕ → List ℕ → List ℕ → List ℕ → List ℕ → Option EnrolParts
parts_of mode name uid algo number seed =
    if bytes_eq mode (codes "enrol") && is_name name && is_seed_text seed
    then option_and_then (λ u. option_and_then
    (λ n. option_map (λ a. record
    { name = name; uid = u; algo = a; number = n; seed = map to_ascii_lowercase seed }) (algo_named algo))
    (sequence_of number)) (uid_of uid)
    else None

-- what the command line `enrol NAME UID ALGO N SEED` asks for; any other asks for nothing
abbrev pub enrol_command : List (List ℕ) → Option EnrolParts
enrol_command (mode ∷ name ∷ uid ∷ algo ∷ number ∷ seed ∷ []) = parts_of mode name uid algo number seed
enrol_command _ = None
