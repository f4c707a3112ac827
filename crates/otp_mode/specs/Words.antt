-- Believed: the command line of the mode `otp`.
use Rattle.std.specs.Prelude.{ℕ, ◌&&◌, if◌then◌else◌, List, [], ◌∷◌, map, codes, Option, Some, None, option_map}
use Rattle.std.specs.Char.{to_ascii_lowercase}
use Rattle.std.specs.Str.{bytes_eq}
use Rattle.otp_words.specs.Challenges.{decimal_value, is_number_text}
use Rattle.otp_hash.specs.declared.chain.Algo.{Algo}
use Rattle.otp_hash.specs.Names.{algo_named}
use Rattle.otp_hash.specs.Seeds.{is_seed_text}

-- what `otp` is asked for: algorithm, the password's number, seed, and perhaps a word list's file
pub record OtpParts : Type 0 where
  pub algo : Algo
  pub number : ℕ
  pub seed : List ℕ
  pub list : Option (List ℕ)

-- what these four words, and perhaps a fifth, ask for
abbrev pub parts_of : List ℕ → List ℕ → List ℕ → List ℕ → Option (List ℕ) → Option OtpParts
parts_of mode algo number seed list =
    if bytes_eq mode (codes "otp") && is_number_text number && is_seed_text seed
    then option_map (λ a. record {
      algo = a;
      number = decimal_value number;
      seed = map to_ascii_lowercase seed;
      list = list;
    }) (algo_named algo)
    else None

-- what the command line `otp ALGO N SEED` or `otp ALGO N SEED WORDS` asks for; any other asks for nothing
abbrev pub otp_command : List (List ℕ) → Option OtpParts
otp_command (mode ∷ algo ∷ number ∷ seed ∷ []) = parts_of mode algo number seed None
otp_command (mode ∷ algo ∷ number ∷ seed ∷ list ∷ []) = parts_of mode algo number seed (Some list)
otp_command _ = None
