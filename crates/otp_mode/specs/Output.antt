-- Believed: what the mode `otp` prints.
use Rattle.std.specs.Prelude.{ℕ, List, [], ◌∷◌, ◌++◌, Option, Some, None}
use Rattle.otp_hash.specs.Hashing.{chain_of}
use Rattle.otp_words.specs.Hex.{hex_text}
use Rattle.otp_words.specs.Words.{words_text}
use Rattle.otp_mode.specs.Words.{OtpParts}

-- the line of six words, if there is a list
abbrev pub words_line : Option (List (List ℕ)) → ℕ → List ℕ
words_line None password = []
words_line (Some words) password = words_text words password ++ 10 ∷ []

-- the lines of a password: in hexadecimal, and in six words if there is a list
abbrev pub password_lines : Option (List (List ℕ)) → ℕ → List ℕ
password_lines words password = hex_text password ++ 10 ∷ [] ++ words_line words password

-- the lines that `otp` prints for a phrase
abbrev pub otp_text : OtpParts → Option (List (List ℕ)) → List ℕ → List ℕ
otp_text parts words phrase =
    password_lines words (chain_of parts.algo parts.seed phrase parts.number)
