-- Inner: what the clauses of functions inside the crate cite.
use Rattle.std.specs.Prelude.{ℕ, ◌≡◌, ◌≤◌, ◌==◌, Bool, true, not, List, ◌++◌, map}
use Rattle.std.specs.Char.{to_ascii_lowercase}
use Rattle.std.specs.List.{list_all, prefix_len}
use Rattle.otp_hash.specs.declared.chain.Algo.{Algo}
use Rattle.otp_hash.specs.SeedBytes.{seed_bytes}
use Rattle.otp_hash.specs.Seeds.{is_seed_text}
use Rattle.otp_words.specs.Challenges.{IsNumber}
use Rattle.otp_words.specs.Blanks.{IsGap, is_blank, is_no_blank}
use Rattle.otp_extended.specs.declared.params.Params.{Params}
use Rattle.otp_hash.specs.Names.{algo_name}

-- a text is cut at its first run of spaces and tabs
pub record IsCutAtBlanks (text front rest : List ℕ) : Type 0 where
  pub gap : List ℕ
  pub spelled : text ≡ front ++ (gap ++ rest)
  pub plain : list_all is_no_blank front ≡ true
  pub parted : IsGap gap
  pub stops : prefix_len is_blank rest ≡ 0

-- these are the pieces
pub record HasPieces (front rest there behind : List ℕ) : Type 0 where
  pub front_is : there ≡ front
  pub rest_is : behind ≡ rest

-- parameters of these parts
pub record HasParams (algo : Algo) (sequence : ℕ) (seed : List ℕ) (p : Params) : Type 0 where
  pub algo_is : p.algo ≡ algo
  pub sequence_is : p.sequence ≡ sequence
  pub seed_is : seed_bytes p.seed ≡ seed

-- no colon
abbrev pub is_no_colon : ℕ → Bool
is_no_colon c = not (c == 58)

-- the three words of parameters
pub record AreWords (word digits name : List ℕ) (algo : Algo) (sequence : ℕ) (seed : List ℕ) : Type 0 where
  pub named : word ≡ algo_name algo
  pub number : IsNumber digits sequence
  pub from_one : 1 ≤ sequence
  pub legal : is_seed_text name ≡ true
  pub in_lower_case : seed ≡ map to_ascii_lowercase name

abbrev pub AreWordsOf : List ℕ → List ℕ → List ℕ → Params → Type 0
AreWordsOf word digits name p = AreWords word digits name p.algo p.sequence (seed_bytes p.seed)
