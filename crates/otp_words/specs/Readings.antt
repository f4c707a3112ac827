-- Inner: what was read of a challenge.
use Rattle.std.specs.Prelude.{◌≡◌, ℕ, List}
use Rattle.otp_hash.specs.declared.chain.Algo.{Algo}
use Rattle.otp_hash.specs.SeedBytes.{seed_bytes}
use Rattle.otp_words.specs.declared.challenge_reading.Challenge.{Challenge}

-- a challenge of these parts
pub record HasParts (algo : Algo) (n : ℕ) (seed : List ℕ) (used : ℕ) (c : Challenge) : Type 0 where
  pub algo_is : c.algo ≡ algo
  pub n_is : c.n ≡ n
  pub seed_is : seed_bytes c.seed ≡ seed
  pub used_is : c.used ≡ used
