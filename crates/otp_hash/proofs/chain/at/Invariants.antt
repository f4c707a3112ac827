use Rattle.std.proofs.Common.{◌≡◌}
use Rattle.otp_hash.specs.Hashing.{chain_of}
use Rattle.otp_hash.specs.SeedBytes.{seed_bytes}
use Rattle.otp_hash.proofs.chain.at.Given as goal

abbrev pub invariant-loop : goal.invariant-loop
invariant-loop l = l.password ≡ chain_of l.algo (seed_bytes l.seed) l.phrase l.counter
