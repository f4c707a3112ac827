-- Believed: the hash step and the password chain (RFC 2289).
use Rattle.std.specs.Prelude.{ℕ, zero, suc, ◌+◌, List, ◌++◌, bit_xor, map, slice_index}
use Rattle.std.specs.Int.{w32, w64, from_be_bytes, to_be_bytes, to_le_bytes}
use Rattle.std.specs.List.{range_with_len}
use Rattle.md5.specs.Md5.{md5}
use Rattle.sha1.specs.Sha1.{sha1, word_at}
use Rattle.otp_hash.specs.declared.chain.Algo.{Algo}
use Rattle.otp_hash.specs.declared.chain.Algo.TheVariants as algos

-- an MD5 digest folded to eight bytes: each byte of the first half with that of the second half
unfoldable pub folded_md5 : List ℕ → List ℕ
folded_md5 digest = map (λ k. bit_xor (slice_index digest k) (slice_index digest (k + 8))) (range_with_len 0 8)

-- a SHA-1 digest folded to eight bytes: its words 0, 2 and 4, then 1 and 3, lowest byte first
unfoldable pub folded_sha1 : List ℕ → List ℕ
folded_sha1 digest =
    to_le_bytes w32 (bit_xor (bit_xor (word_at digest 0) (word_at digest 8)) (word_at digest 16))
    ++ to_le_bytes w32 (bit_xor (word_at digest 4) (word_at digest 12))

-- the folded digest of a text by each algorithm
abbrev pub folded_by : Algo → List ℕ → List ℕ
folded_by algos.Md5 message = folded_md5 (md5 message)
folded_by algos.Sha1 message = folded_sha1 (sha1 message)

-- the password that a text hashes to: its folded digest, most significant byte first
unfoldable pub password_of : Algo → List ℕ → ℕ
password_of algo message = from_be_bytes w64 (folded_by algo message)

-- the hash step: what the eight bytes of a password hash to
unfoldable pub hash_of : Algo → ℕ → ℕ
hash_of algo password = password_of algo (to_be_bytes w64 password)

-- the chain of a seed and a phrase: password 0 is what the two hash to, each further one a hash step more
unfoldable pub chain_of : Algo → List ℕ → List ℕ → ℕ → ℕ
chain_of algo seed phrase zero = password_of algo (seed ++ phrase)
chain_of algo seed phrase (suc n) = hash_of algo (chain_of algo seed phrase n)
