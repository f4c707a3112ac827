-- The text of a challenge, of an account's or of a decoy's, is one that a child takes.
use Rattle.std.proofs.Common.{◌≡◌, ℕ, zero, suc, ◌/◌, ◌%◌, ◌<◌, ◌≤◌, true, List, [], ◌∷◌, length, slice_index}
use Rattle.std.proofs.Common.{take, refl, subst, arith}
use Rattle.std.specs.Int.{to_be_bytes, w64}
use Rattle.std.specs.List.{list_all}
use Rattle.std.proofs.lemmas.Bool.{and_from}
use Rattle.std.proofs.lemmas.List.{append-nil}
use Rattle.hex.specs.Hex.{encode_lower, encode_with, lower_digits}
use Rattle.request_catalogue.specs.declared.texts.Name.{Name}
use Rattle.otp_hash.specs.Seeds.{is_seed, is_seed_byte}
use Rattle.otp_hash.specs.declared.chain.Algo.{Algo}
use Rattle.otp_words.specs.Challenges.{BeginsWithChallenge, challenge_of}
use Rattle.otp_words.proofs.WrittenLemmas.{challenge_of-reads}
use Rattle.policy_model.specs.Decoys.{decoy_number, decoy_password, decoy_seed}
use Rattle.policy_model.specs.Settings.{Settings}
use Rattle.child_protocol.specs.Replies.{IsChallengeText}
use Rattle.welcome_laws.proofs.Lines.{challenge_size}

pub record Fits (text : List ℕ) : Type 0 where
  pub some : 1 ≤ length text
  pub few : length text ≤ 32
  pub reads : IsChallengeText text

pub challenge_fits : (algo : Algo) (n : ℕ) (seed : List ℕ) → n ≤ 9999 → is_seed seed ≡ true
    → Fits (challenge_of algo n seed)
challenge_fits algo n seed le legal =
    let text = challenge_of algo n seed in
    let size = challenge_size algo n seed le legal in
    record {
      some = size.0;
      few = size.1;
      reads = (
        algo,
        n,
        seed,
        subst (λ t. BeginsWithChallenge t algo n seed (length text)) (append-nil text)
            (challenge_of-reads algo n (length text) seed [] le legal refl),
      );
    }

pub decoy_low : (setup : Settings) (user : Name) → decoy_number setup user ≤ 9999
decoy_low setup user = low (decoy_password setup user) where
  low : (n : ℕ) → n % 65536 % 1000 ≤ 9999
  low n = omega arith

-- ---- a decoy's seed

digit_in_seed : (d : ℕ) → d < 16 → is_seed_byte (slice_index lower_digits d) ≡ true
digit_in_seed zero lt = refl
digit_in_seed (suc zero) lt = refl
digit_in_seed (suc (suc zero)) lt = refl
digit_in_seed (suc (suc (suc zero))) lt = refl
digit_in_seed (suc (suc (suc (suc zero)))) lt = refl
digit_in_seed (suc (suc (suc (suc (suc zero))))) lt = refl
digit_in_seed (suc (suc (suc (suc (suc (suc zero)))))) lt = refl
digit_in_seed (suc (suc (suc (suc (suc (suc (suc zero))))))) lt = refl
digit_in_seed (suc (suc (suc (suc (suc (suc (suc (suc zero)))))))) lt = refl
digit_in_seed (suc (suc (suc (suc (suc (suc (suc (suc (suc zero))))))))) lt = refl
digit_in_seed (suc (suc (suc (suc (suc (suc (suc (suc (suc (suc zero)))))))))) lt = refl
digit_in_seed (suc (suc (suc (suc (suc (suc (suc (suc (suc (suc (suc zero))))))))))) lt = refl
digit_in_seed (suc (suc (suc (suc (suc (suc (suc (suc (suc (suc (suc (suc zero)))))))))))) lt = refl
digit_in_seed (suc (suc (suc (suc (suc (suc (suc (suc (suc (suc (suc (suc (suc zero))))))))))))) lt = refl
digit_in_seed (suc (suc (suc (suc (suc (suc (suc (suc (suc (suc (suc (suc (suc (suc zero)))))))))))))) lt = refl
digit_in_seed (suc (suc (suc (suc (suc (suc (suc (suc (suc (suc (suc (suc (suc (suc (suc zero))))))))))))))) lt = refl
digit_in_seed (suc (suc (suc (suc (suc (suc (suc (suc (suc (suc (suc (suc (suc (suc (suc (suc d)))))))))))))))) lt =
    absurd (omega (arith, lt))

byte_in_seed : (t : List ℕ) (b : ℕ) → b < 256 → list_all is_seed_byte t ≡ true
    → list_all is_seed_byte (slice_index lower_digits (b / 16) ∷ slice_index lower_digits (b % 16) ∷ t) ≡ true
byte_in_seed t b lt h =
    and_from (is_seed_byte (slice_index lower_digits (b / 16))) _ (digit_in_seed (b / 16) (omega (arith, lt)))
    (and_from (is_seed_byte (slice_index lower_digits (b % 16))) (list_all is_seed_byte t)
    (digit_in_seed (b % 16) (omega arith)) h)

seed_digits : (a b c d : ℕ) → a < 256 → b < 256 → c < 256 → d < 256
    → is_seed (encode_lower (a ∷ b ∷ c ∷ d ∷ [])) ≡ true
unfolding encode_with is_seed
seed_digits a b c d la lb lc ld =
    byte_in_seed (encode_lower (b ∷ c ∷ d ∷ [])) a la (byte_in_seed (encode_lower (c ∷ d ∷ [])) b lb
    (byte_in_seed (encode_lower (d ∷ [])) c lc (byte_in_seed [] d ld refl)))

pub decoy_legal : (setup : Settings) (user : Name) → is_seed (decoy_seed setup user) ≡ true
decoy_legal setup user = by_password (decoy_password setup user) where
  by_password : (n : ℕ) → is_seed (encode_lower (take 4 (to_be_bytes w64 n))) ≡ true
  by_password n = seed_digits _ _ _ _ (omega arith) (omega arith) (omega arith) (omega arith)
