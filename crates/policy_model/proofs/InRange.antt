-- The ranges of a setup, and the tests of them.
use Rattle.std.proofs.Common.{◌≡◌, ◌≤◌, Bool, true, false, ◌&&◌, nat_le, refl, arith}
use Rattle.std.proofs.lemmas.Bool.Decides.{nat_tests}
use Rattle.policy_model.specs.Settings.{IsInRange, Settings, events_max, is_number, passes}

and_true : (a b : Bool) → (a && b) ≡ true → (a ≡ true) × (b ≡ true)
and_true true b h = (refl, h)
and_true false b h = absurd cc

both_true : (a b : Bool) → a ≡ true → b ≡ true → (a && b) ≡ true
both_true true b p q = q
both_true false b p q = absurd cc

within : (low high n : _) → is_number low high n ≡ true → (low ≤ n) × (n ≤ high)
within low high n h = let e = and_true (nat_le low n) (nat_le n high) h in (grind (arith, nat_tests), grind (arith, nat_tests))

-- settings that pass the tests are in their ranges
pub IsInRange-passes : (s : Settings) → passes s ≡ true → IsInRange s
IsInRange-passes s h =
    let a = and_true _ _ h in
    let b = and_true _ _ a.0 in
    let c = and_true _ _ b.0 in
    let d = and_true _ _ c.0 in
    let n1 = and_true _ _ d.1 in
    let n2 = and_true _ _ n1.0 in
    let n3 = and_true _ _ n2.0 in
    let n4 = and_true _ _ n3.0 in
    record {
      texts = d.0;
      workers = within 1 64 s.workers n4.0;
      connections = within 1 4096 s.connections n4.1;
      requests = within 8 4096 s.requests n3.1;
      tries = within 1 10 s.tries n2.1;
      hold = within 1 3600000 s.hold n1.1;
      info = c.1;
      product = grind (arith, nat_tests, b.1);
      accounts = a.1;
    }

is_within : (low high n : _) → (low ≤ n) × (n ≤ high) → is_number low high n ≡ true
is_within low high n h = grind (arith, nat_tests)

-- and settings in their ranges pass
pub passes-IsInRange : (s : Settings) → IsInRange s → passes s ≡ true
passes-IsInRange s h =
    let counts = both_true _ _ (both_true _ _ (both_true _ _ (both_true _ _ (is_within 1 64 s.workers h.workers) (is_within 1 4096 s.connections h.connections)) (is_within 8 4096 s.requests h.requests)) (is_within 1 10 s.tries h.tries)) (is_within 1 3600000 s.hold h.hold) in
    let few : nat_le (events_max s) 1048576 ≡ true = grind (arith, nat_tests, h.product) in
    both_true _ _ (both_true _ _ (both_true _ _ (both_true _ _ h.texts counts) h.info) few) h.accounts
