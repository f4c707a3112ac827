-- Inner: hooks by their numbers.
use Rattle.std.specs.Prelude.{ℕ, ◌<◌, ◌≤◌, ◌==◌, List, map, filter, length}
use Rattle.info_hooks.specs.declared.key.HooksFault.{HooksFault}
use Rattle.info_hooks.specs.declared.key.HooksFault.TheVariants.{OutOfMemory, Twice}
use Rattle.info_hooks.specs.declared.key.Key.{Key}

-- the numbers of hooks, by what stands beside their functions
abbrev pub numbers_of : List Key → List ℕ
numbers_of hooks = map (λ h. h.number) hooks

-- how many of the numbers this is
abbrev pub count_of : ℕ → List ℕ → ℕ
count_of number numbers = length (filter (λ n. n == number) numbers)

-- a number stands there twice, and no smaller one does
pub record IsLeastTwice (number : ℕ) (numbers : List ℕ) : Type 0 where
  pub twice : 2 ≤ count_of number numbers
  pub least : (other : ℕ) → other < number → count_of other numbers ≤ 1

-- each number stands there at most once
abbrev pub AreOnce : List ℕ → Type 0
AreOnce numbers = (number : ℕ) → count_of number numbers ≤ 1

-- hooks of these numbers can't stand together: two have one number, of
-- which this is the least; where memory ran out nothing is said
abbrev pub IsRefused : List ℕ → HooksFault → Type 0
IsRefused numbers (Twice number) = IsLeastTwice number numbers
IsRefused numbers OutOfMemory = Unit {0}
