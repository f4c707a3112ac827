use Rattle.std.proofs.Common.{Option, ℕ, sym, subst, map}
use Rattle.std.specs.Prelude.{MatchOption}
use Rattle.info_hooks.specs.Hooks.{AreOnce, IsLeastTwice, numbers_of}
use Rattle.info_hooks.proofs.TwiceLemmas.{is_least_twice}
use Rattle.info_hooks.proofs.twice.least_twice.Goals as goal

pub returns : goal.returns
returns g c =
    let numbers = numbers_of (map (λ h. h.key) c.args.list.now) in
    subst (λ (o : Option ℕ). MatchOption o (AreOnce numbers) (λ b. IsLeastTwice b numbers)) (sym c.first_least.ensures) (is_least_twice numbers)
