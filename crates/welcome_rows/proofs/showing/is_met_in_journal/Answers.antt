use Rattle.std.proofs.Common.{◌≡◌, ◌≢◌, List, [], ℕ, subst, true, false}
use Rattle.std.specs.List.{list_any}
use Rattle.welcome_rows.specs.Met.{asks_for_other}
use Rattle.welcome_rows.proofs.showing.is_met_in_journal.Goals as goal

pub returns : goal.returns
returns c =
    let whole : c.is_whole.result ≡ true = search (c.if-not-is_whole.false) in
    let alone : c.asks_alone.result ≡ true = search (c.if-not-asks_alone.false) in
    let only : c.asks_only.result ≡ true = search (c.if-not-asks_only.false) in
    let told : c.tells_each_line.result ≡ true = search (c.if-not-tells_each_line.false) in
    λ ready. record {
      kept = c.is_whole.ensures.kept whole;
      unfaulted = c.is_whole.ensures.unfaulted whole;
      alone = c.asks_alone.ensures alone;
      only = subst (λ (mistyped : List ℕ). mistyped ≢ [] → list_any (λ e. asks_for_other c.args.visit.now.user e.ask)
          c.args.journal.now ≡ false) c.as_slice.ensures (c.asks_only.ensures only);
      told = c.tells_each_line.ensures told;
      ready = c.can_log_in.ensures ready;
    }
