-- Inner: how the counts of faults move.
use Rattle.std.specs.Prelude.{◌≡◌, ℕ, ◌<◌, ◌≤◌, Result, Ok, Err}
use Rattle.outside.specs.declared.act.Failed.{Failed}
use Rattle.outside.specs.declared.faults.Faults.{Faults}
use Rattle.outside.specs.Told.{next_count}

-- the count of a call's faults after it: one more where the call failed
abbrev pub count_after : {X : Type 0} → Result X Failed → ℕ → ℕ
count_after (Ok _) count = count
count_after (Err _) count = next_count count

-- no fault
abbrev pub no_faults : Faults
no_faults = record { accept = 0; keeper = 0; link = 0; conn = 0; vault = 0 }

-- a post's counts are these: of accepts, starts, links, connections and users' files
pub record AreCounts (a k l c v : ℕ) (faults : Faults) : Type 0 where
  pub accept : faults.accept ≡ a
  pub keeper : faults.keeper ≡ k
  pub link : faults.link ≡ l
  pub conn : faults.conn ≡ c
  pub vault : faults.vault ≡ v

-- no count moved
abbrev pub CountNothing : Faults → Faults → Type 0
CountNothing before after =
    AreCounts before.accept before.keeper before.link before.conn before.vault after

-- an accept counts where it failed
abbrev pub AcceptCounts : {X : Type 0} → Result X Failed → Faults → Faults → Type 0
AcceptCounts result before after =
    AreCounts (count_after result before.accept) before.keeper before.link before.conn before.vault after

-- the start of a child counts where it failed
abbrev pub StartCounts : {X : Type 0} → Result X Failed → Faults → Faults → Type 0
StartCounts result before after =
    AreCounts before.accept (count_after result before.keeper) before.link before.conn before.vault after

-- a call on a connection counts where it failed
abbrev pub ConnCounts : {X : Type 0} → Result X Failed → Faults → Faults → Type 0
ConnCounts result before after =
    AreCounts before.accept before.keeper before.link (count_after result before.conn) before.vault after

-- a call on the users' files counts where it failed
abbrev pub VaultCounts : {X : Type 0} → Result X Failed → Faults → Faults → Type 0
VaultCounts result before after =
    AreCounts before.accept before.keeper before.link before.conn (count_after result before.vault) after

-- giving a child back counts where its link had a fault, so many of them; and it may count where its
-- end can't be waited for
pub record FinishCounts (link_faults : ℕ) (before after : Faults) : Type 0 where
  pub others : AreCounts before.accept before.keeper after.link before.conn before.vault after
  pub counted : 0 < link_faults → after.link ≡ next_count before.link
  pub least : before.link ≤ after.link
  pub most : after.link ≤ next_count before.link

-- no count fell
pub record NoneFell (before after : Faults) : Type 0 where
  pub accept : before.accept ≤ after.accept
  pub keeper : before.keeper ≤ after.keeper
  pub link : before.link ≤ after.link
  pub conn : before.conn ≤ after.conn
  pub vault : before.vault ≤ after.vault
