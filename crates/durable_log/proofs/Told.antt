-- What goes on where a disk tells.
use Rattle.std.proofs.Common.{Option, Some, None, IfSome}
use Rattle.outside.specs.Told.{Goes}
use Rattle.durable_log.specs.Disk.{Story}

pub goes_both : {A B C : Story → Story → Type 0} → ((f n : Story) → A f n → B f n → C f n) → (f n : Option Story) → Goes A f n → Goes B f n → Goes C f n
goes_both step f None a b = tt
goes_both step None (Some n) a b = absurd a
goes_both step (Some f) (Some n) a b = step f n a b

pub goes_on : {A S C : Story → Story → Type 0} → ((f n m : Story) → A f n → S n m → C f m) → (f n m : Option Story) → Goes A f n → Goes S n m → Goes C f m
goes_on step f n None a s = tt
goes_on step f None (Some m) a s = absurd s
goes_on step None (Some n) (Some m) a s = absurd a
goes_on step (Some f) (Some n) (Some m) a s = step f n m a s

pub goes_map : {A C : Story → Story → Type 0} → ((f n : Story) → A f n → C f n) → (f n : Option Story) → Goes A f n → Goes C f n
goes_map step f None a = tt
goes_map step None (Some n) a = absurd a
goes_map step (Some f) (Some n) a = step f n a

pub goes_now : {A : Story → Story → Type 0} → {P : Story → Type 0} → ((f n : Story) → A f n → P n) → (f n : Option Story) → Goes A f n → IfSome n P
goes_now step f None a = tt
goes_now step None (Some n) a = absurd a
goes_now step (Some f) (Some n) a = step f n a
