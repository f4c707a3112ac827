-- No receiving is asked of a child where nothing is done with its link.
use Rattle.std.proofs.Common.{Option}
use Rattle.outside.specs.Link.{IsUnasked, Link}
use Rattle.outside.specs.Told.{Goes}
use Rattle.outside.proofs.Told.{Gains-none, Goes-same}

pub unasked_none : (link : Option Link) → Goes IsUnasked link link
unasked_none link = Goes-same IsUnasked (λ l. Gains-none l.receivings) link
