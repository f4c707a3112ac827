-- Inner: what objects with fixed room tell.
use Rattle.std.specs.Prelude.{ℕ, List, ◌++◌, length, nat_le, Option, Some, None, if◌then◌else◌}
use Rattle.outside.specs.Link.{Link}

-- what is told of bytes that are kept, after more of them: nothing any more, where these don't fit
-- the room that was left
abbrev pub kept_within : ℕ → Option (List ℕ) → List ℕ → Option (List ℕ)
kept_within left None bytes = None
kept_within left (Some held) bytes = if nat_le (length bytes) left then Some (held ++ bytes) else None

-- what is told of a link, after these bytes were sent: nothing any more, where they don't fit the
-- room that was left
abbrev pub sent_within : ℕ → Option Link → List ℕ → Option Link
sent_within left None bytes = None
sent_within left (Some l) bytes =
    if nat_le (length bytes) left then Some (record l { sent = l.sent ++ bytes })
    else None
