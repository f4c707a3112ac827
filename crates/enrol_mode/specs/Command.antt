-- Inner: what contracts see of a command.
use Rattle.otp_hash.specs.SeedBytes.{seed_bytes}
use Rattle.request_catalogue.specs.TextBytes.{name_bytes}
use Rattle.enrol_mode.specs.declared.command.EnrolCommand.{EnrolCommand}
use Rattle.enrol_mode.specs.Words.{EnrolParts}

-- what a command asks for
abbrev pub command_parts : EnrolCommand → EnrolParts
command_parts c =
    record { name = name_bytes c.name; uid = c.uid; algo = c.algo; number = c.number; seed = seed_bytes c.seed }
