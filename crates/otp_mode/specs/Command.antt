-- Inner: what contracts see of a command.
use Rattle.std.specs.Option.{option_copied}
use Rattle.otp_hash.specs.SeedBytes.{seed_bytes}
use Rattle.otp_mode.specs.declared.command.OtpCommand.{OtpCommand}
use Rattle.otp_mode.specs.Words.{OtpParts}

-- what a command asks for
abbrev pub command_parts : OtpCommand → OtpParts
command_parts c =
    record { algo = c.algo; number = c.number; seed = seed_bytes c.seed; list = option_copied c.list }
