-- Inner: what a command asks for.
use Rattle.recover_mode.specs.declared.command.RecoverCommand.{RecoverCommand}
use Rattle.recover_mode.specs.Words.{RecoverParts}

abbrev pub command_parts : RecoverCommand → RecoverParts
command_parts c = record { setup = c.setup.now; log = c.log.now }
