-- Inner: what a command asks for.
use Rattle.audit_mode.specs.declared.command.AuditCommand.{AuditCommand}
use Rattle.audit_mode.specs.Words.{AuditParts}

abbrev pub command_parts : AuditCommand → AuditParts
command_parts c = record { setup = c.setup.now; log = c.log.now }
