-- Inner: what a command asks for.
use Rattle.request_catalogue.specs.TextBytes.{name_bytes}
use Rattle.child_protocol.specs.Says.{Pre, User}
use Rattle.child_mode.specs.declared.command.ChildCommand.{ChildCommand}
use Rattle.child_mode.specs.declared.command.ChildCommand.TheVariants as commands
use Rattle.child_mode.specs.Words.{ChildParts}

abbrev pub parts_of : ChildCommand → ChildParts
parts_of (commands.Pre session) = record { role = Pre; session = session }
parts_of (commands.User session uid user) =
    record { role = User (record { uid = uid; name = name_bytes user }); session = session }
