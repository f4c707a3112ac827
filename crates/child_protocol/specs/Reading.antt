-- Inner: what was read of a line, in memory.
use Rattle.std.specs.Prelude.{◌≡◌, ℕ, ◌≤◌, true, List, length, drop, is_some}
use Rattle.fixed_list.specs.FixedList.{list_of}
use Rattle.request_catalogue.specs.TextBytes.{name_bytes, label_bytes, note_bytes}
use Rattle.child_protocol.specs.Lines as lines
use Rattle.child_protocol.specs.Commands as commands
use Rattle.child_protocol.specs.User as user
use Rattle.child_protocol.specs.declared.user_command.UserLine.{UserLine}
use Rattle.child_protocol.specs.declared.user_command.UserLine.TheVariants as user_lines
use Rattle.child_protocol.specs.declared.line.Front.{Front}
use Rattle.child_protocol.specs.declared.line.Front.TheVariants as fronts
use Rattle.child_protocol.specs.declared.command.Command.{Command}
use Rattle.child_protocol.specs.declared.command.Command.TheVariants as read_commands

abbrev pub front_value : Front → lines.Front
front_value fronts.More = lines.More
front_value fronts.TooLong = lines.TooLong
front_value (fronts.Line text len) = lines.Line text.now

-- how long a line is with its newline
abbrev pub IsLineOf : List ℕ → Front → Type 0
IsLineOf bytes (fronts.Line text len) =
    (len ≤ length bytes) × (drop len bytes ≡ lines.behind_line bytes) × (is_some (lines.line_end bytes) ≡ true)
IsLineOf bytes fronts.More = length bytes ≤ 300
IsLineOf bytes fronts.TooLong = Unit {0}

abbrev pub command_value : Command → commands.PreCommand
command_value (read_commands.Terminal text) = commands.Terminal (list_of text)
command_value (read_commands.User name) = commands.User (name_bytes name)
command_value (read_commands.Respond text) = commands.Respond text.now
command_value read_commands.Cancel = commands.Cancel
command_value read_commands.Quit = commands.Quit
command_value read_commands.Other = commands.Other

abbrev pub line_value : UserLine → user.UserCommand
line_value (user_lines.Get name) = user.Get (label_bytes name)
line_value (user_lines.Put name text) = user.Put (label_bytes name) text.now
line_value (user_lines.Tell number) = user.Tell number
line_value (user_lines.Remark text) = user.Remark (note_bytes text)
line_value user_lines.Leave = user.Leave
line_value user_lines.Unknown = user.Unknown
