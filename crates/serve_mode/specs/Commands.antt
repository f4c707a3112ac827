-- Inner: what contracts see of a command of the mode `serve`.
use Rattle.std.specs.Prelude.{option_map}
use Rattle.serve_mode.specs.declared.command.ServeCommand.{ServeCommand}
use Rattle.serve_mode.specs.declared.command.ServeCommand.TheVariants as commands
use Rattle.serve_mode.specs.Words.{Named, Plain, Source}

abbrev pub source_of : ServeCommand → Source
source_of commands.Plain = Plain
source_of (commands.Named setup log) = Named setup.now (option_map (λ word. word.now) log)
