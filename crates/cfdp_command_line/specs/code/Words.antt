-- What only the proofs of the code need of `Words`.
--   has_globals     a command has arguments that its subcommands have too
use Rattle.std.specs.Prelude.{Bool}
use Rattle.clap.specs.declared.builder.command.Command.{Command}
use Rattle.clap.specs.declared.builder.command.Command.TheViews.{out-Command}

abbrev pub has_globals : Command → Bool
has_globals command = (out-Command command).has_globals
