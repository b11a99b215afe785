-- The words that the program knows, as `clap` has them, and what they ask for.
--
--   file_rule       an optional word
--   files_rule      one to four words
--   replay_shape    `replay`, which may have a file
--   links_shape     `links`, which has one to four files
--   program         the program's commands, `plain`, `replay` and `links`; one has to be named
--   IsCommandNamed  the command has this name
--   IsAsked         what is asked for is the command that was named, with its files
use Rattle.std.specs.Prelude.{◌≡◌, true, codes, List, [], ◌∷◌, Option, Some, map, option_map, option_and_then, unwrap_or}
use Rattle.clap.specs.Words.{App, Row, Rule, Shape, Text, all_of, first_of, new_app, new_rule, with_subcommand}
use Rattle.clap.specs.Simple.{on_top, new_shape}
use Rattle.cfdp_command_line.specs.declared.words.Asked.{Asked}
use Rattle.cfdp_command_line.specs.declared.words.Asked.TheVariants.{Plain, Replay, Links}

abbrev pub file_rule : Rule
file_rule = new_rule (codes "FILE")

abbrev pub files_rule : Rule
files_rule = record file_rule {
  required = true;
  range = Some (record { start_inclusive = 1; end_inclusive = 4 });
}

abbrev pub replay_shape : Shape
replay_shape = record (new_shape (codes "replay")) { rules = file_rule ∷ [] }

abbrev pub links_shape : Shape
links_shape = record (new_shape (codes "links")) { rules = files_rule ∷ [] }

abbrev pub program : App
program =
    with_subcommand
    (with_subcommand
    (with_subcommand
    (on_top (λ shape. record shape { subcommand_required = true }) (new_app (codes "cfdpsim")))
    (new_shape (codes "plain")))
    replay_shape)
    links_shape

abbrev pub IsCommandNamed : Text → Option (Text × List Row) → Type 0
IsCommandNamed name command = option_map (λ named. named.0) command ≡ Some name

abbrev pub IsAsked : Option (Text × List Row) → Asked → Type 0
IsAsked command Plain = (IsCommandNamed (codes "replay") command → ⊥) × (IsCommandNamed (codes "links") command → ⊥)
IsAsked command (Replay file) = IsCommandNamed (codes "replay") command
    × (option_map (λ name. name.now) file ≡ option_and_then (λ named. first_of (codes "FILE") named.1) command)
IsAsked command (Links files) = IsCommandNamed (codes "links") command
    × (map (λ name. name.now) files.items ≡ unwrap_or (option_and_then (λ named. all_of (codes "FILE") named.1) command)
    [])
