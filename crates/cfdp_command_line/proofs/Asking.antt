-- What the matches of a command ask for.
use Rattle.std.proofs.Common.{◌≡◌, ◌∙◌, List, Option, None, Some, ap, codes, option_map, refl, sym}
use Rattle.std.specs.Prelude.{Box, option_and_then}
use Rattle.std.specs.Borrow.{Bor}
use Rattle.std.specs.Box.{box_value}
use Rattle.clap.specs.Words.{Row, Text, first_of, subcommand_name_of, subcommand_rows, subcommand_rows_of}
use Rattle.clap.specs.declared.parser.matches.ArgMatches.{ArgMatches}
use Rattle.clap.specs.declared.parser.matches.ArgMatches.TheViews.{out-ArgMatches, out-SubCommand}
use Rattle.clap.specs.declared.parser.matches.SubCommand.{SubCommand}
use Rattle.cfdp_command_line.specs.Words.{IsAsked}
use Rattle.cfdp_command_line.specs.declared.words.Asked.TheVariants.{Replay}

-- the name of the command that was entered is beside its rows
name_of_rows : {Z : Type 0} (entered : Option (Box SubCommand Z))
    → option_map (λ named. named.0) (subcommand_rows entered) ≡ option_map (λ b. (out-SubCommand (box_value b)).name.now) entered
name_of_rows {Z = Z} None = refl
name_of_rows {Z = Z} (Some b) = refl

pub named_as : (m : ArgMatches) → option_map (λ named. named.0) (subcommand_rows_of m) ≡ subcommand_name_of m
named_as m = name_of_rows (out-ArgMatches m).subcommand

-- what is read of the rows of a command that was entered
of_rows : {X : Type 0} (read : List Row → Option X) (command : Option (Text × List Row))
    → option_and_then (λ named. read named.1) command ≡ option_and_then read (option_map (λ named. named.1) command)
of_rows {X = X} read None = refl
of_rows {X = X} read (Some named) = refl

pub asked_to_replay : (m : ArgMatches) (rows : List Row) (file : Option (Bor Text)) → subcommand_name_of m ≡ Some (codes "replay")
    → option_map (λ named. named.1) (subcommand_rows_of m) ≡ Some rows
    → option_map (λ name. name.now) file ≡ first_of (codes "FILE") rows
    → IsAsked (subcommand_rows_of m) (Replay file)
asked_to_replay m rows file name found first = (
  named_as m ∙ name,
  first
      ∙ sym (of_rows (first_of (codes "FILE")) (subcommand_rows_of m) ∙ ap (option_and_then (first_of (codes "FILE"))) found),
)
