use Rattle.std.proofs.Common.{◌≡◌, ◌≤◌, ◌+◌, length, map}
use Rattle.cfdp_lines.specs.Lines.{lines_of}
use Rattle.cfdp_links.specs.Links.{file_said, read_from, said_of}
use Rattle.cfdp_commands.specs.Stages.{setup_of}
use Rattle.cfdp_links.proofs.link_lines.read_file.Given as goal

abbrev pub invariant-lines : goal.invariant-lines
invariant-lines l = record {
  reads : read_from l.number (record { stage = setup_of l.setup; said = map said_of l.messages.items }) (lines_of l.rest)
      ≡ file_said (setup_of l.initial.setup) l.script;
  number : l.number + length l.rest ≤ length l.script + 1;
}

abbrev pub decreases-lines : goal.decreases-lines
decreases-lines l = length l.rest
