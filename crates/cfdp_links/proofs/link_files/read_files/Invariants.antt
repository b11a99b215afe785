use Rattle.std.proofs.Common.{◌≡◌, ◌≤◌, drop, length, map}
use Rattle.std.specs.List.{AllByRecursion}
use Rattle.cfdp_lines.specs.Lines.{input_limit}
use Rattle.cfdp_links.specs.Linked.{IsHeard}
use Rattle.cfdp_links.specs.Links.{files_from, link_files, said_of}
use Rattle.cfdp_commands.specs.Stages.{setup_of}
use Rattle.cfdp_links.proofs.link_files.read_files.Given as goal

abbrev pub invariant-loop-index : goal.invariant-loop-index
invariant-loop-index l = record {
  reads : files_from l.index (setup_of l.setup) (map (λ file. map said_of file.items) l.files.items) (map (λ script. script.items) (drop l.index l.scripts))
      ≡ link_files (map (λ script. script.items) l.scripts);
  each : length l.files.items ≡ l.index;
  heard : AllByRecursion (λ file. AllByRecursion IsHeard (map said_of file.items)) l.files.items;
  short : AllByRecursion (λ script. length script.items ≤ input_limit) (drop l.index l.scripts);
}
