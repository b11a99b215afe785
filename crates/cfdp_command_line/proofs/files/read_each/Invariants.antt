use Rattle.std.proofs.Common.{◌≤◌, List, ◌++◌, length}
use Rattle.std.specs.List.{AllByRecursion}
use Rattle.std.specs.Vec.Iter.{into_iter_items}
use Rattle.cfdp_lines.specs.Lines.{input_limit}
use Rattle.cfdp_command_line.specs.Files.{AllPaired, IsWhole}
use Rattle.cfdp_command_line.proofs.files.read_each.Given as goal

abbrev pub invariant-loop-input : goal.invariant-loop-input
invariant-loop-input g l = record {
  short : AllByRecursion (λ script. length script.items ≤ input_limit) l.scripts.items;
  read : (more : List _) → AllPaired (λ input script. IsWhole (g.I.Read.remaining input) script.items) (into_iter_items l.input-iterator) more
      → AllPaired (λ input script. IsWhole (g.I.Read.remaining input) script.items) l.fn.inputs.items (l.scripts.items ++ more);
}
