use Rattle.std.proofs.Common.{◌≤◌, drop, length}
use Rattle.std.specs.List.{AllByRecursion}
use Rattle.std.specs.Prelude.{◌↔◌}
use Rattle.cfdp_sim.specs.Lines.{input_limit}
use Rattle.tests_scripts.proofs.tests.links.are_linkable.Given as goal

abbrev pub invariant-loop-script : goal.invariant-loop-script
invariant-loop-script l = record {
  rest : AllByRecursion (λ script. length script.items ≤ input_limit) l.scripts
      ↔ AllByRecursion (λ script. length script.items ≤ input_limit) (drop l.script-index l.scripts);
}
