use Rattle.std.proofs.Common.{List, ◌++◌, drop}
use Rattle.cfdp_command_line.specs.Files.{AllPaired}
use Rattle.cfdp_command_line.proofs.files.open_all.Given as goal

abbrev pub invariant-loop-path : goal.invariant-loop-path
invariant-loop-path g l =
    (more : List _) → AllPaired (λ path file. g.O.Opens.IsOpened path.now file) (drop l.path-index l.paths) more
    → AllPaired (λ path file. g.O.Opens.IsOpened path.now file) l.paths (l.opened.items ++ more)
