use Rattle.std.proofs.Common.{◌≡◌, false, IsTrue, ◌++◌, map, drop}
use Rattle.std.specs.List.{list_all}
use Rattle.cfdp_paths.specs.Paths.{is_at_or_below, rebased}
use Rattle.cfdp_paths.specs.PathMaps.{is_too_deep}
use Rattle.cfdp_paths.proofs.relocating.new_paths.Given as goal

-- those made so far, and those to make yet
abbrev pub invariant-loop-entry : goal.invariant-loop-entry
invariant-loop-entry g l = record {
  made : l.paths.items ++ map (λ e. rebased l.from l.to e.0) (drop l.entry-index l.tree) ≡ map (λ e. rebased l.from l.to e.0) l.tree;
  shallow : is_too_deep l.from l.to (drop l.entry-index l.tree) ≡ false;
  below : IsTrue (list_all (λ e. is_at_or_below e.0 l.from) (drop l.entry-index l.tree));
}
