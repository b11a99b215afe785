use Rattle.std.proofs.Common.{◌≡◌, drop, None}
use Rattle.std.specs.List.{AllByRecursion}
use Rattle.cfdp_links.specs.code.Linked.{first_stop}
use Rattle.cfdp_sim.proofs.link_scripts.first_stop.Given as goal

abbrev pub invariant-loop-worked : goal.invariant-loop-worked
invariant-loop-worked l = record {
  first : first_stop l.workers ≡ first_stop (drop l.worked-index l.workers);
  rest : AllByRecursion (λ worked. worked.stopped ≡ None) (drop l.worked-index l.workers)
      → AllByRecursion (λ worked. worked.stopped ≡ None) l.workers;
}
