use Rattle.std.proofs.Common.{rules, ◌≡◌, ◌++◌, ◌∷◌, [], length}
use Rattle.cfdp_links.proofs.Numbering.{numbered-grown}
use Rattle.cfdp_links.proofs.workers.fn.run_all.scope.Goals as goal

pub loop-index-preserved : goal.loop-index-preserved
loop-index-preserved g c =
    let items : c.push-in-loop-index.new.self.items ≡ c.loop-index.workers.items ++ c.in-Ok.worker ∷ [] = search rules in
    let number : c.in-Ok.worker.promise.0 ≡ length c.loop-index.workers.items = search rules in
    record {
      numbered = numbered-grown _ _ _ _ c.loop-index.invariant.numbered number items;
      many = search rules;
    }
