use Rattle.std.proofs.Common.{rules, ◌≡◌, ◌+◌, ◌++◌, ◌∷◌, [], ℕ, length, subst}
use Rattle.std.specs.Vec.Iter.{into_iter_items}
use Rattle.cfdp_links.specs.Linked.{IsWork}
use Rattle.cfdp_links.proofs.Numbering.{numbered-first, numbered-rest, numbered-grown}
use Rattle.cfdp_links.proofs.workers.join_all.Goals as goal

pub loop-worker-preserved : goal.loop-worker-preserved
loop-worker-preserved g c =
    let items : c.push.new.self.items ≡ c.loop-worker.all.items ++ c.join.result ∷ [] = search rules in
    let left : into_iter_items c.loop-worker.worker-iterator ≡ c.in-Some.worker ∷ into_iter_items c.next.new.self = search rules in
    let more : length c.push.new.self.items ≡ length c.loop-worker.all.items + 1 = search rules in
    let done : IsWork c.in-Some.worker.promise.0 c.join.result = search rules in
    let number = numbered-first _ c.loop-worker.all.items _ _ _ c.loop-worker.invariant.promised left in
    record {
      promised = numbered-rest _ c.loop-worker.all.items _ c.join.result _ _ _ c.loop-worker.invariant.promised left more;
      works = numbered-grown _ _ _ _ c.loop-worker.invariant.works (subst (λ (n : ℕ). IsWork n c.join.result) number done) items;
      each = search rules;
    }
