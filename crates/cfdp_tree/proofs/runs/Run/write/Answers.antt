use Rattle.std.proofs.Common.{◌≡◌, ◌<◌, ◌≤◌, ◌+◌, ◌-◌, ◌*◌, length, take, drop, sym, ap, ◌∙◌, arith, length-drop}
use Rattle.std.proofs.lemmas.List.{drop-drop}
use Rattle.cfdp_actions.specs.Store.{overwritten}
use Rattle.cfdp_tree.specs.code.Runs.{octets_of_run}
use Rattle.cfdp_tree.proofs.OfRuns.OctetsInLists.{step_write}
use Rattle.cfdp_tree.proofs.OfRuns.RunLaws.{length-run}
use Rattle.cfdp_tree.proofs.OfRuns.WriteLaws.{writes_then}
use Rattle.cfdp_tree.proofs.runs.Run.write.Goals as goal

pub parts-preserved : goal.parts-preserved
parts-preserved c =
    let l = c.parts in let inv = l.invariant in let a = c.args.arena.now in let run = c.args.self.now in let at = c.args.at in let octets = c.args.octets.now in
    let put = c.put_in.ensures in let count = c.min.result in let parts = c.split_at.ensures in
    let done = length octets - length l.rest.now in
    let some : 0 < length l.rest.now = grind (arith, c.is_empty.ensures, c.parts-test.true) in
    let left : length c.split_at.result.1.now ≡ length l.rest.now - count = ap length parts.back ∙ length-drop count l.rest.now in
    let fewer : count ≤ length l.rest.now = omega (arith, c.min.ensures) in
    let later : done + count ≡ length octets - length c.split_at.result.1.now = omega (arith, left, fewer, inv.fewer) in
    record {
      only = writes_then a l.arena c.put_in.new.arena run inv.only put.only;
      fewer = omega (arith, left, inv.fewer);
      rest = parts.back ∙ ap (drop count) inv.rest ∙ drop-drop count done octets ∙ ap (λ n. drop n octets) later;
      octets = put.octets
          ∙ (λ k. overwritten (inv.octets k) (120 * l.cursor.index + l.block_offset) (parts.front k))
          ∙ step_write (octets_of_run a run) octets l.rest.now at done count (120 * l.cursor.index + l.block_offset)
          (omega (arith, length-run a run.first 0 run.count run.first c.requires.held.parts, c.requires.range)) (omega (arith, fewer, inv.fewer)) inv.rest
          (inv.next some)
          ∙ ap (λ n. overwritten (octets_of_run a run) at (take n octets)) later;
      cursor = c.after-cursor.ensures.cursor;
      inside = omega arith;
      next = (λ more. omega (arith, more, left, c.min.ensures, inv.next some, inv.inside, inv.fewer, c.after-cursor.ensures.index));
      last = (inv.cursor.0, inv.cursor.1 ∙ sym (put.only.sequence l.cursor.index inv.cursor.0));
    }
