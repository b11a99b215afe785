use Rattle.std.proofs.Common.{◌≡◌, ◌≤◌, ◌+◌, ◌-◌, take, drop, sym, ap, ◌∙◌, arith}
use Rattle.std.specs.Prelude.{slice_range}
use Rattle.cfdp_checksum.specs.Checksum.{checksum_at}
use Rattle.cfdp_tree.specs.code.Runs.{octets_of_run}
use Rattle.cfdp_tree.proofs.OfRuns.RunLaws.{length-run}
use Rattle.cfdp_tree.proofs.OfRuns.SummingLaws.{none_summed, step_sum}
use Rattle.cfdp_tree.proofs.runs.Run.sum_of.Goals as goal

pub parts-init : goal.parts-init
parts-init c =
    let at = c.args.at in let len = c.args.len in
    record {
      fewer = omega arith;
      sum = sym (none_summed c.args.offset (drop at (octets_of_run c.args.arena.now c.args.self.now)) (len - len) (omega arith));
      offset = omega arith;
      cursor = c.requires.first;
      inside = omega arith;
      next = (λ some. omega (arith, c.requires.index));
    }

pub parts-preserved : goal.parts-preserved
parts-preserved c =
    let l = c.parts in let inv = l.invariant in let run = c.args.self.now in let at = c.args.at in let len = c.args.len in let offset = c.args.offset in
    let all = octets_of_run c.args.arena.now run in let count = c.min-count.result in
    let done = len - l.left in
    let fewer : count ≤ l.left = omega (arith, c.min-count.ensures) in
    let next = inv.next c.parts-test.true in
    let later : done + count ≡ len - (l.left - count) = omega (arith, fewer, inv.fewer) in
    let part = c.sum_in-sum.ensures ∙ (λ k. checksum_at (inv.offset k) (slice_range all (next k) (next k + count))) in
    record {
      fewer = omega (arith, inv.fewer);
      sum = step_sum all at offset done count l.sum c.sum_in-sum.result
          (omega (arith, length-run c.args.arena.now run.first 0 run.count run.first c.requires.held.parts, c.requires.range, fewer, inv.fewer)) inv.sum part
          ∙ ap (λ n. checksum_at offset (take n (drop at all))) later;
      offset = omega (arith, inv.offset, fewer, inv.fewer);
      cursor = c.after-cursor.ensures.cursor;
      inside = omega arith;
      next = (λ more. omega (arith, more, c.min-count.ensures, next, inv.inside, inv.fewer, c.after-cursor.ensures.index));
    }
