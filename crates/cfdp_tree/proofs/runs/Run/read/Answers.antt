use Rattle.std.proofs.Common.{◌≡◌, ◌<◌, ◌≤◌, ◌+◌, ◌-◌, ◌*◌, ℕ, length, length-take, length-drop, take, drop, ap, ◌∙◌, subst, arith}
use borrow.Rule.Slice.PartMut.{put_mid}
use Rattle.cfdp_tree.specs.code.Runs.{octets_of_run}
use Rattle.cfdp_tree.proofs.OfRuns.OctetsInLists.{step_read, slice_is}
use Rattle.cfdp_tree.proofs.runs.Run.read.Goals as goal

pub parts-preserved : goal.parts-preserved
parts-preserved c =
    let l = c.parts in let inv = l.invariant in let a = c.args.arena.now in let run = c.args.self.now in let at = c.args.at in
    let stop = c.min-stop.result in let count = stop - l.filled in let all = octets_of_run a run in let piece = c.get_in.new.buffer in
    let less : l.filled < length l.buffer = c.parts-test.true in
    let begins : l.filled ≤ stop = omega (arith, c.min-stop.ensures, less) in
    let ends : stop ≤ length l.buffer = omega (arith, c.min-stop.ensures) in
    let upto : l.filled + count ≡ stop = omega (arith, begins) in
    let whole : length piece ≡ count = omega (arith, c.get_in.auto.buffer, length-take {A = ℕ}, length-drop {A = ℕ}, begins, ends) in
    let next = inv.next (omega (arith, less, l.auto.buffer)) in
    let piece_is : piece ≡ take count (drop (at + l.filled) all) =
    c.get_in.ensures ∙ slice_is all (120 * l.cursor.index + l.block_offset) _ count (omega (arith, c.get_in.auto.buffer, whole))
    ∙ ap (λ n. take count (drop n all)) next in
    let read = step_read all l.buffer piece at l.filled count inv.octets piece_is whole (omega (arith, upto, ends)) in
    record {
      within = omega (arith, l.auto.buffer, ends);
      octets = subst (λ n. take n (put_mid l.filled (n - l.filled) l.buffer piece) ≡ take n (drop at all)) upto read;
      cursor = c.after-cursor.ensures.cursor;
      inside = omega arith;
      next = (λ more. omega (arith, more, l.auto.buffer, c.min-stop.ensures, next, inv.inside, less, c.after-cursor.ensures.index));
      last = inv.cursor;
    }
