use Rattle.std.proofs.Common.{◌+◌, ◌*◌, length, take, drop, refl, sym, ap, ◌∙◌}
use Rattle.cfdp_tree.specs.code.Block.{payload}
use Rattle.cfdp_tree.specs.code.Runs.{octets, octets_of_run}
use Rattle.cfdp_arena.specs.Arena.{octets_at}
use Rattle.cfdp_tree.proofs.OfRuns.OctetsInLists.{slice_is}
use Rattle.cfdp_tree.proofs.OfRuns.RunLaws.{run_slice}
use Rattle.cfdp_tree.proofs.OfRuns.HeldLaws.{held_part, octets_are}
use Rattle.cfdp_tree.proofs.runs.Run.get_in.Goals as goal

pub bytes-requires : goal.bytes-requires
bytes-requires c = let r = c.requires in let k = c.args.cursor.now in
    record { live = (held_part c.args.arena.now c.args.self.now r.held k.index r.within k.block r.cursor.1).live }

pub returns : goal.returns
returns c = let r = c.requires in let k = c.args.cursor.now in let a = c.args.arena.now in let run = c.args.self.now in
    let n = length c.args.buffer.now in let at = c.args.at in
    c.get_part.ensures
    ∙ slice_is (payload c.bytes.result.now) at (at + n) n refl
    ∙ ap (λ o. take n (drop at (payload o))) (octets_are a k.block _ c.bytes.ensures.octets)
    ∙ ap (λ b. take n (drop at (payload (octets (octets_at a b))))) r.cursor.1
    ∙ sym (run_slice a run.first 0 run.count run.first k.index at n (120 * k.index + at) r.held.parts r.within r.fits refl)
    ∙ sym (slice_is (octets_of_run a run) (120 * k.index + at) (120 * k.index + at + n) n refl)
