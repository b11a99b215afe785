use Rattle.std.proofs.Common.{◌≡◌, ◌+◌, ◌*◌, ◌/◌, ◌%◌, ◌≤◌, min, take, length, sym, ◌∙◌, arith}
use Rattle.std.specs.Prelude.{slice_range}
use Rattle.cfdp_actions.specs.Store.{overwritten}
use Rattle.cfdp_tree.specs.code.Runs.{octets_of_run, KeepsFront}
use Rattle.cfdp_tree.proofs.OfRuns.OctetsInLists.{step_copy, slice-first}
use Rattle.cfdp_tree.proofs.OfRuns.RunLaws.{length-run}
use Rattle.cfdp_tree.proofs.OfRuns.WriteLaws.{writes_then}
use Rattle.cfdp_tree.proofs.OfRuns.FrontLaws.{front_held, front_nth, front_take}
use Rattle.cfdp_tree.proofs.runs.Run.copy.Goals as goal

pub copy_block-requires-clause-source_stays : goal.copy_block-requires-clause-source_stays
copy_block-requires-clause-source_stays c = let inv = c.loop-index.invariant in
    (λ e. let same = c.requires.source_stays e in (same.0, omega (arith, same.1, inv.from_index, inv.target_index)))

pub after-from-requires-clause-held : goal.after-from-requires-clause-held
after-from-requires-clause-held c =
    let l = c.loop-index in let inv = l.invariant in let run = c.args.self.now in let e = c.copy_block.ensures in let kept = e.only in
    let q = 120 * l.target.index + c.args.at % 120 in
    let keeps : KeepsFront run q c.args.source.now c.args.len = (λ same. let r = c.requires.source_stays same in (r.0, omega (arith, r.1, inv.target_index))) in
    let within : q ≤ length (octets_of_run l.arena run) =
    omega (arith, inv.target_index, length-run l.arena run.first 0 run.count run.first inv.only.held.parts) in
    front_held l.arena c.copy_block.new.arena run c.args.source.now q c.args.len _ keeps kept.held e.octets within kept.sequence kept.others inv.source

pub after-from-requires-clause-cursor : goal.after-from-requires-clause-cursor
after-from-requires-clause-cursor c =
    let l = c.loop-index in let inv = l.invariant in let run = c.args.self.now in let e = c.copy_block.ensures in let kept = e.only in
    let q = 120 * l.target.index + c.args.at % 120 in
    let keeps : KeepsFront run q c.args.source.now c.args.len = (λ same. let r = c.requires.source_stays same in (r.0, omega (arith, r.1, inv.target_index))) in
    let within : q ≤ length (octets_of_run l.arena run) =
    omega (arith, inv.target_index, length-run l.arena run.first 0 run.count run.first inv.only.held.parts) in
    let still = front_nth l.arena c.copy_block.new.arena run c.args.source.now q c.args.len _
    keeps kept.held e.octets within kept.sequence kept.others inv.source in
    (inv.from.0, inv.from.1 ∙ sym (still l.from.index inv.from.0))

pub loop-index-preserved : goal.loop-index-preserved
loop-index-preserved c =
    let l = c.loop-index in let inv = l.invariant in let r = c.requires in let a = c.args.arena.now in let run = c.args.self.now in let source =
    c.args.source.now in
    let at = c.args.at in let len = c.args.len in let n = c.min-count.result in
    let after = c.copy_block.new.arena in let e = c.copy_block.ensures in let kept = e.only in
    let src = octets_of_run a source in let old = octets_of_run a run in
    let i = l.index in let q = 120 * l.target.index + at % 120 in
    let p = 120 * (at / 120 + i) + at % 120 in
    let long = length-run a source.first 0 source.count source.first r.source.parts in
    let old_long = length-run a run.first 0 run.count run.first r.held.parts in
    let within : q ≤ length (octets_of_run l.arena run) =
    omega (arith, inv.target_index, length-run l.arena run.first 0 run.count run.first inv.only.held.parts) in
    let p_is : p ≡ at + 120 * i = omega arith in
    let keeps : KeepsFront run q source len = (λ same. let s = r.source_stays same in (s.0, omega (arith, s.1, inv.target_index))) in
    let start = 120 * l.from.index in
    let part : slice_range (octets_of_run l.arena source) start (start + n) ≡ slice_range src start (start + n) =
    slice-first (octets_of_run l.arena source) src len start (start + n) (omega (arith, inv.from_index)) inv.source_octets in
    record {
      only = writes_then a l.arena after run inv.only kept;
      octets = e.octets
          ∙ (λ k. overwritten (inv.octets k) (120 * inv.target_index k + at % 120) (part k))
          ∙ (λ k. overwritten (overwritten old at (take (min len (120 * i)) src)) p (slice_range src (120 * inv.from_index k) (120 * inv.from_index k + n)))
          ∙ step_copy old src at len i n p (omega (arith, old_long)) (omega (arith, long)) (omega arith) (omega arith) p_is;
      target = c.after-target.ensures.cursor;
      target_index = omega (arith, c.after-target.ensures.index, inv.target_index);
      source = front_held l.arena after run source q len _ keeps kept.held e.octets within kept.sequence kept.others inv.source;
      source_octets = front_take l.arena after run source q len _ keeps kept.held e.octets within kept.sequence kept.others inv.source ∙ inv.source_octets;
      from = c.after-from.ensures.cursor;
      from_index = omega (arith, c.after-from.ensures.index, inv.from_index);
    }
