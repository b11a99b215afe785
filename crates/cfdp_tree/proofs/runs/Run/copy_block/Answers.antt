use Rattle.std.proofs.Common.{◌≡◌, ◌+◌, ◌-◌, ◌*◌, ◌≤◌, ℕ, length, length-take, length-drop, ap, ◌∙◌, sym, arith}
use Rattle.std.specs.Prelude.{slice_range}
use Rattle.cfdp_actions.specs.Store.{overwritten}
use Rattle.cfdp_tree.specs.code.Runs.{octets_of_run}
use Rattle.cfdp_tree.proofs.OfRuns.OctetsInLists.{overwritten-join, slice_join, slice-first}
use Rattle.cfdp_tree.proofs.OfRuns.RunLaws.{length-run}
use Rattle.cfdp_tree.proofs.OfRuns.FrontLaws.{front_held, front_nth, front_take}
use Rattle.cfdp_tree.proofs.OfRuns.WriteLaws.{writes_then}
use Rattle.cfdp_tree.proofs.runs.Run.copy_block.Goals as goal

pub copy_in-requires-3-clause-source : goal.copy_in-requires-3-clause-source
copy_in-requires-3-clause-source c =
    let r = c.requires in let run = c.args.self.now in let a = c.args.arena.now in let e = c.copy_in-2.ensures in let kept = e.only in
    let old_long = length-run a run.first 0 run.count run.first r.held.parts in
    front_held a c.copy_in-2.new.arena run c.args.source.now _ _ _ r.source_stays kept.held e.octets (omega (arith, old_long))
    kept.sequence kept.others r.source

pub copy_in-requires-3-clause-from : goal.copy_in-requires-3-clause-from
copy_in-requires-3-clause-from c =
    let r = c.requires in let run = c.args.self.now in let a = c.args.arena.now in let e = c.copy_in-2.ensures in let kept = e.only in
    let old_long = length-run a run.first 0 run.count run.first r.held.parts in
    let still = front_nth a c.copy_in-2.new.arena run c.args.source.now _ _ _ r.source_stays kept.held e.octets
    (omega (arith, old_long)) kept.sequence kept.others r.source in
    (r.from.0, r.from.1 ∙ sym (still c.args.from.now.index r.from.0))

pub returns-clause-octets : goal.returns-clause-octets
returns-clause-octets c =
    let r = c.requires in let a = c.args.arena.now in let run = c.args.self.now in let source = c.args.source.now in
    let src = octets_of_run a source in let old = octets_of_run a run in
    let at = c.args.to.now.at in let n = c.args.count in let room = 120 - at in
    let base = 120 * c.args.from.now.index in let p = 120 * c.args.to.now.cursor.index + at in
    let e = c.copy_in-2.ensures in let kept = e.only in
    let j = 120 * c.after.result.index + 0 in
    let long = length-run a source.first 0 source.count source.first r.source.parts in
    let old_long = length-run a run.first 0 run.count run.first r.held.parts in
    let within : p ≤ length old = omega (arith, old_long) in
    let same = front_take a c.copy_in-2.new.arena run source p (base + n) _ r.source_stays kept.held e.octets within kept.sequence kept.others r.source in
    let start = base + room in
    let rest : slice_range (octets_of_run c.copy_in-2.new.arena source) start (start + (n - room)) ≡ slice_range src start (start + (n - room)) =
    slice-first (octets_of_run c.copy_in-2.new.arena source) src (base + n) start (start + (n - room)) (omega arith) same in
    let none : base + 0 ≡ base = omega arith in
    let first_end : base + 0 + room ≡ base + room = omega arith in
    let last_end : base + room + (n - room) ≡ base + n = omega arith in
    let first_long : length (slice_range src base (base + room)) ≡ room = omega (arith, length-take {A = ℕ}, length-drop {A = ℕ}, long) in
    let next : j ≡ p + length (slice_range src base (base + room)) = omega (arith, first_long, c.after.ensures.index) in
    c.copy_in-3.ensures.octets
    ∙ (λ k. overwritten (e.octets k) j (rest k))
    ∙ (λ k. overwritten (overwritten old p (slice_range src (none k) (first_end k))) j (slice_range src (base + room) (last_end k)))
    ∙ overwritten-join old (slice_range src base (base + room)) (slice_range src (base + room) (base + n)) p j within next
    ∙ ap (overwritten old p) (slice_join src base (base + room) (base + n) (omega arith) (omega arith))

pub returns-clause-only : goal.returns-clause-only
returns-clause-only c =
    writes_then c.args.arena.now c.copy_in-2.new.arena c.copy_in-3.new.arena c.args.self.now c.copy_in-2.ensures.only c.copy_in-3.ensures.only
