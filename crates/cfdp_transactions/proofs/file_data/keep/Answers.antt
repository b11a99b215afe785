use Rattle.std.proofs.Common.{◌≡◌, ◌<◌, length, sym, ap, ◌∙◌, arith}
use Rattle.std.specs.Prelude.{max, ◌+◌, ◌-◌}
use Rattle.cfdp_actions.specs.Filestore.{staged_in, blocks_of}
use Rattle.cfdp_transactions.proofs.Received.FillingGaps.{IsKeptIn, kept_in}
use Rattle.cfdp_transactions.proofs.file_data.keep.Goals as goal
use Rattle.cfdp_transactions.proofs.file_data.keep.Goals.{After-put_missing}
use Rattle.cfdp_transactions.proofs.file_data.keep.Given.{Over}

returned : (g : Over) (c : After-put_missing g) → IsKeptIn c.args.ranges.now c.args.at c.args.octets.now c.args.slot (g.S.Filestore.state c.args.store.now)
    (g.S.Filestore.state c.put_missing.new.store)
returned g c =
    let s = g.S.Filestore.state c.args.store.now in
    let slot : c.args.slot < length s.filestore.staged = omega (arith, c.requires.slot, c.staged_size.ensures.slots) in
    let size : c.max-size.result ≡ max (length (staged_in s.filestore c.args.slot)) (c.args.at + length c.args.octets.now) =
    omega (arith, c.max-size.ensures, c.staged_size.ensures.value) in
    kept_in c.args.ranges.now c.args.at c.args.octets.now c.args.slot c.max-size.result s (g.S.Filestore.state c.stage_extend.new.self)
    (g.S.Filestore.state c.put_missing.new.store)
    slot c.requires.some size c.requires.pieces c.requires.zeros c.in_ok-taken.ensures.extended c.put_missing.ensures

pub returns-clause-kept : goal.returns-clause-kept
returns-clause-kept g c = (returned g c).whole

pub returns-clause-ranges : goal.returns-clause-ranges
returns-clause-ranges g c = (returned g c).ranges_are

pub returns-clause-taken : goal.returns-clause-taken
returns-clause-taken g c =
    let s = g.S.Filestore.state c.args.store.now in
    let size : c.max-size.result ≡ max (length (staged_in s.filestore c.args.slot)) (c.args.at + length c.args.octets.now) =
    omega (arith, c.max-size.ensures, c.staged_size.ensures.value) in
    c.in_ok-taken.ensures.ticks ∙ ap (λ n. blocks_of n - blocks_of (length (staged_in s.filestore c.args.slot))) (size ∙ sym (returned g c).long)
