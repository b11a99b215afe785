use Rattle.std.proofs.Common.{◌∙◌, ap}
use Rattle.cfdp_paths.specs.Paths.{is_at_or_below}
use Rattle.cfdp_paths.proofs.Moving.{below_at}
use Rattle.cfdp_paths.proofs.relocating.all_may_stay.Goals as goal

pub may_stay-requires : goal.may_stay-requires
may_stay-requires g c =
    let p = c.args.from.now in
    ap (λ e. is_at_or_below e.0 p) c.entry-item.is ∙ below_at p c.args.entries.now c.loop-entry.entry-index c.entry-item.result c.requires
    c.loop-entry-test.true
