use Rattle.std.proofs.Common.{◌≡◌, ◌∙◌, ap, arith, length, min}
use Rattle.cfdp_leases.proofs.Indexes.{first_more, prefix_len-none}
use Rattle.cfdp_leases.proofs.Kept.{length-live}
use Rattle.cfdp_leases.proofs.leases.Leases.first_changing.Goals as goal

pub loop-path-init : goal.loop-path-init
loop-path-init c =
    let all : c.len-first.result ≡ length c.self.inside.live.items = omega (arith, c.len-first.ensures, c.self.inside.live.ok.0) in
    all ∙ length-live c.self.inside.footprints c.self.inside.live.items ∙ ap length c.self.view_is ∙ prefix_len-none c.args.self.now

pub loop-path-preserved : goal.loop-path-preserved
loop-path-preserved c =
    c.min-first.ensures
    ∙ (λ i. min (c.loop-path.invariant i) (c.changing.ensures i))
    ∙ first_more (λ fp. fp.exclusive) c.args.self.now c.args.paths.now c.loop-path.path-index c.path-item.result c.loop-path-test.true c.path-item.is
