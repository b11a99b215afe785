use Rattle.std.proofs.Common.{sym, ◌∙◌, ap}
use Rattle.std.specs.List.{list_any}
use Rattle.cfdp_leases.specs.Leases.{holds, is_same}
use Rattle.cfdp_leases.specs.code.Live.{footprint_at}
use Rattle.cfdp_leases.proofs.Views.{list_any-map}
use Rattle.cfdp_leases.proofs.leases.Leases.holds.Goals as goal

pub returns : goal.returns
returns c =
    c.any_of.ensures
    ∙ ap (list_any (λ l. is_same l.transaction c.args.transaction)) c.deref.ensures.value
    ∙ sym (list_any-map (λ l. (l.transaction, footprint_at c.self.inside.footprints l.key)) (λ g. is_same g.0 c.args.transaction) c.self.inside.live.items)
    ∙ ap (λ gs. holds gs c.args.transaction) c.self.view_is
