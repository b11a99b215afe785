use Rattle.std.proofs.Common.{sym, ◌∙◌, ap, min, subst}
use Rattle.std.specs.Prelude.{slice_get}
use Rattle.std.specs.FinSet as set
use Rattle.std.specs.Option.{option_map}
use Rattle.std.specs.List.{AllByRecursion}
use Rattle.cfdp_leases.specs.code.Footprint.{HasAncestors}
use Rattle.cfdp_leases.proofs.Indexes.{conflict_at}
use Rattle.cfdp_leases.proofs.Kept.{transaction-live}
use Rattle.cfdp_leases.proofs.leases.Leases.conflict.Goals as goal

-- the first of those that lease an exclusive path, and of those that lease a shared one exclusively
pub returns-clause-first : goal.returns-clause-first
returns-clause-first c =
    let first = c.min.ensures ∙ (λ i. min (c.first_leasing-leasing.ensures i) (c.first_changing-changing.ensures i)) in
    c.transaction_at.ensures
    ∙ ap (λ live. option_map (λ l. l.transaction) (slice_get live c.min.result)) c.deref-3.ensures.value
    ∙ transaction-live c.self.inside.footprints c.self.inside.live.items c.min.result
    ∙ (λ i. option_map (λ g. g.0) (slice_get (c.self.view_is i) (first i)))
    ∙ sym (conflict_at c.args.self.now c.args.footprint.now c.deref.result.now c.deref-2.result.now
    (subst (AllByRecursion (λ g. HasAncestors g.1)) c.self.view_is c.self.invariant.rooted)
    (subst HasAncestors c.footprint.view_is c.footprint.invariant.ancestors)
    (ap set.from_list c.deref.ensures.value ∙ ap (λ fp. fp.exclusive) c.footprint.view_is)
    (ap set.from_list c.deref-2.ensures.value ∙ ap (λ fp. fp.shared) c.footprint.view_is))
