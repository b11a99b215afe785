use Rattle.std.proofs.Common.{refl, sym, ◌∙◌, ap, subst, ◌++◌, ◌∷◌, [], if◌then◌else◌}
use Rattle.std.specs.Result.{is_ok}
use Rattle.slab.specs.Slab.{SameValues, get}
use Rattle.cfdp_leases.specs.declared.leases.LiveGrant.{LiveGrant}
use Rattle.cfdp_leases.specs.code.Footprint.{HasAncestors}
use Rattle.cfdp_leases.specs.Leases.{first_conflict, holds}
use Rattle.cfdp_leases.specs.code.Live.{AreKept, grants_of}
use Rattle.cfdp_leases.specs.code.Holders.{holders_at}
use Rattle.cfdp_leases.proofs.Admitted.{others-strangers}
use Rattle.cfdp_leases.proofs.Alone.{free_before}
use Rattle.cfdp_leases.proofs.Kept.{footprints-same, grants-same, grants_admitted, kept_admitted, kept_same}
use Rattle.cfdp_leases.proofs.leases.Leases.grant.Goals as goal

-- room was made
pub invariant_of-self-in_err-reserve-2 : goal.invariant_of-self-in_err-reserve-2
invariant_of-self-in_err-reserve-2 c =
    kept_same c.self.inside.footprints c.reserve-2.new.self c.self.inside.live.items c.reserve.new.self.items c.self.inside.paths c.self.inside.paths
    (λ key. ap (λ s. get s key) c.reserve-2.ensures.rest_kept) c.reserve.ensures.items c.self.invariant c.self.invariant.are_held

-- the map was put back
pub invariant_of-self-in_err-lease : goal.invariant_of-self-in_err-lease
invariant_of-self-in_err-lease c =
    let gs = grants_of c.self.inside.footprints c.self.inside.live.items in
    let unheld = ap (λ ks. holds ks c.args.transaction) c.self.view_is ∙ c.requires.unheld in
    kept_same c.self.inside.footprints c.reserve-2.new.self c.self.inside.live.items c.reserve.new.self.items c.self.inside.paths c.lease.new.self
    (λ key. ap (λ s. get s key) c.reserve-2.ensures.rest_kept) c.reserve.ensures.items c.self.invariant
    (c.in_err-lease.ensures.err (holders_at gs) c.self.invariant.are_held (λ p.
    free_before gs c.args.footprint p (ap (λ ks. first_conflict ks c.args.footprint) c.self.view_is ∙ c.requires.free))
    (λ p. others-strangers gs c.args.transaction p unheld))

-- the new grant conflicts with none, and the transaction had none
pub invariant_of-self-2 : goal.invariant_of-self-2
invariant_of-self-2 c =
    let s = c.self.inside.footprints in
    let t = c.reserve-2.new.self in
    let live = c.self.inside.live.items in
    let new : LiveGrant = record { transaction = c.args.transaction; key = c.insert_reserved-key.result } in
    let same : SameValues s t = λ key. ap (λ u. get u key) c.reserve-2.ensures.rest_kept in
    let kept = kept_same s t live live c.self.inside.paths c.self.inside.paths same refl c.self.invariant c.self.invariant.are_held in
    let grants = sym (grants-same s t live same) ∙ c.self.view_is in
    subst (λ ls. AreKept c.insert_reserved-key.new.self ls c.lease.new.self)
    (sym (c.push.ensures.items ∙ ap (λ r. if (is_ok r) then c.reserve.new.self.items ++ new ∷ [] else c.reserve.new.self.items) c.unwrap.ensures
    ∙ ap (λ ls. ls ++ new ∷ []) c.reserve.ensures.items))
    (kept_admitted t c.insert_reserved-key.new.self live new c.args.footprint c.self.inside.paths c.lease.new.self kept
    c.insert_reserved-key.ensures.was_vacant c.insert_reserved-key.ensures.updates (subst HasAncestors c.footprint.view_is c.footprint.invariant.ancestors)
    (ap (λ gs. first_conflict gs c.args.footprint) grants ∙ c.requires.free) (ap (λ gs. holds gs c.args.transaction) grants ∙ c.requires.unheld)
    (c.in_ok-lease.ensures.ok (holders_at (grants_of t live)) kept.are_held (λ p.
    free_before (grants_of t live) c.args.footprint p (ap (λ gs. first_conflict gs c.args.footprint) grants ∙ c.requires.free))))

pub returns-clause-granted : goal.returns-clause-granted
returns-clause-granted c =
    let s = c.self.inside.footprints in
    let t = c.reserve-2.new.self in
    let live = c.self.inside.live.items in
    let new : LiveGrant = record { transaction = c.args.transaction; key = c.insert_reserved-key.result } in
    let same : SameValues s t = λ key. ap (λ u. get u key) c.reserve-2.ensures.rest_kept in
    ap (grants_of c.insert_reserved-key.new.self)
    (c.push.ensures.items ∙ ap (λ r. if (is_ok r) then c.reserve.new.self.items ++ new ∷ [] else c.reserve.new.self.items) c.unwrap.ensures
    ∙ ap (λ ls. ls ++ new ∷ []) c.reserve.ensures.items)
    ∙ grants_admitted t c.insert_reserved-key.new.self live new c.args.footprint
    (footprints-same s t live same c.self.invariant.kept) c.insert_reserved-key.ensures.was_vacant c.insert_reserved-key.ensures.updates
    ∙ ap (λ gs. gs ++ (c.args.transaction, c.args.footprint) ∷ []) (sym (grants-same s t live same) ∙ c.self.view_is)
