use Rattle.std.proofs.Common.{◌≡◌, sym, ◌∙◌, ap, Bool, true, false}
use Rattle.std.specs.Prelude.{if◌then◌else◌, Some, None}
use Rattle.std.specs.List.{list_any}
use Rattle.cfdp_paths.specs.Paths.{Path, same_path, is_at_or_below}
use Rattle.cfdp_leases.specs.declared.lease.Lease.TheVariants.{Exclusive, Shared}
use Rattle.cfdp_leases.specs.Footprint.{Footprint, is_exclusive, is_shared, covers}
use Rattle.cfdp_leases.proofs.Views.{is_exclusive-view, is_shared-view}
use Rattle.cfdp_leases.proofs.footprints.covers.Goals as goal

-- the three answers
exclusively : (fp : Footprint) (p : Path) → is_exclusive fp p ≡ true → Some Exclusive ≡ covers fp p
exclusively fp p e = sym (ap (λ b. if b then Some Exclusive else if (is_shared fp p) then Some Shared else None) e)

otherwise : (fp : Footprint) (p : Path) (shared : Bool) → is_exclusive fp p ≡ false → is_shared fp p ≡ shared → (if shared then Some Shared else None)
    ≡ covers fp p
otherwise fp p shared e s = sym ((λ i. if (e i) then Some Exclusive else if (s i) then Some Shared else None))

pub returns-then-has_above : goal.returns-then-has_above
returns-then-has_above c =
    exclusively c.args.footprint.now c.args.path.now
    (is_exclusive-view c.footprint.inside.exclusive.items c.footprint.inside.shared.items c.args.footprint.now c.args.path.now c.footprint.view_is
    ∙ ap (list_any (λ (held : Path). is_at_or_below c.args.path.now held)) (sym c.deref.ensures.value) ∙ sym c.has_above.ensures ∙ c.if-has_above.true)

pub returns-then-has : goal.returns-then-has
returns-then-has c =
    otherwise c.args.footprint.now c.args.path.now true
    (is_exclusive-view c.footprint.inside.exclusive.items c.footprint.inside.shared.items c.args.footprint.now c.args.path.now c.footprint.view_is
    ∙ ap (list_any (λ (held : Path). is_at_or_below c.args.path.now held)) (sym c.deref.ensures.value) ∙ sym c.has_above.ensures ∙ c.if-has_above.false)
    (is_shared-view c.footprint.inside.exclusive.items c.footprint.inside.shared.items c.args.footprint.now c.args.path.now c.footprint.view_is
    ∙ ap (list_any (λ (held : Path). same_path held c.args.path.now)) (sym c.deref-else-has_above.ensures.value) ∙ sym c.has.ensures
    ∙ c.if-has.true)

pub returns-else-has : goal.returns-else-has
returns-else-has c =
    otherwise c.args.footprint.now c.args.path.now false
    (is_exclusive-view c.footprint.inside.exclusive.items c.footprint.inside.shared.items c.args.footprint.now c.args.path.now c.footprint.view_is
    ∙ ap (list_any (λ (held : Path). is_at_or_below c.args.path.now held)) (sym c.deref.ensures.value) ∙ sym c.has_above.ensures ∙ c.if-has_above.false)
    (is_shared-view c.footprint.inside.exclusive.items c.footprint.inside.shared.items c.args.footprint.now c.args.path.now c.footprint.view_is
    ∙ ap (list_any (λ (held : Path). same_path held c.args.path.now)) (sym c.deref-else-has_above.ensures.value) ∙ sym c.has.ensures
    ∙ c.if-has.false)
