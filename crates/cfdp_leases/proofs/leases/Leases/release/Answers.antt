use Rattle.std.proofs.Common.{rules, sym, ◌∙◌, ap, subst, not}
use Rattle.std.specs.Prelude.{◌==◌, IsSome, None, length}
use Rattle.std.specs.Option.{option_map}
use Rattle.std.specs.List.{find}
use Rattle.std.proofs.lemmas.Bool.{eqb-true}
use Rattle.std.proofs.lemmas.Fn.{filter_same}
use Rattle.std.proofs.lemmas.List.{nil_from_length}
use Rattle.slab.specs.Slab.{get, Updates}
use Rattle.cfdp_leases.specs.Leases.{is_same, without_grant}
use Rattle.cfdp_leases.specs.code.Live.{AreKept, grants_of}
use Rattle.cfdp_leases.specs.code.Holders.{holders_at}
use Rattle.cfdp_leases.proofs.Alone.{own_only}
use Rattle.cfdp_leases.proofs.Kept.{all_found, elsewhere, grant_there, grants-filter, kept_emptied, kept_released, live_there, nobody_there, occupied}
use Rattle.cfdp_leases.proofs.leases.Leases.release.Goals as goal

-- it is none of the live ones
pub returns-in_default : goal.returns-in_default
returns-in_default c =
    let id = c.args.transaction in
    sym c.self.view_is
    ∙ nobody_there c.self.inside.footprints c.self.inside.live.items id (c.in_default.ensures
    ∙ ap (λ live. option_map (λ l. l.key) (find (λ l. is_same l.transaction id) live)) c.deref.ensures.value)
    ∙ ap (λ gs. without_grant gs id) c.self.view_is

pub remove-footprint-requires : goal.remove-footprint-requires
remove-footprint-requires c =
    let found = live_there c.self.inside.live.items c.args.transaction c.in-Some.key (c.in-Some.ensures
    ∙ ap (λ live. option_map (λ l. l.key) (find (λ l. is_same l.transaction c.args.transaction) live)) c.deref.ensures.value) in
    subst (λ key. IsSome (get c.self.inside.footprints key)) found.2
    (all_found (λ l. IsSome (get c.self.inside.footprints l.key)) (λ l. is_same l.transaction c.args.transaction) c.self.inside.live.items found.0
    (occupied c.self.inside.footprints c.self.inside.live.items c.self.invariant.kept) found.1)

-- what is left are the others' grants
pub invariant_of-self : goal.invariant_of-self
invariant_of-self c =
    let id = c.args.transaction in
    let s = c.self.inside.footprints in
    let t = c.remove-footprint.new.self in
    let live = c.self.inside.live.items in
    let found = live_there live id c.in-Some.key (c.in-Some.ensures ∙ ap (λ ls. option_map (λ l. l.key) (find (λ l. is_same l.transaction id) ls))
    c.deref.ensures.value) in
    let left = filter_same _ (λ l. not (is_same l.transaction id)) _ (λ x b f' k. search rules) _ _ c.retain.ensures.filtered in
    let has = ap (get s) found.2 ∙ c.remove-footprint.ensures.value in
    subst (λ ls. AreKept t ls c.clear.new.self) (sym left)
    (kept_emptied s t live id found.0 c.remove-footprint.result c.self.inside.paths c.clear.new.self c.self.invariant found.1
    has (subst (λ key. Updates s t key None) (sym found.2) c.remove-footprint.ensures.updates)
    (sym left ∙ nil_from_length _ (eqb-true _ 0 (sym (c.is_empty-is_last.ensures ∙ ap (λ xs. length xs == 0) c.as_slice.ensures.value)
    ∙ c.if-is_last.true))) c.clear.ensures)

pub invariant_of-self-2 : goal.invariant_of-self-2
invariant_of-self-2 c =
    let id = c.args.transaction in
    let s = c.self.inside.footprints in
    let t = c.remove-footprint.new.self in
    let live = c.self.inside.live.items in
    let found = live_there live id c.in-Some.key (c.in-Some.ensures ∙ ap (λ ls. option_map (λ l. l.key) (find (λ l. is_same l.transaction id) ls))
    c.deref.ensures.value) in
    let left = filter_same _ (λ l. not (is_same l.transaction id)) _ (λ x b f' k. search rules) _ _ c.retain.ensures.filtered in
    let has = ap (get s) found.2 ∙ c.remove-footprint.ensures.value in
    subst (λ ls. AreKept t ls c.release.new.self) (sym left)
    (kept_released s t live id found.0 c.remove-footprint.result c.self.inside.paths c.release.new.self c.self.invariant found.1
    has (subst (λ key. Updates s t key None) (sym found.2) c.remove-footprint.ensures.updates)
    (c.release.ensures (holders_at (grants_of s live)) c.self.invariant.are_held
    (λ p. own_only (grants_of s live) id (found.0.transaction, c.remove-footprint.result) p c.self.invariant.apart
    (grant_there s live id found.0 c.remove-footprint.result found.1 has))))

pub returns : goal.returns
returns c =
    let id = c.args.transaction in
    let s = c.self.inside.footprints in
    let t = c.remove-footprint.new.self in
    let live = c.self.inside.live.items in
    let found = live_there live id c.in-Some.key (c.in-Some.ensures ∙ ap (λ ls. option_map (λ l. l.key) (find (λ l. is_same l.transaction id) ls))
    c.deref.ensures.value) in
    let left = filter_same _ (λ l. not (is_same l.transaction id)) _ (λ x b f' k. search rules) _ _ c.retain.ensures.filtered in
    ap (grants_of t) left
    ∙ grants-filter s t found.0.key id live (subst (λ key. Updates s t key None) (sym found.2) c.remove-footprint.ensures.updates)
    (elsewhere s id live found.0 c.self.invariant.kept found.1)
    ∙ ap (λ gs. without_grant gs id) c.self.view_is

pub returns-then-is_last : goal.returns-then-is_last
returns-then-is_last c =
    let id = c.args.transaction in
    let s = c.self.inside.footprints in
    let t = c.remove-footprint.new.self in
    let live = c.self.inside.live.items in
    let found = live_there live id c.in-Some.key (c.in-Some.ensures ∙ ap (λ ls. option_map (λ l. l.key) (find (λ l. is_same l.transaction id) ls))
    c.deref.ensures.value) in
    let left = filter_same _ (λ l. not (is_same l.transaction id)) _ (λ x b f' k. search rules) _ _ c.retain.ensures.filtered in
    ap (grants_of t) left
    ∙ grants-filter s t found.0.key id live (subst (λ key. Updates s t key None) (sym found.2) c.remove-footprint.ensures.updates)
    (elsewhere s id live found.0 c.self.invariant.kept found.1)
    ∙ ap (λ gs. without_grant gs id) c.self.view_is
