use Rattle.std.proofs.Common.{◌+◌, ◌-◌, ℕ, if◌then◌else◌, List, [], ◌∷◌, Some, Option, is_none, length, get_or, sym, ap, ◌∙◌, arith}
use Rattle.std.specs.FinMap.{put}
use Rattle.cfdp_paths.specs.Paths.{path_cmp}
use Rattle.cfdp_actions.specs.Filestore.{Node, File, weight, blocks_of, octets_in, Becomes, Stages}
use Rattle.cfdp_actions.specs.Store.{with_changes}
use Rattle.cfdp_actions.specs.Listed.{vector_octets}
use Rattle.cfdp_actions.specs.code.Listed.{shown_entries}
use Rattle.cfdp_actions.specs.declared.content.Content.TheVariants as content
use Rattle.cfdp_actions.proofs.ShownLaws.{found_some, found_absent, shown_put, shown_twice, put_exists}
use Rattle.cfdp_actions.proofs.StoreLaws.{seen_node, seen_staged, seen_free, octets_small, found_small, weight_unless, installed_store, installed_kept}
use Rattle.cfdp_actions.proofs.list_store.ListStoreFilestore.install.Goals as goal

-- ---- where a file exists

pub blocks_of-given-requires : goal.blocks_of-given-requires
blocks_of-given-requires c =
    let here = found_some c.args.path.now c.self.inside.entries c.exchange-old.result (sym c.exchange-old.ensures.old) in
    omega (arith, ap (λ (xs : List ℕ). length xs) (c.octets.ensures ∙ ap octets_in (sym here)), octets_small _ _ _ _ c.self.invariant c.args.path.now)

pub overflow_sub-self : goal.overflow_sub-self
overflow_sub-self c =
    let here = found_some c.args.path.now c.self.inside.entries c.exchange-old.result (sym c.exchange-old.ensures.old) in
    let given = c.blocks_of-given.ensures ∙ ap (λ (xs : List ℕ). blocks_of (length xs)) (c.octets.ensures ∙ ap octets_in (sym here)) in
    omega (
      arith,
      given,
      weight_unless _ _ _ _ c.self.invariant _ c.self.view_is c.args.path.now _ here c.requires.kind,
      found_small _ _ _ _ c.self.invariant c.args.path.now,
    )

pub invariant_of-self : goal.invariant_of-self
invariant_of-self c =
    let p = c.args.path.now in
    let es = c.self.inside.entries in
    let here = found_some c.args.path.now c.self.inside.entries c.exchange-old.result (sym c.exchange-old.ensures.old) in
    let given = c.blocks_of-given.ensures ∙ ap (λ (xs : List ℕ). blocks_of (length xs)) (c.octets.ensures ∙ ap octets_in (sym here)) in
    let file = ap shown_entries c.exchange-old.ensures.put ∙ shown_put p (content.File c.take_list-octets.result) es in
    installed_kept _ _ _ _ c.self.invariant _ c.self.view_is c.exchange-old.new.self c.take_list-octets.new.staged.items c.from-slot.result p
    c.take_list-octets.result.items c.take_list-octets.ensures.emptied c.take_list-octets.ensures.slots
    (omega (arith, c.from-slot.ensures, c.requires.slot)) file (c.self.inside.used - c.blocks_of-given.result) c.take_list-octets.ensures.list
    (omega (arith, given, weight_unless _ _ _ _ c.self.invariant _ c.self.view_is p _ here c.requires.kind, found_small _ _ _ _ c.self.invariant p))
    (omega (arith, c.self.invariant.fits))

pub returns-then-is_some-clause-ticks : goal.returns-then-is_some-clause-ticks
returns-then-is_some-clause-ticks c =
    let here = found_some c.args.path.now c.self.inside.entries c.exchange-old.result (sym c.exchange-old.ensures.old) in
    let given = c.blocks_of-given.ensures ∙ ap (λ (xs : List ℕ). blocks_of (length xs)) (c.octets.ensures ∙ ap octets_in (sym here)) in
    let there = seen_node _ _ _ _ c.self.invariant _ c.self.view_is c.args.path.now ∙ here in
    c.blocks_of-given.ensures ∙ ap (λ (xs : List ℕ). blocks_of (length xs)) c.octets.ensures
    ∙ ap (λ (o : Option Node). if is_none o then 1 else blocks_of (length (octets_in o))) (sym there)

pub returns-then-is_some-clause-installed : goal.returns-then-is_some-clause-installed
returns-then-is_some-clause-installed c =
    let p = c.args.path.now in
    let file = ap shown_entries c.exchange-old.ensures.put ∙ shown_put p (content.File c.take_list-octets.result) c.self.inside.entries in
    installed_store _ _ _ _ c.self.invariant _ c.self.view_is c.exchange-old.new.self c.take_list-octets.new.staged.items c.from-slot.result p
    c.take_list-octets.result.items c.take_list-octets.ensures.emptied c.take_list-octets.ensures.slots
    (omega (arith, c.from-slot.ensures, c.requires.slot)) file
    ∙ ap (λ k. with_changes c.args.self.now (Stages k [] ∷ Becomes p (Some (File c.take_list-octets.result.items)) ∷ [])) c.from-slot.ensures
    ∙ ap (λ xs. with_changes c.args.self.now (Stages c.args.slot [] ∷ Becomes p (Some (File xs)) ∷ []))
    (c.take_list-octets.ensures.list ∙ ap (λ k. get_or (vector_octets c.self.inside.staged.items) k []) c.from-slot.ensures
    ∙ sym (seen_staged _ _ _ _ c.self.invariant _ c.self.view_is c.args.slot))

-- ---- where nothing exists

pub set-requires : goal.set-requires
set-requires c =
    let es = c.self.inside.entries in
    let first = c.in_ok-insert.ensures.ok ∙ ap (λ k. put path_cmp k (content.File c.new.result) es) c.in_ok-copy.ensures in
    put_exists c.args.path.now (content.File c.new.result) es c.insert.new.self first

pub invariant_of-self-2 : goal.invariant_of-self-2
invariant_of-self-2 c =
    let p = c.args.path.now in
    let es = c.self.inside.entries in
    let first = c.in_ok-insert.ensures.ok ∙ ap (λ k. put path_cmp k (content.File c.new.result) es) c.in_ok-copy.ensures in
    let file = shown_twice p (content.File c.take_list-octets-2.result) (content.File c.new.result) es c.insert.new.self c.set.new.self first c.set.ensures in
    let none = found_absent p es c.get.result c.is_some.result c.get.ensures c.is_some.ensures c.if-is_some.false in
    installed_kept _ _ _ _ c.self.invariant _ c.self.view_is c.set.new.self c.take_list-octets-2.new.staged.items c.from-slot.result p
    c.take_list-octets-2.result.items c.take_list-octets-2.ensures.emptied c.take_list-octets-2.ensures.slots
    (omega (arith, c.from-slot.ensures, c.requires.slot)) file (c.self.inside.used + 1) c.take_list-octets-2.ensures.list
    (omega (arith, ap weight none)) (omega (
      arith,
      seen_free _ _ _ _ c.self.invariant _ c.self.view_is,
      c.requires.room (seen_node _ _ _ _ c.self.invariant _ c.self.view_is p ∙ none),
    ))

pub returns-clause-ticks : goal.returns-clause-ticks
returns-clause-ticks c =
    let none = found_absent c.args.path.now c.self.inside.entries c.get.result c.is_some.result c.get.ensures c.is_some.ensures c.if-is_some.false in
    ap (λ (o : Option Node). if is_none o then 1 else blocks_of (length (octets_in o)))
    (sym (seen_node _ _ _ _ c.self.invariant _ c.self.view_is c.args.path.now ∙ none))

pub returns-clause-installed : goal.returns-clause-installed
returns-clause-installed c =
    let p = c.args.path.now in
    let es = c.self.inside.entries in
    let first = c.in_ok-insert.ensures.ok ∙ ap (λ k. put path_cmp k (content.File c.new.result) es) c.in_ok-copy.ensures in
    let file = shown_twice p (content.File c.take_list-octets-2.result) (content.File c.new.result) es c.insert.new.self c.set.new.self first c.set.ensures in
    installed_store _ _ _ _ c.self.invariant _ c.self.view_is c.set.new.self c.take_list-octets-2.new.staged.items c.from-slot.result p
    c.take_list-octets-2.result.items c.take_list-octets-2.ensures.emptied c.take_list-octets-2.ensures.slots
    (omega (arith, c.from-slot.ensures, c.requires.slot)) file
    ∙ ap (λ k. with_changes c.args.self.now (Stages k [] ∷ Becomes p (Some (File c.take_list-octets-2.result.items)) ∷ [])) c.from-slot.ensures
    ∙ ap (λ xs. with_changes c.args.self.now (Stages c.args.slot [] ∷ Becomes p (Some (File xs)) ∷ []))
    (c.take_list-octets-2.ensures.list ∙ ap (λ k. get_or (vector_octets c.self.inside.staged.items) k []) c.from-slot.ensures
    ∙ sym (seen_staged _ _ _ _ c.self.invariant _ c.self.view_is c.args.slot))
