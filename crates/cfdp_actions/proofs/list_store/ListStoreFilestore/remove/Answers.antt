use Rattle.std.proofs.Common.{is_some, sym, ap, ◌∙◌, ◌-◌, arith}
use Rattle.cfdp_actions.specs.Filestore.{weight}
use Rattle.cfdp_actions.specs.code.Listed.{shown_entries}
use Rattle.cfdp_actions.proofs.ShownLaws.{found_some, shown_without, exists}
use Rattle.cfdp_actions.proofs.StoreLaws.{seen_node, seen_gone, gone_kept, found_small, few_used}
use Rattle.cfdp_actions.proofs.list_store.ListStoreFilestore.remove.Goals as goal

pub unwrap-removed-requires : goal.unwrap-removed-requires
unwrap-removed-requires c =
    ap is_some c.remove.ensures.value
    ∙ exists c.args.path.now c.self.inside.entries (sym (ap is_some (seen_node _ _ _ _ c.self.invariant _ c.self.view_is c.args.path.now)) ∙ c.requires.present)

pub blocks-blocks-requires : goal.blocks-blocks-requires
blocks-blocks-requires c =
    let here = found_some c.args.path.now c.self.inside.entries c.unwrap-removed.result (sym c.unwrap-removed.ensures ∙ c.remove.ensures.value) in
    omega (arith, found_small _ _ _ _ c.self.invariant c.args.path.now, few_used _ _ _ _ c.self.invariant, ap weight here)

pub overflow_sub-self : goal.overflow_sub-self
overflow_sub-self c =
    let here = found_some c.args.path.now c.self.inside.entries c.unwrap-removed.result (sym c.unwrap-removed.ensures ∙ c.remove.ensures.value) in
    omega (arith, found_small _ _ _ _ c.self.invariant c.args.path.now, ap weight here, c.blocks-blocks.ensures)

pub invariant_of-self : goal.invariant_of-self
invariant_of-self c =
    let here = found_some c.args.path.now c.self.inside.entries c.unwrap-removed.result (sym c.unwrap-removed.ensures ∙ c.remove.ensures.value) in
    let gone = ap shown_entries c.remove.ensures.removed ∙ shown_without c.args.path.now c.self.inside.entries in
    gone_kept _ _ _ _ c.self.invariant c.remove.new.self c.args.path.now (c.self.inside.used - c.blocks-blocks.result) gone
    (omega (arith, found_small _ _ _ _ c.self.invariant c.args.path.now, ap weight here, c.blocks-blocks.ensures))

pub returns-clause-ticks : goal.returns-clause-ticks
returns-clause-ticks c =
    let here = found_some c.args.path.now c.self.inside.entries c.unwrap-removed.result (sym c.unwrap-removed.ensures ∙ c.remove.ensures.value) in
    c.blocks-blocks.ensures ∙ ap weight (sym (seen_node _ _ _ _ c.self.invariant _ c.self.view_is c.args.path.now ∙ here))

pub returns-clause-gone : goal.returns-clause-gone
returns-clause-gone c =
    seen_gone _ _ _ _ c.self.invariant _ c.self.view_is c.remove.new.self c.args.path.now (ap shown_entries c.remove.ensures.removed
    ∙ shown_without c.args.path.now c.self.inside.entries)
