use Rattle.std.proofs.Common.{◌+◌, ℕ, List, length, slice_range, sym, ap, ◌∙◌, arith}
use Rattle.cfdp_actions.specs.Filestore.{octets_in}
use Rattle.cfdp_actions.proofs.StoreLaws.{seen_node}
use Rattle.cfdp_actions.proofs.list_store.ListStoreFilestore.read.Goals as goal

pub copy_out-requires : goal.copy_out-requires
copy_out-requires c =
    let octets = c.octets_at.ensures ∙ ap octets_in (sym (seen_node _ _ _ _ c.self.invariant _ c.self.view_is c.args.path.now)) in
    omega (arith, c.requires.range, ap (λ (xs : List ℕ). length xs) octets)

pub returns : goal.returns
returns c =
    let octets = c.octets_at.ensures ∙ ap octets_in (sym (seen_node _ _ _ _ c.self.invariant _ c.self.view_is c.args.path.now)) in
    c.copy_out.ensures ∙ ap (λ xs. slice_range xs c.args.at (c.args.at + length c.args.buffer.now)) octets
