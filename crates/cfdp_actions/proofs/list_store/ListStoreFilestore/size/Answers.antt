use Rattle.std.proofs.Common.{ℕ, List, length, sym, ap, ◌∙◌, arith}
use Rattle.cfdp_actions.specs.Filestore.{octets_in}
use Rattle.cfdp_actions.proofs.StoreLaws.{seen_node, octets_small}
use Rattle.cfdp_actions.proofs.list_store.ListStoreFilestore.size.Goals as goal

pub returns-clause-value : goal.returns-clause-value
returns-clause-value c = ap (λ (xs : List ℕ). length xs) (c.octets_at.ensures
    ∙ ap octets_in (sym (seen_node _ _ _ _ c.self.invariant _ c.self.view_is c.args.path.now)))

pub returns-clause-within : goal.returns-clause-within
returns-clause-within c = omega (arith, ap (λ (xs : List ℕ). length xs) c.octets_at.ensures, octets_small _ _ _ _ c.self.invariant c.args.path.now)
