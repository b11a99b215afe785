use Rattle.std.proofs.Common.{◌<◌, ℕ, List, length, ap, arith}
use Rattle.cfdp_actions.proofs.StagedLaws.{octets_of-at}
use Rattle.cfdp_actions.proofs.StoreLaws.{staged_small, seen_slots}
use Rattle.cfdp_actions.proofs.list_store.ListStoreFilestore.staged_size.Goals as goal

pub returns-clause-slots : goal.returns-clause-slots
returns-clause-slots c = seen_slots _ _ _ _ c.self.invariant _ c.self.view_is

pub returns-clause-within : goal.returns-clause-within
returns-clause-within c =
    let v = c.index.result.now in
    let here : c.from.result < length c.self.inside.staged.items = omega (arith, c.from.ensures, c.requires, c.self.invariant.slots) in
    omega (
      arith,
      c.len.ensures,
      v.ok.0,
      ap (λ (xs : List ℕ). length xs) (octets_of-at c.self.inside.staged.items c.from.result v here c.index.ensures),
      staged_small _ _ _ _ c.self.invariant c.from.result,
    )
