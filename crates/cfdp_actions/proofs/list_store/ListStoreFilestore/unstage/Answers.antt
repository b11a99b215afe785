use Rattle.std.proofs.Common.{◌≡◌, ◌-◌, ℕ, List, [], length, get_or, ap, ◌∙◌, arith}
use Rattle.cfdp_actions.specs.Filestore.{blocks_of}
use Rattle.cfdp_actions.specs.Listed.{vector_octets}
use Rattle.cfdp_actions.proofs.StoreLaws.{staged_small, staged_kept, list_small}
use Rattle.cfdp_actions.proofs.list_store.ListStoreFilestore.unstage.Goals as goal
use Rattle.cfdp_actions.proofs.Growth.{blocks_of-zero}

pub blocks_of-given-requires : goal.blocks_of-given-requires
blocks_of-given-requires c =
    omega (
      arith,
      c.len.ensures,
      c.take_list-dropped.result.ok.0,
      ap (λ (xs : List ℕ). length xs) c.take_list-dropped.ensures.list,
      staged_small _ _ _ _ c.self.invariant c.from.result,
    )

pub invariant_of-self : goal.invariant_of-self
invariant_of-self c =
    let list = get_or (vector_octets c.self.inside.staged.items) c.from.result [] in
    let long : c.len.result ≡ length list = omega (
      arith,
      c.len.ensures,
      c.take_list-dropped.result.ok.0,
      ap (λ (xs : List ℕ). length xs) c.take_list-dropped.ensures.list,
    ) in
    let given = c.blocks_of-given.ensures ∙ ap blocks_of long in
    staged_kept _ _ _ _ c.self.invariant c.take_list-dropped.new.staged.items c.from.result [] c.take_list-dropped.ensures.emptied
    (c.self.inside.used - c.blocks_of-given.result) c.take_list-dropped.ensures.slots
    (omega (arith, c.from.ensures, c.requires)) (omega (arith, given, blocks_of-zero, list_small _ _ _ _ c.self.invariant c.from.result))
    (omega (arith, c.self.invariant.fits))
