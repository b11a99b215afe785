use Rattle.std.proofs.Common.{[], refl, ap, ◌∙◌, slice_index_or}
use Rattle.std.proofs.lemmas.Bool.{both_ways}
use Rattle.cfdp_paths.specs.Paths.{same_name}
use Rattle.cfdp_paths.proofs.Comparing.{same_name-compared}
use Rattle.cfdp_tree.proofs.OfWalks.LeftOutLaws.{entry_is, entry_other}
use Rattle.cfdp_tree.proofs.beside.Others.is_entry.Goals as goal

pub returns-then-is_child_of : goal.returns-then-is_child_of
returns-then-is_child_of c =
    let p = c.args.self.now.directory.now in let q = c.args.path.now in let name = c.args.name.now in
    same_name-compared c.eq.result c.name.result.now name name c.eq.ensures refl
    ∙ ap (λ n. same_name n name) (c.name.ensures.name ∙ ap (λ k. slice_index_or q k []) c.depth.ensures.depth)
    ∙ entry_is p name q c.depth.ensures.within.some (c.is_child_of.ensures.0 c.if-is_child_of.true)

pub returns-else-is_child_of : goal.returns-else-is_child_of
returns-else-is_child_of c =
    c.if-is_child_of.false
    ∙ entry_other c.args.self.now.directory.now c.args.name.now c.args.path.now (λ above. both_ways _ c.if-is_child_of.false (c.is_child_of.ensures.1 above))
