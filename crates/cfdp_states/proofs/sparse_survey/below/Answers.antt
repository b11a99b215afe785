use Rattle.std.proofs.Common.{◌≡◌, sym, ◌∙◌, ap, subst, length, take, arith}
use Rattle.cfdp_paths.specs.Paths.{Path, is_at_or_below, rebased}
use Rattle.cfdp_states.specs.code.Sparse.{IsFiller}
use Rattle.cfdp_states.proofs.Fillers.{prefix_take, is_filler}
use Rattle.cfdp_states.proofs.sparse_survey.below.Goals as goal

pub rebased-requires-clause-below : goal.rebased-requires-clause-below
rebased-requires-clause-below c =
    (λ i. is_at_or_below (c.in_ok-deep.ensures i) ((c.in_ok-front.ensures ∙ ap (λ k. take k c.in_ok-longest.longest) c.depth.ensures.depth) i))
    ∙ prefix_take c.in_ok-longest.longest (length c.args.path.now) c.args.depth (omega arith)

pub returns : goal.returns
returns c =
    let front : c.in_ok-front.front ≡ take (length c.args.path.now) c.in_ok-longest.longest = c.in_ok-front.ensures
    ∙ ap (λ k. take k c.in_ok-longest.longest) c.depth.ensures.depth in
    subst (λ (d : Path). IsFiller c.args.path.now c.args.depth d)
    (sym (c.in_ok-filler.ensures ∙ (λ i. rebased (front i) c.args.path.now (c.in_ok-deep.ensures i))))
    (is_filler c.in_ok-longest.longest c.args.path.now c.args.depth c.in_ok-longest.ensures c.requires.below c.requires.within)
