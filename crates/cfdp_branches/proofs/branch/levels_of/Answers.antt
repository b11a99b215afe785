use Rattle.std.proofs.Common.{◌≡◌, ◌+◌, suc, sym, ◌∙◌, subst, length, max, arith}
use Rattle.cfdp_branches.specs.code.Branches.{AreLevels}
use Rattle.cfdp_branches.specs.code.Twigs.{twigs_of}
use Rattle.cfdp_branches.proofs.Levels.{all_levels, next_level, no_level}
use Rattle.cfdp_branches.proofs.Seeking.{length-twigs, twig_branch}
use Rattle.cfdp_branches.proofs.branch.levels_of.Goals as goal
use Rattle.cfdp_branches.proofs.branch.levels_of.Goals.{then-below-gt0, else-below-gt0}

pub loop-twig-preserved : goal.loop-twig-preserved
loop-twig-preserved g c =
    let v = c.args.value.now in
    let ts = c.args.twigs.now in
    let i = c.loop-twig.twig-index in
    let t = c.twig-item.result in
    let one : suc i ≡ i + 1 = omega arith in
    elim c.if-below-gt0.branch [
      | then-below-gt0 w ↦ record {
        so_far = subst (λ n. AreLevels v (twigs_of ts) (i + 1) n) (sym (w.levels-is ∙ w.max-levels.ensures))
            (subst (λ k. AreLevels v (twigs_of ts) k (max c.loop-twig.levels (c.levels-below.result + 1))) one (next_level v (twigs_of ts) i
            c.loop-twig.levels c.levels-below.result t.branch
            c.loop-twig.invariant.so_far (twig_branch ts i t c.loop-twig-test.true c.twig-item.is) c.levels-below.ensures.levels w.if-below-gt0.true));
        few = omega (arith, w.levels-is, w.max-levels.ensures, c.loop-twig.invariant.few, c.levels-below.ensures.within);
      }
      | else-below-gt0 w ↦ record {
        so_far = subst (λ n. AreLevels v (twigs_of ts) (i + 1) n) (sym w.levels-is)
            (subst (λ k. AreLevels v (twigs_of ts) k c.loop-twig.levels) one (no_level v (twigs_of ts) i c.loop-twig.levels c.levels-below.result t.branch
            c.loop-twig.invariant.so_far (twig_branch ts i t c.loop-twig-test.true c.twig-item.is) c.levels-below.ensures.levels w.if-below-gt0.false));
        few = omega (arith, w.levels-is, c.loop-twig.invariant.few);
      }
    ]

pub returns : goal.returns
returns g c =
    let v = c.args.value.now in
    let ts = c.args.twigs.now in
    let all : c.loop-twig.twig-index ≡ length (twigs_of ts) = omega (arith, length-twigs ts, c.loop-twig.auto.twig-index-end, c.loop-twig-test.false) in
    all_levels v (twigs_of ts) c.loop-twig.levels c.requires (subst (λ k. AreLevels v (twigs_of ts) k c.loop-twig.levels) all c.loop-twig.invariant.so_far)
