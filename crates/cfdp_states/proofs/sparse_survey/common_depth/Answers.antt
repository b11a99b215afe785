use Rattle.std.proofs.Common.{◌≡◌, sym, ◌∙◌, ap, ◌+◌, drop, take, true, arith}
use Rattle.cfdp_states.proofs.SparsePaths.{next_rest, next_shared}
use Rattle.cfdp_states.proofs.sparse_survey.common_depth.Goals as goal

pub loop-depth-preserved : goal.loop-depth-preserved
loop-depth-preserved c =
    let n = c.loop-depth.depth in
    let x = c.args.other.now in
    let y = c.args.path.now in
    let yes : c.next_is_shared.result ≡ true = rw c.if-not-next_is_shared.false in
    record {
      ours = c.next_is_shared.ensures.ours yes ∙ ap (drop 1) c.loop-depth.invariant.ours ∙ next_rest n (n + 1) y (omega arith);
      theirs = c.next_is_shared.ensures.theirs yes ∙ ap (drop 1) c.loop-depth.invariant.theirs ∙ next_rest n (n + 1) x (omega arith);
      shared = next_shared n x y c.loop-depth.invariant.shared (sym (ap (take 1) c.loop-depth.invariant.theirs) ∙ c.next_is_shared.ensures.shared yes
          ∙ ap (take 1) c.loop-depth.invariant.ours);
    }
