use Rattle.std.proofs.Common.{rules, tests, ◌≡◌, ◌<◌, ℕ, length, Bool, true, false, List, arith}
use Rattle.std.proofs.lemmas.Iterator.{cases_from_all, YieldsList-from_slice}
use Rattle.std.specs.Prelude.{All, MatchBool, ⊤}
use Rattle.std.specs.List.{AllWithin, HoldsAt}
use Rattle.cfdp_paths.specs.Paths.{Path, parent}
use Rattle.cfdp_tree.proofs.OfWalks.LeftOutLaws.{sorted_is}
use Rattle.cfdp_tree.proofs.beside.are_children_in_order.Goals as goal

pub returns-then-is_sorted : goal.returns-then-is_sorted
returns-then-is_sorted c =
    let p = c.args.directory.now in let paths = c.args.paths.now in
    let cases = cases_from_all _ _ c.all.result (λ q. parent q ≡ p) (λ q. ⊤) c.all.ensures.ran (YieldsList-from_slice paths cc)
    (λ x q k. search (rules, tests)) (λ x q k. tt) in
    λ all. record {
      children = each p paths c.all.result all cases;
      sorted = sorted_is paths c.if-is_sorted.ensures.cases;
    }
  where
    each : (p : Path) (paths : List Path) (r : Bool) → r ≡ true → MatchBool r (AllWithin (λ q. parent q ≡ p) paths 0 (length paths))
        ((k : ℕ) × (k < length paths) × HoldsAt (λ q. ⊤) paths k) → All (λ q. parent q ≡ p) paths
    each p paths true is all k d within = all k d (omega arith) within
    each p paths false is all k d within = cc
