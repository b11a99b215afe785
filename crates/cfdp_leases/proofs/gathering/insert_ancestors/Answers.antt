use Rattle.std.proofs.Common.{sym, ◌∙◌, ap, subst, ◌≤◌, ◌-◌, ◌++◌, List, take, take_all, length, length-take, arith}
use Rattle.std.specs.Prelude.{insert}
use Rattle.std.specs.FinSet as set
use Rattle.std.specs.List.Sorted.{IsStrictlySortedBy}
use Rattle.cfdp_paths.specs.Paths.{Path, path_cmp, ancestors}
use Rattle.cfdp_paths.proofs.Below.{parent-take}
use Rattle.cfdp_leases.proofs.Closed.{closed_to-more, same_set-beginning, same_set-left, same_set-last}
use Rattle.cfdp_leases.proofs.Sets.{exists}
use Rattle.cfdp_leases.proofs.gathering.insert_ancestors.Goals as goal

pub insert_beginning-requires-clause-gap : goal.insert_beginning-requires-clause-gap
insert_beginning-requires-clause-gap c =
    subst (λ (p : Path). IsStrictlySortedBy path_cmp (insert c.args.paths.now.items c.args.index p))
    (parent-take c.args.path.now ∙ ap (λ d. take (d - 1) c.args.path.now) (sym c.depth-depth.ensures.depth)) c.requires.gap

pub loop-count-init : goal.loop-count-init
loop-count-init c =
    let paths = c.args.paths.now.items in
    let n = c.args.path.now in
    let depth = c.depth-depth.result in
    let some : 1 ≤ depth - 1 = omega arith in
    let added = c.in_ok-insert_beginning.ensures.added in
    record {
      ordered = c.in_ok-insert_beginning.ensures.ordered;
      left =
          same_set-left paths c.insert_beginning.new.paths.items (paths ++ ancestors n) n (depth - 1) depth some (omega arith) (omega arith) added
          (ap (λ p. set.from_list (paths ++ ancestors p)) (take_all depth n (omega arith)));
      closed =
          closed_to-more paths c.insert_beginning.new.paths.items (take (depth - 1) n) depth (depth - 1) (λ p q h short a. c.requires.above p q h a)
          (omega arith) (omega (arith, length-take (depth - 1) n)) added;
      before = omega (arith, c.in_ok-insert_beginning.ensures.one_more);
    }

pub returns-in-Ok-clause-added : goal.returns-in-Ok-clause-added
returns-in-Ok-clause-added c =
    let paths = c.loop-count.paths.items in
    let n = c.args.path.now in
    let count = c.loop-count.count in
    same_set-beginning paths n (count - 1) count c.loop-count.invariant.closed (omega arith) (omega arith) (omega arith)
    (subst (λ (xs : List Path). exists (take (count - 1) n) xs) c.deref.ensures.value c.in-Ok.ensures.found)
    ∙ c.loop-count.invariant.left

pub loop-count-preserved : goal.loop-count-preserved
loop-count-preserved c =
    let paths = c.loop-count.paths.items in
    let n = c.args.path.now in
    let count = c.loop-count.count in
    let added = c.in_ok-insert_beginning-in-Err.ensures.added in
    let some : 1 ≤ count - 1 = omega arith in
    let within : count ≤ length n = omega arith in
    record {
      ordered = c.in_ok-insert_beginning-in-Err.ensures.ordered;
      left =
          same_set-left paths c.insert_beginning-in-Err.new.paths.items (c.args.paths.now.items ++ ancestors n) n (count - 1) count some (omega arith) within
          added c.loop-count.invariant.left;
      closed =
          closed_to-more paths c.insert_beginning-in-Err.new.paths.items (take (count - 1) n) count (count - 1) c.loop-count.invariant.closed (omega arith)
          (omega (arith, length-take (count - 1) n)) added;
      before = omega (arith, c.in_ok-insert_beginning-in-Err.ensures.one_more);
    }

pub returns-clause-added : goal.returns-clause-added
returns-clause-added c =
    same_set-last c.loop-count.paths.items (c.args.paths.now.items ++ ancestors c.args.path.now) (take c.loop-count.count c.args.path.now)
    (omega (arith, length-take c.loop-count.count c.args.path.now)) c.loop-count.invariant.left
