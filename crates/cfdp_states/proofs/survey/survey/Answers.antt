use Rattle.std.proofs.Common.{arith}
use Rattle.std.specs.FinMap.{empty}
use Rattle.cfdp_states.proofs.Surveys.{adds_root, adds_inside, adds_rest, adds_before, adds_rest_of_paths, next_within}
use Rattle.cfdp_states.proofs.Surveyed.{whole_survey}
use Rattle.cfdp_states.proofs.survey.survey.Goals as goal

pub loop-index-preserved : goal.loop-index-preserved
loop-index-preserved g c =
    let F = (g.S.Filestore.state c.args.store.now).filestore in
    let roots = c.exclusive-exclusive.result.now in
    let paths = c.shared-shared.result.now in
    let k = c.loop-index.next in
    let more = c.partition_point-before.result in
    record {
      adds = adds_root roots paths c.loop-index.index k more c.index-exclusive-index.result F c.loop-index-test.true c.index-exclusive-index.is
          empty c.loop-index.extents c.add_paths.new.extents c.add_tree.new.extents c.loop-index.invariant.adds
          (adds_before paths k more F c.loop-index.extents c.add_paths.new.extents c.in_ok-add_paths.ensures) c.in_ok-add_tree.ensures;
      next = next_within paths k more c.loop-index.invariant.next c.partition_point-before.ensures.bound;
      last = omega arith;
    }

pub loop-index-preserved-then-is_inside : goal.loop-index-preserved-then-is_inside
loop-index-preserved-then-is_inside g c =
    let F = (g.S.Filestore.state c.args.store.now).filestore in
    let roots = c.exclusive-exclusive.result.now in
    let paths = c.shared-shared.result.now in
    let k = c.loop-index.next in
    let more = c.partition_point-before.result in
    record {
      adds = adds_inside roots paths c.loop-index.index k more c.index-exclusive-index.result F c.loop-index-test.true c.index-exclusive-index.is
          empty c.loop-index.extents c.add_paths.new.extents c.loop-index.invariant.adds
          (adds_before paths k more F c.loop-index.extents c.add_paths.new.extents c.in_ok-add_paths.ensures)
          (c.is_inside.ensures c.if-is_inside.true c.index-exclusive-index.result c.index-exclusive-index.is);
      next = next_within paths k more c.loop-index.invariant.next c.partition_point-before.ensures.bound;
      last = omega (arith, c.loop-index.invariant.last);
    }

pub returns-clause-extents : goal.returns-clause-extents
returns-clause-extents g c =
    let F = (g.S.Filestore.state c.args.store.now).filestore in
    let roots = c.exclusive-exclusive.result.now in
    let paths = c.shared-shared.result.now in
    whole_survey roots paths c.args.footprint.now F c.add_paths-2.new.extents c.exclusive-exclusive.ensures.paths c.shared-shared.ensures.paths
    (adds_rest roots paths c.loop-index.index c.loop-index.next F empty c.loop-index.extents c.add_paths-2.new.extents c.loop-index-test.false
    c.loop-index.invariant.adds
    (adds_rest_of_paths paths c.loop-index.next F c.loop-index.extents c.add_paths-2.new.extents c.in_ok-add_paths-2.ensures))
