use Rattle.cfdp_states.proofs.Surveys.{adds_paths}
use Rattle.cfdp_states.proofs.survey.add_paths.Goals as goal

pub loop-path-preserved : goal.loop-path-preserved
loop-path-preserved g c =
    adds_paths c.args.paths.now c.loop-path.path-index c.path-item.result (g.S.Filestore.state c.args.store.now).filestore c.args.extents.now
    c.loop-path.extents
    c.add_extent.new.extents c.loop-path-test.true c.path-item.is c.loop-path.invariant c.in_ok-add_extent.ensures
