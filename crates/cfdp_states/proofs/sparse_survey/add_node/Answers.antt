use Rattle.std.proofs.Common.{sym, ◌∙◌}
use Rattle.cfdp_states.proofs.SparseSteps.{covers_some, covers_none, adds_covered, adds_uncovered}
use Rattle.cfdp_states.proofs.sparse_survey.add_node.Goals as goal

pub returns-in-None-clause-added : goal.returns-in-None-clause-added
returns-in-None-clause-added g c =
    adds_uncovered c.args.footprint.now (g.S.Filestore.state c.args.store.now).filestore c.args.path.now c.args.extents.now
    (covers_none c.args.footprint.now c.args.path.now (sym c.covers.ensures ∙ c.in-None.is))

pub returns-in_ok-add_extent-in-Some-Exclusive-clause-added : goal.returns-in_ok-add_extent-in-Some-Exclusive-clause-added
returns-in_ok-add_extent-in-Some-Exclusive-clause-added g c =
    adds_covered c.args.footprint.now (g.S.Filestore.state c.args.store.now).filestore c.args.path.now c.args.extents.now c.add_extent.new.extents
    (covers_some c.args.footprint.now c.args.path.now c.in-Some-Exclusive.field-0 (sym c.covers.ensures ∙ c.in-Some-Exclusive.is))
    c.in_ok-add_extent-in-Some-Exclusive.ensures

pub returns-in_ok-add_extent-in-Some-Shared-clause-added : goal.returns-in_ok-add_extent-in-Some-Shared-clause-added
returns-in_ok-add_extent-in-Some-Shared-clause-added g c =
    adds_covered c.args.footprint.now (g.S.Filestore.state c.args.store.now).filestore c.args.path.now c.args.extents.now
    c.add_extent-in-Some-Shared.new.extents
    (covers_some c.args.footprint.now c.args.path.now c.in-Some-Shared.field-0 (sym c.covers.ensures ∙ c.in-Some-Shared.is))
    c.in_ok-add_extent-in-Some-Shared.ensures
