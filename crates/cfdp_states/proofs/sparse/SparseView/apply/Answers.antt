use Rattle.std.proofs.Common.{sym, ◌∙◌}
use Rattle.cfdp_states.proofs.SparseViews.{tells_sparse, bare_by}
use Rattle.cfdp_states.proofs.sparse.SparseView.apply.Goals as goal

pub returns-clause-stated : goal.returns-clause-stated
returns-clause-stated c =
    tells_sparse c.args.self.now.view c.apply.new.self c.args.request.now c.in_ok-status.status
    (bare_by c.args.self.now.view c.args.request.now (sym c.joins.ensures ∙ c.if-joins.false)) c.in_ok-status.ensures.stated
