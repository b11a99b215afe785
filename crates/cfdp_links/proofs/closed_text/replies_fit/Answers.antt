use Rattle.cfdp_links.proofs.Reconciling.{replies_fit}
use Rattle.cfdp_links.proofs.closed_text.replies_fit.Goals as goal

pub returns : goal.returns
returns c =
    replies_fit c.outcomes_fit.ensures c.args.journal.now c.args.core.now.world c.args.seats.now c.requires.history c.requires.reconciled
    c.requires.readable
