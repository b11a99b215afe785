use Rattle.std.proofs.Common.{◌∙◌, sym}
use Rattle.cfdp_transactions.proofs.KeptTable.WorldOfTable.{runnable_in}
use Rattle.cfdp_transactions.proofs.the_core.Core.next_runnable.Goals as goal

pub returns : goal.returns
returns g c =
    rw (← c.self.view_is) (c.next_runnable.ensures ∙ sym (runnable_in (g.S.Filestore.state c.self.inside.store).filestore c.self.inside.books.table))
