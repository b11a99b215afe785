use Rattle.std.proofs.Common.{◌∙◌, ap, sym, List}
use Rattle.std.specs.Prelude.{slice_get}
use Rattle.cfdp_status.specs.declared.transaction.TransactionId.{TransactionId}
use Rattle.cfdp_transactions.proofs.KeptTable.WorldOfTable.{names_in}
use Rattle.cfdp_transactions.proofs.the_core.Core.transaction_at.Goals as goal

pub returns : goal.returns
returns g c =
    let names = names_in (g.S.Filestore.state c.self.inside.store).filestore c.self.inside.books.table in
    rw (← c.self.view_is) (c.name_at.ensures ∙ ap (λ (ids : List TransactionId). slice_get ids c.args.index) (sym names))
