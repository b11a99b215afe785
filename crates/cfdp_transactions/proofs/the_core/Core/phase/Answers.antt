use Rattle.std.proofs.Common.{refl}
use Rattle.cfdp_transactions.specs.Entry.{Phase, Entry}
use Rattle.cfdp_transactions.proofs.KeptTable.WorldOfTable.{read_in}
use Rattle.cfdp_transactions.proofs.the_core.Core.phase.Goals as goal

pub returns-in_default : goal.returns-in_default
returns-in_default g c =
    let F = (g.S.Filestore.state c.self.inside.store).filestore in
    let table_entries = c.self.inside.books.table in
    let f : Entry → Phase = λ e. e.phase in
    rw (← c.self.view_is, read_in f F c.args.id table_entries, ← c.get.ensures, c.in_default.is) refl

pub returns : goal.returns
returns g c =
    let F = (g.S.Filestore.state c.self.inside.store).filestore in
    let table_entries = c.self.inside.books.table in
    let f : Entry → Phase = λ e. e.phase in
    rw (← c.self.view_is, read_in f F c.args.id table_entries, ← c.get.ensures, c.in-Some.is, c.phase.ensures) refl
