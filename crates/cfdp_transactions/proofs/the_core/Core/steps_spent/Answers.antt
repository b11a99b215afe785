use Rattle.std.proofs.Common.{ℕ, refl}
use Rattle.cfdp_transactions.specs.Entry.{Entry}
use Rattle.cfdp_transactions.proofs.KeptTable.WorldOfTable.{read_in}
use Rattle.cfdp_transactions.proofs.the_core.Core.steps_spent.Goals as goal

pub returns-in_default : goal.returns-in_default
returns-in_default g c =
    let F = (g.S.Filestore.state c.self.inside.store).filestore in
    let table_entries = c.self.inside.books.table in
    let f : Entry → ℕ = λ e. e.steps_spent in
    rw (← c.self.view_is, read_in f F c.args.id table_entries, ← c.get.ensures, c.in_default.is) refl

pub returns : goal.returns
returns g c =
    let F = (g.S.Filestore.state c.self.inside.store).filestore in
    let table_entries = c.self.inside.books.table in
    let f : Entry → ℕ = λ e. e.steps_spent in
    rw (← c.self.view_is, read_in f F c.args.id table_entries, ← c.get.ensures, c.in-Some.is, c.steps_spent.ensures) refl
