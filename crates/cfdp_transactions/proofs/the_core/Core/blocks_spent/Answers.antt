use Rattle.std.proofs.lemmas.Int.{to_z-of_z}
use Rattle.std.proofs.Common.{◌≡◌, ◌∙◌, refl, to_z, of_z, w64, rules}
use Rattle.std.specs.Prelude.{ℤ}
use Rattle.cfdp_transactions.specs.Entry.{Entry}
use Rattle.cfdp_transactions.proofs.KeptTable.WorldOfTable.{read_in}
use Rattle.cfdp_transactions.proofs.the_core.Core.blocks_spent.Goals as goal

pub returns-in_default : goal.returns-in_default
returns-in_default g c =
    let F = (g.S.Filestore.state c.self.inside.store).filestore in
    let table_entries = c.self.inside.books.table in
    let f : Entry → ℤ = λ e. e.blocks_spent in
    rw (← c.self.view_is, read_in f F c.args.id table_entries, ← c.get.ensures, c.in_default.is) refl

pub returns : goal.returns
returns g c =
    let F = (g.S.Filestore.state c.self.inside.store).filestore in
    let table_entries = c.self.inside.books.table in
    let f : Entry → ℤ = λ e. e.blocks_spent in
    let spent : to_z w64 (of_z w64 c.blocks_spent.result) ≡ c.in-Some.entry.now.blocks_spent =
    to_z-of_z w64 c.blocks_spent.result (let h = c.blocks_spent.type_inv in search rules) ∙ c.blocks_spent.ensures in
    rw (← c.self.view_is, read_in f F c.args.id table_entries, ← c.get.ensures, c.in-Some.is, spent) refl
