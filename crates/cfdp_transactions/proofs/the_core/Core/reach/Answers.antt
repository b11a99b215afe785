use Rattle.std.proofs.Common.{◌≡◌, ℕ, refl, ap, sym}
use Rattle.std.specs.Prelude.{Some, slice_get}
use Rattle.cfdp_transactions.specs.Entry.{reach}
use Rattle.cfdp_transactions.specs.code.TableEntries.{kept_index}
use Rattle.cfdp_transactions.proofs.Received.GapsOfEntry.{reach_entry}
use Rattle.cfdp_transactions.proofs.KeptTable.WorldOfTable.{read_in}
use Rattle.cfdp_transactions.proofs.the_core.Core.reach.Goals as goal

pub returns-in_default : goal.returns-in_default
returns-in_default g c =
    let F = (g.S.Filestore.state c.self.inside.store).filestore in
    let table_entries = c.self.inside.books.table in
    rw (← c.self.view_is, read_in reach F c.args.id table_entries, ← c.get.ensures, c.in_default.is) refl

pub returns : goal.returns
returns g c =
    let s = g.S.Filestore.state c.self.inside.store in
    let b = c.self.inside.books in
    let at : slice_get b.table (kept_index c.args.id b.table) ≡ Some c.in-Some.entry.now = rw c.in-Some.is at (sym c.get.ensures) in
    rw (← c.self.view_is, read_in reach s.filestore c.args.id b.table, ← c.get.ensures, c.in-Some.is, c.reach.ensures)
    (ap (λ (n : ℕ). Some n) (sym (reach_entry s b c.self.invariant.sound c.self.invariant.booked (kept_index c.args.id b.table) c.in-Some.entry.now at)))
