use Rattle.cfdp_transactions.proofs.KeptTable.TableUnderNames.{remove_named, table_entries-remove}
use Rattle.cfdp_transactions.proofs.table.Table.forget.Goals as goal

pub invariant_of-self : goal.invariant_of-self
invariant_of-self c = rw c.shift_remove_index.ensures.entries (remove_named c.self.inside.entries.entries c.args.index c.self.invariant)

pub returns : goal.returns
returns c = rw (c.shift_remove_index.ensures.entries, ← c.self.view_is) (table_entries-remove c.self.inside.entries.entries c.args.index)
