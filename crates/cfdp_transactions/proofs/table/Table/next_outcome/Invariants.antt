use Rattle.std.proofs.Common.{◌≡◌, drop}
use Rattle.cfdp_transactions.specs.code.TableEntries.{first_entry_over}
use Rattle.cfdp_transactions.proofs.table.Table.next_outcome.Given as goal

abbrev pub invariant-loop-index : goal.invariant-loop-index
invariant-loop-index l = first_entry_over l.self ≡ first_entry_over (drop l.index l.self)
