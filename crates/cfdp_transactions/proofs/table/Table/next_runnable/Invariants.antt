use Rattle.std.proofs.Common.{◌≡◌, drop}
use Rattle.cfdp_transactions.specs.code.TableEntries.{first_executing}
use Rattle.cfdp_transactions.proofs.table.Table.next_runnable.Given as goal

abbrev pub invariant-loop-index : goal.invariant-loop-index
invariant-loop-index l = first_executing l.self ≡ first_executing (drop l.index l.self)
