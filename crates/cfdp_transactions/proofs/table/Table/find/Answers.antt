use Rattle.cfdp_transactions.proofs.KeptTable.TableUnderNames.{found_index, absent_index, same_either_way}
use Rattle.cfdp_transactions.proofs.table.Table.find.Goals as goal

pub returns-clause-found : goal.returns-clause-found
returns-clause-found c =
    rw (← c.self.view_is)
    (found_index c.args.id _ (same_either_way c.args.id) c.self.inside.entries.entries c.self.invariant c.get_index_of.result c.get_index_of.ensures.index)

pub returns-clause-absent : goal.returns-clause-absent
returns-clause-absent c =
    rw (← c.self.view_is)
    (absent_index c.args.id _ (same_either_way c.args.id) c.self.inside.entries.entries c.self.invariant c.get_index_of.result c.get_index_of.ensures.index)
