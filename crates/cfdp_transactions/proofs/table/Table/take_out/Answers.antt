use Rattle.std.proofs.Common.{ap, sym, ◌∙◌}
use Rattle.std.proofs.lemmas.Option.{slice_get-map}
use Rattle.std.specs.Option.{option_map}
use Rattle.cfdp_transactions.proofs.KeptTable.TableUnderNames.{remove_named, table_entries-remove}
use Rattle.cfdp_transactions.proofs.table.Table.take_out.Goals as goal

pub invariant_of-self : goal.invariant_of-self
invariant_of-self c = rw c.shift_remove_index.ensures.entries (remove_named c.self.inside.entries.entries c.args.index c.self.invariant)

pub returns-clause-rest : goal.returns-clause-rest
returns-clause-rest c = rw (c.shift_remove_index.ensures.entries, ← c.self.view_is) (table_entries-remove c.self.inside.entries.entries c.args.index)

pub returns-clause-taken : goal.returns-clause-taken
returns-clause-taken c =
    let es = c.self.inside.entries.entries in
    let there = c.shift_remove_index.ensures.entry in
    rw (← c.self.view_is, slice_get-map (λ e. e.1) es c.args.index) (ap (option_map (λ e. e.1)) (sym there ∙ c.unwrap.ensures))
