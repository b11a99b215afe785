use Rattle.std.proofs.Common.{◌≡◌, [], ◌∷◌, ◌++◌, length, ap, ◌∙◌}
use Rattle.cfdp_transactions.specs.code.TableEntries.{kept_index}
use Rattle.cfdp_transactions.proofs.KeptTable.TableUnderNames.{table_entries_of, push_entry, push_named, table_entries-push, same_either_way}
use Rattle.cfdp_transactions.proofs.table.Table.push.Goals as goal

pub invariant_of-self-2 : goal.invariant_of-self-2
invariant_of-self-2 c =
    let es = c.self.inside.entries.entries in
    let absent : kept_index c.name.result (table_entries_of es) ≡ length (table_entries_of es) = rw (c.name.ensures, c.self.view_is) c.requires in
    let entries = c.in_ok-insert.ensures.entries ∙ push_entry _ same_either_way es c.name.result c.args.entry c.self.invariant absent in
    rw entries (push_named es c.name.result c.args.entry c.self.invariant c.name.ensures)

pub returns-clause-ok : goal.returns-clause-ok
returns-clause-ok c =
    let es = c.self.inside.entries.entries in
    let absent : kept_index c.name.result (table_entries_of es) ≡ length (table_entries_of es) = rw (c.name.ensures, c.self.view_is) c.requires in
    let entries = c.in_ok-insert.ensures.entries ∙ push_entry _ same_either_way es c.name.result c.args.entry c.self.invariant absent in
    rw entries (table_entries-push es c.name.result c.args.entry ∙ ap (λ table_entries. table_entries ++ c.args.entry ∷ []) c.self.view_is)
