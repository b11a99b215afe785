use Rattle.std.proofs.Common.{◌≡◌, ◌∙◌, refl}
use Rattle.cfdp_transactions.proofs.KeptTable.TableUnderNames.{set_named, table_entries-set}
use Rattle.cfdp_transactions.proofs.table.Table.store.Goals as goal

pub invariant_of-self : goal.invariant_of-self
invariant_of-self c =
    set_named c.self.inside.entries.entries c.args.index c.store.new.self c.self.invariant (λ r at.
    let value = rw c.unwrap.ensures at c.get_index_mut.ensures.value in
    let same : c.unwrap.result.now ≡ r = cc in
    rw (c.store.ensures, same) refl)

pub returns : goal.returns
returns c = λ r at.
    let value = rw c.unwrap.ensures at c.get_index_mut.ensures.value in
    let there = rw (← c.self.view_is) at at in
    let same : c.unwrap.result.now ≡ r = cc in
    table_entries-set c.self.inside.entries.entries c.args.index c.store.new.self ∙ rw (c.self.view_is, c.store.ensures, same) refl
