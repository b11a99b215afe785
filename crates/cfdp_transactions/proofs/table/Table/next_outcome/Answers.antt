use Rattle.std.proofs.Common.{◌≡◌, ◌∙◌, ◌+◌, true, false, ap, drop, sym, add-one}
use Rattle.cfdp_transactions.specs.Entry.{is_live}
use Rattle.cfdp_transactions.specs.code.TableEntries.{first_entry_over}
use Rattle.cfdp_transactions.proofs.KeptTable.WorldOfTable.{over_here, over_later, over_none}
use Rattle.cfdp_transactions.proofs.table.Table.next_outcome.Goals as goal

pub returns-then-not-is_live : goal.returns-then-not-is_live
returns-then-not-is_live c =
    let r = c.at-entry.result.now in
    let over : is_live r.phase ≡ false = ap is_live (sym c.phase.ensures) ∙ sym c.is_live.ensures ∙ c.if-not-is_live.true in
    rw (c.loop-index.invariant, c.name.ensures) (sym (over_here c.args.self.now c.loop-index.index r c.at-entry.ensures over))

pub loop-index-preserved : goal.loop-index-preserved
loop-index-preserved c =
    let r = c.at-entry.result.now in
    let live : is_live r.phase ≡ true = ap is_live (sym c.phase.ensures) ∙ sym c.is_live.ensures ∙ c.if-not-is_live.false in
    let later : first_entry_over (drop c.loop-index.index c.args.self.now) ≡ first_entry_over (drop (c.loop-index.index + 1) c.args.self.now) =
    rw add-one (over_later c.args.self.now c.loop-index.index r c.at-entry.ensures live) in
    c.loop-index.invariant ∙ later

pub returns : goal.returns
returns c = sym (c.loop-index.invariant ∙ over_none c.args.self.now c.loop-index.index (rw (← c.len-index-end.ensures) c.loop-index-test.false))
