use Rattle.std.proofs.Common.{◌≡◌, ◌∙◌, ◌+◌, drop, sym, add-one}
use Rattle.cfdp_transactions.specs.Entry.{Executing}
use Rattle.cfdp_transactions.specs.code.TableEntries.{first_executing}
use Rattle.cfdp_transactions.proofs.KeptTable.WorldOfTable.{executing_here, executing_later, executing_none}
use Rattle.cfdp_transactions.proofs.table.Table.next_runnable.Goals as goal

pub returns-in-Executing : goal.returns-in-Executing
returns-in-Executing c =
    let r = c.at-entry.result.now in
    let phase : r.phase ≡ Executing _ = sym c.phase.ensures ∙ c.in-Executing.is in
    rw (c.loop-index.invariant, c.name.ensures) (sym (executing_here c.args.self.now c.loop-index.index r _ c.at-entry.ensures phase))

pub loop-index-preserved : goal.loop-index-preserved
loop-index-preserved c =
    let later : first_executing (drop c.loop-index.index c.args.self.now) ≡ first_executing (drop (c.loop-index.index + 1) c.args.self.now) =
    rw add-one (executing_later c.args.self.now c.loop-index.index c.at-entry.result.now c.at-entry.ensures
    (λ n h. c.in_default.not-Executing n (c.phase.ensures ∙ h))) in
    c.loop-index.invariant ∙ later

pub returns : goal.returns
returns c = sym (c.loop-index.invariant ∙ executing_none c.args.self.now c.loop-index.index (rw (← c.len-index-end.ensures) c.loop-index-test.false))
