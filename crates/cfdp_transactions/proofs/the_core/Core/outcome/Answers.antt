use Rattle.std.proofs.Common.{◌≡◌, ◌∙◌, refl, sym, ap, true, false}
use Rattle.std.specs.Prelude.{Some}
use Rattle.cfdp_transactions.specs.Entry.{is_live}
use Rattle.cfdp_transactions.specs.CoreFields.{outcome_when_over}
use Rattle.cfdp_transactions.specs.declared.outcome.Outcome.{Outcome}
use Rattle.cfdp_transactions.proofs.KeptTable.WorldOfTable.{read_in}
use Rattle.cfdp_transactions.proofs.the_core.Core.outcome.Goals as goal

pub returns-in_default-clause-outcome : goal.returns-in_default-clause-outcome
returns-in_default-clause-outcome g c =
    let F = (g.S.Filestore.state c.self.inside.store).filestore in
    let table_entries = c.self.inside.books.table in
    rw (← c.self.view_is, read_in outcome_when_over F c.args.id table_entries, ← c.get.ensures, c.in_default.is) refl

pub returns-then-is_live-clause-outcome : goal.returns-then-is_live-clause-outcome
returns-then-is_live-clause-outcome g c =
    let F = (g.S.Filestore.state c.self.inside.store).filestore in
    let table_entries = c.self.inside.books.table in
    let live : is_live c.in-Some.entry.now.phase ≡ true = rw c.phase.ensures at (sym c.is_live.ensures ∙ c.if-is_live.true) in
    rw (← c.self.view_is, read_in outcome_when_over F c.args.id table_entries, ← c.get.ensures, c.in-Some.is, live) refl

pub returns-clause-outcome : goal.returns-clause-outcome
returns-clause-outcome g c =
    let F = (g.S.Filestore.state c.self.inside.store).filestore in
    let table_entries = c.self.inside.books.table in
    let over : is_live c.in-Some.entry.now.phase ≡ false = rw c.phase.ensures at (sym c.is_live.ensures ∙ c.if-is_live.false) in
    rw (← c.self.view_is, read_in outcome_when_over F c.args.id table_entries, ← c.get.ensures, c.in-Some.is, over)
    (ap (λ (outcome : Outcome). Some outcome) (c.in_ok-make_outcome.ensures F))

pub returns-in_err-make_outcome-clause-lean : goal.returns-in_err-make_outcome-clause-lean
returns-in_err-make_outcome-clause-lean g c = λ none.
    let F = (g.S.Filestore.state c.self.inside.store).filestore in
    let table_entries = c.self.inside.books.table in
    let over : is_live c.in-Some.entry.now.phase ≡ false = rw c.phase.ensures at (sym c.is_live.ensures ∙ c.if-is_live.false) in
    let has_one = rw (← c.self.view_is, read_in outcome_when_over F c.args.id table_entries, ← c.get.ensures, c.in-Some.is, over) at none in
    absurd cc
