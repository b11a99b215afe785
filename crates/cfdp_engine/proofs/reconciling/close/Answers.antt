use Rattle.cfdp_engine.proofs.Faults.{fault_differs}
use Rattle.cfdp_engine.proofs.reconciling.close.Goals as goal

pub returns-in-Some-clause-exactly : goal.returns-in-Some-clause-exactly
returns-in-Some-clause-exactly g c = (
  λ q. absurd cc,
  λ all. absurd (fault_differs c.args.journaled.journal c.args.seats.items c.in-Some.fault
      (rw (c.journal.ensures, c.deref.ensures.value) at c.in-Some.ensures.fault) all),
)
