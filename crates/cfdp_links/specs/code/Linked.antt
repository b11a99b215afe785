-- What only the proofs of the code need of `Linked`.
--   AddsLine         a line moved the stage on, and what it says came after what was there
--   IsBadLine        why a file is not read: out of memory, or the bad line that there is
--   IsRunFault       a fault after the reading of all files, but not the writer's
--   link_fault_of    what a stop of a worker is to the whole run
--   first_stop       why the first worker stopped that did
--   Agree            each worker took what its file says, the entity has this configuration, and the seats' receipts
--                    are its journal
--   IsWorkFault      why there is no text of what workers did: the first stop; without a stop, out of memory, or they
--                    do not agree
use Rattle.std.specs.Prelude.{◌≡◌, ⊤, ℕ, List, [], ◌∷◌, ◌++◌, map, Option, Some, None, Result, Err}
use Rattle.std.specs.Option.{option_or}
use Rattle.cfdp_transactions.specs.Config.{Config}
use Rattle.cfdp_engine.specs.Journal.{Recorded}
use Rattle.cfdp_engine.specs.Seats.{IsReconciled}
use Rattle.cfdp_engine.specs.declared.stop.Stop.{Stop}
use Rattle.cfdp_engine.specs.declared.stop.Stop.TheVariants as stops
use Rattle.cfdp_engine.specs.declared.working.Worked.{Worked}
use Rattle.cfdp_links.specs.Linked.{IsFaultWhere}
use Rattle.cfdp_links.specs.Links.{Said, said_of, Reading, link_answer}
use Rattle.cfdp_commands.specs.Replay.{ReplayStage}
use Rattle.cfdp_lines.specs.Report.{line_answer}
use Rattle.cfdp_lines.specs.declared.faults.LinkFault.{LinkFault}
use Rattle.cfdp_lines.specs.declared.faults.LinkFault.TheVariants.{Memory, JournalFull, ReceiptsDiffer}

-- a line moved the stage on, and what it says came after what was there
pub record AddsLine (from to : ReplayStage) (line : List ℕ) (before after : List Said) : Type 0 where
  pub said : List Said
  pub answered : line_answer link_answer from line ≡ Some (to, said)
  pub appended : after ≡ before ++ said

abbrev pub IsBadLine : Result Reading ℕ → (file : ℕ) → LinkFault → Type 0
IsBadLine read file fault = IsFaultWhere (λ named line. (named ≡ file) × (read ≡ Err line)) ⊥ fault

abbrev pub IsRunFault : LinkFault → Type 0
IsRunFault Memory = ⊤
IsRunFault JournalFull = ⊤
IsRunFault ReceiptsDiffer = ⊤
IsRunFault fault = ⊥

abbrev pub link_fault_of : Stop → LinkFault
link_fault_of stops.Memory = Memory
link_fault_of stops.JournalFull = JournalFull

abbrev pub first_stop : List Worked → Option Stop
first_stop [] = None
first_stop (worked ∷ workers) = option_or worked.stopped (first_stop workers)

abbrev pub took_of : List Worked → List (List Said)
took_of workers = map (λ worked. map said_of worked.taken.items) workers

pub record Agree (config : Config) (journaled : Recorded) (said : List (List Said))
    (workers : List Worked) : Type 0 where
  pub took : took_of workers ≡ said
  pub configured : journaled.core.world.config ≡ config
  pub reconciled : IsReconciled journaled.journal (map (λ worked. worked.seat) workers)

abbrev pub IsWorkFault : Option Stop → (agree : Type 0) → LinkFault → Type 0
IsWorkFault (Some stop) agree fault = fault ≡ link_fault_of stop
IsWorkFault None agree Memory = ⊤
IsWorkFault None agree ReceiptsDiffer = ¬ agree
IsWorkFault None agree fault = ⊥
