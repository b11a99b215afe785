-- How the program `cfdpsim` ends.
--
--   exit_status             the exit status of an end
use Rattle.std.specs.Prelude.{ℕ}
use Rattle.cfdp_lines.specs.declared.faults.RunFault.TheVariants.{Read, Write, Memory, BadLine}
use Rattle.cfdp_ends.specs.declared.program_end.ProgramEnd.{ProgramEnd}
use Rattle.cfdp_ends.specs.declared.program_end.ProgramEnd.TheVariants.{Fine, Usage, Run, Link}
use Rattle.cfdp_lines.specs.declared.faults.LinkFault.TheVariants as link

-- 0: the whole input was run; 1: a read, a write or memory failed, the journal is full, or the receipts differ;
-- 2: unknown words; 3: a bad line
abbrev pub exit_status : ProgramEnd → ℕ
exit_status Fine = 0
exit_status Usage = 2
exit_status (Run Read) = 1
exit_status (Run Write) = 1
exit_status (Run Memory) = 1
exit_status (Run (BadLine n)) = 3
exit_status (Link link.Write) = 1
exit_status (Link link.Memory) = 1
exit_status (Link (link.BadLine file line)) = 3
exit_status (Link link.JournalFull) = 1
exit_status (Link link.ReceiptsDiffer) = 1
