-- The texts of faults.
--   run_line, link_line     the text of a fault of a run, and of a run of `links`
use Rattle.std.specs.Prelude.{ℕ, List, ◌++◌, codes, decimal}
use Rattle.cfdp_lines.specs.declared.faults.RunFault.{RunFault}
use Rattle.cfdp_lines.specs.declared.faults.RunFault.TheVariants.{Read, Write, Memory, BadLine}
use Rattle.cfdp_lines.specs.declared.faults.LinkFault.{LinkFault}
use Rattle.cfdp_lines.specs.declared.faults.LinkFault.TheVariants as link

-- lines count from 1
abbrev pub run_line : RunFault → List ℕ
run_line Read = codes "read failed"
run_line Write = codes "write failed"
run_line Memory = codes "out of memory"
run_line (BadLine n) = codes "line " ++ decimal n

abbrev pub link_line : LinkFault → List ℕ
link_line link.Write = codes "write failed"
link_line link.Memory = codes "out of memory"
link_line (link.BadLine file line) = codes "line " ++ decimal line
link_line link.JournalFull = codes "journal full"
link_line link.ReceiptsDiffer = codes "receipts differ"
