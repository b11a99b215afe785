-- What only the proofs of the code need of `Files`.
--   run_fault_of    what an error of this kind is to the run
use Rattle.std.specs.declared.io.ErrorKind.{ErrorKind}
use Rattle.std.specs.declared.io.ErrorKind.TheVariants.{OutOfMemory}
use Rattle.cfdp_lines.specs.declared.faults.RunFault.{RunFault}
use Rattle.cfdp_lines.specs.declared.faults.RunFault.TheVariants.{Read, Memory}

abbrev pub run_fault_of : ErrorKind → RunFault
run_fault_of OutOfMemory = Memory
run_fault_of kind = Read
