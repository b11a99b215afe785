-- What is printed of a fault.
--   request_fault_text, script_text_of  the octets of its text
use Rattle.std.specs.Prelude.{ℕ, List, ◌++◌, codes}
use Rattle.cfdp_plans.specs.Requests.{request_form}
use Rattle.cfdp_plans.specs.declared.fault.RequestFault.{RequestFault}
use Rattle.cfdp_plans.specs.declared.fault.RequestFault.TheVariants as faults
use Rattle.cfdp_plans.specs.declared.fault.ScriptFault.{ScriptFault}
use Rattle.cfdp_plans.specs.declared.fault.ScriptFault.TheVariants as script

abbrev pub request_fault_text : RequestFault → List ℕ
request_fault_text faults.Action =
    codes "unknown action: expected create-file, delete-file, rename, append, replace, create-directory, "
    ++ codes "remove-directory, deny-file or deny-directory"
request_fault_text (faults.Paths action) = codes "expected " ++ request_form action
request_fault_text faults.FirstPath =
    codes "the first path is none: expected 1 to 8 names of 1 to 96 octets with / between them"
request_fault_text faults.SecondPath =
    codes "the second path is none: expected 1 to 8 names of 1 to 96 octets with / between them"
request_fault_text faults.Memory = codes "out of memory"

abbrev pub script_text_of : ScriptFault → List ℕ
script_text_of script.Write = codes "the script cannot be written"
script_text_of script.Memory = codes "out of memory"
