-- What a fault of a file name is called, in words.
--     path_fault_text fault  the text that `Display` writes
use Rattle.std.specs.Prelude.{ℕ, List, codes}
use Rattle.cfdp_paths.specs.declared.fault.PathFault.{PathFault}
use Rattle.cfdp_paths.specs.declared.fault.PathFault.TheVariants.{Empty, EmptyName, BadName, NameTooLong, TooDeep, Memory}

abbrev pub path_fault_text : PathFault → List ℕ
path_fault_text Empty = codes "the path has no name"
path_fault_text EmptyName = codes "a name of the path is empty"
path_fault_text BadName = codes "a name of the path is `.` or `..`, or holds the octet 0"
path_fault_text NameTooLong = codes "a name of the path has more than 96 octets"
path_fault_text TooDeep = codes "the path has more than 8 names"
path_fault_text Memory = codes "no memory for the path"
