-- Why the octets of a file name (CCSDS 727.0-B-5 §5.4, filestore procedures) spell no path.
--     fault_of_name name        what is wrong with the name alone, if anything
--     first_fault room names    the leftmost fault, where at most `room` names may come
--     fault_of octets           the fault of the octets, if they have one
use Rattle.std.specs.Prelude.{ℕ, zero, suc, nat_lt, ◌==◌, ◌||◌, if◌then◌else◌, List, [], ◌∷◌, length, Option, Some, None}
use Rattle.std.specs.List.{list_any}
use Rattle.cfdp_paths.specs.declared.fault.PathFault.{PathFault}
use Rattle.cfdp_paths.specs.declared.fault.PathFault.TheVariants.{Empty, EmptyName, BadName, NameTooLong, TooDeep}
use Rattle.cfdp_paths.specs.Paths.{Name, dot, same_name, without_slash, names_in}

-- what is wrong with the name alone, if anything
abbrev pub fault_of_name : Name → Option PathFault
fault_of_name name =
    if length name == 0 then Some EmptyName
    else if same_name name (dot ∷ []) || same_name name (dot ∷ dot ∷ []) || list_any (λ octet. octet == 0) name
    then Some BadName
    else if nat_lt 96 (length name) then Some NameTooLong
    else None

-- `a` where there is one, and `b` otherwise
abbrev pub or_fault : Option PathFault → Option PathFault → Option PathFault
or_fault None later = later
or_fault (Some fault) later = Some fault

-- the leftmost fault, where at most `room` names may come: one more is not looked at
abbrev pub first_fault : ℕ → List Name → Option PathFault
first_fault room [] = None
first_fault zero (name ∷ names) = Some TooDeep
first_fault (suc room) (name ∷ names) = or_fault (fault_of_name name) (first_fault room names)

-- the fault of the octets, if they have one
abbrev pub fault_of : List ℕ → Option PathFault
fault_of octets = if length (without_slash octets) == 0 then Some Empty else first_fault 8 (names_in octets)
