-- What only the proofs of the code need of `Steps`.
--     held files content                the octets that a file is to have, or why the script stops there
use Rattle.std.specs.Prelude.{ℕ, List, [], Option, Some, None, Result, Ok, Err}
use Rattle.cfdp_run.specs.Commands.{PutContent, Nothing, Octets, File}
use Rattle.cfdp_run.specs.Stops.{ScriptEnd, Unread}

abbrev pub held_in : (name : List ℕ) → Option (List ℕ) → Result (List ℕ) ScriptEnd
held_in name None = Err (Unread name)
held_in name (Some octets) = Ok octets

abbrev pub held : (List ℕ → Option (List ℕ)) → PutContent → Result (List ℕ) ScriptEnd
held files Nothing = Ok []
held files (Octets octets) = Ok octets
held files (File name) = held_in name (files name)
