-- What the program reads of its files, and what can go wrong with them.
--
--   IsInputFault    a file cannot be opened or read, or out of memory
--   AllPaired       two lists are of one length, and the fact holds of each pair, in order
--   IsWhole         these octets are all that an input had, where it says that
--   IsRead          a file was opened by this path, and these octets are all that it had
use Rattle.std.specs.Prelude.{◌≡◌, ◌⊎◌, ⊤, ℕ, List, [], ◌∷◌, Option, IfSome}
use Rattle.cfdp_lines.specs.declared.faults.RunFault.{RunFault}
use Rattle.cfdp_lines.specs.declared.faults.RunFault.TheVariants.{Read, Memory}

abbrev pub IsInputFault : RunFault → Type 0
IsInputFault fault = (fault ≡ Read) ⊎ (fault ≡ Memory)

abbrev pub AllPaired : {X Y : Type 0} → (X → Y → Type 0) → List X → List Y → Type 0
AllPaired P [] [] = ⊤
AllPaired P (x ∷ xs) (y ∷ ys) = P x y × AllPaired P xs ys
AllPaired P xs ys = ⊥

abbrev pub IsWhole : Option (List ℕ) → List ℕ → Type 0
IsWhole input octets = IfSome input (λ all. octets ≡ all)

pub record IsRead {File : Type 0} (IsOpened : List ℕ → File → Type 0) (remaining : File → Option (List ℕ))
    (path octets : List ℕ) : Type 0 where
  pub file : File
  pub opened : IsOpened path file
  pub whole : IsWhole (remaining file) octets
