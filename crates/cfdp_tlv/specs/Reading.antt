-- Reading from left to right: a value, or the first fault that is met.
--   read >>= next                goes on with what was read, unless there was a fault
--   Answers view r read          r, seen by view, is what reading gives
--   Fails memory fault read      reading gives this fault, or the fault is memory and reading gives a value
--   Gives memory view r read     r, seen by view, is what reading gives, or memory instead of a value
use Rattle.std.specs.Prelude.{◌≡◌, ◌⊎◌, Result, Ok, Err, IsOk}

infixl 10 ◌>>=◌
abbrev pub ◌>>=◌ : {A B F : Type 0} → Result A F → (A → Result B F) → Result B F
(Ok x) >>= next = next x
(Err fault) >>= next = Err fault

abbrev pub Answers : {X Y F : Type 0} → (X → Y) → Result X F → Result Y F → Type 0
Answers view (Ok x) read = read ≡ Ok (view x)
Answers view (Err fault) read = read ≡ Err fault

abbrev pub Fails : {Y F : Type 0} → F → F → Result Y F → Type 0
Fails memory fault read = (read ≡ Err fault) ⊎ ((fault ≡ memory) × IsOk read)

abbrev pub Gives : {X Y F : Type 0} → F → (X → Y) → Result X F → Result Y F → Type 0
Gives memory view (Ok x) read = read ≡ Ok (view x)
Gives memory view (Err fault) read = Fails memory fault read
