-- The line that a link holds back.
--     held_of               it, if there is one, with what was drawn for it
--     AreHeld               it is a PDU line that is to be swapped
use Rattle.std.specs.Prelude.{◌≡◌, true, List, [], ◌∷◌, Option, Some, None}
use Rattle.std.specs.List.{AllByRecursion}
use Rattle.cfdp_disturb.specs.declared.link.Held.{Held}
use Rattle.cfdp_disturb.specs.Disturbing.{Drawn, is_held}

abbrev pub held_of : Option Held → List Drawn
held_of None = []
held_of (Some held) = (held.line.items, held.draw) ∷ []

abbrev pub AreHeld : List Drawn → Type 0
AreHeld held = AllByRecursion (λ a. is_held a ≡ true) held
