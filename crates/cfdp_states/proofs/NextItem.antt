-- The next item of a list: what it leaves to the rest, and that there is room for it.
use Rattle.std.proofs.Common.{◌≡◌, refl, ap, ℕ, ◌+◌, ◌-◌, ◌≤◌, max, List, [], ◌∷◌, arith, if◌then◌else◌, le-leb}
use Rattle.cfdp_paths.specs.Paths.{Path}
use Rattle.cfdp_actions.specs.Filestore.{Filestore, blocks}
use Rattle.cfdp_actions.specs.Actions.{Item, denied, row}
use Rattle.cfdp_leases.specs.Items.{performed}
use Rattle.cfdp_states.specs.Alone.{steps, peak}
use Rattle.cfdp_states.specs.Laws.{OwnStep, EnoughRoom}
use Rattle.cfdp_states.proofs.Rows.{row-grows, row-ticks}

pub blocks-le-peak : (prefixes : List Path) (F : Filestore) (slot : ℕ) (items : List Item) → blocks F ≤ peak prefixes F slot items
unfolding peak
blocks-le-peak prefixes F slot [] = omega arith
blocks-le-peak prefixes F slot (item ∷ items) = omega arith

-- need and growth of the next item: b and c blocks before and after it, at most p from then on
left_over : (b c p taken given : ℕ) → c + given ≡ b + taken → c ≤ p → (p - c) + taken ≤ (max b p - b) + given
left_over b c p taken given growth most = omega arith

room_for : (b c p taken given free : ℕ) → c + given ≡ b + taken → c ≤ p → max b p - b ≤ free → taken ≤ free + given
room_for b c p taken given free growth most enough = omega arith

pub own_step : OwnStep
unfolding peak steps
own_step prefixes F slot item items rooted held =
    let G = performed prefixes F slot item in
    let o = row prefixes F slot item in (
      left_over (blocks F) (blocks G) (peak prefixes G slot items) o.taken o.given (row-grows prefixes F slot item rooted held)
          (blocks-le-peak prefixes G slot items),
      refl,
      row-ticks prefixes F slot item,
    )

pub enough_room : EnoughRoom
unfolding peak
enough_room prefixes F free slot item items rooted held enough =
    let G = performed prefixes F slot item in
    let o = row prefixes F slot item in
    let fits : o.taken ≤ free + o.given = room_for (blocks F) (blocks G) (peak prefixes G slot items) o.taken o.given free
    (row-grows prefixes F slot item rooted held) (blocks-le-peak prefixes G slot items) enough in
    ap (λ b. if b then o else denied item) (le-leb o.taken (free + o.given) fits)
