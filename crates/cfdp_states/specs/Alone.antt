-- A list of items run alone, with unlimited room.
--     statuses, growths, Succeed         the answers of the items one after another;  what each takes and gives
--                                        back;  that each succeeds
--     steps                              1 and what each item may take at most, over the list
--     peak, need                         the most blocks in use at F and after each item;  how far that is above F's
--     reached                            the filestore after all items
--     stage, statuses_with, ..           the same with x as the delivered file
--     alone, statuses_alone, ..          the same with x as the one staged list
use Rattle.std.specs.Prelude.{⊤, ℕ, ◌+◌, ◌-◌, max, IsTrue, List, [], ◌∷◌}
use Rattle.cfdp_paths.specs.Paths.{Path}
use Rattle.cfdp_actions.specs.Filestore.{Filestore, blocks, Stages, changed}
use Rattle.cfdp_actions.specs.Actions.{Item, Answer, succeeded, row}
use Rattle.cfdp_leases.specs.Items.{performed, step_bound}

unfoldable pub statuses : List Path → Filestore → ℕ → List Item → List Answer
statuses prefixes F slot [] = []
statuses prefixes F slot (item ∷ items) = (row prefixes F slot item).answer ∷ statuses prefixes
    (performed prefixes F slot item) slot items

unfoldable pub growths : List Path → Filestore → ℕ → List Item → List (ℕ × ℕ)
growths prefixes F slot [] = []
growths prefixes F slot (item ∷ items) =
    ((row prefixes F slot item).taken, (row prefixes F slot item).given) ∷ growths prefixes
    (performed prefixes F slot item) slot items

unfoldable pub Succeed : List Path → Filestore → ℕ → List Item → Type 0
Succeed prefixes F slot [] = ⊤
Succeed prefixes F slot (item ∷ items) = IsTrue (succeeded (row prefixes F slot item).answer)
    × Succeed prefixes (performed prefixes F slot item) slot items

unfoldable pub steps : List Path → Filestore → ℕ → List Item → ℕ
steps prefixes F slot [] = 0
steps prefixes F slot (item ∷ items) = (1 + step_bound F item)
    + steps prefixes (performed prefixes F slot item) slot items

unfoldable pub peak : List Path → Filestore → ℕ → List Item → ℕ
peak prefixes F slot [] = blocks F
peak prefixes F slot (item ∷ items) = max (blocks F) (peak prefixes (performed prefixes F slot item) slot items)

-- the filestore after all items
unfoldable pub reached : List Path → Filestore → ℕ → List Item → Filestore
reached prefixes F slot [] = F
reached prefixes F slot (item ∷ items) = reached prefixes (performed prefixes F slot item) slot items

-- how many blocks more than now the items take at most
abbrev pub need : List Path → Filestore → ℕ → List Item → ℕ
need prefixes F slot items = peak prefixes F slot items - blocks F

-- with x staged instead of what is staged now
abbrev pub stage : Filestore → ℕ → List ℕ → Filestore
stage F slot x = changed F (Stages slot x)

-- alone, with the delivered file x
abbrev pub statuses_with : List Path → Filestore → ℕ → List ℕ → List Item → List Answer
statuses_with prefixes F slot x items = statuses prefixes (stage F slot x) slot items

abbrev pub growths_with : List Path → Filestore → ℕ → List ℕ → List Item → List (ℕ × ℕ)
growths_with prefixes F slot x items = growths prefixes (stage F slot x) slot items

abbrev pub need_with : List Path → Filestore → ℕ → List ℕ → List Item → ℕ
need_with prefixes F slot x items = peak prefixes (stage F slot x) slot items - blocks F

abbrev pub steps_with : List Path → Filestore → ℕ → List ℕ → List Item → ℕ
steps_with prefixes F slot x items = steps prefixes (stage F slot x) slot items

-- alone with x as the one staged list, whatever slots there are: what a verdict judges by
abbrev pub alone : Filestore → List ℕ → Filestore
alone F x = record F { staged = x ∷ [] }

abbrev pub statuses_alone : List Path → Filestore → List ℕ → List Item → List Answer
statuses_alone prefixes F x items = statuses prefixes (alone F x) 0 items

abbrev pub need_alone : List Path → Filestore → List ℕ → List Item → ℕ
need_alone prefixes F x items = peak prefixes (alone F x) 0 items - blocks (alone F [])

abbrev pub steps_alone : List Path → Filestore → List ℕ → List Item → ℕ
steps_alone prefixes F x items = steps prefixes (alone F x) 0 items
