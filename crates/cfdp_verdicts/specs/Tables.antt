-- The table of a list of items: a line for each, with its steps, the blocks that the list needs up to and with it, and
-- its paths.
--     padded width text     a text with spaces before it, as many octets as the width at least
--     listed_paths label paths  a label and paths, with commas between them; nothing without a path
--     paths_words item      the paths that an item changes, and those that it only reads
--     numbers_text          the steps of an item, and the blocks up to and with it
--     item_words number item       an item; a request with its number
--     row_text number before item cost      the line of an item, where the list before it takes `before` steps
--     rows_text             the lines of the items that have a cost
--     heading               the line above them
--     table_text items costs       the heading and the lines; nothing where no item has a cost
use Rattle.std.specs.Prelude.{ℕ, ◌+◌, ◌-◌, ◌==◌, if◌then◌else◌, List, [], ◌∷◌, ◌++◌, length, replicate, option_map, codes}
use Rattle.cfdp_paths.specs.Paths.{Path, joined}
use Rattle.cfdp_actions.specs.Actions.{Item, Install, Perform, action_in, first_in, second_in}
use Rattle.cfdp_leases.specs.Footprint.{exclusive_in, read_in}
use Rattle.cfdp_texts.specs.Replies.{labelled, shown}
use Rattle.cfdp_verdicts.specs.Words.{acted, grouped}
use Rattle.cfdp_verdicts.specs.Costs.{Cost}

unfoldable pub padded : ℕ → List ℕ → List ℕ
padded width text = replicate (width - length text) 32 ++ text

-- with a label before them
unfoldable pub listed_paths : List ℕ → List Path → List ℕ
listed_paths label [] = []
listed_paths label (p ∷ paths) = label ++ shown (joined p) ++ listed_paths (codes ", ") paths

unfoldable pub paths_words : Item → List ℕ
paths_words item = listed_paths (codes "; changes ") (exclusive_in item) ++ listed_paths (codes "; reads ")
    (read_in item)

unfoldable pub numbers_text : ℕ → Cost → List ℕ
numbers_text before cost = padded 14 (grouped (cost.steps - before)) ++ padded 14 (grouped cost.blocks) ++ codes "  "

unfoldable pub item_words : ℕ → Item → List ℕ
item_words number (Install p) = codes "file " ++ shown (joined p)
item_words number (Perform r) = labelled (codes "request ") number ++ codes ", "
    ++ acted (action_in r) (joined (first_in r)) (option_map joined (second_in r))

unfoldable pub row_text : ℕ → ℕ → Item → Cost → List ℕ
row_text number before item cost = numbers_text before cost ++ item_words number item ++ paths_words item ++ 10 ∷ []

-- the install has no number
abbrev pub number_after : ℕ → Item → ℕ
number_after number (Install p) = number
number_after number (Perform r) = number + 1

unfoldable pub rows_text : ℕ → ℕ → List Item → List Cost → List ℕ
rows_text number before (item ∷ items) (cost ∷ costs) = row_text number before item cost
    ++ rows_text (number_after number item) cost.steps items costs
rows_text number before items costs = []

unfoldable pub heading : List ℕ
heading = codes "         steps        blocks  item\n"

unfoldable pub table_text : List Item → List Cost → List ℕ
table_text items costs = if length costs == 0 then [] else heading ++ rows_text 1 0 items costs
