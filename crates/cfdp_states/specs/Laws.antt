-- What is true of lists run alone, whatever the code does.
--     OwnStep           what the rest of a list may still grow and take, after the next item
--     EnoughRoom        with need blocks free the next item is the row of the table
--     LongerFile        a longer delivered file: the same statuses, and need and steps no less
--     ForeignChange, ForeignChangeWith      a change that keeps the footprint: the same statuses, growths, need and
--                                           steps
--     SucceedByStatuses a list succeeds where each of its statuses does
--     OnlyLeased        all that is not leased may be left out of sight
--     Appended          one more item at the end of a list
--     ViewBegins, ViewInstalls, ViewRefuses, ViewGoesOn      a view describes a list that is run alone, from item to
--                                                            item
--     ViewBounds        its bound is the length of the file that is there in the end
--     AnySlot, AnySlotWith                  it does not matter in which slot the file is staged, nor what else is
--                                           staged
use Rattle.std.specs.Prelude.{◌≡◌, ℕ, ◌+◌, ◌≤◌, ◌<◌, max, true, false, IsTrue, ◌↔◌, List, [], ◌∷◌, ◌++◌, length}
use Rattle.std.specs.List.{AllByRecursion}
use Rattle.std.specs.FinMap as finite
use Rattle.cfdp_paths.specs.Paths.{Path}
use Rattle.cfdp_actions.specs.Filestore.{Filestore, node_at, staged_in, blocks, IsRooted}
use Rattle.cfdp_actions.specs.Actions.{Item, Install, Installed, NotInstalled, Answer, succeeded, ticks, row, act_item}
use Rattle.cfdp_leases.specs.Items.{performed, step_bound}
use Rattle.cfdp_leases.specs.Footprint.{Footprint, is_covered, IsWithin, Keeps}
use Rattle.cfdp_leases.specs.Laws.{IsAlike}
use Rattle.cfdp_states.specs.Alone.{Succeed, peak, statuses, growths, steps, need, statuses_with, growths_with, need_with, steps_with, reached, alone, statuses_alone, need_alone, steps_alone}
use Rattle.cfdp_states.specs.Views.{Sketch, size_of, length_at, only, IsViewOf, Tells, TellsInstall, HasRun}

-- after the next item the rest's need is at most the need before less that item's growth of blocks, its steps are those
-- before less 1 and that item's bound, and the item's ticks are at most that bound
abbrev pub OwnStep : Type 0
OwnStep =
    (prefixes : List Path) (F : Filestore) (slot : ℕ) (item : Item) (items : List Item) → IsRooted F →
    slot < length F.staged →
    (need prefixes (performed prefixes F slot item) slot items
    + (row prefixes F slot item).taken ≤ need prefixes F slot (item ∷ items) + (row prefixes F slot item).given)
    × (steps prefixes F slot (item ∷ items) ≡ (1 + step_bound F item)
    + steps prefixes (performed prefixes F slot item) slot items)
    × (ticks (row prefixes F slot item) ≤ step_bound F item)

-- with need blocks free there is room for the next item
abbrev pub EnoughRoom : Type 0
EnoughRoom =
    (prefixes : List Path) (F : Filestore) (free slot : ℕ) (item : Item) (items : List Item) → IsRooted F →
    slot < length F.staged →
    need prefixes F slot (item ∷ items) ≤ free → act_item prefixes F free slot item ≡ row prefixes F slot item

-- whatever is delivered, a longer file changes no status, and lowers neither need nor steps
abbrev pub LongerFile : Type 0
LongerFile =
    (prefixes : List Path) (F : Filestore) (slot : ℕ) (x y : List ℕ) (items : List Item) → slot < length F.staged →
    length x ≤ length y →
    (statuses_with prefixes F slot x items ≡ statuses_with prefixes F slot y items)
    × (need_with prefixes F slot x items ≤ need_with prefixes F slot y items)
    × (steps_with prefixes F slot x items ≤ steps_with prefixes F slot y items)

-- on two filestores that agree on the footprint and have the same staged list, items within the footprint have the same
-- statuses, growths, need and steps
abbrev pub ForeignChange : Type 0
ForeignChange =
    (prefixes : List Path) (fp : Footprint) (F G : Filestore) (slot : ℕ) (items : List Item) → IsAlike fp slot F G →
    IsRooted F → IsRooted G →
    slot < length F.staged → slot < length G.staged → AllByRecursion (IsWithin fp) items →
    (statuses prefixes F slot items ≡ statuses prefixes G slot items)
    × (growths prefixes F slot items ≡ growths prefixes G slot items)
    × (need prefixes F slot items ≡ need prefixes G slot items)
    × (steps prefixes F slot items ≡ steps prefixes G slot items)

-- and with whatever file is delivered
abbrev pub ForeignChangeWith : Type 0
ForeignChangeWith =
    (prefixes : List Path) (fp : Footprint) (F G : Filestore) (slot : ℕ) (x : List ℕ) (items : List Item) →
    IsAlike fp slot F G → IsRooted F → IsRooted G →
    slot < length F.staged → slot < length G.staged → AllByRecursion (IsWithin fp) items →
    (statuses_with prefixes F slot x items ≡ statuses_with prefixes G slot x items)
    × (growths_with prefixes F slot x items ≡ growths_with prefixes G slot x items)
    × (need_with prefixes F slot x items ≡ need_with prefixes G slot x items)
    × (steps_with prefixes F slot x items ≡ steps_with prefixes G slot x items)

-- where the same is at each path and lists of one length are staged, the slots may be different ones
abbrev pub AnySlot : Type 0
AnySlot =
    (prefixes : List Path) (F G : Filestore) (slot other : ℕ) (items : List Item) →
    ((p : Path) → node_at F p ≡ node_at G p) →
    length (staged_in F slot) ≡ length (staged_in G other) → slot < length F.staged → other < length G.staged →
    (statuses prefixes F slot items ≡ statuses prefixes G other items)
    × (need prefixes F slot items ≡ need prefixes G other items)
    × (steps prefixes F slot items ≡ steps prefixes G other items)

-- what is judged with the file as the one staged list is so in each slot that stages nothing
abbrev pub AnySlotWith : Type 0
AnySlotWith =
    (prefixes : List Path) (F : Filestore) (slot : ℕ) (x : List ℕ) (items : List Item) → slot < length F.staged →
    staged_in F slot ≡ [] →
    (statuses_with prefixes F slot x items ≡ statuses_alone prefixes F x items)
    × (need_with prefixes F slot x items ≡ need_alone prefixes F x items)
    × (steps_with prefixes F slot x items ≡ steps_alone prefixes F x items)

-- items within the footprint run alone as they do where nothing else exists, and come to the same at what it covers
abbrev pub OnlyLeased : Type 0
OnlyLeased =
    (prefixes : List Path) (fp : Footprint) (F : Filestore) (x : List ℕ) (items : List Item) →
    AllByRecursion (IsWithin fp) items →
    (statuses_alone prefixes (only fp F) x items ≡ statuses_alone prefixes F x items)
    × (need_alone prefixes (only fp F) x items ≡ need_alone prefixes F x items)
    × (steps_alone prefixes (only fp F) x items ≡ steps_alone prefixes F x items)
    × Keeps (reached prefixes (alone (only fp F) x) 0 items) (reached prefixes (alone F x) 0 items) fp

-- one more item at the end
abbrev pub Appended : Type 0
Appended =
    (prefixes : List Path) (F : Filestore) (slot : ℕ) (items : List Item) (item : Item) →
    let G = reached prefixes F slot items in
    (reached prefixes F slot (items ++ item ∷ []) ≡ performed prefixes G slot item)
    × (statuses prefixes F slot (items ++ item ∷ []) ≡ statuses prefixes F slot items
    ++ (row prefixes G slot item).answer ∷ [])
    × (peak prefixes F slot (items ++ item ∷ []) ≡ max (peak prefixes F slot items)
    (blocks (performed prefixes G slot item)))
    × (steps prefixes F slot (items ++ item ∷ []) ≡ steps prefixes F slot items + (1 + step_bound G item))

-- a view as `View::of` makes it describes no item yet
abbrev pub ViewBegins : Type 0
ViewBegins =
    (v : Sketch) (fp : Footprint) (F : Filestore) → let G = alone (only fp F) [] in
    IsViewOf v G (blocks G) (blocks G) 0 → HasRun v fp F [] [] []

-- after an install that is allowed it describes that
abbrev pub ViewInstalls : Type 0
ViewInstalls =
    (v w : Sketch) (fp : Footprint) (F : Filestore) (p : Path) (x : List ℕ) → let G = alone (only fp F) [] in
    IsViewOf v G (blocks G) (blocks G) 0 →
    TellsInstall v w p (length x) true → w.prefixes ≡ v.prefixes → IsWithin fp (Install p) →
    HasRun w fp F x (Install p ∷ []) (Installed ∷ [])

-- and one that is not allowed on the view is not allowed on the filestore
abbrev pub ViewRefuses : Type 0
ViewRefuses =
    (v w : Sketch) (fp : Footprint) (F : Filestore) (p : Path) (x : List ℕ) → let G = alone (only fp F) [] in
    IsViewOf v G (blocks G) (blocks G) 0 →
    TellsInstall v w p (length x) false → IsWithin fp (Install p) → (row v.prefixes (alone F x) 0 (Install p)).answer
    ≡ NotInstalled

-- after one more item it describes that too
abbrev pub ViewGoesOn : Type 0
ViewGoesOn =
    (v w : Sketch) (fp : Footprint) (F : Filestore) (x : List ℕ) (items : List Item) (answers : List Answer)
    (item : Item) (answer : Answer) →
    HasRun v fp F x items answers → Tells v w item answer → w.prefixes ≡ v.prefixes → IsWithin fp item →
    HasRun w fp F x (items ++ item ∷ []) (answers ++ answer ∷ [])

-- the bound that it gives for a path within the footprint is the length of the file that then is there on the
-- filestore
abbrev pub ViewBounds : Type 0
ViewBounds =
    (v : Sketch) (fp : Footprint) (F : Filestore) (x : List ℕ) (items : List Item) (answers : List Answer) (p : Path) →
    HasRun v fp F x items answers → IsTrue (is_covered fp p) → size_of (finite.get v.extents p)
    ≡ length_at (reached v.prefixes (alone F x) 0 items) p

-- a list succeeds where each of its statuses is successful
abbrev pub SucceedByStatuses : Type 0
SucceedByStatuses =
    (prefixes : List Path) (F : Filestore) (slot : ℕ) (items : List Item) →
    Succeed prefixes F slot items ↔ AllByRecursion (λ answer. IsTrue (succeeded answer))
    (statuses prefixes F slot items)
