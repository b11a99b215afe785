-- Where a run begins. No transaction is known, and the filestore may have directories and files already: those that
-- were loaded before launch, or kept over a restart.
--     start_with c F            the entity over this filestore
--     IsGoodStart c F           a filestore as an entity of this configuration may begin with
--     with_node W p node        a directory or a file is put at a path, and nothing else changes
--     put_fault W p node        the first reason, in the order of tests, for which it can't be put
--                               there;  filestore_fault: by a filestore with `free` free blocks
--     IsNotPut W p node why     it is this reason, or out of memory
--     StartIsEmpty              `start` is the start over the empty filestore
--     EmptyIsGood, PutIsGood    that one is good;  and one stays good with what is put there
--     PutIsSound                what is put keeps an entity sound
--     GoodStartIsSound          an entity over a good filestore is sound
--     HeadlineFrom, EachKeyIsAPathFrom, DoneIsInstalledFrom, FirstIsInstalledFrom, OutcomesFitFrom
--                               the laws of the same names, of each run from such an entity
use Rattle.std.specs.Prelude.{◌≡◌, ◌≢◌, ℕ, ◌≤◌, nat_lt, not, ◌==◌, if◌then◌else◌, is_some, List, [], length, replicate, Option, Some, None}
use Rattle.std.specs.List.{AllByRecursion}
use Rattle.cfdp_paths.specs.Paths.{Path, IsPath}
use Rattle.cfdp_actions.specs.Filestore.{Node, Filestore, node_at, empty_filestore, weight, blocks, Becomes, changed, parent_is_good, IsRooted}
use Rattle.cfdp_leases.specs.Laws.{KeysArePaths}
use Rattle.cfdp_transactions.specs.Config.{Config}
use Rattle.cfdp_transactions.specs.Entry.{Done}
use Rattle.cfdp_transactions.specs.Events.{Event}
use Rattle.cfdp_transactions.specs.World.{World, start, free}
use Rattle.cfdp_transactions.specs.Next.{next, run, replies}
use Rattle.cfdp_transactions.specs.Sound.{Each, Sound}
use Rattle.cfdp_transactions.specs.Headline.{Promised, AtEach}
use Rattle.cfdp_transactions.specs.Beside.{HasItsFile, says_installed, installs}
use Rattle.cfdp_transactions.specs.Writable.{IsReadable, FitsReply}
pub use Rattle.cfdp_transactions.specs.declared.putting.NotPut.{NotPut}
pub use Rattle.cfdp_transactions.specs.declared.putting.NotPut.TheVariants.{HasTransactions, Exists, NoParent, NoRoom, Memory}

abbrev pub start_with : Config → Filestore → World
start_with c F = record { config = c; filestore = F; table = [] }

pub record IsGoodStart (c : Config) (F : Filestore) : Type 0 where
  pub rooted : IsRooted F  -- each parent is the root or a directory
  pub paths : KeysArePaths F  -- something exists only at 1 to 8 names, each within the limits
  pub staged : F.staged ≡ replicate 64 []  -- nothing is staged
  pub fits : blocks F ≤ c.blocks

-- what is put ----------------------------------------------------------------------------

abbrev pub with_node : World → Path → Node → World
with_node W p node = record W { filestore = changed W.filestore (Becomes p (Some node)) }

abbrev pub filestore_fault : Filestore → (free : ℕ) → Path → Node → Option NotPut
filestore_fault F free p node =
    if is_some (node_at F p) then Some Exists
    else if not (parent_is_good F p) then Some NoParent
    else if nat_lt free (weight (Some node)) then Some NoRoom
    else None

-- a transaction counts until its outcome is taken
abbrev pub put_fault : World → Path → Node → Option NotPut
put_fault W p node = if not (length W.table == 0) then Some HasTransactions
    else filestore_fault W.filestore (free W) p node

abbrev pub IsNotPut : World → Path → Node → NotPut → Type 0
IsNotPut W p node why = why ≢ Memory → put_fault W p node ≡ Some why

abbrev pub StartIsEmpty : Type 0
StartIsEmpty = (c : Config) → start c ≡ start_with c empty_filestore

abbrev pub EmptyIsGood : Type 0
EmptyIsGood = (c : Config) → IsGoodStart c empty_filestore

abbrev pub PutIsGood : Type 0
PutIsGood =
    (c : Config) (F : Filestore) (p : Path) (node : Node) → IsGoodStart c F → IsPath p →
    put_fault (start_with c F) p node ≡ None →
    IsGoodStart c (with_node (start_with c F) p node).filestore

abbrev pub PutIsSound : Type 0
PutIsSound = (W : World) (p : Path) (node : Node) → Sound W → put_fault W p node ≡ None → Sound (with_node W p node)

-- runs -----------------------------------------------------------------------------------

abbrev pub GoodStartIsSound : Type 0
GoodStartIsSound = (c : Config) (F : Filestore) → IsGoodStart c F → Sound (start_with c F)

-- for every configuration, every filestore to begin with, and every list of events
abbrev pub HeadlineFrom : Type 0
HeadlineFrom = (c : Config) (F : Filestore) (events : List Event) → IsGoodStart c F →
    AtEach Sound Promised (start_with c F) events

abbrev pub EachKeyIsAPathFrom : Type 0
EachKeyIsAPathFrom = (c : Config) (F : Filestore) (events : List Event) → KeysArePaths F →
    KeysArePaths (run (start_with c F) events).filestore

-- whatever the filestore
abbrev pub DoneIsInstalledFrom : Type 0
DoneIsInstalledFrom = (c : Config) (F : Filestore) (events : List Event) →
    Each (λ e. e.phase ≡ Done → HasItsFile e) (run (start_with c F) events).table

abbrev pub FirstIsInstalledFrom : Type 0
FirstIsInstalledFrom =
    (c : Config) (F : Filestore) (events : List Event) (event : Event) → IsGoodStart c F →
    says_installed (next (run (start_with c F) events) event).1 ≡ installs (run (start_with c F) events) event

-- whatever the filestore
abbrev pub OutcomesFitFrom : Type 0
OutcomesFitFrom =
    (c : Config) (F : Filestore) (events : List Event) → AllByRecursion IsReadable events →
    AllByRecursion FitsReply (replies (start_with c F) events)
