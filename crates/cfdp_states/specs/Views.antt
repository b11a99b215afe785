-- Views: what is at and below some leased paths, a file being 'at most n octets', while a list of items runs alone.
--     most_count                    the greatest u32, at which steps stop, and what a view says of its need
--     most_need                     at which the need itself stops: one more than any that can be reported
--     Sketch                        what contracts see of a view
--     size_of                       the greatest size of a file that is outlined
--     length_in, length_at          the length of a file of the filestore, as far as sizes go;  of the one at a path
--     only fp F                     the filestore with nothing but what the footprint covers
--     IsViewOf v F start peak taken the view describes F, where this many blocks were in use at first and at most, and
--                                   this many steps are taken
--     Tells, TellsInstall           how a view goes on with an item, and with the install
--     Makes v request               the request makes a path, and is successful on each filestore that the view
--                               describes
--     installed_if                  the install's answer
--     HasRun v fp F x items answers the view describes these items, run alone on F with the delivered file x
use Rattle.std.specs.Prelude.{◌≡◌, ℕ, ◌+◌, ◌-◌, ◌≤◌, min, max, Bool, IsTrue, if◌then◌else◌, List, [], ◌∷◌, Option, Some, None, length}
use Rattle.std.specs.FinMap as finite
use Rattle.cfdp_paths.specs.Paths.{Path}
use Rattle.cfdp_actions.specs.Filestore.{Node, Directory, File, Filestore, node_at, blocks}
use Rattle.cfdp_actions.specs.Actions.{Request, Item, Install, Perform, Answer, Installed, NotInstalled, succeeded, row}
use Rattle.cfdp_leases.specs.Footprint.{Footprint, is_covered, IsWithin}
use Rattle.cfdp_leases.specs.Items.{performed, step_bound}
use Rattle.cfdp_states.specs.declared.extent.Extent.{Extent}
use Rattle.cfdp_states.specs.declared.extent.Extent.TheVariants as extent
use Rattle.cfdp_states.specs.Sketching.{Extents, most_octets, extent_at, makes_path}
use Rattle.cfdp_states.specs.Alone.{alone, reached, peak, steps, statuses_alone, need_alone, steps_alone}
use Rattle.std.specs.List.{AllByRecursion}

abbrev pub most_count : ℕ
most_count = 4294967295

abbrev pub most_need : ℕ
most_need = 4294967296

pub record Sketch : Type 0 where
  pub prefixes : List Path  -- those that are protected
  pub extents : Extents  -- what exists
  pub base : ℕ  -- the blocks in use at first
  pub need : ℕ  -- how many more are in use at most
  pub steps : ℕ  -- the steps that are taken

-- a file's greatest size; none for a directory
abbrev pub size_of : Option Extent → Option ℕ
size_of None = None
size_of (Some extent.Directory) = None
size_of (Some (extent.File octets)) = Some octets

-- the length of the file at a path, or the greatest u64 where it is longer; none where no file exists
abbrev pub length_in : Option Node → Option ℕ
length_in None = None
length_in (Some Directory) = None
length_in (Some (File octets)) = Some (min (length octets) most_octets)

abbrev pub length_at : Filestore → Path → Option ℕ
length_at F p = length_in (node_at F p)

abbrev pub only : Footprint → Filestore → Filestore
only fp F = record F { nodes = finite.retain_keys F.nodes (λ p. is_covered fp p) }

pub record IsViewOf (v : Sketch) (F : Filestore) (start peak taken : ℕ) : Type 0 where
  pub extents : (p : Path) → finite.get v.extents p ≡ extent_at F p
  pub staged : F.staged ≡ [] ∷ []
  pub base : v.base ≡ start
  pub small : start ≤ 65536
  pub need : v.need ≡ min (peak - start) most_need
  pub steps : v.steps ≡ min taken most_count

-- the item is answered as on the filestore, and the view after it describes the filestore after it
abbrev pub Tells : Sketch → Sketch → Item → Answer → Type 0
Tells v w item answer =
    (F : Filestore) (start peak taken : ℕ) → IsViewOf v F start peak taken →
    let G = performed v.prefixes F 0 item in
    (answer ≡ (row v.prefixes F 0 item).answer) × IsViewOf w G start (max peak (blocks G)) (taken
    + (1 + step_bound F item))

-- where a request takes memory: it makes a path, and is successful
abbrev pub Makes : Sketch → Request → Type 0
Makes v request =
    IsTrue (makes_path request) × ((F : Filestore) (start peak taken : ℕ) → IsViewOf v F start peak taken →
    IsTrue (succeeded (row v.prefixes F 0 (Perform request)).answer))

abbrev pub installed_if : Bool → Answer
installed_if done = if done then Installed else NotInstalled

-- the same with a list of this many octets staged; where it is not installed the view is as before
abbrev pub TellsInstall : Sketch → Sketch → Path → ℕ → Bool → Type 0
TellsInstall v w p size done =
    (F : Filestore) (start peak taken : ℕ) (x : List ℕ) → IsViewOf v F start peak taken → length x ≡ size →
    let H = alone F x in
    let G = performed v.prefixes H 0 (Install p) in
    (installed_if done ≡ (row v.prefixes H 0 (Install p)).answer)
    × (IsTrue done → IsViewOf w G start (max peak (max (blocks H) (blocks G))) (taken + (1 + step_bound H (Install p))))

-- The view describes the items within the footprint, run alone on F with the delivered file x: these are their answers,
-- what the footprint covers is in the end as the view has it, and the need and steps are those of F, though the
-- view has seen of it only what the footprint covers.
pub record HasRun (v : Sketch) (fp : Footprint) (F : Filestore) (x : List ℕ) (items : List Item)
    (answers : List Answer) : Type 0 where
  pub within : AllByRecursion (IsWithin fp) items
  pub seen :
      let G = alone (only fp F) x in
      let start = blocks (alone (only fp F) []) in
      IsViewOf v (reached v.prefixes G 0 items) start (max start (peak v.prefixes G 0 items))
      (steps v.prefixes G 0 items)
  pub answered : answers ≡ statuses_alone v.prefixes F x items
  pub extents : (p : Path) → IsTrue (is_covered fp p) → finite.get v.extents p
      ≡ extent_at (reached v.prefixes (alone F x) 0 items) p
  pub need : v.need ≡ min (need_alone v.prefixes F x items) most_need
  pub steps : v.steps ≡ min (steps_alone v.prefixes F x items) most_count
