-- A list run on two filestores, where the files of the second are as long or longer; and from there a longer delivered file,
-- and another slot.
use Rattle.std.proofs.Common.{◌≡◌, refl, sym, ℕ, ◌+◌, ◌-◌, ◌<◌, ◌≤◌, max, List, [], ◌∷◌, length, arith, add-le-add, le_refl, slice_index_or, slice_set}
use Rattle.std.proofs.lemmas.List.Sums.{sum_by-set}
use Rattle.cfdp_paths.specs.Paths.{Path}
use Rattle.cfdp_actions.specs.Filestore.{Filestore, node_at, staged_in, blocks_of, blocks}
use Rattle.cfdp_actions.specs.Actions.{Item}
use Rattle.cfdp_leases.specs.Items.{performed}
use Rattle.cfdp_states.specs.Alone.{statuses, steps, peak, stage}
use Rattle.cfdp_states.specs.Laws.{LongerFile}
use Rattle.cfdp_actions.proofs.Growth.{blocks_of-zero}
use Rattle.cfdp_states.proofs.Longer.{longer-itself, IsLonger, longer-stages, staged_blocks, blocks-longer}
use Rattle.cfdp_states.proofs.LongerRows.{row-longer, performed-longer, step_bound-longer}

higher : (b c p r m n : ℕ) → b + n ≤ c + m → p + n ≤ r + m → max b p + n ≤ max c r + m
higher b c p r m n first second = omega arith

module _ (prefixes : List Path) (slot other m n : ℕ) where
  pub statuses-longer : (F G : Filestore) (items : List Item) → IsLonger slot other m n F G → statuses prefixes F slot items ≡ statuses prefixes G other items
  unfolding statuses
  statuses-longer F G [] h = refl
  statuses-longer F G (item ∷ items) h = λ i. (row-longer slot other m n F G h prefixes item).answer i ∷ statuses-longer (performed prefixes F slot item)
      (performed prefixes G other item) items (performed-longer slot other m n F G h prefixes item) i

  pub peak-longer : (F G : Filestore) (items : List Item) → IsLonger slot other m n F G → peak prefixes F slot items + n ≤ peak prefixes G other items + m
  unfolding peak
  peak-longer F G [] h = blocks-longer slot other m n F G h
  peak-longer F G (item ∷ items) h =
      let H = performed prefixes F slot item in
      let K = performed prefixes G other item in
      higher (blocks F) (blocks G) (peak prefixes H slot items) (peak prefixes K other items) m n (blocks-longer slot other m n F G h)
      (peak-longer H K items (performed-longer slot other m n F G h prefixes item))

  pub steps-longer : (F G : Filestore) (items : List Item) → IsLonger slot other m n F G → steps prefixes F slot items ≤ steps prefixes G other items
  unfolding steps
  steps-longer F G [] h = le_refl 0
  steps-longer F G (item ∷ items) h =
      add-le-add (add-le-add (le_refl 1) (step_bound-longer slot other m n F G h item))
      (steps-longer (performed prefixes F slot item) (performed prefixes G other item) items (performed-longer slot other m n F G h prefixes item))

-- ---- a longer file in the same slot

-- the blocks that the other slots hold
abbrev pub other_blocks : Filestore → ℕ → ℕ
other_blocks F slot = staged_blocks F.staged - blocks_of (length (staged_in F slot))

pub held_blocks : (lists : List (List ℕ)) (slot : ℕ) → slot < length lists → (staged_blocks lists - blocks_of (length (slice_index_or lists slot [])))
    + blocks_of (length (slice_index_or lists slot [])) ≡ staged_blocks lists
held_blocks lists slot held =
    let own = slice_index_or lists slot [] in
    let sum : staged_blocks (slice_set lists slot own) + blocks_of (length own) ≡ staged_blocks lists + blocks_of (length own) =
    sum_by-set (λ (octets : List ℕ). blocks_of (length octets)) lists slot own [] held in
    let empty : staged_blocks (slice_set lists slot []) + blocks_of (length own) ≡ staged_blocks lists + blocks_of 0 =
    sum_by-set (λ (octets : List ℕ). blocks_of (length octets)) lists slot [] [] held in
    let none : blocks_of 0 ≡ 0 = blocks_of-zero in
    omega arith

-- a filestore beside itself
pub beside_itself : (F : Filestore) (slot : ℕ) → slot < length F.staged → IsLonger slot slot (other_blocks F slot) (other_blocks F slot) F F
beside_itself F slot held = record {
  nodes = λ q. longer-itself (node_at F q);
  staged = le_refl (length (staged_in F slot));
  held_F = held;
  held_G = held;
  others_F = sym (held_blocks F.staged slot held);
  others_G = sym (held_blocks F.staged slot held);
}

lower : (p r b m : ℕ) → p + m ≤ r + m → p - b ≤ r - b
lower p r b m h = omega arith

pub longer_file : LongerFile
longer_file prefixes F slot x y items held le =
    let m = other_blocks F slot in
    let H = stage F slot x in
    let K = stage F slot y in
    let longer : IsLonger slot slot m m H K = longer-stages slot slot m m F F x y (beside_itself F slot held) le in (
      statuses-longer prefixes slot slot m m H K items longer,
      lower (peak prefixes H slot items) (peak prefixes K slot items) (blocks F) m (peak-longer prefixes slot slot m m H K items longer),
      steps-longer prefixes slot slot m m H K items longer,
    )
