-- Runs of blocks. A run is a chain of blocks, each of which names the next one, its owner (the first block) and its
-- rank, so that no block is in two runs, nor twice in one. A file's octets are in a run, and a staged list's.
--     header_in, next_in              what the header of a live block says;  the block that it names as the next one
--     IsRunPart owner rank entry      the block is live, whole, and the part of this owner's run at this rank
--     IsRun arena owner rank n block  n parts of this owner's run, from this rank on, the first of them being this
--                                     block
--     nth arena block k               the block k steps on
--     run_octets arena n block        the payloads of n blocks, one after the other
--     IsHeld arena run                the run's blocks are there, and its last block is the one that it names
--     octets_of_run                   the octets of all blocks of a run
--     IsOf run entry                  the block names the run's first block as its owner
--     AllStay old new                 each live block holds what it held
--     OtherRunsStay old new run       each live block that is not of the run holds what it held
--     Apart run other                the two have not the same blocks, where both have some
--     Stays old new run              the run is held still, its octets are what they were, and its offsets where they
--                                    were
--     RunsStay old new               each run that was held stays
--     Spares old new before after    each run that was held and had no block of the one before stays, and has no block
--                                    of the one after
--     KeepsFront run at source end    a write to the run from the offset `at` on keeps the first `end` octets of the
--                                     source:
--                                    the source is another run, or it is this one and `end` is no more than `at`
--     IsAt arena run cursor           the cursor's block is the one at its index, which is no more than the run's
--                                     blocks
use Rattle.std.specs.Prelude.{◌≡◌, ◌≢◌, ℕ, suc, zero, ◌-◌, ◌<◌, ◌≤◌, List, [], ◌++◌, length, Option, IsSome, unwrap_or}
use Rattle.cfdp_arena.specs.Arena.{Blocks, octets_at, IsLive}
use Rattle.cfdp_tree.specs.code.Block.{BlockHeader, block_header, payload, kind_octet}
use Rattle.cfdp_tree.specs.declared.header.BlockKind.TheVariants as kind
use Rattle.cfdp_ways.specs.declared.cursor.Cursor.{Cursor}
use Rattle.cfdp_tree.specs.declared.runs.Run.{Run}

abbrev pub octets : Option (List ℕ) → List ℕ
octets entry = unwrap_or entry []

abbrev pub header_in : Option (List ℕ) → BlockHeader
header_in entry = block_header (octets entry)

abbrev pub next_in : Option (List ℕ) → ℕ
next_in entry = (header_in entry).next

pub record IsRunPart (owner rank : ℕ) (entry : Option (List ℕ)) : Type 0 where
  pub live : IsSome entry
  pub whole : length (octets entry) ≡ 128
  pub owner_is : (header_in entry).owner ≡ owner
  pub rank_is : (header_in entry).rank ≡ rank
  pub kind_is : (header_in entry).kind ≡ kind_octet kind.Content

abbrev pub IsRun : Blocks → ℕ → ℕ → ℕ → ℕ → Type 0
IsRun arena owner rank zero block = Unit {0}
IsRun arena owner rank (suc n) block = IsRunPart owner rank (octets_at arena block)
    × IsRun arena owner (suc rank) n (next_in (octets_at arena block))

abbrev pub nth : Blocks → ℕ → ℕ → ℕ
nth arena block zero = block
nth arena block (suc k) = nth arena (next_in (octets_at arena block)) k

abbrev pub run_octets : Blocks → ℕ → ℕ → List ℕ
run_octets arena zero block = []
run_octets arena (suc n) block = payload (octets (octets_at arena block))
    ++ run_octets arena n (next_in (octets_at arena block))

pub record IsHeld (arena : Blocks) (run : Run) : Type 0 where
  pub parts : IsRun arena run.first 0 run.count run.first
  pub last : 0 < run.count → run.last ≡ nth arena run.first (run.count - 1)

abbrev pub octets_of_run : Blocks → Run → List ℕ
octets_of_run arena run = run_octets arena run.count run.first

abbrev pub IsOf : Run → Option (List ℕ) → Type 0
IsOf run entry = (0 < run.count) × ((header_in entry).owner ≡ run.first)

abbrev pub AllStay : Blocks → Blocks → Type 0
AllStay old new = (block : ℕ) → IsLive old block → octets_at new block ≡ octets_at old block

abbrev pub OtherRunsStay : Blocks → Blocks → Run → Type 0
OtherRunsStay old new run = (block : ℕ) → IsLive old block → (IsOf run (octets_at old block) → ⊥) → octets_at new block
    ≡ octets_at old block

abbrev pub Apart : Run → Run → Type 0
Apart run other = 0 < run.count → 0 < other.count → other.first ≢ run.first

pub record Stays (old new : Blocks) (run : Run) : Type 0 where
  pub held : IsHeld new run
  pub octets : octets_of_run new run ≡ octets_of_run old run
  pub sequence : (k : ℕ) → k ≤ run.count → nth new run.first k ≡ nth old run.first k

abbrev pub RunsStay : Blocks → Blocks → Type 0
RunsStay old new = (run : Run) → IsHeld old run → Stays old new run

abbrev pub Spares : Blocks → Blocks → Run → Run → Type 0
Spares old new before after = (other : Run) → IsHeld old other → Apart before other → Stays old new other
    × Apart after other

abbrev pub IsAt : Blocks → Run → Cursor → Type 0
IsAt arena run cursor = (cursor.index ≤ run.count) × (cursor.block ≡ nth arena run.first cursor.index)

abbrev pub KeepsFront : Run → ℕ → Run → ℕ → Type 0
KeepsFront run at source end = run.first ≡ source.first → (source ≡ run) × (end ≤ at)
