-- The blocks of a filestore, and what each of 64 slots has reserved of the free ones. CCSDS 727.0-B-5 leaves
-- the room of a filestore to the implementation; reserving it ahead of a request list is this project's own.
--     Budget                    the capacity, the free blocks, and each slot's reserve (None where it is closed)
--     untouched capacity        all blocks are free, and no slot is open
--     unreserved capacity free  `free` of the blocks are free, and no slot is open
--     used b                    the blocks that are not free
--     reserve_at b slot         the slot's reserve, 0 where it is closed
--     reserved b, spare b       all reserves together;  the free blocks that nobody has reserved
--     IsOpen b slot             the slot has a reserve, which may be 0
--     IsBalanced b              64 slots, whose reserves are within the free blocks, and these within the capacity
--     reserving, taking, giving, closing      the budget after each of the four changes
use Rattle.std.specs.Prelude.{◌≡◌, ℕ, ◌+◌, ◌-◌, ◌≤◌, IsSome, length, List, Option, Some, None, unwrap_or, sum_by, slice_index_or, slice_set, replicate}

pub record Budget : Type 0 where
  pub capacity : ℕ
  pub free : ℕ
  pub reserves : List (Option ℕ)

abbrev pub untouched : ℕ → Budget
untouched capacity = record { capacity = capacity; free = capacity; reserves = replicate 64 None }

abbrev pub unreserved : (capacity free : ℕ) → Budget
unreserved capacity free = record { capacity = capacity; free = free; reserves = replicate 64 None }

abbrev pub used : Budget → ℕ
used b = b.capacity - b.free

-- what a slot has reserved: nothing where it is closed
abbrev pub reserve_of : Option ℕ → ℕ
reserve_of r = unwrap_or r 0

abbrev pub entry_at : Budget → ℕ → Option ℕ
entry_at b slot = slice_index_or b.reserves slot None

abbrev pub reserve_at : Budget → ℕ → ℕ
reserve_at b slot = reserve_of (entry_at b slot)

abbrev pub IsOpen : Budget → ℕ → Type 0
IsOpen b slot = IsSome (entry_at b slot)

abbrev pub reserved : Budget → ℕ
reserved b = sum_by reserve_of b.reserves

abbrev pub spare : Budget → ℕ
spare b = b.free - reserved b

-- what is true of every quota
pub record IsBalanced (b : Budget) : Type 0 where
  pub slots : length b.reserves ≡ 64
  pub within : b.free ≤ b.capacity
  pub covered : reserved b ≤ b.free

-- the slot is open, with n blocks of the spare ones
abbrev pub reserving : Budget → ℕ → ℕ → Budget
reserving b slot n = record b { reserves = slice_set b.reserves slot (Some n) }

-- a reserve that has n blocks less
abbrev pub less : Option ℕ → ℕ → Option ℕ
less None n = None
less (Some r) n = Some (r - n)

-- n blocks of the slot's reserve are in use
abbrev pub taking : Budget → ℕ → ℕ → Budget
taking b slot n = record b { free = b.free - n; reserves = slice_set b.reserves slot (less (entry_at b slot) n) }

-- n blocks are free again, and stay with the slot
abbrev pub giving : Budget → ℕ → ℕ → Budget
giving b slot n = record b { free = b.free + n; reserves = slice_set b.reserves slot (Some (reserve_at b slot + n)) }

-- the slot has nothing any more: what it had is spare
abbrev pub closing : Budget → ℕ → Budget
closing b slot = record b { reserves = slice_set b.reserves slot None }
