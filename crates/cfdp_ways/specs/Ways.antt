-- The way back in lists of blocks that grow at their end. Beside each block there is its way: the block before it in
-- its list, and a block further back, to which a search may jump, with how many blocks back it is. A list is given by
-- its blocks: `blocks 0` is the first one, `blocks 1` the second one, and so on.
--     no_way                        the way of a block that is in no list
--     way_of ways block             the way of a block
--     LeadsBack ways blocks k       the way of the block at the index k names the block before it, if there is one, and
--                                   the block at an index less than k, by how much it is less; the first block's way
--                                   names that block itself
--     IsLed ways blocks n           each of the first n blocks of the list has a way that leads back
--     IsOn ways cursor              the cursor is at a block of some list, up to which each block has such a way
use Rattle.std.specs.Prelude.{◌≡◌, ℕ, ◌+◌, ◌-◌, ◌<◌, ◌≤◌, List, length, slice_index_or}
use Rattle.cfdp_ways.specs.declared.way.Way.{Way}
use Rattle.cfdp_ways.specs.declared.cursor.Cursor.{Cursor}

abbrev pub no_way : Way
no_way = record { before = 0; jump = 0; over = 0 }

abbrev pub way_of : List Way → ℕ → Way
way_of ways block = slice_index_or ways block no_way

pub record LeadsBack (ways : List Way) (blocks : ℕ → ℕ) (k : ℕ) : Type 0 where
  pub before : 0 < k → (way_of ways (blocks k)).before ≡ blocks (k - 1)
  pub jump : (way_of ways (blocks k)).jump ≡ blocks (k - (way_of ways (blocks k)).over)
  pub some : 0 < k → 0 < (way_of ways (blocks k)).over
  pub over : (way_of ways (blocks k)).over ≤ k

pub record IsLed (ways : List Way) (blocks : ℕ → ℕ) (n : ℕ) : Type 0 where
  pub within : (k : ℕ) → k < n → blocks k < length ways
  pub each : (k : ℕ) → k < n → LeadsBack ways blocks k

pub record IsOn (ways : List Way) (cursor : Cursor) : Type 0 where
  pub blocks : ℕ → ℕ
  pub led : IsLed ways blocks (cursor.index + 1)
  pub there : cursor.block ≡ blocks cursor.index
