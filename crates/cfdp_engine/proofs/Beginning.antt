-- An empty journal is that of a core that has just begun.
use Rattle.std.proofs.Common.{◌≡◌, ℕ, ◌≤◌, [], refl, sym, arith}
use Rattle.cfdp_transactions.specs.World.{start}
use Rattle.cfdp_transactions.specs.CoreFields.{CoreFields}
use Rattle.cfdp_engine.specs.code.Journal.{IsWholeJournal}

pub whole_start : (capacity : ℕ) (E : CoreFields) → E.world ≡ start E.world.config → E.world.config.journal ≤ capacity →
    IsWholeJournal capacity (record { core = E; journal = [] })
whole_start capacity E begun room = record {
  history = record { replies = refl; world = sym begun };
  within = omega arith;
  room = room;
}
