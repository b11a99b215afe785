-- What only the proofs of the code need of `Journal`.
--     IsWholeJournal            what is true of a journal, by the room that it has, at all times
use Rattle.std.specs.Prelude.{ℕ, ◌≤◌, length}
use Rattle.cfdp_engine.specs.Journal.{IsHistory, Recorded}

pub record IsWholeJournal (capacity : ℕ) (j : Recorded) : Type 0 where
  pub history : IsHistory j.journal j.core.world
  pub within : length j.journal ≤ j.core.world.config.journal
  pub room : j.core.world.config.journal ≤ capacity
