-- What the program keeps of the receiving entity beside the store: its configuration, the table, and what follows from
-- the table, the leases and the budget of blocks.
--     IsAnswered reply          any reply but Memory
use Rattle.std.specs.Prelude.{⊤}
use Rattle.cfdp_transactions.specs.Events.{Reply}

abbrev pub IsAnswered : Reply → Type 0
IsAnswered Reply.Memory = ⊥
IsAnswered reply = ⊤
