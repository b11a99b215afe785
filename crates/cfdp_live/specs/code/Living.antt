-- What only the proofs of the code need of `Living`.
--     with_sent                 more PDUs after those that there are
use Rattle.std.specs.Prelude.{ℕ, List, ◌++◌}
use Rattle.cfdp_live.specs.Living.{Out}

abbrev pub with_sent : Out → List (List ℕ) → Out
with_sent o pdus = record { sent = o.sent ++ pdus; reported = o.reported; ended = o.ended }
