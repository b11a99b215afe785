-- The names of transactions (CCSDS 727.0-B-5 §5.1), how they are printed.
--   transaction_name  the source entity ID, a slash, and the transaction sequence number, in decimal
use Rattle.std.specs.Prelude.{ℕ, List, ◌∷◌, ◌++◌, decimal}
use Rattle.cfdp_status.specs.declared.transaction.TransactionId.{TransactionId}

abbrev pub transaction_name : TransactionId → List ℕ
transaction_name id = decimal id.source ++ 47 ∷ decimal id.number
