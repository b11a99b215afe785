-- What only the proofs of the code need of `Leases`.
use Rattle.std.specs.Prelude.{ℕ, refl}
use Rattle.cfdp_status.specs.declared.transaction.TransactionId.{TransactionId}
use Rattle.std.specs.Coded.{Coded, code_by, coded×, coded_list, coded_ℕ}
use Rattle.cfdp_leases.specs.code.Footprint.{footprint_code}
use Rattle.cfdp_leases.specs.Leases.{Grants}

abbrev pub transaction_code : Coded TransactionId
transaction_code =
    code_by (ℕ × ℕ) (coded× coded_ℕ coded_ℕ) (λ id. (id.source, id.number)) (λ p. record { source = p.0; number = p.1 })
    (λ _. refl)

abbrev pub grants_code : Coded Grants
grants_code = coded_list (coded× transaction_code footprint_code)
