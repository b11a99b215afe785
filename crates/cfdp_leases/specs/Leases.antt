-- The footprints of the live transactions, in order of admission: a list of grants.
--     Grants                      each transaction with its footprint
--     is_same a b                 the same source entity and sequence number (CCSDS 727.0-B-5 §5.1)
--     first_conflict grants fp    the first transaction whose footprint conflicts
--     holds grants id             the transaction has a footprint
--     without_grant grants id     the grants of the others
--     AreApart grants             no transaction has two, and no two of them conflict
use Rattle.std.specs.Prelude.{Bool, not, ◌&&◌, ◌==◌, IsFalse, List, [], ◌∷◌, Option, find, filter}
use Rattle.std.specs.Option.{option_map}
use Rattle.std.specs.List.{list_any, AllByRecursion}
use Rattle.cfdp_status.specs.declared.transaction.TransactionId.{TransactionId}
use Rattle.cfdp_leases.specs.Footprint.{Footprint, is_conflict}

abbrev pub Grants : Type 0
Grants = List (TransactionId × Footprint)

abbrev pub is_same : TransactionId → TransactionId → Bool
is_same a b = (a.source == b.source) && (a.number == b.number)

abbrev pub first_conflict : Grants → Footprint → Option TransactionId
first_conflict grants fp = option_map (λ g. g.0) (find (λ g. is_conflict g.1 fp) grants)

abbrev pub holds : Grants → TransactionId → Bool
holds grants id = list_any (λ g. is_same g.0 id) grants

abbrev pub without_grant : Grants → TransactionId → Grants
without_grant grants id = filter (λ g. not (is_same g.0 id)) grants

-- the grant conflicts with none of these, and none of these is the same transaction's
pub record IsApartFrom (g : TransactionId × Footprint) (grants : Grants) : Type 0 where
  pub names : IsFalse (holds grants g.0)
  pub paths : AllByRecursion (λ h. IsFalse (is_conflict g.1 h.1)) grants

abbrev pub AreApart : Grants → Type 0
AreApart [] = Unit {0}
AreApart (g ∷ grants) = IsApartFrom g grants × AreApart grants
