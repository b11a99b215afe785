-- Who holds each leased path.
--     when b holder             the holder where b is true, and nobody otherwise
--     holders_of id fp p        the holders of a path by a transaction's footprint: as an exclusive one, as a shared
--                               one, or both
--     holders_at grants p       those by all grants, in order of admission
--     others id holders         those of other transactions
--     holders_in held_path      the holders that a record of the map has
--     own_holders held_path p   the holders that a record has, where it is the path's
--     under_hash paths p        those that the record under the path's hash has, where it is the path's;  IsOtherPath
--                               paths p: it is not
--     holders_by_path paths p   the holders of a path: of its own record, else by the map of the other paths
--     HasHash hash held_path    the record's path, if there is a record, has this hash
--     Holds paths holders       the two maps have exactly these holders: each path's, and no record more
--     AreFree at holders        nobody holds a path of the test;  AreOwn id at holders: nobody but the transaction does
--     HoldsSome id at holders paths      these holders, and of the transaction whichever, where `at` is true
use Rattle.std.specs.Prelude.{◌≡◌, ℕ, Bool, true, false, not, if◌then◌else◌, List, [], ◌∷◌, ◌++◌, Option, Some, None, filter, flat_map, IsSome}
use Rattle.std.specs.Option.{option_map, option_or}
use Rattle.std.specs.Ordering.{nat_cmp}
use Rattle.std.specs.FinSet as set
use Rattle.std.specs.BTreeMap.{get}
use Rattle.cfdp_status.specs.declared.transaction.TransactionId.{TransactionId}
use Rattle.cfdp_paths.specs.Hashes.{hash_of}
use Rattle.cfdp_paths.specs.Paths.{Path, path_cmp, same_path}
use Rattle.cfdp_leases.specs.declared.lease.Lease.TheVariants.{Exclusive, Shared}
use Rattle.cfdp_leases.specs.declared.leased_paths.Holder.{Holder}
use Rattle.cfdp_leases.specs.declared.leased_paths.Holders.{Holders}
use Rattle.cfdp_leases.specs.declared.leased_paths.Holders.TheVariants.{One, Many}
use Rattle.cfdp_leases.specs.declared.leased_paths.LeasedPaths.{LeasedPaths}
use Rattle.cfdp_leases.specs.declared.leased_paths.LeasedPath.{LeasedPath}
use Rattle.cfdp_leases.specs.Footprint.{Footprint}
use Rattle.cfdp_leases.specs.Leases.{Grants, is_same}

abbrev pub when : Bool → Holder → List Holder
when b holder = if b then holder ∷ [] else []

abbrev pub holders_of : TransactionId → Footprint → Path → List Holder
holders_of id fp p =
    when (set.contains fp.exclusive p) (record { transaction = id; lease = Exclusive })
    ++ when (set.contains fp.shared p) (record { transaction = id; lease = Shared })

abbrev pub holders_at : Grants → Path → List Holder
holders_at grants p = flat_map (λ g. holders_of g.0 g.1 p) grants

abbrev pub others : TransactionId → List Holder → List Holder
others id holders = filter (λ h. not (is_same h.transaction id)) holders

abbrev pub unless_none : List Holder → Option (List Holder)
unless_none [] = None
unless_none (h ∷ holders) = Some (h ∷ holders)

-- the holders that a record of the map has
abbrev pub holders_in : Holders → List Holder
holders_in (One holder) = holder ∷ []
holders_in (Many holders) = holders.items

abbrev pub own_holders : Option LeasedPath → Path → Option Holders
own_holders None p = None
own_holders (Some held_path) p = if same_path held_path.path p then Some held_path.holders else None

abbrev pub under_hash : LeasedPaths → Path → Option Holders
under_hash paths p = own_holders (get nat_cmp paths.by_hash (hash_of p)) p

-- the path is not the one under its hash
abbrev pub IsOtherPath : LeasedPaths → Path → Type 0
IsOtherPath paths p = under_hash paths p ≡ None

-- the record of a path, wherever it is
abbrev pub holders_by_path : LeasedPaths → Path → Option Holders
holders_by_path paths p = option_or (under_hash paths p) (get path_cmp paths.others p)

-- a record under a hash has a path of that hash
abbrev pub HasHash : ℕ → Option LeasedPath → Type 0
HasHash hash None = Unit {0}
HasHash hash (Some held_path) = hash_of held_path.path ≡ hash

-- Each path has the holders that the function says, and no record if it says none. No path is both under its hash and
-- among the others. Each record is under the hash of its path, so the first clause speaks of every record.
pub record Holds (paths : LeasedPaths) (holders : Path → List Holder) : Type 0 where
  pub by_hash : (p : Path) → option_map holders_in (holders_by_path paths p) ≡ unless_none (holders p)
  pub once : (p : Path) → IsSome (under_hash paths p) → get path_cmp paths.others p ≡ None
  pub hashes : (hash : ℕ) → HasHash hash (get nat_cmp paths.by_hash hash)

-- nobody holds a path at which the test is true
abbrev pub AreFree : (Path → Bool) → (Path → List Holder) → Type 0
AreFree at holders = (p : Path) → at p ≡ true → holders p ≡ []

-- nobody but the transaction does
abbrev pub AreOwn : TransactionId → (Path → Bool) → (Path → List Holder) → Type 0
AreOwn id at holders = (p : Path) → at p ≡ true → others id (holders p) ≡ []

-- the same but for holders of one transaction, which may be there at the paths of the test
pub record HoldsSome (id : TransactionId) (at : Path → Bool) (holders : Path → List Holder)
    (paths : LeasedPaths) : Type 0 where
  pub now : Path → List Holder
  pub by_hash : Holds paths now
  pub kept : (p : Path) → others id (now p) ≡ others id (holders p)
  pub elsewhere : (p : Path) → at p ≡ false → now p ≡ holders p
