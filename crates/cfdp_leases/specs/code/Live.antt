-- What `Leases` has: the list of the live transactions in order of admission, a slab with exactly their footprints, and
-- two maps with exactly the paths of these footprints.
--     footprint_at footprints key      the footprint under a key, or an empty one if the key has none
--     grants_of footprints live        each live transaction with its footprint
--     HaveFootprints footprints live   each live transaction has a footprint, under a key of its own
--     HasNoOthers footprints live      each key of the slab is a live transaction's
--     AreKept footprints live paths    the slab has the footprints of the live transactions and no others, no two of
--                                      them conflict, and the maps have their paths, holders and kinds and nothing else
use Rattle.std.specs.Prelude.{◌≢◌, ◌==◌, ℕ, IsSome, IsTrue, List, [], ◌∷◌, map, unwrap_or}
use Rattle.std.specs.List.{AllByRecursion, list_any}
use Rattle.slab.specs.Slab.{Slab, get}
use Rattle.cfdp_leases.specs.declared.leases.LiveGrant.{LiveGrant}
use Rattle.cfdp_leases.specs.declared.leased_paths.LeasedPaths.{LeasedPaths}
use Rattle.cfdp_leases.specs.Footprint.{Footprint}
use Rattle.cfdp_leases.specs.code.Footprint.{of_lists, HasAncestors}
use Rattle.cfdp_leases.specs.Leases.{Grants, AreApart}
use Rattle.cfdp_leases.specs.code.Holders.{Holds, holders_at}

abbrev pub footprint_at : Slab Footprint → ℕ → Footprint
footprint_at footprints key = unwrap_or (get footprints key) (of_lists [] [])

abbrev pub grants_of : Slab Footprint → List LiveGrant → Grants
grants_of footprints live = map (λ l. (l.transaction, footprint_at footprints l.key)) live

-- each has a footprint, under a key of its own
abbrev pub HaveFootprints : Slab Footprint → List LiveGrant → Type 0
HaveFootprints footprints [] = Unit {0}
HaveFootprints footprints (l ∷ live) = IsSome (get footprints l.key) × AllByRecursion (λ m. m.key ≢ l.key) live
    × HaveFootprints footprints live

-- each key of the slab is a live transaction's
abbrev pub HasNoOthers : Slab Footprint → List LiveGrant → Type 0
HasNoOthers footprints live = (key : ℕ) → IsSome (get footprints key) → IsTrue (list_any (λ l. l.key == key) live)

pub record AreKept (footprints : Slab Footprint) (live : List LiveGrant) (paths : LeasedPaths) : Type 0 where
  pub kept : HaveFootprints footprints live
  pub no_others : HasNoOthers footprints live
  pub rooted : AllByRecursion (λ g. HasAncestors g.1) (grants_of footprints live)
  pub apart : AreApart (grants_of footprints live)
  pub are_held : Holds paths (holders_at (grants_of footprints live))
