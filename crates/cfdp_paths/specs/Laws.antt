-- What holds of all octets and of all paths. A path in a law is any list of names, within the limits or not,
-- except where the law says otherwise.
--     SpellsOnePath          octets spell at most one path
--     PathOfAgrees           `path_of` is that path
--     FaultOrPath            octets have a fault exactly where they spell no path
--     IsReflexive, IsTransitive, IsAntisymmetric, PrefixesAreComparable      of at or below
--     AncestorsAreAbove      the ancestors are what a path is strictly below, the root apart
--     ParentIsAbove          a path is strictly below its parent, and whatever it is strictly below is at or above that
--     ComesFirst             a path is before all that is strictly below it
--     RebasedKeepsRest       p/r, rebased from p to q, is q/r
use Rattle.std.specs.Prelude.{◌≡◌, ◌≢◌, ℕ, ◌≤◌, ◌⊎◌, ◌↔◌, IsTrue, List, [], ◌++◌, Some, None, length, Contains}
use Rattle.std.specs.declared.cmp.Ordering.TheVariants.{Less}
use Rattle.cfdp_paths.specs.Faults.{fault_of}
use Rattle.cfdp_paths.specs.Paths.{Path, Spells, path_of, path_cmp, is_at_or_below, is_below, parent, ancestors, rebased}

-- octets spell at most one path
abbrev pub SpellsOnePath : Type 0
SpellsOnePath = (octets : List ℕ) (p q : Path) → Spells octets p → Spells octets q → p ≡ q

-- `path_of` is the path that the octets spell
abbrev pub PathOfAgrees : Type 0
PathOfAgrees = (octets : List ℕ) (p : Path) → (path_of octets ≡ Some p) ↔ Spells octets p

-- octets have a fault exactly where they spell no path
abbrev pub FaultOrPath : Type 0
FaultOrPath = (octets : List ℕ) → (fault_of octets ≢ None) ↔ (path_of octets ≡ None)

-- each path is at or below itself
abbrev pub IsReflexive : Type 0
IsReflexive = (p : Path) → IsTrue (is_at_or_below p p)

abbrev pub IsTransitive : Type 0
IsTransitive = (p q r : Path) → IsTrue (is_at_or_below p q) → IsTrue (is_at_or_below q r) → IsTrue (is_at_or_below p r)

abbrev pub IsAntisymmetric : Type 0
IsAntisymmetric = (p q : Path) → IsTrue (is_at_or_below p q) → IsTrue (is_at_or_below q p) → p ≡ q

-- of two prefixes of one path one is a prefix of the other
abbrev pub PrefixesAreComparable : Type 0
PrefixesAreComparable =
    (p q r : Path) → IsTrue (is_at_or_below p q) → IsTrue (is_at_or_below p r) → IsTrue (is_at_or_below q r)
    ⊎ IsTrue (is_at_or_below r q)

-- a path is strictly below each of its ancestors, and whatever it is strictly below, the root apart, is one
abbrev pub AncestorsAreAbove : Type 0
AncestorsAreAbove = (p q : Path) → Contains (ancestors p) q ↔ (IsTrue (is_below p q) × (q ≢ []))

-- a path is strictly below its parent, and what it is strictly below is at or above the parent
abbrev pub ParentIsAbove : Type 0
ParentIsAbove = (p : Path) → 1 ≤ length p → IsTrue (is_below p (parent p))
    × ((q : Path) → IsTrue (is_below p q) → IsTrue (is_at_or_below (parent p) q))

-- a path is before all that is strictly below it
abbrev pub ComesFirst : Type 0
ComesFirst = (p q : Path) → IsTrue (is_below p q) → path_cmp q p ≡ Less

-- p/r, rebased from p to q, is q/r
abbrev pub RebasedKeepsRest : Type 0
RebasedKeepsRest = (p q r : Path) → rebased p q (p ++ r) ≡ q ++ r
