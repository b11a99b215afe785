-- Paths of the filestore, as lists of names, and what it is to spell one. The standard carries file names as octets
-- (CCSDS 727.0-B-5 §5.4, filestore procedures) and leaves their form to the filestore: this is the form here.
--     Name, Path                          a list of octets, a list of names
--     names_of octets                     the names that a buffer holds, with the octet 0 between them
--     IsName, IsPath, is_name, is_path    within the limits, as a fact and as a test
--     path_cmp, same_name, same_path      the order by names, names by octets;
--                                         whether two names, or two paths, are one
--     is_at_or_below p q, is_below p q    q is a prefix of p;  and is not p
--     parent, unless_root                 the path without its last name;  a path, and none for the root
--     ancestors                           the proper ones, the root apart, shortest first
--     joined p, Spells octets p           the names with `/` between them;  with or without one more before them
--     names_in octets, path_of octets     the names between the `/`, one at the start apart;  the path that octets
--                                         spell, if any
--     rebased p q x                       what q/r is, where x is p/r
use Rattle.std.specs.Prelude.{◌≡◌, ◌≢◌, ℕ, ◌≤◌, nat_le, ◌==◌, Bool, true, false, ◌&&◌, not, if◌then◌else◌, List, [], ◌∷◌, ◌++◌, ◌⊎◌, map, length, drop, All, Option, Some, None}
use Rattle.std.specs.List.{list_all, slice_split, join_with_byte}
use Rattle.std.specs.Cmp.Lexicographic.{slice_cmp}
use Rattle.std.specs.Ordering.{eq_by_cmp, nat_cmp}
use Rattle.std.specs.declared.cmp.Ordering.{Ordering}

abbrev pub Name : Type 0
Name = List ℕ

abbrev pub Path : Type 0
Path = List Name

-- no name holds the octet 0: in a buffer it is between the names
abbrev pub is_separator : ℕ → Bool
is_separator octet = octet == 0

-- the names that a buffer holds
abbrev pub names_of : List ℕ → Path
names_of octets = slice_split is_separator octets

-- the octets `/` and `.`
abbrev pub slash : ℕ
slash = 47

abbrev pub dot : ℕ
dot = 46

-- 1 to 96 octets, no `/`, no 0, not `.`, not `..`
pub record IsName (name : Name) : Type 0 where
  pub some : 1 ≤ length name
  pub short : length name ≤ 96
  pub octets : All (λ octet. (octet ≢ slash) × (octet ≢ 0)) name
  pub not_dot : name ≢ dot ∷ []
  pub not_dots : name ≢ dot ∷ dot ∷ []

-- 1 to 8 names
pub record IsPath (p : Path) : Type 0 where
  pub some : 1 ≤ length p
  pub few : length p ≤ 8
  pub names : All IsName p

abbrev pub path_cmp : Path → Path → Ordering
path_cmp = slice_cmp (slice_cmp nat_cmp)

abbrev pub same_name : Name → Name → Bool
same_name = eq_by_cmp (slice_cmp nat_cmp)

abbrev pub same_path : Path → Path → Bool
same_path = eq_by_cmp path_cmp

-- the second is a prefix of the first
abbrev pub is_at_or_below : Path → Path → Bool
is_at_or_below p [] = true
is_at_or_below [] (n ∷ q) = false
is_at_or_below (m ∷ p) (n ∷ q) = same_name m n && is_at_or_below p q

abbrev pub is_below : Path → Path → Bool
is_below p q = is_at_or_below p q && not (same_path p q)

-- without its last name: the root, [], where it has one
abbrev pub parent : Path → Path
parent [] = []
parent (n ∷ []) = []
parent (n ∷ m ∷ p) = n ∷ parent (m ∷ p)

-- the path itself, and none for the root
abbrev pub unless_root : Path → Option Path
unless_root [] = None
unless_root (n ∷ p) = Some (n ∷ p)

-- the proper ancestors, the root apart, shortest first
abbrev pub ancestors : Path → List Path
ancestors [] = []
ancestors (n ∷ []) = []
ancestors (n ∷ m ∷ p) = (n ∷ []) ∷ map (λ q. n ∷ q) (ancestors (m ∷ p))

-- the names with `/` between them
abbrev pub joined : Path → List ℕ
joined = join_with_byte slash

abbrev pub Spells : List ℕ → Path → Type 0
Spells octets p = IsPath p × ((octets ≡ joined p) ⊎ (octets ≡ slash ∷ joined p))

abbrev pub is_slash : ℕ → Bool
is_slash octet = octet == slash

-- the octets without one `/` at the start
abbrev pub without_slash : List ℕ → List ℕ
without_slash [] = []
without_slash (octet ∷ octets) = if is_slash octet then octets else octet ∷ octets

-- the names between the `/`, within the limits or not
abbrev pub names_in : List ℕ → List Name
names_in octets = slice_split is_slash (without_slash octets)

abbrev pub is_name : Name → Bool
is_name name =
    nat_le 1 (length name) && nat_le (length name) 96 && list_all (λ octet. not (is_slash octet)
    && not (octet == 0)) name
    && not (same_name name (dot ∷ [])) && not (same_name name (dot ∷ dot ∷ []))

abbrev pub is_path : Path → Bool
is_path p = nat_le 1 (length p) && nat_le (length p) 8 && list_all is_name p

-- the path that the octets spell, if any
abbrev pub path_of : List ℕ → Option Path
path_of octets = if is_path (names_in octets) then Some (names_in octets) else None

-- what q/r is, where x is p/r
abbrev pub rebased : Path → Path → Path → Path
rebased p q x = q ++ drop (length p) x
