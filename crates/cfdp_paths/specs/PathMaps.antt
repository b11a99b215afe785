-- Maps by path, as lists of entries in path order.
--     IsOrdered es          the paths strictly rise
--     without p es          the entries but for that of p
--     tree_in, rest_in p es the entries at and below p;  the others
--     any_below p es        whether a path is strictly below p
--     puts es more          more entries, each put at its index
--     moved_to p q es       the entries at q/r instead of p/r
--     is_too_deep p q es    whether one of them would have more than 8 names there
use Rattle.std.specs.Prelude.{Bool, not, nat_lt, IsTrue, List, [], ◌∷◌, map, length}
use Rattle.std.specs.FinMap.{put, is_sorted}
use Rattle.std.specs.FinMap.Entries.{where_key}
use Rattle.std.specs.List.{list_any}
use Rattle.cfdp_paths.specs.Paths.{Path, path_cmp, same_path, is_at_or_below, is_below, rebased}

abbrev pub IsOrdered : {X : Type 0} → List (Path × X) → Type 0
IsOrdered es = IsTrue (is_sorted path_cmp es)

abbrev pub without : {X : Type 0} → Path → List (Path × X) → List (Path × X)
without p es = where_key path_cmp (λ q. not (same_path p q)) es

abbrev pub tree_in : {X : Type 0} → Path → List (Path × X) → List (Path × X)
tree_in p es = where_key path_cmp (λ q. is_at_or_below q p) es

abbrev pub rest_in : {X : Type 0} → Path → List (Path × X) → List (Path × X)
rest_in p es = where_key path_cmp (λ q. not (is_at_or_below q p)) es

abbrev pub any_below : {X : Type 0} → Path → List (Path × X) → Bool
any_below p es = list_any (λ e. is_below e.0 p) es

-- each put at its index, in turn
abbrev pub puts : {X : Type 0} → List (Path × X) → List (Path × X) → List (Path × X)
puts es [] = es
puts es (e ∷ more) = puts (put path_cmp e.0 e.1 es) more

abbrev pub moved_to : {X : Type 0} → Path → Path → List (Path × X) → List (Path × X)
moved_to {X} p q es = map {B = Path × X} (λ e. (rebased p q e.0, e.1)) es

-- with p/r at q/r
abbrev pub is_too_deep : {X : Type 0} → Path → Path → List (Path × X) → Bool
is_too_deep p q es = list_any (λ e. nat_lt 8 (length (rebased p q e.0))) es
