use Rattle.std.proofs.Common.{rules, ℕ, ◌≤◌, length, take, List, Ok, Err, Result}
use Rattle.std.specs.Prelude.{IfOk, IfErr, IsTrue, insert}
use Rattle.std.specs.List.{list_any}
use Rattle.std.specs.List.Sorted.{IsStrictlySortedBy, IsSearchInRange, IsBinarySearchResult}
use Rattle.std.proofs.lemmas.Fn.{always_returns_same}
use Rattle.cfdp_paths.specs.Paths.{Path, path_cmp, same_path}
use Rattle.cfdp_leases.proofs.Ordered.{searchable, found_there, sorted-insert}
use Rattle.cfdp_leases.proofs.gathering.find_beginning.Goals as goal

-- what the search found, in either case
found : (xs : List Path) (t : Path) (r : Result ℕ ℕ) → IsSearchInRange r (length xs) → IsBinarySearchResult (λ y. path_cmp y t) xs r →
    IfOk r (λ _. IsTrue (list_any (same_path t) xs))
found xs t (Ok k) within at = found_there xs t k within at
found xs t (Err i) within at = tt

index : (xs : List Path) (r : Result ℕ ℕ) → IsSearchInRange r (length xs) → IfErr r (λ i. i ≤ length xs)
index xs (Ok k) within = tt
index xs (Err i) within = within

gap : (xs : List Path) (t : Path) (r : Result ℕ ℕ) → IsStrictlySortedBy path_cmp xs → IsSearchInRange r (length xs) →
    IsBinarySearchResult (λ y. path_cmp y t) xs r → IfErr r (λ i. IsStrictlySortedBy path_cmp (insert xs i t))
gap xs t (Ok k) sorted within at = tt
gap xs t (Err i) sorted within at = let parts = at (searchable xs t sorted) in sorted-insert xs t i sorted within parts.0 parts.1

pub returns : goal.returns
returns c =
    let facts = c.binary_search_by.ensures in
    let at = facts.position (λ y. path_cmp y (take c.args.depth c.args.path.now)) (always_returns_same _ _ _ (λ a r g called. (search rules, search rules))) in
    record {
      found = found c.args.paths.now (take c.args.depth c.args.path.now) c.binary_search_by.result facts.bound at;
      index = index c.args.paths.now c.binary_search_by.result facts.bound;
      gap = gap c.args.paths.now (take c.args.depth c.args.path.now) c.binary_search_by.result c.requires.ordered facts.bound at;
    }
