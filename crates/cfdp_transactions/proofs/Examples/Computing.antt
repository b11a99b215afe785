-- Look-ups in filestores and footprints, as they compute on lists: what worked examples are rewritten by.
--     Listed, nodes_of es       what exists, as a list in path order, and the finite map of it
--     none_of, node_of, entries_of, len_of      the empty map;  what is at a path;  the list back, and how long it is
--     with_of, without_of, where_of     the map after something was put at a path, or taken from it; those that pass a test
--     any_in_none, any_in_with                  whether a path of a set passes a test
--     look_ups, conflicts       these
use Rattle.std.proofs.Common.{◌≡◌, List, [], ◌∷◌, length, Bool, true, false, not, ◌||◌, None, ap, sym, ◌∙◌}
use Rattle.std.specs.FinMap as finite
use Rattle.std.specs.FinMap.{find, put, is_sorted}
use Rattle.std.specs.FinMap.Entries.{where_key}
use Rattle.std.specs.FinSet as set
use Rattle.std.specs.Ordering.{eq_by_cmp}
use Rattle.std.proofs.lemmas.Float.{T_from_true}
use Rattle.cfdp_status.proofs.Choices.{turned}
use Rattle.cfdp_paths.specs.Paths.{Path, path_cmp}
use Rattle.cfdp_actions.specs.Filestore.{Node}
use Rattle.cfdp_actions.proofs.StoreLaws.{insert_is, retain_is, alike}
use Rattle.cfdp_leases.specs.Footprint.{PathSet, any_in}
use Rattle.cfdp_leases.proofs.Sets.{any_in-from_list, any_in-union}
use Rattle.cfdp_transactions.proofs.Beginnings.Starting.{no_entries}
use Rattle.cfdp_paths.proofs.InOrder.{path_antisym}
use Rattle.cfdp_paths.proofs.Comparing.{path_cmp-total}

-- what exists ---------------------------------------------------------------------------

abbrev pub Listed : Type 0
Listed = List (Path × Node)

abbrev pub nodes_of : Listed → finite.FinMap path_cmp Node
nodes_of es = finite.from_sorted es

pub none_of : finite.empty ≡ nodes_of []
none_of = finite.same_entries_map _ _ (no_entries ∙ sym (finite.entries-from_sorted path_cmp [] tt))

pub node_of : (es : Listed) (p : Path) → is_sorted path_cmp es ≡ true → finite.get (nodes_of es) p ≡ find path_cmp p es
node_of es p s = finite.get-from_sorted path_cmp es p (T_from_true _ s)

pub entries_of : (es : Listed) → is_sorted path_cmp es ≡ true → finite.entries (nodes_of es) ≡ es
entries_of es s = finite.entries-from_sorted path_cmp es (T_from_true _ s)

pub len_of : (es : Listed) → is_sorted path_cmp es ≡ true → finite.len (nodes_of es) ≡ length es
len_of es s = finite.len-entries (nodes_of es) ∙ ap length (entries_of es s)

pub with_of : (es : Listed) (p : Path) (node : Node) → is_sorted path_cmp es ≡ true → finite.insert (nodes_of es) p node ≡ nodes_of (put path_cmp p node es)
with_of es p node s = insert_is es p node s

pub where_of : (es : Listed) (test : Path → Bool) → is_sorted path_cmp es ≡ true → finite.retain_keys (nodes_of es) test ≡ nodes_of (where_key path_cmp test es)
where_of es test s = retain_is es test s

pub without_of : (es : Listed) (p : Path) → is_sorted path_cmp es ≡ true → finite.remove (nodes_of es) p
    ≡ nodes_of (where_key path_cmp (λ q. not (eq_by_cmp path_cmp q p)) es)
without_of es p s =
    finite.same_map path_cmp-total path_antisym _ _
    (λ q. finite.get-remove path_cmp-total (nodes_of es) p q ∙ sym (turned (eq_by_cmp path_cmp q p) (finite.get (nodes_of es) q) None)
    ∙ sym (finite.get-retain_keys (nodes_of es) (λ x. not (eq_by_cmp path_cmp x p)) q (alike (λ x. not (eq_by_cmp path_cmp x p)) q)))
    ∙ where_of es (λ q. not (eq_by_cmp path_cmp q p)) s

-- what is leased ------------------------------------------------------------------------

pub any_in_none : (test : Path → Bool) → any_in set.empty test ≡ false
any_in_none test = any_in-from_list test []

of_items : (s : PathSet) → s ≡ set.from_list (set.items s)
of_items s = set.same_set path_cmp-total path_antisym s (set.from_list (set.items s)) (λ q. set.contains-items s q
    ∙ sym (set.contains-from_list path_cmp-total (set.items s) q))

pub any_in_with : (s : PathSet) (p : Path) (test : Path → Bool) → any_in (set.insert s p) test ≡ (test p || any_in s test)
any_in_with s p test = ap (λ (t : PathSet). any_in (set.insert t p) test) (of_items s) ∙ any_in-from_list test (p ∷ set.items s)

pub ruleset look_ups = (none_of, node_of, entries_of, len_of, with_of, without_of, where_of)

pub ruleset conflicts = (any_in_none, any_in_with, any_in-union)
