-- What entries show: each change of the entries is that change of the paths and nodes that they show.
--     shown_put, shown_where, shown_relocated    one entry put at its index;  those whose path passes a test;  a tree moved
--     found_is, found_some, found_none           what is at a path
--     put-put, put-same                          a path put twice;  what is there put again
--     shown_twice                                 one entry put twice
--     found_other, second_octets                  what is at another path than the one that was put, and its octets
--     exists, put_exists                          that something is there
--     shown_deep, shown_below                    whether a tree is too deep for another path;  whether anything is below a path
use Rattle.std.proofs.Common.{◌≡◌, ℕ, ◌||◌, Bool, true, false, not, nat_lt, if◌then◌else◌, List, [], ◌∷◌, Option, Some, None, is_some, length, refl, sym, ap, ◌∙◌, Bor, MatchOption, option_copied}
use Rattle.std.specs.Cmp.{tied_itself}
use Rattle.std.specs.FinMap.{find, put, is_sorted}
use Rattle.std.specs.FinMap.Entries.{where_key, below_all, find-put}
use Rattle.std.specs.Option.{option_map, IsSomeAnd}
use Rattle.std.specs.declared.cmp.Ordering.TheVariants.{Less, Equal, Greater}
use Rattle.std.proofs.lemmas.Bool.{and_parts, false≢true}
use Rattle.std.proofs.lemmas.Option.{none-some, same_Some}
use Rattle.cfdp_paths.specs.Paths.{Path, path_cmp, same_path, is_at_or_below, is_below, rebased}
use Rattle.cfdp_paths.specs.PathMaps as maps
use Rattle.cfdp_paths.proofs.Comparing.{same_path-Decides, path_cmp-total}
use Rattle.cfdp_paths.proofs.InOrder.{put-less, put-equal, put-greater, find-less, find-equal, find-greater, below_before, not_in}
use Rattle.cfdp_paths.specs.PathMaps.{is_too_deep}
use Rattle.cfdp_actions.specs.Filestore.{Node, Directory, File, octets_in, is_file, is_directory}
use Rattle.cfdp_actions.specs.Store.{kind_of, kind_in}
use Rattle.cfdp_actions.specs.code.Listed.{Entries, content_node, shown_entries, entry_found}
use Rattle.cfdp_actions.specs.declared.content.Content.{Content}
use Rattle.cfdp_actions.specs.declared.kind.Kind.{Kind}
use Rattle.cfdp_actions.proofs.Order.{same_path-symm}

abbrev shown_entry : Path × Content → Path × Node
shown_entry e = (e.0, content_node e.1)

pub shown_put : (k : Path) (x : Content) (es : Entries) → shown_entries (put path_cmp k x es) ≡ put path_cmp k (content_node x) (shown_entries es)
shown_put k x [] = refl
shown_put k x (e ∷ es) =
    elim (path_cmp k e.0) as (λ o. path_cmp k e.0 ≡ o → shown_entries (put path_cmp k x (e ∷ es)) ≡ put path_cmp k (content_node x) (shown_entries (e ∷ es))) [
      | Less ↦ λ p. ap shown_entries (put-less k x e es p) ∙ sym (put-less k (content_node x) (shown_entry e) (shown_entries es) p)
      | Equal ↦ λ p. ap shown_entries (put-equal k x e es p) ∙ sym (put-equal k (content_node x) (shown_entry e) (shown_entries es) p)
      | Greater ↦ λ p. ap shown_entries (put-greater k x e es p) ∙ ap (λ ys. shown_entry e ∷ ys) (shown_put k x es)
          ∙ sym (put-greater k (content_node x) (shown_entry e) (shown_entries es) p)
    ] refl

pub shown_where : (test : Path → Bool) (es : Entries) → shown_entries (where_key path_cmp test es) ≡ where_key path_cmp test (shown_entries es)
shown_where test [] = refl
shown_where test (e ∷ es) =
    elim (test e.0) as (λ b. test e.0 ≡ b → shown_entries (where_key path_cmp test (e ∷ es)) ≡ where_key path_cmp test (shown_entries (e ∷ es))) [
      | true ↦ λ p. rw p (ap (λ ys. shown_entry e ∷ ys) (shown_where test es))
      | false ↦ λ p. rw p (shown_where test es)
    ] refl

pub shown_without : (k : Path) (es : Entries) → shown_entries (maps.without k es) ≡ maps.without k (shown_entries es)
shown_without k es = shown_where (λ x. not (same_path k x)) es

shown_puts : (es more : Entries) → shown_entries (maps.puts es more) ≡ maps.puts (shown_entries es) (shown_entries more)
shown_puts es [] = refl
shown_puts es (e ∷ more) = shown_puts (put path_cmp e.0 e.1 es) more ∙ ap (λ ys. maps.puts ys (shown_entries more)) (shown_put e.0 e.1 es)

shown_moved : (p q : Path) (es : Entries) → shown_entries (maps.moved_to p q es) ≡ maps.moved_to p q (shown_entries es)
shown_moved p q [] = refl
shown_moved p q (e ∷ es) = ap (λ ys. (rebased p q e.0, content_node e.1) ∷ ys) (shown_moved p q es)

pub shown_relocated : (p q : Path) (es : Entries)
    → shown_entries (maps.puts (maps.rest_in p es) (maps.moved_to p q (maps.tree_in p es)))
    ≡ maps.puts (maps.rest_in p (shown_entries es)) (maps.moved_to p q (maps.tree_in p (shown_entries es)))
shown_relocated p q es =
    shown_puts (maps.rest_in p es) (maps.moved_to p q (maps.tree_in p es))
    ∙ ap (λ ys. maps.puts ys (shown_entries (maps.moved_to p q (maps.tree_in p es)))) (shown_where (λ x. not (is_at_or_below x p)) es)
    ∙ ap (maps.puts (maps.rest_in p (shown_entries es))) (shown_moved p q (maps.tree_in p es) ∙ ap (maps.moved_to p q)
    (shown_where (λ x. is_at_or_below x p) es))

-- ---- a path put again

pub put-put : (k : Path) (v w : Node) (es : List (Path × Node)) → put path_cmp k v (put path_cmp k w es) ≡ put path_cmp k v es
put-put k v w [] = put-equal k v (k, w) [] (tied_itself path_cmp-total k)
put-put k v w (e ∷ es) =
    elim (path_cmp k e.0) as (λ o. path_cmp k e.0 ≡ o → put path_cmp k v (put path_cmp k w (e ∷ es)) ≡ put path_cmp k v (e ∷ es)) [
      | Less ↦ λ p. ap (put path_cmp k v) (put-less k w e es p) ∙ put-equal k v (k, w) (e ∷ es) (tied_itself path_cmp-total k) ∙ sym (put-less k v e es p)
      | Equal ↦ λ p. ap (put path_cmp k v) (put-equal k w e es p) ∙ put-equal k v (e.0, w) es p ∙ sym (put-equal k v e es p)
      | Greater ↦ λ p. ap (put path_cmp k v) (put-greater k w e es p) ∙ put-greater k v e (put path_cmp k w es) p ∙ ap (λ ys. e ∷ ys) (put-put k v w es)
          ∙ sym (put-greater k v e es p)
    ] refl

pub put-same : (k : Path) (v : Node) (es : List (Path × Node)) → is_sorted path_cmp es ≡ true → find path_cmp k es ≡ Some v → put path_cmp k v es ≡ es
put-same k v [] s h = cc
put-same k v (e ∷ es) s h =
    let parts = and_parts (below_all path_cmp e.0 es) (is_sorted path_cmp es) s in
    elim (path_cmp k e.0) as (λ o. path_cmp k e.0 ≡ o → put path_cmp k v (e ∷ es) ≡ e ∷ es) [
      | Less ↦ λ p. absurd (none-some v (sym (find-less k e es p ∙ not_in k es (below_before k e.0 es p parts.0)) ∙ h))
      | Equal ↦ λ p. let same : Some e.1 ≡ Some v = sym (find-equal k e es p) ∙ h in put-equal k v e es p ∙ ap (λ u. (e.0, u) ∷ es) (sym (same_Some e.1 v same))
      | Greater ↦ λ p. put-greater k v e es p ∙ ap (λ ys. e ∷ ys) (put-same k v es parts.1 (sym (find-greater k e es p) ∙ h))
    ] refl

-- ---- look-ups

pub found_is : (k : Path) (es : Entries) → entry_found es k ≡ option_map content_node (find path_cmp k es)
found_is k [] = refl
found_is k (e ∷ es) =
    elim (path_cmp k e.0) as (λ o. path_cmp k e.0 ≡ o → entry_found (e ∷ es) k ≡ option_map content_node (find path_cmp k (e ∷ es))) [
      | Less ↦ λ p. find-less k (shown_entry e) (shown_entries es) p ∙ found_is k es ∙ sym (ap (option_map content_node) (find-less k e es p))
      | Equal ↦ λ p. find-equal k (shown_entry e) (shown_entries es) p ∙ sym (ap (option_map content_node) (find-equal k e es p))
      | Greater ↦ λ p. find-greater k (shown_entry e) (shown_entries es) p ∙ found_is k es ∙ sym (ap (option_map content_node) (find-greater k e es p))
    ] refl

pub found_some : (k : Path) (es : Entries) (x : Content) → Some x ≡ find path_cmp k es → entry_found es k ≡ Some (content_node x)
found_some k es x h = found_is k es ∙ sym (ap (option_map content_node) h)

pub found_none : (k : Path) (es : Entries) → None ≡ find path_cmp k es → entry_found es k ≡ None
found_none k es h = found_is k es ∙ sym (ap (option_map content_node) h)

pub shown_deep : (p q : Path) (es : Entries) → maps.is_too_deep p q es ≡ is_too_deep p q (shown_entries es)
shown_deep p q [] = refl
shown_deep p q (e ∷ es) = ap (λ b. nat_lt 8 (length (rebased p q e.0)) || b) (shown_deep p q es)

pub shown_below : (q : Path) (es : Entries) → maps.any_below q es ≡ maps.any_below q (shown_entries es)
shown_below q [] = refl
shown_below q (e ∷ es) = ap (λ b. is_below e.0 q || b) (shown_below q es)

pub found_other : (k q : Path) (x : Content) (es : Entries) → same_path q k ≡ false → entry_found (put path_cmp k x es) q ≡ entry_found es q
found_other k q x es other =
    ap (find path_cmp q) (shown_put k x es) ∙ find-put path_cmp path_cmp-total q k (content_node x) (shown_entries es)
    ∙ ap (λ b. if b then Some (content_node x) else entry_found es q) other

pub shown_twice : (k : Path) (x w : Content) (es es1 es2 : Entries) → es1 ≡ put path_cmp k w es → es2 ≡ put path_cmp k x es1 → shown_entries es2
    ≡ put path_cmp k (content_node x) (shown_entries es)
shown_twice k x w es es1 es2 first second =
    ap shown_entries second ∙ shown_put k x es1 ∙ ap (put path_cmp k (content_node x)) (ap shown_entries first ∙ shown_put k w es) ∙ put-put k (content_node x)
    (content_node w) (shown_entries es)

-- the octets at q, which may be those of k, at which something else was put
pub second_octets : (b : Bool) (k q : Path) (w : Content) (es es1 : Entries) (octets : List ℕ) → b ≡ same_path k q → es1 ≡ put path_cmp k w es → octets
    ≡ octets_in (entry_found es k)
    → (if b then octets else octets_in (entry_found es1 q)) ≡ octets_in (entry_found es q)
second_octets true k q w es es1 octets e first front = front ∙ ap (λ p. octets_in (entry_found es p)) ((same_path-Decides k q).0 (sym e))
second_octets false k q w es es1 octets e first front = ap (λ ys. octets_in (entry_found ys q)) first
    ∙ ap octets_in (found_other k q w es (same_path-symm q k ∙ sym e))

is_some-map : (o : Option Content) → is_some (option_map content_node o) ≡ is_some o
is_some-map None = refl
is_some-map (Some x) = refl

pub exists : (k : Path) (es : Entries) → is_some (entry_found es k) ≡ true → is_some (find path_cmp k es) ≡ true
exists k es h = sym (ap is_some (found_is k es) ∙ is_some-map (find path_cmp k es)) ∙ h

pub put_exists : (k : Path) (x : Content) (es es1 : Entries) → es1 ≡ put path_cmp k x es → is_some (find path_cmp k es1) ≡ true
put_exists k x es es1 e =
    ap (λ ys. is_some (find path_cmp k ys)) e ∙ ap is_some (find-put path_cmp path_cmp-total k k x es)
    ∙ ap (λ b. is_some (if b then Some x else find path_cmp k es)) ((same_path-Decides k k).1 refl)

pub file_there : (o : Option Node) → is_file o ≡ true → is_some o ≡ true
file_there None h = cc
file_there (Some node) h = refl

pub file_is : (o : Option Node) → is_file o ≡ true → o ≡ Some (File (octets_in o))
file_is None h = cc
file_is (Some Directory) h = cc
file_is (Some (File octets)) h = refl

-- ---- answers of a look-up

pub kind_answers : (o : Option (Bor Content)) (r : Option Kind) (k : Path) (es : Entries) →
    MatchOption o (r ≡ None) (λ x. IsSomeAnd r (λ y. y ≡ kind_of (content_node x.now)))
    → option_copied o ≡ find path_cmp k es → r ≡ kind_in (entry_found es k)
kind_answers None r k es cases e = cases ∙ sym (ap kind_in (found_none k es e))
kind_answers (Some x) None k es cases e = absurd cases
kind_answers (Some x) (Some y) k es cases e = ap Some cases ∙ sym (ap kind_in (found_some k es x.now e))

pub directory_answers : (o : Option (Bor Content)) (r : Bool) (k : Path) (es : Entries) →
    MatchOption o (r ≡ false) (λ x. r ≡ is_directory (Some (content_node x.now)))
    → option_copied o ≡ find path_cmp k es → r ≡ is_directory (entry_found es k)
directory_answers None r k es cases e = cases ∙ sym (ap is_directory (found_none k es e))
directory_answers (Some x) r k es cases e = cases ∙ sym (ap is_directory (found_some k es x.now e))

-- b is whether there is an answer
pub found_absent : (k : Path) (es : Entries) (o : Option (Bor Content)) (b : Bool) → option_copied o ≡ find path_cmp k es → b ≡ is_some o → b ≡ false →
    entry_found es k ≡ None
found_absent k es None b e is h = found_none k es e
found_absent k es (Some x) b e is h = absurd (false≢true (sym h ∙ is))
