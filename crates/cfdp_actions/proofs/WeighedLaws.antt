-- The blocks of entries in path order after a change.
--     weights-put, weights-put-le    one entry put at its index: exactly, and at most
--     weights-without                one path taken out
--     weights-relocated-le           a tree moved, at most
--     weights-relocated              a tree moved to where nothing exists
use Rattle.std.proofs.Common.{◌≡◌, ◌+◌, ◌≤◌, Bool, true, false, not, if◌then◌else◌, List, [], ◌∷◌, Some, None, Option, refl, sym, ap, ◌∙◌, arith}
use Rattle.std.specs.FinMap.{find, put, is_sorted}
use Rattle.std.specs.FinMap.Entries.{where_key, below_all, find-put, find-where_key}
use Rattle.std.specs.List.{list_all}
use Rattle.std.specs.Ordering.{is_lt, is_eq}
use Rattle.std.specs.declared.cmp.Ordering.TheVariants.{Less, Equal, Greater}
use Rattle.std.proofs.lemmas.Bool.{and_parts, or_parts, true≢false}
use Rattle.cfdp_paths.specs.Paths.{Path, path_cmp, same_path, is_at_or_below, is_below}
use Rattle.cfdp_paths.specs.PathMaps.{without, tree_in, rest_in, any_below, puts, moved_to}
use Rattle.cfdp_paths.proofs.Comparing.{same_path-Decides, path_cmp-total}
use Rattle.cfdp_paths.proofs.InOrder.{path_antisym, less_by, less_back, put-less, put-equal, put-greater, find-less, find-equal, find-greater, without-less, without-equal, without-greater, below_before, below_same, not_in, without_none, ordered-put, ordered-where}
use Rattle.cfdp_paths.proofs.Moving.{moved_all, tree_ordered}
use Rattle.cfdp_actions.specs.Filestore.{Node, weight, weights}

-- ---- one entry

pub weights-put : (k : Path) (v : Node) (es : List (Path × Node)) → is_sorted path_cmp es ≡ true → weights (put path_cmp k v es) + weight (find path_cmp k es)
    ≡ weights es + weight (Some v)
weights-put k v [] s = omega arith
weights-put k v (f ∷ es) s =
    let parts = and_parts (below_all path_cmp f.0 es) (is_sorted path_cmp es) s in
    elim (path_cmp k f.0) as (λ o. path_cmp k f.0 ≡ o → weights (put path_cmp k v (f ∷ es)) + weight (find path_cmp k (f ∷ es)) ≡ weights (f ∷ es)
    + weight (Some v)) [
      | Less ↦ λ p. rw (put-less k v f es p, find-less k f es p, not_in k es (below_before k f.0 es p parts.0)) (omega arith)
      | Equal ↦ λ p. rw (put-equal k v f es p, find-equal k f es p) (omega arith)
      | Greater ↦ λ p. rw (put-greater k v f es p, find-greater k f es p) (omega (arith, weights-put k v es parts.1))
    ] refl

pub weights-put-le : (k : Path) (v : Node) (es : List (Path × Node)) → weights (put path_cmp k v es) ≤ weight (Some v) + weights es
weights-put-le k v [] = omega arith
weights-put-le k v (f ∷ es) =
    elim (path_cmp k f.0) as (λ o. path_cmp k f.0 ≡ o → weights (put path_cmp k v (f ∷ es)) ≤ weight (Some v) + weights (f ∷ es)) [
      | Less ↦ λ p. rw (put-less k v f es p) (omega arith)
      | Equal ↦ λ p. rw (put-equal k v f es p) (omega arith)
      | Greater ↦ λ p. rw (put-greater k v f es p) (omega (arith, weights-put-le k v es))
    ] refl

pub weights-without : (k : Path) (es : List (Path × Node)) → is_sorted path_cmp es ≡ true → weights (without k es) + weight (find path_cmp k es) ≡ weights es
weights-without k [] s = refl
weights-without k (f ∷ es) s =
    let parts = and_parts (below_all path_cmp f.0 es) (is_sorted path_cmp es) s in
    elim (path_cmp k f.0) as (λ o. path_cmp k f.0 ≡ o → weights (without k (f ∷ es)) + weight (find path_cmp k (f ∷ es)) ≡ weights (f ∷ es)) [
      | Less ↦ λ p.
          let none = not_in k es (below_before k f.0 es p parts.0) in
          rw (without-less k f es p, find-less k f es p, none, without_none k es none) (omega arith)
      | Equal ↦ λ p. rw (without-equal k f es p, find-equal k f es p, without_none k es (not_in k es (below_same k f es p parts.0))) (omega arith)
      | Greater ↦ λ p. rw (without-greater k f es p, find-greater k f es p) (omega (arith, weights-without k es parts.1))
    ] refl

-- ---- several

-- the entries that pass a test and those that do not
weights-parted : (test : Path → Bool) (es : List (Path × Node)) → weights (where_key path_cmp test es) + weights (where_key path_cmp (λ x. not (test x)) es)
    ≡ weights es
weights-parted test [] = refl
weights-parted test (f ∷ es) =
    elim (test f.0) as (λ b. test f.0 ≡ b → weights (where_key path_cmp test (f ∷ es)) + weights (where_key path_cmp (λ x. not (test x)) (f ∷ es))
    ≡ weights (f ∷ es)) [
      | true ↦ λ p. rw p (omega (arith, weights-parted test es))
      | false ↦ λ p. rw p (omega (arith, weights-parted test es))
    ] refl

weights-moved_to : (p q : Path) (es : List (Path × Node)) → weights (moved_to p q es) ≡ weights es
weights-moved_to p q [] = refl
weights-moved_to p q (e ∷ es) = ap (λ n. weight (Some e.1) + n) (weights-moved_to p q es)

weights-puts-le : (es more : List (Path × Node)) → weights (puts es more) ≤ weights more + weights es
weights-puts-le es [] = omega arith
weights-puts-le es (e ∷ more) = omega (arith, weights-puts-le (put path_cmp e.0 e.1 es) more, weights-put-le e.0 e.1 es)

pub weights-relocated-le : (p q : Path) (es : List (Path × Node)) → weights (puts (rest_in p es) (moved_to p q (tree_in p es))) ≤ weights es
weights-relocated-le p q es =
    omega (
      arith,
      weights-puts-le (rest_in p es) (moved_to p q (tree_in p es)),
      weights-moved_to p q (tree_in p es),
      weights-parted (λ x. is_at_or_below x p) es,
    )

-- none of these entries exists among the others
abbrev Fresh : List (Path × Node) → List (Path × Node) → Type 0
Fresh es [] = Unit {0}
Fresh es (m ∷ more) = (find path_cmp m.0 es ≡ None) × Fresh es more

other_path : (k l : Path) → path_cmp k l ≡ Less → same_path l k ≡ false
other_path k l h = ap is_eq (less_back k l h)

-- what follows the entry that was put
fresh-put : (m : Path × Node) (es more : List (Path × Node)) → Fresh es more → below_all path_cmp m.0 more ≡ true → Fresh (put path_cmp m.0 m.1 es) more
fresh-put m es [] fresh below = tt
fresh-put m es (l ∷ more) fresh below =
    let parts = and_parts (is_lt (path_cmp m.0 l.0)) (below_all path_cmp m.0 more) below in
    let other = other_path m.0 l.0 (less_by _ parts.0) in (
      find-put path_cmp path_cmp-total l.0 m.0 m.1 es ∙ ap (λ b. if b then Some m.1 else find path_cmp l.0 es) other ∙ fresh.0,
      fresh-put m es more fresh.1 parts.1,
    )

weights-puts : (es more : List (Path × Node)) → is_sorted path_cmp es ≡ true → is_sorted path_cmp more ≡ true → Fresh es more → weights (puts es more)
    ≡ weights es + weights more
weights-puts es [] s t fresh = omega arith
weights-puts es (m ∷ more) s t fresh =
    let parts = and_parts (below_all path_cmp m.0 more) (is_sorted path_cmp more) t in
    let rest = weights-puts (put path_cmp m.0 m.1 es) more (ordered-put m.0 m.1 es _ refl s) parts.1 (fresh-put m es more fresh.1 parts.0) in
    omega (arith, rest, weights-put m.0 m.1 es s, ap weight fresh.0)

nothing_below : (q k : Path) (es : List (Path × Node)) → any_below q es ≡ false → is_below k q ≡ true → find path_cmp k es ≡ None
nothing_below q k [] none below = refl
nothing_below q k (e ∷ es) none below =
    elim (path_cmp k e.0) as (λ o. path_cmp k e.0 ≡ o → find path_cmp k (e ∷ es) ≡ None) [
      | Less ↦ λ p. find-less k e es p ∙ nothing_below q k es (or_parts (is_below e.0 q) (any_below q es) none).1 below
      | Equal ↦ λ p. absurd (true≢false (sym below ∙ ap (λ x. is_below x q) (path_antisym k e.0 p) ∙ (or_parts (is_below e.0 q) (any_below q es) none).0))
      | Greater ↦ λ p. find-greater k e es p ∙ nothing_below q k es (or_parts (is_below e.0 q) (any_below q es) none).1 below
    ] refl

-- nothing is at or below q
nothing_there : (q k : Path) (es : List (Path × Node)) → find path_cmp q es ≡ None → any_below q es ≡ false → is_at_or_below k q ≡ true → find path_cmp k es
    ≡ None
nothing_there q k es absent none h =
    elim (same_path k q) as (λ b. same_path k q ≡ b → find path_cmp k es ≡ None) [
      | true ↦ λ same. ap (λ x. find path_cmp x es) ((same_path-Decides k q).0 same) ∙ absent
      | false ↦ λ other. nothing_below q k es none (rw (h, other) refl)
    ] refl

all_fresh : (p q : Path) (es more : List (Path × Node)) → find path_cmp q es ≡ None → any_below q es ≡ false → list_all (λ e. is_at_or_below e.0 q) more
    ≡ true → Fresh (rest_in p es) more
all_fresh p q es [] absent none all = tt
all_fresh p q es (m ∷ more) absent none all =
    let parts = and_parts (is_at_or_below m.0 q) (list_all (λ e. is_at_or_below e.0 q) more) all in
    let test : Path → Bool = λ x. not (is_at_or_below x p) in (
      find-where_key path_cmp test m.0 (λ x e. ap test (sym (path_antisym m.0 x e))) es
          ∙ either (test m.0) (find path_cmp m.0 es) (nothing_there q m.0 es absent none parts.0),
      all_fresh p q es more absent none parts.1,
    )
  where
    either : (b : Bool) (o : Option Node) → o ≡ None → (if b then o else None) ≡ None
    either true o h = h
    either false o h = refl

pub weights-relocated : (p q : Path) (es : List (Path × Node)) → is_sorted path_cmp es ≡ true → find path_cmp q es ≡ None → any_below q es ≡ false
    → weights (puts (rest_in p es) (moved_to p q (tree_in p es))) ≡ weights es
weights-relocated p q es s absent none =
    let moved = moved_to p q (tree_in p es) in
    omega (
      arith,
      weights-puts (rest_in p es) moved (ordered-where (λ x. not (is_at_or_below x p)) es _ refl s) (tree_ordered p q es s)
          (all_fresh p q es moved absent none (moved_all p q (tree_in p es))),
      weights-moved_to p q (tree_in p es),
      weights-parted (λ x. is_at_or_below x p) es,
    )
