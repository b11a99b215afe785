-- Which paths the footprint of a list has, and when two footprints conflict.
--     own_footprint                a list's footprint has all paths of its items
--     has_ancestors                it has their proper ancestors
--     gathered                     as two lists of the same paths have
--     conflict_by_paths            of two such footprints
use Rattle.std.proofs.Common.{◌≡◌, ◌≢◌, sym, ◌∙◌, subst, true, ◌⊎◌, ◌↔◌, inl, inr, List, [], ◌∷◌}
use Rattle.std.specs.Prelude.{flat_map, IsTrue}
use Rattle.std.specs.List.{AllByRecursion}
use Rattle.std.specs.FinSet as set
use Rattle.std.proofs.lemmas.Bool.{or_cases, true≢false, cases_Bool, or_left, or_right}
use Rattle.cfdp_paths.specs.Paths.{Path, same_path, is_at_or_below, ancestors}
use Rattle.cfdp_paths.proofs.Comparing.{same_path-Decides}
use Rattle.cfdp_paths.proofs.Below.{at_or_below-itself, at_or_below-trans, at_or_below-antisym, below_ancestor, ancestor_from_below}
use Rattle.cfdp_actions.specs.Actions.{Item}
use Rattle.cfdp_leases.specs.Footprint.{exclusive_in, read_in, named_in, shared_in, any_in, Footprint, footprint_of, leased, is_exclusive, is_covered, reaches, is_conflict, IsWithin}
use Rattle.cfdp_leases.specs.code.Footprint.{SameSet, of_lists, NoneIsRoot, HasAncestors}
use Rattle.cfdp_leases.specs.Laws.{HasNames, CommonPath, ConflictByPaths, OwnFootprint}
use Rattle.cfdp_leases.proofs.Sets.{exists, exists-append_left, exists-append_right, exists-append_cases, all_at, all_from, exists-flat_map, exists_in-flat_map, exists_from_Contains, Contains_from_exists, contains_from_exists, exists_from_contains, any_in-at, any_in-from, union_left, union_right, union_cases}

-- ---- what a list's footprint has

-- the footprint has at least these paths
pub record HasPaths (fp : Footprint) (exclusive shared : List Path) : Type 0 where
  pub of_exclusive : (q : Path) → exists q exclusive → set.contains fp.exclusive q ≡ true
  pub of_shared : (q : Path) → exists q shared → set.contains fp.shared q ≡ true

pub exclusive_since : (fp : Footprint) (q : Path) → set.contains fp.exclusive q ≡ true → is_exclusive fp q ≡ true
exclusive_since fp q h = any_in-at fp.exclusive (λ e. is_at_or_below q e) q h (at_or_below-itself q)

pub covered_since : (fp : Footprint) (q : Path) → set.contains fp.shared q ≡ true → is_covered fp q ≡ true
covered_since fp q h = or_right (is_exclusive fp q) _ h

within_since : (fp : Footprint) (item : Item) → HasPaths fp (exclusive_in item) (shared_in item) → IsWithin fp item
within_since fp item h = record {
  exclusive = all_from (λ p. is_exclusive fp p ≡ true) (exclusive_in item) (λ q s. exclusive_since fp q (h.of_exclusive q s));
  shared = all_from (λ p. is_covered fp p ≡ true) (shared_in item) (λ q s. covered_since fp q (h.of_shared q s));
}

pub all_within : (fp : Footprint) (items : List Item) → HasPaths fp (flat_map exclusive_in items) (flat_map shared_in items) →
    AllByRecursion (IsWithin fp) items
all_within fp [] h = tt
all_within fp (item ∷ items) h = (
  within_since fp item (record {
    of_exclusive = λ q s. h.of_exclusive q (exists-append_left q (exclusive_in item) (flat_map exclusive_in items) s);
    of_shared = λ q s. h.of_shared q (exists-append_left q (shared_in item) (flat_map shared_in items) s);
  }),
  all_within fp items (record {
    of_exclusive = λ q s. h.of_exclusive q (exists-append_right q (exclusive_in item) (flat_map exclusive_in items) s);
    of_shared = λ q s. h.of_shared q (exists-append_right q (shared_in item) (flat_map shared_in items) s);
  }),
)

pub own_footprint : OwnFootprint
own_footprint items =
    all_within (footprint_of items) items (record {
      of_exclusive = contains_from_exists (flat_map exclusive_in items);
      of_shared = contains_from_exists (flat_map shared_in items);
    })

-- ---- the proper ancestors of what is leased

pub ancestor_exists : (p q : Path) → is_at_or_below p q ≡ true → p ≢ q → q ≢ [] → exists q (ancestors p)
ancestor_exists p q h other some = exists_from_Contains q (ancestors p) (ancestor_from_below p q h other some)

pub ancestor_above : (p q : Path) → exists q (ancestors p) → (is_at_or_below p q ≡ true) × (p ≢ q) × (q ≢ [])
ancestor_above p q h = below_ancestor p q (Contains_from_exists q (ancestors p) h)

-- of one item: a path that it names, or one above such a path
shared_ancestors : (item : Item) (p q : Path) → exists p (named_in item) → exists q (ancestors p) → exists q (shared_in item)
shared_ancestors item p q h a =
    exists-append_right q (read_in item) (flat_map ancestors (named_in item)) (exists-flat_map ancestors (named_in item) p q h a)

-- an ancestor of an ancestor is one
pub higher : (n p q : Path) → exists p (ancestors n) → exists q (ancestors p) → exists q (ancestors n)
higher n p q first second =
    let low = ancestor_above n p first in
    let high = ancestor_above p q second in
    let up : is_at_or_below n q ≡ true = at_or_below-trans n p q low.0 high.0 in
    elim (cases_Bool (same_path n q)) [
      | inl e ↦
          let same : n ≡ q = (same_path-Decides n q).0 e in
          let back : is_at_or_below p n ≡ true = subst (λ x. is_at_or_below p x ≡ true) (sym same) high.0 in
          absurd (low.1 (at_or_below-antisym n p low.0 back))
      | inr e ↦ ancestor_exists n q up (λ same. true≢false (sym ((same_path-Decides n q).1 same) ∙ e)) high.2
    ]

item_ancestors : (item : Item) (p q : Path) → exists p (exclusive_in item) ⊎ exists p (shared_in item) → exists q (ancestors p) → exists q (shared_in item)
item_ancestors item p q (inl h) a = shared_ancestors item p q (exists-append_left p (exclusive_in item) (read_in item) h) a
item_ancestors item p q (inr h) a =
    elim (exists-append_cases p (read_in item) (flat_map ancestors (named_in item)) h) [
      | inl r ↦ shared_ancestors item p q (exists-append_right p (exclusive_in item) (read_in item) r) a
      | inr b ↦
          let found = exists_in-flat_map ancestors (named_in item) p b in
          shared_ancestors item found.0 q found.1 (higher found.0 p q found.2 a)
    ]

pub list_ancestors : (items : List Item) (p q : Path) → exists p (flat_map exclusive_in items) ⊎ exists p (flat_map shared_in items) → exists q (ancestors p) →
    exists q (flat_map shared_in items)
list_ancestors [] p q (inl h) a = absurd (true≢false (sym h))
list_ancestors [] p q (inr h) a = absurd (true≢false (sym h))
list_ancestors (item ∷ items) p q (inl h) a =
    elim (exists-append_cases p (exclusive_in item) (flat_map exclusive_in items) h) [
      | inl first ↦ exists-append_left q (shared_in item) (flat_map shared_in items) (item_ancestors item p q (inl first) a)
      | inr rest ↦ exists-append_right q (shared_in item) (flat_map shared_in items) (list_ancestors items p q (inl rest) a)
    ]
list_ancestors (item ∷ items) p q (inr h) a =
    elim (exists-append_cases p (shared_in item) (flat_map shared_in items) h) [
      | inl first ↦ exists-append_left q (shared_in item) (flat_map shared_in items) (item_ancestors item p q (inr first) a)
      | inr rest ↦ exists-append_right q (shared_in item) (flat_map shared_in items) (list_ancestors items p q (inr rest) a)
    ]

list_names : (items : List Item) (p : Path) → AllByRecursion HasNames items → exists p (flat_map exclusive_in items) → p ≢ []
list_names [] p all h = absurd (true≢false (sym h))
list_names (item ∷ items) p all h =
    elim (exists-append_cases p (exclusive_in item) (flat_map exclusive_in items) h) [
      | inl first ↦ all_at (λ x. x ≢ []) (named_in item) p all.0 (exists-append_left p (exclusive_in item) (read_in item) first)
      | inr rest ↦ list_names items p all.1 rest
    ]

list_above : (items : List Item) (p q : Path) → set.contains (leased (footprint_of items)) p ≡ true → exists q (ancestors p) →
    set.contains (footprint_of items).shared q ≡ true
list_above items p q h a =
    contains_from_exists (flat_map shared_in items) q
    (list_ancestors items p q
    (elim (union_cases (set.from_list (flat_map exclusive_in items)) (set.from_list (flat_map shared_in items)) p h) [
      | inl e ↦ inl (exists_from_contains (flat_map exclusive_in items) p e)
      | inr s ↦ inr (exists_from_contains (flat_map shared_in items) p s)
    ])
    a)

pub has_ancestors : (items : List Item) → AllByRecursion HasNames items → HasAncestors (footprint_of items)
has_ancestors items named = record {
  above = list_above items;
  names = λ p h. list_names items p named (exists_from_contains (flat_map exclusive_in items) p h);
}

-- what was gathered of a list, as lists of the same paths none of which is the root, has their ancestors too
pub gathered : (items : List Item) (xs ys : List Path) → SameSet xs (flat_map exclusive_in items) → SameSet ys (flat_map shared_in items) → NoneIsRoot xs →
    HasAncestors (of_lists xs ys)
gathered items xs ys exclusive shared named = record {
  above = subst (λ fp. (p q : Path) → set.contains (leased fp) p ≡ true → exists q (ancestors p) → set.contains fp.shared q ≡ true)
      (λ i. record { exclusive = sym exclusive i; shared = sym shared i }) (list_above items);
  names = λ p h. all_at (λ x. x ≢ []) xs p named (exists_from_contains xs p h);
}

-- ---- conflict by paths

-- A reaches B exactly where an exclusive path of A is leased by B
pub reaches_from : (A B : Footprint) → reaches A B ≡ true →
    (e : Path) × (l : Path) × (set.contains A.exclusive e ≡ true) × (set.contains (leased B) l ≡ true) × (is_at_or_below l e ≡ true)
reaches_from A B h =
    let outer = any_in-from A.exclusive (λ e. any_in (leased B) (λ l. is_at_or_below l e)) h in
    let inner = any_in-from (leased B) (λ l. is_at_or_below l outer.0) outer.2 in
    (outer.0, inner.0, outer.1, inner.1, inner.2)

pub reaches_at : (A B : Footprint) (e l : Path) → set.contains A.exclusive e ≡ true → set.contains (leased B) l ≡ true → is_at_or_below l e ≡ true → reaches A B
    ≡ true
reaches_at A B e l exclusive leases below =
    any_in-at A.exclusive (λ x. any_in (leased B) (λ y. is_at_or_below y x)) e exclusive
    (any_in-at (leased B) (λ y. is_at_or_below y e) l leases below)

met : (A B : Footprint) → HasAncestors A → HasAncestors B → reaches A B ≡ true → (e : Path) × (set.contains A.exclusive e ≡ true)
    × (set.contains (leased B) e ≡ true)
met A B a b h =
    let found = reaches_from A B h in (
      found.0,
      found.2,
      elim (cases_Bool (same_path found.1 found.0)) [
        | inl e ↦ subst (λ x. set.contains (leased B) x ≡ true) ((same_path-Decides found.1 found.0).0 e) found.3
        | inr e ↦
            union_right B.exclusive B.shared found.0
            (b.above found.1 found.0 found.3
            (ancestor_exists found.1 found.0 found.4 (λ same. true≢false (sym ((same_path-Decides found.1 found.0).1 same) ∙ e)) (a.names found.0 found.2)))
      ],
    )

pub conflict_by_paths : (A B : Footprint) → HasAncestors A → HasAncestors B → IsTrue (is_conflict A B) ↔ CommonPath A B
conflict_by_paths A B a b = (
  (λ h. elim (or_cases (reaches A B) (reaches B A) h) [
    | inl there ↦
        let found = met A B a b there in
        (found.0, union_left A.exclusive A.shared found.0 found.1, found.2, or_left _ (set.contains B.exclusive found.0) found.1)
    | inr back ↦
        let found = met B A b a back in
        (found.0, found.2, union_left B.exclusive B.shared found.0 found.1, or_right (set.contains A.exclusive found.0) _ found.1)
  ]),
  (λ common. elim (or_cases (set.contains A.exclusive common.0) (set.contains B.exclusive common.0) common.3) [
    | inl ours ↦ or_left _ (reaches B A) (reaches_at A B common.0 common.0 ours common.2 (at_or_below-itself common.0))
    | inr theirs ↦ or_right (reaches A B) _ (reaches_at B A common.0 common.0 theirs common.1 (at_or_below-itself common.0))
  ]),
)

pub lists_conflict_by_paths : ConflictByPaths
lists_conflict_by_paths items others named names = conflict_by_paths (footprint_of items) (footprint_of others) (has_ancestors items named)
    (has_ancestors others names)
