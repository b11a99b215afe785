-- What the tests of the action table read of a filestore, and what its rows do to it, seen through a map of extents.
--     extent-cond                              of one node or another
--     entries-outlined                         the entries of the map are those of the filestore
--     good_parent-is, entries-is, depth-is     whether the parent is good, anything is below, a path would be too deep
--     Follows, does-at                         what `Does` asks at one filestore;  `Does` is that at each
--     follows-same, follows-one, follows-moved    no change;  one path changes;  a directory moves (moved_where, staged-moved: what is where then)
--     kept                                     a map to which what is already is put
use Rattle.std.proofs.Common.{◌≡◌, ◌≢◌, refl, sym, ◌∙◌, ap, subst, Bool, true, false, cond, not, ◌&&◌, ◌||◌, ◌==◌, T, is_some, Option, Some, None, List, [], ◌∷◌, ◌++◌, map, length, nat_lt, ne_eqb, arith}
use Rattle.std.specs.List.{list_any}
use Rattle.std.specs.Ordering.{is_lt}
use Rattle.std.specs.FinMap.{entries, entries_sorted, get, get-entries, len-entries}
use Rattle.std.specs.FinMap.Entries.{below_all, is_sorted, find, where_key, same_entries}
use Rattle.cfdp_paths.specs.Paths.{Path, path_cmp, parent, same_path, is_at_or_below, is_below, rebased}
use Rattle.cfdp_paths.specs.PathMaps.{any_below, tree_in, is_too_deep}
use Rattle.cfdp_status.specs.declared.status.Status.{Status}
use Rattle.cfdp_actions.specs.Filestore.{Node, Directory, File, Filestore, node_at, inside, Change, Becomes, after, has_entries, is_directory, is_good, parent_is_good, tree_at}
use Rattle.cfdp_actions.specs.Actions.{Request, Performed, Outcome, vacating, arriving, table}
use Rattle.cfdp_states.specs.declared.extent.Extent.{Extent}
use Rattle.cfdp_states.specs.Sketching.{extent_of, extent_in, extent_at, Extents}
use Rattle.cfdp_states.specs.code.Sketching.{rehomed, is_folder, good_among, good_parent, IsOutline, Does}
use Rattle.cfdp_actions.proofs.Order.{node_at-becomes, same_path-true}
use Rattle.cfdp_actions.proofs.Weights.{entries-retain_keys}
use Rattle.cfdp_actions.proofs.Prefixes.{rebased-below}
use Rattle.cfdp_actions.proofs.Moves.{after-append, tree_at-all, tree_at-sorted, find-tree_at, node_at-vacated_tree, node_at-arriving, node_at-arriving_apart, moved, staged-moved}
use Rattle.cfdp_states.proofs.Counted.{get-rehomed}
use Rattle.cfdp_paths.proofs.InOrder.{path_antisym}
use Rattle.cfdp_paths.proofs.Comparing.{path_cmp-total}

-- ---- the extent of a node

pub extent-cond : (b : Bool) (a c : Option Node) → extent_in (cond b a c) ≡ cond b (extent_in a) (extent_in c)
extent-cond true a c = refl
extent-cond false a c = refl

extent-folder : (a : Option Node) → is_folder (extent_in a) ≡ is_directory a
extent-folder None = refl
extent-folder (Some Directory) = refl
extent-folder (Some (File octets)) = refl

-- ---- the entries

abbrev outline_of : Path × Node → Path × Extent
outline_of e = (e.0, extent_of e.1)

-- of some entries
abbrev pub outlines : List (Path × Node) → List (Path × Extent)
outlines es = map outline_of es

below-outlines : (x : Path) (es : List (Path × Node)) → below_all path_cmp x (outlines es) ≡ below_all path_cmp x es
below-outlines x [] = refl
below-outlines x (e ∷ es) = ap (λ b. is_lt (path_cmp x e.0) && b) (below-outlines x es)

sorted-outlines : (es : List (Path × Node)) → is_sorted path_cmp (outlines es) ≡ is_sorted path_cmp es
sorted-outlines [] = refl
sorted-outlines (e ∷ es) = λ i. below-outlines e.0 es i && sorted-outlines es i

find-outlines : (x : Path) (es : List (Path × Node)) → find path_cmp x (outlines es) ≡ extent_in (find path_cmp x es)
find-outlines x [] = refl
find-outlines x (e ∷ es) =
    elim (same_path x e.0) as (λ b. cond b (Some (extent_of e.1)) (find path_cmp x (outlines es)) ≡ extent_in (cond b (Some e.1) (find path_cmp x es))) [
      | true ↦ refl
      | false ↦ find-outlines x es
    ]

where-outlines : (test : Path → Bool) (es : List (Path × Node)) → where_key path_cmp test (outlines es) ≡ outlines (where_key path_cmp test es)
where-outlines test [] = refl
where-outlines test (e ∷ es) =
    elim (test e.0) as (λ b. cond b (outline_of e ∷ where_key path_cmp test (outlines es)) (where_key path_cmp test (outlines es))
    ≡ outlines (cond b (e ∷ where_key path_cmp test es) (where_key path_cmp test es))) [
      | true ↦ ap (λ us. outline_of e ∷ us) (where-outlines test es)
      | false ↦ where-outlines test es
    ]

deep-outlines : (p q : Path) (es : List (Path × Node)) → is_too_deep p q (outlines es) ≡ is_too_deep p q es
deep-outlines p q [] = refl
deep-outlines p q (e ∷ es) = ap (λ b. nat_lt 8 (length (rebased p q e.0)) || b) (deep-outlines p q es)

-- some entry passes a test of its path
any-outlines : (test : Path → Bool) (es : List (Path × Node)) → list_any (λ e. test e.0) (outlines es) ≡ not (length (where_key path_cmp test es) == 0)
any-outlines test [] = refl
any-outlines test (e ∷ es) =
    elim (test e.0) as (λ b. (b || list_any (λ e. test e.0) (outlines es))
    ≡ not (length (cond b (e ∷ where_key path_cmp test es) (where_key path_cmp test es)) == 0)) [
      | true ↦ sym (ap not (ne_eqb (length (e ∷ where_key path_cmp test es)) 0 (λ same. omega arith)))
      | false ↦ any-outlines test es
    ]

pub entries-outlined : (m : Extents) (F : Filestore) → IsOutline m F → entries m ≡ outlines (entries F.nodes)
entries-outlined m F h =
    same_entries path_cmp path_cmp-total path_antisym _ _ (entries_sorted m) (subst T (sym (sorted-outlines (entries F.nodes))) (entries_sorted F.nodes))
    (λ x. sym (get-entries m x) ∙ h.found x ∙ ap extent_in (get-entries F.nodes x) ∙ sym (find-outlines x (entries F.nodes)))

module _ (m : Extents) (F : Filestore) (h : IsOutline m F) where
  -- ---- what is read

  pub good_parent-is : (p : Path) → p ≢ [] → good_parent m p ≡ parent_is_good F p
  good_parent-is [] named = absurd (named refl)
  good_parent-is (n ∷ p) named = good (parent (n ∷ p))
    where
      good : (q : Path) → good_among m q ≡ is_good F q
      good [] = refl
      good (k ∷ q) = ap is_folder (h.found (k ∷ q)) ∙ extent-folder (node_at F (k ∷ q))

  pub entries-is : (p : Path) → any_below p (entries m) ≡ has_entries F p
  entries-is p =
      ap (any_below p) (entries-outlined m F h)
      ∙ any-outlines (λ q. is_below q p) (entries F.nodes)
      ∙ ap (λ es. not (length es == 0)) (sym (entries-retain_keys path_cmp-total path_antisym F.nodes (λ q. is_below q p)))
      ∙ ap (λ n. not (n == 0)) (sym (len-entries (inside F p)))

  pub depth-is : (p q : Path) → is_too_deep p q (tree_in p (entries m)) ≡ is_too_deep p q (tree_at F p)
  depth-is p q =
      ap (λ es. is_too_deep p q (tree_in p es)) (entries-outlined m F h)
      ∙ ap (is_too_deep p q) (where-outlines (λ x. is_at_or_below x p) (entries F.nodes))
      ∙ deep-outlines p q (where_key path_cmp (λ x. is_at_or_below x p) (entries F.nodes))
      ∙ ap (is_too_deep p q) (sym (entries-retain_keys path_cmp-total path_antisym F.nodes (λ x. is_at_or_below x p)))

-- ---- no change, and one path that changes

-- what `Does` asks at one filestore
pub record Follows (m' : Extents) (F : Filestore) (o : Outcome) (stated : Status) : Type 0 where
  pub status : Performed stated ≡ o.answer
  pub outlines : IsOutline m' (after F o.changes)
  pub staged : (after F o.changes).staged ≡ F.staged

pub does-at : (m m' : Extents) (request : Request) (stated : Status) → ((F : Filestore) → IsOutline m F → Follows m' F (table F request) stated) →
    Does m m' request stated
does-at m m' request stated at = record {
  status = λ F h. (at F h).status;
  outlines = λ F h. (at F h).outlines;
  staged = λ F h. (at F h).staged;
}

pub follows-same : (m' : Extents) (F : Filestore) (o : Outcome) (stated : Status) → Performed stated ≡ o.answer → o.changes ≡ [] → IsOutline m' F →
    Follows m' F o stated
follows-same m' F o stated answer changes h = record {
  status = answer;
  outlines = subst (λ (cs : List Change). IsOutline m' (after F cs)) (sym changes) h;
  staged = ap (λ (cs : List Change). (after F cs).staged) changes;
}

pub follows-one : (m m' : Extents) (F : Filestore) (o : Outcome) (stated : Status) (p : Path) (node : Option Node) → IsOutline m F
    → Performed stated ≡ o.answer →
    o.changes ≡ Becomes p node ∷ [] →
    ((x : Path) → get m' x ≡ cond (same_path x p) (extent_in node) (get m x)) → Follows m' F o stated
follows-one m m' F o stated p node h answer changes now = record {
  status = answer;
  outlines = subst (λ (cs : List Change). IsOutline m' (after F cs)) (sym changes) (record {
    found = λ x. now x ∙ ap (λ v. cond (same_path x p) (extent_in node) v) (h.found x)
        ∙ sym (extent-cond (same_path x p) node (node_at F x)) ∙ ap extent_in (sym (node_at-becomes F p node x));
  });
  staged = ap (λ (cs : List Change). (after F cs).staged) changes;
}

-- what is at p already
pub kept : (m m' : Extents) (F : Filestore) (p : Path) (c : Option Extent) → IsOutline m F → extent_at F p ≡ c →
    ((x : Path) → get m' x ≡ cond (same_path x p) c (get m x)) → IsOutline m' F
kept m m' F p c h here now = record {
  found = λ x. now x ∙ elim (same_path x p) as (λ b. same_path x p ≡ b → cond b c (get m x) ≡ extent_at F x) [
    | true ↦ λ t. sym here ∙ ap (extent_at F) (sym (same_path-true x p t))
    | false ↦ λ t. h.found x
  ] refl;
}

-- ---- a directory that moves

pub moved_where : (F : Filestore) (p q x : Path) →
    node_at (moved F p q) x
    ≡ cond (is_at_or_below x q) (cond (is_some (node_at F (rebased q p x))) (node_at F (rebased q p x)) (cond (is_at_or_below x p) None (node_at F x)))
    (cond (is_at_or_below x p) None (node_at F x))
moved_where F p q x =
    let es = tree_at F p in
    let y = rebased q p x in
    ap (λ G. node_at G x) (after-append F (vacating es) (arriving p q es))
    ∙ elim (is_at_or_below x q) as (λ b. is_at_or_below x q ≡ b → node_at (after (after F (vacating es)) (arriving p q es)) x
    ≡ cond b (cond (is_some (node_at F y)) (node_at F y) (cond (is_at_or_below x p) None (node_at F x))) (cond (is_at_or_below x p) None (node_at F x))) [
      | true ↦ λ at. node_at-arriving p q (after F (vacating es)) es (tree_at-sorted F p) (tree_at-all F p) x at
          ∙ ap (λ v. cond (is_some v) v (node_at (after F (vacating es)) x)) (find-tree_at F p y ∙ ap (λ b. cond b (node_at F y) None) (rebased-below q p x))
          ∙ ap (λ v. cond (is_some (node_at F y)) (node_at F y) v) (node_at-vacated_tree F p x)
      | false ↦ λ at. node_at-arriving_apart p q (after F (vacating es)) es x at ∙ node_at-vacated_tree F p x
    ] refl

pub follows-moved : (m : Extents) (F : Filestore) (o : Outcome) (stated : Status) (p q : Path) → IsOutline m F → Performed stated ≡ o.answer → o.changes
    ≡ vacating (tree_at F p) ++ arriving p q (tree_at F p) → Follows (rehomed p q m) F o stated
follows-moved m F o stated p q h answer changes = record {
  status = answer;
  outlines = subst (λ (cs : List Change). IsOutline (rehomed p q m) (after F cs)) (sym changes) (record {
    found = λ x.
        let y = rebased q p x in
        get-rehomed p q m x
        ∙ (λ i. cond (is_at_or_below x q) (cond (is_some (h.found y i)) (h.found y i) (cond (is_at_or_below x p) None (h.found x i)))
        (cond (is_at_or_below x p) None (h.found x i)))
        ∙ through (is_at_or_below x q) (is_at_or_below x p) (node_at F y) (node_at F x)
        ∙ ap extent_in (sym (moved_where F p q x));
  });
  staged = ap (λ (cs : List Change). (after F cs).staged) changes ∙ staged-moved F p q;
}
  where
    through : (a b : Bool) (v w : Option Node) → cond a (cond (is_some (extent_in v)) (extent_in v) (cond b None (extent_in w))) (cond b None (extent_in w))
        ≡ extent_in (cond a (cond (is_some v) v (cond b None w)) (cond b None w))
    through false false v w = refl
    through false true v w = refl
    through true false None w = refl
    through true true None w = refl
    through true b (Some node) w = refl
