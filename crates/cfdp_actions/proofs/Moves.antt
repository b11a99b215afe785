-- Moving a directory: each p/r is at q/r.
--     below_absent                    nothing is at or below a path where nothing is
--     after-append                    changes in turn
--     tree_at-all, find-tree_at       the entries of a tree are at or below its path, and those of the filestore
--     node_at-vacated, node_at-arriving
--     node_at-vacated_tree            without a tree
--     moved_there, moved_there_free, moved_apart      path by path
--     rename-grows                    the blocks stay
--     staged-vacated, staged-moved    the staged lists stay
use Rattle.std.proofs.Common.{◌≡◌, ◌≢◌, refl, sym, ◌∙◌, ap, subst, Bool, true, false, cond, not, T, IsTrue, IsSome, is_some, Option, Some, None, ℕ, zero, suc, ◌+◌, ◌≤◌, List, [], ◌∷◌, ◌++◌, length, arith, true≢false, le_refl, if◌then◌else◌}
use Rattle.std.specs.List.{AllByRecursion}
use Rattle.std.proofs.lemmas.Bool.{and_parts}
use Rattle.std.proofs.lemmas.Option.{none-some}
use Rattle.std.specs.FinMap.{entries, entries_sorted, get-entries, retain_keys}
use Rattle.std.specs.FinMap.Entries.{is_sorted, find, where_key}
use Rattle.cfdp_paths.specs.Paths.{Path, path_cmp, same_path, is_at_or_below, parent, rebased}
use Rattle.cfdp_actions.specs.Filestore.{Node, Filestore, node_at, weight, weights, blocks, Change, Becomes, changed, after, is_directory, is_good, is_root, parent_is_good, IsRooted, tree_at}
use Rattle.cfdp_status.specs.declared.action.Action.TheVariants as action
use Rattle.cfdp_status.specs.declared.status.Status.TheVariants.{NotAllowed}
use Rattle.cfdp_status.proofs.Options.{none_where_some}
use Rattle.cfdp_actions.specs.Actions.{refused, succeeds, vacating, arriving, rename}
use Rattle.cfdp_actions.proofs.Order.{same_path-true, same_path-refl, node_at-becomes, node_at-becomes_apart, get_kept}
use Rattle.cfdp_actions.proofs.Weights.{entries-retain_keys, sorted_rest, find_later}
use Rattle.cfdp_actions.proofs.Prefixes.{rebased-below, rebased_back, same_rebased, length-parent}
use Rattle.cfdp_actions.proofs.Growth.{Grows, grows_one}
use Rattle.cfdp_paths.proofs.Below.{parent_of_below}
use Rattle.cfdp_paths.proofs.InOrder.{path_antisym}
use Rattle.cfdp_paths.proofs.Comparing.{path_cmp-total}
use Rattle.cfdp_paths.specs.PathMaps.{is_too_deep}

-- ---- nothing is below a path where nothing exists

directory_there : (a : Option Node) → is_directory a ≡ true → a ≢ None
directory_there None e none = true≢false (sym e)
directory_there (Some node) e none = none-some node (sym none)

pub none_unless : (a : Option Node) → (is_some a ≡ true → ⊥) → a ≡ None
none_unless None f = refl
none_unless (Some node) f = absurd (f refl)

only_root : (q : Path) → is_at_or_below [] q ≡ true → q ≡ []
only_root [] e = refl
only_root (n ∷ q) e = absurd (true≢false (sym e))

pub below_absent : (F : Filestore) (q : Path) → IsRooted F → q ≢ [] → node_at F q ≡ None → (k : ℕ) (x : Path) → length x ≤ k → is_at_or_below x q ≡ true →
    node_at F x ≡ None
below_absent F q rooted named none k [] le below = absurd (named (only_root q below))
below_absent F q rooted named none zero (n ∷ x) le below = absurd (omega arith)
below_absent F q rooted named none (suc k) (n ∷ x) le below =
    none_unless _ (λ there.
    let good = (and_parts (not (is_root (n ∷ x))) (is_good F (parent (n ∷ x))) (rooted (n ∷ x) there)).1 in
    let apart : n ∷ x ≢ q = λ e. true≢false (sym there ∙ ap is_some (ap (node_at F) e ∙ none)) in
    let up = parent_of_below (n ∷ x) q below apart in
    let above = below_absent F q rooted named none k (parent (n ∷ x)) (subst (λ l. l ≤ k) (sym (length-parent n x)) (omega arith)) up in
    exists (parent (n ∷ x)) good up above)
  where
    exists : (y : Path) → is_good F y ≡ true → is_at_or_below y q ≡ true → node_at F y ≡ None → ⊥
    exists [] good up gone = named (only_root q up)
    exists (m ∷ y) good up gone = directory_there (node_at F (m ∷ y)) good gone

-- ---- changes in turn

pub after-append : (F : Filestore) (cs ds : List Change) → after F (cs ++ ds) ≡ after (after F cs) ds
after-append F [] ds = refl
after-append F (c ∷ cs) ds = after-append (changed F c) cs ds

-- ---- a tree's entries

pub AllBelow : Path → List (Path × Node) → Type 0
AllBelow p es = AllByRecursion (λ e. is_at_or_below e.0 p ≡ true) es

pub kept_pass : (p : Path) (es : List (Path × Node)) → AllBelow p (where_key path_cmp (λ q. is_at_or_below q p) es)
unfolding AllBelow
kept_pass p [] = tt
kept_pass p (e ∷ es) =
    let rest = kept_pass p es in
    elim (is_at_or_below e.0 p) as (λ b. is_at_or_below e.0 p ≡ b → AllByRecursion (λ e. is_at_or_below e.0 p ≡ true)
    (cond b (e ∷ where_key path_cmp (λ q. is_at_or_below q p) es) (where_key path_cmp (λ q. is_at_or_below q p) es))) [
      | true ↦ λ is. (is, rest)
      | false ↦ λ is. rest
    ] refl

pub tree_at-all : (F : Filestore) (p : Path) → AllBelow p (tree_at F p)
tree_at-all F p = subst (AllBelow p) (sym (entries-retain_keys path_cmp-total path_antisym F.nodes (λ q. is_at_or_below q p))) (kept_pass p (entries F.nodes))

pub tree_at-sorted : (F : Filestore) (p : Path) → T (is_sorted path_cmp (tree_at F p))
tree_at-sorted F p = entries_sorted (retain_keys F.nodes (λ q. is_at_or_below q p))

pub find-tree_at : (F : Filestore) (p x : Path) → find path_cmp x (tree_at F p) ≡ cond (is_at_or_below x p) (node_at F x) None
find-tree_at F p x = sym (get-entries (retain_keys F.nodes (λ q. is_at_or_below q p)) x) ∙ get_kept F (λ q. is_at_or_below q p) x

-- ---- vacated

pub node_at-vacated : (F : Filestore) (es : List (Path × Node)) (x : Path) → node_at (after F (vacating es)) x
    ≡ cond (is_some (find path_cmp x es)) None (node_at F x)
node_at-vacated F [] x = refl
node_at-vacated F (e ∷ es) x =
    node_at-vacated (changed F (Becomes e.0 None)) es x
    ∙ ap (λ v. cond (is_some (find path_cmp x es)) None v) (node_at-becomes F e.0 None x)
    ∙ elim (same_path x e.0) as (λ b. cond (is_some (find path_cmp x es)) None (cond b None (node_at F x))
    ≡ cond (is_some (cond b (Some e.1) (find path_cmp x es))) None (node_at F x)) [
      | true ↦ elim (is_some (find path_cmp x es)) as (λ b. cond b None (cond true None (node_at F x)) ≡ None) [ true ↦ refl | false ↦ refl ]
      | false ↦ refl
    ]

-- each entry is the filestore's
abbrev pub Holds : Filestore → List (Path × Node) → Type 0
Holds F es = (x : Path) → IsSome (find path_cmp x es) → node_at F x ≡ find path_cmp x es

holds_rest : (F : Filestore) (e : Path × Node) (es : List (Path × Node)) → T (is_sorted path_cmp (e ∷ es)) → Holds F (e ∷ es) →
    Holds (changed F (Becomes e.0 None)) es
holds_rest F e es h holds x there =
    elim (same_path x e.0) as (λ b. same_path x e.0 ≡ b → node_at (changed F (Becomes e.0 None)) x ≡ find path_cmp x es) [
      | true ↦ λ t. absurd (true≢false (sym there ∙ ap is_some (find_later e es h x t)))
      | false ↦ λ t.
          let same : find path_cmp x (e ∷ es) ≡ find path_cmp x es = ap (λ b. cond b (Some e.1) (find path_cmp x es)) t in
          node_at-becomes_apart F e.0 None x t ∙ holds x (ap is_some same ∙ there) ∙ same
    ] refl

holds_first : (F : Filestore) (e : Path × Node) (es : List (Path × Node)) → Holds F (e ∷ es) → node_at F e.0 ≡ Some e.1
holds_first F e es holds =
    let here : find path_cmp e.0 (e ∷ es) ≡ Some e.1 = ap (λ b. cond b (Some e.1) (find path_cmp e.0 es)) (same_path-refl e.0) in
    holds e.0 (ap is_some here) ∙ here

pub blocks-vacated : (F : Filestore) (es : List (Path × Node)) → T (is_sorted path_cmp es) → Holds F es → blocks (after F (vacating es)) + weights es ≡ blocks F
blocks-vacated F [] h holds = omega arith
blocks-vacated F (e ∷ es) h holds =
    let G = changed F (Becomes e.0 None) in
    let rest : blocks (after G (vacating es)) + weights es ≡ blocks G = blocks-vacated G es (sorted_rest e es h) (holds_rest F e es h holds) in
    let one : blocks G + weight (Some e.1) ≡ blocks F + 0 = grows_one F e.0 None (Some e.1) (holds_first F e es holds) in
    omega arith

-- ---- arriving

-- nothing is where they are to be
abbrev pub Vacant : Path → Path → Filestore → List (Path × Node) → Type 0
Vacant p q G es = (x : Path) → IsTrue (is_at_or_below x q) → IsSome (find path_cmp (rebased q p x) es) → node_at G x ≡ None

pub head_below : (p : Path) (e : Path × Node) (es : List (Path × Node)) → AllBelow p (e ∷ es) → is_at_or_below e.0 p ≡ true
unfolding AllBelow
head_below p e es h = h.0

pub tail_below : (p : Path) (e : Path × Node) (es : List (Path × Node)) → AllBelow p (e ∷ es) → AllBelow p es
unfolding AllBelow
tail_below p e es h = h.1

vacant_rest : (p q : Path) (G : Filestore) (e : Path × Node) (es : List (Path × Node)) → T (is_sorted path_cmp (e ∷ es)) → AllBelow p (e ∷ es) →
    Vacant p q G (e ∷ es) → Vacant p q (changed G (Becomes (rebased p q e.0) (Some e.1))) es
vacant_rest p q G e es h all vacant x below there =
    let y = rebased q p x in
    let moved : same_path x (rebased p q e.0) ≡ same_path y e.0 = same_rebased p q x e.0 below (head_below p e es all) in
    elim (same_path y e.0) as (λ b. same_path y e.0 ≡ b → node_at (changed G (Becomes (rebased p q e.0) (Some e.1))) x ≡ None) [
      | true ↦ λ t. absurd (true≢false (sym there ∙ ap is_some (find_later e es h y t)))
      | false ↦ λ t.
          let same : find path_cmp y (e ∷ es) ≡ find path_cmp y es = ap (λ b. cond b (Some e.1) (find path_cmp y es)) t in
          node_at-becomes_apart G (rebased p q e.0) (Some e.1) x (moved ∙ t) ∙ vacant x below (ap is_some same ∙ there)
    ] refl

vacant_first : (p q : Path) (G : Filestore) (e : Path × Node) (es : List (Path × Node)) → AllBelow p (e ∷ es) → Vacant p q G (e ∷ es) →
    node_at G (rebased p q e.0) ≡ None
vacant_first p q G e es all vacant =
    let back : rebased q p (rebased p q e.0) ≡ e.0 = rebased_back p q e.0 (head_below p e es all) in
    let here : find path_cmp e.0 (e ∷ es) ≡ Some e.1 = ap (λ b. cond b (Some e.1) (find path_cmp e.0 es)) (same_path-refl e.0) in
    vacant (rebased p q e.0) (rebased-below p q e.0) (ap (λ y. is_some (find path_cmp y (e ∷ es))) back ∙ ap is_some here)

pub blocks-arriving : (p q : Path) (G : Filestore) (es : List (Path × Node)) → T (is_sorted path_cmp es) → AllBelow p es → Vacant p q G es →
    blocks (after G (arriving p q es)) ≡ blocks G + weights es
blocks-arriving p q G [] h all vacant = omega arith
blocks-arriving p q G (e ∷ es) h all vacant =
    let H = changed G (Becomes (rebased p q e.0) (Some e.1)) in
    let rest : blocks (after H (arriving p q es)) ≡ blocks H + weights es =
    blocks-arriving p q H es (sorted_rest e es h) (tail_below p e es all) (vacant_rest p q G e es h all vacant) in
    let one : blocks H + 0 ≡ blocks G + weight (Some e.1) = grows_one G (rebased p q e.0) (Some e.1) None (vacant_first p q G e es all vacant) in
    omega arith

-- at what is at or below q
pub node_at-arriving : (p q : Path) (G : Filestore) (es : List (Path × Node)) → T (is_sorted path_cmp es) → AllBelow p es → (x : Path) → is_at_or_below x q
    ≡ true →
    node_at (after G (arriving p q es)) x ≡ cond (is_some (find path_cmp (rebased q p x) es)) (find path_cmp (rebased q p x) es) (node_at G x)
node_at-arriving p q G [] h all x below = refl
node_at-arriving p q G (e ∷ es) h all x below =
    let y = rebased q p x in
    let H = changed G (Becomes (rebased p q e.0) (Some e.1)) in
    node_at-arriving p q H es (sorted_rest e es h) (tail_below p e es all) x below
    ∙ ap (λ v. cond (is_some (find path_cmp y es)) (find path_cmp y es) v) (node_at-becomes G (rebased p q e.0) (Some e.1) x
    ∙ ap (λ b. cond b (Some e.1) (node_at G x)) (same_rebased p q x e.0 below (head_below p e es all)))
    ∙ elim (same_path y e.0) as (λ b. same_path y e.0 ≡ b →
    cond (is_some (find path_cmp y es)) (find path_cmp y es) (cond b (Some e.1) (node_at G x))
    ≡ cond (is_some (cond b (Some e.1) (find path_cmp y es))) (cond b (Some e.1) (find path_cmp y es)) (node_at G x)) [
      | true ↦ λ t. ap (λ v. cond (is_some v) v (Some e.1)) (find_later e es h y t)
      | false ↦ λ t. refl
    ] refl

-- and at all others
pub node_at-arriving_apart : (p q : Path) (G : Filestore) (es : List (Path × Node)) (x : Path) → is_at_or_below x q ≡ false →
    node_at (after G (arriving p q es)) x ≡ node_at G x
node_at-arriving_apart p q G [] x apart = refl
node_at-arriving_apart p q G (e ∷ es) x apart =
    node_at-arriving_apart p q (changed G (Becomes (rebased p q e.0) (Some e.1))) es x apart
    ∙ node_at-becomes_apart G (rebased p q e.0) (Some e.1) x (other (same_path x (rebased p q e.0)) refl)
  where
    other : (b : Bool) → same_path x (rebased p q e.0) ≡ b → b ≡ false
    other true t = absurd (true≢false (sym (ap (λ y. is_at_or_below y q) (same_path-true x (rebased p q e.0) t) ∙ rebased-below p q e.0) ∙ apart))
    other false t = refl

-- ---- path by path

abbrev pub moved : Filestore → Path → Path → Filestore
moved F p q = after F (vacating (tree_at F p) ++ arriving p q (tree_at F p))

pub holds_tree : (F : Filestore) (p : Path) → Holds F (tree_at F p)
holds_tree F p x there =
    elim (is_at_or_below x p) as (λ b. find path_cmp x (tree_at F p) ≡ cond b (node_at F x) None → node_at F x ≡ find path_cmp x (tree_at F p)) [
      | true ↦ λ e. sym e
      | false ↦ λ e. absurd (true≢false (sym there ∙ ap is_some e))
    ] (find-tree_at F p x)

-- without what is at or below p
pub node_at-vacated_tree : (F : Filestore) (p x : Path) → node_at (after F (vacating (tree_at F p))) x ≡ cond (is_at_or_below x p) None (node_at F x)
node_at-vacated_tree F p x =
    node_at-vacated F (tree_at F p) x
    ∙ ap (λ v. cond (is_some v) None (node_at F x)) (find-tree_at F p x)
    ∙ elim (is_at_or_below x p) as (λ b. cond (is_some (cond b (node_at F x) None)) None (node_at F x) ≡ cond b None (node_at F x)) [
      | true ↦ none_where_some (node_at F x)
      | false ↦ refl
    ]

-- where nothing exists at or below q
module _ (F : Filestore) (p q : Path) (empty : (x : Path) → is_at_or_below x q ≡ true → node_at F x ≡ None) where
  pub nothing_vacated : (x : Path) → is_at_or_below x q ≡ true → node_at (after F (vacating (tree_at F p))) x ≡ None
  nothing_vacated x below =
      node_at-vacated F (tree_at F p) x
      ∙ ap (λ v. cond (is_some (find path_cmp x (tree_at F p))) None v) (empty x below)
      ∙ elim (is_some (find path_cmp x (tree_at F p))) as (λ b. cond {A = Option Node} b None None ≡ None) [ true ↦ refl | false ↦ refl ]

  -- the blocks stay
  pub blocks-moved_free : blocks (moved F p q) ≡ blocks F
  blocks-moved_free =
      let es = tree_at F p in
      let out : blocks (after F (vacating es)) + weights es ≡ blocks F = blocks-vacated F es (tree_at-sorted F p) (holds_tree F p) in
      let back : blocks (after (after F (vacating es)) (arriving p q es)) ≡ blocks (after F (vacating es)) + weights es =
      blocks-arriving p q (after F (vacating es)) es (tree_at-sorted F p) (tree_at-all F p) (λ x below there. nothing_vacated x below) in
      ap blocks (after-append F (vacating es) (arriving p q es)) ∙ back ∙ out

  -- at or below q is what was at or below p
  pub moved_there_free : (x : Path) → is_at_or_below x q ≡ true → node_at (moved F p q) x ≡ node_at F (rebased q p x)
  moved_there_free x below =
      let y = rebased q p x in
      let es = tree_at F p in
      ap (λ G. node_at G x) (after-append F (vacating es) (arriving p q es))
      ∙ node_at-arriving p q (after F (vacating es)) es (tree_at-sorted F p) (tree_at-all F p) x below
      ∙ ap (λ v. cond (is_some (find path_cmp y es)) (find path_cmp y es) v) (nothing_vacated x below)
      ∙ itself (find path_cmp y es)
      ∙ find-tree_at F p y ∙ ap (λ b. cond b (node_at F y) None) (rebased-below q p x)
    where
      itself : (v : Option Node) → cond (is_some v) v None ≡ v
      itself None = refl
      itself (Some n) = refl

module _ (F : Filestore) (p q : Path) (rooted : IsRooted F) (named : q ≢ []) (none : node_at F q ≡ None) where
  pub nothing_there : (x : Path) → is_at_or_below x q ≡ true → node_at F x ≡ None
  nothing_there x below = below_absent F q rooted named none (length x) x (le_refl _) below

  -- at or below q is what was at or below p
  pub moved_there : (x : Path) → is_at_or_below x q ≡ true → node_at (moved F p q) x ≡ node_at F (rebased q p x)
  moved_there = moved_there_free F p q nothing_there

  -- at or below p nothing exists any more, and at all others what was there
  pub moved_apart : (x : Path) → is_at_or_below x q ≡ false → node_at (moved F p q) x ≡ cond (is_at_or_below x p) None (node_at F x)
  moved_apart x apart =
      let es = tree_at F p in
      ap (λ G. node_at G x) (after-append F (vacating es) (arriving p q es))
      ∙ node_at-arriving_apart p q (after F (vacating es)) es x apart
      ∙ node_at-vacated_tree F p x

  -- the blocks stay
  pub blocks-moved : blocks (moved F p q) ≡ blocks F
  blocks-moved = blocks-moved_free F p q nothing_there

pub rename-grows : (F : Filestore) (p q : Path) (a b : Option Node) (good below : Bool) → IsRooted F → node_at F q ≡ b → parent_is_good F q ≡ good →
    Grows F (rename p q a b good below (tree_at F p))
unfolding rename
rename-grows F p q None b good below rooted e g = refl
rename-grows F p q (Some node) (Some other) good below rooted e g = refl
rename-grows F p q (Some node) None false below rooted e g = refl
rename-grows F p q (Some node) None true true rooted e g = refl
rename-grows F p q (Some node) None true false rooted e g =
    elim (is_too_deep p q (tree_at F p)) as (λ deep. Grows F (if deep then refused (NotAllowed action.RenameFile)
    else succeeds action.RenameFile (vacating (tree_at F p) ++ arriving p q (tree_at F p)) 0 0 0)) [
      | true ↦ refl
      | false ↦ ap (λ n. n + 0) (blocks-moved F p q rooted (has_name q g) e)
    ]
  where
    has_name : (q : Path) → parent_is_good F q ≡ true → q ≢ []
    has_name [] g e = true≢false (sym g)
    has_name (n ∷ q) g e = true≢false (ap is_root (sym e))

-- ---- the staged lists stay

staged-vacated : (F : Filestore) (es : List (Path × Node)) → (after F (vacating es)).staged ≡ F.staged
staged-vacated F [] = refl
staged-vacated F (e ∷ es) = staged-vacated (changed F (Becomes e.0 None)) es

staged-arriving : (p q : Path) (F : Filestore) (es : List (Path × Node)) → (after F (arriving p q es)).staged ≡ F.staged
staged-arriving p q F [] = refl
staged-arriving p q F (e ∷ es) = staged-arriving p q (changed F (Becomes (rebased p q e.0) (Some e.1))) es

pub staged-moved : (F : Filestore) (p q : Path) → (moved F p q).staged ≡ F.staged
staged-moved F p q = ap (λ (G : Filestore). G.staged) (after-append F (vacating (tree_at F p)) (arriving p q (tree_at F p)))
    ∙ staged-arriving p q (after F (vacating (tree_at F p))) (tree_at F p) ∙ staged-vacated F (tree_at F p)
