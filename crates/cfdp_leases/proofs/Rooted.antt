-- Rows keep the filestore rooted: each path's parent stays the root or a directory.
--     IsParent F a             the path is the root or a directory
--     rooted_becomes           one change keeps the filestore rooted
--     arriving_at, vacated_at  what is at a path after a directory was moved
--     stays_rooted
use Rattle.std.proofs.Common.{◌≡◌, ◌≢◌, refl, sym, ◌∙◌, ap, subst, ℕ, ◌≤◌, Bool, true, false, cond, ◌||◌, ◌⊎◌, inl, inr, List, [], ◌∷◌, ◌++◌, map, length, drop, arith}
use Rattle.std.specs.FinMap.Entries.{below_all, is_sorted, find}
use Rattle.std.specs.Cmp.{tied_itself}
use Rattle.cfdp_status.specs.declared.action.Action.TheVariants as action
use Rattle.cfdp_status.specs.declared.status.Status.TheVariants.{NotAllowed}
use Rattle.cfdp_actions.specs.Actions.{Item, Install, Perform, Request, CreateFile, DeleteFile, RenameFile, AppendFile, ReplaceFile, CreateDirectory, RemoveDirectory, DenyFile, DenyDirectory, refused, succeeds, create, delete_file, rename, vacating, arriving, append, replace, remove_directory, deny_file, deny_directory, install, table, free_row, is_barred, denied, row}
use Rattle.cfdp_leases.specs.Laws.{StaysRooted}
use Rattle.std.specs.Prelude.{Option, Some, None, is_some, if◌then◌else◌}
use Rattle.std.specs.List.{list_any, AllByRecursion}
use Rattle.std.proofs.lemmas.List.{append_cancel_left, append-nil}
use Rattle.std.specs.FinMap as finite
use Rattle.std.specs.declared.cmp.Ordering.TheVariants.{Less, Equal}
use Rattle.std.proofs.lemmas.Bool.{or_cases, true≢false, cases_Bool, and_parts, false_from_ne_true, not-false, eqb-true}
use Rattle.cfdp_status.specs.declared.action.Action.{Action}
use Rattle.cfdp_paths.specs.Paths.{Path, path_cmp, same_path, is_at_or_below, is_below, parent, rebased}
use Rattle.cfdp_paths.proofs.Comparing.{same_path-Decides, path_cmp-total}
use Rattle.cfdp_paths.proofs.Below.{at_or_below-trans, at_or_below-append, at_or_below-antisym, append_from_at_or_below, parent_at_or_below, parent_below, parent_other}
use Rattle.cfdp_actions.specs.Filestore.{Node, Directory, File, Filestore, node_at, staged_in, Becomes, Stages, changed, after, inside, has_entries, is_directory, is_good, parent_is_good, IsRooted, tree_at}
use Rattle.cfdp_leases.proofs.Sets.{exists}
use Rattle.cfdp_leases.proofs.ChangeFrame.{node_at-changed, keys_pass, tree_below}
use Rattle.cfdp_paths.proofs.InOrder.{less_by, true_from_T}
use Rattle.cfdp_paths.specs.PathMaps.{is_too_deep}
use Rattle.cfdp_actions.proofs.Moves.{after-append, below_absent, moved}
use Rattle.cfdp_actions.proofs.Prefixes.{drop_append}
use Rattle.cfdp_actions.proofs.Order.{same_path-refl, get_kept}

-- ---- parents

-- the root or a directory
abbrev pub IsParent : Filestore → Path → Type 0
IsParent F a = (a ≡ []) ⊎ (is_directory (node_at F a) ≡ true)

good_parts : (F : Filestore) (x : Path) → parent_is_good F x ≡ true → (x ≢ []) × IsParent F (parent x)
good_parts F [] h = absurd (true≢false (sym h))
good_parts F (n ∷ x) h = ((λ e. cc), at (parent (n ∷ x)) h)
  where
    at : (a : Path) → is_good F a ≡ true → IsParent F a
    at [] h = inl refl
    at (m ∷ a) h = inr h

good_from : (F : Filestore) (x : Path) → x ≢ [] → IsParent F (parent x) → parent_is_good F x ≡ true
good_from F [] some h = absurd (some refl)
good_from F (n ∷ x) some h = at (parent (n ∷ x)) h
  where
    at : (a : Path) → IsParent F a → is_good F a ≡ true
    at [] h = refl
    at (m ∷ a) (inl h) = absurd (let no : ◌≢◌ {A = Path} (m ∷ a) [] = λ e. cc in no h)
    at (m ∷ a) (inr h) = h

is_some_since : (x : Option Node) → is_directory x ≡ true → is_some x ≡ true
is_some_since None h = absurd (true≢false (sym h))
is_some_since (Some Directory) h = refl
is_some_since (Some (File octets)) h = refl

-- ---- one change

-- what is written at p has a good parent, and is a directory where something is in p
pub rooted_becomes : (F : Filestore) (p : Path) (node : Option Node) → IsRooted F → (is_some node ≡ true → parent_is_good F p ≡ true) →
    ((x : Path) → x ≢ [] → parent x ≡ p → is_some (node_at F x) ≡ true → is_directory node ≡ true) → IsRooted (changed F (Becomes p node))
rooted_becomes F p node rooted placed full x there =
    elim (cases_Bool (same_path x p)) [
      | inl e ↦
          let same : x ≡ p = (same_path-Decides x p).0 e in
          let written_there : is_some node ≡ true = sym (ap is_some (node_at-changed F (Becomes p node) x ∙ ap (λ b. cond b node (node_at F x)) e)) ∙ there in
          let parts = good_parts F p (placed written_there) in
          let some : x ≢ [] = λ none. parts.0 (sym same ∙ none) in
          good_from (changed F (Becomes p node)) x some (stays (parent x) (subst (λ y. IsParent F (parent y)) (sym same) parts.1)
          (λ again. absurd (parent_other x some (same ∙ sym again))))
      | inr e ↦
          let before : is_some (node_at F x) ≡ true = sym (ap is_some (node_at-changed F (Becomes p node) x ∙ ap (λ b. cond b node (node_at F x)) e)) ∙ there in
          let parts = good_parts F x (rooted x before) in
          good_from (changed F (Becomes p node)) x parts.0 (stays (parent x) parts.1 (λ again. full x parts.0 again before))
    ]
  where
    stays : (a : Path) → IsParent F a → (a ≡ p → is_directory node ≡ true) → IsParent (changed F (Becomes p node)) a
    stays a (inl root) here = inl root
    stays a (inr directory) here =
        elim (cases_Bool (same_path a p)) [
          | inl e ↦ inr (ap is_directory (node_at-changed F (Becomes p node) a ∙ ap (λ b. cond b node (node_at F a)) e) ∙ here ((same_path-Decides a p).0 e))
          | inr e ↦ inr (ap is_directory (node_at-changed F (Becomes p node) a ∙ ap (λ b. cond b node (node_at F a)) e) ∙ directory)
        ]

-- nothing is in what is no directory
nothing_in : (F : Filestore) (p : Path) → IsRooted F → is_directory (node_at F p) ≡ false → (x : Path) → x ≢ [] → parent x ≡ p → is_some (node_at F x) ≡ true →
    p ≡ []
nothing_in F p rooted plain x some above there =
    elim (good_parts F x (rooted x there)).1 [
      | inl root ↦ sym above ∙ root
      | inr directory ↦ absurd (true≢false (sym directory ∙ ap (λ a. is_directory (node_at F a)) above ∙ plain))
    ]

-- ---- the entries of a tree

all_both : {X : Type 0} (P Q S : X → Type 0) → ((x : X) → P x → Q x → S x) → (xs : List X) → AllByRecursion P xs → AllByRecursion Q xs → AllByRecursion S xs
all_both P Q S gives [] p q = tt
all_both P Q S gives (x ∷ xs) p q = (gives x p.0 q.0, all_both P Q S gives xs p.1 q.1)

abbrev Entry : Type 0
Entry = Path × Node

-- in a list whose keys strictly rise, each key finds its own entry
less_keys : (k : Path) (es : List Entry) → below_all path_cmp k es ≡ true → AllByRecursion (λ (e : Entry). path_cmp k e.0 ≡ Less) es
less_keys k [] h = tt
less_keys k (e ∷ es) h =
    let parts = and_parts _ _ h in (less_by (path_cmp k e.0) parts.0, less_keys k es parts.1)

found_later : (e f : Entry) (es : List Entry) → path_cmp e.0 f.0 ≡ Less → find path_cmp f.0 es ≡ Some f.1 → find path_cmp f.0 (e ∷ es) ≡ Some f.1
found_later e f es less found =
    elim (cases_Bool (same_path f.0 e.0)) [
      | inl tie ↦
          let same : f.0 ≡ e.0 = (same_path-Decides f.0 e.0).0 tie in
          let both : Less ≡ Equal = sym less ∙ ap (path_cmp e.0) same ∙ tied_itself path_cmp-total e.0 in
          absurd (cc)
      | inr apart ↦ ap (λ b. cond b (Some e.1) (find path_cmp f.0 es)) apart ∙ found
    ]

found_each : (es : List Entry) → is_sorted path_cmp es ≡ true → AllByRecursion (λ (e : Entry). find path_cmp e.0 es ≡ Some e.1) es
found_each [] h = tt
found_each (e ∷ es) h =
    let parts = and_parts _ _ h in (
      ap (λ b. cond b (Some e.1) (find path_cmp e.0 es)) (same_path-refl e.0),
      all_both (λ (f : Entry). path_cmp e.0 f.0 ≡ Less) (λ (f : Entry). find path_cmp f.0 es ≡ Some f.1) (λ (f : Entry). find path_cmp f.0 (e ∷ es) ≡ Some f.1)
          (λ f less found. found_later e f es less found) es (less_keys e.0 es parts.0) (found_each es parts.1),
    )

-- of an entry of the tree at p
abbrev pub Of : Filestore → Path → Entry → Type 0
Of F p e = (is_at_or_below e.0 p ≡ true) × (node_at F e.0 ≡ Some e.1)

pub tree_at-of : (F : Filestore) (p : Path) → AllByRecursion (Of F p) (tree_at F p)
tree_at-of F p =
    let kept = finite.retain_keys F.nodes (λ q. is_at_or_below q p) in
    all_both (λ (e : Entry). is_at_or_below e.0 p ≡ true) (λ (e : Entry). find path_cmp e.0 (tree_at F p) ≡ Some e.1) (Of F p)
    (λ e below found. (
      below,
      sym (ap (λ b. cond b (node_at F e.0) None) below) ∙ sym (get_kept F (λ q. is_at_or_below q p) e.0) ∙ finite.get-entries kept e.0 ∙ found,
    ))
    (tree_at F p) (tree_below F p) (found_each (tree_at F p) (true_from_T _ (finite.entries_sorted kept)))

-- what is at or below p is a key of the tree
key_since : (F : Filestore) (p x : Path) → is_at_or_below x p ≡ true → is_some (node_at F x) ≡ true → exists x (map (λ (e : Entry). e.0) (tree_at F p))
key_since F p x below there =
    let kept = finite.retain_keys F.nodes (λ q. is_at_or_below q p) in
    sym (finite.contains_key-keys kept x)
    ∙ ap is_some (get_kept F (λ q. is_at_or_below q p) x ∙ ap (λ b. cond b (node_at F x) None) below) ∙ there

-- ---- a directory that is moved

vacated_at : (F : Filestore) (es : List Entry) (x : Path) → node_at (after F (vacating es)) x
    ≡ cond (list_any (same_path x) (map (λ (e : Entry). e.0) es)) None (node_at F x)
vacated_at F [] x = refl
vacated_at F (e ∷ es) x =
    vacated_at (changed F (Becomes e.0 None)) es x
    ∙ ap (λ y. cond (list_any (same_path x) (map (λ (e : Entry). e.0) es)) None y) (node_at-changed F (Becomes e.0 None) x)
    ∙ either (same_path x e.0) (list_any (same_path x) (map (λ (e : Entry). e.0) es)) (node_at F x)
  where
    either : (a b : Bool) (y : Option Node) → cond b None (cond a None y) ≡ cond (a || b) None y
    either true true y = refl
    either true false y = refl
    either false b y = refl

-- at x is an entry's node, where x is where the entry goes, or else what was there
arriving_at : (Q : Entry → Type 0) (F : Filestore) (p q : Path) (es : List Entry) (x : Path) → AllByRecursion Q es →
    ((e : Entry) × Q e × (rebased p q e.0 ≡ x) × (node_at (after F (arriving p q es)) x ≡ Some e.1))
    ⊎ ((node_at (after F (arriving p q es)) x ≡ node_at F x) × AllByRecursion (λ (e : Entry). rebased p q e.0 ≢ x) es)
arriving_at Q F p q [] x all = inr (refl, tt)
arriving_at Q F p q (e ∷ es) x all =
    elim (arriving_at Q (changed F (Becomes (rebased p q e.0) (Some e.1))) p q es x all.1) [
      | inl later ↦ inl later
      | inr none ↦
          elim (cases_Bool (same_path x (rebased p q e.0))) [
            | inl here ↦ inl (
              e,
              all.0,
              sym ((same_path-Decides x (rebased p q e.0)).0 here),
              none.0 ∙ node_at-changed F (Becomes (rebased p q e.0) (Some e.1)) x ∙ ap (λ b. cond b (Some e.1) (node_at F x)) here,
            )
            | inr apart ↦ inr (
              none.0 ∙ node_at-changed F (Becomes (rebased p q e.0) (Some e.1)) x ∙ ap (λ b. cond b (Some e.1) (node_at F x)) apart,
              (λ same. true≢false (sym ((same_path-Decides x (rebased p q e.0)).1 (sym same)) ∙ apart), none.1),
            )
          ]
    ]

-- ---- renaming

parent-append : (q r : Path) → r ≢ [] → parent (q ++ r) ≡ q ++ parent r
parent-append q [] some = absurd (some refl)
parent-append [] (n ∷ r) some = refl
parent-append (m ∷ []) (n ∷ r) some = refl
parent-append (m ∷ l ∷ q) (n ∷ r) some = ap (λ y. m ∷ y) (parent-append (l ∷ q) (n ∷ r) some)

none_exists : (P : Path → Type 0) (es : List Entry) (x : Path) → AllByRecursion (λ (e : Entry). P e.0) es → exists x (map (λ (e : Entry). e.0) es) → P x
none_exists P [] x all h = absurd (true≢false (sym h))
none_exists P (e ∷ es) x all h =
    elim (or_cases (same_path x e.0) (list_any (same_path x) (map (λ (f : Entry). f.0) es)) h) [
      | inl same ↦ subst P (sym ((same_path-Decides x e.0).0 same)) all.0
      | inr rest ↦ none_exists P es x all.1 rest
    ]

-- p, which exists, is moved to q, which does not, has a parent, and is not at or below p
pub record IsMove (F : Filestore) (p q : Path) : Type 0 where
  pub rooted : IsRooted F
  pub there : is_some (node_at F p) ≡ true
  pub absent : node_at F q ≡ None
  pub good : parent_is_good F q ≡ true
  pub apart : is_at_or_below q p ≡ false

module _ (F : Filestore) (p q : Path) (move : IsMove F p q) where
  named_p : p ≢ []
  named_p = (good_parts F p (move.rooted p move.there)).0

  named_q : q ≢ []
  named_q = (good_parts F q move.good).0

  -- what is at x afterwards: an entry's node, or what was there and is not at or below p
  moved_at : (x : Path) →
      ((e : Entry) × Of F p e × (rebased p q e.0 ≡ x) × (node_at (moved F p q) x ≡ Some e.1))
      ⊎ ((node_at (moved F p q) x ≡ cond (list_any (same_path x) (map (λ (e : Entry). e.0) (tree_at F p))) None (node_at F x))
      × AllByRecursion (λ (e : Entry). rebased p q e.0 ≢ x) (tree_at F p))
  moved_at x =
      let es = tree_at F p in
      let split : node_at (moved F p q) x ≡ node_at (after (after F (vacating es)) (arriving p q es)) x =
      ap (λ G. node_at G x) (after-append F (vacating es) (arriving p q es)) in
      elim (arriving_at (Of F p) (after F (vacating es)) p q es x (tree_at-of F p)) [
        | inl found ↦ inl (found.0, found.1, found.2, split ∙ found.3)
        | inr none ↦ inr (split ∙ none.0 ∙ vacated_at F es x, none.1)
      ]

  -- a directory that is not at or below p, nor at or below q, stays one
  stays_directory : (a : Path) → is_directory (node_at F a) ≡ true → is_at_or_below a p ≡ false → is_at_or_below a q ≡ false →
      is_directory (node_at (moved F p q) a) ≡ true
  stays_directory a directory off_p off_q =
      elim (moved_at a) [
        | inl found ↦ absurd (true≢false (sym (subst (λ y. is_at_or_below y q ≡ true) found.2 (at_or_below-append q (drop (length p) found.0.0))) ∙ off_q))
        | inr none ↦
            elim (cases_Bool (list_any (same_path a) (map (λ (e : Entry). e.0) (tree_at F p)))) [
              | inl key ↦ absurd (true≢false (sym (keys_pass F (λ y. is_at_or_below y p) a key) ∙ off_p))
              | inr off ↦ ap is_directory (none.0 ∙ ap (λ b. cond b None (node_at F a)) off) ∙ directory
            ]
      ]

  -- a directory p/r makes a directory q/r
  moves_directory : (r : Path) → is_directory (node_at F (p ++ r)) ≡ true → is_directory (node_at (moved F p q) (q ++ r)) ≡ true
  moves_directory r directory =
      let goes : rebased p q (p ++ r) ≡ q ++ r = ap (λ y. q ++ y) (drop_append p r) in
      elim (moved_at (q ++ r)) [
        | inl found ↦
            let rest : drop (length p) found.0.0 ≡ r = append_cancel_left q (drop (length p) found.0.0) r found.2 in
            let from : found.0.0 ≡ p ++ r = append_from_at_or_below found.0.0 p found.1.0 ∙ ap (λ y. p ++ y) rest in
            ap is_directory (found.3 ∙ sym found.1.1 ∙ ap (node_at F) from) ∙ directory
        | inr none ↦
            absurd (none_exists (λ y. rebased p q y ≢ q ++ r) (tree_at F p) (p ++ r) none.1
            (key_since F p (p ++ r) (at_or_below-append p r) (is_some_since (node_at F (p ++ r)) directory)) goes)
      ]

  parent_q_off_p : is_at_or_below (parent q) p ≡ false
  parent_q_off_p = false_from_ne_true (is_at_or_below (parent q) p) (λ h.
      true≢false (sym (at_or_below-trans q (parent q) p (parent_at_or_below q) h) ∙ move.apart))

  parent_q_off_q : is_at_or_below (parent q) q ≡ false
  parent_q_off_q = false_from_ne_true (is_at_or_below (parent q) q) (λ h. parent_other q named_q (at_or_below-antisym q (parent q) (parent_at_or_below q) h))

  -- what came from p/r has a parent at q/r
  landed : (r : Path) → is_some (node_at F (p ++ r)) ≡ true → parent_is_good (moved F p q) (q ++ r) ≡ true
  landed [] there =
      subst (λ y. parent_is_good (moved F p q) y ≡ true) (sym (append-nil q))
      (good_from (moved F p q) q named_q
      (elim (good_parts F q move.good).1 [
        | inl root ↦ inl root
        | inr directory ↦ inr (stays_directory (parent q) directory parent_q_off_p parent_q_off_q)
      ]))
  landed (n ∷ r) there =
      let some : ◌≢◌ {A = Path} (n ∷ r) [] = λ e. cc in
      let from : parent (p ++ n ∷ r) ≡ p ++ parent (n ∷ r) = parent-append p (n ∷ r) some in
      let to : parent (q ++ n ∷ r) ≡ q ++ parent (n ∷ r) = parent-append q (n ∷ r) some in
      good_from (moved F p q) (q ++ n ∷ r) (named q (n ∷ r) named_q)
      (elim (good_parts F (p ++ n ∷ r) (move.rooted (p ++ n ∷ r) there)).1 [
        | inl root ↦ absurd (named p (parent (n ∷ r)) named_p (sym from ∙ root))
        | inr directory ↦
            inr (ap (λ y. is_directory (node_at (moved F p q) y)) to
            ∙ moves_directory (parent (n ∷ r)) (ap (λ y. is_directory (node_at F y)) (sym from) ∙ directory))
      ])
    where
      named : (a b : Path) → a ≢ [] → a ++ b ≢ []
      named [] b some e = some refl
      named (m ∷ a) b some e = (cc)

  -- what was there and was not moved still has its parent
  stayed : (x : Path) → is_some (node_at F x) ≡ true → list_any (same_path x) (map (λ (e : Entry). e.0) (tree_at F p)) ≡ false → parent_is_good (moved F p q) x
      ≡ true
  stayed x there off =
      let parts = good_parts F x (move.rooted x there) in
      let off_p : is_at_or_below x p ≡ true → ⊥ = λ h. true≢false (sym (key_since F p x h there) ∙ off) in
      let off_q : is_at_or_below x q ≡ true → ⊥ = λ h.
      true≢false (sym there ∙ ap is_some (below_absent F q move.rooted named_q move.absent (length x) x (omega arith) h)) in
      good_from (moved F p q) x parts.0
      (elim parts.1 [
        | inl root ↦ inl root
        | inr directory ↦
            inr (stays_directory (parent x) directory
            (false_from_ne_true (is_at_or_below (parent x) p) (λ h. off_p (at_or_below-trans x (parent x) p (parent_at_or_below x) h)))
            (false_from_ne_true (is_at_or_below (parent x) q) (λ h. off_q (at_or_below-trans x (parent x) q (parent_at_or_below x) h))))
      ])

  pub rooted_moved : IsRooted (moved F p q)
  rooted_moved x there =
      elim (moved_at x) [
        | inl found ↦
            let r : Path = drop (length p) found.0.0 in
            let from : found.0.0 ≡ p ++ r = append_from_at_or_below found.0.0 p found.1.0 in
            subst (λ y. parent_is_good (moved F p q) y ≡ true) found.2
            (landed r (ap (λ y. is_some (node_at F y)) (sym from) ∙ ap is_some found.1.1))
        | inr none ↦
            elim (cases_Bool (list_any (same_path x) (map (λ (e : Entry). e.0) (tree_at F p)))) [
              | inl key ↦ absurd (true≢false (sym there ∙ ap is_some (none.0 ∙ ap (λ b. cond b None (node_at F x)) key)))
              | inr off ↦ stayed x (sym (ap is_some (none.0 ∙ ap (λ b. cond b None (node_at F x)) off)) ∙ there) off
            ]
      ]

-- ---- rows

-- nothing is in what is no directory, so what is written there may be anything
module _ (F : Filestore) (rooted : IsRooted F) where
  becomes_plain : (p : Path) (node x : Option Node) → node_at F p ≡ x → is_directory x ≡ false → p ≢ [] → (is_some node ≡ true → parent_is_good F p ≡ true) →
      IsRooted (changed F (Becomes p node))
  becomes_plain p node x at plain named placed =
      rooted_becomes F p node rooted placed
      (λ y some above there. absurd (named (nothing_in F p rooted (ap is_directory at ∙ plain) y some above there)))

  named_since : (p : Path) (node : Node) → node_at F p ≡ Some node → p ≢ []
  named_since p node at = (good_parts F p (rooted p (ap is_some at))).0

  file_gone : (p : Path) (octets : List ℕ) → node_at F p ≡ Some (File octets) → IsRooted (changed F (Becomes p None))
  file_gone p octets at = becomes_plain p None (Some (File octets)) at refl (named_since p (File octets) at) (λ h. absurd (true≢false (sym h)))

  file_written : (p : Path) (octets new : List ℕ) → node_at F p ≡ Some (File octets) → IsRooted (changed F (Becomes p (Some (File new))))
  file_written p octets new at = becomes_plain p (Some (File new)) (Some (File octets)) at refl (named_since p (File octets) at) (λ _. rooted p (ap is_some at))

  made : (p : Path) (node : Node) → node_at F p ≡ None → parent_is_good F p ≡ true → IsRooted (changed F (Becomes p (Some node)))
  made p node at good = becomes_plain p (Some node) None at refl (good_parts F p good).0 (λ _. good)

  nothing_inside : (p x : Path) → has_entries F p ≡ false → is_below x p ≡ true → node_at F x ≡ None
  nothing_inside p x none below =
      let no_length : finite.len (inside F p) ≡ 0 = eqb-true _ _ (not-false _ none) in
      sym (get_kept F (λ q. is_below q p) x ∙ ap (λ b. cond b (node_at F x) None) below)
      ∙ ap (λ m. finite.get m x) (finite.empty_of_len (inside F p) no_length) ∙ finite.get-empty path_cmp x

  directory_gone : (p : Path) → has_entries F p ≡ false → IsRooted (changed F (Becomes p None))
  directory_gone p none =
      rooted_becomes F p None rooted (λ h. absurd (true≢false (sym h)))
      (λ x some above there.
      let below : is_below x p ≡ true = subst (λ y. is_below x y ≡ true) above (parent_below x (named x some)) in
      absurd (true≢false (sym there ∙ ap is_some (nothing_inside p x none below))))
    where
      named : (x : Path) → x ≢ [] → 1 ≤ length x
      named [] some = absurd (some refl)
      named (n ∷ x) some = omega arith

  rooted_create : (action : Action) (node : Node) (p : Path) (x : Option Node) (good : Bool) → node_at F p ≡ x → parent_is_good F p ≡ good →
      IsRooted (after F (create action node p x good).changes)
  unfolding create
  rooted_create action node p (Some x) good at g = rooted
  rooted_create action node p None false at g = rooted
  rooted_create action node p None true at g = made p node at g

  rooted_delete : (p : Path) (x : Option Node) → node_at F p ≡ x → IsRooted (after F (delete_file p x).changes)
  unfolding delete_file
  rooted_delete p None at = rooted
  rooted_delete p (Some Directory) at = rooted
  rooted_delete p (Some (File octets)) at = file_gone p octets at

  rooted_rename : (p q : Path) (x y : Option Node) (good below : Bool) → node_at F p ≡ x → node_at F q ≡ y → parent_is_good F q ≡ good → is_at_or_below q p
      ≡ below →
      IsRooted (after F (rename p q x y good below (tree_at F p)).changes)
  unfolding rename
  rooted_rename p q None y good below a b c d = rooted
  rooted_rename p q (Some x) (Some y) good below a b c d = rooted
  rooted_rename p q (Some x) None false below a b c d = rooted
  rooted_rename p q (Some x) None true true a b c d = rooted
  rooted_rename p q (Some x) None true false a b c d =
      let es = tree_at F p in
      elim (is_too_deep p q es) as (λ deep. IsRooted (after F (if deep then refused (NotAllowed action.RenameFile)
      else succeeds action.RenameFile (vacating es ++ arriving p q es) 0 0 0).changes)) [
        | true ↦ rooted
        | false ↦ rooted_moved F p q (record { rooted = rooted; there = ap is_some a; absent = b; good = c; apart = d })
      ]

  rooted_append : (p : Path) (x y : Option Node) → node_at F p ≡ x → IsRooted (after F (append p x y).changes)
  unfolding append
  rooted_append p None y at = rooted
  rooted_append p (Some x) None at = rooted
  rooted_append p (Some Directory) (Some y) at = rooted
  rooted_append p (Some (File xs)) (Some Directory) at = rooted
  rooted_append p (Some (File xs)) (Some (File ys)) at = file_written p xs (xs ++ ys) at

  rooted_replace : (p : Path) (same : Bool) (x y : Option Node) → node_at F p ≡ x → IsRooted (after F (replace p same x y).changes)
  unfolding replace
  rooted_replace p same None y at = rooted
  rooted_replace p same (Some x) None at = rooted
  rooted_replace p same (Some Directory) (Some y) at = rooted
  rooted_replace p same (Some (File xs)) (Some Directory) at = rooted
  rooted_replace p true (Some (File xs)) (Some (File ys)) at = rooted
  rooted_replace p false (Some (File xs)) (Some (File ys)) at = file_written p xs ys at

  rooted_remove : (p : Path) (x : Option Node) (entries : Bool) → has_entries F p ≡ entries → IsRooted (after F (remove_directory p x entries).changes)
  unfolding remove_directory
  rooted_remove p None entries e = rooted
  rooted_remove p (Some (File octets)) entries e = rooted
  rooted_remove p (Some Directory) true e = rooted
  rooted_remove p (Some Directory) false e = directory_gone p e

  rooted_deny_file : (p : Path) (x : Option Node) → node_at F p ≡ x → IsRooted (after F (deny_file p x).changes)
  unfolding deny_file
  rooted_deny_file p None at = rooted
  rooted_deny_file p (Some Directory) at = rooted
  rooted_deny_file p (Some (File octets)) at = file_gone p octets at

  rooted_deny_directory : (p : Path) (x : Option Node) (entries : Bool) → has_entries F p ≡ entries → IsRooted (after F (deny_directory p x entries).changes)
  unfolding deny_directory
  rooted_deny_directory p None entries e = rooted
  rooted_deny_directory p (Some (File octets)) entries e = rooted
  rooted_deny_directory p (Some Directory) true e = rooted
  rooted_deny_directory p (Some Directory) false e = directory_gone p e

  rooted_table : (request : Request) → IsRooted (after F (table F request).changes)
  unfolding table
  rooted_table (CreateFile p) = rooted_create action.CreateFile (File []) p (node_at F p) (parent_is_good F p) refl refl
  rooted_table (DeleteFile p) = rooted_delete p (node_at F p) refl
  rooted_table (RenameFile p q) = rooted_rename p q (node_at F p) (node_at F q) (parent_is_good F q) (is_at_or_below q p) refl refl refl refl
  rooted_table (AppendFile p q) = rooted_append p (node_at F p) (node_at F q) refl
  rooted_table (ReplaceFile p q) = rooted_replace p (same_path p q) (node_at F p) (node_at F q) refl
  rooted_table (CreateDirectory p) = rooted_create action.CreateDirectory Directory p (node_at F p) (parent_is_good F p) refl refl
  rooted_table (RemoveDirectory p) = rooted_remove p (node_at F p) (has_entries F p) refl
  rooted_table (DenyFile p) = rooted_deny_file p (node_at F p) refl
  rooted_table (DenyDirectory p) = rooted_deny_directory p (node_at F p) (has_entries F p) refl

rooted_install : (F : Filestore) (slot : ℕ) (p : Path) (octets : List ℕ) (x : Option Node) (good : Bool) → IsRooted F → node_at F p ≡ x → parent_is_good F p
    ≡ good → IsRooted (after F (install slot p octets x good).changes)
unfolding install
rooted_install F slot p octets None false rooted at g = rooted
rooted_install F slot p octets (Some x) false rooted at g = rooted
rooted_install F slot p octets (Some Directory) true rooted at g = rooted
rooted_install F slot p octets None true rooted at g = made (changed F (Stages slot [])) rooted p (File octets) at g
rooted_install F slot p octets (Some (File old)) true rooted at g = file_written (changed F (Stages slot [])) rooted p old octets at

rooted_free_row : (F : Filestore) (slot : ℕ) (item : Item) → IsRooted F → IsRooted (after F (free_row F slot item).changes)
unfolding free_row
rooted_free_row F slot (Install p) rooted = rooted_install F slot p (staged_in F slot) (node_at F p) (parent_is_good F p) rooted refl refl
rooted_free_row F slot (Perform request) rooted = rooted_table F rooted request

rooted_denied : (F : Filestore) (item : Item) → IsRooted F → IsRooted (after F (denied item).changes)
rooted_denied F (Install p) rooted = rooted
rooted_denied F (Perform request) rooted = rooted

pub stays_rooted : StaysRooted
unfolding row
stays_rooted prefixes F slot item rooted =
    elim (is_barred prefixes F item) as (λ b. IsRooted (after F (if b then denied item else free_row F slot item).changes)) [
      | true ↦ rooted_denied F item rooted
      | false ↦ rooted_free_row F slot item rooted
    ]
