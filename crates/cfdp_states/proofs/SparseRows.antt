-- Each row of the action table, in two filestores of which the same is visible: the same answer, as many blocks more or
-- less, and as many ticks at most.
--     BothSparse          the same is visible in two, and both have as many blocks more or less as those before them
--     request_sparse      after a request that names visible paths;  bound_sparse: the ticks that it takes at most
--     install_sparse      after an install;  install_bound_sparse
use Rattle.std.proofs.Common.{◌≡◌, refl, sym, ◌∙◌, ap, subst, ◌↔◌, inl, inr, Bool, true, false, true≢false, cond, ◌||◌, is_some, Option, Some, None, ℕ, ◌+◌, ◌*◌, min, List, [], ◌∷◌, ◌++◌, length, arith, if◌then◌else◌}
use Rattle.std.specs.Prelude.{⊤}
use Rattle.std.proofs.lemmas.Bool.{cases_Bool, and_parts}
use Rattle.std.specs.List.{list_all}
use Rattle.cfdp_paths.specs.Paths.{Path, same_path, is_at_or_below, parent}
use Rattle.cfdp_paths.proofs.Below.{at_or_below-itself}
use Rattle.cfdp_paths.specs.PathMaps.{is_too_deep}
use Rattle.cfdp_status.specs.declared.action.Action.TheVariants as action
use Rattle.cfdp_status.specs.declared.status.Status.{Status}
use Rattle.cfdp_status.specs.declared.status.Status.TheVariants.{NotAllowed}
use Rattle.cfdp_status.specs.Codes.{is_successful}
use Rattle.cfdp_actions.specs.Filestore.{Node, Directory, File, Filestore, node_at, blocks_of, weight, blocks, Change, Becomes, Stages, changed, after, has_entries, is_root, parent_is_good, tree_at}
use Rattle.cfdp_actions.specs.Actions.{Request, CreateFile, DeleteFile, RenameFile, AppendFile, ReplaceFile, CreateDirectory, RemoveDirectory, DenyFile, DenyDirectory, Install, Perform, Outcome, refused, succeeds, vacating, arriving, create, rename, remove_directory, deny_directory, table, free_row, bars, denied, succeeded, row}
use Rattle.cfdp_leases.specs.Items.{step_bound}
use Rattle.cfdp_leases.specs.Footprint.{named_in}
use Rattle.cfdp_states.specs.Alone.{alone}
use Rattle.cfdp_states.specs.Sparse.{Hides, IsSparseSubstitute, KnowsMove, passes_after, sees_path, AreAlike}
use Rattle.cfdp_actions.proofs.Order.{node_at-becomes, node_at-becomes_apart, same_path-true}
use Rattle.cfdp_actions.proofs.Weights.{blocks-becomes, blocks-stages}
use Rattle.cfdp_states.proofs.Installing.{install_row, row-install}
use Rattle.cfdp_states.proofs.LikeNodes.{Like, nothing, folder, file, alike, like-content, like-weight}
use Rattle.cfdp_states.proofs.MovedPaths.{not_both}
use Rattle.cfdp_states.proofs.LikeOutcomes.{as_much, both_ways_on, turned, Goes, still, becomes, create-alike, delete_file-alike, remove_directory-alike, deny_file-alike, deny_directory-alike, append-alike, replace-alike, along, Installs, stays, comes, install_row-alike}
use Rattle.cfdp_states.proofs.SparseAlike.{nodes_seen, parent_seen, entries_seen, depth_seen}
use Rattle.cfdp_states.proofs.SparseMoves.{moved-sparse, blocks-sparse}

-- ---- one change

-- what is hidden is not at a visible path
hides-changed : (visible : Path → Bool) (F : Filestore) (p : Path) (a : Option Node) (c : Path) (n : ℕ) → visible p ≡ true →
    Hides visible (changed F (Becomes p a)) c n ↔ Hides visible F c n
hides-changed visible F p a c n seen = (
  (λ r. record {
    path = r.path;
    below = r.below;
    hidden = r.hidden;
    there = ap is_some (sym (kept r.path (r.hidden r.path (at_or_below-itself r.path) r.below))) ∙ r.there;
    deep = r.deep;
  }),
  (λ r. record {
    path = r.path;
    below = r.below;
    hidden = r.hidden;
    there = ap is_some (kept r.path (r.hidden r.path (at_or_below-itself r.path) r.below)) ∙ r.there;
    deep = r.deep;
  }),
)
  where
    kept : (x : Path) → visible x ≡ false → node_at (changed F (Becomes p a)) x ≡ node_at F x
    kept x out =
        elim (cases_Bool (same_path x p)) [
          | inl e ↦ not_both (visible p) seen (subst (λ y. visible y ≡ false) (same_path-true x p e) out)
          | inr f ↦ node_at-becomes_apart F p a x f
        ]

module _ (known visible : Path → Bool) where
  becomes_sparse : (F G : Filestore) (p : Path) (a b : Option Node) → IsSparseSubstitute known visible F G → visible p ≡ true → Like a b →
      IsSparseSubstitute known visible (changed F (Becomes p a)) (changed G (Becomes p b))
  becomes_sparse F G p a b h seen same = record {
    staged = h.staged;
    alike = λ x s.
        subst (λ (v : Option Node). AreAlike v (node_at (changed G (Becomes p b)) x)) (sym (node_at-becomes F p a x))
        (subst (λ (v : Option Node). AreAlike (cond (same_path x p) a (node_at F x)) v) (sym (node_at-becomes G p b x)) (at x s));
    deep = λ c n s k. both_ways_on (hides-changed visible F p a c n seen) (h.deep c n s k) (turned (hides-changed visible G p b c n seen));
  }
    where
      at : (x : Path) → visible x ≡ true → AreAlike (cond (same_path x p) a (node_at F x)) (cond (same_path x p) b (node_at G x))
      at x s = elim (same_path x p) as (λ t. AreAlike (cond t a (node_at F x)) (cond t b (node_at G x))) [ true ↦ alike same | false ↦ h.alike x s ]

  becomes_blocks : (F G : Filestore) (p : Path) (a b : Option Node) → IsSparseSubstitute known visible F G → visible p ≡ true → Like a b →
      blocks (changed F (Becomes p a)) + blocks G ≡ blocks (changed G (Becomes p b)) + blocks F
  becomes_blocks F G p a b h seen same =
      as_much (blocks F) (blocks (changed F (Becomes p a))) (blocks G) (blocks (changed G (Becomes p b))) (weight (node_at F p)) (weight (node_at G p))
      (weight a)
      (weight b) (blocks-becomes F p a) (blocks-becomes G p b) (like-weight (nodes_seen known visible F G h p seen)) (like-weight same)

  -- whatever is staged in both
  restaged : (F G : Filestore) (s : List (List ℕ)) → IsSparseSubstitute known visible F G → IsSparseSubstitute known visible (record F { staged = s })
      (record G { staged = s })
  restaged F G s h = record {
    staged = refl;
    alike = h.alike;
    deep = λ c n v k. (
      (λ r. let q = (h.deep c n v k).0 (record { path = r.path; below = r.below; hidden = r.hidden; there = r.there; deep = r.deep }) in
          record { path = q.path; below = q.below; hidden = q.hidden; there = q.there; deep = q.deep }),
      (λ r. let q = (h.deep c n v k).1 (record { path = r.path; below = r.below; hidden = r.hidden; there = r.there; deep = r.deep }) in
          record { path = q.path; below = q.below; hidden = q.hidden; there = q.there; deep = q.deep }),
    );
  }

pub record BothSparse (known visible : Path → Bool) (F G H K : Filestore) : Type 0 where
  pub one : IsSparseSubstitute known visible H K
  pub blocks : blocks H + blocks G ≡ blocks K + blocks F

goes_sparse : (known visible : Path → Bool) (F G : Filestore) (p : Path) → IsSparseSubstitute known visible F G → visible p ≡ true →
    {cs ds : List Change} → Goes p cs ds → BothSparse known visible F G (after F cs) (after G ds)
goes_sparse known visible F G p h seen still = record { one = h; blocks = omega arith }
goes_sparse known visible F G p h seen (becomes {a = a} {b = b} same) = record {
  one = becomes_sparse known visible F G p a b h seen same;
  blocks = becomes_blocks known visible F G p a b h seen same;
}

-- ---- a rename

data RenamesBoth (p q : Path) (below : Bool) (d : Option Node) (es fs : List (Path × Node)) : Outcome → Outcome → Type 0 where
  refuses_both : (status : Status) → is_successful status ≡ false → RenamesBoth p q below d es fs (refused status) (refused status)
  moves_both : below ≡ false → d ≡ None → is_too_deep p q es ≡ false → is_too_deep p q fs ≡ false → RenamesBoth p q below d es fs
      (succeeds action.RenameFile (vacating es ++ arriving p q es) 0 0 0) (succeeds action.RenameFile (vacating fs ++ arriving p q fs) 0 0 0)

by_depths : (p q : Path) (es fs : List (Path × Node)) (a b : Bool) → is_too_deep p q es ≡ a → is_too_deep p q fs ≡ b → a ≡ b →
    RenamesBoth p q false None es fs
    (if a then refused (NotAllowed action.RenameFile) else succeeds action.RenameFile (vacating es ++ arriving p q es) 0 0 0)
    (if b then refused (NotAllowed action.RenameFile) else succeeds action.RenameFile (vacating fs ++ arriving p q fs) 0 0 0)
by_depths p q es fs true true d e same = refuses_both (NotAllowed action.RenameFile) refl
by_depths p q es fs true false d e same = absurd (true≢false same)
by_depths p q es fs false true d e same = absurd (true≢false (sym same))
by_depths p q es fs false false d e same = moves_both refl refl d e

rename_both : (p q : Path) {a b c d : Option Node} (good below : Bool) (es fs : List (Path × Node)) → Like a b → Like c d → is_too_deep p q es
    ≡ is_too_deep p q fs →
    RenamesBoth p q below d es fs (rename p q a c good below es) (rename p q b d good below fs)
unfolding rename
rename_both p q good below es fs nothing more same = refuses_both _ refl
rename_both p q good below es fs folder folder same = refuses_both _ refl
rename_both p q good below es fs folder (file e) same = refuses_both _ refl
rename_both p q false below es fs folder nothing same = refuses_both _ refl
rename_both p q true true es fs folder nothing same = refuses_both _ refl
rename_both p q true false es fs folder nothing same = by_depths p q es fs (is_too_deep p q es) (is_too_deep p q fs) refl refl same
rename_both p q good below es fs (file e) folder same = refuses_both _ refl
rename_both p q good below es fs (file e) (file f) same = refuses_both _ refl
rename_both p q false below es fs (file e) nothing same = refuses_both _ refl
rename_both p q true true es fs (file e) nothing same = refuses_both _ refl
rename_both p q true false es fs (file e) nothing same = by_depths p q es fs (is_too_deep p q es) (is_too_deep p q fs) refl refl same

-- ---- a request

-- a path that is to be a new name, where the view has nothing, has nothing below it
abbrev pub Bare : Filestore → Request → Type 0
Bare G (RenameFile p q) = node_at G q ≡ None → has_entries G q ≡ false
Bare G (CreateFile p) = ⊤
Bare G (DeleteFile p) = ⊤
Bare G (AppendFile p q) = ⊤
Bare G (ReplaceFile p q) = ⊤
Bare G (CreateDirectory p) = ⊤
Bare G (RemoveDirectory p) = ⊤
Bare G (DenyFile p) = ⊤
Bare G (DenyDirectory p) = ⊤

-- the same answer; and after it the same is visible again
pub record GoesSparse (known visible : Path → Bool) (F G : Filestore) (request : Request) (o r : Outcome) : Type 0 where
  pub answer : o.answer ≡ r.answer
  pub done : succeeded r.answer ≡ true →
      BothSparse (λ x. passes_after request known x) (λ x. passes_after request visible x) F G (after F o.changes) (after G r.changes)

-- one named path, and two
one_named : (visible : Path → Bool) (p : Path) → list_all (sees_path visible) (p ∷ []) ≡ true → (visible p ≡ true)
    × (is_root (parent p) || visible (parent p) ≡ true)
one_named visible p h = and_parts (visible p) (is_root (parent p) || visible (parent p)) (and_parts (sees_path visible p) true h).0

two_named : (visible : Path → Bool) (p q : Path) → list_all (sees_path visible) (p ∷ q ∷ []) ≡ true → (visible p ≡ true) × ((visible q ≡ true)
    × (is_root (parent q) || visible (parent q) ≡ true))
two_named visible p q h =
    let both = and_parts (sees_path visible p) (list_all (sees_path visible) (q ∷ [])) h in
    ((and_parts (visible p) (is_root (parent p) || visible (parent p)) both.0).0, one_named visible q both.1)

module _ (known visible : Path → Bool) (F G : Filestore) (h : IsSparseSubstitute known visible F G) where
  refuses_sparse : (request : Request) (status : Status) → is_successful status ≡ false → GoesSparse known visible F G request (refused status) (refused status)
  refuses_sparse request status bad = record { answer = refl; done = λ good. not_both (is_successful status) good bad }

  renames_sparse : (p q : Path) → visible p ≡ true → visible q ≡ true → ((c : Path) → is_at_or_below c p ≡ true → known c ≡ true) →
      (node_at G q ≡ None → has_entries G q ≡ false) → {o r : Outcome} →
      RenamesBoth p q (is_at_or_below q p) (node_at G q) (tree_at F p) (tree_at G p) o r → GoesSparse known visible F G (RenameFile p q) o r
  renames_sparse p q seen_p seen_q movable bare (refuses_both status bad) = refuses_sparse (RenameFile p q) status bad
  renames_sparse p q seen_p seen_q movable bare (moves_both below absent deep_F deep_G) = record {
    answer = refl;
    done = λ _. record {
      one = moved-sparse known visible F G h p q seen_p seen_q movable below deep_F deep_G absent (bare absent);
      blocks = blocks-sparse known visible F G h p q seen_p seen_q movable below deep_F deep_G absent (bare absent);
    };
  }

  table_sparse : (request : Request) → KnowsMove known request → list_all (sees_path visible) (named_in (Perform request)) ≡ true → Bare G request →
      GoesSparse known visible F G request (table F request) (table G request)
  unfolding table
  table_sparse (CreateFile p) enough named bare =
      let s = one_named visible p named in
      let same = along (parent_seen known visible F G h p s.1) (create action.CreateFile (File []) p (node_at F p) (parent_is_good F p))
      (λ good. create action.CreateFile (File []) p (node_at G p) good)
      (create-alike p action.CreateFile (File []) (parent_is_good F p) (nodes_seen known visible F G h p s.0)) in
      record { answer = same.answer; done = λ _. goes_sparse known visible F G p h s.0 same.goes }
  table_sparse (DeleteFile p) enough named bare =
      let s = one_named visible p named in
      let same = delete_file-alike p (nodes_seen known visible F G h p s.0) in
      record { answer = same.answer; done = λ _. goes_sparse known visible F G p h s.0 same.goes }
  table_sparse (RenameFile p q) enough named bare =
      let s = two_named visible p q named in
      renames_sparse p q s.0 s.1.0 enough bare
      (subst (λ good. RenamesBoth p q (is_at_or_below q p) (node_at G q) (tree_at F p) (tree_at G p)
      (rename p q (node_at F p) (node_at F q) (parent_is_good F q) (is_at_or_below q p) (tree_at F p))
      (rename p q (node_at G p) (node_at G q) good (is_at_or_below q p) (tree_at G p)))
      (parent_seen known visible F G h q s.1.1)
      (rename_both p q (parent_is_good F q) (is_at_or_below q p) (tree_at F p) (tree_at G p) (nodes_seen known visible F G h p s.0)
      (nodes_seen known visible F G h q s.1.0) (depth_seen known visible F G h p q enough s.0)))
  table_sparse (AppendFile p q) enough named bare =
      let s = two_named visible p q named in
      let same = append-alike p (nodes_seen known visible F G h p s.0) (nodes_seen known visible F G h q s.1.0) in
      record { answer = same.answer; done = λ _. goes_sparse known visible F G p h s.0 same.goes }
  table_sparse (ReplaceFile p q) enough named bare =
      let s = two_named visible p q named in
      let same = replace-alike p (same_path p q) (nodes_seen known visible F G h p s.0) (nodes_seen known visible F G h q s.1.0) in
      record { answer = same.answer; done = λ _. goes_sparse known visible F G p h s.0 same.goes }
  table_sparse (CreateDirectory p) enough named bare =
      let s = one_named visible p named in
      let same = along (parent_seen known visible F G h p s.1) (create action.CreateDirectory Directory p (node_at F p) (parent_is_good F p))
      (λ good. create action.CreateDirectory Directory p (node_at G p) good)
      (create-alike p action.CreateDirectory Directory (parent_is_good F p) (nodes_seen known visible F G h p s.0)) in
      record { answer = same.answer; done = λ _. goes_sparse known visible F G p h s.0 same.goes }
  table_sparse (RemoveDirectory p) enough named bare =
      let s = one_named visible p named in
      let same = along (entries_seen known visible F G h p s.0) (remove_directory p (node_at F p) (has_entries F p))
      (λ entries. remove_directory p (node_at G p) entries) (remove_directory-alike p (has_entries F p) (nodes_seen known visible F G h p s.0)) in
      record { answer = same.answer; done = λ _. goes_sparse known visible F G p h s.0 same.goes }
  table_sparse (DenyFile p) enough named bare =
      let s = one_named visible p named in
      let same = deny_file-alike p (nodes_seen known visible F G h p s.0) in
      record { answer = same.answer; done = λ _. goes_sparse known visible F G p h s.0 same.goes }
  table_sparse (DenyDirectory p) enough named bare =
      let s = one_named visible p named in
      let same = along (entries_seen known visible F G h p s.0) (deny_directory p (node_at F p) (has_entries F p))
      (λ entries. deny_directory p (node_at G p) entries) (deny_directory-alike p (has_entries F p) (nodes_seen known visible F G h p s.0)) in
      record { answer = same.answer; done = λ _. goes_sparse known visible F G p h s.0 same.goes }

  pub request_sparse : (prefixes : List Path) (request : Request) → KnowsMove known request → list_all (sees_path visible) (named_in (Perform request)) ≡ true →
      Bare G request → GoesSparse known visible F G request (row prefixes F 0 (Perform request)) (row prefixes G 0 (Perform request))
  unfolding row free_row
  request_sparse prefixes request enough named bare =
      elim (bars prefixes request) as (λ b. GoesSparse known visible F G request (if b then denied (Perform request) else table F request)
      (if b then denied (Perform request) else table G request)) [
        | true ↦ refuses_sparse request _ refl
        | false ↦ table_sparse request enough named bare
      ]

  pub bound_sparse : (request : Request) → list_all (sees_path visible) (named_in (Perform request)) ≡ true →
      step_bound F (Perform request) ≡ step_bound G (Perform request)
  unfolding step_bound
  bound_sparse (CreateFile p) named = refl
  bound_sparse (DeleteFile p) named = ap (λ n. 1 + n) (like-content (nodes_seen known visible F G h p (one_named visible p named).0))
  bound_sparse (RenameFile p q) named = refl
  bound_sparse (AppendFile p q) named = ap (λ n. 2 * n) (like-content (nodes_seen known visible F G h q (two_named visible p q named).1.0))
  bound_sparse (ReplaceFile p q) named =
      let s = two_named visible p q named in
      λ i. if same_path p q then 0 else like-content (nodes_seen known visible F G h p s.0) i + 2 * like-content (nodes_seen known visible F G h q s.1.0) i
  bound_sparse (CreateDirectory p) named = refl
  bound_sparse (RemoveDirectory p) named = refl
  bound_sparse (DenyFile p) named = like-weight (nodes_seen known visible F G h p (one_named visible p named).0)
  bound_sparse (DenyDirectory p) named = ap (λ n. min 1 n) (like-weight (nodes_seen known visible F G h p (one_named visible p named).0))

-- ---- the install of a delivered file

-- the same answer, and both as they are after it
pub record InstallsSparse (known visible : Path → Bool) (F G : Filestore) (o r : Outcome) : Type 0 where
  pub answer : o.answer ≡ r.answer
  pub both : BothSparse known visible F G (after F o.changes) (after G r.changes)

module _ (known visible : Path → Bool) (F G : Filestore) (h : IsSparseSubstitute known visible F G) (p : Path)
    (named : list_all (sees_path visible) (p ∷ []) ≡ true) (x : List ℕ) where
  installs_on : {o r : Outcome} → Installs p x o r → InstallsSparse known visible (alone F x) (alone G x) o r
  installs_on stays = record { answer = refl; both = record { one = restaged known visible F G (x ∷ []) h; blocks = omega arith } }
  installs_on (comes t g t' g') =
      let H = changed (alone F x) (Stages 0 []) in
      let K = changed (alone G x) (Stages 0 []) in
      let out = restaged known visible F G ([] ∷ []) h in
      let seen = (one_named visible p named).0 in
      let one = as_much (blocks (alone F x)) (blocks H) (blocks (alone G x)) (blocks K) (blocks_of (length x)) (blocks_of (length x))
      (blocks_of (length {A = ℕ} [])) (blocks_of (length {A = ℕ} []))
      (blocks-stages (alone F x) 0 [] (omega arith)) (blocks-stages (alone G x) 0 [] (omega arith)) refl refl in
      let two = becomes_blocks known visible H K p (Some (File x)) (Some (File x)) out seen (file refl) in
      record {
        answer = refl;
        both = record {
          one = becomes_sparse known visible H K p (Some (File x)) (Some (File x)) out seen (file refl);
          blocks = omega (arith, one, two);
        };
      }

  pub install_sparse : (prefixes : List Path) → InstallsSparse known visible (alone F x) (alone G x) (row prefixes (alone F x) 0 (Install p))
      (row prefixes (alone G x) 0 (Install p))
  install_sparse prefixes =
      let s = one_named visible p named in
      let same : Installs p x (row prefixes (alone F x) 0 (Install p)) (row prefixes (alone G x) 0 (Install p)) =
      subst (λ (o : Outcome). Installs p x o (row prefixes (alone G x) 0 (Install p))) (sym (row-install prefixes F p x))
      (subst (λ (o : Outcome). Installs p x (install_row prefixes p x (node_at F p) (parent_is_good F p)) o) (sym (row-install prefixes G p x))
      (subst (λ good. Installs p x (install_row prefixes p x (node_at F p) (parent_is_good F p)) (install_row prefixes p x (node_at G p) good))
      (parent_seen known visible F G h p s.1)
      (install_row-alike prefixes p x (parent_is_good F p) (nodes_seen known visible F G h p s.0)))) in
      installs_on same

  pub install_bound_sparse : step_bound (alone F x) (Install p) ≡ step_bound (alone G x) (Install p)
  unfolding step_bound
  install_bound_sparse = ap (λ n. 1 + n) (like-content (nodes_seen known visible F G h p (one_named visible p named).0))
