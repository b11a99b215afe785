-- The rows of the action table that are not refused, on a map of extents.
--     file-created, directory-created, gone, moves, appends, replaces    how the map goes on, row by row
use Rattle.std.proofs.Common.{◌≡◌, refl, sym, ◌∙◌, ap, subst, ◌⊎◌, inl, inr, Bool, true, false, cond, is_some, is_none, if◌then◌else◌, Option, Some, None, ℕ, ◌+◌, min, [], ◌∷◌, ◌++◌, length, length-append, true≢false, arith}
use Rattle.std.specs.FinMap.{get, insert, remove, get-insert, get-remove}
use Rattle.cfdp_paths.specs.Paths.{Path, same_path}
use Rattle.cfdp_paths.proofs.Comparing.{path_cmp-total}
use Rattle.cfdp_status.specs.declared.status.Status.TheVariants.{Successful}
use Rattle.cfdp_actions.specs.Filestore.{Node, Directory, File, Filestore, node_at, Becomes, is_file, octets_in, file_octets_at}
use Rattle.cfdp_actions.specs.Actions.{Request, CreateFile, DeleteFile, RenameFile, AppendFile, ReplaceFile, CreateDirectory, RemoveDirectory, DenyFile, DenyDirectory, action_in, Performed, Outcome, table}
use Rattle.cfdp_actions.proofs.Allowed.{Allowed, Makes, file_made, directory_made, removed, denied, moved, appended, replaced, successful}
use Rattle.cfdp_states.specs.declared.extent.Extent.{Extent}
use Rattle.cfdp_states.specs.declared.extent.Extent.TheVariants as extent
use Rattle.cfdp_states.specs.Sketching.{most_octets, extent_in, extent_at, Extents}
use Rattle.cfdp_states.specs.code.Sketching.{size_in, resized, rehomed, IsOutline, Does}
use Rattle.cfdp_actions.proofs.Order.{same_path-true}
use Rattle.cfdp_states.proofs.Sketched.{Follows, does-at, follows-same, follows-one, follows-moved, kept}

size-in : (o : Option Node) → size_in (extent_in o) ≡ min (length (octets_in o)) most_octets
size-in None = refl
size-in (Some Directory) = refl
size-in (Some (File octets)) = refl

file-extent : (o : Option Node) → is_file o ≡ true → extent_in o ≡ Some (extent.File (size_in (extent_in o)))
file-extent None e = absurd (true≢false (sym e))
file-extent (Some Directory) e = absurd (true≢false (sym e))
file-extent (Some (File octets)) e = refl

together : (more n : ℕ) → min (more + n) most_octets ≡ min (min more most_octets + min n most_octets) most_octets
together more n = omega arith

module _ (m : Extents) (request : Request) (allowed : (F : Filestore) → IsOutline m F → Allowed F request) where
  answer : (F : Filestore) → IsOutline m F → Performed (Successful (action_in request)) ≡ (table F request).answer
  answer F h = sym (successful F request (allowed F h))

  -- ---- create

  created : (m' : Extents) (p : Path) (node : Node) (c : Extent) → ((F : Filestore) → Allowed F request →
      Makes F p node (action_in request) (table F request)) → Some c ≡ extent_in (Some node) → m' ≡ insert m p c →
      Does m m' request (Successful (action_in request))
  created m' p node c makes is now = does-at m m' request (Successful (action_in request)) (λ F h.
      let row = (makes F (allowed F h)).row in
      follows-one m m' F (table F request) (Successful (action_in request)) p (Some node) h (answer F h) row.changes
      (λ x. ap (λ m'. get m' x) now ∙ get-insert path_cmp-total m p c x ∙ ap (λ c. cond (same_path x p) c (get m x)) is))

  pub file-created : (m' : Extents) (p : Path) → request ≡ CreateFile p → m' ≡ insert m p (extent.File 0) → Does m m' request (Successful (action_in request))
  file-created m' p e = created m' p (File []) (extent.File 0) (λ F h. file_made F request p h e) refl

  pub directory-created : (m' : Extents) (p : Path) → request ≡ CreateDirectory p → m' ≡ insert m p extent.Directory →
      Does m m' request (Successful (action_in request))
  directory-created m' p e = created m' p Directory extent.Directory (λ F h. directory_made F request p h e) refl

  -- ---- remove

  removes : (m' : Extents) (p : Path) → m' ≡ remove m p → (F : Filestore) → IsOutline m F → (o : Outcome) → Performed (Successful (action_in request))
      ≡ o.answer → (absent : Bool) → is_none (node_at F p) ≡ absent →
      o.changes ≡ (if absent then [] else Becomes p None ∷ []) → Follows m' F o (Successful (action_in request))
  removes m' p now F h o answer true none changes =
      follows-same m' F o (Successful (action_in request)) answer changes (kept m m' F p None h (nothing (node_at F p) none) (λ x. ap (λ m'. get m' x) now
      ∙ get-remove path_cmp-total m p x))
    where
      nothing : (o : Option Node) → is_none o ≡ true → extent_in o ≡ None
      nothing None e = refl
      nothing (Some node) e = absurd (true≢false (sym e))
  removes m' p now F h o answer false some changes =
      follows-one m m' F o (Successful (action_in request)) p None h answer changes (λ x. ap (λ m'. get m' x) now ∙ get-remove path_cmp-total m p x)

  goes : (m' : Extents) (p : Path) → (request ≡ DeleteFile p) ⊎ (request ≡ RemoveDirectory p) → m' ≡ remove m p → Does m m' request
      (Successful (action_in request))
  goes m' p e now = does-at m m' request (Successful (action_in request)) (λ F h.
      let went = removed F request p (allowed F h) e in
      removes m' p now F h (table F request) (answer F h) false (present (node_at F p) went.present) went.row.changes)
    where
      present : (o : Option Node) → is_some o ≡ true → is_none o ≡ false
      present None e = absurd (true≢false (sym e))
      present (Some node) e = refl

  pub gone : (m' : Extents) (p : Path) → (request ≡ DeleteFile p) ⊎ ((request ≡ RemoveDirectory p) ⊎ ((request ≡ DenyFile p) ⊎ (request ≡ DenyDirectory p))) →
      m' ≡ remove m p → Does m m' request (Successful (action_in request))
  gone m' p (inl e) now = goes m' p (inl e) now
  gone m' p (inr (inl e)) now = goes m' p (inr e) now
  gone m' p (inr (inr e)) now = does-at m m' request (Successful (action_in request)) (λ F h.
      let row = (denied F request p (allowed F h) e).row in
      removes m' p now F h (table F request) (answer F h) (is_none (node_at F p)) refl row.changes)

  -- ---- rename

  pub moves : (m' : Extents) (p q : Path) → request ≡ RenameFile p q → m' ≡ rehomed p q m → Does m m' request (Successful (action_in request))
  moves m' p q e now = subst (λ m'. Does m m' request (Successful (action_in request))) (sym now)
      (does-at m (rehomed p q m) request (Successful (action_in request)) (λ F h.
      let row = (moved F request p q (allowed F h) e).row in
      follows-moved m F (table F request) (Successful (action_in request)) p q h (answer F h) row.changes))

  -- ---- append and replace

  -- the map has a file of n octets at p, where a file exists
  at_size : (m' : Extents) (F : Filestore) (p : Path) (n : ℕ) → IsOutline m F → is_file (node_at F p) ≡ true → m' ≡ resized p n m → (x : Path) → get m' x
      ≡ cond (same_path x p) (Some (extent.File n)) (get m x)
  at_size m' F p n h file now x =
      ap (λ m'. get m' x) now
      ∙ ap (λ c. get (if is_some c then insert m p (extent.File n) else m) x) (h.found p ∙ file-extent (node_at F p) file)
      ∙ get-insert path_cmp-total m p (extent.File n) x

  pub appends : (m' : Extents) (p q : Path) (n : ℕ) → request ≡ AppendFile p q → n ≡ min (size_in (get m p) + size_in (get m q)) most_octets → m'
      ≡ resized p n m → Does m m' request (Successful (action_in request))
  appends m' p q n e sum now = does-at m m' request (Successful (action_in request)) (λ F h.
      let row = appended F request p q (allowed F h) e in
      let long : n ≡ min (length (file_octets_at F p ++ file_octets_at F q)) most_octets =
      sum ∙ (λ i. min (size_in (h.found p i) + size_in (h.found q i)) most_octets) ∙ (λ i. min (size-in (node_at F p) i + size-in (node_at F q) i) most_octets)
      ∙ sym (ap (λ n. min n most_octets) (length-append (file_octets_at F p) (file_octets_at F q)) ∙ together (length (file_octets_at F p))
      (length (file_octets_at F q))) in
      follows-one m m' F (table F request) (Successful (action_in request)) p _ h (answer F h) row.row.changes
      (λ x. at_size m' F p n h row.first now x ∙ ap (λ n. cond (same_path x p) (Some (extent.File n)) (get m x)) long))

  pub replaces : (m' : Extents) (p q : Path) (n : ℕ) → request ≡ ReplaceFile p q → n ≡ size_in (get m q) → m' ≡ resized p n m →
      Does m m' request (Successful (action_in request))
  replaces m' p q n e size now = does-at m m' request (Successful (action_in request)) (λ F h.
      let row = replaced F request p q (allowed F h) e in
      by_same m' p q n now F h row.first (size ∙ ap size_in (h.found q)) (table F request) (answer F h) (same_path p q) refl row.row.changes)
    where
      by_same : (m' : Extents) (p q : Path) (n : ℕ) → m' ≡ resized p n m → (F : Filestore) → IsOutline m F → is_file (node_at F p) ≡ true → n
          ≡ size_in (extent_at F q) → (o : Outcome) → Performed (Successful (action_in request)) ≡ o.answer → (same : Bool) → same_path p q ≡ same →
          o.changes ≡ (if same then [] else Becomes p (Some (File (file_octets_at F q))) ∷ []) → Follows m' F o (Successful (action_in request))
      by_same m' p q n now F h file size o answer true e changes =
          follows-same m' F o (Successful (action_in request)) answer changes (kept m m' F p (Some (extent.File n)) h
          (file-extent (node_at F p) file ∙ ap (λ x. Some (extent.File (size_in (extent_at F x)))) (same_path-true p q e)
          ∙ ap (λ n. Some (extent.File n)) (sym size))
          (at_size m' F p n h file now))
      by_same m' p q n now F h file size o answer false e changes =
          follows-one m m' F o (Successful (action_in request)) p (Some (File (file_octets_at F q))) h answer changes
          (λ x. at_size m' F p n h file now x ∙ ap (λ n. cond (same_path x p) (Some (extent.File n)) (get m x)) (size ∙ size-in (node_at F q)))
