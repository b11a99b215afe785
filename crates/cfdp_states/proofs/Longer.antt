-- Two filestores with the same directories and files, where the files of the second are as long or longer.
--     Longer                          of what is at a path
--     LongerEntries, longer_entries   of lists of entries;  pointwise in the look-ups is pointwise in the lists
--     LongerChanges                   the same changes, of paths or of the two slots
--     IsLonger, longer-after          of filestores;  after such changes
--     blocks-longer                   no fewer blocks
use Rattle.std.proofs.Common.{◌≡◌, refl, sym, ◌∙◌, ap, subst, Bool, true, false, cond, T, is_some, ◌&&◌, is_eq, is_lt, Less, Equal, Greater, Option, Some, None, ◌||◌, nat_lt, ℕ, suc, ◌+◌, ◌<◌, ◌≤◌, List, [], ◌∷◌, ◌++◌, length, arith, sum_by, slice_index_or, slice_set, length-set, get_or-set_same, true≢false, le_refl, add-le-add, not, ◌==◌}
use Rattle.std.proofs.lemmas.List.Sums.{sum_by-set}
use Rattle.std.specs.Ordering.{ordering_reverse}
use Rattle.std.specs.FinMap.{entries, entries_sorted, get-entries, retain_keys, get-retain_keys, len-entries}
use Rattle.std.specs.FinMap.Entries.{below_all, is_sorted, find}
use Rattle.cfdp_paths.specs.Paths.{Path, path_cmp, same_path, is_at_or_below, is_below, parent, rebased}
use Rattle.cfdp_actions.specs.Filestore.{Node, Directory, File, Filestore, node_at, staged_in, blocks_of, weight, weights, blocks, Change, Becomes, Stages, changed, after, inside, has_entries, is_directory, is_good, is_root, parent_is_good, tree_at}
use Rattle.cfdp_actions.specs.Actions.{vacating, arriving}
use Rattle.cfdp_actions.proofs.Order.{same_path-refl, node_at-becomes}
use Rattle.cfdp_actions.proofs.Weights.{below_rest, sorted_rest, below_less, find_below, find_later}
use Rattle.cfdp_actions.proofs.RowLaws.{blocks_of-mono}
use Rattle.cfdp_paths.proofs.InOrder.{path_antisym}
use Rattle.cfdp_paths.proofs.Comparing.{path_cmp-total}
use Rattle.cfdp_paths.specs.PathMaps.{is_too_deep}

pub data Longer : Option Node → Option Node → Type 0 where
  nothing : Longer None None
  folder : Longer (Some Directory) (Some Directory)
  file : {xs ys : List ℕ} → length xs ≤ length ys → Longer (Some (File xs)) (Some (File ys))

pub longer-is_some : {a b : Option Node} → Longer a b → is_some a ≡ is_some b
longer-is_some nothing = refl
longer-is_some folder = refl
longer-is_some (file le) = refl

pub longer-is_directory : {a b : Option Node} → Longer a b → is_directory a ≡ is_directory b
longer-is_directory nothing = refl
longer-is_directory folder = refl
longer-is_directory (file le) = refl

pub longer-weight : {a b : Option Node} → Longer a b → weight a ≤ weight b
longer-weight nothing = le_refl 0
longer-weight folder = le_refl 1
longer-weight (file {xs = xs} {ys = ys} le) = let more = blocks_of-mono (length xs) (length ys) le in omega (arith, more)

pub longer-itself : (a : Option Node) → Longer a a
longer-itself None = nothing
longer-itself (Some Directory) = folder
longer-itself (Some (File xs)) = file (le_refl (length xs))

-- ---- entries

abbrev pub LongerEntries : List (Path × Node) → List (Path × Node) → Type 0
LongerEntries [] [] = Unit {0}
LongerEntries [] (f ∷ fs) = ⊥
LongerEntries (e ∷ es) [] = ⊥
LongerEntries (e ∷ es) (f ∷ fs) = (e.0 ≡ f.0) × Longer (Some e.1) (Some f.1) × LongerEntries es fs

find_here : (e : Path × Node) (es : List (Path × Node)) → find path_cmp e.0 (e ∷ es) ≡ Some e.1
find_here e es = ap (λ b. cond b (Some e.1) (find path_cmp e.0 es)) (same_path-refl e.0)

-- a first key that is less is not among the others
missed : (e f : Path × Node) (fs : List (Path × Node)) → path_cmp e.0 f.0 ≡ Less → T (is_sorted path_cmp (f ∷ fs)) → find path_cmp e.0 (f ∷ fs) ≡ None
missed e f fs p h = find_below e.0 (f ∷ fs) (subst (λ r. T (is_lt r && below_all path_cmp e.0 fs)) (sym p) (below_less e.0 f.0 fs p (below_rest f fs h)))

pub longer_entries : (es fs : List (Path × Node)) → T (is_sorted path_cmp es) → T (is_sorted path_cmp fs) →
    ((q : Path) → Longer (find path_cmp q es) (find path_cmp q fs)) → LongerEntries es fs
longer_entries [] [] sorted_e sorted_f longer = tt
longer_entries [] (f ∷ fs) sorted_e sorted_f longer = absurd (true≢false (ap is_some (sym (find_here f fs)) ∙ sym (longer-is_some (longer f.0))))
longer_entries (e ∷ es) [] sorted_e sorted_f longer = absurd (true≢false (ap is_some (sym (find_here e es)) ∙ longer-is_some (longer e.0)))
longer_entries (e ∷ es) (f ∷ fs) sorted_e sorted_f longer =
    elim (path_cmp e.0 f.0) as (λ r. path_cmp e.0 f.0 ≡ r → LongerEntries (e ∷ es) (f ∷ fs)) [
      | Less ↦ λ p. absurd (true≢false (ap is_some (sym (find_here e es)) ∙ longer-is_some (longer e.0) ∙ ap is_some (missed e f fs p sorted_f)))
      | Greater ↦ λ p. absurd (true≢false (ap is_some (sym (find_here f fs)) ∙ sym (longer-is_some (longer f.0))
          ∙ ap is_some (missed f e es (path_cmp-total.antisymm f.0 e.0 ∙ ap ordering_reverse p) sorted_e)))
      | Equal ↦ λ p.
          let keys : e.0 ≡ f.0 = path_antisym e.0 f.0 p in
          let there : find path_cmp e.0 (f ∷ fs) ≡ Some f.1 = ap (λ r. cond (is_eq r) (Some f.1) (find path_cmp e.0 fs)) p in (
            keys,
            subst (λ (b : Option Node). Longer (Some e.1) b) there (subst (λ (a : Option Node). Longer a (find path_cmp e.0 (f ∷ fs))) (find_here e es)
                (longer e.0)),
            longer_entries es fs (sorted_rest e es sorted_e) (sorted_rest f fs sorted_f) (λ q. later keys q (same_path q e.0) refl),
          )
    ] refl
  where
    later : e.0 ≡ f.0 → (q : Path) → (b : Bool) → same_path q e.0 ≡ b → Longer (find path_cmp q es) (find path_cmp q fs)
    later keys q true t =
        subst (λ (b : Option Node). Longer (find path_cmp q es) b) (sym (find_later f fs sorted_f q (ap (same_path q) (sym keys) ∙ t)))
        (subst (λ (a : Option Node). Longer a None) (sym (find_later e es sorted_e q t)) nothing)
    later keys q false t =
        subst (λ (b : Option Node). Longer (find path_cmp q es) b) (ap (λ b. cond b (Some f.1) (find path_cmp q fs)) (ap (same_path q) (sym keys) ∙ t))
        (subst (λ (a : Option Node). Longer a (find path_cmp q (f ∷ fs))) (ap (λ b. cond b (Some e.1) (find path_cmp q es)) t) (longer q))

pub longer-length : (es fs : List (Path × Node)) → LongerEntries es fs → length es ≡ length fs
longer-length [] [] h = refl
longer-length [] (f ∷ fs) h = absurd h
longer-length (e ∷ es) [] h = absurd h
longer-length (e ∷ es) (f ∷ fs) h = ap suc (longer-length es fs h.2)

pub longer-weights : (es fs : List (Path × Node)) → LongerEntries es fs → weights es ≤ weights fs
longer-weights [] [] h = le_refl 0
longer-weights [] (f ∷ fs) h = absurd h
longer-weights (e ∷ es) [] h = absurd h
longer-weights (e ∷ es) (f ∷ fs) h = add-le-add (longer-weight h.1) (longer-weights es fs h.2)

pub longer-depth : (p q : Path) (es fs : List (Path × Node)) → LongerEntries es fs → is_too_deep p q es ≡ is_too_deep p q fs
longer-depth p q [] [] h = refl
longer-depth p q [] (f ∷ fs) h = absurd h
longer-depth p q (e ∷ es) [] h = absurd h
longer-depth p q (e ∷ es) (f ∷ fs) h = λ i. nat_lt 8 (length (rebased p q (h.0 i))) || (longer-depth p q es fs h.2) i

-- ---- the same changes, of paths or of the two slots

abbrev pub LongerChange : ℕ → ℕ → Change → Change → Type 0
LongerChange slot other (Becomes p a) (Becomes q b) = (p ≡ q) × Longer a b
LongerChange slot other (Becomes p a) (Stages s ys) = ⊥
LongerChange slot other (Stages s xs) (Becomes q b) = ⊥
LongerChange slot other (Stages s xs) (Stages t ys) = (s ≡ slot) × (t ≡ other) × (length xs ≤ length ys)

abbrev pub LongerChanges : ℕ → ℕ → List Change → List Change → Type 0
LongerChanges slot other [] [] = Unit {0}
LongerChanges slot other [] (d ∷ ds) = ⊥
LongerChanges slot other (c ∷ cs) [] = ⊥
LongerChanges slot other (c ∷ cs) (d ∷ ds) = LongerChange slot other c d × LongerChanges slot other cs ds

pub longer-append : (slot other : ℕ) (cs ds us vs : List Change) → LongerChanges slot other cs ds → LongerChanges slot other us vs →
    LongerChanges slot other (cs ++ us) (ds ++ vs)
longer-append slot other [] [] us vs h k = k
longer-append slot other [] (d ∷ ds) us vs h k = absurd h
longer-append slot other (c ∷ cs) [] us vs h k = absurd h
longer-append slot other (c ∷ cs) (d ∷ ds) us vs h k = (h.0, longer-append slot other cs ds us vs h.1 k)

pub longer-vacated : (slot other : ℕ) (es fs : List (Path × Node)) → LongerEntries es fs → LongerChanges slot other (vacating es) (vacating fs)
longer-vacated slot other [] [] h = tt
longer-vacated slot other [] (f ∷ fs) h = absurd h
longer-vacated slot other (e ∷ es) [] h = absurd h
longer-vacated slot other (e ∷ es) (f ∷ fs) h = ((h.0, nothing), longer-vacated slot other es fs h.2)

pub longer-arriving : (slot other : ℕ) (p q : Path) (es fs : List (Path × Node)) → LongerEntries es fs →
    LongerChanges slot other (arriving p q es) (arriving p q fs)
longer-arriving slot other p q [] [] h = tt
longer-arriving slot other p q [] (f ∷ fs) h = absurd h
longer-arriving slot other p q (e ∷ es) [] h = absurd h
longer-arriving slot other p q (e ∷ es) (f ∷ fs) h = ((ap (rebased p q) h.0, h.1), longer-arriving slot other p q es fs h.2)

-- ---- filestores

-- the blocks of what is staged
abbrev pub staged_blocks : List (List ℕ) → ℕ
staged_blocks lists = sum_by (λ octets. blocks_of (length octets)) lists

-- One transaction stages in a slot of F, the other in a slot of G; the other slots hold m and n blocks.
pub record IsLonger (slot other m n : ℕ) (F G : Filestore) : Type 0 where
  pub nodes : (q : Path) → Longer (node_at F q) (node_at G q)
  pub staged : length (staged_in F slot) ≤ length (staged_in G other)
  pub held_F : slot < length F.staged
  pub held_G : other < length G.staged
  pub others_F : staged_blocks F.staged ≡ m + blocks_of (length (staged_in F slot))
  pub others_G : staged_blocks G.staged ≡ n + blocks_of (length (staged_in G other))

-- what is staged in one slot leaves the others
others-stay : (lists : List (List ℕ)) (slot n : ℕ) (octets : List ℕ) → slot < length lists → staged_blocks lists ≡ n
    + blocks_of (length (slice_index_or lists slot [])) → staged_blocks (slice_set lists slot octets) ≡ n
    + blocks_of (length (slice_index_or (slice_set lists slot octets) slot []))
others-stay lists slot n octets held others =
    let sum : staged_blocks (slice_set lists slot octets) + blocks_of (length (slice_index_or lists slot [])) ≡ staged_blocks lists
    + blocks_of (length octets) = sum_by-set (λ (octets : List ℕ). blocks_of (length octets)) lists slot octets [] held in
    let now : staged_blocks (slice_set lists slot octets) ≡ n + blocks_of (length octets) = omega arith in
    now ∙ ap (λ (xs : List ℕ). n + blocks_of (length xs)) (sym (get_or-set_same lists slot octets [] held))

longer-cond : (b : Bool) (a a' c c' : Option Node) → Longer a a' → Longer c c' → Longer (cond b a c) (cond b a' c')
longer-cond true a a' c c' h k = h
longer-cond false a a' c c' h k = k

pub longer-becomes : (slot other m n : ℕ) (F G : Filestore) (p q : Path) (a b : Option Node) → IsLonger slot other m n F G → p ≡ q → Longer a b →
    IsLonger slot other m n (changed F (Becomes p a)) (changed G (Becomes q b))
longer-becomes slot other m n F G p q a b h e ab = record {
  nodes = λ x.
      subst (λ (v : Option Node). Longer (node_at (changed F (Becomes p a)) x) v) (sym (node_at-becomes G q b x))
      (subst (λ (v : Option Node). Longer v (cond (same_path x q) b (node_at G x)))
      (sym (node_at-becomes F p a x ∙ ap (λ y. cond (same_path x y) a (node_at F x)) e))
      (longer-cond (same_path x q) a b (node_at F x) (node_at G x) ab (h.nodes x)));
  staged = h.staged;
  held_F = h.held_F;
  held_G = h.held_G;
  others_F = h.others_F;
  others_G = h.others_G;
}

pub longer-stages : (slot other m n : ℕ) (F G : Filestore) (xs ys : List ℕ) → IsLonger slot other m n F G → length xs ≤ length ys →
    IsLonger slot other m n (changed F (Stages slot xs)) (changed G (Stages other ys))
longer-stages slot other m n F G xs ys h le = record {
  nodes = h.nodes;
  staged =
      subst (λ (v : List ℕ). length (staged_in (changed F (Stages slot xs)) slot) ≤ length v) (sym (get_or-set_same G.staged other ys [] h.held_G))
      (subst (λ (v : List ℕ). length v ≤ length ys) (sym (get_or-set_same F.staged slot xs [] h.held_F)) le);
  held_F = subst (λ n. slot < n) (sym (length-set F.staged slot xs)) h.held_F;
  held_G = subst (λ n. other < n) (sym (length-set G.staged other ys)) h.held_G;
  others_F = others-stay F.staged slot m xs h.held_F h.others_F;
  others_G = others-stay G.staged other n ys h.held_G h.others_G;
}

pub longer-changed : (slot other m n : ℕ) (F G : Filestore) (c d : Change) → IsLonger slot other m n F G → LongerChange slot other c d →
    IsLonger slot other m n (changed F c) (changed G d)
longer-changed slot other m n F G (Becomes p a) (Becomes q b) h k = longer-becomes slot other m n F G p q a b h k.0 k.1
longer-changed slot other m n F G (Becomes p a) (Stages s ys) h k = absurd k
longer-changed slot other m n F G (Stages s xs) (Becomes q b) h k = absurd k
longer-changed slot other m n F G (Stages s xs) (Stages t ys) h k =
    subst (λ (s : ℕ). IsLonger slot other m n (changed F (Stages s xs)) (changed G (Stages t ys))) (sym k.0)
    (subst (λ (t : ℕ). IsLonger slot other m n (changed F (Stages slot xs)) (changed G (Stages t ys))) (sym k.1)
    (longer-stages slot other m n F G xs ys h k.2))

pub longer-after : (slot other m n : ℕ) (F G : Filestore) (cs ds : List Change) → IsLonger slot other m n F G → LongerChanges slot other cs ds →
    IsLonger slot other m n (after F cs) (after G ds)
longer-after slot other m n F G [] [] h k = h
longer-after slot other m n F G [] (d ∷ ds) h k = absurd k
longer-after slot other m n F G (c ∷ cs) [] h k = absurd k
longer-after slot other m n F G (c ∷ cs) (d ∷ ds) h k = longer-after slot other m n (changed F c) (changed G d) cs ds
    (longer-changed slot other m n F G c d h k.0) k.1

-- ---- what is read of them

module _ (slot other m n : ℕ) (F G : Filestore) (h : IsLonger slot other m n F G) where
  -- no fewer blocks, the other slots apart
  pub blocks-longer : blocks F + n ≤ blocks G + m
  unfolding blocks
  blocks-longer =
      let nodes : weights (entries F.nodes) ≤ weights (entries G.nodes) = longer-weights (entries F.nodes) (entries G.nodes)
      (longer_entries (entries F.nodes) (entries G.nodes) (entries_sorted F.nodes) (entries_sorted G.nodes) (λ q.
      subst (λ (v : Option Node). Longer (find path_cmp q (entries F.nodes)) v) (get-entries G.nodes q)
      (subst (λ (v : Option Node). Longer v (node_at G q)) (get-entries F.nodes q) (h.nodes q)))) in
      let own : blocks_of (length (staged_in F slot)) ≤ blocks_of (length (staged_in G other)) =
      blocks_of-mono (length (staged_in F slot)) (length (staged_in G other)) h.staged in
      let one : staged_blocks F.staged ≡ m + blocks_of (length (staged_in F slot)) = h.others_F in
      let two : staged_blocks G.staged ≡ n + blocks_of (length (staged_in G other)) = h.others_G in
      omega arith

  pub parent-longer : (p : Path) → parent_is_good F p ≡ parent_is_good G p
  parent-longer p = ap (λ b. not (is_root p) && b) (good (parent p))
    where
      good : (q : Path) → is_good F q ≡ is_good G q
      good [] = refl
      good (x ∷ q) = longer-is_directory (h.nodes (x ∷ q))

  -- of the entries whose paths pass a test
  pub kept-longer : (test : Path → Bool) → LongerEntries (entries (retain_keys F.nodes test)) (entries (retain_keys G.nodes test))
  kept-longer test = longer_entries (entries (retain_keys F.nodes test)) (entries (retain_keys G.nodes test)) (entries_sorted (retain_keys F.nodes test))
      (entries_sorted (retain_keys G.nodes test)) (λ q.
      subst (λ (v : Option Node). Longer (find path_cmp q (entries (retain_keys F.nodes test))) v) (sym (kept G q))
      (subst (λ (v : Option Node). Longer v (cond (test q) (node_at G q) None)) (sym (kept F q))
      (longer-cond (test q) (node_at F q) (node_at G q) None None (h.nodes q) nothing)))
    where
      kept : (H : Filestore) (q : Path) → find path_cmp q (entries (retain_keys H.nodes test)) ≡ cond (test q) (node_at H q) None
      kept H q = sym (get-entries (retain_keys H.nodes test) q) ∙ get-retain_keys H.nodes test q (λ x e. ap test (sym (path_antisym q x e)))

  pub tree-longer : (p : Path) → LongerEntries (tree_at F p) (tree_at G p)
  tree-longer p = kept-longer (λ q. is_at_or_below q p)

  pub entries-longer : (p : Path) → has_entries F p ≡ has_entries G p
  entries-longer p = ap (λ n. not (n == 0)) (len-entries (inside F p) ∙ longer-length (entries (inside F p)) (entries (inside G p))
      (kept-longer (λ q. is_below q p)) ∙ sym (len-entries (inside G p)))
