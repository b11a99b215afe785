-- Lists of paths in path order, each path once, and what a binary search in one finds.
--     same_set_from, same_set-append, same_set-there, same_set-insert      lists of the same paths
--     searchable                   how the paths of an ordered list compare with one path never falls
--     sorted-insert                a path is put at its index
--     found_there, searched        a path that is found is there;  whether one is found
use Rattle.std.proofs.Common.{◌≡◌, refl, sym, ◌∙◌, ap, subst, ℕ, zero, suc, ◌<◌, ◌≤◌, ◌==◌, Bool, true, false, ◌||◌, inl, inr, List, [], ◌∷◌, ◌++◌, length, take, drop, get_or, arith, append_assoc, take-append-drop, ◌+◌, map, Option, Some, Result, Ok, Err}
use Rattle.std.specs.Prelude.{flat_map, is_ok, OnOk}
use Rattle.std.proofs.lemmas.Grind.{flat_map-append}
use Rattle.std.proofs.lemmas.List.{take_more, map-append, append-nil}
use Rattle.std.specs.List.{list_any, AllByRecursion, AllWithin, HoldsAt, insert}
use Rattle.std.specs.List.Sorted.{IsStrictlySortedBy, IsNonDecreasingBy, IsSearchInRange, IsBinarySearchResult}
use Rattle.std.specs.FinSet as set
use Rattle.std.specs.declared.alloc.AllocError.{AllocError}
use Rattle.std.specs.Ordering.{ordering_index, ordering_reverse, is_eq}
use Rattle.std.specs.declared.cmp.Ordering.{Ordering}
use Rattle.std.specs.declared.cmp.Ordering.TheVariants.{Less, Equal, Greater}
use Rattle.std.proofs.Math.Bool.{or-false}
use Rattle.std.proofs.lemmas.List.Folds.{list_any-append}
use Rattle.std.proofs.lemmas.Map.Keys.{Less-from_sorted}
use Rattle.std.proofs.lemmas.Bool.{cases_Bool, eqb-true, eqb-false, or_left, or_right}
use Rattle.cfdp_paths.specs.Paths.{Path, path_cmp, same_path}
use Rattle.cfdp_paths.proofs.Comparing.{same_path-Decides, path_cmp-total}
use Rattle.cfdp_paths.specs.Paths.{ancestors}
use Rattle.cfdp_actions.specs.Actions.{Item, Perform, Request, first_in, second_in}
use Rattle.cfdp_actions.specs.Actions as actions
use Rattle.cfdp_actions.proofs.Truths.{absorbed}
use Rattle.cfdp_leases.specs.Items.{install_of, items_of}
use Rattle.cfdp_leases.specs.Footprint.{exclusive_in, read_in}
use Rattle.cfdp_leases.specs.code.Footprint.{SameSet}
use Rattle.cfdp_paths.proofs.InOrder.{path_antisym}

-- ---- lists of the same paths

pub same_set_from : (xs ys : List Path) → ((q : Path) → list_any (same_path q) xs ≡ list_any (same_path q) ys) → SameSet xs ys
same_set_from xs ys h =
    set.same_set path_cmp-total path_antisym (set.from_list xs) (set.from_list ys)
    (λ q. set.contains-from_list path_cmp-total xs q ∙ h q ∙ sym (set.contains-from_list path_cmp-total ys q))

pub same_members : (xs ys : List Path) (q : Path) → SameSet xs ys → list_any (same_path q) xs ≡ list_any (same_path q) ys
same_members xs ys q h =
    sym (set.contains-from_list path_cmp-total xs q) ∙ ap (λ s. set.contains s q) h ∙ set.contains-from_list path_cmp-total ys q

-- more of the same after both
pub same_set-append : (xs ys zs : List Path) → SameSet xs ys → SameSet (xs ++ zs) (ys ++ zs)
same_set-append xs ys zs h =
    same_set_from (xs ++ zs) (ys ++ zs)
    (λ q. list_any-append (same_path q) xs zs ∙ ap (λ b. b || list_any (same_path q) zs) (same_members xs ys q h) ∙ sym (list_any-append (same_path q) ys zs))

-- two steps, one after another
pub same_set-then : (xs ys zs a b : List Path) → SameSet ys (xs ++ a) → SameSet zs (ys ++ b) → SameSet zs (xs ++ (a ++ b))
same_set-then xs ys zs a b h k = k ∙ same_set-append ys (xs ++ a) b h ∙ ap set.from_list (append_assoc xs a b)

-- a path that is there already
pub same_set-there : (xs : List Path) (x : Path) → list_any (same_path x) xs ≡ true → SameSet xs (xs ++ x ∷ [])
same_set-there xs x h =
    same_set_from xs (xs ++ x ∷ [])
    (λ q. absorbed (list_any (same_path q) xs) (same_path q x || false) (λ same.
    subst (λ y. list_any (same_path y) xs ≡ true) (sym ((same_path-Decides q x).0 (sym (or-false (same_path q x)) ∙ same))) h)
    ∙ sym (list_any-append (same_path q) xs (x ∷ [])))

between : (a b c : Bool) → (a || (b || c)) ≡ ((a || c) || (b || false))
between true b c = refl
between false true true = refl
between false true false = refl
between false false true = refl
between false false false = refl

-- a path that is put in
pub same_set-insert : (xs : List Path) (x : Path) (i : ℕ) → SameSet (insert xs i x) (xs ++ x ∷ [])
same_set-insert xs x i =
    same_set_from (insert xs i x) (xs ++ x ∷ [])
    (λ q. list_any-append (same_path q) (take i xs) (x ∷ drop i xs)
    ∙ between (list_any (same_path q) (take i xs)) (same_path q x) (list_any (same_path q) (drop i xs))
    ∙ ap (λ b. b || (same_path q x || false)) (sym (list_any-append (same_path q) (take i xs) (drop i xs))
    ∙ ap (list_any (same_path q)) (take-append-drop i xs))
    ∙ sym (list_any-append (same_path q) xs (x ∷ [])))

-- the same after a call that may find no memory
pub and_then : {T : Type 0} (r : Result T AllocError) (xs ys zs a b : List Path) → SameSet ys (xs ++ a) → OnOk r (SameSet zs (ys ++ b)) →
    OnOk r (SameSet zs (xs ++ (a ++ b)))
and_then (Ok done) xs ys zs a b h k = same_set-then xs ys zs a b h k
and_then (Err refusal) xs ys zs a b h k = tt

-- ---- the order

turned : (p q : Path) (o : Ordering) → path_cmp p q ≡ o → path_cmp q p ≡ ordering_reverse o
turned p q o h = path_cmp-total.antisymm q p ∙ ap ordering_reverse h

index_at_most : (o : Ordering) → ordering_index o ≤ 2
index_at_most Less = omega arith
index_at_most Equal = omega arith
index_at_most Greater = omega arith

rises_to : (a b t : Path) (o : Ordering) → path_cmp a b ≡ Less → path_cmp b t ≡ o → ordering_index (path_cmp a t) ≤ ordering_index o
rises_to a b t Less h e = rw (path_cmp-total.trans a b t h e) (omega arith)
rises_to a b t Equal h e =
    rw (turned t a Greater (path_cmp-total.congr t b a (turned b t Equal e) ∙ turned a b Less h)) (omega arith)
rises_to a b t Greater h e = index_at_most (path_cmp a t)

pub searchable : (xs : List Path) (t : Path) → IsStrictlySortedBy path_cmp xs → IsNonDecreasingBy (λ y. ordering_index (path_cmp y t)) xs
searchable xs t sorted i j d upto within =
    elim (cases_Bool (i == j)) [
      | inl same ↦ rw (eqb-true i j same) (omega arith)
      | inr other ↦
          let below : i < j = let h = eqb-false i j other in omega arith in
          rises_to (get_or xs i d) (get_or xs j d) t (path_cmp (get_or xs j d) t) (Less-from_sorted path_cmp xs i j d sorted below within) refl
    ]

pub found_there : (xs : List Path) (t : Path) (k : ℕ) → k < length xs → HoldsAt (λ y. path_cmp y t ≡ Equal) xs k → list_any (same_path t) xs ≡ true
found_there [] t k within at = absurd (omega arith)
found_there (x ∷ xs) t zero within at = or_left (same_path t x) (list_any (same_path t) xs) (ap is_eq (turned x t Equal (at t)))
found_there (x ∷ xs) t (suc k) within at = or_right (same_path t x) (list_any (same_path t) xs) (found_there xs t k (omega arith) at)

here : (xs : List Path) (t : Path) (k : ℕ) → k < length xs → HoldsAt (λ y. path_cmp y t ≡ Equal) xs k → list_any (λ held. same_path held t) xs ≡ true
here [] t k within at = absurd (omega arith)
here (x ∷ xs) t zero within at = or_left (same_path x t) (list_any (λ held. same_path held t) xs) (ap is_eq (at t))
here (x ∷ xs) t (suc k) within at = or_right (same_path x t) (list_any (λ held. same_path held t) xs) (here xs t k (omega arith) at)

nowhere : (xs : List Path) (t : Path) (i : ℕ) → AllWithin (λ y. path_cmp y t ≡ Less) xs 0 i → AllWithin (λ y. path_cmp y t ≡ Greater) xs i (length xs) →
    list_any (λ held. same_path held t) xs ≡ false
nowhere [] t i low high = refl
nowhere (x ∷ xs) t zero low high = λ j. is_eq (high zero x (omega arith) (omega arith) j)
    || nowhere xs t zero (λ k d above below. absurd (omega arith)) (λ k d above below. high (suc k) d (omega arith) (omega arith)) j
nowhere (x ∷ xs) t (suc i) low high = λ j. is_eq (low zero x (omega arith) (omega arith) j)
    || nowhere xs t i (λ k d above below. low (suc k) d (omega arith) (omega arith)) (λ k d above below. high (suc k) d (omega arith) (omega arith)) j

-- what a binary search says
pub searched : (xs : List Path) (t : Path) (r : Result ℕ ℕ) → IsStrictlySortedBy path_cmp xs → IsSearchInRange r (length xs) →
    IsBinarySearchResult (λ y. path_cmp y t) xs r → is_ok r ≡ list_any (λ held. same_path held t) xs
searched xs t (Ok k) sorted within at = sym (here xs t k within at)
searched xs t (Err i) sorted within at = let parts = at (searchable xs t sorted) in sym (nowhere xs t i parts.0 parts.1)

all_after : (t x : Path) (xs : List Path) → path_cmp t x ≡ Less → AllByRecursion (λ y. path_cmp x y ≡ Less) xs → AllByRecursion (λ y. path_cmp t y ≡ Less) xs
all_after t x [] before all = tt
all_after t x (y ∷ xs) before all = (path_cmp-total.trans t x y before all.0, all_after t x xs before all.1)

pub all-insert : (P : Path → Type 0) (xs : List Path) (t : Path) (i : ℕ) → AllByRecursion P xs → P t → AllByRecursion P (insert xs i t)
all-insert P [] t zero all this = (this, tt)
all-insert P [] t (suc i) all this = (this, tt)
all-insert P (x ∷ xs) t zero all this = (this, all)
all-insert P (x ∷ xs) t (suc i) all this = (all.0, all-insert P xs t i all.1 this)

-- a path that is put after all smaller ones and before all greater ones
pub sorted-insert : (xs : List Path) (t : Path) (i : ℕ) → IsStrictlySortedBy path_cmp xs → i ≤ length xs
    → AllWithin (λ y. path_cmp y t ≡ Less) xs 0 i → AllWithin (λ y. path_cmp y t ≡ Greater) xs i (length xs) → IsStrictlySortedBy path_cmp (insert xs i t)
unfolding IsStrictlySortedBy
sorted-insert [] t zero sorted within low high = (tt, tt)
sorted-insert [] t (suc i) sorted within low high = absurd (omega arith)
sorted-insert (x ∷ xs) t zero sorted within low high =
    let before : path_cmp t x ≡ Less = turned x t Greater (high zero x (omega arith) (omega arith)) in
    ((before, all_after t x xs before sorted.0), sorted)
sorted-insert (x ∷ xs) t (suc i) sorted within low high = (
  all-insert (λ y. path_cmp x y ≡ Less) xs t i sorted.0 (low zero x (omega arith) (omega arith)),
  sorted-insert xs t i sorted.1 (omega arith) (λ k d _ below. low (suc k) d (omega arith) (omega arith))
      (λ k d above below. high (suc k) d (omega arith) (omega arith)),
)

pub sorted-none : IsStrictlySortedBy path_cmp []
unfolding IsStrictlySortedBy
sorted-none = tt

-- ---- the paths of one request

-- what it names are its two paths
pub above-two : (r : Request) (p q : Path) → p ≡ first_in r → Some q ≡ second_in r → ancestors p ++ ancestors q
    ≡ flat_map ancestors (exclusive_in (Perform r) ++ read_in (Perform r))
above-two (actions.RenameFile x y) p q first second = let e : q ≡ y = cc in rw (first, e) (ap (λ a. ancestors x ++ a) (sym (append-nil (ancestors y))))
above-two (actions.AppendFile x y) p q first second = let e : q ≡ y = cc in rw (first, e) (ap (λ a. ancestors x ++ a) (sym (append-nil (ancestors y))))
above-two (actions.ReplaceFile x y) p q first second = let e : q ≡ y = cc in rw (first, e) (ap (λ a. ancestors x ++ a) (sym (append-nil (ancestors y))))
above-two (actions.CreateFile x) p q first second = absurd (cc)
above-two (actions.DeleteFile x) p q first second = absurd (cc)
above-two (actions.CreateDirectory x) p q first second = absurd (cc)
above-two (actions.RemoveDirectory x) p q first second = absurd (cc)
above-two (actions.DenyFile x) p q first second = absurd (cc)
above-two (actions.DenyDirectory x) p q first second = absurd (cc)

-- the paths of one item more
pub items-more : (f : Item → List Path) (d : Option Path) (rs : List Request) (i : ℕ) (r : Request) → i < length rs → r ≡ get_or rs i r
    → flat_map f (items_of d (take (i + 1) rs)) ≡ flat_map f (items_of d (take i rs)) ++ f (Perform r)
items-more f d rs i r within read =
    ap (λ xs. flat_map f (install_of d ++ map Perform xs)) (take_more rs i r within ∙ ap (λ x. take i rs ++ x ∷ []) (sym read))
    ∙ ap (λ xs. flat_map f (install_of d ++ xs)) (map-append Perform (take i rs) (r ∷ []))
    ∙ ap (flat_map f) (sym (append_assoc (install_of d) (map Perform (take i rs)) (Perform r ∷ [])))
    ∙ flat_map-append f (items_of d (take i rs)) (Perform r ∷ [])
    ∙ ap (λ xs. flat_map f (items_of d (take i rs)) ++ xs) (append-nil (f (Perform r)))
