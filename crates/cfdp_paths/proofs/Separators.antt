-- The names of a path in one buffer, with the octet 0 between them.
--     some_names, depth-names_of                       a buffer holds one name at least;  one more than it has separators
--     path_cmp-names_of, same_path-names_of            the order by names is the order of the buffers
--     at_or_below-names_of, begins_.., following       what is at or below a path begins with its octets, up to a separator
--     names_of-cut, cut_there, cut_nowhere             the names before and after a separator
--     some_separator, cut_last                         two names have a separator;  the names before the last one
--     names_of-next, names_of-last                     the first name, up to the first separator;  the last one, where there is none
--     text-names_of, names_of-parsed                   octets with `/` instead of each separator, and the other way round
--     length-joined                                    such octets are as many as the buffer has
--     names_of-spelled                                 the names that octets spell, once each `/` between them was replaced
--     replace_more                                     one more octet is replaced
--     rebased-names_of                                 what follows the octets of a path, after those of another
use Rattle.std.proofs.Common.{◌≡◌, ◌≢◌, refl, sym, ◌∙◌, ap, cond, ℕ, zero, suc, ◌+◌, ◌≤◌, ◌<◌, ◌==◌, nat_eq, Bool, true, false, ◌&&◌, List, [], ◌∷◌, ◌++◌, map, length, take, drop, get_or, set, add-one, arith, All, take-append-drop, length-take, length-drop, ◌-◌}
use Rattle.std.specs.List.{slice_split, onto_first, count_by}
use Rattle.std.specs.Cmp.{nat_cmp_is}
use Rattle.std.specs.Cmp.Lexicographic.{slice_cmp, pointwise, unequal, texts_ties, bytes_decides}
use Rattle.std.specs.Ordering.{ordering_then, nat_cmp, is_eq}
use Rattle.std.specs.declared.cmp.Ordering.{Ordering}
use Rattle.std.specs.declared.cmp.Ordering.TheVariants.{Less, Equal, Greater}
use Rattle.std.proofs.Math.Bool.{and_assoc}
use Rattle.std.proofs.Math.Bool.{and-false, and-true}
use Rattle.std.proofs.lemmas.Bool.{and_parts, false_from_ne_true, cond-false, eqb-true, eqb-false, ne_eqb}
use Rattle.std.proofs.Math.Seq.{drop-cons}
use Rattle.std.proofs.lemmas.List.{take_all, take_at, take-take, append-nil, get_or-take, length-map}
use Rattle.std.proofs.lemmas.List.Elements.{All-weaker, All-head, All-tail, All-cons, All-from_get_or}
use Rattle.std.proofs.lemmas.List.Splits.{length-slice_split, slice_split_none}
use Rattle.cfdp_paths.specs.Paths.{Name, Path, IsName, IsPath, is_separator, names_of, path_cmp, same_name, same_path, is_at_or_below, slash, is_slash, without_slash, joined, names_in, rebased}
use Rattle.cfdp_paths.proofs.Below.{rebased-append}

pub some_names : (octets : List ℕ) → 1 ≤ length (names_of octets)
some_names octets = omega (arith, length-slice_split is_separator octets)

-- ---- the order

then_assoc : (a b c : Ordering) → ordering_then (ordering_then a b) c ≡ ordering_then a (ordering_then b c)
then_assoc Less b c = refl
then_assoc Equal b c = refl
then_assoc Greater b c = refl

-- one octet more in both of the first names
cmp_onto : (x y : ℕ) (p q : Path) → 1 ≤ length p → 1 ≤ length q → path_cmp (onto_first x p) (onto_first y q) ≡ ordering_then (nat_cmp x y) (path_cmp p q)
cmp_onto x y [] q some some' = absurd (omega arith)
cmp_onto x y (n ∷ p) [] some some' = absurd (omega arith)
cmp_onto x y (n ∷ p) (m ∷ q) some some' = then_assoc (nat_cmp x y) (slice_cmp nat_cmp n m) (path_cmp p q)

-- no name comes before all others
cmp_none : (y : ℕ) (p q : Path) → 1 ≤ length q → path_cmp ([] ∷ p) (onto_first y q) ≡ Less
cmp_none y p [] some = absurd (omega arith)
cmp_none y p (m ∷ q) some = refl

cmp_none' : (x : ℕ) (p q : Path) → 1 ≤ length p → path_cmp (onto_first x p) ([] ∷ q) ≡ Greater
cmp_none' x [] q some = absurd (omega arith)
cmp_none' x (n ∷ p) q some = refl

separator_first : (y : ℕ) → is_separator y ≡ false → nat_cmp 0 y ≡ Less
separator_first y other = let some = eqb-false y 0 other in sym (nat_cmp_is 0 y Less (omega arith))

separator_first' : (x : ℕ) → is_separator x ≡ false → nat_cmp x 0 ≡ Greater
separator_first' x other = let some = eqb-false x 0 other in sym (nat_cmp_is x 0 Greater (omega arith))

-- the buffers have one octet more, which are separators or not
cmp_more : (x y : ℕ) (a b : List ℕ) (u v : Bool) → is_separator x ≡ u → is_separator y ≡ v → path_cmp (names_of a) (names_of b) ≡ slice_cmp nat_cmp a b
    → path_cmp (cond u ([] ∷ names_of a) (onto_first x (names_of a))) (cond v ([] ∷ names_of b) (onto_first y (names_of b)))
    ≡ ordering_then (nat_cmp x y) (slice_cmp nat_cmp a b)
cmp_more x y a b true true ex ey h = rw (eqb-true x 0 ex, eqb-true y 0 ey) h
cmp_more x y a b true false ex ey h =
    cmp_none y (names_of a) (names_of b) (some_names b) ∙ sym (ap (λ o. ordering_then o (slice_cmp nat_cmp a b)) (ap (λ n. nat_cmp n y) (eqb-true x 0 ex)
    ∙ separator_first y ey))
cmp_more x y a b false true ex ey h =
    cmp_none' x (names_of a) (names_of b) (some_names a) ∙ sym (ap (λ o. ordering_then o (slice_cmp nat_cmp a b)) (ap (λ n. nat_cmp x n) (eqb-true y 0 ey)
    ∙ separator_first' x ex))
cmp_more x y a b false false ex ey h = cmp_onto x y (names_of a) (names_of b) (some_names a) (some_names b) ∙ ap (ordering_then (nat_cmp x y)) h

root_first : (q : Path) → 1 ≤ length q → path_cmp [] q ≡ Less
root_first [] some = absurd (omega arith)
root_first (m ∷ q) some = refl

root_first' : (p : Path) → 1 ≤ length p → path_cmp p [] ≡ Greater
root_first' [] some = absurd (omega arith)
root_first' (n ∷ p) some = refl

cmp_empty : (y : ℕ) (b : List ℕ) (v : Bool) → path_cmp ([] ∷ []) (cond v ([] ∷ names_of b) (onto_first y (names_of b))) ≡ Less
cmp_empty y b true = root_first (names_of b) (some_names b)
cmp_empty y b false = cmp_none y [] (names_of b) (some_names b)

cmp_empty' : (x : ℕ) (a : List ℕ) (u : Bool) → path_cmp (cond u ([] ∷ names_of a) (onto_first x (names_of a))) ([] ∷ []) ≡ Greater
cmp_empty' x a true = root_first' (names_of a) (some_names a)
cmp_empty' x a false = cmp_none' x (names_of a) [] (some_names a)

pub path_cmp-names_of : (a b : List ℕ) → path_cmp (names_of a) (names_of b) ≡ slice_cmp nat_cmp a b
path_cmp-names_of [] [] = refl
path_cmp-names_of [] (y ∷ b) = cmp_empty y b (is_separator y)
path_cmp-names_of (x ∷ a) [] = cmp_empty' x a (is_separator x)
path_cmp-names_of (x ∷ a) (y ∷ b) = cmp_more x y a b (is_separator x) (is_separator y) refl refl (path_cmp-names_of a b)

pub same_path-names_of : (a b : List ℕ) → same_path (names_of a) (names_of b) ≡ pointwise nat_eq a b
same_path-names_of a b = ap is_eq (path_cmp-names_of a b) ∙ sym (texts_ties a b)

-- ---- at or below

-- a name ends where nothing follows, or a separator does
abbrev pub ends_name : List ℕ → Bool
ends_name [] = true
ends_name (octet ∷ octets) = is_separator octet

other_octets : (x y : ℕ) (r : Bool) → x ≢ y → (nat_eq x y && r) ≡ false
other_octets x y r other = ap (λ b. b && r) (ne_eqb x y other)

below_onto : (x y : ℕ) (p q : Path) → 1 ≤ length p → 1 ≤ length q → is_at_or_below (onto_first x p) (onto_first y q) ≡ (nat_eq x y && is_at_or_below p q)
below_onto x y [] q some some' = absurd (omega arith)
below_onto x y (n ∷ p) [] some some' = absurd (omega arith)
below_onto x y (n ∷ p) (m ∷ q) some some' =
    ap (λ b. b && is_at_or_below p q) (sym (texts_ties (x ∷ n) (y ∷ m)) ∙ ap (λ b. nat_eq x y && b) (texts_ties n m))
    ∙ and_assoc (nat_eq x y) (same_name n m) (is_at_or_below p q)

below_none : (y : ℕ) (p q : Path) → 1 ≤ length q → is_at_or_below ([] ∷ p) (onto_first y q) ≡ false
below_none y p [] some = absurd (omega arith)
below_none y p (m ∷ q) some = refl

below_none' : (x : ℕ) (p q : Path) → 1 ≤ length p → is_at_or_below (onto_first x p) ([] ∷ q) ≡ false
below_none' x [] q some = absurd (omega arith)
below_none' x (n ∷ p) q some = refl

below_more : (x y : ℕ) (a b : List ℕ) (r u v : Bool) → is_separator x ≡ u → is_separator y ≡ v → is_at_or_below (names_of a) (names_of b) ≡ r
    → is_at_or_below (cond u ([] ∷ names_of a) (onto_first x (names_of a))) (cond v ([] ∷ names_of b) (onto_first y (names_of b))) ≡ (nat_eq x y && r)
below_more x y a b r true true ex ey h = rw (eqb-true x 0 ex, eqb-true y 0 ey) h
below_more x y a b r true false ex ey h =
    below_none y (names_of a) (names_of b) (some_names b) ∙ sym (other_octets x y r (λ e. eqb-false y 0 ey (sym e ∙ eqb-true x 0 ex)))
below_more x y a b r false true ex ey h =
    below_none' x (names_of a) (names_of b) (some_names a) ∙ sym (other_octets x y r (λ e. eqb-false x 0 ex (e ∙ eqb-true y 0 ey)))
below_more x y a b r false false ex ey h = below_onto x y (names_of a) (names_of b) (some_names a) (some_names b) ∙ ap (λ b. nat_eq x y && b) h

below_empty : (x : ℕ) (a : List ℕ) (u : Bool) → is_at_or_below (cond u ([] ∷ names_of a) (onto_first x (names_of a))) ([] ∷ []) ≡ u
below_empty x a true = refl
below_empty x a false = below_none' x (names_of a) [] (some_names a)

above_root : (q : Path) → 1 ≤ length q → is_at_or_below [] q ≡ false
above_root [] some = absurd (omega arith)
above_root (m ∷ q) some = refl

above_empty : (y : ℕ) (b : List ℕ) (v : Bool) → is_at_or_below ([] ∷ []) (cond v ([] ∷ names_of b) (onto_first y (names_of b))) ≡ false
above_empty y b true = above_root (names_of b) (some_names b)
above_empty y b false = below_none y [] (names_of b) (some_names b)

pub at_or_below-names_of : (a b : List ℕ) → is_at_or_below (names_of a) (names_of b) ≡ (pointwise nat_eq (take (length b) a) b && ends_name (drop (length b) a))
at_or_below-names_of [] [] = refl
at_or_below-names_of (x ∷ a) [] = below_empty x a (is_separator x)
at_or_below-names_of [] (y ∷ b) = above_empty y b (is_separator y)
at_or_below-names_of (x ∷ a) (y ∷ b) =
    below_more x y a b _ (is_separator x) (is_separator y) refl refl (at_or_below-names_of a b)
    ∙ sym (and_assoc (nat_eq x y) (pointwise nat_eq (take (length b) a) b) (ends_name (drop (length b) a)))

-- ---- cut at a separator

onto_append : (x : ℕ) (p q : Path) → 1 ≤ length p → onto_first x (p ++ q) ≡ onto_first x p ++ q
onto_append x [] q some = absurd (omega arith)
onto_append x (n ∷ p) q some = refl

cut_more : (x : ℕ) (a : List ℕ) (p q : Path) (u : Bool) → p ≡ names_of a ++ q → cond u ([] ∷ p) (onto_first x p)
    ≡ cond u ([] ∷ names_of a) (onto_first x (names_of a)) ++ q
cut_more x a p q true h = ap (λ r. [] ∷ r) h
cut_more x a p q false h = ap (onto_first x) h ∙ onto_append x (names_of a) q (some_names a)

pub names_of-cut : (a b : List ℕ) → names_of (a ++ 0 ∷ b) ≡ names_of a ++ names_of b
names_of-cut [] b = refl
names_of-cut (x ∷ a) b = cut_more x a (names_of (a ++ 0 ∷ b)) (names_of b) (is_separator x) (names_of-cut a b)

-- ---- `/` instead of each separator, and the other way round

joined_first : (p : Path) → 1 ≤ length p → joined ([] ∷ p) ≡ slash ∷ joined p
joined_first [] some = absurd (omega arith)
joined_first (n ∷ p) some = refl

joined_onto : (x : ℕ) (p : Path) → 1 ≤ length p → joined (onto_first x p) ≡ x ∷ joined p
joined_onto x [] some = absurd (omega arith)
joined_onto x (n ∷ []) some = refl
joined_onto x (n ∷ m ∷ p) some = refl

text_more : (x : ℕ) (a : List ℕ) (text : List ℕ) (u : Bool) → text ≡ joined (names_of a) → (cond u slash x) ∷ text
    ≡ joined (cond u ([] ∷ names_of a) (onto_first x (names_of a)))
text_more x a text true h = ap (λ t. slash ∷ t) h ∙ sym (joined_first (names_of a) (some_names a))
text_more x a text false h = ap (λ t. x ∷ t) h ∙ sym (joined_onto x (names_of a) (some_names a))

pub text-names_of : (a : List ℕ) → map (λ octet. cond (octet == 0) slash octet) a ≡ joined (names_of a)
text-names_of [] = refl
text-names_of (x ∷ a) = text_more x a (map (λ octet. cond (octet == 0) slash octet) a) (is_separator x) (text-names_of a)

-- a path is spelled by as many octets as its buffer has
pub length-joined : (a : List ℕ) → length (joined (names_of a)) ≡ length a
length-joined a = ap length (sym (text-names_of a)) ∙ length-map a (λ octet. cond (octet == 0) slash octet)

abbrev pub LacksZero : Name → Type 0
LacksZero name = All (λ octet. octet ≢ 0) name

lacks_from_onto : (x : ℕ) (p : Path) → 1 ≤ length p → All LacksZero (onto_first x p) → (x ≢ 0) × All LacksZero p
lacks_from_onto x [] some h = absurd (omega arith)
lacks_from_onto x (n ∷ p) some h =
    let first = All-head LacksZero (x ∷ n) p h in
    (All-head (λ o. o ≢ 0) x n first, All-cons LacksZero n p (All-tail (λ o. o ≢ 0) x n first) (All-tail LacksZero (x ∷ n) p h))

parsed_more : (x : ℕ) (a held : List ℕ) (u : Bool) → (All LacksZero (slice_split is_slash a) → names_of held ≡ slice_split is_slash a)
    → All LacksZero (cond u ([] ∷ slice_split is_slash a) (onto_first x (slice_split is_slash a)))
    → names_of (cond u 0 x ∷ held) ≡ cond u ([] ∷ slice_split is_slash a) (onto_first x (slice_split is_slash a))
parsed_more x a held true h lacks = ap (λ p. [] ∷ p) (h (All-tail LacksZero [] (slice_split is_slash a) lacks))
parsed_more x a held false h lacks =
    let parts = lacks_from_onto x (slice_split is_slash a) (omega (arith, length-slice_split is_slash a)) lacks in
    cond-false (is_separator x) ([] ∷ names_of held) (onto_first x (names_of held)) (ne_eqb x 0 parts.0) ∙ ap (onto_first x) (h parts.1)

pub names_lack_zero : (p : Path) → All IsName p → All LacksZero p
names_lack_zero p good = All-weaker IsName LacksZero (λ n w. All-weaker (λ o. (o ≢ slash) × (o ≢ 0)) (λ o. o ≢ 0) (λ o h. h.1) n w.octets) p good

pub names_of-parsed : (a : List ℕ) → All LacksZero (slice_split is_slash a) → names_of (map (λ octet. cond (octet == slash) 0 octet) a) ≡ slice_split is_slash a
names_of-parsed [] lacks = refl
names_of-parsed (x ∷ a) lacks = parsed_more x a (map (λ octet. cond (octet == slash) 0 octet) a) (is_slash x) (names_of-parsed a) lacks

-- what was made of the octets has the names that they spell
pub names_of-spelled : (octets front made : List ℕ) → IsPath (names_in octets) → front ≡ without_slash octets → made
    ≡ map (λ octet. cond (octet == slash) 0 octet) front → names_of made ≡ names_in octets
names_of-spelled octets front made path stripped replaced =
    ap names_of (replaced ∙ ap (map (λ octet. cond (octet == slash) 0 octet)) stripped)
    ∙ names_of-parsed (without_slash octets) (names_lack_zero (names_in octets) path.names)

-- ---- one more octet is replaced

-- the octets of which the first i were replaced
abbrev pub replaced_to : (ℕ → ℕ) → ℕ → List ℕ → List ℕ
replaced_to f i octets = map f (take i octets) ++ drop i octets

replaced_next : (f : ℕ → ℕ) (octets : List ℕ) (i : ℕ) → i < length octets → set (replaced_to f i octets) i (f (get_or (replaced_to f i octets) i 0))
    ≡ replaced_to f (i + 1) octets
replaced_next f [] i within = absurd (omega arith)
replaced_next f (x ∷ octets) zero within = refl
replaced_next f (x ∷ octets) (suc i) within =
    rw (add-one (suc i)) (ap (λ o. f x ∷ o) (rw (add-one i) at (replaced_next f octets i (omega arith))))

pub replace_more : (f : ℕ → ℕ) (octets now next : List ℕ) (i y : ℕ) → now ≡ replaced_to f i octets → i < length octets → next ≡ set now i y → y
    ≡ f (get_or now i 0) → next ≡ replaced_to f (i + 1) octets
replace_more f octets now next i y e within written same =
    written ∙ ap (set now i) same ∙ ap (λ o. set o i (f (get_or o i 0))) e ∙ replaced_next f octets i within

-- ---- a walk to the end of some names

pub depth-names_of : (octets : List ℕ) → length (names_of octets) ≡ 1 + count_by is_separator octets
depth-names_of octets = omega (arith, length-slice_split is_separator octets)

pub cut_there : (octets : List ℕ) (index count left : ℕ) → index < length octets → get_or octets index 0 ≡ 0 → count_by is_separator (take index octets) + left
    ≡ count → left ≡ 1
    → names_of (take index octets) ≡ take count (names_of octets)
cut_there octets index count left within separates passed last =
    let whole : take index octets ++ 0 ∷ drop (suc index) octets ≡ octets =
    ap (λ x. take index octets ++ x ∷ drop (suc index) octets) (sym separates) ∙ ap (λ o. take index octets ++ o) (sym (drop-cons octets index 0 within))
    ∙ take-append-drop index octets in
    let parts : names_of octets ≡ names_of (take index octets) ++ names_of (drop (suc index) octets) =
    ap names_of (sym whole) ∙ names_of-cut (take index octets) (drop (suc index) octets) in
    sym (ap (take count) parts ∙ take_at (names_of (take index octets)) (names_of (drop (suc index) octets)) count
    (omega (arith, depth-names_of (take index octets))))

pub cut_nowhere : (octets : List ℕ) (index count left : ℕ) → length octets ≤ index → count_by is_separator (take index octets) + left ≡ count → 1 ≤ left →
    names_of octets ≡ take count (names_of octets)
cut_nowhere octets index count left past passed some =
    let all : count_by is_separator (take index octets) ≡ count_by is_separator octets = ap (count_by is_separator) (take_all index octets past) in
    sym (take_all count (names_of octets) (omega (arith, depth-names_of octets)))

-- ---- a walk back over the last names

pub some_separator : (octets front : List ℕ) (kept : ℕ) → names_of front ≡ take kept (names_of octets) → 2 ≤ kept
    → kept ≤ length (names_of octets) → 1 ≤ count_by is_separator front
some_separator octets front kept names more within = omega (arith, depth-names_of front, ap length names, length-take kept (names_of octets), more, within)

pub cut_last : (octets front : List ℕ) (index kept : ℕ) → names_of front ≡ take kept (names_of octets) → kept ≤ length (names_of octets)
    → index < length front → get_or front index 0 ≡ 0
    → count_by is_separator (take index front) + 1 ≡ count_by is_separator front → names_of (take index front) ≡ take (kept - 1) (names_of octets)
cut_last octets front index kept names within inside separates last =
    let count = count_by is_separator (take index front) + 1 in
    let less : count ≡ kept - 1 = omega (arith, last, depth-names_of front, ap length names, length-take kept (names_of octets), within) in
    cut_there front index count 1 inside separates refl refl
    ∙ ap (take count) names ∙ take-take count kept (names_of octets) (omega (arith, less)) ∙ ap (λ n. take n (names_of octets)) less

-- ---- the first name

pub names_of-last : (octets : List ℕ) → ((k : ℕ) → 0 ≤ k → k < length octets → is_separator (get_or octets k 0) ≡ true → ⊥) → names_of octets ≡ octets ∷ []
names_of-last octets none =
    slice_split_none is_separator octets
    (All-from_get_or (λ x. is_separator x ≡ false) octets 0 (λ i less. false_from_ne_true (is_separator (get_or octets i 0)) (none i (omega arith) less)))

pub names_of-next : (octets : List ℕ) (index following : ℕ) → following ≡ index + 1 → index < length octets
    → ((k : ℕ) → 0 ≤ k → k < index → is_separator (get_or octets k 0) ≡ true → ⊥) → is_separator (get_or octets index 0) ≡ true
    → names_of octets ≡ take index octets ∷ names_of (take (length octets - following) (drop following octets))
names_of-next octets index following e within none here =
    let whole : take index octets ++ 0 ∷ drop (suc index) octets ≡ octets =
    ap (λ x. take index octets ++ x ∷ drop (suc index) octets) (sym (eqb-true (get_or octets index 0) 0 here))
    ∙ ap (λ o. take index octets ++ o) (sym (drop-cons octets index 0 within)) ∙ take-append-drop index octets in
    let alone = names_of-last (take index octets) (λ k low less at.
    (let inside : k < index = omega (arith, less, length-take index octets) in
    none k low inside (ap is_separator (sym (get_or-take index octets k 0 inside)) ∙ at))) in
    let rest : drop (suc index) octets ≡ take (length octets - following) (drop following octets) =
    (let next : suc index ≡ following = omega (arith, e) in ap (λ n. drop n octets) next
    ∙ sym (take_all (length octets - following) (drop following octets) (omega (arith, length-drop following octets)))) in
    ap names_of (sym whole) ∙ names_of-cut (take index octets) (drop (suc index) octets) ∙ ap (λ p. p ++ names_of (drop (suc index) octets)) alone
    ∙ ap (λ o. take index octets ∷ names_of o) rest

-- ---- what follows the octets of a path

-- octets that are fewer begin with none
pub begins_short : (a b : List ℕ) → length a < length b → false ≡ is_at_or_below (names_of a) (names_of b)
begins_short a b short =
    sym (at_or_below-names_of a b ∙ ap (λ t. t && ends_name (drop (length b) a))
    (unequal nat_eq (take (length b) a) b (λ e. omega (arith, length-take (length b) a, e))))

-- what comes after the front ends a name
pub begins_ending : (a b head rest : List ℕ) (r : Bool) → r ≡ pointwise nat_eq head b → head ≡ take (length b) a → rest ≡ drop (length b) a → ends_name rest
    ≡ true → r ≡ is_at_or_below (names_of a) (names_of b)
begins_ending a b head rest r same front following ends =
    same ∙ ap (λ h. pointwise nat_eq h b) front ∙ sym (and-true (pointwise nat_eq (take (length b) a) b))
    ∙ ap (λ e. pointwise nat_eq (take (length b) a) b && e) (sym ends ∙ ap ends_name following)
    ∙ sym (at_or_below-names_of a b)

-- or goes on with it
pub begins_going_on : (a b rest : List ℕ) → rest ≡ drop (length b) a → ends_name rest ≡ false → false ≡ is_at_or_below (names_of a) (names_of b)
begins_going_on a b rest following goes =
    sym (and-false (pointwise nat_eq (take (length b) a) b)) ∙ ap (λ e. pointwise nat_eq (take (length b) a) b && e) (sym goes ∙ ap ends_name following)
    ∙ sym (at_or_below-names_of a b)

pub ends_nothing : (rest : List ℕ) → length rest < 1 → true ≡ ends_name rest
ends_nothing [] none = refl
ends_nothing (x ∷ rest) none = absurd (omega arith)

pub ends_something : (rest : List ℕ) → 1 ≤ length rest → nat_eq (get_or rest 0 0) 0 ≡ ends_name rest
ends_something [] some = absurd (omega arith)
ends_something (x ∷ rest) some = refl

pub following : (a b : List ℕ) → is_at_or_below (names_of a) (names_of b) ≡ true → (a ≡ b ++ drop (length b) a) × (ends_name (drop (length b) a) ≡ true)
following a b below =
    let parts = and_parts (pointwise nat_eq (take (length b) a) b) (ends_name (drop (length b) a)) (sym (at_or_below-names_of a b) ∙ below) in
    (sym (ap (λ o. o ++ drop (length b) a) (sym ((bytes_decides (take (length b) a) b).0 parts.0)) ∙ take-append-drop (length b) a), parts.1)

rebased_rest : (b t rest : List ℕ) → ends_name rest ≡ true → names_of (t ++ rest) ≡ rebased (names_of b) (names_of t) (names_of (b ++ rest))
rebased_rest b t [] ends =
    rw (append-nil t, append-nil b) (sym (ap (rebased (names_of b) (names_of t)) (sym (append-nil (names_of b))) ∙ rebased-append (names_of b) (names_of t) []
    ∙ append-nil (names_of t)))
rebased_rest b t (x ∷ rest) ends =
    rw (eqb-true x 0 ends) (names_of-cut t rest ∙ sym (ap (rebased (names_of b) (names_of t)) (names_of-cut b rest)
    ∙ rebased-append (names_of b) (names_of t) (names_of rest)))

pub rebased-names_of : (a b t : List ℕ) → is_at_or_below (names_of a) (names_of b) ≡ true → names_of (t ++ drop (length b) a)
    ≡ rebased (names_of b) (names_of t) (names_of a)
rebased-names_of a b t below =
    let parts = following a b below in
    rebased_rest b t (drop (length b) a) parts.1 ∙ ap (λ o. rebased (names_of b) (names_of t) (names_of o)) (sym parts.0)
