-- Where a source has its place.
use Rattle.std.specs.Prelude.{slice_set, nat_lt}
use Rattle.std.proofs.Common.{◌≡◌, inl, inr, ℕ, zero, suc, ◌<◌, ◌≤◌, Bool, true, false, ◌||◌, ◌==◌, if◌then◌else◌, List, [], ◌∷◌, ◌++◌, take, drop, length, get_or, refl, sym, ap, ◌∙◌, arith}
use Rattle.std.proofs.lemmas.Bool.{cond-true, cond-false, cond_both, cases_Bool, or_cases, or_parts, both_ways, eqb-true, eq-eqb, lt-ltb, le-ltb}
use Rattle.cfdp_sessions.specs.Closed.{SourceFields, ClosedFields, no_names, names_in, put_names, has_source_in, has_session_of, kept_sources}
use Rattle.cfdp_sessions.specs.Sessions.{SessionFields}
use Rattle.cfdp_sessions.specs.code.Closed.{source_index}

abbrev pub fields : List SourceFields → Bool → ClosedFields
fields ss forgot = record { sources = ss; forgot = forgot }

index_if : (b rest : Bool) (index count : ℕ) → (b || rest) ≡ true → (rest ≡ true → index < count) → (if b then 0 else suc index) < suc count
index_if true rest index count h e = omega arith
index_if false rest index count h e = omega (arith, e h)

pub here : (ss : List SourceFields) (x : ℕ) → has_source_in ss x ≡ true → source_index ss x < length ss
here [] x h = absurd cc
here (s ∷ ss) x h = index_if (s.source == x) (has_source_in ss x) (source_index ss x) (length ss) h (here ss x)

none_if : (b rest : Bool) (index count : ℕ) → (b || rest) ≡ false → (rest ≡ false → count ≤ index) → suc count ≤ (if b then 0 else suc index)
none_if true rest index count h e = absurd cc
none_if false rest index count h e = omega (arith, e h)

nowhere : (ss : List SourceFields) (x : ℕ) → has_source_in ss x ≡ false → length ss ≤ source_index ss x
nowhere [] x h = omega arith
nowhere (s ∷ ss) x h = none_if (s.source == x) (has_source_in ss x) (source_index ss x) (length ss) h (nowhere ss x)

pub has_index : (ss : List SourceFields) (x : ℕ) → has_source_in ss x ≡ nat_lt (source_index ss x) (length ss)
has_index ss x = elim (cases_Bool (has_source_in ss x)) [
  | inl h ↦ h ∙ sym (lt-ltb (source_index ss x) (length ss) (here ss x h))
  | inr h ↦ h ∙ sym (le-ltb (source_index ss x) (length ss) (nowhere ss x h))
]

at_if : (b : Bool) (s d rest : SourceFields) (ss : List SourceFields) (index : ℕ) → (if b then 0 else suc index) < suc (length ss) →
    (index < length ss → rest ≡ get_or ss index d) → (if b then s else rest) ≡ get_or (s ∷ ss) (if b then 0 else suc index) d
at_if true s d rest ss index h e = refl
at_if false s d rest ss index h e = e (omega (arith, h))

pub names_at : (ss : List SourceFields) (x : ℕ) (d : SourceFields) → source_index ss x < length ss → names_in ss x ≡ get_or ss (source_index ss x) d
names_at [] x d h = absurd (omega arith)
names_at (s ∷ ss) x d h = at_if (s.source == x) s d (names_in ss x) ss (source_index ss x) h (names_at ss x d)

past_if : (b : Bool) (s rest none : SourceFields) (index count : ℕ) → suc count ≤ (if b then 0 else suc index) →
    (count ≤ index → rest ≡ none) → (if b then s else rest) ≡ none
past_if true s rest none index count h e = absurd (omega (arith, h))
past_if false s rest none index count h e = e (omega (arith, h))

pub names_past : (ss : List SourceFields) (x : ℕ) → length ss ≤ source_index ss x → names_in ss x ≡ no_names x
names_past [] x h = refl
names_past (s ∷ ss) x h = past_if (s.source == x) s (names_in ss x) (no_names x) (source_index ss x) (length ss) h (names_past ss x)

put_if : (b : Bool) (s new : SourceFields) (ss rest : List SourceFields) (index : ℕ) → (if b then 0 else suc index) < suc (length ss) →
    (index < length ss → slice_set ss index new ≡ rest) →
    slice_set (s ∷ ss) (if b then 0 else suc index) new ≡ (if b then new ∷ ss else s ∷ rest)
put_if true s new ss rest index h e = refl
put_if false s new ss rest index h e = ap (λ (xs : List SourceFields). s ∷ xs) (e (omega (arith, h)))

-- what is put at the index of its source
put_here : (ss : List SourceFields) (new : SourceFields) → source_index ss new.source < length ss →
    slice_set ss (source_index ss new.source) new ≡ put_names ss new
put_here [] new h = absurd (omega arith)
put_here (s ∷ ss) new h = put_if (s.source == new.source) s new ss (put_names ss new) (source_index ss new.source) h (put_here ss new)

pub put_at : (ss : List SourceFields) (new : SourceFields) (x : ℕ) → new.source ≡ x → source_index ss x < length ss →
    slice_set ss (source_index ss x) new ≡ put_names ss new
put_at ss new x e h =
    ap (λ (n : ℕ). slice_set ss (source_index ss n) new) (sym e)
    ∙ put_here ss new (omega (arith, h, ap (source_index ss) e))

-- a place that is taken stays, and one that is not is the last
same_if : (b : Bool) (s rest : SourceFields) (ss : List SourceFields) → (b ≡ false → put_names ss rest ≡ ss) → (x : ℕ) → rest.source ≡ x →
    (s.source == x) ≡ b → put_names (s ∷ ss) (if b then s else rest) ≡ s ∷ ss
same_if true s rest ss later x e here =
    cond-true (s.source == s.source) (s ∷ ss) (s ∷ put_names ss s) (eq-eqb s.source s.source refl)
same_if false s rest ss later x e here =
    cond-false (s.source == rest.source) (rest ∷ ss) (s ∷ put_names ss rest) (ap (λ (n : ℕ). s.source == n) e ∙ here)
    ∙ ap (λ (xs : List SourceFields). s ∷ xs) (later refl)

names_own : (ss : List SourceFields) (x : ℕ) → (names_in ss x).source ≡ x
names_own [] x = refl
names_own (s ∷ ss) x =
    cond_both (s.source == x) s (names_in ss x) (λ (n : SourceFields). n.source ≡ x) (λ e. eqb-true s.source x e) (λ e. names_own ss x)

pub put_same : (ss : List SourceFields) (x : ℕ) → has_source_in ss x ≡ true → put_names ss (names_in ss x) ≡ ss
put_same [] x h = absurd cc
put_same (s ∷ ss) x h =
    let seen = or_cases (s.source == x) (has_source_in ss x) h in
    same_if (s.source == x) s (names_in ss x) ss
    (λ other. elim seen [ inl here ↦ absurd (both_ways (s.source == x) other here) | inr later ↦ put_same ss x later ])
    x (names_own ss x) refl

pub put_new : (ss : List SourceFields) (x : ℕ) → has_source_in ss x ≡ false → put_names ss (names_in ss x) ≡ ss ++ no_names x ∷ []
put_new [] x h = refl
put_new (s ∷ ss) x h =
    let parts = or_parts (s.source == x) (has_source_in ss x) h in
    ap (put_names (s ∷ ss)) (cond-false (s.source == x) s (names_in ss x) parts.0)
    ∙ cond-false (s.source == (names_in ss x).source) (names_in ss x ∷ ss) (s ∷ put_names ss (names_in ss x))
    (ap (λ (n : ℕ). s.source == n) (names_own ss x) ∙ parts.0)
    ∙ ap (λ (xs : List SourceFields). s ∷ xs) (put_new ss x parts.1)

-- ---- a pass from the last place to the first: those before the index are as they were

pub set_middle : (old rest : List SourceFields) (i : ℕ) (new : SourceFields) → i < length old →
    slice_set (take (suc i) old ++ rest) i new ≡ take i old ++ new ∷ rest
set_middle [] rest i new h = absurd (omega (arith, h))
set_middle (s ∷ old) rest zero new h = refl
set_middle (s ∷ old) rest (suc i) new h = ap (λ (xs : List SourceFields). s ∷ xs) (set_middle old rest i new (omega (arith, h)))

pub drop_middle : (old rest : List SourceFields) (i : ℕ) (d : SourceFields) → i < length old →
    drop i old ≡ get_or (take (suc i) old ++ rest) i d ∷ drop (suc i) old
drop_middle [] rest i d h = absurd (omega (arith, h))
drop_middle (s ∷ old) rest zero d h = refl
drop_middle (s ∷ old) rest (suc i) d h = drop_middle old rest i d (omega (arith, h))

-- a source that has a session keeps its place
pub kept_step : (ss : List SessionFields) (old items : List SourceFields) (i n : ℕ) (item : SourceFields) → n ≡ suc i → i < length old →
    items ≡ take n old ++ kept_sources ss (drop n old) → item ≡ get_or items i item → has_session_of ss item.source ≡ true →
    slice_set items i (no_names item.source) ≡ take i old ++ kept_sources ss (drop i old)
kept_step ss old items i n item e h inv at has =
    let rest = kept_sources ss (drop (suc i) old) in
    let same : items ≡ take (suc i) old ++ rest = inv ∙ ap (λ (k : ℕ). take k old ++ kept_sources ss (drop k old)) e in
    let got : get_or (take (suc i) old ++ rest) i item ≡ item = sym (at ∙ ap (λ (xs : List SourceFields). get_or xs i item) same) in
    ap (λ (xs : List SourceFields). slice_set xs i (no_names item.source)) same
    ∙ set_middle old rest i (no_names item.source) h
    ∙ ap (λ (xs : List SourceFields). take i old ++ xs)
    (sym (ap (kept_sources ss) (drop_middle old rest i item h ∙ ap (λ (d : SourceFields). d ∷ drop (suc i) old) got)
    ∙ cond-true (has_session_of ss item.source) (no_names item.source ∷ rest) rest has))
