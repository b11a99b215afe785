-- The names that are kept of each source.
use Rattle.std.proofs.Common.{◌≡◌, ◌⊎◌, inl, inr, ℕ, zero, suc, ◌+◌, ◌-◌, ◌≤◌, Bool, true, false, ◌==◌, if◌then◌else◌, List, [], ◌∷◌, take, length, refl, sym, ap, ◌∙◌, arith}
use Rattle.std.proofs.lemmas.Bool.{cond-true, cond-false, cond_both, cases_Bool, or_left, or_right, or_cases, and_from, and_parts, both_ways, eqb-true, eq-eqb, le-leb}
use Rattle.cfdp_status.specs.declared.transaction.TransactionId.{TransactionId}
use Rattle.cfdp_leases.specs.Leases.{is_same}
use Rattle.cfdp_sessions.specs.Closed.{SourceFields, ClosedFields, no_names, names_in, put_names, has_in, has_number, remembers, kept_changed, kept_idle, with_number, is_crowded, with_name, has_source_in, has_source, with_source, has_session_of, kept_sources, forgotten}
use Rattle.cfdp_sessions.specs.Sessions.{SessionFields}

-- ---- of a source, after one is put

pub names_source : (ss : List SourceFields) (x : ℕ) → (names_in ss x).source ≡ x
names_source [] x = refl
names_source (s ∷ ss) x =
    cond_both (s.source == x) s (names_in ss x) (λ (n : SourceFields). n.source ≡ x) (λ e. eqb-true s.source x e) (λ e. names_source ss x)

pub put_own : (ss : List SourceFields) (new : SourceFields) (x : ℕ) → new.source ≡ x → names_in (put_names ss new) x ≡ new
put_own [] new x e = cond-true (new.source == x) new (no_names x) (eq-eqb new.source x e)
put_own (s ∷ ss) new x e = elim (cases_Bool (s.source == new.source)) [
  | inl here ↦
      ap (λ (ys : List SourceFields). names_in ys x) (cond-true (s.source == new.source) (new ∷ ss) (s ∷ put_names ss new) here)
      ∙ cond-true (new.source == x) new (names_in ss x) (eq-eqb new.source x e)
  | inr there ↦
      ap (λ (ys : List SourceFields). names_in ys x) (cond-false (s.source == new.source) (new ∷ ss) (s ∷ put_names ss new) there)
      ∙ cond-false (s.source == x) s (names_in (put_names ss new) x) (ap (λ (n : ℕ). s.source == n) (sym e) ∙ there)
      ∙ put_own ss new x e
]

pub put_other : (ss : List SourceFields) (new : SourceFields) (x : ℕ) → (new.source == x) ≡ false → names_in (put_names ss new) x ≡ names_in ss x
put_other [] new x h = cond-false (new.source == x) new (no_names x) h
put_other (s ∷ ss) new x h = elim (cases_Bool (s.source == new.source)) [
  | inl here ↦
      ap (λ (ys : List SourceFields). names_in ys x) (cond-true (s.source == new.source) (new ∷ ss) (s ∷ put_names ss new) here)
      ∙ cond-false (new.source == x) new (names_in ss x) h
      ∙ sym (cond-false (s.source == x) s (names_in ss x) (ap (λ (n : ℕ). n == x) (eqb-true s.source new.source here) ∙ h))
  | inr there ↦
      ap (λ (ys : List SourceFields). names_in ys x) (cond-false (s.source == new.source) (new ∷ ss) (s ∷ put_names ss new) there)
      ∙ ap (λ (n : SourceFields). if s.source == x then s else n) (put_other ss new x h)
]

-- ---- one more number of a source

taken_has : (k : ℕ) (ns : List ℕ) (m : ℕ) → has_in (take k ns) m ≡ true → has_in ns m ≡ true
taken_has zero ns m h = absurd cc
taken_has (suc k) [] m h = absurd cc
taken_has (suc k) (n ∷ ns) m h = elim (or_cases (n == m) (has_in (take k ns) m) h) [
  | inl here ↦ or_left (n == m) (has_in ns m) here
  | inr later ↦ or_right (n == m) (has_in ns m) (taken_has k ns m later)
]

kept_or_full : (k : ℕ) (ns : List ℕ) (m : ℕ) → has_in ns m ≡ true → (has_in (take k ns) m ≡ true) ⊎ (suc k ≤ length ns)
kept_or_full k [] m h = absurd cc
kept_or_full zero (n ∷ ns) m h = inr (omega arith)
kept_or_full (suc k) (n ∷ ns) m h = elim (or_cases (n == m) (has_in ns m) h) [
  | inl here ↦ inl (or_left (n == m) (has_in (take k ns) m) here)
  | inr later ↦ elim (kept_or_full k ns m later) [
    | inl kept ↦ inl (or_right (n == m) (has_in (take k ns) m) kept)
    | inr full ↦ inr (omega (arith, full))
  ]
]

number_source : (most : ℕ) (b : Bool) (n : ℕ) (s : SourceFields) → (with_number most b n s).source ≡ s.source
number_source most true n s = refl
number_source most false n s = refl

number_is : (most : ℕ) (b : Bool) (n : ℕ) (s : SourceFields) (m : ℕ) → has_number (with_number most b n s) m ≡ true →
    ((n == m) ≡ true) ⊎ (has_number s m ≡ true)
number_is most true n s m h = elim (or_cases (has_in (n ∷ kept_changed most s) m) (has_in (kept_idle most s) m) h) [
  | inl first ↦ elim (or_cases (n == m) (has_in (kept_changed most s) m) first) [
    | inl here ↦ inl here
    | inr later ↦ inr (or_left (has_in s.changed m) (has_in s.idle m) (taken_has (most - 1) s.changed m later))
  ]
  | inr second ↦ inr (or_right (has_in s.changed m) (has_in s.idle m) (taken_has (most - (1 + length s.changed)) s.idle m second))
]
number_is most false n s m h = elim (or_cases (has_in (kept_changed most s) m) (has_in (n ∷ kept_idle most s) m) h) [
  | inl first ↦ inr (or_left (has_in s.changed m) (has_in s.idle m) (taken_has (most - 1) s.changed m first))
  | inr second ↦ elim (or_cases (n == m) (has_in (kept_idle most s) m) second) [
    | inl here ↦ inl here
    | inr later ↦ inr (or_right (has_in s.changed m) (has_in s.idle m) (taken_has (most - (1 + length s.changed)) s.idle m later))
  ]
]

number_own : (most : ℕ) (b : Bool) (n : ℕ) (s : SourceFields) (m : ℕ) → (n == m) ≡ true → has_number (with_number most b n s) m ≡ true
number_own most true n s m e =
    or_left (has_in (n ∷ kept_changed most s) m) (has_in (kept_idle most s) m) (or_left (n == m) (has_in (kept_changed most s) m) e)
number_own most false n s m e =
    or_right (has_in (kept_changed most s) m) (has_in (n ∷ kept_idle most s) m) (or_left (n == m) (has_in (kept_idle most s) m) e)

-- the lists that are kept, with one more in front of one of them
kept_both : (most : ℕ) (s : SourceFields) (m : ℕ) → has_number s m ≡ true →
    ((has_in (kept_changed most s) m ≡ true) ⊎ (has_in (kept_idle most s) m ≡ true)) ⊎ (is_crowded most s ≡ true)
kept_both most s m h = elim (or_cases (has_in s.changed m) (has_in s.idle m) h) [
  | inl first ↦ elim (kept_or_full (most - 1) s.changed m first) [
    | inl kept ↦ inl (inl kept)
    | inr full ↦ inr (le-leb most (length s.changed + length s.idle) (omega (arith, full)))
  ]
  | inr second ↦ elim (kept_or_full (most - (1 + length s.changed)) s.idle m second) [
    | inl kept ↦ inl (inr kept)
    | inr full ↦ inr (le-leb most (length s.changed + length s.idle) (omega (arith, full)))
  ]
]

number_kept : (most : ℕ) (b : Bool) (n : ℕ) (s : SourceFields) (m : ℕ) → (has_in (kept_changed most s) m ≡ true) ⊎ (has_in (kept_idle most s) m ≡ true) →
    has_number (with_number most b n s) m ≡ true
number_kept most true n s m (inl first) =
    or_left (has_in (n ∷ kept_changed most s) m) (has_in (kept_idle most s) m) (or_right (n == m) (has_in (kept_changed most s) m) first)
number_kept most true n s m (inr second) = or_right (has_in (n ∷ kept_changed most s) m) (has_in (kept_idle most s) m) second
number_kept most false n s m (inl first) = or_left (has_in (kept_changed most s) m) (has_in (n ∷ kept_idle most s) m) first
number_kept most false n s m (inr second) =
    or_right (has_in (kept_changed most s) m) (has_in (n ∷ kept_idle most s) m) (or_right (n == m) (has_in (kept_idle most s) m) second)

-- ---- one more name

pub name_source : (c : ClosedFields) (most : ℕ) (b : Bool) (t : TransactionId) →
    (with_number most b t.number (names_in c.sources t.source)).source ≡ t.source
name_source c most b t = number_source most b t.number (names_in c.sources t.source) ∙ names_source c.sources t.source

of_own : (c : ClosedFields) (most : ℕ) (b : Bool) (t : TransactionId) (x : ℕ) → t.source ≡ x →
    names_in (with_name c most b t).sources x ≡ with_number most b t.number (names_in c.sources x)
of_own c most b t x e =
    put_own c.sources (with_number most b t.number (names_in c.sources t.source)) x (name_source c most b t ∙ e)
    ∙ ap (λ (n : ℕ). with_number most b t.number (names_in c.sources n)) e

of_other : (c : ClosedFields) (most : ℕ) (b : Bool) (t : TransactionId) (x : ℕ) → (t.source == x) ≡ false →
    names_in (with_name c most b t).sources x ≡ names_in c.sources x
of_other c most b t x h =
    put_other c.sources (with_number most b t.number (names_in c.sources t.source)) x (ap (λ (n : ℕ). n == x) (name_source c most b t) ∙ h)

-- it is remembered
pub name_remembered : (c : ClosedFields) (most : ℕ) (b : Bool) (t id : TransactionId) → is_same t id ≡ true → remembers (with_name c most b t) id ≡ true
name_remembered c most b t id same =
    let parts = and_parts (t.source == id.source) (t.number == id.number) same in
    ap (λ (n : SourceFields). has_number n id.number) (of_own c most b t id.source (eqb-true t.source id.source parts.0))
    ∙ number_own most b t.number (names_in c.sources id.source) id.number parts.1

-- what is remembered then has this name, or was remembered
pub remembered_is : (c : ClosedFields) (most : ℕ) (b : Bool) (t id : TransactionId) → remembers (with_name c most b t) id ≡ true →
    (is_same t id ≡ true) ⊎ (remembers c id ≡ true)
remembered_is c most b t id h = elim (cases_Bool (t.source == id.source)) [
  | inl same ↦
      let own = of_own c most b t id.source (eqb-true t.source id.source same) in
      elim (number_is most b t.number (names_in c.sources id.source) id.number (sym (ap (λ (n : SourceFields). has_number n id.number) own) ∙ h)) [
        | inl here ↦ inl (and_from (t.source == id.source) (t.number == id.number) same here)
        | inr before ↦ inr before
      ]
  | inr other ↦ inr (sym (ap (λ (n : SourceFields). has_number n id.number) (of_other c most b t id.source other)) ∙ h)
]

-- what was remembered still is, or a name was dropped
pub remembered_stays : (c : ClosedFields) (most : ℕ) (b : Bool) (t id : TransactionId) → remembers c id ≡ true →
    (remembers (with_name c most b t) id ≡ true) ⊎ ((with_name c most b t).forgot ≡ true)
remembered_stays c most b t id h = elim (cases_Bool (t.source == id.source)) [
  | inl same ↦
      let here = eqb-true t.source id.source same in
      let own = of_own c most b t id.source here in
      elim (kept_both most (names_in c.sources id.source) id.number h) [
        | inl kept ↦
            inl (ap (λ (n : SourceFields). has_number n id.number) own ∙ number_kept most b t.number (names_in c.sources id.source) id.number kept)
        | inr full ↦
            inr (or_right c.forgot (is_crowded most (names_in c.sources t.source))
            (ap (λ (n : ℕ). is_crowded most (names_in c.sources n)) here ∙ full))
      ]
  | inr other ↦ inl (ap (λ (n : SourceFields). has_number n id.number) (of_other c most b t id.source other) ∙ h)
]

-- of another source each name stays
pub other_source_stays : (c : ClosedFields) (most : ℕ) (b : Bool) (t id : TransactionId) → (t.source == id.source) ≡ false →
    remembers (with_name c most b t) id ≡ remembers c id
other_source_stays c most b t id other = ap (λ (n : SourceFields). has_number n id.number) (of_other c most b t id.source other)

-- ---- places

pub source_remembers : (c : ClosedFields) (x : ℕ) (id : TransactionId) → remembers (with_source c x) id ≡ remembers c id
source_remembers c x id = elim (cases_Bool (x == id.source)) [
  | inl same ↦
      let here = eqb-true x id.source same in
      ap (λ (n : SourceFields). has_number n id.number)
      (put_own c.sources (names_in c.sources x) id.source (names_source c.sources x ∙ here) ∙ ap (names_in c.sources) here)
  | inr other ↦
      ap (λ (n : SourceFields). has_number n id.number)
      (put_other c.sources (names_in c.sources x) id.source (ap (λ (n : ℕ). n == id.source) (names_source c.sources x) ∙ other))
]

put_has_own : (ss : List SourceFields) (new : SourceFields) (x : ℕ) → (new.source == x) ≡ true → has_source_in (put_names ss new) x ≡ true
put_has_own [] new x h = or_left (new.source == x) false h
put_has_own (s ∷ ss) new x h =
    cond_both (s.source == new.source) (new ∷ ss) (s ∷ put_names ss new) (λ (ys : List SourceFields). has_source_in ys x ≡ true)
    (λ e. or_left (new.source == x) (has_source_in ss x) h)
    (λ e. or_right (s.source == x) (has_source_in (put_names ss new) x) (put_has_own ss new x h))

put_has_kept : (ss : List SourceFields) (new : SourceFields) (x : ℕ) → has_source_in ss x ≡ true → has_source_in (put_names ss new) x ≡ true
put_has_kept [] new x h = absurd cc
put_has_kept (s ∷ ss) new x h =
    let seen = or_cases (s.source == x) (has_source_in ss x) h in
    cond_both (s.source == new.source) (new ∷ ss) (s ∷ put_names ss new) (λ (ys : List SourceFields). has_source_in ys x ≡ true)
    (λ e. elim seen [
      | inl here ↦ or_left (new.source == x) (has_source_in ss x) (ap (λ (n : ℕ). n == x) (sym (eqb-true s.source new.source e)) ∙ here)
      | inr later ↦ or_right (new.source == x) (has_source_in ss x) later
    ])
    (λ e. elim seen [
      | inl here ↦ or_left (s.source == x) (has_source_in (put_names ss new) x) here
      | inr later ↦ or_right (s.source == x) (has_source_in (put_names ss new) x) (put_has_kept ss new x later)
    ])

pub source_added : (c : ClosedFields) (x : ℕ) → has_source (with_source c x) x ≡ true
source_added c x = put_has_own c.sources (names_in c.sources x) x (eq-eqb (names_in c.sources x).source x (names_source c.sources x))

pub source_stays : (c : ClosedFields) (y x : ℕ) → has_source c x ≡ true → has_source (with_source c y) x ≡ true
source_stays c y x h = put_has_kept c.sources (names_in c.sources y) x h

pub source_named : (c : ClosedFields) (most : ℕ) (b : Bool) (t : TransactionId) (x : ℕ) → has_source c x ≡ true → has_source (with_name c most b t) x ≡ true
source_named c most b t x h = put_has_kept c.sources (with_number most b t.number (names_in c.sources t.source)) x h

-- ---- where all is forgotten

kept_none : (ss : List SessionFields) (rest : List SourceFields) (x : ℕ) → names_in (kept_sources ss rest) x ≡ no_names x
kept_none ss [] x = refl
kept_none ss (s ∷ rest) x =
    cond_both (has_session_of ss s.source) (no_names s.source ∷ kept_sources ss rest) (kept_sources ss rest)
    (λ (ys : List SourceFields). names_in ys x ≡ no_names x)
    (λ e. cond_both (s.source == x) (no_names s.source) (names_in (kept_sources ss rest) x) (λ (n : SourceFields). n ≡ no_names x)
    (λ same. ap no_names (eqb-true s.source x same)) (λ other. kept_none ss rest x))
    (λ e. kept_none ss rest x)

pub forgotten_none : (c : ClosedFields) (ss : List SessionFields) (id : TransactionId) → remembers (forgotten c ss) id ≡ false
forgotten_none c ss id = ap (λ (n : SourceFields). has_number n id.number) (kept_none ss c.sources id.source)

kept_has : (ss : List SessionFields) (rest : List SourceFields) (x : ℕ) → has_session_of ss x ≡ true → has_source_in rest x ≡ true →
    has_source_in (kept_sources ss rest) x ≡ true
kept_has ss [] x there h = absurd cc
kept_has ss (s ∷ rest) x there h =
    let seen = or_cases (s.source == x) (has_source_in rest x) h in
    cond_both (has_session_of ss s.source) (no_names s.source ∷ kept_sources ss rest) (kept_sources ss rest)
    (λ (ys : List SourceFields). has_source_in ys x ≡ true)
    (λ e. elim seen [
      | inl here ↦ or_left (s.source == x) (has_source_in (kept_sources ss rest) x) here
      | inr later ↦ or_right (s.source == x) (has_source_in (kept_sources ss rest) x) (kept_has ss rest x there later)
    ])
    (λ e. elim seen [
      | inl here ↦ absurd (both_ways (has_session_of ss s.source) e (ap (has_session_of ss) (eqb-true s.source x here) ∙ there))
      | inr later ↦ kept_has ss rest x there later
    ])

pub forgotten_has : (c : ClosedFields) (ss : List SessionFields) (x : ℕ) → has_session_of ss x ≡ true → has_source c x ≡ true →
    has_source (forgotten c ss) x ≡ true
forgotten_has c ss x there h = kept_has ss c.sources x there h
