-- What octets spell: the names between the `/` are those of the one path, if any.
--     split-joined, names_in-spelled, spelled_once, spells_names_in
--     is_name-Decides, is_path-Decides              the tests say whether a name, or a path, is within the limits
--     path_of_spelled, spelled_from_path_of         `path_of` is the path that is spelled
use Rattle.std.proofs.Common.{◌≡◌, ◌≢◌, refl, sym, ◌∙◌, ap, ℕ, ◌≤◌, leb, ◌==◌, false, ◌&&◌, not, ◌⊎◌, inl, inr, List, [], ◌∷◌, ◌++◌, length, Some, None, arith, All}
use Rattle.std.specs.List.{slice_split, list_all}
use Rattle.std.specs.Bool.{Decides}
use Rattle.std.proofs.lemmas.Bool.{leb-true, le-leb, eqb-true, ne_eqb, cond-true, cond-false, cases_Bool}
use Rattle.std.proofs.lemmas.Bool.Decides.{Decides-and, Decides-not, Decides-eqb, Decides-by_and, Decides-like}
use Rattle.std.proofs.lemmas.Option.{cond_some}
use Rattle.std.proofs.lemmas.List.Elements.{All-weaker, All-head, All-tail}
use Rattle.std.proofs.lemmas.List.Splits.{slice_split_none, slice_split_at, join_with_byte-slice_split}
use Rattle.cfdp_paths.specs.Paths.{Name, Path, IsName, IsPath, same_name, slash, dot, joined, Spells, is_slash, without_slash, names_in, is_name, is_path, path_of}
use Rattle.cfdp_paths.proofs.Comparing.{same_name-Decides}

-- the octets hold no `/`
abbrev pub LacksSlash : Name → Type 0
LacksSlash name = All (λ octet. is_slash octet ≡ false) name

name_lacks_slash : (n : Name) → IsName n → LacksSlash n
name_lacks_slash n w = All-weaker (λ octet. (octet ≢ slash) × (octet ≢ 0)) (λ octet. is_slash octet ≡ false)
    (λ octet good. ne_eqb octet slash good.0) n w.octets

-- the names of a path, joined and split again
pub split-joined : (p : Path) → 1 ≤ length p → All IsName p → slice_split is_slash (joined p) ≡ p
split-joined [] some good = absurd (omega arith)
split-joined (n ∷ []) some good = slice_split_none is_slash n (name_lacks_slash n (All-head IsName n [] good))
split-joined (n ∷ m ∷ p) some good =
    slice_split_at is_slash n slash (joined (m ∷ p)) (name_lacks_slash n (All-head IsName n (m ∷ p) good)) refl
    ∙ ap (λ x. n ∷ x) (split-joined (m ∷ p) (omega arith) (All-tail IsName n (m ∷ p) good))

-- a path's first octet is no `/`
without_slash-append : (n : Name) (octets : List ℕ) → IsName n → without_slash (n ++ octets) ≡ n ++ octets
without_slash-append [] octets w = absurd (omega (arith, w.some))
without_slash-append (octet ∷ n) octets w =
    cond-false (is_slash octet) (n ++ octets) (octet ∷ n ++ octets) (All-head (λ o. is_slash o ≡ false) octet n (name_lacks_slash (octet ∷ n) w))

without_slash-name : (n : Name) → IsName n → without_slash n ≡ n
without_slash-name [] w = refl
without_slash-name (octet ∷ n) w =
    cond-false (is_slash octet) n (octet ∷ n) (All-head (λ o. is_slash o ≡ false) octet n (name_lacks_slash (octet ∷ n) w))

pub without_slash-joined : (p : Path) → All IsName p → without_slash (joined p) ≡ joined p
without_slash-joined [] good = refl
without_slash-joined (n ∷ []) good = without_slash-name n (All-head IsName n [] good)
without_slash-joined (n ∷ m ∷ p) good = without_slash-append n (slash ∷ joined (m ∷ p)) (All-head IsName n (m ∷ p) good)

-- what spells p has p's names between its `/`
pub names_in-spelled : (octets : List ℕ) (p : Path) → Spells octets p → names_in octets ≡ p
names_in-spelled octets p (w, inl e) =
    ap names_in e ∙ ap (slice_split is_slash) (without_slash-joined p w.names) ∙ split-joined p w.some w.names
names_in-spelled octets p (w, inr e) = ap names_in e ∙ split-joined p w.some w.names

-- octets spell at most one path
pub spelled_once : (octets : List ℕ) (p q : Path) → Spells octets p → Spells octets q → p ≡ q
spelled_once octets p q a b = sym (names_in-spelled octets p a) ∙ names_in-spelled octets q b

pub slash_or_none : (octets : List ℕ) → (octets ≡ without_slash octets) ⊎ (octets ≡ slash ∷ without_slash octets)
slash_or_none [] = inl refl
slash_or_none (octet ∷ octets) =
    elim (cases_Bool (is_slash octet)) [
      | inl is ↦ inr (rw (cond-true (is_slash octet) octets (octet ∷ octets) is) (ap (λ o. o ∷ octets) (eqb-true octet slash is)))
      | inr not' ↦ inl (sym (cond-false (is_slash octet) octets (octet ∷ octets) not'))
    ]

pub joined-names_in : (octets : List ℕ) → joined (names_in octets) ≡ without_slash octets
joined-names_in octets = join_with_byte-slice_split slash (without_slash octets)

pub spells_names_in : (octets : List ℕ) → IsPath (names_in octets) → Spells octets (names_in octets)
spells_names_in octets w = (w, rw (joined-names_in octets) (slash_or_none octets))

-- ---- the tests

octet_test : (octet : ℕ) → Decides (not (is_slash octet) && not (octet == 0)) ((octet ≢ slash) × (octet ≢ 0))
octet_test octet =
    Decides-and (not (is_slash octet)) (not (octet == 0)) (Decides-not (is_slash octet) (Decides-eqb octet slash))
    (Decides-not (octet == 0) (Decides-eqb octet 0))

octets_test : (n : Name) → Decides (list_all (λ octet. not (is_slash octet) && not (octet == 0)) n) (All (λ octet. (octet ≢ slash) × (octet ≢ 0)) n)
octets_test =
    Decides-by_and (λ octet. not (is_slash octet) && not (octet == 0)) (λ octet. (octet ≢ slash) × (octet ≢ 0))
    (list_all (λ octet. not (is_slash octet) && not (octet == 0))) octet_test refl (λ _ _. refl)

Decides-leb : (a b : ℕ) → Decides (leb a b) (a ≤ b)
Decides-leb a b = (leb-true a b, le-leb a b)

other_name_test : (n m : Name) → Decides (not (same_name n m)) (n ≢ m)
other_name_test n m = Decides-not (same_name n m) (same_name-Decides n m)

pub is_name-Decides : (n : Name) → Decides (is_name n) (IsName n)
is_name-Decides n =
    Decides-like (is_name n)
    (λ h. record { some = h.0.0.0.0; short = h.0.0.0.1; octets = h.0.0.1; not_dot = h.0.1; not_dots = h.1 })
    (λ w. ((((w.some, w.short), w.octets), w.not_dot), w.not_dots))
    (Decides-and _ _ (Decides-and _ _ (Decides-and _ _ (Decides-and _ _ (Decides-leb 1 (length n)) (Decides-leb (length n) 96)) (octets_test n))
    (other_name_test n (dot ∷ []))) (other_name_test n (dot ∷ dot ∷ [])))

pub is_path-Decides : (p : Path) → Decides (is_path p) (IsPath p)
is_path-Decides p =
    Decides-like (is_path p)
    (λ h. record { some = h.0.0; few = h.0.1; names = h.1 })
    (λ w. ((w.some, w.few), w.names))
    (Decides-and _ _ (Decides-and _ _ (Decides-leb 1 (length p)) (Decides-leb (length p) 8))
    (Decides-by_and is_name IsName (list_all is_name) is_name-Decides refl (λ _ _. refl) p))

-- ---- the path that octets spell

pub path_of_spelled : (octets : List ℕ) (p : Path) → Spells octets p → path_of octets ≡ Some p
path_of_spelled octets p h =
    let e = names_in-spelled octets p h in
    rw e (cond-true (is_path p) (Some p) None ((is_path-Decides p).1 h.0))

pub spelled_from_path_of : (octets : List ℕ) (p : Path) → path_of octets ≡ Some p → Spells octets p
spelled_from_path_of octets p h =
    let parts = cond_some (is_path (names_in octets)) (names_in octets) p h in
    rw (← parts.1) (spells_names_in octets ((is_path-Decides (names_in octets)).0 parts.0))
