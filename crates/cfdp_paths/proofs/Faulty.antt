-- Octets have a fault exactly where they spell no path.
--     name_from_no_fault, no_fault_of_name, names_from_no_fault, no_fault_of_names      names, and lists of them
--     no_fault-spelled, spelled_from_no_fault, fault-unspelled, no_path_from_fault, fault_exactly      octets
use Rattle.std.proofs.Common.{◌≡◌, ◌≢◌, refl, sym, ◌∙◌, cond, ℕ, zero, suc, ◌≤◌, ◌==◌, nat_lt, Bool, true, false, ◌||◌, ◌⊎◌, ◌↔◌, inl, inr, List, [], ◌∷◌, length, Option, Some, None, arith, All}
use Rattle.std.specs.List.{slice_split, onto_first, list_any}
use Rattle.std.proofs.lemmas.Bool.{cond-false, or_parts, or_from, eqb-false, ltb-false, le-ltb, ne_eqb, false_from_ne_true}
use Rattle.std.proofs.lemmas.Bool.Decides.{not_from_Decides}
use Rattle.std.proofs.lemmas.Option.{none-some}
use Rattle.std.proofs.lemmas.List.Elements.{All-weaker, All-head, All-tail, All-cons, All-nil}
use Rattle.std.proofs.lemmas.List.Splits.{length-slice_split}
use Rattle.cfdp_paths.specs.declared.fault.PathFault.{PathFault}
use Rattle.cfdp_paths.specs.declared.fault.PathFault.TheVariants.{Empty, EmptyName, BadName, NameTooLong, TooDeep}
use Rattle.cfdp_paths.specs.Paths.{Name, Path, IsName, IsPath, same_name, slash, dot, Spells, is_slash, without_slash, names_in, is_path, path_of}
use Rattle.cfdp_paths.specs.Faults.{fault_of_name, or_fault, first_fault, fault_of}
use Rattle.cfdp_paths.proofs.Comparing.{same_name-Decides}
use Rattle.cfdp_paths.proofs.Spelling.{LacksSlash, names_in-spelled, spells_names_in, is_path-Decides, path_of_spelled}

-- where a test finds no fault it failed, and no later one finds any
passed : (b : Bool) (fault : PathFault) (later : Option PathFault) → cond b (Some fault) later ≡ None → (b ≡ false) × (later ≡ None)
passed true fault later e = absurd (none-some fault (sym e))
passed false fault later e = (refl, e)

-- where the octets hold no 0
zero_free : (n : Name) → list_any (λ octet. octet == 0) n ≡ false → All (λ octet. octet ≢ 0) n
zero_free [] e = All-nil (λ octet. octet ≢ 0)
zero_free (octet ∷ n) e =
    let parts = or_parts (octet == 0) (list_any (λ o. o == 0) n) e in
    All-cons (λ o. o ≢ 0) octet n (eqb-false octet 0 parts.0) (zero_free n parts.1)

zero_absent : (n : Name) → All (λ octet. octet ≢ 0) n → list_any (λ octet. octet == 0) n ≡ false
zero_absent [] h = refl
zero_absent (octet ∷ n) h =
    or_from (octet == 0) (list_any (λ o. o == 0) n) (ne_eqb octet 0 (All-head (λ o. o ≢ 0) octet n h)) (zero_absent n (All-tail (λ o. o ≢ 0) octet n h))

both : (n : Name) → LacksSlash n → All (λ octet. octet ≢ 0) n → All (λ octet. (octet ≢ slash) × (octet ≢ 0)) n
both [] a b = All-nil (λ octet. (octet ≢ slash) × (octet ≢ 0))
both (octet ∷ n) a b =
    All-cons (λ o. (o ≢ slash) × (o ≢ 0)) octet n
    (eqb-false octet slash (All-head (λ o. is_slash o ≡ false) octet n a), All-head (λ o. o ≢ 0) octet n b)
    (both n (All-tail (λ o. is_slash o ≡ false) octet n a) (All-tail (λ o. o ≢ 0) octet n b))

-- what the later tests of `fault_of_name` say
abbrev fault_of_good : Name → Option PathFault
fault_of_good n = cond (nat_lt 96 (length n)) (Some NameTooLong) None

abbrev fault_of_some : Name → Option PathFault
fault_of_some n = cond (same_name n (dot ∷ []) || same_name n (dot ∷ dot ∷ []) || list_any (λ octet. octet == 0) n) (Some BadName) (fault_of_good n)

-- a name with no `/` has no fault exactly where it is one
pub name_from_no_fault : (n : Name) → LacksSlash n → fault_of_name n ≡ None → IsName n
name_from_no_fault n lacks e =
    let some = passed (length n == 0) EmptyName (fault_of_some n) e in
    let good = passed (same_name n (dot ∷ []) || same_name n (dot ∷ dot ∷ []) || list_any (λ octet. octet == 0) n) BadName (fault_of_good n) some.1 in
    let short = passed (nat_lt 96 (length n)) NameTooLong None good.1 in
    let nonempty : length n ≢ 0 = eqb-false (length n) 0 some.0 in
    let tests = or_parts (same_name n (dot ∷ []) || same_name n (dot ∷ dot ∷ [])) (list_any (λ octet. octet == 0) n) good.0 in
    let dots = or_parts (same_name n (dot ∷ [])) (same_name n (dot ∷ dot ∷ [])) tests.0 in
    record {
      some = omega arith;
      short = ltb-false 96 (length n) short.0;
      octets = both n lacks (zero_free n tests.1);
      not_dot = not_from_Decides (same_name n (dot ∷ [])) (same_name-Decides n (dot ∷ [])) dots.0;
      not_dots = not_from_Decides (same_name n (dot ∷ dot ∷ [])) (same_name-Decides n (dot ∷ dot ∷ [])) dots.1;
    }

pub no_fault_of_name : (n : Name) → IsName n → fault_of_name n ≡ None
no_fault_of_name n w =
    let other = λ (m : Name) (h : n ≢ m). false_from_ne_true (same_name n m) (λ e. h ((same_name-Decides n m).0 e)) in
    let dots : (same_name n (dot ∷ []) || same_name n (dot ∷ dot ∷ [])) ≡ false =
    or_from (same_name n (dot ∷ [])) (same_name n (dot ∷ dot ∷ [])) (other (dot ∷ []) w.not_dot) (other (dot ∷ dot ∷ []) w.not_dots) in
    let zeros = zero_absent n (All-weaker (λ o. (o ≢ slash) × (o ≢ 0)) (λ o. o ≢ 0) (λ o h. h.1) n w.octets) in
    let some = w.some in
    cond-false (length n == 0) (Some EmptyName) (fault_of_some n) (ne_eqb (length n) 0 (λ e. omega arith))
    ∙ cond-false (same_name n (dot ∷ []) || same_name n (dot ∷ dot ∷ []) || list_any (λ octet. octet == 0) n) (Some BadName) (fault_of_good n)
    (or_from (same_name n (dot ∷ []) || same_name n (dot ∷ dot ∷ [])) (list_any (λ octet. octet == 0) n) dots zeros)
    ∙ cond-false (nat_lt 96 (length n)) (Some NameTooLong) None (le-ltb 96 (length n) w.short)

-- ---- lists of names

or_else_none : (first later : Option PathFault) → or_fault first later ≡ None → (first ≡ None) × (later ≡ None)
or_else_none None later e = (refl, e)
or_else_none (Some fault) later e = absurd (none-some fault (sym e))

pub names_from_no_fault : (room : ℕ) (names : List Name) → All LacksSlash names → first_fault room names ≡ None → (length names ≤ room) × All IsName names
names_from_no_fault room [] lacks e = (omega arith, All-nil IsName)
names_from_no_fault zero (n ∷ names) lacks e = absurd (none-some TooDeep (sym e))
names_from_no_fault (suc room) (n ∷ names) lacks e =
    let parts = or_else_none (fault_of_name n) (first_fault room names) e in
    let rest = names_from_no_fault room names (All-tail LacksSlash n names lacks) parts.1 in
    (omega (arith, rest.0), All-cons IsName n names (name_from_no_fault n (All-head LacksSlash n names lacks) parts.0) rest.1)

pub no_fault_of_names : (room : ℕ) (names : List Name) → length names ≤ room → All IsName names → first_fault room names ≡ None
no_fault_of_names room [] few good = refl
no_fault_of_names zero (n ∷ names) few good = absurd (omega arith)
no_fault_of_names (suc room) (n ∷ names) few good =
    rw (no_fault_of_name n (All-head IsName n names good)) (no_fault_of_names room names (omega arith) (All-tail IsName n names good))

-- ---- the parts between the `/` hold none

lacks_onto_first : (octet : ℕ) (parts : List Name) → is_slash octet ≡ false → All LacksSlash parts → All LacksSlash (onto_first octet parts)
lacks_onto_first octet [] e h = All-cons LacksSlash (octet ∷ []) [] (All-cons (λ o. is_slash o ≡ false) octet [] e (All-nil (λ o. is_slash o ≡ false))) h
lacks_onto_first octet (part ∷ parts) e h =
    All-cons LacksSlash (octet ∷ part) parts
    (All-cons (λ o. is_slash o ≡ false) octet part e (All-head LacksSlash part parts h))
    (All-tail LacksSlash part parts h)

lacks_split : (octet : ℕ) (parts : List Name) (b : Bool) → is_slash octet ≡ b → All LacksSlash parts →
    All LacksSlash (cond b ([] ∷ parts) (onto_first octet parts))
lacks_split octet parts true e h = All-cons LacksSlash [] parts (All-nil (λ o. is_slash o ≡ false)) h
lacks_split octet parts false e h = lacks_onto_first octet parts e h

pub parts_lack_slash : (octets : List ℕ) → All LacksSlash (slice_split is_slash octets)
parts_lack_slash [] = All-cons LacksSlash [] [] (All-nil (λ o. is_slash o ≡ false)) (All-nil LacksSlash)
parts_lack_slash (octet ∷ octets) = lacks_split octet (slice_split is_slash octets) (is_slash octet) refl (parts_lack_slash octets)

-- ---- octets

pub path_from_no_fault : (octets : List ℕ) → fault_of octets ≡ None → IsPath (names_in octets)
path_from_no_fault octets e =
    let some = passed (length (without_slash octets) == 0) Empty (first_fault 8 (names_in octets)) e in
    let names = names_from_no_fault 8 (names_in octets) (parts_lack_slash (without_slash octets)) some.1 in
    record { some = omega (arith, length-slice_split is_slash (without_slash octets)); few = names.0; names = names.1 }

not_empty : (octets : List ℕ) → All IsName (slice_split is_slash octets) → (length octets == 0) ≡ false
not_empty [] good = let none = All-head IsName [] [] good in absurd (omega (arith, none.some))
not_empty (octet ∷ octets) good = ne_eqb (length (octet ∷ octets)) 0 (λ e. omega arith)

pub no_fault_of_path : (octets : List ℕ) → IsPath (names_in octets) → fault_of octets ≡ None
no_fault_of_path octets w =
    cond-false (length (without_slash octets) == 0) (Some Empty) (first_fault 8 (names_in octets)) (not_empty (without_slash octets) w.names)
    ∙ no_fault_of_names 8 (names_in octets) w.few w.names

-- octets that spell a path have no fault, and octets with no fault spell the path of their names
pub no_fault-spelled : (octets : List ℕ) (p : Path) → Spells octets p → fault_of octets ≡ None
no_fault-spelled octets p h = no_fault_of_path octets (rw (names_in-spelled octets p h) h.0)

pub spelled_from_no_fault : (octets : List ℕ) → fault_of octets ≡ None → Spells octets (names_in octets)
spelled_from_no_fault octets e = spells_names_in octets (path_from_no_fault octets e)

pub fault-unspelled : (octets : List ℕ) (p : Path) (fault : PathFault) → fault_of octets ≡ Some fault → Spells octets p → ⊥
fault-unspelled octets p fault e h = none-some fault (sym (no_fault-spelled octets p h) ∙ e)

pub no_path_from_fault : (octets : List ℕ) (fault : PathFault) → fault_of octets ≡ Some fault → path_of octets ≡ None
no_path_from_fault octets fault e =
    cond-false (is_path (names_in octets)) (Some (names_in octets)) None
    (false_from_ne_true (is_path (names_in octets)) (λ h. fault-unspelled octets (names_in octets) fault e
    (spells_names_in octets ((is_path-Decides (names_in octets)).0 h))))

-- an option is none, or it is some
none_or_some : (o : Option PathFault) → (o ≡ None) ⊎ ((fault : PathFault) × (o ≡ Some fault))
none_or_some None = inl refl
none_or_some (Some fault) = inr (fault, refl)

pub fault_exactly : (octets : List ℕ) → (fault_of octets ≢ None) ↔ (path_of octets ≡ None)
fault_exactly octets = (
  (λ faulty. elim (none_or_some (fault_of octets)) [
    | inl none ↦ absurd (faulty none)
    | inr found ↦ no_path_from_fault octets found.0 found.1
  ]),
  (λ none faultless. none-some (names_in octets) (sym none ∙ path_of_spelled octets (names_in octets) (spelled_from_no_fault octets faultless))),
)
