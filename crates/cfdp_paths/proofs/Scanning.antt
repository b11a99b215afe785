-- A loop over octets that looks at each name once it has ended.
--     front cur names        the octets so far, put before the first name
--     Scan                   what the loop knows: the octets from `start` up to `index` are those of the name so far
--     scan_start, scan_octet, scan_slash, scan_fault, scan_end, scan_all      at each step of it
use Rattle.std.proofs.Common.{◌≡◌, ◌≢◌, refl, sym, ◌∙◌, ap, cond, ℕ, zero, suc, ◌+◌, ◌-◌, ◌<◌, ◌≤◌, ◌==◌, Bool, true, false, ◌||◌, List, [], ◌∷◌, ◌++◌, length, take, drop, get_or, length-drop, append_assoc, Option, Some, None, arith}
use Rattle.std.specs.List.{list_any, slice_split, onto_first}
use Rattle.std.proofs.Math.Bool.{or-false}
use Rattle.std.proofs.Math.Seq.{drop-cons}
use Rattle.std.proofs.lemmas.Bool.{cond-false, eq-eqb, ne_eqb}
use Rattle.std.proofs.lemmas.List.{append-nil, take_more, take_all, drop_all, get_or-drop}
use Rattle.std.proofs.lemmas.List.Folds.{list_any-append}
use Rattle.std.proofs.lemmas.List.Splits.{length-slice_split, slice_split-cons_yes, slice_split-cons_no}
use Rattle.cfdp_paths.specs.declared.fault.PathFault.{PathFault}
use Rattle.cfdp_paths.specs.declared.fault.PathFault.TheVariants.{Empty, TooDeep}
use Rattle.cfdp_paths.specs.Faults.{fault_of_name, or_fault, first_fault, fault_of}
use Rattle.cfdp_paths.specs.Paths.{Name, is_separator, is_slash, without_slash, names_in}

abbrev front : List ℕ → List Name → List Name
front cur [] = cur ∷ []
front cur (name ∷ names) = (cur ++ name) ∷ names

front_onto : (cur : List ℕ) (x : ℕ) (names : List Name) → front cur (onto_first x names) ≡ front (cur ++ x ∷ []) names
front_onto cur x [] = refl
front_onto cur x (name ∷ names) = ap (λ n. n ∷ names) (sym (append_assoc cur (x ∷ []) name))

front_none : (names : List Name) → 1 ≤ length names → front [] names ≡ names
front_none [] some = absurd (omega arith)
front_none (name ∷ names) some = refl

-- the octets of the name so far
abbrev so_far : List ℕ → ℕ → ℕ → List ℕ
so_far names start index = take (index - start) (drop start names)

pub record Scan (octets names : List ℕ) (count start index : ℕ) (holds_zero : Bool) : Type 0 where
  pub order : start ≤ index
  pub few : count ≤ 8
  pub same : first_fault (8 - count) (front (so_far names start index) (slice_split is_slash (drop index names))) ≡ fault_of octets
  pub number : count + length (slice_split is_slash (drop index names)) ≡ length (names_in octets)
  pub zeros : holds_zero ≡ list_any is_separator (so_far names start index)

pub scan_start : (octets names : List ℕ) → names ≡ without_slash octets → length names ≢ 0 → Scan octets names 0 0 0 false
scan_start octets names is some = record {
  order = omega arith;
  few = omega arith;
  same = front_none' ∙ ap (λ o. first_fault 8 (slice_split is_slash o)) is
      ∙ sym (cond-false (length (without_slash octets) == 0) (Some Empty) (first_fault 8 (names_in octets))
      (ne_eqb (length (without_slash octets)) 0 (λ none. some (ap length is ∙ none))));
  number = omega (arith, ap (λ o. length (slice_split is_slash o)) is);
  zeros = refl;
}
  where
    front_none' : first_fault 8 (front [] (slice_split is_slash names)) ≡ first_fault 8 (slice_split is_slash names)
    front_none' = ap (first_fault 8) (front_none (slice_split is_slash names) (omega (arith, length-slice_split is_slash names)))

-- the name that comes after `count` others has ended
ends_faulty : (room count : ℕ) (cur : List ℕ) (rest : List Name) (fault : PathFault) (all : Option PathFault) → room ≡ 8 - count → count ≤ 8 →
    first_fault room (cur ∷ rest) ≡ all
    → Some fault ≡ cond (count == 8) (Some TooDeep) (fault_of_name cur) → all ≡ Some fault
ends_faulty zero count cur rest fault all is few same e =
    sym same ∙ sym (e ∙ ap (λ b. cond b (Some TooDeep) (fault_of_name cur)) (eq-eqb count 8 (omega (arith, is, few))))
ends_faulty (suc room) count cur rest fault all is few same e =
    let this = e ∙ ap (λ b. cond b (Some TooDeep) (fault_of_name cur)) (ne_eqb count 8 (λ at. omega (arith, is, at))) in
    sym same ∙ ap (λ o. or_fault o (first_fault room rest)) (sym this)

ends_well : (room count : ℕ) (cur : List ℕ) (rest : List Name) (all : Option PathFault) → room ≡ 8 - count → count ≤ 8 → first_fault room (cur ∷ rest) ≡ all
    → None ≡ cond (count == 8) (Some TooDeep) (fault_of_name cur) → (count < 8) × (first_fault (8 - (count + 1)) rest ≡ all)
ends_well zero count cur rest all is few same e =
    absurd (cc (e ∙ ap (λ b. cond b (Some TooDeep) (fault_of_name cur)) (eq-eqb count 8 (omega (arith, is, few)))))
ends_well (suc room) count cur rest all is few same e =
    let this = e ∙ ap (λ b. cond b (Some TooDeep) (fault_of_name cur)) (ne_eqb count 8 (λ at. omega (arith, is, at))) in
    let left : 8 - (count + 1) ≡ room = omega (arith, is) in
    (omega (arith, is), ap (λ r. first_fault r rest) left ∙ ap (λ o. or_fault o (first_fault room rest)) this ∙ same)

module _ (octets names : List ℕ) (count start index : ℕ) (holds_zero : Bool) (h : Scan octets names count start index holds_zero) where
  -- an octet of the name more
  more : index < length names → (so_far names start (index + 1) ≡ so_far names start index ++ get_or names index 0 ∷ [])
  more within =
      let offset : start + (index - start) ≡ index = omega (arith, h.order) in
      let one : index + 1 - start ≡ (index - start) + 1 = omega (arith, h.order) in
      ap (λ n. take n (drop start names)) one
      ∙ take_more (drop start names) (index - start) 0 (omega (arith, h.order, length-drop start names))
      ∙ ap (λ x. so_far names start index ++ x ∷ []) (get_or-drop start names (index - start) 0 ∙ ap (λ k. get_or names k 0) offset)

  at_index : (x : ℕ) → index < length names → x ≡ get_or names index 0 → drop index names ≡ x ∷ drop (index + 1) names
  at_index x within read =
      let on : suc index ≡ index + 1 = omega arith in
      drop-cons names index 0 within ∙ (λ i. sym read i ∷ drop (on i) names)

  pub scan_octet : (x : ℕ) (next : Bool) → index < length names → x ≡ get_or names index 0 → is_slash x ≡ false → next ≡ (holds_zero || is_separator x) →
      Scan octets names count start (index + 1) next
  scan_octet x next within read other zero_too =
      let rest : slice_split is_slash (drop index names) ≡ onto_first x (slice_split is_slash (drop (index + 1) names)) =
      ap (slice_split is_slash) (at_index x within read) ∙ slice_split-cons_no is_slash x (drop (index + 1) names) other in
      let longer = more within ∙ ap (λ y. so_far names start index ++ y ∷ []) (sym read) in
      record {
        order = omega (arith, h.order);
        few = h.few;
        same = ap (first_fault (8 - count)) (ap (λ cur. front cur (slice_split is_slash (drop (index + 1) names))) longer
            ∙ sym (front_onto (so_far names start index) x (slice_split is_slash (drop (index + 1) names))) ∙ ap (front (so_far names start index)) (sym rest))
            ∙ h.same;
        number = omega (
          arith,
          h.number,
          ap length rest,
          length-onto x (slice_split is_slash (drop (index + 1) names)),
          length-slice_split is_slash (drop (index + 1) names),
        );
        zeros = zero_too ∙ ap (λ b. b || is_separator x) h.zeros
            ∙ ap (λ b. list_any is_separator (so_far names start index) || b) (sym (or-false (is_separator x)))
            ∙ sym (ap (list_any is_separator) longer ∙ list_any-append is_separator (so_far names start index) (x ∷ []));
      }
    where
      length-onto : (x : ℕ) (parts : List Name) → 1 ≤ length parts → length (onto_first x parts) ≡ length parts
      length-onto x [] some = absurd (omega arith)
      length-onto x (part ∷ parts) some = refl

  -- the names from this one on, where the `/` after it was found
  at_slash : (x : ℕ) → index < length names → x ≡ get_or names index 0 → is_slash x ≡ true → slice_split is_slash (drop index names)
      ≡ [] ∷ slice_split is_slash (drop (index + 1) names)
  at_slash x within read slashes = ap (slice_split is_slash) (at_index x within read) ∙ slice_split-cons_yes is_slash x (drop (index + 1) names) slashes

  this_first : (rest : List Name) → slice_split is_slash (drop index names) ≡ [] ∷ rest → first_fault (8 - count) (so_far names start index ∷ rest)
      ≡ fault_of octets
  this_first rest are =
      ap (λ n. first_fault (8 - count) (n ∷ rest)) (sym (append-nil (so_far names start index)))
      ∙ ap (λ ns. first_fault (8 - count) (front (so_far names start index) ns)) (sym are) ∙ h.same

  pub scan_fault : (x : ℕ) (fault : PathFault) → index < length names → x ≡ get_or names index 0 → is_slash x ≡ true
      → Some fault ≡ cond (count == 8) (Some TooDeep) (fault_of_name (so_far names start index)) → fault_of octets ≡ Some fault
  scan_fault x fault within read slashes e =
      let rest = slice_split is_slash (drop (index + 1) names) in
      ends_faulty (8 - count) count (so_far names start index) rest fault (fault_of octets) refl h.few (this_first rest (at_slash x within read slashes)) e

  pub scan_slash : (x : ℕ) → index < length names → x ≡ get_or names index 0 → is_slash x ≡ true
      → None ≡ cond (count == 8) (Some TooDeep) (fault_of_name (so_far names start index)) → Scan octets names (count + 1) (index + 1) (index + 1) false
  scan_slash x within read slashes e =
      let rest = slice_split is_slash (drop (index + 1) names) in
      let are = at_slash x within read slashes in
      let well = ends_well (8 - count) count (so_far names start index) rest (fault_of octets) refl h.few (this_first rest are) e in
      let nothing : index + 1 - (index + 1) ≡ 0 = omega arith in
      let empty = ap (λ n. take n (drop (index + 1) names)) nothing in
      record {
        order = omega arith;
        few = omega (arith, well.0);
        same = ap (first_fault (8 - (count + 1))) (ap (λ cur. front cur rest) empty
            ∙ front_none rest (omega (arith, length-slice_split is_slash (drop (index + 1) names)))) ∙ well.1;
        number = omega (arith, h.number, ap length are);
        zeros = sym (ap (list_any is_separator) empty);
      }

  -- the last name
  last_name : length names ≤ index → so_far names start index ≡ so_far names start (length names)
  last_name past =
      take_all (index - start) (drop start names) (omega (arith, length-drop start names))
      ∙ sym (take_all (length names - start) (drop start names) (omega (arith, length-drop start names)))

  at_end : length names ≤ index → slice_split is_slash (drop index names) ≡ [] ∷ []
  at_end past = ap (slice_split is_slash) (drop_all index names past)

  pub scan_end : (fault : PathFault) → length names ≤ index
      → Some fault ≡ cond (count == 8) (Some TooDeep) (fault_of_name (so_far names start (length names))) → fault_of octets ≡ Some fault
  scan_end fault past e =
      ends_faulty (8 - count) count (so_far names start index) [] fault (fault_of octets) refl h.few (this_first [] (at_end past))
      (e ∙ ap (λ n. cond (count == 8) (Some TooDeep) (fault_of_name n)) (sym (last_name past)))

  pub scan_all : length names ≤ index → None ≡ cond (count == 8) (Some TooDeep) (fault_of_name (so_far names start (length names))) → (fault_of octets ≡ None)
      × (count + 1 ≡ length (names_in octets))
  scan_all past e =
      let well = ends_well (8 - count) count (so_far names start index) [] (fault_of octets) refl h.few (this_first [] (at_end past))
      (e ∙ ap (λ n. cond (count == 8) (Some TooDeep) (fault_of_name n)) (sym (last_name past))) in
      (sym well.1, omega (arith, h.number, ap length (at_end past)))
