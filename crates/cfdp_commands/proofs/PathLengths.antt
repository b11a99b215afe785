-- How long a path is, and which faults octets have that spell none.
use Rattle.std.proofs.Common.{◌≡◌, ◌∙◌, ap, ℕ, zero, suc, ◌+◌, ◌*◌, ◌<◌, ◌≤◌, ◌==◌, Bool, true, false, inl, inr, List, [], ◌∷◌, length, Some, None, refl, arith, All, length-append}
use Rattle.std.specs.Prelude.{if◌then◌else◌}
use Rattle.std.proofs.lemmas.List.Elements.{All-head, All-tail}
use Rattle.cfdp_paths.specs.Paths.{Name, Path, IsName, Spells, joined, names_in, slash, path_of, without_slash}
use Rattle.cfdp_paths.specs.Faults.{fault_of, fault_of_name, first_fault, or_fault}
use Rattle.cfdp_paths.specs.declared.fault.PathFault.{PathFault}
use Rattle.cfdp_paths.specs.declared.fault.PathFault.TheVariants.{Empty, EmptyName, BadName, NameTooLong, Memory}
use Rattle.cfdp_paths.proofs.Spelling.{spelled_from_path_of}
use Rattle.cfdp_paths.proofs.Faulty.{fault_exactly}

-- names with `/` between them, each of 96 octets at most
joined_short : (p : Path) → 1 ≤ length p → All IsName p → length (joined p) + 1 ≤ 97 * length p
joined_short [] some good = absurd (omega (arith, some))
joined_short (n ∷ []) some good = let name = All-head IsName n [] good in omega (arith, name.short)
joined_short (n ∷ m ∷ p) some good =
    let name = All-head IsName n (m ∷ p) good in
    let others = joined_short (m ∷ p) (omega arith) (All-tail IsName n (m ∷ p) good) in
    omega (arith, name.short, others, length-append n (slash ∷ joined (m ∷ p)))

spelled_short : (octets : List ℕ) (p : Path) → Spells octets p → length octets ≤ 776
spelled_short octets p (path, inl e) = let short = joined_short p path.some path.names in omega (arith, short, path.few, ap length e)
spelled_short octets p (path, inr e) = let short = joined_short p path.some path.names in omega (arith, short, path.few, ap length e)

pub no_path-long : (octets : List ℕ) → 776 < length octets → path_of octets ≡ None
no_path-long octets long = elim (path_of octets) as (λ o. path_of octets ≡ o → o ≡ None) [
  | None ↦ λ e. refl
  | Some p ↦ λ e. let short = spelled_short octets p (spelled_from_path_of octets p e) in absurd (omega (arith, long, short))
] refl

-- no fault of octets is out of memory

name_fault : (a b c : Bool)
    → (if a then Some EmptyName else if b then Some BadName else if c then Some NameTooLong else None) ≡ Some Memory → ⊥
name_fault true b c e = absurd cc
name_fault false true c e = absurd cc
name_fault false false true e = absurd cc
name_fault false false false e = absurd cc

names_fault : (room : ℕ) (names : List Name) → first_fault room names ≡ Some Memory → ⊥
names_fault room [] e = absurd cc
names_fault zero (n ∷ names) e = absurd cc
names_fault (suc room) (n ∷ names) e =
    elim (fault_of_name n) as (λ o. fault_of_name n ≡ o → or_fault o (first_fault room names) ≡ Some Memory → ⊥) [
      | None ↦ λ is same. names_fault room names same
      | Some fault ↦ λ is same. name_fault _ _ _ (is ∙ same)
    ] refl e

octets_fault : (b : Bool) (names : List Name) → (if b then Some Empty else first_fault 8 names) ≡ Some Memory → ⊥
octets_fault true names e = absurd cc
octets_fault false names e = names_fault 8 names e

-- octets with no fault but Memory spell a path
pub path-refused : (octets : List ℕ) → ((fault : PathFault) → fault_of octets ≡ Some fault → fault ≡ Memory) → path_of octets ≡ None → ⊥
path-refused octets refused none =
    elim (fault_of octets) as (λ o. fault_of octets ≡ o → ⊥) [
      | None ↦ λ e. (fault_exactly octets).1 none e
      | Some fault ↦ λ e. octets_fault (length (without_slash octets) == 0) (names_in octets) (e ∙ ap Some (refused fault e))
    ] refl
