-- Grants that are apart stay so.
--     Grant            a transaction with its footprint
--     apart_push       with one more that conflicts with none and whose transaction holds none
--     apart_filter     with some taken away
use Rattle.std.proofs.Common.{◌≡◌, refl, ◌∙◌, ap, Bool, true, false, cond, ◌||◌, ◌&&◌, List, [], ◌∷◌, ◌++◌}
use Rattle.std.specs.Prelude.{Option, Some, None, is_some, find, filter}
use Rattle.std.specs.Option.{option_map}
use Rattle.std.specs.List.{list_any, AllByRecursion}
use Rattle.std.specs.Cmp.{nat_eq_equiv}
use Rattle.std.proofs.lemmas.Bool.{true≢false, or_parts, or_from}
use Rattle.std.proofs.lemmas.List.Folds.{list_any-append}
use Rattle.cfdp_status.specs.declared.transaction.TransactionId.{TransactionId}
use Rattle.cfdp_status.proofs.Appended.{all-append}
use Rattle.cfdp_leases.specs.Footprint.{Footprint, is_conflict}
use Rattle.cfdp_leases.specs.Leases.{Grants, is_same, first_conflict, holds, IsApartFrom, AreApart}

abbrev pub Grant : Type 0
Grant = TransactionId × Footprint

pub is_same-symm : (a b : TransactionId) → is_same a b ≡ is_same b a
is_same-symm a b = λ i. nat_eq_equiv.symm a.source b.source i && nat_eq_equiv.symm a.number b.number i

pub none_first : (b : Bool) (g : Grant) (o : Option Grant) → option_map (λ (h : Grant). h.0) (cond b (Some g) o) ≡ None → (b ≡ false)
    × (option_map (λ (h : Grant). h.0) o ≡ None)
none_first true g o h = absurd (true≢false (ap is_some h))
none_first false g o h = (refl, h)

pub apart_push : (gs : Grants) (g : Grant) → AreApart gs → first_conflict gs g.1 ≡ None → holds gs g.0 ≡ false → AreApart (gs ++ g ∷ [])
apart_push [] g apart free unheld = (record { names = refl; paths = tt }, tt)
apart_push (h ∷ gs) g apart free unheld =
    let frees = none_first (is_conflict h.1 g.1) h (find (λ (k : Grant). is_conflict k.1 g.1) gs) free in
    let others = or_parts (is_same h.0 g.0) (holds gs g.0) unheld in (
      record {
        names = list_any-append (λ (k : Grant). is_same k.0 h.0) gs (g ∷ [])
            ∙ or_from (holds gs h.0) (is_same g.0 h.0 || false) apart.0.names (or_from (is_same g.0 h.0) false (is_same-symm g.0 h.0 ∙ others.0) refl);
        paths = all-append (λ (k : Grant). is_conflict h.1 k.1 ≡ false) gs (g ∷ []) apart.0.paths (frees.0, tt);
      },
      apart_push gs g apart.1 frees.1 others.1,
    )

pub all_filter : {X : Type 0} (P : X → Type 0) (test : X → Bool) (xs : List X) → AllByRecursion P xs → AllByRecursion P (filter test xs)
all_filter P test [] all = tt
all_filter P test (x ∷ xs) all =
    elim (test x) as (λ b. AllByRecursion P (cond b (x ∷ filter test xs) (filter test xs))) [
      | true ↦ (all.0, all_filter P test xs all.1)
      | false ↦
          all_filter P test xs all.1
    ]

none_filter : (any test : Grant → Bool) (gs : Grants) → list_any any gs ≡ false → list_any any (filter test gs) ≡ false
none_filter any test [] h = refl
none_filter any test (g ∷ gs) h =
    let parts = or_parts (any g) (list_any any gs) h in
    let rest = none_filter any test gs parts.1 in
    elim (test g) as (λ b. list_any any (cond b (g ∷ filter test gs) (filter test gs)) ≡ false) [
      | true ↦
          or_from (any g) (list_any any (filter test gs)) parts.0 rest
      | false ↦ rest
    ]

pub apart_filter : (test : Grant → Bool) (gs : Grants) → AreApart gs → AreApart (filter test gs)
apart_filter test [] apart = tt
apart_filter test (g ∷ gs) apart =
    let from : IsApartFrom g (filter test gs) = record {
      names = none_filter (λ (k : Grant). is_same k.0 g.0) test gs apart.0.names;
      paths = all_filter (λ (k : Grant). is_conflict g.1 k.1 ≡ false) test gs apart.0.paths;
    } in
    let rest = apart_filter test gs apart.1 in
    elim (test g) as (λ b. AreApart (cond b (g ∷ filter test gs) (filter test gs))) [ true ↦ (from, rest) | false ↦ rest ]
