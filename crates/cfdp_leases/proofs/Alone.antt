-- An exclusive path has no holder of another transaction.
--     free_before     nobody holds an exclusive path of a footprint that conflicts with no grant
--     own_only        nobody but its transaction holds an exclusive path of a grant
use Rattle.std.proofs.Common.{◌≡◌, refl, sym, ◌∙◌, ap, true, false, cond, inl, inr, [], ◌∷◌, ◌++◌, Some, None}
use Rattle.std.specs.Prelude.{find}
use Rattle.std.specs.List.{AllByRecursion}
use Rattle.std.specs.FinSet as set
use Rattle.std.proofs.lemmas.Bool.{cases_Bool, true≢false, or_parts}
use Rattle.std.proofs.lemmas.List.{append-nil}
use Rattle.std.proofs.lemmas.Option.{same_Some}
use Rattle.cfdp_status.specs.declared.transaction.TransactionId.{TransactionId}
use Rattle.cfdp_paths.specs.Paths.{Path}
use Rattle.cfdp_paths.proofs.Below.{at_or_below-itself}
use Rattle.cfdp_leases.specs.Footprint.{Footprint, leased, is_conflict, reaches}
use Rattle.cfdp_leases.specs.Leases.{Grants, is_same, AreApart, first_conflict}
use Rattle.cfdp_leases.specs.code.Holders.{holders_of, holders_at, others}
use Rattle.cfdp_leases.proofs.Conflict.{reaches_at}
use Rattle.cfdp_leases.proofs.Apart.{Grant, none_first}
use Rattle.cfdp_leases.proofs.Admitted.{nobody_of, all_go, same_of, all_of}
use Rattle.cfdp_leases.proofs.Kept.{all_found}

-- what an exclusive path does not reach does not lease it
unreached : (A B : Footprint) (p : Path) → set.contains A.exclusive p ≡ true → reaches A B ≡ false → set.contains (leased B) p ≡ false
unreached A B p has apart =
    elim (cases_Bool (set.contains (leased B) p)) [
      | inl leases ↦ absurd (true≢false (sym (reaches_at A B p p has leases (at_or_below-itself p)) ∙ apart))
      | inr none ↦ none
    ]

pub free_before : (gs : Grants) (fp : Footprint) (p : Path) → first_conflict gs fp ≡ None → set.contains fp.exclusive p ≡ true → holders_at gs p ≡ []
free_before [] fp p free has = refl
free_before (g ∷ gs) fp p free has =
    let frees = none_first (is_conflict g.1 fp) g (find (λ (k : Grant). is_conflict k.1 fp) gs) free in
    nobody_of g gs p (unreached fp g.1 p has (or_parts (reaches g.1 fp) (reaches fp g.1) frees.0).1) ∙ free_before gs fp p frees.1 has

-- beside a grant that has it as an exclusive path
nobody_beside : (g : Grant) (gs : Grants) (p : Path) → set.contains g.1.exclusive p ≡ true → AllByRecursion (λ k. is_conflict g.1 k.1 ≡ false) gs →
    holders_at gs p ≡ []
nobody_beside g [] p has apart = refl
nobody_beside g (k ∷ gs) p has apart =
    nobody_of k gs p (unreached g.1 k.1 p has (or_parts (reaches g.1 k.1) (reaches k.1 g.1) apart.0).0) ∙ nobody_beside g gs p has apart.1

pub own_only : (gs : Grants) (id : TransactionId) (g : Grant) (p : Path) → AreApart gs → find (λ h. is_same h.0 id) gs ≡ Some g → set.contains g.1.exclusive p
    ≡ true
    → others id (holders_at gs p) ≡ []
own_only [] id g p apart found has = absurd (cc found)
own_only (k ∷ gs) id g p apart found has =
    elim (cases_Bool (is_same k.0 id)) [
      | inl same ↦
          let mine : k ≡ g = same_Some _ _ (sym (ap (λ b. cond b (Some k) (find (λ h. is_same h.0 id) gs)) same) ∙ found) in
          let beside = nobody_beside k gs p (ap (λ (h : Grant). set.contains h.1.exclusive p) mine ∙ has) apart.0.paths in
          ap (λ hs. others id (holders_of k.0 k.1 p ++ hs)) beside
          ∙ ap (others id) (append-nil (holders_of k.0 k.1 p))
          ∙ all_go id (holders_of k.0 k.1 p) (same_of id k (holders_of k.0 k.1 p) same (all_of k.0 k.1 p))
      | inr other ↦
          let there = sym (ap (λ b. cond b (Some k) (find (λ h. is_same h.0 id) gs)) other) ∙ found in
          let apart_from = all_found (λ (h : Grant). is_conflict k.1 h.1 ≡ false) (λ h. is_same h.0 id) gs g apart.0.paths there in
          ap (others id) (nobody_of k gs p (unreached g.1 k.1 p has (or_parts (reaches k.1 g.1) (reaches g.1 k.1) apart_from).1))
          ∙ own_only gs id g p apart.1 there has
    ]
