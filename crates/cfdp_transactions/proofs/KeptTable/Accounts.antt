-- What the leases and the budget of blocks say, after one live entry changed or ended, one was added, or a final one was
-- taken out.
use Rattle.std.proofs.Common.{◌≡◌, ◌≢◌, ℕ, zero, suc, ◌+◌, List, [], ◌∷◌, ◌++◌, refl, ap, sym, ◌∙◌, arith}
use Rattle.std.specs.Prelude.{Bool, true, false, Some, None, slice_get, slice_set, remove, IsTrue, IsFalse, if◌then◌else◌}
use Rattle.std.proofs.lemmas.Bool.{cases_Bool, cases_eq}
use mathlib.Core.Logic.{inl, inr}
use Rattle.cfdp_status.specs.declared.transaction.TransactionId.{TransactionId}
use Rattle.cfdp_actions.specs.Filestore.{Change}
use Rattle.cfdp_quota.specs.Budget.{Budget, entry_at, spare}
use Rattle.cfdp_leases.specs.Leases.{Grants, without_grant}
use Rattle.cfdp_transactions.specs.Entry.{is_live, Entry, name_of, footprint, reserve}
use Rattle.cfdp_transactions.specs.World.{World, free, leases_of, change_at}
use Rattle.cfdp_transactions.specs.Sound.{Each, EachTwo, IsVacant, Sound}
use Rattle.cfdp_transactions.specs.code.Books.{FitsBudget}
use Rattle.cfdp_transactions.proofs.Indexes.{set_each, get_set_other, get_set_same, get_same}
use Rattle.cfdp_transactions.proofs.Soundness.OwnChange.{reserves-set}
use Rattle.cfdp_transactions.proofs.Finding.{is_same-same}
use Rattle.cfdp_transactions.proofs.Lookups.{differs}

-- leases -----------------------------------------------------------------------------

abbrev lease_in : Bool → Entry → Grants → Grants
lease_in live e later = if live then (name_of e, footprint e) ∷ later else later

alike : (e new : Entry) (later : Grants) → new.header ≡ e.header → new.items ≡ e.items → lease_in true new later ≡ lease_in true e later
alike e new later header items = rw (header, items) refl

pub leases_changed : (t : List Entry) (k : ℕ) (e new : Entry) → slice_get t k ≡ Some e → IsTrue (is_live e.phase) → IsTrue (is_live new.phase) → new.header
    ≡ e.header → new.items ≡ e.items →
    leases_of (slice_set t k new) ≡ leases_of t
leases_changed [] k e new at live still header items = refl
leases_changed (d ∷ t) zero e new at live still header items = let q : d ≡ e = cc in rw (q, live, still) (alike e new (leases_of t) header items)
leases_changed (d ∷ t) (suc k) e new at live still header items = rw (leases_changed t k e new at live still header items) refl

without_none_step : (d : Entry) (t : List Entry) (id : TransactionId) (live : Bool) → name_of d ≢ id → without_grant (leases_of t) id ≡ leases_of t →
    without_grant (lease_in live d (leases_of t)) id ≡ lease_in live d (leases_of t)
without_none_step d t id true ne later = rw (differs (name_of d) id ne) (ap (λ (g : Grants). (name_of d, footprint d) ∷ g) later)
without_none_step d t id false ne later = later

without_none : (t : List Entry) (id : TransactionId) → Each (λ d. name_of d ≢ id) t → without_grant (leases_of t) id ≡ leases_of t
without_none [] id others = refl
without_none (d ∷ t) id others = without_none_step d t id (is_live d.phase) (others 0 d refl) (without_none t id (λ j e at. others (suc j) e at))

without_step : (d : Entry) (t : List Entry) (u : Grants) (id : TransactionId) (live : Bool) → name_of d ≢ id → u ≡ without_grant (leases_of t) id →
    lease_in live d u ≡ without_grant (lease_in live d (leases_of t)) id
without_step d t u id true ne later = rw (differs (name_of d) id ne) (ap (λ (g : Grants). (name_of d, footprint d) ∷ g) later)
without_step d t u id false ne later = later

pub leases_ended : (t : List Entry) (k : ℕ) (e new : Entry) → slice_get t k ≡ Some e → IsTrue (is_live e.phase) → IsFalse (is_live new.phase) →
    EachTwo (λ d f. name_of d ≢ name_of f) t →
    leases_of (slice_set t k new) ≡ without_grant (leases_of t) (name_of e)
leases_ended [] k e new at live final names = absurd cc
leases_ended (d ∷ t) zero e new at live final names =
    let q : d ≡ e = cc in
    rw (q, live, final, is_same-same (name_of e) (name_of e) refl)
    (sym (without_none t (name_of e) (λ j f there. rw (← q) (names (suc j) 0 f d there refl (λ n. absurd (omega arith))))))
leases_ended (d ∷ t) (suc k) e new at live final names =
    without_step d t (leases_of (slice_set t k new)) (name_of e) (is_live d.phase) (names 0 (suc k) d e refl at (λ n. absurd (omega arith)))
    (leases_ended t k e new at live final (λ i j f g at_f at_g ne. names (suc i) (suc j) f g at_f at_g (λ n. ne (omega arith))))

pub leases_removed : (t : List Entry) (k : ℕ) (e : Entry) → slice_get t k ≡ Some e → IsFalse (is_live e.phase) → leases_of (remove t k) ≡ leases_of t
leases_removed [] zero e at final = refl
leases_removed [] (suc k) e at final = refl
leases_removed (d ∷ t) zero e at final = let q : d ≡ e = cc in rw (q, final) refl
leases_removed (d ∷ t) (suc k) e at final = rw (leases_removed t k e at final) refl

leases_added_step : (d : Entry) (u v : Grants) (live : Bool) → lease_in live d (u ++ v) ≡ lease_in live d u ++ v
leases_added_step d u v true = refl
leases_added_step d u v false = refl

pub leases_added : (t : List Entry) (new : Entry) → leases_of (t ++ new ∷ []) ≡ leases_of t ++ leases_of (new ∷ [])
leases_added [] new = refl
leases_added (d ∷ t) new = rw (leases_added t new) (leases_added_step d (leases_of t) (leases_of (new ∷ [])) (is_live d.phase))

-- the budget -------------------------------------------------------------------------

-- from q to p, where e becomes `new`, and W to be V
pub record Adjusts (q p : Budget) (W V : World) (e new : Entry) : Type 0 where
  pub in_all : p.capacity ≡ q.capacity
  pub not_used : p.free ≡ free V
  pub not_granted : spare p + reserve new + free W ≡ spare q + reserve e + free V
  pub here : entry_at p e.slot ≡ (if is_live new.phase then Some (reserve new) else None)
  pub elsewhere : (slot : ℕ) → slot ≢ e.slot → entry_at p slot ≡ entry_at q slot

module _ (W : World) (s : Sound W) (k : ℕ) (e new : Entry) (at : slice_get W.table k ≡ Some e) (live : IsTrue (is_live e.phase)) (slot : new.slot ≡ e.slot)
    (changes : List Change) (q p : Budget) (fits : FitsBudget q W) (adjusts : Adjusts q p W (change_at W k changes new) e new) where
  open_here : IsTrue (is_live new.phase) → entry_at p new.slot ≡ Some (reserve new)
  open_here now = rw slot (adjusts.here ∙ rw now refl)

  open_other : (j : ℕ) (d : Entry) → slice_get W.table j ≡ Some d → j ≢ k → IsTrue (is_live d.phase) → entry_at p d.slot ≡ Some (reserve d)
  open_other j d there ne now = adjusts.elsewhere d.slot (s.apart j k d e there at ne now live).slots ∙ fits.opened j d there now

  closed_now : (free : ℕ) → IsVacant (slice_set W.table k new) free → entry_at p free ≡ None
  closed_now free vacant = elim (cases_eq free e.slot) [
    | inl here ↦ elim (cases_Bool (is_live new.phase)) [
      | inl now ↦ absurd (vacant k new (get_set_same W.table k new e at) now (slot ∙ sym here))
      | inr final ↦ rw here (adjusts.here ∙ rw final refl)
    ]
    | inr other ↦ adjusts.elsewhere free other ∙
        fits.closed free (λ j d there now here. elim (cases_eq j k) [
          | inl n ↦ let same : d ≡ e = get_same W.table j k d e there at n in other (sym here ∙ ap (λ (x : Entry). x.slot) same)
          | inr ne ↦ vacant j d (get_set_other W.table k new j ne ∙ there) now here
        ])
  ]

  pub fits_after : FitsBudget p (change_at W k changes new)
  fits_after = record {
    in_all = adjusts.in_all ∙ fits.in_all;
    not_used = adjusts.not_used;
    not_granted = omega (arith, adjusts.not_granted, fits.not_granted, reserves-set W.table k e new at);
    opened = set_each (λ _ (d : Entry). IsTrue (is_live d.phase) → entry_at p d.slot ≡ Some (reserve d)) W.table k new open_here open_other;
    closed = closed_now;
  }
