-- A live entry's own change keeps the world sound, and all other entries' leased paths.
use Rattle.std.proofs.Common.{◌≡◌, ◌≢◌, ℕ, zero, suc, ◌+◌, ◌≤◌, List, [], ◌∷◌, refl, ap, sym, ◌∙◌, arith, length-set}
use Rattle.std.specs.Prelude.{Bool, Some, slice_get, slice_set, IsTrue, IsFalse}
use Rattle.std.specs.List.{AllByRecursion}
use Rattle.std.proofs.lemmas.Bool.{cases_Bool, cases_eq, cond_both}
use mathlib.Core.Logic.{inl, inr}
use Rattle.cfdp_actions.specs.Filestore.{Filestore, staged_in, blocks, Change, after, IsRooted}
use Rattle.cfdp_leases.specs.Footprint.{Footprint, is_conflict, IsWithin, Keeps}
use Rattle.cfdp_transactions.specs.Entry.{is_live, Entry, name_of, footprint, reserve, blocks_left}
use Rattle.cfdp_transactions.specs.World.{World, reserves, change_at}
use Rattle.cfdp_transactions.specs.code.LowerLaws.{LowerLaws}
use Rattle.cfdp_transactions.specs.Sound.{IsKept, IsApart, IsHonest, IsVacant, Sound}
use Rattle.cfdp_transactions.specs.Headline.{IsCarriedOn}
use Rattle.cfdp_transactions.proofs.Indexes.{set_each, set_two, total, total-set, get_set_other, get_set_same, get_same}
use Rattle.cfdp_transactions.proofs.SlotChanges.{IsInSlot, after-slots, after-elsewhere}
use Rattle.cfdp_transactions.proofs.Soundness.LeftAlone.{kept_alike}

-- what an event owes that changes a live entry e at k, and the filestore by that entry's own changes
pub record IsOwnChange (performing : Bool) (W : World) (k : ℕ) (e : Entry) (changes : List Change) (new : Entry) : Type 0 where
  pub at : slice_get W.table k ≡ Some e
  pub live : IsTrue (is_live e.phase)
  pub isolated : (fp : Footprint) → IsFalse (is_conflict (footprint e) fp) → Keeps W.filestore (after W.filestore changes) fp
  pub in_slot : AllByRecursion (IsInSlot e.slot) changes
  pub slot : new.slot ≡ e.slot
  pub carried : IsCarriedOn performing W.filestore (after W.filestore changes) e new
  pub rooted : IsRooted (after W.filestore changes)
  pub kept : IsTrue (is_live new.phase) → IsKept W.config (after W.filestore changes) new
  pub emptied : IsFalse (is_live new.phase) → staged_in (after W.filestore changes) e.slot ≡ []
  pub honest : IsHonest W.config new
  pub room : blocks (after W.filestore changes) + blocks_left new.blocks_granted new.blocks_spent ≤ blocks W.filestore + reserve e

-- the world after an event of the transaction at k
pub record Goes (k : ℕ) (W V : World) : Type 0 where
  pub sound : Sound V
  pub keeps : (j : ℕ) (d : Entry) → slice_get W.table j ≡ Some d → j ≢ k → IsTrue (is_live d.phase) → Keeps W.filestore V.filestore (footprint d)

-- in which the entry e, at k, becomes `now`, and no other entry changes; `performing`: an item was performed
pub record MovesTo (performing : Bool) (k : ℕ) (e now : Entry) (W V : World) : Type 0 where
  pub goes : Goes k W V
  pub table : V.table ≡ slice_set W.table k now
  pub carried : IsCarriedOn performing W.filestore V.filestore e now

abbrev pub Moves : Bool → ℕ → Entry → World → World → Type 0
Moves performing k e W V = (now : Entry) × MovesTo performing k e now W V

-- reserves ---------------------------------------------------------------------------

pub reserves_total : (t : List Entry) → reserves t ≡ total reserve t
reserves_total [] = refl
reserves_total (e ∷ t) = ap (λ (n : ℕ). reserve e + n) (reserves_total t)

pub reserves-set : (t : List Entry) (k : ℕ) (old new : Entry) → slice_get t k ≡ Some old → reserves (slice_set t k new) + reserve old ≡ reserves t + reserve new
reserves-set t k old new h = rw (reserves_total (slice_set t k new), reserves_total t) (total-set reserve t k old new h)

pub reserve_within : (t : List Entry) (k : ℕ) (e : Entry) → slice_get t k ≡ Some e → reserve e ≤ reserves t
reserve_within [] k e h = absurd cc
reserve_within (d ∷ t) zero e h = let q : d ≡ e = cc in rw q (omega arith)
reserve_within (d ∷ t) (suc k) e h = omega (arith, reserve_within t k e h)

pub reserve_at_most : (e : Entry) → reserve e ≤ blocks_left e.blocks_granted e.blocks_spent
reserve_at_most e = cond_both (is_live e.phase) (blocks_left e.blocks_granted e.blocks_spent) 0 (λ (n : ℕ). n ≤ blocks_left e.blocks_granted e.blocks_spent)
    (λ _. omega arith) (λ _. omega arith)

module _ (laws : LowerLaws) (W : World) (s : Sound W) where
  module _ (performing : Bool) (k : ℕ) (e : Entry) (changes : List Change) (new : Entry) (own : IsOwnChange performing W k e changes new) where
    abbrev G : Filestore
    G = after W.filestore changes

    abbrev V : World
    V = change_at W k changes new

    -- of the others
    keeps_other : (j : ℕ) (d : Entry) → slice_get W.table j ≡ Some d → j ≢ k → IsTrue (is_live d.phase) → Keeps W.filestore G (footprint d)
    keeps_other j d at ne live = own.isolated (footprint d) (s.apart k j e d own.at at (λ q. ne (sym q)) own.live live).paths

    kept_other : (j : ℕ) (d : Entry) → slice_get W.table j ≡ Some d → j ≢ k → IsTrue (is_live d.phase) → IsKept W.config G d
    kept_other j d at ne live =
        let kept = s.live j d at live in
        kept_alike laws W.config W.filestore G d kept
        (record {
          kept = keeps_other j d at ne live;
          staged = sym (after-elsewhere W.filestore e.slot d.slot changes own.in_slot
              (s.apart j k d e at own.at ne live own.live).slots);
        })
        (rw (after-slots W.filestore changes) kept.slot) s.rooted own.rooted

    apart_new : (j : ℕ) (d : Entry) → slice_get W.table j ≡ Some d → j ≢ k → (IsTrue (is_live d.phase) → IsTrue (is_live new.phase) → IsApart d new)
        × (IsTrue (is_live new.phase) → IsTrue (is_live d.phase) → IsApart new d)
    apart_new j d at ne = (
      (λ ld _. let a = s.apart j k d e at own.at ne ld own.live in record { paths = rw own.carried.items a.paths; slots = rw own.slot a.slots }),
      (λ _ ld. let a = s.apart k j e d own.at at (λ q. ne (sym q)) own.live ld in record { paths = rw own.carried.items a.paths; slots = rw own.slot a.slots }),
    )

    names_new : (j : ℕ) (d : Entry) → slice_get W.table j ≡ Some d → j ≢ k → (name_of d ≢ name_of new) × (name_of new ≢ name_of d)
    names_new j d at ne = (rw own.carried.header (s.names j k d e at own.at ne), rw own.carried.header (s.names k j e d own.at at (λ q. ne (sym q))))

    -- a vacant slot is not the live entry's
    vacant_now : (slot : ℕ) → IsVacant V.table slot → staged_in G slot ≡ []
    vacant_now slot vacant = elim (cases_eq slot e.slot) [
      | inl here ↦ elim (cases_Bool (is_live new.phase)) [
        | inl live ↦ absurd (vacant k new (get_set_same W.table k new e own.at) live (own.slot ∙ sym here))
        | inr final ↦ rw here (own.emptied final)
      ]
      | inr other ↦ after-elsewhere W.filestore e.slot slot changes own.in_slot other ∙
          s.vacant slot (λ j d at live here. elim (cases_eq j k) [
            | inl q ↦ let same : d ≡ e = get_same W.table j k d e at own.at q in other (sym here ∙ ap (λ (x : Entry). x.slot) same)
            | inr ne ↦ vacant j d (get_set_other W.table k new j ne ∙ at) live here
          ])
    ]

    change_goes : Goes k W V
    change_goes = record {
      sound = record {
        covered = set_each (λ _ (d : Entry). IsTrue (is_live d.phase) → AllByRecursion (IsWithin (footprint d)) d.items) W.table k new
            (λ _. laws.own_footprint new.items) (λ j d at ne. s.covered j d at);
        live = set_each (λ _ (d : Entry). IsTrue (is_live d.phase) → IsKept W.config G d) W.table k new own.kept kept_other;
        apart = set_two (λ (d f : Entry). IsTrue (is_live d.phase) → IsTrue (is_live f.phase) → IsApart d f) W.table k new apart_new s.apart;
        honest = set_each (λ _ (d : Entry). IsHonest W.config d) W.table k new own.honest (λ j d at ne. s.honest j d at);
        names = set_two (λ (d f : Entry). name_of d ≢ name_of f) W.table k new names_new s.names;
        few = rw (length-set W.table k new) s.few;
        slots = after-slots W.filestore changes ∙ s.slots;
        vacant = vacant_now;
        rooted = own.rooted;
        room = omega (arith, s.room, own.room, reserves-set W.table k e new own.at, reserve_at_most new);
        given = set_each (λ _ (d : Entry). blocks_left d.blocks_granted d.blocks_spent ≤ W.config.blocks) W.table k new
            (omega (arith, s.room, own.room, reserve_within W.table k e own.at)) (λ j d at ne. s.given j d at);
      };
      keeps = keeps_other;
    }

    pub change_moves : MovesTo performing k e new W V
    change_moves = record { goes = change_goes; table = refl; carried = own.carried }
