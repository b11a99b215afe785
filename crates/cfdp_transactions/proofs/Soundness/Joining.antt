-- A new entry, and one that is taken out, keep the world sound: the filestore stays as it is.
use Rattle.std.proofs.Common.{◌≡◌, ◌≢◌, ℕ, ◌<◌, ◌≤◌, [], ◌∷◌, ◌++◌, length, sym, ◌∙◌, arith, length-append}
use Rattle.std.specs.Prelude.{Some, slice_get, remove, IsTrue, IsFalse}
use Rattle.std.specs.List.{AllByRecursion}
use Rattle.std.proofs.lemmas.Bool.{both_ways}
use Rattle.cfdp_leases.specs.Footprint.{IsWithin}
use Rattle.cfdp_transactions.specs.Entry.{is_live, Entry, name_of, footprint, reserve, blocks_left}
use Rattle.cfdp_transactions.specs.World.{World, spare_blocks}
use Rattle.cfdp_transactions.specs.Admission.{with_new}
use Rattle.cfdp_transactions.specs.Sound.{Each, IsKept, IsApart, IsHonest, Sound}
use Rattle.cfdp_transactions.proofs.Indexes.{append_each, append_two, get_append, before, before_apart, following, remove_index, remove_others, length_remove, total-append, total-remove, get_same}
use Rattle.cfdp_transactions.proofs.Soundness.OwnChange.{reserves_total}

-- what a new entry owes: no conflict, a slot of its own, and a promise within the spare blocks
pub record IsAdmissible (W : World) (e : Entry) : Type 0 where
  pub covered : IsTrue (is_live e.phase) → AllByRecursion (IsWithin (footprint e)) e.items
  pub apart : IsTrue (is_live e.phase) → Each (λ d. IsTrue (is_live d.phase) → IsApart d e × IsApart e d) W.table
  pub names : Each (λ d. name_of d ≢ name_of e) W.table
  pub kept : IsTrue (is_live e.phase) → IsKept W.config W.filestore e
  pub honest : IsHonest W.config e
  pub few : length W.table < 64
  pub room : reserve e ≤ spare_blocks W
  pub given : blocks_left e.blocks_granted e.blocks_spent ≤ W.config.blocks

pub new_sound : (W : World) (e : Entry) → Sound W → IsAdmissible W e → Sound (with_new W e)
new_sound W e s a = record {
  covered = append_each (λ _ (d : Entry). IsTrue (is_live d.phase) → AllByRecursion (IsWithin (footprint d)) d.items) W.table e a.covered s.covered;
  live = append_each (λ _ (d : Entry). IsTrue (is_live d.phase) → IsKept W.config W.filestore d) W.table e a.kept s.live;
  apart = append_two (λ (d f : Entry). IsTrue (is_live d.phase) → IsTrue (is_live f.phase) → IsApart d f) W.table e
      (λ j d at. ((λ ld le. (a.apart le j d at ld).0), (λ le ld. (a.apart le j d at ld).1))) s.apart;
  honest = append_each (λ _ (d : Entry). IsHonest W.config d) W.table e a.honest s.honest;
  names = append_two (λ (d f : Entry). name_of d ≢ name_of f) W.table e (λ j d at. (a.names j d at, (λ q. a.names j d at (sym q)))) s.names;
  few = omega (arith, length-append W.table (e ∷ []), a.few);
  slots = s.slots;
  vacant = λ slot vacant. s.vacant slot (λ j d at. vacant j d (get_append W.table e j d at));
  rooted = s.rooted;
  room = omega (arith, s.room, a.room, reserves_total W.table, reserves_total (W.table ++ e ∷ []), total-append reserve W.table e);
  given = append_each (λ _ (d : Entry). blocks_left d.blocks_granted d.blocks_spent ≤ W.config.blocks) W.table e a.given s.given;
}

-- the entry at k is final, and goes
pub taken_sound : (W : World) (k : ℕ) (e : Entry) → Sound W → slice_get W.table k ≡ Some e → IsFalse (is_live e.phase) →
    Sound (record W { table = remove W.table k })
taken_sound W k e s at final = record {
  covered = λ j d here. s.covered (before k j) d (sym (remove_index W.table k j) ∙ here);
  live = λ j d here. s.live (before k j) d (sym (remove_index W.table k j) ∙ here);
  apart = λ i j d f h g ne. s.apart (before k i) (before k j) d f (sym (remove_index W.table k i) ∙ h) (sym (remove_index W.table k j) ∙ g)
      (before_apart k i j ne);
  honest = λ j d here. s.honest (before k j) d (sym (remove_index W.table k j) ∙ here);
  names = λ i j d f h g ne. s.names (before k i) (before k j) d f (sym (remove_index W.table k i) ∙ h) (sym (remove_index W.table k j) ∙ g)
      (before_apart k i j ne);
  few = omega (arith, s.few, length_remove W.table k);
  slots = s.slots;
  vacant = λ slot vacant. s.vacant slot (λ j d here live. vacant (following k j) d
      (remove_others W.table k j (λ q. let same : d ≡ e = get_same W.table j k d e here at q in both_ways (is_live e.phase) final (rw same at live))
      ∙ here) live);
  rooted = s.rooted;
  room = omega (arith, s.room, reserves_total W.table, reserves_total (remove W.table k), total-remove reserve W.table k e at);
  given = λ j d here. s.given (before k j) d (sym (remove_index W.table k j) ∙ here);
}
