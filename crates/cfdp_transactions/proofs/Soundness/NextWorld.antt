-- Every event keeps the world sound, and the leased paths of every other transaction.
use Rattle.std.proofs.Common.{◌≡◌, ◌≢◌, ℕ, refl}
use Rattle.std.specs.Prelude.{Option, Some, None, slice_get, IsTrue, ◌==◌}
use Rattle.std.proofs.lemmas.Bool.{cond_both}
use Rattle.cfdp_leases.specs.Footprint.{Keeps}
use Rattle.cfdp_pdus.specs.declared.header.Header.{Header}
use Rattle.cfdp_transactions.specs.Entry.{is_live, Entry, id_of, name_of, footprint}
use Rattle.cfdp_transactions.specs.Events.{Event, MetadataCame, DataCame, EofCame, Step, Cancel, Check, Take, Reply, about}
use Rattle.cfdp_transactions.specs.World.{World, index_of, entry_of}
use Rattle.cfdp_transactions.specs.Admission.{metadata_came}
use Rattle.cfdp_transactions.specs.Delivery.{data_came, eof_came, checked}
use Rattle.cfdp_transactions.specs.Execution.{stepped}
use Rattle.cfdp_transactions.specs.Ending.{cancelled, taken_out}
use Rattle.cfdp_transactions.specs.Next.{for_us, next}
use Rattle.cfdp_transactions.specs.code.LowerLaws.{LowerLaws}
use Rattle.cfdp_transactions.specs.Sound.{Each, Sound}
use Rattle.cfdp_transactions.proofs.Soundness.OwnChange.{Goes}
use Rattle.cfdp_transactions.proofs.Soundness.EachEvent.{stays, cancelled_moves, taken_goes, check_moves, eof_moves, step_moves_in, data_moves}
use Rattle.cfdp_transactions.proofs.Soundness.Admitting.{metadata_sound, metadata_keeps}
use Rattle.cfdp_transactions.proofs.Finding.{found_name, absent_name}

module _ (laws : LowerLaws) (W : World) (s : Sound W) where
  -- the entry is there, or the event changes nothing
  found_goes : (k : ℕ) (f : Option Entry → World × Reply) → (f None).0 ≡ W → ((e : Entry) → slice_get W.table k ≡ Some e → Goes k W (f (Some e)).0) →
      (o : Option Entry) → slice_get W.table k ≡ o → Goes k W (f o).0
  found_goes k f unknown known None at = rw unknown (stays k W s)
  found_goes k f unknown known (Some e) at = known e at

  for_us_goes : (k : ℕ) (h : Header) (a : World × Reply) → Goes k W a.0 → Goes k W (for_us W h a).0
  for_us_goes k h a goes = cond_both (h.destination == W.config.entity) a _ (λ (b : World × Reply). Goes k W b.0) (λ _. goes) (λ _. stays k W s)

  pub next_goes : (event : Event) → Goes (index_of W (about event)) W (next W event).0
  next_goes (MetadataCame h m) =
      for_us_goes (index_of W (id_of h)) h (metadata_came W h m (entry_of W (id_of h))) (record {
        sound = metadata_sound laws W s h m (entry_of W (id_of h)) (absent_name W.table (id_of h));
        keeps = λ j d at ne live p covered. rw (metadata_keeps laws W s h m (entry_of W (id_of h))) refl;
      })
  next_goes (DataCame h piece) =
      let k = index_of W (id_of h) in
      for_us_goes k h (data_came W k piece (entry_of W (id_of h))) (found_goes k (λ o. data_came W k piece o) refl
      (λ e at. (data_moves laws W k e s at piece).1.goes) (entry_of W (id_of h)) refl)
  next_goes (EofCame h eof) =
      let k = index_of W (id_of h) in
      for_us_goes k h (eof_came W k eof (entry_of W (id_of h))) (found_goes k (λ o. eof_came W k eof o) refl (λ e at. (eof_moves laws W k e s at eof).1.goes)
      (entry_of W (id_of h)) refl)
  next_goes (Step id) = let k = index_of W id in found_goes k (λ o. stepped W k o) refl (λ e at. (step_moves_in laws W k e s at e.phase refl).1.goes)
      (entry_of W id) refl
  next_goes (Cancel id) = let k = index_of W id in found_goes k (λ o. cancelled W k o) refl (λ e at. (cancelled_moves laws W k e s at).1.goes)
      (entry_of W id) refl
  next_goes (Check id) = let k = index_of W id in found_goes k (λ o. checked W k o) refl (λ e at. (check_moves laws W k e s at e.phase refl).1.goes)
      (entry_of W id) refl
  next_goes (Take id) = let k = index_of W id in found_goes k (λ o. taken_out W k o) refl (λ e at. taken_goes laws W k e s at) (entry_of W id) refl

  pub next_sound : (event : Event) → Sound (next W event).0
  next_sound event = (next_goes event).sound

  pub next_isolated : (event : Event) → Each (λ d. IsTrue (is_live d.phase) → name_of d ≢ about event →
      Keeps W.filestore (next W event).0.filestore (footprint d)) W.table
  next_isolated event j d at live other = (next_goes event).keeps j d at (λ here. other (found_name W.table (about event) d (rw here at at))) live
