-- Which event adds an entry to the table, and which takes one out of it.
use Rattle.std.proofs.Common.{◌≡◌, ◌≢◌, ◌⊎◌, List, [], length, refl, ap, sym, ◌∙◌, subst}
use Rattle.std.specs.Prelude.{Option, Some, None, remove, is_some, IsSome, IsFalse, ℕ, not, ◌&&◌, ◌==◌, nat_lt, nat_le}
use Rattle.std.proofs.lemmas.Bool.{cases_Bool, both_ways, cond_both, cond-true, cond-false}
use Rattle.std.proofs.lemmas.Option.{none-some, same_Some}
use mathlib.Core.Logic.{inl, inr}
use Rattle.cfdp_actions.specs.Actions.{Item}
use Rattle.cfdp_leases.specs.Leases.{is_same}
use Rattle.cfdp_pdus.specs.Values.{MetadataFields}
use Rattle.cfdp_pdus.specs.declared.header.Header.{Header}
use Rattle.cfdp_status.specs.declared.transaction.TransactionId.{TransactionId}
use Rattle.cfdp_verifier.specs.declared.refusal.Refusal.TheVariants.{TooManyRequests}
use Rattle.cfdp_verifier.specs.Verdict.{Verdict, Refuse, Grant, verdict}
use Rattle.cfdp_transactions.specs.Entry.{Phase, Receiving, Refused, Ended, is_live, Entry, has_file, id_of}
use Rattle.cfdp_transactions.specs.Events.{Event, MetadataCame, DataCame, EofCame, Step, Cancel, Check, Take, Reply, about, is_take}
use Rattle.cfdp_transactions.specs.World.{World, index_of, entry_of, spare_blocks, leases_of, free_slot}
use Rattle.cfdp_transactions.specs.Admission.{new_entry, with_new, proposal_of, judged, is_known_checksum, metadata_came}
use Rattle.cfdp_transactions.specs.Ending.{taken_out}
use Rattle.cfdp_transactions.specs.Outcome.{outcome_of}
use Rattle.cfdp_transactions.specs.Next.{next}
use Rattle.cfdp_transactions.specs.code.LowerLaws.{LowerLaws}
use Rattle.cfdp_transactions.specs.Sound.{Sound}
use Rattle.cfdp_transactions.specs.Entries.{OnlyMetadataAdds, MetadataAddsItsOwn, OnlyTakeRemoves, TakeRemoves, TakeKeeps, OtherEntriesStay}
use Rattle.cfdp_transactions.proofs.Promises.Carried.{unknown_same, moves_on, moved_here, gone_unknown, next_others}
use Rattle.cfdp_transactions.proofs.Finding.{is_same-true, is_same-same}
use Rattle.cfdp_transactions.proofs.Lookups.{append_own}

same_or_not : (a b : TransactionId) → (a ≡ b) ⊎ (a ≢ b)
same_or_not a b = elim (cases_Bool (is_same a b)) [
  | inl same ↦ inl (is_same-true a b same)
  | inr other ↦ inr (λ q. both_ways (is_same a b) other (is_same-same a b q))
]

-- what is added ------------------------------------------------------------------------

pub only_metadata_adds : LowerLaws → OnlyMetadataAdds
only_metadata_adds laws W event id s other none = elim (same_or_not id (about event)) [
  | inl own ↦ ap (λ (V : World). entry_of V id) (unknown_same W event other (sym (ap (entry_of W) own) ∙ none)) ∙ none
  | inr ne ↦ next_others laws W s event id ne ∙ none
]

-- an entry e that is there once Metadata came, where there was none
module _ (W : World) (h : Header) (m : MetadataFields) (e : Entry) (none : entry_of W (id_of h) ≡ None) where
  abbrev IsItsOwn : World × Reply → Type 0
  IsItsOwn a = entry_of a.0 (id_of h) ≡ Some e → MetadataCame h m ≡ MetadataCame e.header e.metadata

  own_none : (reply : Reply) → IsItsOwn (W, reply)
  own_none reply now = absurd (none-some e (sym none ∙ now))

  own_new : (phase : Phase) (slot : ℕ) (items : List Item) (blocks steps : ℕ) (reply : Reply) →
      IsItsOwn (with_new W (new_entry h m phase slot items blocks steps), reply)
  own_new phase slot items blocks steps reply now =
      let new = new_entry h m phase slot items blocks steps in
      ap (λ (d : Entry). MetadataCame d.header d.metadata) (same_Some new e (sym (append_own W.table (id_of h) new refl none) ∙ now))

  own_judged : (v : Verdict) → IsItsOwn (judged W h m v)
  own_judged (Refuse r) = own_new Refused 0 [] 0 0 (Reply.Refused r)
  own_judged (Grant items blocks steps) = own_new Receiving (free_slot W.table) items blocks steps (Reply.Admitted blocks steps)

  own_metadata : IsItsOwn (metadata_came W h m None)
  own_metadata =
      cond_both (nat_le 64 (length W.table)) _ _ IsItsOwn (λ _. own_none Reply.TableFull)
      (λ _. cond_both (nat_lt 64 (length m.requests)) _ _ IsItsOwn (λ _. own_none (Reply.Refused TooManyRequests))
      (λ _. cond_both (has_file m && not (is_known_checksum m.checksum_type)) _ _ IsItsOwn (λ _. own_new (Ended 11) 0 [] 0 0 (Reply.Faulted 11))
      (λ _. own_judged (verdict W.config.prefixes W.filestore (leases_of W.table) (spare_blocks W) (proposal_of W.config m)))))

  own_came : IsItsOwn (next W (MetadataCame h m))
  own_came =
      cond_both (h.destination == W.config.entity) (metadata_came W h m (entry_of W (id_of h))) _ IsItsOwn
      (λ _. subst (λ (o : Option Entry). IsItsOwn (metadata_came W h m o)) (sym none) own_metadata) (λ _. own_none Reply.NotForUs)

own_event : LowerLaws → (W : World) (event : Event) (e : Entry) → Sound W → entry_of W (about event) ≡ None → entry_of (next W event).0 (about event) ≡ Some e →
    event ≡ MetadataCame e.header e.metadata
own_event laws W (MetadataCame h m) e s none now = own_came W h m e none now
own_event laws W (DataCame h piece) e s none now = absurd (none-some e (sym (only_metadata_adds laws W (DataCame h piece) (id_of h) s refl none) ∙ now))
own_event laws W (EofCame h eof) e s none now = absurd (none-some e (sym (only_metadata_adds laws W (EofCame h eof) (id_of h) s refl none) ∙ now))
own_event laws W (Step id) e s none now = absurd (none-some e (sym (only_metadata_adds laws W (Step id) id s refl none) ∙ now))
own_event laws W (Cancel id) e s none now = absurd (none-some e (sym (only_metadata_adds laws W (Cancel id) id s refl none) ∙ now))
own_event laws W (Check id) e s none now = absurd (none-some e (sym (only_metadata_adds laws W (Check id) id s refl none) ∙ now))
own_event laws W (Take id) e s none now = absurd (none-some e (sym (only_metadata_adds laws W (Take id) id s refl none) ∙ now))

pub metadata_adds_its_own : LowerLaws → MetadataAddsItsOwn
metadata_adds_its_own laws W event id e s none now = elim (same_or_not id (about event)) [
  | inl own ↦ own_event laws W event e s (sym (ap (entry_of W) own) ∙ none) (sym (ap (entry_of (next W event).0) own) ∙ now)
  | inr ne ↦ absurd (none-some e (sym (next_others laws W s event id ne ∙ none) ∙ now))
]

-- what is taken out --------------------------------------------------------------------

is_other : (event : Event) → event ≢ Take (about event) → IsFalse (is_take event)
is_other (MetadataCame h m) ne = refl
is_other (DataCame h piece) ne = refl
is_other (EofCame h eof) ne = refl
is_other (Step id) ne = refl
is_other (Cancel id) ne = refl
is_other (Check id) ne = refl
is_other (Take id) ne = absurd (ne refl)

stays : LowerLaws → (W : World) (event : Event) → Sound W → IsFalse (is_take event) → (o : Option Entry) → entry_of W (about event) ≡ o → IsSome o →
    IsSome (entry_of (next W event).0 (about event))
stays laws W event s other None found there = absurd cc
stays laws W event s other (Some e) found there = ap is_some (moved_here laws W s event e found (moves_on laws W s event e other found))

pub only_take_removes : LowerLaws → OnlyTakeRemoves
only_take_removes laws W event id s other there = elim (same_or_not id (about event)) [
  | inl own ↦
      let not_take : IsFalse (is_take event) = is_other event (λ q. other (q ∙ ap (λ (x : TransactionId). Take x) (sym own))) in
      let before : IsSome (entry_of W (about event)) = sym (ap (λ (x : TransactionId). is_some (entry_of W x)) own) ∙ there in
      subst (λ (x : TransactionId). IsSome (entry_of (next W event).0 x)) (sym own) (stays laws W event s not_take (entry_of W (about event)) refl before)
  | inr ne ↦ ap is_some (next_others laws W s event id ne) ∙ there
]

gone : (o : Option Entry) → ((e : Entry) → o ≡ Some e → ⊥) → o ≡ None
gone None none = refl
gone (Some e) none = absurd (none e refl)

pub take_removes : LowerLaws → TakeRemoves
take_removes laws W id e s found over =
    let V = record W { table = remove W.table (index_of W id) } in
    ap (λ (o : Option Entry). entry_of (taken_out W (index_of W id) o).0 id) found
    ∙ ap (λ (a : World × Reply). entry_of a.0 id) (cond-false (is_live e.phase) (W, Reply.Idle) (V, Reply.Taken (outcome_of e)) over)
    ∙ gone (entry_of V id) (λ now there. gone_unknown laws W s id e now found there)

pub take_keeps : TakeKeeps
take_keeps W id e found live =
    let V = record W { table = remove W.table (index_of W id) } in
    ap (λ (o : Option Entry). (taken_out W (index_of W id) o).0) found
    ∙ ap (λ (a : World × Reply). a.0) (cond-true (is_live e.phase) (W, Reply.Idle) (V, Reply.Taken (outcome_of e)) live)

pub other_entries_stay : LowerLaws → OtherEntriesStay
other_entries_stay laws W event id s ne = next_others laws W s event id ne
