-- No event but a step changes what is in the filestore.
use Rattle.cfdp_actions.specs.Filestore.{Filestore}
use Rattle.cfdp_transactions.specs.Beside.{is_step, OnlyStepsChange}
use Rattle.std.proofs.Common.{◌≡◌, ℕ, ◌+◌, length, refl}
use Rattle.std.specs.Prelude.{not, ◌&&◌, ◌||◌, ◌==◌, nat_le, nat_lt, Option, Some, None, IsFalse}
use Rattle.std.proofs.lemmas.Bool.{cond_both}
use Rattle.cfdp_pdus.specs.Values.{MetadataFields, FileDataFields}
use Rattle.cfdp_pdus.specs.declared.header.Header.{Header}
use Rattle.cfdp_pdus.specs.declared.eof.Eof.{Eof}
use Rattle.cfdp_verifier.specs.Verdict.{Verdict, Refuse, Grant, verdict}
use Rattle.cfdp_transactions.specs.Received.{kept_with, pieces, is_whole}
use Rattle.cfdp_transactions.specs.Entry.{Phase, Receiving, Awaiting, Executing, Refused, Done, Ended, Entry, id_of, is_live, is_receiving, takes_data, has_file}
use Rattle.cfdp_transactions.specs.Events.{Event, MetadataCame, DataCame, EofCame, Step, Cancel, Check, Take, Reply}
use Rattle.cfdp_transactions.specs.World.{World, bound, spare_blocks, leases_of, index_of, entry_of}
use Rattle.cfdp_transactions.specs.Admission.{judged, is_known_checksum, metadata_came, proposal_of}
use Rattle.cfdp_transactions.specs.Delivery.{is_right_checksum, whole, limit, storing, stores, after_eof, stored, data_came, eof_came, check_at, checked}
use Rattle.cfdp_transactions.specs.Ending.{cancelled, taken_out}
use Rattle.cfdp_transactions.specs.Next.{for_us, next}

record Stays (F : Filestore) (a : World × Reply) : Type 0 where
  pub stays : a.0.filestore.nodes ≡ F.nodes

judged_stays : (W : World) (h : Header) (m : MetadataFields) (v : Verdict) → (Stays W.filestore) (judged W h m v)
judged_stays W h m (Refuse r) = record { stays = refl }
judged_stays W h m (Grant items blocks steps) = record { stays = refl }

metadata_stays : (W : World) (h : Header) (m : MetadataFields) (o : Option Entry) → (Stays W.filestore) (metadata_came W h m o)
metadata_stays W h m (Some e) = record { stays = refl }
metadata_stays W h m None =
    cond_both (nat_le 64 (length W.table)) _ _ (Stays W.filestore) (λ _. record { stays = refl })
    (λ _. cond_both (nat_lt 64 (length m.requests)) _ _ (Stays W.filestore) (λ _. record { stays = refl })
    (λ _. cond_both (has_file m && not (is_known_checksum m.checksum_type)) _ _ (Stays W.filestore) (λ _. record { stays = refl })
    (λ _. judged_stays W h m (verdict W.config.prefixes W.filestore (leases_of W.table) (spare_blocks W) (proposal_of W.config m)))))

whole_stays : (W : World) (k : ℕ) (e : Entry) (sum : ℕ) → (Stays W.filestore) (whole W k e sum)
whole_stays W k e sum = cond_both (is_right_checksum e sum) _ _ (Stays W.filestore) (λ _. record { stays = refl }) (λ _. record { stays = refl })

after_eof_stays : (W : World) (k : ℕ) (e : Entry) (eof : Option Eof) → (Stays W.filestore) (after_eof eof W k e)
after_eof_stays W k e None = record { stays = refl }
after_eof_stays W k e (Some eof) = cond_both (is_whole eof.size e.received) _ _ (Stays W.filestore) (λ _. whole_stays W k e eof.checksum)
    (λ _. record { stays = refl })

stored_stays : (phase : Phase) (W : World) (k : ℕ) (e : Entry) → (Stays W.filestore) (stored phase W k e)
stored_stays (Awaiting checks) W k e = after_eof_stays W k e e.eof
stored_stays Receiving W k e = record { stays = refl }
stored_stays (Executing next) W k e = record { stays = refl }
stored_stays Refused W k e = record { stays = refl }
stored_stays Done W k e = record { stays = refl }
stored_stays (Ended condition) W k e = record { stays = refl }

data_stays : (W : World) (k : ℕ) (piece : FileDataFields) (o : Option Entry) → (Stays W.filestore) (data_came W k piece o)
data_stays W k piece None = record { stays = refl }
data_stays W k piece (Some e) =
    cond_both (takes_data e.phase) _ _ (Stays W.filestore)
    (λ _. cond_both (length piece.octets == 0) _ _ (Stays W.filestore) (λ _. record { stays = refl })
    (λ _. cond_both (nat_lt (limit e.phase W.config e) (piece.offset + length piece.octets)) _ _ (Stays W.filestore) (λ _. record { stays = refl })
    (λ _. cond_both (nat_lt 32 (pieces (kept_with e.received piece.offset piece.octets))) _ _ (Stays W.filestore) (λ _. record { stays = refl })
    (λ _. record {
      stays = (stored_stays e.phase (stores W k e (kept_with e.received piece.offset piece.octets)) k
          (storing W.filestore e (kept_with e.received piece.offset piece.octets))).stays;
    }))))
    (λ _. record { stays = refl })

eof_stays : (W : World) (k : ℕ) (eof : Eof) (o : Option Entry) → (Stays W.filestore) (eof_came W k eof o)
eof_stays W k eof None = record { stays = refl }
eof_stays W k eof (Some e) =
    cond_both (not (is_live e.phase)) _ _ (Stays W.filestore) (λ _. record { stays = refl })
    (λ _. cond_both (not (eof.condition == 0)) _ _ (Stays W.filestore) (λ _. record { stays = refl })
    (λ _. cond_both (not (is_receiving e.phase)) _ _ (Stays W.filestore) (λ _. record { stays = refl })
    (λ _. cond_both (length e.items == 0) _ _ (Stays W.filestore) (λ _. record { stays = refl })
    (λ _. cond_both (not (has_file e.metadata)) _ _ (Stays W.filestore) (λ _. record { stays = refl })
    (λ _. cond_both (nat_lt (bound W.config e.metadata) eof.size || nat_lt eof.size (length e.received)) _ _ (Stays W.filestore) (λ _. record { stays = refl })
    (λ _. cond_both (not (is_whole eof.size e.received)) _ _ (Stays W.filestore) (λ _. record { stays = refl })
    (λ _. whole_stays W k e eof.checksum)))))))

check_stays : (phase : Phase) (W : World) (k : ℕ) (e : Entry) → (Stays W.filestore) (check_at phase W k e)
check_stays (Awaiting checks) W k e = cond_both (nat_le W.config.checks (checks + 1)) _ _ (Stays W.filestore) (λ _. record { stays = refl })
    (λ _. record { stays = refl })
check_stays Receiving W k e = record { stays = refl }
check_stays (Executing next) W k e = record { stays = refl }
check_stays Refused W k e = record { stays = refl }
check_stays Done W k e = record { stays = refl }
check_stays (Ended condition) W k e = record { stays = refl }

checked_stays : (W : World) (k : ℕ) (o : Option Entry) → (Stays W.filestore) (checked W k o)
checked_stays W k None = record { stays = refl }
checked_stays W k (Some e) = check_stays e.phase W k e

cancelled_stays : (W : World) (k : ℕ) (o : Option Entry) → (Stays W.filestore) (cancelled W k o)
cancelled_stays W k None = record { stays = refl }
cancelled_stays W k (Some e) = cond_both (is_live e.phase) _ _ (Stays W.filestore) (λ _. record { stays = refl }) (λ _. record { stays = refl })

taken_stays : (W : World) (k : ℕ) (o : Option Entry) → (Stays W.filestore) (taken_out W k o)
taken_stays W k None = record { stays = refl }
taken_stays W k (Some e) = cond_both (is_live e.phase) _ _ (Stays W.filestore) (λ _. record { stays = refl }) (λ _. record { stays = refl })

ours_stays : (W : World) (h : Header) (answer : World × Reply) → Stays W.filestore answer → Stays W.filestore (for_us W h answer)
ours_stays W h answer stays = cond_both (h.destination == W.config.entity) answer (W, Reply.NotForUs) (Stays W.filestore) (λ _. stays)
    (λ _. record { stays = refl })

next_stays : (W : World) (event : Event) → IsFalse (is_step event) → (Stays W.filestore) (next W event)
next_stays W (MetadataCame h m) other = ours_stays W h _ (metadata_stays W h m (entry_of W (id_of h)))
next_stays W (DataCame h piece) other = ours_stays W h _ (data_stays W (index_of W (id_of h)) piece (entry_of W (id_of h)))
next_stays W (EofCame h eof) other = ours_stays W h _ (eof_stays W (index_of W (id_of h)) eof (entry_of W (id_of h)))
next_stays W (Step id) other = absurd cc
next_stays W (Cancel id) other = cancelled_stays W (index_of W id) (entry_of W id)
next_stays W (Check id) other = checked_stays W (index_of W id) (entry_of W id)
next_stays W (Take id) other = taken_stays W (index_of W id) (entry_of W id)

pub only_steps_change : OnlyStepsChange
only_steps_change W event other = (next_stays W event other).stays
