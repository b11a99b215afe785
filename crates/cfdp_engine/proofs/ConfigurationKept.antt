-- No event changes the configuration, and 'journal full' is no reply to one.
use Rattle.std.proofs.Common.{◌≡◌, ℕ, ◌+◌, List, [], ◌∷◌, length, drop, refl}
use Rattle.std.specs.Prelude.{Bool, true, false, not, ◌&&◌, ◌||◌, ◌==◌, nat_le, nat_lt, Option, Some, None, IsFalse}
use Rattle.std.proofs.lemmas.Bool.{cond_both}
use Rattle.cfdp_actions.specs.Actions.{Item, Answer, succeeded}
use Rattle.cfdp_pdus.specs.Values.{MetadataFields, FileDataFields}
use Rattle.cfdp_pdus.specs.declared.header.Header.{Header}
use Rattle.cfdp_pdus.specs.declared.eof.Eof.{Eof}
use Rattle.cfdp_verifier.specs.Verdict.{Verdict, Refuse, Grant, verdict}
use Rattle.cfdp_transactions.specs.Config.{Config}
use Rattle.cfdp_transactions.specs.Received.{kept_with, pieces, is_whole}
use Rattle.cfdp_transactions.specs.declared.phase.Phase.{Phase}
use Rattle.cfdp_transactions.specs.declared.phase.Phase.TheVariants.{Receiving, Awaiting, Executing, Refused, Done, Ended}
use Rattle.cfdp_transactions.specs.Entry.{Entry, id_of, is_live, is_receiving, takes_data, has_file}
use Rattle.cfdp_transactions.specs.declared.event.Event.{Event}
use Rattle.cfdp_transactions.specs.declared.reply.Reply.{Reply}
use Rattle.cfdp_transactions.specs.declared.event.Event.TheVariants.{Metadata as MetadataCame, Data as DataCame, Eof as EofCame, Step, Cancel, Check, Take}
use Rattle.cfdp_transactions.specs.World.{World, bound, spare_blocks, leases_of, index_of, entry_of}
use Rattle.cfdp_transactions.specs.Admission.{judged, is_known_checksum, metadata_came, proposal_of}
use Rattle.cfdp_transactions.specs.Delivery.{is_right_checksum, whole, limit, storing, stores, after_eof, stored, data_came, eof_came, check_at, checked}
use Rattle.cfdp_transactions.specs.Execution.{replied, step_at, step_in, stepped, act_now}
use Rattle.cfdp_transactions.specs.Ending.{cancelled, taken_out}
use Rattle.cfdp_transactions.specs.Next.{for_us, next}

abbrev pub is_journal_full : Reply → Bool
is_journal_full Reply.JournalFull = true
is_journal_full reply = false

pub record IsKeeping (c : Config) (a : World × Reply) : Type 0 where
  pub config : a.0.config ≡ c
  pub reply : IsFalse (is_journal_full a.1)

judged_keeps : (W : World) (h : Header) (m : MetadataFields) (v : Verdict) → IsKeeping W.config (judged W h m v)
judged_keeps W h m (Refuse r) = record { config = refl; reply = refl }
judged_keeps W h m (Grant items blocks steps) = record { config = refl; reply = refl }

metadata_keeps : (W : World) (h : Header) (m : MetadataFields) (o : Option Entry) → IsKeeping W.config (metadata_came W h m o)
metadata_keeps W h m (Some e) = record { config = refl; reply = refl }
metadata_keeps W h m None =
    let K = IsKeeping W.config in
    cond_both (nat_le 64 (length W.table)) _ _ K (λ _. record { config = refl; reply = refl })
    (λ _. cond_both (nat_lt 64 (length m.requests)) _ _ K (λ _. record { config = refl; reply = refl })
    (λ _. cond_both (has_file m && not (is_known_checksum m.checksum_type)) _ _ K (λ _. record { config = refl; reply = refl })
    (λ _. judged_keeps W h m (verdict W.config.prefixes W.filestore (leases_of W.table) (spare_blocks W) (proposal_of W.config m)))))

whole_keeps : (W : World) (k : ℕ) (e : Entry) (sum : ℕ) → IsKeeping W.config (whole W k e sum)
whole_keeps W k e sum = cond_both (is_right_checksum e sum) _ _ (IsKeeping W.config) (λ _. record { config = refl; reply = refl })
    (λ _. record { config = refl; reply = refl })

after_eof_keeps : (W : World) (k : ℕ) (e : Entry) (eof : Option Eof) → IsKeeping W.config (after_eof eof W k e)
after_eof_keeps W k e None = record { config = refl; reply = refl }
after_eof_keeps W k e (Some eof) = cond_both (is_whole eof.size e.received) _ _ (IsKeeping W.config) (λ _. whole_keeps W k e eof.checksum)
    (λ _. record { config = refl; reply = refl })

stored_keeps : (phase : Phase) (W : World) (k : ℕ) (e : Entry) → IsKeeping W.config (stored phase W k e)
stored_keeps (Awaiting checks) W k e = after_eof_keeps W k e e.eof
stored_keeps Receiving W k e = record { config = refl; reply = refl }
stored_keeps (Executing next) W k e = record { config = refl; reply = refl }
stored_keeps Refused W k e = record { config = refl; reply = refl }
stored_keeps Done W k e = record { config = refl; reply = refl }
stored_keeps (Ended condition) W k e = record { config = refl; reply = refl }

data_keeps : (W : World) (k : ℕ) (piece : FileDataFields) (o : Option Entry) → IsKeeping W.config (data_came W k piece o)
data_keeps W k piece None = record { config = refl; reply = refl }
data_keeps W k piece (Some e) =
    let K = IsKeeping W.config in
    cond_both (takes_data e.phase) _ _ K
    (λ _. cond_both (length piece.octets == 0) _ _ K (λ _. record { config = refl; reply = refl })
    (λ _. cond_both (nat_lt (limit e.phase W.config e) (piece.offset + length piece.octets)) _ _ K (λ _. record { config = refl; reply = refl })
    (λ _. cond_both (nat_lt 32 (pieces (kept_with e.received piece.offset piece.octets))) _ _ K (λ _. record { config = refl; reply = refl })
    (λ _. stored_keeps e.phase (stores W k e (kept_with e.received piece.offset piece.octets)) k
    (storing W.filestore e (kept_with e.received piece.offset piece.octets))))))
    (λ _. record { config = refl; reply = refl })

eof_keeps : (W : World) (k : ℕ) (eof : Eof) (o : Option Entry) → IsKeeping W.config (eof_came W k eof o)
eof_keeps W k eof None = record { config = refl; reply = refl }
eof_keeps W k eof (Some e) =
    let K = IsKeeping W.config in
    cond_both (not (is_live e.phase)) _ _ K (λ _. record { config = refl; reply = refl })
    (λ _. cond_both (not (eof.condition == 0)) _ _ K (λ _. record { config = refl; reply = refl })
    (λ _. cond_both (not (is_receiving e.phase)) _ _ K (λ _. record { config = refl; reply = refl })
    (λ _. cond_both (length e.items == 0) _ _ K (λ _. record { config = refl; reply = refl })
    (λ _. cond_both (not (has_file e.metadata)) _ _ K (λ _. record { config = refl; reply = refl })
    (λ _. cond_both (nat_lt (bound W.config e.metadata) eof.size || nat_lt eof.size (length e.received)) _ _ K (λ _. record { config = refl; reply = refl })
    (λ _. cond_both (not (is_whole eof.size e.received)) _ _ K (λ _. record { config = refl; reply = refl })
    (λ _. whole_keeps W k e eof.checksum)))))))

check_keeps : (phase : Phase) (W : World) (k : ℕ) (e : Entry) → IsKeeping W.config (check_at phase W k e)
check_keeps (Awaiting checks) W k e = cond_both (nat_le W.config.checks (checks + 1)) _ _ (IsKeeping W.config) (λ _. record { config = refl; reply = refl })
    (λ _. record { config = refl; reply = refl })
check_keeps Receiving W k e = record { config = refl; reply = refl }
check_keeps (Executing next) W k e = record { config = refl; reply = refl }
check_keeps Refused W k e = record { config = refl; reply = refl }
check_keeps Done W k e = record { config = refl; reply = refl }
check_keeps (Ended condition) W k e = record { config = refl; reply = refl }

checked_keeps : (W : World) (k : ℕ) (o : Option Entry) → IsKeeping W.config (checked W k o)
checked_keeps W k None = record { config = refl; reply = refl }
checked_keeps W k (Some e) = check_keeps e.phase W k e

replied_keeps : (answer : Answer) → IsFalse (is_journal_full (replied answer))
replied_keeps (Answer.Performed status) = refl
replied_keeps Answer.Installed = refl
replied_keeps Answer.NotInstalled = refl

step_at_keeps : (W : World) (k : ℕ) (e : Entry) (n : ℕ) (items : List Item) → IsKeeping W.config (step_at W k e n items)
step_at_keeps W k e n [] = record { config = refl; reply = refl }
step_at_keeps W k e n (item ∷ items) =
    let reply = replied_keeps (act_now W e item).answer in
    cond_both (succeeded (act_now W e item).answer) _ _ (IsKeeping W.config) (λ _. record { config = refl; reply = reply })
    (λ _. record { config = refl; reply = reply })

step_keeps : (phase : Phase) (W : World) (k : ℕ) (e : Entry) → IsKeeping W.config (step_in phase W k e)
step_keeps (Executing n) W k e = step_at_keeps W k e n (drop n e.items)
step_keeps Receiving W k e = record { config = refl; reply = refl }
step_keeps (Awaiting checks) W k e = record { config = refl; reply = refl }
step_keeps Refused W k e = record { config = refl; reply = refl }
step_keeps Done W k e = record { config = refl; reply = refl }
step_keeps (Ended condition) W k e = record { config = refl; reply = refl }

stepped_keeps : (W : World) (k : ℕ) (o : Option Entry) → IsKeeping W.config (stepped W k o)
stepped_keeps W k None = record { config = refl; reply = refl }
stepped_keeps W k (Some e) = step_keeps e.phase W k e

cancelled_keeps : (W : World) (k : ℕ) (o : Option Entry) → IsKeeping W.config (cancelled W k o)
cancelled_keeps W k None = record { config = refl; reply = refl }
cancelled_keeps W k (Some e) = cond_both (is_live e.phase) _ _ (IsKeeping W.config) (λ _. record { config = refl; reply = refl })
    (λ _. record { config = refl; reply = refl })

taken_keeps : (W : World) (k : ℕ) (o : Option Entry) → IsKeeping W.config (taken_out W k o)
taken_keeps W k None = record { config = refl; reply = refl }
taken_keeps W k (Some e) = cond_both (is_live e.phase) _ _ (IsKeeping W.config) (λ _. record { config = refl; reply = refl })
    (λ _. record { config = refl; reply = refl })

ours_keeps : (W : World) (h : Header) (answer : World × Reply) → IsKeeping W.config answer → IsKeeping W.config (for_us W h answer)
ours_keeps W h answer keeps = cond_both (h.destination == W.config.entity) answer (W, Reply.NotForUs) (IsKeeping W.config) (λ _. keeps)
    (λ _. record { config = refl; reply = refl })

pub next_keeps : (W : World) (event : Event) → IsKeeping W.config (next W event)
next_keeps W (MetadataCame h m) = ours_keeps W h _ (metadata_keeps W h m (entry_of W (id_of h)))
next_keeps W (DataCame h piece) = ours_keeps W h _ (data_keeps W (index_of W (id_of h)) piece (entry_of W (id_of h)))
next_keeps W (EofCame h eof) = ours_keeps W h _ (eof_keeps W (index_of W (id_of h)) eof (entry_of W (id_of h)))
next_keeps W (Step id) = stepped_keeps W (index_of W id) (entry_of W id)
next_keeps W (Cancel id) = cancelled_keeps W (index_of W id) (entry_of W id)
next_keeps W (Check id) = checked_keeps W (index_of W id) (entry_of W id)
next_keeps W (Take id) = taken_keeps W (index_of W id) (entry_of W id)
