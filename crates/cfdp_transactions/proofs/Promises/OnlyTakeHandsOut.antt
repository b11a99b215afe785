-- No reply but that to a request for the outcome hands one out.
use Rattle.std.proofs.Common.{ℕ, ◌+◌, List, [], ◌∷◌, length, drop, refl, ap, sym, ◌∙◌}
use Rattle.std.specs.Prelude.{not, ◌&&◌, ◌||◌, ◌==◌, nat_le, nat_lt, Option, Some, None, IsFalse}
use Rattle.std.proofs.lemmas.Bool.{cond_both}
use Rattle.cfdp_actions.specs.Actions.{Item, Answer, succeeded}
use Rattle.cfdp_pdus.specs.Values.{MetadataFields, FileDataFields}
use Rattle.cfdp_pdus.specs.declared.header.Header.{Header}
use Rattle.cfdp_pdus.specs.declared.eof.Eof.{Eof}
use Rattle.cfdp_verifier.specs.Verdict.{Verdict, Refuse, Grant, verdict}
use Rattle.cfdp_transactions.specs.Received.{kept_with, pieces, is_whole}
use Rattle.cfdp_transactions.specs.Entry.{Phase, Receiving, Awaiting, Executing, Refused, Done, Ended, Entry, id_of, is_live, is_receiving, takes_data, has_file}
use Rattle.cfdp_transactions.specs.Events.{Event, MetadataCame, DataCame, EofCame, Step, Cancel, Check, Take, Reply, is_take, hands_out}
use Rattle.cfdp_transactions.specs.World.{World, bound, spare_blocks, leases_of, index_of, entry_of}
use Rattle.cfdp_transactions.specs.Admission.{judged, is_known_checksum, metadata_came, proposal_of}
use Rattle.cfdp_transactions.specs.Delivery.{is_right_checksum, whole, limit, storing, stores, after_eof, stored, data_came, eof_came, check_at, checked}
use Rattle.cfdp_transactions.specs.Execution.{replied, step_at, step_in, stepped, act_now}
use Rattle.cfdp_transactions.specs.Ending.{cancelled}
use Rattle.cfdp_transactions.specs.Next.{for_us, next}
use Rattle.cfdp_transactions.specs.Needs.{OnlyTakeHandsOut}

record IsPlain (a : World × Reply) : Type 0 where
  pub plain : IsFalse (hands_out a.1)

judged_plain : (W : World) (h : Header) (m : MetadataFields) (v : Verdict) → IsPlain (judged W h m v)
judged_plain W h m (Refuse r) = record { plain = refl }
judged_plain W h m (Grant items blocks steps) = record { plain = refl }

metadata_plain : (W : World) (h : Header) (m : MetadataFields) (o : Option Entry) → IsPlain (metadata_came W h m o)
metadata_plain W h m (Some e) = record { plain = refl }
metadata_plain W h m None =
    cond_both (nat_le 64 (length W.table)) _ _ IsPlain (λ _. record { plain = refl })
    (λ _. cond_both (nat_lt 64 (length m.requests)) _ _ IsPlain (λ _. record { plain = refl })
    (λ _. cond_both (has_file m && not (is_known_checksum m.checksum_type)) _ _ IsPlain (λ _. record { plain = refl })
    (λ _. judged_plain W h m (verdict W.config.prefixes W.filestore (leases_of W.table) (spare_blocks W) (proposal_of W.config m)))))

whole_plain : (W : World) (k : ℕ) (e : Entry) (sum : ℕ) → IsPlain (whole W k e sum)
whole_plain W k e sum = cond_both (is_right_checksum e sum) _ _ IsPlain (λ _. record { plain = refl }) (λ _. record { plain = refl })

after_eof_plain : (W : World) (k : ℕ) (e : Entry) (eof : Option Eof) → IsPlain (after_eof eof W k e)
after_eof_plain W k e None = record { plain = refl }
after_eof_plain W k e (Some eof) = cond_both (is_whole eof.size e.received) _ _ IsPlain (λ _. whole_plain W k e eof.checksum) (λ _. record { plain = refl })

stored_plain : (phase : Phase) (W : World) (k : ℕ) (e : Entry) → IsPlain (stored phase W k e)
stored_plain (Awaiting checks) W k e = after_eof_plain W k e e.eof
stored_plain Receiving W k e = record { plain = refl }
stored_plain (Executing next) W k e = record { plain = refl }
stored_plain Refused W k e = record { plain = refl }
stored_plain Done W k e = record { plain = refl }
stored_plain (Ended condition) W k e = record { plain = refl }

data_plain : (W : World) (k : ℕ) (piece : FileDataFields) (o : Option Entry) → IsPlain (data_came W k piece o)
data_plain W k piece None = record { plain = refl }
data_plain W k piece (Some e) =
    cond_both (takes_data e.phase) _ _ IsPlain
    (λ _. cond_both (length piece.octets == 0) _ _ IsPlain (λ _. record { plain = refl })
    (λ _. cond_both (nat_lt (limit e.phase W.config e) (piece.offset + length piece.octets)) _ _ IsPlain (λ _. record { plain = refl })
    (λ _. cond_both (nat_lt 32 (pieces (kept_with e.received piece.offset piece.octets))) _ _ IsPlain (λ _. record { plain = refl })
    (λ _. stored_plain e.phase (stores W k e (kept_with e.received piece.offset piece.octets)) k
    (storing W.filestore e (kept_with e.received piece.offset piece.octets))))))
    (λ _. record { plain = refl })

eof_plain : (W : World) (k : ℕ) (eof : Eof) (o : Option Entry) → IsPlain (eof_came W k eof o)
eof_plain W k eof None = record { plain = refl }
eof_plain W k eof (Some e) =
    cond_both (not (is_live e.phase)) _ _ IsPlain (λ _. record { plain = refl })
    (λ _. cond_both (not (eof.condition == 0)) _ _ IsPlain (λ _. record { plain = refl })
    (λ _. cond_both (not (is_receiving e.phase)) _ _ IsPlain (λ _. record { plain = refl })
    (λ _. cond_both (length e.items == 0) _ _ IsPlain (λ _. record { plain = refl })
    (λ _. cond_both (not (has_file e.metadata)) _ _ IsPlain (λ _. record { plain = refl })
    (λ _. cond_both (nat_lt (bound W.config e.metadata) eof.size || nat_lt eof.size (length e.received)) _ _ IsPlain (λ _. record { plain = refl })
    (λ _. cond_both (not (is_whole eof.size e.received)) _ _ IsPlain (λ _. record { plain = refl })
    (λ _. whole_plain W k e eof.checksum)))))))

check_plain : (phase : Phase) (W : World) (k : ℕ) (e : Entry) → IsPlain (check_at phase W k e)
check_plain (Awaiting checks) W k e = cond_both (nat_le W.config.checks (checks + 1)) _ _ IsPlain (λ _. record { plain = refl }) (λ _. record { plain = refl })
check_plain Receiving W k e = record { plain = refl }
check_plain (Executing next) W k e = record { plain = refl }
check_plain Refused W k e = record { plain = refl }
check_plain Done W k e = record { plain = refl }
check_plain (Ended condition) W k e = record { plain = refl }

checked_plain : (W : World) (k : ℕ) (o : Option Entry) → IsPlain (checked W k o)
checked_plain W k None = record { plain = refl }
checked_plain W k (Some e) = check_plain e.phase W k e

replied_plain : (answer : Answer) → IsFalse (hands_out (replied answer))
replied_plain (Answer.Performed status) = refl
replied_plain Answer.Installed = refl
replied_plain Answer.NotInstalled = refl

step_at_plain : (W : World) (k : ℕ) (e : Entry) (n : ℕ) (items : List Item) → IsPlain (step_at W k e n items)
step_at_plain W k e n [] = record { plain = refl }
step_at_plain W k e n (item ∷ items) =
    cond_both (succeeded (act_now W e item).answer) _ _ IsPlain (λ _. record { plain = replied_plain (act_now W e item).answer })
    (λ _. record { plain = replied_plain (act_now W e item).answer })

step_plain : (phase : Phase) (W : World) (k : ℕ) (e : Entry) → IsPlain (step_in phase W k e)
step_plain (Executing n) W k e = step_at_plain W k e n (drop n e.items)
step_plain Receiving W k e = record { plain = refl }
step_plain (Awaiting checks) W k e = record { plain = refl }
step_plain Refused W k e = record { plain = refl }
step_plain Done W k e = record { plain = refl }
step_plain (Ended condition) W k e = record { plain = refl }

stepped_plain : (W : World) (k : ℕ) (o : Option Entry) → IsPlain (stepped W k o)
stepped_plain W k None = record { plain = refl }
stepped_plain W k (Some e) = step_plain e.phase W k e

cancelled_plain : (W : World) (k : ℕ) (o : Option Entry) → IsPlain (cancelled W k o)
cancelled_plain W k None = record { plain = refl }
cancelled_plain W k (Some e) = cond_both (is_live e.phase) _ _ IsPlain (λ _. record { plain = refl }) (λ _. record { plain = refl })

ours_plain : (W : World) (h : Header) (answer : World × Reply) → IsPlain answer → IsPlain (for_us W h answer)
ours_plain W h answer plain = cond_both (h.destination == W.config.entity) answer (W, Reply.NotForUs) IsPlain (λ _. plain) (λ _. record { plain = refl })

next_plain : (W : World) (event : Event) → IsFalse (is_take event) → IsPlain (next W event)
next_plain W (MetadataCame h m) other = ours_plain W h _ (metadata_plain W h m (entry_of W (id_of h)))
next_plain W (DataCame h piece) other = ours_plain W h _ (data_plain W (index_of W (id_of h)) piece (entry_of W (id_of h)))
next_plain W (EofCame h eof) other = ours_plain W h _ (eof_plain W (index_of W (id_of h)) eof (entry_of W (id_of h)))
next_plain W (Step id) other = stepped_plain W (index_of W id) (entry_of W id)
next_plain W (Cancel id) other = cancelled_plain W (index_of W id) (entry_of W id)
next_plain W (Check id) other = checked_plain W (index_of W id) (entry_of W id)
next_plain W (Take id) other = absurd cc

pub only_take_hands_out : OnlyTakeHandsOut
only_take_hands_out W event Reply.Memory V follows other = refl
only_take_hands_out W event reply V follows other = ap (λ (a : World × Reply). hands_out a.1) (sym follows) ∙ (next_plain W event other).plain
