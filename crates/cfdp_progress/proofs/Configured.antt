-- No event changes the core's configuration.
use Rattle.std.specs.Prelude.{not, ◌&&◌, ◌||◌, ◌==◌, nat_le, nat_lt}
use Rattle.std.proofs.Common.{◌≡◌, ℕ, ◌+◌, List, [], ◌∷◌, length, drop, Option, Some, None, refl, ◌∙◌}
use Rattle.std.proofs.lemmas.Bool.{cond_both}
use Rattle.cfdp_actions.specs.Actions.{Item, succeeded}
use Rattle.cfdp_pdus.specs.Values.{MetadataFields, FileDataFields}
use Rattle.cfdp_pdus.specs.declared.header.Header.{Header}
use Rattle.cfdp_pdus.specs.declared.eof.Eof.{Eof}
use Rattle.cfdp_verifier.specs.Verdict.{Verdict, Refuse, Grant, verdict}
use Rattle.cfdp_transactions.specs.Config.{Config}
use Rattle.cfdp_transactions.specs.Received.{kept_with, pieces, is_whole}
use Rattle.cfdp_transactions.specs.declared.phase.Phase.{Phase}
use Rattle.cfdp_transactions.specs.declared.phase.Phase.TheVariants.{Receiving, Awaiting, Executing, Refused, Done, Ended}
use Rattle.cfdp_transactions.specs.Entry.{Entry, id_of, is_live, is_receiving, takes_data, has_file}
use Rattle.cfdp_transactions.specs.declared.event.Event.{Event}
use Rattle.cfdp_transactions.specs.declared.reply.Reply.{Reply}
use Rattle.cfdp_transactions.specs.declared.event.Event.TheVariants.{Metadata as MetadataCame, Data as DataCame, Eof as EofCame, Step, Cancel, Check, Take}
use Rattle.cfdp_transactions.specs.World.{World, bound, spare_blocks, leases_of, index_of, entry_of}
use Rattle.cfdp_transactions.specs.Admission.{judged, is_known_checksum, metadata_came, proposal_of}
use Rattle.cfdp_transactions.specs.Delivery.{is_right_checksum, whole, limit, storing, stores, after_eof, stored, data_came, eof_came, check_at, checked}
use Rattle.cfdp_transactions.specs.Execution.{step_at, step_in, stepped, act_now}
use Rattle.cfdp_transactions.specs.Ending.{cancelled, taken_out}
use Rattle.cfdp_transactions.specs.Next.{for_us, next, run}

abbrev Same : Config → World × Reply → Type 0
Same c a = a.0.config ≡ c

judged_same : (W : World) (h : Header) (m : MetadataFields) (v : Verdict) → Same W.config (judged W h m v)
judged_same W h m (Refuse r) = refl
judged_same W h m (Grant items blocks steps) = refl

metadata_same : (W : World) (h : Header) (m : MetadataFields) (o : Option Entry) → Same W.config (metadata_came W h m o)
metadata_same W h m (Some e) = refl
metadata_same W h m None =
    let S = Same W.config in
    cond_both (nat_le 64 (length W.table)) _ _ S (λ _. refl)
    (λ _. cond_both (nat_lt 64 (length m.requests)) _ _ S (λ _. refl)
    (λ _. cond_both (has_file m && not (is_known_checksum m.checksum_type)) _ _ S (λ _. refl)
    (λ _. judged_same W h m (verdict W.config.prefixes W.filestore (leases_of W.table) (spare_blocks W) (proposal_of W.config m)))))

whole_same : (W : World) (k : ℕ) (e : Entry) (sum : ℕ) → Same W.config (whole W k e sum)
whole_same W k e sum = cond_both (is_right_checksum e sum) _ _ (Same W.config) (λ _. refl) (λ _. refl)

after_eof_same : (W : World) (k : ℕ) (e : Entry) (eof : Option Eof) → Same W.config (after_eof eof W k e)
after_eof_same W k e None = refl
after_eof_same W k e (Some eof) = cond_both (is_whole eof.size e.received) _ _ (Same W.config) (λ _. whole_same W k e eof.checksum) (λ _. refl)

stored_same : (phase : Phase) (W : World) (k : ℕ) (e : Entry) → Same W.config (stored phase W k e)
stored_same (Awaiting checks) W k e = after_eof_same W k e e.eof
stored_same Receiving W k e = refl
stored_same (Executing next) W k e = refl
stored_same Refused W k e = refl
stored_same Done W k e = refl
stored_same (Ended condition) W k e = refl

data_same : (W : World) (k : ℕ) (piece : FileDataFields) (o : Option Entry) → Same W.config (data_came W k piece o)
data_same W k piece None = refl
data_same W k piece (Some e) =
    let S = Same W.config in
    cond_both (takes_data e.phase) _ _ S
    (λ _. cond_both (length piece.octets == 0) _ _ S (λ _. refl)
    (λ _. cond_both (nat_lt (limit e.phase W.config e) (piece.offset + length piece.octets)) _ _ S (λ _. refl)
    (λ _. cond_both (nat_lt 32 (pieces (kept_with e.received piece.offset piece.octets))) _ _ S (λ _. refl)
    (λ _. stored_same e.phase (stores W k e (kept_with e.received piece.offset piece.octets)) k
    (storing W.filestore e (kept_with e.received piece.offset piece.octets))))))
    (λ _. refl)

eof_same : (W : World) (k : ℕ) (eof : Eof) (o : Option Entry) → Same W.config (eof_came W k eof o)
eof_same W k eof None = refl
eof_same W k eof (Some e) =
    let S = Same W.config in
    cond_both (not (is_live e.phase)) _ _ S (λ _. refl)
    (λ _. cond_both (not (eof.condition == 0)) _ _ S (λ _. refl)
    (λ _. cond_both (not (is_receiving e.phase)) _ _ S (λ _. refl)
    (λ _. cond_both (length e.items == 0) _ _ S (λ _. refl)
    (λ _. cond_both (not (has_file e.metadata)) _ _ S (λ _. refl)
    (λ _. cond_both (nat_lt (bound W.config e.metadata) eof.size || nat_lt eof.size (length e.received)) _ _ S (λ _. refl)
    (λ _. cond_both (not (is_whole eof.size e.received)) _ _ S (λ _. refl)
    (λ _. whole_same W k e eof.checksum)))))))

check_same : (phase : Phase) (W : World) (k : ℕ) (e : Entry) → Same W.config (check_at phase W k e)
check_same (Awaiting checks) W k e = cond_both (nat_le W.config.checks (checks + 1)) _ _ (Same W.config) (λ _. refl) (λ _. refl)
check_same Receiving W k e = refl
check_same (Executing next) W k e = refl
check_same Refused W k e = refl
check_same Done W k e = refl
check_same (Ended condition) W k e = refl

checked_same : (W : World) (k : ℕ) (o : Option Entry) → Same W.config (checked W k o)
checked_same W k None = refl
checked_same W k (Some e) = check_same e.phase W k e

step_at_same : (W : World) (k : ℕ) (e : Entry) (n : ℕ) (items : List Item) → Same W.config (step_at W k e n items)
step_at_same W k e n [] = refl
step_at_same W k e n (item ∷ items) = cond_both (succeeded (act_now W e item).answer) _ _ (Same W.config) (λ _. refl) (λ _. refl)

step_same : (phase : Phase) (W : World) (k : ℕ) (e : Entry) → Same W.config (step_in phase W k e)
step_same (Executing n) W k e = step_at_same W k e n (drop n e.items)
step_same Receiving W k e = refl
step_same (Awaiting checks) W k e = refl
step_same Refused W k e = refl
step_same Done W k e = refl
step_same (Ended condition) W k e = refl

stepped_same : (W : World) (k : ℕ) (o : Option Entry) → Same W.config (stepped W k o)
stepped_same W k None = refl
stepped_same W k (Some e) = step_same e.phase W k e

cancelled_same : (W : World) (k : ℕ) (o : Option Entry) → Same W.config (cancelled W k o)
cancelled_same W k None = refl
cancelled_same W k (Some e) = cond_both (is_live e.phase) _ _ (Same W.config) (λ _. refl) (λ _. refl)

taken_same : (W : World) (k : ℕ) (o : Option Entry) → Same W.config (taken_out W k o)
taken_same W k None = refl
taken_same W k (Some e) = cond_both (is_live e.phase) _ _ (Same W.config) (λ _. refl) (λ _. refl)

ours_same : (W : World) (h : Header) (answer : World × Reply) → Same W.config answer → Same W.config (for_us W h answer)
ours_same W h answer same = cond_both (h.destination == W.config.entity) answer (W, Reply.NotForUs) (Same W.config) (λ _. same) (λ _. refl)

pub next_config : (W : World) (event : Event) → (next W event).0.config ≡ W.config
next_config W (MetadataCame h m) = ours_same W h _ (metadata_same W h m (entry_of W (id_of h)))
next_config W (DataCame h piece) = ours_same W h _ (data_same W (index_of W (id_of h)) piece (entry_of W (id_of h)))
next_config W (EofCame h eof) = ours_same W h _ (eof_same W (index_of W (id_of h)) eof (entry_of W (id_of h)))
next_config W (Step id) = stepped_same W (index_of W id) (entry_of W id)
next_config W (Cancel id) = cancelled_same W (index_of W id) (entry_of W id)
next_config W (Check id) = checked_same W (index_of W id) (entry_of W id)
next_config W (Take id) = taken_same W (index_of W id) (entry_of W id)

pub run_config : (W : World) (events : List Event) → (run W events).config ≡ W.config
run_config W [] = refl
run_config W (v ∷ vs) = run_config (next W v).0 vs ∙ next_config W v
