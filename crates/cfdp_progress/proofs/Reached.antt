-- What an entry in Awaiting is in every world that is reached: its EOF PDU came with a size that its file may have, and not all octets are there.
use Rattle.std.specs.Prelude.{not, ◌&&◌, ◌||◌, ◌==◌, if◌then◌else◌, nat_le, nat_lt, is_some, slice_get, slice_set}
use Rattle.std.proofs.Common.{◌≡◌, inl, inr, ℕ, suc, ◌+◌, ◌≤◌, Bool, true, false, List, [], ◌∷◌, length, drop, Option, Some, None, refl, sym, ap, subst, ◌∙◌}
use Rattle.std.proofs.lemmas.Bool.{cond_both, cond-true, cases_Bool, cases_lt, lt-ltb, not-true, both_ways}
use Rattle.std.proofs.lemmas.Option.{same_Some}
use Rattle.cfdp_status.specs.declared.transaction.TransactionId.{TransactionId}
use Rattle.cfdp_leases.specs.Leases.{is_same}
use Rattle.cfdp_actions.specs.Actions.{Item, succeeded}
use Rattle.cfdp_pdus.specs.Values.{MetadataFields, FileDataFields}
use Rattle.cfdp_pdus.specs.declared.eof.Eof.{Eof}
use Rattle.cfdp_pdus.specs.declared.header.Header.{Header}
use Rattle.cfdp_verifier.specs.Verdict.{Verdict, Refuse, Grant, verdict}
use Rattle.cfdp_sessions.specs.declared.session.Stage.TheVariants.{Waiting}
use Rattle.cfdp_transactions.specs.Admission.{judged, is_known_checksum, metadata_came, proposal_of, new_entry, refused_entry, with_new}
use Rattle.cfdp_transactions.specs.Config.{Config}
use Rattle.cfdp_transactions.specs.Delivery.{is_right_checksum, whole, turned, turns, limit, storing, stores, after_eof, stored, data_at, data_came, eof_came, check_at, checked}
use Rattle.cfdp_transactions.specs.Ending.{ended, ends, cancelled, taken_out}
use Rattle.cfdp_transactions.specs.Entries.{TakeRemoves}
use Rattle.cfdp_transactions.specs.Entry.{Entry, id_of, is_live, is_receiving, takes_data, has_file}
use Rattle.cfdp_transactions.specs.Entry as Entries
use Rattle.cfdp_transactions.specs.Events.{about}
use Rattle.cfdp_transactions.specs.Execution.{replied, phase_before, entry_after, entry_failed, step_at, step_in, stepped, act_now}
use Rattle.cfdp_transactions.specs.Headline.{NextIsSound, NextIsPromised}
use Rattle.cfdp_transactions.specs.Next.{next, run}
use Rattle.cfdp_transactions.specs.Received.{Received, kept_with, pieces, is_whole}
use Rattle.cfdp_transactions.specs.Sound.{Sound}
use Rattle.cfdp_transactions.specs.World.{World, bound, spare_blocks, leases_of, index_in, entry_of, index_of, change_at}
use Rattle.cfdp_transactions.specs.declared.event.Event.{Event}
use Rattle.cfdp_transactions.specs.declared.event.Event.TheVariants.{Metadata as MetadataCame, Data as DataCame, Eof as EofCame, Step, Cancel, Check, Take}
use Rattle.cfdp_transactions.specs.declared.phase.Phase.{Phase}
use Rattle.cfdp_transactions.specs.declared.phase.Phase.TheVariants.{Receiving, Awaiting, Executing, Refused, Done, Ended}
use Rattle.cfdp_transactions.specs.declared.reply.Reply.{Reply}
use Rattle.cfdp_transactions.proofs.Finding.{found_name as entry_name}
use Rattle.cfdp_transactions.proofs.Lookups.{append_own}
use Rattle.cfdp_transactions.proofs.Indexes.{set_set_same}
use Rattle.cfdp_receiver.specs.State.{begin}
use Rattle.cfdp_receiver.specs.Turning.{after_all, all_handed, is_known}
use Rattle.cfdp_receiver.specs.Laws.{knows, KnownIsEntry}
use Rattle.cfdp_receiver.proofs.HandedOn.{hands_on}
use Rattle.cfdp_progress.specs.Awaiting.{AwaitingAwaits}
use Rattle.cfdp_receiver.proofs.OthersStay.{other_than}
use Rattle.cfdp_progress.proofs.Configured.{next_config}
use Rattle.cfdp_progress.proofs.InAll.{known_stage}
use Rattle.cfdp_progress.proofs.PieceOfAwaiting.{replaces}
use Rattle.cfdp_leases.proofs.Admitted.{same_is}

-- an entry that waits for octets
record Lacks (c : Config) (e : Entry) : Type 0 where
  eof : Eof
  came : e.eof ≡ Some eof
  within : eof.size ≤ bound c e.metadata
  short : is_whole eof.size e.received ≡ false

abbrev If_waiting : Config → Entry → Type 0
If_waiting c e = (checks : ℕ) → e.phase ≡ Awaiting checks → Lacks c e

-- the entry of this name, if there is one
abbrev LacksAt : Config → World → TransactionId → Type 0
LacksAt c V id = (e : Entry) → entry_of V id ≡ Some e → If_waiting c e

abbrev AllLack : World → Type 0
AllLack W = (id : TransactionId) → LacksAt W.config W id

it_is : (c : Config) (V : World) (id : TransactionId) (new : Entry) → entry_of V id ≡ Some new → If_waiting c new → LacksAt c V id
it_is c V id new here lacks e found = subst (If_waiting c) (same_Some new e (sym here ∙ found)) lacks

-- nothing of this name
none_is : (c : Config) (V : World) (id : TransactionId) → entry_of V id ≡ None → LacksAt c V id
none_is c V id none e found = let never : None ≡ Some e = sym none ∙ found in absurd cc

put_is : (c : Config) (W V : World) (id : TransactionId) (e new : Entry) → entry_of W id ≡ Some e → Entries.name_of new ≡ Entries.name_of e →
    V.table ≡ slice_set W.table (index_of W id) new → If_waiting c new → LacksAt c V id
put_is c W V id e new here name table lacks = it_is c V id new (replaces W V id e new here (name ∙ entry_name W.table id e here) table) lacks

-- ---- by the event, for an entry that is there

abbrev OwnLacks : World → TransactionId → World × Reply → Type 0
OwnLacks W id a = LacksAt W.config a.0 id

ends_own : (W : World) (id : TransactionId) (e other : Entry) (condition : ℕ) (reply : Reply) → entry_of W id ≡ Some e →
    Entries.name_of other ≡ Entries.name_of e → OwnLacks W id (ends W (index_of W id) other condition, reply)
ends_own W id e other condition reply here name =
    put_is W.config W (ends W (index_of W id) other condition) id e (ended W.filestore other condition) here name refl (λ checks is. absurd cc)

turns_own : (W : World) (id : TransactionId) (e : Entry) (phase : Phase) (eof : Option Eof) (complete : Bool) (reply : Reply) → entry_of W id ≡ Some e →
    If_waiting W.config (turned e phase eof complete) →
    OwnLacks W id (turns W (index_of W id) e phase eof complete, reply)
turns_own W id e phase eof complete reply here lacks =
    put_is W.config W (turns W (index_of W id) e phase eof complete) id e (turned e phase eof complete) here refl refl lacks

-- in the world after its octets were stored
whole_own : (W V : World) (id : TransactionId) (e new : Entry) (sum : ℕ) → entry_of W id ≡ Some e → Entries.name_of new ≡ Entries.name_of e →
    V.table ≡ slice_set W.table (index_of W id) new → OwnLacks W id (whole V (index_of W id) new sum)
whole_own W V id e new sum here name table =
    let k = index_of W id in
    let right : Entry = turned new (Executing 0) new.eof true in
    let wrong : Entry = ended V.filestore new 5 in
    let again : (other : Entry) → slice_set V.table k other ≡ slice_set W.table k other =
    λ other. ap (λ (t : List Entry). slice_set t k other) table ∙ set_set_same W.table k new other in
    cond_both (is_right_checksum new sum) (turns V k new (Executing 0) new.eof true, _) (ends V k new 5, _) (OwnLacks W id)
    (λ r. put_is W.config W (turns V k new (Executing 0) new.eof true) id e right here name (again right) (λ checks is. absurd cc))
    (λ r. put_is W.config W (ends V k new 5) id e wrong here name (again wrong) (λ checks is. absurd cc))

-- with the entry as it is
whole_here : (W : World) (id : TransactionId) (e : Entry) (sum : ℕ) → entry_of W id ≡ Some e → OwnLacks W id (whole W (index_of W id) e sum)
whole_here W id e sum here =
    cond_both (is_right_checksum e sum) (turns W (index_of W id) e (Executing 0) e.eof true, _) (ends W (index_of W id) e 5, _) (OwnLacks W id)
    (λ r. turns_own W id e (Executing 0) e.eof true Reply.Complete here (λ checks is. absurd cc)) (λ r. ends_own W id e e 5 (Reply.Faulted 5) here refl)

-- an entry that waited, with what came
stores_own : (W : World) (id : TransactionId) (e : Entry) (received : Received) → entry_of W id ≡ Some e →
    If_waiting W.config (storing W.filestore e received) → OwnLacks W id (stores W (index_of W id) e received, Reply.Stored)
stores_own W id e received here lacks = put_is W.config W (stores W (index_of W id) e received) id e (storing W.filestore e received) here refl refl lacks

after_own : (W : World) (id : TransactionId) (e : Entry) (received : Received) (eof : Option Eof) → entry_of W id ≡ Some e → e.eof ≡ eof →
    If_waiting W.config e →
    OwnLacks W id (after_eof eof (stores W (index_of W id) e received) (index_of W id) (storing W.filestore e received))
after_own W id e received None here came lacks =
    stores_own W id e received here (λ checks is. let l = lacks checks is in let never : None ≡ Some l.eof = sym came ∙ l.came in absurd cc)
after_own W id e received (Some eof) here came lacks =
    let k = index_of W id in
    let V = stores W k e received in
    let new : Entry = storing W.filestore e received in
    cond_both (is_whole eof.size received) (whole V k new eof.checksum) (V, Reply.Stored) (OwnLacks W id)
    (λ w. whole_own W V id e new eof.checksum here refl refl)
    (λ short. stores_own W id e received here (λ checks is.
    let l = lacks checks is in
    let same : l.eof ≡ eof = same_Some l.eof eof (sym l.came ∙ came) in
    record { eof = eof; came = came; within = subst (λ (x : Eof). x.size ≤ bound W.config e.metadata) same l.within; short = short }))

stored_own : (W : World) (id : TransactionId) (e : Entry) (received : Received) (phase : Phase) → entry_of W id ≡ Some e → e.phase ≡ phase →
    If_waiting W.config e →
    OwnLacks W id (stored phase (stores W (index_of W id) e received) (index_of W id) (storing W.filestore e received))
stored_own W id e received (Awaiting checks) here is lacks = after_own W id e received e.eof here refl lacks
stored_own W id e received Receiving here is lacks =
    stores_own W id e received here (λ checks q. let never : Receiving ≡ Awaiting checks = sym is ∙ q in absurd cc)
stored_own W id e received (Executing n) here is lacks =
    stores_own W id e received here (λ checks q. let never : Executing n ≡ Awaiting checks = sym is ∙ q in absurd cc)
stored_own W id e received Refused here is lacks =
    stores_own W id e received here (λ checks q. let never : Refused ≡ Awaiting checks = sym is ∙ q in absurd cc)
stored_own W id e received Done here is lacks = stores_own W id e received here (λ checks q. let never : Done ≡ Awaiting checks = sym is ∙ q in absurd cc)
stored_own W id e received (Ended condition) here is lacks =
    stores_own W id e received here (λ checks q. let never : Ended condition ≡ Awaiting checks = sym is ∙ q in absurd cc)

data_own : (W : World) (id : TransactionId) (piece : FileDataFields) (o : Option Entry) → LacksAt W.config W id → entry_of W id ≡ o →
    OwnLacks W id (data_came W (index_of W id) piece o)
data_own W id piece None lacks here = lacks
data_own W id piece (Some e) lacks here =
    let k = index_of W id in
    let received = kept_with e.received piece.offset piece.octets in
    cond_both (takes_data e.phase) (data_at W k e piece) (W, Reply.Idle) (OwnLacks W id)
    (λ q. cond_both (length piece.octets == 0) (W, Reply.Stored) _ (OwnLacks W id) (λ z. lacks)
    (λ z. cond_both (nat_lt (limit e.phase W.config e) (piece.offset + length piece.octets)) (ends W k e 6, Reply.Faulted 6) _ (OwnLacks W id)
    (λ over. ends_own W id e e 6 (Reply.Faulted 6) here refl)
    (λ fits. cond_both (nat_lt 32 (pieces received)) (W, Reply.Dropped) _ (OwnLacks W id) (λ many. lacks)
    (λ few. stored_own W id e received e.phase here refl (lacks e here)))))
    (λ q. lacks)

size_fits : (a b : ℕ) (other : Bool) → (nat_lt a b || other) ≡ false → b ≤ a
size_fits a b other h = elim (cases_lt a b) [
  | inl low ↦ absurd (both_ways (nat_lt a b || other) h (ap (λ (x : Bool). x || other) (lt-ltb a b low)))
  | inr high ↦ high
]

eof_own : (W : World) (id : TransactionId) (eof : Eof) (o : Option Entry) → LacksAt W.config W id → entry_of W id ≡ o →
    OwnLacks W id (eof_came W (index_of W id) eof o)
eof_own W id eof None lacks here = lacks
eof_own W id eof (Some e) lacks here =
    let k = index_of W id in
    cond_both (not (is_live e.phase)) (W, Reply.Idle) _ (OwnLacks W id) (λ q. lacks)
    (λ q. cond_both (not (eof.condition == 0)) (ends W k (record e { ended_by_eof = true }) eof.condition, Reply.Faulted eof.condition) _ (OwnLacks W id)
    (λ z. ends_own W id e (record e { ended_by_eof = true }) eof.condition (Reply.Faulted eof.condition) here refl)
    (λ z. cond_both (not (is_receiving e.phase)) (W, Reply.Duplicate) _ (OwnLacks W id) (λ past. lacks)
    (λ first. cond_both (length e.items == 0) (turns W k e Done e.eof true, Reply.Done) _ (OwnLacks W id)
    (λ empty. turns_own W id e Done e.eof true Reply.Done here (λ checks is. absurd cc))
    (λ some. cond_both (not (has_file e.metadata)) (turns W k e (Executing 0) e.eof true, Reply.Complete) _ (OwnLacks W id)
    (λ no_file. turns_own W id e (Executing 0) e.eof true Reply.Complete here (λ checks is. absurd cc))
    (λ file. cond_both (nat_lt (bound W.config e.metadata) eof.size || nat_lt eof.size (length e.received)) (ends W k e 6, Reply.Faulted 6) _ (OwnLacks W id)
    (λ over. ends_own W id e e 6 (Reply.Faulted 6) here refl)
    (λ fits. cond_both (not (is_whole eof.size e.received)) (turns W k e (Awaiting 0) (Some eof) e.complete, Reply.Waiting) _ (OwnLacks W id)
    (λ short. turns_own W id e (Awaiting 0) (Some eof) e.complete Reply.Waiting here (λ checks is.
    record {
      eof = eof;
      came = refl;
      within = size_fits (bound W.config e.metadata) eof.size (nat_lt eof.size (length e.received)) fits;
      short =
          not-true (is_whole eof.size e.received) short;
    }))
    (λ all. whole_here W id e eof.checksum here)))))))

check_own : (W : World) (id : TransactionId) (e : Entry) (phase : Phase) → entry_of W id ≡ Some e → e.phase ≡ phase → LacksAt W.config W id →
    OwnLacks W id (check_at phase W (index_of W id) e)
check_own W id e (Awaiting checks) here is lacks =
    let k = index_of W id in
    cond_both (nat_le W.config.checks (checks + 1)) (ends W k e 10, Reply.Faulted 10) (turns W k e (Awaiting (checks + 1)) e.eof e.complete, Reply.Waiting)
    (OwnLacks W id)
    (λ q. ends_own W id e e 10 (Reply.Faulted 10) here refl)
    (λ q. turns_own W id e (Awaiting (checks + 1)) e.eof e.complete Reply.Waiting here
    (λ n z. let l = lacks e here checks is in record { eof = l.eof; came = l.came; within = l.within; short = l.short }))
check_own W id e Receiving here is lacks = lacks
check_own W id e (Executing n) here is lacks = lacks
check_own W id e Refused here is lacks = lacks
check_own W id e Done here is lacks = lacks
check_own W id e (Ended condition) here is lacks = lacks

checked_own : (W : World) (id : TransactionId) (o : Option Entry) → LacksAt W.config W id → entry_of W id ≡ o → OwnLacks W id (checked W (index_of W id) o)
checked_own W id None lacks here = lacks
checked_own W id (Some e) lacks here = check_own W id e e.phase here refl lacks

no_wait : (n checks : ℕ) (items : List Item) → phase_before n items ≡ Awaiting checks → ⊥
no_wait n checks [] h = absurd cc
no_wait n checks (item ∷ items) h = absurd cc

step_at_own : (W : World) (id : TransactionId) (e : Entry) (n : ℕ) (items : List Item) → entry_of W id ≡ Some e → LacksAt W.config W id →
    OwnLacks W id (step_at W (index_of W id) e n items)
step_at_own W id e n [] here lacks = lacks
step_at_own W id e n (item ∷ items) here lacks =
    let k = index_of W id in
    let o = act_now W e item in
    cond_both (succeeded o.answer) _ _ (OwnLacks W id)
    (λ q. put_is W.config W (change_at W k o.changes (entry_after e n item items o)) id e (entry_after e n item items o) here refl refl
    (λ checks is. absurd (no_wait (suc n) checks items is)))
    (λ q. ends_own W id e (entry_failed e o) 4 (replied o.answer) here refl)

step_own : (W : World) (id : TransactionId) (e : Entry) (phase : Phase) → entry_of W id ≡ Some e → LacksAt W.config W id →
    OwnLacks W id (step_in phase W (index_of W id) e)
step_own W id e (Executing n) here lacks = step_at_own W id e n (drop n e.items) here lacks
step_own W id e Receiving here lacks = lacks
step_own W id e (Awaiting checks) here lacks = lacks
step_own W id e Refused here lacks = lacks
step_own W id e Done here lacks = lacks
step_own W id e (Ended condition) here lacks = lacks

stepped_own : (W : World) (id : TransactionId) (o : Option Entry) → LacksAt W.config W id → entry_of W id ≡ o → OwnLacks W id (stepped W (index_of W id) o)
stepped_own W id None lacks here = lacks
stepped_own W id (Some e) lacks here = step_own W id e e.phase here lacks

cancelled_own : (W : World) (id : TransactionId) (o : Option Entry) → LacksAt W.config W id → entry_of W id ≡ o →
    OwnLacks W id (cancelled W (index_of W id) o)
cancelled_own W id None lacks here = lacks
cancelled_own W id (Some e) lacks here =
    cond_both (is_live e.phase) (ends W (index_of W id) e 15, Reply.Cancelled) (W, Reply.Idle) (OwnLacks W id)
    (λ q. ends_own W id e e 15 Reply.Cancelled here refl) (λ q. lacks)

taken_own : TakeRemoves → (W : World) (id : TransactionId) (o : Option Entry) → Sound W → LacksAt W.config W id → entry_of W id ≡ o →
    OwnLacks W id (taken_out W (index_of W id) o)
taken_own removes W id None sound lacks here = lacks
taken_own removes W id (Some e) sound lacks here = elim (cases_Bool (is_live e.phase)) [
  | inl live ↦ subst (OwnLacks W id) (sym (cond-true (is_live e.phase) (W, Reply.Idle) _ live)) lacks
  | inr over ↦
      none_is W.config (taken_out W (index_of W id) (Some e)).0 id
      (ap (λ (o : Option Entry). entry_of (taken_out W (index_of W id) o).0 id) (sym here) ∙ removes W id e sound here over)
]

-- ---- a new entry

new_own : (W : World) (id : TransactionId) (new : Entry) (reply : Reply) → entry_of W id ≡ None → Entries.name_of new ≡ id → If_waiting W.config new →
    OwnLacks W id (with_new W new, reply)
new_own W id new reply none name lacks = it_is W.config (with_new W new) id new (append_own W.table id new name none) lacks

judged_own : (W : World) (h : Header) (m : MetadataFields) (v : Verdict) → entry_of W (id_of h) ≡ None → OwnLacks W (id_of h) (judged W h m v)
judged_own W h m (Refuse r) none = new_own W (id_of h) (refused_entry h m Refused) (Reply.Refused r) none refl (λ checks is. absurd cc)
judged_own W h m (Grant items blocks steps) none =
    new_own W (id_of h) (new_entry h m Receiving _ items blocks steps) (Reply.Admitted blocks steps) none refl (λ checks is. absurd cc)

metadata_own : (W : World) (h : Header) (m : MetadataFields) (o : Option Entry) → LacksAt W.config W (id_of h) → entry_of W (id_of h) ≡ o →
    OwnLacks W (id_of h) (metadata_came W h m o)
metadata_own W h m (Some e) lacks here = lacks
metadata_own W h m None lacks none =
    cond_both (nat_le 64 (length W.table)) (W, Reply.TableFull) _ (OwnLacks W (id_of h)) (λ q. lacks)
    (λ q. cond_both (nat_lt 64 (length m.requests)) (W, _) _ (OwnLacks W (id_of h)) (λ z. lacks)
    (λ z. cond_both (has_file m && not (is_known_checksum m.checksum_type)) (with_new W (refused_entry h m (Ended 11)), Reply.Faulted 11) _
    (OwnLacks W (id_of h))
    (λ wrong. new_own W (id_of h) (refused_entry h m (Ended 11)) (Reply.Faulted 11) none refl (λ checks is. absurd cc))
    (λ right. judged_own W h m (verdict W.config.prefixes W.filestore (leases_of W.table) (spare_blocks W) (proposal_of W.config m)) none)))

ours_own : (W : World) (h : Header) (id : TransactionId) (answer : World × Reply) → LacksAt W.config W id → OwnLacks W id answer →
    OwnLacks W id (if h.destination == W.config.entity then answer else (W, Reply.NotForUs))
ours_own W h id answer lacks own = cond_both (h.destination == W.config.entity) answer (W, Reply.NotForUs) (OwnLacks W id) (λ q. own) (λ q. lacks)

-- ---- every event

next_own : TakeRemoves → (W : World) (v : Event) → Sound W → LacksAt W.config W (about v) → OwnLacks W (about v) (next W v)
next_own removes W (MetadataCame h m) sound lacks =
    ours_own W h (id_of h) (metadata_came W h m (entry_of W (id_of h))) lacks (metadata_own W h m (entry_of W (id_of h)) lacks refl)
next_own removes W (DataCame h piece) sound lacks =
    ours_own W h (id_of h) (data_came W (index_of W (id_of h)) piece (entry_of W (id_of h))) lacks
    (data_own W (id_of h) piece (entry_of W (id_of h)) lacks refl)
next_own removes W (EofCame h eof) sound lacks =
    ours_own W h (id_of h) (eof_came W (index_of W (id_of h)) eof (entry_of W (id_of h))) lacks (eof_own W (id_of h) eof (entry_of W (id_of h)) lacks refl)
next_own removes W (Step id) sound lacks = stepped_own W id (entry_of W id) lacks refl
next_own removes W (Cancel id) sound lacks = cancelled_own W id (entry_of W id) lacks refl
next_own removes W (Check id) sound lacks = checked_own W id (entry_of W id) lacks refl
next_own removes W (Take id) sound lacks = taken_own removes W id (entry_of W id) sound lacks refl

next_lacks : TakeRemoves → NextIsPromised → (W : World) (v : Event) → Sound W → AllLack W → AllLack (next W v).0
next_lacks removes promised W v sound all id =
    let V = (next W v).0 in
    subst (λ (c : Config). LacksAt c V id) (sym (next_config W v)) (
    elim (cases_Bool (is_same (about v) id)) [
      | inl same ↦ subst (LacksAt W.config V) (same_is (about v) id same) (next_own removes W v sound (all (about v)))
      | inr other ↦ λ e found. all id e (sym ((promised W v sound).others id (other_than (about v) id other)) ∙ found)
    ]
    )

run_lacks : TakeRemoves → NextIsSound → NextIsPromised → (W : World) (vs : List Event) → Sound W → AllLack W → AllLack (run W vs)
run_lacks removes next_sound promised W [] sound all = all
run_lacks removes next_sound promised W (v ∷ vs) sound all =
    run_lacks removes next_sound promised (next W v).0 vs (next_sound W v sound) (next_lacks removes promised W v sound all)

pub awaiting_awaits : TakeRemoves → NextIsSound → NextIsPromised → KnownIsEntry → AwaitingAwaits
awaiting_awaits removes next_sound promised known mib W inputs id s e checks sound empty here mode there phase =
    let R = after_all (begin mib W) inputs in
    let V = run W (all_handed (begin mib W) inputs) in
    let world : R.world ≡ V = hands_on (begin mib W) inputs in
    let none : AllLack W = λ n. none_is W.config W n (ap (λ (t : List Entry). slice_get t (index_in n t)) empty) in
    let all : AllLack R.world = subst AllLack (sym world) (run_lacks removes next_sound promised W (all_handed (begin mib W) inputs) sound none) in
    let l = all id e there checks phase in
    let is : is_known s.stage ≡ true = sym (ap knows here) ∙ sym (known mib W inputs sound empty id) ∙ ap is_some there in (
      l.eof,
      record {
        session = s;
        here = here;
        known = known_stage s.stage is;
        acknowledged = mode;
        core = record { checks = checks; here = there; phase = phase; came = l.came; within = l.within; short = l.short };
      },
    )
