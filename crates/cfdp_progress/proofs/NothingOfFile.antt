-- Right after the Metadata PDU for which an EOF PDU was held, the core has nothing of the file.
use Rattle.std.specs.Prelude.{not, ◌&&◌, ◌||◌, ◌==◌, nat_le, nat_lt, slice_set}
use Rattle.std.proofs.Common.{◌≡◌, ℕ, Bool, true, List, [], ◌∷◌, length, Option, Some, None, refl, sym, ap, subst, ◌∙◌}
use Rattle.std.proofs.lemmas.Bool.{cond_both, cond-true}
use Rattle.std.proofs.lemmas.Option.{none-some, same_Some}
use Rattle.cfdp_status.specs.declared.transaction.TransactionId.{TransactionId}
use Rattle.cfdp_pdus.specs.Values.{MetadataFields}
use Rattle.cfdp_pdus.specs.declared.eof.Eof.{Eof}
use Rattle.cfdp_pdus.specs.declared.header.Header.{Header}
use Rattle.cfdp_verifier.specs.Verdict.{Verdict, Refuse, Grant, verdict}
use Rattle.cfdp_sessions.specs.Sessions.{found}
use Rattle.cfdp_sessions.proofs.Names.{found_name}
use Rattle.cfdp_transactions.specs.Admission.{judged, is_known_checksum, metadata_came, proposal_of, new_entry, refused_entry, with_new}
use Rattle.cfdp_transactions.specs.Delivery.{is_right_checksum, whole, turned, turns, eof_came}
use Rattle.cfdp_transactions.specs.Ending.{ended, ends}
use Rattle.cfdp_transactions.specs.Entry.{Entry, id_of, is_live, is_receiving, has_file}
use Rattle.cfdp_transactions.specs.Entry as Entries
use Rattle.cfdp_transactions.specs.Next.{next, run}
use Rattle.cfdp_transactions.specs.Received.{is_whole}
use Rattle.cfdp_transactions.specs.World.{World, bound, spare_blocks, leases_of, entry_of, index_of}
use Rattle.cfdp_transactions.specs.declared.event.Event.{Event}
use Rattle.cfdp_transactions.specs.declared.event.Event.TheVariants.{Metadata as MetadataCame, Eof as EofCame}
use Rattle.cfdp_transactions.specs.declared.phase.Phase.{Phase}
use Rattle.cfdp_transactions.specs.declared.phase.Phase.TheVariants.{Receiving, Awaiting, Executing, Refused, Done, Ended}
use Rattle.cfdp_transactions.specs.declared.reply.Reply.{Reply}
use Rattle.cfdp_transactions.proofs.Finding.{found_name as entry_name}
use Rattle.cfdp_transactions.proofs.Lookups.{append_own}
use Rattle.cfdp_transactions.proofs.Options.{none_of}
use Rattle.cfdp_receiver.specs.State.{State, MetadataPdu, session_of}
use Rattle.cfdp_receiver.specs.Handing as Handing
use Rattle.cfdp_receiver.specs.Turning.{after_input, is_known}
use Rattle.cfdp_receiver.specs.Laws.{knows, AreKnown}
use Rattle.cfdp_progress.specs.NakRounds.{MetadataOpens}
use Rattle.cfdp_progress.proofs.PieceOfAwaiting.{replaces}

-- of the entry of this name, if there is one, no octet was received
abbrev Nil : World → TransactionId → Type 0
Nil V id = (e : Entry) → entry_of V id ≡ Some e → e.received ≡ []

abbrev NilAfter : TransactionId → World × Reply → Type 0
NilAfter id a = Nil a.0 id

nil_is : (V : World) (id : TransactionId) (new : Entry) → entry_of V id ≡ Some new → new.received ≡ [] → Nil V id
nil_is V id new here nil e found = subst (λ (n : Entry). n.received ≡ []) (same_Some new e (sym here ∙ found)) nil

nil_none : (V : World) (id : TransactionId) → entry_of V id ≡ None → Nil V id
nil_none V id none e found = absurd (none-some e (sym none ∙ found))

nil_put : (W V : World) (id : TransactionId) (e new : Entry) → entry_of W id ≡ Some e → Entries.name_of new ≡ Entries.name_of e →
    V.table ≡ slice_set W.table (index_of W id) new → new.received ≡ [] → Nil V id
nil_put W V id e new here name table nil = nil_is V id new (replaces W V id e new here (name ∙ entry_name W.table id e here) table) nil

-- ---- the EOF PDU

ends_nil : (W : World) (id : TransactionId) (e other : Entry) (condition : ℕ) → entry_of W id ≡ Some e → Entries.name_of other ≡ Entries.name_of e →
    Nil (ends W (index_of W id) other condition) id
ends_nil W id e other condition here name = nil_put W (ends W (index_of W id) other condition) id e (ended W.filestore other condition) here name refl refl

turns_nil : (W : World) (id : TransactionId) (e : Entry) (phase : Phase) (eof : Option Eof) (complete : Bool) → entry_of W id ≡ Some e → e.received ≡ [] →
    Nil (turns W (index_of W id) e phase eof complete) id
turns_nil W id e phase eof complete here nil = nil_put W (turns W (index_of W id) e phase eof complete) id e (turned e phase eof complete) here refl refl nil

whole_nil : (W : World) (id : TransactionId) (e : Entry) (sum : ℕ) → entry_of W id ≡ Some e → e.received ≡ [] → NilAfter id (whole W (index_of W id) e sum)
whole_nil W id e sum here nil =
    cond_both (is_right_checksum e sum) (turns W (index_of W id) e (Executing 0) e.eof true, _) (ends W (index_of W id) e 5, _) (NilAfter id)
    (λ q. turns_nil W id e (Executing 0) e.eof true here nil) (λ q. ends_nil W id e e 5 here refl)

eof_nil : (W : World) (id : TransactionId) (eof : Eof) (o : Option Entry) → Nil W id → entry_of W id ≡ o → NilAfter id (eof_came W (index_of W id) eof o)
eof_nil W id eof None nil here = nil
eof_nil W id eof (Some e) nil here =
    let k = index_of W id in
    let own = nil e here in
    cond_both (not (is_live e.phase)) (W, Reply.Idle) _ (NilAfter id) (λ q. nil)
    (λ q. cond_both (not (eof.condition == 0)) (ends W k (record e { ended_by_eof = true }) eof.condition, Reply.Faulted eof.condition) _ (NilAfter id)
    (λ z. ends_nil W id e (record e { ended_by_eof = true }) eof.condition here refl)
    (λ z. cond_both (not (is_receiving e.phase)) (W, Reply.Duplicate) _ (NilAfter id) (λ past. nil)
    (λ first. cond_both (length e.items == 0) (turns W k e Done e.eof true, Reply.Done) _ (NilAfter id) (λ empty. turns_nil W id e Done e.eof true here own)
    (λ some. cond_both (not (has_file e.metadata)) (turns W k e (Executing 0) e.eof true, Reply.Complete) _ (NilAfter id)
    (λ no_file. turns_nil W id e (Executing 0) e.eof true here own)
    (λ file. cond_both (nat_lt (bound W.config e.metadata) eof.size || nat_lt eof.size (length e.received)) (ends W k e 6, Reply.Faulted 6) _ (NilAfter id)
    (λ over. ends_nil W id e e 6 here refl)
    (λ fits. cond_both (not (is_whole eof.size e.received)) (turns W k e (Awaiting 0) (Some eof) e.complete, Reply.Waiting) _ (NilAfter id)
    (λ short. turns_nil W id e (Awaiting 0) (Some eof) e.complete here own)
    (λ all. whole_nil W id e eof.checksum here own)))))))

own_eof : (W : World) (h : Header) (eof : Eof) → Nil W (id_of h) → Nil (next W (EofCame h eof)).0 (id_of h)
own_eof W h eof nil =
    cond_both (h.destination == W.config.entity) (eof_came W (index_of W (id_of h)) eof (entry_of W (id_of h))) (W, Reply.NotForUs) (NilAfter (id_of h))
    (λ q. eof_nil W (id_of h) eof (entry_of W (id_of h)) nil refl) (λ q. nil)

next_eof : (W : World) (h : Header) (id : TransactionId) (eof : Eof) → id_of h ≡ id → Nil W id → Nil (next W (EofCame h eof)).0 id
next_eof W h id eof name nil =
    subst (λ (n : TransactionId). Nil (next W (EofCame h eof)).0 n) name
    (own_eof W h eof (subst (Nil W) (sym name) nil))

-- ---- the Metadata PDU

new_nil : (W : World) (id : TransactionId) (new : Entry) → entry_of W id ≡ None → Entries.name_of new ≡ id → new.received ≡ [] → Nil (with_new W new) id
new_nil W id new none name nil = nil_is (with_new W new) id new (append_own W.table id new name none) nil

judged_nil : (W : World) (h : Header) (m : MetadataFields) (v : Verdict) → entry_of W (id_of h) ≡ None → NilAfter (id_of h) (judged W h m v)
judged_nil W h m (Refuse r) none = new_nil W (id_of h) (refused_entry h m Refused) none refl refl
judged_nil W h m (Grant items blocks steps) none = new_nil W (id_of h) (new_entry h m Receiving _ items blocks steps) none refl refl

metadata_nil : (W : World) (h : Header) (m : MetadataFields) → entry_of W (id_of h) ≡ None → NilAfter (id_of h) (metadata_came W h m None)
metadata_nil W h m none =
    let nil = nil_none W (id_of h) none in
    cond_both (nat_le 64 (length W.table)) (W, Reply.TableFull) _ (NilAfter (id_of h)) (λ q. nil)
    (λ q. cond_both (nat_lt 64 (length m.requests)) (W, _) _ (NilAfter (id_of h)) (λ z. nil)
    (λ z. cond_both (has_file m && not (is_known_checksum m.checksum_type)) (with_new W (refused_entry h m (Ended 11)), Reply.Faulted 11) _
    (NilAfter (id_of h))
    (λ wrong. new_nil W (id_of h) (refused_entry h m (Ended 11)) none refl refl)
    (λ right. judged_nil W h m (verdict W.config.prefixes W.filestore (leases_of W.table) (spare_blocks W) (proposal_of W.config m)) none)))

next_metadata : (W : World) (h : Header) (m : MetadataFields) → entry_of W (id_of h) ≡ None → Nil (next W (MetadataCame h m)).0 (id_of h)
next_metadata W h m none =
    cond_both (h.destination == W.config.entity) (metadata_came W h m (entry_of W (id_of h))) (W, Reply.NotForUs) (NilAfter (id_of h))
    (λ q. subst (λ (o : Option Entry). NilAfter (id_of h) (metadata_came W h m o)) (sym none) (metadata_nil W h m none))
    (λ q. nil_none W (id_of h) none)

-- ---- both

pub nothing_kept : (R : State) (id : TransactionId) (moment : ℕ) (h : Header) (m : MetadataFields) → AreKnown R → MetadataOpens R id h →
    (e : Entry) → entry_of (after_input R (MetadataPdu moment h m)).world id ≡ Some e → e.received ≡ []
nothing_kept R id moment h m known opens =
    let i = MetadataPdu moment h m in
    let L = Handing.later moment R in
    let s = opens.session in
    let own : session_of L (id_of h) ≡ Some s = ap (found R.sessions) opens.named ∙ opens.here in
    let both : List Event = MetadataCame h m ∷ EofCame s.header opens.eof ∷ [] in
    let handed : Handing.handed R i ≡ both =
    cond-true (Handing.is_ours L h) (Handing.metadata_events L h m (session_of L (id_of h))) [] opens.ours
    ∙ ap (Handing.metadata_events L h m) own
    ∙ ap (Handing.metadata_in_stage h m s) opens.held
    ∙ cond-true h.acknowledged both [] opens.mode in
    let unknown : entry_of R.world id ≡ None =
    none_of (entry_of R.world id) (known id ∙ ap knows opens.here ∙ ap is_known opens.held) in
    let first : Nil (next R.world (MetadataCame h m)).0 id =
    subst (Nil (next R.world (MetadataCame h m)).0) opens.named (next_metadata R.world h m (ap (entry_of R.world) opens.named ∙ unknown)) in
    let last : Nil (run R.world both) id =
    next_eof (next R.world (MetadataCame h m)).0 s.header id opens.eof (found_name R.sessions id s opens.here) first in
    subst (λ (vs : List Event). Nil (run R.world vs) id) (sym handed) last
