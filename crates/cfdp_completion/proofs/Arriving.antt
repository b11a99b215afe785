-- The PDUs of an upload at its receiver.
use Rattle.std.proofs.Common.{◌≡◌, ℕ, ◌+◌, ◌*◌, ◌<◌, ◌≤◌, List, [], ◌∷◌, ◌++◌, length, map, replicate, true, false, not, ◌&&◌, ◌||◌, cond, eqb, ltb, leb, Option, Some, None, refl, ap, sym, subst, ◌∙◌, arith, eq-eqb, ne_eqb, le-ltb, drop, inl, inr}
use Rattle.std.specs.List.{AllByRecursion, list_all}
use Rattle.std.specs.Prelude.{is_some}
use Rattle.std.proofs.lemmas.List.{length-map, length-take, length-drop}
use Rattle.std.proofs.lemmas.Bool.{eqb-true, cases_lt, cond_both, or_from, or_right, cond-true, cond-false}
use Rattle.cfdp_actions.specs.Actions.{Item, Install}
use Rattle.cfdp_paths.specs.Paths.{Path, path_of}
use Rattle.cfdp_verifier.specs.Verdict.{Verdict, Grant, Refuse, verdict, Parsed, Good, Bad, parsed, parsed_from, with_file, with_destination}
use Rattle.cfdp_checksum.specs.Checksum.{checksum}
use Rattle.cfdp_pdus.specs.Values.{FileDataFields, MetadataFields}
use Rattle.cfdp_transactions.specs.Config.{Config}
use Rattle.cfdp_transactions.specs.Received.{Received, kept_with, staged_of, is_whole, pieces}
use Rattle.cfdp_transactions.specs.Entry.{Entry, has_file, id_of, is_live, is_receiving, takes_data}
use Rattle.cfdp_transactions.specs.declared.phase.Phase.{Phase}
use Rattle.cfdp_transactions.specs.declared.phase.Phase.TheVariants.{Receiving, Executing}
use Rattle.cfdp_transactions.specs.declared.event.Event.{Event}
use Rattle.cfdp_transactions.specs.declared.event.Event.TheVariants.{Metadata as MetadataCame, Eof as EofCame}
use Rattle.cfdp_transactions.specs.declared.reply.Reply.{Reply}
use Rattle.cfdp_transactions.specs.declared.reply.Reply.TheVariants as replied
use Rattle.cfdp_transactions.specs.World.{World, entry_of, index_of, bound, spare_blocks, leases_of, free_slot}
use Rattle.cfdp_transactions.specs.Admission.{judged, metadata_came, proposal_of, new_entry, is_known_checksum}
use Rattle.cfdp_transactions.specs.Delivery.{data_came, data_at, eof_came, limit, stored, stores, storing, turns, turned, is_right_checksum}
use Rattle.cfdp_transactions.specs.Next.{next, run, replies}
use Rattle.cfdp_transactions.proofs.Lookups.{set_own, append_own}
use Rattle.cfdp_transactions.proofs.Soundness.Parsing.{granted_parsed}
use Rattle.cfdp_transactions.proofs.Runs.{run-append}
use Rattle.cfdp_uploads.specs.Uploads.{UploadFields, IsUpload, piece_of, pieces_of, eof_of}
use Rattle.cfdp_uploads.proofs.Pieces.{part, begins_within}
use Rattle.cfdp_completion.specs.Delivering.{data_event, data_events, upload_events, kept_piece, kept_after, StaysFew, AdmittedIsComplete}
use Rattle.cfdp_completion.proofs.FileKept.{file_kept}

not_zero : (n : ℕ) → 0 < n → eqb n 0 ≡ false
not_zero n some = ne_eqb n 0 (λ z. absurd (omega (arith, some, z)))

-- ---- a transaction that is receiving

pub record IsReceiving (W : World) (u : UploadFields) (rs : Received) (e : Entry) : Type 0 where
  pub ours : u.header.destination ≡ W.config.entity
  pub here : entry_of W (id_of u.header) ≡ Some e
  pub header : e.header ≡ u.header
  pub phase : e.phase ≡ Receiving
  pub metadata : e.metadata ≡ u.metadata
  pub received : e.received ≡ rs

bound_is : (c : Config) (u : UploadFields) → IsUpload u → has_file u.metadata ≡ true → 0 < length u.file → bound c u.metadata ≡ length u.file
bound_is c u is file some =
    cond-true (has_file u.metadata) _ 0 file
    ∙ cond-false (eqb u.metadata.size 0) c.cap u.metadata.size (not_zero u.metadata.size (omega (arith, is.size)))
    ∙ is.size

-- ---- a piece

limit_is : (W : World) (u : UploadFields) (rs : Received) (e : Entry) → IsUpload u → has_file u.metadata ≡ true → IsReceiving W u rs e
    → 0 < length u.file → limit e.phase W.config e ≡ length u.file
limit_is W u rs e is file at some =
    ap (λ (p : Phase). limit p W.config e) at.phase ∙ ap (bound W.config) at.metadata ∙ bound_is W.config u is file some

piece_some : (u : UploadFields) → IsUpload u → (index : ℕ) → index < pieces_of u → 0 < length (piece_of u index).octets
piece_some u is index lt =
    omega (
      arith,
      is.some,
      begins_within (length u.file) u.segment index (omega (arith, is.some)) lt,
      length-take u.segment (drop (u.segment * index) u.file),
      length-drop (u.segment * index) u.file,
    )

piece_stored : (W : World) (u : UploadFields) (rs : Received) (e : Entry) (index : ℕ) → IsUpload u → has_file u.metadata ≡ true
    → IsReceiving W u rs e → index < pieces_of u → pieces (kept_piece u rs index) ≤ 32
    → next W (data_event u index)
    ≡ (stores W (index_of W (id_of u.header)) e (kept_with e.received (piece_of u index).offset (piece_of u index).octets), replied.Stored)
piece_stored W u rs e index is file at lt few =
    let k : ℕ = index_of W (id_of u.header) in
    let piece : FileDataFields = piece_of u index in
    let received : Received = kept_with e.received piece.offset piece.octets in
    let begins : u.segment * index < length u.file = begins_within (length u.file) u.segment index (omega (arith, is.some)) lt in
    let fits : piece.offset + length piece.octets ≤ length u.file = (part u is index lt).within in
    let same : received ≡ kept_piece u rs index = ap (λ (r : Received). kept_with r piece.offset piece.octets) at.received in
    let less : pieces received ≤ 32 = subst (λ (r : Received). pieces r ≤ 32) (sym same) few in
    cond-true (eqb u.header.destination W.config.entity) (data_came W k piece (entry_of W (id_of u.header))) (W, replied.NotForUs)
    (eq-eqb u.header.destination W.config.entity at.ours)
    ∙ ap (data_came W k piece) at.here
    ∙ cond-true (takes_data e.phase) (data_at W k e piece) (W, replied.Idle) (ap takes_data at.phase)
    ∙ cond-false (eqb (length piece.octets) 0) _ _ (not_zero (length piece.octets) (piece_some u is index lt))
    ∙ cond-false (ltb (limit e.phase W.config e) (piece.offset + length piece.octets)) _ _
    (le-ltb (limit e.phase W.config e) (piece.offset + length piece.octets)
    (omega (arith, fits, limit_is W u rs e is file at (omega (arith, begins)))))
    ∙ cond-false (ltb 32 (pieces received)) _ _ (le-ltb 32 (pieces received) less)
    ∙ ap (λ (p : Phase). stored p (stores W k e received) k (storing W.filestore e received)) at.phase

piece_received : (W : World) (u : UploadFields) (rs : Received) (e : Entry) (index : ℕ) → IsReceiving W u rs e
    → IsReceiving (stores W (index_of W (id_of u.header)) e (kept_with e.received (piece_of u index).offset (piece_of u index).octets)) u
    (kept_piece u rs index) (storing W.filestore e (kept_with e.received (piece_of u index).offset (piece_of u index).octets))
piece_received W u rs e index at =
    let received : Received = kept_with e.received (piece_of u index).offset (piece_of u index).octets in
    record {
      ours = at.ours;
      here = set_own W.table (id_of u.header) e (storing W.filestore e received) (ap id_of at.header) at.here;
      header = at.header;
      phase = at.phase;
      metadata = at.metadata;
      received = ap (λ (r : Received). kept_with r (piece_of u index).offset (piece_of u index).octets) at.received;
    }

-- ---- all pieces

pub record Arrived (W : World) (u : UploadFields) (rs : Received) (items : List Item) (indices : List ℕ) : Type 0 where
  pub entry : Entry
  pub at : IsReceiving (run W (data_events u indices)) u (kept_after u rs indices) entry
  pub stated : replies W (data_events u indices) ≡ replicate (length indices) replied.Stored
  pub same_items : entry.items ≡ items

-- after one more piece
arrived_by : (W : World) (u : UploadFields) (rs : Received) (items : List Item) (index : ℕ) (indices : List ℕ) (a : World × Reply)
    → next W (data_event u index) ≡ a → a.1 ≡ replied.Stored → Arrived a.0 u (kept_piece u rs index) items indices
    → Arrived W u rs items (index ∷ indices)
arrived_by W u rs items index indices a is stored_is arrived = record {
  entry = arrived.entry;
  at = subst (λ (b : World × Reply). IsReceiving (run b.0 (data_events u indices)) u (kept_after u (kept_piece u rs index) indices) arrived.entry)
      (sym is) arrived.at;
  stated = ap (λ (b : World × Reply). b.1 ∷ replies b.0 (data_events u indices)) is
      ∙ ap (λ (r : Reply). r ∷ replies a.0 (data_events u indices)) stored_is
      ∙ ap (λ (l : List Reply). replied.Stored ∷ l) arrived.stated;
  same_items = arrived.same_items;
}

pub pieces_arrive : (u : UploadFields) → IsUpload u → has_file u.metadata ≡ true → (W : World) (rs : Received) (e : Entry) (indices : List ℕ)
    → AllByRecursion (λ index. index < pieces_of u) indices → StaysFew u rs indices → IsReceiving W u rs e → Arrived W u rs e.items indices
pieces_arrive u is file W rs e [] within few at = record { entry = e; at = at; stated = refl; same_items = refl }
pieces_arrive u is file W rs e (index ∷ indices) within few at =
    let received : Received = kept_with e.received (piece_of u index).offset (piece_of u index).octets in
    let V : World = stores W (index_of W (id_of u.header)) e received in
    arrived_by W u rs e.items index indices (V, replied.Stored) (piece_stored W u rs e index is file at within.0 few.0) refl
    (pieces_arrive u is file V (kept_piece u rs index) (storing W.filestore e received) indices within.1 few.1 (piece_received W u rs e index at))

-- ---- the EOF

staged_is : (xs : List ℕ) → staged_of (map Some xs) ≡ xs
staged_is [] = refl
staged_is (x ∷ xs) = ap (λ (l : List ℕ). x ∷ l) (staged_is xs)

all_there : (xs : List ℕ) → list_all is_some (map Some xs) ≡ true
all_there [] = refl
all_there (x ∷ xs) = all_there xs

whole_there : (xs : List ℕ) → is_whole (length xs) (map Some xs) ≡ true
whole_there xs =
    ap (λ b. b && list_all is_some (map Some xs)) (eq-eqb (length (map Some xs)) (length xs) (length-map xs Some)) ∙ all_there xs

checked_right : (u : UploadFields) (e : Entry) → e.received ≡ map Some u.file → is_right_checksum e (checksum u.file) ≡ true
checked_right u e received =
    or_right (eqb e.metadata.checksum_type 15) (eqb (checksum (staged_of e.received)) (checksum u.file))
    (eq-eqb (checksum (staged_of e.received)) (checksum u.file) (ap (λ (r : Received). checksum (staged_of r)) received ∙ ap checksum (staged_is u.file)))

-- no more than the file may have
fits_bound : (c : Config) (u : UploadFields) → IsUpload u → has_file u.metadata ≡ true → length u.file ≤ bound c u.metadata
fits_bound c u is file =
    elim (cases_lt 0 (length u.file)) [
      | inl some ↦ omega (arith, bound_is c u is file some)
      | inr none ↦ omega arith
    ]

end_completes : (W : World) (u : UploadFields) (e : Entry) → IsUpload u → has_file u.metadata ≡ true → IsReceiving W u (map Some u.file) e
    → 0 < length e.items → next W (EofCame u.header (eof_of u)) ≡ (turns W (index_of W (id_of u.header)) e (Executing 0) e.eof true, replied.Complete)
end_completes W u e is file at some =
    let k : ℕ = index_of W (id_of u.header) in
    let long : length e.received ≡ length u.file = ap (λ (r : Received). length r) at.received ∙ length-map u.file Some in
    let fits : length u.file ≤ bound W.config e.metadata =
    subst (λ (m : MetadataFields). length u.file ≤ bound W.config m) (sym at.metadata) (fits_bound W.config u is file) in
    let has : has_file e.metadata ≡ true = ap has_file at.metadata ∙ file in
    cond-true (eqb u.header.destination W.config.entity) (eof_came W k (eof_of u) (entry_of W (id_of u.header))) (W, replied.NotForUs)
    (eq-eqb u.header.destination W.config.entity at.ours)
    ∙ ap (eof_came W k (eof_of u)) at.here
    ∙ cond-false (not (is_live e.phase)) _ _ (ap (λ (p : Phase). not (is_live p)) at.phase)
    ∙ cond-false (not (is_receiving e.phase)) _ _ (ap (λ (p : Phase). not (is_receiving p)) at.phase)
    ∙ cond-false (eqb (length e.items) 0) _ _ (not_zero (length e.items) some)
    ∙ cond-false (not (has_file e.metadata)) _ _ (ap not has)
    ∙ cond-false (ltb (bound W.config e.metadata) (length u.file) || ltb (length u.file) (length e.received)) _ _
    (or_from (ltb (bound W.config e.metadata) (length u.file)) (ltb (length u.file) (length e.received))
    (le-ltb (bound W.config e.metadata) (length u.file) fits) (le-ltb (length u.file) (length e.received) (omega (arith, long))))
    ∙ cond-false (not (is_whole (length u.file) e.received)) _ _
    (ap (λ (r : Received). not (is_whole (length u.file) r)) at.received ∙ ap not (whole_there u.file))
    ∙ cond-true (is_right_checksum e (checksum u.file)) _ _ (checked_right u e at.received)

-- ---- the Metadata

pub record Begun (W V : World) (u : UploadFields) : Type 0 where
  pub entry : Entry
  pub at : IsReceiving V u [] entry
  pub items : parsed (proposal_of W.config u.metadata) ≡ Good entry.items

module _ (W : World) (u : UploadFields) (granted steps : ℕ) where
  abbrev Begins : World × Reply → Type 0
  Begins a = a.1 ≡ replied.Admitted granted steps → Begun W a.0 u

  judged_begins : (v : Verdict) → u.header.destination ≡ W.config.entity → entry_of W (id_of u.header) ≡ None
      → verdict W.config.prefixes W.filestore (leases_of W.table) (spare_blocks W) (proposal_of W.config u.metadata) ≡ v → Begins
      (judged W u.header u.metadata v)
  judged_begins (Refuse r) ours absent is q = absurd cc
  judged_begins (Grant items blocks bound_steps) ours absent is q = record {
    entry = new_entry u.header u.metadata Receiving (free_slot W.table) items blocks bound_steps;
    at = record {
      ours = ours;
      here = append_own W.table (id_of u.header) (new_entry u.header u.metadata Receiving (free_slot W.table) items blocks bound_steps) refl absent;
      header = refl;
      phase = refl;
      metadata = refl;
      received = refl;
    };
    items = granted_parsed W.config.prefixes W.filestore (leases_of W.table) (spare_blocks W) (proposal_of W.config u.metadata) items blocks bound_steps is;
  }

  metadata_begins : (o : Option Entry) → u.header.destination ≡ W.config.entity → entry_of W (id_of u.header) ≡ o
      → Begins (metadata_came W u.header u.metadata o)
  metadata_begins (Some e) ours found = λ q. absurd cc
  metadata_begins None ours absent =
      cond_both (leb 64 (length W.table)) _ _ Begins (λ _ q. absurd cc)
      (λ _. cond_both (ltb 64 (length u.metadata.requests)) _ _ Begins (λ _ q. absurd cc)
      (λ _. cond_both (has_file u.metadata && not (is_known_checksum u.metadata.checksum_type)) _ _ Begins (λ _ q. absurd cc)
      (λ _. judged_begins (verdict W.config.prefixes W.filestore (leases_of W.table) (spare_blocks W) (proposal_of W.config u.metadata)) ours absent refl)))

  pub begun : Begins (next W (MetadataCame u.header u.metadata))
  begun =
      cond_both (eqb u.header.destination W.config.entity) _ _ Begins
      (λ same. metadata_begins (entry_of W (id_of u.header)) (eqb-true u.header.destination W.config.entity same) refl) (λ _ q. absurd cc)

-- the install comes first
first_item : (o : Option Path) (q : Parsed) (items : List Item) → with_file o q ≡ Good items → 0 < length items
first_item None q items is = absurd cc
first_item (Some p) (Bad place) items is = absurd cc
first_item (Some p) (Good more) items is = let same : items ≡ Install p ∷ more = cc in omega (arith, ap (λ (l : List Item). length l) same)

items_some : (c : Config) (m : MetadataFields) (items : List Item) → has_file m ≡ true → parsed (proposal_of c m) ≡ Good items → 0 < length items
items_some c m items file is =
    first_item (path_of m.destination_name) (parsed_from 0 m.requests) items
    (sym (ap (λ b. with_destination (cond b (Some m.destination_name) None) (parsed_from 0 m.requests)) file) ∙ is)

-- ---- the whole upload

replies_more : (W : World) (first second : List Event) → replies W (first ++ second) ≡ replies W first ++ replies (run W first) second
replies_more W [] second = refl
replies_more W (event ∷ first) second = ap (λ (l : List Reply). (next W event).1 ∷ l) (replies_more (next W event).0 first second)

pub admitted_complete : AdmittedIsComplete
admitted_complete W u blocks steps is file few admitted =
    let V : World = (next W (MetadataCame u.header u.metadata)).0 in
    let first : Begun W V u = begun W u blocks steps admitted in
    let came : Arrived V u [] first.entry.items u.order = pieces_arrive u is file V [] first.entry u.order is.within few first.at in
    let U : World = run V (data_events u u.order) in
    let at : IsReceiving U u (map Some u.file) came.entry =
    subst (λ (rs : Received). IsReceiving U u rs came.entry) (file_kept u is) came.at in
    let some : 0 < length came.entry.items =
    omega (arith, ap (λ (l : List Item). length l) came.same_items, items_some W.config u.metadata first.entry.items file first.items) in
    let end = end_completes U u came.entry is file at some in
    let over : run W (upload_events u) ≡ turns U (index_of U (id_of u.header)) came.entry (Executing 0) came.entry.eof true =
    run-append V (data_events u u.order) (EofCame u.header (eof_of u) ∷ []) ∙ ap (λ (a : World × Reply). a.0) end in
    record {
      answers = ap (λ (r : Reply). r ∷ replies V (data_events u u.order ++ EofCame u.header (eof_of u) ∷ [])) admitted
          ∙ ap (λ (l : List Reply). replied.Admitted blocks steps ∷ l)
          (replies_more V (data_events u u.order) (EofCame u.header (eof_of u) ∷ [])
          ∙ ap (λ (l : List Reply). l ++ (next U (EofCame u.header (eof_of u))).1 ∷ []) came.stated
          ∙ ap (λ (a : World × Reply). replicate (length u.order) replied.Stored ++ a.1 ∷ []) end);
      complete = record {
        entry = turned came.entry (Executing 0) came.entry.eof true;
        here = ap (λ (w : World). entry_of w (id_of u.header)) over
            ∙ set_own U.table (id_of u.header) came.entry (turned came.entry (Executing 0) came.entry.eof true) (ap id_of at.header) at.here;
        phase = refl;
        whole = ap (is_whole (length u.file)) at.received ∙ whole_there u.file;
        staged = ap staged_of at.received ∙ staged_is u.file;
        items = first.items ∙ ap Good (sym came.same_items);
      };
    }
