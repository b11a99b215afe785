-- 'Installed' is replied to a step at the first item of a transaction with a file, and to nothing else.
--     IsQuiet a                 another reply
--     next_quiet                that of each event but a step
--     step_says                 a step's, in a sound world
--     first_is_installed
use Rattle.std.proofs.Common.{◌≡◌, ℕ, zero, suc, ◌+◌, List, [], ◌∷◌, length, drop, refl, ap, sym, ◌∙◌, arith}
use Rattle.std.specs.Prelude.{Bool, false, not, ◌&&◌, ◌||◌, ◌==◌, nat_le, nat_lt, Option, Some, None, slice_get, IsTrue, IsFalse}
use Rattle.std.proofs.lemmas.Bool.{cond_both, or_parts, ne_eqb}
use Rattle.cfdp_paths.specs.Paths.{Path}
use Rattle.cfdp_actions.specs.Filestore.{Filestore, empty_filestore}
use Rattle.cfdp_actions.specs.Actions.{Item, Install, Perform, Answer, succeeded, Outcome, denied, row, act_item}
use Rattle.cfdp_pdus.specs.Values.{MetadataFields, FileDataFields}
use Rattle.cfdp_pdus.specs.declared.header.Header.{Header}
use Rattle.cfdp_pdus.specs.declared.eof.Eof.{Eof}
use Rattle.cfdp_status.specs.declared.transaction.TransactionId.{TransactionId}
use Rattle.cfdp_verifier.specs.Verdict.{Verdict, Refuse, Grant, verdict}
use Rattle.cfdp_transactions.specs.Received.{kept_with, pieces, is_whole}
use Rattle.cfdp_transactions.specs.Entry.{Phase, Receiving, Awaiting, Executing, Refused, Done, Ended, Entry, id_of, is_live, is_receiving, takes_data, has_file}
use Rattle.cfdp_transactions.specs.Events.{Event, MetadataCame, DataCame, EofCame, Step, Cancel, Check, Take, Reply}
use Rattle.cfdp_transactions.specs.World.{World, bound, spare_blocks, leases_of, free, index_of, entry_of}
use Rattle.cfdp_transactions.specs.Admission.{judged, is_known_checksum, metadata_came, proposal_of}
use Rattle.cfdp_transactions.specs.Delivery.{is_right_checksum, whole, limit, storing, stores, after_eof, stored, data_came, eof_came, check_at, checked}
use Rattle.cfdp_transactions.specs.Execution.{is_install, replied}
use Rattle.cfdp_transactions.specs.Ending.{cancelled, taken_out}
use Rattle.cfdp_transactions.specs.Next.{for_us, next, run}
use Rattle.cfdp_transactions.specs.code.LowerLaws.{LowerLaws}
use Rattle.cfdp_transactions.specs.Sound.{Each, is_next_install, Sound}
use Rattle.cfdp_transactions.specs.Headline.{IsPerformed}
use Rattle.cfdp_transactions.specs.Beside.{is_step, says_installed, is_first, installs_next, installs, FirstIsInstalled}
use Rattle.cfdp_transactions.proofs.Soundness.RowAnswers.{HasStatus, row_of_request}
use Rattle.cfdp_transactions.proofs.KeptTable.Acting.{is_installed}
use Rattle.cfdp_transactions.proofs.Promises.ItemsListed.{has_install, first_is}
use Rattle.cfdp_transactions.specs.Beginning.{start_with, FirstIsInstalledFrom}
use Rattle.cfdp_transactions.proofs.Promises.ItemOrder.{IsInOrder, ordered_from}
use Rattle.cfdp_transactions.proofs.Soundness.NextWorld.{next_sound}
use Rattle.cfdp_transactions.proofs.Promises.Promise.{next_promised}
use Rattle.cfdp_transactions.proofs.Beginnings.Starting.{empty_good, good_sound}

-- the events that are no step ------------------------------------------------------------

record IsQuiet (a : World × Reply) : Type 0 where
  pub quiet : IsFalse (says_installed a.1)

judged_quiet : (W : World) (h : Header) (m : MetadataFields) (v : Verdict) → IsQuiet (judged W h m v)
judged_quiet W h m (Refuse r) = record { quiet = refl }
judged_quiet W h m (Grant items blocks steps) = record { quiet = refl }

metadata_quiet : (W : World) (h : Header) (m : MetadataFields) (o : Option Entry) → IsQuiet (metadata_came W h m o)
metadata_quiet W h m (Some e) = record { quiet = refl }
metadata_quiet W h m None =
    cond_both (nat_le 64 (length W.table)) _ _ IsQuiet (λ _. record { quiet = refl })
    (λ _. cond_both (nat_lt 64 (length m.requests)) _ _ IsQuiet (λ _. record { quiet = refl })
    (λ _. cond_both (has_file m && not (is_known_checksum m.checksum_type)) _ _ IsQuiet (λ _. record { quiet = refl })
    (λ _. judged_quiet W h m (verdict W.config.prefixes W.filestore (leases_of W.table) (spare_blocks W) (proposal_of W.config m)))))

whole_quiet : (W : World) (k : ℕ) (e : Entry) (sum : ℕ) → IsQuiet (whole W k e sum)
whole_quiet W k e sum = cond_both (is_right_checksum e sum) _ _ IsQuiet (λ _. record { quiet = refl }) (λ _. record { quiet = refl })

after_eof_quiet : (W : World) (k : ℕ) (e : Entry) (eof : Option Eof) → IsQuiet (after_eof eof W k e)
after_eof_quiet W k e None = record { quiet = refl }
after_eof_quiet W k e (Some eof) = cond_both (is_whole eof.size e.received) _ _ IsQuiet (λ _. whole_quiet W k e eof.checksum) (λ _. record { quiet = refl })

stored_quiet : (phase : Phase) (W : World) (k : ℕ) (e : Entry) → IsQuiet (stored phase W k e)
stored_quiet (Awaiting checks) W k e = after_eof_quiet W k e e.eof
stored_quiet Receiving W k e = record { quiet = refl }
stored_quiet (Executing next) W k e = record { quiet = refl }
stored_quiet Refused W k e = record { quiet = refl }
stored_quiet Done W k e = record { quiet = refl }
stored_quiet (Ended condition) W k e = record { quiet = refl }

data_quiet : (W : World) (k : ℕ) (piece : FileDataFields) (o : Option Entry) → IsQuiet (data_came W k piece o)
data_quiet W k piece None = record { quiet = refl }
data_quiet W k piece (Some e) =
    cond_both (takes_data e.phase) _ _ IsQuiet
    (λ _. cond_both (length piece.octets == 0) _ _ IsQuiet (λ _. record { quiet = refl })
    (λ _. cond_both (nat_lt (limit e.phase W.config e) (piece.offset + length piece.octets)) _ _ IsQuiet (λ _. record { quiet = refl })
    (λ _. cond_both (nat_lt 32 (pieces (kept_with e.received piece.offset piece.octets))) _ _ IsQuiet (λ _. record { quiet = refl })
    (λ _. stored_quiet e.phase (stores W k e (kept_with e.received piece.offset piece.octets)) k
    (storing W.filestore e (kept_with e.received piece.offset piece.octets))))))
    (λ _. record { quiet = refl })

eof_quiet : (W : World) (k : ℕ) (eof : Eof) (o : Option Entry) → IsQuiet (eof_came W k eof o)
eof_quiet W k eof None = record { quiet = refl }
eof_quiet W k eof (Some e) =
    cond_both (not (is_live e.phase)) _ _ IsQuiet (λ _. record { quiet = refl })
    (λ _. cond_both (not (eof.condition == 0)) _ _ IsQuiet (λ _. record { quiet = refl })
    (λ _. cond_both (not (is_receiving e.phase)) _ _ IsQuiet (λ _. record { quiet = refl })
    (λ _. cond_both (length e.items == 0) _ _ IsQuiet (λ _. record { quiet = refl })
    (λ _. cond_both (not (has_file e.metadata)) _ _ IsQuiet (λ _. record { quiet = refl })
    (λ _. cond_both (nat_lt (bound W.config e.metadata) eof.size || nat_lt eof.size (length e.received)) _ _ IsQuiet (λ _. record { quiet = refl })
    (λ _. cond_both (not (is_whole eof.size e.received)) _ _ IsQuiet (λ _. record { quiet = refl })
    (λ _. whole_quiet W k e eof.checksum)))))))

check_quiet : (phase : Phase) (W : World) (k : ℕ) (e : Entry) → IsQuiet (check_at phase W k e)
check_quiet (Awaiting checks) W k e = cond_both (nat_le W.config.checks (checks + 1)) _ _ IsQuiet (λ _. record { quiet = refl }) (λ _. record { quiet = refl })
check_quiet Receiving W k e = record { quiet = refl }
check_quiet (Executing next) W k e = record { quiet = refl }
check_quiet Refused W k e = record { quiet = refl }
check_quiet Done W k e = record { quiet = refl }
check_quiet (Ended condition) W k e = record { quiet = refl }

checked_quiet : (W : World) (k : ℕ) (o : Option Entry) → IsQuiet (checked W k o)
checked_quiet W k None = record { quiet = refl }
checked_quiet W k (Some e) = check_quiet e.phase W k e

cancelled_quiet : (W : World) (k : ℕ) (o : Option Entry) → IsQuiet (cancelled W k o)
cancelled_quiet W k None = record { quiet = refl }
cancelled_quiet W k (Some e) = cond_both (is_live e.phase) _ _ IsQuiet (λ _. record { quiet = refl }) (λ _. record { quiet = refl })

taken_quiet : (W : World) (k : ℕ) (o : Option Entry) → IsQuiet (taken_out W k o)
taken_quiet W k None = record { quiet = refl }
taken_quiet W k (Some e) = cond_both (is_live e.phase) _ _ IsQuiet (λ _. record { quiet = refl }) (λ _. record { quiet = refl })

for_us_quiet : (W : World) (h : Header) (a : World × Reply) → IsQuiet a → IsQuiet (for_us W h a)
for_us_quiet W h a quiet = cond_both (h.destination == W.config.entity) a _ IsQuiet (λ _. quiet) (λ _. record { quiet = refl })

next_quiet : (W : World) (event : Event) → IsFalse (is_step event) → IsQuiet (next W event)
next_quiet W (MetadataCame h m) other = for_us_quiet W h _ (metadata_quiet W h m (entry_of W (id_of h)))
next_quiet W (DataCame h piece) other = for_us_quiet W h _ (data_quiet W (index_of W (id_of h)) piece (entry_of W (id_of h)))
next_quiet W (EofCame h eof) other = for_us_quiet W h _ (eof_quiet W (index_of W (id_of h)) eof (entry_of W (id_of h)))
next_quiet W (Step id) other = absurd cc
next_quiet W (Cancel id) other = cancelled_quiet W (index_of W id) (entry_of W id)
next_quiet W (Check id) other = checked_quiet W (index_of W id) (entry_of W id)
next_quiet W (Take id) other = taken_quiet W (index_of W id) (entry_of W id)

-- items ----------------------------------------------------------------------------------

status_says : (answer : Answer) → HasStatus answer → says_installed (replied answer) ≡ false
status_says (Answer.Performed status) h = refl
status_says Answer.Installed h = elim h [ ]
status_says Answer.NotInstalled h = elim h [ ]

-- an item that goes well is answered 'installed' exactly where it is the install
act_says : (prefixes : List Path) (F : Filestore) (free slot : ℕ) (item : Item) → IsTrue (succeeded (act_item prefixes F free slot item).answer) →
    says_installed (replied (act_item prefixes F free slot item).answer) ≡ is_install item
act_says prefixes F free slot (Install p) good = ap (λ (answer : Answer). says_installed (replied answer)) (is_installed prefixes F free slot p good).answer
act_says prefixes F free slot (Perform request) good =
    let o = row prefixes F slot (Perform request) in
    cond_both (nat_le o.taken (free + o.given)) o (denied (Perform request)) (λ (done : Outcome). says_installed (replied done.answer) ≡ false)
    (λ _. status_says o.answer (row_of_request prefixes F slot request).answer) (λ _. refl)

none_at : (items : List Item) (n : ℕ) (item : Item) → has_install items ≡ false → slice_get items n ≡ Some item → is_install item ≡ false
none_at [] n item none at = absurd cc
none_at (x ∷ items) zero item none at = let same : x ≡ item = cc in ap is_install (sym same) ∙ (or_parts (is_install x) (has_install items) none).0
none_at (x ∷ items) (suc n) item none at = none_at items n item (or_parts (is_install x) (has_install items) none).1 at

-- which is the first one, where there is a file
install_is_first : (file : Bool) (items : List Item) (n : ℕ) (item : Item) → is_next_install items ≡ file → has_install (drop 1 items) ≡ false →
    slice_get items n ≡ Some item →
    is_install item ≡ ((n == 0) && file)
install_is_first file [] n item first following at = absurd cc
install_is_first file (x ∷ items) zero item first following at = let same : x ≡ item = cc in ap is_install (sym same) ∙ sym (first_is x items) ∙ first
install_is_first file (x ∷ items) (suc n) item first following at =
    let later : (suc n == 0) ≡ false = ne_eqb (suc n) 0 (λ e. absurd (omega arith)) in
    none_at items n item following at ∙ ap (λ here. here && file) (sym later)

-- steps ----------------------------------------------------------------------------------

module _ (laws : LowerLaws) (W : World) (s : Sound W) (all : Each IsInOrder W.table) where
  executing_says : (id : TransactionId) (e : Entry) (n : ℕ) → entry_of W id ≡ Some e → e.phase ≡ Executing n → says_installed (next W (Step id)).1
      ≡ ((n == 0) && has_file e.metadata)
  executing_says id e n found is =
      let p : IsPerformed W id e n = (next_promised laws W s (Step id)).performed id e n refl found is in
      let order = all (index_of W id) e found in
      ap says_installed p.reply
      ∙ act_says W.config.prefixes W.filestore (free W) e.slot p.item p.succeeds
      ∙ install_is_first (has_file e.metadata) e.items n p.item (order.first (rw is refl)) order.following p.is_next

  in_phase : (id : TransactionId) (e : Entry) (phase : Phase) → entry_of W id ≡ Some e → e.phase ≡ phase → says_installed (next W (Step id)).1
      ≡ (is_first phase && has_file e.metadata)
  in_phase id e (Executing n) found is = executing_says id e n found is
  in_phase id e Receiving found is = rw (found, is) refl
  in_phase id e (Awaiting checks) found is = rw (found, is) refl
  in_phase id e Refused found is = rw (found, is) refl
  in_phase id e Done found is = rw (found, is) refl
  in_phase id e (Ended condition) found is = rw (found, is) refl

  step_says : (id : TransactionId) (o : Option Entry) → entry_of W id ≡ o → says_installed (next W (Step id)).1 ≡ installs_next o
  step_says id None found = rw found refl
  step_says id (Some e) found = in_phase id e e.phase found refl

  next_says : (event : Event) → says_installed (next W event).1 ≡ installs W event
  next_says (Step id) = step_says id (entry_of W id) refl
  next_says (MetadataCame h m) = (next_quiet W (MetadataCame h m) refl).quiet
  next_says (DataCame h piece) = (next_quiet W (DataCame h piece) refl).quiet
  next_says (EofCame h eof) = (next_quiet W (EofCame h eof) refl).quiet
  next_says (Cancel id) = (next_quiet W (Cancel id) refl).quiet
  next_says (Check id) = (next_quiet W (Check id) refl).quiet
  next_says (Take id) = (next_quiet W (Take id) refl).quiet

run_sound : (laws : LowerLaws) (W : World) (events : List Event) → Sound W → Sound (run W events)
run_sound laws W [] s = s
run_sound laws W (event ∷ events) s = run_sound laws (next W event).0 events (next_sound laws W s event)

pub first_from : LowerLaws → FirstIsInstalledFrom
first_from laws c F events event good =
    next_says laws (run (start_with c F) events) (run_sound laws (start_with c F) events (good_sound c F good)) (ordered_from c F events) event

pub first_is_installed : LowerLaws → FirstIsInstalled
first_is_installed laws c events event = first_from laws c empty_filestore events event (empty_good c)
