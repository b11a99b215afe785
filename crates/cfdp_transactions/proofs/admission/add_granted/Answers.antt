use Rattle.std.proofs.Common.{◌≡◌, [], ◌∷◌, ◌++◌, refl, ap, ◌∙◌}
use Rattle.std.specs.Prelude.{remove}
use Rattle.cfdp_verifier.specs.Answers.{granted_items}
use Rattle.cfdp_leases.specs.Footprint.{footprint_of}
use Rattle.cfdp_transactions.specs.Entry.{Receiving, id_of}
use Rattle.cfdp_transactions.specs.code.TableEntries.{kept_name, fresh_entry}
use Rattle.cfdp_transactions.proofs.KeptTable.FirstClosed.{first_free}
use Rattle.cfdp_transactions.proofs.KeptTable.EntryGranted.{unheld, remove_last, granted_adds, granted_booked}
use Rattle.cfdp_transactions.proofs.admission.add_granted.Goals as goal

pub returns-in_err-push-clause-booked : goal.returns-in_err-push-clause-booked
returns-in_err-push-clause-booked g c = rw c.in_err-push.ensures.err c.requires.booked

pub grant-requires-clause-unheld : goal.grant-requires-clause-unheld
grant-requires-clause-unheld g c =
    let name : c.name-transaction.result ≡ id_of c.args.header.now = c.name-transaction.ensures ∙ ap kept_name c.new-entry.ensures in
    rw name (unheld (g.S.Filestore.state c.args.store.now) c.args.books.now c.requires.booked (id_of c.args.header.now) c.requires.absent)

pub returns-in-Err-clause-err : goal.returns-in-Err-clause-err
returns-in-Err-clause-err g c =
    let back : c.forget.new.self ≡ c.args.books.now.table =
    c.forget.ensures ∙ ap (λ table_entries. remove table_entries c.len-index.result) c.in_ok-push.ensures.ok
    ∙ remove_last c.args.books.now.table c.new-entry.result c.len-index.result c.len-index.ensures in
    rw back refl

pub returns-in-Err-clause-booked : goal.returns-in-Err-clause-booked
returns-in-Err-clause-booked g c =
    let back : c.forget.new.self ≡ c.args.books.now.table =
    c.forget.ensures ∙ ap (λ table_entries. remove table_entries c.len-index.result) c.in_ok-push.ensures.ok
    ∙ remove_last c.args.books.now.table c.new-entry.result c.len-index.result c.len-index.ensures in
    rw (back, c.in-Err.ensures.refused) c.requires.booked

pub reserve-requires-clause-slot : goal.reserve-requires-clause-slot
reserve-requires-clause-slot g c =
    (first_free (g.S.Filestore.state c.args.store.now) c.args.books.now c.requires.sound c.requires.booked c.requires.few c.first_closed-slot.result
    c.first_closed-slot.ensures.closed c.first_closed-slot.ensures.before).1

pub reserve-requires-clause-closed : goal.reserve-requires-clause-closed
reserve-requires-clause-closed g c =
    c.first_closed-slot.ensures.closed (first_free (g.S.Filestore.state c.args.store.now) c.args.books.now c.requires.sound c.requires.booked c.requires.few
    c.first_closed-slot.result c.first_closed-slot.ensures.closed c.first_closed-slot.ensures.before).1

pub returns-clause-adds : goal.returns-clause-adds
returns-clause-adds g c =
    let s = g.S.Filestore.state c.args.store.now in
    let slot = (first_free s c.args.books.now c.requires.sound c.requires.booked c.requires.few c.first_closed-slot.result c.first_closed-slot.ensures.closed
    c.first_closed-slot.ensures.before).0 in
    let table_entry : c.new-entry.result ≡ fresh_entry c.args.header.now c.args.metadata Receiving c.first_closed-slot.result
    (granted_items c.args.grant) c.args.grant.blocks c.args.grant.steps =
    c.new-entry.ensures in
    rw (c.in_ok-push.ensures.ok, table_entry)
    (granted_adds s c.args.books.now c.requires.sound c.requires.booked c.requires.few c.args.header.now c.args.metadata c.first_closed-slot.result
    c.args.grant.blocks c.args.grant.steps (granted_items c.args.grant) slot)

pub returns-clause-booked : goal.returns-clause-booked
returns-clause-booked g c =
    let s = g.S.Filestore.state c.args.store.now in
    let b = c.args.books.now in
    let slot = (first_free s b c.requires.sound c.requires.booked c.requires.few c.first_closed-slot.result c.first_closed-slot.ensures.closed
    c.first_closed-slot.ensures.before).0 in
    let table_entry : c.new-entry.result ≡ fresh_entry c.args.header.now c.args.metadata Receiving c.first_closed-slot.result
    (granted_items c.args.grant) c.args.grant.blocks c.args.grant.steps =
    c.new-entry.ensures in
    let name : c.name-transaction.result ≡ id_of c.args.header.now = c.name-transaction.ensures ∙ ap kept_name c.new-entry.ensures in
    let leases : c.grant.new.self ≡ b.leases ++ (id_of c.args.header.now, footprint_of (granted_items c.args.grant)) ∷ [] =
    c.in_default.ensures.granted ∙ ap (λ id. b.leases ++ (id, c.args.grant.footprint) ∷ []) name
    ∙ ap (λ fp. b.leases ++ (id_of c.args.header.now, fp) ∷ []) c.requires.footprint in
    rw (c.in_ok-push.ensures.ok, table_entry, leases)
    (granted_booked s b c.requires.sound c.requires.booked c.requires.few c.args.header.now c.args.metadata c.first_closed-slot.result c.args.grant.blocks
    c.args.grant.steps (granted_items c.args.grant) slot
    c.reserve.new.self c.reserve.ensures.reserved c.reserve.ensures.opened c.reserve.ensures.spare)
