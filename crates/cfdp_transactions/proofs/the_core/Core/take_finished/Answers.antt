use Rattle.std.proofs.Common.{refl, arith}
use Rattle.cfdp_transactions.specs.code.Books.{world_of}
use Rattle.cfdp_transactions.specs.Events.{Take}
use Rattle.cfdp_transactions.proofs.FinishedPdus.FinishedTaken.{returned_so, writable_at}
use Rattle.cfdp_transactions.proofs.KeptTable.Following.{absent_entry}
use Rattle.cfdp_transactions.proofs.the_core.Core.take_finished.Goals as goal

pub take_finished-requires-clause-writable : goal.take_finished-requires-clause-writable
take_finished-requires-clause-writable g c =
    let s = g.S.Filestore.state c.self.inside.store in
    let b = c.self.inside.books in
    writable_at s b c.args.id c.in-Some.index c.in-Some.ensures.found (rw (← c.self.view_is) at c.requires.writable)

pub invariant_of-self : goal.invariant_of-self
invariant_of-self g c =
    let s = g.S.Filestore.state c.self.inside.store in
    let b = c.self.inside.books in
    let returned = returned_so s b c.args.id c.in-Some.index c.in-Some.ensures.found c.in-Some.ensures.within
    (world_of s c.take_finished.new.books) c.args.out.now c.take_finished.new.out c.take_finished.result c.take_finished.ensures.ok
    c.take_finished.ensures.err in
    record {
      sound = returned.sound c.self.invariant.sound (c.next_is_sound.ensures (world_of s b) (Take c.args.id) c.self.invariant.sound);
      booked = c.take_finished.ensures.booked;
    }

pub returns-clause-returned : goal.returns-clause-returned
returns-clause-returned g c =
    let s = g.S.Filestore.state c.self.inside.store in
    let b = c.self.inside.books in
    let returned = returned_so s b c.args.id c.in-Some.index c.in-Some.ensures.found c.in-Some.ensures.within
    (world_of s c.take_finished.new.books) c.args.out.now c.take_finished.new.out c.take_finished.result c.take_finished.ensures.ok
    c.take_finished.ensures.err in
    rw (← c.self.view_is) returned.returned

pub returns-clause-world : goal.returns-clause-world
returns-clause-world g c =
    let s = g.S.Filestore.state c.self.inside.store in
    let b = c.self.inside.books in
    let returned = returned_so s b c.args.id c.in-Some.index c.in-Some.ensures.found c.in-Some.ensures.within
    (world_of s c.take_finished.new.books) c.args.out.now c.take_finished.new.out c.take_finished.result c.take_finished.ensures.ok
    c.take_finished.ensures.err in
    rw (← c.self.view_is) returned.world

pub returns-clause-written : goal.returns-clause-written
returns-clause-written g c =
    let s = g.S.Filestore.state c.self.inside.store in
    let b = c.self.inside.books in
    let returned = returned_so s b c.args.id c.in-Some.index c.in-Some.ensures.found c.in-Some.ensures.within
    (world_of s c.take_finished.new.books) c.args.out.now c.take_finished.new.out c.take_finished.result c.take_finished.ensures.ok
    c.take_finished.ensures.err in
    rw (← c.self.view_is) returned.octets

pub returns-clause-fits : goal.returns-clause-fits
returns-clause-fits g c =
    let s = g.S.Filestore.state c.self.inside.store in
    let b = c.self.inside.books in
    let returned = returned_so s b c.args.id c.in-Some.index c.in-Some.ensures.found c.in-Some.ensures.within
    (world_of s c.take_finished.new.books) c.args.out.now c.take_finished.new.out c.take_finished.result c.take_finished.ensures.ok
    c.take_finished.ensures.err in
    rw (← c.self.view_is) returned.fits

pub returns-clause-needed : goal.returns-clause-needed
returns-clause-needed g c =
    let s = g.S.Filestore.state c.self.inside.store in
    let b = c.self.inside.books in
    let returned = returned_so s b c.args.id c.in-Some.index c.in-Some.ensures.found c.in-Some.ensures.within
    (world_of s c.take_finished.new.books) c.args.out.now c.take_finished.new.out c.take_finished.result c.take_finished.ensures.ok
    c.take_finished.ensures.err in
    rw (← c.self.view_is) returned.needed

pub returns-clause-less : goal.returns-clause-less
returns-clause-less g c =
    let s = g.S.Filestore.state c.self.inside.store in
    let b = c.self.inside.books in
    let returned = returned_so s b c.args.id c.in-Some.index c.in-Some.ensures.found c.in-Some.ensures.within
    (world_of s c.take_finished.new.books) c.args.out.now c.take_finished.new.out c.take_finished.result c.take_finished.ensures.ok
    c.take_finished.ensures.err in
    returned.less

pub returns-clause-unchanged : goal.returns-clause-unchanged
returns-clause-unchanged g c =
    let s = g.S.Filestore.state c.self.inside.store in
    let b = c.self.inside.books in
    let returned = returned_so s b c.args.id c.in-Some.index c.in-Some.ensures.found c.in-Some.ensures.within
    (world_of s c.take_finished.new.books) c.args.out.now c.take_finished.new.out c.take_finished.result c.take_finished.ensures.ok
    c.take_finished.ensures.err in
    rw (← c.self.view_is) returned.unchanged

pub returns-clause-unwritten : goal.returns-clause-unwritten
returns-clause-unwritten g c =
    let s = g.S.Filestore.state c.self.inside.store in
    let b = c.self.inside.books in
    let returned = returned_so s b c.args.id c.in-Some.index c.in-Some.ensures.found c.in-Some.ensures.within
    (world_of s c.take_finished.new.books) c.args.out.now c.take_finished.new.out c.take_finished.result c.take_finished.ensures.ok
    c.take_finished.ensures.err in
    returned.unwritten

pub returns-in_default-clause-returned : goal.returns-in_default-clause-returned
returns-in_default-clause-returned g c =
    let s = g.S.Filestore.state c.self.inside.store in
    let b = c.self.inside.books in
    let none = absent_entry s b c.args.id (rw c.in_default.is at c.find.ensures.absent) in
    rw (← c.self.view_is, none) refl

pub returns-in_default-clause-world : goal.returns-in_default-clause-world
returns-in_default-clause-world g c =
    let s = g.S.Filestore.state c.self.inside.store in
    let b = c.self.inside.books in
    let none = absent_entry s b c.args.id (rw c.in_default.is at c.find.ensures.absent) in
    rw (← c.self.view_is, none) refl

pub returns-in_default-clause-written : goal.returns-in_default-clause-written
returns-in_default-clause-written g c =
    let s = g.S.Filestore.state c.self.inside.store in
    let b = c.self.inside.books in
    let none = absent_entry s b c.args.id (rw c.in_default.is at c.find.ensures.absent) in
    rw (← c.self.view_is, none) refl

pub returns-in_default-clause-fits : goal.returns-in_default-clause-fits
returns-in_default-clause-fits g c =
    let s = g.S.Filestore.state c.self.inside.store in
    let b = c.self.inside.books in
    let none = absent_entry s b c.args.id (rw c.in_default.is at c.find.ensures.absent) in
    rw (← c.self.view_is, none) (omega arith)
