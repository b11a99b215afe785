use Rattle.std.proofs.Common.{arith}
use Rattle.cfdp_transactions.specs.Entry.{id_of}
use Rattle.cfdp_transactions.specs.Events.{MetadataCame}
use Rattle.cfdp_transactions.specs.World.{entry_of}
use Rattle.cfdp_transactions.specs.Admission.{metadata_came}
use Rattle.cfdp_transactions.specs.code.Books.{Carries, world_of}
use Rattle.cfdp_transactions.proofs.KeptTable.Following.{carries_follows, absent_index, still_whole, ours, begins_so}
use Rattle.cfdp_transactions.proofs.KeptTable.WorldOfTable.{length_in}
use Rattle.cfdp_transactions.proofs.the_core.Core.record.Goals as goal

pub record-requires-clause-absent : goal.record-requires-clause-absent
record-requires-clause-absent g c =
    let s = g.S.Filestore.state c.self.inside.store in
    let b = c.self.inside.books in
    let begun = begins_so (world_of s b) c.args.header.now c.args.metadata (rw (← c.self.view_is) at c.requires.begins) in
    absent_index s b (id_of c.args.header.now) begun.absent

pub record-requires-clause-few : goal.record-requires-clause-few
record-requires-clause-few g c =
    let s = g.S.Filestore.state c.self.inside.store in
    let b = c.self.inside.books in
    let begun = begins_so (world_of s b) c.args.header.now c.args.metadata (rw (← c.self.view_is) at c.requires.begins) in
    omega (arith, begun.few, length_in s.filestore b.table)

pub record-requires-clause-short : goal.record-requires-clause-short
record-requires-clause-short g c =
    let s = g.S.Filestore.state c.self.inside.store in
    let b = c.self.inside.books in
    let begun = begins_so (world_of s b) c.args.header.now c.args.metadata (rw (← c.self.view_is) at c.requires.begins) in
    begun.short

pub invariant_of-self : goal.invariant_of-self
invariant_of-self g c =
    let s = g.S.Filestore.state c.self.inside.store in
    let b = c.self.inside.books in
    let d = c.record.new.books in
    let h = c.args.header.now in
    let m = c.args.metadata in
    let begun = begins_so (world_of s b) h m (rw (← c.self.view_is) at c.requires.begins) in
    let carried : Carries (world_of s b) (world_of s d) (metadata_came (world_of s b) h m (entry_of (world_of s b) (id_of h))) c.record.result =
    rw begun.absent c.record.ensures.answer in
    let follows = carries_follows (world_of s b) (world_of s d) (MetadataCame h m) c.record.result (ours (world_of s b) _ h _ _ begun.mine carried) in
    still_whole c.follows_is_sound.ensures s s b d (MetadataCame h m) c.record.result c.self.invariant follows c.record.ensures.booked

pub returns-clause-follows : goal.returns-clause-follows
returns-clause-follows g c =
    let s = g.S.Filestore.state c.self.inside.store in
    let b = c.self.inside.books in
    let d = c.record.new.books in
    let h = c.args.header.now in
    let m = c.args.metadata in
    let begun = begins_so (world_of s b) h m (rw (← c.self.view_is) at c.requires.begins) in
    let carried : Carries (world_of s b) (world_of s d) (metadata_came (world_of s b) h m (entry_of (world_of s b) (id_of h))) c.record.result =
    rw begun.absent c.record.ensures.answer in
    let follows = carries_follows (world_of s b) (world_of s d) (MetadataCame h m) c.record.result (ours (world_of s b) _ h _ _ begun.mine carried) in
    rw (← c.self.view_is) follows
