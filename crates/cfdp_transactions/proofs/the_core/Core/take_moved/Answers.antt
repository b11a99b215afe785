use Rattle.std.proofs.Common.{refl}
use Rattle.cfdp_transactions.specs.Events.{Take}
use Rattle.cfdp_transactions.specs.Ending.{taken_out}
use Rattle.cfdp_transactions.specs.code.Books.{world_of}
use Rattle.cfdp_transactions.proofs.KeptTable.Following.{carries_follows, found_carries, absent_entry, live_index, still_whole}
use Rattle.cfdp_transactions.proofs.the_core.Core.take_moved.Goals as goal

pub invariant_of-self : goal.invariant_of-self
invariant_of-self g c =
    let s = g.S.Filestore.state c.self.inside.store in
    let b = c.self.inside.books in
    let t = s in
    let d = c.take_moved.new.books in
    let carried = found_carries s b c.args.id (λ k o. taken_out (world_of s b) k o)
    (world_of t d) c.take_moved.result c.in-Some.index c.in-Some.ensures.found c.in-Some.ensures.within c.take_moved.ensures.answer in
    let follows = carries_follows (world_of s b) (world_of t d) (Take c.args.id) c.take_moved.result carried in
    still_whole c.follows_is_sound.ensures s t b d (Take c.args.id) c.take_moved.result c.self.invariant follows c.take_moved.ensures.booked

pub returns-clause-follows : goal.returns-clause-follows
returns-clause-follows g c =
    let s = g.S.Filestore.state c.self.inside.store in
    let b = c.self.inside.books in
    let t = s in
    let d = c.take_moved.new.books in
    let carried = found_carries s b c.args.id (λ k o. taken_out (world_of s b) k o)
    (world_of t d) c.take_moved.result c.in-Some.index c.in-Some.ensures.found c.in-Some.ensures.within c.take_moved.ensures.answer in
    let follows = carries_follows (world_of s b) (world_of t d) (Take c.args.id) c.take_moved.result carried in
    rw (← c.self.view_is) follows

pub returns-in_default-clause-follows : goal.returns-in_default-clause-follows
returns-in_default-clause-follows g c =
    let s = g.S.Filestore.state c.self.inside.store in
    let b = c.self.inside.books in
    let none = absent_entry s b c.args.id (rw c.in_default.is at c.find.ensures.absent) in
    rw (← c.self.view_is, none) refl

pub returns-clause-lean : goal.returns-clause-lean
returns-clause-lean g c = λ none.
    let s = g.S.Filestore.state c.self.inside.store in
    let b = c.self.inside.books in
    c.take_moved.ensures.lean (live_index s b c.args.id c.in-Some.index c.in-Some.ensures.found c.in-Some.ensures.within (rw (← c.self.view_is) at none))
