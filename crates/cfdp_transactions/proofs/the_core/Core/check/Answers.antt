use Rattle.std.proofs.Common.{refl}
use Rattle.cfdp_transactions.specs.Events.{Check}
use Rattle.cfdp_transactions.specs.Delivery.{checked}
use Rattle.cfdp_transactions.specs.code.Books.{world_of}
use Rattle.cfdp_transactions.proofs.KeptTable.Following.{carries_follows, found_carries, absent_entry, still_whole}
use Rattle.cfdp_transactions.proofs.the_core.Core.check.Goals as goal

pub invariant_of-self : goal.invariant_of-self
invariant_of-self g c =
    let s = g.S.Filestore.state c.self.inside.store in
    let b = c.self.inside.books in
    let t = g.S.Filestore.state c.check.new.store in
    let d = c.check.new.books in
    let carried = found_carries s b c.args.id (λ k o. checked (world_of s b) k o)
    (world_of t d) c.check.result c.in-Some.index c.in-Some.ensures.found c.in-Some.ensures.within c.check.ensures.answer in
    let follows = carries_follows (world_of s b) (world_of t d) (Check c.args.id) c.check.result carried in
    still_whole c.follows_is_sound.ensures s t b d (Check c.args.id) c.check.result c.self.invariant follows c.check.ensures.booked

pub returns-clause-follows : goal.returns-clause-follows
returns-clause-follows g c =
    let s = g.S.Filestore.state c.self.inside.store in
    let b = c.self.inside.books in
    let t = g.S.Filestore.state c.check.new.store in
    let d = c.check.new.books in
    let carried = found_carries s b c.args.id (λ k o. checked (world_of s b) k o)
    (world_of t d) c.check.result c.in-Some.index c.in-Some.ensures.found c.in-Some.ensures.within c.check.ensures.answer in
    let follows = carries_follows (world_of s b) (world_of t d) (Check c.args.id) c.check.result carried in
    rw (← c.self.view_is) follows

pub returns-in_default-clause-follows : goal.returns-in_default-clause-follows
returns-in_default-clause-follows g c =
    let s = g.S.Filestore.state c.self.inside.store in
    let b = c.self.inside.books in
    let none = absent_entry s b c.args.id (rw c.in_default.is at c.find.ensures.absent) in
    rw (← c.self.view_is, none) refl
