use Rattle.std.proofs.Common.{refl}
use Rattle.cfdp_transactions.specs.Events.{Take}
use Rattle.cfdp_transactions.specs.Ending.{taken_out}
use Rattle.cfdp_transactions.specs.code.Books.{world_of}
use Rattle.cfdp_transactions.proofs.KeptTable.Following.{carries_follows, found_carries, absent_entry, outcome_made, still_whole}
use Rattle.cfdp_transactions.proofs.the_core.Core.hand_out.Goals as goal

pub invariant_of-self : goal.invariant_of-self
invariant_of-self g c =
    let s = g.S.Filestore.state c.self.inside.store in
    let b = c.self.inside.books in
    let t = s in
    let d = c.hand_out.new.books in
    let carried = found_carries s b c.args.id (λ k o. taken_out (world_of s b) k o)
    (world_of t d) c.hand_out.result c.in-Some.index c.in-Some.ensures.found c.in-Some.ensures.within c.hand_out.ensures.answer in
    let follows = carries_follows (world_of s b) (world_of t d) (Take c.args.id) c.hand_out.result carried in
    still_whole c.follows_is_sound.ensures s t b d (Take c.args.id) c.hand_out.result c.self.invariant follows c.hand_out.ensures.booked

pub returns-clause-follows : goal.returns-clause-follows
returns-clause-follows g c =
    let s = g.S.Filestore.state c.self.inside.store in
    let b = c.self.inside.books in
    let t = s in
    let d = c.hand_out.new.books in
    let carried = found_carries s b c.args.id (λ k o. taken_out (world_of s b) k o)
    (world_of t d) c.hand_out.result c.in-Some.index c.in-Some.ensures.found c.in-Some.ensures.within c.hand_out.ensures.answer in
    let follows = carries_follows (world_of s b) (world_of t d) (Take c.args.id) c.hand_out.result carried in
    rw (← c.self.view_is) follows

pub returns-in_default-clause-follows : goal.returns-in_default-clause-follows
returns-in_default-clause-follows g c =
    let s = g.S.Filestore.state c.self.inside.store in
    let b = c.self.inside.books in
    let none = absent_entry s b c.args.id (rw c.in_default.is at c.find.ensures.absent) in
    rw (← c.self.view_is, none) refl

pub hand_out-requires-clause-made : goal.hand_out-requires-clause-made
hand_out-requires-clause-made g c =
    let s = g.S.Filestore.state c.self.inside.store in
    let b = c.self.inside.books in
    outcome_made s b c.args.id c.in-Some.index c.in-Some.ensures.found c.args.outcome (rw (← c.self.view_is) at c.requires.made)
