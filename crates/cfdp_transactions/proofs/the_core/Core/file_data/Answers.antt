use Rattle.std.proofs.Common.{◌≡◌, ◌∙◌, refl, true}
use Rattle.std.proofs.lemmas.Bool.{eq-eqb}
use Rattle.std.specs.Prelude.{◌==◌}
use Rattle.cfdp_transactions.specs.Entry.{id_of}
use Rattle.cfdp_transactions.specs.Events.{DataCame}
use Rattle.cfdp_transactions.specs.Delivery.{data_came}
use Rattle.cfdp_transactions.specs.code.Books.{world_of}
use Rattle.cfdp_transactions.proofs.KeptTable.Following.{carries_follows, found_carries, absent_entry, still_whole, ours}
use Rattle.cfdp_transactions.proofs.the_core.Core.file_data.Goals as goal

pub invariant_of-self : goal.invariant_of-self
invariant_of-self g c =
    let s = g.S.Filestore.state c.self.inside.store in
    let b = c.self.inside.books in
    let t = g.S.Filestore.state c.receive.new.store in
    let d = c.receive.new.books in
    let carried = found_carries s b (id_of c.args.header.now) (λ k o. data_came (world_of s b) k c.args.piece.now o)
    (world_of t d) c.receive.result c.in-Some.index (rw c.transaction_of.ensures at c.in-Some.ensures.found) c.in-Some.ensures.within
    c.receive.ensures.answer in
    let mine : (c.args.header.now.destination == b.config.entity) ≡ true = eq-eqb _ _ (c.if-header-entity.false ∙ c.entity.ensures) in
    let follows = carries_follows (world_of s b) (world_of t d) (DataCame c.args.header.now c.args.piece.now) c.receive.result
    (ours (world_of s b) _ c.args.header.now _ _ mine carried) in
    still_whole c.follows_is_sound.ensures s t b d (DataCame c.args.header.now c.args.piece.now) c.receive.result c.self.invariant follows
    c.receive.ensures.booked

pub returns-clause-follows : goal.returns-clause-follows
returns-clause-follows g c =
    let s = g.S.Filestore.state c.self.inside.store in
    let b = c.self.inside.books in
    let t = g.S.Filestore.state c.receive.new.store in
    let d = c.receive.new.books in
    let carried = found_carries s b (id_of c.args.header.now) (λ k o. data_came (world_of s b) k c.args.piece.now o)
    (world_of t d) c.receive.result c.in-Some.index (rw c.transaction_of.ensures at c.in-Some.ensures.found) c.in-Some.ensures.within
    c.receive.ensures.answer in
    let mine : (c.args.header.now.destination == b.config.entity) ≡ true = eq-eqb _ _ (c.if-header-entity.false ∙ c.entity.ensures) in
    let follows = carries_follows (world_of s b) (world_of t d) (DataCame c.args.header.now c.args.piece.now) c.receive.result
    (ours (world_of s b) _ c.args.header.now _ _ mine carried) in
    rw (← c.self.view_is) follows

pub returns-in_default-clause-follows : goal.returns-in_default-clause-follows
returns-in_default-clause-follows g c =
    let s = g.S.Filestore.state c.self.inside.store in
    let b = c.self.inside.books in
    let none = absent_entry s b (id_of c.args.header.now) (rw (c.in_default.is, c.transaction_of.ensures) at c.find.ensures.absent) in
    let mine : (c.args.header.now.destination == b.config.entity) ≡ true = eq-eqb _ _ (c.if-header-entity.false ∙ c.entity.ensures) in
    rw (← c.self.view_is, mine, none) refl

pub receive-requires-clause-laws : goal.receive-requires-clause-laws
receive-requires-clause-laws g c = c.lower_laws.ensures

pub returns-clause-answered : goal.returns-clause-answered
returns-clause-answered g c =
    let thrifty = c.receive.ensures.answered in
    rw (← c.self.view_is) thrifty
