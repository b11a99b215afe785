use Rattle.std.proofs.Common.{◌≡◌, ◌<◌, ◌≤◌, length, ◌∙◌, sym, refl, true, arith}
use Rattle.std.proofs.lemmas.Bool.{both_ways, eq-eqb}
use Rattle.std.specs.Prelude.{◌==◌}
use Rattle.cfdp_transactions.specs.Entry.{id_of}
use Rattle.cfdp_transactions.specs.code.Books.{world_of}
use Rattle.cfdp_transactions.specs.CoreFields.{may_begin}
use Rattle.cfdp_transactions.proofs.KeptTable.Following.{found_some, absent_none, begins_when, full_answer, long_answer}
use Rattle.cfdp_transactions.proofs.KeptTable.WorldOfTable.{length_in}
use Rattle.cfdp_transactions.proofs.the_core.Core.judge.Goals as goal

pub returns-then-is_some-clause-follows : goal.returns-then-is_some-clause-follows
returns-then-is_some-clause-follows g c =
    let s = g.S.Filestore.state c.self.inside.store in
    let b = c.self.inside.books in
    let mine : (c.args.header.now.destination == b.config.entity) ≡ true = eq-eqb _ _ (c.if-header-entity.false ∙ c.entity.ensures) in
    let there = found_some s b (id_of c.args.header.now) c.find.result (rw c.transaction_of.ensures at c.find.ensures.found) c.find.ensures.within
    (sym c.is_some.ensures ∙ c.if-is_some.true) in
    rw (← c.self.view_is, mine, there.1) refl

pub returns-then-len-ge-MOST_TRANSACTIONS-clause-follows : goal.returns-then-len-ge-MOST_TRANSACTIONS-clause-follows
returns-then-len-ge-MOST_TRANSACTIONS-clause-follows g c =
    let s = g.S.Filestore.state c.self.inside.store in
    let b = c.self.inside.books in
    let mine : (c.args.header.now.destination == b.config.entity) ≡ true = eq-eqb _ _ (c.if-header-entity.false ∙ c.entity.ensures) in
    let none = absent_none s b (id_of c.args.header.now) c.find.result (rw c.transaction_of.ensures at c.find.ensures.absent) (sym c.is_some.ensures
    ∙ c.if-is_some.false) in
    let full : 64 ≤ length (world_of s b).table = omega (arith, c.len.ensures, c.if-len-ge-MOST_TRANSACTIONS.true, length_in s.filestore b.table) in
    rw (← c.self.view_is) (full_answer (world_of s b) c.args.header.now c.args.metadata.now mine none full)

pub returns-then-len-gt-MOST_REQUESTS-clause-follows : goal.returns-then-len-gt-MOST_REQUESTS-clause-follows
returns-then-len-gt-MOST_REQUESTS-clause-follows g c =
    let s = g.S.Filestore.state c.self.inside.store in
    let b = c.self.inside.books in
    let m = c.args.metadata.now in
    let mine : (c.args.header.now.destination == b.config.entity) ≡ true = eq-eqb _ _ (c.if-header-entity.false ∙ c.entity.ensures) in
    let none = absent_none s b (id_of c.args.header.now) c.find.result (rw c.transaction_of.ensures at c.find.ensures.absent) (sym c.is_some.ensures
    ∙ c.if-is_some.false) in
    let few : length (world_of s b).table < 64 = omega (arith, c.len.ensures, c.if-len-ge-MOST_TRANSACTIONS.false, length_in s.filestore b.table) in
    let long : 64 < length m.requests = rw (← c.metadata.view_is) (omega (arith, c.len-2.ensures, c.if-len-gt-MOST_REQUESTS.true)) in
    rw (← c.self.view_is) (long_answer (world_of s b) c.args.header.now m mine none few long)

pub returns-in-Ok-clause-begins : goal.returns-in-Ok-clause-begins
returns-in-Ok-clause-begins g c =
    let s = g.S.Filestore.state c.self.inside.store in
    let b = c.self.inside.books in
    let m = c.args.metadata.now in
    let mine : (c.args.header.now.destination == b.config.entity) ≡ true = eq-eqb _ _ (c.if-header-entity.false ∙ c.entity.ensures) in
    let none = absent_none s b (id_of c.args.header.now) c.find.result (rw c.transaction_of.ensures at c.find.ensures.absent) (sym c.is_some.ensures
    ∙ c.if-is_some.false) in
    let few : length (world_of s b).table < 64 = omega (arith, c.len.ensures, c.if-len-ge-MOST_TRANSACTIONS.false, length_in s.filestore b.table) in
    let short : length m.requests ≤ 64 = rw (← c.metadata.view_is) (omega (arith, c.len-2.ensures, c.if-len-gt-MOST_REQUESTS.false)) in
    rw (← c.self.view_is) (begins_when (world_of s b) c.args.header.now m (record { mine = mine; absent = none; few = few; short = short }))

pub returns-in-Ok-clause-ruled : goal.returns-in-Ok-clause-ruled
returns-in-Ok-clause-ruled g c = rw (← c.self.view_is) c.in-Ok.ensures.ruled

pub returns-in-Err-clause-lean : goal.returns-in-Err-clause-lean
returns-in-Err-clause-lean g c =
    let s = g.S.Filestore.state c.self.inside.store in
    let b = c.self.inside.books in
    let h = c.args.header.now in
    let m = c.args.metadata.now in
    let mine : (h.destination == b.config.entity) ≡ true = eq-eqb _ _ (c.if-header-entity.false ∙ c.entity.ensures) in
    let none = absent_none s b (id_of h) c.find.result (rw c.transaction_of.ensures at c.find.ensures.absent) (sym c.is_some.ensures ∙ c.if-is_some.false) in
    let few : length (world_of s b).table < 64 = omega (arith, c.len.ensures, c.if-len-ge-MOST_TRANSACTIONS.false, length_in s.filestore b.table) in
    let short : length m.requests ≤ 64 = rw (← c.metadata.view_is) (omega (arith, c.len-2.ensures, c.if-len-gt-MOST_REQUESTS.false)) in
    let begun = begins_when (world_of s b) h m (record { mine = mine; absent = none; few = few; short = short }) in
    rw (← c.self.view_is) (λ begins_none. both_ways (may_begin (world_of s b) h m) begins_none begun)
