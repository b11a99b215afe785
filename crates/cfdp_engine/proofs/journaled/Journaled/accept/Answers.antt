use Rattle.std.proofs.Common.{◌≡◌, ◌<◌, refl, ap, length, arith, ◌∙◌}
use Rattle.std.specs.Arc.{arc_value}
use Rattle.cfdp_transactions.specs.declared.reply.Reply.{Reply}
use Rattle.cfdp_transactions.specs.Config.{Config}
use Rattle.cfdp_transactions.specs.Needs.{Follows}
use Rattle.cfdp_engine.specs.Journal.{Recorded}
use Rattle.cfdp_engine.proofs.Accepting.{taken, not_full, below, entered_more, whole_more}
use Rattle.cfdp_engine.proofs.journaled.Journaled.accept.Goals as goal

pub invariant_of-self-in_default : goal.invariant_of-self-in_default
invariant_of-self-in_default g c =
    let j : Recorded = record { core = c.self.inside.core; journal = c.self.inside.entries.items } in
    let reply = c.apply_both-reply.result.1 in
    let follows : Follows j.core.world c.new-event.result reply c.apply_both-reply.new.self.world =
    rw (c.apply_both-reply.ensures.same, ← c.event-2.ensures) c.apply_both-reply.ensures.follows in
    let room : length j.journal < j.core.world.config.journal = omega (arith, ap (λ (config : Config). config.journal) c.config.ensures) in
    rw (c.push_reserved.ensures.capacity, c.push_reserved.ensures.items) (whole_more j c.args.seat c.new-event.result reply c.apply_both-reply.new.self follows
    c.in_default.not-Memory _ c.self.invariant room)

pub returns-in_default : goal.returns-in_default
returns-in_default g c =
    let j : Recorded = record { core = c.self.inside.core; journal = c.self.inside.entries.items } in
    let reply = c.apply_both-reply.result.0 in
    let follows : Follows j.core.world (arc_value c.args.event) reply c.apply_both-reply.new.self.world =
    rw (← c.new-event.ensures, ← c.event-2.ensures) c.apply_both-reply.ensures.follows in
    let other : reply ≡ Reply.Memory → ⊥ = λ q. c.in_default.not-Memory (c.apply_both-reply.ensures.same ∙ q) in
    let room : length j.journal < j.core.world.config.journal = omega (arith, ap (λ (config : Config). config.journal) c.config.ensures) in
    rw (← c.self.view_is) (record {
      full = (
        λ q. absurd (not_full reply (taken j c.args.seat (arc_value c.args.event) reply c.apply_both-reply.new.self follows other) q),
        λ full. absurd (below j room full),
      );
      unchanged = λ full. absurd (below j room full);
      follows = λ _. follows;
      journal = rw (
        c.push_reserved.ensures.items,
        c.new-event.ensures,
        c.apply_both-reply.ensures.same,
        entered_more j c.args.seat (arc_value c.args.event) reply c.apply_both-reply.new.self follows other,
      ) refl;
      answered = rw (← c.new-event.ensures, ← c.event-2.ensures) c.apply_both-reply.ensures.answered;
      lean = rw (← c.new-event.ensures, ← c.event-2.ensures) c.apply_both-reply.ensures.lean;
      steady = c.apply_both-reply.ensures.steady;
    })
