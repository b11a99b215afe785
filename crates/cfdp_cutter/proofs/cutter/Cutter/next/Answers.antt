use Rattle.std.proofs.Common.{◌≡◌, ◌/◌, ◌==◌, ◌∙◌, ap, length, rules, Some, None, false}
use Rattle.std.specs.Prelude.{slice_get}
use Rattle.std.proofs.lemmas.Bool.{ne_eqb, eqb-true, eqb-false}
use Rattle.std.proofs.lemmas.List.{nil_from_length}
use Rattle.cfdp_cutter.specs.Cutting.{first_pdu}
use Rattle.cfdp_cutter.proofs.Filling.{nothing_open, lost_here, going_on, going_empty, going_next, got, nothing_at}
use Rattle.cfdp_cutter.proofs.cutter.Cutter.next.Goals as goal
use Rattle.cfdp_cutter.proofs.cutter.Cutter.next.Goals.{else-is_empty-via-else-is_empty, else-is_empty-via-then-is_empty+in-None-1, else-is_empty-via-then-is_empty+in-Some+else-first-ne1}

pub returns-clause-err : goal.returns-clause-err
returns-clause-err c =
    let count : length c.self.inside.begun.items ≡ 0 = search (rules, eqb-true) in
    let none = nil_from_length c.self.inside.begun.items count in
    let at : slice_get c.args.octets.now.now 0 ≡ Some c.in-Some.first.now = search rules in
    let bad : (c.in-Some.first.now / 32 == 1) ≡ false = ne_eqb (c.in-Some.first.now / 32) 1 c.if-first-ne1.true in
    let front = got c.args.octets.now.now c.in-Some.first.now at in
    let lost = lost_here c.self.inside.begun.items c.args.octets.now.now c.in-Some.first.now front.0 none front.1 c.if-first-ne1.true bad in
    search (rules, lost)

pub fill-requires-clause-going : goal.fill-requires-clause-going
fill-requires-clause-going c =
    elim c.else-is_empty.branch [
      | else-is_empty-via-else-is_empty w ↦
          (let some : length c.self.inside.begun.items ≡ 0 → ⊥ = search (rules, eqb-false) in
          going_on c.self.inside.begun.items c.args.octets.now.now some c.self.invariant)
      | else-is_empty-via-then-is_empty+in-None-1 w ↦
          (let at : slice_get c.args.octets.now.now 0 ≡ None = search rules in
          let none = nothing_at c.args.octets.now.now at in
          going_empty c.self.inside.begun.items c.args.octets.now.now none c.self.invariant)
      | else-is_empty-via-then-is_empty+in-Some+else-first-ne1 w ↦
          (let count : length c.self.inside.begun.items ≡ 0 = search (rules, eqb-true) in
          let none = nil_from_length c.self.inside.begun.items count in
          let at : slice_get c.args.octets.now.now 0 ≡ Some w.in-Some.first.now = search rules in
          let front = got c.args.octets.now.now w.in-Some.first.now at in
          going_next c.self.inside.begun.items c.args.octets.now.now w.in-Some.first.now front.0 none front.1 w.if-first-ne1.false)
    ]

pub invariant_of-self-2 : goal.invariant_of-self-2
invariant_of-self-2 c = ap (λ v. first_pdu v.items) c.replace.ensures.after ∙ ap first_pdu c.new.ensures.items ∙ nothing_open
