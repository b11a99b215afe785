use Rattle.std.proofs.Common.{rules, sym, ◌∙◌, ap, not, arith, length, ◌≡◌}
use Rattle.std.specs.FinSet as set
use Rattle.std.specs.List.{prefix_len}
use Rattle.cfdp_leases.specs.Leases.{is_same}
use Rattle.cfdp_leases.specs.code.Live.{grants_of}
use Rattle.cfdp_leases.specs.code.Holders.{holders_at}
use Rattle.cfdp_leases.proofs.Admitted.{first_there, first_none, first_exclusive, first_shared, nobody_changing}
use Rattle.cfdp_leases.proofs.Kept.{index-live, length-live}
use Rattle.cfdp_leases.proofs.leases.Leases.changing.Goals as goal
use Rattle.cfdp_leases.proofs.leases.Leases.changing.Goals.{in_default-via-in-Some+else-eq, in_default-via-in_default}

pub returns-in-Some : goal.returns-in-Some
returns-in-Some c =
    let p = c.args.path.now in
    let gs = grants_of c.self.inside.footprints c.self.inside.live.items in
    let h = c.in-Some.holder in
    let found = first_there (holders_at gs p) h (sym c.in-Some.is ∙ c.first.ensures (holders_at gs) c.self.invariant.are_held) in
    c.count_before.ensures
    ∙ ap (prefix_len (λ l. not (is_same l.transaction h.transaction))) c.deref.ensures.value
    ∙ index-live c.self.inside.footprints c.self.inside.live.items h.transaction
    ∙ first_exclusive gs p h found.0 c.self.invariant.apart found.1 (search rules)
    ∙ ap (prefix_len (λ g. not (set.contains g.1.exclusive p))) c.self.view_is

pub returns-in_default : goal.returns-in_default
returns-in_default c =
    let p = c.args.path.now in
    let gs = grants_of c.self.inside.footprints c.self.inside.live.items in
    let first = c.first.ensures (holders_at gs) c.self.invariant.are_held in
    let all : c.len.result ≡ length c.self.inside.live.items = omega (arith, c.len.ensures, c.self.inside.live.ok.0) in
    all
    ∙ length-live c.self.inside.footprints c.self.inside.live.items
    ∙ elim c.in_default.branch [
      | in_default-via-in-Some+else-eq w ↦
          let found = first_there (holders_at gs p) w.in-Some.holder (sym w.in-Some.is ∙ first) in
          first_shared gs p w.in-Some.holder found.0 c.self.invariant.apart found.1 (search rules)
      | in_default-via-in_default w ↦ nobody_changing gs p (first_none (holders_at gs p) (sym w.in_default.is ∙ first))
    ]
    ∙ ap (prefix_len (λ g. not (set.contains g.1.exclusive p))) c.self.view_is
