use Rattle.std.proofs.Common.{sym, ◌∙◌, ap, not, arith, length, ◌≡◌}
use Rattle.std.specs.FinSet as set
use Rattle.std.specs.List.{prefix_len}
use Rattle.cfdp_leases.specs.Footprint.{leased}
use Rattle.cfdp_leases.specs.Leases.{is_same}
use Rattle.cfdp_leases.specs.code.Live.{grants_of}
use Rattle.cfdp_leases.specs.code.Holders.{holders_at}
use Rattle.cfdp_leases.proofs.Admitted.{first_there, first_none, first_leasing, nobody_leasing}
use Rattle.cfdp_leases.proofs.Kept.{index-live, length-live}
use Rattle.cfdp_leases.proofs.leases.Leases.leasing.Goals as goal

pub returns-in-Some : goal.returns-in-Some
returns-in-Some c =
    let p = c.args.path.now in
    let gs = grants_of c.self.inside.footprints c.self.inside.live.items in
    let h = c.in-Some.holder in
    let found = first_there (holders_at gs p) h (sym c.in-Some.is ∙ c.first.ensures (holders_at gs) c.self.invariant.are_held) in
    c.count_before.ensures
    ∙ ap (prefix_len (λ l. not (is_same l.transaction h.transaction))) c.deref.ensures.value
    ∙ index-live c.self.inside.footprints c.self.inside.live.items h.transaction
    ∙ first_leasing gs p h found.0 c.self.invariant.apart found.1
    ∙ ap (prefix_len (λ g. not (set.contains (leased g.1) p))) c.self.view_is

pub returns-in-None : goal.returns-in-None
returns-in-None c =
    let p = c.args.path.now in
    let gs = grants_of c.self.inside.footprints c.self.inside.live.items in
    let all : c.len.result ≡ length c.self.inside.live.items = omega (arith, c.len.ensures, c.self.inside.live.ok.0) in
    all
    ∙ length-live c.self.inside.footprints c.self.inside.live.items
    ∙ nobody_leasing gs p (first_none (holders_at gs p) (sym c.in-None.is ∙ c.first.ensures (holders_at gs) c.self.invariant.are_held))
    ∙ ap (prefix_len (λ g. not (set.contains (leased g.1) p))) c.self.view_is
