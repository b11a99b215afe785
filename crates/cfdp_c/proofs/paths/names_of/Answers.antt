use Rattle.std.proofs.Common.{◌≡◌, ◌≢◌, Bool, true, false, cond, Option, None, refl, sym, ◌∙◌, ap, take}
use Rattle.std.specs.Option.{is_some}
use Rattle.std.specs.Prelude.{nat_le}
use Rattle.cfdp_paths.specs.Faults.{fault_of}
use Rattle.cfdp_paths.specs.Paths.{Path}
use Rattle.cfdp_paths.proofs.Faulty.{fault_exactly}
use Rattle.cfdp_c.proofs.paths.names_of.Goals as goal
use Rattle.std.proofs.lemmas.Bool.{both_ways}

either_none : (b : Bool) (path : Option Path) → path ≡ None → cond b path None ≡ None
either_none true path none = none
either_none false path none = refl

pub returns-then-is_some-clause-err : goal.returns-then-is_some-clause-err
returns-then-is_some-clause-err c =
    let fields = c.args.fields.now in
    let octets = take fields.length fields.octets in
    let faulty : fault_of octets ≢ None = λ none. both_ways _ (ap is_some (c.fault_in.ensures ∙ none)) (sym c.is_some.ensures ∙ c.if-is_some.true) in
    (refl, either_none (nat_le fields.length 776) _ ((fault_exactly octets).0 faulty))
