use Rattle.std.proofs.Common.{rules, ◌≡◌, sym, ap, ◌∷◌, [], arith}
use Rattle.std.specs.Cmp.Lexicographic.{slice_cmp}
use Rattle.std.specs.Ordering.{is_lt, nat_cmp}
use Rattle.std.specs.declared.cmp.Ordering.TheVariants.{Less, Equal}
use Rattle.cfdp_paths.proofs.InOrder.{none_following}
use Rattle.cfdp_branches.specs.code.Branches.{under_names}
use Rattle.cfdp_branches.specs.code.Twigs.{twigs_of}
use Rattle.cfdp_branches.proofs.Seeking.{all_first, last_found, length-under_names}
use Rattle.cfdp_branches.proofs.branch.index_of.Goals as goal

pub returns-in-Less-clause-index : goal.returns-in-Less-clause-index
returns-in-Less-clause-index g c =
    let n = c.args.name.now in
    let t = c.in-Some.last.now in
    let less : slice_cmp nat_cmp t.name.items n ≡ Less = search rules in
    all_first n c.args.twigs.now t c.requires (sym c.in-Some.ensures.value) (ap is_lt less)

pub returns-in-Less-clause-absent : goal.returns-in-Less-clause-absent
returns-in-Less-clause-absent g c =
    let n = c.args.name.now in
    let ts = c.args.twigs.now in
    none_following (n ∷ []) (under_names (twigs_of ts)) (omega (arith, returns-in-Less-clause-index g c, length-under_names ts))

pub returns-in-Equal-clause-found : goal.returns-in-Equal-clause-found
returns-in-Equal-clause-found g c =
    let n = c.args.name.now in
    let t = c.in-Some.last.now in
    let tied : slice_cmp nat_cmp t.name.items n ≡ Equal = search rules in
    last_found n c.args.twigs.now t c.requires (sym c.in-Some.ensures.value) tied
