use Rattle.std.proofs.Common.{rules, sym, ◌∙◌, subst, IsTrue}
use Rattle.std.proofs.lemmas.Option.{IfSome_then}
use Rattle.cfdp_paths.specs.PathMaps.{IsOrdered}
use Rattle.cfdp_branches.specs.code.Branches.{under_names}
use Rattle.cfdp_branches.specs.code.Twigs.{twigs_of}
use Rattle.cfdp_branches.proofs.Descending.{names_absent, names_found, names_there}
use Rattle.cfdp_branches.proofs.branch.Branch.+at.Goals as goal

pub index_of-requires : goal.index_of-requires
index_of-requires g t c = subst (λ ts. IsOrdered (under_names (twigs_of ts))) (sym c.deref.ensures.value) c.self.invariant.0

pub returns-in_default-clause-absent : goal.returns-in_default-clause-absent
returns-in_default-clause-absent g t c = λ _ p.
    names_absent c.args.self.now c.self.inside.value c.self.inside.twigs.items c.self.invariant.0 c.self.view_is c.args.names c.next.new.self c.in-Some.name.now
    (search rules) (search rules) p

pub returns-in-Ok-clause-found : goal.returns-in-Ok-clause-found
returns-in-Ok-clause-found g t c =
    IfSome_then c.at.result c.at.ensures.found (λ b h p.
    h p ∙ names_found c.args.self.now c.self.inside.value c.self.inside.twigs.items c.self.invariant.0 c.self.view_is c.args.names c.next.new.self
    c.in-Some.name.now c.in-Ok.index c.index.result.now (search rules) (search rules) (search rules) p)

pub returns-in-Ok-clause-there : goal.returns-in-Ok-clause-there
returns-in-Ok-clause-there g t c =
    IfSome_then c.at.result c.at.ensures.there (λ b h. subst IsTrue
    (names_there c.args.self.now c.self.inside.value c.self.inside.twigs.items c.self.invariant.0 c.self.view_is c.args.names c.next.new.self
    c.in-Some.name.now c.in-Ok.index c.index.result.now (search rules) (search rules) (search rules)) h)

pub returns-in-Ok-clause-absent : goal.returns-in-Ok-clause-absent
returns-in-Ok-clause-absent g t c = λ none p.
    sym (names_found c.args.self.now c.self.inside.value c.self.inside.twigs.items c.self.invariant.0 c.self.view_is c.args.names c.next.new.self
    c.in-Some.name.now c.in-Ok.index c.index.result.now (search rules) (search rules) (search rules) p) ∙ c.at.ensures.absent none p
