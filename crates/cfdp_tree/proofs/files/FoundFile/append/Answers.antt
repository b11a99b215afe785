use Rattle.std.proofs.Common.{◌≡◌, ◌+◌, ◌*◌, sym, ap, ◌∙◌, arith}
use Rattle.std.proofs.lemmas.Bool.{eqb-true}
use Rattle.cfdp_actions.specs.Filestore.{blocks_of}
use Rattle.cfdp_tree.specs.declared.contents.Contents.{Contents}
use Rattle.cfdp_tree.proofs.files.FoundFile.append.Goals as goal

pub returns-then-eq-clause-taken : goal.returns-then-eq-clause-taken
returns-then-eq-clause-taken c =
    let file = c.args.self.now in let source = c.args.source.now in
    let same = c.requires.same (eqb-true file.node source.node (sym c.eq.ensures ∙ c.if-eq.true)) in
    let twice : file.contents.size + source.contents.size ≡ 2 * file.contents.size = omega (arith, ap (λ (x : Contents). x.size) same) in
    omega (arith, ap blocks_of twice, c.append_self.ensures.taken)
