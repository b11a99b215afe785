use Rattle.std.proofs.Common.{◌==◌, sym, cond, get_or}
use Rattle.std.proofs.lemmas.Bool.{cond-true, cond-false, eq-eqb, ne_eqb}
use Rattle.cfdp_paths.proofs.Separators.{replace_more}
use Rattle.cfdp_paths.proofs.buffers.replace.Goals as goal
use Rattle.cfdp_paths.proofs.buffers.replace.Goals.{then-octet-old, else-octet-old}

pub loop-octet-preserved : goal.loop-octet-preserved
loop-octet-preserved c =
    let x = get_or c.loop-octet.octets c.loop-octet.octet-index 0 in
    elim c.if-octet-old.branch [
      | then-octet-old w ↦
          replace_more (λ octet. cond (octet == c.args.old) c.args.new octet) c.args.octets.now c.loop-octet.octets c.if-octet-old.octets
          c.loop-octet.octet-index c.args.new
          c.loop-octet.invariant c.loop-octet-test.true w.octets-is (sym (cond-true (x == c.args.old) c.args.new x (eq-eqb x c.args.old w.if-octet-old.true)))
      | else-octet-old w ↦
          replace_more (λ octet. cond (octet == c.args.old) c.args.new octet) c.args.octets.now c.loop-octet.octets c.if-octet-old.octets
          c.loop-octet.octet-index x
          c.loop-octet.invariant c.loop-octet-test.true w.octets-is (sym (cond-false (x == c.args.old) c.args.new x (ne_eqb x c.args.old w.if-octet-old.false)))
    ]
