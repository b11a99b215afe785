use Rattle.std.proofs.Common.{ap, ◌-◌, ◌∙◌, arith, Vec}
use Rattle.std.specs.declared.alloc.Global.{Global}
use Rattle.cfdp_paths.specs.Paths.{Path}
use Rattle.cfdp_paths.proofs.Moving.{taken_out, left_over, turned_back}
use Rattle.cfdp_paths.proofs.relocating.detach.Goals as goal

pub returns-in-Ok-clause-taken : goal.returns-in-Ok-clause-taken
returns-in-Ok-clause-taken g c =
    c.in-Ok.ensures.tail
    ∙ taken_out c.args.entries.now.items c.args.start c.args.end c.requires.order (omega (arith, c.requires.within, c.args.entries.now.ok.0))
    (c.len.result - (c.args.end - c.args.start)) c.rotate_left.new.self.items
    (omega (arith, c.len.ensures, c.rotate_left.ensures.len, c.args.entries.now.ok.0)) c.rotate_left.ensures.items

pub returns-in-Ok-clause-left : goal.returns-in-Ok-clause-left
returns-in-Ok-clause-left g c =
    c.rotate_right.ensures.items
    ∙ left_over c.args.entries.now.items c.args.start c.args.end c.requires.order (omega (arith, c.requires.within, c.args.entries.now.ok.0))
    (c.len.result - (c.args.end - c.args.start)) _
    c.rotate_left.new.self.items c.split_off.new.self.items (omega (arith, c.len.ensures, c.rotate_left.ensures.len, c.args.entries.now.ok.0))
    c.rotate_left.ensures.items c.in-Ok.ensures.items
    (omega (arith, c.split_off.new.self.ok.0))

pub returns-in-Err-clause-err : goal.returns-in-Err-clause-err
returns-in-Err-clause-err g c =
    let same = ap (λ (v : Vec (Path × g.row.T.Denot) Global). v.items) c.in-Err.ensures.err in
    c.rotate_right-in-Err.ensures.items
    ∙ turned_back c.args.entries.now.items c.args.start c.args.end c.requires.order
    (omega (arith, c.requires.within, c.args.entries.now.ok.0)) _ c.split_off.new.self.items (same ∙ c.rotate_left.ensures.items)
    (omega (arith, c.split_off.new.self.ok.0))
