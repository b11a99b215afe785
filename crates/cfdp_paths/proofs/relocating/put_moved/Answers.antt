use Rattle.std.proofs.Common.{ap, subst, ◌++◌, ◌-◌, ◌∙◌, arith, rules, if◌then◌else◌}
use Rattle.cfdp_paths.specs.code.PathMaps.{IsPieceOf}
use Rattle.cfdp_paths.proofs.InOrder.{ordered-put}
use Rattle.cfdp_paths.proofs.Moving.{put_in, puts_piece}
use Rattle.cfdp_paths.proofs.relocating.put_moved.Goals as goal

pub returns-then-start-end : goal.returns-then-start-end
returns-then-start-end g c =
    let es = c.args.entries.now.items in
    let ms = c.args.moved.items in
    let start = c.piece-start.result.0 in
    let piece = subst (λ ys. IsPieceOf c.args.to.now ys start c.piece-start.result.1) c.deref.ensures.value c.piece-start.ensures in
    let room = c.append.ensures.succeeds (omega (arith, c.rotate_left.ensures.len, c.rotate_left.ensures.capacity, c.requires.room)) in
    let joined = c.append.ensures.items ∙ ap (λ b. if b then c.rotate_left.new.self.items ++ ms else c.rotate_left.new.self.items) room
    ∙ ap (λ ys. ys ++ ms) c.rotate_left.ensures.items in
    c.rotate_left-then-start-end.ensures.items
    ∙ put_in es ms c.append.new.self.items start (c.len.result - start) (omega (arith, piece.within, piece.ends))
    (omega (arith, c.len.ensures, c.args.entries.now.ok.0)) joined
    ∙ puts_piece c.args.to.now es ms start c.piece-start.result.1 c.requires.ordered c.requires.in_order c.requires.below piece c.if-start-end.true

pub loop-path-preserved : goal.loop-path-preserved
loop-path-preserved g c = record {
  put = search rules;
  ordered = ordered-put c.in-Some.path c.in-Some.value c.loop-path.entries.items c.put_reserved.new.entries.items c.put_reserved.ensures.put
      c.loop-path.invariant.ordered;
  room = search rules;
  left = search rules;
}
