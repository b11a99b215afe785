use Rattle.std.proofs.Common.{◌≡◌, ◌+◌, ◌++◌, [], get_or, set, take, drop, refl, sym, ap, ◌∙◌, arith}
use Rattle.std.proofs.lemmas.List.{get_or-take, set-append_left, take-append-drop, length-take-le}
use Rattle.cfdp_arena.specs.Blocks.{copied}
use Rattle.cfdp_arena.proofs.region.Region.copy_payload.Goals as goal

pub returns-else-from-to : goal.returns-else-from-to
returns-else-from-to c =
    let blocks = c.args.self.now.blocks in let from = c.args.from in let to = c.args.to in let n = c.max.result + 1 in
    let front = take n blocks in let rest = drop n blocks in
    let long = length-take-le n blocks (omega arith) in
    let new = copied (get_or front from []) c.args.from_at (get_or front to []) c.args.to_at c.args.len in
    let source : get_or front from [] ≡ get_or blocks from [] = get_or-take n blocks from [] (omega arith) in
    let target : get_or front to [] ≡ get_or blocks to [] = get_or-take n blocks to [] (omega arith) in
    record {
      blocks = ap (λ l. l ++ rest) (c.copy_between.ensures
          ∙ ap (λ l. set l to (copied (get_or l from []) c.args.from_at (get_or l to []) c.args.to_at c.args.len)) c.front_mut-blocks.ensures.value)
          ∙ sym (set-append_left front rest to new (omega arith))
          ∙ (λ k. set (take-append-drop n blocks k) to (copied (source k) c.args.from_at (target k) c.args.to_at c.args.len));
      room = refl;
    }
