use Rattle.std.proofs.Common.{◌≡◌, ◌-◌, ◌<◌, ◌++◌, [], length, get_or, set, sym, ap, ◌∙◌, arith}
use Rattle.std.proofs.lemmas.List.{get_or_append_left, get_or-append_right, set-append_left, set-append_right}
use Rattle.cfdp_arena.specs.Blocks.{copied}
use Rattle.cfdp_arena.proofs.payload.copy_between.Goals as goal

pub returns-then-from-to : goal.returns-then-from-to
returns-then-from-to c =
    let front = c.split_at_mut-front.result.0.now in let back = c.split_at_mut-front.result.1.now in let parts = c.split_at_mut-front.ensures in
    let blocks = c.args.blocks.now in let from = c.args.from in let to = c.args.to in
    let long : length front ≡ to = omega (arith, parts.front_len) in let start : to - to ≡ 0 = omega arith in
    let source : get_or blocks from [] ≡ get_or front from [] = ap (λ l. get_or l from []) parts.value ∙ get_or_append_left front back [] from (omega arith) in
    let target : get_or blocks to [] ≡ get_or back 0 [] =
    ap (λ l. get_or l to []) parts.value ∙ get_or-append_right front back to to [] long (omega arith) ∙ ap (λ i. get_or back i []) start in
    let new = c.copy_part.new.target in
    let whole : set blocks to new ≡ front ++ set back 0 new =
    ap (λ l. set l to new) parts.value ∙ set-append_right front back to to new long (omega arith) ∙ ap (λ i. front ++ set back i new) start in
    sym whole ∙ ap (set blocks to) (c.copy_part.ensures ∙ (λ k. copied (sym source k) c.args.from_at (sym target k) c.args.to_at c.args.len))

pub returns-else-from-to : goal.returns-else-from-to
returns-else-from-to c =
    let front = c.split_at_mut-front.result.0.now in let back = c.split_at_mut-front.result.1.now in let parts = c.split_at_mut-front.ensures in
    let blocks = c.args.blocks.now in let from = c.args.from in let to = c.args.to in
    let long : length front ≡ from = omega (arith, parts.front_len) in let start : from - from ≡ 0 = omega arith in
    let before : to < length front = omega (arith, c.requires.apart) in
    let source : get_or blocks from [] ≡ get_or back 0 [] =
    ap (λ l. get_or l from []) parts.value ∙ get_or-append_right front back from from [] long (omega arith) ∙ ap (λ i. get_or back i []) start in
    let target : get_or blocks to [] ≡ get_or front to [] = ap (λ l. get_or l to []) parts.value ∙ get_or_append_left front back [] to before in
    let new = c.copy_part-else-from-to.new.target in
    let whole : set blocks to new ≡ set front to new ++ back = ap (λ l. set l to new) parts.value ∙ set-append_left front back to new before in
    sym whole ∙ ap (set blocks to) (c.copy_part-else-from-to.ensures ∙ (λ k. copied (sym source k) c.args.from_at (sym target k) c.args.to_at c.args.len))
