-- A block with a part of its payload replaced.
--     octet-part                                 its octets before the part
--     header-part, payload-part, whole-part      its header, its payload and its length
use Rattle.std.proofs.Common.{◌≡◌, ℕ, ◌+◌, ◌*◌, ◌<◌, ◌≤◌, List, ◌++◌, length, take, drop, get_or, sym, ap, ◌∙◌, arith, length-append, length-take, length-drop}
use Rattle.std.proofs.lemmas.List.{get_or_append_left, get_or-take, length-take-le, take-append-drop, drop_at}
use Rattle.cfdp_arena.specs.Blocks.{with_part}
use Rattle.cfdp_actions.specs.Store.{overwritten}
use Rattle.cfdp_tree.specs.code.Block.{block_header, payload}
use Rattle.cfdp_tree.proofs.OfRuns.OctetsInLists.{overwritten-right}

module _ (block : List ℕ) (at : ℕ) (part : List ℕ) (whole : length block ≡ 128) where
  pub octet-part : (i : ℕ) → i < 8 + at → i < 128 → get_or (with_part block at part) i 0 ≡ get_or block i 0
  octet-part i before small =
      let front = take (8 + at) block in
      let back = drop (8 + at + length part) block in
      let long = length-take (8 + at) block in
      get_or_append_left (front ++ part) back 0 i (omega (arith, length-append front part))
      ∙ get_or_append_left front part 0 i (omega arith)
      ∙ get_or-take (8 + at) block i 0 (omega arith)

  pub header-part : block_header (with_part block at part) ≡ block_header block
  header-part =
      let a = octet-part 0 (omega arith) (omega arith) in
      let b = octet-part 1 (omega arith) (omega arith) in
      let c = octet-part 2 (omega arith) (omega arith) in
      let d = octet-part 3 (omega arith) (omega arith) in
      let e = octet-part 4 (omega arith) (omega arith) in
      let f = octet-part 5 (omega arith) (omega arith) in
      let g = octet-part 6 (omega arith) (omega arith) in
      (λ k. record { next = a k + 256 * b k; owner = c k + 256 * d k; rank = e k + 256 * f k; kind = g k })

  pub payload-part : payload (with_part block at part) ≡ overwritten (payload block) at part
  payload-part =
      let front = take 8 block in
      let long : length front ≡ 8 = length-take-le 8 block (omega arith) in
      ap (λ b. drop 8 (overwritten b (8 + at) part)) (sym (take-append-drop 8 block))
      ∙ ap (λ b. drop 8 b) (overwritten-right front (payload block) at (8 + at) part (omega arith))
      ∙ drop_at front (overwritten (payload block) at part) 8 long

  pub whole-part : at + length part ≤ 120 → length (with_part block at part) ≡ 128
  whole-part fits =
      let front = take (8 + at) block in
      let back = drop (8 + at + length part) block in
      omega (arith, length-append (front ++ part) back, length-append front part, length-take (8 + at) block, length-drop (8 + at + length part) block)
