-- A node's block with another number in it.
--     name_kept       its name, where a number before it changes
--     fields_same     what it says, by the octets before its name
--     fields-payload  what it says, by its payload alone
--     blank_fields    what a blank block says
--     length-name     how many octets its name has
--     name-put        its name, where one was put there
--     fields-sized, fields-summed  what it says, where its size changes, or the checksum of its octets
use Rattle.std.proofs.Common.{◌≡◌, ◌⊎◌, ℕ, refl, sym, ap, take, ◌++◌, append_assoc, ◌+◌, ◌*◌, ◌/◌, ◌%◌, ◌<◌, ◌≤◌, List, length, length-drop, drop, set, get_or, ◌∙◌, inl, inr, arith, length-set}
use Rattle.std.proofs.lemmas.List.{get_or-set_same, get_or-set_other, get_or-drop, drop-set-lt, length-take-le, take_at, drop_at}
use Rattle.cfdp_arena.specs.Blocks.{blank_block, with_part}
use Rattle.cfdp_tree.specs.code.Block.{block_number_at, with_number, payload}
use Rattle.cfdp_tree.specs.code.NodeFields.{node_fields_of, node_name}

pub name_kept : (block : List ℕ) (offset number : ℕ) → offset < 31 → drop 32 (with_number block offset number) ≡ drop 32 block
name_kept block offset number before =
    drop-set-lt 32 (set block offset (number % 256)) (offset + 1) (number / 256) (omega arith) ∙ drop-set-lt 32 block offset (number % 256) (omega arith)

-- by the octets before the name
module _ (a b : List ℕ) (same : (i : ℕ) → i < 32 → get_or a i 0 ≡ get_or b i 0) where
  number_same : (i : ℕ) → i < 31 → block_number_at a i ≡ block_number_at b i
  number_same i within = (λ k. same i (omega arith) k + 256 * same (i + 1) (omega arith) k)

  pub fields_same : node_fields_of a ≡ node_fields_of b
  fields_same =
      let parent = number_same 8 (omega arith) in
      let first = number_same 10 (omega arith) in
      let last = number_same 12 (omega arith) in
      let low = number_same 14 (omega arith) in
      let high = number_same 16 (omega arith) in
      let kind = same 18 (omega arith) in
      let name = same 19 (omega arith) in
      let head = number_same 20 (omega arith) in
      let sum_low = number_same 26 (omega arith) in
      let sum_high = number_same 28 (omega arith) in
      (λ k. record {
        parent = parent k;
        first = first k;
        last = last k;
        size = low k + 65536 * high k;
        kind = kind k;
        name_length = name k;
        same_head = head k;
        sum = sum_low k + 65536 * sum_high k;
      })

-- by the payload
payload_octet : (a : List ℕ) (i j : ℕ) → j ≡ 8 + i → get_or a j 0 ≡ get_or (payload a) i 0
payload_octet a i j e = ap (λ n. get_or a n 0) e ∙ sym (get_or-drop 8 a i 0)

pub fields-payload : (a b : List ℕ) → payload a ≡ payload b → node_fields_of a ≡ node_fields_of b
fields-payload a b same =
    let octet : (i j : ℕ) → j ≡ 8 + i → get_or a j 0 ≡ get_or b j 0 = (λ i j e. payload_octet a i j e ∙ ap (λ xs. get_or xs i 0) same
    ∙ sym (payload_octet b i j e)) in
    let pair : (i j : ℕ) → j ≡ 8 + i → block_number_at a j ≡ block_number_at b j =
    (λ i j e. (λ k. octet i j e k + 256 * octet (i + 1) (j + 1) (omega arith) k)) in
    let parent = pair 0 8 refl in
    let first = pair 2 10 refl in
    let last = pair 4 12 refl in
    let low = pair 6 14 refl in
    let high = pair 8 16 refl in
    let kind = octet 10 18 refl in
    let name = octet 11 19 refl in
    let head = pair 12 20 refl in
    let sum_low = pair 18 26 refl in
    let sum_high = pair 20 28 refl in
    (λ k. record {
      parent = parent k;
      first = first k;
      last = last k;
      size = low k + 65536 * high k;
      kind = kind k;
      name_length = name k;
      same_head = head k;
      sum = sum_low k + 65536 * sum_high k;
    })

pub blank_fields : node_fields_of blank_block ≡ record { parent = 0; first = 0; last = 0; size = 0; kind = 0; name_length = 0; same_head = 0; sum = 0 }
unfolding blank_block
blank_fields = refl

pub length-name : (block : List ℕ) → length block ≡ 128 → (node_fields_of block).name_length ≤ 96 → length (node_name block) ≡
    (node_fields_of block).name_length
length-name block whole fits = length-take-le (node_fields_of block).name_length (drop 32 block) (omega (arith, length-drop 32 block))

-- a name at its offset
pub name-put : (block name : List ℕ) → length block ≡ 128 → take (length name) (drop 32 (with_part block 24 name)) ≡ name
name-put block name whole =
    let front : length (take 32 block) ≡ 32 = length-take-le 32 block (omega arith) in
    let rest = drop (8 + 24 + length name) block in
    ap (λ xs. take (length name) (drop 32 xs)) (append_assoc (take 32 block) name rest)
    ∙ ap (take (length name)) (drop_at (take 32 block) (name ++ rest) 32 front)
    ∙ take_at name rest (length name) refl

-- four octets from an offset on
module _ (block : List ℕ) (whole : length block ≡ 128) (offset : ℕ) (within : offset + 4 ≤ 128) (lowest low high highest : ℕ) where
  abbrev one : List ℕ
  one = set block offset lowest

  abbrev two : List ℕ
  two = set one (offset + 1) low

  abbrev three : List ℕ
  three = set two (offset + 2) high

  abbrev four : List ℕ
  four = set three (offset + 3) highest

  pub other : (i : ℕ) → (i < offset) ⊎ (offset + 4 ≤ i) → get_or four i 0 ≡ get_or block i 0
  other i (inl before) =
      get_or-set_other three (offset + 3) i highest 0 (omega arith) ∙ get_or-set_other two (offset + 2) i high 0 (omega arith)
      ∙ get_or-set_other one (offset + 1) i low 0 (omega arith) ∙ get_or-set_other block offset i lowest 0 (omega arith)
  other i (inr after) =
      get_or-set_other three (offset + 3) i highest 0 (omega arith) ∙ get_or-set_other two (offset + 2) i high 0 (omega arith)
      ∙ get_or-set_other one (offset + 1) i low 0 (omega arith) ∙ get_or-set_other block offset i lowest 0 (omega arith)

  pub before : (i : ℕ) → i + 1 < offset → block_number_at four i ≡ block_number_at block i
  before i less = (λ k. other i (inl (omega arith)) k + 256 * other (i + 1) (inl (omega arith)) k)

  pub after : (i : ℕ) → offset + 4 ≤ i → block_number_at four i ≡ block_number_at block i
  after i more = (λ k. other i (inr more) k + 256 * other (i + 1) (inr (omega arith)) k)

  long_one : length one ≡ 128
  long_one = length-set block offset lowest ∙ whole

  long_two : length two ≡ 128
  long_two = length-set one (offset + 1) low ∙ long_one

  long_three : length three ≡ 128
  long_three = length-set two (offset + 2) high ∙ long_two

  at_offset : get_or four offset 0 ≡ lowest
  at_offset =
      get_or-set_other three (offset + 3) offset highest 0 (omega arith) ∙ get_or-set_other two (offset + 2) offset high 0 (omega arith)
      ∙ get_or-set_other one (offset + 1) offset low 0 (omega arith) ∙ get_or-set_same block offset lowest 0 (omega arith)

  at_next : get_or four (offset + 1) 0 ≡ low
  at_next =
      get_or-set_other three (offset + 3) (offset + 1) highest 0 (omega arith) ∙ get_or-set_other two (offset + 2) (offset + 1) high 0 (omega arith)
      ∙ get_or-set_same one (offset + 1) low 0 (omega (arith, long_one))

  at_third : get_or four (offset + 2) 0 ≡ high
  at_third = get_or-set_other three (offset + 3) (offset + 2) highest 0 (omega arith) ∙ get_or-set_same two (offset + 2) high 0 (omega (arith, long_two))

  at_last : get_or four (offset + 3) 0 ≡ highest
  at_last = get_or-set_same three (offset + 3) highest 0 (omega (arith, long_three))

  pub number_put : (number : ℕ) → lowest + 256 * low + 65536 * (high + 256 * highest) ≡ number
      → get_or four offset 0 + 256 * get_or four (offset + 1) 0 + 65536 * (get_or four (offset + 2) 0 + 256 * get_or four (offset + 3) 0) ≡ number
  number_put number is = (λ k. at_offset k + 256 * at_next k + 65536 * (at_third k + 256 * at_last k)) ∙ is

module _ (block : List ℕ) (whole : length block ≡ 128) (lowest low high highest number : ℕ) (is : lowest + 256 * low + 65536 * (high + 256 * highest)
    ≡ number) where
  pub fields-sized : node_fields_of (four block whole 14 (omega arith) lowest low high highest) ≡ record (node_fields_of block) { size = number }
  fields-sized =
      let parent = before block whole 14 (omega arith) lowest low high highest 8 (omega arith) in
      let first = before block whole 14 (omega arith) lowest low high highest 10 (omega arith) in
      let last = before block whole 14 (omega arith) lowest low high highest 12 (omega arith) in
      let kind = other block whole 14 (omega arith) lowest low high highest 18 (inr (omega arith)) in
      let name = other block whole 14 (omega arith) lowest low high highest 19 (inr (omega arith)) in
      let head = after block whole 14 (omega arith) lowest low high highest 20 (omega arith) in
      let sum_low = after block whole 14 (omega arith) lowest low high highest 26 (omega arith) in
      let sum_high = after block whole 14 (omega arith) lowest low high highest 28 (omega arith) in
      let size = number_put block whole 14 (omega arith) lowest low high highest number is in
      (λ k. record {
        parent = parent k;
        first = first k;
        last = last k;
        size = size k;
        kind = kind k;
        name_length = name k;
        same_head = head k;
        sum = sum_low k + 65536 * sum_high k;
      })

  pub fields-summed : node_fields_of (four block whole 26 (omega arith) lowest low high highest) ≡ record (node_fields_of block) { sum = number }
  fields-summed =
      let parent = before block whole 26 (omega arith) lowest low high highest 8 (omega arith) in
      let first = before block whole 26 (omega arith) lowest low high highest 10 (omega arith) in
      let last = before block whole 26 (omega arith) lowest low high highest 12 (omega arith) in
      let low_size = before block whole 26 (omega arith) lowest low high highest 14 (omega arith) in
      let high_size = before block whole 26 (omega arith) lowest low high highest 16 (omega arith) in
      let kind = other block whole 26 (omega arith) lowest low high highest 18 (inl (omega arith)) in
      let name = other block whole 26 (omega arith) lowest low high highest 19 (inl (omega arith)) in
      let head = before block whole 26 (omega arith) lowest low high highest 20 (omega arith) in
      let sum = number_put block whole 26 (omega arith) lowest low high highest number is in
      (λ k. record {
        parent = parent k;
        first = first k;
        last = last k;
        size = low_size k + 65536 * high_size k;
        kind = kind k;
        name_length = name k;
        same_head = head k;
        sum = sum k;
      })
