use Rattle.std.proofs.Common.{◌≡◌, ◌≤◌, ◌++◌, ap, sym, ◌∙◌, ℕ, ◌-◌, arith, drop, length, take, vec_len, List, Vec, length-append, length-drop}
use Rattle.std.proofs.Math.Seq.{paste}
use Rattle.std.proofs.lemmas.List.{drop-drop, take_all, take_at}
use Rattle.std.proofs.lemmas.List.Edits.{take-paste}
use Rattle.std.specs.declared.alloc.Global.{Global}
use Rattle.cfdp_paths.proofs.buffers.replace_front.Goals as goal
use Rattle.cfdp_paths.proofs.buffers.replace_front.Goals.{then-shorter-gt0, else-shorter-gt0}

-- the octets from an index on, copied to the front, and those after them cut off
moved : (xs : List ℕ) (shorter n m : ℕ) → n ≡ length xs - shorter → m ≡ length xs - shorter → take n (paste xs 0 (drop shorter xs) m) ≡ drop shorter xs
moved xs shorter n m n_is m_is =
    let count = length xs - shorter in
    rw (n_is, m_is) (
    ap (λ k. take k (paste xs 0 (drop shorter xs) count)) (omega arith)
    ∙ take-paste xs 0 (drop shorter xs) count (omega arith) (omega (arith, length-drop shorter xs))
    ∙ take_all count (drop shorter xs) (omega (arith, length-drop shorter xs))
    )

none : {n : ℕ} → n ≤ 0 → n ≡ 0
none few = omega (arith, few)

-- other octets over the first ones
fronted : (old new items whole : List ℕ) (count len : ℕ) → whole ≡ new ++ drop (length new) items → items ≡ drop (count - length new) old → len ≡ length items →
    length new ≤ count → count ≤ length old
    → take len (whole ++ drop (length whole) items) ≡ new ++ drop count old
fronted old new items whole count len whole_is items_is len_is short within =
    let rest : drop (length new) items ≡ drop count old =
    ap (drop (length new)) items_is ∙ drop-drop (length new) (count - length new) old ∙ ap (λ n. drop n old) (omega (arith, short)) in
    let long : length items ≡ length old - (count - length new) = ap length items_is ∙ length-drop (count - length new) old in
    let all : length whole ≡ len = ap length whole_is ∙ omega (
      arith,
      len_is,
      long,
      length-append new (drop (length new) items),
      length-drop (length new) items,
      short,
      within,
    ) in
    take_at whole (drop (length whole) items) len all ∙ whole_is ∙ ap (λ o. new ++ o) rest

left : (c : goal.After-octets-1) → c.if-shorter-gt0.octets.items ≡ drop (c.args.count - length c.args.new.now) c.args.octets.now.items
left c = elim c.if-shorter-gt0.branch [
  | then-shorter-gt0 w ↦ ap (λ (v : Vec ℕ Global). v.items) w.octets-is ∙ w.truncate.ensures.items
      ∙ ap (take (w.len.result - (c.args.count - length c.args.new.now))) w.copy_within.ensures.items
      ∙ moved c.args.octets.now.items (c.args.count - length c.args.new.now) (w.len.result - (c.args.count - length c.args.new.now))
      (vec_len c.args.octets.now - (c.args.count - length c.args.new.now))
      (omega (arith, w.len.ensures, c.args.octets.now.ok.0)) (omega (arith, c.args.octets.now.ok.0))
  | else-shorter-gt0 w ↦ ap (λ (v : Vec ℕ Global). v.items) w.octets-is ∙ sym (ap (λ n. drop n c.args.octets.now.items) (none w.if-shorter-gt0.false))
]

pub returns : goal.returns
returns c =
    fronted c.args.octets.now.items c.args.new.now c.if-shorter-gt0.octets.items c.overwrite.new.octets c.args.count c.if-shorter-gt0.octets.len
    (c.overwrite.ensures ∙ ap (λ o. c.args.new.now ++ drop (length c.args.new.now) o) c.deref_mut.ensures.value) (left c)
    (omega (arith, c.if-shorter-gt0.octets.ok.0)) c.requires.short c.requires.within
