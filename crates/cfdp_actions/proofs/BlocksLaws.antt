-- One entry further on in a list, and what it has to do with the whole.
--     weights_next, lists_next      the blocks of what is left of a list
--     blocks_of-bound               octets whose blocks are few
use Rattle.std.proofs.Common.{◌≡◌, ℕ, ◌+◌, ◌<◌, ◌≤◌, List, ◌∷◌, Some, length, drop, get_or, sum_by, sym, ap, ◌∙◌, arith, Vec}
use Rattle.std.specs.declared.alloc.Global.{Global}
use Rattle.std.proofs.lemmas.List.{at_drop_more}
use Rattle.std.proofs.lemmas.List.Sums.{sum_by-cons}
use Rattle.cfdp_paths.specs.Paths.{Path}
use Rattle.cfdp_actions.specs.Filestore.{weight, weights, blocks_of}
use Rattle.cfdp_actions.specs.Listed.{vector_octets}
use Rattle.cfdp_actions.specs.code.Listed.{Entries, content_node, shown_entries}
use Rattle.cfdp_actions.specs.declared.content.Content.{Content}

pub weights_next : (ls : Entries) (i : ℕ) (x : Path × Content) → i < length ls → x ≡ get_or ls i x → weights (shown_entries (drop i ls)) ≡ weight
    (Some (content_node x.1))
    + weights (shown_entries (drop (i + 1) ls))
weights_next ls i x h e = at_drop_more (λ ys. weights (shown_entries ys)) ls i x h
    ∙ ap (λ (y : Path × Content). weight (Some (content_node y.1)) + weights (shown_entries (drop (i + 1) ls))) (sym e)

abbrev pub lists_blocks : List (Vec ℕ Global) → ℕ
lists_blocks vs = sum_by (λ octets. blocks_of (length octets)) (vector_octets vs)

pub lists_next : (vs : List (Vec ℕ Global)) (i : ℕ) (v : Vec ℕ Global) → i < length vs → v ≡ get_or vs i v → lists_blocks (drop i vs)
    ≡ blocks_of (length v.items) + lists_blocks (drop (i + 1) vs)
lists_next vs i v h e =
    at_drop_more lists_blocks vs i v h ∙ ap (λ y. lists_blocks (y ∷ drop (i + 1) vs)) (sym e)
    ∙ sum_by-cons (λ octets. blocks_of (length octets)) v.items (vector_octets (drop (i + 1) vs))

pub blocks_of-bound : (n : ℕ) → blocks_of n ≤ 65536 → n ≤ 7864320
unfolding blocks_of
blocks_of-bound n h = omega arith
