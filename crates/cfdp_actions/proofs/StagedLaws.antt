-- The staged lists that vectors hold.
--     octets_of-set        one of them changed
--     octets_of-at         one of them
--     extended_is          what `resize` leaves
use Rattle.std.proofs.Common.{◌≡◌, ℕ, ◌-◌, ◌<◌, ◌≤◌, List, [], ◌++◌, length, take, set, get_or, replicate, sym, ap, ◌∙◌, arith, Vec}
use Rattle.std.specs.declared.alloc.Global.{Global}
use Rattle.std.proofs.lemmas.List.{map-set, get_or-map, take_all, set-get_or}
use Rattle.cfdp_actions.specs.Store.{extended}
use Rattle.cfdp_actions.specs.Listed.{vector_octets}

pub octets_of-set : (vs : List (Vec ℕ Global)) (i : ℕ) (v : Vec ℕ Global) → vector_octets (set vs i v) ≡ set (vector_octets vs) i v.items
octets_of-set vs i v = map-set (λ (vector : Vec ℕ Global). vector.items) vs i v

-- v is what was read at the index
pub octets_of-at : (vs : List (Vec ℕ Global)) (i : ℕ) (v : Vec ℕ Global) → i < length vs → v ≡ get_or vs i v → get_or (vector_octets vs) i [] ≡ v.items
octets_of-at vs i v h e = get_or-map (λ (vector : Vec ℕ Global). vector.items) vs i v [] h ∙ ap (λ (vector : Vec ℕ Global). vector.items) (sym e)

-- and is put back with the same octets
pub octets_of-same : (vs : List (Vec ℕ Global)) (i : ℕ) (v w : Vec ℕ Global) → i < length vs → v ≡ get_or vs i v → w.items ≡ v.items → vector_octets
    (set vs i w)
    ≡ vector_octets vs
octets_of-same vs i v w h e same =
    octets_of-set vs i w ∙ ap (set (vector_octets vs) i) (same ∙ sym (octets_of-at vs i v h e)) ∙ set-get_or (vector_octets vs) i []

pub extended_is : (octets : List ℕ) (n size : ℕ) → n ≡ length octets → n ≤ size → take size octets ++ replicate (size - n) 0 ≡ extended octets size
extended_is octets n size e h = ap (λ xs. xs ++ replicate (size - n) 0) (take_all size octets (omega arith)) ∙ ap (λ k. octets ++ replicate (size - k) 0) e
