-- Starts and ends, one after the other.
use Rattle.std.proofs.Common.{◌≡◌, ◌<◌, ◌≤◌, ℕ, zero, suc, ◌+◌, ◌*◌, List, [], ◌∷◌, ◌++◌, length, take, drop, get_or, set, Bool, true, false, ◌&&◌, Ok, Err, refl, sym, ap, ◌∙◌, append_assoc, rules, arith}
use Rattle.std.specs.Prelude.{All}
use Rattle.std.specs.List.{flat_map}
use Rattle.std.proofs.lemmas.Bool.{lt-ltb, and_from}
use Rattle.std.proofs.lemmas.List.{take_more, drop_more, drop_at, drop-drop, flat_map_more, set_at}
use Rattle.byteorder.specs.Endian.{big_bytes, big_number}
use Rattle.byteorder.specs.Numbers.{length-bytes_high_first, big_number-reads_back}
use Rattle.cfdp_pdus.specs.Bits.{fss}
use Rattle.cfdp_pdus.specs.declared.header.Header.{Header}
use Rattle.cfdp_directives.specs.declared.nak.NakFault.TheVariants as nak_faults
use Rattle.cfdp_directives.specs.Reading.{pair_len, range_at, ranges_at, are_pairs, pairs_at, request_count, nak_within}
use Rattle.cfdp_directives.specs.Spelling.{IsSizedRange, range_octets}
use Rattle.cfdp_directives.proofs.Lengths.{range_len}

-- ---- reading

-- one more
next_range : (large : Bool) (n : ℕ) (octets : List ℕ)
    → ranges_at large (suc n) octets ≡ ranges_at large n octets ++ range_at large (drop (pair_len large * n) octets) ∷ []
unfolding ranges_at
next_range true zero octets = refl
next_range false zero octets = refl
next_range true (suc n) octets =
    let moved : drop (16 * n) (drop 16 octets) ≡ drop (16 * suc n) octets = drop-drop (16 * n) 16 octets ∙ ap (λ (k : ℕ). drop k octets) (omega arith) in
    let front = ranges_at true n (drop 16 octets) in
    ap (λ (t : List (ℕ × ℕ)). range_at true octets ∷ t) (next_range true n (drop 16 octets) ∙ ap (λ (o : List ℕ). front ++ range_at true o ∷ []) moved)
next_range false (suc n) octets =
    let moved : drop (8 * n) (drop 8 octets) ≡ drop (8 * suc n) octets = drop-drop (8 * n) 8 octets ∙ ap (λ (k : ℕ). drop k octets) (omega arith) in
    let front = ranges_at false n (drop 8 octets) in
    ap (λ (t : List (ℕ × ℕ)). range_at false octets ∷ t) (next_range false n (drop 8 octets) ∙ ap (λ (o : List ℕ). front ++ range_at false o ∷ []) moved)

pub ranges_at-more : (large : Bool) (n : ℕ) (octets : List ℕ)
    → ranges_at large (n + 1) octets ≡ ranges_at large n octets ++ range_at large (drop (pair_len large * n) octets) ∷ []
ranges_at-more large n octets = ap (λ (k : ℕ). ranges_at large k octets) (omega arith) ∙ next_range large n octets

pub length-ranges_at : (large : Bool) (n : ℕ) (octets : List ℕ) → length (ranges_at large n octets) ≡ n
unfolding ranges_at
length-ranges_at large zero octets = refl
length-ranges_at large (suc n) octets = ap suc (length-ranges_at large n (drop (pair_len large) octets))

-- a list whose first ranges were read, and one more of it
pub ranges_read : (large : Bool) (n : ℕ) (octets : List ℕ) (old : List (ℕ × ℕ)) (range : ℕ × ℕ)
    → n < length old → range ≡ range_at large (drop (pair_len large * n) octets)
    → set (ranges_at large n octets ++ drop n old) n range ≡ ranges_at large (n + 1) octets ++ drop (n + 1) old
ranges_read large n octets old range within is =
    let front = ranges_at large n octets in
    ap (λ (t : List (ℕ × ℕ)). set (front ++ t) n range) (drop_more old n range within)
    ∙ set_at front (get_or old n range) (drop (n + 1) old) range n (length-ranges_at large n octets)
    ∙ sym (append_assoc front (range ∷ []) (drop (n + 1) old))
    ∙ ap (λ (r : ℕ × ℕ). (front ++ r ∷ []) ++ drop (n + 1) old) is
    ∙ ap (λ (t : List (ℕ × ℕ)). t ++ drop (n + 1) old) (sym (ranges_at-more large n octets))

-- each is within the octets
pub within : (large : Bool) (n count len : ℕ) → n < count → pair_len large * count ≤ len → pair_len large * n + pair_len large ≤ len
within true n count len below enough = omega arith
within false n count len below enough = omega arith

-- a list that is too short
pub too_many : (room : ℕ) (octets : List ℕ) (header : Header) (pairs : List ℕ)
    → pairs_at octets ≡ Ok (header, pairs) → room < request_count header.large (length pairs)
    → nak_within room octets ≡ Err (nak_faults.TooMany (request_count header.large (length pairs)))
too_many room octets header pairs read short =
    let count = request_count header.large (length pairs) in
    rw (read, length-ranges_at header.large count (drop (pair_len header.large) pairs), lt-ltb room count short) refl

-- ---- what is written is read

pub range_again : (large : Bool) (range : ℕ × ℕ) (rest : List ℕ) → IsSizedRange large range → range_at large (range_octets large range ++ rest) ≡ range
unfolding range_at
range_again large range rest sized =
    let start = big_bytes (fss large) range.0 in
    let end = big_bytes (fss large) range.1 in
    let parts : range_octets large range ++ rest ≡ start ++ (end ++ rest) = append_assoc start end rest in
    let begun : big_number (fss large) (range_octets large range ++ rest) ≡ range.0 =
    ap (big_number (fss large)) parts ∙ big_number-reads_back (fss large) range.0 (end ++ rest) sized.start in
    let ended : big_number (fss large) (drop (fss large) (range_octets large range ++ rest)) ≡ range.1 =
    ap (λ (o : List ℕ). big_number (fss large) (drop (fss large) o)) parts
    ∙ ap (big_number (fss large)) (drop_at start (end ++ rest) (fss large) (length-bytes_high_first (fss large) range.0))
    ∙ big_number-reads_back (fss large) range.1 rest sized.end in
    rw (begun, ended) refl

pub ranges_again : (large : Bool) (ranges : List (ℕ × ℕ))
    → All (IsSizedRange large) ranges
    → ranges_at large (length ranges) (flat_map (range_octets large) ranges) ≡ ranges
unfolding ranges_at
ranges_again large [] sized = refl
ranges_again large (range ∷ ranges) sized =
    let rest = flat_map (range_octets large) ranges in
    let first : range_at large (range_octets large range ++ rest) ≡ range = range_again large range rest (sized 0 range (omega arith)) in
    let others : drop (pair_len large) (range_octets large range ++ rest) ≡ rest =
    drop_at (range_octets large range) rest (pair_len large) (range_len large range) in
    rw (first, others, ranges_again large ranges (λ k d below. sized (suc k) d (omega arith))) refl

pub are_whole : (large : Bool) (n : ℕ) → are_pairs large (pair_len large * (1 + n)) ≡ true
are_whole true n = search (rules, arith)
are_whole false n = search (rules, arith)

pub are_counted : (large : Bool) (n : ℕ) → request_count large (pair_len large * (1 + n)) ≡ n
are_counted true n = omega arith
are_counted false n = omega arith

-- ---- writing

pub octets_more : (large : Bool) (ranges : List (ℕ × ℕ)) (n : ℕ) (d : ℕ × ℕ) → n < length ranges
    → flat_map (range_octets large) (take (n + 1) ranges) ≡ flat_map (range_octets large) (take n ranges) ++ range_octets large (get_or ranges n d)
octets_more large ranges n d below =
    ap (flat_map (range_octets large)) (take_more ranges n d below) ∙ sym (flat_map_more (range_octets large) [] (take n ranges) (get_or ranges n d))
