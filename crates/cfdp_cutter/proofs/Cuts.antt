-- What a stream begins with, and all that is cut off it.
--     whole_is       a whole PDU at the front: it and what is after it are the stream, and more octets after that change nothing
--     enough         more PDUs than there are octets are never cut
--     pieces_do_not_matter, none_is_lost, each_is_whole      the laws
use Rattle.std.proofs.Common.{◌≡◌, refl, sym, ◌∙◌, ap, subst, ℕ, zero, suc, ◌+◌, ◌*◌, ◌/◌, ◌%◌, ◌==◌, ◌<◌, ◌≤◌, Bool, true, false, cond, List, [], ◌∷◌, ◌++◌, length, take, drop, append_assoc, arith, length-append}
use Rattle.std.specs.Prelude.{nat_lt}
use Rattle.std.specs.List.{AllByRecursion, flat_map}
use Rattle.std.proofs.lemmas.Bool.{ltb-false, le-ltb}
use Rattle.std.proofs.lemmas.List.{drop-append-le, length-take-le, take-append-drop, take-append-le}
use Rattle.std.proofs.Math.Seq.{take-length, drop-length}
use Rattle.cfdp_crc.specs.Seal.{header_len}
use Rattle.cfdp_cutter.specs.Cutting.{First, Whole, Open, Lost, first_pdu, Cut, cut, cut_next, cut_some, followed, uncut}
use Rattle.cfdp_cutter.specs.Laws.{PiecesDoNotMatter, NoneIsLost, EachIsWhole}

-- ---- the front

pub record WholeAt (s p r : List ℕ) : Type 0 where
  pub splits : s ≡ p ++ r
  pub some : 0 < length p
  pub alone : first_pdu p ≡ Whole p []
  pub further : (more : List ℕ) → first_pdu (s ++ more) ≡ Whole p (r ++ more)

-- the length of a PDU, in the form in which its fixed octets are taken off
over : ℕ → ℕ → ℕ → ℕ
over b c d = 2 * (d / 16 % 8 + 1) + (d % 8 + 1) + (256 * b + c)

over-is : (b c d : ℕ) → header_len d + (256 * b + c) ≡ suc (suc (suc (suc (over b c d))))
unfolding over
over-is b c d = omega arith

record Picked (version short : Bool) (s p r : List ℕ) (n : ℕ) : Type 0 where
  good : version ≡ true
  fits : short ≡ false
  front : take n s ≡ p
  following : drop n s ≡ r

picked : (version short : Bool) (s p r : List ℕ) (n : ℕ) →
    cond version (cond short Open (Whole (take n s) (drop n s))) Lost ≡ Whole p r → Picked version short s p r n
picked true true s p r n e = absurd (cc e)
picked true false s p r n e = record { good = refl; fits = refl; front = cc e; following = cc e }
picked false short s p r n e = absurd (cc e)

no_whole : (version : Bool) (p r : List ℕ) → cond version Open Lost ≡ Whole p r → ⊥
no_whole true p r e = cc e
no_whole false p r e = cc e

-- a stream whose header is there
whole_here : (a b c d : ℕ) (rest p r : List ℕ) → first_pdu (a ∷ b ∷ c ∷ d ∷ rest) ≡ Whole p r → WholeAt (a ∷ b ∷ c ∷ d ∷ rest) p r
unfolding first_pdu
whole_here a b c d rest p r e =
    let s : List ℕ = a ∷ b ∷ c ∷ d ∷ rest in
    let n : ℕ = header_len d + (256 * b + c) in
    let k : ℕ = over b c d in
    let four : n ≡ suc (suc (suc (suc k))) = over-is b c d in
    let at : Picked (a / 32 == 1) (nat_lt (length s) n) s p r n = picked (a / 32 == 1) (nat_lt (length s) n) s p r n e in
    let long : n ≤ length s = ltb-false (length s) n at.fits in
    let spelled : p ≡ a ∷ b ∷ c ∷ d ∷ take k rest = sym at.front ∙ ap (λ m. take m s) four in
    let size : length p ≡ n = ap length (sym at.front) ∙ length-take-le n s long in
    let none_less : nat_lt (length p) n ≡ false = le-ltb (length p) n (omega (arith, size)) in
    let whole : take n p ≡ p = ap (λ m. take m p) (sym size) ∙ take-length p in
    let nothing : drop n p ≡ [] = ap (λ m. drop m p) (sym size) ∙ drop-length p in
    let alone_in : first_pdu (a ∷ b ∷ c ∷ d ∷ take k rest) ≡ Whole p [] =
    ap (λ version. cond version (cond (nat_lt (length (a ∷ b ∷ c ∷ d ∷ take k rest)) n) Open
    (Whole (take n (a ∷ b ∷ c ∷ d ∷ take k rest)) (drop n (a ∷ b ∷ c ∷ d ∷ take k rest)))) Lost) at.good
    ∙ ap (λ (q : List ℕ). cond (nat_lt (length q) n) Open (Whole (take n q) (drop n q))) (sym spelled)
    ∙ ap (λ short. cond short Open (Whole (take n p) (drop n p))) none_less
    ∙ ap (λ q. Whole q (drop n p)) whole ∙ ap (λ q. Whole p q) nothing in
    record {
      splits = sym (take-append-drop n s) ∙ ap (λ q. q ++ drop n s) at.front ∙ ap (λ q. p ++ q) at.following;
      some = omega (arith, size, four);
      alone = ap first_pdu spelled ∙ alone_in;
      further = λ more.
          let longer : n ≤ length (s ++ more) = omega (arith, length-append s more, long) in
          ap (λ version. cond version (cond (nat_lt (length (s ++ more)) n) Open (Whole (take n (s ++ more)) (drop n (s ++ more)))) Lost) at.good
          ∙ ap (λ short. cond short Open (Whole (take n (s ++ more)) (drop n (s ++ more)))) (le-ltb (length (s ++ more)) n longer)
          ∙ ap (λ q. Whole q (drop n (s ++ more))) (take-append-le n s more long ∙ at.front)
          ∙ ap (λ q. Whole p q) (drop-append-le n s more long ∙ ap (λ q. q ++ more) at.following);
    }

pub whole_is : (s p r : List ℕ) → first_pdu s ≡ Whole p r → WholeAt s p r
unfolding first_pdu
whole_is [] p r e = absurd (cc e)
whole_is (a ∷ []) p r e = absurd (no_whole (a / 32 == 1) p r e)
whole_is (a ∷ b ∷ []) p r e = absurd (no_whole (a / 32 == 1) p r e)
whole_is (a ∷ b ∷ c ∷ []) p r e = absurd (no_whole (a / 32 == 1) p r e)
whole_is (a ∷ b ∷ c ∷ d ∷ rest) p r e = whole_here a b c d rest p r e

-- ---- all of a stream

shorter : (s p r : List ℕ) → WholeAt s p r → length r < length s
shorter s p r w = omega (arith, w.some, length-append p r, ap length w.splits)

record Enough (n m : ℕ) (s : List ℕ) : Type 0 where
  same : cut_some n s ≡ cut_some m s

none_left : (m : ℕ) → cut_some m [] ≡ uncut []
unfolding cut_some first_pdu
none_left zero = refl
none_left (suc m) = refl

enough_by : (n m : ℕ) (s : List ℕ) (f : First) → first_pdu s ≡ f → length s ≤ suc n → length s ≤ suc m
    → ((r : List ℕ) → length r ≤ n → length r ≤ m → cut_some n r ≡ cut_some m r)
    → cut_next f s (cut_some n) ≡ cut_next f s (cut_some m)
enough_by n m s Open e a b later = refl
enough_by n m s Lost e a b later = refl
enough_by n m s (Whole p r) e a b later =
    let less : length r < length s = shorter s p r (whole_is s p r e) in
    ap (λ c. record { pdus = p ∷ c.pdus; rest = c.rest }) (later r (omega (arith, less, a)) (omega (arith, less, b)))

empty : (s : List ℕ) → length s ≤ 0 → s ≡ []
empty [] h = refl
empty (x ∷ s) h = absurd (omega (arith, h))

pub enough : (n m : ℕ) (s : List ℕ) → length s ≤ n → length s ≤ m → cut_some n s ≡ cut_some m s
unfolding cut_some
enough zero m s a b = ap (λ q. uncut q) (empty s a) ∙ sym (none_left m) ∙ ap (λ q. cut_some m q) (sym (empty s a))
enough (suc n) zero s a b = ap (λ q. cut_some (suc n) q) (empty s b) ∙ none_left (suc n) ∙ ap (λ q. uncut q) (sym (empty s b))
enough (suc n) (suc m) s a b = enough_by n m s (first_pdu s) refl a b (λ r c d. enough n m r c d)

cut_as : (n : ℕ) (s : List ℕ) → length s ≤ n → cut s ≡ cut_some n s
unfolding cut
cut_as n s h = enough (length s) n s (omega arith) h

-- one PDU more is tried than there are octets
cut_more : (s : List ℕ) → cut s ≡ cut_next (first_pdu s) s (cut_some (length s))
unfolding cut_some
cut_more s = cut_as (suc (length s)) s (omega arith)

cut-whole : (s p r : List ℕ) → first_pdu s ≡ Whole p r → cut s ≡ record { pdus = p ∷ (cut r).pdus; rest = (cut r).rest }
cut-whole s p r e =
    let less : length r < length s = shorter s p r (whole_is s p r e) in
    cut_more s ∙ ap (λ f. cut_next f s (cut_some (length s))) e
    ∙ ap (λ c. record { pdus = p ∷ c.pdus; rest = c.rest }) (sym (cut_as (length s) r (omega (arith, less))))

cut-open : (s : List ℕ) → first_pdu s ≡ Open → cut s ≡ uncut s
cut-open s e = cut_more s ∙ ap (λ f. cut_next f s (cut_some (length s))) e

cut-lost : (s : List ℕ) → first_pdu s ≡ Lost → cut s ≡ uncut s
cut-lost s e = cut_more s ∙ ap (λ f. cut_next f s (cut_some (length s))) e

-- an induction on streams: what is after a whole PDU is shorter
by_first : (P : List ℕ → Type 0) → ((s p r : List ℕ) → first_pdu s ≡ Whole p r → P r → P s) →
    ((s : List ℕ) → cut s ≡ uncut s → ((p r : List ℕ) → first_pdu s ≡ Whole p r → ⊥) → P s)
    → (n : ℕ) (s : List ℕ) (f : First) → first_pdu s ≡ f → ((r : List ℕ) → length r < length s → P r) → P s
by_first P next last n s (Whole p r) e later = next s p r e (later r (shorter s p r (whole_is s p r e)))
by_first P next last n s Open e later = last s (cut-open s e) (λ p r g. cc (e, g))
by_first P next last n s Lost e later = last s (cut-lost s e) (λ p r g. cc (e, g))

streams_in : (P : List ℕ → Type 0) → ((s p r : List ℕ) → first_pdu s ≡ Whole p r → P r → P s) →
    ((s : List ℕ) → cut s ≡ uncut s → ((p r : List ℕ) → first_pdu s ≡ Whole p r → ⊥) → P s)
    → (n : ℕ) (s : List ℕ) → length s < n → P s
streams_in P next last zero s h = absurd (omega (arith, h))
streams_in P next last (suc n) s h = by_first P next last n s (first_pdu s) refl (λ r less. streams_in P next last n r (omega (arith, less, h)))

streams : (P : List ℕ → Type 0) → ((s p r : List ℕ) → first_pdu s ≡ Whole p r → P r → P s) →
    ((s : List ℕ) → cut s ≡ uncut s → ((p r : List ℕ) → first_pdu s ≡ Whole p r → ⊥) → P s)
    → (s : List ℕ) → P s
streams P next last s = streams_in P next last (suc (length s)) s (omega arith)

-- ---- the laws

pub pieces_do_not_matter : PiecesDoNotMatter
pieces_do_not_matter piece more =
    streams (λ s. cut (s ++ more) ≡ followed (cut s) (cut ((cut s).rest ++ more)))
    (λ s p r e h.
    let w : WholeAt s p r = whole_is s p r e in
    cut-whole (s ++ more) p (r ++ more) (w.further more)
    ∙ ap (λ c. record { pdus = p ∷ c.pdus; rest = c.rest }) h
    ∙ ap (λ c. followed c (cut (c.rest ++ more))) (sym (cut-whole s p r e)))
    (λ s e none. ap (λ c. followed c (cut (c.rest ++ more))) (sym e))
    piece

pub none_is_lost : NoneIsLost
none_is_lost =
    streams (λ s. s ≡ flat_map (λ pdu. pdu) (cut s).pdus ++ (cut s).rest)
    (λ s p r e h.
    let w : WholeAt s p r = whole_is s p r e in
    w.splits ∙ ap (λ q. p ++ q) h ∙ sym (append_assoc p (flat_map (λ pdu. pdu) (cut r).pdus) (cut r).rest)
    ∙ ap (λ c. flat_map (λ pdu. pdu) c.pdus ++ c.rest) (sym (cut-whole s p r e)))
    (λ s e none. ap (λ c. flat_map (λ pdu. pdu) c.pdus ++ c.rest) (sym e))

record EachOf (c : Cut) : Type 0 where
  whole : AllByRecursion (λ pdu. first_pdu pdu ≡ Whole pdu []) c.pdus
  none : (pdu rest : List ℕ) → first_pdu c.rest ≡ Whole pdu rest → ⊥

each_of : (s : List ℕ) → EachOf (cut s)
each_of =
    streams (λ s. EachOf (cut s))
    (λ s p r e h. subst EachOf (sym (cut-whole s p r e)) (record { whole = ((whole_is s p r e).alone, h.whole); none = h.none }))
    (λ s e none. subst EachOf (sym e) (record { whole = tt; none = none }))

pub each_is_whole : EachIsWhole
each_is_whole s = ((each_of s).whole, (each_of s).none)
