-- What has begun of a PDU, as it is filled from the next piece of the stream.
--     is_going s              a stream that is not lost is empty, or begins with the version
--     none_whole, open_by     no PDU is whole while the fixed octets, or octets of the PDU, are missing
--     whole_by                the PDU is whole
use Rattle.std.proofs.Common.{◌≡◌, refl, sym, ◌∙◌, ap, inl, inr, ◌⊎◌, ℕ, ◌+◌, ◌*◌, ◌/◌, ◌==◌, ◌<◌, ◌≤◌, Bool, true, false, cond, List, [], ◌∷◌, ◌++◌, length, take, drop, max, Option, Some, None, arith, length-append}
use Rattle.std.specs.Prelude.{nat_lt, slice_get}
use Rattle.std.proofs.lemmas.Bool.{ltb-true, lt-ltb, le-ltb}
use Rattle.std.proofs.lemmas.List.{append-nil}
use Rattle.std.proofs.Math.Seq.{take-append_seam, drop-append_seam}
use Rattle.cfdp_crc.specs.Seal.{header_len}
use Rattle.cfdp_cutter.specs.Laws.{LittleIsKept}
use Rattle.cfdp_cutter.specs.Cutting.{First, Whole, Open, Lost, begins_pdu, first_by, first_pdu, pdu_len}

-- ---- the version

going_by : (version : Bool) (front : First) → (cond version front Lost ≡ Lost → ⊥) → version ≡ true
going_by true front not_lost = refl
going_by false front not_lost = absurd (not_lost refl)

pub is_going : (s : List ℕ) → (first_pdu s ≡ Lost → ⊥) → begins_pdu s ≡ true
unfolding first_pdu
is_going s not_lost = going_by (begins_pdu s) (first_by (pdu_len s) s) not_lost

begins_front : (b o : List ℕ) → begins_pdu (b ++ o) ≡ true → begins_pdu b ≡ true
begins_front [] o e = refl
begins_front (x ∷ b) o e = e

-- ---- the length

pub len-least : (b : List ℕ) (n : ℕ) → pdu_len b ≡ Some n → (4 ≤ length b) × (7 ≤ n)
len-least [] n e = absurd (cc e)
len-least (x ∷ []) n e = absurd (cc e)
len-least (x ∷ y ∷ []) n e = absurd (cc e)
len-least (x ∷ y ∷ z ∷ []) n e = absurd (cc e)
len-least (x ∷ y ∷ z ∷ w ∷ b) n e = let is : header_len w + (256 * y + z) ≡ n = cc e in (omega arith, omega (arith, is))

pub len-none : (b : List ℕ) → pdu_len b ≡ None → length b < 4
len-none [] e = omega arith
len-none (x ∷ []) e = omega arith
len-none (x ∷ y ∷ []) e = omega arith
len-none (x ∷ y ∷ z ∷ []) e = omega arith
len-none (x ∷ y ∷ z ∷ w ∷ b) e = absurd (cc e)

len-append : (b o : List ℕ) (n : ℕ) → pdu_len b ≡ Some n → pdu_len (b ++ o) ≡ Some n
len-append [] o n e = absurd (cc e)
len-append (x ∷ []) o n e = absurd (cc e)
len-append (x ∷ y ∷ []) o n e = absurd (cc e)
len-append (x ∷ y ∷ z ∷ []) o n e = absurd (cc e)
len-append (x ∷ y ∷ z ∷ w ∷ b) o n e = e

-- ---- what is open

open_of : (s : List ℕ) (n : ℕ) → begins_pdu s ≡ true → pdu_len s ≡ Some n → length s < n → first_pdu s ≡ Open
unfolding first_pdu
open_of s n good e short =
    ap (λ version. cond version (first_by (pdu_len s) s) Lost) good ∙ ap (λ o. first_by o s) e
    ∙ ap (λ b. cond b Open (Whole (take n s) (drop n s))) (lt-ltb (length s) n short)

open_none : (s : List ℕ) → begins_pdu s ≡ true → pdu_len s ≡ None → first_pdu s ≡ Open
unfolding first_pdu
open_none s good e = ap (λ version. cond version (first_by (pdu_len s) s) Lost) good ∙ ap (λ o. first_by o s) e

short_by : (version short : Bool) (p r : List ℕ) → cond version (cond short Open (Whole p r)) Lost ≡ Open → short ≡ true
short_by true true p r e = refl
short_by true false p r e = absurd (cc e)
short_by false short p r e = absurd (cc e)

pub open-short : (s : List ℕ) (n : ℕ) → first_pdu s ≡ Open → pdu_len s ≡ Some n → length s < n
unfolding first_pdu
open-short s n e f =
    let g = ap (λ o. cond (begins_pdu s) (first_by o s) Lost) (sym f) ∙ e in
    ltb-true (length s) n (short_by (begins_pdu s) (nat_lt (length s) n) (take n s) (drop n s) g)

open_good_by : (version : Bool) (front : First) → cond version front Lost ≡ Open → version ≡ true
open_good_by true front e = refl
open_good_by false front e = absurd (cc e)

pub open-begins : (s : List ℕ) → first_pdu s ≡ Open → begins_pdu s ≡ true
unfolding first_pdu
open-begins s e = open_good_by (begins_pdu s) (first_by (pdu_len s) s) e

pub nothing_open : first_pdu [] ≡ Open
unfolding first_pdu
nothing_open = refl

-- ---- what has begun is filled up to the fixed octets

-- b has begun, and o is to come; before it b0 had begun, which was open
pub record Fixed (b0 b o s : List ℕ) : Type 0 where
  pub was_open : first_pdu b0 ≡ Open
  pub going : first_pdu s ≡ Lost → ⊥
  pub stream : b ++ o ≡ s
  pub old : (o0 : List ℕ) × (b0 ++ o0 ≡ s)
  pub within : length b ≤ max 4 (length b0)
  pub all : (length b ≡ max 4 (length b0)) ⊎ (o ≡ [])

-- the fixed octets are not there
pub none_whole : (b0 b o s : List ℕ) → Fixed b0 b o s → pdu_len b ≡ None → (first_pdu s ≡ Open) × (o ≡ [])
none_whole b0 b o s f e =
    let few : length b < 4 = len-none b e in
    let ends : o ≡ [] = elim f.all [ inl n ↦ absurd (omega (arith, few, n)) | inr h ↦ h ] in
    let same : b ≡ s = sym (append-nil b) ∙ ap (λ q. b ++ q) (sym ends) ∙ f.stream in
    (open_none s (is_going s f.going) (ap pdu_len (sym same) ∙ e), ends)

still_short : (b0 b o s : List ℕ) (n : ℕ) → Fixed b0 b o s → pdu_len b ≡ Some n → (m : Option ℕ) → pdu_len b0 ≡ m → length b < n
still_short b0 b o s n f e None g = let few : length b0 < 4 = len-none b0 g in let h = f.within in let l = len-least b n e in omega (arith, few, h, l.1)
still_short b0 b o s n f e (Some m) g =
    let here : pdu_len s ≡ Some n = ap pdu_len (sym f.stream) ∙ len-append b o n e in
    let there : pdu_len s ≡ Some m = ap pdu_len (sym f.old.1) ∙ len-append b0 f.old.0 m g in
    let same : m ≡ n = cc (here, there) in
    let short : length b0 < m = open-short b0 m f.was_open g in
    let h = f.within in
    let l = len-least b0 m g in
    omega (arith, same, short, h, l.0)

-- octets of the PDU are missing
pub fixed_short : (b0 b o s : List ℕ) (n : ℕ) → Fixed b0 b o s → pdu_len b ≡ Some n → length b < n
fixed_short b0 b o s n f e = still_short b0 b o s n f e (pdu_len b0) refl

pub fixed_open : (b0 b o s : List ℕ) (n : ℕ) → Fixed b0 b o s → pdu_len b ≡ Some n → first_pdu b ≡ Open
fixed_open b0 b o s n f e =
    let good : begins_pdu (b ++ o) ≡ true = ap begins_pdu f.stream ∙ is_going s f.going in
    open_of b n (begins_front b o good) e (fixed_short b0 b o s n f e)

-- ---- and up to the end of the PDU

pub whole_by : (b0 b o s c p : List ℕ) (n : ℕ) → Fixed b0 b o s → pdu_len b ≡ Some n → c ++ p ≡ s → length c ≡ n → first_pdu s ≡ Whole c p
unfolding first_pdu
whole_by b0 b o s c p n f e stream size =
    let here : pdu_len s ≡ Some n = ap pdu_len (sym f.stream) ∙ len-append b o n e in
    let long : nat_lt (length s) n ≡ false = le-ltb (length s) n (omega (arith, length-append c p, ap length stream, size)) in
    let front : take n s ≡ c = ap (λ m. take m s) (sym size) ∙ ap (λ q. take (length c) q) (sym stream) ∙ take-append_seam c p in
    let following : drop n s ≡ p = ap (λ m. drop m s) (sym size) ∙ ap (λ q. drop (length c) q) (sym stream) ∙ drop-append_seam c p in
    ap (λ version. cond version (first_by (pdu_len s) s) Lost) (is_going s f.going) ∙ ap (λ o. first_by o s) here
    ∙ ap (λ b. cond b Open (Whole (take n s) (drop n s))) long
    ∙ ap (λ q. Whole q (drop n s)) front ∙ ap (λ q. Whole c q) following

pub record Short (s c p : List ℕ) : Type 0 where
  pub is : first_pdu s ≡ Open
  pub ends : p ≡ []
  pub kept : first_pdu c ≡ Open

pub open_by : (b0 b o s c p : List ℕ) (n : ℕ) → Fixed b0 b o s → pdu_len b ≡ Some n → c ++ p ≡ s → length c ≤ n → (length c ≡ n) ⊎ (p ≡ []) →
    (length c ≡ n → ⊥) → Short s c p
open_by b0 b o s c p n f e stream within all less =
    let ends : p ≡ [] = elim all [ inl h ↦ absurd (less h) | inr h ↦ h ] in
    let same : c ≡ s = sym (append-nil c) ∙ ap (λ q. c ++ q) (sym ends) ∙ stream in
    let here : pdu_len s ≡ Some n = ap pdu_len (sym f.stream) ∙ len-append b o n e in
    let short : length s < n = omega (arith, within, less, ap length same) in
    let is : first_pdu s ≡ Open = open_of s n (is_going s f.going) here short in
    record { is = is; ends = ends; kept = ap first_pdu same ∙ is }

-- ---- what a stream goes on with

pub lost_here : (b o : List ℕ) (x : ℕ) (rest : List ℕ) → b ≡ [] → o ≡ x ∷ rest → (x / 32 ≡ 1 → ⊥) → (bad : (x / 32 == 1) ≡ false) → first_pdu (b ++ o) ≡ Lost
unfolding first_pdu
lost_here b o x rest e f not bad =
    let spelled : b ++ o ≡ x ∷ rest = ap (λ q. q ++ o) e ∙ f in
    ap (λ s. cond (begins_pdu s) (first_by (pdu_len s) s) Lost) spelled
    ∙ ap (λ version. cond version (first_by (pdu_len (x ∷ rest)) (x ∷ rest)) Lost) bad

not_lost_by : (version : Bool) (o : Option ℕ) (s : List ℕ) → version ≡ true → cond version (first_by o s) Lost ≡ Lost → ⊥
not_lost_by true None s e f = cc f
not_lost_by true (Some n) s e f = elim (nat_lt (length s) n) as (λ b. cond b Open (Whole (take n s) (drop n s)) ≡ Lost → ⊥) [
  | true ↦ λ g. cc g
  | false ↦
      λ g. cc g
] f
not_lost_by false o s e f = cc e

pub not_lost : (s : List ℕ) → begins_pdu s ≡ true → first_pdu s ≡ Lost → ⊥
unfolding first_pdu
not_lost s e f = not_lost_by (begins_pdu s) (pdu_len s) s e f

-- a PDU has begun already
pub going_on : (b o : List ℕ) → (length b ≡ 0 → ⊥) → first_pdu b ≡ Open → first_pdu (b ++ o) ≡ Lost → ⊥
going_on [] o some here = absurd (some refl)
going_on (x ∷ b) o some here = not_lost (x ∷ b ++ o) (open-begins (x ∷ b) here)

-- nothing more comes
pub going_empty : (b o : List ℕ) → o ≡ [] → first_pdu b ≡ Open → first_pdu (b ++ o) ≡ Lost → ⊥
going_empty b o e here = let same : b ++ o ≡ b = ap (λ q. b ++ q) e ∙ append-nil b in not_lost (b ++ o) (ap begins_pdu same ∙ open-begins b here)

-- the next octet has the version
pub going_next : (b o : List ℕ) (x : ℕ) (rest : List ℕ) → b ≡ [] → o ≡ x ∷ rest → x / 32 ≡ 1 → first_pdu (b ++ o) ≡ Lost → ⊥
going_next b o x rest e f version =
    let spelled : b ++ o ≡ x ∷ rest = ap (λ q. q ++ o) e ∙ f in
    let good : (x / 32 == 1) ≡ true = ap (λ m. m == 1) version in
    not_lost (b ++ o) (ap begins_pdu spelled ∙ good)

pub got : (o : List ℕ) (x : ℕ) → slice_get o 0 ≡ Some x → (rest : List ℕ) × (o ≡ x ∷ rest)
got [] x e = absurd (cc e)
got (y ∷ rest) x e = let same : y ≡ x = cc e in (rest, ap (λ z. z ∷ rest) same)

pub nothing_at : (o : List ℕ) → slice_get o 0 ≡ None → o ≡ []
nothing_at [] e = refl
nothing_at (y ∷ rest) e = absurd (cc e)

-- ---- how much is kept

pub little_is_kept : LittleIsKept
little_is_kept [] octets e = omega arith
little_is_kept (x ∷ []) octets e = omega arith
little_is_kept (x ∷ y ∷ []) octets e = omega arith
little_is_kept (x ∷ y ∷ z ∷ []) octets e = omega arith
little_is_kept (x ∷ y ∷ z ∷ w ∷ b) octets e =
    let short = open-short (x ∷ y ∷ z ∷ w ∷ b) (header_len w + (256 * y + z)) e refl in
    let high : y < 256 = octets.1.0 in
    let low : z < 256 = octets.1.1.0 in
    omega (arith, short, high, low)
