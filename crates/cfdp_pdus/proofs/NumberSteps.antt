-- A number that is read is spelled so, and one that is spelled so is read.
use Rattle.std.proofs.Common.{◌≡◌, ℕ, ◌≤◌, List, ◌++◌, length, take, drop, ltb, false, Ok, refl, sym, ap, ◌∙◌, arith}
use Rattle.std.proofs.lemmas.Bool.{ltb-false, le-ltb}
use Rattle.std.proofs.lemmas.List.{drop_at, take-append-drop, length-append, length-take}
use Rattle.byteorder.specs.Endian.{big_number}
use Rattle.byteorder.specs.Numbers.{big_from-append}
use Rattle.cfdp_pdus.specs.declared.fault.PduFault.{PduFault}
use Rattle.cfdp_pdus.specs.Bits.{IsNumber}
use Rattle.cfdp_pdus.specs.First.{number_at}
use Rattle.cfdp_tlv.proofs.Steps.{guard_ok}

-- a number is at the front
pub record TakesNumber (octets : List ℕ) (len x : ℕ) (rest : List ℕ) : Type 0 where
  pub front : List ℕ
  pub parts : octets ≡ front ++ rest
  pub spelled : IsNumber front len x

-- a number reads the same, whatever follows it
same_number : (len : ℕ) (front rest : List ℕ) → length front ≡ len → big_number len (front ++ rest) ≡ big_number len front
same_number len front rest e = big_from-append len front rest (omega arith)

pub number_takes : (fault : PduFault) (len : ℕ) (octets : List ℕ) (x : ℕ) (rest : List ℕ) → number_at fault len octets ≡ Ok (x, rest) →
    TakesNumber octets len x rest
unfolding number_at
number_takes fault len octets x rest e =
    let g = guard_ok (ltb (length octets) len) fault (big_number len octets, drop len octets) (x, rest) e in
    let long : len ≤ length octets = ltb-false _ _ g.0 in
    let x-is : big_number len octets ≡ x = ap (λ (p : ℕ × List ℕ). p.0) g.1 in
    let rest-is : drop len octets ≡ rest = ap (λ (p : ℕ × List ℕ). p.1) g.1 in
    let parts : octets ≡ take len octets ++ rest = sym (take-append-drop len octets) ∙ ap (λ (t : List ℕ). take len octets ++ t) rest-is in
    let len-is : length (take len octets) ≡ len = omega (arith, length-take len octets) in
    record {
      front = take len octets;
      parts = parts;
      spelled = record { len_is = len-is; spelled = sym x-is ∙ ap (big_number len) parts ∙ same_number len (take len octets) rest len-is };
    }

pub number_again : (fault : PduFault) (len : ℕ) (front : List ℕ) (x : ℕ) (rest : List ℕ) → IsNumber front len x → number_at fault len (front ++ rest)
    ≡ Ok (x, rest)
unfolding number_at
number_again fault len front x rest spelled =
    let len-is = spelled.len_is in
    let long : ltb (length (front ++ rest)) len ≡ false = le-ltb _ _ (omega (arith, length-append front rest, len-is)) in
    let x-is : big_number len (front ++ rest) ≡ x = same_number len front rest len-is ∙ sym spelled.spelled in
    rw (long, x-is, drop_at front rest len len-is) refl
