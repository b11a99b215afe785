-- It does not matter in which slot the file is staged: each of two filestores is as long as the other, the other slots apart.
use Rattle.std.proofs.Common.{◌≡◌, refl, sym, ◌∙◌, ap, subst, Option, ℕ, ◌+◌, ◌-◌, ◌<◌, ◌≤◌, List, [], length, arith, le_refl, get_or-set_same, length-set}
use Rattle.cfdp_paths.specs.Paths.{Path}
use Rattle.cfdp_actions.specs.Filestore.{Node, Filestore, node_at, staged_in, blocks_of, blocks}
use Rattle.cfdp_states.specs.Alone.{steps, peak, stage, alone}
use Rattle.cfdp_states.specs.Laws.{AnySlot, AnySlotWith}
use Rattle.cfdp_actions.proofs.Growth.{blocks_of-zero}
use Rattle.cfdp_actions.proofs.Weights.{blocks-stages}
use Rattle.cfdp_states.proofs.Longer.{Longer, longer-itself, IsLonger, blocks-longer}
use Rattle.cfdp_states.proofs.LongerFile.{statuses-longer, peak-longer, steps-longer, other_blocks, held_blocks}

no_longer : (F G : Filestore) (slot other : ℕ) → ((p : Path) → node_at F p ≡ node_at G p) → length (staged_in F slot) ≡ length (staged_in G other) →
    slot < length F.staged → other < length G.staged →
    IsLonger slot other (other_blocks F slot) (other_blocks G other) F G
no_longer F G slot other same staged held_F held_G = record {
  nodes = λ q. subst (λ (v : Option Node). Longer (node_at F q) v) (same q) (longer-itself (node_at F q));
  staged = subst (λ n. length (staged_in F slot) ≤ n) staged (le_refl (length (staged_in F slot)));
  held_F = held_F;
  held_G = held_G;
  others_F = sym (held_blocks F.staged slot held_F);
  others_G = sym (held_blocks G.staged other held_G);
}

same_gap : (b c p r m n : ℕ) → b + n ≤ c + m → c + m ≤ b + n → p + n ≤ r + m → r + m ≤ p + n → p - b ≡ r - c
same_gap b c p r m n one two three four = omega arith

equal : (a b : ℕ) → a ≤ b → b ≤ a → a ≡ b
equal a b one two = omega arith

pub any_slot : AnySlot
any_slot prefixes F G slot other items same staged held_F held_G =
    let m = other_blocks F slot in
    let n = other_blocks G other in
    let there : IsLonger slot other m n F G = no_longer F G slot other same staged held_F held_G in
    let back : IsLonger other slot n m G F = no_longer G F other slot (λ p. sym (same p)) (sym staged) held_G held_F in (
      statuses-longer prefixes slot other m n F G items there,
      same_gap (blocks F) (blocks G) (peak prefixes F slot items) (peak prefixes G other items) m n (blocks-longer slot other m n F G there)
          (blocks-longer other slot n m G F back) (peak-longer prefixes slot other m n F G items there) (peak-longer prefixes other slot n m G F items back),
      equal (steps prefixes F slot items) (steps prefixes G other items) (steps-longer prefixes slot other m n F G items there)
          (steps-longer prefixes other slot n m G F items back),
    )

-- f and g blocks before, h and k once the file is staged, and p and r at most from then on; the other slots hold m and n
same_rise : (f g h k p r x : ℕ) → h ≡ f + x → k ≡ g + x → (m n : ℕ) → h + n ≤ k + m → k + m ≤ h + n → p + n ≤ r + m → r + m ≤ p + n → p - f ≡ r - g
same_rise f g h k p r x first second m n one two three four = omega arith

pub staged_more : (F : Filestore) (slot : ℕ) (x : List ℕ) → slot < length F.staged → staged_in F slot ≡ [] → blocks (stage F slot x) ≡ blocks F
    + blocks_of (length x)
staged_more F slot x held empty =
    let sum : blocks (stage F slot x) + blocks_of (length (staged_in F slot)) ≡ blocks F + blocks_of (length x) = blocks-stages F slot x held in
    let none : blocks_of (length (staged_in F slot)) ≡ 0 = ap (λ (s : List ℕ). blocks_of (length s)) empty ∙ blocks_of-zero in
    omega arith

pub any_slot_with : AnySlotWith
any_slot_with prefixes F slot x items held empty =
    let H = stage F slot x in
    let K = alone F x in
    let held_H : slot < length H.staged = subst (λ n. slot < n) (sym (length-set F.staged slot x)) held in
    let staged : length (staged_in H slot) ≡ length (staged_in K 0) = ap length (get_or-set_same F.staged slot x [] held) in
    let one : 0 < length K.staged = omega arith in
    let m = other_blocks H slot in
    let n = other_blocks K 0 in
    let there : IsLonger slot 0 m n H K = no_longer H K slot 0 (λ p. refl) staged held_H one in
    let back : IsLonger 0 slot n m K H = no_longer K H 0 slot (λ p. refl) (sym staged) one held_H in (
      statuses-longer prefixes slot 0 m n H K items there,
      same_rise (blocks F) (blocks (alone F [])) (blocks H) (blocks K) (peak prefixes H slot items) (peak prefixes K 0 items) (blocks_of (length x))
          (staged_more F slot x held empty) (staged_more (alone F []) 0 x (omega arith) refl) m n
          (blocks-longer slot 0 m n H K there) (blocks-longer 0 slot n m K H back) (peak-longer prefixes slot 0 m n H K items there)
          (peak-longer prefixes 0 slot n m K H items back),
      equal (steps prefixes H slot items) (steps prefixes K 0 items) (steps-longer prefixes slot 0 m n H K items there)
          (steps-longer prefixes 0 slot n m K H items back),
    )
