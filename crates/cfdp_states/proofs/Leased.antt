-- What is not leased may be left out of sight. Of two filestores that agree on a footprint the same changes, at paths that it
-- covers, add and take the same blocks; so nothing need be known of the directories.
use Rattle.std.proofs.Common.{◌≡◌, refl, sym, ◌∙◌, ap, subst, cond, ◌||◌, Option, None, IsTrue, ℕ, ◌+◌, ◌-◌, ◌<◌, max, List, [], ◌∷◌, length, arith}
use Rattle.std.specs.List.{AllByRecursion}
use Rattle.std.specs.FinMap.{get-retain_keys}
use Rattle.cfdp_paths.specs.Paths.{Path}
use Rattle.cfdp_actions.specs.Filestore.{Node, Filestore, node_at, staged_in, blocks_of, weight, blocks, Change, Becomes, Stages, changed, after}
use Rattle.cfdp_actions.specs.Actions.{Item, Outcome, row}
use Rattle.cfdp_leases.specs.Items.{performed}
use Rattle.cfdp_leases.specs.Footprint.{Footprint, is_exclusive, is_shared, is_covered, IsWithin, Keeps}
use Rattle.cfdp_leases.specs.Laws.{FrameOfReads, IsOwn, OwnChanges}
use Rattle.cfdp_states.specs.Alone.{statuses, growths, steps, peak, reached, alone}
use Rattle.cfdp_states.specs.Views.{only}
use Rattle.cfdp_states.specs.Laws.{OnlyLeased}
use Rattle.cfdp_actions.proofs.Weights.{blocks-becomes, blocks-stages}
use Rattle.cfdp_states.proofs.Alike.{IsSame, same-changed, same-after, RunsAlike}
use Rattle.cfdp_states.proofs.AnySlot.{staged_more}
use Rattle.cfdp_paths.proofs.InOrder.{path_antisym}

exclusive-covered : (fp : Footprint) (p : Path) → IsTrue (is_exclusive fp p) → IsTrue (is_covered fp p)
exclusive-covered fp p e = ap (λ b. b || is_shared fp p) e

-- b and d blocks before a change and c and e after it, where the same weight goes and the same comes
as_much : (b c d e old new : ℕ) → c + old ≡ b + new → e + old ≡ d + new → c + d ≡ e + b
as_much b c d e old new first second = omega arith

one-alike : (fp : Footprint) (slot : ℕ) (F G : Filestore) (c : Change) → IsSame fp slot F G → IsOwn fp slot c → blocks (changed F c) + blocks G
    ≡ blocks (changed G c) + blocks F
one-alike fp slot F G (Becomes p now) same own =
    as_much (blocks F) (blocks (changed F (Becomes p now))) (blocks G) (blocks (changed G (Becomes p now))) (weight (node_at F p)) (weight now)
    (blocks-becomes F p now)
    (subst (λ (a : Option Node). blocks (changed G (Becomes p now)) + weight a ≡ blocks G + weight now) (sym (same.alike.kept p (exclusive-covered fp p own)))
    (blocks-becomes G p now))
one-alike fp slot F G (Stages other octets) same own =
    let held_F : other < length F.staged = subst (λ s. s < length F.staged) (sym own) same.held_F in
    let held_G : other < length G.staged = subst (λ s. s < length G.staged) (sym own) same.held_G in
    let staged : staged_in F other ≡ staged_in G other = ap (staged_in F) own ∙ same.alike.staged ∙ sym (ap (staged_in G) own) in
    as_much (blocks F) (blocks (changed F (Stages other octets))) (blocks G) (blocks (changed G (Stages other octets))) (blocks_of (length (staged_in F other)))
    (blocks_of (length octets))
    (blocks-stages F other octets held_F)
    (subst (λ (s : List ℕ). blocks (changed G (Stages other octets)) + blocks_of (length s) ≡ blocks G + blocks_of (length octets)) (sym staged)
    (blocks-stages G other octets held_G))

-- b and a blocks, then d and c, and then f and e: each time as many more of both
pub through : (a b c d e f : ℕ) → c + b ≡ d + a → e + d ≡ f + c → e + b ≡ f + a
through a b c d e f one two = omega arith

blocks-alike : (fp : Footprint) (slot : ℕ) (F G : Filestore) (cs : List Change) → IsSame fp slot F G → AllByRecursion (IsOwn fp slot) cs → blocks (after F cs)
    + blocks G ≡ blocks (after G cs) + blocks F
blocks-alike fp slot F G [] same own = omega arith
blocks-alike fp slot F G (c ∷ cs) same own =
    through (blocks F) (blocks G) (blocks (changed F c)) (blocks (changed G c)) (blocks (after F (c ∷ cs))) (blocks (after G (c ∷ cs)))
    (one-alike fp slot F G c same own.0) (blocks-alike fp slot (changed F c) (changed G c) cs (same-changed fp slot F G c same) own.1)

highest : (b c d e p r : ℕ) → c + d ≡ e + b → p + e ≡ r + c → max b p + d ≡ max d r + b
highest b c d e p r one rest = omega arith

module _ (reads : FrameOfReads) (owns : OwnChanges) (prefixes : List Path) (fp : Footprint) (slot : ℕ) where
  pub runs_leased : (F G : Filestore) (items : List Item) → IsSame fp slot F G → AllByRecursion (IsWithin fp) items → RunsAlike prefixes fp slot F G items
  unfolding statuses growths peak steps reached
  runs_leased F G [] same within = record { statuses = refl; growths = refl; peak = omega arith; steps = refl; kept = same.alike.kept }
  runs_leased F G (item ∷ items) same within =
      let read = reads prefixes fp F G slot item same.alike within.0 in
      let o = row prefixes F slot item in
      let rows : o ≡ row prefixes G slot item = read.0 in
      let H = performed prefixes F slot item in
      let K = performed prefixes G slot item in
      let next : IsSame fp slot H K = subst (λ (o : Outcome). IsSame fp slot H (after G o.changes)) rows (same-after fp slot F G o.changes same) in
      let blocks_too : blocks H + blocks G ≡ blocks K + blocks F = subst (λ (r : Outcome). blocks H + blocks G ≡ blocks (after G r.changes) + blocks F) rows
      (blocks-alike fp slot F G o.changes same (owns prefixes fp F slot item within.0)) in
      let rest = runs_leased H K items next within.1 in
      record {
        statuses = λ i. (rows i).answer ∷ rest.statuses i;
        growths = λ i. ((rows i).taken, (rows i).given) ∷ rest.growths i;
        peak = highest (blocks F) (blocks H) (blocks G) (blocks K) (Rattle.cfdp_states.specs.Alone.peak prefixes H slot items)
            (Rattle.cfdp_states.specs.Alone.peak prefixes K slot items) blocks_too rest.peak;
        steps = λ i. (1 + read.1 i) + rest.steps i;
        kept = rest.kept;
      }

as_high : (a b f g h k x : ℕ) → a + k ≡ b + h → h ≡ f + x → k ≡ g + x → a - f ≡ b - g
as_high a b f g h k x runs first second = omega arith

pub only_leased : FrameOfReads → OwnChanges → OnlyLeased
only_leased reads owns prefixes fp F x items within =
    let H = alone (only fp F) x in
    let K = alone F x in
    let kept : Keeps H K fp = λ p covered. get-retain_keys F.nodes (λ p. is_covered fp p) p (λ y e. ap (λ p. is_covered fp p) (sym (path_antisym p y e)))
    ∙ ap (λ b. cond b (node_at F p) None) covered in
    let one : 0 < length (x ∷ []) = omega arith in
    let same : IsSame fp 0 H K = record { alike = record { kept = kept; staged = refl }; held_F = one; held_G = one } in
    let runs = runs_leased reads owns prefixes fp 0 H K items same within in (
      runs.statuses,
      as_high (peak prefixes H 0 items) (peak prefixes K 0 items) (blocks (alone (only fp F) [])) (blocks (alone F [])) (blocks H) (blocks K)
          (blocks_of (length x)) runs.peak
          (staged_more (alone (only fp F) []) 0 x (omega arith) refl) (staged_more (alone F []) 0 x (omega arith) refl),
      runs.steps,
      runs.kept,
    )
