-- Two filestores that agree on a footprint: the same changes leave them so, and items within the footprint run alike on
-- both. That a row reads only what the footprint covers, and keeps each path's parent, is handed in (`reads`, `stays`).
use Rattle.std.proofs.Common.{◌≡◌, ◌≢◌, refl, sym, ◌∙◌, ap, subst, cond, ℕ, ◌+◌, ◌-◌, ◌<◌, max, List, [], ◌∷◌, length, arith, slice_index_or, slice_set, length-set, get_or-set_same, get_or-set_other, ⊎_elim}
use Rattle.std.proofs.lemmas.Bool.{cases_eq}
use Rattle.std.specs.List.{AllByRecursion}
use Rattle.cfdp_paths.specs.Paths.{Path, same_path}
use Rattle.cfdp_actions.specs.Filestore.{Filestore, staged_in, blocks_of, blocks, Change, Becomes, Stages, changed, after, IsRooted}
use Rattle.cfdp_actions.specs.Actions.{Item, Outcome, row}
use Rattle.cfdp_leases.specs.Items.{performed}
use Rattle.cfdp_leases.specs.Footprint.{Footprint, IsWithin, Keeps}
use Rattle.cfdp_leases.specs.Laws.{IsAlike, FrameOfReads, StaysRooted}
use Rattle.cfdp_states.specs.Alone.{statuses, growths, steps, peak, need, reached, stage}
use Rattle.cfdp_states.specs.Laws.{ForeignChange, ForeignChangeWith}
use Rattle.cfdp_actions.proofs.Order.{node_at-becomes}
use Rattle.cfdp_actions.proofs.Weights.{blocks-stages}
use Rattle.cfdp_states.proofs.Rows.{row-grows}

-- ---- one change, and several

kept-changed : (fp : Footprint) (F G : Filestore) (c : Change) → Keeps F G fp → Keeps (changed F c) (changed G c) fp
kept-changed fp F G (Becomes p now) kept q covered =
    node_at-becomes F p now q ∙ ap (cond (same_path q p) now) (kept q covered) ∙ sym (node_at-becomes G p now q)
kept-changed fp F G (Stages slot octets) kept q covered = kept q covered

staged-set : (slot other : ℕ) (xs ys : List (List ℕ)) (octets : List ℕ) → slot < length xs → slot < length ys → slice_index_or xs slot []
    ≡ slice_index_or ys slot [] →
    slice_index_or (slice_set xs other octets) slot [] ≡ slice_index_or (slice_set ys other octets) slot []
staged-set slot other xs ys octets held_x held_y same =
    ⊎_elim
    (λ (e : other ≡ slot). subst (λ i. slice_index_or (slice_set xs i octets) slot [] ≡ slice_index_or (slice_set ys i octets) slot []) (sym e)
    (get_or-set_same xs slot octets [] held_x ∙ sym (get_or-set_same ys slot octets [] held_y)))
    (λ (apart : other ≢ slot). get_or-set_other xs other slot octets [] (λ e. apart (sym e)) ∙ same
    ∙ sym (get_or-set_other ys other slot octets [] (λ e. apart (sym e))))
    (cases_eq other slot)

-- what the transaction of the footprint and the slot can say of the two, and that both have the slot
pub record IsSame (fp : Footprint) (slot : ℕ) (F G : Filestore) : Type 0 where
  pub alike : IsAlike fp slot F G
  pub held_F : slot < length F.staged
  pub held_G : slot < length G.staged

pub held-changed : (slot : ℕ) (F : Filestore) (c : Change) → slot < length F.staged → slot < length (changed F c).staged
held-changed slot F (Becomes p now) held = held
held-changed slot F (Stages other octets) held = subst (λ n. slot < n) (sym (length-set F.staged other octets)) held

staged-changed : (slot : ℕ) (F G : Filestore) (c : Change) → slot < length F.staged → slot < length G.staged → staged_in F slot ≡ staged_in G slot →
    staged_in (changed F c) slot ≡ staged_in (changed G c) slot
staged-changed slot F G (Becomes p now) held_F held_G same = same
staged-changed slot F G (Stages other octets) held_F held_G same = staged-set slot other F.staged G.staged octets held_F held_G same

pub same-changed : (fp : Footprint) (slot : ℕ) (F G : Filestore) (c : Change) → IsSame fp slot F G → IsSame fp slot (changed F c) (changed G c)
same-changed fp slot F G c same = record {
  alike = record {
    kept = kept-changed fp F G c same.alike.kept;
    staged = staged-changed slot F G c same.held_F same.held_G same.alike.staged;
  };
  held_F = held-changed slot F c same.held_F;
  held_G = held-changed slot G c same.held_G;
}

pub same-after : (fp : Footprint) (slot : ℕ) (F G : Filestore) (cs : List Change) → IsSame fp slot F G → IsSame fp slot (after F cs) (after G cs)
same-after fp slot F G [] same = same
same-after fp slot F G (c ∷ cs) same = same-after fp slot (changed F c) (changed G c) cs (same-changed fp slot F G c same)

-- ---- a list

-- b and d blocks before an item and c and e after it, p and r at most from then on
higher : (b c d e p r taken given : ℕ) → c + given ≡ b + taken → e + given ≡ d + taken → p + e ≡ r + c → max b p + d ≡ max d r + b
higher b c d e p r taken given first second rest = omega arith

-- the same statuses, growths and steps, peaks that are as far apart as the blocks now, and the same at what is covered in the end
pub record RunsAlike (prefixes : List Path) (fp : Footprint) (slot : ℕ) (F G : Filestore) (items : List Item) : Type 0 where
  pub statuses : statuses prefixes F slot items ≡ statuses prefixes G slot items
  pub growths : growths prefixes F slot items ≡ growths prefixes G slot items
  pub peak : peak prefixes F slot items + blocks G ≡ peak prefixes G slot items + blocks F
  pub steps : steps prefixes F slot items ≡ steps prefixes G slot items
  pub kept : Keeps (reached prefixes F slot items) (reached prefixes G slot items) fp

module _ (reads : FrameOfReads) (stays : StaysRooted) (prefixes : List Path) (fp : Footprint) (slot : ℕ) where
  -- after an item within the footprint
  pub same-performed : (F G : Filestore) (item : Item) → IsSame fp slot F G → IsWithin fp item →
      IsSame fp slot (performed prefixes F slot item) (performed prefixes G slot item)
  same-performed F G item same within =
      let rows : row prefixes F slot item ≡ row prefixes G slot item = (reads prefixes fp F G slot item same.alike within).0 in
      subst (λ (o : Outcome). IsSame fp slot (performed prefixes F slot item) (after G o.changes)) rows
      (same-after fp slot F G (row prefixes F slot item).changes same)

  pub runs_alike : (F G : Filestore) (items : List Item) → IsSame fp slot F G → IsRooted F → IsRooted G → AllByRecursion (IsWithin fp) items →
      RunsAlike prefixes fp slot F G items
  unfolding statuses growths peak steps reached
  runs_alike F G [] same rooted_F rooted_G within = record { statuses = refl; growths = refl; peak = omega arith; steps = refl; kept = same.alike.kept }
  runs_alike F G (item ∷ items) same rooted_F rooted_G within =
      let read = reads prefixes fp F G slot item same.alike within.0 in
      let o = row prefixes F slot item in
      let rows : o ≡ row prefixes G slot item = read.0 in
      let H = performed prefixes F slot item in
      let K = performed prefixes G slot item in
      let rest = runs_alike H K items (same-performed F G item same within.0) (stays prefixes F slot item rooted_F)
      (stays prefixes G slot item rooted_G) within.1 in
      record {
        statuses = λ i. (rows i).answer ∷ rest.statuses i;
        growths = λ i. ((rows i).taken, (rows i).given) ∷ rest.growths i;
        peak = higher (blocks F) (blocks H) (blocks G) (blocks K) (Rattle.cfdp_states.specs.Alone.peak prefixes H slot items)
            (Rattle.cfdp_states.specs.Alone.peak prefixes K slot items) o.taken o.given
            (row-grows prefixes F slot item rooted_F same.held_F)
            (subst (λ (o : Outcome). blocks K + o.given ≡ blocks G + o.taken) (sym rows) (row-grows prefixes G slot item rooted_G same.held_G))
            rest.peak;
        steps = λ i. (1 + read.1 i) + rest.steps i;
        kept = rest.kept;
      }

same_gap : (a b f g : ℕ) → a + g ≡ b + f → a - f ≡ b - g
same_gap a b f g e = omega arith

pub foreign_change : FrameOfReads → StaysRooted → ForeignChange
foreign_change reads stays prefixes fp F G slot items alike rooted_F rooted_G held_F held_G within =
    let runs = runs_alike reads stays prefixes fp slot F G items (record { alike = alike; held_F = held_F; held_G = held_G }) rooted_F rooted_G within in
    (runs.statuses, runs.growths, same_gap (peak prefixes F slot items) (peak prefixes G slot items) (blocks F) (blocks G) runs.peak, runs.steps)

-- f and g blocks, of which s are staged, and x instead of these
restaged : (a b f g h k s x : ℕ) → a + k ≡ b + h → h + s ≡ f + x → k + s ≡ g + x → a - f ≡ b - g
restaged a b f g h k s x runs first second = omega arith

pub foreign_change_with : FrameOfReads → StaysRooted → ForeignChangeWith
foreign_change_with reads stays prefixes fp F G slot x items alike rooted_F rooted_G held_F held_G within =
    let H = stage F slot x in
    let K = stage G slot x in
    let same = same-changed fp slot F G (Stages slot x) (record { alike = alike; held_F = held_F; held_G = held_G }) in
    let runs = runs_alike reads stays prefixes fp slot H K items same rooted_F rooted_G within in (
      runs.statuses,
      runs.growths,
      restaged (peak prefixes H slot items) (peak prefixes K slot items) (blocks F) (blocks G) (blocks H) (blocks K) (blocks_of (length (staged_in F slot)))
          (blocks_of (length x)) runs.peak
          (blocks-stages F slot x held_F)
          (subst (λ (s : List ℕ). blocks K + blocks_of (length s) ≡ blocks G + blocks_of (length x)) (sym alike.staged) (blocks-stages G slot x held_G)),
      runs.steps,
    )
