-- One more item at the end of a list, and a view that describes it.
use Rattle.std.proofs.Common.{◌≡◌, refl, sym, ◌∙◌, ap, subst, Option, Some, None, ℕ, ◌+◌, ◌-◌, min, max, List, [], ◌∷◌, ◌++◌, arith}
use Rattle.std.specs.List.{AllByRecursion}
use Rattle.cfdp_paths.specs.Paths.{Path}
use Rattle.cfdp_actions.specs.Filestore.{Node, Directory, File, Filestore, node_at, blocks}
use Rattle.cfdp_actions.specs.Actions.{Item, Install, Installed, Answer, row}
use Rattle.cfdp_actions.proofs.RowLaws.{max_three}
use Rattle.cfdp_leases.specs.Items.{performed, step_bound}
use Rattle.cfdp_leases.specs.Footprint.{Footprint, IsWithin}
use Rattle.cfdp_states.specs.Alone.{Succeed, statuses, steps, peak, reached, alone, statuses_alone}
use Rattle.cfdp_states.specs.Sketching.{extent_in}
use Rattle.cfdp_states.specs.Views.{most_count, most_need, Sketch, size_of, length_in, only, IsViewOf, HasRun}
use Rattle.cfdp_states.specs.Laws.{SucceedByStatuses, Appended, OnlyLeased, ViewBegins, ViewInstalls, ViewRefuses, ViewGoesOn, ViewBounds}

pub grouped : (a b c : ℕ) → a + (b + c) ≡ (a + b) + c
grouped a b c = omega arith

pub only_one : (a b : Answer) → a ∷ [] ≡ b ∷ [] → a ≡ b
only_one a b e = cc

pub appended : Appended
unfolding reached statuses peak steps
appended prefixes F slot [] item = (refl, refl, refl, omega arith)
appended prefixes F slot (first ∷ items) item =
    let H = performed prefixes F slot first in
    let rest = appended prefixes H slot items item in
    let G = reached prefixes H slot items in (
      rest.0,
      ap (λ answers. (row prefixes F slot first).answer ∷ answers) rest.1,
      ap (max (blocks F)) rest.2 ∙ max_three (blocks F) (peak prefixes H slot items) (blocks (performed prefixes G slot item)),
      ap (λ n. (1 + step_bound F first) + n) rest.3 ∙ grouped (1 + step_bound F first) (steps prefixes H slot items) (1 + step_bound G item),
    )

within_append : (fp : Footprint) (items : List Item) (item : Item) → AllByRecursion (IsWithin fp) items → IsWithin fp item →
    AllByRecursion (IsWithin fp) (items ++ item ∷ [])
within_append fp [] item all one = (one, tt)
within_append fp (first ∷ items) item all one = (all.0, within_append fp items item all.1 one)

-- what is needed at most, where the start counts too
above_start : (start p : ℕ) → min (max start p - start) most_need ≡ min (p - start) most_need
above_start start p = omega arith

module _ (leased : OnlyLeased) where
  -- need and steps, and what is where it is covered, are those of the whole filestore
  counted : (v : Sketch) (fp : Footprint) (F : Filestore) (x : List ℕ) (items : List Item) (answers : List Answer) → AllByRecursion (IsWithin fp) items →
      answers ≡ statuses_alone v.prefixes (only fp F) x items →
      (let G = alone (only fp F) x in let start = blocks (alone (only fp F) []) in
      IsViewOf v (reached v.prefixes G 0 items) start (max start (peak v.prefixes G 0 items)) (steps v.prefixes G 0 items)) →
      HasRun v fp F x items answers
  counted v fp F x items answers within answered seen =
      let same = leased v.prefixes fp F x items within in
      record {
        answered = answered ∙ same.0;
        extents = λ p covered. seen.extents p ∙ ap extent_in (same.3 p covered);
        need = seen.need ∙ above_start (blocks (alone (only fp F) [])) (peak v.prefixes (alone (only fp F) x) 0 items) ∙ ap (λ n. min n most_need) same.1;
        steps = seen.steps ∙ ap (λ n. min n most_count) same.2;
        within = within;
        seen = seen;
      }

  pub view_begins : ViewBegins
  unfolding reached statuses peak steps
  view_begins v fp F h =
      counted v fp F [] [] [] tt refl (subst (λ n. IsViewOf v (alone (only fp F) []) (blocks (alone (only fp F) [])) n 0)
      (itself (blocks (alone (only fp F) []))) h)
    where
      itself : (n : ℕ) → n ≡ max n n
      itself n = omega arith

  pub view_installs : ViewInstalls
  unfolding reached statuses peak steps
  view_installs v w fp F p x h tells same within =
      let H = alone (only fp F) x in
      let start = blocks (alone (only fp F) []) in
      let G = performed v.prefixes H 0 (Install p) in
      let stated = tells (alone (only fp F) []) start start 0 x h refl in
      let seen : IsViewOf w G start (max start (max (blocks H) (blocks G))) (0 + (1 + step_bound H (Install p))) = stated.1 refl in
      counted w fp F x (Install p ∷ []) (Installed ∷ []) (within, tt)
      (ap (λ answer. answer ∷ []) (stated.0 ∙ ap (λ prefixes. (row prefixes H 0 (Install p)).answer) (sym same)))
      (subst (λ (prefixes : List Path). IsViewOf w (performed prefixes H 0 (Install p)) start
      (max start (max (blocks H) (blocks (performed prefixes H 0 (Install p))))) ((1 + step_bound H (Install p)) + 0)) (sym same)
      (subst (λ n. IsViewOf w G start (max start (max (blocks H) (blocks G))) n) (turned (1 + step_bound H (Install p))) seen))
    where
      turned : (n : ℕ) → 0 + n ≡ n + 0
      turned n = omega arith

  pub view_goes_on : ViewGoesOn
  view_goes_on v w fp F x items answers item answer run tells same within =
      let H = alone (only fp F) x in
      let start = blocks (alone (only fp F) []) in
      let R = reached v.prefixes H 0 items in
      let stated = tells R start (max start (peak v.prefixes H 0 items)) (steps v.prefixes H 0 items) run.seen in
      let more = appended v.prefixes H 0 items item in
      let G = performed v.prefixes R 0 item in
      let before = leased v.prefixes fp F x items run.within in
      counted w fp F x (items ++ item ∷ []) (answers ++ answer ∷ []) (within_append fp items item run.within within)
      ((λ i. (run.answered ∙ sym before.0) i ++ stated.0 i ∷ []) ∙ sym more.1 ∙ ap (λ prefixes. statuses prefixes H 0 (items ++ item ∷ [])) (sym same))
      (subst (λ (prefixes : List Path). IsViewOf w (reached prefixes H 0 (items ++ item ∷ [])) start (max start (peak prefixes H 0 (items ++ item ∷ [])))
      (steps prefixes H 0 (items ++ item ∷ []))) (sym same)
      (subst (λ (R : Filestore). IsViewOf w R start (max start (peak v.prefixes H 0 (items ++ item ∷ []))) (steps v.prefixes H 0 (items ++ item ∷ [])))
      (sym more.0)
      (subst (λ n. IsViewOf w G start n (steps v.prefixes H 0 (items ++ item ∷ []))) (sym (max_three start (peak v.prefixes H 0 items) (blocks G))
      ∙ ap (max start) (sym more.2))
      (subst (λ n. IsViewOf w G start (max (max start (peak v.prefixes H 0 items)) (blocks G)) n) (sym more.3) stated.1))))

  pub view_refuses : ViewRefuses
  unfolding statuses
  view_refuses v w fp F p x h tells within =
      let H = alone (only fp F) x in
      let start = blocks (alone (only fp F) []) in
      let stated = tells (alone (only fp F) []) start start 0 x h refl in
      let same = leased v.prefixes fp F x (Install p ∷ []) (within, tt) in
      sym (stated.0 ∙ only_one (row v.prefixes H 0 (Install p)).answer (row v.prefixes (alone F x) 0 (Install p)).answer same.0)

size_is : (a : Option Node) → size_of (extent_in a) ≡ length_in a
size_is None = refl
size_is (Some Directory) = refl
size_is (Some (File octets)) = refl

pub view_bounds : ViewBounds
view_bounds v fp F x items answers p run covered = ap size_of (run.extents p covered) ∙ size_is (node_at (reached v.prefixes (alone F x) 0 items) p)

pub succeed_by_statuses : SucceedByStatuses
unfolding Succeed statuses
succeed_by_statuses prefixes F slot [] = (λ h. h, λ h. h)
succeed_by_statuses prefixes F slot (item ∷ items) =
    let rest = succeed_by_statuses prefixes (performed prefixes F slot item) slot items in
    (λ h. (h.0, rest.0 h.1), λ h. (h.0, rest.1 h.1))
