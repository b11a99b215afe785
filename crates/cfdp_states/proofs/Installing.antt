-- The install of a delivered file, on a list of outlines and on a view.
use Rattle.std.proofs.Common.{◌≡◌, ◌≢◌, refl, sym, ◌∙◌, ap, subst, Bool, true, false, cond, not, is_some, ◌&&◌, Option, Some, None, ℕ, ◌+◌, ◌-◌, ◌≤◌, min, max, List, [], ◌∷◌, length, sum_by, true≢false, if◌then◌else◌, arith}
use Rattle.cfdp_paths.specs.Paths.{Path, same_path}
use Rattle.cfdp_paths.proofs.Comparing.{path_cmp-total}
use Rattle.cfdp_actions.specs.Filestore.{Node, Directory, File, Filestore, node_at, blocks_of, blocks, Change, Becomes, Stages, changed, after, parent_is_good}
use Rattle.cfdp_actions.specs.Actions.{Install, Installed, NotInstalled, Outcome, unchanged, install, is_protected, free_row, row}
use Rattle.cfdp_leases.specs.Items.{step_bound}
use Rattle.cfdp_states.specs.declared.extent.Extent.TheVariants as extent
use Rattle.std.specs.FinMap.{insert, get-insert}
use Rattle.cfdp_states.specs.Alone.{alone}
use Rattle.cfdp_states.specs.Sketching.{most_octets, extent_in, extent_at, Extents}
use Rattle.cfdp_states.specs.code.Sketching.{total_blocks, bound_on, gives_way, can_install, IsOutline}
use Rattle.cfdp_states.specs.Views.{most_count, most_need, Sketch, IsViewOf, TellsInstall}
use Rattle.cfdp_actions.proofs.Order.{node_at-becomes}
use Rattle.cfdp_states.proofs.Sketched.{extent-cond, good_parent-is}
use Rattle.cfdp_states.proofs.Counting.{enough, blocks-counted, bound-counted}
use Rattle.cfdp_states.proofs.Viewing.{sketch, outlined, nothing_staged, needs, takes}

-- ---- the row

abbrev pub install_row : List Path → Path → List ℕ → Option Node → Bool → Outcome
install_row prefixes p x a good = if is_some a && is_protected prefixes p then unchanged NotInstalled else install 0 p x a good

pub row-install : (prefixes : List Path) (F : Filestore) (p : Path) (x : List ℕ) → row prefixes (alone F x) 0 (Install p)
    ≡ install_row prefixes p x (node_at F p) (parent_is_good F p)
unfolding row free_row
row-install prefixes F p x = refl

abbrev Comes : Outcome → Path → List ℕ → Type 0
Comes o p x = (o.answer ≡ Installed) × (o.changes ≡ Stages 0 [] ∷ Becomes p (Some (File x)) ∷ [])

not_installed : (prefixes : List Path) (p : Path) (x : List ℕ) (a : Option Node) (good : Bool) → (good && gives_way prefixes p (extent_in a)) ≡ false →
    install_row prefixes p x a good ≡ unchanged NotInstalled
unfolding install
not_installed prefixes p x None true e = absurd (true≢false e)
not_installed prefixes p x None false e = refl
not_installed prefixes p x (Some Directory) good e = elim (is_protected prefixes p) as
    (λ b. (if b then unchanged NotInstalled else install 0 p x (Some Directory) good) ≡ unchanged NotInstalled) [
      | true ↦ refl
      | false ↦ elim good as (λ good. install 0 p x (Some Directory) good ≡ unchanged NotInstalled) [ true ↦ refl | false ↦ refl ]
    ]
not_installed prefixes p x (Some (File old)) false e = elim (is_protected prefixes p) as
    (λ b. (if b then unchanged NotInstalled else install 0 p x (Some (File old)) false) ≡ unchanged NotInstalled) [ true ↦ refl | false ↦ refl ]
not_installed prefixes p x (Some (File old)) true e =
    elim (is_protected prefixes p) as (λ b. not b ≡ false → (if b then unchanged NotInstalled else install 0 p x (Some (File old)) true)
    ≡ unchanged NotInstalled) [
      | true ↦ λ e. refl
      | false ↦ λ e. absurd (true≢false e)
    ] e

comes : (prefixes : List Path) (p : Path) (x : List ℕ) (a : Option Node) (good : Bool) → (good && gives_way prefixes p (extent_in a)) ≡ true →
    Comes (install_row prefixes p x a good) p x
unfolding install
comes prefixes p x a false e = absurd (true≢false (sym e))
comes prefixes p x None true e = (refl, refl)
comes prefixes p x (Some Directory) true e = absurd (true≢false (sym e))
comes prefixes p x (Some (File old)) true e =
    elim (is_protected prefixes p) as (λ b. not b ≡ true → Comes (if b then unchanged NotInstalled else install 0 p x (Some (File old)) true) p x) [
      | true ↦ λ e. absurd (true≢false (sym e))
      | false ↦ λ e. (refl, refl)
    ] e

-- ---- on a list of outlines

module _ (prefixes : List Path) (m : Extents) (F : Filestore) (h : IsOutline m F) (p : Path) (named : p ≢ []) (x : List ℕ) where
  test-is : (parent_is_good F p && gives_way prefixes p (extent_at F p)) ≡ can_install prefixes m p
  test-is = λ i. sym (good_parent-is m F h p named) i && gives_way prefixes p (sym (h.found p) i)

  pub refuses : can_install prefixes m p ≡ false → row prefixes (alone F x) 0 (Install p) ≡ unchanged NotInstalled
  refuses e = row-install prefixes F p x ∙ not_installed prefixes p x (node_at F p) (parent_is_good F p) (test-is ∙ e)

  pub allows : can_install prefixes m p ≡ true → Comes (row prefixes (alone F x) 0 (Install p)) p x
  allows e = subst (λ (o : Outcome). Comes o p x) (sym (row-install prefixes F p x)) (comes prefixes p x (node_at F p) (parent_is_good F p) (test-is ∙ e))

  pub installed-outline : (size : ℕ) → min (length x) most_octets ≡ size →
      IsOutline (insert m p (extent.File size)) (changed (changed (alone F x) (Stages 0 [])) (Becomes p (Some (File x))))
  installed-outline size fits = record {
    found = λ q.
        get-insert path_cmp-total m p (extent.File size) q
        ∙ (λ i. cond (same_path q p) (Some (extent.File (sym fits i))) (h.found q i))
        ∙ sym (extent-cond (same_path q p) (Some (File x)) (node_at F q))
        ∙ ap extent_in (sym (node_at-becomes (changed (alone F x) (Stages 0 [])) p (Some (File x)) q));
  }

-- ---- on a view

pub staged_more : (F : Filestore) (x : List ℕ) → F.staged ≡ [] ∷ [] → blocks (alone F x) ≡ blocks F + blocks_of (length x)
unfolding blocks
staged_more F x same =
    let lists : sum_by (λ (octets : List ℕ). blocks_of (length octets)) F.staged ≡ 0 =
    ap (λ lists. sum_by (λ (octets : List ℕ). blocks_of (length octets)) lists) same ∙ nothing_staged in
    omega arith

fits_u64 : (n size : ℕ) → n ≡ size → size ≤ most_octets → min n most_octets ≡ size
fits_u64 n size e le = omega arith

-- the staged list and what exists, counted
with_file : (weight here more : ℕ) → min weight enough ≡ min here enough → min (weight + more) enough ≡ min (here + more) enough
with_file weight here more e = omega arith

twice : (need need' peak start h g : ℕ) → need ≡ min (max peak h - start) most_need → need' ≡ min (max (max peak h) g - start) most_need → need'
    ≡ min (max peak (max h g) - start) most_need
twice need need' peak start h g one two = omega arith

pub tells_installed : (v : Sketch) (prefixes : List Path) (m m' : Extents) (base need need' need'' steps steps' : ℕ) (p : Path) (size ticks staged weight : ℕ) →
    sketch prefixes m base need steps ≡ v → p ≢ [] → can_install prefixes m p ≡ true → size ≤ most_octets →
    m' ≡ insert m p (extent.File size) → ticks ≡ bound_on m (Install p) → staged ≡ total_blocks m + blocks_of size → weight ≡ total_blocks m' →
    need' ≡ max need (min (staged - base) most_need) → need'' ≡ max need' (min (weight - base) most_need) → steps' ≡ min (steps + (1 + ticks)) most_count →
    TellsInstall v (sketch prefixes m' base need'' steps') p size true
tells_installed v prefixes m m' base need need' need'' steps steps' p size ticks staged weight is named can small now ticks_is staged_is weight_is need_is
    more_is steps_is =
    subst (λ (v : Sketch). TellsInstall v (sketch prefixes m' base need'' steps') p size true) is (λ F start peak taken x h long.
    let here = outlined prefixes m base need steps F start peak taken h in
    let H = alone F x in
    let allowed = allows prefixes m F here p named x can in
    let G = changed (changed H (Stages 0 [])) (Becomes p (Some (File x))) in
    let there : IsOutline m' G = subst (λ m. IsOutline m G) (sym now) (installed-outline prefixes m F here p named x size
    (fits_u64 (length x) size long small)) in
    let first : min (total_blocks m) enough ≡ min (blocks F) enough = blocks-counted ([] ∷ []) nothing_staged m F h.staged here in
    let more : blocks H ≡ blocks F + blocks_of size = staged_more F x h.staged ∙ ap (λ n. blocks F + blocks_of n) long in
    let one : need' ≡ min (max peak (blocks H) - start) most_need =
    need_is ∙ needs need base staged (blocks H) peak start h.need h.base h.small
    (ap (λ n. min n enough) staged_is ∙ with_file (total_blocks m) (blocks F) (blocks_of size) first ∙ ap (λ n. min n enough) (sym more)) in
    let two : need'' ≡ min (max (max peak (blocks H)) (blocks G) - start) most_need =
    more_is ∙ needs need' base weight (blocks G) (max peak (blocks H)) start one h.base h.small (ap (λ n. min n enough) weight_is
    ∙ blocks-counted ([] ∷ []) nothing_staged m' G refl there) in (
      sym allowed.0,
      λ _. subst (λ (cs : List Change). IsViewOf (sketch prefixes m' base need'' steps') (after H cs) start (max peak (max (blocks H) (blocks (after H cs))))
          (taken + (1 + step_bound H (Install p)))) (sym allowed.1) (record {
            extents = there.found;
            staged = refl;
            base = h.base;
            small = h.small;
            need = twice need' need'' peak start (blocks H) (blocks G) one two;
            steps = steps_is ∙ takes steps ticks (step_bound H (Install p)) taken h.steps (ap (λ n. min n enough) ticks_is
                ∙ bound-counted m H (record { found = here.found }) (Install p));
          }),
    ))

pub tells_refused : (v : Sketch) (prefixes : List Path) (m : Extents) (base need steps : ℕ) (p : Path) (size : ℕ) → sketch prefixes m base need steps ≡ v → p
    ≢ [] → can_install prefixes m p ≡ false → TellsInstall v v p size false
tells_refused v prefixes m base need steps p size is named cannot =
    subst (λ (v : Sketch). TellsInstall v v p size false) is (λ F start peak taken x h long.
    let here = outlined prefixes m base need steps F start peak taken h in (
      λ i. (sym (refuses prefixes m F here p named x cannot) i).answer,
      λ e. absurd (true≢false (sym e)),
    ))
