-- A list that is run alone on a view of what its footprint covers. What the view says of a filestore is a parameter, as it
-- is of `Running`.
--     AtRequests                     the file is installed, where there is one, and the requests are next
--     without_file, with_file        so it is with no destination;  and where the install is allowed
--     InstallGoes                    the install is answered as on the filestore, and the view after it describes the filestore after it
--     Runs                           the requests go as on the filestore
--     not_installed                  the verdict where it is not
--     all_done, one_failed           the verdict after the requests
use Rattle.std.proofs.Common.{◌≡◌, refl, sym, ◌∙◌, ap, subst, IsTrue, Bool, true, false, cond, ℕ, ◌+◌, ◌-◌, ◌≤◌, min, max, List, [], ◌∷◌, length, map, Option, Some, None, Result, Ok, Err, replicate, arith}
use Rattle.std.proofs.lemmas.List.{length-replicate}
use Rattle.std.specs.Prelude.{IfNone}
use Rattle.cfdp_paths.specs.Paths.{Path}
use Rattle.cfdp_actions.specs.Filestore.{Filestore, blocks}
use Rattle.cfdp_actions.specs.Actions.{Item, Install, Perform, Request, Installed, succeeded, row}
use Rattle.cfdp_leases.specs.Items.{performed, step_bound, items_of}
use Rattle.cfdp_leases.specs.Footprint.{Footprint, footprint_of}
use Rattle.cfdp_states.specs.Alone.{statuses, steps, peak, alone, statuses_alone, need_alone, steps_alone}
use Rattle.cfdp_states.specs.Views.{most_need, Sketch, IsViewOf, TellsInstall, only, installed_if}
use Rattle.cfdp_states.specs.Sparse.{IsSparseViewOf, TellsSparseInstall}
use Rattle.cfdp_verifier.specs.declared.refusal.NotGranted.{NotGranted}
use Rattle.cfdp_verifier.specs.declared.refusal.NotGranted.TheVariants as no
use Rattle.cfdp_verifier.specs.Verdict.{DestinationNotAllowed, Refuse, first_failure, destination_allowed, judged_items, judged_apart, capped}
use Rattle.cfdp_verifier.specs.code.Judging.{EndsSo, JudgesAlone}
use Rattle.cfdp_verifier.proofs.Covered.{covered}
use Rattle.cfdp_verifier.proofs.Running.{low}

abbrev pub InstallGoes : (Filestore → ℕ → ℕ → ℕ → Type 0) → (Filestore → ℕ → ℕ → ℕ → Type 0) → List Path → Path → ℕ → Bool → Type 0
InstallGoes Seen Next prefixes p size done =
    (F : Filestore) (start peak taken : ℕ) (x : List ℕ) → Seen F start peak taken → length x ≡ size →
    let H = alone F x in
    let G = performed prefixes H 0 (Install p) in
    (installed_if done ≡ (row prefixes H 0 (Install p)).answer)
    × (IsTrue done → Next G start (max peak (max (blocks H) (blocks G))) (taken + (1 + step_bound H (Install p))))

abbrev pub Runs : {X : Type 0} → (Filestore → ℕ → ℕ → ℕ → Type 0) → List Path → Sketch → List Item → Result X NotGranted → Type 0
Runs Seen prefixes w items result =
    (F : Filestore) (start high taken : ℕ) → Seen F start high taken → blocks F ≤ high → EndsSo prefixes F items start high taken w result

-- what a view says, at the list's prefixes
pub installed_at : (prefixes : List Path) (v w : Sketch) (p : Path) (size : ℕ) (done : Bool) → v.prefixes ≡ prefixes → TellsInstall v w p size done →
    InstallGoes (IsViewOf v) (IsViewOf w) prefixes p size done
installed_at prefixes v w p size done same tells = subst (λ (ps : List Path). InstallGoes (IsViewOf v) (IsViewOf w) ps p size done) same tells

pub installed_at_sparse : (prefixes : List Path) (v w : Sketch) (items : List Item) (p : Path) (size : ℕ) (done : Bool) → v.prefixes ≡ prefixes →
    TellsSparseInstall v w p size done →
    InstallGoes (IsSparseViewOf v (Install p ∷ items)) (IsSparseViewOf w items) prefixes p size done
installed_at_sparse prefixes v w items p size done same tells = subst (λ (ps : List Path). InstallGoes (IsSparseViewOf v (Install p ∷ items))
    (IsSparseViewOf w items) ps p size done)
    same (tells items)

pub runs_at : {X : Type 0} (Seen : Filestore → ℕ → ℕ → ℕ → Type 0) (prefixes : List Path) (v w : Sketch) (items : List Item) (result : Result X NotGranted) →
    v.prefixes ≡ prefixes → Runs Seen v.prefixes w items result → Runs Seen prefixes w items result
runs_at Seen prefixes v w items result same runs = subst (λ (ps : List Path). Runs Seen ps w items result) same runs

-- the view describes a filestore on which the requests go as the list goes alone
pub record AtRequests (prefixes : List Path) (F : Filestore) (x : List ℕ) (items : List Item) (requests : List Request) (Seen : Filestore → ℕ → ℕ → ℕ →
    Type 0) : Type 0 where
  pub here : Filestore
  pub start : ℕ
  pub high : ℕ
  pub taken : ℕ
  pub seen : Seen here start high taken
  pub within : blocks here ≤ high
  pub allowed : destination_allowed prefixes (alone F x) items ≡ true
  pub failures : first_failure 0 (statuses_alone prefixes F x items) ≡ first_failure 0 (statuses prefixes here 0 (map Perform requests))
  pub needs : need_alone prefixes F x items ≡ max high (peak prefixes here 0 (map Perform requests)) - start
  pub counts : steps_alone prefixes F x items ≡ taken + steps prefixes here 0 (map Perform requests)

-- with no destination, and so with no file
no_install : (prefixes : List Path) (F : Filestore) (requests : List Request) → destination_allowed prefixes F (map Perform requests) ≡ true
no_install prefixes F [] = refl
no_install prefixes F (request ∷ requests) = refl

-- s blocks at first, p at most
from_start : (s p : ℕ) → s ≤ p → p - s ≡ max s p - s
from_start s p le = omega arith

pub without_file : (prefixes : List Path) (F : Filestore) (requests : List Request) (fp : Footprint) (Seen : Filestore → ℕ → ℕ → ℕ → Type 0) → fp
    ≡ footprint_of (map Perform requests) →
    Seen (alone (only fp F) []) (blocks (alone (only fp F) [])) (blocks (alone (only fp F) [])) 0 →
    AtRequests prefixes F [] (map Perform requests) requests Seen
without_file prefixes F requests fp Seen is seen =
    let items = map Perform requests in
    let G = only (footprint_of items) F in
    let both = covered prefixes F [] items in
    let s = blocks (alone G []) in
    record {
      here = alone G [];
      start = s;
      high = s;
      taken = 0;
      seen = subst (λ (fp : Footprint). Seen (alone (only fp F) []) (blocks (alone (only fp F) [])) (blocks (alone (only fp F) [])) 0) is seen;
      within = omega arith;
      allowed = no_install prefixes (alone F []) requests;
      failures = ap (first_failure 0) both.statuses;
      needs = both.need ∙ from_start s (peak prefixes (alone G []) 0 items) (low prefixes (alone G []) items);
      counts = both.steps ∙ omega arith;
    }

-- s blocks at first, h with the file, g after the install, p at most from then on
from_staging : (s h g p : ℕ) → g ≤ p → max h p - s ≡ max (max s (max h g)) p - s
from_staging s h g p le = omega arith

counted : (n m : ℕ) → n + m ≡ (0 + n) + m
counted n m = omega arith

module _ (prefixes : List Path) (F : Filestore) (x : List ℕ) (p : Path) (requests : List Request) (fp : Footprint) (Seen Next : Filestore → ℕ → ℕ → ℕ → Type 0)
    (size : ℕ) (done : Bool)
    (is : fp ≡ footprint_of (Install p ∷ map Perform requests))
    (seen : Seen (alone (only fp F) []) (blocks (alone (only fp F) [])) (blocks (alone (only fp F) [])) 0)
    (long : length x ≡ size) (tells : InstallGoes Seen Next prefixes p size done) where
  answered_so : installed_if done ≡ (row prefixes (alone (only (footprint_of (Install p ∷ map Perform requests)) F) x) 0 (Install p)).answer
  answered_so =
      let stated = tells (alone (only fp F) []) (blocks (alone (only fp F) [])) (blocks (alone (only fp F) [])) 0 x seen long in
      subst (λ (fp : Footprint). installed_if done ≡ (row prefixes (alone (only fp F) x) 0 (Install p)).answer) is stated.0

  pub not_installed : done ≡ false → (spare : ℕ) → judged_apart prefixes F spare x (Install p ∷ map Perform requests) None ≡ Refuse DestinationNotAllowed
  not_installed failed spare =
      let items = Install p ∷ map Perform requests in
      let denied : destination_allowed prefixes (alone F x) items ≡ false =
      (covered prefixes F x items).allowed ∙ ap succeeded (sym answered_so) ∙ ap (λ b. succeeded (installed_if b)) failed in
      ap (λ b. cond b (judged_items spare items (first_failure 0 (statuses_alone prefixes F x items)) (need_alone prefixes F x items)
      (steps_alone prefixes F x items)) (Refuse DestinationNotAllowed)) denied

  pub with_file : done ≡ true → AtRequests prefixes F x (Install p ∷ map Perform requests) requests Next
  unfolding statuses steps peak
  with_file ok =
      let items = Install p ∷ map Perform requests in
      let G = only (footprint_of items) F in
      let H = alone G x in
      let K = performed prefixes H 0 (Install p) in
      let s = blocks (alone G []) in
      let both = covered prefixes F x items in
      let now = subst (λ (fp : Footprint). Seen (alone (only fp F) []) (blocks (alone (only fp F) [])) (blocks (alone (only fp F) [])) 0) is seen in
      let stated = tells (alone G []) s s 0 x now long in
      let installed : (row prefixes H 0 (Install p)).answer ≡ Installed = sym stated.0 ∙ ap installed_if ok in
      record {
        here = K;
        start = s;
        high = max s (max (blocks H) (blocks K));
        taken = 0 + (1 + step_bound H (Install p));
        seen = stated.1 ok;
        within = omega arith;
        allowed = both.allowed ∙ ap succeeded installed;
        failures = ap (first_failure 0) both.statuses ∙ ap (λ a. first_failure 0 (a ∷ statuses prefixes K 0 (map Perform requests))) installed;
        needs = both.need ∙ from_staging s (blocks H) (blocks K) (peak prefixes K 0 (map Perform requests)) (low prefixes K (map Perform requests));
        counts = both.steps ∙ counted (1 + step_bound H (Install p)) (steps prefixes K 0 (map Perform requests));
      }

-- the same of a destination that may be there
module _ (prefixes : List Path) (F : Filestore) (bound : ℕ) (d : Option Path) (requests : List Request) (fp : Footprint) (Seen : Filestore → ℕ → ℕ → ℕ → Type 0)
    (seen : Seen (alone (only fp F) []) (blocks (alone (only fp F) [])) (blocks (alone (only fp F) [])) 0) where
  pub refused_at : (Next : Filestore → ℕ → ℕ → ℕ → Type 0) (p : Path) (done : Bool) → InstallGoes Seen Next prefixes p bound done → d ≡ Some p → fp
      ≡ footprint_of (items_of d requests) → done ≡ false →
      (spare : ℕ) → judged_apart prefixes F spare (replicate bound 0) (items_of d requests) None ≡ Refuse DestinationNotAllowed
  refused_at Next p done tells e is failed spare =
      subst (λ (d : Option Path). fp ≡ footprint_of (items_of d requests) → judged_apart prefixes F spare (replicate bound 0) (items_of d requests) None
      ≡ Refuse DestinationNotAllowed)
      (sym e) (λ is. not_installed prefixes F (replicate bound 0) p requests fp Seen Next bound done is seen (length-replicate bound 0) tells failed spare) is

  pub file_at : (Next : Filestore → ℕ → ℕ → ℕ → Type 0) (p : Path) (done : Bool) → InstallGoes Seen Next prefixes p bound done → d ≡ Some p → fp
      ≡ footprint_of (items_of d requests) → done ≡ true →
      AtRequests prefixes F (replicate bound 0) (items_of d requests) requests Next
  file_at Next p done tells e is ok =
      subst (λ (d : Option Path). fp ≡ footprint_of (items_of d requests) → AtRequests prefixes F (replicate bound 0) (items_of d requests) requests Next)
      (sym e) (λ is. with_file prefixes F (replicate bound 0) p requests fp Seen Next bound done is seen (length-replicate bound 0) tells ok) is

  pub no_file_at : d ≡ None → fp ≡ footprint_of (items_of d requests) → IfNone d (bound ≡ 0) →
      AtRequests prefixes F (replicate bound 0) (items_of d requests) requests Seen
  no_file_at e is none =
      subst (λ (d : Option Path). fp ≡ footprint_of (items_of d requests) → IfNone d (bound ≡ 0) →
      AtRequests prefixes F (replicate bound 0) (items_of d requests) requests Seen)
      (sym e) (λ is none. subst (λ n. AtRequests prefixes F (replicate n 0) (map Perform requests) requests Seen) (sym none)
      (without_file prefixes F requests fp Seen is seen)) is none

-- and of a view of what the list sees
module _ (prefixes : List Path) (F : Filestore) (bound : ℕ) (d : Option Path) (requests : List Request) (fp : Footprint) (v : Sketch)
    (same : v.prefixes ≡ prefixes)
    (seen : IsSparseViewOf v (items_of d requests) (alone (only fp F) []) (blocks (alone (only fp F) [])) (blocks (alone (only fp F) [])) 0) where
  seen_by : (p : Path) → d ≡ Some p →
      IsSparseViewOf v (Install p ∷ map Perform requests) (alone (only fp F) []) (blocks (alone (only fp F) [])) (blocks (alone (only fp F) [])) 0
  seen_by p e = subst (λ (d : Option Path). IsSparseViewOf v (items_of d requests) (alone (only fp F) []) (blocks (alone (only fp F) []))
      (blocks (alone (only fp F) [])) 0) e seen

  pub refused_at_sparse : (w : Sketch) (p : Path) (done : Bool) → TellsSparseInstall v w p bound done → d ≡ Some p → fp ≡ footprint_of (items_of d requests) →
      done ≡ false → (spare : ℕ) → judged_apart prefixes F spare (replicate bound 0) (items_of d requests) None ≡ Refuse DestinationNotAllowed
  refused_at_sparse w p done tells e is failed spare = refused_at prefixes F bound d requests fp (IsSparseViewOf v (Install p ∷ map Perform requests))
      (seen_by p e) (IsSparseViewOf w (map Perform requests)) p done
      (installed_at_sparse prefixes v w (map Perform requests) p bound done same tells) e is failed spare

  pub file_at_sparse : (w : Sketch) (p : Path) (done : Bool) → TellsSparseInstall v w p bound done → d ≡ Some p → fp ≡ footprint_of (items_of d requests) →
      done ≡ true → AtRequests prefixes F (replicate bound 0) (items_of d requests) requests (IsSparseViewOf w (map Perform requests))
  file_at_sparse w p done tells e is ok = file_at prefixes F bound d requests fp (IsSparseViewOf v (Install p ∷ map Perform requests)) (seen_by p e)
      (IsSparseViewOf w (map Perform requests)) p done (installed_at_sparse prefixes v w (map Perform requests) p bound done same tells) e is ok

  pub no_file_at_sparse : d ≡ None → fp ≡ footprint_of (items_of d requests) → IfNone d (bound ≡ 0) →
      AtRequests prefixes F (replicate bound 0) (items_of d requests) requests (IsSparseViewOf v (map Perform requests))
  no_file_at_sparse e is none = no_file_at prefixes F bound d requests fp (IsSparseViewOf v (map Perform requests))
      (subst (λ (d : Option Path). IsSparseViewOf v (items_of d requests) (alone (only fp F) []) (blocks (alone (only fp F) []))
      (blocks (alone (only fp F) [])) 0) e seen) e is none

module _ (prefixes : List Path) (F : Filestore) (x : List ℕ) (items : List Item) (requests : List Request) (Seen : Filestore → ℕ → ℕ → ℕ → Type 0) (w : Sketch)
    (at : AtRequests prefixes F x items requests Seen) where
  -- the requests' own answers, need and steps
  judged_so : (spare : ℕ) → judged_apart prefixes F spare x items None
      ≡ judged_items spare items (first_failure 0 (statuses prefixes at.here 0 (map Perform requests))) (need_alone prefixes F x items)
      (steps_alone prefixes F x items)
  judged_so spare =
      ap (λ b. cond b (judged_items spare items (first_failure 0 (statuses_alone prefixes F x items)) (need_alone prefixes F x items)
      (steps_alone prefixes F x items)) (Refuse DestinationNotAllowed)) at.allowed
      ∙ ap (λ f. judged_items spare items f (need_alone prefixes F x items) (steps_alone prefixes F x items)) at.failures

  ended : {X : Type 0} (result : Result X NotGranted) → Runs Seen prefixes w (map Perform requests) result →
      EndsSo prefixes at.here (map Perform requests) at.start at.high at.taken w result
  ended result runs = runs at.here at.start at.high at.taken at.seen at.within

  pub all_done : {X : Type 0} (y : X) → Runs Seen prefixes w (map Perform requests) (Ok y) → JudgesAlone prefixes F x items (Ok w)
  all_done y tells =
      let run = ended (Ok y) tells in (
        need_alone prefixes F x items,
        steps_alone prefixes F x items,
        λ spare. judged_so spare ∙ ap (λ f. judged_items spare items f (need_alone prefixes F x items) (steps_alone prefixes F x items)) run.0,
        run.1 ∙ ap (λ n. min n most_need) (sym at.needs),
        run.2 ∙ ap capped (sym at.counts),
      )

  pub one_failed : (X : Type 0) (fault : NotGranted) → Runs {X = X} Seen prefixes w (map Perform requests) (Err fault) →
      JudgesAlone prefixes F x items (Err fault)
  one_failed X no.Memory tells spare = tt
  one_failed X (no.Refused refusal) tells spare =
      let run = ended {X = X} (Err (no.Refused refusal)) tells in
      judged_so spare ∙ ap (λ f. judged_items spare items f (need_alone prefixes F x items) (steps_alone prefixes F x items)) run.2 ∙ ap Refuse (sym run.3)
