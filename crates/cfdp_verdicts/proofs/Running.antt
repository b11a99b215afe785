-- A list of requests, run one after another on a view, with what it takes after each.
--     Goes                  so far each item was successful, and what the rest of the list takes is still to be reported
--     rest_is, none_is      the requests that are left
--     goes_on, fails, ends  the next request, a request that is not successful, the end of the list
--     IsNew                 a view that describes no item yet
--     AreStated, without_file, beside_file, all_costs   the items of a list
--     begun, not_begun      a file that is installed, and the requests after it;  one that may not be installed
use Rattle.std.proofs.Common.{◌≡◌, refl, sym, ◌∙◌, ap, subst, Bool, true, false, cond, ℕ, min, List, [], ◌∷◌, ◌++◌, map, replicate, length, get_or, take, drop, ◌-◌, ◌≤◌, ◌<◌, append_assoc, append-nil, arith}
use Rattle.std.specs.List.{AllByRecursion}
use Rattle.std.proofs.Math.Seq.{take-length}
use Rattle.std.specs.Prelude.{Option, Some, None, Result, Ok, Err, OnOk}
use Rattle.std.proofs.lemmas.List.{length-replicate}
use Rattle.std.proofs.lemmas.List.{append_cancel_left}
use Rattle.cfdp_status.specs.declared.status.Status.{Status}
use Rattle.cfdp_status.specs.Codes.{is_successful}
use Rattle.cfdp_paths.specs.Paths.{Path}
use Rattle.cfdp_actions.specs.Filestore.{Filestore, blocks}
use Rattle.cfdp_actions.specs.Actions.{Answer, Performed, Installed, NotInstalled, Item, Install, Perform, Request, succeeded, row}
use Rattle.cfdp_leases.specs.Footprint.{Footprint, footprint_of, IsWithin}
use Rattle.cfdp_leases.specs.Items.{items_of}
use Rattle.cfdp_leases.specs.Laws.{OwnFootprint}
use Rattle.cfdp_states.specs.Alone.{alone, reached, statuses, statuses_alone, need_alone, steps_alone}
use Rattle.cfdp_states.specs.Views.{most_count, most_need, only, Sketch, IsViewOf, HasRun, Tells, TellsInstall}
use Rattle.cfdp_states.specs.Laws.{Appended, ViewBegins, ViewGoesOn, ViewInstalls, ViewRefuses}
use Rattle.cfdp_states.proofs.Appending.{only_one}
use Rattle.cfdp_verifier.specs.Verdict.{capped}
use Rattle.cfdp_verdicts.specs.Costs.{Cost, cost_of, costs_from, costs_of}

-- what a view says
abbrev pub cost_of_sketch : Sketch → Cost
cost_of_sketch v = record { steps = v.steps; blocks = min v.need most_count }

pub record Goes (fp : Footprint) (F : Filestore) (x : List ℕ) (prefixes : List Path) (v : Sketch) (rest : List Item) (costs whole : List Cost) : Type 0 where
  pub same : v.prefixes ≡ prefixes
  pub now : List Item
  pub answers : List Answer
  pub run : HasRun v fp F x now answers
  pub within : AllByRecursion (IsWithin fp) rest
  pub stated : costs ++ costs_from prefixes F x now rest ≡ whole

need_capped : (n : ℕ) → min (min n most_need) most_count ≡ min n most_count
need_capped n = omega arith

cost_is : (v : Sketch) (fp : Footprint) (F : Filestore) (x : List ℕ) (items : List Item) (answers : List Answer) → HasRun v fp F x items answers →
    cost_of_sketch v ≡ cost_of v.prefixes F x items
unfolding cost_of
cost_is v fp F x items answers run =
    ap (λ (s : ℕ). record { steps = s; blocks = min v.need most_count }) run.steps
    ∙ ap (λ (n : ℕ). record { steps = capped (steps_alone v.prefixes F x items); blocks = min n most_count }) run.need
    ∙ ap (λ (n : ℕ). record { steps = capped (steps_alone v.prefixes F x items); blocks = n }) (need_capped (need_alone v.prefixes F x items))

-- the answer that came is that of the item's row on the filestore after those before it
row_cost : (laws : Appended) (prefixes : List Path) (F : Filestore) (x : List ℕ) (now : List Item) (item : Item) (answers : List Answer) (answer : Answer) →
    answers ≡ statuses_alone prefixes F x now → answers ++ answer ∷ [] ≡ statuses_alone prefixes F x (now ++ item ∷ []) →
    answer ≡ (row prefixes (reached prefixes (alone F x) 0 now) 0 item).answer
row_cost laws prefixes F x now item answers answer before after =
    let said = (row prefixes (reached prefixes (alone F x) 0 now) 0 item).answer in
    only_one answer said (append_cancel_left answers (answer ∷ []) (said ∷ [])
    (after ∙ (laws prefixes (alone F x) 0 now item).1 ∙ ap (λ a. a ++ said ∷ []) (sym before)))

-- an item that is successful, with what the list takes up to and with it
cost_one : (prefixes : List Path) (F : Filestore) (x : List ℕ) (now rest : List Item) (item : Item) (answer : Answer) →
    answer ≡ (row prefixes (reached prefixes (alone F x) 0 now) 0 item).answer → succeeded answer ≡ true →
    costs_from prefixes F x now (item ∷ rest) ≡ cost_of prefixes F x (now ++ item ∷ []) ∷ costs_from prefixes F x (now ++ item ∷ []) rest
unfolding costs_from
cost_one prefixes F x now rest item answer is good =
    ap (λ b. cond b (cost_of prefixes F x (now ++ item ∷ []) ∷ costs_from prefixes F x (now ++ item ∷ []) rest) []) (ap succeeded (sym is) ∙ good)

cost_none : (prefixes : List Path) (F : Filestore) (x : List ℕ) (now rest : List Item) (item : Item) (answer : Answer) →
    answer ≡ (row prefixes (reached prefixes (alone F x) 0 now) 0 item).answer → succeeded answer ≡ false → costs_from prefixes F x now (item ∷ rest) ≡ []
unfolding costs_from
cost_none prefixes F x now rest item answer is bad =
    ap (λ b. cond b (cost_of prefixes F x (now ++ item ∷ []) ∷ costs_from prefixes F x (now ++ item ∷ []) rest) []) (ap succeeded (sym is) ∙ bad)

module _ (appended : Appended) (forth : ViewGoesOn) (fp : Footprint) (F : Filestore) (x : List ℕ) (prefixes : List Path) (v w : Sketch) (item : Item)
    (rest : List Item)
    (status : Status) (costs whole : List Cost) (kept : w.prefixes ≡ v.prefixes) (tells : Tells v w item (Performed status))
    (at : Goes fp F x prefixes v (item ∷ rest) costs whole) where
  after : HasRun w fp F x (at.now ++ item ∷ []) (at.answers ++ Performed status ∷ [])
  after = forth v w fp F x at.now at.answers item (Performed status) at.run tells kept at.within.0

  said : Performed status ≡ (row prefixes (reached prefixes (alone F x) 0 at.now) 0 item).answer
  said =
      row_cost appended prefixes F x at.now item at.answers (Performed status)
      (at.run.answered ∙ ap (λ (ps : List Path). statuses_alone ps F x at.now) at.same)
      (after.answered ∙ ap (λ (ps : List Path). statuses_alone ps F x (at.now ++ item ∷ [])) (kept ∙ at.same))

  pub goes_on : is_successful status ≡ true → Goes fp F x prefixes w rest (costs ++ cost_of_sketch w ∷ []) whole
  goes_on good =
      let cost : cost_of_sketch w ≡ cost_of prefixes F x (at.now ++ item ∷ []) =
      cost_is w fp F x (at.now ++ item ∷ []) (at.answers ++ Performed status ∷ []) after
      ∙ ap (λ (ps : List Path). cost_of ps F x (at.now ++ item ∷ [])) (kept ∙ at.same) in
      record {
        same = kept ∙ at.same;
        now = at.now ++ item ∷ [];
        answers = at.answers ++ Performed status ∷ [];
        run = after;
        within = at.within.1;
        stated =
            append_assoc costs (cost_of_sketch w ∷ []) (costs_from prefixes F x (at.now ++ item ∷ []) rest)
            ∙ ap (λ (c : Cost). costs ++ c ∷ costs_from prefixes F x (at.now ++ item ∷ []) rest) cost
            ∙ ap (λ more. costs ++ more) (sym (cost_one prefixes F x at.now rest item (Performed status) said good))
            ∙ at.stated;
      }

  pub fails : is_successful status ≡ false → costs ≡ whole
  fails bad =
      sym (append-nil costs) ∙ ap (λ more. costs ++ more) (sym (cost_none prefixes F x at.now rest item (Performed status) said bad)) ∙ at.stated

pub ends : (fp : Footprint) (F : Filestore) (x : List ℕ) (prefixes : List Path) (v : Sketch) (costs whole : List Cost) → Goes fp F x prefixes v [] costs whole →
    costs ≡ whole
unfolding costs_from
ends fp F x prefixes v costs whole at = sym (append-nil costs) ∙ at.stated

-- all of a list
all_of : (rs : List Request) (n : ℕ) → n ≡ length rs → take n rs ≡ rs
all_of rs n is = ap (λ k. take k rs) is ∙ take-length rs

-- the requests from the first one on
pub rest_is : (rest more : List Request) (request : Request) → 1 ≤ length rest → request ≡ get_or rest 0 request → more ≡ take (length rest - 1) (drop 1 rest) →
    map Perform rest ≡ Perform request ∷ map Perform more
rest_is [] more request some is rest = absurd (omega arith)
rest_is (r ∷ rs) more request some is rest =
    ap (λ (q : Request). Perform q ∷ map Perform rs) (sym is)
    ∙ ap (λ (ms : List Request). Perform request ∷ map Perform ms) (sym (rest ∙ all_of rs (length (r ∷ rs) - 1) (omega arith)))

pub none_is : (rest : List Request) → length rest < 1 → map Perform rest ≡ []
none_is [] few = refl
none_is (r ∷ rs) few = absurd (omega arith)

-- the file and the requests after it -------------------------------------------------------

installed_said : (prefixes : List Path) (F : Filestore) (x : List ℕ) (p : Path) → Installed ∷ [] ≡ statuses_alone prefixes F x (Install p ∷ []) →
    Installed ≡ (row prefixes (reached prefixes (alone F x) 0 []) 0 (Install p)).answer
unfolding statuses reached
installed_said prefixes F x p is = only_one Installed (row prefixes (alone F x) 0 (Install p)).answer is

refused_said : (prefixes : List Path) (F : Filestore) (x : List ℕ) (p : Path) → (row prefixes (alone F x) 0 (Install p)).answer ≡ NotInstalled →
    NotInstalled ≡ (row prefixes (reached prefixes (alone F x) 0 []) 0 (Install p)).answer
unfolding reached
refused_said prefixes F x p is = sym is

-- before the first item
abbrev pub IsNew : Sketch → Footprint → Filestore → Type 0
IsNew v fp F = IsViewOf v (alone (only fp F) []) (blocks (alone (only fp F) [])) (blocks (alone (only fp F) [])) 0

module _ (v w : Sketch) (p : Path) (bound : ℕ) (rest : List Item) where
  pub not_begun : (refuses : ViewRefuses) (done : Bool) (costs : List Cost) → done ≡ false → TellsInstall v w p bound done →
      (fp : Footprint) (F : Filestore) (x : List ℕ) → IsNew v fp F → length x ≡ bound → AllByRecursion (IsWithin fp) (Install p ∷ rest) →
      costs ≡ costs ++ costs_from v.prefixes F x [] (Install p ∷ rest)
  not_begun refuses done costs failed tells fp F x seen long within =
      let stated : TellsInstall v w p (length x) done = subst (λ n. TellsInstall v w p n done) (sym long) tells in
      let refused : TellsInstall v w p (length x) false = subst (TellsInstall v w p (length x)) failed stated in
      sym (append-nil costs)
      ∙ ap (λ more. costs ++ more) (sym (cost_none v.prefixes F x [] rest (Install p) NotInstalled
      (refused_said v.prefixes F x p (refuses v w fp F p x seen refused within.0)) refl))

  pub begun : {T E : Type 0} (r : Result T E) (installs : ViewInstalls) (done : Bool) (old costs new : List Cost) → done ≡ true → w.prefixes ≡ v.prefixes →
      TellsInstall v w p bound done → costs ≡ old ++ cost_of_sketch w ∷ [] →
      OnOk r ((fp : Footprint) (F : Filestore) (x : List ℕ) (done : List Item) (answers : List Answer) → HasRun w fp F x done answers →
      AllByRecursion (IsWithin fp) rest →
      new ≡ costs ++ costs_from w.prefixes F x done rest) →
      OnOk r ((fp : Footprint) (F : Filestore) (x : List ℕ) → IsNew v fp F → length x ≡ bound → AllByRecursion (IsWithin fp) (Install p ∷ rest) →
      new ≡ old ++ costs_from v.prefixes F x [] (Install p ∷ rest))
  begun (Err e) installs done old costs new good kept tells written then = tt
  begun (Ok y) installs done old costs new good kept tells written then = λ fp F x seen long within.
      let stated : TellsInstall v w p (length x) done = subst (λ n. TellsInstall v w p n done) (sym long) tells in
      let installed : TellsInstall v w p (length x) true = subst (TellsInstall v w p (length x)) good stated in
      let run = installs v w fp F p x seen installed kept within.0 in
      let cost : cost_of_sketch w ≡ cost_of v.prefixes F x (Install p ∷ []) =
      cost_is w fp F x (Install p ∷ []) (Installed ∷ []) run ∙ ap (λ (ps : List Path). cost_of ps F x (Install p ∷ [])) kept in
      let said : Installed ∷ [] ≡ statuses_alone v.prefixes F x (Install p ∷ []) = run.answered
      ∙ ap (λ (ps : List Path). statuses_alone ps F x (Install p ∷ [])) kept in
      then fp F x (Install p ∷ []) (Installed ∷ []) run within.1
      ∙ ap (λ (ps : List Path). costs ++ costs_from ps F x (Install p ∷ []) rest) kept
      ∙ ap (λ (c : List Cost). c ++ costs_from v.prefixes F x (Install p ∷ []) rest) written
      ∙ append_assoc old (cost_of_sketch w ∷ []) (costs_from v.prefixes F x (Install p ∷ []) rest)
      ∙ ap (λ (c : Cost). old ++ c ∷ costs_from v.prefixes F x (Install p ∷ []) rest) cost
      ∙ ap (λ more. old ++ more) (sym (cost_one v.prefixes F x [] rest (Install p) Installed (installed_said v.prefixes F x p said) refl))

-- the items ----------------------------------------------------------------------------------

-- what is said of the requests, or of the file and the requests, is said of the items
abbrev pub AreStated : Sketch → Option Path → List Request → ℕ → (old new : List Cost) → Type 0
AreStated v d requests bound old new =
    (fp : Footprint) (F : Filestore) → IsNew v fp F → AllByRecursion (IsWithin fp) (items_of d requests) →
    new ≡ old ++ costs_of v.prefixes F (replicate bound 0) (items_of d requests)

none_stated : {T E : Type 0} (r : Result T E) (begins : ViewBegins) (v : Sketch) (requests : List Request) (old new : List Cost) →
    OnOk r ((fp : Footprint) (F : Filestore) (x : List ℕ) (done : List Item) (answers : List Answer) → HasRun v fp F x done answers →
    AllByRecursion (IsWithin fp) (map Perform requests) →
    new ≡ old ++ costs_from v.prefixes F x done (map Perform requests)) →
    OnOk r (AreStated v None requests 0 old new)
none_stated (Err e) begins v requests old new then = tt
none_stated (Ok y) begins v requests old new then = λ fp F seen within. then fp F [] [] [] (begins v fp F seen) within

pub without_file : {T E : Type 0} (r : Result T E) (begins : ViewBegins) (v : Sketch) (d : Option Path) (requests : List Request) (bound : ℕ)
    (old new : List Cost) →
    d ≡ None → bound ≡ 0 →
    OnOk r ((fp : Footprint) (F : Filestore) (x : List ℕ) (done : List Item) (answers : List Answer) → HasRun v fp F x done answers →
    AllByRecursion (IsWithin fp) (map Perform requests) →
    new ≡ old ++ costs_from v.prefixes F x done (map Perform requests)) →
    OnOk r (AreStated v d requests bound old new)
without_file r begins v d requests bound old new is none then =
    subst (λ (d : Option Path). OnOk r (AreStated v d requests bound old new)) (sym is)
    (subst (λ (n : ℕ). OnOk r (AreStated v None requests n old new)) (sym none) (none_stated r begins v requests old new then))

some_stated : {T E : Type 0} (r : Result T E) (v : Sketch) (p : Path) (requests : List Request) (bound : ℕ) (old new : List Cost) →
    OnOk r ((fp : Footprint) (F : Filestore) (x : List ℕ) → IsNew v fp F → length x ≡ bound → AllByRecursion (IsWithin fp) (Install p ∷ map Perform requests) →
    new ≡ old ++ costs_from v.prefixes F x [] (Install p ∷ map Perform requests)) →
    OnOk r (AreStated v (Some p) requests bound old new)
some_stated (Err e) v p requests bound old new then = tt
some_stated (Ok y) v p requests bound old new then = λ fp F seen within. then fp F (replicate bound 0) seen (length-replicate bound 0) within

pub beside_file : {T E : Type 0} (r : Result T E) (v : Sketch) (d : Option Path) (p : Path) (requests : List Request) (bound : ℕ) (old new : List Cost) → d
    ≡ Some p →
    OnOk r ((fp : Footprint) (F : Filestore) (x : List ℕ) → IsNew v fp F → length x ≡ bound → AllByRecursion (IsWithin fp) (Install p ∷ map Perform requests) →
    new ≡ old ++ costs_from v.prefixes F x [] (Install p ∷ map Perform requests)) →
    OnOk r (AreStated v d requests bound old new)
beside_file r v d p requests bound old new is then = subst (λ (d : Option Path). OnOk r (AreStated v d requests bound old new)) (sym is)
    (some_stated r v p requests bound old new then)

pub all_costs : (v : Sketch) (fp : Footprint) (prefixes : List Path) (F : Filestore) (d : Option Path) (requests : List Request) (bound : ℕ)
    (old new : List Cost) →
    OwnFootprint → old ≡ [] → fp ≡ footprint_of (items_of d requests) → v.prefixes ≡ prefixes → IsNew v fp F → AreStated v d requests bound old new →
    new ≡ costs_of prefixes F (replicate bound 0) (items_of d requests)
all_costs v fp prefixes F d requests bound old new own none is same seen stated =
    let within : AllByRecursion (IsWithin fp) (items_of d requests) =
    subst (λ (fp : Footprint). AllByRecursion (IsWithin fp) (items_of d requests)) (sym is) (own (items_of d requests)) in
    stated fp F seen within
    ∙ ap (λ (c : List Cost). c ++ costs_of v.prefixes F (replicate bound 0) (items_of d requests)) none
    ∙ ap (λ (ps : List Path). costs_of ps F (replicate bound 0) (items_of d requests)) same
