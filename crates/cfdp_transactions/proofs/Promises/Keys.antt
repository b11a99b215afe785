-- In each world of a run something is in the filestore only at paths.
--     step_keyed                a step keeps the keys paths, as the names of its item are
--     next_keyed, run_keyed     each event, and each run, keeps them so
--     each_key_from             from whatever filestore whose keys are paths
--     each_key_is_a_path        and from the empty one
use Rattle.std.proofs.Common.{◌≡◌, ℕ, zero, suc, List, [], ◌∷◌, drop, refl, ap, sym, ◌∙◌, subst}
use Rattle.std.specs.Prelude.{Option, Some, None, is_some, nat_le, ◌+◌, IsFalse, slice_get}
use Rattle.std.specs.List.{AllByRecursion}
use Rattle.std.specs.FinMap as finite
use Rattle.std.proofs.lemmas.Bool.{cond_both}
use Rattle.cfdp_paths.specs.Paths.{path_cmp}
use Rattle.cfdp_actions.specs.Filestore.{Filestore, empty_filestore, after}
use Rattle.cfdp_actions.specs.Actions.{Item, Install, Perform, succeeded, Outcome, denied, row}
use Rattle.cfdp_leases.specs.Laws.{KeysArePaths, NamesPaths, KeysStayPaths}
use Rattle.cfdp_transactions.specs.Entry.{Phase, Receiving, Awaiting, Executing, Refused, Done, Ended, Entry}
use Rattle.cfdp_transactions.specs.Events.{Event, MetadataCame, DataCame, EofCame, Step, Cancel, Check, Take, Reply}
use Rattle.cfdp_transactions.specs.World.{World, index_of, entry_of, free}
use Rattle.cfdp_transactions.specs.Execution.{act_now, step_at, step_in, stepped}
use Rattle.cfdp_transactions.specs.Next.{next, run}
use Rattle.cfdp_transactions.specs.Sound.{Each}
use Rattle.cfdp_transactions.specs.Beside.{is_step, EachKeyIsAPath}
use Rattle.cfdp_transactions.proofs.Promises.OnlyStepsChange.{only_steps_change}
use Rattle.cfdp_transactions.specs.Beginning.{start_with, EachKeyIsAPathFrom}
use Rattle.cfdp_transactions.proofs.Promises.ItemOrder.{IsInOrder, next_ordered}
use Rattle.cfdp_transactions.proofs.Beginnings.Starting.{empty_good}

-- the nodes alone say
same_nodes : (F G : Filestore) → G.nodes ≡ F.nodes → KeysArePaths F → KeysArePaths G
same_nodes F G same keys p there = keys p (sym (ap (λ (nodes : finite.FinMap path_cmp _). is_some (finite.get nodes p)) same) ∙ there)

all_dropped : (n : ℕ) (items left : List Item) → AllByRecursion NamesPaths items → drop n items ≡ left → AllByRecursion NamesPaths left
all_dropped n items left paths is = subst (AllByRecursion NamesPaths) is (dropped n items paths)
  where
    dropped : (n : ℕ) (items : List Item) → AllByRecursion NamesPaths items → AllByRecursion NamesPaths (drop n items)
    dropped zero items paths = paths
    dropped (suc n) [] paths = tt
    dropped (suc n) (item ∷ items) paths = dropped n items paths.1

module _ (law : KeysStayPaths) (W : World) (keys : KeysArePaths W.filestore) where
  abbrev Keyed : World × Reply → Type 0
  Keyed a = KeysArePaths a.0.filestore

  denied_keyed : (item : Item) → KeysArePaths (after W.filestore (denied item).changes)
  denied_keyed (Install p) = keys
  denied_keyed (Perform request) = keys

  act_keyed : (e : Entry) (item : Item) → NamesPaths item → KeysArePaths (after W.filestore (act_now W e item).changes)
  act_keyed e item paths =
      let o = row W.config.prefixes W.filestore e.slot item in
      cond_both (nat_le o.taken (free W + o.given)) o (denied item) (λ (done : Outcome). KeysArePaths (after W.filestore done.changes))
      (λ _. law W.config.prefixes W.filestore e.slot item paths keys) (λ _. denied_keyed item)

  step_at_keyed : (k : ℕ) (e : Entry) (n : ℕ) (items : List Item) → AllByRecursion NamesPaths items → Keyed (step_at W k e n items)
  step_at_keyed k e n [] paths = keys
  step_at_keyed k e n (item ∷ items) paths = cond_both (succeeded (act_now W e item).answer) _ _ Keyed (λ _. act_keyed e item paths.0) (λ _. keys)

  step_keyed : (k : ℕ) (e : Entry) (phase : Phase) → IsInOrder e → Keyed (step_in phase W k e)
  step_keyed k e (Executing n) s = step_at_keyed k e n (drop n e.items) (all_dropped n e.items (drop n e.items) s.paths refl)
  step_keyed k e Receiving s = keys
  step_keyed k e (Awaiting checks) s = keys
  step_keyed k e Refused s = keys
  step_keyed k e Done s = keys
  step_keyed k e (Ended condition) s = keys

  stepped_keyed : (all : Each IsInOrder W.table) (k : ℕ) (o : Option Entry) → slice_get W.table k ≡ o → Keyed (stepped W k o)
  stepped_keyed all k None at = keys
  stepped_keyed all k (Some e) at = step_keyed k e e.phase (all k e at)

  stays_keyed : (event : Event) → IsFalse (is_step event) → Keyed (next W event)
  stays_keyed event other = same_nodes W.filestore (next W event).0.filestore (only_steps_change W event other) keys

  next_keyed : Each IsInOrder W.table → (event : Event) → Keyed (next W event)
  next_keyed all (Step id) = stepped_keyed all (index_of W id) (entry_of W id) refl
  next_keyed all (MetadataCame h m) = stays_keyed (MetadataCame h m) refl
  next_keyed all (DataCame h piece) = stays_keyed (DataCame h piece) refl
  next_keyed all (EofCame h eof) = stays_keyed (EofCame h eof) refl
  next_keyed all (Cancel id) = stays_keyed (Cancel id) refl
  next_keyed all (Check id) = stays_keyed (Check id) refl
  next_keyed all (Take id) = stays_keyed (Take id) refl

run_keyed : (law : KeysStayPaths) (W : World) (events : List Event) → KeysArePaths W.filestore → Each IsInOrder W.table → KeysArePaths (run W events).filestore
run_keyed law W [] keys all = keys
run_keyed law W (event ∷ events) keys all = run_keyed law (next W event).0 events (next_keyed law W keys all event) (next_ordered W all event)

pub each_key_from : KeysStayPaths → EachKeyIsAPathFrom
each_key_from law c F events keys = run_keyed law (start_with c F) events keys (λ k e at. absurd cc)

pub each_key_is_a_path : KeysStayPaths → EachKeyIsAPath
each_key_is_a_path law c events = each_key_from law c empty_filestore events (empty_good c).paths
