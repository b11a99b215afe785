-- One slot changes.
--     shows_later       other octets, but those that are shown are the same
--     node_same, node_held      a node whose octets are the same
--     all_maps          two maps over a list that are the same at each index
--     set_maps          two maps over a list that differ at one index, which is set
--     slot_seen, slot_changes         the store that is seen then
--     slot_store        it is a store
use Rattle.std.proofs.Common.{◌≡◌, ◌≢◌, ℕ, zero, suc, ◌+◌, ◌<◌, List, [], ◌∷◌, ◌++◌, length, map, set, get_or, Some, None, refl, sym, ap, ◌∙◌, subst, inl, inr, arith, length-set}
use Rattle.std.proofs.lemmas.List.{map-set, set-append_left, get_or_append_left, get_or-set_same, get_or-set_other, length-map, length-append}
use Rattle.std.proofs.lemmas.Bool.{cases_eq}
use Rattle.std.specs.FinMap as finite
use Rattle.std.specs.Prelude.{All, true}
use Rattle.cfdp_paths.specs.Paths.{path_cmp}
use Rattle.cfdp_arena.specs.Arena.{Blocks, octets_at, octets_of, free_count}
use Rattle.cfdp_actions.specs.declared.kind.Kind.{Kind}
use Rattle.cfdp_actions.specs.declared.kind.Kind.TheVariants as kind
use Rattle.cfdp_actions.specs.Filestore.{Node, Filestore, Stages, changed, blocks, blocks_of}
use Rattle.cfdp_actions.specs.Filestore as files
use Rattle.cfdp_actions.specs.Store.{Store, with_changes}
use Rattle.cfdp_actions.proofs.ChangeLaws.{blocks-stages}
use Rattle.cfdp_tree.specs.declared.contents.Contents.{Contents}
use Rattle.cfdp_ways.specs.declared.way.Way.{Way}
use Rattle.cfdp_tree.specs.declared.slots.Slot.{Slot}
use Rattle.cfdp_tree.specs.code.NodeFields.{kind_of_octet}
use Rattle.cfdp_tree.specs.code.Runs.{Spares, Stays}
use Rattle.cfdp_tree.specs.code.Ways.{HasWays, KeepsWays}
use Rattle.cfdp_tree.specs.code.Contents.{IsFilled, contents_in}
use Rattle.cfdp_tree.specs.code.Nodes.{nodes_in}
use Rattle.cfdp_tree.specs.code.Tree.{IsNode, node_fields_at, IsTree}
use Rattle.cfdp_tree.specs.code.Index.{Heads, IsIndex}
use Rattle.cfdp_tree.specs.code.Kept.{no_contents, file_in, holdings, node_with, node_of, Shows, filestore_of, store_of, IsStored}
use Rattle.cfdp_tree.specs.code.Slots.{lists_staged, IsSoundSlot, IsStore}
use Rattle.cfdp_tree.proofs.OfStore.SlotCursors.{slot_stays}
use Rattle.cfdp_tree.proofs.OfRuns.ContentsLaws.{length-contents}
use Rattle.cfdp_tree.proofs.OfStore.AlikeLaws.{node_by_contents}
use Rattle.cfdp_tree.proofs.OfStore.ShowLaws.{tree_shows, shown_same}
use Rattle.cfdp_tree.proofs.OfStore.StoredLaws.{stored_changed, stored_others, spared as run_spared}
use Rattle.cfdp_tree.proofs.OfStore.SeenLaws.{slot_at_held, seen_staged, slot_there, slot_filled, slot_held, held_at}

pub shows_later : (arena later nodes : Blocks) (F : finite.FinMap path_cmp Node)
    → ((b : ℕ) → IsNode nodes b → node_of later (octets_of nodes b) ≡ node_of arena (octets_of nodes b)) → Shows arena nodes F → Shows later nodes F
shows_later arena later nodes F stays shows = record { each = (λ b node. shows.each b node ∙ ap Some (sym (stays b node))); only = shows.only }

-- a node whose octets are the same
pub node_same : (arena later : Blocks) (k : Kind) (contents : Contents) → contents_in later contents ≡ contents_in arena contents → node_with later k contents
    ≡ node_with arena k contents
node_same arena later kind.File contents same = ap files.File same
node_same arena later kind.Directory contents same = refl

pub node_held : (arena later nodes : Blocks) (c : ℕ) → IsNode nodes c → contents_in later (file_in (octets_at nodes c)) ≡
    contents_in arena (file_in (octets_at nodes c)) → node_of later (octets_of nodes c) ≡ node_of arena (octets_of nodes c)
node_held arena later nodes c node same =
    node_by_contents later nodes c node ∙ node_same arena later (kind_of_octet (node_fields_at nodes c).kind) (file_in (octets_at nodes c)) same
    ∙ sym (node_by_contents arena nodes c node)

pub all_maps : {A B : Type 0} (f g : A → B) (xs : List A) (d : A) → ((j : ℕ) → j < length xs → f (get_or xs j d) ≡ g (get_or xs j d)) → map f xs ≡ map g xs
all_maps f g [] d same = refl
all_maps f g (x ∷ xs) d same = (λ k. same 0 (omega arith) k ∷ all_maps f g xs d (λ j within. same (suc j) (omega arith)) k)

pub set_maps : {A B : Type 0} (f g : A → B) (xs : List A) (i : ℕ) (y : B) (d : A) → ((j : ℕ) → j < length xs → j ≢ i → f (get_or xs j d) ≡ g (get_or xs j d)) →
    set (map f xs) i y ≡ set (map g xs) i y
set_maps f g [] i y d same = refl
set_maps f g (x ∷ xs) zero y d same = ap (λ ys. y ∷ ys) (all_maps f g xs d (λ j within. same (suc j) (omega arith) (λ e. omega arith)))
set_maps f g (x ∷ xs) (suc i) y d same = (λ k. same 0 (omega arith) (λ e. omega arith) k ∷ set_maps f g xs i y d
    (λ j within other. same (suc j) (omega arith) (λ e. other (omega arith))) k)

module _ (arena later : Blocks) (heads : Heads) (slots : List Slot) {ways : List Way} (store : IsStore arena ways heads slots) (i : ℕ) (small : i < 64)
    (slot : Slot) (is : slot ≡ get_or slots i slot) (after : Slot)
    (nodes : nodes_in later ≡ nodes_in arena) (long : length later ≡ length arena) (spares : Spares arena later slot.contents.run after.contents.run)
    (filled : IsFilled later after.contents) (sound : IsSoundSlot later after) (taken : free_count later + blocks_of after.contents.size ≡ free_count arena
    + blocks_of slot.contents.size) where
  abbrev staged : List Contents
  staged = lists_staged slots

  abbrev now : List Slot
  now = set slots i after

  abbrev held : List Contents
  held = holdings (nodes_in arena) staged

  there : i < length staged
  there = omega (arith, store.kept.slots)

  held_slot : get_or held i no_contents ≡ slot.contents
  held_slot = slot_held arena heads slots store (store_of arena staged) refl i small slot is

  spared : Spares arena later (get_or held i no_contents).run after.contents.run
  spared = subst (λ (x : Contents). Spares arena later x.run after.contents.run) (sym held_slot) spares

  in_held : i < length held
  in_held = omega (arith, there, length-append staged (map file_in (nodes_in arena)))

  others : (j : ℕ) → j ≢ i → contents_in later (get_or held j no_contents) ≡ contents_in arena (get_or held j no_contents)
  others = stored_others arena later held i in_held after.contents store.kept.stored spared filled

  spared_at : (j : ℕ) → j ≢ i → Stays arena later (get_or held j no_contents).run
  spared_at j other = (run_spared arena later held i in_held after.contents store.kept.stored spared filled j other).0

  staged_now : lists_staged now ≡ set staged i after.contents
  staged_now = map-set (λ (slot : Slot). slot.contents) slots i after

  holdings_now : holdings (nodes_in later) (lists_staged now) ≡ set held i after.contents
  holdings_now = (λ k. staged_now k ++ map file_in (nodes k)) ∙ sym (set-append_left staged (map file_in (nodes_in arena)) i after.contents there)

  node_stays : (b : ℕ) → IsNode (nodes_in arena) b → node_of later (octets_of (nodes_in arena) b) ≡ node_of arena (octets_of (nodes_in arena) b)
  node_stays b node =
      let at = held_at arena heads slots store (store_of arena staged) refl b in
      node_held arena later (nodes_in arena) b node (ap (contents_in later) (sym at) ∙ others (length staged + b) (λ e. omega (arith, there))
      ∙ ap (contents_in arena) at)

  -- the same is at each path
  nodes_same : (filestore_of later (lists_staged now)).nodes ≡ (filestore_of arena staged).nodes
  nodes_same =
      let tree = subst IsTree (sym nodes) store.kept.tree in
      let was = shows_later arena later (nodes_in arena) (filestore_of arena staged).nodes node_stays (tree_shows arena (nodes_in arena) store.kept.tree) in
      shown_same later (nodes_in later) (filestore_of later (lists_staged now)).nodes (filestore_of arena staged).nodes (tree_shows later (nodes_in later) tree)
      (subst (λ ns. Shows later ns (filestore_of arena staged).nodes) (sym nodes) was)

  lists_now : map (contents_in later) (lists_staged now) ≡ set (map (contents_in arena) staged) i (contents_in later after.contents)
  lists_now =
      ap (map (contents_in later)) staged_now ∙ map-set (contents_in later) staged i after.contents
      ∙ set_maps (contents_in later) (contents_in arena) staged i (contents_in later after.contents) no_contents (λ j within other.
      (let at = get_or_append_left staged (map file_in (nodes_in arena)) no_contents j within in ap (contents_in later) (sym at) ∙ others j other
      ∙ ap (contents_in arena) at))

  abbrev octets : List ℕ
  octets = contents_in later after.contents

  filestore_now : filestore_of later (lists_staged now) ≡ changed (filestore_of arena staged) (Stages i octets)
  filestore_now = (λ k. record { nodes = nodes_same k; staged = lists_now k })

  pub slot_seen : store_of later (lists_staged now) ≡ with_changes (store_of arena staged) (Stages i octets ∷ [])
  slot_seen = (λ k. record { filestore = filestore_now k; capacity = long k; takes_no_memory = true })

  counted_now : free_count later + blocks (filestore_of later (lists_staged now)) ≡ length later
  counted_now =
      let F = filestore_of arena staged in
      let within : i < length F.staged = omega (arith, there, length-map staged (contents_in arena)) in
      let was : length (files.staged_in F i) ≡ slot.contents.size =
      ap length (seen_staged arena heads slots store (store_of arena staged) refl i small slot is)
      ∙ length-contents arena slot.contents (slot_filled arena heads slots store (store_of arena staged) refl i small slot is) in
      omega (
        arith,
        ap blocks filestore_now,
        blocks-stages F i octets within,
        ap blocks_of was,
        ap blocks_of (length-contents later after.contents filled),
        taken,
        store.kept.counted,
        long,
      )

  there_slot : i < length slots
  there_slot = slot_there arena heads slots store (store_of arena staged) refl i small

  stays_sound : (j : ℕ) → j ≢ i → (d : Slot) → j < length slots → IsSoundSlot later (get_or slots j d)
  stays_sound j other d within =
      let s = get_or slots j d in
      let at = slot_at_held arena heads slots store (store_of arena staged) refl j d within in
      let stays = subst (λ (x : Contents). Stays arena later x.run) at (spared_at j other) in
      slot_stays arena later s stays (store.sound j d within)

  sound_now : All (IsSoundSlot later) now
  sound_now j d within = elim (cases_eq j i) [
    | inl e ↦ subst (IsSoundSlot later) (sym (ap (λ k. get_or now k d) e ∙ get_or-set_same slots i after d there_slot)) sound
    | inr other ↦ subst (IsSoundSlot later) (sym (get_or-set_other slots i j after d other)) (stays_sound j other d (omega (arith, length-set slots i after)))
  ]

  module _ (ways_now : List Way) (has : HasWays later ways_now after.contents.run) (keeps : KeepsWays arena later ways ways_now slot.contents.run) where
    keeps_held : KeepsWays arena later ways ways_now (get_or held i no_contents).run
    keeps_held = subst (λ (x : Contents). KeepsWays arena later ways ways_now x.run) (sym held_slot) keeps

    stored_now : IsStored later ways_now (holdings (nodes_in later) (lists_staged now))
    stored_now = subst (IsStored later ways_now) (sym holdings_now)
        (stored_changed arena later held i in_held after.contents store.kept.stored spared filled ways_now has keeps_held)

    pub slot_store : IsStore later ways_now heads now
    slot_store = record {
      kept = record {
        some = omega (arith, long, store.kept.some);
        small = omega (arith, long, store.kept.small);
        slots = length-map now (λ (slot : Slot). slot.contents) ∙ length-set slots i after ∙ sym (length-map slots (λ (slot : Slot). slot.contents))
            ∙ store.kept.slots;
        tree = subst IsTree (sym nodes) store.kept.tree;
        index = subst (λ ns. IsIndex ns heads None) (sym nodes) store.kept.index;
        stored = stored_now;
        counted = counted_now;
      };
      sound = sound_now;
    }

  pub slot_changes : (now_seen : Store) → store_of arena staged ≡ now_seen → (given : ℕ) → i ≡ given → (list : List ℕ) → octets ≡ list
      → store_of later (lists_staged now) ≡ with_changes now_seen (Stages given list ∷ [])
  slot_changes now_seen view given same list is = slot_seen ∙ (λ k. with_changes (view k) (Stages (same k) (is k) ∷ []))
