-- Nodes change, and of the octets none but those of a file that goes.
--     nodes_seen      the store that is seen then
--     nodes_store     it is a store
--     IsLeft          a slot or a node holds nothing then, or what it held
--     list_held, file_held     the runs of a store's slots and files are held
use Rattle.std.proofs.Common.{◌≡◌, ℕ, suc, ◌+◌, ◌-◌, true, List, [], ◌∷◌, length, map, get_or, None, refl, sym, ap, ◌∙◌, subst, inl, inr, ◌⊎◌, arith}
use Rattle.std.proofs.lemmas.List.{get_or-append_right, get_or_append_left, get_or_default, get_or_past}
use Rattle.std.proofs.lemmas.Bool.{cases_lt}
use Rattle.std.proofs.Math.ListN.{get_or-map}
use Rattle.std.specs.FinMap as finite
use Rattle.std.specs.Prelude.{All}
use Rattle.cfdp_paths.specs.Paths.{path_cmp}
use Rattle.cfdp_arena.specs.Arena.{Blocks, octets_at, free_count}
use Rattle.cfdp_actions.specs.Filestore.{Node, Filestore, blocks}
use Rattle.cfdp_tree.specs.declared.contents.Contents.{Contents}
use Rattle.cfdp_ways.specs.declared.way.Way.{Way}
use Rattle.cfdp_tree.specs.declared.slots.Slot.{Slot}
use Rattle.cfdp_tree.specs.code.Runs.{IsHeld, Apart, Stays}
use Rattle.cfdp_tree.specs.code.Ways.{HasWays}
use Rattle.cfdp_tree.proofs.OfRuns.WayLaws.{ways_still, ways_none}
use Rattle.cfdp_tree.specs.code.Contents.{IsFilled, contents_in}
use Rattle.cfdp_tree.specs.code.Nodes.{nodes_in}
use Rattle.cfdp_tree.specs.code.Tree.{IsTree}
use Rattle.cfdp_tree.specs.code.Index.{Heads, IsIndex}
use Rattle.cfdp_tree.specs.code.Kept.{no_contents, file_in, holdings, Shows, filestore_of, store_of, IsStored}
use Rattle.cfdp_tree.specs.code.Slots.{lists_staged, IsSoundSlot, IsStore}
use Rattle.cfdp_tree.proofs.OfStore.SlotCursors.{slot_stays}
use Rattle.cfdp_tree.proofs.OfRuns.ContentsLaws.{none_filled, stays_filled, stays_contents}
use Rattle.cfdp_tree.proofs.OfStore.ShowLaws.{tree_shows, shown_same}
use Rattle.cfdp_tree.proofs.OfStore.SeenLaws.{mapped_at, held_at}

same_maps : {A B : Type 0} (f g : A → B) (xs : List A) (d : A) → ((j : ℕ) → f (get_or xs j d) ≡ g (get_or xs j d)) → map f xs ≡ map g xs
same_maps f g [] d same = refl
same_maps f g (x ∷ xs) d same = (λ k. same 0 k ∷ same_maps f g xs d (λ j. same (suc j)) k)

-- what a slot or a node holds then: nothing, or what it held
abbrev pub IsLeft : Blocks → Blocks → Contents → Contents → Type 0
IsLeft arena later before after = (after ≡ no_contents) ⊎ ((after ≡ before) × Stays arena later before.run)

module _ (arena later : Blocks) (before after : Contents) where
  left_filled : IsLeft arena later before after → IsFilled arena before → IsFilled later after
  left_filled (inl e) filled = none_filled later after (ap (λ (x : Contents). x.run.count) e) (ap (λ (x : Contents). x.size) e) (ap (λ (x : Contents). x.sum) e)
  left_filled (inr same) filled = subst (IsFilled later) (sym same.0) (stays_filled arena later before same.1 filled)

  left_led : (ways : List Way) → length later ≡ length arena → IsLeft arena later before after → HasWays arena ways before.run → HasWays later ways after.run
  left_led ways long (inl e) has = ways_none later ways after.run (has.long ∙ sym long) (ap (λ (x : Contents). x.run.count) e)
  left_led ways long (inr same) has = subst (λ (x : Contents). HasWays later ways x.run) (sym same.0)
      (ways_still arena later ways before.run long (λ k less. same.1.sequence k (omega (arith, less))) has)

  left_apart : (other now : Contents) → IsLeft arena later before after → IsLeft arena later other now → Apart before.run other.run → Apart after.run now.run
  left_apart other now (inl e) right apart = (λ some more. absurd (omega (arith, some, ap (λ (x : Contents). x.run.count) e)))
  left_apart other now (inr same) (inl e) apart = (λ some more. absurd (omega (arith, more, ap (λ (x : Contents). x.run.count) e)))
  left_apart other now (inr same) (inr alike) apart =
      subst (λ (x : Contents). Apart x.run now.run) (sym same.0) (subst (λ (x : Contents). Apart before.run x.run) (sym alike.0) apart)

module _ (arena : Blocks) (heads : Heads) (slots : List Slot) {ways : List Way} (store : IsStore arena ways heads slots) where
  pub list_held : (j : ℕ) → IsHeld arena (get_or (lists_staged slots) j no_contents).run
  list_held j = elim (cases_lt j (length (lists_staged slots))) [
    | inl less ↦ subst (λ (x : Contents). IsHeld arena x.run) (get_or_append_left (lists_staged slots) (map file_in (nodes_in arena)) no_contents j less)
        (store.kept.stored.filled j).held
    | inr past ↦ subst (λ (x : Contents). IsHeld arena x.run) (sym (get_or_past (lists_staged slots) j no_contents past))
        (none_filled arena no_contents refl refl refl).held
  ]

  pub file_held : (b : ℕ) → IsHeld arena (file_in (octets_at (nodes_in arena) b)).run
  file_held b = subst (λ (x : Contents). IsHeld arena x.run) (held_at arena heads slots store (store_of arena (lists_staged slots)) refl b)
      (store.kept.stored.filled (length (lists_staged slots) + b)).held

module _ (arena later : Blocks) (heads after : Heads) (slots : List Slot) {ways : List Way} (store : IsStore arena ways heads slots) (long : length later
    ≡ length arena)
    (lists : (j : ℕ) → Stays arena later (get_or (lists_staged slots) j no_contents).run)
    (files : (b : ℕ) → IsLeft arena later (file_in (octets_at (nodes_in arena) b)) (file_in (octets_at (nodes_in later) b)))
    (F : finite.FinMap path_cmp Node) (shows : Shows later (nodes_in later) F) (tree : IsTree (nodes_in later))
    (index : IsIndex (nodes_in later) after None) where
  abbrev staged : List Contents
  staged = lists_staged slots

  abbrev seen : Filestore
  seen = record { nodes = F; staged = map (contents_in arena) staged }

  list_octets : (j : ℕ) → contents_in later (get_or staged j no_contents) ≡ contents_in arena (get_or staged j no_contents)
  list_octets j = stays_contents arena later (get_or staged j no_contents) (lists j)

  nodes_are : (filestore_of later staged).nodes ≡ F
  nodes_are = shown_same later (nodes_in later) (filestore_of later staged).nodes F (tree_shows later (nodes_in later) tree) shows

  filestore_is : filestore_of later staged ≡ seen
  filestore_is = (λ k. record { nodes = nodes_are k; staged = same_maps (contents_in later) (contents_in arena) staged no_contents list_octets k })

  pub nodes_seen : store_of later staged ≡ record { filestore = seen; capacity = length arena; takes_no_memory = true }
  nodes_seen = (λ k. record { filestore = filestore_is k; capacity = long k; takes_no_memory = true })

  left_at : (i : ℕ) → IsLeft arena later (get_or (holdings (nodes_in arena) staged) i no_contents) (get_or (holdings (nodes_in later) staged) i no_contents)
  left_at i = elim (cases_lt i (length staged)) [
    | inl less ↦ (
        let was = get_or_append_left staged (map file_in (nodes_in arena)) no_contents i less in
        let is = get_or_append_left staged (map file_in (nodes_in later)) no_contents i less in
        inr (is ∙ sym was, subst (λ (x : Contents). Stays arena later x.run) (sym was) (lists i)))
    | inr past ↦ (
        let b = i - length staged in
        let was = get_or-append_right staged (map file_in (nodes_in arena)) (length staged) i no_contents refl past
        ∙ get_or-map file_in (nodes_in arena) b None in
        let is = get_or-append_right staged (map file_in (nodes_in later)) (length staged) i no_contents refl past
        ∙ get_or-map file_in (nodes_in later) b None in
        subst (λ x. IsLeft arena later x (get_or (holdings (nodes_in later) staged) i no_contents)) (sym was)
        (subst (IsLeft arena later (file_in (octets_at (nodes_in arena) b))) (sym is) (files b)))
  ]

  stored_now : IsStored later ways (holdings (nodes_in later) staged)
  stored_now = record {
    filled = (λ i. left_filled arena later (get_or (holdings (nodes_in arena) staged) i no_contents) (get_or (holdings (nodes_in later) staged) i no_contents)
        (left_at i) (store.kept.stored.filled i));
    apart = (λ i j differ. left_apart arena later (get_or (holdings (nodes_in arena) staged) i no_contents)
        (get_or (holdings (nodes_in later) staged) i no_contents)
        (get_or (holdings (nodes_in arena) staged) j no_contents) (get_or (holdings (nodes_in later) staged) j no_contents) (left_at i) (left_at j)
        (store.kept.stored.apart i j differ));
    led = (λ i. left_led arena later (get_or (holdings (nodes_in arena) staged) i no_contents)
        (get_or (holdings (nodes_in later) staged) i no_contents) ways long (left_at i) (store.kept.stored.led i));
  }

  sound_now : All (IsSoundSlot later) slots
  sound_now j d within =
      let s = get_or slots j d in
      let at : get_or staged j no_contents ≡ s.contents = mapped_at (λ (slot : Slot). slot.contents) slots j s no_contents within
      (get_or_default slots j d s within) in
      let stays = subst (λ (x : Contents). Stays arena later x.run) at (lists j) in
      slot_stays arena later s stays (store.sound j d within)

  pub nodes_store : free_count later + blocks seen ≡ length later → IsStore later ways after slots
  nodes_store counted = record {
    kept = record {
      some = omega (arith, long, store.kept.some);
      small = omega (arith, long, store.kept.small);
      slots = store.kept.slots;
      tree = tree;
      index = index;
      stored = stored_now;
      counted = ap (λ (G : Filestore). free_count later + blocks G) filestore_is ∙ counted;
    };
    sound = sound_now;
  }
