-- A store in which there is nothing.
--     head_none                     what means nothing
--     filled_up                     a list that is filled up with one thing
--     new_view, new_store           the store
use Rattle.std.proofs.Common.{◌≡◌, ℕ, zero, suc, ◌-◌, ◌*◌, ◌<◌, ◌≤◌, true, List, [], ◌∷◌, ◌++◌, length, map, take, get_or, replicate, sum_by, Option, None, refl, sym, ap, ◌∙◌, subst, inl, inr, arith}
use Rattle.std.proofs.lemmas.List.{length-replicate, get_or-replicate, get_or_past, get_or-append_right, get_or_append_left}
use Rattle.std.proofs.lemmas.List.Folds.{sum_by-replicate}
use Rattle.std.proofs.lemmas.List.Elements.{All-nil}
use Rattle.std.proofs.lemmas.Bool.{cases_lt}
use Rattle.std.specs.FinMap as finite
use Rattle.std.specs.FinMap.{get-empty, len-empty, len-entries}
use Rattle.std.specs.Prelude.{All}
use Rattle.std.proofs.lemmas.Option.{none-some}
use Rattle.cfdp_paths.specs.Paths.{Path, path_cmp}
use Rattle.cfdp_arena.specs.Arena.{Blocks, octets_at, all_free, live_count}
use Rattle.cfdp_actions.specs.Filestore.{Node, empty_filestore, weights, blocks, blocks_of}
use Rattle.cfdp_actions.specs.Store.{empty_store}
use Rattle.cfdp_actions.proofs.Growth.{blocks_of-zero}
use Rattle.cfdp_tree.specs.declared.contents.Contents.{Contents}
use Rattle.cfdp_tree.specs.declared.index.ListHead.{ListHead}
use Rattle.cfdp_ways.specs.declared.way.Way.{Way}
use Rattle.cfdp_tree.specs.declared.slots.Slot.{Slot}
use Rattle.cfdp_tree.specs.code.Contents.{IsFilled, contents_in}
use Rattle.cfdp_tree.specs.code.Nodes.{only_node, nodes_in}
use Rattle.cfdp_tree.specs.code.Tree.{IsNode, IsTree}
use Rattle.cfdp_tree.specs.code.Index.{no_head, head_count, HasHead, IsHead, IsIndex}
use Rattle.cfdp_tree.specs.code.Kept.{no_contents, file_in, holdings, Shows, filestore_of, store_of, IsStored}
use Rattle.cfdp_tree.specs.code.Slots.{lists_staged, IsSoundSlot, IsFreshSlot, IsStore}
use Rattle.cfdp_tree.specs.declared.orders.Orders.{Orders}
use Rattle.cfdp_tree.specs.code.Orders.{order_at, IsInOrders}
use Rattle.cfdp_tree.proofs.OfOrders.OrderedLaws.{ordered_none}
use Rattle.cfdp_tree.proofs.OfRuns.ContentsLaws.{none_filled}
use Rattle.cfdp_tree.proofs.OfStore.SlotCursors.{slot_starts}
use Rattle.cfdp_tree.proofs.OfRuns.WayLaws.{ways_none}
use Rattle.cfdp_tree.proofs.OfStore.ShowLaws.{tree_shows, shown_same}
use Rattle.cfdp_arena.proofs.Chains.{no_live}

pub head_none : (head : ListHead) → head.first ≡ 0 → head.listed ≡ 0 → head.unlisted ≡ 0 → head ≡ no_head
head_none head first listed unlisted = (λ k. record { first = first k; listed = listed k; unlisted = unlisted k })

-- one thing, again and again

no_front : {A : Type 0} (n : ℕ) → take {A = A} n [] ≡ []
no_front zero = refl
no_front (suc n) = refl

pub filled_up : {A : Type 0} (n m : ℕ) (x : A) (old now : List A) → now ≡ take n old ++ replicate (n - m) x → old ≡ [] → m ≡ 0 → now ≡ replicate n x
filled_up n m x old now is none empty =
    let all : n - m ≡ n = omega (arith, empty) in
    is ∙ ap (λ xs. take n xs ++ replicate (n - m) x) none ∙ ap (λ xs. xs ++ replicate (n - m) x) (no_front n) ∙ ap (λ k. replicate k x) all

mapped : {A B : Type 0} (f : A → B) (n : ℕ) (x : A) → map f (replicate n x) ≡ replicate n (f x)
mapped f zero x = refl
mapped f (suc n) x = ap (λ xs. f x ∷ xs) (mapped f n x)

all_mapped : {A B : Type 0} (f : A → B) (xs : List A) (n : ℕ) (y : B) → length xs ≡ n → ((i : ℕ) (d : A) → i < length xs → f (get_or xs i d) ≡ y) → map f xs
    ≡ replicate n y
all_mapped f [] zero y long each = refl
all_mapped f [] (suc n) y long each = absurd (omega (arith, long))
all_mapped f (x ∷ xs) zero y long each = absurd (omega (arith, long))
all_mapped f (x ∷ xs) (suc n) y long each = (λ k. each 0 x (omega arith) k ∷ all_mapped f xs n y (omega (arith, long))
    (λ i d less. each (suc i) d (omega arith)) k)

one_each : {A : Type 0} (n : ℕ) (x d : A) → x ≡ d → (i : ℕ) → get_or (replicate n x) i d ≡ d
one_each n x d e i = elim (cases_lt i n) [
  | inl less ↦ get_or-replicate n i x d less ∙ e
  | inr past ↦ get_or_past (replicate n x) i d (omega (arith, length-replicate n x, past))
]

none_live : (n : ℕ) → live_count (all_free n) ≡ 0
none_live zero = refl
none_live (suc n) = none_live n

module _ (n : ℕ) (some : 1 ≤ n) (few : n ≤ 65536) (heads : List ListHead) (head : ListHead) (heads_are : heads ≡ replicate n head) (head_is : head ≡ no_head)
    (slots : List Slot) (many : length slots ≡ 64) (fresh : All IsFreshSlot slots) where
  abbrev arena : Blocks
  arena = all_free n

  abbrev nodes : Blocks
  nodes = nodes_in arena

  nodes_are : nodes ≡ arena
  nodes_are = mapped only_node n None

  free_at : (b : ℕ) → octets_at nodes b ≡ None
  free_at b = ap (λ ns. octets_at ns b) nodes_are ∙ one_each n None None refl b

  no_node : (b : ℕ) → IsNode nodes b → ⊥
  no_node b node = no_live (octets_at nodes b) (free_at b) node

  tree : IsTree nodes
  tree = record {
    named = (λ b node. absurd (no_node b node));
    homes = (λ b d node there. absurd (no_node b node));
    ends = (λ b node. absurd (no_node b node));
    unique = (λ b c node other there named. absurd (no_node b node));
  }

  long : length heads ≡ n
  long = ap (λ (hs : List ListHead). length hs) heads_are ∙ length-replicate n head

  head_at : (k : ℕ) → get_or heads k no_head ≡ no_head
  head_at k = ap (λ hs. get_or hs k no_head) heads_are ∙ one_each n head no_head head_is k

  head_empty : (k : ℕ) → IsHead nodes None (length heads) k no_head
  head_empty k = record {
    small = omega arith;
    few = omega arith;
    rest = [];
    count = refl;
    own = All-nil (HasHead nodes None (length heads) k);
    once = (λ i j d before less. absurd (omega (arith, less)));
    all = (λ b has. absurd (no_node b has.node));
  }

  index : IsIndex nodes heads None
  index = record {
    some = omega (arith, long, some);
    each = (λ k within. subst (IsHead nodes None (length heads) k) (sym (head_at k)) (head_empty k));
    counted = omega (
      arith,
      ap (λ hs. sum_by (λ (h : ListHead). head_count h) hs) heads_are,
      sum_by-replicate (λ (h : ListHead). head_count h) n head,
      ap (λ (h : ListHead). n * head_count h) head_is,
      ap live_count nodes_are,
      none_live n,
    );
  }

  abbrev staged : List Contents
  staged = lists_staged slots

  staged_are : staged ≡ replicate 64 no_contents
  staged_are = all_mapped (λ (s : Slot). s.contents) slots 64 no_contents many (λ i d less. (fresh i d less).contents)

  staged_long : length staged ≡ 64
  staged_long = ap (λ (xs : List Contents). length xs) staged_are ∙ length-replicate 64 no_contents

  files_are : map file_in nodes ≡ replicate n no_contents
  files_are = ap (map file_in) nodes_are ∙ mapped file_in n None

  held_at : (i : ℕ) → get_or (holdings nodes staged) i no_contents ≡ no_contents
  held_at i = elim (cases_lt i (length staged)) [
    | inl less ↦ get_or_append_left staged (map file_in nodes) no_contents i less ∙ ap (λ (xs : List Contents). get_or xs i no_contents) staged_are
        ∙ one_each 64 no_contents no_contents refl i
    | inr past ↦ get_or-append_right staged (map file_in nodes) (length staged) i no_contents refl past
        ∙ ap (λ (xs : List Contents). get_or xs (i - length staged) no_contents) files_are ∙ one_each n no_contents no_contents refl (i - length staged)
  ]

  module _ (ways : List Way) (ways_long : length ways ≡ n) where
    stored : IsStored arena ways (holdings nodes staged)
    stored = record {
      filled = (λ i. subst (IsFilled arena) (sym (held_at i)) (none_filled arena no_contents refl refl refl));
      apart = (λ i j differ more. absurd (omega (arith, more, ap (λ (x : Contents). x.run.count) (held_at i))));
      led = (λ i. ways_none arena ways (get_or (holdings nodes staged) i no_contents).run (ways_long ∙ sym (length-replicate {A = Option (List ℕ)} n None))
          (ap (λ (x : Contents). x.run.count) (held_at i)));
    }

  none_shown : Shows arena nodes (finite.empty {R = path_cmp})
  none_shown = record { each = (λ b node. absurd (no_node b node)); only = (λ p node e. absurd (none-some _ (sym (get-empty path_cmp p) ∙ e))) }

  lists_are : map (contents_in arena) staged ≡ replicate 64 []
  lists_are = ap (map (contents_in arena)) staged_are ∙ mapped (contents_in arena) 64 no_contents

  nodes_empty : (filestore_of arena staged).nodes ≡ finite.empty
  nodes_empty = shown_same arena nodes (filestore_of arena staged).nodes finite.empty (tree_shows arena nodes tree) none_shown

  filestore_empty : filestore_of arena staged ≡ empty_filestore
  filestore_empty = (λ k. record { nodes = nodes_empty k; staged = lists_are k })

  pub new_view : store_of arena staged ≡ empty_store n true
  new_view = (λ k. record { filestore = filestore_empty k; capacity = length-replicate {A = Option (List ℕ)} n None k; takes_no_memory = true })

  no_entries : (es : List (Path × Node)) → length es ≡ 0 → weights es ≡ 0
  no_entries [] none = refl
  no_entries (e ∷ es) none = absurd (omega (arith, none))

  none_used : blocks empty_filestore ≡ 0
  unfolding blocks
  none_used = omega (
    arith,
    no_entries (finite.entries (finite.empty {X = Node} {R = path_cmp})) (sym (len-entries finite.empty) ∙ len-empty path_cmp Node),
    sum_by-replicate (λ (octets : List ℕ). blocks_of (length octets)) 64 [],
    blocks_of-zero,
  )

  sound : All (IsSoundSlot arena) slots
  sound i d less = let slot = fresh i d less in slot_starts arena (get_or slots i d) slot.block slot.index (slot.blank
      ∙ sym (ap (λ (x : Contents). x.size) slot.contents)) slot.gap

  pub new_store : (ways : List Way) → length ways ≡ n → IsStore arena ways heads slots
  new_store ways ways_long = record {
    kept = record {
      some = omega (arith, length-replicate {A = Option (List ℕ)} n None, some);
      small = omega (arith, length-replicate {A = Option (List ℕ)} n None, few);
      slots = staged_long;
      tree = tree;
      index = index;
      stored = stored ways ways_long;
      counted = omega (arith, ap blocks filestore_empty, none_used, none_live n, length-replicate {A = Option (List ℕ)} n None);
    };
    sound = sound;
  }

  -- no node is in an order
  pub new_orders : (orders : Orders) → length orders.links.items ≡ n → length orders.directories.items ≡ n →
      ((bucket : Option ℕ) → (order_at orders bucket).height ≡ 0) → IsInOrders nodes orders None
  new_orders orders links directories empty =
      let nodes_long : length nodes ≡ n = ap (λ (ns : Blocks). length ns) nodes_are ∙ length-replicate {A = Option (List ℕ)} n None in
      ordered_none nodes orders (links ∙ sym nodes_long) (directories ∙ sym nodes_long) no_node empty
