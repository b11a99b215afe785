-- Entries in order of their names, as one of them comes and goes.
--     member_at                   a node of an order is one of its directory
--     apart_directories           no node is in the orders of two directories
--     out_nowhere                 a node that is out is in none
--     entered, left               the orders once an entry is put into that of its directory, and once it is taken out
--     same_change, same_others    what stays, by what was read first
--     directory_inside, home_node  a directory that is there has an order
use Rattle.std.proofs.Common.{◌≡◌, ◌≢◌, ℕ, ◌+◌, ◌<◌, ◌≤◌, List, ◌∷◌, ◌++◌, length, Option, Some, None, refl, sym, ap, ◌∙◌, subst, inl, inr, arith}
use Rattle.std.proofs.lemmas.Bool.{cases_eq, cases_lt}
use Rattle.std.proofs.lemmas.List.Elements.{All-weaker}
use Rattle.std.specs.Cmp.Lexicographic.{nat_list_cmp_total}
use Rattle.std.specs.Prelude.{All, AllPairs, Contains}
use Rattle.std.specs.declared.cmp.Ordering.{Ordering}
use Rattle.std.specs.declared.cmp.Ordering.TheVariants.{Less, Equal, Greater}
use Rattle.std.proofs.lemmas.Option.{none-some, same_Some}
use Rattle.cfdp_arena.specs.Arena.{Blocks}
use Rattle.cfdp_arena.proofs.Chains.{live_within}
use Rattle.cfdp_paths.specs.Paths.{Name}
use Rattle.cfdp_order.specs.declared.links.Links.{Links}
use Rattle.cfdp_order.specs.declared.links.Order.{Order}
use Rattle.cfdp_order.specs.Orders as trees
use Rattle.cfdp_order.specs.Orders.{times_in, IsOrder, OtherLinksStay, SplitsFrom}
use Rattle.cfdp_order.proofs.Counts.{one, one_self, one_other, times-append, times_middle}
use Rattle.cfdp_order.proofs.MemberLaws.{times_contains, contains_times}
use Rattle.cfdp_order.proofs.SortedLaws.{pairs_with, pairs_without, splits_from}
use Rattle.cfdp_order.proofs.SplitLaws.{All_back}
use Rattle.cfdp_order.proofs.TreeLaws.{stays}
use Rattle.cfdp_paths.specs.code.Paths.{name_cmp}
use Rattle.cfdp_tree.specs.declared.orders.Orders.{Orders}
use Rattle.cfdp_tree.specs.code.Tree.{IsNode, name_at, home, IsEntry, IsTree}
use Rattle.cfdp_tree.specs.code.Entries.{IsMember}
use Rattle.cfdp_tree.specs.code.Orders.{order_at, in_order, Rises, IsInOrders}
use Rattle.cfdp_tree.proofs.OfOrders.LeastLaws.{flipped, less_greater}
use Rattle.cfdp_tree.proofs.OfOrders.SortLaws.{of_times, at_times, split_at, pairs_front, pairs_back, less_back, less_first, directory_cases}
use Rattle.cfdp_tree.proofs.OfOrders.NextLaws.{name_antisym}

none_times : (m : ℕ) (list : List ℕ) → (1 ≤ times_in m list → ⊥) → times_in m list ≡ 0
none_times m list never = elim (cases_lt 0 (times_in m list)) [
  | inl some ↦ absurd (never (omega (arith, some)))
  | inr none ↦ omega (arith, none)
]

module _ (nodes : Blocks) (orders : Orders) (out : Option ℕ) (ordered : IsInOrders nodes orders out) where
  pub member_at : (directory : Option ℕ) (m : ℕ) → 1 ≤ times_in m (in_order orders directory) → IsMember nodes out directory m
  member_at directory m some = at_times (IsMember nodes out directory) (in_order orders directory) m (ordered.own directory) some

  pub apart_directories : (p q : Option ℕ) → p ≢ q → (m : ℕ) → 1 ≤ times_in m (in_order orders p) → times_in m (in_order orders q) ≡ 0
  apart_directories p q other m some = none_times m (in_order orders q) (λ too. other (sym (member_at p m some).there ∙ (member_at q m too).there))

  -- no node that is out is in an order
  pub out_nowhere : (b : ℕ) → out ≡ Some b → (directory : Option ℕ) → times_in b (in_order orders directory) ≡ 0
  out_nowhere b is directory = none_times b (in_order orders directory) (λ some. (member_at directory b some).listed is)

-- the orders of all directories but one stay
module _ (nodes : Blocks) (old now : Orders) (was out : Option ℕ) (directory : Option ℕ) (list : List ℕ) (ordered : IsInOrders nodes old was)
    (links : length now.links.items ≡ length nodes) (directories : length now.directories.items ≡ length nodes)
    (here : IsOrder now.links.items (order_at now directory)) (here_is : in_order now directory ≡ list)
    (others : (p : Option ℕ) → p ≢ directory → IsOrder now.links.items (order_at now p) × (in_order now p ≡ in_order old p))
    (own : All (IsMember nodes out directory) list) (own_others : (p : Option ℕ) → p ≢ directory → (m : ℕ) → IsMember nodes was p m → IsMember nodes out p m)
    (rising : AllPairs (Rises nodes) list)
    (all : (c : ℕ) → IsNode nodes c → out ≢ Some c → home nodes c ≡ directory → Contains list c)
    (all_others : (c : ℕ) → IsNode nodes c → out ≢ Some c → home nodes c ≢ directory → was ≢ Some c) where
  pub one_changed : IsInOrders nodes now out
  one_changed = record {
    links = links;
    directories = directories;
    order = (λ p. elim (directory_cases p directory) [
      | inl e ↦ subst (λ q. IsOrder now.links.items (order_at now q)) (sym e) here
      | inr other ↦ (others p other).0
    ]);
    own = (λ p. elim (directory_cases p directory) [
      | inl e ↦ subst (λ q. All (IsMember nodes out q) (in_order now q)) (sym e) (subst (All (IsMember nodes out directory)) (sym here_is) own)
      | inr other ↦ subst (All (IsMember nodes out p)) (sym (others p other).1)
          (All-weaker (IsMember nodes was p) (IsMember nodes out p) (own_others p other) (in_order old p) (ordered.own p))
    ]);
    rising = (λ p. elim (directory_cases p directory) [
      | inl e ↦ subst (λ q. AllPairs (Rises nodes) (in_order now q)) (sym e) (subst (AllPairs (Rises nodes)) (sym here_is) rising)
      | inr other ↦ subst (AllPairs (Rises nodes)) (sym (others p other).1) (ordered.rising p)
    ]);
    all = (λ c node listed. elim (directory_cases (home nodes c) directory) [
      | inl e ↦ subst (λ q. Contains (in_order now q) c) (sym e) (subst (λ xs. Contains xs c) (sym here_is) (all c node listed e))
      | inr other ↦ subst (λ xs. Contains xs c) (sym (others (home nodes c) other).1) (ordered.all c node (all_others c node listed other))
    ]);
  }

module _ (nodes : Blocks) (tree : IsTree nodes) (old : Orders) (directory : Option ℕ) (name : Name) (b : ℕ) (entry : IsEntry nodes directory name b) where
  abbrev list : List ℕ
  list = in_order old directory

  abbrev side : ℕ → Ordering
  side m = name_cmp (name_at nodes m) name

  within : b < length nodes
  within = live_within nodes b entry.node

  -- the orders of other directories, whose nodes are not in a list
  module _ (out : Option ℕ) (ordered : IsInOrders nodes old out) (links : List Links) (changed : List ℕ) (others : OtherLinksStay old.links.items links changed)
      (apart : (p : Option ℕ) → p ≢ directory → (m : ℕ) → 1 ≤ times_in m (in_order old p) → times_in m changed ≡ 0)
      (now : Orders) (links_now : now.links.items ≡ links) (elsewhere : (p : Option ℕ) → p ≢ directory → order_at now p ≡ order_at old p) where
    other_orders : (p : Option ℕ) → p ≢ directory → IsOrder now.links.items (order_at now p) × (in_order now p ≡ in_order old p)
    other_orders p other =
        let same = stays old.links.items links (order_at old p) (ordered.order p) others.long (λ m some. others.same m (apart p other m some)) in (
          subst (λ (o : Order). IsOrder now.links.items o) (sym (elsewhere p other)) (subst (λ ls. IsOrder ls (order_at old p)) (sym links_now) same.is),
          (λ i. trees.nodes (links_now i) (elsewhere p other i)) ∙ same.listed,
        )

  module _ (ordered : IsInOrders nodes old (Some b)) where
    pub enters : times_in b (in_order old directory) ≡ 0
    enters = out_nowhere nodes old (Some b) ordered b refl directory

    -- of another name than those that are there
    later : (m : ℕ) → IsMember nodes (Some b) directory m → side m ≢ Less → name_cmp (name_at nodes b) (name_at nodes m) ≡ Less
    later m member upto = by_order (side m) refl
      where
        by_order : (o : Ordering) → side m ≡ o → name_cmp (name_at nodes b) (name_at nodes m) ≡ Less
        by_order Less e = absurd (upto e)
        by_order Equal e = absurd (member.listed (ap Some (sym (tree.unique m b member.node entry.node (member.there ∙ sym entry.there)
            (name_antisym (name_at nodes m) name e ∙ sym entry.named)))))
        by_order Greater e = subst (λ n. name_cmp n (name_at nodes m) ≡ Less) (sym entry.named) (flipped nat_list_cmp_total (name_at nodes m) name e)

    module _ (links : List Links) (order : Order) (is : IsOrder links order)
        (inserted : (before after : List ℕ) → in_order old directory ≡ before ++ after → SplitsFrom (λ m. name_cmp (name_at nodes m) name) before after →
        trees.nodes links order ≡ before ++ b ∷ after)
        (one_more : (m : ℕ) → times_in m (trees.nodes links order) ≡ times_in m (b ∷ in_order old directory))
        (others : OtherLinksStay old.links.items links (b ∷ in_order old directory))
        (now : Orders) (links_now : now.links.items ≡ links) (here : order_at now directory ≡ order)
        (elsewhere : (p : Option ℕ) → p ≢ directory → order_at now p
        ≡ order_at old p)
        (long : length now.directories.items ≡ length old.directories.items) where
      split : (before : List ℕ) × (after : List ℕ) × (list ≡ before ++ after) × SplitsFrom side before after
      split = splits_from side list (less_first nodes name list (ordered.rising directory))

      abbrev before : List ℕ
      before = split.0

      abbrev after : List ℕ
      after = split.1

      own_all : All (IsMember nodes (Some b) directory) (before ++ after)
      own_all = subst (All (IsMember nodes (Some b) directory)) split.2 (ordered.own directory)

      rising_now : AllPairs (Rises nodes) (before ++ b ∷ after)
      rising_now = pairs_with (Rises nodes) before b after (subst (AllPairs (Rises nodes)) split.2 (ordered.rising directory))
          (All-weaker (λ m. side m ≡ Less) (λ m. Rises nodes m b) (λ m less. subst (λ n. name_cmp (name_at nodes m) n ≡ Less) (sym entry.named) less) before
          split.3.less)
          (of_times (Rises nodes b) after (λ m some. later m (at_times (IsMember nodes (Some b) directory) after m (All_back_of before after own_all) some)
          (at_times (λ x. side x ≢ Less) after m split.3.rest some)))
        where
          All_back_of : (l r : List ℕ) → All (IsMember nodes (Some b) directory) (l ++ r) → All (IsMember nodes (Some b) directory) r
          All_back_of = All_back (IsMember nodes (Some b) directory)

      now_is : in_order now directory ≡ before ++ b ∷ after
      now_is = (λ i. trees.nodes (links_now i) (here i)) ∙ inserted before after split.2 split.3

      count : (m : ℕ) → times_in m (before ++ b ∷ after) ≡ one b m + times_in m list
      count m = ap (times_in m) (sym (inserted before after split.2 split.3)) ∙ one_more m

      apart : (p : Option ℕ) → p ≢ directory → (m : ℕ) → 1 ≤ times_in m (in_order old p) → times_in m (b ∷ list) ≡ 0
      apart p other m some =
          let differs : b ≢ m = λ e. (member_at nodes old (Some b) ordered p m some).listed (ap Some e) in
          omega (arith, one_other b m differs, apart_directories nodes old (Some b) ordered p directory other m some)

      own_now : All (IsMember nodes None directory) (before ++ b ∷ after)
      own_now = of_times (IsMember nodes None directory) (before ++ b ∷ after) (λ m some. elim (cases_eq b m) [
        | inl e ↦ subst (IsMember nodes None directory) e (record { node = entry.node; there = entry.there; listed = none-some _ })
        | inr other ↦ (let was = member_at nodes old (Some b) ordered directory m (omega (arith, some, count m, one_other b m other)) in
            record { node = was.node; there = was.there; listed = none-some _ })
      ])

      all_now : (c : ℕ) → IsNode nodes c → home nodes c ≡ directory → Contains (before ++ b ∷ after) c
      all_now c node there = times_contains (before ++ b ∷ after) c (elim (cases_eq b c) [
        | inl e ↦ (let one_is : one b c ≡ 1 = subst (λ x. one b x ≡ 1) e (one_self b) in omega (arith, count c, one_is))
        | inr other ↦ (let was = contains_times list c (subst (λ q. Contains (in_order old q) c) there (ordered.all c node (λ e. other (same_Some _ _ e)))) in
            omega (arith, count c, was))
      ])

      pub entered : IsInOrders nodes now None
      entered = one_changed nodes old now (Some b) None directory (before ++ b ∷ after) ordered
          (ap (λ (ls : List Links). length ls) links_now ∙ others.long ∙ ordered.links) (long ∙ ordered.directories)
          (subst (λ (o : Order). IsOrder now.links.items o) (sym here) (subst (λ ls. IsOrder ls order) (sym links_now) is)) now_is
          (other_orders (Some b) ordered links (b ∷ list) others apart now links_now elsewhere)
          own_now (λ p other m member. record { node = member.node; there = member.there; listed = none-some _ }) rising_now
          (λ c node listed there. all_now c node there) (λ c node listed other e. other (subst (λ x. home nodes x ≡ directory) (same_Some _ _ e) entry.there))

  module _ (ordered : IsInOrders nodes old None) (links : List Links) (order : Order) (is : IsOrder links order)
      (removed : (before after : List ℕ) → in_order old directory ≡ before ++ b ∷ after → SplitsFrom (λ m. name_cmp (name_at nodes m) name) before after →
      trees.nodes links order ≡ before ++ after)
      (others : OtherLinksStay old.links.items links (in_order old directory))
      (now : Orders) (links_now : now.links.items ≡ links) (here : order_at now directory ≡ order) (elsewhere : (p : Option ℕ) → p ≢ directory → order_at now p
      ≡ order_at old p)
      (long : length now.directories.items ≡ length old.directories.items) where
    there_now : 1 ≤ times_in b list
    there_now = contains_times list b (subst (λ q. Contains (in_order old q) b) entry.there (ordered.all b entry.node (none-some _)))

    parts : (before : List ℕ) × (after : List ℕ) × (list ≡ before ++ b ∷ after)
    parts = split_at list b there_now

    abbrev front : List ℕ
    front = parts.0

    abbrev back : List ℕ
    back = parts.1

    rising_was : AllPairs (Rises nodes) (front ++ b ∷ back)
    rising_was = subst (AllPairs (Rises nodes)) parts.2 (ordered.rising directory)

    splits : SplitsFrom side front back
    splits = record {
      less = All-weaker (λ m. Rises nodes m b) (λ m. side m ≡ Less) (λ m less. subst (λ n. name_cmp (name_at nodes m) n ≡ Less) entry.named less) front
          (pairs_front (Rises nodes) front b back rising_was);
      rest = All-weaker (Rises nodes b) (λ m. side m ≢ Less)
          (λ m less e. less_greater e (less_back name (name_at nodes m) (subst (λ n. name_cmp n (name_at nodes m) ≡ Less) entry.named less))) back
          (pairs_back (Rises nodes) front b back rising_was);
    }

    gone_is : in_order now directory ≡ front ++ back
    gone_is = (λ i. trees.nodes (links_now i) (here i)) ∙ removed front back parts.2 splits

    counted : (m : ℕ) → times_in m list ≡ one b m + times_in m (front ++ back)
    counted m = ap (times_in m) parts.2 ∙ omega (arith, times_middle m front b back, times_both m front back)
      where
        times_both : (x : ℕ) (l r : List ℕ) → times_in x (l ++ r) ≡ times_in x l + times_in x r
        times_both = times-append

    none_left : times_in b (front ++ back) ≡ 0
    none_left = omega (arith, counted b, one_self b, (ordered.order directory).once b)

    pub left : IsInOrders nodes now (Some b)
    left = one_changed nodes old now None (Some b) directory (front ++ back) ordered
        (ap (λ (ls : List Links). length ls) links_now ∙ others.long ∙ ordered.links) (long ∙ ordered.directories)
        (subst (λ (o : Order). IsOrder now.links.items o) (sym here) (subst (λ ls. IsOrder ls order) (sym links_now) is)) gone_is
        (other_orders None ordered links list others (λ p other m some. apart_directories nodes old None ordered p directory other m some) now links_now
        elsewhere)
        (of_times (IsMember nodes (Some b) directory) (front ++ back) (λ m some.
        (let was = member_at nodes old None ordered directory m (omega (arith, counted m, some)) in
        record {
          node = was.node;
          there = was.there;
          listed = λ e. absurd (let gone = subst (λ x. times_in x (front ++ back) ≡ 0) (same_Some _ _ e) none_left in
              omega (arith, some, gone));
        })))
        (λ p other m member. record {
          node = member.node;
          there = member.there;
          listed = λ e. other (sym member.there ∙ ap (home nodes) (sym (same_Some _ _ e)) ∙ entry.there);
        })
        (pairs_without (Rises nodes) front b back rising_was)
        (λ c node listed there. times_contains (front ++ back) c
        (let was = contains_times list c (subst (λ q. Contains (in_order old q) c) there (ordered.all c node (none-some _))) in
        omega (arith, was, counted c, one_other b c (λ e. listed (ap Some e)))))
        (λ c node listed other e. cc)

-- what was read first
pub same_change : (ls ms new : List Links) (o p : Order) (n b : ℕ) → ls ≡ ms → o ≡ p → n ≡ b → OtherLinksStay ls new (n ∷ trees.nodes ls o) →
    OtherLinksStay ms new (b ∷ trees.nodes ms p)
same_change ls ms new o p n b e f g others =
    subst (λ l. OtherLinksStay l new (b ∷ trees.nodes l p)) e (subst (λ (q : Order). OtherLinksStay ls new (b ∷ trees.nodes ls q)) f
    (subst (λ x. OtherLinksStay ls new (x ∷ trees.nodes ls o)) g others))

pub same_others : (ls ms new : List Links) (o p : Order) → ls ≡ ms → o ≡ p → OtherLinksStay ls new (trees.nodes ls o) → OtherLinksStay ms new (trees.nodes ms p)
same_others ls ms new o p e f others =
    subst (λ l. OtherLinksStay l new (trees.nodes l p)) e (subst (λ (q : Order). OtherLinksStay ls new (trees.nodes ls q)) f others)

-- the index of a node that is there
pub directory_inside : (nodes : Blocks) (orders : Orders) (out directory : Option ℕ) → IsInOrders nodes orders out →
    ((d : ℕ) → directory ≡ Some d → IsNode nodes d) →
    (d : ℕ) → directory ≡ Some d → d < length orders.directories.items
directory_inside nodes orders out directory ordered node d e = omega (arith, live_within nodes d (node d e), ordered.directories)

pub home_node : (nodes : Blocks) → IsTree nodes → (directory : Option ℕ) (name : Name) (b : ℕ) → IsEntry nodes directory name b → (d : ℕ) → directory ≡ Some d →
    IsNode nodes d
home_node nodes tree directory name b entry d e = (tree.homes b d entry.node (entry.there ∙ e)).node
