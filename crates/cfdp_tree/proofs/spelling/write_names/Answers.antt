use Rattle.std.proofs.Common.{◌≡◌, ◌≤◌, ℕ, List, [], ◌∷◌, ◌++◌, take, drop, length, length-append, Some, None, refl, sym, ap, ◌∙◌, subst, arith}
use Rattle.std.proofs.lemmas.List.{drop_all, append-nil, take-take}
use Rattle.std.specs.List.{join_with_byte}
use Rattle.cfdp_tree.specs.code.Nodes.{nodes_in}
use Rattle.cfdp_tree.specs.code.NodeFields.{node_fields_of, node_name}
use Rattle.cfdp_tree.specs.code.Directories.{path_at}
use Rattle.cfdp_tree.specs.code.Tree.{home, home_in, name_at, path_of_node}
use Rattle.cfdp_tree.specs.code.Text.{separated_text}
use Rattle.cfdp_tree.proofs.OfNodes.TreeLaws.{node_octets}
use Rattle.cfdp_tree.proofs.OfNodes.ClimbLaws.{path_by_home}
use Rattle.cfdp_tree.proofs.OfWalks.WalkLaws.{few_names}
use Rattle.cfdp_tree.proofs.OfNodes.TextLaws.{text_home, text_whole, path_good}
use Rattle.cfdp_tree.proofs.spelling.write_names.Goals as goal

-- fewer octets are the same, where more are
fewer : (m n : ℕ) (xs ys : List ℕ) → m ≤ n → take n xs ≡ take n ys → take m xs ≡ take m ys
fewer m n xs ys le same = sym (take-take m n xs le) ∙ ap (take m) same ∙ take-take m n ys le

pub loop-parent-init : goal.loop-parent-init
loop-parent-init c =
    let nodes = nodes_in c.args.arena.now in let path = path_of_node nodes c.args.node in let text = c.args.text.now in let octet = c.args.separator in
    record {
      node = c.requires.node;
      room = omega (arith, few_names nodes c.args.node, c.requires.room);
      within = omega arith;
      long = λ _. length text;
      text = ap (λ t. separated_text octet path ++ t) (drop_all (length text) text (omega arith)) ∙ append-nil (separated_text octet path);
      depth = omega arith;
      before = refl;
    }

pub name_in-requires-clause-fits : goal.name_in-requires-clause-fits
name_in-requires-clause-fits c =
    let nodes = nodes_in c.args.arena.now in let b = c.loop-parent.node in
    let same = node_octets c.args.arena.now b c.loop-parent.invariant.node c.bytes-block.result.now c.bytes-block.ensures.octets in
    subst (λ o. (node_fields_of o).name_length ≤ 96) (sym same) (c.requires.tree.named b c.loop-parent.invariant.node).fits

pub put_before-start-requires-clause-room : goal.put_before-start-requires-clause-room
put_before-start-requires-clause-room c =
    let nodes = nodes_in c.args.arena.now in let b = c.loop-parent.node in let node = c.loop-parent.invariant.node in
    let same = node_octets c.args.arena.now b node c.bytes-block.result.now c.bytes-block.ensures.octets in
    let good = path_good nodes c.requires.tree b node in
    omega (arith, c.loop-parent.invariant.room, good.some, (c.requires.tree.named b node).name.short, ap length (c.name_in.ensures ∙ ap node_name same))

pub overflow_add-depth : goal.overflow_add-depth
overflow_add-depth c = omega (arith, c.loop-parent.invariant.depth, few_names (nodes_in c.args.arena.now) c.args.node)

pub loop-parent-smaller : goal.loop-parent-smaller
loop-parent-smaller c =
    let nodes = nodes_in c.args.arena.now in let b = c.loop-parent.node in let node = c.loop-parent.invariant.node in
    let same = node_octets c.args.arena.now b node c.bytes-block.result.now c.bytes-block.ensures.octets in
    let there : home nodes b ≡ Some c.in-Some.parent = ap (home_in b) (sym same) ∙ sym c.in-Some.ensures in
    let way : path_of_node nodes b ≡ path_of_node nodes c.in-Some.parent ++ name_at nodes b ∷ [] = path_by_home nodes c.requires.tree b node
    ∙ ap (λ x. path_at nodes x ++ name_at nodes b ∷ []) there in
    omega (arith, ap length way, length-append (path_of_node nodes c.in-Some.parent) (name_at nodes b ∷ []))

pub put_before-start-requires-in-Some-clause-room : goal.put_before-start-requires-in-Some-clause-room
put_before-start-requires-in-Some-clause-room c =
    let nodes = nodes_in c.args.arena.now in let b = c.loop-parent.node in let node = c.loop-parent.invariant.node in
    let same = node_octets c.args.arena.now b node c.bytes-block.result.now c.bytes-block.ensures.octets in
    let good = path_good nodes c.requires.tree b node in
    let long = ap length (c.name_in.ensures ∙ ap node_name same) in
    omega (arith, c.put_before-start.ensures.start, c.loop-parent.invariant.room, good.some, (c.requires.tree.named b node).name.short, long)

pub loop-parent-preserved : goal.loop-parent-preserved
loop-parent-preserved c =
    let l = c.loop-parent in let nodes = nodes_in c.args.arena.now in let b = l.node in let node = l.invariant.node in let octet = c.args.separator in
    let one = c.put_before-start in let two = c.put_before-start-in-Some in
    let same = node_octets c.args.arena.now b node c.bytes-block.result.now c.bytes-block.ensures.octets in
    let name : c.name_in.result.now ≡ name_at nodes b = c.name_in.ensures ∙ ap node_name same in
    let there : home nodes b ≡ Some c.in-Some.parent = ap (home_in b) (sym same) ∙ sym c.in-Some.ensures in
    let short = (c.requires.tree.named b node).name.short in let above = path_of_node nodes c.in-Some.parent in
    let way : path_of_node nodes b ≡ above ++ name_at nodes b ∷ [] = path_by_home nodes c.requires.tree b node
    ∙ ap (λ x. path_at nodes x ++ name_at nodes b ∷ []) there in
    record {
      node = (c.requires.tree.homes b c.in-Some.parent node there).node;
      room = omega (
        arith,
        ap length way,
        length-append above (name_at nodes b ∷ []),
        l.invariant.room,
        one.ensures.start,
        two.ensures.start,
        ap length name,
        short,
      );
      within = omega (arith, one.ensures.start, one.ensures.length, two.ensures.start, two.ensures.length, l.invariant.within);
      long = two.ensures.length ∙ one.ensures.length ∙ l.invariant.long;
      text = ap (λ t. separated_text octet above ++ t) (two.ensures.text ∙ ap (λ t. octet ∷ t) (one.ensures.text ∙ ap (λ n. n ++ drop l.start l.text) name))
          ∙ sym (text_home octet above (path_of_node nodes b) (name_at nodes b) (drop l.start l.text) way)
          ∙ l.invariant.text;
      depth = omega (arith, l.invariant.depth, ap length way, length-append above (name_at nodes b ∷ []));
      before = two.ensures.before
          ∙ fewer two.result one.result one.new.text l.text (omega (arith, two.ensures.start)) one.ensures.before
          ∙ fewer two.result l.start l.text c.args.text.now (omega (arith, one.ensures.start, two.ensures.start)) l.invariant.before;
    }

pub returns-in-None-clause-text : goal.returns-in-None-clause-text
returns-in-None-clause-text c =
    let l = c.loop-parent in let nodes = nodes_in c.args.arena.now in let b = l.node in let node = l.invariant.node in let octet = c.args.separator in
    let whole = path_of_node nodes c.args.node in
    let same = node_octets c.args.arena.now b node c.bytes-block.result.now c.bytes-block.ensures.octets in
    let name : c.name_in.result.now ≡ name_at nodes b = c.name_in.ensures ∙ ap node_name same in
    let there : home nodes b ≡ None = ap (home_in b) (sym same) ∙ sym c.in-None.ensures in
    let way : path_of_node nodes b ≡ name_at nodes b ∷ [] = path_by_home nodes c.requires.tree b node ∙ ap
    (λ x. path_at nodes x ++ name_at nodes b ∷ []) there in
    let all : octet ∷ (name_at nodes b ++ drop l.start l.text) ≡ octet ∷ join_with_byte octet whole =
    sym (text_home octet [] (path_of_node nodes b) (name_at nodes b) (drop l.start l.text) way)
    ∙ l.invariant.text
    ∙ text_whole octet whole (path_good nodes c.requires.tree c.args.node c.requires.node) in
    c.put_before-start.ensures.text ∙ ap (λ n. n ++ drop l.start l.text) name ∙ ap (λ (t : List ℕ). drop 1 t) all

pub returns-in-None-clause-depth : goal.returns-in-None-clause-depth
returns-in-None-clause-depth c =
    let l = c.loop-parent in let nodes = nodes_in c.args.arena.now in let b = l.node in let node = l.invariant.node in
    let same = node_octets c.args.arena.now b node c.bytes-block.result.now c.bytes-block.ensures.octets in
    let there : home nodes b ≡ None = ap (home_in b) (sym same) ∙ sym c.in-None.ensures in
    let way : path_of_node nodes b ≡ name_at nodes b ∷ [] = path_by_home nodes c.requires.tree b node ∙ ap
    (λ x. path_at nodes x ++ name_at nodes b ∷ []) there in
    omega (arith, l.invariant.depth, ap length way)

pub returns-in-None-clause-before : goal.returns-in-None-clause-before
returns-in-None-clause-before c =
    let l = c.loop-parent in let one = c.put_before-start in
    one.ensures.before ∙ fewer one.result l.start l.text c.args.text.now (omega (arith, one.ensures.start)) l.invariant.before
