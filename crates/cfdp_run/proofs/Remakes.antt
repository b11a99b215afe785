-- A filestore that is read out in path order, and put into another entity.
use Rattle.std.proofs.Common.{◌≡◌, ℕ, suc, ◌+◌, ◌<◌, ◌≤◌, List, [], ◌∷◌, length, drop, get_or, ap, sym, ◌∙◌, subst, arith}
use Rattle.std.proofs.Math.Seq.{drop-cons}
use Rattle.std.proofs.lemmas.List.{get_or-map, drop_all, length-map}
use Rattle.std.specs.Prelude.{Some, replicate}
use Rattle.std.specs.FinMap as finite
use Rattle.cfdp_paths.specs.Paths.{Path}
use Rattle.cfdp_actions.specs.Filestore.{Node, Directory, Filestore, node_at}
use Rattle.cfdp_actions.specs.Store.{listing_entry, listing_of}
use Rattle.cfdp_actions.specs.declared.kind.Entry.{Entry}
use Rattle.cfdp_transactions.specs.Beginning.{start_with, with_node}
use Rattle.cfdp_transactions.specs.Config.{Config}
use Rattle.cfdp_transactions.specs.Restart.{put_all, CanPutAll, PutBackIsSame}
use Rattle.cfdp_transactions.specs.Sound.{Sound}
use Rattle.cfdp_transactions.specs.World.{World, start}
use Rattle.cfdp_transactions.specs.Entry.{Entry as TableEntry}
use Rattle.cfdp_transactions.proofs.Beginnings.PutBack.{each_of}
use Rattle.cfdp_run.specs.code.Reconfigured.{CanCopy}
use Rattle.cfdp_run.proofs.Puts.{put_all-config, can_put_all-config}
use Rattle.cfdp_uploads.proofs.Found.{each_at}

abbrev pub nodes_of : Filestore → List (Path × Node)
nodes_of F = finite.entries F.nodes

-- what is left of some directories and files can be put, and leads to a world
pub record Leaves (W : World) (es : List (Path × Node)) (end : World) : Type 0 where
  pub can : CanPutAll W es
  pub leads : put_all W es ≡ end

pub leaves_all : (W : World) (c : Config) → Sound W → PutBackIsSame → W.table ≡ [] → W.filestore.staged ≡ replicate 64 [] → c.blocks ≡ W.config.blocks →
    Leaves (start c) (nodes_of W.filestore) (record W { config = c })
leaves_all W c sound back idle staged same =
    let es = nodes_of W.filestore in
    let put = back W sound in
    let plain : put_all (start W.config) es ≡ start_with W.config (record W.filestore { staged = replicate 64 [] }) = put.1 in
    record {
      can = can_put_all-config (start W.config) c es same put.0;
      leads =
          put_all-config (start W.config) c es
          ∙ ap (λ (V : World). record V { config = c }) plain
          ∙ ap (λ (lists : List (List ℕ)). start_with c (record W.filestore { staged = lists })) (sym staged)
          ∙ ap (λ (table : List TableEntry). record { config = c; filestore = W.filestore; table = table }) (sym idle);
    }

pub leaves_none : (W end : World) (es : List (Path × Node)) → es ≡ [] → Leaves W es end → W ≡ end
leaves_none W end es none left = ap (put_all W) (sym none) ∙ left.leads

pub leaves_next : (W V : World) (e : Path × Node) (es : List (Path × Node)) (end : World) → Leaves W (e ∷ es) end → V ≡ with_node W e.0 e.1 → Leaves V es end
leaves_next W V e es end left put = subst (λ (U : World). Leaves U es end) (sym put) (record { can = left.can.1; leads = left.leads })

-- ---- what is listed

-- the entry at an index, and what there is at its path
pub record IsListed (F : Filestore) (i : ℕ) (entry : Entry) : Type 0 where
  pub node : Node
  pub cut : drop i (nodes_of F) ≡ (entry.path, node) ∷ drop (i + 1) (nodes_of F)
  pub is : entry ≡ listing_entry (entry.path, node)
  pub there : node_at F entry.path ≡ Some node

listed_at : (F : Filestore) (i : ℕ) (entry : Entry) → entry ≡ get_or (listing_of F) i entry → i < length (listing_of F) → IsListed F i entry
listed_at F i entry is within =
    let es = nodes_of F in
    let none : Path × Node = ([], Directory) in
    let e : Path × Node = get_or es i none in
    let lt : i < length es = omega (arith, within, length-map es listing_entry) in
    let same : entry ≡ listing_entry e = is ∙ get_or-map listing_entry es i none entry lt in
    let path : entry.path ≡ e.0 = ap (λ (x : Entry). x.path) same in
    let next : suc i ≡ i + 1 = omega arith in
    record {
      node = e.1;
      cut = drop-cons es i none lt ∙ ap (λ (p : Path). (p, e.1) ∷ drop (suc i) es) (sym path) ∙ ap (λ (k : ℕ). (entry.path, e.1) ∷ drop k es) next;
      is = same ∙ ap (λ (p : Path). listing_entry (p, e.1)) (sym path);
      there = ap (node_at F) path ∙ each_at (λ (x : Path × Node). node_at F x.0 ≡ Some x.1) es i none (each_of F) lt;
    }

pub listed_in : (F : Filestore) (xs : List Entry) (i : ℕ) (entry : Entry) → xs ≡ listing_of F → entry ≡ get_or xs i entry → i < length xs → IsListed F i entry
listed_in F xs i entry all is within =
    listed_at F i entry (is ∙ ap (λ (ys : List Entry). get_or ys i entry) all) (subst (λ (ys : List Entry). i < length ys) all within)

pub copies : (F : Filestore) (i : ℕ) (entry : Entry) (W end : World) → IsListed F i entry → Leaves W (drop i (nodes_of F)) end → CanCopy F entry W
copies F i entry W end listed left =
    let now : Leaves W ((entry.path, listed.node) ∷ drop (i + 1) (nodes_of F)) end = subst (λ (es : List (Path × Node)). Leaves W es end) listed.cut left in
    record { node = listed.node; there = listed.there; is = listed.is; can = now.can.0 }

pub copied : (F : Filestore) (i : ℕ) (entry : Entry) (W V end : World) → IsListed F i entry → Leaves W (drop i (nodes_of F)) end →
    ((node : Node) → node_at F entry.path ≡ Some node → V ≡ with_node W entry.path node) → Leaves V (drop (i + 1) (nodes_of F)) end
copied F i entry W V end listed left put =
    let now : Leaves W ((entry.path, listed.node) ∷ drop (i + 1) (nodes_of F)) end = subst (λ (es : List (Path × Node)). Leaves W es end) listed.cut left in
    leaves_next W V (entry.path, listed.node) (drop (i + 1) (nodes_of F)) end now (put listed.node listed.there)

pub all_copied : (F : Filestore) (xs : List Entry) (i : ℕ) (W end : World) → xs ≡ listing_of F → length xs ≤ i → Leaves W (drop i (nodes_of F)) end → W ≡ end
all_copied F xs i W end all done left =
    leaves_none W end (drop i (nodes_of F)) (drop_all i (nodes_of F) (omega (arith, done, ap length all, length-map (nodes_of F) listing_entry))) left
