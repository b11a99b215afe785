-- Several directories and files that are put, one after the other: what stays as it was, and that the missing parents of a path can be
-- put, and then what is put there.
use Rattle.std.proofs.Common.{◌≡◌, ◌≢◌, ℕ, suc, ◌+◌, ◌-◌, ◌<◌, ◌≤◌, Bool, true, false, cond, List, [], ◌∷◌, length, map, inl, inr, refl, ap, sym, ◌∙◌, subst, arith}
use Rattle.std.specs.Prelude.{Option, Some, None, is_some, is_none, not, ◌==◌, if◌then◌else◌}
use Rattle.std.specs.List.{filter, list_any}
use Rattle.std.proofs.lemmas.Bool.{cases_Bool, lt-ltb, le-ltb, or_parts}
use Rattle.cfdp_paths.specs.Paths.{Name, Path, IsPath, same_path, parent, ancestors}
use Rattle.cfdp_paths.proofs.Comparing.{same_path-Decides}
use Rattle.cfdp_actions.specs.Filestore.{Node, Directory, File, Filestore, node_at, weight, blocks, Becomes, changed, is_directory, is_file, is_good, parent_is_good}
use Rattle.cfdp_actions.specs.Store.{Store, free_blocks}
use Rattle.cfdp_leases.proofs.ChangeFrame.{node_at-changed}
use Rattle.cfdp_transactions.specs.Beginning.{with_node, put_fault, filestore_fault}
use Rattle.cfdp_transactions.specs.declared.putting.NotPut.TheVariants.{HasTransactions}
use Rattle.cfdp_transactions.specs.Config.{Config}
use Rattle.cfdp_transactions.specs.Restart.{put_all, CanPutAll}
use Rattle.cfdp_transactions.specs.World.{World, free}
use Rattle.cfdp_transactions.proofs.Beginnings.PutThere.{no_fault, grown}
use Rattle.cfdp_transactions.proofs.Options.{none_of, passed_over}
use Rattle.cfdp_run.specs.Putting.{missing, as_directory, is_below_file, needed, with_put, path_wrong, room_wrong}
use Rattle.cfdp_run.specs.declared.wrong.Wrong.TheVariants.{Taken, ParentIsFile, NoRoom}
use Rattle.cfdp_actions.proofs.Order.{same_path-refl}

-- ---- what stays

pub put_all-config : (W : World) (c : Config) (es : List (Path × Node)) → put_all (record W { config = c }) es ≡ record (put_all W es) { config = c }
put_all-config W c [] = refl
put_all-config W c (e ∷ es) = put_all-config (with_node W e.0 e.1) c es

pub put_all-same : (W : World) (es : List (Path × Node)) → (put_all W es).config ≡ W.config
put_all-same W [] = refl
put_all-same W (e ∷ es) = put_all-same (with_node W e.0 e.1) es

pub put_all-table : (W : World) (es : List (Path × Node)) → (put_all W es).table ≡ W.table
put_all-table W [] = refl
put_all-table W (e ∷ es) = put_all-table (with_node W e.0 e.1) es

pub put_all-staged : (W : World) (es : List (Path × Node)) → (put_all W es).filestore.staged ≡ W.filestore.staged
put_all-staged W [] = refl
put_all-staged W (e ∷ es) = put_all-staged (with_node W e.0 e.1) es

put_fault-config : (W : World) (c : Config) (p : Path) (node : Node) → c.blocks ≡ W.config.blocks → put_fault (record W { config = c }) p node
    ≡ put_fault W p node
put_fault-config W c p node e =
    ap (λ (b : ℕ). if not (length W.table == 0) then Some HasTransactions else filestore_fault W.filestore (b - blocks W.filestore) p node) e

pub can_put_all-config : (W : World) (c : Config) (es : List (Path × Node)) → c.blocks ≡ W.config.blocks → CanPutAll W es →
    CanPutAll (record W { config = c }) es
can_put_all-config W c [] e can = can
can_put_all-config W c (f ∷ es) e can = (put_fault-config W c f.0 f.1 e ∙ can.0, can_put_all-config (with_node W f.0 f.1) c es e can.1)

pub with_put-config : (W : World) (c : Config) (p : Path) (node : Node) → with_put (record W { config = c }) p node ≡ record (with_put W p node) { config = c }
with_put-config W c p node = ap (λ (V : World). with_node V p node) (put_all-config W c (map as_directory (missing W.filestore p)))

-- ---- a path, and its parents

record IsNext (q p : Path) : Type 0 where
  pub above : parent p ≡ q
  pub longer : length p ≡ suc (length q)

-- each path is the parent of the next
Chain : Path → List Path → Path → Type 0
Chain q [] p = IsNext q p
Chain q (a ∷ ps) p = IsNext q a × Chain a ps p

next_under : (n : Name) (q p : Path) → IsNext q p → IsNext (n ∷ q) (n ∷ p)
next_under n q [] next = absurd (omega (arith, next.longer))
next_under n q (m ∷ p) next = record { above = ap (λ (x : Path). n ∷ x) next.above; longer = ap suc next.longer }

chain_under : (n : Name) (q : Path) (ps : List Path) (p : Path) → Chain q ps p → Chain (n ∷ q) (map (λ x. n ∷ x) ps) (n ∷ p)
unfolding Chain
chain_under n q [] p chain = next_under n q p chain
chain_under n q (a ∷ ps) p chain = (next_under n q a chain.0, chain_under n a ps p chain.1)

chain_of : (n : Name) (p : Path) → Chain [] (ancestors (n ∷ p)) (n ∷ p)
unfolding Chain
chain_of n [] = record { above = refl; longer = refl }
chain_of n (m ∷ p) = (record { above = refl; longer = refl }, chain_under n [] (ancestors (m ∷ p)) (m ∷ p) (chain_of m p))

-- ---- they can be put

pub record Puts (W : World) (paths : List Path) (p : Path) (node : Node) : Type 0 where
  pub can : CanPutAll W (map as_directory paths)
  pub last : put_fault (put_all W (map as_directory paths)) p node ≡ None

good_directory : (F : Filestore) (a : Path) → node_at F a ≡ Some Directory → is_good F a ≡ true
good_directory F [] e = refl
good_directory F (n ∷ a) e = ap is_directory e

good_parent : (F : Filestore) (q p : Path) → IsNext q p → is_good F q ≡ true → parent_is_good F p ≡ true
good_parent F q [] next good = absurd (omega (arith, next.longer))
good_parent F q (n ∷ p) next good = ap (is_good F) next.above ∙ good

apart : (x a : Path) → length a < length x → same_path x a ≡ false
apart x a longer =
    elim (cases_Bool (same_path x a)) [
      | inl tie ↦ absurd (omega (arith, longer, ap length ((same_path-Decides x a).0 tie)))
      | inr other ↦ other
    ]

there : (F : Filestore) (a : Path) → node_at (changed F (Becomes a (Some Directory))) a ≡ Some Directory
there F a = node_at-changed F (Becomes a (Some Directory)) a ∙ ap (λ b. cond b (Some Directory) (node_at F a)) (same_path-refl a)

elsewhere : (F : Filestore) (a x : Path) → length a < length x → node_at (changed F (Becomes a (Some Directory))) x ≡ node_at F x
elsewhere F a x longer = node_at-changed F (Becomes a (Some Directory)) x ∙ ap (λ b. cond b (Some Directory) (node_at F x)) (apart x a longer)

module _ (F : Filestore) (p : Path) (node : Node) (absent : node_at F p ≡ None) where
  abbrev is_missing : Path → Bool
  is_missing x = is_none (node_at F x)

  -- the paths that are longer are as in F
  abbrev IsBegun : World → Path → Type 0
  IsBegun W q = (x : Path) → length q < length x → node_at W.filestore x ≡ node_at F x

  puts_by : (o : Option Node) (W : World) (q a : Path) (ps : List Path) → node_at F a ≡ o → is_file o ≡ false → W.table ≡ [] → is_good W.filestore q ≡ true →
      IsBegun W q →
      IsNext q a → length (filter is_missing (a ∷ ps)) + weight (Some node) ≤ free W →
      ((V : World) → V.table ≡ [] → is_good V.filestore a ≡ true → IsBegun V a → length (filter is_missing ps) + weight (Some node) ≤ free V →
      Puts V (filter is_missing ps) p node) →
      Puts W (filter is_missing (a ∷ ps)) p node
  puts_by None W q a ps at no_file idle good begun next room later =
      let listed : filter is_missing (a ∷ ps) ≡ a ∷ filter is_missing ps = rw at refl in
      let absent_now : node_at W.filestore a ≡ None = begun a (omega (arith, next.longer)) ∙ at in
      let roomy : suc (length (filter is_missing ps)) + weight (Some node) ≤ free W = omega (arith, ap length listed, room) in
      let first : put_fault W a Directory ≡ None = no_fault W a Directory (record {
        idle = idle;
        absent = absent_now;
        parent = good_parent W.filestore q a next good;
        room = omega (arith, roomy);
      }) in
      let V = with_node W a Directory in
      let rest : Puts V (filter is_missing ps) p node =
      later V idle (good_directory V.filestore a (there W.filestore a))
      (λ x longer. elsewhere W.filestore a x longer ∙ begun x (omega (arith, longer, next.longer)))
      (omega (arith, grown W.filestore a Directory absent_now, roomy)) in
      subst (λ (paths : List Path). Puts W paths p node) (sym listed) (record { can = (first, rest.can); last = rest.last })
  puts_by (Some Directory) W q a ps at no_file idle good begun next room later =
      let listed : filter is_missing (a ∷ ps) ≡ filter is_missing ps = rw at refl in
      let there_now : node_at W.filestore a ≡ Some Directory = begun a (omega (arith, next.longer)) ∙ at in
      subst (λ (paths : List Path). Puts W paths p node) (sym listed)
      (later W idle (good_directory W.filestore a there_now) (λ x longer. begun x (omega (arith, longer, next.longer))) (omega (arith, ap length listed, room)))
  puts_by (Some (File octets)) W q a ps at no_file idle good begun next room later = absurd (let none : true ≡ false = no_file in cc)

  puts_from : (ps : List Path) (W : World) (q : Path) → Chain q ps p → list_any (λ x. is_file (node_at F x)) ps ≡ false → W.table ≡ [] → is_good W.filestore q
      ≡ true → IsBegun W q →
      length (filter is_missing ps) + weight (Some node) ≤ free W → Puts W (filter is_missing ps) p node
  unfolding Chain
  puts_from [] W q chain none idle good begun room = record {
    can = tt;
    last = no_fault W p node (record {
      idle = idle;
      absent = begun p (omega (arith, chain.longer)) ∙ absent;
      parent = good_parent W.filestore q p chain good;
      room = omega (arith, room);
    });
  }
  puts_from (a ∷ ps) W q chain none idle good begun room =
      let parts = or_parts (is_file (node_at F a)) (list_any (λ x. is_file (node_at F x)) ps) none in
      puts_by (node_at F a) W q a ps refl parts.0 idle good begun chain.0 room
      (λ V idle good begun room. puts_from ps V a chain.1 parts.1 idle good begun room)

-- the missing parents of a path, and what is put at it
pub puts : (W : World) (p : Path) (node : Node) → p ≢ [] → W.table ≡ [] → node_at W.filestore p ≡ None → is_below_file W.filestore p ≡ false →
    needed W.filestore p node ≤ free W → Puts W (missing W.filestore p) p node
puts W [] node some idle absent none room = absurd (some refl)
puts W (n ∷ p) node some idle absent none room =
    puts_from W.filestore (n ∷ p) node absent (ancestors (n ∷ p)) W [] (chain_of n p) none idle refl (λ x longer. refl) room

-- ---- calls

some_path : (p : Path) → IsPath p → p ≢ []
some_path [] path = absurd (omega (arith, path.some))
some_path (n ∷ p) path = λ e. cc

-- there is room, and nothing is in the way
pub puts_at : (W : World) (p : Path) (node : Node) → IsPath p → W.table ≡ [] → path_wrong W.filestore p ≡ None → needed W.filestore p node ≤ free W →
    Puts W (missing W.filestore p) p node
puts_at W p node path idle vacant room =
    let one = passed_over (is_some (node_at W.filestore p)) Taken _ vacant in
    let two = passed_over (is_below_file W.filestore p) ParentIsFile None one.1 in
    puts W p node (some_path p path) idle (none_of (node_at W.filestore p) one.0) two.0 room

pub no_room : (W : World) (p : Path) (node : Node) → free W < needed W.filestore p node → room_wrong W p node ≡ Some NoRoom
no_room W p node little = ap (λ b. if b then Some NoRoom else None) (lt-ltb (free W) (needed W.filestore p node) little)

pub has_room : (W : World) (p : Path) (node : Node) → needed W.filestore p node ≤ free W → room_wrong W p node ≡ None
has_room W p node enough = ap (λ b. if b then Some NoRoom else None) (le-ltb (free W) (needed W.filestore p node) enough)

-- the blocks of a store are those of its entity
pub free_in : (V W : World) (s : Store) (n : ℕ) → V ≡ W → s.filestore ≡ V.filestore → s.capacity ≡ V.config.blocks → n ≡ free_blocks s → n ≡ free W
free_in V W s n of same most is = (let first : n ≡ free V = omega (arith, is, most, ap blocks same) in first ∙ ap free of)
