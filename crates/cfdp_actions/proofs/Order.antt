-- The order of paths, and what is at a path after one change.
--     same_path-refl, same_path-true, ..        the test of two paths
--     node_at-becomes                           after one change of a path
--     get_kept                                  at the paths that pass a test
--     kept_some                                 what is kept passes, and is there
--     still_there                               what is there still is with an entry more
use Rattle.std.proofs.Common.{◌≡◌, refl, sym, ◌∙◌, ap, subst, Bool, true, false, cond, Option, Some, None, Ordering, Equal, is_eq, is_some, true≢false}
use Rattle.std.specs.Cmp.{eq_by_cmp_equiv, Equal-is}
use Rattle.std.specs.FinMap.{get, get-insert, get-remove, retain_keys, get-retain_keys}
use Rattle.cfdp_paths.specs.Paths.{Path, path_cmp, same_path}
use Rattle.cfdp_actions.specs.Filestore.{Node, Filestore, node_at, Becomes, changed}
use Rattle.cfdp_paths.proofs.InOrder.{path_antisym}
use Rattle.cfdp_paths.proofs.Comparing.{path_cmp-total}

pub tied : (r : Ordering) → is_eq r ≡ true → r ≡ Equal
tied r = (Equal-is r).0

pub same_path-true : (p q : Path) → same_path p q ≡ true → p ≡ q
same_path-true p q e = path_antisym p q (tied (path_cmp p q) e)

pub same_path-refl : (p : Path) → same_path p p ≡ true
same_path-refl p = (eq_by_cmp_equiv path_cmp-total).refl p

pub same_path-symm : (p q : Path) → same_path p q ≡ same_path q p
same_path-symm p q = (eq_by_cmp_equiv path_cmp-total).symm p q

pub same_path-is : (p q : Path) → p ≡ q → same_path p q ≡ true
same_path-is p q e = subst (λ x. same_path p x ≡ true) e (same_path-refl p)

-- after one change of p, at q
pub node_at-becomes : (F : Filestore) (p : Path) (node : Option Node) (q : Path) → node_at (changed F (Becomes p node)) q
    ≡ cond (same_path q p) node (node_at F q)
node_at-becomes F p None q = get-remove path_cmp-total F.nodes p q
node_at-becomes F p (Some n) q = get-insert path_cmp-total F.nodes p n q

pub node_at-becomes_apart : (F : Filestore) (p : Path) (node : Option Node) (q : Path) → same_path q p ≡ false → node_at (changed F (Becomes p node)) q
    ≡ node_at F q
node_at-becomes_apart F p node q e = node_at-becomes F p node q ∙ ap (λ b. cond b node (node_at F q)) e

-- what is at the paths that pass a test
pub get_kept : (F : Filestore) (test : Path → Bool) (q : Path) → get (retain_keys F.nodes test) q ≡ cond (test q) (node_at F q) None
get_kept F test q = get-retain_keys F.nodes test q (λ x e. ap test (sym (path_antisym q x e)))

pub kept_some : {X : Type 0} (b : Bool) (x : Option X) → is_some (cond b x None) ≡ true → (b ≡ true) × (is_some x ≡ true)
kept_some true x some = (refl, some)
kept_some false x some = absurd (true≢false (sym some))

pub still_there : {X : Type 0} (b : Bool) (x : X) (o : Option X) → is_some o ≡ true → is_some (cond b (Some x) o) ≡ true
still_there true x o some = refl
still_there false x o some = some
