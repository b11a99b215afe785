-- What a view says of the filestore that it has seen, said of one of which the items see the same.
--     bare_by                                nothing is below a new name, where the map has nothing there
--     later_peak                             the most blocks, once as many more are there in both
--     tells_sparse, tells_sparse_install     of the next request, and of an install
use Rattle.std.proofs.Common.{◌≡◌, refl, sym, ◌∙◌, ap, subst, Bool, true, false, not, ◌&&◌, is_some, true≢false, ℕ, ◌+◌, max, length, arith}
use Rattle.std.specs.FinMap.{get, entries}
use Rattle.cfdp_paths.specs.Paths.{Path}
use Rattle.cfdp_paths.specs.PathMaps.{any_below}
use Rattle.cfdp_status.specs.declared.status.Status.{Status}
use Rattle.cfdp_actions.specs.Filestore.{Filestore, blocks_of, blocks}
use Rattle.cfdp_actions.specs.Actions.{Request, CreateFile, DeleteFile, RenameFile, AppendFile, ReplaceFile, CreateDirectory, RemoveDirectory, DenyFile, DenyDirectory, Install, Perform, Performed, succeeded}
use Rattle.cfdp_leases.specs.Items.{performed}
use Rattle.cfdp_states.specs.Alone.{alone}
use Rattle.cfdp_states.specs.Views.{Sketch, IsViewOf, Tells, TellsInstall}
use Rattle.cfdp_states.specs.Sparse.{TellsSparse, TellsSparseInstall, passes_after, joins_at}
use Rattle.cfdp_states.specs.Sketching.{extent_in}
use Rattle.cfdp_states.proofs.Sketched.{entries-is}
use Rattle.cfdp_states.proofs.Installing.{staged_more}
use Rattle.cfdp_states.proofs.Leased.{through}
use Rattle.cfdp_states.proofs.SparseRows.{Bare, request_sparse, bound_sparse, install_sparse, install_bound_sparse}

neither : (a b : Bool) → b ≡ false → (a && not b) ≡ false → a ≡ false
neither true true e h = absurd (true≢false e)
neither true false e h = h
neither false b e h = refl

pub bare_by : (v : Sketch) (request : Request) → joins_at v.extents request ≡ false → (G : Filestore) (first most taken : ℕ) → IsViewOf v G first most taken →
    Bare G request
bare_by v (RenameFile p q) h G first most taken t = λ absent.
    sym (entries-is v.extents G (record { found = t.extents }) q)
    ∙ neither (any_below q (entries v.extents)) (is_some (get v.extents q)) (ap is_some (t.extents q ∙ ap extent_in absent)) h
bare_by v (CreateFile p) h G first most taken t = tt
bare_by v (DeleteFile p) h G first most taken t = tt
bare_by v (AppendFile p q) h G first most taken t = tt
bare_by v (ReplaceFile p q) h G first most taken t = tt
bare_by v (CreateDirectory p) h G first most taken t = tt
bare_by v (RemoveDirectory p) h G first most taken t = tt
bare_by v (DenyFile p) h G first most taken t = tt
bare_by v (DenyDirectory p) h G first most taken t = tt

later_peak : (peak most h k first start : ℕ) → peak + first ≡ most + start → h + first ≡ k + start → max peak h + first ≡ max most k + start
later_peak peak most h k first start before now = omega arith

module _ (v w : Sketch) (request : Request) (status : Status) where
  pub tells_sparse : ((G : Filestore) (first most taken : ℕ) → IsViewOf v G first most taken → Bare G request) →
      Tells v w (Perform request) (Performed status) → TellsSparse v w request status
  tells_sparse bare tells items F start peak taken c =
      let G = c.seen in
      let stated = tells G c.first c.most taken c.tells in
      let on = request_sparse c.known c.visible F G c.one v.prefixes request c.moves.0 c.sees.0 (bare G c.first c.most taken c.tells) in
      let bound = bound_sparse c.known c.visible F G c.one request c.sees.0 in
      let H = performed v.prefixes F 0 (Perform request) in
      let K = performed v.prefixes G 0 (Perform request) in (
        stated.0 ∙ sym on.answer,
        λ good.
            let both = on.done (ap succeeded (sym stated.0) ∙ good) in
            let gap = through start c.first (blocks F) (blocks G) (blocks H) (blocks K) c.gap both.blocks in
            record {
              known = λ x. passes_after request c.known x;
              visible = λ x. passes_after request c.visible x;
              seen = K;
              first = c.first;
              most = max c.most (blocks K);
              tells = subst (λ n. IsViewOf w K c.first (max c.most (blocks K)) (taken + (1 + n))) (sym bound) stated.1;
              one = both.one;
              sees = c.sees.1;
              moves = c.moves.1;
              gap = gap;
              peaks = later_peak peak c.most (blocks H) (blocks K) c.first start c.peaks gap;
            },
      )

module _ (v w : Sketch) (p : Path) (size : ℕ) (done : Bool) where
  pub tells_sparse_install : TellsInstall v w p size done → TellsSparseInstall v w p size done
  tells_sparse_install tells items F start peak taken x c long =
      let G = c.seen in
      let stated = tells G c.first c.most taken x c.tells long in
      let on = install_sparse c.known c.visible F G c.one p c.sees.0 x v.prefixes in
      let bound = install_bound_sparse c.known c.visible F G c.one p c.sees.0 x in
      let H = performed v.prefixes (alone F x) 0 (Install p) in
      let K = performed v.prefixes (alone G x) 0 (Install p) in
      let staged_G : blocks (alone G x) ≡ blocks G + blocks_of (length x) = staged_more G x c.tells.staged in
      let staged_F : blocks (alone F x) ≡ blocks F + blocks_of (length x) = staged_more F x (sym c.one.staged ∙ c.tells.staged) in
      let with_file : blocks (alone F x) + c.first ≡ blocks (alone G x) + start = let e = c.gap in omega (arith, e, staged_F, staged_G) in
      let gap = through start c.first (blocks (alone F x)) (blocks (alone G x)) (blocks H) (blocks K) with_file on.both.blocks in (
        stated.0 ∙ sym on.answer,
        λ yes. record {
          known = c.known;
          visible = c.visible;
          seen = K;
          first = c.first;
          most = max c.most (max (blocks (alone G x)) (blocks K));
          tells = subst (λ n. IsViewOf w K c.first (max c.most (max (blocks (alone G x)) (blocks K))) (taken + (1 + n))) (sym bound) (stated.1 yes);
          one = on.both.one;
          sees = c.sees.1;
          moves = c.moves;
          gap = gap;
          peaks = twice peak c.most (blocks (alone F x)) (blocks (alone G x)) (blocks H) (blocks K) c.first start c.peaks with_file gap;
        },
      )
    where
      twice : (peak most f g h k first start : ℕ) → peak + first ≡ most + start → f + first ≡ g + start → h + first ≡ k + start → max peak (max f h) + first
          ≡ max most (max g k) + start
      twice peak most f g h k first start before one two = omega arith
