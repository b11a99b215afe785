-- What only the proofs of the code need of `PathMaps`.
--     rank p es             how many entries are before p
--     spread p es           how many entries at the front are at or below p
--     IsIndexOf p es index   the entry of p is at the index
--     IsPieceOf p es start end    what is at and below p goes from start up to end
--     with_paths paths es   the entries at other paths
use Rattle.std.specs.Prelude.{◌≡◌, ℕ, ◌+◌, ◌<◌, ◌≤◌, drop, slice_index_or, List, [], ◌∷◌, length}
use Rattle.std.specs.List.{prefix_len}
use Rattle.std.specs.Ordering.{is_lt}
use Rattle.cfdp_paths.specs.Paths.{Path, path_cmp, is_at_or_below}

abbrev pub rank : {X : Type 0} → Path → List (Path × X) → ℕ
rank p es = prefix_len (λ e. is_lt (path_cmp e.0 p)) es

abbrev pub spread : {X : Type 0} → Path → List (Path × X) → ℕ
spread p es = prefix_len (λ e. is_at_or_below e.0 p) es

-- the index of the entry of p
pub record IsIndexOf {X : Type 0} (p : Path) (es : List (Path × X)) (index : ℕ) : Type 0 where
  pub first : index ≡ rank p es
  pub within : index < length es
  pub path : (d : Path × X) → (slice_index_or es index d).0 ≡ p

-- what is at and below p
pub record IsPieceOf {X : Type 0} (p : Path) (es : List (Path × X)) (start end : ℕ) : Type 0 where
  pub begins : start ≡ rank p es
  pub ends : end ≡ start + spread p (drop start es)
  pub within : end ≤ length es

-- the entries at other paths
abbrev pub with_paths : {X : Type 0} → List Path → List (Path × X) → List (Path × X)
with_paths [] es = []
with_paths (p ∷ paths) [] = []
with_paths (p ∷ paths) (e ∷ es) = (p, e.1) ∷ with_paths paths es
