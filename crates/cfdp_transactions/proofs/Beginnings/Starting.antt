-- A new entity is sound, also over a filestore that has directories and files already.
--     empty_good            the empty filestore is one to begin with
--     good_sound            an entity over such a filestore is sound
--     start_sound           and so is one over the empty filestore
use Rattle.std.proofs.Common.{◌≡◌, ℕ, zero, suc, ◌+◌, List, [], length, get_or, refl, ap, sym, ◌∙◌, arith}
use Rattle.std.proofs.lemmas.Bool.{true≢false}
use Rattle.std.specs.Prelude.{None, is_some, replicate, sum_by}
use Rattle.std.specs.FinMap as finite
use Rattle.std.proofs.lemmas.List.Folds.{sum_by-replicate}
use Rattle.std.proofs.lemmas.List.{nil_from_length}
use Rattle.cfdp_paths.specs.Paths.{Path, path_cmp}
use Rattle.cfdp_actions.specs.Filestore.{Node, Filestore, node_at, empty_filestore, blocks_of, weights, blocks}
use Rattle.cfdp_actions.proofs.Growth.{blocks_of-zero}
use Rattle.cfdp_leases.specs.Laws.{KeysArePaths}
use Rattle.cfdp_transactions.specs.Config.{Config}
use Rattle.cfdp_transactions.specs.World.{start}
use Rattle.cfdp_transactions.specs.Sound.{Sound}
use Rattle.cfdp_transactions.specs.Beginning.{start_with, IsGoodStart}

none_staged : (n i : ℕ) → get_or {A = List ℕ} (replicate n []) i [] ≡ []
none_staged zero i = refl
none_staged (suc n) zero = refl
none_staged (suc n) (suc i) = none_staged n i

pub no_entries : finite.entries (finite.empty {X = Node} {R = path_cmp}) ≡ []
no_entries = nil_from_length _ (sym (finite.len-entries finite.empty) ∙ finite.len-empty path_cmp Node)

no_blocks : (es : List (Path × Node)) (n : ℕ) → es ≡ [] → weights es + sum_by (λ (octets : List ℕ). blocks_of (length octets)) (replicate n []) ≡ 0
no_blocks es n none = rw (none, sum_by-replicate (λ (octets : List ℕ). blocks_of (length octets)) n [], blocks_of-zero) (omega arith)

pub blocks-empty : blocks empty_filestore ≡ 0
unfolding blocks
blocks-empty = no_blocks (finite.entries (finite.empty {X = Node} {R = path_cmp})) 64 no_entries

pub nowhere : (p : Path) → node_at empty_filestore p ≡ None
nowhere p = finite.get-empty path_cmp p

nothing_keyed : KeysArePaths empty_filestore
nothing_keyed p there = absurd (true≢false (sym there ∙ ap is_some (nowhere p)))

pub empty_good : (c : Config) → IsGoodStart c empty_filestore
empty_good c = record {
  rooted = λ p some. absurd (let none = nowhere p in cc);
  paths = nothing_keyed;
  staged = refl;
  fits = rw blocks-empty (omega arith);
}

pub good_sound : (c : Config) (F : Filestore) → IsGoodStart c F → Sound (start_with c F)
good_sound c F good = record {
  covered = λ k e at. absurd cc;
  live = λ k e at. absurd cc;
  apart = λ j k d e at. absurd cc;
  honest = λ k e at. absurd cc;
  names = λ j k d e at. absurd cc;
  few = omega arith;
  slots = ap length good.staged;
  vacant = λ slot _. ap (λ (staged : List (List ℕ)). get_or staged slot []) good.staged ∙ none_staged 64 slot;
  rooted = good.rooted;
  room = omega (arith, good.fits);
  given = λ k e at. absurd cc;
}

pub start_sound : (c : Config) → Sound (start c)
start_sound c = good_sound c empty_filestore (empty_good c)
