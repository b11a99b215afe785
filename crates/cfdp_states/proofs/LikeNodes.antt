-- Two nodes that are alike, as `AreAlike` has it.
--     Like, like, alike      the same, by cases
--     like-itself            a node and itself
--     like-is_some, like-is_directory, like-weight, like-content, like-none      what is the same of both
use Rattle.std.proofs.Common.{◌≡◌, refl, ap, is_some, Option, Some, None, ℕ, ◌+◌, List, length, true≢false}
use Rattle.cfdp_actions.specs.Filestore.{Node, Directory, File, blocks_of, weight, is_directory}
use Rattle.cfdp_leases.specs.Items.{content}
use Rattle.cfdp_states.specs.Sparse.{AreAlike}

pub data Like : Option Node → Option Node → Type 0 where
  nothing : Like None None
  folder : Like (Some Directory) (Some Directory)
  file : {xs ys : List ℕ} → length xs ≡ length ys → Like (Some (File xs)) (Some (File ys))

pub like : (a b : Option Node) → AreAlike a b → Like a b
like None None h = nothing
like None (Some node) h = absurd h
like (Some node) None h = absurd h
like (Some Directory) (Some Directory) h = folder
like (Some Directory) (Some (File ys)) h = absurd h
like (Some (File xs)) (Some Directory) h = absurd h
like (Some (File xs)) (Some (File ys)) h = file h

pub alike : {a b : Option Node} → Like a b → AreAlike a b
alike nothing = tt
alike folder = tt
alike (file e) = e

pub like-itself : (a : Option Node) → Like a a
like-itself None = nothing
like-itself (Some Directory) = folder
like-itself (Some (File xs)) = file refl

pub like-is_some : {a b : Option Node} → Like a b → is_some a ≡ is_some b
like-is_some nothing = refl
like-is_some folder = refl
like-is_some (file e) = refl

pub like-is_directory : {a b : Option Node} → Like a b → is_directory a ≡ is_directory b
like-is_directory nothing = refl
like-is_directory folder = refl
like-is_directory (file e) = refl

pub like-weight : {a b : Option Node} → Like a b → weight a ≡ weight b
like-weight nothing = refl
like-weight folder = refl
like-weight (file e) = ap (λ n. 1 + blocks_of n) e

pub like-content : {a b : Option Node} → Like a b → content a ≡ content b
like-content nothing = refl
like-content folder = refl
like-content (file e) = ap blocks_of e

pub like-none : {a b : Option Node} → Like a b → b ≡ None → a ≡ None
like-none nothing e = refl
like-none folder e = absurd (true≢false (ap is_some e))
like-none (file l) e = absurd (true≢false (ap is_some e))
