-- Octets that come, put among those that are staged: at the offsets that were not received yet.
--     IsPut ranges at octets xs ys from    ys is xs with the octets of these offsets, up to `from`
--     PutsOctets                the store stages them in the slot, and nothing else changes
--     kept                      what is kept of a slot after octets came at an offset
use Rattle.std.specs.Prelude.{◌≡◌, ℕ, ◌+◌, ◌≤◌, ◌<◌, IsTrue, IsFalse, List, [], ◌∷◌, length, slice_index}
use Rattle.cfdp_actions.specs.Filestore.{Filestore, staged_in, Stages}
use Rattle.cfdp_actions.specs.Store.{Store, with_changes}
use Rattle.cfdp_transactions.specs.Received.{Received, kept_with}
use Rattle.cfdp_transactions.specs.Pieces.{Ranges, is_in, received_in}

pub record IsPut (ranges : Ranges) (at : ℕ) (octets xs ys : List ℕ) (from : ℕ) : Type 0 where
  pub long : length ys ≡ length xs
  pub kept : (i : ℕ) → i < length xs → IsTrue (is_in i ranges) → slice_index ys i ≡ slice_index xs i
  pub before : (i : ℕ) → i < at → i < length xs → slice_index ys i ≡ slice_index xs i
  pub following : (i : ℕ) → from ≤ i → i < length xs → slice_index ys i ≡ slice_index xs i
  pub written : (j : ℕ) → j < length octets → at + j < from → IsFalse (is_in (at + j) ranges) → slice_index ys (at + j)
      ≡ slice_index octets j

pub record PutsOctets (ranges : Ranges) (at : ℕ) (octets : List ℕ) (slot : ℕ) (s t : Store) (from : ℕ) : Type 0 where
  pub store : t ≡ with_changes s (Stages slot (staged_in t.filestore slot) ∷ [])
  pub put : IsPut ranges at octets (staged_in s.filestore slot) (staged_in t.filestore slot) from

abbrev pub kept : Filestore → ℕ → Ranges → ℕ → List ℕ → Received
kept F slot ranges at octets = kept_with (received_in ranges (staged_in F slot)) at octets
