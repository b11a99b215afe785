-- Words on streams: what a reader still gives and what a writer holds, where this is known.
--
--   KeptOrLost      the octets that a stream shows after a call that failed
--   AppendsOrLost   a writer holds some octets more, or no longer shows what it holds
--   ReadsOff        some octets were read off a reader
--   ReadsAtMost     this many octets, or fewer, were read off it
--   Begins          a text begins with another
--   LostWithin      a writer failed within a text that it was to write
use Rattle.std.specs.Prelude.{◌≡◌, ℕ, ◌≤◌, List, length, Option, Some, None, ◌++◌, ⊤}

-- a failed call left the known octets as they were, or they are no longer known
abbrev pub KeptOrLost : Option (List ℕ) → Option (List ℕ) → Type 0
KeptOrLost None new = ⊤
KeptOrLost (Some old) None = ⊤
KeptOrLost (Some old) (Some new) = new ≡ old

-- the known octets grew by some at their end, or they are no longer known
abbrev pub AppendsOrLost : Option (List ℕ) → Option (List ℕ) → List ℕ → Type 0
AppendsOrLost None new octets = ⊤
AppendsOrLost (Some old) None octets = ⊤
AppendsOrLost (Some old) (Some new) octets = new ≡ old ++ octets

-- a text begins with these octets
abbrev pub Begins : List ℕ → List ℕ → Type 0
Begins text octets = (more : List ℕ) × (text ≡ octets ++ more)

-- these octets are what was read of the known ones, or begin those where the rest is no longer known
abbrev pub ReadsOff : Option (List ℕ) → Option (List ℕ) → List ℕ → Type 0
ReadsOff None new octets = ⊤
ReadsOff (Some old) None octets = Begins old octets
ReadsOff (Some old) (Some new) octets = old ≡ octets ++ new

-- of the known ones; where the rest is no longer known, this many octets or fewer begin them
pub record ReadsAtMost (most : ℕ) (old new : Option (List ℕ)) : Type 0 where
  pub octets : List ℕ
  pub read : ReadsOff old new octets
  pub within : length octets ≤ most

pub record LostWithin (text : List ℕ) (old new : Option (List ℕ)) : Type 0 where
  pub written : List ℕ
  pub begins : Begins text written
  pub appended : AppendsOrLost old new written
