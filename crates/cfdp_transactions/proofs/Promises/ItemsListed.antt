-- What the items of a list are: the install first, where there is a file, and after it requests alone. Each names paths.
--     has_install items         one of them is an install
--     IsListed file items       the items of a list, with a file or without
--     install_at_front          an install is among them exactly where it is the first
--     granted_listed            what is granted is so
use Rattle.std.proofs.Common.{◌≡◌, ℕ, ◌+◌, List, [], ◌∷◌, refl, subst}
use Rattle.std.specs.Prelude.{⊤, Bool, true, false, ◌||◌, if◌then◌else◌, Option, Some, None, drop}
use Rattle.std.specs.List.{AllByRecursion}
use Rattle.std.proofs.lemmas.Bool.{or_parts}
use Rattle.cfdp_status.specs.declared.action.Action.{Action}
use Rattle.cfdp_status.specs.declared.action.Action.TheVariants as action
use Rattle.cfdp_status.specs.declared.transaction.TransactionId.{TransactionId}
use Rattle.cfdp_paths.specs.Paths.{Path, IsPath, path_of}
use Rattle.cfdp_paths.proofs.Spelling.{spelled_from_path_of}
use Rattle.cfdp_actions.specs.Filestore.{Filestore}
use Rattle.cfdp_actions.specs.Actions.{Item, Install, Perform, Request}
use Rattle.cfdp_leases.specs.Footprint.{Footprint}
use Rattle.cfdp_leases.specs.Laws.{NamesPaths}
use Rattle.cfdp_tlv.specs.Values.{RequestFields}
use Rattle.cfdp_pdus.specs.Values.{MetadataFields}
use Rattle.cfdp_verifier.specs.Verdict.{Grant, Parsed, Bad, Good, named, request_named, request_by, and_then_parsed, parsed_from, with_file, with_destination, verdict}
use Rattle.cfdp_transactions.specs.Config.{Config}
use Rattle.cfdp_transactions.specs.Entry.{has_file}
use Rattle.cfdp_transactions.specs.Admission.{proposal_of}
use Rattle.cfdp_transactions.specs.Execution.{is_install}
use Rattle.cfdp_transactions.specs.Sound.{is_next_install}
use Rattle.cfdp_transactions.proofs.Soundness.Parsing.{granted_parsed}
use Rattle.cfdp_states.proofs.SparseSurveys.{or_none}

abbrev pub has_install : List Item → Bool
has_install [] = false
has_install (item ∷ items) = is_install item || has_install items

pub record IsListed (file : Bool) (items : List Item) : Type 0 where
  pub paths : AllByRecursion NamesPaths items
  pub first : is_next_install items ≡ file
  pub following : has_install (drop 1 items) ≡ false

pub first_is : (item : Item) (items : List Item) → is_next_install (item ∷ items) ≡ is_install item
first_is (Install p) items = refl
first_is (Perform request) items = refl

pub install_at_front : (items : List Item) → has_install (drop 1 items) ≡ false → has_install items ≡ is_next_install items
install_at_front [] none = refl
install_at_front (item ∷ items) none = rw (first_is item items) (or_none (is_install item) (has_install items) none)

-- names ------------------------------------------------------------------------------

abbrev IsOptionalPath : Option Path → Type 0
IsOptionalPath None = ⊤
IsOptionalPath (Some p) = IsPath p

path_of_path : (octets : List ℕ) (o : Option Path) → path_of octets ≡ o → IsOptionalPath o
path_of_path octets None is = tt
path_of_path octets (Some p) is = (spelled_from_path_of octets p is).0

named_path : (name : Option (List ℕ)) → IsOptionalPath (named name)
named_path None = tt
named_path (Some octets) = path_of_path octets (path_of octets) refl

-- requests ---------------------------------------------------------------------------

abbrev OfPaths : Option Request → Type 0
OfPaths None = ⊤
OfPaths (Some r) = NamesPaths (Perform r)

of_paths : (a : Action) (p q : Option Path) → IsOptionalPath p → IsOptionalPath q → OfPaths (request_named a p q)
of_paths action.CreateFile None q v w = tt
of_paths action.CreateFile (Some p) q v w = (v, tt)
of_paths action.DeleteFile None q v w = tt
of_paths action.DeleteFile (Some p) q v w = (v, tt)
of_paths action.RenameFile None q v w = tt
of_paths action.RenameFile (Some p) None v w = tt
of_paths action.RenameFile (Some p) (Some q) v w = (v, (w, tt))
of_paths action.AppendFile None q v w = tt
of_paths action.AppendFile (Some p) None v w = tt
of_paths action.AppendFile (Some p) (Some q) v w = (v, (w, tt))
of_paths action.ReplaceFile None q v w = tt
of_paths action.ReplaceFile (Some p) None v w = tt
of_paths action.ReplaceFile (Some p) (Some q) v w = (v, (w, tt))
of_paths action.CreateDirectory None q v w = tt
of_paths action.CreateDirectory (Some p) q v w = (v, tt)
of_paths action.RemoveDirectory None q v w = tt
of_paths action.RemoveDirectory (Some p) q v w = (v, tt)
of_paths action.DenyFile None q v w = tt
of_paths action.DenyFile (Some p) q v w = (v, tt)
of_paths action.DenyDirectory None q v w = tt
of_paths action.DenyDirectory (Some p) q v w = (v, tt)

record AreRequests (items : List Item) : Type 0 where
  pub paths : AllByRecursion NamesPaths items
  pub none : has_install items ≡ false

abbrev OfRequests : Parsed → Type 0
OfRequests (Bad index) = ⊤
OfRequests (Good items) = AreRequests items

and_then_requests : (r : Option Request) (i : ℕ) (rest : Parsed) → OfPaths r → OfRequests rest → OfRequests (and_then_parsed r i rest)
and_then_requests None i rest own h = tt
and_then_requests (Some r) i (Bad index) own h = tt
and_then_requests (Some r) i (Good items) own h = record { paths = (own, h.paths); none = h.none }

from_requests : (i : ℕ) (rs : List RequestFields) → OfRequests (parsed_from i rs)
from_requests i [] = record { paths = tt; none = refl }
from_requests i (r ∷ rs) =
    and_then_requests (request_by r) i (parsed_from (i + 1) rs)
    (of_paths r.action (path_of r.first) (named r.second) (path_of_path r.first (path_of r.first) refl) (named_path r.second)) (from_requests (i + 1) rs)

-- lists ------------------------------------------------------------------------------

abbrev OfList : Bool → Parsed → Type 0
OfList file (Bad index) = ⊤
OfList file (Good items) = IsListed file items

requests_listed : (items : List Item) → AreRequests items → IsListed false items
requests_listed [] h = record { paths = tt; first = refl; following = refl }
requests_listed (item ∷ items) h =
    let parts = or_parts (is_install item) (has_install items) h.none in
    record { paths = h.paths; first = rw (first_is item items) parts.0; following = parts.1 }

without_file : (q : Parsed) → OfRequests q → OfList false q
without_file (Bad index) h = tt
without_file (Good items) h = requests_listed items h

with_its_file : (p : Option Path) (q : Parsed) → IsOptionalPath p → OfRequests q → OfList true (with_file p q)
with_its_file None q v h = tt
with_its_file (Some p) (Bad index) v h = tt
with_its_file (Some p) (Good items) v h = record { paths = ((v, tt), h.paths); first = refl; following = h.none }

destination_listed : (file : Bool) (name : List ℕ) (q : Parsed) → OfRequests q → OfList file (with_destination (if file then Some name else None) q)
destination_listed true name q h = with_its_file (path_of name) q (path_of_path name (path_of name) refl) h
destination_listed false name q h = without_file q h

pub granted_listed : (c : Config) (m : MetadataFields) (prefixes : List Path) (F : Filestore) (leases : List (TransactionId × Footprint)) (spare : ℕ)
    (items : List Item) (blocks steps : ℕ) →
    verdict prefixes F leases spare (proposal_of c m) ≡ Grant items blocks steps → IsListed (has_file m) items
granted_listed c m prefixes F leases spare items blocks steps h =
    subst (OfList (has_file m)) (granted_parsed prefixes F leases spare (proposal_of c m) items blocks steps h)
    (destination_listed (has_file m) m.destination_name (parsed_from 0 m.requests) (from_requests 0 m.requests))
