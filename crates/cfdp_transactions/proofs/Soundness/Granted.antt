-- What a grant says of its items: no conflict, and alone they succeed within the grant.
use Rattle.std.proofs.Common.{◌≡◌, ℕ, zero, suc, ◌+◌, ◌≤◌, List, [], ◌∷◌, length, refl, ap, subst, arith}
use Rattle.std.specs.Prelude.{⊤, Option, Some, None, Bool, true, false, IsTrue, IsFalse, if◌then◌else◌, nat_lt, replicate, find}
use Rattle.std.specs.List.{AllByRecursion}
use Rattle.std.specs.Option.{option_map}
use Rattle.std.proofs.lemmas.Bool.{cond_both, ltb-false, or_parts, or_from}
use Rattle.cfdp_status.specs.declared.status.Status.{Status}
use Rattle.cfdp_status.specs.declared.transaction.TransactionId.{TransactionId}
use Rattle.cfdp_status.specs.Codes.{is_successful}
use Rattle.cfdp_paths.specs.Paths.{Path, path_of}
use Rattle.cfdp_actions.specs.Filestore.{Filestore}
use Rattle.cfdp_actions.specs.Actions.{Request, Item, Install, Perform, Answer, Performed, Installed, NotInstalled, succeeded, row}
use Rattle.cfdp_leases.specs.Items.{performed}
use Rattle.cfdp_leases.specs.Footprint.{Footprint, footprint_of, is_conflict, reaches}
use Rattle.cfdp_leases.specs.Leases.{first_conflict}
use Rattle.cfdp_states.specs.Alone.{statuses, alone, statuses_alone, need_alone, steps_alone}
use Rattle.cfdp_tlv.specs.Values.{RequestFields}
use Rattle.cfdp_verifier.specs.Verdict.{Proposal, Verdict, Refuse, Grant, Parsed, Bad, Good, request_by, and_then_parsed, parsed_from, with_file, with_destination, parsed, first_failure, destination_allowed, judged_items, judged_apart, verdict_of, verdict}
use Rattle.cfdp_transactions.specs.Entry.{is_live, Entry, name_of, footprint}
use Rattle.cfdp_transactions.specs.World.{leases_of}
use Rattle.cfdp_transactions.specs.Sound.{Each, is_next_install, requests_in}
use Rattle.cfdp_transactions.proofs.Soundness.RowAnswers.{HasStatus, row_of_request}
use Rattle.cfdp_transactions.proofs.Soundness.LeftAlone.{AllSucceeded}

-- the items of a list as it was sent -----------------------------------------------

abbrev pub IsRequest : Item → Type 0
IsRequest (Install p) = ⊥
IsRequest (Perform request) = ⊤

abbrev pub AreRequests : List Item → Type 0
AreRequests = AllByRecursion IsRequest

-- an install at most, and then requests
abbrev pub AreItems : List Item → Type 0
AreItems [] = ⊤
AreItems (Install p ∷ items) = AreRequests items
AreItems (Perform request ∷ items) = AreRequests items

-- this many requests
pub record IsListed (n : ℕ) (items : List Item) : Type 0 where
  pub all : AreRequests items
  pub count : requests_in items ≡ n

abbrev pub GoodListed : ℕ → Parsed → Type 0
GoodListed n (Bad index) = ⊤
GoodListed n (Good items) = IsListed n items

and_then_listed : (r : Option Request) (i n : ℕ) (rest : Parsed) → GoodListed n rest → GoodListed (suc n) (and_then_parsed r i rest)
and_then_listed None i n rest h = tt
and_then_listed (Some r) i n (Bad index) h = tt
and_then_listed (Some r) i n (Good items) h = record { all = (tt, h.all); count = ap suc h.count }

parsed_listed : (i : ℕ) (rs : List RequestFields) → GoodListed (length rs) (parsed_from i rs)
parsed_listed i [] = record { all = tt; count = refl }
parsed_listed i (r ∷ rs) = and_then_listed (request_by r) i (length rs) (parsed_from (i + 1) rs) (parsed_listed (i + 1) rs)

pub record IsProposed (destination : Option (List ℕ)) (n : ℕ) (items : List Item) : Type 0 where
  pub shape : AreItems items
  pub count : requests_in items ≡ n
  pub file : IsFalse (is_next_install items) → destination ≡ None

abbrev pub GoodProposed : Option (List ℕ) → ℕ → Parsed → Type 0
GoodProposed destination n (Bad index) = ⊤
GoodProposed destination n (Good items) = IsProposed destination n items

requests_shape : (items : List Item) → AreRequests items → AreItems items
requests_shape [] h = tt
requests_shape (Install p ∷ items) h = elim h.0 [ ]
requests_shape (Perform request ∷ items) h = h.1

without_file : (n : ℕ) (q : Parsed) → GoodListed n q → GoodProposed None n q
without_file n (Bad index) h = tt
without_file n (Good items) h = record { shape = requests_shape items h.all; count = h.count; file = λ _. refl }

with_file_proposed : (octets : List ℕ) (p : Option Path) (n : ℕ) (q : Parsed) → GoodListed n q → GoodProposed (Some octets) n (with_file p q)
with_file_proposed octets None n q h = tt
with_file_proposed octets (Some p) n (Bad index) h = tt
with_file_proposed octets (Some p) n (Good items) h = record { shape = h.all; count = h.count; file = λ no. absurd cc }

with_destination_proposed : (destination : Option (List ℕ)) (n : ℕ) (q : Parsed) → GoodListed n q → GoodProposed destination n (with_destination destination q)
with_destination_proposed None n q h = without_file n q h
with_destination_proposed (Some octets) n q h = with_file_proposed octets (path_of octets) n q h

pub parsed_proposed : (P : Proposal) → GoodProposed P.destination (length P.requests) (parsed P)
parsed_proposed P = with_destination_proposed P.destination (length P.requests) (parsed_from 0 P.requests) (parsed_listed 0 P.requests)

requests_length : (items : List Item) → AreRequests items → length items ≡ requests_in items
requests_length [] h = refl
requests_length (Install p ∷ items) h = elim h.0 [ ]
requests_length (Perform request ∷ items) h = ap suc (requests_length items h.1)

pub items_length : (items : List Item) → AreItems items → length items ≤ 1 + requests_in items
items_length [] h = omega arith
items_length (Install p ∷ items) h = omega (arith, requests_length items h)
items_length (Perform request ∷ items) h = omega (arith, requests_length items h)

-- no request fails -----------------------------------------------------------------

answer_good : (answer : Answer) (i : ℕ) (following : List Answer) → HasStatus answer → first_failure i (answer ∷ following) ≡ None → IsTrue (succeeded answer)
    × (first_failure (i + 1) following ≡ None)
answer_good (Performed status) i following h none =
    cond_both (is_successful status) (first_failure (i + 1) following) (Some (i, status)) (λ (o : Option (ℕ × Status)). o ≡ None → IsTrue (is_successful status)
    × (first_failure (i + 1) following ≡ None))
    (λ good e. (good, e)) (λ _ e. absurd cc) none
answer_good Installed i following h none = elim h [ ]
answer_good NotInstalled i following h none = elim h [ ]

requests_good : (prefixes : List Path) (F : Filestore) (slot i : ℕ) (items : List Item) → AreRequests items → first_failure i (statuses prefixes F slot items)
    ≡ None → AllSucceeded (statuses prefixes F slot items)
unfolding statuses
requests_good prefixes F slot i [] h none = tt
requests_good prefixes F slot i (Install p ∷ items) h none = elim h.0 [ ]
requests_good prefixes F slot i (Perform request ∷ items) h none =
    let good = answer_good (row prefixes F slot (Perform request)).answer i (statuses prefixes (performed prefixes F slot (Perform request)) slot items)
    (row_of_request prefixes F slot request).answer none in
    (good.0, requests_good prefixes (performed prefixes F slot (Perform request)) slot (i + 1) items h.1 good.1)

-- an install is no request, and is not counted
install_passed : (answer : Answer) (i : ℕ) (following : List Answer) → IsTrue (succeeded answer) → first_failure i (answer ∷ following) ≡ None → (j : ℕ)
    × (first_failure j following ≡ None)
install_passed (Performed status) i following good none = (i + 1, rw good at none)
install_passed Installed i following good none = (i, none)
install_passed NotInstalled i following good none = absurd cc

items_good : (prefixes : List Path) (F : Filestore) (i : ℕ) (items : List Item) → AreItems items → IsTrue (destination_allowed prefixes F items) →
    first_failure i (statuses prefixes F 0 items) ≡ None → AllSucceeded (statuses prefixes F 0 items)
unfolding statuses
items_good prefixes F i [] h allowed none = tt
items_good prefixes F i (Install p ∷ items) h allowed none =
    let following = install_passed (row prefixes F 0 (Install p)).answer i (statuses prefixes (performed prefixes F 0 (Install p)) 0 items) allowed none in
    (allowed, requests_good prefixes (performed prefixes F 0 (Install p)) 0 following.0 items h following.1)
items_good prefixes F i (Perform request ∷ items) h allowed none = requests_good prefixes F 0 i (Perform request ∷ items) (tt, h) none

-- the verdict ----------------------------------------------------------------------

pub record IsGranted (prefixes : List Path) (F : Filestore) (leases : List (TransactionId × Footprint)) (spare : ℕ) (P : Proposal) (items : List Item)
    (granted bound_steps : ℕ) : Type 0 where
  pub proposed : IsProposed P.destination (length P.requests) items
  pub apart : first_conflict leases (footprint_of items) ≡ None
  pub succeed : AllSucceeded (statuses_alone prefixes F (replicate P.bound 0) items)
  pub need : need_alone prefixes F (replicate P.bound 0) items ≡ granted
  pub steps : steps_alone prefixes F (replicate P.bound 0) items ≡ bound_steps
  pub room : granted ≤ spare
  pub short : bound_steps ≤ 65536

module _ (prefixes : List Path) (F : Filestore) (leases : List (TransactionId × Footprint)) (spare : ℕ) (P : Proposal) where
  abbrev pub IsJust : Verdict → Type 0
  IsJust (Refuse r) = ⊤
  IsJust (Grant items blocks steps) = IsGranted prefixes F leases spare P items blocks steps

  abbrev x : List ℕ
  x = replicate P.bound 0

  judged_just : (items : List Item) → IsProposed P.destination (length P.requests) items → first_conflict leases (footprint_of items) ≡ None →
      IsTrue (destination_allowed prefixes (alone F x) items) →
      (failure : Option (ℕ × Status)) → first_failure 0 (statuses_alone prefixes F x items) ≡ failure →
      IsJust (judged_items spare items failure (need_alone prefixes F x items) (steps_alone prefixes F x items))
  judged_just items proposed apart allowed (Some f) is = tt
  judged_just items proposed apart allowed None is =
      cond_both (nat_lt 65536 (steps_alone prefixes F x items)) _ _ IsJust (λ _. tt)
      (λ short. cond_both (nat_lt spare (need_alone prefixes F x items)) _ _ IsJust (λ _. tt)
      (λ room. record {
        proposed = proposed;
        apart = apart;
        succeed = items_good prefixes (alone F x) 0 items proposed.shape allowed is;
        need = refl;
        steps = refl;
        room = ltb-false _ _ room;
        short = ltb-false _ _ short;
      }))

  apart_just : (items : List Item) → IsProposed P.destination (length P.requests) items → (conflict : Option TransactionId) →
      first_conflict leases (footprint_of items) ≡ conflict →
      IsJust (judged_apart prefixes F spare x items conflict)
  apart_just items proposed (Some id) is = tt
  apart_just items proposed None is =
      cond_both (destination_allowed prefixes (alone F x) items) _ _ IsJust
      (λ allowed. judged_just items proposed is allowed (first_failure 0 (statuses_alone prefixes F x items)) refl) (λ _. tt)

  verdict_of_just : (q : Parsed) → GoodProposed P.destination (length P.requests) q → IsJust (verdict_of prefixes F leases spare P q)
  verdict_of_just (Bad index) h = tt
  verdict_of_just (Good items) h = apart_just items h (first_conflict leases (footprint_of items)) refl

  pub verdict_just : IsJust (verdict prefixes F leases spare P)
  verdict_just = cond_both (nat_lt 64 (length P.requests)) _ _ IsJust (λ _. tt) (λ _. verdict_of_just (parsed P) (parsed_proposed P))

-- conflicts --------------------------------------------------------------------------

pub conflict_sym : (A B : Footprint) → IsFalse (is_conflict A B) → IsFalse (is_conflict B A)
conflict_sym A B h = let p = or_parts (reaches A B) (reaches B A) h in or_from (reaches B A) (reaches A B) p.1 p.0

none_step : (e : Entry) (t : List Entry) (fp : Footprint) (live : Bool) → is_live e.phase ≡ live →
    first_conflict (if live then (name_of e, footprint e) ∷ leases_of t else leases_of t) fp ≡ None →
    (IsTrue (is_live e.phase) → IsFalse (is_conflict fp (footprint e))) × (first_conflict (leases_of t) fp ≡ None)
none_step e t fp true is none =
    cond_both (is_conflict (footprint e) fp) (Some (name_of e, footprint e)) (find (λ (g : TransactionId × Footprint). is_conflict g.1 fp) (leases_of t))
    (λ (o : Option (TransactionId × Footprint)). option_map (λ (g : TransactionId × Footprint). g.0) o ≡ None →
    (IsTrue (is_live e.phase) → IsFalse (is_conflict fp (footprint e))) × (first_conflict (leases_of t) fp ≡ None))
    (λ _ q. absurd cc) (λ apart q. ((λ _. conflict_sym (footprint e) fp apart), q)) none
none_step e t fp false is none = ((λ live. absurd cc), none)

-- where none is found, no live entry conflicts
pub none_conflicts : (t : List Entry) (fp : Footprint) → first_conflict (leases_of t) fp ≡ None →
    Each (λ d. IsTrue (is_live d.phase) → IsFalse (is_conflict fp (footprint d))) t
none_conflicts [] fp none k d at = absurd cc
none_conflicts (e ∷ t) fp none zero d at = let same : e ≡ d = cc in subst (λ (f : Entry). IsTrue (is_live f.phase) →
    IsFalse (is_conflict fp (footprint f))) same (none_step e t fp (is_live e.phase) refl none).0
none_conflicts (e ∷ t) fp none (suc k) d at = none_conflicts t fp (none_step e t fp (is_live e.phase) refl none).1 k d at
