-- The names of the transactions that were closed last, by the entity that they came from.
--     SourceFields              of one source: the sequence numbers of its transactions that changed the filestore, and
--                               of those that changed nothing, the last one first in each
--     ClosedFields              of all sources that have a place, and whether a name was ever dropped
--     names_in ss source        what is kept of a source: no number where it has no place
--     put_names ss new          instead of what was kept of the same source; a source without a place gets the last one
--     remembers c id            the name is one of them
--     most_closed h             how many names of a source are kept, by a header of it: where its numbers have one
--                               octet, half of all that there are
--     with_number most has_changed number s    one more number of a source: the oldest ones are dropped that are too
--                                              many, and first those of transactions that changed nothing
--     with_name c most has_changed id          one more name
--     with_closed c s           that of a session
--     has_source c source       the source has a place
--     has_room_for c source     it has one, or there is one for it: there are 16
--     with_source c source      it has one from now on
--     forgotten c ss            all names are dropped, and only the sources of these sessions keep their places
use Rattle.std.specs.Prelude.{ℕ, ◌+◌, ◌-◌, Bool, true, false, ◌||◌, ◌==◌, if◌then◌else◌, nat_le, nat_lt, List, [], ◌∷◌, take, length}
use Rattle.std.specs.List.{list_any}
use Rattle.cfdp_status.specs.declared.transaction.TransactionId.{TransactionId}
use Rattle.cfdp_pdus.specs.declared.header.Header.{Header}
use Rattle.cfdp_sessions.specs.Sessions.{SessionFields, session_id}

pub record SourceFields : Type 0 where
  pub source : ℕ
  pub changed : List ℕ
  pub idle : List ℕ

pub record ClosedFields : Type 0 where
  pub sources : List SourceFields
  pub forgot : Bool

abbrev pub no_names : ℕ → SourceFields
no_names source = record { source = source; changed = []; idle = [] }

abbrev pub names_in : List SourceFields → ℕ → SourceFields
names_in [] source = no_names source
names_in (s ∷ ss) source = if s.source == source then s else names_in ss source

abbrev pub put_names : List SourceFields → SourceFields → List SourceFields
put_names [] new = new ∷ []
put_names (s ∷ ss) new = if s.source == new.source then new ∷ ss else s ∷ put_names ss new

abbrev pub has_in : List ℕ → ℕ → Bool
has_in numbers number = list_any (λ n. n == number) numbers

abbrev pub has_number : SourceFields → ℕ → Bool
has_number s number = has_in s.changed number || has_in s.idle number

abbrev pub remembers : ClosedFields → TransactionId → Bool
remembers c id = has_number (names_in c.sources id.source) id.number

abbrev pub most_closed : Header → ℕ
most_closed h = if h.number_len == 1 then 128 else 256

abbrev pub kept_changed : ℕ → SourceFields → List ℕ
kept_changed most s = take (most - 1) s.changed

abbrev pub kept_idle : ℕ → SourceFields → List ℕ
kept_idle most s = take (most - (1 + length s.changed)) s.idle

abbrev pub with_number : ℕ → Bool → ℕ → SourceFields → SourceFields
with_number most true number s = record {
  source = s.source;
  changed = number ∷ kept_changed most s;
  idle = kept_idle most s;
}
with_number most false number s = record {
  source = s.source;
  changed = kept_changed most s;
  idle = number ∷ kept_idle most s;
}

-- one more is one too many
abbrev pub is_crowded : ℕ → SourceFields → Bool
is_crowded most s = nat_le most (length s.changed + length s.idle)

abbrev pub with_name : ClosedFields → ℕ → Bool → TransactionId → ClosedFields
with_name c most has_changed id = record {
  sources = put_names c.sources (with_number most has_changed id.number (names_in c.sources id.source));
  forgot = c.forgot || is_crowded most (names_in c.sources id.source);
}

abbrev pub with_closed : ClosedFields → SessionFields → ClosedFields
with_closed c s = with_name c (most_closed s.header) s.has_changed (session_id s)

abbrev pub has_source_in : List SourceFields → ℕ → Bool
has_source_in ss source = list_any (λ s. s.source == source) ss

abbrev pub has_source : ClosedFields → ℕ → Bool
has_source c source = has_source_in c.sources source

abbrev pub has_room_for : ClosedFields → ℕ → Bool
has_room_for c source = has_source c source || nat_lt (length c.sources) 16

abbrev pub with_source : ClosedFields → ℕ → ClosedFields
with_source c source = record { sources = put_names c.sources (names_in c.sources source); forgot = c.forgot }

abbrev pub has_session_of : List SessionFields → ℕ → Bool
has_session_of ss source = list_any (λ s. s.header.source == source) ss

abbrev pub kept_sources : List SessionFields → List SourceFields → List SourceFields
kept_sources ss [] = []
kept_sources ss (s ∷ rest) = if has_session_of ss s.source then no_names s.source ∷ kept_sources ss rest
    else kept_sources ss rest

abbrev pub forgotten : ClosedFields → List SessionFields → ClosedFields
forgotten c ss = record { sources = kept_sources ss c.sources; forgot = true }
