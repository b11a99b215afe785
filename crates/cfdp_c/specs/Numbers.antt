-- The kinds of replies, the reasons of refusals and the kinds of entries, as C numbers them: the names are those of
-- `include/cfdp.h`, without CFDP_. Each of these numbers is both read and written. The numbers of the other
-- enumerations go one way only, and each is in the one definition that maps it.
use Rattle.std.specs.Prelude.{ℕ}

abbrev pub reply_none : ℕ
reply_none = 0

abbrev pub reply_admitted : ℕ
reply_admitted = 1

abbrev pub reply_refused : ℕ
reply_refused = 2

abbrev pub reply_stored : ℕ
reply_stored = 3

abbrev pub reply_dropped : ℕ
reply_dropped = 4

abbrev pub reply_complete : ℕ
reply_complete = 5

abbrev pub reply_waiting : ℕ
reply_waiting = 6

abbrev pub reply_faulted : ℕ
reply_faulted = 7

abbrev pub reply_performed : ℕ
reply_performed = 8

abbrev pub reply_installed : ℕ
reply_installed = 9

abbrev pub reply_finished : ℕ
reply_finished = 10

abbrev pub reply_cancelled : ℕ
reply_cancelled = 11

abbrev pub reply_taken : ℕ
reply_taken = 12

abbrev pub reply_duplicate : ℕ
reply_duplicate = 13

abbrev pub reply_unknown : ℕ
reply_unknown = 14

abbrev pub reply_idle : ℕ
reply_idle = 15

abbrev pub reply_not_for_us : ℕ
reply_not_for_us = 16

abbrev pub reply_table_full : ℕ
reply_table_full = 17

abbrev pub refusal_none : ℕ
refusal_none = 0

abbrev pub refusal_too_many_requests : ℕ
refusal_too_many_requests = 1

abbrev pub refusal_bad_destination : ℕ
refusal_bad_destination = 2

abbrev pub refusal_bad_request_path : ℕ
refusal_bad_request_path = 3

abbrev pub refusal_conflict : ℕ
refusal_conflict = 4

abbrev pub refusal_destination_not_allowed : ℕ
refusal_destination_not_allowed = 5

abbrev pub refusal_would_fail : ℕ
refusal_would_fail = 6

abbrev pub refusal_too_long : ℕ
refusal_too_long = 7

abbrev pub refusal_no_room : ℕ
refusal_no_room = 8

abbrev pub entry_file : ℕ
entry_file = 1

abbrev pub entry_directory : ℕ
entry_directory = 2
