-- The settings of a management information base, as the lines `mib` of a script have them: a key, and the text of a
-- value.
--     default_mib               what is set where a script sets nothing
--     key_of word               the key that a word names
--     key_text key              the word that names a key
--     number_within low high word  the number that a word writes, if it is in this range
--     interval_of, limit_of     a time in ticks;  a limit of expiries
--     keep_alive_of, nak_mode_of, yes_of, handler_of      a time or none;  when lost segments are asked for;  yes or
--                                                         no;  what is done at a fault
--     bounds_text key           what a value of a key has to be
--     with_value mib key word   the base with the value, if the word is one
use Rattle.std.specs.Prelude.{ℕ, Bool, true, false, ◌&&◌, nat_le, if◌then◌else◌, List, Option, Some, None, codes, bytes_eq}
use Rattle.std.specs.Option.{option_map}
use Rattle.cfdp_lines.specs.Words.{number_of}
use Rattle.cfdp_receiver.specs.declared.mib.Handler.{Handler}
use Rattle.cfdp_receiver.specs.declared.mib.Handler.TheVariants.{Cancel, Ignore, Abandon}
use Rattle.cfdp_receiver.specs.declared.mib.NakMode.{NakMode}
use Rattle.cfdp_receiver.specs.declared.mib.NakMode.TheVariants.{Deferred, Immediate}
use Rattle.cfdp_receiver.specs.declared.mib.Mib.{Mib}
use Rattle.cfdp_receiver.specs.declared.mib.Retries.{Retries}
use Rattle.cfdp_run.specs.declared.settings.Key.{Key}
use Rattle.cfdp_run.specs.declared.settings.Key.TheVariants as key

abbrev pub default_retries : Retries
default_retries = record { interval = 10; limit = 3; at_limit = Cancel }

abbrev pub default_mib : Mib
default_mib = record {
  ack = default_retries;
  nak = default_retries;
  check = record { interval = 10; at_limit = Cancel };
  inactivity = record { interval = 100; at_limit = Cancel };
  keep_alive = None;
  nak_mode = Deferred;
  has_crc = false;
  longest_nak = 65535;
  most_ahead = None;
}

abbrev pub key_of : List ℕ → Option Key
key_of word =
    if bytes_eq word (codes "ack-interval") then Some key.AckInterval
    else if bytes_eq word (codes "ack-limit") then Some key.AckLimit
    else if bytes_eq word (codes "on-ack-limit") then Some key.OnAckLimit
    else if bytes_eq word (codes "nak-interval") then Some key.NakInterval
    else if bytes_eq word (codes "nak-limit") then Some key.NakLimit
    else if bytes_eq word (codes "on-nak-limit") then Some key.OnNakLimit
    else if bytes_eq word (codes "check-interval") then Some key.CheckInterval
    else if bytes_eq word (codes "on-check-limit") then Some key.OnCheckLimit
    else if bytes_eq word (codes "inactivity") then Some key.Inactivity
    else if bytes_eq word (codes "on-inactivity") then Some key.OnInactivity
    else if bytes_eq word (codes "keep-alive") then Some key.KeepAlive
    else if bytes_eq word (codes "immediate") then Some key.Immediate
    else if bytes_eq word (codes "crc") then Some key.Crc
    else if bytes_eq word (codes "longest") then Some key.Longest
    else if bytes_eq word (codes "most-ahead") then Some key.MostAhead
    else None

abbrev pub key_text : Key → List ℕ
key_text key.AckInterval = codes "ack-interval"
key_text key.AckLimit = codes "ack-limit"
key_text key.OnAckLimit = codes "on-ack-limit"
key_text key.NakInterval = codes "nak-interval"
key_text key.NakLimit = codes "nak-limit"
key_text key.OnNakLimit = codes "on-nak-limit"
key_text key.CheckInterval = codes "check-interval"
key_text key.OnCheckLimit = codes "on-check-limit"
key_text key.Inactivity = codes "inactivity"
key_text key.OnInactivity = codes "on-inactivity"
key_text key.KeepAlive = codes "keep-alive"
key_text key.Immediate = codes "immediate"
key_text key.Crc = codes "crc"
key_text key.Longest = codes "longest"
key_text key.MostAhead = codes "most-ahead"

abbrev pub within_by : ℕ → ℕ → Option ℕ → Option ℕ
within_by low high None = None
within_by low high (Some number) = if nat_le low number && nat_le number high then Some number else None

abbrev pub number_within : ℕ → ℕ → List ℕ → Option ℕ
number_within low high word = within_by low high (number_of word)

abbrev pub interval_of : List ℕ → Option ℕ
interval_of word = number_within 1 4294967295 word

abbrev pub limit_of : List ℕ → Option ℕ
limit_of word = number_within 1 1000 word

abbrev pub longest_of : List ℕ → Option ℕ
longest_of word = number_within 72 65535 word

abbrev pub keep_alive_of : List ℕ → Option (Option ℕ)
keep_alive_of word = if bytes_eq word (codes "none") then Some None else option_map Some (interval_of word)

abbrev pub yes_of : List ℕ → Option Bool
yes_of word = if bytes_eq word (codes "yes") then Some true else if bytes_eq word (codes "no") then Some false else None

abbrev pub mode_by : Bool → NakMode
mode_by true = Immediate
mode_by false = Deferred

abbrev pub nak_mode_of : List ℕ → Option NakMode
nak_mode_of word = option_map mode_by (yes_of word)

abbrev pub handler_of : List ℕ → Option Handler
handler_of word =
    if bytes_eq word (codes "cancel") then Some Cancel
    else if bytes_eq word (codes "ignore") then Some Ignore
    else if bytes_eq word (codes "abandon") then Some Abandon
    else None

abbrev pub bounds_text : Key → List ℕ
bounds_text key.AckInterval = codes "1 to 4294967295"
bounds_text key.AckLimit = codes "1 to 1000"
bounds_text key.OnAckLimit = codes "cancel, ignore or abandon"
bounds_text key.NakInterval = codes "1 to 4294967295"
bounds_text key.NakLimit = codes "1 to 1000"
bounds_text key.OnNakLimit = codes "cancel, ignore or abandon"
bounds_text key.CheckInterval = codes "1 to 4294967295"
bounds_text key.OnCheckLimit = codes "cancel, ignore or abandon"
bounds_text key.Inactivity = codes "1 to 4294967295"
bounds_text key.OnInactivity = codes "cancel, ignore or abandon"
bounds_text key.KeepAlive = codes "none or 1 to 4294967295"
bounds_text key.Immediate = codes "yes or no"
bounds_text key.Crc = codes "yes or no"
bounds_text key.Longest = codes "72 to 65535"
bounds_text key.MostAhead = codes "none or 1 to 4294967295"

abbrev pub with_value : Mib → Key → List ℕ → Option Mib
with_value mib key.AckInterval word = option_map (λ (n : ℕ). record mib { ack = record mib.ack { interval = n } })
    (interval_of word)
with_value mib key.AckLimit word = option_map (λ (n : ℕ). record mib { ack = record mib.ack { limit = n } })
    (limit_of word)
with_value mib key.OnAckLimit word = option_map (λ (h : Handler). record mib { ack = record mib.ack { at_limit = h } })
    (handler_of word)
with_value mib key.NakInterval word = option_map (λ (n : ℕ). record mib { nak = record mib.nak { interval = n } })
    (interval_of word)
with_value mib key.NakLimit word = option_map (λ (n : ℕ). record mib { nak = record mib.nak { limit = n } })
    (limit_of word)
with_value mib key.OnNakLimit word = option_map (λ (h : Handler). record mib { nak = record mib.nak { at_limit = h } })
    (handler_of word)
with_value mib key.CheckInterval word = option_map (λ (n : ℕ). record mib { check = record mib.check { interval = n } })
    (interval_of word)
with_value mib key.OnCheckLimit word = option_map (λ (h : Handler). record mib
    { check = record mib.check { at_limit = h } }) (handler_of word)
with_value mib key.Inactivity word = option_map (λ (n : ℕ).
    record mib { inactivity = record mib.inactivity { interval = n } }) (interval_of word)
with_value mib key.OnInactivity word = option_map (λ (h : Handler). record mib
    { inactivity = record mib.inactivity { at_limit = h } }) (handler_of word)
with_value mib key.KeepAlive word = option_map (λ (n : Option ℕ). record mib { keep_alive = n }) (keep_alive_of word)
with_value mib key.Immediate word = option_map (λ (m : NakMode). record mib { nak_mode = m }) (nak_mode_of word)
with_value mib key.Crc word = option_map (λ (b : Bool). record mib { has_crc = b }) (yes_of word)
with_value mib key.Longest word = option_map (λ (n : ℕ). record mib { longest_nak = n }) (longest_of word)
with_value mib key.MostAhead word = option_map (λ (n : Option ℕ). record mib { most_ahead = n }) (keep_alive_of word)
