-- The words with which the lines of a script begin.
--     spelling_of word      its octets
--     form_of word          how a line is written that begins with it
--     is_of_head word       its lines come before every line of another kind
--     word_of octets        the word that some octets spell
use Rattle.std.specs.Prelude.{ℕ, Bool, true, false, if◌then◌else◌, List, Option, Some, None, codes, bytes_eq}
use Rattle.cfdp_run.specs.declared.words.FirstWord.{FirstWord}
use Rattle.cfdp_run.specs.declared.words.FirstWord.TheVariants as word

unfoldable pub spelling_of : FirstWord → List ℕ
spelling_of word.Mib = codes "mib"
spelling_of word.Config = codes "config"
spelling_of word.Protect = codes "protect"
spelling_of word.Put = codes "put"
spelling_of word.At = codes "at"
spelling_of word.Get = codes "get"
spelling_of word.Gaps = codes "gaps"
spelling_of word.Phase = codes "phase"
spelling_of word.List = codes "list"
spelling_of word.Expect = codes "expect"
spelling_of word.End = codes "end"

unfoldable pub form_of : FirstWord → List ℕ
form_of word.Mib = codes "mib KEY=VALUE .."
form_of word.Config = codes "config E B C K J"
form_of word.Protect = codes "protect PATH"
form_of word.Put = codes "put PATH [HEX | @FILE] or put PATH/"
form_of word.At = codes "at T [pdu HEX | cancel S N | clock]"
form_of word.Get = codes "get PATH"
form_of word.Gaps = codes "gaps S N"
form_of word.Phase = codes "phase S N"
form_of word.List = codes "list"
form_of word.Expect = codes "expect LINE"
form_of word.End = codes "end"

abbrev pub is_of_head : FirstWord → Bool
is_of_head word.Mib = true
is_of_head word.Config = true
is_of_head word.Protect = true
is_of_head word.Put = true
is_of_head word.At = false
is_of_head word.Get = false
is_of_head word.Gaps = false
is_of_head word.Phase = false
is_of_head word.List = false
is_of_head word.Expect = false
is_of_head word.End = false

unfoldable pub word_of : List ℕ → Option FirstWord
word_of octets =
    if bytes_eq octets (codes "mib") then Some word.Mib
    else if bytes_eq octets (codes "config") then Some word.Config
    else if bytes_eq octets (codes "protect") then Some word.Protect
    else if bytes_eq octets (codes "put") then Some word.Put
    else if bytes_eq octets (codes "at") then Some word.At
    else if bytes_eq octets (codes "get") then Some word.Get
    else if bytes_eq octets (codes "gaps") then Some word.Gaps
    else if bytes_eq octets (codes "phase") then Some word.Phase
    else if bytes_eq octets (codes "list") then Some word.List
    else if bytes_eq octets (codes "expect") then Some word.Expect
    else if bytes_eq octets (codes "end") then Some word.End
    else None
