-- What is written of a bad line.
--     too_late_text word      of a line of the head that comes too late
--     expected_text word      of one that has not the form of its word
--     values_text key         of a value that a key does not have
--     wrong_text wrong        of each bad line, without its newline
use Rattle.std.specs.Prelude.{ℕ, List, ◌++◌, codes}
use Rattle.cfdp_run.specs.Settings.{key_text, bounds_text}
use Rattle.cfdp_run.specs.Words.{form_of, spelling_of}
use Rattle.cfdp_run.specs.declared.settings.Key.{Key}
use Rattle.cfdp_run.specs.declared.words.FirstWord.{FirstWord}
use Rattle.cfdp_run.specs.declared.wrong.Wrong.{Wrong}
use Rattle.cfdp_run.specs.declared.wrong.Wrong.TheVariants as wrong

abbrev pub too_late_text : FirstWord → List ℕ
too_late_text word = spelling_of word ++ codes " must come before the first other line"

abbrev pub expected_text : FirstWord → List ℕ
expected_text word = codes "expected " ++ form_of word

abbrev pub values_text : Key → List ℕ
values_text key = key_text key ++ codes " is " ++ bounds_text key

unfoldable pub wrong_text : Wrong → List ℕ
wrong_text wrong.TooLong = codes "longer than 200000 octets"
wrong_text wrong.UnknownWord = codes "unknown word"
wrong_text (wrong.TooLate word) = too_late_text word
wrong_text (wrong.Expected word) = expected_text word
wrong_text wrong.UnknownKey = codes "unknown key"
wrong_text (wrong.OutOfRange key) = values_text key
wrong_text wrong.ConfigTooLate = codes "config must come once, before protect and put"
wrong_text wrong.ConfigRange = codes "config has B 16 to 65536, C 0 to 7864320, K 1 to 1000, J 16 to 1000000"
wrong_text wrong.NoPath = codes "no path"
wrong_text wrong.TooManyProtected = codes "at most 8 paths are protected"
wrong_text wrong.Taken = codes "something is there already"
wrong_text wrong.ParentIsFile = codes "a parent is a file"
wrong_text wrong.NoRoom = codes "the filestore has no room for it"
