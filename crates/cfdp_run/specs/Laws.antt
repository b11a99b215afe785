-- Laws on the words of a script.
--     WordsAreRead     the octets that spell a word that begins lines are read as this word
--     KeysAreRead      those that spell a key of `mib` are read as this key
use Rattle.std.specs.Prelude.{◌≡◌, Some}
use Rattle.cfdp_run.specs.Settings.{key_of, key_text}
use Rattle.cfdp_run.specs.Words.{spelling_of, word_of}
use Rattle.cfdp_run.specs.declared.settings.Key.{Key}
use Rattle.cfdp_run.specs.declared.words.FirstWord.{FirstWord}

abbrev pub WordsAreRead : Type 0
WordsAreRead = (word : FirstWord) → word_of (spelling_of word) ≡ Some word

abbrev pub KeysAreRead : Type 0
KeysAreRead = (key : Key) → key_of (key_text key) ≡ Some key
