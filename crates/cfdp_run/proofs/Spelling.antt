-- The words of a script, spelled and read.
use Rattle.std.proofs.Common.{refl}
use Rattle.cfdp_run.specs.Laws.{KeysAreRead, WordsAreRead}
use Rattle.cfdp_run.specs.Words.{spelling_of, word_of}
use Rattle.cfdp_run.specs.declared.settings.Key.TheVariants as key
use Rattle.cfdp_run.specs.declared.words.FirstWord.TheVariants as word

pub words_read : WordsAreRead
unfolding spelling_of word_of
words_read word.Mib = refl
words_read word.Config = refl
words_read word.Protect = refl
words_read word.Put = refl
words_read word.At = refl
words_read word.Get = refl
words_read word.Gaps = refl
words_read word.Phase = refl
words_read word.List = refl
words_read word.Expect = refl
words_read word.End = refl

pub keys_read : KeysAreRead
keys_read key.AckInterval = refl
keys_read key.AckLimit = refl
keys_read key.OnAckLimit = refl
keys_read key.NakInterval = refl
keys_read key.NakLimit = refl
keys_read key.OnNakLimit = refl
keys_read key.CheckInterval = refl
keys_read key.OnCheckLimit = refl
keys_read key.Inactivity = refl
keys_read key.OnInactivity = refl
keys_read key.KeepAlive = refl
keys_read key.Immediate = refl
keys_read key.Crc = refl
keys_read key.Longest = refl
keys_read key.MostAhead = refl
