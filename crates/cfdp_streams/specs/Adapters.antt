-- What std's readers and writers are seen as, as a script's streams.
--
--   reader_of, read_failed    the reader inside, and whether it has failed
--   writer_of, write_failed   the writer inside, and whether it has failed
--   rest_of                   the octets in memory that are still to be read
use Rattle.std.specs.Prelude.{ℕ, Bool, List}
use Rattle.cfdp_streams.specs.declared.from_read.FromRead.{FromRead}
use Rattle.cfdp_streams.specs.declared.from_slice.FromSlice.{FromSlice}
use Rattle.cfdp_streams.specs.declared.to_write.ToWrite.{ToWrite}

abbrev pub reader_of : {R : Type 0} → FromRead R → R
reader_of stream = stream.inner

abbrev pub read_failed : {R : Type 0} → FromRead R → Bool
read_failed stream = stream.failed

abbrev pub writer_of : {W : Type 0} → ToWrite W → W
writer_of stream = stream.inner

abbrev pub write_failed : {W : Type 0} → ToWrite W → Bool
write_failed stream = stream.failed

abbrev pub rest_of : FromSlice → List ℕ
rest_of stream = stream.octets.now
