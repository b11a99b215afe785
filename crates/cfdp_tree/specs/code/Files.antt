-- What the fields of a file say of its octets.
--     with_run fields run            the fields with the blocks of a run;
--                                    where there are none, it stays, since it then means
--                                    none
--     with_contents fields contents  the fields with such a run, how many octets there are, and their checksum
--     SameOctets a b                 the two are in the same blocks, have the same length and the same checksum
use Rattle.std.specs.Prelude.{◌≡◌, ◌==◌, ◌<◌, if◌then◌else◌}
use Rattle.cfdp_tree.specs.declared.runs.Run.{Run}
use Rattle.cfdp_tree.specs.declared.contents.Contents.{Contents}
use Rattle.cfdp_tree.specs.code.NodeFields.{NodeFields}

abbrev pub with_run : NodeFields → Run → NodeFields
with_run fields run = if run.count == 0 then fields else record fields { first = run.first; last = run.last }

abbrev pub with_contents : NodeFields → Contents → NodeFields
with_contents fields contents = record (with_run fields contents.run) { size = contents.size; sum = contents.sum }

pub record SameOctets (a b : Contents) : Type 0 where
  pub size : a.size ≡ b.size
  pub sum : a.sum ≡ b.sum
  pub count : a.run.count ≡ b.run.count
  pub first : 0 < b.run.count → a.run.first ≡ b.run.first
  pub last : 0 < b.run.count → a.run.last ≡ b.run.last
