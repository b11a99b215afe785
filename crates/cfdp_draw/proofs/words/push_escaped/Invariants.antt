use Rattle.std.proofs.Common.{◌≡◌, ◌++◌, take, flat_map}
use Rattle.cfdp_draw.specs.Words.{escaped_octet}
use Rattle.cfdp_draw.proofs.words.push_escaped.Given as goal

abbrev pub invariant-loop-octet : goal.invariant-loop-octet
invariant-loop-octet l = l.text.items ≡ l.initial.text.items ++ flat_map escaped_octet (take l.octet-index l.words)
