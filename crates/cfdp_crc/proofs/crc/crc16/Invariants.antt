use Rattle.std.proofs.Common.{◌≡◌, drop}
use Rattle.cfdp_crc.specs.Crc.{crc_from, crc_of}
use Rattle.cfdp_crc.proofs.crc.crc16.Given as goal

-- what is left of the octets that come next leads to the CRC of all
abbrev pub invariant-loop-octet : goal.invariant-loop-octet
invariant-loop-octet l = crc_from l.left (drop l.octet-index l.octets) ≡ crc_of l.octets
