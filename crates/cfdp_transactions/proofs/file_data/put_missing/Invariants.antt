use Rattle.std.proofs.Common.{◌-◌, ◌≤◌}
use Rattle.cfdp_transactions.specs.code.FileData.{PutsOctets}
use Rattle.cfdp_transactions.proofs.file_data.put_missing.Given as goal

-- the octets are in place up to `from`
abbrev pub invariant-gaps : goal.invariant-gaps
invariant-gaps g l = record {
  puts : PutsOctets l.ranges l.at l.octets l.slot (g.S.Filestore.state l.fn.store) (g.S.Filestore.state l.store) l.from;
  begun : l.at ≤ l.from;
  reached : l.from ≤ l.end;
}

abbrev pub decreases-gaps : goal.decreases-gaps
decreases-gaps g l = l.end - l.from
