use Rattle.cfdp_transactions.proofs.laws.lower_laws.Goals as goal

pub returns : goal.returns
returns c = record {
  own_footprint = c.own_footprint.ensures;
  isolation = c.isolation.ensures;
  stays_rooted = c.stays_rooted.ensures;
  growth = c.growth.ensures;
  longer_file = c.longer_file.ensures;
  foreign_change = c.foreign_change_with.ensures;
  own_step = c.own_step.ensures;
  enough_room = c.enough_room.ensures;
  any_slot = c.any_slot_with.ensures;
}
