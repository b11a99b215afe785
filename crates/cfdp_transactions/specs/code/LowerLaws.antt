-- The laws of the layers below: of footprints and rows, and of lists run alone.
use Rattle.cfdp_leases.specs.Laws.{OwnFootprint, Isolation, StaysRooted, Growth}
use Rattle.cfdp_states.specs.Laws.{OwnStep, EnoughRoom, LongerFile, ForeignChangeWith, AnySlotWith}

pub record LowerLaws : Type 0 where
  pub own_footprint : OwnFootprint
  pub isolation : Isolation
  pub stays_rooted : StaysRooted
  pub growth : Growth
  pub longer_file : LongerFile
  pub foreign_change : ForeignChangeWith
  pub own_step : OwnStep
  pub enough_room : EnoughRoom
  pub any_slot : AnySlotWith
