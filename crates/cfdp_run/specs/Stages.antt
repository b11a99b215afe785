-- What the values of the program are seen as.
--     head_of, play_from      a head, and the entity after it
use Rattle.cfdp_run.specs.Scripts.{Head, Play}
use Rattle.cfdp_run.specs.declared.head.Head.{Head as HeadValue}
use Rattle.cfdp_run.specs.declared.play.Play.{Play as PlayValue}

-- nothing is protected in the entity of the value
abbrev pub head_of : HeadValue → Head
head_of head = record {
  mib = head.mib;
  world = record head.entity { config = record head.entity.config { prefixes = head.protected } };
  has_begun = head.has_begun;
}

abbrev pub play_from : PlayValue → Play
play_from play = record { state = play.player.receiver.state; lines = play.lines.items }
