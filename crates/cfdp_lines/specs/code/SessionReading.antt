-- Where a session is.
--
--   session_reading  where a session is in its script, by what the script's state is seen as
use Rattle.cfdp_lines.specs.Session.{LineReading, line_reading}
use Rattle.cfdp_lines.specs.declared.session.LineSession.{LineSession}

abbrev pub session_reading : {S State : Type 0} → (S → State) → LineSession S → LineReading State
session_reading state session = line_reading session.number (state session.script) session.line
