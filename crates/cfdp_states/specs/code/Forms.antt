-- What is at some paths, in either form.
use Rattle.cfdp_states.specs.Sketching.{Extents}
use Rattle.cfdp_states.specs.declared.extents.Form.{Form}
use Rattle.cfdp_states.specs.declared.extents.Form.TheVariants.{Sorted, Branched}

abbrev pub extents_in : Form → Extents
extents_in (Sorted m) = m
extents_in (Branched m) = m
