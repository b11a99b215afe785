use Rattle.cfdp_run_script.proofs.Fit.{command_fits}
use Rattle.cfdp_run_script.proofs.script.RunScript.line.Goals as goal

pub obey-requires : goal.obey-requires
obey-requires g c = command_fits c.mib.result c.progress.result c.args.line.now _ c.mib.ensures.fits (rw c.in-Ok-Some.field-0-is at c.in-Ok-Some.ensures.ok)
