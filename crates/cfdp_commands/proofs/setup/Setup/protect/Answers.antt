use Rattle.std.proofs.Common.{◌≢◌, None, sym, ◌∙◌}
use Rattle.cfdp_paths.specs.Paths.{path_of}
use Rattle.cfdp_commands.specs.declared.setup.SetupProgress.TheVariants.{Closed}
use Rattle.cfdp_commands.proofs.PathLengths.{path-refused}
use Rattle.cfdp_commands.proofs.Verdicts.{protected-open, with_prefix-good}
use Rattle.cfdp_commands.proofs.setup.Setup.protect.Goals as goal

pub returns-in-Err-Memory-clause-bad : goal.returns-in-Err-Memory-clause-bad
returns-in-Err-Memory-clause-bad c = (
  λ e. absurd cc,
  λ none.
      let config = record c.args.self.now.config { prefixes = c.args.self.now.protected } in
      let spelled : path_of c.args.octets.now ≢ None =
      path-refused c.args.octets.now (λ fault is. let was = c.in-Err-Memory.ensures.first fault is in cc) in
      let before : c.args.self.now.progress ≢ Closed = c.in_default.not-Closed in
      absurd
      (with_prefix-good config (path_of c.args.octets.now) (rw c.len.ensures.value at c.if-len-ge-MOST_PREFIXES.false) spelled
      (sym (protected-open c.args.self.now.progress config c.args.octets.now before) ∙ none)),
)
