-- What only the proofs of the code need of `Ends`.
--   end_line                the line on standard error, without its newline; empty where there is none
use Rattle.std.specs.Prelude.{ℕ, List, [], ◌++◌, codes}
use Rattle.cfdp_lines.specs.FaultTexts.{run_line, link_line}
use Rattle.cfdp_ends.specs.declared.program_end.ProgramEnd.{ProgramEnd}
use Rattle.cfdp_ends.specs.declared.program_end.ProgramEnd.TheVariants.{Fine, Usage, Run, Link}

abbrev pub end_line : ProgramEnd → List ℕ
end_line Fine = []
end_line Usage = codes "cfdpsim: usage"
end_line (Run fault) = codes "cfdpsim: " ++ run_line fault
end_line (Link fault) = codes "cfdpsim: " ++ link_line fault
