use Rattle.cfdp_paths.proofs.Spelling.{path_of_spelled, spelled_from_path_of}
use Rattle.cfdp_paths.proofs.laws.path_of_agrees.Goals as goal

pub returns : goal.returns
returns c = λ octets p. (spelled_from_path_of octets p, path_of_spelled octets p)
