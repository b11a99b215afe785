use Rattle.std.proofs.Common.{rules, ap, ◌∙◌, not, arith}
use Rattle.std.proofs.lemmas.Fn.{filter_same}
use Rattle.cfdp_leases.specs.Leases.{is_same}
use Rattle.cfdp_leases.specs.code.Holders.{holders_in, others, unless_none}
use Rattle.cfdp_leases.proofs.Held.{path_left}
use Rattle.cfdp_leases.proofs.leased_paths.Holders.remove.Goals as goal

pub returns-in-Many : goal.returns-in-Many
returns-in-Many c =
    let id = c.args.transaction in
    let kept = filter_same _ (λ holder. not (is_same holder.transaction id)) _ (λ x b f' k. search rules) _ _ c.retain.ensures.filtered in
    ap (λ held_path. unless_none (others id (holders_in held_path))) c.in-Many.is
    ∙ path_left c.retain.new.self.items (others id c.in-Many.holders.items) c.retain.new.self.len c.is_empty.result kept
    (omega (arith, c.retain.new.self.ok.0)) c.is_empty.ensures
