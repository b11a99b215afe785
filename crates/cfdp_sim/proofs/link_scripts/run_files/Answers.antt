use Rattle.std.proofs.Common.{map, IfOk, ◌∙◌, subst}
use Rattle.cfdp_links.specs.Linked.{IsLinked}
use Rattle.cfdp_links.specs.Links.{said_of}
use Rattle.cfdp_sim.proofs.link_scripts.run_files.Goals as goal

-- the configuration that was copied is the core's
pub returns-clause-ok : goal.returns-clause-ok
returns-clause-ok g c =
    let same = c.in_ok-config.ensures ∙ c.config.ensures in
    let heard = subst (λ files. IfOk c.text_of_work.result (λ text. IsLinked
    (record { config = c.in_ok-config.config; said = map (λ file. map said_of file.items) files }) text.items)) c.deref-2.ensures.value
    c.text_of_work.ensures.ok in
    subst (λ config. IfOk c.text_of_work.result (λ text. IsLinked (record {
      config = config;
      said = map (λ file. map said_of file.items) c.args.prepared.files.items;
    }) text.items)) same heard
