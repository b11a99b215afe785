-- What calls of a head, and of the entity after it, come to for a script.
use Rattle.std.proofs.Common.{◌≡◌, ◌≢◌, ℕ, List, [], ◌++◌, refl, ap, sym, ◌∙◌}
use Rattle.std.proofs.lemmas.List.{append-nil}
use Rattle.std.specs.Prelude.{Option, Some, None, Result, Ok, Err, IfSome, option_map}
use Rattle.cfdp_paths.specs.Paths.{Path}
use Rattle.cfdp_actions.specs.Filestore.{Node, File}
use Rattle.cfdp_run.specs.Commands.{PutContent, Nothing, Octets, File as Named}
use Rattle.cfdp_run.specs.Putting.{path_wrong}
use Rattle.cfdp_run.specs.Scripts.{Head, Play, ScriptStage, Playing, Step, head_changed, in_head, put, put_content, put_file, put_node, put_read, unless, written}
use Rattle.cfdp_run.specs.Stages.{head_of, play_from}
use Rattle.cfdp_run.specs.Stops.{ScriptEnd, IsWrong, NoMemory, Unread, stop_of}
use Rattle.cfdp_run.specs.declared.head.Head.{Head as HeadValue}
use Rattle.cfdp_run.specs.declared.play.Play.{Play as PlayValue}
use Rattle.cfdp_run.specs.declared.stop.ScriptStop.{ScriptStop as StopValue}
use Rattle.cfdp_run.specs.declared.words.FirstWord.{FirstWord}
use Rattle.cfdp_run.specs.declared.words.FirstWord.TheVariants as word
use Rattle.cfdp_run.specs.declared.wrong.Wrong.{Wrong}
use Rattle.cfdp_run_script.specs.Steps.{Leads, StopsScript, script_stage}
use Rattle.cfdp_run_script.specs.code.Steps.{held, held_in}

-- ---- the head

pub head_step : (h g : HeadValue) (p q : Option PlayValue) (w : FirstWord) (change : Head → Result Head ScriptEnd) → p ≡ None → q ≡ p → change (head_of h)
    ≡ Ok (head_of g) →
    in_head w (script_stage h p) change ≡ Ok (script_stage g q, [])
unfolding script_stage
head_step h g p q w change none same e = rw (same, none) (ap head_changed e)

pub head_stop : (h : HeadValue) (p : Option PlayValue) (w : FirstWord) (change : Head → Result Head ScriptEnd) (why : ScriptEnd) → p ≡ None → change (head_of h)
    ≡ Err why
    →
    in_head w (script_stage h p) change ≡ Err why
unfolding script_stage
head_stop h p w change why none e = rw none (ap head_changed e)

pub not_wrong : (o : Option Wrong) (later : Result Head ScriptEnd) → o ≡ None → unless o later ≡ later
not_wrong o later none = rw none refl

pub is_wrong : (o : Option Wrong) (later : Result Head ScriptEnd) (why : ScriptEnd) → option_map IsWrong o ≡ Some why → unless o later ≡ Err why
is_wrong None later why e = absurd cc
is_wrong (Some wrong) later why e = let same : IsWrong wrong ≡ why = cc in ap Err same

-- something is put at a path

pub put_not_wrong : (h : Head) (path : Path) (node : Node) → path_wrong h.world.filestore path ≡ None → put h path node ≡ put_node h path node
unfolding put
put_not_wrong h path node none = not_wrong (path_wrong h.world.filestore path) (put_node h path node) none

pub put_wrong : (h : Head) (path : Path) (node : Node) (why : ScriptEnd) → option_map IsWrong (path_wrong h.world.filestore path) ≡ Some why → put h path node
    ≡ Err why
unfolding put
put_wrong h path node why e = is_wrong (path_wrong h.world.filestore path) (put_node h path node) why e

-- what a file is to hold was found, or not

put_held : (files : List ℕ → Option (List ℕ)) (h : Head) (path : Path) (content : PutContent) (octets : List ℕ) → held files content ≡ Ok octets →
    put_content files h path content ≡ put_node h path (File octets)
put_held files h path Nothing octets e = let same : [] ≡ octets = cc in ap (λ (o : List ℕ). put_node h path (File o)) same
put_held files h path (Octets some) octets e = let same : some ≡ octets = cc in ap (λ (o : List ℕ). put_node h path (File o)) same
put_held files h path (Named name) octets e =
    elim (files name) as (λ o. held_in name o ≡ Ok octets → put_read h path name o ≡ put_node h path (File octets)) [
      | None ↦ λ bad. absurd cc
      | Some some ↦ λ is. let same : some ≡ octets = cc in ap (λ (o : List ℕ). put_node h path (File o)) same
    ]
    e

put_unheld : (files : List ℕ → Option (List ℕ)) (h : Head) (path : Path) (content : PutContent) (why : ScriptEnd) → held files content ≡ Err why →
    put_content files h path content ≡ Err why
put_unheld files h path Nothing why e = absurd cc
put_unheld files h path (Octets some) why e = absurd cc
put_unheld files h path (Named name) why e =
    elim (files name) as (λ o. held_in name o ≡ Err why → put_read h path name o ≡ Err why) [
      | None ↦ λ is. let same : Unread name ≡ why = cc in ap Err same
      | Some some ↦ λ bad. absurd cc
    ]
    e

pub put_file_held : (files : List ℕ → Option (List ℕ)) (h : Head) (path : Path) (content : PutContent) (octets given : List ℕ) →
    path_wrong h.world.filestore path
    ≡ None →
    held files content ≡ Ok octets → given ≡ octets → put_file files h path content ≡ put_node h path (File given)
put_file_held files h path content octets given none e same =
    not_wrong (path_wrong h.world.filestore path) (put_content files h path content) none ∙ put_held files h path content octets e
    ∙ ap (λ (o : List ℕ). put_node h path (File o)) (sym same)

pub put_file_unheld : (files : List ℕ → Option (List ℕ)) (h : Head) (path : Path) (content : PutContent) (why : ScriptEnd) → path_wrong h.world.filestore path
    ≡ None →
    held files content ≡ Err why → put_file files h path content ≡ Err why
put_file_unheld files h path content why none e =
    not_wrong (path_wrong h.world.filestore path) (put_content files h path content) none ∙ put_unheld files h path content why e

pub put_file_wrong : (files : List ℕ → Option (List ℕ)) (h : Head) (path : Path) (content : PutContent) (why : ScriptEnd) →
    option_map IsWrong (path_wrong h.world.filestore path) ≡ Some why → put_file files h path content ≡ Err why
put_file_wrong files h path content why e = is_wrong (path_wrong h.world.filestore path) (put_content files h path content) why e

-- ---- the entity after it

pub written_does : (h : HeadValue) (p : Option PlayValue) (after : PlayValue) (next : Play) (before text lines : List ℕ) → p ≡ Some after → play_from after
    ≡ next →
    lines ≡ (play_from after).lines → text ≡ before ++ lines → Leads (written next) (script_stage h p) before text
unfolding script_stage
written_does h p after next before text lines is e l a = rw is (record {
  text = lines;
  does = ap written (sym e) ∙ ap (λ (o : List ℕ). Ok (Playing (play_from after), o)) (sym l);
  appended = a;
})

-- ---- lines

pub no_memory : (step : Step) (why : StopValue) → stop_of why ≡ NoMemory → StopsScript step why
no_memory step why e = λ not_memory. absurd (not_memory e)

pub silent : (step : Step) (stage : ScriptStage) (text : List ℕ) → step ≡ Ok (stage, []) → Leads step stage text text
silent step stage text e = record { text = []; does = e; appended = sym (append-nil text) }

-- ---- where the files are known

abbrev pub Known : Type 0
Known = Option (List ℕ → Option (List ℕ))

abbrev pub PutStep : (List ℕ → Option (List ℕ)) → HeadValue → Option PlayValue → Path → PutContent → Step
PutStep map h p path content = in_head word.Put (script_stage h p) (λ head. put_file map head path content)

pub file_put : (known : Known) (h g : HeadValue) (p q : Option PlayValue) (path : Path) (content : PutContent) (octets given : List ℕ) → p ≡ None → q ≡ p →
    path_wrong (head_of h).world.filestore path ≡ None → IfSome known (λ map. held map content ≡ Ok octets) → given ≡ octets →
    put_node (head_of h) path (File given) ≡ Ok (head_of g) → IfSome known (λ map. PutStep map h p path content ≡ Ok (script_stage g q, []))
file_put None h g p q path content octets given none kept vacant e same put = tt
file_put (Some map) h g p q path content octets given none kept vacant e same put =
    head_step h g p q word.Put (λ head. put_file map head path content) none kept (put_file_held map (head_of h) path content octets given vacant e same ∙ put)

pub file_wrong : (known : Known) (h : HeadValue) (p : Option PlayValue) (path : Path) (content : PutContent) (why : StopValue) → p ≡ None →
    (stop_of why ≢ NoMemory → option_map IsWrong (path_wrong (head_of h).world.filestore path) ≡ Some (stop_of why)) →
    IfSome known (λ map. StopsScript (PutStep map h p path content) why)
file_wrong None h p path content why none e = tt
file_wrong (Some map) h p path content why none e = λ not_memory.
    head_stop h p word.Put (λ head. put_file map head path content) (stop_of why) none
    (put_file_wrong map (head_of h) path content (stop_of why) (e not_memory))

pub file_unread : (known : Known) (h : HeadValue) (p : Option PlayValue) (path : Path) (content : PutContent) (why : StopValue) → p ≡ None →
    path_wrong (head_of h).world.filestore path ≡ None → IfSome known (λ map. stop_of why ≢ NoMemory → held map content ≡ Err (stop_of why)) →
    IfSome known (λ map. StopsScript (PutStep map h p path content) why)
file_unread None h p path content why none vacant e = tt
file_unread (Some map) h p path content why none vacant e = λ not_memory.
    head_stop h p word.Put (λ head. put_file map head path content) (stop_of why) none
    (put_file_unheld map (head_of h) path content (stop_of why) vacant (e not_memory))

pub file_not_put : (known : Known) (h : HeadValue) (p : Option PlayValue) (path : Path) (content : PutContent) (octets given : List ℕ) (why : StopValue) → p
    ≡ None →
    path_wrong (head_of h).world.filestore path ≡ None → IfSome known (λ map. held map content ≡ Ok octets) → given ≡ octets →
    (stop_of why ≢ NoMemory → put_node (head_of h) path (File given) ≡ Err (stop_of why)) → IfSome known (λ map. StopsScript (PutStep map h p path content) why)
file_not_put None h p path content octets given why none vacant e same put = tt
file_not_put (Some map) h p path content octets given why none vacant e same put = λ not_memory.
    head_stop h p word.Put (λ head. put_file map head path content) (stop_of why) none
    (put_file_held map (head_of h) path content octets given vacant e same ∙ put not_memory)

-- a line that writes nothing
pub quiet : (known : Known) (steps : (List ℕ → Option (List ℕ)) → Step) (stage : ScriptStage) (text : List ℕ)
    → IfSome known (λ map. steps map ≡ Ok (stage, [])) →
    IfSome known (λ map. Leads (steps map) stage text text)
quiet None steps stage text e = tt
quiet (Some map) steps stage text e = silent (steps map) stage text e

pub always : (known : Known) (step : Step) (stage : ScriptStage) (text : List ℕ) → step ≡ Ok (stage, []) → IfSome known (λ map. Leads step stage text text)
always None step stage text e = tt
always (Some map) step stage text e = silent step stage text e
