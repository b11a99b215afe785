-- A row where prefixes are protected: barred, or the row where nothing is.
use Rattle.std.proofs.Common.{◌≡◌, sym, ◌∙◌, ap, subst, Bool, true, false, List, Result, Ok, Err, if◌then◌else◌}
use Rattle.std.specs.declared.alloc.AllocError.{AllocError}
use Rattle.cfdp_paths.specs.Paths.{Path}
use Rattle.cfdp_status.specs.declared.status.Status.{Status}
use Rattle.cfdp_status.specs.declared.status.Status.TheVariants.{NotAllowed}
use Rattle.cfdp_status.specs.declared.action.Action.{Action}
use Rattle.cfdp_actions.specs.Filestore.{Filestore, after}
use Rattle.cfdp_actions.specs.Actions.{Request, Perform, Performed, Outcome, succeeded, action_in, table, free_row, bars, denied, row}
use Rattle.cfdp_states.specs.Sketching.{Extents}
use Rattle.cfdp_states.specs.code.Sketching.{IsOutline, Does, DoesOrNot, Performs, PerformsOrNot}

row_barred : (prefixes : List Path) (F : Filestore) (request : Request) → bars prefixes request ≡ true → row prefixes F 0 (Perform request)
    ≡ denied (Perform request)
unfolding row
row_barred prefixes F request e = ap (λ b. if b then denied (Perform request) else free_row F 0 (Perform request)) e

row_free : (prefixes : List Path) (F : Filestore) (request : Request) → bars prefixes request ≡ false → row prefixes F 0 (Perform request) ≡ table F request
unfolding row free_row
row_free prefixes F request e = ap (λ b. if b then denied (Perform request) else free_row F 0 (Perform request)) e

pub barred : (prefixes : List Path) (m : Extents) (request : Request) (b : Bool) (action : Action) → b ≡ bars prefixes request → b ≡ true → action
    ≡ action_in request → Performs prefixes m m request (NotAllowed action)
barred prefixes m request b action is holds named =
    let e : (F : Filestore) → row prefixes F 0 (Perform request) ≡ denied (Perform request) = λ F. row_barred prefixes F request (sym is ∙ holds) in
    record {
      status = λ F h. ap (λ action. Performed (NotAllowed action)) named ∙ (λ i. (sym (e F) i).answer);
      outlines = λ F h. subst (λ (o : Outcome). IsOutline m (after F o.changes)) (sym (e F)) h;
      staged = λ F h. ap (λ (o : Outcome). (after F o.changes).staged) (e F);
    }

free : (prefixes : List Path) (m m' : Extents) (request : Request) (stated : Status) → bars prefixes request ≡ false → Does m m' request stated →
    Performs prefixes m m' request stated
free prefixes m m' request stated fails does =
    let e : (F : Filestore) → row prefixes F 0 (Perform request) ≡ table F request = λ F. row_free prefixes F request fails in
    record {
      status = λ F h. does.status F h ∙ (λ i. (sym (e F) i).answer);
      outlines = λ F h. subst (λ (o : Outcome). IsOutline m' (after F o.changes)) (sym (e F)) (does.outlines F h);
      staged = λ F h. ap (λ (o : Outcome). (after F o.changes).staged) (e F) ∙ does.staged F h;
    }

pub unbarred : (prefixes : List Path) (m m' : Extents) (request : Request) (b : Bool) (result : Result Status AllocError) → b ≡ bars prefixes request → b
    ≡ false → DoesOrNot m m' request result → PerformsOrNot prefixes m m' request result
unbarred prefixes m m' request b (Ok stated) is fails does = free prefixes m m' request stated (sym is ∙ fails) does
unbarred prefixes m m' request b (Err memory) is fails does =
    (does.0, does.1, λ F h. ap (λ (o : Outcome). succeeded o.answer) (row_free prefixes F request (sym is ∙ fails)) ∙ does.2 F h)
