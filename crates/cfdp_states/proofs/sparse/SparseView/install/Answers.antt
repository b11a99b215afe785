use Rattle.std.proofs.Common.{IfOk, Result, Ok, Err, Bool}
use Rattle.cfdp_states.proofs.SparseViews.{tells_sparse_install}
use Rattle.cfdp_states.proofs.sparse.SparseView.install.Goals as goal

said : {E : Type 0} {P Q : Bool → Type 0} (r : Result Bool E) → ((done : Bool) → P done → Q done) → IfOk r P → IfOk r Q
said (Ok done) f p = f done p
said (Err e) f p = tt

pub returns-clause-stated : goal.returns-clause-stated
returns-clause-stated c =
    said c.install.result (λ done stated. tells_sparse_install c.args.self.now.view c.install.new.self c.args.path.now c.args.bound done stated)
    c.install.ensures.stated
