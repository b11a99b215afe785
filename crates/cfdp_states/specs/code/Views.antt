-- What only the proofs of the code need of `Views`.
--     sketch_code                   that a view is seen so
use Rattle.std.specs.Prelude.{ℕ, List, refl}
use Rattle.std.specs.Coded.{Coded, code_by, coded×, coded_list, coded_ℕ}
use Rattle.std.specs.FinMap as finite
use Rattle.cfdp_paths.specs.Paths.{Path}
use Rattle.cfdp_states.specs.declared.extent.Extent.{Extent}
use Rattle.cfdp_states.specs.Sketching.{Extents}
use Rattle.cfdp_states.specs.Views.{Sketch}

abbrev pub sketch_code : Coded Extent → Coded Sketch
sketch_code coded =
    code_by (List Path × (Extents × (ℕ × (ℕ × ℕ))))
    (coded× (coded_list (coded_list (coded_list coded_ℕ)))
    (coded× (finite.code (coded_list (coded_list coded_ℕ)) coded) (coded× coded_ℕ (coded× coded_ℕ coded_ℕ))))
    (λ v. (v.prefixes, (v.extents, (v.base, (v.need, v.steps)))))
    (λ p. record { prefixes = p.0; extents = p.1.0; base = p.1.1.0; need = p.1.1.1.0; steps = p.1.1.1.1 })
    (λ _. refl)
