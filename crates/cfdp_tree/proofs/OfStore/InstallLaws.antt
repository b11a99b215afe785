-- What a store is seen as after a slot and a path have changed twice.
--     insert_twice      the later one stays
--     made_there        a file that was made is there
--     staged_twice      a slot that was given other octets is emptied
--     made_over         a file that was made gets other octets
use Rattle.std.proofs.Common.{◌≡◌, ℕ, Bool, true, false, cond, List, [], ◌∷◌, set, Option, Some, None, refl, sym, ap, ◌∙◌}
use Rattle.std.proofs.lemmas.List.{set-set}
use Rattle.std.specs.FinMap as finite
use Rattle.std.specs.FinMap.{get-insert, same_map}
use Rattle.cfdp_paths.specs.Paths.{Path, path_cmp, same_path}
use Rattle.cfdp_paths.proofs.Comparing.{same_path-Decides, path_cmp-total}
use Rattle.cfdp_paths.proofs.InOrder.{path_antisym}
use Rattle.cfdp_actions.specs.Filestore.{Node, File, Becomes, Stages, node_at, is_file}
use Rattle.cfdp_actions.specs.Store.{Store, with_changes}

insert_twice : (m : finite.FinMap path_cmp Node) (p : Path) (a b : Node) → finite.insert (finite.insert m p a) p b ≡ finite.insert m p b
insert_twice m p a b = same_map path_cmp-total path_antisym (finite.insert (finite.insert m p a) p b) (finite.insert m p b)
    (λ q. get-insert path_cmp-total (finite.insert m p a) p b q
    ∙ ap (cond (same_path q p) (Some b)) (get-insert path_cmp-total m p a q)
    ∙ over (same_path q p) (finite.get m q)
    ∙ sym (get-insert path_cmp-total m p b q))
  where
    over : (same : Bool) (o : Option Node) → cond same (Some b) (cond same (Some a) o) ≡ cond same (Some b) o
    over true o = refl
    over false o = refl

module _ (s : Store) (p : Path) where
  pub made_there : (octets : List ℕ) → is_file (node_at (with_changes s (Becomes p (Some (File octets)) ∷ [])).filestore p) ≡ true
  made_there octets = ap is_file (get-insert path_cmp-total s.filestore.nodes p (File octets) p
      ∙ ap (λ same. cond same (Some (File octets)) (finite.get s.filestore.nodes p)) ((same_path-Decides p p).1 refl))

  pub staged_twice : (slot : ℕ) (a b : List ℕ) (node : Option Node)
      → with_changes (with_changes s (Stages slot a ∷ Becomes p node ∷ [])) (Stages slot b ∷ []) ≡ with_changes s (Stages slot b ∷ Becomes p node ∷ [])
  staged_twice slot a b None = (λ k. record s {
    filestore = record s.filestore {
      nodes = finite.remove s.filestore.nodes p;
      staged = set-set s.filestore.staged slot a b k;
    };
  })
  staged_twice slot a b (Some found) = (λ k. record s {
    filestore = record s.filestore {
      nodes = finite.insert s.filestore.nodes p found;
      staged = set-set s.filestore.staged slot a b k;
    };
  })

  pub made_over : (slot : ℕ) (octets : List ℕ) (a b : Node)
      → with_changes (with_changes s (Becomes p (Some a) ∷ [])) (Stages slot octets ∷ Becomes p (Some b) ∷ [])
      ≡ with_changes s (Stages slot octets ∷ Becomes p (Some b) ∷ [])
  made_over slot octets a b = (λ k. record s {
    filestore = record s.filestore {
      nodes = insert_twice s.filestore.nodes p a b k;
      staged = set s.filestore.staged slot octets;
    };
  })
