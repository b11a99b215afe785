-- The block of one node is written, taken or given back.
--     octets_of-with_same                   what is in a block that was written
--     octets_other, home_other, name_other  the other nodes say what they said
--     was_other                             and were nodes before
--     still_named                           each node's name is still one
--     changed_tree                          there is a tree still
use Rattle.std.proofs.Common.{◌≡◌, ◌≢◌, ℕ, ◌<◌, List, [], length, Some, sym, ap, ◌∙◌, subst, inl, inr}
use Rattle.std.proofs.lemmas.Bool.{cases_eq}
use Rattle.std.specs.Prelude.{IsSome, unwrap_or}
use Rattle.cfdp_arena.specs.Arena.{Blocks, octets_at, octets_of, with_block}
use Rattle.cfdp_arena.proofs.Laws.{octets_at-with_same}
use Rattle.cfdp_tree.specs.code.NodeFields.{node_fields_of, node_name, kind_of_octet}
use Rattle.cfdp_tree.specs.code.Tree.{IsNode, IsDirectory, name_at, home_in, home, most_names, Ends, IsEntry, IsNamed, IsTree}

pub octets_of-with_same : (old : Blocks) (b : ℕ) (block : List ℕ) → b < length old → octets_of (with_block old b block) b ≡ block
octets_of-with_same old b block within = ap (λ entry. unwrap_or entry []) (octets_at-with_same old b block within)

module _ (old new : Blocks) (b : ℕ) (others : (c : ℕ) → c ≢ b → octets_at new c ≡ octets_at old c) where
  pub octets_other : (c : ℕ) → c ≢ b → octets_of new c ≡ octets_of old c
  octets_other c other = ap (λ entry. unwrap_or entry []) (others c other)

  pub home_other : (c : ℕ) → c ≢ b → home new c ≡ home old c
  home_other c other = ap (home_in c) (octets_other c other)

  pub name_other : (c : ℕ) → c ≢ b → name_at new c ≡ name_at old c
  name_other c other = ap node_name (octets_other c other)

  pub was_other : (c : ℕ) → IsNode new c → c ≢ b → IsNode old c
  was_other c node other = subst IsSome (others c other) node

  module _ (tree : IsTree old) (named : IsNode new b → IsNamed (octets_of new b)) where
    pub still_named : (c : ℕ) → IsNode new c → IsNamed (octets_of new c)
    still_named c node = elim (cases_eq c b) [
      | inl e ↦ subst (λ x. IsNamed (octets_of new x)) (sym e) (named (subst (IsNode new) e node))
      | inr other ↦ subst IsNamed (sym (octets_other c other)) (tree.named c (was_other c node other))
    ]

    -- the node is in the root or in a directory, has a name of its own there, and is still a directory where something is in it
    module _ (good : IsNode new b → (d : ℕ) → home new b ≡ Some d → IsDirectory old d)
        (fresh : IsNode new b → (c : ℕ) → IsEntry old (home new b) (name_at new b) c → ⊥)
        (still : (c : ℕ) → IsNode new c → home new c ≡ Some b → IsDirectory old b → IsDirectory new b)
        (ends : (c : ℕ) → IsNode new c → Ends new most_names c) where
      homes_old : (c d : ℕ) → IsNode new c → home new c ≡ Some d → IsDirectory old d
      homes_old c d node there = elim (cases_eq c b) [
        | inl e ↦ good (subst (IsNode new) e node) d (sym (ap (home new) e) ∙ there)
        | inr other ↦ tree.homes c d (was_other c node other) (sym (home_other c other) ∙ there)
      ]

      directory_kept : (d : ℕ) → d ≢ b → IsDirectory old d → IsDirectory new d
      directory_kept d other was = record {
        node = subst IsSome (sym (others d other)) was.node;
        directory = ap (λ o. kind_of_octet (node_fields_of o).kind) (octets_other d other) ∙ was.directory;
      }

      homes_new : (c d : ℕ) → IsNode new c → home new c ≡ Some d → IsDirectory new d
      homes_new c d node there = elim (cases_eq d b) [
        | inl e ↦ subst (IsDirectory new) (sym e) (still c node (there ∙ ap Some e) (subst (IsDirectory old) e (homes_old c d node there)))
        | inr other ↦ directory_kept d other (homes_old c d node there)
      ]

      -- under its name there is nothing else
      alone : (c : ℕ) → IsNode new b → IsNode new c → c ≢ b → home new c ≡ home new b → name_at new c ≡ name_at new b → ⊥
      alone c here node other there name =
          fresh here c (record { node = was_other c node other; there = sym (home_other c other) ∙ there; named = sym (name_other c other) ∙ name })

      unique_new : (c d : ℕ) → IsNode new c → IsNode new d → home new c ≡ home new d → name_at new c ≡ name_at new d → c ≡ d
      unique_new c d node also there name = elim (cases_eq c b) [
        | inl e ↦ elim (cases_eq d b) [
          | inl f ↦ e ∙ sym f
          | inr other ↦ absurd (alone d (subst (IsNode new) e node) also other (sym there ∙ ap (home new) e) (sym name ∙ ap (name_at new) e))
        ]
        | inr other ↦ elim (cases_eq d b) [
          | inl f ↦ absurd (alone c (subst (IsNode new) f also) node other (there ∙ ap (home new) f) (name ∙ ap (name_at new) f))
          | inr else ↦ tree.unique c d (was_other c node other) (was_other d also else)
              (sym (home_other c other) ∙ there ∙ home_other d else) (sym (name_other c other) ∙ name ∙ name_other d else)
        ]
      ]

      pub changed_tree : IsTree new
      changed_tree = record { named = still_named; homes = homes_new; ends = ends; unique = unique_new }
