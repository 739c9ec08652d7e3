-- A formula with definitions inlined, at types, is the formula at types with the definitions inlined.
use Rattle.std.proofs.Common.{◌≡◌, ℕ, List, [], ◌∷◌, get_or, suc, All, refl, ap, ◌∙◌, arith}
use Rattle.tasks.specs.trees.Tree.{Tree}
use Rattle.tasks.specs.trees.Binding.{inst_types, TyVar}
use Rattle.tasks.specs.Task.{DefinitionTree}
use Rattle.tasks.specs.Vocabulary.{Vocabulary}
use Rattle.tasks.specs.Valid.{IsDefinition}
use Rattle.tasks.proofs.TypeInstances.{IsSoundVocabulary}
use Rattle.evidence.specs.images.typing_laws.HasTyping.{HasTyping, IsTypeAt}
use Rattle.images.proofs.TypedImages.{image_at_types}
use Rattle.checks.specs.decl_checks.Structure.{defining_body}
use Rattle.inlining.specs.Inlining.{unfold_rule, with_uses_unfolded, inlined}
use Rattle.inlining.proofs.Bodies.{defined_body}
use Rattle.inlining.proofs.Uses.{unfold_typed_rule}
use Rattle.inlining.proofs.AtTypes.{rule_at_types}
use Rattle.inlining.proofs.Inlined.{inlined_keeps}

module _ (v : Vocabulary) (sound : IsSoundVocabulary v) (ys : List Tree) (each : (j : ℕ) → IsTypeAt v (get_or ys j (TyVar j))) where
  pub unfolded_at_types : (d : DefinitionTree) → IsDefinition v d → (types : List Tree) (e : Tree) → HasTyping v types e → with_uses_unfolded d (inst_types e ys) ≡ inst_types (with_uses_unfolded d e) ys
  unfolded_at_types d p types e x =
      let body = defining_body d.equation in
      let b = defined_body v d p in
      image_at_types v (unfold_rule d.symbol body) (unfold_typed_rule v sound d.symbol body b) ys each (λ ts a y. rule_at_types v ys each d.symbol body b ts a y) types e x

  pub inlined_at_types : (ds : List DefinitionTree) → All (IsDefinition v) ds → (types : List Tree) (e : Tree) → HasTyping v types e → inlined ds (inst_types e ys) ≡ inst_types (inlined ds e) ys
  inlined_at_types [] a types e x = refl
  inlined_at_types (d ∷ ds) a types e x =
      let rest : All (IsDefinition v) ds = λ k c l. a (suc k) c (omega arith) in
      ap (with_uses_unfolded d) (inlined_at_types ds rest types e x) ∙ unfolded_at_types d (a 0 d (omega arith)) types (inlined ds e) (inlined_keeps v sound ds rest types e x).typed
