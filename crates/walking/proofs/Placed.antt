-- An open tree that is made, and its instance at an environment.
use Rattle.std.proofs.Common.{◌≡◌, ℕ, ◌≤◌, List, length, All, refl, sym, ap, subst, ◌∙◌}
use Rattle.trees.specs.declared.TermId.{TermId}
use Rattle.trees.specs.Tree.{Tree, Two, HCase, HCell, HArm, above_params}
use Rattle.trees.specs.Node.{tree_at, trees_at, Holds}
use Rattle.trees.specs.Binding.{inst_many}
use Rattle.trees.specs.Sorts.{sort_of, IsExpression}
use Rattle.tasks.specs.Task.{TaskTree}
use Rattle.evidence.specs.Drafts.{DraftTree, Extends}
use Rattle.evidence.specs.Laws.{Extends_trans}
use Rattle.images.specs.Open.{IsEnvironment, IsOpenUnder, IsAt}
use Rattle.images.proofs.Images.{expression_sort}
use Rattle.congruence.proofs.Later.{held_later, tree_later}
use Rattle.walking.specs.Places.{types_for, IsInstanceAt}
use Rattle.walking.proofs.PlacesLater.{all_later, trees_later}

pub placed : (d d1 d2 : DraftTree) (x : Extends d d1) (y : Extends d1 d2) (env : List TermId) (n : ℕ) (W : Tree) → All (Holds d.trees) env → IsEnvironment d.task (types_for (trees_at d.trees env)) (trees_at d.trees env) n → IsOpenUnder d.task (types_for (trees_at d.trees env)) W n
    → IsExpression (sort_of W) → above_params W ≤ length d.task.params → length d.task.params ≤ n → (image right : TermId) → Holds d1.trees image → tree_at d1.trees image ≡ W → Holds d2.trees right → tree_at d2.trees right ≡ inst_many (tree_at d1.trees image) (trees_at d1.trees env)
    → IsInstanceAt d2 env image right n
placed d d1 d2 x y env n W he around open' ex own order image right hi ei hr er =
    let xy = Extends_trans d d1 d2 x y in
    let F = trees_at d.trees env in
    let ti : tree_at d2.trees image ≡ W = tree_later d1 d2 y image hi ∙ ei in
    let tr : tree_at d2.trees right ≡ inst_many W F = er ∙ ap (λ (z : Tree). inst_many z (trees_at d1.trees env)) ei ∙ ap (inst_many W) (trees_later d d1 x env he) in
    let at : IsAt d.task (types_for F) F W (inst_many W F) n = record { around = around; shape = open'; is = refl } in
    record {
      env_held = all_later d d2 xy env he;
      open_held = held_later d1 d2 y image hi;
      left_held = hr;
      sort = subst (λ (z : Tree). IsExpression (sort_of z)) (sym ti) ex;
      own = subst (λ (t : TaskTree). above_params (tree_at d2.trees image) ≤ length t.params) (sym xy.task) (subst (λ (z : Tree). above_params z ≤ length d.task.params) (sym ti) own);
      order = subst (λ (t : TaskTree). length t.params ≤ n) (sym xy.task) order;
      at = subst (λ (t : TaskTree). IsAt t (types_for (trees_at d2.trees env)) (trees_at d2.trees env) (tree_at d2.trees image) (tree_at d2.trees right) n) (sym xy.task)
          (subst (λ (z : List Tree). IsAt d.task (types_for z) z (tree_at d2.trees image) (tree_at d2.trees right) n) (sym (trees_later d d2 xy env he))
          (subst (λ (z : Tree). IsAt d.task (types_for F) F z (tree_at d2.trees right) n) (sym ti) (subst (λ (z : Tree). IsAt d.task (types_for F) F W z n) (sym tr) at)));
    }

pub environment_later : (d d1 : DraftTree) (x : Extends d d1) (env : List TermId) (n : ℕ) → All (Holds d.trees) env → IsEnvironment d.task (types_for (trees_at d.trees env)) (trees_at d.trees env) n → IsEnvironment d1.task (types_for (trees_at d1.trees env)) (trees_at d1.trees env) n
environment_later d d1 x env n h e =
    subst (λ (t : TaskTree). IsEnvironment t (types_for (trees_at d1.trees env)) (trees_at d1.trees env) n) (sym x.task) (subst (λ (z : List Tree). IsEnvironment d.task (types_for z) z n) (sym (trees_later d d1 x env h)) e)

pub expression_case : (s p b r : Tree) → IsExpression (sort_of b) → IsExpression (sort_of (Two HCase s (Two HCell (Two HArm p b) r)))
expression_case s p b r e = subst IsExpression (sym (expression_sort b e)) e
