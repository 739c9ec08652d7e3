-- A closed formula at no environment.
use Rattle.std.proofs.Common.{◌≡◌, ℕ, ◌≤◌, inr, [], length, refl, sym, ◌∙◌, arith}
use Rattle.trees.specs.declared.TermId.{TermId}
use Rattle.trees.specs.declared.Sort.TheVariants.{Formula}
use Rattle.trees.specs.Tree.{Tree, above_params}
use Rattle.trees.specs.Node.{tree_at}
use Rattle.trees.specs.Sorts.{sort_of}
use Rattle.trees.proofs.Many.{inst_many_closed}
use Rattle.tasks.specs.Vocabulary.{of_task}
use Rattle.tasks.proofs.Closing.{typed_closed}
use Rattle.congruence.specs.tasks.typed_trees.instances.Instances.{AreFor}
use Rattle.evidence.specs.Drafts.{DraftTree, IsFormulaAt}
use Rattle.walking.specs.declared.linked.Linked.{Linked}
use Rattle.walking.specs.Places.{IsInstanceAt, IsLinkOf}
use Rattle.walking.proofs.Places.{link_formula}

none_for : (d : DraftTree) → AreFor (of_task d.task) [] []
none_for d = record { as_many = refl; each = λ i k ty e q n. absurd (omega (arith, n)) }

pub closed_place : (d : DraftTree) (e : TermId) → IsFormulaAt d e → above_params (tree_at d.trees e) ≤ length d.task.params → IsInstanceAt d [] e e (length d.task.params)
closed_place d e f own = record {
  env_held = λ k z l. absurd (omega (arith, l));
  open_held = f.held;
  left_held = f.held;
  sort = inr f.ground.sort;
  own = own;
  order = omega arith;
  at = record {
    around = record { terms = none_for d; ground = λ k z l. absurd (omega (arith, l)); above = λ k z l. absurd (omega (arith, l)) };
    shape = record { typed = f.ground.typed; ground = f.ground.ground; above = own };
    is = sym (inst_many_closed [] 0 (tree_at d.trees e) (let l = typed_closed (of_task d.task) [] (tree_at d.trees e) f.ground.typed in omega (arith, l)));
  };
}

-- at no environment the open tree is its instance
pub same_right : (d : DraftTree) (e l : TermId) (n : ℕ) → IsInstanceAt d [] e l n → tree_at d.trees l ≡ tree_at d.trees e
same_right d e l n p = p.at.is ∙ inst_many_closed [] 0 (tree_at d.trees e) (let l = typed_closed (of_task d.task) [] (tree_at d.trees e) p.at.shape.typed in omega (arith, l))

-- the image of a formula is one
pub image_formula : (d : DraftTree) (l : TermId) (n : ℕ) (e : Tree) (m : Linked) → sort_of (tree_at d.trees l) ≡ Formula → IsLinkOf d [] l n e m → IsFormulaAt d m.image
image_formula d l n e m s k = record {
  held = k.place.open_held;
  ground = record { sort = link_formula d [] l n e m k s; typed = k.place.at.shape.typed; ground = k.place.at.shape.ground };
}
