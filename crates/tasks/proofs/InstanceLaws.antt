-- The laws of an instance by one closed term.
use Rattle.std.proofs.Common.{◌≡◌, ℕ, [], refl}
use Rattle.trees.specs.declared.Sort.TheVariants.{Kind}
use Rattle.trees.specs.Tree.{Tree}
use Rattle.trees.specs.Binding.{instantiating, inst, Param}
use Rattle.trees.specs.Sorts.{WellSorted, sort_of}
use Rattle.trees.specs.Facts.{IndicesFit}
use Rattle.trees.specs.laws.Sorts.{sort_of-change}
use Rattle.trees.proofs.Sizes.{sorted_fits}
use Rattle.trees.proofs.Types.{type_closed}
use Rattle.trees.proofs.RaisesNoIndex.{closed_inst_fits}
use Rattle.trees.specs.binders.Visits.{sorts_inst}
use Rattle.tasks.specs.Vocabulary.{Vocabulary}
use Rattle.tasks.specs.Typing.{TypedUnder}
use Rattle.tasks.specs.typed_trees.instances.Instances.{IsTermOf, IsClosedTerm, IsInstance}
use Rattle.tasks.proofs.typed_trees.instances.Typed.{inst_typed}
use Rattle.tasks.proofs.KeptInstances.{inst_variables, inst_parameters, inst_above}

module _ (body t : Tree) (o : IsClosedTerm t) (w : WellSorted body) where
  pub is_instance : IsInstance body t (inst body t)
  is_instance = record {
    sort = sort_of-change (instantiating t) (sorts_inst t o.sort) 0 body;
    typed = λ v ty k x. inst_typed v ty t k body x;
    variables = λ n x y. inst_variables t o.closed n body x y;
    parameters = λ types x y. inst_parameters t o.closed types body w x y;
    above = λ m x y. inst_above t o.closed m body x y;
  }

  pub instance_fits : WellSorted t → IndicesFit (inst body t)
  instance_fits k = closed_inst_fits body t (sorted_fits body w) o.closed (sorted_fits t k)

-- a parameter is a closed term of its type
pub param_closed : (n : ℕ) (ty : Tree) → WellSorted ty → sort_of ty ≡ Kind → IsClosedTerm (Param n ty)
param_closed n ty w k = record { sort = refl; closed = type_closed ty w k }

pub param_term : (v : Vocabulary) (n : ℕ) (ty : Tree) → sort_of ty ≡ Kind → TypedUnder v [] ty → IsTermOf v ty (Param n ty)
param_term v n ty k x = record { sort = refl; typed = (k, tt, x); type = refl }
