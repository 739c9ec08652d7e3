-- The laws, each of lemmas.
use Rattle.std.proofs.Common.{◌∷◌}
use Rattle.tasks.proofs.Closing.{typed_sorted}
use Rattle.images.specs.Laws.{BodiesAreAt, NodesFill, NodesStayTyped, OneStaysTyped, ManyStayTyped}
use Rattle.images.proofs.Environments.{at_body}
use Rattle.images.proofs.Holes.{hole_let, hole_case, hole_left, hole_right, hole_function, hole_predicate}
use Rattle.images.proofs.Templates.{let_typed, case_typed, equal_left_typed, equal_right_typed, function_typed, predicate_typed}
use Rattle.images.proofs.Changes.{open_inst_typed, open_inst_type, open_inst_sort, open_inst_variables, open_inst_above, open_inst_parameters, open_many_typed, open_many_type, open_many_sort}

pub bodies : BodiesAreAt
bodies t types env n h a b l x y ty one single k q m c z r o g p w = at_body t types env n h a b l x y ty one single k q m c z r o g p w

pub fill : NodesFill
fill x ty c = record {
  value = λ b l. hole_let x c ty b l;
  scrutinee = λ arms l. hole_case x c ty arms l;
  left = λ e l. hole_left x c ty e l;
  right = λ e l. hole_right x c ty e l;
  function = λ f types result before rest k m a l. hole_function x c f types result before ty rest k m a l;
  predicate = λ p types before rest k a l. hole_predicate x c p types before ty rest k a l;
}

pub stay : NodesStayTyped
stay v x ty k s q = record {
  value = λ b z. let_typed v ty k x b q z;
  scrutinee = λ arms z. case_typed v ty k x arms q z;
  left = λ e z. equal_left_typed v ty k x e q z;
  right = λ e z. equal_right_typed v ty k e x q z;
  function = λ f types result before rest z. function_typed v ty k x rest q s f types result before z;
  predicate = λ p types before rest z. predicate_typed v ty k x rest q s p types before z;
}

pub one : OneStaysTyped
one v types ty t b s q z x = (
  record { typed = open_inst_typed v ty types t s q z b x; sort = open_inst_sort v ty types t s q z b x; type = open_inst_type v ty types t s q z b x },
  record {
    variables = λ n u h. open_inst_variables t n u b h;
    above = λ m u h. open_inst_above t m u b h;
    parameters = λ ps u h. open_inst_parameters t ps (typed_sorted v types t z) u b (typed_sorted v (ty ∷ types) b x) h;
  },
)

pub many : ManyStayTyped
many v types tys ts o b x = record { typed = open_many_typed v types tys ts o b x; sort = open_many_sort v types tys ts o b x; type = open_many_type v types tys ts o b x }
