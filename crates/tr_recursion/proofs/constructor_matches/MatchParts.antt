-- The first branch of a closed `match` of a task: its test, its body at the terms for its pattern's variables, and the `match` with the
-- other branches.
use Rattle.std.proofs.Common.{◌≡◌, ◌⊎◌, ◌≤◌, inl, List, [], ◌∷◌, All, refl, sym, ap, subst, ◌∙◌, arith}
use Rattle.std.proofs.lemmas.List.{append-nil}
use Rattle.std.proofs.lemmas.List.Elements.{All-cons, All-nil}
use Rattle.trees.specs.declared.Sort.{Sort}
use Rattle.trees.specs.declared.Sort.TheVariants.{Term, Formula}
use Rattle.trees.specs.Tree.{Tree, Two, HCase, HCell, HArm, head_of, above_params}
use Rattle.trees.specs.Binding.{inst_many}
use Rattle.trees.specs.Facts.{Each}
use Rattle.trees.specs.Sorts.{Fits, IsExpression, sort_of, type_of, yield, yield_type}
use Rattle.tasks.specs.Task.{TaskTree}
use Rattle.tasks.specs.Vocabulary.{of_task}
use Rattle.tasks.specs.Typing.{TypedUnder, BranchesFit, first_body, pattern_types}
use Rattle.tasks.specs.Valid.{IsGround, IsGroundFormula, IsValid}
use Rattle.tasks.specs.MatchTests.{test, bind}
use Rattle.congruence.specs.kernel.Right.{IsGroundExpression}
use Rattle.congruence.specs.tasks.typed_trees.instances.Instances.{AreFor}
use Rattle.congruence.proofs.tasks.typed_trees.instances.Typed.{many_sort, many_type}
use Rattle.tr_inline.specs.inlining.images.Open.{IsEnvironment, IsOpenUnder}
use Rattle.tr_inline.specs.inlining.images.PatternTerms.{IsTypedPattern, HasPartsOf, HasOfBoth}
use Rattle.tr_inline.proofs.inlining.images.Environments.{at_open}
use Rattle.tr_inline.proofs.inlining.images.Images.{branches_alike, expression_sort, expression_type}
use Rattle.tr_inline.proofs.inlining.images.PatternLaws.{matches_typed, matches_closed, matches_parts}

all_of : (P Q : Tree → Type 0) → ((e : Tree) → P e → Q e) → (es : List Tree) → Each P es → All Q es
all_of P Q f [] h = All-nil Q
all_of P Q f (e ∷ es) h = All-cons Q e es (f e h.0) (all_of P Q f es h.1)

module _ (t : TaskTree) (valid : IsValid t) (s p a r : Tree) (g : IsGroundExpression t (Two HCase s (Two HCell (Two HArm p a) r))) where
  abbrev W : Tree
  W = Two HCase s (Two HCell (Two HArm p a) r)

  pub typed_pattern : IsTypedPattern t [] p
  typed_pattern = record { sort = g.typed.3.2.0.0.0; typed = g.typed.3.2.2 }

  pub asked_term : sort_of s ≡ Term
  asked_term = g.typed.0.0.0

  pub asked_ground : IsGroundExpression t s
  asked_ground = record { sort = inl asked_term; typed = g.typed.2; ground = g.ground.0 }

  pub asked_type : type_of s ≡ type_of p
  asked_type = sym g.typed.1.0.0

  parts : HasPartsOf t p s
  parts = matches_parts t valid [] p s typed_pattern

  pub test_ground : IsGroundFormula t (test t p s)
  test_ground =
      let m = matches_typed t valid [] p s typed_pattern asked_term g.typed.2 asked_type in
      record { sort = m.sort; typed = m.formula; ground = parts.formula.variables 0 g.ground.1.0.0 g.ground.0 }

  pub terms_for : AreFor (of_task t) (pattern_types p) (bind t p s)
  terms_for = matches_closed t valid p s typed_pattern asked_term g.typed.2 asked_type

  pub body_typed : TypedUnder (of_task t) (pattern_types p) a
  body_typed = subst (λ (z : List Tree). TypedUnder (of_task t) z a) (append-nil (pattern_types p)) g.typed.3.2.3

  pub body_ground : IsGround a
  body_ground = g.ground.1.0.1

  body_sort : IsExpression (sort_of a)
  body_sort = g.typed.3.2.0.0.1

  around : IsEnvironment t (pattern_types p) (bind t p s) (above_params W)
  around = record {
    terms = terms_for;
    ground = all_of (HasOfBoth p s) IsGround (λ z h. h.variables 0 g.ground.1.0.0 g.ground.0) (bind t p s) parts.terms;
    above = let o : above_params s ≤ above_params W = omega arith in all_of (HasOfBoth p s) (λ z. above_params z ≤ above_params W) (λ z h. h.above (above_params W) o) (bind t p s) parts.terms;
  }

  opened : IsOpenUnder t [] (inst_many a (bind t p s)) (above_params W)
  opened = at_open t (pattern_types p) (bind t p s) (above_params W) around a (record { typed = body_typed; ground = body_ground; above = omega arith })

  pub inner_sort : sort_of (inst_many a (bind t p s)) ≡ sort_of W
  inner_sort = many_sort (of_task t) (pattern_types p) (bind t p s) terms_for a ∙ sym (expression_sort a body_sort)

  pub inner_type : type_of (inst_many a (bind t p s)) ≡ type_of W
  inner_type = many_type (of_task t) (pattern_types p) (bind t p s) terms_for a body_typed ∙ expression_type a body_sort

  pub inner_ground : IsGroundExpression t (inst_many a (bind t p s))
  inner_ground = record { sort = subst IsExpression (sym inner_sort) g.sort; typed = opened.typed; ground = opened.ground }

  -- the `match` with the other branches
  module _ (q b o : Tree) (e : r ≡ Two HCell (Two HArm q b) o) where
    fits : BranchesFit (type_of s) a (Two HCell (Two HArm q b) o)
    fits = subst (BranchesFit (type_of s) a) e g.typed.1.1

    first_is : first_body r ≡ b
    first_is = ap first_body e

    others_fit : BranchesFit (type_of s) (first_body r) r
    others_fit = branches_alike (type_of s) (type_of s) a (first_body r) r refl (ap sort_of first_is ∙ fits.0.1) (ap type_of first_is ∙ fits.0.2) g.typed.1.1

    second_sort : IsExpression (sort_of b)
    second_sort = subst IsExpression (sym fits.0.1) body_sort

    pub rest_fits : Fits (Two HCase s r)
    rest_fits = ((asked_term, g.typed.3.0.0.1), ap head_of e)

    pub rest_sort : sort_of (Two HCase s r) ≡ sort_of W
    rest_sort = ap yield e ∙ expression_sort b second_sort ∙ fits.0.1 ∙ sym (expression_sort a body_sort)

    pub rest_type : type_of (Two HCase s r) ≡ type_of W
    rest_type = ap yield_type e ∙ sym (expression_type b second_sort) ∙ fits.0.2 ∙ expression_type a body_sort

    pub rest_ground : IsGroundExpression t (Two HCase s r)
    rest_ground = record {
      sort = subst (λ (z : Sort). (z ≡ Term) ⊎ (z ≡ Formula)) (sym rest_sort) g.sort;
      typed = (rest_fits, others_fit, g.typed.2, g.typed.3.3);
      ground = (g.ground.0, g.ground.1.1);
    }
