-- The equation of a branch of a definition at types opens to what the branch of the body says of a use of the symbol.
use Rattle.std.proofs.Common.{◌≡◌, ℕ, zero, suc, ◌<◌, List, [], ◌∷◌, length, get_or, All, Option, Some, refl, sym, ap, subst, ◌∙◌, arith}
use Rattle.trees.specs.declared.Op.TheVariants.{Iff}
use Rattle.trees.specs.Tree.{Tree, One, Two, HBound, HCase, HEq, HJoin, HForall, loose, pat_vars}
use Rattle.trees.specs.Binding.{inst_types, inst_many, TyVar, AreTypes, AreClosed}
use Rattle.trees.specs.Sorts.{WellSorted}
use Rattle.trees.specs.laws.Sorts.{kind_no_vars}
use Rattle.trees.proofs.Types.{type_closed}
use Rattle.tasks.specs.declared.facts.Fact.TheVariants as fact
use Rattle.tasks.specs.Task.{TaskTree, DefinitionTree, PropositionTree, symbol_or}
use Rattle.tasks.specs.Equations.{cells}
use Rattle.tasks.specs.Typing.{members}
use Rattle.tasks.specs.Vocabulary.{of_task}
use Rattle.tasks.specs.Valid.{IsTypeOver, IsDefinition}
use Rattle.tasks.proofs.Closing.{typed_sorted}
use Rattle.evidence.specs.Facts.{at_symbol, fact_named}
use Rattle.tr_inline.specs.inlining.branch_equations.Branches.{quantifiers}
use Rattle.tr_inline.proofs.inlining.branch_equations.AtTerms.{branches_at_terms}
use Rattle.tr_inline.proofs.inlining.branch_equations.Formulas.{counted_is}
use Rattle.tr_inline.proofs.inlining.branch_equations.Matches.{IsMatch, matched_is}
use Rattle.tr_recursion.specs.branch_instances.Chosen.{arms_of, IsChosenOf}
use Rattle.tr_recursion.specs.branch_instances.Instances.{SaysChosen}
use Rattle.tr_recursion.proofs.branch_instances.Instances.{says_chosen}
use Rattle.tr_inline.specs.inlining.Inlining.{use_body}
use Rattle.tr_inline.specs.inlining.images.Instances.{for_all_at}
use Rattle.tr_inline.specs.checks.decl_checks.Structure.{defining_body}
use Rattle.tr_inline.proofs.inlining.images.DataTerms.{cells_members}
use Rattle.tr_inline.specs.Definitions.{formula_or_end, body_in, unfolding_rule}
use Rattle.tr_inline.proofs.Unfolded.{use_rule}
use Rattle.tr_recursion.specs.branch_steps.Instances.{OpensToBranch, IsBranchAt}
use Rattle.tr_recursion.proofs.branch_steps.Arms.{AreArms, arms_are}

-- a definition's body is well sorted as its equation is
body_sorted : (e : Tree) → WellSorted e → WellSorted (defining_body e)
body_sorted (Two HForall a b) w = body_sorted b w.2
body_sorted (Two HEq a b) w = w.2
body_sorted (Two (HJoin Iff) a b) w = w.2
body_sorted _ w = w

module _ (t : TaskTree) where
  -- types of the task are closed
  closed_at : (ys : List Tree) → All (IsTypeOver t 0) ys → (j n : ℕ) → loose (get_or ys j (TyVar n)) ≡ 0
  closed_at [] a j n = refl
  closed_at (y ∷ ys) a zero n = let k = a 0 y (omega arith) in type_closed y (typed_sorted (of_task t) [] y k.typed) k.sort
  closed_at (y ∷ ys) a (suc j) n = closed_at ys (λ i e l. a (suc i) e (omega (arith, l))) j n

  no_vars_at : (ys : List Tree) → All (IsTypeOver t 0) ys → (j n : ℕ) → pat_vars (get_or ys j (TyVar n)) ≡ 0
  no_vars_at [] a j n = refl
  no_vars_at (y ∷ ys) a zero n = kind_no_vars y (a 0 y (omega arith)).sort
  no_vars_at (y ∷ ys) a (suc j) n = no_vars_at ys (λ i e l. a (suc i) e (omega (arith, l))) j n

  are_types : (ys : List Tree) → All (IsTypeOver t 0) ys → AreTypes ys
  are_types ys a = record { closed = λ j. closed_at ys a j j; no_vars = λ j. no_vars_at ys a j j }

  are_closed : (ys : List Tree) → All (IsTypeOver t 0) ys → AreClosed ys
  are_closed [] a = tt
  are_closed (y ∷ ys) a = ((closed_at (y ∷ ys) a 0 0, no_vars_at (y ∷ ys) a 0 0), are_closed ys (λ i e l. a (suc i) e (omega (arith, l))))

  module _ (m : DefinitionTree) (a : IsDefinition (of_task t) m) (named : fact_named t (fact.Equation m.symbol) ≡ Some (at_symbol t m.symbol m.equation)) (types : List Tree) (e : Tree) (b : IsBranchAt t m types e) where
    match : IsMatch (quantifiers m.equation) (defining_body m.equation) b.index b.branches
    match = matched_is (quantifiers m.equation) (defining_body m.equation) (b.index, b.branches) b.matched

    arms : AreArms match.branches b.branches
    arms = arms_are match.branches b.branches match.are (subst WellSorted match.is (body_sorted m.equation (typed_sorted (of_task t) [] m.equation a.formula.typed))).2

    body_is : defining_body m.equation ≡ Two HCase (One (HBound b.index) match.type) (arms_of b.branches)
    body_is = match.is ∙ ap (Two HCase (One (HBound b.index) match.type)) arms.is

    within : b.index < length (symbol_or t.symbols m.symbol).args
    within = let n = counted_is (of_task t) m a in omega (arith, match.within, n)

    says : (ws : List Tree) → AreClosed ws → length ws ≡ quantifiers e → SaysChosen m.symbol (defining_body m.equation) types (for_all_at e ws)
    says ws c l =
        subst (λ (z : Tree). SaysChosen m.symbol (defining_body m.equation) types (for_all_at z ws)) (sym b.is)
        (says_chosen branches_at_terms (of_task t) m a b.index b.branches match.type body_is within arms.plain match.different b.place b.branch b.there types (are_types types b.ground) (are_closed types b.ground) b.as_many ws c (l ∙ ap quantifiers b.is))

    body_named : body_in t m.symbol ≡ defining_body m.equation
    body_named = ap (λ (o : Option PropositionTree). defining_body (formula_or_end o)) named

    pub opens_to_branch : OpensToBranch t m.symbol e
    opens_to_branch ws c l =
        let s = says ws c l in
        let q : unfolding_rule t m.symbol s.left ≡ inst_many (inst_types (defining_body m.equation) types) s.terms =
        use_rule m.symbol (body_in t m.symbol) s.left (cells types) (cells s.terms) s.use' ∙ ap (λ (z : Tree). use_body z (cells types) (cells s.terms)) body_named
        ∙ ap (λ (z : List Tree). inst_many (inst_types (defining_body m.equation) z) (members (cells s.terms))) (cells_members types)
        ∙ ap (inst_many (inst_types (defining_body m.equation) types)) (cells_members s.terms) in
        record {
          sides = record { head = s.head; left = s.left; right = s.right; is = s.is; kind = s.kind };
          types = cells types;
          args = cells s.terms;
          used = s.use';
          chosen = subst (λ (z : Tree). IsChosenOf z s.right) (sym q) s.chosen;
        }
