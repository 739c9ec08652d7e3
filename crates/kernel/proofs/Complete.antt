-- What may be in a step: its sort, and that it is well typed and free of schematic types.
use Rattle.std.proofs.lemmas.List.Elements.{All-nil}
use Rattle.trees.specs.Node.{Holds}
use Rattle.rules.specs.declared.rule.Step.{Step}
use Rattle.rules.specs.declared.rule.Rule.{Rule}
use Rattle.rules.specs.declared.rule.Rule.TheVariants.{Fact, Def, Clause, Inv}
use Rattle.rules.specs.Trees.{RuleTree, RReplace, StepTree, rule_trees, rule_types, sequents}
use Rattle.rules.specs.Rows.{IsRuleRow}
use Rattle.kernel.specs.Right.{IsRight}
use Rattle.rules.specs.Meaning.{rule_at, types_in, RuleHeld, step_at}
use Rattle.std.proofs.Common.{◌≡◌, ◌↔◌, ◌⊎◌, ◌==◌, ℕ, ◌<◌, Bool, true, IsTrue, refl, sym, ◌∙◌, List, [], ◌∷◌, length, get_or, slice_get, All, Option, Some, None, arith}
use Rattle.std.proofs.lemmas.Bool.Decides.{nat_tests}
use Rattle.std.specs.Prelude.{IsSomeAnd}
use Rattle.trees.specs.Binding.{inst}
use Rattle.trees.specs.Sorts.{type_of}
use Rattle.rules.specs.Forms.{equation_sides}
use Rattle.rules.specs.Rows.{IsTemplate, Adds}
use Rattle.trees.specs.declared.TermId.{TermId}
use Rattle.trees.specs.Node.{tree_at}
use Rattle.tasks.specs.Meaning.{trees_at}
use Rattle.tasks.proofs.Closing.{closed_iff, typed_closed, typed_open}
use Rattle.rules.proofs.Sequents.{All-unmap}
use Rattle.trees.specs.declared.Sort.TheVariants.{Kind, Term, Formula}
use Rattle.trees.specs.Tree.{Tree, loose}
use Rattle.trees.specs.Sorts.{sort_of}
use Rattle.trees.specs.Facts.{Each}
use Rattle.tasks.specs.Task.{TaskTree}
use Rattle.tasks.specs.Vocabulary.{of_task}
use Rattle.tasks.specs.Typing.{IsTyped}
use Rattle.tasks.specs.Valid.{IsGround, IsGroundFormula, IsTypeOver}
use Rattle.kernel.specs.Right.{IsGroundExpression}
use Rattle.kernel.specs.Open.{OpenIn, TemplateIsOpen, StepIsOpen, IsComplete, EachClosed}
use Rattle.rules.proofs.term_rules.Bound.{zero_of as is_zero}

module _ (t : TaskTree) (e : Tree) where
  -- where no variable is open
  pub open_closed : OpenIn t e → (loose e ≡ 0) ↔ IsTyped t e
  open_closed o = closed_iff (of_task t) e o

  pub complete_closed : (l : ℕ) (r : Bool) → OpenIn t e → l ≡ loose e → l ≡ 0 → IsTrue r ↔ IsGround e → IsTrue r ↔ IsComplete t e
  complete_closed l r o q z g = (λ h. ((open_closed o).0 (sym q ∙ z), g.0 h), λ x. g.1 x.1)

  pub complete_open : (l : ℕ) → OpenIn t e → l ≡ loose e → (l ≡ 0 → ⊥) → IsTrue (l == 0) ↔ IsComplete t e
  complete_open l o q n = (λ h. absurd (n (is_zero l h)), λ x. absurd (n (q ∙ (open_closed o).1 x.0)))

  pub sentence : IsGroundFormula t e ↔ (sort_of e ≡ Formula) × IsComplete t e
  sentence = (λ h. (h.sort, (h.typed, h.ground)), λ h. record { sort = h.0; typed = h.1.0; ground = h.1.1 })

  pub type_over : IsTypeOver t 0 e ↔ (sort_of e ≡ Kind) × IsComplete t e
  type_over = (λ h. (h.sort, (h.typed, h.variables)), λ h. record { sort = h.0; typed = h.1.0; variables = h.1.1 })

  pub expression : IsGroundExpression t e ↔ ((sort_of e ≡ Term) ⊎ (sort_of e ≡ Formula)) × IsComplete t e
  expression = (λ h. (h.sort, (h.typed, h.ground)), λ h. record { sort = h.0; typed = h.1.0; ground = h.1.1 })

pub each_closed : (t : TaskTree) (es : List Tree) → Each (IsGroundExpression t) es → EachClosed es
each_closed t [] h = tt
each_closed t (e ∷ es) h = (let l = typed_closed (of_task t) [] e h.0.typed in omega (arith, l), each_closed t es h.1)

pub all_closed : (t : TaskTree) (s : List Tree) (ids : List TermId) → All (IsGroundFormula t) (trees_at s ids) → All (λ a. loose (tree_at s a) ≡ 0) ids
all_closed t s ids h =
    let g : All (λ a. IsGroundFormula t (tree_at s a)) ids = All-unmap (IsGroundFormula t) (tree_at s) ids h in
    λ k d l. let x = typed_closed (of_task t) [] (tree_at s (get_or ids k d)) (g k d l).typed in omega (arith, x)

pub types_named : (s : List Tree) (r : Rule) → rule_types (rule_at s r) ≡ trees_at s (types_in r)
types_named s (Fact k types) = refl
types_named s (Def k types) = refl
types_named s (Clause k c types) = refl
types_named s (Inv k types) = refl
types_named s _ = refl

pub types_held : (s : List Tree) (r : Rule) → RuleHeld s r → All (Holds s) (types_in r)
types_held s (Fact k types) h = h
types_held s (Def k types) h = h
types_held s (Clause k c types) h = h
types_held s (Inv k types) h = h
types_held s _ h = All-nil (Holds s)

-- a step is right where its parts are
pub step_right : (t : TaskTree) (steps : List StepTree) (s : List Tree) (st : Step) (q types : List TermId) (ps : List ℕ) (r : Bool) → q ≡ st.sequent → types ≡ types_in st.rule → ps ≡ st.premises
    → All (IsGroundFormula t) (trees_at s q) → Each (IsGroundExpression t) (rule_trees (rule_at s st.rule)) → All (IsTypeOver t 0) (trees_at s types) → All (λ k. k < length steps) ps
    → IsTrue r ↔ IsRuleRow t (trees_at s q) (rule_at s st.rule) (sequents steps ps) → IsTrue r ↔ IsRight t steps (step_at s st)
step_right t steps s st q types ps r a b c formulas trees named earlier row =
    let n : All (IsTypeOver t 0) (rule_types (rule_at s st.rule)) = rw types_named (rw b at named) in
    (λ h. record { formulas = rw a at formulas; trees = trees; types = n; earlier = rw c at earlier; row = rw (a, c) at (row.0 h) }, λ x. row.1 (rw (a, c) x.row))

some_template : (t : TaskTree) (o : Option (Tree × Tree)) (e : Tree) (P Q : Tree × Tree → Type 0) → IsSomeAnd o (λ p. IsSomeAnd (type_of p.0) (λ ty. IsTemplate t ty e) × P p × Q p) → OpenIn t e
some_template t None e P Q h = absurd h
some_template t (Some p) e P Q h = by_type (type_of p.0) h.0
  where
    by_type : (o : Option Tree) → IsSomeAnd o (λ ty. IsTemplate t ty e) → OpenIn t e
    by_type None k = absurd k
    by_type (Some ty) k = typed_open (of_task t) (ty ∷ []) e k.typed

-- the trees of a right step are typed as far as they go
each_open : (t : TaskTree) (es : List Tree) → Each (IsGroundExpression t) es → Each (OpenIn t) es
each_open t [] h = tt
each_open t (e ∷ es) h = (typed_open (of_task t) [] e h.0.typed, each_open t es h.1)

template_open : (t : TaskTree) (q : List Tree) (r : RuleTree) (ps : List (List Tree)) → IsRuleRow t q r ps → TemplateIsOpen t r
template_open t q (RReplace i j e) ps h = some_template t (equation_sides (slice_get q i)) e (λ p. slice_get q j ≡ Some (inst e p.0)) (λ p. Adds q ps ((inst e p.1 ∷ []) ∷ [])) h
template_open t q _ ps h = tt

pub right_open : (t : TaskTree) (steps : List StepTree) (s : List Tree) (st : Step) → IsRight t steps (step_at s st) → StepIsOpen t s st
right_open t steps s st x = record {
  sequent =
      let a : All (λ i. IsGroundFormula t (tree_at s i)) st.sequent = All-unmap (IsGroundFormula t) (tree_at s) st.sequent x.formulas in
      λ k d l. typed_open (of_task t) [] (tree_at s (get_or st.sequent k d)) (a k d l).typed;
  trees = each_open t (rule_trees (rule_at s st.rule)) x.trees;
  template = template_open t (trees_at s st.sequent) (rule_at s st.rule) (sequents steps st.premises) x.row;
  types =
      let n : All (IsTypeOver t 0) (trees_at s (types_in st.rule)) = rw types_named at x.types in
      let a : All (λ i. IsTypeOver t 0 (tree_at s i)) (types_in st.rule) = All-unmap (IsTypeOver t 0) (tree_at s) (types_in st.rule) n in
      λ k d l. typed_open (of_task t) [] (tree_at s (get_or (types_in st.rule) k d)) (a k d l).typed;
}
