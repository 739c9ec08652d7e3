-- The equation of a definition at a closed use, over a draft.
use Rattle.std.proofs.Common.{◌≡◌, ℕ, List, [], ◌∷◌, All, Option, Some, None, subst, refl, sym, ap, ◌∙◌}
use Rattle.std.proofs.lemmas.List.Elements.{All-nil, All-cons}
use Rattle.trees.specs.declared.TermId.{TermId}
use Rattle.trees.specs.Tree.{Tree}
use Rattle.trees.specs.Binding.{inst_types}
use Rattle.trees.specs.Node.{tree_at, trees_at, Holds}
use Rattle.tasks.specs.declared.declaration.Def.{Def}
use Rattle.tasks.specs.Task.{TaskTree, neg, symbol_or}
use Rattle.tasks.specs.Typing.{members}
use Rattle.tasks.specs.Vocabulary.{of_task}
use Rattle.tasks.specs.Valid.{IsGroundFormula}
use Rattle.tasks.specs.declared.facts.Fact.TheVariants as fact
use Rattle.tasks.proofs.Closing.{typed_sorted}
use Rattle.congruence.specs.Alike.{IsClosedAt}
use Rattle.congruence.specs.kernel.rules.Forms.{alike}
use Rattle.congruence.proofs.Later.{tree_later}
use Rattle.evidence.specs.Drafts.{DraftTree, Extends, Refutes, IsFormulaAt}
use Rattle.evidence.specs.Facts.{IsFact}
use Rattle.evidence.proofs.Formulas.{formula_later}
use Rattle.trees.specs.binders.Visits.{HoldTypes}
use Rattle.walking.proofs.PlacesLater.{all_later, trees_later}
use Rattle.inlining.specs.images.Instances.{for_all_at}
use Rattle.inlining.specs.Inlining.{use_body}
use Rattle.tr_inline.specs.Lemmas.{IsLemma, TakesTerms}
use Rattle.tr_inline.specs.Uses.{IsUseOf, IsNoUse, AreUseParts, IsFoundUse, IsClosedUse}
use Rattle.tr_inline.specs.Definitions.{body_in, unfolding_rule, IsDefinedIn}
use Rattle.tr_inline.specs.declared.uses.UseParts.{UseParts}
use Rattle.tr_inline.proofs.Equations.{closed_use, equation_formula, equation_fact, equation_takes, claim}
use Rattle.tr_inline.proofs.Unfolded.{use_rule, body_of}

pub none_found : (d : DraftTree) (k : ℕ) (e : TermId) (o : Option UseParts) → ((y : UseParts) → o ≡ Some y → ⊥) → IsFoundUse d.trees k e o → IsNoUse k (tree_at d.trees e)
none_found d k e None n u = u
none_found d k e (Some y) n u = absurd (n y refl)

module _ (d : DraftTree) (def : Def) (r : IsDefinedIn d def) (left : TermId) (c : IsClosedAt d left) (at : UseParts) (u : AreUseParts d.trees def.symbol left at) where
  abbrev zs : Tree
  zs = tree_at d.trees at.types

  abbrev ts : Tree
  ts = tree_at d.trees at.args

  pub here : IsClosedUse d.task (symbol_or d.task.symbols def.symbol) zs ts
  here = closed_use d.task r.valid def.symbol (tree_at d.trees def.equation) r.defined (tree_at d.trees left) zs ts u.is c.ground (typed_sorted (of_task d.task) [] (tree_at d.trees left) c.ground.typed)

  -- the arguments that the equation takes, in a later draft
  pub takes_later : (d1 : DraftTree) → Extends d d1 → (equation : Tree) → equation ≡ inst_types (tree_at d.trees def.equation) (members zs) → TakesTerms d1.task equation (tree_at d1.trees at.args)
  takes_later d1 x equation q =
      let t = equation_takes d.task r.valid def.symbol (tree_at d.trees def.equation) r.defined zs ts here in
      subst (λ (z : TaskTree). TakesTerms z equation (tree_at d1.trees at.args)) (sym x.task)
      (subst (λ (z : Tree). TakesTerms d.task equation z) (sym (tree_later d d1 x at.args u.args_held)) (subst (λ (z : Tree). TakesTerms d.task z ts) (sym q) t))

  -- what the equation at the arguments says
  pub claimed : (right lemma equation : Tree) → right ≡ unfolding_rule d.task def.symbol (tree_at d.trees left) → equation ≡ inst_types (tree_at d.trees def.equation) (members zs) → lemma ≡ for_all_at equation (members ts) → lemma ≡ alike (tree_at d.trees left) right
  claimed right lemma equation e q l =
      l ∙ ap (λ (z : Tree). for_all_at z (members ts)) q
      ∙ sym (claim d.task r.valid def.symbol (tree_at d.trees def.equation) r.defined (tree_at d.trees left) zs ts u.is c.ground (typed_sorted (of_task d.task) [] (tree_at d.trees left) c.ground.typed))
      ∙ ap (λ (z : Tree). alike (tree_at d.trees left) (use_body z zs ts)) (sym (body_of d def r)) ∙ ap (alike (tree_at d.trees left)) (sym (e ∙ use_rule def.symbol (body_in d.task def.symbol) (tree_at d.trees left) zs ts u.is))

-- the equation at the types, made in a later draft
all_of : (s : List Tree) (ids : List TermId) → HoldTypes s ids → All (Holds s) ids
all_of s [] h = All-nil (Holds s)
all_of s (id ∷ ids) h = All-cons (Holds s) id ids h.0.0 (all_of s ids h.1)

module _ (d : DraftTree) (def : Def) (r : IsDefinedIn d def) (zs ts : Tree) (u : IsClosedUse d.task (symbol_or d.task.symbols def.symbol) zs ts) (ids : List TermId) (h : HoldTypes d.trees ids) (q : trees_at d.trees ids ≡ members zs) (d1 : DraftTree) (x : Extends d d1)
    (formula : TermId) (held : Holds d1.trees formula) (e : tree_at d1.trees formula ≡ inst_types (tree_at d.trees def.equation) (trees_at d.trees ids)) where
  pub equation_tree : tree_at d1.trees formula ≡ inst_types (tree_at d.trees def.equation) (members zs)
  equation_tree = e ∙ ap (inst_types (tree_at d.trees def.equation)) q

  pub formula_here : IsFormulaAt d1 formula
  formula_here = record {
    held = held;
    ground = subst (λ (t : TaskTree). IsGroundFormula t (tree_at d1.trees formula)) (sym x.task)
        (subst (IsGroundFormula d.task) (sym equation_tree) (equation_formula d.task r.valid def.symbol (tree_at d.trees def.equation) r.defined zs ts u));
  }

  pub types_here : All (Holds d1.trees) ids
  types_here = all_later d d1 x ids (all_of d.trees ids h)

  pub fact_here : IsFact d1.task d1.task (fact.Equation def.symbol) (trees_at d1.trees ids) (tree_at d1.trees formula)
  fact_here =
      let here = equation_fact d.task r.valid def.symbol (tree_at d.trees def.equation) r.defined zs ts u r.named in
      let types : trees_at d1.trees ids ≡ members zs = trees_later d d1 x ids (all_of d.trees ids h) ∙ q in
      subst (λ (t : TaskTree). IsFact t t (fact.Equation def.symbol) (trees_at d1.trees ids) (tree_at d1.trees formula)) (sym x.task)
      (subst (λ (z : List Tree). IsFact d.task d.task (fact.Equation def.symbol) z (tree_at d1.trees formula)) (sym types) (subst (λ (z : Tree). IsFact d.task d.task (fact.Equation def.symbol) (members zs) z) (sym equation_tree) here))

-- a lemma, later
pub lemma_made : (d d1 : DraftTree) → Extends d d1 → (formula : TermId) (step : ℕ) → IsFormulaAt d formula → Refutes d1 step (neg (tree_at d.trees formula) ∷ []) → IsLemma d1 (record { formula = formula; step = step })
lemma_made d d1 x formula step f r = record { formula = formula_later d d1 x formula f; refutes = subst (λ (z : Tree). Refutes d1 step (neg z ∷ [])) (sym (tree_later d d1 x formula f.held)) r }
