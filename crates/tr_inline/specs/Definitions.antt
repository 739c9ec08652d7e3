-- Definitions of a draft's task, by their numbers.
use Rattle.std.specs.Prelude.{◌≡◌, ℕ, List, All, Option, Some, None}
use Rattle.std.proofs.Common.{refl, sym, subst, arith}
use Rattle.trees.specs.Tree.{Tree, Leaf, Two, Three, HEnd, HFun, HPred, head_of}
use Rattle.trees.specs.Node.{tree_at, Holds}
use Rattle.tasks.specs.declared.declaration.Def.{Def}
use Rattle.tasks.specs.declared.facts.Fact.TheVariants as fact
use Rattle.tasks.specs.Task.{TaskTree, PropositionTree}
use Rattle.tasks.specs.Meaning.{definition_at}
use Rattle.tasks.specs.Vocabulary.{of_task}
use Rattle.tasks.specs.Valid.{IsDefinition, IsValid}
use Rattle.evidence.specs.Drafts.{DraftTree, Extends}
use Rattle.evidence.specs.Facts.{fact_named, at_symbol}
use Rattle.checks.specs.decl_checks.Structure.{defining_body}
use Rattle.inlining.specs.Inlining.{unfold_rule}
use Rattle.inlining.specs.images.Images.{IsOtherHead}

abbrev pub formula_or_end : Option PropositionTree → Tree
formula_or_end None = Leaf HEnd
formula_or_end (Some p) = p.formula

-- the body of a symbol that the task defines
abbrev pub body_in : TaskTree → ℕ → Tree
body_in t k = defining_body (formula_or_end (fact_named t (fact.Equation k)))

-- each use of the symbol becomes its body
abbrev pub unfolding_rule : TaskTree → ℕ → Tree → Tree
unfolding_rule t k = unfold_rule k (body_in t k)

-- it leaves types, patterns, lists and branches
pub rule_others : (t : TaskTree) (k : ℕ) (e : Tree) → IsOtherHead (head_of e)
    → unfolding_rule t k e ≡ e
rule_others t k (Three (HFun f) zs ts ty) h = absurd h
rule_others t k (Two (HPred p) zs ts) h = absurd h
rule_others t k _ h = refl

-- a definition of the draft's task, whose equation steps can cite
pub record IsDefinedIn (d : DraftTree) (def : Def) : Type 0 where
  pub held : Holds d.trees def.equation
  pub valid : IsValid d.task
  pub defined : IsDefinition (of_task d.task) (definition_at d.trees def)
  pub named : fact_named d.task (fact.Equation def.symbol)
      ≡ Some (at_symbol d.task def.symbol (tree_at d.trees def.equation))

abbrev pub AreDefinedIn : DraftTree → List Def → Type 0
AreDefinedIn d defs = All (IsDefinedIn d) defs

pub defined_later : (d d1 : DraftTree) → Extends d d1 → (def : Def) → IsDefinedIn d def
    → IsDefinedIn d1 def
defined_later d d1 x def r =
    let q : tree_at d.trees def.equation ≡ tree_at d1.trees def.equation =
    sym (x.trees.same def.equation.0 r.held) in record {
      held = omega (arith, r.held, x.trees.longer);
      valid = subst IsValid (sym x.task) r.valid;
      defined = subst (λ (t : TaskTree). IsDefinition (of_task t) (definition_at d1.trees def))
          (sym x.task) (subst
          (λ (e : Tree). IsDefinition (of_task d.task)
          (record { symbol = def.symbol; equation = e })) q r.defined);
      named = subst (λ (t : TaskTree).
          fact_named t (fact.Equation def.symbol)
          ≡ Some (at_symbol t def.symbol (tree_at d1.trees def.equation))) (sym x.task)
          (subst (λ (e : Tree).
          fact_named d.task (fact.Equation def.symbol) ≡ Some (at_symbol d.task def.symbol e)) q
          r.named);
    }
