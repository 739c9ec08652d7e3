-- The parts of a clause at types, told one after another.
use Rattle.std.proofs.Common.{◌≡◌, ℕ, ◌+◌, List, [], ◌∷◌, suc, length, map, sym, ap, subst, ◌∙◌, arith, All}
use Rattle.std.proofs.lemmas.List.{length-map}
use Rattle.trees.specs.declared.Op.TheVariants.{And, Or}
use Rattle.trees.specs.declared.TermId.{TermId}
use Rattle.trees.specs.Tree.{Tree, Two, HEq, HCell, HJoin}
use Rattle.trees.specs.Node.{tree_at}
use Rattle.trees.specs.Binding.{Bound, inst_types}
use Rattle.tasks.specs.Equations.{bound_variables}
use Rattle.tasks.specs.Conjunctions.{conjunction}
use Rattle.tasks.specs.Inversion.{argument_equations, given_by, given_by_any}
use Rattle.tasks.specs.Meaning.{trees_at}
use Rattle.rules.proofs.fact_rules.Putting.{conjunction_at, first_not, two_at, any_more}

pub all_rest : (P : TermId → Type 0) (xs ys : List TermId) (x : TermId) → xs ≡ x ∷ ys → All P xs → All P ys
all_rest P xs ys x e h = let g : All P (x ∷ ys) = subst (λ (l : List TermId). All P l) e h in λ k d l. g (suc k) d (omega arith)

module _ (s : List Tree) (n : ℕ) (args rest : List TermId) (ty list a more : TermId) (e : args ≡ ty ∷ rest) (f : tree_at s list ≡ Two HCell (tree_at s a) (tree_at s more)) where
  -- that the first variable equals its argument
  abbrev pub first : Tree
  first = Two HEq (Bound (n + length rest) (tree_at s ty)) (tree_at s a)

  -- the equations on the others
  abbrev pub others : List Tree
  others = argument_equations n (bound_variables (trees_at s rest)) (tree_at s more)

  pub at_cell : argument_equations n (bound_variables (trees_at s args)) (tree_at s list) ≡ first ∷ others
  at_cell = rw (e, f) (ap (λ (k : ℕ). Two HEq (Bound (n + k) (tree_at s ty)) (tree_at s a) ∷ others) (length-map rest (tree_at s)))

  abbrev pub all_at : List Tree → Tree
  all_at tys = inst_types (conjunction (argument_equations n (bound_variables (trees_at s args)) (tree_at s list))) tys

  pub one_at : (tys : List Tree) → others ≡ [] → all_at tys ≡ inst_types first tys
  one_at tys z = ap (λ (q : List Tree). inst_types (conjunction q) tys) (at_cell ∙ ap (λ (q : List Tree). first ∷ q) z)

  pub more_at : (tys : List Tree) → (others ≡ [] → ⊥) → all_at tys ≡ Two (HJoin And) (inst_types first tys) (inst_types (conjunction others) tys)
  more_at tys n = ap (λ (q : List Tree). inst_types (conjunction q) tys) at_cell ∙ conjunction_at tys first others n

  pub no_first : (tys : List Tree) (m u v : Tree) → (others ≡ [] → ⊥) → m ≡ Two (HJoin And) u v → (u ≡ inst_types first tys → ⊥) → m ≡ all_at tys → ⊥
  no_first tys m u v q j w h = first_not tys m first u v others q j w (h ∙ ap (λ (x : List Tree). inst_types (conjunction x) tys) at_cell)

-- the disjunction over clauses, at types
module _ (s : List Tree) (types args clauses rest : List TermId) (c : TermId) (m : Tree) (e : clauses ≡ c ∷ rest) where
  abbrev any : Tree
  any = inst_types (given_by_any (bound_variables (trees_at s args)) (trees_at s clauses)) (trees_at s types)

  abbrev head : Tree
  head = inst_types (given_by 0 (bound_variables (trees_at s args)) (tree_at s c)) (trees_at s types)

  abbrev tail : Tree
  tail = inst_types (given_by_any (bound_variables (trees_at s args)) (trees_at s rest)) (trees_at s types)

  pub more_clauses : (length rest ≡ 0 → ⊥) → any ≡ Two (HJoin Or) head tail
  more_clauses n =
      ap (λ (x : Tree). inst_types x (trees_at s types)) (any_more (bound_variables (trees_at s args)) (trees_at s clauses) (tree_at s c) (trees_at s rest) (ap (trees_at s) e) (λ z. n (sym (length-map rest (tree_at s)) ∙ z)))
      ∙ two_at (trees_at s types) (HJoin Or) (given_by 0 (bound_variables (trees_at s args)) (tree_at s c)) (given_by_any (bound_variables (trees_at s args)) (trees_at s rest))
