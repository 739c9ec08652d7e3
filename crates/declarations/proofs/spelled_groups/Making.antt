-- Types and formulas stay as the store grows.
use Rattle.std.proofs.Common.{◌≡◌, ◌≢◌, ◌+◌, ◌-◌, ◌==◌, Bool, true, false, zero, suc, ℕ, List, [], ◌∷◌, length, All, Option, Some, None, IfSome, option_map, inl, inr, refl, sym, ap, subst, ◌∙◌, arith}
use Rattle.std.proofs.lemmas.List.Elements.{All-weaker}
use Rattle.trees.specs.declared.TermId.{TermId}
use Rattle.trees.specs.declared.Sort.{Sort}
use Rattle.trees.specs.declared.Sort.TheVariants.{Term}
use Rattle.trees.specs.Tree.{Tree, Leaf, One, Two, HTyVar, HCell, HEq, HBound, HPred, HJoin}
use Rattle.trees.specs.declared.Op.TheVariants.{Or, Imp}
use Rattle.tasks.specs.Equations.{cells, type_variables, bound_variables, for_all}
use Rattle.tasks.specs.Conjunctions.{conjunction}
use Rattle.tasks.specs.Inversion.{argument_equations, given_by, given_by_any}
use Rattle.trees.specs.Node.{tree_at, trees_at, Holds, Grows}
use Rattle.trees.specs.Sorts.{sort_of, Fits, IsList}
use Rattle.tasks.proofs.Growth.{held_later, tree_later, trees_later}
use Rattle.tasks.proofs.Lists.{split_all}
use Rattle.declarations.specs.spelled_groups.Making.{IsKindAt, IsFormulaId, joined_with, or_true, conjoined}

module _ (s s1 : List Tree) (g : Grows s s1) where
  pub kind_later : (id : TermId) → IsKindAt s id → IsKindAt s1 id
  kind_later id k = record { held = held_later s s1 g id k.held; kind = ap sort_of (tree_later s s1 g id k.held) ∙ k.kind }

  pub kinds_later : (ids : List TermId) → All (IsKindAt s) ids → All (IsKindAt s1) ids
  kinds_later ids a = All-weaker (IsKindAt s) (IsKindAt s1) kind_later ids a

  pub formula_later : (id : TermId) → IsFormulaId s id → IsFormulaId s1 id
  formula_later id k = record { held = held_later s s1 g id k.held; formula = ap sort_of (tree_later s s1 g id k.held) ∙ k.formula }

  pub formulas_later : (ids : List TermId) → All (IsFormulaId s) ids → All (IsFormulaId s1) ids
  formulas_later ids a = All-weaker (IsFormulaId s) (IsFormulaId s1) formula_later ids a

  pub kind_trees : (ids : List TermId) → All (IsKindAt s) ids → trees_at s1 ids ≡ trees_at s ids
  kind_trees ids a = trees_later s s1 g ids (All-weaker (IsKindAt s) (Holds s) (λ id k. k.held) ids a)

pub first_kind : (s : List Tree) (ids : List TermId) (x : TermId) (rest : List TermId) → ids ≡ x ∷ rest → All (IsKindAt s) ids → IsKindAt s x
first_kind s ids x rest e a = (split_all (IsKindAt s) ids x rest e a).0

pub rest_kinds : (s : List Tree) (ids : List TermId) (x : TermId) (rest : List TermId) → ids ≡ x ∷ rest → All (IsKindAt s) ids → All (IsKindAt s) rest
rest_kinds s ids x rest e a = (split_all (IsKindAt s) ids x rest e a).1

pub own_step : (from many : ℕ) → many ≢ 0 → cells (type_variables from many) ≡ Two HCell (Leaf (HTyVar from)) (cells (type_variables (from + 1) (many - 1)))
own_step from zero n = absurd (n refl)
own_step from (suc m) n = let e : m ≡ suc m - 1 = omega arith in ap (λ (k : ℕ). Two HCell (Leaf (HTyVar from)) (cells (type_variables (from + 1) k))) e

-- ---- the parts of an inversion formula
pub option_trees : (s s1 : List Tree) → Grows s s1 → (o : Option TermId) → IfSome o (IsFormulaId s) → option_map (tree_at s1) o ≡ option_map (tree_at s) o
option_trees s s1 g None h = refl
option_trees s s1 g (Some id) h = ap (λ (e : Tree). Some e) (tree_later s s1 g id h.held)

pub option_formulas : (s s1 : List Tree) → Grows s s1 → (o : Option TermId) → IfSome o (IsFormulaId s) → IfSome o (IsFormulaId s1)
option_formulas s s1 g None h = tt
option_formulas s s1 g (Some id) h = formula_later s s1 g id h

pub cell_terms : (t ts : Tree) → IsList Term (Two HCell t ts) → Fits (Two HCell t ts) → (sort_of t ≡ Term) × IsList Term ts
cell_terms t ts (a, inl q) f = absurd (cc)
cell_terms t ts (a, inr q) f = let e : sort_of t ≡ Term = cc in (e, subst (λ (z : Sort). IsList z ts) e f.0.1)

pub equations_step : (depth n : ℕ) (ty t ts e : Tree) (types : List Tree) (more r : Option Tree) → r ≡ joined_with e more → e ≡ Two HEq (One (HBound (depth + n)) ty) t → n ≡ length types → more ≡ conjoined (argument_equations depth (bound_variables types) ts)
    → r ≡ conjoined (argument_equations depth (bound_variables (ty ∷ types)) (Two HCell t ts))
equations_step depth n ty t ts e types more r p q l m =
    p ∙ ap (λ (z : Tree). joined_with z more) (q ∙ ap (λ (k : ℕ). Two HEq (One (HBound (depth + k)) ty) t) l) ∙ ap (joined_with (Two HEq (One (HBound (depth + length types)) ty) t)) m

pub any_step : (s : List Tree) (xs : List Tree) (c : Tree) (ids : List TermId) → (ids ≡ [] → ⊥) → given_by_any xs (c ∷ trees_at s ids) ≡ Two (HJoin Or) (given_by 0 xs c) (given_by_any xs (trees_at s ids))
any_step s xs c [] n = absurd (n refl)
any_step s xs c (id ∷ ids) n = refl

pub any_is : (s1 s2 s3 : List Tree) → Grows s1 s2 → (xs : List Tree) (c : Tree) (given others : TermId) (rest r : Tree) → Holds s1 given → tree_at s1 given ≡ given_by 0 xs c → tree_at s2 others ≡ rest → r ≡ Two (HJoin Or) (tree_at s2 given) (tree_at s2 others)
    → r ≡ Two (HJoin Or) (given_by 0 xs c) rest
any_is s1 s2 s3 g xs c given others rest r h p q e =
    e ∙ ap (λ (z : Tree). Two (HJoin Or) z (tree_at s2 others)) (tree_later s1 s2 g given h ∙ p) ∙ ap (Two (HJoin Or) (given_by 0 xs c)) q

pub not_empty : (ids : List TermId) (b : Bool) → b ≡ (length ids == 0) → b ≡ false → ids ≡ [] → ⊥
not_empty ids b p q e = let r : (length ids == 0) ≡ true = ap (λ (z : List TermId). length z == 0) e in let f : true ≡ false = sym r ∙ sym p ∙ q in absurd (cc)

-- the whole formula
pub inversion_is : (symbol vars : ℕ) (args clauses : List Tree) (types variables atom given inner r : Tree) → types ≡ cells (type_variables 0 vars) → variables ≡ cells (bound_variables args) → atom ≡ Two (HPred symbol) types variables
    → given ≡ given_by_any (bound_variables args) clauses → inner ≡ Two (HJoin Imp) atom given → r ≡ for_all args inner
    → r ≡ for_all args (Two (HJoin Imp) (Two (HPred symbol) (cells (type_variables 0 vars)) (cells (bound_variables args))) (given_by_any (bound_variables args) clauses))
inversion_is symbol vars args clauses types variables atom given inner r a b d e f g =
    g ∙ ap (for_all args) (f ∙ ap (λ (z : Tree). Two (HJoin Imp) z given) (d ∙ ap (λ (z : Tree). Two (HPred symbol) z variables) a ∙ ap (Two (HPred symbol) (cells (type_variables 0 vars))) b)
    ∙ ap (Two (HJoin Imp) (Two (HPred symbol) (cells (type_variables 0 vars)) (cells (bound_variables args)))) e)

-- the conjunction of a list that isn't empty, and of any
conjoined_some : (a : Tree) (es : List Tree) → conjoined (a ∷ es) ≡ Some (conjunction (a ∷ es))
conjoined_some a [] = refl
conjoined_some a (b ∷ es) = ap (joined_with a) (conjoined_some b es)

pub true_conjoined : (es : List Tree) → or_true (conjoined es) ≡ conjunction es
true_conjoined [] = refl
true_conjoined (a ∷ es) = ap or_true (conjoined_some a es)
