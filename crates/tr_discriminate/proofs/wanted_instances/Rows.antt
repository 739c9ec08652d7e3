-- Worked rows by computation: which instances of propositions are put in their place, and the order of types.
use Rattle.std.proofs.Common.{◌≡◌, ℕ, List, [], ◌∷◌, None, refl, codes}
use Rattle.tasks.specs.trees.declared.Op.TheVariants.{Imp}
use Rattle.tasks.specs.trees.Tree.{Tree, Leaf, One, Two, HTyApp, HEnd, HPred, HEq, HForall, HJoin, HTrue}
use Rattle.tasks.specs.trees.Sorts.{int_type}
use Rattle.tasks.specs.trees.Binding.{TyVar, Bound}
use Rattle.tasks.specs.Task.{Says, DeclarationTree, TaskTree, int_symbol}
use Rattle.tasks.specs.Equations.{cells}
use Rattle.name_tables.specs.Occurrences.{Occurrence, occurrence}
use Rattle.tr_discriminate.specs.wanted_instances.Instances.{equality_at, types_of}
use Rattle.tr_discriminate.specs.wanted_instances.Wanted.{wanted_types}
use Rattle.tr_discriminate.specs.wanted_instances.Discriminated.{proposition_of, first_set, last_set, discriminated_task}

-- `type u`, `type t 'a`, and predicates from 3 on
abbrev u : Tree
u = One (HTyApp 1) (Leaf HEnd)

abbrev t : Tree → Tree
t a = One (HTyApp 2) (cells (a ∷ []))

abbrev a : Tree
a = TyVar 0

abbrev b : Tree
b = TyVar 1

abbrev holds : ℕ → Tree → Tree
holds p e = Two (HPred p) (cells (e ∷ [])) (cells (Bound 0 (t e) ∷ []))

-- forall x: t e. p x -> q x
abbrev implies : ℕ → ℕ → Tree → Tree
implies p q e = Two HForall (t e) (Two (HJoin Imp) (holds p e) (holds q e))

abbrev said : ℕ → Tree → DeclarationTree
said vars e = record { theory = codes "T"; name = codes "a"; vars = vars; body = Says e }

abbrev task : List DeclarationTree → Tree → TaskTree
task ds g = record { symbols = int_symbol ∷ []; ints = None; rigid = []; decls = ds; params = []; locals = []; goal = g }

-- p0 -> p1, p1 -> p2, p2 -> p3, p3 -> p4 over `t 'a`, and the goal p0 over `t u`: two rounds bring p1 and p2, so three are wanted
abbrev chain : TaskTree
chain = task (said 1 (implies 3 4 a) ∷ said 1 (implies 4 5 a) ∷ said 1 (implies 5 6 a) ∷ said 1 (implies 6 7 a) ∷ []) (Two HForall (t u) (holds 3 u))

chain-first : first_set chain ≡ occurrence 3 (cells (u ∷ [])) ∷ []
chain-first = refl

chain-last : last_set chain ≡ occurrence 3 (cells (u ∷ [])) ∷ occurrence 4 (cells (u ∷ [])) ∷ occurrence 5 (cells (u ∷ [])) ∷ []
chain-last = refl

chain-row : (discriminated_task chain).decls ≡ said 0 (implies 3 4 u) ∷ said 0 (implies 4 5 u) ∷ said 0 (implies 5 6 u) ∷ []
chain-row = refl

-- arguments stand before the type that has them, and each type once
types-row : types_of (occurrence 3 (cells (t u ∷ [])) ∷ equality_at u ∷ occurrence 4 (cells (int_type ∷ [])) ∷ []) ≡ u ∷ t u ∷ int_type ∷ []
types-row = refl

-- forall x: 'a. forall y: 'b. p x -> q y
abbrev two_types : Tree
two_types = Two HForall a (Two HForall b (Two (HJoin Imp) (Two (HPred 3) (cells (a ∷ [])) (cells (Bound 1 a ∷ []))) (Two (HPred 4) (cells (b ∷ [])) (cells (Bound 0 b ∷ [])))))

abbrev at : ℕ → Tree → Occurrence
at p e = occurrence p (cells (e ∷ []))

-- assignments by the ranks of their types, the first variable first; a variable that is counted and not in the formula has `int`
ranks-row : wanted_types (at 4 u ∷ at 3 int_type ∷ at 3 u ∷ at 4 int_type ∷ []) (proposition_of 3 two_types)
    ≡ (u ∷ u ∷ int_type ∷ []) ∷ (u ∷ int_type ∷ int_type ∷ []) ∷ (int_type ∷ u ∷ int_type ∷ []) ∷ (int_type ∷ int_type ∷ int_type ∷ []) ∷ []
ranks-row = refl

none-row : wanted_types (at 3 u ∷ []) (proposition_of 2 two_types) ≡ []
none-row = refl

-- forall x: 'a. x = x -> p x: the instances of p alone ask, and without p those of `=`
abbrev reflexive : Tree
reflexive = Two HEq (Bound 0 a) (Bound 0 a)

abbrev with_symbol : Tree
with_symbol = Two HForall a (Two (HJoin Imp) reflexive (Two (HPred 3) (cells (a ∷ [])) (cells (Bound 0 a ∷ []))))

symbols-row : wanted_types (equality_at u ∷ at 3 int_type ∷ []) (proposition_of 1 with_symbol) ≡ (int_type ∷ []) ∷ []
symbols-row = refl

equality-row : wanted_types (equality_at u ∷ at 3 int_type ∷ []) (proposition_of 1 (Two HForall a reflexive)) ≡ (u ∷ []) ∷ []
equality-row = refl

-- a type variable that no instance mentions
unmentioned-row : wanted_types (equality_at u ∷ []) (proposition_of 1 (Two HForall a (Leaf HTrue))) ≡ []
unmentioned-row = refl

-- one without type variables stays, whatever its declaration counts
counted-row : (discriminated_task (task (said 1 (Leaf HTrue) ∷ []) (Leaf HTrue))).decls ≡ said 1 (Leaf HTrue) ∷ []
counted-row = refl
