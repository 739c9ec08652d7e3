-- Worked rows by computation: what is put in the place of a definition, of a recursive one, and of an inductive predicate.
use Rattle.std.proofs.Common.{◌≡◌, ℕ, List, [], ◌∷◌, Some, None, pos, refl, codes}
use Rattle.tasks.specs.trees.declared.Op.TheVariants.{Imp}
use Rattle.tasks.specs.trees.Tree.{Tree, Leaf, Two, Three, HEnd, HNum, HFun, HPred, HEq, HJoin, HForall}
use Rattle.tasks.specs.trees.Binding.{Bound}
use Rattle.tasks.specs.trees.Sorts.{int_type}
use Rattle.tasks.specs.declared.signature.SymbolKind.TheVariants.{Function, Predicate}
use Rattle.tasks.specs.Task.{SymbolTree, int_symbol, BodyTree, Makes, Defines, Induces, Says, DeclarationTree}
use Rattle.tasks.specs.Equations.{cells}
use Rattle.declarations.specs.spelled_groups.Spelled.{spelling_rule}
use Rattle.declarations.specs.spelled_groups.Groups.{definition_facts, inductive_facts}

-- `function f (x: int) : int` is 1, `predicate p (x: int)` is 2
abbrev symbols : List SymbolTree
symbols =
    int_symbol ∷ record { theory = codes "T"; name = codes "f"; kind = Function; vars = 0; args = int_type ∷ []; result = Some int_type }
    ∷ record { theory = codes "T"; name = codes "p"; kind = Predicate; vars = 0; args = int_type ∷ []; result = None } ∷ []

abbrev f_at : Tree → Tree
f_at e = Three (HFun 1) (Leaf HEnd) (cells (e ∷ [])) int_type

abbrev p_at : Tree → Tree
p_at e = Two (HPred 2) (Leaf HEnd) (cells (e ∷ []))

abbrev x : Tree
x = Bound 0 int_type

abbrev f_is : Tree → Tree
f_is body = Two HForall int_type (Two HEq (f_at x) body)

abbrev declared : ℕ → BodyTree → DeclarationTree
declared vars body = record { theory = codes "T"; name = codes "f"; vars = vars; body = body }

-- f x = x becomes f, and forall x. f x = x
definition-row : spelling_rule definition_facts symbols (declared 0 (Defines (record { symbol = 1; equation = f_is x } ∷ []))) ≡ declared 0 (Makes 1) ∷ declared 0 (Says (f_is x)) ∷ []
definition-row = refl

-- f x = f (f x) stays
recursive-row : spelling_rule definition_facts symbols (declared 0 (Defines (record { symbol = 1; equation = f_is (f_at (f_at x)) } ∷ [])))
    ≡ declared 0 (Defines (record { symbol = 1; equation = f_is (f_at (f_at x)) } ∷ [])) ∷ []
recursive-row = refl

-- p 0 becomes p, then p 0, and forall x. p x -> x = 0
abbrev zero_is : Tree
zero_is = p_at (Leaf (HNum (pos 0)))

inductive-row : spelling_rule inductive_facts symbols (declared 0 (Induces (record { symbol = 2; clauses = zero_is ∷ [] } ∷ [])))
    ≡ declared 0 (Makes 2) ∷ declared 0 (Says zero_is) ∷ declared 0 (Says (Two HForall int_type (Two (HJoin Imp) (p_at x) (Two HEq x (Leaf (HNum (pos 0))))))) ∷ []
inductive-row = refl

-- a definition stays where inductive predicates are spelled out
other-row : spelling_rule inductive_facts symbols (declared 0 (Defines (record { symbol = 1; equation = f_is x } ∷ []))) ≡ declared 0 (Defines (record { symbol = 1; equation = f_is x } ∷ [])) ∷ []
other-row = refl
