-- Worked rows by computation: terms put in under binders and under a pattern's variables, an inversion formula, a role, the facts of
-- an inductive group, and a valid task with a definition.
use Rattle.std.proofs.Common.{◌≡◌, ◌≢◌, ℕ, ◌<◌, zero, suc, List, [], ◌∷◌, length, get_or, AllPairs, Option, Some, None, inl, pos, refl, arith, codes}
use Rattle.std.proofs.lemmas.List.Elements.{All-nil, All-cons}
use Rattle.trees.specs.Tree.{Tree, Leaf, One, Two, Three, HTyVar, HEnd, HCell, HNum, HFun, HPred, HEq, HTrue, HJoin, HForall, HExists, HArm, HPatVar, HPatCon, HPatAlias}
use Rattle.trees.specs.Binding.{Bound, Param, inst, inst_many}
use Rattle.trees.specs.Sorts.{int_type}
use Rattle.trees.specs.declared.Op.TheVariants.{And, Or, Imp, Iff}
use Rattle.tasks.specs.declared.signature.SymbolKind.TheVariants.{Predicate}
use Rattle.tasks.specs.declared.facts.Fact.{Fact}
use Rattle.tasks.specs.declared.facts.Fact.TheVariants.{Proposition, Equation, Clause, Inversion}
use Rattle.tasks.specs.Task.{SymbolTree, int_symbol, DefinitionTree, InductiveTree, ConstructorTree, AlgebraicTree, Defines, Induces, Constructs, Says, DeclarationTree, TaskTree, declared}
use Rattle.tasks.specs.Roles.{ConstructorRole, ProjectionRole, AlgebraicRole, role_in}
use Rattle.tasks.specs.Vocabulary.{of_task}
use Rattle.tasks.specs.Typing.{TypedUnder, IsUse}
use Rattle.tasks.specs.Equations.{cells, IsEquationOf}
use Rattle.tasks.specs.Inversion.{inversion}
use Rattle.tasks.specs.Clauses.{IsClauseOf}
use Rattle.tasks.specs.Facts.{FactTree, facts, body_facts}
use Rattle.tasks.specs.Valid.{IsValidDecl, IsDefinition, IsFormula, IsFormulaOver, IsTypeOver, IsTypeIn, IsRigidEntry, IsValid}

abbrev bound : ℕ → Tree
bound i = Bound i int_type

abbrev predicate : ℕ → List Tree → Tree
predicate p args = Two (HPred p) (Leaf HEnd) (cells args)

abbrev function : ℕ → List Tree → Tree
function f args = Three (HFun f) (Leaf HEnd) (cells args) int_type

abbrev number : ℕ → Tree
number n = Leaf (HNum (pos n))

-- `exists y. x1 < y` at `x0` for x1: the variable that is put in is raised under the quantifier
instance-row : inst (Two HExists int_type (predicate 5 (bound 1 ∷ bound 0 ∷ []))) (bound 0) ≡ Two HExists int_type (predicate 5 (bound 1 ∷ bound 0 ∷ []))
instance-row = refl

-- the pattern `C x y as z` binds three variables, and terms are put in after them
abbrev pattern : Tree
pattern = One HPatAlias (Three (HPatCon 6) (Leaf HEnd) (cells (One HPatVar int_type ∷ One HPatVar int_type ∷ [])) int_type)

arm-row : inst_many (Two HArm pattern (predicate 5 (bound 4 ∷ bound 3 ∷ bound 2 ∷ bound 0 ∷ []))) (bound 0 ∷ Param 7 int_type ∷ [])
    ≡ Two HArm pattern (predicate 5 (bound 3 ∷ Param 7 int_type ∷ bound 2 ∷ bound 0 ∷ []))
arm-row = refl

-- `inductive even int = even_zero: even 0 | even_step: forall n: int. n >= 0 -> even n -> even (n + 2)`
abbrev even : SymbolTree
even = record { theory = codes "T"; name = codes "even"; kind = Predicate; vars = 0; args = int_type ∷ []; result = None }

abbrev implies : Tree → Tree → Tree
implies a b = Two (HJoin Imp) a b

abbrev even_zero : Tree
even_zero = predicate 9 (number 0 ∷ [])

abbrev even_step : Tree
even_step = Two HForall int_type (implies (predicate 8 (bound 0 ∷ number 0 ∷ [])) (implies (predicate 9 (bound 0 ∷ [])) (predicate 9 (function 2 (bound 0 ∷ number 2 ∷ []) ∷ []))))

abbrev even_inversion : Tree
even_inversion =
    Two HForall int_type (implies (predicate 9 (bound 0 ∷ []))
    (Two (HJoin Or) (Two HEq (bound 0) (number 0))
    (Two HExists int_type (Two (HJoin And) (predicate 8 (bound 0 ∷ number 0 ∷ [])) (Two (HJoin And) (predicate 9 (bound 0 ∷ [])) (Two HEq (bound 1) (function 2 (bound 0 ∷ number 2 ∷ []))))))))

inversion-row : inversion 9 even (even_zero ∷ even_step ∷ []) ≡ even_inversion
inversion-row = refl

-- the facts of the group: its clauses, then its inversion formula
abbrev fact : Fact → Tree → FactTree
fact name e = record { name = name; vars = 0; formula = e }

facts-row : body_facts (int_symbol ∷ int_symbol ∷ int_symbol ∷ int_symbol ∷ int_symbol ∷ int_symbol ∷ int_symbol ∷ int_symbol ∷ int_symbol ∷ even ∷ []) 4 0
    (Induces (record { symbol = 9; clauses = even_zero ∷ even_step ∷ [] } ∷ []))
    ≡ fact (Clause 9 0) even_zero ∷ fact (Clause 9 1) even_step ∷ fact (Inversion 9) even_inversion ∷ []
facts-row = refl

-- a predicate of the group is in the premises of a clause, and in the argument of none
clause-row : IsClauseOf (9 ∷ []) 9 (Leaf HEnd) even_step
clause-row = (((λ h. refl), (tt, tt, (tt, tt, tt))), (((λ h. refl), (tt, tt, tt)), (refl, (refl, (tt, (tt, (tt, tt, (tt, tt, tt)), tt), tt)))))

-- `type list 'a = Nil | Cons 'a (list 'a)`: a constructor is told from its type, and a projection from both
abbrev cons : ConstructorTree
cons = record { symbol = 3; fields = Leaf (HTyVar 0) ∷ []; projections = 4 ∷ [] }

abbrev lists : AlgebraicTree
lists = record { symbol = 1; cons = record { symbol = 2; fields = []; projections = [] } ∷ cons ∷ [] }

constructor-row : role_in 3 (Constructs (lists ∷ [])) ≡ ConstructorRole cons
constructor-row = refl

projection-row : role_in 4 (Constructs (lists ∷ [])) ≡ ProjectionRole cons 0
projection-row = refl

type-row : role_in 1 (Constructs (lists ∷ [])) ≡ AlgebraicRole lists.cons
type-row = refl

-- `predicate p = true goal g: p`
abbrev p : SymbolTree
p = record { theory = codes "T"; name = codes "p"; kind = Predicate; vars = 0; args = []; result = None }

abbrev atom : Tree
atom = predicate 1 []

abbrev equation : Tree
equation = Two (HJoin Iff) atom (Leaf HTrue)

abbrev definition : DefinitionTree
definition = record { symbol = 1; equation = equation }

abbrev declaration : DeclarationTree
declaration = record { theory = codes "T"; name = codes "p"; vars = 0; body = Defines (definition ∷ []) }

abbrev task : TaskTree
task = record { symbols = int_symbol ∷ p ∷ []; ints = None; rigid = []; decls = declaration ∷ []; params = []; locals = []; goal = atom }

used : IsUse p (Leaf HEnd) (Leaf HEnd)
used = record { as_many = refl; fit = refl }

atom_typed : TypedUnder (of_task task) [] atom
atom_typed = ((((refl, inl refl), (refl, inl refl)), tt), (refl, (refl, used)), (tt, tt), (tt, tt))

equation_typed : TypedUnder (of_task task) [] equation
equation_typed = (((refl, refl), tt), tt, atom_typed, (tt, tt))

defined : IsDefinition (of_task task) definition
defined = record {
  signature = record { entry = omega arith; kind = λ e. cc; types = record { args = All-nil (IsTypeIn (of_task task) 0); result = tt } };
  form = record { body = Leaf HTrue; inner = _; equated = refl; is = refl };
  formula = record { sort = refl; typed = equation_typed; parameters = ((tt, tt), tt); variables = ((tt, tt), tt) };
}

once : AllPairs {X = ℕ} (λ j k. j ≢ k) (0 ∷ 1 ∷ [])
once zero (suc zero) d l n = λ e. omega (arith, e)
once zero zero d l n = absurd (omega arith)
once zero (suc (suc k)) d l n = absurd (omega arith)
once (suc j) zero d l n = absurd (omega arith)
once (suc j) (suc k) d l n = absurd (omega arith)

valid-row : IsValid task
valid-row = record {
  int = refl;
  ints = tt;
  once = once;
  rigid = All-nil (IsRigidEntry task);
  decls = All-cons (IsValidDecl (of_task task)) declaration [] (All-cons (IsDefinition (of_task task)) definition [] defined (All-nil (IsDefinition (of_task task)))) (All-nil (IsValidDecl (of_task task)));
  params = All-nil (IsTypeOver task 0);
  locals = All-nil (IsFormula task [] 0);
  goal = record { sort = refl; typed = atom_typed; parameters = (tt, tt); variables = (tt, tt) };
}

-- its one fact is the equation of its predicate
definition-facts-row : facts task ≡ fact (Equation 1) equation ∷ []
definition-facts-row = refl
