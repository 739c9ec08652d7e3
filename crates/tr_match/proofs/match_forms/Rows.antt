-- Worked rows by computation: a `match` by its tests, patterns in patterns, names, wildcards, and `match`es in each other.
use Rattle.std.proofs.Common.{◌≡◌, ℕ, List, [], ◌∷◌, None, Some, pos, refl, codes}
use Rattle.trees.specs.declared.Op.TheVariants.{And}
use Rattle.trees.specs.Tree.{Tree, Leaf, One, Two, Three, HEnd, HNum, HTrue, HTyApp, HFun, HPred, HEq, HJoin, HForall, HIf, HCase, HArm, HPatAny, HPatVar, HPatAlias, HPatCon}
use Rattle.trees.specs.Binding.{Bound, Param}
use Rattle.trees.specs.Sorts.{int_type}
use Rattle.tasks.specs.declared.signature.SymbolKind.{SymbolKind}
use Rattle.tasks.specs.declared.signature.SymbolKind.TheVariants.{Constructor, Projection}
use Rattle.tasks.specs.Task.{SymbolTree, int_symbol, ConstructorTree, Constructs, DeclarationTree, TaskTree}
use Rattle.tasks.specs.Equations.{cells}
use Rattle.tr_match.specs.match_forms.Forms.{match_rule, without_matches}

-- `type l = N | C int l`; l is 1, N is 2, C is 3, its projections are 4 and 5; `function plus int int : int` is 6, `predicate p l` is 7
abbrev l : Tree
l = One (HTyApp 1) (Leaf HEnd)

abbrev entry : SymbolKind → List Tree → Tree → SymbolTree
entry kind args result = record { theory = codes "T"; name = codes "s"; kind = kind; vars = 0; args = args; result = Some result }

abbrev constructors : List ConstructorTree
constructors = record { symbol = 2; fields = []; projections = [] } ∷ record { symbol = 3; fields = int_type ∷ l ∷ []; projections = 4 ∷ 5 ∷ [] } ∷ []

abbrev declaration : DeclarationTree
declaration = record { theory = codes "T"; name = codes "l"; vars = 0; body = Constructs (record { symbol = 1; cons = constructors } ∷ []) }

abbrev task : TaskTree
task = record {
  symbols = int_symbol ∷ int_symbol ∷ entry Constructor [] l ∷ entry Constructor (int_type ∷ l ∷ []) l ∷ entry Projection (l ∷ []) int_type ∷ entry Projection (l ∷ []) l ∷ [];
  ints = None;
  rigid = [];
  decls = declaration ∷ [];
  params = l ∷ [];
  locals = [];
  goal = Leaf HTrue;
}

abbrev use_of : ℕ → List Tree → Tree → Tree
use_of f args ty = Three (HFun f) (Leaf HEnd) (cells args) ty

abbrev pattern_of : ℕ → List Tree → Tree
pattern_of c ps = Three (HPatCon c) (Leaf HEnd) (cells ps) l

abbrev number : ℕ → Tree
number n = Leaf (HNum (pos n))

abbrev plus : Tree → Tree → Tree
plus a b = use_of 6 (a ∷ b ∷ []) int_type

abbrev holds : Tree → Tree
holds a = Two (HPred 7) (Leaf HEnd) (cells (a ∷ []))

abbrev asks : Tree → List Tree → Tree
asks s branches = Two HCase s (cells branches)

abbrev x : Tree
x = Param 0 l

-- the fields of a term, and its tests
abbrev first_of : Tree → Tree
first_of s = use_of 4 (s ∷ []) int_type

abbrev rest_of : Tree → Tree
rest_of s = use_of 5 (s ∷ []) l

abbrev is_empty : Tree → Tree
is_empty s = Two HEq s (use_of 2 [] l)

abbrev is_cell : Tree → Tree
is_cell s = Two HEq s (use_of 3 (first_of s ∷ rest_of s ∷ []) l)

abbrev any_number : Tree
any_number = One HPatVar int_type

-- `match x with N -> 0 | C y r -> y end`: the last branch has no test
order-row : match_rule task (asks x (Two HArm (pattern_of 2 []) (number 0) ∷ Two HArm (pattern_of 3 (any_number ∷ One HPatVar l ∷ [])) (Bound 1 int_type) ∷ [])) ≡ Three HIf (is_empty x) (number 0) (first_of x)
order-row = refl

-- `match x with C y r -> y | N -> 0 end`
turned-row : match_rule task (asks x (Two HArm (pattern_of 3 (any_number ∷ One HPatVar l ∷ [])) (Bound 1 int_type) ∷ Two HArm (pattern_of 2 []) (number 0) ∷ [])) ≡ Three HIf (is_cell x) (first_of x) (number 0)
turned-row = refl

-- `match x with C y (C z _) -> y + z | C y _ -> y | _ -> 0 end`: a pattern in a pattern has two tests
nested-row : match_rule task (asks x
    (Two HArm (pattern_of 3 (any_number ∷ pattern_of 3 (any_number ∷ One HPatAny l ∷ []) ∷ [])) (plus (Bound 1 int_type) (Bound 0 int_type)) ∷ Two HArm (pattern_of 3 (any_number ∷ One HPatAny l ∷ [])) (Bound 0 int_type) ∷ Two HArm (One HPatAny l) (number 0) ∷ []))
    ≡ Three HIf (Two (HJoin And) (is_cell x) (is_cell (rest_of x))) (plus (first_of x) (first_of (rest_of x))) (Three HIf (is_cell x) (first_of x) (number 0))
nested-row = refl

-- `match x with y -> p y end`, and `match x with C _ r as y -> p y | z -> p r end` with the free variable r of an outer quantifier
name-row : match_rule task (asks x (Two HArm (One HPatVar l) (holds (Bound 0 l)) ∷ [])) ≡ holds x
name-row = refl

alias-row : match_rule task (asks x (Two HArm (One HPatAlias (pattern_of 3 (One HPatAny int_type ∷ One HPatVar l ∷ []))) (Two (HJoin And) (holds (Bound 1 l)) (holds (Bound 0 l))) ∷ Two HArm (One HPatVar l) (holds (Bound 1 l)) ∷ []))
    ≡ Three HIf (is_cell x) (Two (HJoin And) (holds (rest_of x)) (holds x)) (holds (Bound 0 l))
alias-row = refl

-- a wildcard before the last branch has the test `true`
wildcard-row : match_rule task (asks x (Two HArm (One HPatAny l) (number 1) ∷ Two HArm (One HPatAny l) (number 2) ∷ [])) ≡ Three HIf (Leaf HTrue) (number 1) (number 2)
wildcard-row = refl

-- `forall y: l. match y with z -> forall a: l. p z /\ p a end`: the term is raised under the quantifier
raised-row : without_matches task (Two HForall l (asks (Bound 0 l) (Two HArm (One HPatVar l) (Two HForall l (Two (HJoin And) (holds (Bound 1 l)) (holds (Bound 0 l)))) ∷ [])))
    ≡ Two HForall l (Two HForall l (Two (HJoin And) (holds (Bound 1 l)) (holds (Bound 0 l))))
raised-row = refl

-- `match (match x with y -> y end) with C _ r -> match r with N -> true | _ -> p r end | _ -> p x end`: the inner ones first
inner-row : without_matches task (asks (asks x (Two HArm (One HPatVar l) (Bound 0 l) ∷ []))
    (Two HArm (pattern_of 3 (One HPatAny int_type ∷ One HPatVar l ∷ [])) (asks (Bound 0 l) (Two HArm (pattern_of 2 []) (Leaf HTrue) ∷ Two HArm (One HPatAny l) (holds (Bound 0 l)) ∷ [])) ∷ Two HArm (One HPatAny l) (holds x) ∷ []))
    ≡ Three HIf (is_cell x) (Three HIf (is_empty (rest_of x)) (Leaf HTrue) (holds (rest_of x))) (holds x)
inner-row = refl
