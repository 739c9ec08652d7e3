-- Worked rows by computation: the branch equations of a recursive function, with a parameter on either side of the matched one, a
-- wildcard, the matched parameter in a branch, and matches that stay whole.
use Rattle.std.proofs.Common.{◌≡◌, ℕ, List, [], ◌∷◌, map, Some, None, true, pos, refl, codes}
use Rattle.tasks.specs.trees.declared.Op.TheVariants.{Iff}
use Rattle.tasks.specs.trees.Tree.{Tree, Leaf, One, Two, Three, HEnd, HNum, HTrue, HTyApp, HFun, HPred, HEq, HJoin, HForall, HCase, HArm, HPatVar, HPatAny, HPatCon}
use Rattle.tasks.specs.trees.Binding.{Bound}
use Rattle.tasks.specs.trees.Sorts.{int_type}
use Rattle.tasks.specs.declared.signature.SymbolKind.TheVariants.{Function, Predicate}
use Rattle.tasks.specs.Task.{SymbolTree, int_symbol}
use Rattle.tasks.specs.Equations.{cells, for_all}
use Rattle.tasks.specs.Facts.{FactTree}
use Rattle.checks.specs.recursive_groups.Groups.{is_recursive}
use Rattle.inlining.specs.branch_equations.Branches.{member_facts}

-- `type n = Z | S n`; n is 1, Z is 2, S is 3, `function f n : int` is 4, `function g int n int : n` is 5, `predicate p n` is 6, `+` is 7,
-- `function k int n int : n` is 8
abbrev n : Tree
n = One (HTyApp 1) (Leaf HEnd)

abbrev use_of : ℕ → List Tree → Tree → Tree
use_of f args ty = Three (HFun f) (Leaf HEnd) (cells args) ty

abbrev pattern_of : ℕ → List Tree → Tree
pattern_of c ps = Three (HPatCon c) (Leaf HEnd) (cells ps) n

abbrev f_symbol : SymbolTree
f_symbol = record { theory = codes "T"; name = codes "f"; kind = Function; vars = 0; args = n ∷ []; result = Some int_type }

abbrev g_symbol : SymbolTree
g_symbol = record { theory = codes "T"; name = codes "g"; kind = Function; vars = 0; args = int_type ∷ n ∷ int_type ∷ []; result = Some n }

abbrev p_symbol : SymbolTree
p_symbol = record { theory = codes "T"; name = codes "p"; kind = Predicate; vars = 0; args = n ∷ []; result = None }

abbrev symbols : List SymbolTree
symbols = int_symbol ∷ int_symbol ∷ int_symbol ∷ int_symbol ∷ f_symbol ∷ g_symbol ∷ p_symbol ∷ []

abbrev said : ℕ → Tree → List Tree
said f equation = map (λ (x : FactTree). x.formula) (member_facts symbols (record { symbol = f; equation = equation }))

abbrev f_by : List Tree → Tree
f_by branches = Two HForall n (Two HEq (use_of 4 (Bound 0 n ∷ []) int_type) (Two HCase (Bound 0 n) (cells branches)))

-- `f x = match x with Z -> 0 | S y -> f y + 1 end`
abbrev zero_branch : Tree
zero_branch = Two HArm (pattern_of 2 []) (Leaf (HNum (pos 0)))

abbrev next_branch : Tree
next_branch = Two HArm (pattern_of 3 (One HPatVar n ∷ [])) (use_of 7 (use_of 4 (Bound 0 n ∷ []) int_type ∷ Leaf (HNum (pos 1)) ∷ []) int_type)

function-row : said 4 (f_by (zero_branch ∷ next_branch ∷ []))
    ≡ Two HEq (use_of 4 (use_of 2 [] n ∷ []) int_type) (Leaf (HNum (pos 0)))
    ∷ Two HForall n (Two HEq (use_of 4 (use_of 3 (Bound 0 n ∷ []) n ∷ []) int_type) (use_of 7 (use_of 4 (Bound 0 n ∷ []) int_type ∷ Leaf (HNum (pos 1)) ∷ []) int_type)) ∷ []
function-row = refl

recursive-row : is_recursive (record { symbol = 4; equation = f_by (zero_branch ∷ next_branch ∷ []) } ∷ []) ≡ true
recursive-row = refl

-- a member that uses another one is of a recursive group, too
mutual-row : is_recursive (record { symbol = 5; equation = f_by (next_branch ∷ []) } ∷ record { symbol = 4; equation = f_by (zero_branch ∷ []) } ∷ []) ≡ true
mutual-row = refl

-- `p x <-> match x with S y -> p y | Z -> true end`
predicate-row : said 6 (Two HForall n (Two (HJoin Iff) (Two (HPred 6) (Leaf HEnd) (cells (Bound 0 n ∷ [])))
    (Two HCase (Bound 0 n) (cells (Two HArm (pattern_of 3 (One HPatVar n ∷ [])) (Two (HPred 6) (Leaf HEnd) (cells (Bound 0 n ∷ []))) ∷ Two HArm (pattern_of 2 []) (Leaf HTrue) ∷ [])))))
    ≡ Two HForall n (Two (HJoin Iff) (Two (HPred 6) (Leaf HEnd) (cells (use_of 3 (Bound 0 n ∷ []) n ∷ []))) (Two (HPred 6) (Leaf HEnd) (cells (Bound 0 n ∷ []))))
    ∷ Two (HJoin Iff) (Two (HPred 6) (Leaf HEnd) (cells (use_of 2 [] n ∷ []))) (Leaf HTrue) ∷ []
predicate-row = refl

-- `g (a: int) (x: n) (b: int) : n = match x with S _ -> x | Z -> k a x b end`: the parameters before the matched one move by the number
-- of fields less one
abbrev g_by : Tree → List Tree → Tree
g_by asked branches = for_all (int_type ∷ n ∷ int_type ∷ []) (Two HEq (use_of 5 (Bound 2 int_type ∷ Bound 1 n ∷ Bound 0 int_type ∷ []) n) (Two HCase asked (cells branches)))

around-row : said 5 (g_by (Bound 1 n) (Two HArm (pattern_of 3 (One HPatAny n ∷ [])) (Bound 1 n) ∷ Two HArm (pattern_of 2 []) (use_of 8 (Bound 2 int_type ∷ Bound 1 n ∷ Bound 0 int_type ∷ []) n) ∷ []))
    ≡ for_all (int_type ∷ n ∷ int_type ∷ []) (Two HEq (use_of 5 (Bound 2 int_type ∷ use_of 3 (Bound 1 n ∷ []) n ∷ Bound 0 int_type ∷ []) n) (use_of 3 (Bound 1 n ∷ []) n))
    ∷ for_all (int_type ∷ int_type ∷ []) (Two HEq (use_of 5 (Bound 1 int_type ∷ use_of 2 [] n ∷ Bound 0 int_type ∷ []) n) (use_of 8 (Bound 1 int_type ∷ use_of 2 [] n ∷ Bound 0 int_type ∷ []) n)) ∷ []
around-row = refl

-- two patterns of one constructor, a pattern in a pattern, a pattern that is a variable, and a `match` on what is no parameter: whole
same-row : said 4 (f_by (zero_branch ∷ next_branch ∷ zero_branch ∷ [])) ≡ f_by (zero_branch ∷ next_branch ∷ zero_branch ∷ []) ∷ []
same-row = refl

abbrev deep_branch : Tree
deep_branch = Two HArm (pattern_of 3 (pattern_of 2 [] ∷ [])) (Leaf (HNum (pos 1)))

deep-row : said 4 (f_by (zero_branch ∷ deep_branch ∷ [])) ≡ f_by (zero_branch ∷ deep_branch ∷ []) ∷ []
deep-row = refl

abbrev other_branch : Tree
other_branch = Two HArm (One HPatVar n) (use_of 4 (Bound 0 n ∷ []) int_type)

variable-row : said 4 (f_by (zero_branch ∷ other_branch ∷ [])) ≡ f_by (zero_branch ∷ other_branch ∷ []) ∷ []
variable-row = refl

term-row : said 5 (g_by (use_of 3 (Bound 1 n ∷ []) n) (Two HArm (pattern_of 3 (One HPatVar n ∷ [])) (Bound 0 n) ∷ [])) ≡ g_by (use_of 3 (Bound 1 n ∷ []) n) (Two HArm (pattern_of 3 (One HPatVar n ∷ [])) (Bound 0 n) ∷ []) ∷ []
term-row = refl
