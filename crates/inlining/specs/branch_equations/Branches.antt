-- The equations of recursive definitions (Why3 manual, "eliminate_recursion"): one equation for
-- each member, or one for each branch where its body is a `match` on one parameter whose patterns
-- are pairwise different constructors, each on variables and wildcards.
use Rattle.std.specs.Prelude.{◌≡◌, ℕ, suc, ◌+◌, ◌-◌, ◌==◌, nat_lt, Bool, true, false, ◌&&◌, not, if◌then◌else◌, List, [], ◌∷◌, ◌++◌, map, take, drop, length, Option, Some, None}
use Rattle.std.specs.List.{flat_map, list_any, list_all}
use Rattle.std.specs.Option.{option_map}
use Rattle.tasks.specs.trees.Tree.{Tree, Leaf, One, Two, Three, HEnd, HCell, HBound, HFun, HEq, HJoin, HForall, HCase, HArm, HPatAny, HPatVar, HPatCon}
use Rattle.tasks.specs.trees.Binding.{inst_many}
use Rattle.tasks.specs.trees.declared.Op.TheVariants.{Iff}
use Rattle.tasks.specs.trees.declared.Sort.{Sort}
use Rattle.tasks.specs.trees.declared.Sort.TheVariants.{Term, Formula}
use Rattle.tasks.specs.declared.facts.Fact.TheVariants.{Equation}
use Rattle.tasks.specs.Task.{SymbolTree, symbol_or, DefinitionTree, Defines}
use Rattle.tasks.specs.Typing.{members}
use Rattle.tasks.specs.Equations.{cells, for_all}
use Rattle.tasks.specs.Facts.{FactTree, equation_fact}
use Rattle.checks.specs.recursive_groups.Groups.{is_recursive}
use Rattle.checks.specs.decl_checks.Structure.{defining_body}
use Rattle.declarations.specs.spelled_groups.Spelled.{GroupFacts}

-- a branch whose pattern is a constructor, at types, on variables and wildcards
pub record ConstructorBranch : Type 0 where
  pub symbol : ℕ
  pub types : Tree
  pub fields : List Tree
  pub type : Tree
  pub body : Tree

abbrev pub is_plain_field : Tree → Bool
is_plain_field (One HPatVar ty) = true
is_plain_field (One HPatAny ty) = true
is_plain_field _ = false

abbrev pub field_type : Tree → Tree
field_type (One h ty) = ty
field_type e = e

abbrev pub is_variable_field : Tree → Bool
is_variable_field (One HPatVar ty) = true
is_variable_field _ = false

abbrev pub constructor_branch : Tree → Option ConstructorBranch
constructor_branch (Two HArm (Three (HPatCon c) types ps ty) a) =
    if list_all is_plain_field (members ps) then Some
    (record { symbol = c; types = types; fields = members ps; type = ty; body = a }) else None
constructor_branch _ = None

abbrev pub add_branch : Option ConstructorBranch → Option (List ConstructorBranch)
    → Option (List ConstructorBranch)
add_branch (Some b) (Some bs) = Some (b ∷ bs)
add_branch _ _ = None

abbrev pub constructor_branches : Tree → Option (List ConstructorBranch)
constructor_branches (Leaf HEnd) = Some []
constructor_branches (Two HCell b bs) = add_branch (constructor_branch b) (constructor_branches bs)
constructor_branches _ = None

abbrev pub are_different : List ConstructorBranch → Bool
are_different [] = true
are_different (b ∷ bs) =
    not (list_any (λ (x : ConstructorBranch). x.symbol == b.symbol) bs) && are_different bs

abbrev pub if_different : Option (List ConstructorBranch) → Option (List ConstructorBranch)
if_different None = None
if_different (Some bs) = if are_different bs then Some bs else None

-- The parameter that a body of so many parameters matches on, by the number of parameters after it,
-- with the branches.
abbrev pub matched_parameter : ℕ → Tree → Option (ℕ × List ConstructorBranch)
matched_parameter m (Two HCase (One (HBound i) ty) bs) =
    if nat_lt i m then option_map (λ xs. (i, xs)) (if_different (constructor_branches bs)) else None
matched_parameter m _ = None

-- ---- the equation of a branch
-- how many quantifiers an equation has
abbrev pub quantifiers : Tree → ℕ
quantifiers (Two HForall ty e) = suc (quantifiers e)
quantifiers e = 0

-- below them
abbrev pub below_quantifiers : Tree → Tree
below_quantifiers (Two HForall ty e) = below_quantifiers e
below_quantifiers e = e

-- an equation or an equivalence of two sides of this sort
abbrev pub HasSides : Sort → Tree → Type 0
HasSides sort (Two HEq left right) = sort ≡ Term
HasSides sort (Two (HJoin Iff) left right) = sort ≡ Formula
HasSides sort e = ⊥

-- the parameters before the one that has so many after it, and those
abbrev pub parameters_before : List Tree → ℕ → List Tree
parameters_before args i = take (length args - 1 - i) args

abbrev pub parameters_after : List Tree → ℕ → List Tree
parameters_after args i = drop (length args - i) args

-- the variables of these binders, the outermost first, with so many binders below them
abbrev pub variables_above : ℕ → List Tree → List Tree
variables_above n [] = []
variables_above n (ty ∷ types) = One (HBound (length types + n)) ty ∷ variables_above n types

-- The variables of a branch's equation are the parameters, with one for each of the constructor's
-- fields in the place of the matched one.
abbrev pub branch_types : List Tree → ℕ → ConstructorBranch → List Tree
branch_types args i b =
    parameters_before args i ++ (map field_type b.fields ++ parameters_after args i)

-- those of the fields
abbrev pub branch_fields : List Tree → ℕ → ConstructorBranch → List Tree
branch_fields args i b =
    variables_above (length (parameters_after args i)) (map field_type b.fields)

-- the matched parameter is the constructor on them
abbrev pub built_term : List Tree → ℕ → ConstructorBranch → Tree
built_term args i b = Three (HFun b.symbol) b.types (cells (branch_fields args i b)) b.type

-- what the parameters are there
abbrev pub branch_parameters : List Tree → ℕ → ConstructorBranch → List Tree
branch_parameters args i b =
    variables_above (length b.fields + length (parameters_after args i)) (parameters_before args i)
    ++ built_term args i b ∷ variables_above 0 (parameters_after args i)

-- the fields that the pattern's variables are
abbrev pub bound_fields : List Tree → List Tree → List Tree
bound_fields (p ∷ ps) (z ∷ zs) =
    if is_variable_field p then z ∷ bound_fields ps zs else bound_fields ps zs
bound_fields _ zs = []

abbrev pub pattern_fields : List Tree → ℕ → ConstructorBranch → List Tree
pattern_fields args i b = bound_fields b.fields (branch_fields args i b)

-- the left side where the parameters are these, and the branch's body there, whose other variables
-- are the fields
abbrev pub branch_sides : List Tree → ℕ → ConstructorBranch → Tree → Tree
branch_sides args i b (Two h left body) =
    Two h (inst_many left (branch_parameters args i b))
    (inst_many b.body (branch_parameters args i b ++ pattern_fields args i b))
branch_sides args i b e = e

abbrev pub branch_equation : List Tree → Tree → ℕ → ConstructorBranch → Tree
branch_equation args equation i b =
    for_all (branch_types args i b) (branch_sides args i b (below_quantifiers equation))

-- ---- what a member says
abbrev pub branch_fact : List SymbolTree → DefinitionTree → ℕ → ConstructorBranch → FactTree
branch_fact symbols d i b =
    record {
      name = Equation d.symbol;
      vars = (symbol_or symbols d.symbol).vars;
      formula =
          branch_equation (symbol_or symbols d.symbol).args d.equation i b;
    }

abbrev pub facts_by : List SymbolTree → DefinitionTree → Option (ℕ × List ConstructorBranch)
    → List FactTree
facts_by symbols d None = equation_fact symbols d ∷ []
facts_by symbols d (Some p) = map (branch_fact symbols d p.0) p.1

abbrev pub member_facts : List SymbolTree → DefinitionTree → List FactTree
member_facts symbols d =
    facts_by symbols d (matched_parameter (quantifiers d.equation) (defining_body d.equation))

-- each recursive group becomes its symbols, then its equations, each with the name of the equation
-- from which it follows
abbrev pub recursion_facts : GroupFacts
recursion_facts symbols (Defines ds) =
    if is_recursive ds then Some (flat_map (member_facts symbols) ds) else None
recursion_facts symbols _ = None
