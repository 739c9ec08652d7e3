-- When an expression has a type, and its tree then: a rule for each form, where types are chosen
-- freely (rank-1 polymorphism).
use Rattle.std.specs.Prelude.{◌≡◌, ℕ, ◌+◌, ◌<◌, ◌≤◌, Bool, true, false, List, [], ◌∷◌, ◌++◌, map, reverse, length, get_or, slice_get, Option, Some, None, IfSome, option_map}
use Rattle.std.specs.List.{AllByRecursion}
use Rattle.elab_groups.specs.trees.Tree.{Tree, Leaf, One, Two, Three, HEnd, HCell, HBound, HNum, HTrue, HFalse, HNot, HJoin, HLet, HIf, HCase, HArm, HPatAny, HPatVar, HPatCon, HPatAlias}
use Rattle.elab_groups.specs.trees.Sorts.{int_type}
use Rattle.elab_groups.specs.trees.Binding.{inst_types}
use Rattle.elab_groups.specs.trees.Facts.{TyVarsBelow}
use Rattle.elab_groups.specs.tasks.Task.{SymbolTree}
use Rattle.elab_groups.specs.tasks.declared.signature.SymbolKind.TheVariants.{Constructor, Predicate}
use Rattle.elab_groups.specs.tasks.Equations.{cells}
use Rattle.elab_groups.specs.open_types.unify_types.Assigned.{assign}
use Rattle.elab_groups.specs.open_types.unify_types.Pairs.{IsKind, IsSolution}
use Rattle.elab_groups.specs.surface.Lexeme.{Word}
use Rattle.elab_groups.specs.name_resolution.Abstract.{TypeExpression, Pattern, Patterns, wildcard_pattern, variable_pattern, constructor_pattern, tuple_pattern, alias_pattern, record_pattern, no_patterns, more_patterns, Alternatives, no_alternatives, more_alternatives, BoundNames, Expression, Expressions, MatchBranches, applied_expression, infix_expression, integer_expression, true_expression, false_expression, tuple_expression, cast_expression, field_expression, record_expression, not_expression, connected_expression, equality_expression, if_expression, let_expression, match_expression, quantified_expression, no_expressions, more_expressions, no_branches, more_branches, count_patterns, count_expressions}
use Rattle.elab_groups.specs.name_resolution.Faults.{is_predicate, is_formula_trigger, token}
use Rattle.elab_groups.specs.name_resolution.Where.{Where}
use Rattle.elab_groups.specs.name_resolution.Records.{record_named}
use Rattle.elab_groups.specs.open_types.Patterns.{LocalTree, local, NumberedEntry, entry_of, local_type, place_types, fields_tree, reordered}
pub use Rattle.elab_groups.specs.open_types.Patterns.{PatternTree, pattern_tree, beside}
use Rattle.elab_groups.specs.open_types.Pieces.{NotedTree, type_at, Use, Local', Symbol', use_of_name, field_use, tuple_use, record_use, field_places, values_placed, symbol_at_types, locals_of_type, quantify, equality, names}
use Rattle.elab_groups.specs.open_types.Scoped.{IsScoped}
use Rattle.elab_groups.specs.Groups.{typed_locals}

-- A type that is chosen, with the token of its node. Types are chosen for the type variables of a
-- symbol that is used, for a variable bound without its type, the sides of an equality, the value
-- of a `let`, the scrutinee of a `match`, and a trigger that is a term.
pub record Choice : Type 0 where
  pub token : ℕ
  pub type : Tree

abbrev pub choices_at : ℕ → List Tree → List Choice
choices_at i ts = map (λ (t : Tree). record { token = i; type = t }) ts

-- two parts, the first before the second
pub record Both {A B C : Type 0} (First : A → List Choice → Type 0)
    (Second : B → List Choice → Type 0) (make : A → B → C) (it : C)
    (cs : List Choice) : Type 0 where
  pub first : A
  pub second : B
  pub first_chosen : List Choice
  pub second_chosen : List Choice
  pub first_is : First first first_chosen
  pub second_is : Second second second_chosen
  pub made : it ≡ make first second
  pub chosen : cs ≡ first_chosen ++ second_chosen

-- after the choice of a type for a node
pub record Choosing {A : Type 0} (i : ℕ) (Rest : Tree → A → List Choice → Type 0) (it : A)
    (cs : List Choice) : Type 0 where
  pub type : Tree
  pub more : List Choice
  pub rest : Rest type it more
  pub chosen : cs ≡ record { token = i; type = type } ∷ more

-- ---- uses
-- a predicate is a formula, and any other symbol a term of its result at types
abbrev pub IsDueResult : SymbolTree → List Tree → Option Tree → Type 0
IsDueResult e ts None = e.kind ≡ Predicate
IsDueResult e ts (Some t) =
    (is_predicate e.kind ≡ false) × (option_map (λ (r : Tree). inst_types r ts) e.result ≡ Some t)

-- an entry at types for its type variables, before arguments of its parameters' types
pub record SymbolUsed (u : NumberedEntry) (i : ℕ) (Args : List Tree → Tree → List Choice → Type 0)
    (t : Option Tree) (e : Tree) (cs : List Choice) : Type 0 where
  pub types : List Tree
  pub args : Tree
  pub more : List Choice
  pub count : length types ≡ u.symbol.vars
  pub args_are : Args (map (λ (a : Tree). inst_types a types) u.symbol.args) args more
  pub result : IsDueResult u.symbol types t
  pub made : e ≡ symbol_at_types u.number types t args
  pub chosen : cs ≡ choices_at i types ++ more

-- a variable has its type and no arguments
abbrev pub IsUseTyping : Use → ℕ → (List Tree → Tree → List Choice → Type 0) → Option Tree → Tree
    → List Choice → Type 0
IsUseTyping (Local' p ty) i Args t e cs =
    Args [] (Leaf HEnd) [] × (t ≡ Some ty) × (e ≡ One (HBound p) ty) × (cs ≡ [])
IsUseTyping (Symbol' u) i Args t e cs = SymbolUsed u i Args t e cs

abbrev pub pair_cells : Tree → Tree → Tree
pair_cells a b = Two HCell a (Two HCell b (Leaf HEnd))

-- one argument
abbrev pub IsSingle : (Option Tree → Tree → List Choice → Type 0) → List Tree → Tree → List Choice
    → Type 0
IsSingle Is (t ∷ []) e cs =
    (y : Tree) × Is (Some t) y cs × (e ≡ Two HCell y (Leaf HEnd))
IsSingle Is _ e cs = ⊥

-- two arguments
abbrev pub IsPair : (Option Tree → Tree → List Choice → Type 0)
    → (Option Tree → Tree → List Choice → Type 0) → List Tree → Tree → List Choice → Type 0
IsPair Left Right (t ∷ u ∷ []) e cs = Both (Left (Some t)) (Right (Some u)) pair_cells e cs
IsPair Left Right _ e cs = ⊥

-- the values of fields at places, which are of the types there, in the order of the fields
pub record ValuesPlaced (places : List ℕ) (Values : List Tree → Tree → List Choice → Type 0)
    (ts : List Tree) (e : Tree) (cs : List Choice) : Type 0 where
  pub values : Tree
  pub values_are : Values (place_types places ts) values cs
  pub made : e ≡ values_placed places (length ts) values

-- ---- patterns
-- a constructor at types for its type variables; its result is the type of the pattern
pub record Constructed (u : NumberedEntry) (i : ℕ)
    (Parts : List Tree → PatternTree → List Choice → Type 0) (t : Tree) (p : PatternTree)
    (cs : List Choice) : Type 0 where
  pub types : List Tree
  pub parts : PatternTree
  pub more : List Choice
  pub count : length types ≡ u.symbol.vars
  pub parts_are : Parts (map (λ (a : Tree). inst_types a types) u.symbol.args) parts more
  pub kind : u.symbol.kind ≡ Constructor
  pub result : option_map (λ (r : Tree). inst_types r types) u.symbol.result ≡ Some t
  pub made : p ≡ pattern_tree (Three (HPatCon u.number) (cells types) parts.tree t) parts.variables
  pub chosen : cs ≡ choices_at i types ++ more

-- Patterns of fields at places, which are of the types there: they are in the order of the fields,
-- with a wildcard for any other field.
pub record PartsPlaced (places : List ℕ)
    (Parts : List Tree → List PatternTree → List Choice → Type 0) (ts : List Tree) (p : PatternTree)
    (cs : List Choice) : Type 0 where
  pub parts : List PatternTree
  pub parts_are : Parts (place_types places ts) parts cs
  pub made : p ≡ fields_tree places ts parts

abbrev pub with_alias : Word → Tree → PatternTree → PatternTree
with_alias x t p = pattern_tree (One HPatAlias p.tree) (p.variables ++ local x t ∷ [])

abbrev mutual
  -- a pattern of a type, with its variables
  pub IsPatternTyping : Where → Tree → Pattern → PatternTree → List Choice → Type 0
  IsPatternTyping w t (wildcard_pattern i) p cs = (p ≡ pattern_tree (One HPatAny t) []) × (cs ≡ [])
  IsPatternTyping w t (variable_pattern i x) p cs =
      (p ≡ pattern_tree (One HPatVar t) (local x t ∷ [])) × (cs ≡ [])
  IsPatternTyping w t (constructor_pattern i qs x ps) p cs =
      Constructed (entry_of w.symbols (w.names qs x)) i
      (λ ts q more. ArePatternTypings w ts ps q more) t p cs
  IsPatternTyping w t (tuple_pattern i ps) p cs =
      Constructed (entry_of w.symbols (w.tuples (count_patterns ps))) i
      (λ ts q more. ArePatternTypings w ts ps q more) t p cs
  IsPatternTyping w t (alias_pattern a i x) p cs =
      (q : PatternTree) × IsPatternTyping w t a q cs × (p ≡ with_alias x t q)
  IsPatternTyping w t (record_pattern i fs ps) p cs =
      Constructed (entry_of w.symbols (Some (record_named w.symbols w.names fs))) i
      (PartsPlaced (field_places w fs) (λ ts qs more. AreFieldTypings w ts ps qs more)) t p cs

  pub ArePatternTypings : Where → List Tree → Patterns → PatternTree → List Choice → Type 0
  ArePatternTypings w [] no_patterns p cs = (p ≡ pattern_tree (Leaf HEnd) []) × (cs ≡ [])
  ArePatternTypings w (t ∷ ts) no_patterns p cs = ⊥
  ArePatternTypings w [] (more_patterns a ps) p cs = ⊥
  ArePatternTypings w (t ∷ ts) (more_patterns a ps) p cs =
      Both (λ q c. IsPatternTyping w t a q c) (λ q c. ArePatternTypings w ts ps q c) beside p cs

  -- each by itself
  pub AreFieldTypings : Where → List Tree → Patterns → List PatternTree → List Choice → Type 0
  AreFieldTypings w [] no_patterns qs cs = (qs ≡ []) × (cs ≡ [])
  AreFieldTypings w (t ∷ ts) no_patterns qs cs = ⊥
  AreFieldTypings w [] (more_patterns a ps) qs cs = ⊥
  AreFieldTypings w (t ∷ ts) (more_patterns a ps) qs cs =
      Both (λ q c. IsPatternTyping w t a q c) (λ rest c. AreFieldTypings w ts ps rest c)
      (λ q rest. q ∷ rest) qs cs

-- a variable of a later alternative has the type of its name in the first one
abbrev pub AgreeWith : List LocalTree → List LocalTree → Type 0
AgreeWith first vs = AllByRecursion (λ (v : LocalTree). local_type v.name first ≡ v.type) vs

abbrev pub AreLaterTypings : Where → List LocalTree → Tree → Alternatives → List PatternTree
    → List Choice → Type 0
AreLaterTypings w first t no_alternatives ps cs = (ps ≡ []) × (cs ≡ [])
AreLaterTypings w first t (more_alternatives i a as') ps cs =
    Both (λ q c. IsPatternTyping w t a q c × AgreeWith first q.variables)
    (λ qs c. AreLaterTypings w first t as' qs c) (λ q qs. q ∷ qs) ps cs

-- the alternatives of a branch, each of the scrutinee's type
pub record FirstAndLater (w : Where) (t : Tree) (a : Pattern) (as' : Alternatives)
    (ps : List PatternTree) (cs : List Choice) : Type 0 where
  pub first : PatternTree
  pub later : List PatternTree
  pub first_chosen : List Choice
  pub later_chosen : List Choice
  pub first_is : IsPatternTyping w t a first first_chosen
  pub later_are : AreLaterTypings w first.variables t as' later later_chosen
  pub made : ps ≡ first ∷ later
  pub chosen : cs ≡ first_chosen ++ later_chosen

abbrev pub AreAlternativeTypings : Where → Tree → Alternatives → List PatternTree
    → List Choice → Type 0
AreAlternativeTypings w t no_alternatives ps cs = (ps ≡ []) × (cs ≡ [])
AreAlternativeTypings w t (more_alternatives i a as') ps cs = FirstAndLater w t a as' ps cs

abbrev pub first_bound : List PatternTree → List LocalTree
first_bound [] = []
first_bound (p ∷ ps) = p.variables

-- one arm for each alternative, whose body is under its variables in their order
abbrev pub arms_after : List LocalTree → Tree → List PatternTree → List Tree
arms_after first body [] = []
arms_after first body (p ∷ ps) =
    Two HArm p.tree (reordered first p.variables body) ∷ arms_after first body ps

abbrev pub arms_of_patterns : Tree → List PatternTree → List Tree
arms_of_patterns body [] = []
arms_of_patterns body (p ∷ ps) = Two HArm p.tree body ∷ arms_after p.variables body ps

-- ---- binders
abbrev pub IsBinderTyping : Where → ℕ → List Word → Option TypeExpression → List LocalTree
    → List Choice → Type 0
IsBinderTyping w i xs None vs cs =
    (ts : List Tree) × (length ts ≡ length xs) × (vs ≡ typed_locals xs ts) × (cs ≡ choices_at i ts)
IsBinderTyping w i xs (Some f) vs cs = (vs ≡ locals_of_type (type_at w f) xs) × (cs ≡ [])

abbrev pub AreBinderTypings : Where → ℕ → List BoundNames → List LocalTree → List Choice → Type 0
AreBinderTypings w i [] vs cs = (vs ≡ []) × (cs ≡ [])
AreBinderTypings w i (b ∷ bs) vs cs =
    Both (λ us c. IsBinderTyping w i b.names b.of_type us c) (λ us c. AreBinderTypings w i bs us c)
    (λ us ws. us ++ ws) vs cs

-- a trigger is a formula, or else a term of some type; its tree is dropped
abbrev pub IsTriggerTyping : Bool → ℕ → (Option Tree → Tree → List Choice → Type 0)
    → List Choice → Type 0
IsTriggerTyping true i Is cs = (e : Tree) × Is None e cs
IsTriggerTyping false i Is cs = (e : Tree) × Choosing i (λ u x more. Is (Some u) x more) e cs

-- binders, triggers and a formula under the bound variables
pub record QuantifiedTyping (ls : List LocalTree) (all : Bool)
    (Binders : List LocalTree → List Choice → Type 0)
    (Triggers : List LocalTree → List Choice → Type 0)
    (Body : List LocalTree → Tree → List Choice → Type 0) (e : Tree)
    (cs : List Choice) : Type 0 where
  pub variables : List LocalTree
  pub body : Tree
  pub bound_chosen : List Choice
  pub triggers_chosen : List Choice
  pub body_chosen : List Choice
  pub bound : Binders variables bound_chosen
  pub triggers : Triggers (reverse variables ++ ls) triggers_chosen
  pub body_is : Body (reverse variables ++ ls) body body_chosen
  pub made : e ≡ quantify all variables body
  pub chosen : cs ≡ bound_chosen ++ (triggers_chosen ++ body_chosen)

-- the alternatives of a branch, its body under the variables of the first one, and the other
-- branches
pub record BranchTyping (ls : List LocalTree) (Patterns' : List PatternTree → List Choice → Type 0)
    (Body : List LocalTree → Tree → List Choice → Type 0) (Rest : List Tree → List Choice → Type 0)
    (es : List Tree) (cs : List Choice) : Type 0 where
  pub patterns : List PatternTree
  pub body : Tree
  pub rest : List Tree
  pub patterns_chosen : List Choice
  pub body_chosen : List Choice
  pub rest_chosen : List Choice
  pub patterns_are : Patterns' patterns patterns_chosen
  pub body_is : Body (reverse (first_bound patterns) ++ ls) body body_chosen
  pub rest_are : Rest rest rest_chosen
  pub made : es ≡ arms_of_patterns body patterns ++ rest
  pub chosen : cs ≡ (patterns_chosen ++ body_chosen) ++ rest_chosen

abbrev pub if_tree : Tree → Tree × Tree → Tree
if_tree c p = Three HIf c p.0 p.1

abbrev pub case_tree : Tree → List Tree → Tree
case_tree s as' = Two HCase s (cells as')

abbrev pub both_trees : Tree → Tree → Tree × Tree
both_trees a b = (a, b)

-- ---- terms and formulas: under these variables, innermost first, a term of the type, or without
-- one a formula
abbrev mutual
  pub IsTyping : Where → List LocalTree → Option Tree → Expression → Tree → List Choice → Type 0
  IsTyping w ls t (applied_expression i qs x es) e cs =
      IsUseTyping (use_of_name w ls qs x) i (λ ts a c. AreTypings w ls ts es a c) t e cs
  IsTyping w ls t (infix_expression i x a b) e cs =
      IsUseTyping (use_of_name w ls [] x) i
      (IsPair (λ u y c. IsTyping w ls u a y c) (λ u y c. IsTyping w ls u b y c)) t e cs
  IsTyping w ls t (integer_expression i z) e cs =
      (t ≡ Some int_type) × (e ≡ Leaf (HNum z)) × (cs ≡ [])
  IsTyping w ls t (true_expression i) e cs = (t ≡ None) × (e ≡ Leaf HTrue) × (cs ≡ [])
  IsTyping w ls t (false_expression i) e cs = (t ≡ None) × (e ≡ Leaf HFalse) × (cs ≡ [])
  IsTyping w ls t (tuple_expression i es) e cs =
      IsUseTyping (tuple_use w (count_expressions es)) i
      (λ ts a c. AreTypings w ls ts es a c) t e cs
  IsTyping w ls t (cast_expression i a f) e cs =
      (t ≡ Some (type_at w f)) × IsTyping w ls (Some (type_at w f)) a e cs
  IsTyping w ls t (field_expression i a k qs x) e cs =
      IsUseTyping (field_use w qs x) i (IsSingle (λ u y c. IsTyping w ls u a y c)) t e cs
  IsTyping w ls t (record_expression i fs es) e cs =
      IsUseTyping (record_use w fs) i
      (ValuesPlaced (field_places w fs) (λ ts a c. AreTypings w ls ts es a c)) t e cs
  IsTyping w ls t (not_expression i a) e cs =
      (t ≡ None) × ((y : Tree) × IsTyping w ls None a y cs × (e ≡ One HNot y))
  IsTyping w ls t (connected_expression i a o b) e cs =
      (t ≡ None) × Both (λ y c. IsTyping w ls None a y c) (λ y c. IsTyping w ls None b y c)
      (Two (HJoin o)) e cs
  IsTyping w ls t (equality_expression i same a b) e cs =
      (t ≡ None) × Choosing i
      (λ u it more. Both (λ y c. IsTyping w ls (Some u) a y c)
      (λ y c. IsTyping w ls (Some u) b y c) (equality same) it more) e cs
  IsTyping w ls t (if_expression i c a b) e cs =
      Both (λ y d. IsTyping w ls None c y d)
      (λ p d. Both (λ y m. IsTyping w ls t a y m) (λ y m. IsTyping w ls t b y m) both_trees p d)
      if_tree e cs
  IsTyping w ls t (let_expression i x a b) e cs =
      Choosing i (λ u it more.
      Both (λ y c. IsTyping w ls (Some u) a y c) (λ y c. IsTyping w (local x u ∷ ls) t b y c)
      (Two HLet) it more) e cs
  IsTyping w ls t (match_expression i is_let a bs) e cs =
      Choosing i (λ u it more.
      Both (λ y c. IsTyping w ls (Some u) a y c) (λ as' c. AreBranchTypings w ls u t bs as' c)
      case_tree it more) e cs
  IsTyping w ls t (quantified_expression i all bs gs b) e cs =
      (t ≡ None) × QuantifiedTyping ls all (λ vs c. AreBinderTypings w i bs vs c)
      (λ inside c. AreTriggerTypings w inside gs c)
      (λ inside y c. IsTyping w inside None b y c) e cs

  -- arguments of these types
  pub AreTypings : Where → List LocalTree → List Tree → Expressions → Tree → List Choice → Type 0
  AreTypings w ls [] no_expressions e cs = (e ≡ Leaf HEnd) × (cs ≡ [])
  AreTypings w ls (t ∷ ts) no_expressions e cs = ⊥
  AreTypings w ls [] (more_expressions a es) e cs = ⊥
  AreTypings w ls (t ∷ ts) (more_expressions a es) e cs =
      Both (λ y c. IsTyping w ls (Some t) a y c) (λ y c. AreTypings w ls ts es y c) (Two HCell) e cs

  pub AreTriggerTypings : Where → List LocalTree → Expressions → List Choice → Type 0
  AreTriggerTypings w ls no_expressions cs = cs ≡ []
  AreTriggerTypings w ls (more_expressions a es) cs =
      (first : List Choice) × (more : List Choice)
      × IsTriggerTyping (is_formula_trigger w (names ls) a) (token a)
      (λ u y c. IsTyping w ls u a y c) first × AreTriggerTypings w ls es more
      × (cs ≡ first ++ more)

  -- the branches of a scrutinee of a type, where a term of a type or a formula is due
  pub AreBranchTypings : Where → List LocalTree → Tree → Option Tree → MatchBranches → List Tree
      → List Choice → Type 0
  AreBranchTypings w ls u t no_branches es cs = (es ≡ []) × (cs ≡ [])
  AreBranchTypings w ls u t (more_branches ps b bs) es cs =
      BranchTyping ls (λ qs c. AreAlternativeTypings w u ps qs c)
      (λ inside y c. IsTyping w inside t b y c) (λ as' c. AreBranchTypings w ls u t bs as' c) es cs

-- the expression has this tree where types are chosen so
pub record ElaboratesTo (w : Where) (ls : List LocalTree) (t : Option Tree) (a : Expression)
    (e : Tree) (cs : List Choice) : Type 0 where
  pub typing : IsTyping w ls t a e cs
  pub types : AllByRecursion (λ (c : Choice). IsKind c.type) cs

abbrev pub tokens : List Choice → List ℕ
tokens cs = map (λ (c : Choice). c.token) cs

-- the piece at a solution by types, whose unknowns have the types that are chosen, in order
pub record IsPieceAt (rigid : ℕ) (p : NotedTree) (e : Tree) (cs : List Choice) : Type 0 where
  pub assigned : ℕ → Tree
  pub solution : IsSolution rigid assigned p.notes.equations
  pub tree : assign rigid assigned p.tree ≡ e
  pub takers : p.notes.takers ≡ tokens cs
  pub types : (j : ℕ) (d : Choice) → j < length cs → assigned (rigid + j) ≡ (get_or cs j d).type

-- names that stand for types at their own type variables; variables' types and a wanted type that
-- have the declaration's own type variables alone, of which there are at least as many as names see
pub record HasOwnTypes (w : Where) (rigid : ℕ) (ls : List LocalTree)
    (t : Option Tree) : Type 0 where
  pub scoped : IsScoped w
  pub count : length w.vars ≤ rigid
  pub variables : AllByRecursion (λ (l : LocalTree). TyVarsBelow rigid l.type) ls
  pub wanted : IfSome t (TyVarsBelow rigid)

-- the types of unknowns from n on, with the tokens of the nodes that take them
abbrev pub choices_from : (ℕ → Tree) → ℕ → List ℕ → List Choice
choices_from f n [] = []
choices_from f n (i ∷ is) = record { token = i; type = f n } ∷ choices_from f (n + 1) is

abbrev pub chosen_types : List Choice → List Tree
chosen_types cs = map (λ (c : Choice). c.type) cs

-- the node of the first choice in which typings differ: two typings differ in it, and all agree in
-- the earlier ones
pub record IsFirstDifference (w : Where) (ls : List LocalTree) (t : Option Tree) (a : Expression)
    (token : ℕ) : Type 0 where
  pub place : ℕ
  pub first_tree : Tree
  pub second_tree : Tree
  pub first : List Choice
  pub second : List Choice
  pub first_is : ElaboratesTo w ls t a first_tree first
  pub second_is : ElaboratesTo w ls t a second_tree second
  pub node : slice_get (tokens first) place ≡ Some token
  pub differ : slice_get (chosen_types first) place ≡ slice_get (chosen_types second) place → ⊥
  pub before : (x y : Tree) (cs ds : List Choice) → ElaboratesTo w ls t a x cs
      → ElaboratesTo w ls t a y ds → (j : ℕ) → j < place
      → slice_get (chosen_types cs) j ≡ slice_get (chosen_types ds) j

-- there is a typing, and the tree of each one is this tree
pub record IsOnlyTyping (w : Where) (ls : List LocalTree) (t : Option Tree) (a : Expression)
    (e : Tree) : Type 0 where
  pub chosen : List Choice
  pub typing : ElaboratesTo w ls t a e chosen
  pub only : (x : Tree) (cs : List Choice) → ElaboratesTo w ls t a x cs → x ≡ e
