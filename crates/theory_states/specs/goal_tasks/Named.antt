-- The symbols that are in trees and in declarations.
use Rattle.std.specs.Prelude.{ℕ, nat_eq, Bool, List, [], ◌∷◌, ◌++◌, map, Option, Some, None}
use Rattle.std.specs.List.{list_any, flat_map}
use Rattle.trees.specs.Tree.{Tree, Leaf, One, Two, Three, Head, HTyApp, HFun, HPred, HPatCon}
use Rattle.tasks.specs.Task.{SymbolTree, symbol_or, DefinitionTree, InductiveTree, BodyTree, MakesType, Makes, Defines, Induces, Constructs, Says, DeclarationTree, made_by}

-- what an operator names: a type symbol, a function, a predicate, or the constructor of a pattern
abbrev pub head_named : Head → List ℕ
head_named (HTyApp k) = k ∷ []
head_named (HFun k) = k ∷ []
head_named (HPred k) = k ∷ []
head_named (HPatCon k) = k ∷ []
head_named _ = []

abbrev pub named : Tree → List ℕ
named (Leaf h) = head_named h
named (One h a) = head_named h ++ named a
named (Two h a b) = head_named h ++ (named a ++ named b)
named (Three h a b c) = head_named h ++ (named a ++ (named b ++ named c))

-- those in the children
abbrev pub inner_named : Tree → List ℕ
inner_named (Leaf h) = []
inner_named (One h a) = named a
inner_named (Two h a b) = named a ++ named b
inner_named (Three h a b c) = named a ++ (named b ++ named c)

abbrev pub all_named : List Tree → List ℕ
all_named es = flat_map named es

-- those in the types of an entry
abbrev pub option_named : Option Tree → List ℕ
option_named None = []
option_named (Some e) = named e

abbrev pub signature_named : SymbolTree → List ℕ
signature_named e = all_named e.args ++ option_named e.result

abbrev pub signatures_named : List SymbolTree → List ℕ → List ℕ
signatures_named symbols ks = flat_map (λ k. signature_named (symbol_or symbols k)) ks

-- those in the equations, the clauses or the proposition of a declaration
abbrev pub formulas_of : BodyTree → List Tree
formulas_of (MakesType k) = []
formulas_of (Makes k) = []
formulas_of (Defines ds) = map (λ (d : DefinitionTree). d.equation) ds
formulas_of (Induces is) = flat_map (λ (i : InductiveTree). i.clauses) is
formulas_of (Constructs ts) = []
formulas_of (Says a) = a ∷ []

-- those in the types of what a declaration makes, and in what it says
abbrev pub body_named : List SymbolTree → BodyTree → List ℕ
body_named symbols b = signatures_named symbols (made_by b) ++ all_named (formulas_of b)

abbrev pub declarations_named : List SymbolTree → List DeclarationTree → List ℕ
declarations_named symbols ds = flat_map (λ (d : DeclarationTree). body_named symbols d.body) ds

abbrev pub is_among : List ℕ → ℕ → Bool
is_among ks k = list_any (nat_eq k) ks
