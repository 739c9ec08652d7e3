-- Steps that can be written: what names have to be in a table.
use Rattle.std.specs.Prelude.{◌≡◌, ◌≢◌, ℕ, ◌≤◌, List, [], ◌∷◌, ◌++◌, All, Option, codes}
use Rattle.std.specs.Option.{ForSome}
use Rattle.kernel.specs.trees.Tree.{Tree, height}
use Rattle.kernel.specs.trees.Sorts.{sort_of, IsExpression}
use Rattle.kernel.specs.trees.declared.Sort.TheVariants.{Kind}
use Rattle.kernel.specs.tasks.Words.{IsLineWord}
use Rattle.step_lines.specs.rule_words.Arguments.{ArgumentTree, AExpression, AType}
use Rattle.kernel.specs.rules.Trees.{RuleTree, RForall, RNotExists, RCut, RRefl, RReplace, RLetDef, RIfDef, RMatchDef, RDef, RClause, RInv, RCase, RProject, RTrichotomy, RBound, StepTree, rule_types}
use Rattle.name_tables.specs.declared.name_entries.names.NameOf.TheVariants.{Symbol}
use Rattle.name_tables.specs.declared.name_entries.names.NameEntry.{NameEntry}
use Rattle.step_writing.specs.tree_writing.Spelt.{IsSpelt}
use Rattle.step_writing.specs.tree_writing.Parts.{IsSubtree}
use Rattle.step_writing.specs.tree_writing.Whole.{TopNamed}

-- a word that isn't the colon of steps
pub record IsName (w : List ℕ) : Type 0 where
  pub word : IsLineWord w
  pub no_colon : w ≢ codes ":"

-- the names of a table are such words
abbrev pub AreWords : List NameEntry → Type 0
AreWords table = All (λ (n : NameEntry). IsName n.name) table

-- the terms and formulas that a rule names
abbrev pub rule_expressions : RuleTree → List Tree
rule_expressions (RForall i e) = e ∷ []
rule_expressions (RNotExists i e) = e ∷ []
rule_expressions (RCut e) = e ∷ []
rule_expressions (RRefl e) = e ∷ []
rule_expressions (RReplace i j e) = e ∷ []
rule_expressions (RLetDef e) = e ∷ []
rule_expressions (RIfDef e) = e ∷ []
rule_expressions (RMatchDef e) = e ∷ []
rule_expressions (RCase e) = e ∷ []
rule_expressions (RProject e) = e ∷ []
rule_expressions (RTrichotomy a b) = a ∷ b ∷ []
rule_expressions (RBound e n) = e ∷ []
rule_expressions _ = []

-- the symbol that a rule names
abbrev pub rule_symbols : RuleTree → List ℕ
rule_symbols (RDef k types) = k ∷ []
rule_symbols (RClause k c types) = k ∷ []
rule_symbols (RInv k types) = k ∷ []
rule_symbols _ = []

-- the trees that the line of a step refers to
abbrev pub step_trees : StepTree → List Tree
step_trees st = st.sequent ++ (rule_expressions st.rule ++ rule_types st.rule)

-- each symbol in a tree has a name, whole or at its types; no schematic type variable has
abbrev pub IsNamedTree : List NameEntry → Tree → Type 0
IsNamedTree table e = (x : Tree) → IsSubtree x e → TopNamed table x

-- the symbol that the rule of a step names has a name, whole
abbrev pub SymbolsNamed : List NameEntry → StepTree → Type 0
SymbolsNamed table st = All (λ k. IsSpelt table (Symbol k) []) (rule_symbols st.rule)

-- each symbol in a step has a name, and the one that its rule names has one whole
pub record IsNamedStep (table : List NameEntry) (st : StepTree) : Type 0 where
  pub trees : All (IsNamedTree table) (step_trees st)
  pub symbols : SymbolsNamed table st

abbrev pub AreNamed : List NameEntry → List StepTree → Type 0
AreNamed table steps = All (IsNamedStep table) steps

-- a tree is no taller than the tallest
abbrev pub IsLow : Option ℕ → Tree → Type 0
IsLow tallest e = ForSome tallest (λ n. height e ≤ n)

abbrev pub AreLow : Option ℕ → List StepTree → Type 0
AreLow tallest steps = All (λ st. All (IsLow tallest) (step_trees st)) steps

-- the trees among the arguments of a rule
abbrev pub trees_in : List ArgumentTree → List Tree
trees_in [] = []
trees_in (AExpression e ∷ args) = e ∷ trees_in args
trees_in (AType y ∷ args) = y ∷ trees_in args
trees_in (_ ∷ args) = trees_in args

-- the sequent of a step has formulas, and its rule names terms, formulas and types
pub record IsSortedStep (st : StepTree) : Type 0 where
  pub sequent : All (λ (e : Tree). IsExpression (sort_of e)) st.sequent
  pub expressions : All (λ (e : Tree). IsExpression (sort_of e)) (rule_expressions st.rule)
  pub types : All (λ (e : Tree). sort_of e ≡ Kind) (rule_types st.rule)

abbrev pub AreSorted : List StepTree → Type 0
AreSorted steps = All IsSortedStep steps
