-- What a declaration names: where a vocabulary may name all of it.
use Rattle.std.specs.Prelude.{ℕ, List, All, IfSome, IsTrue}
use Rattle.elab_groups.specs.trees.Tree.{Tree, Leaf, One, Two, Three, Head, HTyRigid, HTyApp, HPred, HFun, HPatCon}
use Rattle.elab_groups.specs.tasks.Task.{SymbolTree, symbol_or, DefinitionTree, InductiveTree, ConstructorTree, AlgebraicTree, BodyTree, MakesType, Makes, Defines, Induces, Constructs, Says, DeclarationTree}
use Rattle.elab_groups.specs.tasks.Vocabulary.{Vocabulary}

abbrev pub LeafNames : Vocabulary → Head → Type 0
LeafNames v (HTyRigid k) = IsTrue (v.rigid k)
LeafNames v _ = Unit {0}

abbrev pub OneNames : Vocabulary → Head → Type 0
OneNames v (HTyApp k) = IsTrue (v.usable k)
OneNames v _ = Unit {0}

abbrev pub TwoNames : Vocabulary → Head → Type 0
TwoNames v (HPred k) = IsTrue (v.usable k)
TwoNames v _ = Unit {0}

abbrev pub ThreeNames : Vocabulary → Head → Type 0
ThreeNames v (HFun k) = IsTrue (v.usable k)
ThreeNames v (HPatCon k) = IsTrue (v.matched k)
ThreeNames v _ = Unit {0}

-- all that is in a tree may be named
abbrev pub TreeNames : Vocabulary → Tree → Type 0
TreeNames v (Leaf h) = LeafNames v h
TreeNames v (One h a) = OneNames v h × TreeNames v a
TreeNames v (Two h a b) = TwoNames v h × TreeNames v a × TreeNames v b
TreeNames v (Three h a b c) = ThreeNames v h × TreeNames v a × TreeNames v b × TreeNames v c

-- in the types of an entry
pub record EntryNames (v : Vocabulary) (e : SymbolTree) : Type 0 where
  pub args : All (TreeNames v) e.args
  pub result : IfSome e.result (TreeNames v)

abbrev pub NumberNames : Vocabulary → List SymbolTree → ℕ → Type 0
NumberNames v symbols k = EntryNames v (symbol_or symbols k)

pub record DefinitionNames (v : Vocabulary) (symbols : List SymbolTree)
    (d : DefinitionTree) : Type 0 where
  pub signature : NumberNames v symbols d.symbol
  pub equation : TreeNames v d.equation

pub record InductiveNames (v : Vocabulary) (symbols : List SymbolTree)
    (i : InductiveTree) : Type 0 where
  pub signature : NumberNames v symbols i.symbol
  pub clauses : All (TreeNames v) i.clauses

pub record ConNames (v : Vocabulary) (symbols : List SymbolTree)
    (c : ConstructorTree) : Type 0 where
  pub signature : NumberNames v symbols c.symbol
  pub projections : All (NumberNames v symbols) c.projections

pub record AlgebraicNames (v : Vocabulary) (symbols : List SymbolTree)
    (a : AlgebraicTree) : Type 0 where
  pub signature : NumberNames v symbols a.symbol
  pub cons : All (ConNames v symbols) a.cons

-- in a declaration, and in the entries that it makes
abbrev pub BodyNames : Vocabulary → List SymbolTree → BodyTree → Type 0
BodyNames v symbols (MakesType k) = NumberNames v symbols k
BodyNames v symbols (Makes k) = NumberNames v symbols k
BodyNames v symbols (Defines ds) = All (DefinitionNames v symbols) ds
BodyNames v symbols (Induces is) = All (InductiveNames v symbols) is
BodyNames v symbols (Constructs ts) = All (AlgebraicNames v symbols) ts
BodyNames v symbols (Says a) = TreeNames v a

abbrev pub DeclNames : Vocabulary → List SymbolTree → DeclarationTree → Type 0
DeclNames v symbols d = BodyNames v symbols d.body
