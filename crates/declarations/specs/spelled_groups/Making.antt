-- Numbers of types and formulas over a store, and the conjunction of a list of formulas where it
-- isn't empty.
use Rattle.std.specs.Prelude.{◌≡◌, ◌<◌, length, List, [], ◌∷◌, All, Option, Some, None, IfSome, slice_get}
use Rattle.tasks.specs.declared.signature.SymbolInfo.{SymbolInfo}
use Rattle.tasks.specs.declared.declaration.Ind.{Ind}
use Rattle.tasks.specs.declared.declaration.Body.{Body}
use Rattle.tasks.specs.declared.declaration.Body.TheVariants.{Inductives}
use Rattle.trees.specs.declared.TermId.{TermId}
use Rattle.trees.specs.declared.Sort.TheVariants.{Kind, Formula}
use Rattle.trees.specs.declared.Op.TheVariants.{And}
use Rattle.trees.specs.Tree.{Tree, Leaf, Two, HTrue, HJoin}
use Rattle.trees.specs.Node.{tree_at, Holds}
use Rattle.trees.specs.Sorts.{sort_of}

pub record IsKindAt (s : List Tree) (id : TermId) : Type 0 where
  pub held : Holds s id
  pub kind : sort_of (tree_at s id) ≡ Kind

pub record IsFormulaId (s : List Tree) (id : TermId) : Type 0 where
  pub held : Holds s id
  pub formula : sort_of (tree_at s id) ≡ Formula

-- a predicate whose entry has types as arguments, and whose clauses are formulas
pub record MemberIsFit (s : List Tree) (infos : List SymbolInfo) (i : Ind) : Type 0 where
  pub entry : i.symbol < length infos
  pub args : IfSome (slice_get infos i.symbol) (λ (e : SymbolInfo). All (IsKindAt s) e.args)
  pub clauses : All (IsFormulaId s) i.clauses

-- a body of which what it says can be made
abbrev pub IsFit : List Tree → List SymbolInfo → Body → Type 0
IsFit s infos (Inductives is) = All (MemberIsFit s infos) is
IsFit s infos _ = Unit {0}

abbrev pub joined_with : Tree → Option Tree → Option Tree
joined_with a None = Some a
joined_with a (Some b) = Some (Two (HJoin And) a b)

abbrev pub or_true : Option Tree → Tree
or_true None = Leaf HTrue
or_true (Some a) = a

abbrev pub conjoined : List Tree → Option Tree
conjoined [] = None
conjoined (a ∷ es) = joined_with a (conjoined es)
