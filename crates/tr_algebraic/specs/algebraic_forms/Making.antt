-- Numbers of terms, of an algebraic type at its own type variables, and of constructors whose
-- fields have types, in a store.
use Rattle.std.specs.Prelude.{◌≡◌, ℕ, List, All}
use Rattle.trees.specs.declared.TermId.{TermId}
use Rattle.trees.specs.declared.Sort.TheVariants.{Kind, Term}
use Rattle.trees.specs.Tree.{Tree}
use Rattle.trees.specs.Node.{tree_at, Holds}
use Rattle.trees.specs.Sorts.{sort_of, IsList}
use Rattle.tasks.specs.declared.declaration.Con.{Con}
use Rattle.tasks.specs.declared.declaration.Alg.{Alg}
use Rattle.tasks.specs.declared.declaration.Body.{Body}
use Rattle.tasks.specs.declared.declaration.Body.TheVariants.{Algebraics}
use Rattle.tasks.specs.Valid.{own_type}
use Rattle.declarations.specs.spelled_groups.Making.{IsKindAt}
use Rattle.tr_algebraic.specs.declared.algebraic_forms.terms.OwnType.{OwnType}
use Rattle.tr_algebraic.specs.algebraic_forms.Formulas.{own_type_list}

pub record IsTermAt (s : List Tree) (id : TermId) : Type 0 where
  pub held : Holds s id
  pub term : sort_of (tree_at s id) ≡ Term

pub record AreTermsAt (s : List Tree) (id : TermId) : Type 0 where
  pub held : Holds s id
  pub terms : IsList Term (tree_at s id)

-- the type of this number at so many type variables of its own
pub record IsOwnType (s : List Tree) (symbol vars : ℕ) (own : OwnType) : Type 0 where
  pub symbol_is : own.symbol ≡ symbol
  pub vars_are : own.vars ≡ vars
  pub list_held : Holds s own.list
  pub list : IsList Kind (tree_at s own.list)
  pub list_is : tree_at s own.list ≡ own_type_list vars
  pub type : IsKindAt s own.ty
  pub type_is : tree_at s own.ty ≡ own_type symbol vars

abbrev pub ConIsFit : List Tree → Con → Type 0
ConIsFit s c = All (IsKindAt s) c.fields

abbrev pub AlgIsFit : List Tree → Alg → Type 0
AlgIsFit s a = All (ConIsFit s) a.cons

-- a body of which what is put in its place can be made
abbrev pub IsAlgebraicFit : List Tree → Body → Type 0
IsAlgebraicFit s (Algebraics ts) = All (AlgIsFit s) ts
IsAlgebraicFit s _ = Unit {0}
