-- Declarations in the order in which they stand: what may be named after them, and when each is
-- valid where it is.
use Rattle.std.specs.Prelude.{◌≡◌, ℕ, ◌<◌, ◌==◌, not, ◌&&◌, ◌||◌, Bool, List, [], ◌∷◌, ◌++◌, length, slice_get, All, Some, None}
use Rattle.std.specs.List.{list_any}
use Rattle.std.specs.Option.{is_some}
use Rattle.std.specs.Str.{bytes_eq}
use Rattle.elab_groups.specs.tasks.Task.{SymbolTree, DeclarationTree, made}
use Rattle.elab_groups.specs.tasks.Roles.{is_constructor, maker, role_by}
use Rattle.elab_groups.specs.tasks.Rigid.{rigid_symbol}
use Rattle.elab_groups.specs.tasks.Vocabulary.{Vocabulary, passes, is_constructor_kind}
use Rattle.elab_groups.specs.tasks.Valid.{IsValidDecl}
use Rattle.elab_groups.specs.name_resolution.Where.{NamesTree}
use Rattle.elab_groups.specs.surface.declared.declarations.PropKind.TheVariants.{Goal}
use Rattle.elab_groups.specs.surface.Declarations.{SyntaxDeclaration, function_decl, predicate_decl, prop_decl}
use Rattle.elab_groups.specs.parts.Entries.{builtin}
use Rattle.elaboration_laws.specs.Scopes.{is_projection_kind, IsTypedSignature, AreTypedScopes}

-- `int`, and the types and constructors of tuples
abbrev pub is_built : SymbolTree → Bool
is_built e = bytes_eq e.theory builtin && not (is_projection_kind e.kind)

-- what declarations make may be named after them, and what is built in; of the type variables of
-- goals, these
abbrev pub after : List SymbolTree → List ℕ → List DeclarationTree → Vocabulary
after symbols rigid ds = record {
  symbols = symbols;
  rigid = λ k. list_any (λ j. j == k) rigid;
  usable = λ k. passes is_built (slice_get symbols k) || is_some (maker ds k);
  matched = λ k. passes (λ e. is_built e && is_constructor_kind e.kind) (slice_get symbols k)
      || is_constructor (role_by k (maker ds k));
}

-- each declaration after others is valid where it is: over what it makes itself and what those
-- before it make
abbrev pub AreValidAfter : List SymbolTree → List DeclarationTree → List DeclarationTree → Type 0
AreValidAfter symbols before [] = Unit {0}
AreValidAfter symbols before (d ∷ ds) =
    IsValidDecl (after symbols [] (before ++ d ∷ [])) d
    × AreValidAfter symbols (before ++ d ∷ []) ds

-- a declaration that is no goal
abbrev pub IsNoGoal : SyntaxDeclaration → Type 0
IsNoGoal (prop_decl a Goal c e) = ⊥
IsNoGoal _ = Unit {0}

-- what declarations make is in a signature
abbrev pub MakesBelow : ℕ → List DeclarationTree → Type 0
MakesBelow n ds = All (λ (k : ℕ). k < n) (made ds)

-- where the first of a group of functions or predicates has no definition, there is no other
abbrev pub IsGroupWhole : SyntaxDeclaration → Type 0
IsGroupWhole (function_decl a c ps f None ms) = ms ≡ []
IsGroupWhole (predicate_decl a c ps None ms) = ms ≡ []
IsGroupWhole _ = Unit {0}

-- one more declaration is after others
pub record IsNextDeclaration (symbols : List SymbolTree) (names : NamesTree)
    (ds new : List DeclarationTree) : Type 0 where
  pub signature : IsTypedSignature (after symbols [] (ds ++ new)) symbols
  pub scopes : AreTypedScopes (after symbols [] (ds ++ new)) names
  pub valid : AreValidAfter symbols ds new
  pub makes : MakesBelow (length symbols) (ds ++ new)

-- the entry of a type variable of a goal
pub record IsRigidAt (symbols : List SymbolTree) (k : ℕ) : Type 0 where
  pub name : List ℕ
  pub entry : slice_get symbols k ≡ Some (rigid_symbol name)

-- a goal is after declarations: it makes nothing, and its type variables may be named in it alone
pub record IsNextGoal (symbols : List SymbolTree) (names : NamesTree) (ds : List DeclarationTree)
    (own : List ℕ) (said : List DeclarationTree) : Type 0 where
  pub signature : IsTypedSignature (after symbols [] ds) symbols
  pub scopes : AreTypedScopes (after symbols [] ds) names
  pub valid : All (IsValidDecl (after symbols own ds)) said
  pub makes : MakesBelow (length symbols) ds
  pub rigid : All (IsRigidAt symbols) own
