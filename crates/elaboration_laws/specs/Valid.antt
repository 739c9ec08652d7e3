-- What a declaration makes is valid over the signature that it extends, and keeps signature and
-- scopes typed.
use Rattle.std.specs.Prelude.{ℕ, reverse, length, Some, IsTrue, ◌≡◌, false, List, ◌++◌, All}
use Rattle.std.specs.Str.{bytes_eq}
use Rattle.elab_groups.specs.trees.Tree.{Tree}
use Rattle.elab_groups.specs.trees.Facts.{IndicesFit}
use Rattle.elab_groups.specs.tasks.Task.{SymbolTree, symbol_or, DefinitionTree, InductiveTree, BodyTree, Defines, Induces, Says, DeclarationTree}
use Rattle.elab_groups.specs.tasks.Equations.{cells, type_variables, bound_variables, for_all, equated}
use Rattle.elab_groups.specs.tasks.Meaning.{symbols_at, declarations_at}
use Rattle.elab_groups.specs.tasks.declared.signature.Signature.{Signature}
use Rattle.elab_groups.specs.tasks.Vocabulary.{Vocabulary, is_empty}
use Rattle.elab_groups.specs.tasks.Valid.{IsSignatureOf, IsValidDecl}
use Rattle.elab_groups.specs.scopes.Names.{ScopeNames}
use Rattle.elab_groups.specs.name_resolution.Naming.{scope_at}
use Rattle.elab_groups.specs.declared.parts.made.Elaborated.{Elaborated}
use Rattle.elab_groups.specs.parts.Entries.{builtin}
use Rattle.elab_groups.specs.surface.declared.declarations.PropKind.TheVariants.{Goal}
use Rattle.elab_groups.specs.parts.Declarations.{Declaration, proposition_declaration}
use Rattle.elab_groups.specs.parts.Outcomes.{Setting, Outcome}
use Rattle.checks.specs.decl_checks.Checks.{HasNoFault}
use Rattle.elaboration_laws.specs.Signature.{with_entries}
use Rattle.elaboration_laws.specs.Typed.{IsTypedIn}
use Rattle.elaboration_laws.specs.Scopes.{NamesNew, IsTypedSignature, AreTypedScopes}

-- where the signature and the scopes are typed, in a theory with a name, which isn't that of what
-- is built in
pub record IsTypedSetting (base : Vocabulary) (c : Setting) : Type 0 where
  pub theory : is_empty c.theory ≡ false
  pub source : bytes_eq c.theory builtin ≡ false
  pub signature : IsTypedSignature base c.symbols
  pub scopes : AreTypedScopes (with_entries base c.symbols) c.scope

-- no variable of what is said or defined has the greatest index
abbrev pub BodyFits : BodyTree → Type 0
BodyFits (Says e) = IndicesFit e
BodyFits (Defines ds) = All (λ (d : DefinitionTree). IndicesFit d.equation) ds
BodyFits (Induces is) = All (λ (i : InductiveTree). All IndicesFit i.clauses) is
BodyFits _ = Unit {0}

-- so in each declaration
abbrev pub DeclsFit : List DeclarationTree → Type 0
DeclsFit ds = All (λ (d : DeclarationTree). BodyFits d.body) ds

-- the checks of declarations find no fault
abbrev pub HaveNoFault : List SymbolTree → List DeclarationTree → Type 0
HaveNoFault symbols ds = All (λ (d : DeclarationTree). HasNoFault symbols d.body) ds

-- what is made may be named
abbrev pub MayName : Vocabulary → Setting → Outcome → Type 0
MayName base c o = NamesNew base (length c.symbols) (c.symbols ++ o.symbols)

-- signature and scopes are typed again
pub record IsTypedOutcome (base : Vocabulary) (c : Setting) (o : Outcome) : Type 0 where
  pub signature : IsTypedSignature base (c.symbols ++ o.symbols)
  pub scopes : AreTypedScopes (with_entries base (c.symbols ++ o.symbols)) o.scope

-- the type variables of a goal may be named
abbrev pub MayNameRigid : Vocabulary → Declaration → List ℕ → Type 0
MayNameRigid base (proposition_declaration Goal x e) ks = All (λ (k : ℕ). IsTrue (base.rigid k)) ks
MayNameRigid base _ ks = Unit {0}

-- so are declarations valid
pub record IsValidOutcome (base : Vocabulary) (c : Setting) (o : Outcome) : Type 0 where
  pub signature : IsTypedSignature base (c.symbols ++ o.symbols)
  pub scopes : AreTypedScopes (with_entries base (c.symbols ++ o.symbols)) o.scope
  pub decls : All (IsValidDecl (with_entries base (c.symbols ++ o.symbols))) o.decls

-- a symbol of a vocabulary with a body of its type under its parameters, and the equation of these
-- without its quantifiers
pub record IsDefinedBy (v : Vocabulary) (k : ℕ) (body inner : Tree) : Type 0 where
  pub signature : IsSignatureOf v k
  pub usable : IsTrue (v.usable k)
  pub equation : equated (symbol_or v.symbols k).kind k
      (cells (type_variables 0 (symbol_or v.symbols k).vars))
      (cells (bound_variables (symbol_or v.symbols k).args)) (symbol_or v.symbols k).result body
      ≡ Some inner
  pub typed : IsTypedIn v (symbol_or v.symbols k).vars (reverse (symbol_or v.symbols k).args)
      (symbol_or v.symbols k).result body
  pub fits : IndicesFit (for_all (symbol_or v.symbols k).args inner)

abbrev pub definition_by : Vocabulary → ℕ → Tree → DefinitionTree
definition_by v k inner =
    record { symbol = k; equation = for_all (symbol_or v.symbols k).args inner }

-- what is elaborated is valid over the signature afterwards
pub record IsValidElaborated (base : Vocabulary) (s : List Tree) (g : Signature)
    (names : ScopeNames) (made : Elaborated) : Type 0 where
  pub signature : IsTypedSignature base (symbols_at s g.symbols)
  pub scopes : AreTypedScopes (with_entries base (symbols_at s g.symbols)) (scope_at s names)
  pub decls : All (IsValidDecl (with_entries base (symbols_at s g.symbols)))
      (declarations_at s made.decls)
