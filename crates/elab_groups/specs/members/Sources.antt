-- Members in code, and what is made of them.
use Rattle.std.specs.Prelude.{◌≡◌, List, ◌∷◌, ◌++◌, map, length, All, Option, Some, None, option_map, IfSome, slice_get}
use Rattle.std.specs.Option.{option_copied, is_none}
use Rattle.std.specs.List.{AllByRecursion}
use Rattle.trees.specs.Tree.{Tree}
use Rattle.trees.specs.Node.{tree_at}
use Rattle.trees.specs.Facts.{TyVarsBelow}
use Rattle.tasks.specs.Meaning.{symbols_at, trees_at}
use Rattle.tasks.specs.Task.{SymbolTree, int_symbol}
use Rattle.tasks.specs.declared.signature.Signature.{Signature}
use Rattle.surface.specs.SurfaceDeclarations.{declared_name, param_of}
use Rattle.surface.specs.declared.declarations.ParamTree.{ParamTree}
use Rattle.surface.specs.declared.types.TypeTree.{TypeTree}
use Rattle.surface.specs.Lexeme.{Word}
use Rattle.name_resolution.specs.Abstract.{TypeExpression, type_expression_of, expression_of}
use Rattle.name_resolution.specs.Where.{Where}
use Rattle.open_types.specs.Scoped.{IsScoped, IsScopedEntry}
use Rattle.open_types.specs.Drafts.{HoldsType, SymbolTyped}
use Rattle.elab_groups.specs.parts.Declarations.{GroupMember, Parameter, parameter_of, symbol}
use Rattle.elab_groups.specs.parts.Outcomes.{Setting, over}
use Rattle.elab_groups.specs.declared.members.sources.MemberSource.{MemberSource}
use Rattle.elab_groups.specs.declared.members.signing.Signed.{Signed}
use Rattle.elab_groups.specs.declared.members.signing.Signatures.{Signatures}
use Rattle.elab_groups.specs.members.Members.{SignatureTree, words_of_parameters, body_fault, signature_trees, member_entries}

abbrev pub parameters_of : List ParamTree → List Parameter
parameters_of ps = map parameter_of (map param_of ps)

-- the type of a result, where there is one
abbrev pub result_form : Option TypeTree → Option TypeExpression
result_form t = option_map type_expression_of t

abbrev pub member_at : MemberSource → GroupMember
member_at m = record {
  called = symbol (declared_name m.name.now);
  params =
      parameters_of m.params.now;
  result = result_form (option_copied m.result);
  body =
      option_map expression_of (option_copied m.body);
}

abbrev pub members_at : List MemberSource → List GroupMember
members_at ms = map member_at ms

-- ---- signatures
abbrev pub signed_at : List Tree → Signed → SignatureTree
signed_at s it =
    record { vars = it.vars; args = trees_at s it.args; result = option_map (tree_at s) it.result }

pub record SignedHeld (s : List Tree) (it : Signed) : Type 0 where
  pub args : All (HoldsType s) it.args
  pub result : IfSome it.result (HoldsType s)

-- the entries of members are made after others, whether their names are there or not
pub record IsEntered (c : Setting) (before : List SymbolTree) (ms : List GroupMember)
    (g : Signature) (s' : List Tree) (g' : Signature) (it : Signatures) : Type 0 where
  pub number : it.number ≡ length before
  pub held : All (SignedHeld s') it.list.items
  pub signed : map (signed_at s') it.list.items ≡ signature_trees c before ms
  pub symbols : symbols_at s' g'.symbols ≡ before ++ member_entries c before ms
  pub typed : All (SymbolTyped s') g'.symbols
  pub ints : g'.ints ≡ g.ints
  pub int : slice_get before 0 ≡ Some int_symbol
  pub scoped : All IsScopedEntry before
  pub outer : (vars : List Word) → IsScoped (over before c.scope vars)

-- the types of a signature name only its own type variables
pub record IsScopedSignature (g : SignatureTree) : Type 0 where
  pub args : AllByRecursion (TyVarsBelow (length g.vars)) g.args
  pub result : IfSome g.result (TyVarsBelow (length g.vars))

-- the body of a member has no fault of names; it has a type for each parameter, and a result where
-- one is due
pub record IsResolved (w : Where) (m : GroupMember) (g : SignatureTree) : Type 0 where
  pub right : body_fault w m g.vars m.body ≡ None
  pub count : length g.args ≡ length (words_of_parameters m.params)
  pub kind : is_none m.result ≡ is_none g.result

abbrev pub AreResolved : Where → List GroupMember → List SignatureTree → Type 0
AreResolved w (m ∷ ms) (g ∷ gs) = IsResolved w m g × AreResolved w ms gs
AreResolved w _ _ = Unit {0}
