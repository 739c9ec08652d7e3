-- Groups of functions, predicates and constants: what they are in abstract syntax.
use Rattle.std.proofs.Common.{◌≡◌, List, [], ◌∷◌, Option, Some, None, option_map, refl, map}
use Rattle.surface.specs.declared.names.At.{At}
use Rattle.surface.specs.declared.names.OpName.{OpName}
use Rattle.surface.specs.declared.types.TypeTree.{TypeTree}
use Rattle.surface.specs.declared.expressions.Expr.{Expr}
use Rattle.surface.specs.declared.declarations.ParamTree.{ParamTree}
use Rattle.surface.specs.declared.declarations.MemberTree.{MemberTree}
use Rattle.surface.specs.Declarations.{function_decl, predicate_decl, constant_decl}
use Rattle.surface.specs.Surface.{form_of, tree_of}
use Rattle.surface.specs.SurfaceDeclarations.{declared_name, param_of, member_of}
use Rattle.elab_groups.specs.parts.Declarations.{declaration, member_group}
use Rattle.elab_groups.specs.Bodies.{AreDefined}
use Rattle.elab_declarations.specs.Heads.{first_member, later_members}

pub function_members : (a : At) (n : OpName) (ps : List ParamTree) (t : TypeTree) (b : Option Expr) (ms : List MemberTree)
    → declaration (function_decl a (declared_name n) (map param_of ps) (form_of t) (option_map tree_of b) (map member_of ms)) ≡ Some (member_group (first_member n ps (Some t) b ∷ later_members ms))
function_members a n ps t None ms = refl
function_members a n ps t (Some e) ms = refl

pub predicate_members : (a : At) (n : OpName) (ps : List ParamTree) (b : Option Expr) (ms : List MemberTree)
    → declaration (predicate_decl a (declared_name n) (map param_of ps) (option_map tree_of b) (map member_of ms)) ≡ Some (member_group (first_member n ps None b ∷ later_members ms))
predicate_members a n ps None ms = refl
predicate_members a n ps (Some e) ms = refl

pub constant_members : (a : At) (n : OpName) (t : TypeTree) (b : Option Expr)
    → declaration (constant_decl a (declared_name n) (form_of t) (option_map tree_of b)) ≡ Some (member_group (first_member n [] (Some t) b ∷ []))
constant_members a n t None = refl
constant_members a n t (Some e) = refl

-- those after `with` have definitions
pub others_defined : (ms : List MemberTree) → AreDefined (later_members ms)
others_defined [] = tt
others_defined (m ∷ ms) = (refl, others_defined ms)
