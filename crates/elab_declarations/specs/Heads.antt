-- The groups of functions, predicates and constants of surface declarations.
use Rattle.std.specs.Prelude.{List, map, Option, option_map}
use Rattle.surface.specs.declared.names.OpName.{OpName}
use Rattle.surface.specs.declared.types.TypeTree.{TypeTree}
use Rattle.surface.specs.declared.expressions.Expr.{Expr}
use Rattle.surface.specs.declared.declarations.ParamTree.{ParamTree}
use Rattle.surface.specs.declared.declarations.MemberTree.{MemberTree}
use Rattle.surface.specs.SurfaceDeclarations.{declared_name, member_of}
use Rattle.name_resolution.specs.Abstract.{expression_of}
use Rattle.elab_groups.specs.parts.Declarations.{GroupMember, symbol, group_member}
use Rattle.elab_groups.specs.members.Sources.{parameters_of, result_form}

-- the first member of a group, and those after `with`
abbrev pub first_member : OpName → List ParamTree → Option TypeTree → Option Expr → GroupMember
first_member n ps t b = record {
  called = symbol (declared_name n);
  params =
      parameters_of ps;
  result = result_form t;
  body = option_map expression_of b;
}

abbrev pub later_members : List MemberTree → List GroupMember
later_members ms = map group_member (map member_of ms)
