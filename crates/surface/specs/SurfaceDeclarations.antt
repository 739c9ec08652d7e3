-- The plain trees of surface trees: declarations, theories and files, with the places that they
-- carry.
use Rattle.std.specs.Prelude.{ℕ, List, [], ◌∷◌, map, option_map}
use Rattle.surface.specs.Common.{At, Name, OpName}
use Rattle.surface.specs.declared.names.Style.TheVariants.{Plain}
use Rattle.surface.specs.declared.declarations.ParamTree.{ParamTree}
use Rattle.surface.specs.declared.declarations.MemberTree.{MemberTree}
use Rattle.surface.specs.declared.declarations.ConTree.{ConTree}
use Rattle.surface.specs.declared.declarations.AlgTree.{AlgTree}
use Rattle.surface.specs.declared.declarations.ClauseTree.{ClauseTree}
use Rattle.surface.specs.declared.declarations.IndTree.{IndTree}
use Rattle.surface.specs.declared.declarations.ElemNode.{ElemNode}
use Rattle.surface.specs.declared.declarations.ElemNode.TheVariants as el
use Rattle.surface.specs.declared.declarations.ElemTree.{ElemTree}
use Rattle.surface.specs.declared.declarations.DeclTree.{DeclTree, DeclTree-F}
use Rattle.surface.specs.declared.declarations.DeclNode.{DeclNode}
use Rattle.surface.specs.declared.declarations.DeclNode.TheOpen as dn
use Rattle.surface.specs.declared.declarations.DeclNode.TheOpen.{DeclNode-F}
use Rattle.surface.specs.declared.declarations.DeclNode.TheFolds.{fold-DeclTree, fold-DeclNode}
use Rattle.surface.specs.declared.declarations.TheoryTree.{TheoryTree}
use Rattle.surface.specs.declared.declarations.File.{File}
use Rattle.surface.specs.Forms.{Called, called}
use Rattle.surface.specs.Declarations.{ParamGroup, Member, Constructor, Algebraic, Clause, Inductive, Element, SyntaxDeclaration, SyntaxDeclarations, SyntaxTheory, type_element, symbol_element, prop_element, all_axioms, type_decl, algebraic_decl, function_decl, predicate_decl, constant_decl, inductive_decl, prop_decl, use_decl, clone_decl, scope_decl, no_decls, more_decls}
use Rattle.surface.specs.Surface.{own_of, called_of, form_of, tree_of}

abbrev pub decls : List SyntaxDeclaration → SyntaxDeclarations
decls [] = no_decls
decls (d ∷ ds) = more_decls d (decls ds)

-- what is declared
abbrev pub declared_name : OpName → Called
declared_name n = called n.at [] (own_of n.style n.text)

abbrev pub plain_name : Name → Called
plain_name n = called n.at [] (own_of Plain n.text)

abbrev pub param_of : ParamTree → ParamGroup
param_of p = record { names = p.names; of_type = form_of p.ty }

abbrev pub member_of : MemberTree → Member
member_of m = record {
  name = declared_name m.name;
  params = map param_of m.params;
  result =
      option_map form_of m.result;
  body = tree_of m.body;
}

abbrev pub constructor_of : ConTree → Constructor
constructor_of c = record { name = c.name; fields = map param_of c.fields }

abbrev pub algebraic_of : AlgTree → Algebraic
algebraic_of a = record {
  name = a.name;
  vars = a.vars;
  bar = a.bar;
  constructors = map constructor_of a.cons;
  fields = map param_of a.fields;
  semi = a.semi;
}

abbrev pub clause_of : ClauseTree → Clause
clause_of c = record { name = plain_name c.name; prop = tree_of c.prop }

abbrev pub inductive_of : IndTree → Inductive
inductive_of d = record {
  name = declared_name d.name;
  params = map param_of d.params;
  bar =
      d.bar;
  clauses = map clause_of d.clauses;
}

abbrev pub element_by : ElemNode → ℕ → Element
element_by (el.TypeElem q vs t) i = type_element i (called_of q) vs (form_of t)
element_by (el.SymbolElem s q r) i = symbol_element i s (called_of q) (called_of r)
element_by (el.PropElem k q) i = prop_element i k (called_of q)
element_by el.AllAxioms i = all_axioms i

abbrev pub element_of : ElemTree → Element
element_of e = element_by e.node e.at

-- One level of a declaration, with the trees of its parts in their place.
abbrev pub decl_step : DeclNode-F (At → SyntaxDeclaration) SyntaxDeclaration → At
    → SyntaxDeclaration
decl_step (dn.TypeDecl n vs t) a = type_decl a n vs (option_map form_of t)
decl_step (dn.Algebraic as_) a = algebraic_decl a (map algebraic_of as_)
decl_step (dn.Function n ps t e ms) a =
    function_decl a (declared_name n) (map param_of ps) (form_of t) (option_map tree_of e)
    (map member_of ms)
decl_step (dn.Predicate n ps e ms) a =
    predicate_decl a (declared_name n) (map param_of ps) (option_map tree_of e) (map member_of ms)
decl_step (dn.Constant n t e) a =
    constant_decl a (declared_name n) (form_of t) (option_map tree_of e)
decl_step (dn.Inductive ds) a = inductive_decl a (map inductive_of ds)
decl_step (dn.Prop k n e) a = prop_decl a k (plain_name n) (tree_of e)
decl_step (dn.UseTheory l p n) a = use_decl a l p n
decl_step (dn.CloneTheory l p n es) a = clone_decl a l p n (map element_of es)
decl_step (dn.ScopeDecl n ds) a = scope_decl a n (decls ds)

abbrev pub decl_whole : DeclTree-F (At → SyntaxDeclaration) SyntaxDeclaration → SyntaxDeclaration
decl_whole d = d.node d.at

unfoldable pub decl_of : DeclTree → SyntaxDeclaration
decl_of = fold-DeclTree (At → SyntaxDeclaration) SyntaxDeclaration decl_step decl_whole

unfoldable pub decl_of_node : DeclNode → At → SyntaxDeclaration
decl_of_node = fold-DeclNode (At → SyntaxDeclaration) SyntaxDeclaration decl_step decl_whole

abbrev pub theory_of : TheoryTree → SyntaxTheory
theory_of t =
    record { at = t.at; is_module = t.«module»; name = t.name; decls = decls (map decl_of t.decls) }

abbrev pub file_of : File → List SyntaxTheory
file_of f = map theory_of f.theories
