-- The plain declaration at each kind of node.
use Rattle.std.proofs.Common.{◌≡◌, List, map, Option, option_map, sym, ap, ◌∙◌}
use Rattle.surface.specs.declared.names.At.{At}
use Rattle.surface.specs.declared.names.Name.{Name}
use Rattle.surface.specs.declared.names.OpName.{OpName}
use Rattle.surface.specs.declared.names.Path.{Path}
use Rattle.surface.specs.declared.types.TypeTree.{TypeTree}
use Rattle.surface.specs.declared.expressions.Expr.{Expr}
use Rattle.surface.specs.declared.declarations.PropKind.{PropKind}
use Rattle.surface.specs.declared.declarations.Link.{Link}
use Rattle.surface.specs.declared.declarations.ParamTree.{ParamTree}
use Rattle.surface.specs.declared.declarations.MemberTree.{MemberTree}
use Rattle.surface.specs.declared.declarations.AlgTree.{AlgTree}
use Rattle.surface.specs.declared.declarations.IndTree.{IndTree}
use Rattle.surface.specs.declared.declarations.ElemTree.{ElemTree}
use Rattle.surface.specs.declared.declarations.DeclTree.{DeclTree, fold_out-DeclTree}
use Rattle.surface.specs.declared.declarations.DeclNode.{DeclNode}
use Rattle.surface.specs.declared.declarations.DeclNode.TheVariants as dv
use Rattle.surface.specs.declared.declarations.DeclNode.TheOpen as dn
use Rattle.surface.specs.declared.declarations.DeclNode.TheFolds.{fold-roll-DeclNode}
use Rattle.surface.specs.Declarations.{SyntaxDeclaration, type_decl, algebraic_decl, function_decl, predicate_decl, constant_decl, inductive_decl, prop_decl, use_decl, clone_decl, scope_decl}
use Rattle.surface.specs.Surface.{form_of, tree_of}
use Rattle.surface.specs.SurfaceDeclarations.{declared_name, plain_name, param_of, member_of, algebraic_of, inductive_of, element_of, decls, decl_step, decl_whole, decl_of, decl_of_node}

pub decl_of-node : (e : DeclTree) → decl_of e ≡ decl_of_node e.node e.at
unfolding decl_of decl_of_node
decl_of-node e = fold_out-DeclTree (At → SyntaxDeclaration) SyntaxDeclaration decl_step decl_whole e

pub decl_is : (e : DeclTree) (n : DeclNode) → e.node ≡ n → decl_of e ≡ decl_of_node n e.at
decl_is e n is = decl_of-node e ∙ ap (λ m. decl_of_node m e.at) is

pub decl_of_node-TypeDecl : (n : Name) (vs : List Name) (t : Option TypeTree) (a : At) → decl_of_node (dv.TypeDecl n vs t) a ≡ type_decl a n vs (option_map form_of t)
unfolding decl_of decl_of_node
decl_of_node-TypeDecl n vs t a = ap (λ n. decl_of_node n a) (sym (dv.rolls-TypeDecl n vs t)) ∙ ap (λ f. f a) (fold-roll-DeclNode (At → SyntaxDeclaration) SyntaxDeclaration decl_step decl_whole (dn.TypeDecl n vs t))

pub decl_of_node-Algebraic : (as_ : List AlgTree) (a : At) → decl_of_node (dv.Algebraic as_) a ≡ algebraic_decl a (map algebraic_of as_)
unfolding decl_of decl_of_node
decl_of_node-Algebraic as_ a = ap (λ n. decl_of_node n a) (sym (dv.rolls-Algebraic as_)) ∙ ap (λ f. f a) (fold-roll-DeclNode (At → SyntaxDeclaration) SyntaxDeclaration decl_step decl_whole (dn.Algebraic as_))

pub decl_of_node-Function : (n : OpName) (ps : List ParamTree) (t : TypeTree) (b : Option Expr) (ms : List MemberTree) (a : At) → decl_of_node (dv.Function n ps t b ms) a ≡ function_decl a (declared_name n) (map param_of ps) (form_of t) (option_map tree_of b) (map member_of ms)
unfolding decl_of decl_of_node
decl_of_node-Function n ps t b ms a = ap (λ n. decl_of_node n a) (sym (dv.rolls-Function n ps t b ms)) ∙ ap (λ f. f a) (fold-roll-DeclNode (At → SyntaxDeclaration) SyntaxDeclaration decl_step decl_whole (dn.Function n ps t b ms))

pub decl_of_node-Predicate : (n : OpName) (ps : List ParamTree) (b : Option Expr) (ms : List MemberTree) (a : At) → decl_of_node (dv.Predicate n ps b ms) a ≡ predicate_decl a (declared_name n) (map param_of ps) (option_map tree_of b) (map member_of ms)
unfolding decl_of decl_of_node
decl_of_node-Predicate n ps b ms a = ap (λ n. decl_of_node n a) (sym (dv.rolls-Predicate n ps b ms)) ∙ ap (λ f. f a) (fold-roll-DeclNode (At → SyntaxDeclaration) SyntaxDeclaration decl_step decl_whole (dn.Predicate n ps b ms))

pub decl_of_node-Constant : (n : OpName) (t : TypeTree) (b : Option Expr) (a : At) → decl_of_node (dv.Constant n t b) a ≡ constant_decl a (declared_name n) (form_of t) (option_map tree_of b)
unfolding decl_of decl_of_node
decl_of_node-Constant n t b a = ap (λ n. decl_of_node n a) (sym (dv.rolls-Constant n t b)) ∙ ap (λ f. f a) (fold-roll-DeclNode (At → SyntaxDeclaration) SyntaxDeclaration decl_step decl_whole (dn.Constant n t b))

pub decl_of_node-Inductive : (ds : List IndTree) (a : At) → decl_of_node (dv.Inductive ds) a ≡ inductive_decl a (map inductive_of ds)
unfolding decl_of decl_of_node
decl_of_node-Inductive ds a = ap (λ n. decl_of_node n a) (sym (dv.rolls-Inductive ds)) ∙ ap (λ f. f a) (fold-roll-DeclNode (At → SyntaxDeclaration) SyntaxDeclaration decl_step decl_whole (dn.Inductive ds))

pub decl_of_node-Prop : (k : PropKind) (n : Name) (b : Expr) (a : At) → decl_of_node (dv.Prop k n b) a ≡ prop_decl a k (plain_name n) (tree_of b)
unfolding decl_of decl_of_node
decl_of_node-Prop k n b a = ap (λ n. decl_of_node n a) (sym (dv.rolls-Prop k n b)) ∙ ap (λ f. f a) (fold-roll-DeclNode (At → SyntaxDeclaration) SyntaxDeclaration decl_step decl_whole (dn.Prop k n b))

pub decl_of_node-UseTheory : (l : Link) (p : Path) (n : Option Name) (a : At) → decl_of_node (dv.UseTheory l p n) a ≡ use_decl a l p n
unfolding decl_of decl_of_node
decl_of_node-UseTheory l p n a = ap (λ n. decl_of_node n a) (sym (dv.rolls-UseTheory l p n)) ∙ ap (λ f. f a) (fold-roll-DeclNode (At → SyntaxDeclaration) SyntaxDeclaration decl_step decl_whole (dn.UseTheory l p n))

pub decl_of_node-CloneTheory : (l : Link) (p : Path) (n : Option Name) (es : List ElemTree) (a : At) → decl_of_node (dv.CloneTheory l p n es) a ≡ clone_decl a l p n (map element_of es)
unfolding decl_of decl_of_node
decl_of_node-CloneTheory l p n es a = ap (λ n. decl_of_node n a) (sym (dv.rolls-CloneTheory l p n es)) ∙ ap (λ f. f a) (fold-roll-DeclNode (At → SyntaxDeclaration) SyntaxDeclaration decl_step decl_whole (dn.CloneTheory l p n es))

pub decl_of_node-ScopeDecl : (n : Name) (ds : List DeclTree) (a : At) → decl_of_node (dv.ScopeDecl n ds) a ≡ scope_decl a n (decls (map decl_of ds))
unfolding decl_of decl_of_node
decl_of_node-ScopeDecl n ds a = ap (λ n. decl_of_node n a) (sym (dv.rolls-ScopeDecl n ds)) ∙ ap (λ f. f a) (fold-roll-DeclNode (At → SyntaxDeclaration) SyntaxDeclaration decl_step decl_whole (dn.ScopeDecl n ds))

pub ruleset declared = (decl_of-node, decl_of_node-TypeDecl, decl_of_node-Algebraic, decl_of_node-Function, decl_of_node-Predicate, decl_of_node-Constant, decl_of_node-Inductive, decl_of_node-Prop, decl_of_node-UseTheory, decl_of_node-CloneTheory, decl_of_node-ScopeDecl)
