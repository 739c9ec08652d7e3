use Rattle.surface.proofs.unparse.Common.{arith, ◌∙◌, common_steps}
use Rattle.surface.proofs.DeclLemmas.{decl_is, decl_of_node-TypeDecl, decl_of_node-Algebraic, decl_of_node-Function, decl_of_node-Predicate, decl_of_node-Constant, decl_of_node-Inductive, decl_of_node-Prop, decl_of_node-UseTheory, decl_of_node-CloneTheory, decl_of_node-ScopeDecl}
use Rattle.surface.proofs.unparse.files.+declaration_writing.Goals as goal

pub push_decl-returns-in-TypeDecl : goal.push_decl-returns-in-TypeDecl
push_decl-returns-in-TypeDecl t c = let is = decl_is c.args.decl.now _ c.in-TypeDecl.is ∙ decl_of_node-TypeDecl _ _ _ _ in let made = c.push_type_decl.ensures c.in-TypeDecl.field-0 in grind (arith, common_steps)

pub push_decl-returns-in-Algebraic : goal.push_decl-returns-in-Algebraic
push_decl-returns-in-Algebraic t c = let is = decl_is c.args.decl.now _ c.in-Algebraic.is ∙ decl_of_node-Algebraic _ _ in grind (arith, common_steps)

pub push_decl-returns-in-Function : goal.push_decl-returns-in-Function
push_decl-returns-in-Function t c = let is = decl_is c.args.decl.now _ c.in-Function.is ∙ decl_of_node-Function _ _ _ _ _ _ in grind (arith, common_steps)

pub push_decl-returns-in-Predicate : goal.push_decl-returns-in-Predicate
push_decl-returns-in-Predicate t c = let is = decl_is c.args.decl.now _ c.in-Predicate.is ∙ decl_of_node-Predicate _ _ _ _ _ in grind (arith, common_steps)

pub push_decl-returns-in-Constant : goal.push_decl-returns-in-Constant
push_decl-returns-in-Constant t c = let is = decl_is c.args.decl.now _ c.in-Constant.is ∙ decl_of_node-Constant _ _ _ _ in grind (arith, common_steps)

pub push_decl-returns-in-Inductive : goal.push_decl-returns-in-Inductive
push_decl-returns-in-Inductive t c = let is = decl_is c.args.decl.now _ c.in-Inductive.is ∙ decl_of_node-Inductive _ _ in grind (arith, common_steps)

pub push_decl-returns-in-Prop : goal.push_decl-returns-in-Prop
push_decl-returns-in-Prop t c = let is = decl_is c.args.decl.now _ c.in-Prop.is ∙ decl_of_node-Prop _ _ _ _ in grind (arith, common_steps)

pub push_decl-returns-in-UseTheory : goal.push_decl-returns-in-UseTheory
push_decl-returns-in-UseTheory t c = let is = decl_is c.args.decl.now _ c.in-UseTheory.is ∙ decl_of_node-UseTheory _ _ _ _ in grind (arith, common_steps)

pub push_decl-returns-in-CloneTheory : goal.push_decl-returns-in-CloneTheory
push_decl-returns-in-CloneTheory t c = let is = decl_is c.args.decl.now _ c.in-CloneTheory.is ∙ decl_of_node-CloneTheory _ _ _ _ _ in grind (arith, common_steps)

pub push_decl-returns-in-ScopeDecl : goal.push_decl-returns-in-ScopeDecl
push_decl-returns-in-ScopeDecl t c = let is = decl_is c.args.decl.now _ c.in-ScopeDecl.is ∙ decl_of_node-ScopeDecl _ _ _ in grind (arith, common_steps)
