use Rattle.std.proofs.Common.{refl, ◌∙◌, subst}
use Rattle.surface.specs.declared.declarations.DeclNode.TheVariants as dv
use Rattle.surface.proofs.DeclLemmas.{decl_is, decl_of_node-TypeDecl, decl_of_node-Prop, decl_of_node-Function, decl_of_node-Predicate, decl_of_node-Constant, decl_of_node-Algebraic, decl_of_node-Inductive, decl_of_node-UseTheory, decl_of_node-CloneTheory, decl_of_node-ScopeDecl}
use Rattle.elab_declarations.specs.Outcomes.{IsLogical}
use Rattle.elab_declarations.proofs.declarations.is_logical.Goals as goal

pub returns-in-TypeDecl : goal.returns-in-TypeDecl
returns-in-TypeDecl c =
    let e = decl_is c.args.decl.now (dv.TypeDecl c.in-TypeDecl.field-0 c.in-TypeDecl.field-1 c.in-TypeDecl.field-2) c.in-TypeDecl.is ∙ decl_of_node-TypeDecl c.in-TypeDecl.field-0 c.in-TypeDecl.field-1 c.in-TypeDecl.field-2 c.args.decl.now.at in
    (λ h. rw e tt, λ h. refl)

pub returns-in-Prop : goal.returns-in-Prop
returns-in-Prop c =
    let e = decl_is c.args.decl.now (dv.Prop c.in-Prop.field-0 c.in-Prop.field-1 c.in-Prop.field-2) c.in-Prop.is ∙ decl_of_node-Prop c.in-Prop.field-0 c.in-Prop.field-1 c.in-Prop.field-2 c.args.decl.now.at in
    (λ h. rw e tt, λ h. refl)

pub returns-in-Function : goal.returns-in-Function
returns-in-Function c =
    let e = decl_is c.args.decl.now (dv.Function c.in-Function.field-0 c.in-Function.field-1 c.in-Function.field-2 c.in-Function.field-3 c.in-Function.field-4) c.in-Function.is ∙ decl_of_node-Function c.in-Function.field-0 c.in-Function.field-1 c.in-Function.field-2 c.in-Function.field-3 c.in-Function.field-4 c.args.decl.now.at in
    (λ h. rw e tt, λ h. refl)

pub returns-in-Predicate : goal.returns-in-Predicate
returns-in-Predicate c =
    let e = decl_is c.args.decl.now (dv.Predicate c.in-Predicate.field-0 c.in-Predicate.field-1 c.in-Predicate.field-2 c.in-Predicate.field-3) c.in-Predicate.is ∙ decl_of_node-Predicate c.in-Predicate.field-0 c.in-Predicate.field-1 c.in-Predicate.field-2 c.in-Predicate.field-3 c.args.decl.now.at in
    (λ h. rw e tt, λ h. refl)

pub returns-in-Constant : goal.returns-in-Constant
returns-in-Constant c =
    let e = decl_is c.args.decl.now (dv.Constant c.in-Constant.field-0 c.in-Constant.field-1 c.in-Constant.field-2) c.in-Constant.is ∙ decl_of_node-Constant c.in-Constant.field-0 c.in-Constant.field-1 c.in-Constant.field-2 c.args.decl.now.at in
    (λ h. rw e tt, λ h. refl)

pub returns-in-Algebraic : goal.returns-in-Algebraic
returns-in-Algebraic c =
    let e = decl_is c.args.decl.now (dv.Algebraic c.in-Algebraic.field-0) c.in-Algebraic.is ∙ decl_of_node-Algebraic c.in-Algebraic.field-0 c.args.decl.now.at in
    (λ h. rw e tt, λ h. refl)

pub returns-in-Inductive : goal.returns-in-Inductive
returns-in-Inductive c =
    let e = decl_is c.args.decl.now (dv.Inductive c.in-Inductive.field-0) c.in-Inductive.is ∙ decl_of_node-Inductive c.in-Inductive.field-0 c.args.decl.now.at in
    (λ h. rw e tt, λ h. refl)

pub returns-in-UseTheory : goal.returns-in-UseTheory
returns-in-UseTheory c =
    let e = decl_is c.args.decl.now (dv.UseTheory c.in-UseTheory.field-0 c.in-UseTheory.field-1 c.in-UseTheory.field-2) c.in-UseTheory.is ∙ decl_of_node-UseTheory c.in-UseTheory.field-0 c.in-UseTheory.field-1 c.in-UseTheory.field-2 c.args.decl.now.at in
    (λ h. absurd (cc), λ h. absurd (subst IsLogical e h))

pub returns-in-CloneTheory : goal.returns-in-CloneTheory
returns-in-CloneTheory c =
    let e = decl_is c.args.decl.now (dv.CloneTheory c.in-CloneTheory.field-0 c.in-CloneTheory.field-1 c.in-CloneTheory.field-2 c.in-CloneTheory.field-3) c.in-CloneTheory.is ∙ decl_of_node-CloneTheory c.in-CloneTheory.field-0 c.in-CloneTheory.field-1 c.in-CloneTheory.field-2 c.in-CloneTheory.field-3 c.args.decl.now.at in
    (λ h. absurd (cc), λ h. absurd (subst IsLogical e h))

pub returns-in-ScopeDecl : goal.returns-in-ScopeDecl
returns-in-ScopeDecl c =
    let e = decl_is c.args.decl.now (dv.ScopeDecl c.in-ScopeDecl.field-0 c.in-ScopeDecl.field-1) c.in-ScopeDecl.is ∙ decl_of_node-ScopeDecl c.in-ScopeDecl.field-0 c.in-ScopeDecl.field-1 c.args.decl.now.at in
    (λ h. absurd (cc), λ h. absurd (subst IsLogical e h))
