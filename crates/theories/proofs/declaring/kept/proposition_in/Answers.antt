use Rattle.std.proofs.Common.{sym, ap, ◌∙◌}
use Rattle.surface.specs.declared.declarations.DeclNode.TheVariants as dv
use Rattle.surface.proofs.DeclLemmas.{decl_is, decl_of_node-TypeDecl, decl_of_node-Prop, decl_of_node-Algebraic, decl_of_node-Function, decl_of_node-Predicate, decl_of_node-Constant, decl_of_node-Inductive, decl_of_node-UseTheory, decl_of_node-CloneTheory, decl_of_node-ScopeDecl}
use Rattle.theories.specs.declaring.Declared.{proposition_in}
use Rattle.theories.proofs.declaring.kept.proposition_in.Goals as goal

pub returns-in-Prop : goal.returns-in-Prop
returns-in-Prop c =
    let d = c.args.decl.now in
    let i = c.in-Prop in
    sym (ap proposition_in (decl_is d (dv.Prop i.kind i.field-1 i.e) i.is ∙ decl_of_node-Prop i.kind i.field-1 i.e d.at))

pub returns-in-TypeDecl : goal.returns-in-TypeDecl
returns-in-TypeDecl c =
    let d = c.args.decl.now in
    let i = c.in-TypeDecl in
    sym (ap proposition_in (decl_is d (dv.TypeDecl i.field-0 i.field-1 i.field-2) i.is ∙ decl_of_node-TypeDecl i.field-0 i.field-1 i.field-2 d.at))

pub returns-in-Function : goal.returns-in-Function
returns-in-Function c =
    let d = c.args.decl.now in
    let i = c.in-Function in
    sym (ap proposition_in (decl_is d (dv.Function i.field-0 i.field-1 i.field-2 i.field-3 i.field-4) i.is ∙ decl_of_node-Function i.field-0 i.field-1 i.field-2 i.field-3 i.field-4 d.at))

pub returns-in-Predicate : goal.returns-in-Predicate
returns-in-Predicate c =
    let d = c.args.decl.now in
    let i = c.in-Predicate in
    sym (ap proposition_in (decl_is d (dv.Predicate i.field-0 i.field-1 i.field-2 i.field-3) i.is ∙ decl_of_node-Predicate i.field-0 i.field-1 i.field-2 i.field-3 d.at))

pub returns-in-Constant : goal.returns-in-Constant
returns-in-Constant c =
    let d = c.args.decl.now in
    let i = c.in-Constant in
    sym (ap proposition_in (decl_is d (dv.Constant i.field-0 i.field-1 i.field-2) i.is ∙ decl_of_node-Constant i.field-0 i.field-1 i.field-2 d.at))

pub returns-in-Algebraic : goal.returns-in-Algebraic
returns-in-Algebraic c =
    let d = c.args.decl.now in
    let i = c.in-Algebraic in
    sym (ap proposition_in (decl_is d (dv.Algebraic i.field-0) i.is ∙ decl_of_node-Algebraic i.field-0 d.at))

pub returns-in-Inductive : goal.returns-in-Inductive
returns-in-Inductive c =
    let d = c.args.decl.now in
    let i = c.in-Inductive in
    sym (ap proposition_in (decl_is d (dv.Inductive i.field-0) i.is ∙ decl_of_node-Inductive i.field-0 d.at))

pub returns-in-UseTheory : goal.returns-in-UseTheory
returns-in-UseTheory c =
    let d = c.args.decl.now in
    let i = c.in-UseTheory in
    sym (ap proposition_in (decl_is d (dv.UseTheory i.field-0 i.field-1 i.field-2) i.is ∙ decl_of_node-UseTheory i.field-0 i.field-1 i.field-2 d.at))

pub returns-in-CloneTheory : goal.returns-in-CloneTheory
returns-in-CloneTheory c =
    let d = c.args.decl.now in
    let i = c.in-CloneTheory in
    sym (ap proposition_in (decl_is d (dv.CloneTheory i.field-0 i.field-1 i.field-2 i.field-3) i.is ∙ decl_of_node-CloneTheory i.field-0 i.field-1 i.field-2 i.field-3 d.at))

pub returns-in-ScopeDecl : goal.returns-in-ScopeDecl
returns-in-ScopeDecl c =
    let d = c.args.decl.now in
    let i = c.in-ScopeDecl in
    sym (ap proposition_in (decl_is d (dv.ScopeDecl i.field-0 i.field-1) i.is ∙ decl_of_node-ScopeDecl i.field-0 i.field-1 d.at))
