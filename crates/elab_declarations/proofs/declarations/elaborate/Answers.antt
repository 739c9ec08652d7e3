use Rattle.std.proofs.Common.{◌≡◌, List, [], ◌∷◌, Option, Some, None, option_map, IfOk, IfErr, refl, ap, subst, map, ◌∙◌}
use Rattle.surface.specs.declared.names.At.{At}
use Rattle.surface.specs.declared.names.Name.{Name}
use Rattle.surface.specs.declared.types.TypeTree.{TypeTree}
use Rattle.surface.specs.declared.declarations.ParamTree.{ParamTree}
use Rattle.surface.specs.declared.declarations.DeclNode.TheVariants as dv
use Rattle.surface.specs.Declarations.{type_decl}
use Rattle.surface.specs.Surface as code
use Rattle.surface.specs.SurfaceDeclarations.{decl_of}
use Rattle.surface.proofs.DeclLemmas.{decl_is, decl_of_node-TypeDecl, decl_of_node-Prop, decl_of_node-Algebraic, decl_of_node-Function, decl_of_node-Predicate, decl_of_node-Constant, decl_of_node-Inductive, decl_of_node-UseTheory, decl_of_node-CloneTheory, decl_of_node-ScopeDecl}
use Rattle.name_resolution.specs.Abstract.{type_expression_of}
use Rattle.elab_groups.specs.parts.Declarations.{AlgebraicType, InductivePredicate, GroupMember, algebraic, declaration, inductive, member_group, word}
use Rattle.elab_groups.specs.parts.Outcomes.{setting_where}
use Rattle.elab_groups.specs.members.Sources.{member_at}
use Rattle.elab_declarations.specs.type_declarations.Algebraics.{algebraics_of}
use Rattle.elab_declarations.specs.inductive_declarations.Sources.{predicates_at}
use Rattle.elab_declarations.specs.Outcomes.{type_declaration, IsElaborated, IsRefusal}
use Rattle.elab_declarations.specs.Heads.{first_member, later_members}
use Rattle.elab_declarations.proofs.Heads.{function_members, predicate_members, constant_members}
use Rattle.elab_declarations.proofs.declarations.elaborate.Goals as goal

declared_type : (a : At) (n : Name) (vs : List Name) (t : Option TypeTree) → declaration (type_decl a n vs (option_map code.form_of t)) ≡ Some (type_declaration (word n) (map word vs) (option_map type_expression_of t))
declared_type a n vs None = refl
declared_type a n vs (Some t) = refl

pub unreachable-requires : goal.unreachable-requires
unreachable-requires c = let e = decl_is c.args.decl.now (dv.UseTheory c.in-UseTheory.field-0 c.in-UseTheory.field-1 c.in-UseTheory.field-2) c.in-UseTheory.is ∙ decl_of_node-UseTheory c.in-UseTheory.field-0 c.in-UseTheory.field-1 c.in-UseTheory.field-2 c.args.decl.now.at in rw e at c.requires.logical

pub unreachable-requires-in-CloneTheory : goal.unreachable-requires-in-CloneTheory
unreachable-requires-in-CloneTheory c = let e = decl_is c.args.decl.now (dv.CloneTheory c.in-CloneTheory.field-0 c.in-CloneTheory.field-1 c.in-CloneTheory.field-2 c.in-CloneTheory.field-3) c.in-CloneTheory.is ∙ decl_of_node-CloneTheory c.in-CloneTheory.field-0 c.in-CloneTheory.field-1 c.in-CloneTheory.field-2 c.in-CloneTheory.field-3 c.args.decl.now.at in rw e at c.requires.logical

pub unreachable-requires-in-ScopeDecl : goal.unreachable-requires-in-ScopeDecl
unreachable-requires-in-ScopeDecl c = let e = decl_is c.args.decl.now (dv.ScopeDecl c.in-ScopeDecl.field-0 c.in-ScopeDecl.field-1) c.in-ScopeDecl.is ∙ decl_of_node-ScopeDecl c.in-ScopeDecl.field-0 c.in-ScopeDecl.field-1 c.args.decl.now.at in rw e at c.requires.logical

pub returns-in-TypeDecl-clause-ok : goal.returns-in-TypeDecl-clause-ok
returns-in-TypeDecl-clause-ok c =
    let e = decl_is c.args.decl.now (dv.TypeDecl c.in-TypeDecl.name c.in-TypeDecl.vars c.in-TypeDecl.ty) c.in-TypeDecl.is ∙ decl_of_node-TypeDecl c.in-TypeDecl.name c.in-TypeDecl.vars c.in-TypeDecl.ty c.args.decl.now.at in
    let d : declaration (decl_of c.args.decl.now) ≡ Some (type_declaration (word c.in-TypeDecl.name) (map word c.in-TypeDecl.vars) (option_map type_expression_of c.in-TypeDecl.ty)) = ap declaration e ∙ declared_type c.args.decl.now.at c.in-TypeDecl.name c.in-TypeDecl.vars c.in-TypeDecl.ty in
    rw d (rw (c.as_slice-vars.ensures) at c.elaborate_type_declaration.ensures.ok)

pub returns-in-TypeDecl-clause-err : goal.returns-in-TypeDecl-clause-err
returns-in-TypeDecl-clause-err c =
    let e = decl_is c.args.decl.now (dv.TypeDecl c.in-TypeDecl.name c.in-TypeDecl.vars c.in-TypeDecl.ty) c.in-TypeDecl.is ∙ decl_of_node-TypeDecl c.in-TypeDecl.name c.in-TypeDecl.vars c.in-TypeDecl.ty c.args.decl.now.at in
    let d : declaration (decl_of c.args.decl.now) ≡ Some (type_declaration (word c.in-TypeDecl.name) (map word c.in-TypeDecl.vars) (option_map type_expression_of c.in-TypeDecl.ty)) = ap declaration e ∙ declared_type c.args.decl.now.at c.in-TypeDecl.name c.in-TypeDecl.vars c.in-TypeDecl.ty in
    rw d (rw (c.as_slice-vars.ensures) at c.elaborate_type_declaration.ensures.err)

pub returns-in-Prop-clause-ok : goal.returns-in-Prop-clause-ok
returns-in-Prop-clause-ok c =
    let e = decl_is c.args.decl.now (dv.Prop c.in-Prop.kind c.in-Prop.name c.in-Prop.e) c.in-Prop.is ∙ decl_of_node-Prop c.in-Prop.kind c.in-Prop.name c.in-Prop.e c.args.decl.now.at in
    rw e c.elaborate_proposition.ensures.ok

pub returns-in-Prop-clause-err : goal.returns-in-Prop-clause-err
returns-in-Prop-clause-err c =
    let e = decl_is c.args.decl.now (dv.Prop c.in-Prop.kind c.in-Prop.name c.in-Prop.e) c.in-Prop.is ∙ decl_of_node-Prop c.in-Prop.kind c.in-Prop.name c.in-Prop.e c.args.decl.now.at in
    rw e c.elaborate_proposition.ensures.err

pub returns-in-Function-clause-ok : goal.returns-in-Function-clause-ok
returns-in-Function-clause-ok c =
    let e = decl_is c.args.decl.now (dv.Function c.in-Function.name c.in-Function.params c.in-Function.ty c.in-Function.body c.in-Function.others) c.in-Function.is ∙ decl_of_node-Function c.in-Function.name c.in-Function.params c.in-Function.ty c.in-Function.body c.in-Function.others c.args.decl.now.at in
    let heads : List GroupMember = first_member c.in-Function.name c.in-Function.params (Some c.in-Function.ty) c.in-Function.body ∷ later_members c.in-Function.others in
    let d : declaration (decl_of c.args.decl.now) ≡ Some (member_group heads) = ap declaration e ∙ function_members c.args.decl.now.at c.in-Function.name c.in-Function.params c.in-Function.ty c.in-Function.body c.in-Function.others in
    let given : List GroupMember = member_at c.head_member-first.result ∷ later_members c.as_slice-others.result.now in
    let first = c.head_member-first.ensures ∙ ap (λ (ps : List ParamTree). first_member c.in-Function.name ps (Some c.in-Function.ty) c.in-Function.body) c.as_slice-params.ensures in
    let others : later_members c.as_slice-others.result.now ≡ later_members c.in-Function.others = ap later_members c.as_slice-others.ensures in
    let q : given ≡ heads = ap (λ (m : GroupMember). m ∷ later_members c.as_slice-others.result.now) first ∙ ap (λ (ms : List GroupMember). first_member c.in-Function.name c.in-Function.params (Some c.in-Function.ty) c.in-Function.body ∷ ms) others in
    let st = setting_where c.args.theory.now c.args.within.now c.args.at c.args.store.now c.args.sig.now c.args.scope.now in
    let P : List GroupMember → Type 0 = λ ms. IfOk c.elaborate_members.result (IsElaborated st (member_group ms) c.args.sig.now c.elaborate_members.new.store c.elaborate_members.new.sig c.elaborate_members.new.scope) in
    let base : P given = c.elaborate_members.ensures.ok in
    rw d (subst P q base)

pub returns-in-Function-clause-err : goal.returns-in-Function-clause-err
returns-in-Function-clause-err c =
    let e = decl_is c.args.decl.now (dv.Function c.in-Function.name c.in-Function.params c.in-Function.ty c.in-Function.body c.in-Function.others) c.in-Function.is ∙ decl_of_node-Function c.in-Function.name c.in-Function.params c.in-Function.ty c.in-Function.body c.in-Function.others c.args.decl.now.at in
    let heads : List GroupMember = first_member c.in-Function.name c.in-Function.params (Some c.in-Function.ty) c.in-Function.body ∷ later_members c.in-Function.others in
    let d : declaration (decl_of c.args.decl.now) ≡ Some (member_group heads) = ap declaration e ∙ function_members c.args.decl.now.at c.in-Function.name c.in-Function.params c.in-Function.ty c.in-Function.body c.in-Function.others in
    let given : List GroupMember = member_at c.head_member-first.result ∷ later_members c.as_slice-others.result.now in
    let first = c.head_member-first.ensures ∙ ap (λ (ps : List ParamTree). first_member c.in-Function.name ps (Some c.in-Function.ty) c.in-Function.body) c.as_slice-params.ensures in
    let others : later_members c.as_slice-others.result.now ≡ later_members c.in-Function.others = ap later_members c.as_slice-others.ensures in
    let q : given ≡ heads = ap (λ (m : GroupMember). m ∷ later_members c.as_slice-others.result.now) first ∙ ap (λ (ms : List GroupMember). first_member c.in-Function.name c.in-Function.params (Some c.in-Function.ty) c.in-Function.body ∷ ms) others in
    let st = setting_where c.args.theory.now c.args.within.now c.args.at c.args.store.now c.args.sig.now c.args.scope.now in
    let P : List GroupMember → Type 0 = λ ms. IfErr c.elaborate_members.result (IsRefusal st (member_group ms)) in
    let base : P given = c.elaborate_members.ensures.err in
    rw d (subst P q base)

pub returns-in-Predicate-clause-ok : goal.returns-in-Predicate-clause-ok
returns-in-Predicate-clause-ok c =
    let e = decl_is c.args.decl.now (dv.Predicate c.in-Predicate.name c.in-Predicate.params c.in-Predicate.body c.in-Predicate.others) c.in-Predicate.is ∙ decl_of_node-Predicate c.in-Predicate.name c.in-Predicate.params c.in-Predicate.body c.in-Predicate.others c.args.decl.now.at in
    let heads : List GroupMember = first_member c.in-Predicate.name c.in-Predicate.params None c.in-Predicate.body ∷ later_members c.in-Predicate.others in
    let d : declaration (decl_of c.args.decl.now) ≡ Some (member_group heads) = ap declaration e ∙ predicate_members c.args.decl.now.at c.in-Predicate.name c.in-Predicate.params c.in-Predicate.body c.in-Predicate.others in
    let given : List GroupMember = member_at c.head_member-first-in-Predicate.result ∷ later_members c.as_slice-others-in-Predicate.result.now in
    let first = c.head_member-first-in-Predicate.ensures ∙ ap (λ (ps : List ParamTree). first_member c.in-Predicate.name ps None c.in-Predicate.body) c.as_slice-params-in-Predicate.ensures in
    let others : later_members c.as_slice-others-in-Predicate.result.now ≡ later_members c.in-Predicate.others = ap later_members c.as_slice-others-in-Predicate.ensures in
    let q : given ≡ heads = ap (λ (m : GroupMember). m ∷ later_members c.as_slice-others-in-Predicate.result.now) first ∙ ap (λ (ms : List GroupMember). first_member c.in-Predicate.name c.in-Predicate.params None c.in-Predicate.body ∷ ms) others in
    let st = setting_where c.args.theory.now c.args.within.now c.args.at c.args.store.now c.args.sig.now c.args.scope.now in
    let P : List GroupMember → Type 0 = λ ms. IfOk c.elaborate_members-in-Predicate.result (IsElaborated st (member_group ms) c.args.sig.now c.elaborate_members-in-Predicate.new.store c.elaborate_members-in-Predicate.new.sig c.elaborate_members-in-Predicate.new.scope) in
    let base : P given = c.elaborate_members-in-Predicate.ensures.ok in
    rw d (subst P q base)

pub returns-in-Predicate-clause-err : goal.returns-in-Predicate-clause-err
returns-in-Predicate-clause-err c =
    let e = decl_is c.args.decl.now (dv.Predicate c.in-Predicate.name c.in-Predicate.params c.in-Predicate.body c.in-Predicate.others) c.in-Predicate.is ∙ decl_of_node-Predicate c.in-Predicate.name c.in-Predicate.params c.in-Predicate.body c.in-Predicate.others c.args.decl.now.at in
    let heads : List GroupMember = first_member c.in-Predicate.name c.in-Predicate.params None c.in-Predicate.body ∷ later_members c.in-Predicate.others in
    let d : declaration (decl_of c.args.decl.now) ≡ Some (member_group heads) = ap declaration e ∙ predicate_members c.args.decl.now.at c.in-Predicate.name c.in-Predicate.params c.in-Predicate.body c.in-Predicate.others in
    let given : List GroupMember = member_at c.head_member-first-in-Predicate.result ∷ later_members c.as_slice-others-in-Predicate.result.now in
    let first = c.head_member-first-in-Predicate.ensures ∙ ap (λ (ps : List ParamTree). first_member c.in-Predicate.name ps None c.in-Predicate.body) c.as_slice-params-in-Predicate.ensures in
    let others : later_members c.as_slice-others-in-Predicate.result.now ≡ later_members c.in-Predicate.others = ap later_members c.as_slice-others-in-Predicate.ensures in
    let q : given ≡ heads = ap (λ (m : GroupMember). m ∷ later_members c.as_slice-others-in-Predicate.result.now) first ∙ ap (λ (ms : List GroupMember). first_member c.in-Predicate.name c.in-Predicate.params None c.in-Predicate.body ∷ ms) others in
    let st = setting_where c.args.theory.now c.args.within.now c.args.at c.args.store.now c.args.sig.now c.args.scope.now in
    let P : List GroupMember → Type 0 = λ ms. IfErr c.elaborate_members-in-Predicate.result (IsRefusal st (member_group ms)) in
    let base : P given = c.elaborate_members-in-Predicate.ensures.err in
    rw d (subst P q base)

pub returns-in-Constant-clause-ok : goal.returns-in-Constant-clause-ok
returns-in-Constant-clause-ok c =
    let e = decl_is c.args.decl.now (dv.Constant c.in-Constant.name c.in-Constant.ty c.in-Constant.body) c.in-Constant.is ∙ decl_of_node-Constant c.in-Constant.name c.in-Constant.ty c.in-Constant.body c.args.decl.now.at in
    let heads : List GroupMember = first_member c.in-Constant.name [] (Some c.in-Constant.ty) c.in-Constant.body ∷ [] in
    let d : declaration (decl_of c.args.decl.now) ≡ Some (member_group heads) = ap declaration e ∙ constant_members c.args.decl.now.at c.in-Constant.name c.in-Constant.ty c.in-Constant.body in
    let given : List GroupMember = member_at c.head_member-first-in-Constant.result ∷ [] in
    let q : given ≡ heads = ap (λ (m : GroupMember). m ∷ []) c.head_member-first-in-Constant.ensures in
    let st = setting_where c.args.theory.now c.args.within.now c.args.at c.args.store.now c.args.sig.now c.args.scope.now in
    let P : List GroupMember → Type 0 = λ ms. IfOk c.elaborate_members-in-Constant.result (IsElaborated st (member_group ms) c.args.sig.now c.elaborate_members-in-Constant.new.store c.elaborate_members-in-Constant.new.sig c.elaborate_members-in-Constant.new.scope) in
    let base : P given = c.elaborate_members-in-Constant.ensures.ok in
    rw d (subst P q base)

pub returns-in-Constant-clause-err : goal.returns-in-Constant-clause-err
returns-in-Constant-clause-err c =
    let e = decl_is c.args.decl.now (dv.Constant c.in-Constant.name c.in-Constant.ty c.in-Constant.body) c.in-Constant.is ∙ decl_of_node-Constant c.in-Constant.name c.in-Constant.ty c.in-Constant.body c.args.decl.now.at in
    let heads : List GroupMember = first_member c.in-Constant.name [] (Some c.in-Constant.ty) c.in-Constant.body ∷ [] in
    let d : declaration (decl_of c.args.decl.now) ≡ Some (member_group heads) = ap declaration e ∙ constant_members c.args.decl.now.at c.in-Constant.name c.in-Constant.ty c.in-Constant.body in
    let given : List GroupMember = member_at c.head_member-first-in-Constant.result ∷ [] in
    let q : given ≡ heads = ap (λ (m : GroupMember). m ∷ []) c.head_member-first-in-Constant.ensures in
    let st = setting_where c.args.theory.now c.args.within.now c.args.at c.args.store.now c.args.sig.now c.args.scope.now in
    let P : List GroupMember → Type 0 = λ ms. IfErr c.elaborate_members-in-Constant.result (IsRefusal st (member_group ms)) in
    let base : P given = c.elaborate_members-in-Constant.ensures.err in
    rw d (subst P q base)

pub returns-in-Algebraic-clause-ok : goal.returns-in-Algebraic-clause-ok
returns-in-Algebraic-clause-ok c =
    let e = decl_is c.args.decl.now (dv.Algebraic c.in-Algebraic.types) c.in-Algebraic.is ∙ decl_of_node-Algebraic c.in-Algebraic.types c.args.decl.now.at in
    let q : algebraics_of c.as_slice-types.result.now ≡ algebraics_of c.in-Algebraic.types = ap algebraics_of c.as_slice-types.ensures in
    let st = setting_where c.args.theory.now c.args.within.now c.args.at c.args.store.now c.args.sig.now c.args.scope.now in
    let P : List AlgebraicType → Type 0 = λ ts. IfOk c.elaborate_algebraic.result (IsElaborated st (algebraic ts) c.args.sig.now c.elaborate_algebraic.new.store c.elaborate_algebraic.new.sig c.elaborate_algebraic.new.scope) in
    let base : P (algebraics_of c.as_slice-types.result.now) = c.elaborate_algebraic.ensures.ok in
    rw e (subst P q base)

pub returns-in-Algebraic-clause-err : goal.returns-in-Algebraic-clause-err
returns-in-Algebraic-clause-err c =
    let e = decl_is c.args.decl.now (dv.Algebraic c.in-Algebraic.types) c.in-Algebraic.is ∙ decl_of_node-Algebraic c.in-Algebraic.types c.args.decl.now.at in
    let q : algebraics_of c.as_slice-types.result.now ≡ algebraics_of c.in-Algebraic.types = ap algebraics_of c.as_slice-types.ensures in
    let st = setting_where c.args.theory.now c.args.within.now c.args.at c.args.store.now c.args.sig.now c.args.scope.now in
    let P : List AlgebraicType → Type 0 = λ ts. IfErr c.elaborate_algebraic.result (IsRefusal st (algebraic ts)) in
    let base : P (algebraics_of c.as_slice-types.result.now) = c.elaborate_algebraic.ensures.err in
    rw e (subst P q base)

pub returns-in-Inductive-clause-ok : goal.returns-in-Inductive-clause-ok
returns-in-Inductive-clause-ok c =
    let e = decl_is c.args.decl.now (dv.Inductive c.in-Inductive.inductives) c.in-Inductive.is ∙ decl_of_node-Inductive c.in-Inductive.inductives c.args.decl.now.at in
    let q : predicates_at c.as_slice-inductives.result.now ≡ predicates_at c.in-Inductive.inductives = ap predicates_at c.as_slice-inductives.ensures in
    let st = setting_where c.args.theory.now c.args.within.now c.args.at c.args.store.now c.args.sig.now c.args.scope.now in
    let P : List InductivePredicate → Type 0 = λ ds. IfOk c.elaborate_inductives.result (IsElaborated st (inductive ds) c.args.sig.now c.elaborate_inductives.new.store c.elaborate_inductives.new.sig c.elaborate_inductives.new.scope) in
    let base : P (predicates_at c.as_slice-inductives.result.now) = c.elaborate_inductives.ensures.ok in
    rw e (subst P q base)

pub returns-in-Inductive-clause-err : goal.returns-in-Inductive-clause-err
returns-in-Inductive-clause-err c =
    let e = decl_is c.args.decl.now (dv.Inductive c.in-Inductive.inductives) c.in-Inductive.is ∙ decl_of_node-Inductive c.in-Inductive.inductives c.args.decl.now.at in
    let q : predicates_at c.as_slice-inductives.result.now ≡ predicates_at c.in-Inductive.inductives = ap predicates_at c.as_slice-inductives.ensures in
    let st = setting_where c.args.theory.now c.args.within.now c.args.at c.args.store.now c.args.sig.now c.args.scope.now in
    let P : List InductivePredicate → Type 0 = λ ds. IfErr c.elaborate_inductives.result (IsRefusal st (inductive ds)) in
    let base : P (predicates_at c.as_slice-inductives.result.now) = c.elaborate_inductives.ensures.err in
    rw e (subst P q base)
