use Rattle.std.proofs.Common.{◌≡◌, ◌∷◌, [], map, option_map, sym, ap, ◌∙◌, append-nil}
use Rattle.elab_groups.specs.scopes.declared.Table.TheVariants.{Types, Symbols, Propositions}
use Rattle.surface.specs.declared.declarations.DeclNode.TheVariants as dv
use Rattle.surface.specs.Surface.{form_of}
use Rattle.surface.specs.SurfaceDeclarations.{decl_of, declared_name, plain_name, param_of, member_of, algebraic_of, inductive_of}
use Rattle.surface.proofs.DeclLemmas.{decl_is, decl_of_node-TypeDecl, decl_of_node-Prop, decl_of_node-Algebraic, decl_of_node-Function, decl_of_node-Predicate, decl_of_node-Constant, decl_of_node-Inductive, decl_of_node-UseTheory, decl_of_node-CloneTheory, decl_of_node-ScopeDecl}
use Rattle.elab_groups.specs.parts.Declarations.{makes, word, symbol, parameter_of, names_of_parameters, group_member, algebraic_type, inductive_predicate, made_type_names, made_by_members, made_by_inductives}
use Rattle.theories.specs.declaring.Made.{moves_made, moves_declared}
use Rattle.theories.proofs.declaring.Appended.{on_ok, name_then, type_moves}
use Rattle.theories.proofs.declaring.made.push_declared.Goals as goal

pub returns-in-TypeDecl : goal.returns-in-TypeDecl
returns-in-TypeDecl c =
    let n = c.args.scope.now in
    let d = c.args.decl.now in
    let i = c.in-TypeDecl in
    let e = decl_is d (dv.TypeDecl i.name i.field-1 i.field-2) i.is ∙ decl_of_node-TypeDecl i.name i.field-1 i.field-2 d.at in
    let z : moves_declared n (decl_of d) ≡ moves_made n (makes Types (word i.name) ∷ []) = ap (moves_declared n) e ∙ type_moves n d.at i.name i.field-1 (option_map form_of i.field-2) in
    rw z c.push_plain.ensures

pub returns-in-Algebraic : goal.returns-in-Algebraic
returns-in-Algebraic c =
    let n = c.args.scope.now in
    let d = c.args.decl.now in
    let i = c.in-Algebraic in
    let e = decl_is d (dv.Algebraic i.types) i.is ∙ decl_of_node-Algebraic i.types d.at in
    let z : moves_declared n (decl_of d) ≡ moves_made n (made_type_names (map algebraic_type (map algebraic_of i.types))) = ap (moves_declared n) e in
    rw z (rw c.as_slice.ensures at c.push_types.ensures)

pub returns-in_ok-push_symbol-in-Function : goal.returns-in_ok-push_symbol-in-Function
returns-in_ok-push_symbol-in-Function c =
    let n = c.args.scope.now in
    let d = c.args.decl.now in
    let i = c.in-Function in
    let e = decl_is d (dv.Function i.name i.field-1 i.field-2 i.field-3 i.others) i.is ∙ decl_of_node-Function i.name i.field-1 i.field-2 i.field-3 i.others d.at in
    let z = ap (moves_declared n) e in
    let rest = rw c.as_slice-in-Function.ensures at c.push_members.ensures in
    rw z (on_ok c.push_members.result _ _ (λ q. name_then n Symbols (symbol (declared_name i.name)) (names_of_parameters (map parameter_of (map param_of i.field-1))) (made_by_members (map group_member (map member_of i.others))) _ _ _ c.in_ok-push_symbol-in-Function.ensures q) rest)

pub returns-in_ok-push_symbol-in-Predicate : goal.returns-in_ok-push_symbol-in-Predicate
returns-in_ok-push_symbol-in-Predicate c =
    let n = c.args.scope.now in
    let d = c.args.decl.now in
    let i = c.in-Predicate in
    let e = decl_is d (dv.Predicate i.name i.field-1 i.field-2 i.others) i.is ∙ decl_of_node-Predicate i.name i.field-1 i.field-2 i.others d.at in
    let z = ap (moves_declared n) e in
    let rest = rw c.as_slice-in-Predicate.ensures at c.push_members-in-Predicate.ensures in
    rw z (on_ok c.push_members-in-Predicate.result _ _ (λ q. name_then n Symbols (symbol (declared_name i.name)) (names_of_parameters (map parameter_of (map param_of i.field-1))) (made_by_members (map group_member (map member_of i.others))) _ _ _ c.in_ok-push_symbol-in-Predicate.ensures q) rest)

pub returns-in-Constant : goal.returns-in-Constant
returns-in-Constant c =
    let n = c.args.scope.now in
    let d = c.args.decl.now in
    let i = c.in-Constant in
    let e = decl_is d (dv.Constant i.name i.field-1 i.field-2) i.is ∙ decl_of_node-Constant i.name i.field-1 i.field-2 d.at in
    let z : moves_declared n (decl_of d) ≡ moves_made n (makes Symbols (symbol (declared_name i.name)) ∷ []) = ap (moves_declared n) e in
    rw z c.push_symbol-in-Constant.ensures

pub returns-in-Inductive : goal.returns-in-Inductive
returns-in-Inductive c =
    let n = c.args.scope.now in
    let d = c.args.decl.now in
    let i = c.in-Inductive in
    let e = decl_is d (dv.Inductive i.predicates) i.is ∙ decl_of_node-Inductive i.predicates d.at in
    let z : moves_declared n (decl_of d) ≡ moves_made n (made_by_inductives (map inductive_predicate (map inductive_of i.predicates))) = ap (moves_declared n) e in
    rw z (rw c.as_slice-in-Inductive.ensures at c.push_inductives.ensures)

pub returns-in-Prop : goal.returns-in-Prop
returns-in-Prop c =
    let n = c.args.scope.now in
    let d = c.args.decl.now in
    let i = c.in-Prop in
    let e = decl_is d (dv.Prop i.field-0 i.name i.field-2) i.is ∙ decl_of_node-Prop i.field-0 i.name i.field-2 d.at in
    let z : moves_declared n (decl_of d) ≡ moves_made n (makes Propositions (symbol (plain_name i.name)) ∷ []) = ap (moves_declared n) e in
    rw z c.push_proposition.ensures

pub returns-in-UseTheory : goal.returns-in-UseTheory
returns-in-UseTheory c =
    let n = c.args.scope.now in
    let d = c.args.decl.now in
    let i = c.in-UseTheory in
    let e = decl_is d (dv.UseTheory i.field-0 i.field-1 i.field-2) i.is ∙ decl_of_node-UseTheory i.field-0 i.field-1 i.field-2 d.at in
    let z = ap (moves_declared n) e in
    rw z (sym (append-nil c.args.moves.now.items))

pub returns-in-CloneTheory : goal.returns-in-CloneTheory
returns-in-CloneTheory c =
    let n = c.args.scope.now in
    let d = c.args.decl.now in
    let i = c.in-CloneTheory in
    let e = decl_is d (dv.CloneTheory i.field-0 i.field-1 i.field-2 i.field-3) i.is ∙ decl_of_node-CloneTheory i.field-0 i.field-1 i.field-2 i.field-3 d.at in
    let z = ap (moves_declared n) e in
    rw z (sym (append-nil c.args.moves.now.items))

pub returns-in-ScopeDecl : goal.returns-in-ScopeDecl
returns-in-ScopeDecl c =
    let n = c.args.scope.now in
    let d = c.args.decl.now in
    let i = c.in-ScopeDecl in
    let e = decl_is d (dv.ScopeDecl i.field-0 i.field-1) i.is ∙ decl_of_node-ScopeDecl i.field-0 i.field-1 d.at in
    let z = ap (moves_declared n) e in
    rw z (sym (append-nil c.args.moves.now.items))
