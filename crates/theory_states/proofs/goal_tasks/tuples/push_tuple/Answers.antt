use Rattle.std.proofs.Common.{◌≡◌, ℕ, ◌-◌, ◌++◌, ◌∷◌, [], if◌then◌else◌, List, Option, Some, All, IfSome, sym, ap, subst, ◌∙◌}
use Rattle.std.proofs.lemmas.List.{append-nil, map-append}
use Rattle.std.proofs.lemmas.List.Elements.{All-push}
use Rattle.tasks.specs.declared.declaration.Decl.{Decl}
use Rattle.tasks.specs.Task.{DeclarationTree}
use Rattle.tasks.specs.Meaning.{symbols_at, declaration_at, declarations_at, DeclHeld}
use Rattle.theory_states.specs.goal_tasks.Tuples.{tuple_declaration, tuples_of}
use Rattle.theory_states.specs.goal_tasks.Meaning.{IsTupleAt}
use Rattle.theory_states.proofs.goal_tasks.tuples.push_tuple.Goals as goal
use Rattle.tasks.proofs.outside.Passed.{no_ok}

pub tuple_decl-requires-clause-symbols_held : goal.tuple_decl-requires-clause-symbols_held
tuple_decl-requires-clause-symbols_held c = c.requires.symbols_held

pub tuple_decl-requires-clause-at : goal.tuple_decl-requires-clause-at
tuple_decl-requires-clause-at c = subst (λ (o : Option ℕ). IfSome o (IsTupleAt (symbols_at c.args.store.now c.args.sig.now.symbols) c.args.width)) c.in-Some.is c.requires.at

pub returns-in_err-decl-in-Some-clause-tree : goal.returns-in_err-decl-in-Some-clause-tree
returns-in_err-decl-in-Some-clause-tree c = no_ok _ _ c.from_residual.result c.from_residual.ensures.1

pub returns-in_err-decl-in-Some-clause-new_held : goal.returns-in_err-decl-in-Some-clause-new_held
returns-in_err-decl-in-Some-clause-new_held c = no_ok _ _ c.from_residual.result c.from_residual.ensures.1

pub returns-in_err-push-in-Some-clause-tree : goal.returns-in_err-push-in-Some-clause-tree
returns-in_err-push-in-Some-clause-tree c = no_ok _ _ c.from_residual-in_err-push-in-Some.result c.from_residual-in_err-push-in-Some.ensures.1

pub returns-in_err-push-in-Some-clause-new_held : goal.returns-in_err-push-in-Some-clause-new_held
returns-in_err-push-in-Some-clause-new_held c = no_ok _ _ c.from_residual-in_err-push-in-Some.result c.from_residual-in_err-push-in-Some.ensures.1

pub returns-in_ok-push-in-Some-clause-tree : goal.returns-in_ok-push-in-Some-clause-tree
returns-in_ok-push-in-Some-clause-tree c =
    let s = c.args.store.now in
    let old = declarations_at s c.args.out.now.items in
    let ks = c.args.found.now.keys in
    let n = c.args.width in
    let d = tuple_declaration n (c.in-Some.symbol - 1) in
    let made : tuples_of ks n (Some c.in-Some.symbol) ≡ d ∷ [] = ap (λ b. if b then d ∷ [] else []) (sym c.if-occurs.ensures) in
    ap (declarations_at s) c.in_ok-push-in-Some.ensures.items ∙ map-append (declaration_at s) c.args.out.now.items (c.in_ok-decl-in-Some.decl ∷ []) ∙ ap (λ (x : DeclarationTree). old ++ x ∷ []) c.in_ok-decl-in-Some.ensures.tree
    ∙ ap (λ (xs : List DeclarationTree). old ++ xs) (sym made ∙ ap (tuples_of ks n) (sym c.in-Some.is))

pub returns-in_ok-push-in-Some-clause-new_held : goal.returns-in_ok-push-in-Some-clause-new_held
returns-in_ok-push-in-Some-clause-new_held c =
    let P = DeclHeld c.args.store.now in
    subst (λ (ds : List Decl). All P ds) (sym c.in_ok-push-in-Some.ensures.items) (All-push P c.args.out.now.items c.in_ok-decl-in-Some.decl c.requires.held c.in_ok-decl-in-Some.ensures.held)

pub returns-else-occurs-clause-tree : goal.returns-else-occurs-clause-tree
returns-else-occurs-clause-tree c =
    let old = declarations_at c.args.store.now c.args.out.now.items in
    let ks = c.args.found.now.keys in
    let n = c.args.width in
    let d = tuple_declaration n (c.in-Some.symbol - 1) in
    let none : tuples_of ks n (Some c.in-Some.symbol) ≡ [] = ap (λ b. if b then d ∷ [] else []) (sym c.if-occurs.ensures) in
    sym (append-nil old) ∙ ap (λ (xs : List DeclarationTree). old ++ xs) (sym none ∙ ap (tuples_of ks n) (sym c.in-Some.is))

pub returns-else-occurs-clause-new_held : goal.returns-else-occurs-clause-new_held
returns-else-occurs-clause-new_held c = c.requires.held

pub returns-in-None-clause-tree : goal.returns-in-None-clause-tree
returns-in-None-clause-tree c =
    let old = declarations_at c.args.store.now c.args.out.now.items in
    sym (append-nil old) ∙ ap (λ (o : Option ℕ). old ++ tuples_of c.args.found.now.keys c.args.width o) (sym c.in-None.is)

pub returns-in-None-clause-new_held : goal.returns-in-None-clause-new_held
returns-in-None-clause-new_held c = c.requires.held
