use Rattle.std.proofs.Common.{◌≡◌, ◌++◌, List, All, sym, ap, subst, ◌∙◌}
use Rattle.std.proofs.lemmas.List.{map-append}
use Rattle.std.proofs.lemmas.List.Elements.{All-append}
use Rattle.trees.specs.Node.{tree_at}
use Rattle.tasks.specs.declared.declaration.Decl.{Decl}
use Rattle.tasks.specs.Task.{DeclarationTree}
use Rattle.tasks.specs.Meaning.{symbols_at, declaration_at, declarations_at, DeclHeld}
use Rattle.theory_states.specs.goal_tasks.Named.{named, declarations_named}
use Rattle.theory_states.specs.goal_tasks.Tuples.{tuples_in}
use Rattle.theory_states.proofs.goal_tasks.making.with_tuples.Goals as goal
use Rattle.tasks.proofs.outside.Passed.{no_value}

pub tuple_decls-requires-clause-symbols_held : goal.tuple_decls-requires-clause-symbols_held
tuple_decls-requires-clause-symbols_held c = c.requires.symbols_held

pub tuple_decls-requires-clause-tuples : goal.tuple_decls-requires-clause-tuples
tuple_decls-requires-clause-tuples c = c.requires.tuples

pub tuple_decls-requires-clause-held : goal.tuple_decls-requires-clause-held
tuple_decls-requires-clause-held c = subst (λ (z : List Decl). All (DeclHeld c.args.store.now) z) (sym c.as_slice.ensures.value) c.requires.held

pub tuple_decls-requires-clause-goal_held : goal.tuple_decls-requires-clause-goal_held
tuple_decls-requires-clause-goal_held c = c.requires.goal_held

pub returns-in_err-tuple_decls-clause-tree : goal.returns-in_err-tuple_decls-clause-tree
returns-in_err-tuple_decls-clause-tree c = no_value _ _ c.from_residual.result c.from_residual.ensures.1

pub returns-in_err-tuple_decls-clause-new_held : goal.returns-in_err-tuple_decls-clause-new_held
returns-in_err-tuple_decls-clause-new_held c = no_value _ _ c.from_residual.result c.from_residual.ensures.1

pub returns-in_err-append-clause-tree : goal.returns-in_err-append-clause-tree
returns-in_err-append-clause-tree c = no_value _ _ c.from_residual-in_err-append.result c.from_residual-in_err-append.ensures.1

pub returns-in_err-append-clause-new_held : goal.returns-in_err-append-clause-new_held
returns-in_err-append-clause-new_held c = no_value _ _ c.from_residual-in_err-append.result c.from_residual-in_err-append.ensures.1

pub returns-clause-tree : goal.returns-clause-tree
returns-clause-tree c =
    let s = c.args.store.now in
    let symbols = symbols_at s c.args.sig.now.symbols in
    let first = c.in_ok-tuple_decls.field-0.items in
    let own = c.args.own.items in
    let joined : c.append.new.self ≡ first ++ own = c.in_ok-append.ensures.ok ∙ ap (λ (z : List Decl). z ++ c.from_vec.result) c.from_vec-decls.ensures ∙ ap (λ (z : List Decl). first ++ z) c.from_vec.ensures in
    let made = subst (λ (z : List Decl). declarations_at s first ≡ tuples_in symbols (declarations_named symbols (declarations_at s z) ++ named (tree_at s c.args.goal))) c.as_slice.ensures.value c.in_ok-tuple_decls.ensures.tree in
    ap (declarations_at s) joined ∙ map-append (declaration_at s) first own ∙ ap (λ (z : List DeclarationTree). z ++ declarations_at s own) made

pub returns-clause-new_held : goal.returns-clause-new_held
returns-clause-new_held c =
    let s = c.args.store.now in
    let first = c.in_ok-tuple_decls.field-0.items in
    let own = c.args.own.items in
    let joined : c.append.new.self ≡ first ++ own = c.in_ok-append.ensures.ok ∙ ap (λ (z : List Decl). z ++ c.from_vec.result) c.from_vec-decls.ensures ∙ ap (λ (z : List Decl). first ++ z) c.from_vec.ensures in
    subst (λ (z : List Decl). All (DeclHeld s) z) (sym joined) (All-append (DeclHeld s) first own c.in_ok-tuple_decls.ensures.new_held c.requires.held)
