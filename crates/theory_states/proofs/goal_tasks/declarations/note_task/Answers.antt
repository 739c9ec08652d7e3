use Rattle.std.proofs.Common.{◌≡◌, List, take, subst}
use Rattle.std.proofs.lemmas.List.{take_all}
use Rattle.std.proofs.lemmas.Result.{on_ok_weaker}
use Rattle.tasks.specs.declared.declaration.Decl.{Decl}
use Rattle.tasks.specs.Task.{DeclarationTree}
use Rattle.tasks.specs.Meaning.{symbols_at, body_at, declaration_at, declarations_at}
use Rattle.theory_states.specs.goal_tasks.Named.{body_named, declarations_named}
use Rattle.theory_states.specs.goal_tasks.Gathered.{Walks}
use Rattle.theory_states.proofs.goal_tasks.Lists.{walks_step}
use Rattle.theory_states.proofs.goal_tasks.Steps.{walks_none, walks_then}
use Rattle.theory_states.proofs.goal_tasks.declarations.note_task.Goals as goal
use Rattle.tasks.proofs.plain_laws.Lists.{flat_more}
use Rattle.tasks.proofs.outside.Passed.{no_ok}

pub loop-decl-init : goal.loop-decl-init
loop-decl-init c = walks_none c.args.store.now _ _ c.requires.walk

pub loop-decl-preserved : goal.loop-decl-preserved
loop-decl-preserved c =
    let s = c.args.store.now in
    let symbols = symbols_at s c.args.sig.now.symbols in
    walks_step s _ _ _ _ _ _ _ _ (flat_more (λ (d : DeclarationTree). body_named symbols d.body) (declaration_at s) c.args.decls.now c.loop-decl.decl-index c.decl-item.result c.loop-decl-test.true) c.loop-decl.invariant
    (subst (λ (d : Decl). Walks s c.loop-decl.found.keys c.note_declaration.new.found.keys c.note_declaration.new.done.keys (body_named symbols (body_at s d.body))) c.decl-item.is c.in_ok-note_declaration.ensures)

pub note_tree-requires-clause-walk : goal.note_tree-requires-clause-walk
note_tree-requires-clause-walk c = c.loop-decl.invariant.is_done

pub returns : goal.returns
returns c =
    let s = c.args.store.now in
    let symbols = symbols_at s c.args.sig.now.symbols in
    let ds = c.args.decls.now in
    let l = c.loop-decl in
    let all : take l.decl-index ds ≡ ds = take_all l.decl-index ds c.loop-decl-test.false in
    let before = subst (λ (z : List Decl). Walks s c.args.found.now.keys l.found.keys l.done.keys (declarations_named symbols (declarations_at s z))) all l.invariant in
    on_ok_weaker c.note_tree.result (λ k. walks_then s _ _ _ _ _ _ _ before k) c.note_tree.ensures

pub returns-in_err-note_declaration : goal.returns-in_err-note_declaration
returns-in_err-note_declaration c = no_ok _ _ c.from_residual.result c.from_residual.ensures.1

pub note_declaration-requires-clause-walk : goal.note_declaration-requires-clause-walk
note_declaration-requires-clause-walk c = c.loop-decl.invariant.is_done

pub note_declaration-requires-clause-symbols_held : goal.note_declaration-requires-clause-symbols_held
note_declaration-requires-clause-symbols_held c = c.requires.symbols_held
