use Rattle.std.proofs.Common.{◌≡◌, ap, ◌∙◌}
use Rattle.tasks.specs.Task.{DeclarationTree}
use Rattle.tasks.specs.Meaning.{declaration_at}
use Rattle.tasks.proofs.Growth.{decl_held_later, declaration_later}
use Rattle.theory_states.specs.States.{with_declaration}
use Rattle.theory_states.specs.Meaning.{state_at}
use Rattle.theories.proofs.declaring.proposed.push_lemma.Goals as goal
use Rattle.tasks.proofs.outside.Passed.{no_ok}

pub returns-clause-state : goal.returns-clause-state
returns-clause-state c =
    let s = c.args.store.now in
    let s1 = c.push_goal.new.store in
    let d = declaration_at s c.args.decl in
    let later : declaration_at s1 c.args.decl ≡ d = declaration_later s s1 c.push_goal.ensures.grows c.args.decl c.requires.decl in
    c.in_ok-push_decl.ensures.state s1 ∙ (ap (λ (x : DeclarationTree). with_declaration x (state_at s1 c.args.typed.now c.push_goal.new.open)) later ∙ ap (with_declaration d) c.in_ok-push_goal.ensures.state)

pub returns-clause-held : goal.returns-clause-held
returns-clause-held c = c.in_ok-push_decl.ensures.held c.push_goal.new.store c.in_ok-push_goal.ensures.held (decl_held_later c.args.store.now c.push_goal.new.store c.push_goal.ensures.grows c.args.decl c.requires.decl)

pub returns-in_err-push_goal-clause-state : goal.returns-in_err-push_goal-clause-state
returns-in_err-push_goal-clause-state c = no_ok _ _ c.from_residual.result c.from_residual.ensures.1

pub returns-in_err-push_goal-clause-held : goal.returns-in_err-push_goal-clause-held
returns-in_err-push_goal-clause-held c = no_ok _ _ c.from_residual.result c.from_residual.ensures.1

pub returns-in_err-push_goal-clause-typed : goal.returns-in_err-push_goal-clause-typed
returns-in_err-push_goal-clause-typed c = no_ok _ _ c.from_residual.result c.from_residual.ensures.1

pub returns-in_err-push_decl-clause-state : goal.returns-in_err-push_decl-clause-state
returns-in_err-push_decl-clause-state c = no_ok _ _ c.from_residual-in_err-push_decl.result c.from_residual-in_err-push_decl.ensures.1

pub returns-in_err-push_decl-clause-held : goal.returns-in_err-push_decl-clause-held
returns-in_err-push_decl-clause-held c = no_ok _ _ c.from_residual-in_err-push_decl.result c.from_residual-in_err-push_decl.ensures.1

pub returns-in_err-push_decl-clause-typed : goal.returns-in_err-push_decl-clause-typed
returns-in_err-push_decl-clause-typed c = no_ok _ _ c.from_residual-in_err-push_decl.result c.from_residual-in_err-push_decl.ensures.1

pub push_goal-requires-clause-decl : goal.push_goal-requires-clause-decl
push_goal-requires-clause-decl c = c.requires.decl

pub push_goal-requires-clause-state : goal.push_goal-requires-clause-state
push_goal-requires-clause-state c = c.requires.state

pub returns-in_err-push_goal-clause-grows : goal.returns-in_err-push_goal-clause-grows
returns-in_err-push_goal-clause-grows c = c.push_goal.ensures.grows

pub push_decl-requires : goal.push_decl-requires
push_decl-requires c = c.in_ok-push_goal.ensures.held.opened.visible

pub returns-in_err-push_decl-clause-grows : goal.returns-in_err-push_decl-clause-grows
returns-in_err-push_decl-clause-grows c = c.push_goal.ensures.grows

pub returns-clause-typed : goal.returns-clause-typed
returns-clause-typed c = c.in_ok-push_decl.ensures.typed

pub returns-clause-grows : goal.returns-clause-grows
returns-clause-grows c = c.push_goal.ensures.grows
