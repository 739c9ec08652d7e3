use Rattle.std.proofs.Common.{◌≡◌, Option, OnOk, subst}
use Rattle.tasks.specs.Meaning.{declarations_at}
use Rattle.surface.specs.declared.declarations.PropKind.{PropKind}
use Rattle.elab_groups.specs.name_resolution.Abstract.{Expression}
use Rattle.theory_states.specs.Meaning.{state_at}
use Rattle.theories.specs.declaring.Declared.{known_by}
use Rattle.theories.proofs.declaring.kept.push_made.Goals as goal

pub push_proposed-requires-clause-decls : goal.push_proposed-requires-clause-decls
push_proposed-requires-clause-decls c = c.requires.decls

pub push_proposed-requires-clause-state : goal.push_proposed-requires-clause-state
push_proposed-requires-clause-state c = c.requires.state

pub returns-in-Some-clause-state : goal.returns-in-Some-clause-state
returns-in-Some-clause-state c =
    let s = c.args.store.now in
    let x = c.push_proposed in
    let before = state_at s c.args.typed.now c.args.open.now in
    subst (λ (p : Option (PropKind × Expression)). OnOk x.result (state_at x.new.store x.new.typed x.new.open ≡ known_by p c.args.made.rigid (declarations_at s c.args.made.decls) before)) c.in-Some.ensures x.ensures.state

pub returns-in-Some-clause-held : goal.returns-in-Some-clause-held
returns-in-Some-clause-held c = c.push_proposed.ensures.held

pub returns-in-Some-clause-typed : goal.returns-in-Some-clause-typed
returns-in-Some-clause-typed c = c.push_proposed.ensures.typed

pub returns-in-Some-clause-grows : goal.returns-in-Some-clause-grows
returns-in-Some-clause-grows c = c.push_proposed.ensures.grows

pub push_decls-requires-clause-decls : goal.push_decls-requires-clause-decls
push_decls-requires-clause-decls c = c.requires.decls

pub push_decls-requires-clause-state : goal.push_decls-requires-clause-state
push_decls-requires-clause-state c = c.requires.state

pub returns-clause-state : goal.returns-clause-state
returns-clause-state c =
    let s = c.args.store.now in
    let x = c.push_decls in
    let before = state_at s c.args.typed.now c.args.open.now in
    subst (λ (p : Option (PropKind × Expression)). OnOk x.result (state_at s x.new.typed x.new.open ≡ known_by p c.args.made.rigid (declarations_at s c.args.made.decls) before)) c.in-None.ensures x.ensures.state

pub returns-clause-held : goal.returns-clause-held
returns-clause-held c = c.push_decls.ensures.held

pub returns-clause-typed : goal.returns-clause-typed
returns-clause-typed c = c.push_decls.ensures.typed
