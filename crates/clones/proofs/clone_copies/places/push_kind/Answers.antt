use Rattle.std.proofs.Common.{◌≡◌, OnOk, sym, ap, subst, ◌∙◌}
use Rattle.tasks.proofs.trees.Nodes.{Grows_refl}
use Rattle.tasks.specs.Task.{DeclarationTree}
use Rattle.tasks.specs.Meaning.{declaration_at}
use Rattle.tasks.proofs.Growth.{declaration_later, decl_held_later}
use Rattle.elab_groups.specs.surface.declared.declarations.PropKind.{PropKind}
use Rattle.theory_states.specs.States.{with_declaration}
use Rattle.theory_states.specs.Meaning.{state_at}
use Rattle.clones.specs.clone_copies.Places.{with_copied_goal, with_kind}
use Rattle.clones.proofs.clone_copies.places.push_kind.Goals as goal
use Rattle.tasks.proofs.outside.Passed.{no_ok}

pub returns-in_ok-push_decl-in-Ok-clause-state : goal.returns-in_ok-push_decl-in-Ok-clause-state
returns-in_ok-push_decl-in-Ok-clause-state c =
    let s = c.args.store.now in
    let s1 = c.push_goal.new.store in
    let t1 = c.push_goal.new.typed in
    let o1 = c.push_goal.new.open in
    let t2 = c.push_decl.new.typed in
    let o2 = c.push_decl.new.open in
    let copy = c.args.copy in
    let d = declaration_at s copy in
    let vars = c.args.vars.now in
    let old = state_at s c.args.typed.now c.args.open.now in
    let there : state_at s1 t2 o2 ≡ with_declaration d (with_copied_goal vars d old) =
    c.in_ok-push_decl-in-Ok.ensures.state s1
    ∙ (ap (λ (z : DeclarationTree). with_declaration z (state_at s1 t1 o1)) (declaration_later s s1 c.push_goal.ensures.grows copy c.requires.copy_held) ∙ ap (with_declaration d) c.in-Ok.ensures.state) in
    subst (λ (k : PropKind). state_at s1 t2 o2 ≡ with_kind k vars d old) (sym c.in-Lemma.is) there

pub returns-in_ok-push_decl-in-Ok-clause-held : goal.returns-in_ok-push_decl-in-Ok-clause-held
returns-in_ok-push_decl-in-Ok-clause-held c = c.in_ok-push_decl-in-Ok.ensures.held c.push_goal.new.store c.in-Ok.ensures.held (decl_held_later c.args.store.now c.push_goal.new.store c.push_goal.ensures.grows c.args.copy c.requires.copy_held)

pub push_axiom-requires-clause-held : goal.push_axiom-requires-clause-held
push_axiom-requires-clause-held c = c.requires.held

pub push_axiom-requires-clause-copy_held : goal.push_axiom-requires-clause-copy_held
push_axiom-requires-clause-copy_held c = c.requires.copy_held

pub push_goal-requires-clause-held : goal.push_goal-requires-clause-held
push_goal-requires-clause-held c = c.requires.held

pub push_goal-requires-clause-copy_held : goal.push_goal-requires-clause-copy_held
push_goal-requires-clause-copy_held c = c.requires.copy_held

pub push_goal-pushed-requires-clause-held : goal.push_goal-pushed-requires-clause-held
push_goal-pushed-requires-clause-held c = c.requires.held

pub push_goal-pushed-requires-clause-copy_held : goal.push_goal-pushed-requires-clause-copy_held
push_goal-pushed-requires-clause-copy_held c = c.requires.copy_held

pub push_decl-requires : goal.push_decl-requires
push_decl-requires c = c.in-Ok.ensures.held.opened.visible

pub returns-in_ok-push_decl-in-Ok-clause-grows : goal.returns-in_ok-push_decl-in-Ok-clause-grows
returns-in_ok-push_decl-in-Ok-clause-grows c = c.push_goal.ensures.grows

pub returns-in_err-push_decl-in-Ok-clause-state : goal.returns-in_err-push_decl-in-Ok-clause-state
returns-in_err-push_decl-in-Ok-clause-state c = no_ok _ _ c.from_residual.result c.from_residual.ensures.1

pub returns-in_err-push_decl-in-Ok-clause-held : goal.returns-in_err-push_decl-in-Ok-clause-held
returns-in_err-push_decl-in-Ok-clause-held c = no_ok _ _ c.from_residual.result c.from_residual.ensures.1

pub returns-in_err-push_decl-in-Ok-clause-grows : goal.returns-in_err-push_decl-in-Ok-clause-grows
returns-in_err-push_decl-in-Ok-clause-grows c = c.push_goal.ensures.grows

pub returns-in-Axiom-clause-state : goal.returns-in-Axiom-clause-state
returns-in-Axiom-clause-state c =
    let s = c.args.store.now in
    let old = state_at s c.args.typed.now c.args.open.now in
    subst (λ (k : PropKind). OnOk c.push_axiom.result (state_at s c.push_axiom.new.typed c.push_axiom.new.open ≡ with_kind k c.args.vars.now (declaration_at s c.args.copy) old)) (sym c.in-Axiom.is) c.push_axiom.ensures.state

pub returns-in-Axiom-clause-held : goal.returns-in-Axiom-clause-held
returns-in-Axiom-clause-held c = c.push_axiom.ensures.held

pub returns-in-Axiom-clause-grows : goal.returns-in-Axiom-clause-grows
returns-in-Axiom-clause-grows c = Grows_refl c.args.store.now

pub returns-in-Err-clause-state : goal.returns-in-Err-clause-state
returns-in-Err-clause-state c = tt

pub returns-in-Err-clause-held : goal.returns-in-Err-clause-held
returns-in-Err-clause-held c = tt

pub returns-in-Err-clause-grows : goal.returns-in-Err-clause-grows
returns-in-Err-clause-grows c = c.push_goal.ensures.grows

pub returns-in-Goal-clause-state : goal.returns-in-Goal-clause-state
returns-in-Goal-clause-state c =
    let s = c.args.store.now in
    let old = state_at s c.args.typed.now c.args.open.now in
    subst (λ (k : PropKind). OnOk c.push_goal-pushed.result (state_at c.push_goal-pushed.new.store c.push_goal-pushed.new.typed c.push_goal-pushed.new.open ≡ with_kind k c.args.vars.now (declaration_at s c.args.copy) old)) (sym c.in-Goal.is) c.push_goal-pushed.ensures.state

pub returns-in-Goal-clause-held : goal.returns-in-Goal-clause-held
returns-in-Goal-clause-held c = c.push_goal-pushed.ensures.held

pub returns-in-Goal-clause-grows : goal.returns-in-Goal-clause-grows
returns-in-Goal-clause-grows c = c.push_goal-pushed.ensures.grows
