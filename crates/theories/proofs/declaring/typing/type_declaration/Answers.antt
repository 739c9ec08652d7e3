use Rattle.std.proofs.Common.{refl, sym, subst, ◌≡◌, ℕ, List, [], ◌∷◌, Option, Some, None, ap, ◌∙◌}
use Rattle.surface.specs.SurfaceDeclarations.{decl_of}
use Rattle.theory_states.specs.declared.states.Opened.{Opened}
use Rattle.elaboration_laws.proofs.Quoted.{quoted_in}
use Rattle.elaboration_laws.specs.Sound.{IsSoundState}
use Rattle.tasks.proofs.trees.Nodes.{Grows_trans}
use Rattle.tasks.specs.Task.{DeclarationTree}
use Rattle.tasks.specs.Meaning.{declarations_at}
use Rattle.surface.specs.Lexeme.{Word}
use Rattle.surface.specs.declared.declarations.PropKind.TheVariants as kind
use Rattle.surface.specs.declared.declarations.PropKind.{PropKind}
use Rattle.elab_groups.specs.name_resolution.Abstract.{Expression}
use Rattle.elab_declarations.specs.Outcomes.{proposition_seen}
use Rattle.elab_groups.proofs.parts.Solving.{if_err}
use Rattle.theory_states.specs.declared.states.Typed.{Typed}
use Rattle.theory_states.specs.States.{StateTree, with_declaration, with_declarations}
use Rattle.theory_states.specs.Meaning.{state_at}
use Rattle.theory_states.specs.Uses.{OrMemory}
use Rattle.theories.specs.declaring.Declared.{proposition_in, with_proposition, known_by, IsDeclaredFault}
use Rattle.theories.proofs.declaring.Named.{named_held, known_state, is_declared, is_typed}
use Rattle.theories.proofs.declaring.Sound.{declared_sound}
use Rattle.theories.proofs.declaring.typing.type_declaration.Goals as goal
use Rattle.tasks.proofs.outside.Passed.{no_ok}

-- what becomes known by a declaration leaves its number
declarations_number : (ds : List DeclarationTree) (c : StateTree) → (with_declarations ds c).number ≡ c.number
declarations_number [] c = refl
declarations_number (d ∷ ds) c = declarations_number ds (with_declaration d c)

proposition_number : (k : PropKind) (vars : List Word) (rigid : List ℕ) (d : DeclarationTree) (c : StateTree) → (with_proposition k vars rigid d c).number ≡ c.number
proposition_number kind.Axiom vars rigid d c = refl
proposition_number kind.Lemma vars rigid d c = refl
proposition_number kind.Goal vars rigid d c = refl

known_number : (p : Option (PropKind × Expression)) (rigid : List ℕ) (ds : List DeclarationTree) (c : StateTree) → (known_by p rigid ds c).number ≡ c.number
known_number None rigid ds c = declarations_number ds c
known_number (Some p) rigid [] c = refl
known_number (Some p) rigid (d ∷ ds) c = proposition_number p.0 (proposition_seen p.1).vars rigid d c

pub push_made-requires-clause-state : goal.push_made-requires-clause-state
push_made-requires-clause-state c =
    let x = c.elaborate_checked in
    let o : Opened = record x.new.open { moves = c.push_declared.new.moves } in
    named_held c.args.store.now c.args.typed.now c.args.open.now (decl_of c.args.decl.now) x.new.store x.new.typed x.new.open o c.in_ok-made.made x.ensures.grows c.requires.held c.in_ok-made.ensures.ok refl c.in_ok-push_declared.ensures

pub returns-clause-ok : goal.returns-clause-ok
returns-clause-ok c =
    let x = c.elaborate_checked in
    let y = c.push_made in
    let o : Opened = record x.new.open { moves = c.push_declared.new.moves } in
    is_declared c.args.store.now c.args.typed.now c.args.open.now (decl_of c.args.decl.now) x.new.store x.new.typed x.new.open o c.in_ok-made.made x.ensures.grows c.requires.held c.in_ok-made.ensures.ok refl c.in_ok-push_declared.ensures
    y.new.store y.new.typed y.new.open c.in_ok-push_made.ensures.state

pub returns-clause-typed : goal.returns-clause-typed
returns-clause-typed c =
    let x = c.elaborate_checked in
    let y = c.push_made in
    let o : Opened = record x.new.open { moves = c.push_declared.new.moves } in
    is_typed c.args.store.now c.args.typed.now c.args.open.now (decl_of c.args.decl.now) x.new.store x.new.typed x.new.open o c.in_ok-made.made x.ensures.grows c.requires.held c.in_ok-made.ensures.ok refl c.in_ok-push_declared.ensures
    y.new.store y.new.typed y.new.open c.in_ok-push_made.ensures.state c.laws.ensures.sorted c.requires.typed

pub returns-clause-sound : goal.returns-clause-sound
returns-clause-sound c =
    let x = c.elaborate_checked in
    let y = c.push_made in
    let s = c.args.store.now in
    let t = c.args.typed.now in
    let d = decl_of c.args.decl.now in
    let o : Opened = record x.new.open { moves = c.push_declared.new.moves } in
    let known = known_state s t c.args.open.now d x.new.store x.new.typed x.new.open o c.in_ok-made.made x.ensures.grows c.requires.held c.in_ok-made.ensures.ok refl c.in_ok-push_declared.ensures y.new.store y.new.typed y.new.open c.in_ok-push_made.ensures.state in
    λ w q h. subst IsSoundState (sym known) (declared_sound s t c.args.open.now d x.new.store x.new.typed x.new.open c.in_ok-made.made c.in_ok-made.ensures.ok c.laws.ensures.sorted w (λ k i e r. quoted_in d k i e r q) h)

pub returns-in_err-made-clause-ok : goal.returns-in_err-made-clause-ok
returns-in_err-made-clause-ok c = no_ok _ _ c.from_residual.result c.from_residual.ensures.1

pub returns-in_err-made-clause-held : goal.returns-in_err-made-clause-held
returns-in_err-made-clause-held c = no_ok _ _ c.from_residual.result c.from_residual.ensures.1

pub returns-in_err-made-clause-typed : goal.returns-in_err-made-clause-typed
returns-in_err-made-clause-typed c = no_ok _ _ c.from_residual.result c.from_residual.ensures.1

pub returns-in_err-made-clause-sound : goal.returns-in_err-made-clause-sound
returns-in_err-made-clause-sound c = no_ok _ _ c.from_residual.result c.from_residual.ensures.1

pub returns-in_err-made-clause-count : goal.returns-in_err-made-clause-count
returns-in_err-made-clause-count c = no_ok _ _ c.from_residual.result c.from_residual.ensures.1

pub returns-in_err-made-clause-ints : goal.returns-in_err-made-clause-ints
returns-in_err-made-clause-ints c = no_ok _ _ c.from_residual.result c.from_residual.ensures.1

pub returns-in_err-push_declared-clause-ok : goal.returns-in_err-push_declared-clause-ok
returns-in_err-push_declared-clause-ok c = no_ok _ _ c.from_residual-in_err-push_declared.result c.from_residual-in_err-push_declared.ensures.1

pub returns-in_err-push_declared-clause-held : goal.returns-in_err-push_declared-clause-held
returns-in_err-push_declared-clause-held c = no_ok _ _ c.from_residual-in_err-push_declared.result c.from_residual-in_err-push_declared.ensures.1

pub returns-in_err-push_declared-clause-typed : goal.returns-in_err-push_declared-clause-typed
returns-in_err-push_declared-clause-typed c = no_ok _ _ c.from_residual-in_err-push_declared.result c.from_residual-in_err-push_declared.ensures.1

pub returns-in_err-push_declared-clause-sound : goal.returns-in_err-push_declared-clause-sound
returns-in_err-push_declared-clause-sound c = no_ok _ _ c.from_residual-in_err-push_declared.result c.from_residual-in_err-push_declared.ensures.1

pub returns-in_err-push_declared-clause-count : goal.returns-in_err-push_declared-clause-count
returns-in_err-push_declared-clause-count c = no_ok _ _ c.from_residual-in_err-push_declared.result c.from_residual-in_err-push_declared.ensures.1

pub returns-in_err-push_declared-clause-ints : goal.returns-in_err-push_declared-clause-ints
returns-in_err-push_declared-clause-ints c = no_ok _ _ c.from_residual-in_err-push_declared.result c.from_residual-in_err-push_declared.ensures.1

pub returns-in_err-push_made-clause-ok : goal.returns-in_err-push_made-clause-ok
returns-in_err-push_made-clause-ok c = no_ok _ _ c.from_residual-in_err-push_made.result c.from_residual-in_err-push_made.ensures.1

pub returns-in_err-push_made-clause-held : goal.returns-in_err-push_made-clause-held
returns-in_err-push_made-clause-held c = no_ok _ _ c.from_residual-in_err-push_made.result c.from_residual-in_err-push_made.ensures.1

pub returns-in_err-push_made-clause-typed : goal.returns-in_err-push_made-clause-typed
returns-in_err-push_made-clause-typed c = no_ok _ _ c.from_residual-in_err-push_made.result c.from_residual-in_err-push_made.ensures.1

pub returns-in_err-push_made-clause-sound : goal.returns-in_err-push_made-clause-sound
returns-in_err-push_made-clause-sound c = no_ok _ _ c.from_residual-in_err-push_made.result c.from_residual-in_err-push_made.ensures.1

pub returns-in_err-push_made-clause-count : goal.returns-in_err-push_made-clause-count
returns-in_err-push_made-clause-count c = no_ok _ _ c.from_residual-in_err-push_made.result c.from_residual-in_err-push_made.ensures.1

pub returns-in_err-push_made-clause-ints : goal.returns-in_err-push_made-clause-ints
returns-in_err-push_made-clause-ints c = no_ok _ _ c.from_residual-in_err-push_made.result c.from_residual-in_err-push_made.ensures.1

pub elaborate_checked-requires-clause-state : goal.elaborate_checked-requires-clause-state
elaborate_checked-requires-clause-state c = c.requires.held

pub elaborate_checked-requires-clause-typed : goal.elaborate_checked-requires-clause-typed
elaborate_checked-requires-clause-typed c = c.requires.typed

pub elaborate_checked-requires-clause-logical : goal.elaborate_checked-requires-clause-logical
elaborate_checked-requires-clause-logical c = c.requires.logical

pub returns-in_err-made-clause-err : goal.returns-in_err-made-clause-err
returns-in_err-made-clause-err c =
    let Is = IsDeclaredFault (decl_of c.args.decl.now) (state_at c.args.store.now c.args.typed.now c.args.open.now) in
    if_err c.from_residual.result _ (OrMemory Is) c.from_residual.ensures.1 (λ e h. rw h c.in_err-made.ensures.err)

pub returns-in_err-made-clause-grows : goal.returns-in_err-made-clause-grows
returns-in_err-made-clause-grows c = c.elaborate_checked.ensures.grows

pub returns-in_err-push_declared-clause-err : goal.returns-in_err-push_declared-clause-err
returns-in_err-push_declared-clause-err c =
    let Is = IsDeclaredFault (decl_of c.args.decl.now) (state_at c.args.store.now c.args.typed.now c.args.open.now) in
    if_err c.from_residual-in_err-push_declared.result _ (OrMemory Is) c.from_residual-in_err-push_declared.ensures.1 (λ e h. rw h tt)

pub returns-in_err-push_declared-clause-grows : goal.returns-in_err-push_declared-clause-grows
returns-in_err-push_declared-clause-grows c = c.elaborate_checked.ensures.grows

pub push_made-requires-clause-decls : goal.push_made-requires-clause-decls
push_made-requires-clause-decls c = c.in_ok-made.ensures.ok.kept.decls

pub returns-in_err-push_made-clause-err : goal.returns-in_err-push_made-clause-err
returns-in_err-push_made-clause-err c =
    let Is = IsDeclaredFault (decl_of c.args.decl.now) (state_at c.args.store.now c.args.typed.now c.args.open.now) in
    if_err c.from_residual-in_err-push_made.result _ (OrMemory Is) c.from_residual-in_err-push_made.ensures.1 (λ e h. rw h tt)

pub returns-in_err-push_made-clause-grows : goal.returns-in_err-push_made-clause-grows
returns-in_err-push_made-clause-grows c = Grows_trans c.args.store.now c.elaborate_checked.new.store c.push_made.new.store c.elaborate_checked.ensures.grows c.push_made.ensures.grows

pub returns-clause-held : goal.returns-clause-held
returns-clause-held c = c.in_ok-push_made.ensures.held

pub returns-clause-count : goal.returns-clause-count
returns-clause-count c =
    let x = c.elaborate_checked in
    let o : Opened = record x.new.open { moves = c.push_declared.new.moves } in
    let made = c.in_ok-made.made in
    ap (λ (t : StateTree). t.number) c.in_ok-push_made.ensures.state
    ∙ known_number (proposition_in (decl_of c.args.decl.now)) made.rigid (declarations_at x.new.store made.decls) (state_at x.new.store x.new.typed o)
    ∙ x.ensures.count

pub returns-clause-ints : goal.returns-clause-ints
returns-clause-ints c = ap (λ (t : Typed). t.sig.ints) c.in_ok-push_made.ensures.typed ∙ c.in_ok-made.ensures.ok.elaborated.ints

pub returns-clause-err : goal.returns-clause-err
returns-clause-err c = tt

pub returns-clause-grows : goal.returns-clause-grows
returns-clause-grows c = Grows_trans c.args.store.now c.elaborate_checked.new.store c.push_made.new.store c.elaborate_checked.ensures.grows c.push_made.ensures.grows
