use Rattle.std.proofs.Common.{◌≡◌, ◌∷◌, suc, List, All, length, ap, subst, ◌∙◌, arith, [], true, refl}
use Rattle.std.proofs.lemmas.Result.{on_ok_weaker}
use Rattle.tasks.specs.trees.Tree.{Tree}
use Rattle.tasks.specs.declared.declaration.Decl.{Decl}
use Rattle.tasks.specs.Meaning.{declarations_at, DeclHeld}
use Rattle.theory_states.specs.declared.states.Typed.{Typed}
use Rattle.theory_states.specs.States.{with_declarations}
use Rattle.theories.proofs.declaring.Pushed.{first_of, some_left}
use Rattle.theories.proofs.declaring.kept.+push_decls.Goals as goal
use Rattle.tasks.proofs.outside.Passed.{no_ok}

first_held : (s : List Tree) (ds es : List Decl) (d : Decl) → ds ≡ d ∷ es → All (DeclHeld s) ds → DeclHeld s d
first_held s ds es d q h = let g : All (DeclHeld s) (d ∷ es) = subst (All (DeclHeld s)) q h in g 0 d (omega arith)

rest_held : (s : List Tree) (ds es : List Decl) (d : Decl) → ds ≡ d ∷ es → All (DeclHeld s) ds → All (DeclHeld s) es
rest_held s ds es d q h = let g : All (DeclHeld s) (d ∷ es) = subst (All (DeclHeld s)) q h in λ k x l. g (suc k) x (omega arith)

pub push_decl-requires : goal.push_decl-requires
push_decl-requires t c = c.requires.state.opened.visible

pub push_decls-requires : goal.push_decls-requires
push_decls-requires t c =
    let s = c.args.store.now in
    let q : c.args.decls.now ≡ c.remove-first.result ∷ c.remove-first.new.self = first_of c.args.decls.now c.remove-first.new.self c.remove-first.result c.remove-first.ensures.item c.remove-first.ensures.rest in (
      omega (arith, ap length q),
      (
        rest_held s c.args.decls.now c.remove-first.new.self c.remove-first.result q c.requires.decls,
        c.in_ok-push_decl.ensures.held s c.requires.state (first_held s c.args.decls.now c.remove-first.new.self c.remove-first.result q c.requires.decls),
      ),
    )

pub returns-clause-state : goal.returns-clause-state
returns-clause-state t c =
    let s = c.args.store.now in
    let q : c.args.decls.now ≡ c.remove-first.result ∷ c.remove-first.new.self = first_of c.args.decls.now c.remove-first.new.self c.remove-first.result c.remove-first.ensures.item c.remove-first.ensures.rest in
    rw q (on_ok_weaker c.push_decls.result (λ h. h ∙ ap (with_declarations (declarations_at s c.remove-first.new.self)) (c.in_ok-push_decl.ensures.state s)) c.push_decls.ensures.state)

pub returns-clause-held : goal.returns-clause-held
returns-clause-held t c = c.push_decls.ensures.held

pub returns-clause-typed : goal.returns-clause-typed
returns-clause-typed t c = on_ok_weaker c.push_decls.result (λ h. h ∙ ap (λ (z : Typed). let it : Typed = record z { decls = c.push_decls.new.typed.decls } in it) c.in_ok-push_decl.ensures.typed) c.push_decls.ensures.typed

pub returns-then-is_empty-clause-state : goal.returns-then-is_empty-clause-state
returns-then-is_empty-clause-state t c = let none : c.args.decls.now ≡ [] = c.is_empty.ensures.0 c.if-is_empty.true in rw none refl

pub returns-then-is_empty-clause-held : goal.returns-then-is_empty-clause-held
returns-then-is_empty-clause-held t c = c.requires.state

pub returns-then-is_empty-clause-typed : goal.returns-then-is_empty-clause-typed
returns-then-is_empty-clause-typed t c = refl

pub remove-first-requires : goal.remove-first-requires
remove-first-requires t c = some_left c.args.decls.now (λ e. let h : c.is_empty.result ≡ true = c.is_empty.ensures.1 e in let g = c.if-is_empty.false in cc)

pub returns-in_err-push_decl-clause-state : goal.returns-in_err-push_decl-clause-state
returns-in_err-push_decl-clause-state t c = no_ok _ _ c.from_residual.result c.from_residual.ensures.1

pub returns-in_err-push_decl-clause-held : goal.returns-in_err-push_decl-clause-held
returns-in_err-push_decl-clause-held t c = no_ok _ _ c.from_residual.result c.from_residual.ensures.1

pub returns-in_err-push_decl-clause-typed : goal.returns-in_err-push_decl-clause-typed
returns-in_err-push_decl-clause-typed t c = no_ok _ _ c.from_residual.result c.from_residual.ensures.1
