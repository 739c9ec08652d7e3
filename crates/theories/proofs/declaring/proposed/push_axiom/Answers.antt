use Rattle.std.proofs.Common.{◌≡◌, ◌∷◌, ◌++◌, [], ℕ, List, length, sym, ap, ◌∙◌}
use Rattle.std.proofs.Math.ListN.{length-map}
use Rattle.tasks.specs.Meaning.{declaration_at, declarations_at}
use Rattle.theory_states.specs.declared.states.AxiomAt.{AxiomAt}
use Rattle.theory_states.specs.States.{StateTree, with_declaration}
use Rattle.theory_states.specs.Meaning.{state_at, StateHeld}
use Rattle.theories.proofs.declaring.proposed.push_axiom.Goals as goal
use Rattle.tasks.proofs.outside.Passed.{no_ok}

pub push_decl-requires : goal.push_decl-requires
push_decl-requires c = c.requires.state.opened.visible

pub returns-clause-state : goal.returns-clause-state
returns-clause-state c =
    let s = c.args.store.now in
    let x = c.args.typed.now in
    let o = c.args.open.now in
    let y = c.push_decl.new.typed in
    let p = c.push_decl.new.open in
    let d = declaration_at s c.args.decl in
    let vars = c.in_ok-vars.vars in
    let axiom_of : ℕ → List (List ℕ) → AxiomAt = λ k v. record { decl = k; vars = v } in
    let put : List AxiomAt → StateTree → StateTree = λ as_ t. record t { opened = record t.opened { axioms = as_ } } in
    let e : state_at s y p ≡ with_declaration d (state_at s x o) = c.in_ok-place.ensures.state s in
    let old : p.axioms ≡ o.axioms = ap (λ (t : StateTree). t.opened.axioms) e in
    let n : length x.decls ≡ length (declarations_at s x.decls) = sym (length-map x.decls (declaration_at s)) in
    let it : axiom_of c.in_ok-place.place vars ≡ axiom_of (length (declarations_at s x.decls)) _ = ap (λ (k : ℕ). axiom_of k vars) (c.in_ok-place.ensures.place ∙ n) ∙ ap (axiom_of (length (declarations_at s x.decls))) c.in_ok-vars.ensures in
    let all = c.in_ok-push.ensures.ok ∙ (ap (λ (as_ : List AxiomAt). as_ ++ axiom_of c.in_ok-place.place vars ∷ []) old ∙ ap (λ (a : AxiomAt). o.axioms ++ a ∷ []) it) in
    ap (put c.push.new.self) e ∙ ap (λ (as_ : List AxiomAt). put as_ (with_declaration d (state_at s x o))) all

pub returns-clause-held : goal.returns-clause-held
returns-clause-held c =
    let h : StateHeld c.args.store.now c.push_decl.new.typed c.push_decl.new.open = c.in_ok-place.ensures.held c.args.store.now c.requires.state c.requires.decl in
    record { typed = h.typed; opened = record { visible = h.opened.visible; goals = h.opened.goals; scope = h.opened.scope; moves = h.opened.moves } }

pub returns-in_err-place-clause-state : goal.returns-in_err-place-clause-state
returns-in_err-place-clause-state c = no_ok _ _ c.from_residual.result c.from_residual.ensures.1

pub returns-in_err-place-clause-held : goal.returns-in_err-place-clause-held
returns-in_err-place-clause-held c = no_ok _ _ c.from_residual.result c.from_residual.ensures.1

pub returns-in_err-place-clause-typed : goal.returns-in_err-place-clause-typed
returns-in_err-place-clause-typed c = no_ok _ _ c.from_residual.result c.from_residual.ensures.1

pub returns-in_err-vars-clause-state : goal.returns-in_err-vars-clause-state
returns-in_err-vars-clause-state c = no_ok _ _ c.from_residual-in_err-vars.result c.from_residual-in_err-vars.ensures.1

pub returns-in_err-vars-clause-held : goal.returns-in_err-vars-clause-held
returns-in_err-vars-clause-held c = no_ok _ _ c.from_residual-in_err-vars.result c.from_residual-in_err-vars.ensures.1

pub returns-in_err-vars-clause-typed : goal.returns-in_err-vars-clause-typed
returns-in_err-vars-clause-typed c = no_ok _ _ c.from_residual-in_err-vars.result c.from_residual-in_err-vars.ensures.1

pub returns-in_err-push-clause-state : goal.returns-in_err-push-clause-state
returns-in_err-push-clause-state c = no_ok _ _ c.from_residual-in_err-push.result c.from_residual-in_err-push.ensures.1

pub returns-in_err-push-clause-held : goal.returns-in_err-push-clause-held
returns-in_err-push-clause-held c = no_ok _ _ c.from_residual-in_err-push.result c.from_residual-in_err-push.ensures.1

pub returns-in_err-push-clause-typed : goal.returns-in_err-push-clause-typed
returns-in_err-push-clause-typed c = no_ok _ _ c.from_residual-in_err-push.result c.from_residual-in_err-push.ensures.1
