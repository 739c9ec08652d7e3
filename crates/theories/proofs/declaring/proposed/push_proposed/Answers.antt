use Rattle.std.proofs.Common.{◌≡◌, ◌∷◌, All, subst, arith, [], true, refl}
use Rattle.tasks.specs.Meaning.{DeclHeld}
use Rattle.std.proofs.lemmas.Result.{on_ok_weaker}
use Rattle.tasks.proofs.trees.Nodes.{Grows_refl}
use Rattle.theories.proofs.declaring.Pushed.{first_of, some_left}
use Rattle.theories.proofs.declaring.proposed.push_proposed.Goals as goal

pub push_axiom-requires-clause-decl : goal.push_axiom-requires-clause-decl
push_axiom-requires-clause-decl c =
    let s = c.args.store.now in
    let q : c.args.decls.now ≡ c.remove-decl.result ∷ c.remove-decl.new.self = first_of c.args.decls.now c.remove-decl.new.self c.remove-decl.result c.remove-decl.ensures.item c.remove-decl.ensures.rest in
    let g : All (DeclHeld s) (c.remove-decl.result ∷ c.remove-decl.new.self) = subst (All (DeclHeld s)) q c.requires.decls in
    g 0 c.remove-decl.result (omega arith)

pub push_axiom-requires-clause-state : goal.push_axiom-requires-clause-state
push_axiom-requires-clause-state c = c.requires.state

pub returns-in-Axiom-clause-state : goal.returns-in-Axiom-clause-state
returns-in-Axiom-clause-state c =
    let q : c.args.decls.now ≡ c.remove-decl.result ∷ c.remove-decl.new.self = first_of c.args.decls.now c.remove-decl.new.self c.remove-decl.result c.remove-decl.ensures.item c.remove-decl.ensures.rest in
    rw q (rw c.in-Axiom.is c.push_axiom.ensures.state)

pub returns-in-Axiom-clause-held : goal.returns-in-Axiom-clause-held
returns-in-Axiom-clause-held c = c.push_axiom.ensures.held

pub push_lemma-requires-clause-decl : goal.push_lemma-requires-clause-decl
push_lemma-requires-clause-decl c =
    let s = c.args.store.now in
    let q : c.args.decls.now ≡ c.remove-decl.result ∷ c.remove-decl.new.self = first_of c.args.decls.now c.remove-decl.new.self c.remove-decl.result c.remove-decl.ensures.item c.remove-decl.ensures.rest in
    let g : All (DeclHeld s) (c.remove-decl.result ∷ c.remove-decl.new.self) = subst (All (DeclHeld s)) q c.requires.decls in
    g 0 c.remove-decl.result (omega arith)

pub push_lemma-requires-clause-state : goal.push_lemma-requires-clause-state
push_lemma-requires-clause-state c = c.requires.state

pub returns-in-Lemma-clause-state : goal.returns-in-Lemma-clause-state
returns-in-Lemma-clause-state c =
    let q : c.args.decls.now ≡ c.remove-decl.result ∷ c.remove-decl.new.self = first_of c.args.decls.now c.remove-decl.new.self c.remove-decl.result c.remove-decl.ensures.item c.remove-decl.ensures.rest in
    rw q (rw c.in-Lemma.is c.push_lemma.ensures.state)

pub returns-in-Lemma-clause-held : goal.returns-in-Lemma-clause-held
returns-in-Lemma-clause-held c = c.push_lemma.ensures.held

pub push_goal-requires-clause-decl : goal.push_goal-requires-clause-decl
push_goal-requires-clause-decl c =
    let s = c.args.store.now in
    let q : c.args.decls.now ≡ c.remove-decl.result ∷ c.remove-decl.new.self = first_of c.args.decls.now c.remove-decl.new.self c.remove-decl.result c.remove-decl.ensures.item c.remove-decl.ensures.rest in
    let g : All (DeclHeld s) (c.remove-decl.result ∷ c.remove-decl.new.self) = subst (All (DeclHeld s)) q c.requires.decls in
    g 0 c.remove-decl.result (omega arith)

pub push_goal-requires-clause-state : goal.push_goal-requires-clause-state
push_goal-requires-clause-state c = c.requires.state

pub returns-in-Goal-clause-state : goal.returns-in-Goal-clause-state
returns-in-Goal-clause-state c =
    let q : c.args.decls.now ≡ c.remove-decl.result ∷ c.remove-decl.new.self = first_of c.args.decls.now c.remove-decl.new.self c.remove-decl.result c.remove-decl.ensures.item c.remove-decl.ensures.rest in
    rw q (rw c.in-Goal.is c.push_goal.ensures.state)

pub returns-in-Goal-clause-held : goal.returns-in-Goal-clause-held
returns-in-Goal-clause-held c = c.push_goal.ensures.held

pub returns-then-is_empty-clause-state : goal.returns-then-is_empty-clause-state
returns-then-is_empty-clause-state c = let none : c.args.decls.now ≡ [] = c.is_empty.ensures.0 c.if-is_empty.true in rw none refl

pub returns-then-is_empty-clause-held : goal.returns-then-is_empty-clause-held
returns-then-is_empty-clause-held c = c.requires.state

pub returns-then-is_empty-clause-typed : goal.returns-then-is_empty-clause-typed
returns-then-is_empty-clause-typed c = refl

pub returns-then-is_empty-clause-grows : goal.returns-then-is_empty-clause-grows
returns-then-is_empty-clause-grows c = Grows_refl c.args.store.now

pub remove-decl-requires : goal.remove-decl-requires
remove-decl-requires c = some_left c.args.decls.now (λ e. let h : c.is_empty.result ≡ true = c.is_empty.ensures.1 e in let g = c.if-is_empty.false in cc)

pub returns-in-Axiom-clause-typed : goal.returns-in-Axiom-clause-typed
returns-in-Axiom-clause-typed c = c.push_axiom.ensures.typed

pub returns-in-Axiom-clause-grows : goal.returns-in-Axiom-clause-grows
returns-in-Axiom-clause-grows c = Grows_refl c.args.store.now

pub returns-in-Lemma-clause-typed : goal.returns-in-Lemma-clause-typed
returns-in-Lemma-clause-typed c = c.push_lemma.ensures.typed

pub returns-in-Lemma-clause-grows : goal.returns-in-Lemma-clause-grows
returns-in-Lemma-clause-grows c = c.push_lemma.ensures.grows

pub returns-in-Goal-clause-typed : goal.returns-in-Goal-clause-typed
returns-in-Goal-clause-typed c = on_ok_weaker c.push_goal.result (λ h. refl) c.push_goal.ensures.held

pub returns-in-Goal-clause-grows : goal.returns-in-Goal-clause-grows
returns-in-Goal-clause-grows c = c.push_goal.ensures.grows
