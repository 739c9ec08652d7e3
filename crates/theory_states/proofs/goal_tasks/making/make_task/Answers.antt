use Rattle.std.proofs.Common.{ℕ, List, [], All, sym, ap, subst, ◌∙◌}
use Rattle.std.proofs.lemmas.List.Elements.{All-nil}
use Rattle.trees.specs.declared.TermId.{TermId}
use Rattle.trees.specs.Node.{tree_at, Holds}
use Rattle.tasks.specs.declared.signature.Signature.{Signature}
use Rattle.tasks.specs.Task.{DeclarationTree, TaskTree}
use Rattle.tasks.specs.Meaning.{trees_at, symbols_at, declarations_at, SymbolHeld}
use Rattle.theory_states.specs.goal_tasks.Tasks.{task_for}
use Rattle.theory_states.specs.goal_tasks.Meaning.{goal_at, theory_at, theories_at}
use Rattle.theory_states.proofs.goal_tasks.making.make_task.Goals as goal
use Rattle.tasks.proofs.outside.Passed.{no_value}

pub task_decls-requires-clause-held : goal.task_decls-requires-clause-held
task_decls-requires-clause-held c = c.requires.held

pub task_decls-requires-clause-tuples : goal.task_decls-requires-clause-tuples
task_decls-requires-clause-tuples c = c.requires.tuples

pub task_decls-requires-clause-theory_held : goal.task_decls-requires-clause-theory_held
task_decls-requires-clause-theory_held c = c.requires.theory_held

pub task_decls-requires-clause-goal_held : goal.task_decls-requires-clause-goal_held
task_decls-requires-clause-goal_held c = c.requires.goal_held

pub returns-in_err-decls-clause-tree : goal.returns-in_err-decls-clause-tree
returns-in_err-decls-clause-tree c = no_value _ _ c.from_residual.result c.from_residual.ensures.1

pub returns-in_err-decls-clause-new_held : goal.returns-in_err-decls-clause-new_held
returns-in_err-decls-clause-new_held c = no_value _ _ c.from_residual.result c.from_residual.ensures.1

pub returns-in_err-clone-clause-tree : goal.returns-in_err-clone-clause-tree
returns-in_err-clone-clause-tree c = no_value _ _ c.from_residual-in_err-clone.result c.from_residual-in_err-clone.ensures.1

pub returns-in_err-clone-clause-new_held : goal.returns-in_err-clone-clause-new_held
returns-in_err-clone-clause-new_held c = no_value _ _ c.from_residual-in_err-clone.result c.from_residual-in_err-clone.ensures.1

pub returns-in_err-clone-2-clause-tree : goal.returns-in_err-clone-2-clause-tree
returns-in_err-clone-2-clause-tree c = no_value _ _ c.from_residual-in_err-clone-2.result c.from_residual-in_err-clone-2.ensures.1

pub returns-in_err-clone-2-clause-new_held : goal.returns-in_err-clone-2-clause-new_held
returns-in_err-clone-2-clause-new_held c = no_value _ _ c.from_residual-in_err-clone-2.result c.from_residual-in_err-clone-2.ensures.1

pub returns-clause-tree : goal.returns-clause-tree
returns-clause-tree c =
    let s = c.args.store.now in
    let all = c.args.all.now in
    let rigid = c.args.goal.now.rigid in
    let whole = task_for (theories_at s all) (theory_at s all.decls c.args.theory.now) (goal_at s c.args.goal.now) in
    let mk : Signature → List ℕ → List DeclarationTree → List TermId → List TermId → TaskTree = λ g r ds ps ls. record { symbols = symbols_at s g.symbols; ints = g.ints; rigid = r; decls = ds; params = trees_at s ps; locals = trees_at s ls; goal = tree_at s c.args.goal.now.prop } in
    let ds = declarations_at s c.in_ok-decls.decls in
    ap (λ g. mk g c.in_ok-clone-2.field-0 ds c.new.result c.new-2.result) c.in_ok-clone.ensures.cases
    ∙ ap (λ r. mk all.sig.value r ds c.new.result c.new-2.result) c.in_ok-clone-2.ensures.cases
    ∙ ap (λ es. mk all.sig.value rigid es c.new.result c.new-2.result) c.in_ok-decls.ensures.tree
    ∙ ap (λ ps. mk all.sig.value rigid whole.decls ps c.new-2.result) c.new.ensures
    ∙ ap (mk all.sig.value rigid whole.decls []) c.new-2.ensures

pub returns-clause-new_held : goal.returns-clause-new_held
returns-clause-new_held c =
    let s = c.args.store.now in
    record {
      symbols = subst (λ (g : Signature). All (SymbolHeld s) g.symbols) (sym c.in_ok-clone.ensures.cases) c.requires.held.symbols;
      decls = c.in_ok-decls.ensures.new_held;
      params = subst (λ (ps : List TermId). All (Holds s) ps) (sym c.new.ensures) (All-nil (Holds s));
      locals = subst (λ (ls : List TermId). All (Holds s) ls) (sym c.new-2.ensures) (All-nil (Holds s));
      goal = c.requires.goal_held;
    }
