use Rattle.std.proofs.Common.{◌≡◌, List, ap, ◌∙◌, All, refl, sym, subst}
use Rattle.std.proofs.lemmas.Result.{IfOk-weaker}
use Rattle.trees.specs.declared.TermId.{TermId}
use Rattle.trees.specs.Node.{tree_at, Holds}
use Rattle.tasks.specs.Task.{TaskTree}
use Rattle.tasks.specs.declared.declaration.Decl.{Decl}
use Rattle.tasks.specs.Meaning.{task_at, trees_at, declarations_at, DeclHeld}
use Rattle.tasks.proofs.Growth.{task_held_later, task_later}
use Rattle.evidence.specs.task_parts.Parts.{task_with, ArePartsHeld}
use Rattle.tr_introduce.specs.Introduce.{Judgement, introduced, judgement_of, with_judgement, judgement_at, prefix}
use Rattle.tr_introduce.proofs.Introduced.{nothing_left}
use Rattle.trees.proofs.Nodes.{Grows_refl}
use Rattle.tr_introduce.proofs.introduction.introduced_task.Goals as goal
use Rattle.outside.proofs.Passed.{no_value}

pub returns-clause-held : goal.returns-clause-held
returns-clause-held c =
    let s = c.args.store.now in
    let s1 = c.introduce.new.store in
    let task = task_held_later s s1 c.in_ok-goal.ensures.grows c.args.task.now c.requires in
    let h = c.in_ok-goal.ensures.held in
    let decls : c.in_ok-decls.decls ≡ c.args.task.now.decls = c.in_ok-decls.ensures (λ x y e. e) in
    let parts : ArePartsHeld s1 c.in_ok-decls.decls c.from_vec-params.result c.from_vec-locals.result c.in_ok-goal.goal = record {
      decls = subst (All (DeclHeld s1)) (sym decls) task.decls;
      params = subst (All (Holds s1)) (sym c.from_vec-params.ensures) h.params;
      locals = subst (All (Holds s1)) (sym c.from_vec-locals.ensures) h.locals;
      goal = h.goal;
    } in
    IfOk-weaker c.with_parts.result _ _ (λ t w. w.held s1 task parts) c.with_parts.ensures

pub returns-clause-task : goal.returns-clause-task
returns-clause-task c =
    let s = c.args.store.now in
    let s1 = c.introduce.new.store in
    let task = c.args.task.now in
    let g = c.in_ok-goal.goal in
    let ps : c.in_ok-params.params.items ≡ task.params = c.in_ok-params.ensures.items ∙ c.as_slice.ensures in
    let ls : c.in_ok-locals.locals.items ≡ task.locals = c.in_ok-locals.ensures.items ∙ c.as_slice-2.ensures in
    let later : task_at s1 task ≡ task_at s task = task_later s s1 c.in_ok-goal.ensures.grows task c.requires in
    let decls : declarations_at s1 c.in_ok-decls.decls ≡ (task_at s1 task).decls = ap (λ (z : List Decl). declarations_at s1 z) (c.in_ok-decls.ensures (λ x y e. e)) in
    let params = ap (trees_at s1) c.from_vec-params.ensures in
    let locals = ap (trees_at s1) c.from_vec-locals.ensures in
    let j : judgement_at s1 c.introduce.new.params.items c.introduce.new.locals.items g ≡ introduced (judgement_of (task_at s task)) =
    c.in_ok-goal.ensures.is ∙ ap (λ (z : List TermId). introduced (judgement_at s z c.in_ok-locals.locals.items task.goal)) ps ∙ ap (λ (z : List TermId). introduced (judgement_at s task.params z task.goal)) ls in
    let whole : task_with (task_at s1 task) (declarations_at s1 c.in_ok-decls.decls) (trees_at s1 c.from_vec-params.result) (trees_at s1 c.from_vec-locals.result) (tree_at s1 g)
    ≡ with_judgement (task_at s1 task) (judgement_at s1 c.introduce.new.params.items c.introduce.new.locals.items g) = rw (decls, params, locals) refl in
    let same = whole ∙ ap (λ (u : TaskTree). with_judgement u (judgement_at s1 c.introduce.new.params.items c.introduce.new.locals.items g)) later ∙ ap (with_judgement (task_at s task)) j in
    IfOk-weaker c.with_parts.result _ _ (λ t w. w.tree s1 ∙ same) c.with_parts.ensures

pub returns-clause-neither : goal.returns-clause-neither
returns-clause-neither c =
    let s1 = c.introduce.new.store in
    let none = nothing_left (judgement_at c.args.store.now c.in_ok-params.params.items c.in_ok-locals.locals.items c.args.task.now.goal) in
    IfOk-weaker c.with_parts.result _ _ (λ t w. ap (λ (id : TermId). prefix (tree_at s1 id)) w.goal_is ∙ ap (λ (j : Judgement). prefix j.goal) c.in_ok-goal.ensures.is ∙ none) c.with_parts.ensures

pub returns-clause-grows : goal.returns-clause-grows
returns-clause-grows c = c.in_ok-goal.ensures.grows

pub introduce-requires : goal.introduce-requires
introduce-requires c =
    let s = c.args.store.now in
    let ps = c.in_ok-params.ensures.items ∙ c.as_slice.ensures in
    let ls = c.in_ok-locals.ensures.items ∙ c.as_slice-2.ensures in
    record { params = subst (All (Holds s)) (sym ps) c.requires.params; locals = subst (All (Holds s)) (sym ls) c.requires.locals; goal = c.requires.goal }

pub returns-in_err-params : goal.returns-in_err-params
returns-in_err-params c =
    let none = c.from_residual in
    record { held = no_value _ _ none.result none.ensures.1; task = no_value _ _ none.result none.ensures.1; neither = no_value _ _ none.result none.ensures.1; grows = Grows_refl _ }

pub returns-in_err-locals : goal.returns-in_err-locals
returns-in_err-locals c =
    let none = c.from_residual-in_err-locals in
    record { held = no_value _ _ none.result none.ensures.1; task = no_value _ _ none.result none.ensures.1; neither = no_value _ _ none.result none.ensures.1; grows = Grows_refl _ }

pub returns-in_err-goal : goal.returns-in_err-goal
returns-in_err-goal c =
    let none = c.from_residual-in_err-goal in
    record { held = no_value _ _ none.result none.ensures.1; task = no_value _ _ none.result none.ensures.1; neither = no_value _ _ none.result none.ensures.1; grows = c.introduce.ensures.grows }

pub returns-in_err-decls : goal.returns-in_err-decls
returns-in_err-decls c =
    let none = c.from_residual-in_err-decls in
    record { held = no_value _ _ none.result none.ensures.1; task = no_value _ _ none.result none.ensures.1; neither = no_value _ _ none.result none.ensures.1; grows = c.in_ok-goal.ensures.grows }
