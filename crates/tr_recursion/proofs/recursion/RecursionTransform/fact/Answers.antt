use Rattle.std.proofs.Common.{◌≡◌, List, map, slice_get, ap, subst, ◌∙◌}
use Rattle.tasks.specs.trees.Node.{tree_at, trees_at}
use Rattle.tasks.specs.declared.facts.Fact.{Fact}
use Rattle.tasks.specs.declared.facts.Fact.TheVariants as fact
use Rattle.tasks.specs.Task.{TaskTree, DeclarationTree}
use Rattle.tasks.specs.Looking.{fact_name}
use Rattle.tasks.specs.Meaning.{declarations_at, task_at}
use Rattle.evidence.specs.Facts.{IsFact}
use Rattle.declarations.specs.Said.{said_from}
use Rattle.tr_define.specs.declarations.spelled_groups.Spelled.{spelling_said}
use Rattle.tr_inline.specs.inlining.branch_equations.Branches.{recursion_facts}
use Rattle.tr_recursion.proofs.Followed.{followed, none_followed, fact_stays}
use Rattle.tr_recursion.proofs.recursion.RecursionTransform.fact.Goals as goal

pub origin_step-requires-clause-follows : goal.origin_step-requires-clause-follows
origin_step-requires-clause-follows c =
    let d = c.args.draft.now in
    let t = d.task in
    let u = task_at d.trees c.args.to.now in
    let k = c.in-Proposition.k in
    let types = trees_at d.trees c.args.types.now in
    let formula = tree_at d.trees c.args.formula in
    let q = (rw (c.store.ensures, c.as_slice.ensures) at (c.in-Some.ensures t.symbols)) in
    let e : declarations_at d.trees c.args.from.now.decls ≡ t.decls = ap (λ (z : TaskTree). z.decls) c.requires.stage.own.is in
    let i : IsFact t u (fact.Proposition k) types formula = subst (λ (n : Fact). IsFact t u n types formula) c.in-Proposition.is c.requires.fact in
    followed t c.requires.stage.own.valid u c.requires.stage.among k c.in-Some.old types formula (q ∙ ap (λ (ds : List DeclarationTree). slice_get (map fact_name (said_from (spelling_said recursion_facts) t.symbols 0 ds)) k) e) i

pub unreachable-requires : goal.unreachable-requires
unreachable-requires c =
    let d = c.args.draft.now in
    let t = d.task in
    let u = task_at d.trees c.args.to.now in
    let k = c.in-Proposition.k in
    let types = trees_at d.trees c.args.types.now in
    let formula = tree_at d.trees c.args.formula in
    let q = (rw (c.store.ensures, c.as_slice.ensures) at (c.in-None.ensures t.symbols)) in
    let e : declarations_at d.trees c.args.from.now.decls ≡ t.decls = ap (λ (z : TaskTree). z.decls) c.requires.stage.own.is in
    let i : IsFact t u (fact.Proposition k) types formula = subst (λ (n : Fact). IsFact t u n types formula) c.in-Proposition.is c.requires.fact in
    none_followed t c.requires.stage.own.valid u c.requires.stage.among k types formula (q ∙ ap (λ (ds : List DeclarationTree). slice_get (map fact_name (said_from (spelling_said recursion_facts) t.symbols 0 ds)) k) e) i

pub fact_lemma-requires : goal.fact_lemma-requires
fact_lemma-requires c =
    let d = c.args.draft.now in
    record {
      types_held = c.requires.types_held;
      formula = c.requires.formula;
      fact = fact_stays d.task c.requires.stage.own.valid (task_at d.trees c.args.to.now) c.requires.stage.among c.args.name (trees_at d.trees c.args.types.now) (tree_at d.trees c.args.formula) c.in_default.not-Proposition c.requires.fact;
    }
