use Rattle.std.proofs.Common.{◌≡◌, [], ◌∷◌, List, subst, sym, ap, ◌∙◌}
use Rattle.trees.specs.Tree.{Tree}
use Rattle.trees.specs.Node.{tree_at}
use Rattle.tasks.specs.Task.{DefinitionTree, neg}
use Rattle.tasks.specs.Meaning.{definitions_at, task_at, TaskHeld}
use Rattle.evidence.specs.Drafts.{Refutes}
use Rattle.tr_inline.specs.full_bodies.Listed.{AreDefsHeld}
use Rattle.inlining.specs.Inlining.{inlined, inlined_definitions}
use Rattle.tr_inline.specs.Inlined.{inline_formula, IsImageOf}
use Rattle.tr_inline.proofs.Named.{listed_same, listed_defined}
use Rattle.tr_inline.proofs.formulas.InlinedFormulasRewriteFormulas.rewrite.Goals as goal

pub definitions_inlined-requires : goal.definitions_inlined-requires
definitions_inlined-requires c = subst (λ (s : List Tree). TaskHeld s c.args.from.now) (sym c.store.ensures) c.requires.own.held

pub inline_by_passes-requires-clause-defined : goal.inline_by_passes-requires-clause-defined
inline_by_passes-requires-clause-defined c =
    let d = c.args.draft.now in
    let m = c.args.self.now.mode in
    let defs = c.in_ok-defs.defs.items in
    let held : AreDefsHeld d.trees defs = subst (λ (s : List Tree). AreDefsHeld s defs) c.store.ensures c.in_ok-defs.ensures.held in
    let are : definitions_at d.trees defs ≡ inlined_definitions m (task_at d.trees c.args.from.now).decls = subst (λ (s : List Tree). definitions_at s defs ≡ inlined_definitions m (task_at s c.args.from.now).decls) c.store.ensures c.in_ok-defs.ensures.are in
    listed_defined d c.args.from.now c.requires.own m defs held are

pub returns-clause-formula : goal.returns-clause-formula
returns-clause-formula c = c.in_ok-made.ensures.image.formula

pub returns-clause-image : goal.returns-clause-image
returns-clause-image c =
    let d = c.args.draft.now in
    let m = c.args.self.now.mode in
    let defs = c.in_ok-defs.defs.items in
    let held : AreDefsHeld d.trees defs = subst (λ (s : List Tree). AreDefsHeld s defs) c.store.ensures c.in_ok-defs.ensures.held in
    let are : definitions_at d.trees defs ≡ inlined_definitions m (task_at d.trees c.args.from.now).decls = subst (λ (s : List Tree). definitions_at s defs ≡ inlined_definitions m (task_at s c.args.from.now).decls) c.store.ensures c.in_ok-defs.ensures.are in
    c.in_ok-made.ensures.image.is ∙ ap (λ (ds : List DefinitionTree). inlined ds (tree_at d.trees c.args.formula)) (listed_same d c.args.from.now c.requires.own m defs held are)

pub returns-clause-there : goal.returns-clause-there
returns-clause-there c =
    let k = c.in_ok-made.ensures.image in
    subst (λ (z : Tree). Refutes c.inline_by_passes.new.draft c.in_ok-made.made.there (tree_at c.args.draft.now.trees c.args.formula ∷ neg z ∷ [])) (sym k.is) k.there

pub returns-clause-back : goal.returns-clause-back
returns-clause-back c =
    let k = c.in_ok-made.ensures.image in
    subst (λ (z : Tree). Refutes c.inline_by_passes.new.draft c.in_ok-made.made.back (z ∷ neg (tree_at c.args.draft.now.trees c.args.formula) ∷ [])) (sym k.is) k.back
