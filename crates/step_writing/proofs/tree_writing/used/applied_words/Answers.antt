use Rattle.std.proofs.Common.{Some, sym, refl, subst, ap, ◌∙◌, slice_get, length, ◌<◌, arith}
use Rattle.tasks.specs.trees.Tree.{Tree}
use Rattle.tasks.specs.trees.Node.{tree_at}
use Rattle.tasks.specs.trees.Sorts.{Fits}
use Rattle.step_writing.specs.tree_writing.Referring.{words_of}
use Rattle.step_writing.specs.tree_writing.Used.{IsUsed}
use Rattle.step_writing.proofs.tree_writing.UsedBack.{fun_back, pred_back}
use Rattle.step_writing.proofs.tree_writing.Reading.{if_ok}
use Rattle.step_writing.proofs.tree_writing.used.applied_words.Goals as goal
use Rattle.tasks.proofs.plain_laws.Options.{some_and}

pub returns-in-Fun : goal.returns-in-Fun
returns-in-Fun c =
    let s = c.args.x.now.store.now in
    let b = c.in-Fun in
    let e = b.ensures.tree in
    let f = subst Fits e b.ensures.fits in
    let held : c.args.id.0 < length s = c.requires.held in
    let below_types : b.types.0 < c.args.id.0 = b.ensures.below.0 in
    let below_parts : b.parts.0 < c.args.id.0 = b.ensures.below.1 in
    let types_held : b.types.0 < length s = omega arith in
    let parts_held : b.parts.0 < length s = omega arith in
    if_ok c.use_words.result c.use_words.ensures
    (λ v h t r used are.
    let u = some_and (slice_get t.symbols b.symbol) _ (subst (λ (x : Tree). IsUsed t x) e used) in
    fun_back s c.args.x.now.table.now c.args.x.now.lines.now t r are _ b.symbol (tree_at s b.types) (tree_at s b.parts) (words_of v.items) u.0 u.1 u.2.1 h
    (c.laws.ensures.sorted b.types types_held) f.0 (c.laws.ensures.sorted b.parts parts_held) (tree_at s b.field-3) f.1 refl u.2.0 u.2.2 ∙ ap Some (sym e))

pub returns-in-Pred : goal.returns-in-Pred
returns-in-Pred c =
    let s = c.args.x.now.store.now in
    let b = c.in-Pred in
    let e = b.ensures.tree in
    let f = subst Fits e b.ensures.fits in
    let held : c.args.id.0 < length s = c.requires.held in
    let below_types : b.types.0 < c.args.id.0 = b.ensures.below.0 in
    let below_parts : b.parts.0 < c.args.id.0 = b.ensures.below.1 in
    let types_held : b.types.0 < length s = omega arith in
    let parts_held : b.parts.0 < length s = omega arith in
    if_ok c.use_words-in-Pred.result c.use_words-in-Pred.ensures
    (λ v h t r used are.
    let u = some_and (slice_get t.symbols b.symbol) _ (subst (λ (x : Tree). IsUsed t x) e used) in
    pred_back s c.args.x.now.table.now c.args.x.now.lines.now t r are _ b.symbol (tree_at s b.types) (tree_at s b.parts) (words_of v.items) u.0 u.1 u.2.1 h
    (c.laws.ensures.sorted b.types types_held) f.0.0 (c.laws.ensures.sorted b.parts parts_held) f.0.1 refl u.2.0 ∙ ap Some (sym e))
