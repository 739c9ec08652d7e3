use Rattle.std.proofs.Common.{Some, sym, refl, subst, ap, ◌∙◌, slice_get, length, ◌<◌, arith}
use Rattle.tasks.specs.trees.Tree.{Tree}
use Rattle.tasks.specs.trees.Node.{tree_at}
use Rattle.tasks.specs.trees.Sorts.{Fits}
use Rattle.step_writing.specs.tree_writing.Referring.{words_of}
use Rattle.step_writing.specs.tree_writing.Used.{IsUsed, HasPatternForm}
use Rattle.step_writing.proofs.tree_writing.UsedBack.{any_back, var_back, alias_back, con_back, no_other_pattern}
use Rattle.step_writing.proofs.tree_writing.Reading.{if_ok}
use Rattle.step_writing.proofs.tree_writing.used.pattern_words.Goals as goal
use Rattle.tasks.proofs.plain_laws.Options.{some_and}

pub unreachable-requires : goal.unreachable-requires
unreachable-requires c =
    let s = c.args.x.now.store.now in
    no_other_pattern s c.node.result (subst HasPatternForm c.node.ensures.tree c.requires.pattern) (λ a e. c.in_default.not-PatAny a e) (λ a e. c.in_default.not-PatVar a e) (λ k x y z e. c.in_default.not-PatCon k x y z e) (λ a e. c.in_default.not-PatAlias a e)

pub returns-in-PatAny : goal.returns-in-PatAny
returns-in-PatAny c =
    let s = c.args.x.now.store.now in
    let e = c.in-PatAny.ensures.tree in
    let f = subst Fits e c.in-PatAny.ensures.fits in
    if_ok c.one_word.result c.one_word.ensures
    (λ v h t r used are. any_back s c.args.x.now.lines.now t c.args.x.now.table.now r are (tree_at s c.in-PatAny.ty) (words_of v.items) f h ∙ ap Some (sym e))

pub returns-in-PatVar : goal.returns-in-PatVar
returns-in-PatVar c =
    let s = c.args.x.now.store.now in
    let e = c.in-PatVar.ensures.tree in
    let f = subst Fits e c.in-PatVar.ensures.fits in
    if_ok c.one_word-in-PatVar.result c.one_word-in-PatVar.ensures
    (λ v h t r used are. var_back s c.args.x.now.lines.now t c.args.x.now.table.now r are (tree_at s c.in-PatVar.ty) (words_of v.items) f h ∙ ap Some (sym e))

pub returns-in-PatAlias : goal.returns-in-PatAlias
returns-in-PatAlias c =
    let s = c.args.x.now.store.now in
    let e = c.in-PatAlias.ensures.tree in
    let f = subst Fits e c.in-PatAlias.ensures.fits in
    if_ok c.one_word-in-PatAlias.result c.one_word-in-PatAlias.ensures
    (λ v h t r used are. alias_back s c.args.x.now.lines.now t c.args.x.now.table.now r are (tree_at s c.in-PatAlias.a) (words_of v.items) f h ∙ ap Some (sym e))

pub returns-in-PatCon : goal.returns-in-PatCon
returns-in-PatCon c =
    let s = c.args.x.now.store.now in
    let b = c.in-PatCon in
    let e = b.ensures.tree in
    let f = subst Fits e b.ensures.fits in
    let held : c.args.id.0 < length s = c.requires.held in
    let below_types : b.types.0 < c.args.id.0 = b.ensures.below.0 in
    let below_parts : b.parts.0 < c.args.id.0 = b.ensures.below.1 in
    let types_held : b.types.0 < length s = omega arith in
    let parts_held : b.parts.0 < length s = omega arith in
    if_ok c.use_words.result c.use_words.ensures
    (λ v h t r used are.
    let u = some_and (slice_get t.symbols b.symbol) _ (subst (λ (x : Tree). IsUsed t x) e used) in
    con_back s c.args.x.now.table.now c.args.x.now.lines.now t r are _ b.symbol (tree_at s b.types) (tree_at s b.parts) (words_of v.items) u.0 u.1 u.2.0 h
    (c.laws.ensures.sorted b.types types_held) f.0 (c.laws.ensures.sorted b.parts parts_held) (tree_at s b.field-3) f.1 refl u.2.1 ∙ ap Some (sym e))
