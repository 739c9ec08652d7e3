use Rattle.std.proofs.Common.{Some, sym, subst, ap, ◌∙◌}
use Rattle.tasks.specs.trees.Node.{tree_at}
use Rattle.tasks.specs.trees.Sorts.{Fits}
use Rattle.step_lines.specs.tree_lines.Words.{LineWord}
use Rattle.step_writing.specs.tree_writing.Referring.{words_of}
use Rattle.step_writing.specs.tree_writing.Plain.{AreTwoWords}
use Rattle.step_writing.proofs.tree_writing.PlainBack.{bound_back, param_back, not_back, eq_back, join_back, forall_back, exists_back, let_back, if_back}
use Rattle.step_writing.proofs.tree_writing.Reading.{if_ok}
use Rattle.step_writing.proofs.tree_writing.plain.plain_words.Goals as goal

pub returns-in-Bound : goal.returns-in-Bound
returns-in-Bound c =
    let s = c.args.x.now.store.now in
    let e = c.in-Bound.ensures.tree in
    let f = subst Fits e c.in-Bound.ensures.fits in
    if_ok c.variable_words.result c.variable_words.ensures
    (λ v h t r are. bound_back s c.args.x.now.lines.now (tree_at s c.in-Bound.ty) (tree_at s c.in-Bound.ty) (words_of v.items) t c.args.x.now.table.now r are c.in-Bound.i f.0 h ∙ ap Some (sym e))

pub returns-in-Param : goal.returns-in-Param
returns-in-Param c =
    let s = c.args.x.now.store.now in
    let e = c.in-Param.ensures.tree in
    let f = subst Fits e c.in-Param.ensures.fits in
    if_ok c.variable_words-in-Param.result c.variable_words-in-Param.ensures
    (λ v h t r are. param_back s c.args.x.now.lines.now (tree_at s c.in-Param.ty) (tree_at s c.in-Param.ty) (words_of v.items) t c.args.x.now.table.now r are c.in-Param.n f h ∙ ap Some (sym e))

pub returns-in-Not : goal.returns-in-Not
returns-in-Not c =
    let s = c.args.x.now.store.now in
    let e = c.in-Not.ensures.tree in
    let f = subst Fits e c.in-Not.ensures.fits in
    if_ok c.one_word.result c.one_word.ensures
    (λ v h t r are. not_back s c.args.x.now.lines.now (tree_at s c.in-Not.a) (tree_at s c.in-Not.a) (words_of v.items) t c.args.x.now.table.now r are f h ∙ ap Some (sym e))

pub returns-in-Eq : goal.returns-in-Eq
returns-in-Eq c =
    let s = c.args.x.now.store.now in
    let e = c.in-Eq.ensures.tree in
    let f = subst Fits e c.in-Eq.ensures.fits in
    if_ok c.two_words.result c.two_words.ensures
    (λ v h t r are. eq_back s c.args.x.now.lines.now (tree_at s c.in-Eq.a) (tree_at s c.in-Eq.b) (words_of v.items) t c.args.x.now.table.now r are f.0.0 f.0.1 h ∙ ap Some (sym e))

pub returns-in-Join : goal.returns-in-Join
returns-in-Join c =
    let s = c.args.x.now.store.now in
    let e = c.in-Join.ensures.tree in
    let f = subst Fits e c.in-Join.ensures.fits in
    if_ok c.two_words-in-Join.result c.two_words-in-Join.ensures
    (λ v h t r are. join_back s c.args.x.now.lines.now (tree_at s c.in-Join.a) (tree_at s c.in-Join.b) (words_of v.items) t c.args.x.now.table.now r are c.in-Join.op f.0.0 f.0.1 (subst (λ (w : LineWord). AreTwoWords s c.args.x.now.lines.now w (tree_at s c.in-Join.a) (tree_at s c.in-Join.b) (words_of v.items)) c.word_of_op.ensures h) ∙ ap Some (sym e))

pub returns-in-Forall : goal.returns-in-Forall
returns-in-Forall c =
    let s = c.args.x.now.store.now in
    let e = c.in-Forall.ensures.tree in
    let f = subst Fits e c.in-Forall.ensures.fits in
    if_ok c.two_words-in-Forall.result c.two_words-in-Forall.ensures
    (λ v h t r are. forall_back s c.args.x.now.lines.now (tree_at s c.in-Forall.ty) (tree_at s c.in-Forall.a) (words_of v.items) t c.args.x.now.table.now r are f.0.0 f.0.1 h ∙ ap Some (sym e))

pub returns-in-Exists : goal.returns-in-Exists
returns-in-Exists c =
    let s = c.args.x.now.store.now in
    let e = c.in-Exists.ensures.tree in
    let f = subst Fits e c.in-Exists.ensures.fits in
    if_ok c.two_words-in-Exists.result c.two_words-in-Exists.ensures
    (λ v h t r are. exists_back s c.args.x.now.lines.now (tree_at s c.in-Exists.ty) (tree_at s c.in-Exists.a) (words_of v.items) t c.args.x.now.table.now r are f.0.0 f.0.1 h ∙ ap Some (sym e))

pub returns-in-Let : goal.returns-in-Let
returns-in-Let c =
    let s = c.args.x.now.store.now in
    let e = c.in-Let.ensures.tree in
    let f = subst Fits e c.in-Let.ensures.fits in
    if_ok c.two_words-in-Let.result c.two_words-in-Let.ensures
    (λ v h t r are. let_back s c.args.x.now.lines.now (tree_at s c.in-Let.a) (tree_at s c.in-Let.b) (words_of v.items) t c.args.x.now.table.now r are f.0.0 f.0.1 h ∙ ap Some (sym e))

pub returns-in-If : goal.returns-in-If
returns-in-If c =
    let s = c.args.x.now.store.now in
    let e = c.in-If.ensures.tree in
    let f = subst Fits e c.in-If.ensures.fits in
    if_ok c.three_words.result c.three_words.ensures
    (λ v h t r are. if_back s c.args.x.now.lines.now (tree_at s c.in-If.c) (tree_at s c.in-If.a) (words_of v.items) t c.args.x.now.table.now r are (tree_at s c.in-If.b) f.0 f.1 f.2 h ∙ ap Some (sym e))
