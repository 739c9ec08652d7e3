use Rattle.std.proofs.Common.{[], IsTrue, sym, subst}
use Rattle.tasks.specs.trees.Tree.{Tree}
use Rattle.tasks.specs.trees.Node.{tree_at}
use Rattle.tasks.specs.trees.Sorts.{WellSorted}
use Rattle.tasks.specs.Typing.{members}
use Rattle.name_tables.specs.declared.name_entries.names.NameOf.{NameOf}
use Rattle.name_tables.specs.declared.name_entries.names.NameOf.TheVariants.{Rigid, Symbol}
use Rattle.step_writing.specs.tree_writing.Spelt.{IsSpelt}
use Rattle.step_writing.specs.tree_writing.Whole.{TopNamed}
use Rattle.step_writing.proofs.tree_writing.Cells.{is_cells}
use Rattle.step_writing.proofs.tree_writing.Whole.{found_iff}
use Rattle.step_writing.proofs.tree_writing.writer.has_name.Goals as goal

pub returns-in-TyRigid : goal.returns-in-TyRigid
returns-in-TyRigid c =
    let s = c.args.store.now in
    let table = c.args.table.now in
    let b = c.is_some.result in
    subst (λ (x : Tree). (IsTrue b → TopNamed table x) × (TopNamed table x → IsTrue b)) (sym c.in-TyRigid.ensures.tree)
    (found_iff table (Rigid c.in-TyRigid.k) [] (tree_at s c.args.names.now.end) c.find_spelling.result b c.is_some.ensures c.requires.names.none c.find_spelling.ensures.spells c.find_spelling.ensures.found)

pub returns-in-TyApp : goal.returns-in-TyApp
returns-in-TyApp c =
    let s = c.args.store.now in
    let table = c.args.table.now in
    let b = c.is_some-in-TyApp.result in
    let list = tree_at s c.in-TyApp.list in
    let w = subst WellSorted c.in-TyApp.ensures.tree c.in-TyApp.ensures.sorted in
    subst (λ (x : Tree). (IsTrue b → TopNamed table x) × (TopNamed table x → IsTrue b)) (sym c.in-TyApp.ensures.tree)
    (subst (λ (n : NameOf). (IsTrue b → IsSpelt table n (members list)) × (IsSpelt table n (members list) → IsTrue b)) c.table_symbol.ensures
    (found_iff table c.table_symbol.result (members list) list c.find_spelling-in-TyApp.result b c.is_some-in-TyApp.ensures (is_cells list w.1 w.0.0) c.find_spelling-in-TyApp.ensures.spells c.find_spelling-in-TyApp.ensures.found))

pub returns-in-Fun : goal.returns-in-Fun
returns-in-Fun c =
    let s = c.args.store.now in
    let table = c.args.table.now in
    let b = c.is_some-in-Fun.result in
    let list = tree_at s c.in-Fun.list in
    let w = subst WellSorted c.in-Fun.ensures.tree c.in-Fun.ensures.sorted in
    subst (λ (x : Tree). (IsTrue b → TopNamed table x) × (TopNamed table x → IsTrue b)) (sym c.in-Fun.ensures.tree)
    (found_iff table (Symbol c.in-Fun.k) (members list) list c.find_spelling-in-Fun.result b c.is_some-in-Fun.ensures (is_cells list w.1 w.0.0.0) c.find_spelling-in-Fun.ensures.spells c.find_spelling-in-Fun.ensures.found)

pub returns-in-Pred : goal.returns-in-Pred
returns-in-Pred c =
    let s = c.args.store.now in
    let table = c.args.table.now in
    let b = c.is_some-in-Pred.result in
    let list = tree_at s c.in-Pred.list in
    let w = subst WellSorted c.in-Pred.ensures.tree c.in-Pred.ensures.sorted in
    subst (λ (x : Tree). (IsTrue b → TopNamed table x) × (TopNamed table x → IsTrue b)) (sym c.in-Pred.ensures.tree)
    (found_iff table (Symbol c.in-Pred.k) (members list) list c.find_spelling-in-Pred.result b c.is_some-in-Pred.ensures (is_cells list w.1 w.0.0.0.0) c.find_spelling-in-Pred.ensures.spells c.find_spelling-in-Pred.ensures.found)

pub returns-in-PatCon : goal.returns-in-PatCon
returns-in-PatCon c =
    let s = c.args.store.now in
    let table = c.args.table.now in
    let b = c.is_some-in-PatCon.result in
    let list = tree_at s c.in-PatCon.list in
    let w = subst WellSorted c.in-PatCon.ensures.tree c.in-PatCon.ensures.sorted in
    subst (λ (x : Tree). (IsTrue b → TopNamed table x) × (TopNamed table x → IsTrue b)) (sym c.in-PatCon.ensures.tree)
    (found_iff table (Symbol c.in-PatCon.k) (members list) list c.find_spelling-in-PatCon.result b c.is_some-in-PatCon.ensures (is_cells list w.1 w.0.0.0) c.find_spelling-in-PatCon.ensures.spells c.find_spelling-in-PatCon.ensures.found)
