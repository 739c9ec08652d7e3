use Rattle.std.proofs.Common.{◌≡◌, IsSome, subst, List, ℕ}
use Rattle.tasks.specs.trees.Node.{tree_at}
use Rattle.tasks.specs.Typing.{members}
use Rattle.step_lines.specs.tree_lines.Named.{cells}
use Rattle.step_writing.specs.tree_writing.Referring.{words_of, PushesNumbers}
use Rattle.step_writing.proofs.tree_writing.Cells.{is_cells}
use Rattle.step_writing.proofs.tree_writing.Reading.{on_ok, pushes_symbol}
use Rattle.step_writing.proofs.tree_writing.naming.push_symbol.Goals as goal

pub unreachable-requires : goal.unreachable-requires
unreachable-requires c =
    let list = tree_at c.args.x.now.store.now c.args.list in
    let is : list ≡ cells (members list) = is_cells list (c.laws.ensures.sorted c.args.list c.requires.held) c.requires.types.0 in
    let none = subst IsSome c.in_default.is (c.find_spelling.ensures.found (members list) is c.requires.spelt) in
    absurd (cc)

pub returns : goal.returns
returns c =
    let s = c.args.x.now.store.now in
    let list = tree_at s c.args.list in
    let is : list ≡ cells (members list) = is_cells list (c.laws.ensures.sorted c.args.list c.requires.held) c.requires.types.0 in
    on_ok c.push_numbers.result c.push_numbers.ensures
    (λ p. pushes_symbol s c.args.x.now.table.now c.args.x.now.lines.now c.args.symbol (members list) c.args.words.now.items c.push.new.self.items (words_of c.push_numbers.new.words.items) c.in_ok-from_slice.field-0 c.in-Some.spelling.name.now c.in-Some.spelling.whole c.in_ok-numbers.numbers.items
    (c.in-Some.ensures.spells (members list) is) c.in_ok-from_slice.ensures.items c.in_ok-push.ensures.items c.in_ok-numbers.ensures
    (subst (λ (ns : List ℕ). PushesNumbers (words_of c.push.new.self.items) (words_of c.push_numbers.new.words.items) ns) c.deref.ensures.value p))
