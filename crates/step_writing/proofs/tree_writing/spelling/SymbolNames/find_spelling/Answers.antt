use Rattle.std.proofs.Common.{◌≡◌, ◌⊎◌, inl, inr, true, false, List, [], Some, None, IsSome, sym, ap, subst, ◌∙◌}
use Rattle.std.specs.HashMap.{get}
use Rattle.tasks.specs.trees.Tree.{Tree}
use Rattle.tasks.specs.trees.Node.{tree_at}
use Rattle.step_lines.specs.tree_lines.Named.{cells}
use Rattle.step_writing.specs.tree_writing.Spelt.{key_of, same_key, Spells}
use Rattle.step_writing.proofs.tree_writing.Noting.{found_means, found_there, is_reached, spelling_is, spelling_there}
use Rattle.step_writing.proofs.tree_writing.spelling.SymbolNames.find_spelling.Goals as goal

pub returns-in-Some-clause-spells : goal.returns-in-Some-clause-spells
returns-in-Some-clause-spells c =
    let n = c.requires.names in
    let found : get same_key c.args.self.now.places (key_of c.args.symbol c.args.self.now.end.0) ≡ Some c.in-Some.place.now = ap (get same_key c.args.self.now.places) (sym c.lookup_key.ensures) ∙ sym c.in-Some.ensures.value in
    spelling_is c.args.table.now c.in-Some.place.now c.spelling_at.result true c.spelling_at.ensures.name c.spelling_at.ensures.whole
    (λ name whole. (types : List Tree) → tree_at c.args.store.now c.args.list ≡ cells types → Spells c.args.table.now c.args.symbol types name whole)
    (λ e there types is. found_means c.args.store.now c.args.table.now c.args.self.now.places n.noted c.args.symbol c.args.self.now.end c.in-Some.place.now [] e found n.none there)

pub returns-in-Some-clause-found : goal.returns-in-Some-clause-found
returns-in-Some-clause-found c types is h =
    let n = c.requires.names in
    let found : get same_key c.args.self.now.places (key_of c.args.symbol c.args.self.now.end.0) ≡ Some c.in-Some.place.now = ap (get same_key c.args.self.now.places) (sym c.lookup_key.ensures) ∙ sym c.in-Some.ensures.value in
    spelling_there c.args.table.now c.in-Some.place.now c.spelling_at.result true c.spelling_at.ensures.name c.spelling_at.ensures.whole
    (found_there c.args.store.now c.args.table.now c.args.self.now.places n.noted c.args.symbol c.args.self.now.end c.in-Some.place.now found)

pub returns-in-Some-get-clause-spells : goal.returns-in-Some-get-clause-spells
returns-in-Some-get-clause-spells c =
    let n = c.requires.names in
    let found : get same_key c.args.self.now.places (key_of c.args.symbol c.args.list.0) ≡ Some c.in-Some-get.place.now = ap (get same_key c.args.self.now.places) (sym c.lookup_key-2.ensures) ∙ sym c.in-Some-get.ensures.value in
    spelling_is c.args.table.now c.in-Some-get.place.now c.spelling_at-in-Some-get.result false c.spelling_at-in-Some-get.ensures.name c.spelling_at-in-Some-get.ensures.whole
    (λ name whole. (types : List Tree) → tree_at c.args.store.now c.args.list ≡ cells types → Spells c.args.table.now c.args.symbol types name whole)
    (λ e there types is. found_means c.args.store.now c.args.table.now c.args.self.now.places n.noted c.args.symbol c.args.list c.in-Some-get.place.now types e found is there)

pub returns-in-Some-get-clause-found : goal.returns-in-Some-get-clause-found
returns-in-Some-get-clause-found c types is h =
    let n = c.requires.names in
    let found : get same_key c.args.self.now.places (key_of c.args.symbol c.args.list.0) ≡ Some c.in-Some-get.place.now = ap (get same_key c.args.self.now.places) (sym c.lookup_key-2.ensures) ∙ sym c.in-Some-get.ensures.value in
    spelling_there c.args.table.now c.in-Some-get.place.now c.spelling_at-in-Some-get.result false c.spelling_at-in-Some-get.ensures.name c.spelling_at-in-Some-get.ensures.whole
    (found_there c.args.store.now c.args.table.now c.args.self.now.places n.noted c.args.symbol c.args.list c.in-Some-get.place.now found)

pub returns-in-None-clause-found : goal.returns-in-None-clause-found
returns-in-None-clause-found c types is h =
    let n = c.requires.names in
    let none : get same_key c.args.self.now.places (key_of c.args.symbol c.args.self.now.end.0) ≡ None = ap (get same_key c.args.self.now.places) (sym c.lookup_key.ensures) ∙ sym c.in_default.ensures.value in
    let last : get same_key c.args.self.now.places (key_of c.args.symbol c.args.list.0) ≡ None = ap (get same_key c.args.self.now.places) (sym c.lookup_key-2.ensures) ∙ sym c.in-None.ensures.value in
    at (is_reached c.args.store.now c.args.table.now c.args.self.now.places n.noted c.laws.ensures.apart c.args.symbol c.args.self.now.end c.args.list types n.held n.none c.requires.held is h) none last
  where
    at : IsSome (get same_key c.args.self.now.places (key_of c.args.symbol c.args.self.now.end.0)) ⊎ IsSome (get same_key c.args.self.now.places (key_of c.args.symbol c.args.list.0))
        → get same_key c.args.self.now.places (key_of c.args.symbol c.args.self.now.end.0) ≡ None → get same_key c.args.self.now.places (key_of c.args.symbol c.args.list.0) ≡ None → false ≡ true
    at (inl k) none last = subst IsSome none k
    at (inr k) none last = subst IsSome last k
