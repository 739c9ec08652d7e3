use Rattle.std.proofs.Common.{◌≡◌, ◌↔◌, ◌∷◌, suc, IsTrue, List, All, map, length, sym, ap, subst, ◌∙◌, arith}
use Rattle.std.proofs.lemmas.Result.{IfOk-weaker, on_ok_weaker}
use Rattle.tasks.specs.trees.declared.TermId.{TermId}
use Rattle.tasks.specs.trees.Tree.{Tree}
use Rattle.tasks.specs.trees.Node.{tree_at, Holds, Grows}
use Rattle.tasks.proofs.trees.Nodes.{Grows_trans, Grows_refl}
use Rattle.tasks.specs.Meaning.{trees_at}
use Rattle.tasks.proofs.Growth.{tree_later, trees_later, all_held_later}
use Rattle.clones.specs.Mapped.{Map, mapped}
use Rattle.clones.specs.Meaning.{map_at}
use Rattle.clones.proofs.Steps.{map_held, map_stays, known_on, known_back}
use Rattle.clones.proofs.clone_elements.Compared.{cons_tells}
use Rattle.clones.proofs.clone_elements.elements.+same_types.Goals as goal
use Rattle.tasks.proofs.outside.Passed.{no_ok, no_value}

tail_held : (s : List Tree) (xs ys : List TermId) (y : TermId) → xs ≡ y ∷ ys → All (Holds s) xs → All (Holds s) ys
tail_held s xs ys y q h = let g : All (Holds s) (y ∷ ys) = subst (All (Holds s)) q h in λ k d l. g (suc k) d (omega arith)

pub same_types-requires : goal.same_types-requires
same_types-requires t c =
    let s = c.args.store.now in
    let s1 = c.map_tree.new.store in
    let w = c.map_tree.ensures.grows in
    let mo = c.args.morphism.now in
    let xs = tail_held s c.args.types.now c.in-Some.rest.now c.in-Some.first.now c.in-Some.ensures.cases.0 c.requires.held in
    let ys = tail_held s c.args.others.now c.in-Some-split_first.following.now c.in-Some-split_first.other.now c.in-Some-split_first.ensures.cases.0 c.requires.others_held in (
      omega (arith, ap length c.in-Some.ensures.cases.0),
      (
        map_held s s1 w mo c.requires.map_held,
        (
          known_on mo s s1 w c.requires.map_held c.map_tree.new.known c.in_ok-made.ensures.known,
          (all_held_later s s1 w c.in-Some.rest.now xs, all_held_later s s1 w c.in-Some-split_first.following.now ys),
        ),
      ),
    )

pub returns-then-same-clause-same : goal.returns-then-same-clause-same
returns-then-same-clause-same t c =
    let s = c.args.store.now in
    let s1 = c.map_tree.new.store in
    let w : Grows s s1 = c.map_tree.ensures.grows in
    let mo = c.args.morphism.now in
    let m = map_at s mo in
    let x = c.in-Some.first.now in
    let xs = c.in-Some.rest.now in
    let y = c.in-Some-split_first.other.now in
    let ys = c.in-Some-split_first.following.now in
    let hx = tail_held s c.args.types.now xs x c.in-Some.ensures.cases.0 c.requires.held in
    let hy = tail_held s c.args.others.now ys y c.in-Some-split_first.ensures.cases.0 c.requires.others_held in
    let all_y : All (Holds s) (y ∷ ys) = subst (All (Holds s)) c.in-Some-split_first.ensures.cases.0 c.requires.others_held in
    let head : mapped m (tree_at s x) ≡ tree_at s y = sym c.in_ok-made.ensures.mapped.is ∙ (c.same.ensures.trees.0 c.if-same.true ∙ tree_later s s1 w y (all_y 0 y (omega arith))) in
    let p : map (mapped (map_at s1 mo)) (trees_at s1 xs) ≡ map (mapped m) (trees_at s xs) = ap (λ (v : Map). map (mapped v) (trees_at s1 xs)) (map_stays s s1 w mo c.requires.map_held) ∙ ap (map (mapped m)) (trees_later s s1 w xs hx) in
    let q : trees_at s1 ys ≡ trees_at s ys = trees_later s s1 w ys hy in
    rw (c.in-Some.ensures.cases.0, c.in-Some-split_first.ensures.cases.0) (IfOk-weaker c.same_types.result _ _ (λ b h.
    let h1 : IsTrue b ↔ (map (mapped m) (trees_at s xs) ≡ trees_at s1 ys) = subst (λ (z : List Tree). IsTrue b ↔ (z ≡ trees_at s1 ys)) p h in
    let h2 : IsTrue b ↔ (map (mapped m) (trees_at s xs) ≡ trees_at s ys) = subst (λ (z : List Tree). IsTrue b ↔ (map (mapped m) (trees_at s xs) ≡ z)) q h1 in
    cons_tells b (mapped m (tree_at s x)) (tree_at s y) (map (mapped m) (trees_at s xs)) (trees_at s ys) head h2) c.same_types.ensures.same)

pub returns-then-same-clause-known : goal.returns-then-same-clause-known
returns-then-same-clause-known t c = on_ok_weaker c.same_types.result (λ h. known_back c.args.morphism.now c.args.store.now c.map_tree.new.store c.map_tree.ensures.grows c.requires.map_held c.same_types.new.store c.same_types.new.known h) c.same_types.ensures.known

pub map_tree-requires-clause-map_held : goal.map_tree-requires-clause-map_held
map_tree-requires-clause-map_held t c = c.requires.map_held

pub map_tree-requires-clause-known : goal.map_tree-requires-clause-known
map_tree-requires-clause-known t c = c.requires.known

pub returns-in_default-clause-known : goal.returns-in_default-clause-known
returns-in_default-clause-known t c = c.requires.known

pub returns-in_default-split_first-clause-known : goal.returns-in_default-split_first-clause-known
returns-in_default-split_first-clause-known t c = c.requires.known

pub same-requires-clause-a_held : goal.same-requires-clause-a_held
same-requires-clause-a_held t c = c.in_ok-made.ensures.mapped.held

pub returns-then-same-clause-grows : goal.returns-then-same-clause-grows
returns-then-same-clause-grows t c = Grows_trans c.args.store.now c.map_tree.new.store c.same_types.new.store c.map_tree.ensures.grows c.same_types.ensures.grows

pub returns-else-same-clause-known : goal.returns-else-same-clause-known
returns-else-same-clause-known t c = c.in_ok-made.ensures.known

pub returns-else-same-clause-grows : goal.returns-else-same-clause-grows
returns-else-same-clause-grows t c = c.map_tree.ensures.grows

pub returns-in_default-clause-grows : goal.returns-in_default-clause-grows
returns-in_default-clause-grows t c = Grows_refl c.args.store.now

pub returns-in_default-split_first-clause-grows : goal.returns-in_default-split_first-clause-grows
returns-in_default-split_first-clause-grows t c = Grows_refl c.args.store.now

pub returns-in_err-made-clause-same : goal.returns-in_err-made-clause-same
returns-in_err-made-clause-same t c = no_value _ _ c.from_residual.result c.from_residual.ensures.1

pub returns-in_err-made-clause-known : goal.returns-in_err-made-clause-known
returns-in_err-made-clause-known t c = no_ok _ _ c.from_residual.result c.from_residual.ensures.1

pub returns-in_err-made-clause-grows : goal.returns-in_err-made-clause-grows
returns-in_err-made-clause-grows t c = c.map_tree.ensures.grows
