-- A goal, an axiom or declarations more.
use Rattle.std.proofs.Common.{◌≡◌, ◌<◌, List, [], ◌∷◌, ◌++◌, map, length, slice_get, remove, Some, refl, sym, ap, subst, ◌∙◌, append-nil, arith}
use Rattle.std.proofs.lemmas.List.{map-append}
use Rattle.std.proofs.lemmas.List.Elements.{All-push}
use Rattle.tasks.specs.trees.Tree.{Tree}
use Rattle.tasks.specs.trees.Node.{Grows}
use Rattle.elaboration_laws.specs.theory_states.declared.goal_tasks.theories.GoalAt.{GoalAt}
use Rattle.elaboration_laws.specs.theory_states.goal_tasks.Theories.{GoalTree}
use Rattle.elaboration_laws.specs.theory_states.goal_tasks.Meaning.{goal_at, GoalHeld}
use Rattle.theory_states.specs.declared.states.Opened.{Opened}
use Rattle.theory_states.specs.declared.states.Typed.{Typed}
use Rattle.theory_states.specs.States.{StateTree}
use Rattle.theory_states.specs.Meaning.{state_at, StateHeld}
use Rattle.theory_states.proofs.Growing.{state_grows, state_stays}

-- a list's first item is taken out
pub first_of : {X : Type 0} (xs ys : List X) (x : X) → slice_get xs 0 ≡ Some x → ys ≡ remove xs 0 → xs ≡ x ∷ ys
first_of [] ys x h r = absurd (cc)
first_of (y ∷ xs) ys x h r =
    let e : ys ≡ xs = r in
    let f : Some y ≡ Some x = h in
    cc

-- one that isn't empty has an item
pub some_left : {X : Type 0} (xs : List X) → (xs ≡ [] → ⊥) → 0 < length xs
some_left [] f = absurd (f refl)
some_left (x ∷ xs) f = omega arith

abbrev pub with_goals : List GoalTree → StateTree → StateTree
with_goals gs c = record c { opened = record c.opened { goals = c.opened.goals ++ gs } }

-- none
pub no_goals : (c : StateTree) → c ≡ with_goals [] c
no_goals c = ap (λ (gs : List GoalTree). let it : StateTree = record c { opened = record c.opened { goals = gs } } in it) (sym (append-nil c.opened.goals))

-- one, over a store that has grown
pub goal_pushed : (s s' : List Tree) (g : Grows s s') (t : Typed) (o o' : Opened) (it : GoalAt) (x : GoalTree) → StateHeld s t o → o' ≡ record o { goals = o.goals ++ it ∷ [] } → goal_at s' it ≡ x → state_at s' t o' ≡ with_goals (x ∷ []) (state_at s t o)
goal_pushed s s' g t o o' it x held q e =
    let mk : List GoalTree → StateTree = λ gs. let c = state_at s' t o in record c { opened = record c.opened { goals = gs } } in
    let all : map (goal_at s') (o.goals ++ it ∷ []) ≡ map (goal_at s') o.goals ++ x ∷ [] = map-append (goal_at s') o.goals (it ∷ []) ∙ ap (λ (y : GoalTree). map (goal_at s') o.goals ++ y ∷ []) e in
    ap (state_at s' t) q ∙ (ap mk all ∙ ap (with_goals (x ∷ [])) (state_stays s s' g t o held))

pub goal_held : (s s' : List Tree) (g : Grows s s') (t : Typed) (o o' : Opened) (it : GoalAt) → StateHeld s t o → o' ≡ record o { goals = o.goals ++ it ∷ [] } → GoalHeld s' it → StateHeld s' t o'
goal_held s s' g t o o' it held q e =
    let h = state_grows s s' g t o held in
    let more : StateHeld s' t (record o { goals = o.goals ++ it ∷ [] }) = record { typed = h.typed; opened = record { visible = h.opened.visible; goals = All-push (GoalHeld s') o.goals it h.opened.goals e; scope = h.opened.scope; moves = h.opened.moves } } in
    subst (λ (x : Opened). StateHeld s' t x) (sym q) more
