-- States with one more axiom or goal; what is copied by stays as the store grows.
use Rattle.std.proofs.Common.{◌≡◌, ℕ, List, [], ◌∷◌, ◌++◌, map, length, All, sym, ap, subst, ◌∙◌}
use Rattle.std.proofs.lemmas.List.{map-append}
use Rattle.std.proofs.lemmas.List.Elements.{All-push}
use Rattle.std.proofs.Math.ListN.{length-map}
use Rattle.tasks.specs.trees.Tree.{Tree}
use Rattle.tasks.specs.trees.Node.{Grows}
use Rattle.tasks.specs.Task.{SymbolTree, DeclarationTree, Says}
use Rattle.tasks.specs.Rigid.{rigid_symbol}
use Rattle.tasks.specs.declared.signature.Signature.{Signature}
use Rattle.tasks.specs.Meaning.{symbol_at, symbols_at, declaration_at, declarations_at}
use Rattle.elab_groups.specs.parts.Entries.{IsExtended}
use Rattle.elab_groups.proofs.parts.Entering.{entries_stay, signature_grows}
use Rattle.theory_states.specs.declared.goal_tasks.theories.GoalAt.{GoalAt}
use Rattle.theory_states.specs.goal_tasks.Theories.{GoalTree}
use Rattle.theory_states.specs.goal_tasks.Meaning.{goal_at, GoalHeld}
use Rattle.theory_states.specs.declared.states.AxiomAt.{AxiomAt}
use Rattle.theory_states.specs.declared.states.Opened.{Opened}
use Rattle.theory_states.specs.declared.states.Typed.{Typed}
use Rattle.theory_states.specs.States.{StateTree, with_declaration}
use Rattle.theory_states.specs.Meaning.{state_at, StateHeld}
use Rattle.theory_states.proofs.Growing.{goals_stay, state_stays, state_grows}
use Rattle.clones.specs.Mapped.{Map}
use Rattle.clones.specs.Meaning.{MapHeld}
use Rattle.clones.proofs.Steps.{map_stays}
use Rattle.clones.specs.declared.clone_copies.places.CopiedBy.{CopiedBy}
use Rattle.clones.specs.clone_copies.Places.{Copying, axiom_at, with_copied_axiom, goal_of, goal_with, next_numbers}
use Rattle.clones.specs.clone_copies.Meaning.{copying_at}

pub copying_stays : (s t : List Tree) → Grows s t → (j : CopiedBy) → MapHeld s j.morphism.now → copying_at t j ≡ copying_at s j
copying_stays s t w j h = ap (λ (m : Map). let it : Copying = record { path = j.path.now; axioms = (copying_at s j).axioms; effects = (copying_at s j).effects; all = j.replacement.now.all_axioms; mapping = m; within = j.within.now } in it) (map_stays s t w j.morphism.now h)

-- ---- one more axiom
pub axiom_pushed : (s : List Tree) (x y : Typed) (o p : Opened) (d : DeclarationTree) (as_ : List AxiomAt) (vars : List (List ℕ))
    → state_at s y p ≡ with_declaration d (state_at s x o) → as_ ≡ o.axioms ++ axiom_at (length x.decls) vars ∷ []
    → state_at s y (record p { axioms = as_ }) ≡ with_copied_axiom vars d (state_at s x o)
axiom_pushed s x y o p d as_ vars e q =
    let put : List AxiomAt → StateTree → StateTree = λ it c. record c { opened = record c.opened { axioms = it } } in
    let n : length x.decls ≡ length (declarations_at s x.decls) = sym (length-map x.decls (declaration_at s)) in
    ap (put as_) e ∙ ap (λ (it : List AxiomAt). put it (with_declaration d (state_at s x o))) (q ∙ ap (λ (k : ℕ). o.axioms ++ axiom_at k vars ∷ []) n)

pub axiom_held : (s : List Tree) (y : Typed) (p : Opened) (as_ : List AxiomAt) → StateHeld s y p → StateHeld s y (record p { axioms = as_ })
axiom_held s y p as_ h = record { typed = h.typed; opened = record { visible = h.opened.visible; goals = h.opened.goals; scope = h.opened.scope; moves = h.opened.moves } }

-- ---- one more goal, over a later store
module _ (s t : List Tree) (w : Grows s t) (x : Typed) (o : Opened) (h : StateHeld s x o) (g : Signature) (vars : List (List ℕ)) (ext : IsExtended s x.sig s g (map rigid_symbol vars)) (gs : List GoalAt) (goal : GoalAt) (q : gs ≡ o.goals ++ goal ∷ []) where
  pub goal_pushed : (name : List ℕ) (e : Tree) → goal_at t goal ≡ goal_of name (length o.visible.keys) e (next_numbers (length x.sig.symbols) vars) → state_at t (record x { sig = g }) (record o { goals = gs }) ≡ goal_with vars name (Says e) (state_at s x o)
  goal_pushed name e is =
      let put : List SymbolTree → List GoalTree → StateTree → StateTree = λ a d c. record c { symbols = a; opened = record c.opened { goals = d } } in
      let more : List SymbolTree = symbols_at s x.sig.symbols ++ map rigid_symbol vars in
      let a : symbols_at t g.symbols ≡ more = entries_stay s t w g.symbols ext.signature ∙ ext.symbols in
      let n : length x.sig.symbols ≡ length (symbols_at s x.sig.symbols) = sym (length-map x.sig.symbols (symbol_at s)) in
      let d : map (goal_at t) gs ≡ map (goal_at s) o.goals ++ goal_of name (length o.visible.keys) e (next_numbers (length (symbols_at s x.sig.symbols)) vars) ∷ [] =
      ap (map (goal_at t)) q ∙ map-append (goal_at t) o.goals (goal ∷ []) ∙ ap (λ (z : List GoalTree). z ++ goal_at t goal ∷ []) (goals_stay s t w o.goals h.opened.goals)
      ∙ ap (λ (z : GoalTree). map (goal_at s) o.goals ++ z ∷ []) (is ∙ ap (λ (k : ℕ). goal_of name (length o.visible.keys) e (next_numbers k vars)) n) in
      ap (put (symbols_at t g.symbols) (map (goal_at t) gs)) (state_stays s t w x o h)
      ∙ ap (λ (z : List SymbolTree). put z (map (goal_at t) gs) (state_at s x o)) a
      ∙ ap (λ (z : List GoalTree). put more z (state_at s x o)) d

  pub goal_held : GoalHeld t goal → StateHeld t (record x { sig = g }) (record o { goals = gs })
  goal_held k =
      let grown = state_grows s t w x o h in
      record {
        typed = record { signature = signature_grows s t w g.symbols ext.signature; decls = grown.typed.decls; known = grown.typed.known };
        opened = record { visible = grown.opened.visible; goals = subst (All (GoalHeld t)) (sym q) (All-push (GoalHeld t) o.goals goal grown.opened.goals k); scope = grown.opened.scope; moves = grown.opened.moves };
      }
