-- What a theory is copied by, in code, and what is known once its contents are copied.
use Rattle.std.proofs.Common.{◌≡◌, ◌++◌, ℕ, ◌<◌, nat_eq, List, map, length, get_or, All, sym, ap, subst, ◌∙◌}
use Rattle.indexmap.specs.IndexMap.{get}
use Rattle.tasks.specs.trees.Tree.{Tree}
use Rattle.tasks.specs.trees.Node.{Grows}
use Rattle.tasks.specs.declared.signature.Signature.{Signature}
use Rattle.tasks.specs.Task.{SymbolTree}
use Rattle.tasks.specs.Meaning.{symbols_at, declarations_at}
use Rattle.theory_states.specs.declared.moves.Move.{Move}
use Rattle.surface.specs.Lexeme.{Word}
use Rattle.clones.specs.Mapped.{Map}
use Rattle.clones.specs.Meaning.{map_at}
use Rattle.clones.proofs.Steps.{map_stays}
use Rattle.elab_groups.specs.parts.Entries.{IsExtended}
use Rattle.theory_states.specs.declared.states.KnownTheory.{KnownTheory}
use Rattle.theory_states.specs.declared.states.Opened.{Opened}
use Rattle.theory_states.specs.declared.states.Typed.{Typed}
use Rattle.theory_states.specs.States.{KnownTree, StateTree}
use Rattle.theory_states.specs.Meaning.{move_at, known_at, state_at, MoveHeld, StateHeld}
use Rattle.theory_states.proofs.Moving.{moves_stay}
use Rattle.clones.specs.declared.clone_elements.elements.Replacement.{Replacement}
use Rattle.clones.specs.declared.clone_elements.left.ClonedTheory.{ClonedTheory}
use Rattle.clones.specs.clone_elements.Left.{Origin}
use Rattle.clones.specs.clone_elements.Origins.{origin_at}
use Rattle.clones.specs.clone_elements.Meaning.{effects_at}
use Rattle.clones.specs.clone_copies.Origins.{Axioms, origin_of}
use Rattle.clones.specs.clone_copies.Entries.{entries_copied}
use Rattle.clones.specs.clone_copies.Places.{Copying, with_places}
use Rattle.clones.specs.clone_copies.Moves.{moves_mapped}
use Rattle.theories.specs.declared.cloning.copying.Renaming.{Renaming}
use Rattle.theories.specs.declared.cloning.own.Own.{Own}
use Rattle.theories.specs.cloning.Owned.{known_theory_at}
use Rattle.theories.specs.cloning.ReadElements.{kept_by, map_by, copying_by}
use Rattle.theories.specs.cloning.Copied.{IsRenaming, IsRenamingBy, IsKeptEntry, entries_made, with_made, IsCopyReady, AreContents}
use Rattle.theories.proofs.cloning.Stages.{theory_is, origin_is, state_tupled, held_tupled}

-- the map that is made with what elements are read by
pub renaming_by : (s : List Tree) (t : Typed) (o : Opened) (k : ℕ) (own : Own) (replacement : Replacement) (within : Word) → IsCopyReady s t o k own replacement within
    → (source : ClonedTheory) → source.decls.now ≡ t.decls → source.own.now ≡ own.places.items → source.axioms.now ≡ own.axioms
    → (made : Renaming) → IsRenaming s (map_by s (symbols_at s t.sig.symbols) (origin_at s source) replacement) (kept_by (origin_at s source) replacement) made → IsRenamingBy s t k replacement made
renaming_by s t o k own replacement within r source decls_are own_is axioms_are made m =
    let ds = declarations_at s t.decls in
    let origin : origin_at s source ≡ origin_of ds (known_theory_at s t k) = origin_is s (known_theory_at s t k) own source ds (ap (declarations_at s) decls_are) own_is axioms_are r.own in
    subst (λ (z : Origin). IsRenaming s (map_by s (symbols_at s t.sig.symbols) z replacement) (kept_by z replacement) made) origin m

module _ (s : List Tree) (t : Typed) (o : Opened) (k : ℕ) (own : Own) (replacement : Replacement) (within : Word) (r : IsCopyReady s t o k own replacement within)
    (made : Renaming) (m : IsRenamingBy s t k replacement made)
    (known : KnownTheory) (is : known ≡ get_or t.known k known) where
  abbrev c : StateTree
  c = state_at s t o

  abbrev theory : KnownTree
  theory = known_theory_at s t k

  abbrev x : Copying
  x = copying_by s c theory replacement within

  here : theory ≡ known_at s known
  here = theory_is s t k known r.there is

  map_is : map_at s made.morphism ≡ x.mapping
  map_is = m.is

  symbols_are : made.symbols.items ≡ kept_by (origin_of c.decls theory) replacement
  symbols_are = m.symbols

  pub moves_are_held : All (MoveHeld s) known.moves
  moves_are_held = subst (λ (z : KnownTheory). All (MoveHeld s) z.moves) (sym is) (r.held.typed.known k known r.there).moves

  pub visible_below : All (λ (p : ℕ). p < length t.decls) own.visible
  visible_below =
      let there : All (λ (p : ℕ). p < length t.decls) known.theory.visible = subst (λ (z : KnownTheory). All (λ (p : ℕ). p < length t.decls) z.theory.visible) (sym is) (r.held.typed.known k known r.there).visible in
      subst (All (λ (p : ℕ). p < length t.decls)) (sym (r.own.visible ∙ ap (λ (z : KnownTree). z.visible) here)) there

  module _ (path : Word) (path_is : path ≡ o.path) where
    abbrev copies : List SymbolTree
    copies = entries_copied c.symbols (map_at s made.morphism) path within made.symbols.items

    copies_are : copies ≡ entries_made theory x c
    copies_are = ap (λ (f : Map). entries_copied c.symbols f path within made.symbols.items) map_is
        ∙ (ap (λ (y : Word). entries_copied c.symbols x.mapping y within made.symbols.items) path_is ∙ ap (entries_copied c.symbols x.mapping o.path within) symbols_are)

    pub copies_kept : All IsKeptEntry copies
    copies_kept = subst (All IsKeptEntry) (sym copies_are) r.kept

    -- ---- with their entries, over a later store
    module _ (s1 : List Tree) (w : Grows s s1) (g : Signature) (ext : IsExtended s t.sig s1 g copies) where
      abbrev t1 : Typed
      t1 = record t { sig = g }

      pub held_made : StateHeld s1 t1 o
      held_made = held_tupled s s1 w t o r.held g copies ext

      state_made : state_at s1 t1 o ≡ with_made theory x c
      state_made = state_tupled s s1 w t o r.held g copies ext ∙ ap (λ (es : List SymbolTree). let it : StateTree = record c { symbols = c.symbols ++ es } in it) copies_are

      -- what the copies are given stands for
      abbrev given : Word → Copying
      given place = record { path = place; axioms = get nat_eq own.axioms; effects = effects_at replacement.effects; all = replacement.all_axioms; mapping = map_at s1 made.morphism; within = within }

      module _ (place : Word) (place_is : place ≡ own.path) where
        copying_is : given place ≡ x
        copying_is =
            let mk : Word → Axioms → Map → Copying = λ a b f. record { path = a; axioms = b; effects = effects_at replacement.effects; all = replacement.all_axioms; mapping = f; within = within } in
            let place_there : place ≡ theory.path = place_is ∙ r.own.path in
            let map_there : map_at s1 made.morphism ≡ x.mapping = map_stays s s1 w made.morphism m.held ∙ map_is in
            λ i. mk (place_there i) (r.own.axioms i) (map_there i)

        module _ (places : List ℕ) (places_are : places ≡ own.visible) (s2 : List Tree) (w2 : Grows s1 s2) (t2 : Typed) (o2 : Opened) (state : state_at s2 t2 o2 ≡ with_places (given place) places (state_at s1 t1 o))
            (old new : List (Move ℕ)) (old_are : old ≡ known.moves) (held : All (MoveHeld s1) new) (mapped : map (move_at s1) new ≡ moves_mapped c.symbols (map_at s made.morphism) (map (move_at s) old)) where
          pub contents : AreContents theory x (map (move_at s2) new) c (state_at s2 t2 o2)
          contents =
              let moves : map (move_at s) old ≡ theory.moves = ap (map (move_at s)) old_are ∙ sym (ap (λ (z : KnownTree). z.moves) here) in
              let visible : places ≡ theory.visible = places_are ∙ r.own.visible in
              record { mapped = moves_stay s1 s2 w2 new held ∙ (mapped ∙ (λ i. moves_mapped c.symbols (map_is i) (moves i))); is = state ∙ (λ i. with_places (copying_is i) (visible i) (state_made i)) }
