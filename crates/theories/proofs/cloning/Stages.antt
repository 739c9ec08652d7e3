-- What is known from one part of a clone to the next: with the entries of tuples, and once the theory is copied.
use Rattle.std.proofs.Common.{◌≡◌, ℕ, ◌<◌, nat_eq, List, ◌++◌, map, length, get_or, All, Option, sym, ap, subst, ◌∙◌}
use Rattle.std.specs.Option.{is_some}
use Rattle.std.proofs.lemmas.List.{get_or-map, map-append}
use Rattle.std.proofs.lemmas.List.Elements.{All-append}
use Rattle.indexmap.specs.IndexMap.{get}
use Rattle.tasks.specs.trees.Tree.{Tree}
use Rattle.tasks.specs.trees.Node.{Grows}
use Rattle.tasks.specs.declared.signature.Signature.{Signature}
use Rattle.tasks.specs.Task.{SymbolTree, DeclarationTree}
use Rattle.tasks.specs.Meaning.{symbols_at, declarations_at}
use Rattle.elab_groups.specs.name_resolution.Naming.{type_tree_at, scope_at}
use Rattle.elab_groups.specs.name_resolution.Where.{NamesTree}
use Rattle.theory_states.specs.declared.moves.Move.{Move}
use Rattle.theory_states.specs.Moves.{MoveTree, brought, handed}
use Rattle.surface.specs.Lexeme.{Word}
use Rattle.surface.specs.declared.declarations.Link.{Link}
use Rattle.surface.specs.Declarations.{Element}
use Rattle.elab_groups.specs.parts.Entries.{IsExtended}
use Rattle.theory_states.specs.declared.states.KnownTheory.{KnownTheory}
use Rattle.theory_states.specs.declared.states.Opened.{Opened}
use Rattle.theory_states.specs.declared.states.Typed.{Typed}
use Rattle.theory_states.specs.States.{KnownTree, StateTree}
use Rattle.theory_states.specs.Meaning.{move_at, known_at, opened_at, state_at, NamesHeld, MoveHeld, OpenedHeld, StateHeld}
use Rattle.theory_states.proofs.Growing.{state_stays, state_grows, all_known_stay}
use Rattle.theory_states.proofs.Moving.{brought_with, handed_with, brought_held, handed_held}
use Rattle.clones.specs.declared.clone_elements.elements.Replacement.{Replacement}
use Rattle.clones.specs.declared.clone_elements.left.ClonedTheory.{ClonedTheory}
use Rattle.clones.specs.clone_elements.Left.{Origin}
use Rattle.clones.specs.clone_elements.Replacements.{kept, map_of}
use Rattle.clones.specs.clone_elements.Origins.{origin_at}
use Rattle.clones.specs.clone_elements.Meaning.{IsReplacement}
use Rattle.clones.specs.clone_copies.Origins.{Axioms, axioms_at, origin_of}
use Rattle.clones.specs.clone_copies.Places.{Copying}
use Rattle.theories.specs.declared.cloning.own.Own.{Own}
use Rattle.theories.specs.cloning.Cloned.{symbols_tupled, sides_in, copying_in, with_names}
use Rattle.theories.specs.cloning.Owned.{IsOwnOf, no_theory, known_theory_at}
use Rattle.theories.specs.cloning.ReadElements.{copying_by}
use Rattle.theories.specs.cloning.Copied.{AreContents, with_theory}

-- ---- the theory at a place
pub theory_is : (s : List Tree) (t : Typed) (k : ℕ) (x : KnownTheory) → k < length t.known → x ≡ get_or t.known k x → known_theory_at s t k ≡ known_at s x
theory_is s t k x l q = get_or-map (known_at s) t.known k x no_theory l ∙ ap (known_at s) (sym q)

pub origin_is : (s : List Tree) (t : KnownTree) (own : Own) (x : ClonedTheory) (ds : List DeclarationTree) → declarations_at s x.decls.now ≡ ds → x.own.now ≡ own.places.items → x.axioms.now ≡ own.axioms → IsOwnOf ds t own → origin_at s x ≡ origin_of ds t
origin_is s t own x ds d p a h =
    let mk : List DeclarationTree → List ℕ → Axioms → Origin = λ e ks f. record { decls = e; own = ks; axioms = λ k. is_some (f k) } in
    let f : get nat_eq x.axioms.now ≡ axioms_at t.axioms = ap (get nat_eq) a ∙ h.axioms in
    λ i. mk (d i) ((p ∙ h.places) i) (f i)

-- ---- with the entries of tuples, over a later store
module _ (s s1 : List Tree) (w : Grows s s1) (t : Typed) (o : Opened) (h : StateHeld s t o) (g : Signature) (more : List SymbolTree) (ext : IsExtended s t.sig s1 g more) where
  pub state_tupled : state_at s1 (record t { sig = g }) o ≡ record (state_at s t o) { symbols = symbols_at s t.sig.symbols ++ more }
  state_tupled =
      let put : List SymbolTree → StateTree → StateTree = λ es c. record c { symbols = es } in
      ap (put (symbols_at s1 g.symbols)) (state_stays s s1 w t o h) ∙ ap (λ (es : List SymbolTree). put es (state_at s t o)) ext.symbols

  pub held_tupled : StateHeld s1 (record t { sig = g }) o
  held_tupled =
      let grown = state_grows s s1 w t o h in
      record { typed = record { signature = ext.signature; decls = grown.typed.decls; known = grown.typed.known }; opened = grown.opened }

  pub theory_tupled : (k : ℕ) → known_theory_at s1 (record t { sig = g }) k ≡ known_theory_at s t k
  theory_tupled k = ap (λ (ks : List KnownTree). get_or ks k no_theory) (all_known_stay s s1 w (length t.decls) t.known h.typed.known)

-- ---- a replacement
pub copying_is_by : (s : List Tree) (c : StateTree) (t : KnownTree) (es : List Element) (p : Replacement) (within : Word) → IsReplacement s (symbols_tupled c es) (origin_of c.decls t) (sides_in c t es) p → copying_by s (record c { symbols = symbols_tupled c es }) t p within ≡ copying_in c t es within
copying_is_by s c t es p within h =
    let o = origin_of c.decls t in
    λ i. record {
      path = t.path;
      axioms = axioms_at t.axioms;
      effects = h.effects i;
      all = h.all i;
      mapping = map_of (h.types i) (h.symbols i) (length (symbols_tupled c es)) (kept o (h.effects i));
      within = within;
    }

-- ---- names that come into scopes
module _ (s : List Tree) (t : Typed) (o o' : Opened) (l : Link) (last : Word) (alias : Option Word) (ms : List (Move ℕ)) (others : o' ≡ record o { scope = o'.scope; moves = o'.moves })
    (scope : o'.scope ≡ brought l last alias ms o.scope) (moves : o'.moves.items ≡ o.moves.items ++ handed l ms) where
  pub named_state : state_at s t o' ≡ with_names l last alias (map (move_at s) ms) (state_at s t o)
  named_state =
      let mk : NamesTree → List MoveTree → StateTree = λ ns xs. record (state_at s t o) { opened = record (opened_at s o) { scope = ns; moves = xs } } in
      let names : scope_at s o'.scope ≡ brought l last alias (map (move_at s) ms) (scope_at s o.scope) = ap (scope_at s) scope ∙ brought_with (type_tree_at s) l last alias ms o.scope in
      let passed : map (move_at s) o'.moves.items ≡ map (move_at s) o.moves.items ++ handed l (map (move_at s) ms) =
      ap (map (move_at s)) moves ∙ (map-append (move_at s) o.moves.items (handed l ms) ∙ ap (λ (xs : List MoveTree). map (move_at s) o.moves.items ++ xs) (handed_with (type_tree_at s) l ms)) in
      ap (state_at s t) others ∙ (λ i. mk (names i) (passed i))

  pub named_held : All (MoveHeld s) ms → StateHeld s t o → StateHeld s t o'
  named_held held h = record {
    typed = h.typed;
    opened = subst (OpenedHeld s (length t.decls)) (sym others) (record {
      visible = h.opened.visible;
      goals = h.opened.goals;
      scope = subst (NamesHeld s) (sym scope) (brought_held s l last alias ms o.scope held h.opened.scope);
      moves = subst (All (MoveHeld s)) (sym moves) (All-append (MoveHeld s) o.moves.items (handed l ms) h.opened.moves (handed_held s l ms held));
    });
  }

pub copied_by : (l : Link) (last : Word) (alias : Option Word) (t : KnownTree) (x : Copying) (ms : List MoveTree) (c c1 c' : StateTree) → AreContents t x ms c c1 → c' ≡ with_names l last alias ms c1 → c' ≡ with_theory l last alias t x c
copied_by l last alias t x ms c c1 c' h q = q ∙ (λ i. with_names l last alias (h.mapped i) (h.is i))
