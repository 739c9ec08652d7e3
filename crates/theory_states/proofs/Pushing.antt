-- One more declaration is known, and is visible in the open theory.
use Rattle.std.proofs.Common.{◌≡◌, ℕ, ◌<◌, ◌+◌, List, [], ◌∷◌, ◌++◌, map, length, Option, All, nat_eq, sym, ap, subst, ◌∙◌, arith}
use Rattle.std.proofs.lemmas.List.{map-append, length-map, length-append}
use Rattle.std.proofs.lemmas.List.Elements.{All-append, All-push}
use Rattle.indexmap.specs.IndexSet.{insert_key}
use Rattle.trees.specs.Tree.{Tree}
use Rattle.tasks.specs.declared.declaration.Decl.{Decl}
use Rattle.tasks.specs.Task.{DeclarationTree}
use Rattle.tasks.specs.Meaning.{symbols_at, declaration_at, declarations_at, DeclHeld}
use Rattle.theory_states.specs.goal_tasks.Meaning.{GoalHeld}
use Rattle.surface.specs.declared.declarations.Link.{Link}
use Rattle.elab_groups.specs.name_resolution.Naming.{type_tree_at, scope_at}
use Rattle.elab_groups.specs.name_resolution.Where.{NamesTree}
use Rattle.elab_groups.specs.parts.Entries.{IsSignature}
use Rattle.theory_states.specs.declared.states.KnownTheory.{KnownTheory}
use Rattle.theory_states.specs.declared.states.Opened.{Opened}
use Rattle.theory_states.specs.declared.states.Typed.{Typed}
use Rattle.theory_states.specs.Moves.{MoveTree, brought, handed}
use Rattle.theory_states.specs.States.{StateTree, with_declaration, joined_places}
use Rattle.theory_states.specs.Meaning.{move_at, known_at, opened_at, state_at, NamesHeld, MoveHeld, KnownTheoryHeld, StateHeld}
use Rattle.theory_states.specs.Uses.{theory_used}
use Rattle.theory_states.proofs.Moving.{brought_with, handed_with, brought_held, handed_held}
use Rattle.theory_states.proofs.Lists.{place_last, joined_below}

-- what follows from the places of the visible ones
module _ (t : Typed) (o : Opened) (d : Decl) (ks : List ℕ) (below : All (λ (k : ℕ). k < length t.decls) o.visible.keys) (is : ks ≡ insert_key nat_eq o.visible.keys (length t.decls)) where
  pub last : ks ≡ o.visible.keys ++ length t.decls ∷ []
  last = is ∙ place_last (length t.decls) o.visible.keys below

  pub decls_pushed : (s : List Tree) → declarations_at s (t.decls ++ d ∷ []) ≡ declarations_at s t.decls ++ declaration_at s d ∷ []
  decls_pushed s = map-append (declaration_at s) t.decls (d ∷ [])

  pub visible_pushed : (s : List Tree) → ks ≡ o.visible.keys ++ length (declarations_at s t.decls) ∷ []
  visible_pushed s = last ∙ ap (λ (n : ℕ). o.visible.keys ++ n ∷ []) (sym (length-map t.decls (declaration_at s)))

  longer : length (t.decls ++ d ∷ []) ≡ length t.decls + 1
  longer = length-append t.decls (d ∷ [])

  below_more : (xs : List ℕ) → All (λ (k : ℕ). k < length t.decls) xs → All (λ (k : ℕ). k < length (t.decls ++ d ∷ [])) xs
  below_more xs a = λ i x h. omega (arith, a i x h, longer)

  pub held_pushed : (s : List Tree) → DeclHeld s d → StateHeld s t o → (t' : Typed) (o' : Opened) → t' ≡ record t { decls = t.decls ++ d ∷ [] } → o' ≡ record o { visible = o'.visible } → o'.visible.keys ≡ ks → StateHeld s t' o'
  held_pushed s h a t' o' p q r =
      let count : length t'.decls ≡ length t.decls + 1 = ap (λ (x : Typed). length x.decls) p ∙ longer in
      let decls' : t'.decls ≡ t.decls ++ d ∷ [] = ap (λ (x : Typed). x.decls) p in
      record {
        typed = record {
          signature = subst (λ (x : Typed). IsSignature s x.sig.symbols) (sym p) a.typed.signature;
          decls = subst (All (DeclHeld s)) (sym decls') (All-push (DeclHeld s) t.decls d a.typed.decls h);
          known = subst (λ (x : Typed). All (KnownTheoryHeld s (length x.decls)) x.known) (sym p) (λ i x l. let one = a.typed.known i x l in record { visible = below_more _ one.visible; goals = one.goals; moves = one.moves });
        };
        opened = record {
          visible = subst (λ (xs : List ℕ). All (λ (k : ℕ). k < length t'.decls) xs) (sym (r ∙ last)) (subst (λ (n : ℕ). All (λ (k : ℕ). k < n) (o.visible.keys ++ length t.decls ∷ [])) (sym count) (All-push (λ (k : ℕ). k < length t.decls + 1) o.visible.keys (length t.decls) (λ i x l. omega (arith, below i x l)) (omega arith)));
          goals = subst (λ (x : Opened). All (GoalHeld s) x.goals) (sym q) a.opened.goals;
          scope = subst (λ (x : Opened). NamesHeld s x.scope) (sym q) a.opened.scope;
          moves = subst (λ (x : Opened). All (MoveHeld s) x.moves.items) (sym q) a.opened.moves;
        };
      }

  pub state_pushed : (s : List Tree) (t' : Typed) (o' : Opened) → t' ≡ record t { decls = t.decls ++ d ∷ [] } → o' ≡ record o { visible = o'.visible } → o'.visible.keys ≡ ks → state_at s t' o' ≡ with_declaration (declaration_at s d) (state_at s t o)
  state_pushed s t' o' p q r =
      let mk : List DeclarationTree → List ℕ → StateTree = λ ds vs. record { symbols = symbols_at s t.sig.symbols; decls = ds; known = map (known_at s) t.known; opened = record (opened_at s o) { visible = vs }; number = o.count } in
      ap (λ (x : Typed). state_at s x o') p
      ∙ ap (λ (x : Opened). state_at s (record t { decls = t.decls ++ d ∷ [] }) x) q
      ∙ ap (λ (ds : List DeclarationTree). mk ds o'.visible.keys) (decls_pushed s)
      ∙ ap (mk (declarations_at s t.decls ++ declaration_at s d ∷ [])) (r ∙ visible_pushed s)

-- ---- a theory before is used: its places are joined, and its names brought in
module _ (s : List Tree) (t : Typed) (o o1 o2 : Opened) (k : KnownTheory) (link : Link) (last : List ℕ) (alias : Option (List ℕ))
    (joined : o1 ≡ record o { visible = o1.visible }) (keys : o1.visible.keys ≡ joined_places o.visible.keys k.theory.visible)
    (scope : o2.scope ≡ brought link last alias k.moves o1.scope) (moves : o2.moves.items ≡ o1.moves.items ++ handed link k.moves) (others : o2 ≡ record o1 { scope = o2.scope; moves = o2.moves }) where
  all : o2 ≡ record o { visible = o1.visible; scope = o2.scope; moves = o2.moves }
  all = others ∙ ap (λ (x : Opened). record x { scope = o2.scope; moves = o2.moves }) joined

  scope_is : o2.scope ≡ brought link last alias k.moves o.scope
  scope_is = scope ∙ ap (λ (x : Opened). brought link last alias k.moves x.scope) joined

  moves_are : o2.moves.items ≡ o.moves.items ++ handed link k.moves
  moves_are = moves ∙ ap (λ (x : Opened). x.moves.items ++ handed link k.moves) joined

  pub state_used : state_at s t o2 ≡ record (state_at s t o) { opened = theory_used link last alias (known_at s k) (opened_at s o) }
  state_used =
      let mk : NamesTree → List ℕ → List MoveTree → StateTree = λ ns vs ms. record (state_at s t o) { opened = record (opened_at s o) { scope = ns; visible = vs; moves = ms } } in
      let names : scope_at s o2.scope ≡ brought link last alias (map (move_at s) k.moves) (scope_at s o.scope) = ap (scope_at s) scope_is ∙ brought_with (type_tree_at s) link last alias k.moves o.scope in
      let passed : map (move_at s) o2.moves.items ≡ map (move_at s) o.moves.items ++ handed link (map (move_at s) k.moves) =
      ap (map (move_at s)) moves_are ∙ map-append (move_at s) o.moves.items (handed link k.moves) ∙ ap (λ (ms : List MoveTree). map (move_at s) o.moves.items ++ ms) (handed_with (type_tree_at s) link k.moves) in
      ap (state_at s t) all
      ∙ ap (λ (ns : NamesTree). mk ns o1.visible.keys (map (move_at s) o2.moves.items)) names
      ∙ ap (λ (vs : List ℕ). mk (brought link last alias (map (move_at s) k.moves) (scope_at s o.scope)) vs (map (move_at s) o2.moves.items)) keys
      ∙ ap (mk (brought link last alias (map (move_at s) k.moves) (scope_at s o.scope)) (joined_places o.visible.keys k.theory.visible)) passed

  pub held_used : KnownTheoryHeld s (length t.decls) k → StateHeld s t o → StateHeld s t o2
  held_used one h = record {
    typed = h.typed;
    opened = record {
      visible = subst (All (λ (p : ℕ). p < length t.decls)) (sym (ap (λ (x : Opened). x.visible.keys) all ∙ keys)) (joined_below (length t.decls) o.visible.keys k.theory.visible h.opened.visible one.visible);
      goals = subst (All (GoalHeld s)) (sym (ap (λ (x : Opened). x.goals) all)) h.opened.goals;
      scope = subst (NamesHeld s) (sym scope_is) (brought_held s link last alias k.moves o.scope one.moves h.opened.scope);
      moves = subst (All (MoveHeld s)) (sym moves_are) (All-append (MoveHeld s) o.moves.items (handed link k.moves) h.opened.moves (handed_held s link k.moves one.moves));
    };
  }
