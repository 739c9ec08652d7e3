-- What is known once the elements of a clone are read, and then the clone.
use Rattle.std.proofs.Common.{◌≡◌, ℕ, ◌<◌, List, length, All, Option, Some, None, refl, sym, ap, subst, ◌∙◌}
use Rattle.tasks.specs.trees.Tree.{Tree}
use Rattle.tasks.specs.trees.Node.{Grows}
use Rattle.tasks.specs.declared.signature.Signature.{Signature}
use Rattle.tasks.specs.Task.{DeclarationTree}
use Rattle.tasks.specs.Meaning.{symbols_at, declarations_at}
use Rattle.tasks.specs.Vocabulary.{Vocabulary, of_signature}
use Rattle.tasks.proofs.Growth.{declarations_later}
use Rattle.surface.specs.Lexeme.{Word}
use Rattle.surface.specs.declared.names.Name.{Name}
use Rattle.surface.specs.declared.names.Path.{Path}
use Rattle.surface.specs.declared.declarations.Link.{Link}
use Rattle.surface.specs.Declarations.{Element}
use Rattle.elab_groups.specs.name_resolution.Naming.{scope_at}
use Rattle.elab_groups.specs.parts.Entries.{IsExtended}
use Rattle.elaboration_laws.specs.Valid.{IsTypedSetting}
use Rattle.theory_states.specs.declared.states.Opened.{Opened}
use Rattle.theory_states.specs.declared.states.Typed.{Typed}
use Rattle.theory_states.specs.States.{KnownTree, StateTree, known_named}
use Rattle.theory_states.specs.Meaning.{state_at, StateHeld}
use Rattle.theory_states.specs.Uses.{path_text, last_part, alias_text}
use Rattle.elaboration_laws.specs.TypedStates.{state_setting, IsTypedState}
use Rattle.clones.specs.declared.clone_elements.elements.Replacement.{Replacement}
use Rattle.clones.specs.clone_elements.Left.{Origin}
use Rattle.clones.specs.clone_elements.Rights.{all_variables_fault, rights_tuples}
use Rattle.clones.specs.clone_copies.Origins.{origin_of}
use Rattle.clones.specs.clone_copies.Places.{Copying}
use Rattle.elaboration_laws.specs.Placed.{ArePlaced}
use Rattle.elaboration_laws.specs.Sides.{copies_made, with_copies as with_all_copies}
use Rattle.elaboration_laws.proofs.Copies.{all_copies_typed}
use Rattle.theories.specs.declared.cloning.own.Own.{Own}
use Rattle.theories.specs.cloning.Cloned.{symbols_tupled, within_of, copying_in, IsCloned}
use Rattle.theories.specs.cloning.Owned.{IsOwnOf, known_theory_at}
use Rattle.theories.specs.cloning.ReadElements.{AreElementsRead, copying_by}
use Rattle.theories.specs.cloning.Copied.{IsKeptEntry, entries_made, IsCopyReady, with_theory}
use Rattle.theories.proofs.cloning.Fitting.{typed_kept}
use Rattle.theories.proofs.cloning.Told.{along}
use Rattle.theories.proofs.cloning.Stages.{state_tupled, held_tupled, theory_tupled, copying_is_by}

module _ (s s1 : List Tree) (w : Grows s s1) (t : Typed) (o : Opened) (h : StateHeld s t o) (typed : IsTypedState (state_at s t o)) (placed : ArePlaced (symbols_at s t.sig.symbols))
    (k : ℕ) (there : k < length t.known) (own : Own) (is_own : IsOwnOf (declarations_at s t.decls) (known_theory_at s t k) own)
    (es : List Element) (g : Signature) (ext : IsExtended s t.sig s1 g (rights_tuples (symbols_at s t.sig.symbols) es))
    (x : Origin) (same : x ≡ origin_of (declarations_at s t.decls) (known_theory_at s t k)) (p : Replacement) (read : AreElementsRead (symbols_at s t.sig.symbols) (scope_at s o.scope) x es s1 p) where
  abbrev c : StateTree
  c = state_at s t o

  abbrev theory : KnownTree
  theory = known_theory_at s t k

  abbrev t1 : Typed
  t1 = record t { sig = g }

  abbrev c1 : StateTree
  c1 = record c { symbols = symbols_tupled c es }

  here : AreElementsRead c.symbols c.opened.scope (origin_of c.decls theory) es s1 p
  here = subst (λ (z : Origin). AreElementsRead c.symbols c.opened.scope z es s1 p) same read

  state_is : state_at s1 t1 o ≡ c1
  state_is = state_tupled s s1 w t o h g (rights_tuples c.symbols es) ext

  theory_is : known_theory_at s1 t1 k ≡ theory
  theory_is = theory_tupled s s1 w t o h g (rights_tuples c.symbols es) ext k

  copying_is : (within : Word) → copying_by s1 (state_at s1 t1 o) (known_theory_at s1 t1 k) p within ≡ copying_in c theory es within
  copying_is within =
      ap (λ (z : StateTree). copying_by s1 z (known_theory_at s1 t1 k) p within) state_is
      ∙ (ap (λ (z : KnownTree). copying_by s1 c1 z p within) theory_is ∙ copying_is_by s1 c theory es p within here.replacement)

  setting_typed : IsTypedSetting (of_signature c.symbols) (state_setting c)
  setting_typed = record { theory = typed.theory; source = typed.source; signature = typed.theories.signature; scopes = typed.scopes }

  entries : (within : Word) → All IsKeptEntry (copies_made (state_setting c) (origin_of c.decls theory) es c.opened.path within)
  entries within =
      let v : Vocabulary = of_signature (with_all_copies (state_setting c) (origin_of c.decls theory) es c.opened.path within) in
      typed_kept v (copies_made (state_setting c) (origin_of c.decls theory) es c.opened.path within) (all_copies_typed (state_setting c) (origin_of c.decls theory) es c.opened.path within placed setting_typed here.names typed.theory)

  pub ready : (within : Word) → IsCopyReady s1 t1 o k own p within
  ready within = record {
    held = held_tupled s s1 w t o h g (rights_tuples c.symbols es) ext;
    there = there;
    own = along (λ (ds : List DeclarationTree) (y : KnownTree) (z : Own). IsOwnOf ds y z) (sym (declarations_later s s1 w t.decls h.typed.decls)) (sym theory_is) refl is_own;
    types = here.replacement.held;
    kept = along (λ (y : KnownTree) (z : Copying) (e : StateTree). All IsKeptEntry (entries_made y z e)) (sym theory_is) (sym (copying_is within)) (sym state_is) (entries within);
  }

  -- ---- the theory is copied
  module _ (path : Path) (alias : Option Name) (variables : all_variables_fault es ≡ None) (found : known_named c.known (path_text path.parts) ≡ Some theory) (l : Link)
      (last : Word) (name : Option Word) (last_is : last ≡ last_part path.parts) (name_is : name ≡ alias_text alias) (c' : StateTree) where
    abbrev Copied : Word → Option Word → Type 0
    Copied a b = c' ≡ with_theory l a b (known_theory_at s1 t1 k) (copying_by s1 (state_at s1 t1 o) (known_theory_at s1 t1 k) p (within_of l a b o.within.items)) (state_at s1 t1 o)

    pub is_cloned : Copied last name → IsCloned l path alias es c c'
    is_cloned z =
        let named : Copied (last_part path.parts) (alias_text alias) = subst (Copied (last_part path.parts)) name_is (subst (λ (a : Word). Copied a name) last_is z) in
        record {
          variables = variables;
          theory = theory;
          found = found;
          names = here.names;
          right = here.right;
          is = along (λ (kt : KnownTree) (q : Copying) (e : StateTree). c' ≡ with_theory l (last_part path.parts) (alias_text alias) kt q e) theory_is (copying_is (within_of l (last_part path.parts) (alias_text alias) o.within.items)) state_is named;
        }
