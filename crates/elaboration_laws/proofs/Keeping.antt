-- All that is known stays typed where names come into scopes, where a theory is used, and where one begins or ends.
use Rattle.std.proofs.Common.{◌≡◌, ℕ, Bool, true, false, cond, List, [], ◌∷◌, ◌++◌, Option, Some, refl, sym, ap, subst, ◌∙◌}
use Rattle.std.specs.List.{find}
use Rattle.std.specs.Str.{bytes_eq}
use Rattle.std.proofs.lemmas.List.Elements.{All-nil, All-append, All-push, recursion_from_All}
use Rattle.std.specs.List.{AllByRecursion}
use Rattle.elab_groups.specs.tasks.Vocabulary.{is_empty, of_signature}
use Rattle.elab_groups.specs.surface.declared.names.Name.{Name}
use Rattle.elab_groups.specs.surface.declared.names.Path.{Path}
use Rattle.elab_groups.specs.surface.declared.declarations.Link.{Link}
use Rattle.elab_groups.specs.parts.Entries.{builtin}
use Rattle.elaboration_laws.specs.Scopes.{AreTypedScopes}
use Rattle.elaboration_laws.specs.Moves.{AreTypedMoves, IsTypedMove}
use Rattle.elaboration_laws.proofs.Scopes.{no_names}
use Rattle.elaboration_laws.proofs.MovedScopes.{brought_typed, handed_typed}
use Rattle.theory_states.specs.States.{KnownTree, OpenedTree, StateTree, known_has_path, known_as, opened_empty}
use Rattle.theory_states.specs.Uses.{IsTheoryUsed, path_text, last_part, alias_text, theory_used}
use Rattle.elaboration_laws.specs.TypedStates.{AreTypedTheories, IsTypedState}

-- the signature and the theories before are the same
pub theories_same : (c : StateTree) (o : OpenedTree) (n : ℕ) → AreTypedTheories c → AreTypedTheories (record c { opened = o; number = n })
theories_same c o n h = record { signature = h.signature; built = h.built; known = h.known }

-- other names in scopes, which are typed, and other moves
pub renamed_typed : (c : StateTree) (o : OpenedTree) (n : ℕ) → o.path ≡ c.opened.path → AreTypedScopes (of_signature c.symbols) o.scope → AreTypedMoves (of_signature c.symbols) o.moves
    → IsTypedState c → IsTypedState (record c { opened = o; number = n })
renamed_typed c o n p scopes moves h = record {
  theories = theories_same c o n h.theories;
  theory = ap is_empty p ∙ h.theory;
  source = ap (λ (x : List ℕ). bytes_eq x builtin) p ∙ h.source;
  scopes = scopes;
  moves = moves;
}

-- what is found in a list has what all of it have
pub found_by : {X : Type 0} (P : X → Type 0) (b : Bool) (y x : X) (r : Option X) → P y → (r ≡ Some x → P x) → cond b (Some y) r ≡ Some x → P x
found_by P true y x r h k e = let i : y ≡ x = cc in subst P i h
found_by P false y x r h k e = k e

found_has : {X : Type 0} (P : X → Type 0) (test : X → Bool) (xs : List X) (x : X) → AllByRecursion P xs → find test xs ≡ Some x → P x
found_has P test [] x a e = absurd (cc)
found_has P test (y ∷ ys) x a e = found_by P (test y) y x (find test ys) a.0 (λ k. found_has P test ys x a.1 k) e

pub used_typed : (link : Link) (p : Path) (alias : Option Name) (c c' : StateTree) → IsTheoryUsed link p alias c c' → IsTypedState c → IsTypedState c'
used_typed link p alias c c' u h =
    let v = of_signature c.symbols in
    let ms : AreTypedMoves v u.theory.moves = found_has (λ (t : KnownTree). AreTypedMoves v t.moves) (known_has_path (path_text p.parts)) c.known u.theory (recursion_from_All (λ (t : KnownTree). AreTypedMoves v t.moves) c.known h.theories.known) u.found in
    let o = theory_used link (last_part p.parts) (alias_text alias) u.theory c.opened in
    let scopes : AreTypedScopes v o.scope = brought_typed v link (last_part p.parts) (alias_text alias) u.theory.moves c.opened.scope ms h.scopes in
    let moves : AreTypedMoves v o.moves = All-append (IsTypedMove v) c.opened.moves _ h.moves (handed_typed v link u.theory.moves ms) in
    subst IsTypedState (sym u.is) (renamed_typed c o c.number refl scopes moves h)

-- ---- a theory begins, and ends
pub begun_typed : (c : StateTree) (path : List ℕ) (n : ℕ) → is_empty path ≡ false → bytes_eq path builtin ≡ false → AreTypedTheories c → IsTypedState (record c { opened = opened_empty path; number = n })
begun_typed c path n p q h = record {
  theories = theories_same c (opened_empty path) n h;
  theory = p;
  source = q;
  scopes = no_names (of_signature c.symbols);
  moves = All-nil (IsTypedMove (of_signature c.symbols));
}

pub ended_typed : (c : StateTree) (o : OpenedTree) (n : ℕ) → IsTypedState c → AreTypedTheories (record c { known = c.known ++ known_as c.opened ∷ []; opened = o; number = n })
ended_typed c o n h = record {
  signature = h.theories.signature;
  built = h.theories.built;
  known = All-push (λ (t : KnownTree). AreTypedMoves (of_signature c.symbols) t.moves) c.known (known_as c.opened) h.theories.known h.moves;
}
