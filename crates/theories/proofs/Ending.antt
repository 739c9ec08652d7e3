-- A theory ends, and theories are collected.
use Rattle.std.proofs.Common.{◌≡◌, ℕ, ◌+◌, List, [], ◌∷◌, ◌++◌, map, length, slice_get, zero, suc, Some, All, refl, sym, ap, subst, ◌∙◌, arith}
use Rattle.std.specs.Prelude.{option_to_list}
use Rattle.std.specs.List.{AllByRecursion}
use Rattle.std.proofs.lemmas.List.{map-append}
use Rattle.std.proofs.lemmas.List.Elements.{All-nil, All-push, All-from_recursion}
use Rattle.tasks.specs.trees.Tree.{Tree}
use Rattle.tasks.specs.declared.declaration.Decl.{Decl}
use Rattle.tasks.specs.Task.{SymbolTree, DeclarationTree, int_symbol}
use Rattle.tasks.specs.Vocabulary.{of_signature}
use Rattle.elaboration_laws.specs.scopes.Names.{empty_names}
use Rattle.elaboration_laws.specs.elab_groups.parts.Entries.{IsSignature}
use Rattle.elaboration_laws.specs.elab_groups.parts.Outcomes.{Setting}
use Rattle.elaboration_laws.proofs.Begin.{begins}
use Rattle.elaboration_laws.proofs.TaskOutcomes.{begins as begins_built}
use Rattle.elaboration_laws.specs.Moves.{AreTypedMoves}
use Rattle.tasks.specs.Meaning.{symbols_at, declaration_at, declarations_at, DeclHeld}
use Rattle.elaboration_laws.specs.theory_states.goal_tasks.Theories.{KnownTheoryTree, TheoriesTree}
use Rattle.elaboration_laws.specs.theory_states.declared.goal_tasks.theories.Theory.{Theory}
use Rattle.tasks.specs.declared.signature.Signature.{Signature}
use Rattle.elaboration_laws.specs.theory_states.goal_tasks.Meaning.{placed, goal_at, theory_at, TheoryHeld}
use Rattle.theory_states.specs.declared.states.KnownTheory.{KnownTheory}
use Rattle.theory_states.specs.declared.states.Opened.{Opened}
use Rattle.theory_states.specs.declared.states.Typed.{Typed}
use Rattle.theory_states.specs.States.{KnownTree, OpenedTree, StateTree, at_places, known_as, opened_empty}
use Rattle.theory_states.specs.Meaning.{known_at, opened_at, state_at, KnownTheoryHeld, OpenedHeld, TypedHeld}
use Rattle.elaboration_laws.specs.Placed.{IsPlacedEntry, ArePlaced}
use Rattle.elaboration_laws.specs.TypedStates.{AreTypedTheories, IsTypedState}
use Rattle.elaboration_laws.proofs.Keeping.{begun_typed, ended_typed}
use Rattle.theories.specs.Files.{IsTheoryBegun, IsEnded, visible_theory, theories_of, nothing_known}
use Rattle.theories.specs.Ints.{int_entries}
use Rattle.theories.specs.Right.{IsStateRight, AreTheoriesRight, IsPath, between_at}
pub use Rattle.open_types.proofs.Held.{symbols_held}

-- a theory begins
pub begun_is : (s : List Tree) (t : Typed) (path : List ℕ) (n : ℕ) (o : Opened) → opened_at s o ≡ opened_empty path → o.count ≡ n + 1 → IsTheoryBegun path (between_at s t n) (state_at s t o)
begun_is s t path n o e q =
    ap (λ (x : OpenedTree). let it : StateTree = record (between_at s t n) { opened = x; number = o.count } in it) e ∙ ap (λ (k : ℕ). let it : StateTree = record (between_at s t n) { opened = opened_empty path; number = k } in it) q

pub begun_right : (s : List Tree) (t : Typed) (path : List ℕ) (n : ℕ) (o : Opened) → opened_at s o ≡ opened_empty path → o.count ≡ n + 1 → OpenedHeld s (length t.decls) o → IsPath path → AreTheoriesRight s t → IsStateRight s t o
begun_right s t path n o e q held p h = record {
  held = record { typed = h.held; opened = held };
  typed = subst IsTypedState (sym (begun_is s t path n o e q)) (begun_typed (between_at s t 0) path (n + 1) p.named p.other h.typed);
  placed = h.placed;
}

-- it ends
module _ (s : List Tree) (t t' : Typed) (o : Opened) (k : KnownTheory) (e : t' ≡ record t { known = t.known ++ k ∷ [] }) (q : known_at s k ≡ known_as (opened_at s o)) where
  known_more : (n : ℕ) → between_at s t' n ≡ record (between_at s t n) { known = map (known_at s) t.known ++ known_as (opened_at s o) ∷ [] }
  known_more n =
      ap (λ (x : Typed). between_at s x n) e
      ∙ ap (λ (ks : List KnownTree). let it : StateTree = record (between_at s t n) { known = ks } in it) (map-append (known_at s) t.known (k ∷ []) ∙ ap (λ (x : KnownTree). map (known_at s) t.known ++ x ∷ []) q)

  pub ended_is : (n : ℕ) → n ≡ o.count → IsEnded (state_at s t o) (between_at s t' n)
  ended_is n c = known_more n ∙ ap (λ (m : ℕ). let it : StateTree = record (between_at s t m) { known = map (known_at s) t.known ++ known_as (opened_at s o) ∷ [] } in it) c

  pub ended_right : KnownTheoryHeld s (length t.decls) k → IsStateRight s t o → AreTheoriesRight s t'
  ended_right one h =
      let typed : AreTypedTheories (record (state_at s t o) { known = map (known_at s) t.known ++ known_as (opened_at s o) ∷ []; opened = opened_empty []; number = 0 }) = ended_typed (state_at s t o) (opened_empty []) 0 h.typed in
      record {
        held = subst (TypedHeld s) (sym e) (record {
          signature = h.held.typed.signature;
          decls = h.held.typed.decls;
          known = All-push (KnownTheoryHeld s (length t.decls)) t.known k h.held.typed.known one;
        });
        typed = subst AreTypedTheories (sym (known_more 0)) typed;
        placed = subst (λ (x : Typed). ArePlaced (symbols_at s x.sig.symbols)) (sym e) h.placed;
      }

-- ---- collected theories
-- the declarations at places, in the store
pub placed_are : (s : List Tree) (ds : List Decl) (ks : List ℕ) → declarations_at s (placed ds ks) ≡ at_places (declarations_at s ds) ks
placed_are s ds [] = refl
placed_are s ds (k ∷ ks) =
    map-append (declaration_at s) (option_to_list (slice_get ds k)) (placed ds ks)
    ∙ ap (λ (xs : List DeclarationTree). xs ++ declarations_at s (placed ds ks)) (one ds k)
    ∙ ap (λ (xs : List DeclarationTree). option_to_list (slice_get (declarations_at s ds) k) ++ xs) (placed_are s ds ks)
  where
    one : (es : List Decl) (j : ℕ) → declarations_at s (option_to_list (slice_get es j)) ≡ option_to_list (slice_get (declarations_at s es) j)
    one [] j = refl
    one (e ∷ es) zero = refl
    one (e ∷ es) (suc j) = one es j

theory_is : (s : List Tree) (ds : List Decl) (k : KnownTheory) → theory_at s ds k.theory ≡ record { path = k.theory.path; decls = at_places (declarations_at s ds) k.theory.visible; goals = map (goal_at s) k.theory.goals }
theory_is s ds k = ap (λ (xs : List DeclarationTree). let it : KnownTheoryTree = record { path = k.theory.path; decls = xs; goals = map (goal_at s) k.theory.goals } in it) (placed_are s ds k.theory.visible)

pub theories_are : (s : List Tree) (t : Typed) (n : ℕ) (ks : List KnownTheory) → map (theory_at s t.decls) (map (λ (k : KnownTheory). k.theory) ks) ≡ map (visible_theory (between_at s t n)) (map (known_at s) ks)
theories_are s t n [] = refl
theories_are s t n (k ∷ ks) = ap (λ (x : KnownTheoryTree). x ∷ map (theory_at s t.decls) (map (λ (j : KnownTheory). j.theory) ks)) (theory_is s t.decls k) ∙ ap (λ (xs : List KnownTheoryTree). visible_theory (between_at s t n) (known_at s k) ∷ xs) (theories_are s t n ks)

pub theories_held : (s : List Tree) (ds : List Decl) (ks : List KnownTheory) → All (KnownTheoryHeld s (length ds)) ks → AllByRecursion (TheoryHeld s ds) (map (λ (k : KnownTheory). k.theory) ks)
theories_held s ds [] a = tt
theories_held s ds (k ∷ ks) a = (let one = a 0 k (omega arith) in record { visible = one.visible; goals = one.goals }, theories_held s ds ks (λ i x h. a (suc i) x (omega arith)))

-- ---- at the beginning
pub nothing_typed : AreTypedTheories nothing_known
nothing_typed =
    let symbols : List SymbolTree = int_symbol ∷ [] in
    let c : Setting = record { theory = 1 ∷ []; within = []; decl = 0; symbols = symbols; scope = empty_names } in
    record {
      signature = (begins (of_signature symbols) refl c refl refl refl refl).signature;
      built = begins_built;
      known = All-nil (λ (t : KnownTree). AreTypedMoves (of_signature symbols) t.moves);
    }

pub begin_is : (s : List Tree) (t : Typed) → symbols_at s t.sig.symbols ≡ int_symbol ∷ [] → t.decls ≡ [] → t.known ≡ [] → between_at s t 0 ≡ nothing_known
begin_is s t p q r =
    let mk : List SymbolTree → List DeclarationTree → List KnownTree → StateTree = λ a b k. record { symbols = a; decls = b; known = k; opened = opened_empty []; number = 0 } in
    ap (λ (a : List SymbolTree). mk a (declarations_at s t.decls) (map (known_at s) t.known)) p
    ∙ ap (λ (ds : List Decl). mk (int_symbol ∷ []) (declarations_at s ds) (map (known_at s) t.known)) q
    ∙ ap (λ (ks : List KnownTheory). mk (int_symbol ∷ []) [] (map (known_at s) ks)) r

pub int_placed : ArePlaced (int_symbol ∷ [])
int_placed = All-push IsPlacedEntry [] int_symbol (All-nil IsPlacedEntry) (λ e. absurd (cc))

pub begin_right : (s : List Tree) (t : Typed) → IsSignature s t.sig.symbols → symbols_at s t.sig.symbols ≡ int_symbol ∷ [] → t.decls ≡ [] → t.known ≡ [] → AreTheoriesRight s t
begin_right s t sig p q r = record {
  held = record {
    signature = sig;
    decls = subst (All (DeclHeld s)) (sym q) (All-nil (DeclHeld s));
    known = subst (All (KnownTheoryHeld s (length t.decls))) (sym r) (All-nil (KnownTheoryHeld s (length t.decls)));
  };
  typed = subst AreTypedTheories (sym (begin_is s t p q r)) nothing_typed;
  placed = subst ArePlaced (sym p) int_placed;
}

-- ---- what is collected
pub collected_is : (s : List Tree) (t : Typed) (g : Signature) (list : List Theory) (embedded n : ℕ) → g ≡ record { symbols = t.sig.symbols; ints = Some int_entries } → list ≡ map (λ (k : KnownTheory). k.theory) t.known
    → (let it : TheoriesTree = record { symbols = symbols_at s g.symbols; ints = g.ints; embedded = embedded; list = map (theory_at s t.decls) list } in it) ≡ theories_of embedded (between_at s t n)
collected_is s t g list embedded n p q =
    ap (λ (x : Signature). let it : TheoriesTree = record { symbols = symbols_at s x.symbols; ints = x.ints; embedded = embedded; list = map (theory_at s t.decls) list } in it) p
    ∙ ap (λ (ts : List KnownTheoryTree). let it : TheoriesTree = record { symbols = symbols_at s t.sig.symbols; ints = Some int_entries; embedded = embedded; list = ts } in it) (ap (map (theory_at s t.decls)) q ∙ theories_are s t n t.known)

pub collected_held : (s : List Tree) (t : Typed) (list : List Theory) → list ≡ map (λ (k : KnownTheory). k.theory) t.known → TypedHeld s t → All (TheoryHeld s t.decls) list
collected_held s t list q h = subst (All (TheoryHeld s t.decls)) (sym q) (All-from_recursion (TheoryHeld s t.decls) (map (λ (k : KnownTheory). k.theory) t.known) (theories_held s t.decls t.known h.known))
