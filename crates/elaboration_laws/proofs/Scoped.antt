-- A state stays sound as a scope is opened or left and as a theory is used; each goal's task is valid.
use Rattle.std.proofs.Common.{◌≡◌, ℕ, cond, Bool, true, false, List, [], ◌∷◌, ◌++◌, Option, Some, IfSome, sym, subst, arith}
use Rattle.std.specs.List.{Contains}
use Rattle.std.proofs.lemmas.List.Elements.{All-append, All-contains}
use Rattle.elab_groups.specs.tasks.Task.{SymbolTree, DeclarationTree}
use Rattle.elab_groups.specs.tasks.Valid.{AreInts, IsValid}
use Rattle.elab_groups.specs.surface.declared.names.Name.{Name}
use Rattle.elab_groups.specs.surface.declared.names.Path.{Path}
use Rattle.elab_groups.specs.surface.declared.declarations.Link.{Link}
use Rattle.elab_groups.specs.name_resolution.Where.{NamesTree}
use Rattle.theory_states.specs.Moves.{MoveTree}
use Rattle.elaboration_laws.specs.Scopes.{AreTypedScopes}
use Rattle.elaboration_laws.specs.Moves.{IsTypedMove, AreTypedMoves}
use Rattle.elaboration_laws.specs.Lists.{after}
use Rattle.theory_states.specs.goal_tasks.Theories.{GoalTree, TheoriesTree}
use Rattle.theory_states.specs.goal_tasks.Tasks.{task_for}
use Rattle.elaboration_laws.proofs.TaskSound.{task_valid}
use Rattle.theory_states.specs.States.{KnownTree, StateTree, at_places, visible_now, known_has_path, known_named}
use Rattle.theory_states.specs.Uses.{path_text, last_part, alias_text, theory_used, IsTheoryUsed}
use Rattle.elaboration_laws.specs.Sound.{IsSoundAmong, IsSoundTheory, IsSoundKnown, IsApart, IsSoundOpened, IsSoundState}
use Rattle.elaboration_laws.proofs.Used.{used_sound}
use Rattle.elaboration_laws.proofs.Numbers.{later}

-- ---- a use
pub found_in : (ts : List KnownTree) (path : List ℕ) (t : KnownTree) → known_named ts path ≡ Some t → Contains ts t
found_in [] path t q = absurd (cc)
found_in (x ∷ ts) path t q = of (known_has_path path x) q (λ r. found_in ts path t r)
  where
    of : (b : Bool) → cond b (Some x) (known_named ts path) ≡ Some t → (known_named ts path ≡ Some t → Contains ts t) → Contains (x ∷ ts) t
    of true r f = let e : x ≡ t = cc in (0, omega arith, e)
    of false r f = later x t ts (f r)

use_kept : (c : StateTree) (t : KnownTree) (link : Link) (last : List ℕ) (alias : Option (List ℕ)) → IsSoundState c → IsSoundKnown c.symbols c.decls t → IsApart c.decls c.opened.path t → IsSoundState (record c { opened = theory_used link last alias t c.opened })
use_kept c t link last alias h k apart = record {
  opened = subst (λ (es : List SymbolTree). IsSoundOpened es c.decls (theory_used link last alias t c.opened)) (sym k.symbols)
      (used_sound k.earlier k.later c.decls c.opened (subst (λ (es : List SymbolTree). IsSoundOpened es c.decls c.opened) k.symbols h.opened) t
      (subst (λ (es : List SymbolTree). IsSoundTheory es k.earlier c.decls t.path t.visible t.axioms t.goals t.moves) k.symbols k.theory) apart link last alias);
  known = h.known;
  apart = h.apart;
  of = h.of;
}

pub uses_kept : (link : Link) (p : Path) (alias : Option Name) (c c' : StateTree) → IsSoundState c → IsTheoryUsed link p alias c c' → IsSoundState c'
uses_kept link p alias c c' h u =
    let found : Contains c.known u.theory = found_in c.known (path_text p.parts) u.theory u.found in
    subst IsSoundState (sym u.is)
    (use_kept c u.theory link (last_part p.parts) (alias_text alias) h (All-contains (IsSoundKnown c.symbols c.decls) c.known u.theory h.known found) (All-contains (IsApart c.decls c.opened.path) c.known u.theory h.apart found))

-- ---- other scopes and moves
pub scopes_kept : (c : StateTree) (within : List ℕ) (names : NamesTree) (moves : List MoveTree) (number : ℕ) → IsSoundState c → AreTypedScopes (after c.symbols [] (visible_now c)) names → AreTypedMoves (after c.symbols [] (visible_now c)) moves
    → IsSoundState (record c { opened = record c.opened { within = within; scope = names; moves = c.opened.moves ++ moves }; number = number })
scopes_kept c within names moves number h scopes typed = record {
  opened = record {
    named = h.opened.named;
    source = h.opened.source;
    theory = record {
      sound = h.opened.theory.sound;
      others = h.opened.theory.others;
      signature = h.opened.theory.signature;
      typed_moves = All-append (IsTypedMove (after c.symbols [] (visible_now c))) c.opened.moves moves h.opened.theory.typed_moves typed;
      sound_goals = h.opened.theory.sound_goals;
      sound_axioms = h.opened.theory.sound_axioms;
      below = h.opened.theory.below;
      once = h.opened.theory.once;
      whole = h.opened.theory.whole;
    };
    scopes = scopes;
    own = h.opened.own;
  };
  known = h.known;
  apart = h.apart;
  of = h.of;
}

-- ---- goals
pub goal_valid : (all : TheoriesTree) (decls : List DeclarationTree) (t : KnownTree) (g : GoalTree) → IsSoundKnown all.symbols decls t → Contains t.goals g → IfSome all.ints (AreInts all.symbols)
    → IsValid (task_for all (record { path = t.path; decls = at_places decls t.visible; goals = t.goals }) g)
goal_valid all decls t g h c ints =
    let x : IsSoundAmong all.symbols (at_places decls t.visible) g = All-contains (IsSoundAmong all.symbols (at_places decls t.visible)) t.goals g h.theory.sound_goals c in
    task_valid all (record { path = t.path; decls = at_places decls t.visible; goals = t.goals }) g x.sound.before x.sound.goal ints
