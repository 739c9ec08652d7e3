-- What was made so far, as a store grows.
use Rattle.std.proofs.Common.{List, ◌++◌, All, sym, subst}
use Rattle.std.proofs.lemmas.List.Elements.{All-push, All-append, All-weaker}
use Rattle.tasks.specs.trees.declared.TermId.{TermId}
use Rattle.tasks.specs.trees.Tree.{Tree}
use Rattle.tasks.specs.trees.Node.{Holds, Grows}
use Rattle.elab_groups.specs.trees.binders.Visits.{HoldTypes, typing_stays_ready}
use Rattle.tasks.specs.declared.declaration.Decl.{Decl}
use Rattle.tasks.specs.Meaning.{DeclHeld}
use Rattle.tasks.proofs.Growth.{all_held_later, decl_held_later}
use Rattle.rules.specs.Meaning.{StepHeld, StepsHeld}
use Rattle.step_writing.proofs.kernel.Growth.{steps_held_later}
use Rattle.step_lines.proofs.tree_lines.Growing.{types_pushed}
use Rattle.step_lines.specs.declared.thing.MadeThing.{MadeThing}
use Rattle.step_lines.specs.declared.thing.MadeThing.TheVariants as made
use Rattle.step_lines.specs.Made.{ThingHeld}
use Rattle.step_rows.specs.declared.read.Read.{Read}
use Rattle.step_rows.specs.Read.{RowReadHeld, IsThingKept}
pub use Rattle.elab_groups.proofs.open_types.Held.{symbols_held}

pub decls_more : (s s' : List Tree) → Grows s s' → (ds es : List Decl) → All (DeclHeld s) ds → All (DeclHeld s') es → All (DeclHeld s') (ds ++ es)
decls_more s s' g ds es h k = All-append (DeclHeld s') ds es (All-weaker (DeclHeld s) (DeclHeld s') (decl_held_later s s' g) ds h) k

pub read_later : (s s' : List Tree) → Grows s s' → (r : Read) → RowReadHeld s r → RowReadHeld s' r
read_later s s' g r h = record {
  types = typing_stays_ready s s' r.types.items g h.types;
  patterns = all_held_later s s' g r.patterns.items h.patterns;
  expressions = all_held_later s s' g r.expressions.items h.expressions;
  steps = steps_held_later s s' g r.steps.items h.steps;
}

-- one thing more
pub kept_held : (s : List Tree) (r r' : Read) → RowReadHeld s r → (x : MadeThing) → IsThingKept x r r' → ThingHeld s x → RowReadHeld s r'
kept_held s r r' h (made.Type y) k t = record {
  types = subst (HoldTypes s) (sym k.0) (types_pushed s r.types.items y h.types t);
  patterns = subst (λ (l : List TermId). All (Holds s) l) (sym k.1) h.patterns;
  expressions = subst (λ (l : List TermId). All (Holds s) l) (sym k.2) h.expressions;
  steps = subst (StepsHeld s) (sym k.3) h.steps;
}
kept_held s r r' h (made.Pattern p) k t = record {
  types = subst (HoldTypes s) (sym k.0) h.types;
  patterns = subst (λ (l : List TermId). All (Holds s) l) (sym k.1) (All-push (Holds s) r.patterns.items p h.patterns t);
  expressions = subst (λ (l : List TermId). All (Holds s) l) (sym k.2) h.expressions;
  steps = subst (StepsHeld s) (sym k.3) h.steps;
}
kept_held s r r' h (made.Expression e) k t = record {
  types = subst (HoldTypes s) (sym k.0) h.types;
  patterns = subst (λ (l : List TermId). All (Holds s) l) (sym k.1) h.patterns;
  expressions = subst (λ (l : List TermId). All (Holds s) l) (sym k.2) (All-push (Holds s) r.expressions.items e h.expressions t);
  steps = subst (StepsHeld s) (sym k.3) h.steps;
}
kept_held s r r' h (made.Derived st) k t = record {
  types = subst (HoldTypes s) (sym k.0) h.types;
  patterns = subst (λ (l : List TermId). All (Holds s) l) (sym k.1) h.patterns;
  expressions = subst (λ (l : List TermId). All (Holds s) l) (sym k.2) h.expressions;
  steps = subst (StepsHeld s) (sym k.3) (All-push (StepHeld s) r.steps.items st h.steps t);
}
