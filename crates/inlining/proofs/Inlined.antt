-- A task with definitions inlined is valid where it isn't too large.
use Rattle.std.proofs.Common.{ℕ, ◌≤◌, Bool, true, false, if◌then◌else◌, List, [], ◌∷◌, suc, All, ◌∙◌, arith}
use Rattle.std.proofs.lemmas.List.Elements.{All-cons, All-nil, All-append}
use Rattle.tasks.specs.trees.Tree.{Tree}
use Rattle.tasks.specs.Task.{DefinitionTree, BodyTree, MakesType, Makes, Defines, Induces, Constructs, Says, DeclarationTree, TaskTree, nodes}
use Rattle.tasks.specs.Vocabulary.{Vocabulary, of_task}
use Rattle.tasks.specs.Valid.{IsDefinition, IsValidBody, IsValidDecl, IsValid}
use Rattle.tasks.proofs.TypeInstances.{IsSoundVocabulary, sound_task}
use Rattle.evidence.specs.images.typing_laws.HasTyping.{HasTyping, KeepsTyping}
use Rattle.images.proofs.TypedImages.{image_keeps_typing}
use Rattle.inlining.specs.declared.modes.InlineMode.{InlineMode}
use Rattle.inlining.specs.declared.modes.InlineMode.TheVariants as mode
use Rattle.checks.specs.decl_checks.Structure.{defining_body}
use Rattle.checks.specs.recursive_groups.Groups.{is_recursive}
use Rattle.inlining.specs.Inlining.{unfold_rule, with_uses_unfolded, inlined, is_trivial, plain_definitions, all_definitions, trivial_definitions, inlined_definitions, inlined_task}
use Rattle.inlining.proofs.Bodies.{defined_body}
use Rattle.inlining.proofs.Uses.{keeps_same, unfold_typed_rule}
use Rattle.evidence.proofs.ChangedTasks.{changed_valid, goal_changed_valid}

-- ---- the definitions that are inlined are those of the task
module _ (v : Vocabulary) where
  chosen_defined : (r : Bool) (ds : List DefinitionTree) → All (IsDefinition v) ds → All (IsDefinition v) (if r then [] else ds)
  chosen_defined true ds a = All-nil (IsDefinition v)
  chosen_defined false ds a = a

  plain_defined : (vars : ℕ) (b : BodyTree) → IsValidBody v vars b → All (IsDefinition v) (plain_definitions b)
  plain_defined vars (Defines ds) a = chosen_defined (is_recursive ds) ds a
  plain_defined vars (MakesType k) a = All-nil (IsDefinition v)
  plain_defined vars (Makes k) a = All-nil (IsDefinition v)
  plain_defined vars (Induces is) a = All-nil (IsDefinition v)
  plain_defined vars (Constructs ts) a = All-nil (IsDefinition v)
  plain_defined vars (Says e) a = All-nil (IsDefinition v)

  all_defined : (ds : List DeclarationTree) → All (IsValidDecl v) ds → All (IsDefinition v) (all_definitions ds)
  all_defined [] a = All-nil (IsDefinition v)
  all_defined (d ∷ ds) a = All-append (IsDefinition v) (plain_definitions d.body) (all_definitions ds) (plain_defined d.vars d.body (a 0 d (omega arith))) (all_defined ds (λ k e l. a (suc k) e (omega arith)))

  kept_defined : (r : Bool) (d : DefinitionTree) (ds : List DefinitionTree) → IsDefinition v d → All (IsDefinition v) ds → All (IsDefinition v) (if r then d ∷ ds else ds)
  kept_defined true d ds p a = All-cons (IsDefinition v) d ds p a
  kept_defined false d ds p a = a

  trivial_defined : (ds : List DefinitionTree) → All (IsDefinition v) ds → All (IsDefinition v) (trivial_definitions ds)
  trivial_defined [] a = All-nil (IsDefinition v)
  trivial_defined (d ∷ ds) a = kept_defined (is_trivial (defining_body d.equation)) d (trivial_definitions ds) (a 0 d (omega arith)) (trivial_defined ds (λ k e l. a (suc k) e (omega arith)))

  pub inlined_defined : (m : InlineMode) (ds : List DeclarationTree) → All (IsValidDecl v) ds → All (IsDefinition v) (inlined_definitions m ds)
  inlined_defined mode.Trivial ds a = trivial_defined (all_definitions ds) (all_defined ds a)
  inlined_defined mode.Goal ds a = all_defined ds a
  inlined_defined mode.All ds a = all_defined ds a

  -- ---- each keeps typing, so all do
  module _ (sound : IsSoundVocabulary v) where
    pub one_unfolded_keeps : (d : DefinitionTree) → IsDefinition v d → (types : List Tree) (e : Tree) → HasTyping v types e → KeepsTyping v types e (with_uses_unfolded d e)
    one_unfolded_keeps d p types e x = image_keeps_typing v (unfold_rule d.symbol (defining_body d.equation)) (unfold_typed_rule v sound d.symbol (defining_body d.equation) (defined_body v d p)) types e x

    pub inlined_keeps : (ds : List DefinitionTree) → All (IsDefinition v) ds → (types : List Tree) (e : Tree) → HasTyping v types e → KeepsTyping v types e (inlined ds e)
    inlined_keeps [] a types e x = keeps_same v types e x
    inlined_keeps (d ∷ ds) a types e x =
        let m = inlined_keeps ds (λ k c l. a (suc k) c (omega arith)) types e x in
        let n = one_unfolded_keeps d (a 0 d (omega arith)) types (inlined ds e) m.typed in record {
          typed = n.typed;
          sort = n.sort ∙ m.sort;
          type = n.type ∙ m.type;
          variables = λ j h. n.variables j (m.variables j h);
          above = λ j h. n.above j (m.above j h);
          parameters = λ ps h. n.parameters ps (m.parameters ps h);
        }

-- ---- tasks
module _ (t : TaskTree) (valid : IsValid t) where
  pub task_keeps : (m : InlineMode) (types : List Tree) (e : Tree) → HasTyping (of_task t) types e → KeepsTyping (of_task t) types e (inlined (inlined_definitions m t.decls) e)
  task_keeps m types e x = inlined_keeps (of_task t) (sound_task t valid) (inlined_definitions m t.decls) (inlined_defined (of_task t) m t.decls valid.decls) types e x

  pub inlined_valid : (m : InlineMode) → nodes (inlined_task m t) ≤ 1048576 → IsValid (inlined_task m t)
  inlined_valid mode.Trivial l = changed_valid (inlined (inlined_definitions mode.Trivial t.decls)) t (λ e s x. task_keeps mode.Trivial [] e x) valid l
  inlined_valid mode.Goal l = goal_changed_valid (inlined (inlined_definitions mode.Goal t.decls)) t (λ e s x. task_keeps mode.Goal [] e x) valid l
  inlined_valid mode.All l = changed_valid (inlined (inlined_definitions mode.All t.decls)) t (λ e s x. task_keeps mode.All [] e x) valid l
