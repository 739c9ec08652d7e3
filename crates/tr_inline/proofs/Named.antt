-- The definitions that are inlined: steps can cite their equations by name.
use Rattle.std.proofs.Common.{◌≡◌, ℕ, ◌+◌, ◌<◌, Bool, true, false, if◌then◌else◌, List, [], ◌∷◌, ◌++◌, map, length, get_or, All, Some, subst, sym, ap, ◌∙◌, arith}
use Rattle.std.proofs.lemmas.List.{length-map, get_or-map}
use Rattle.std.proofs.lemmas.List.Elements.{All-nil, All-cons, All-head, All-tail}
use Rattle.tasks.specs.declared.declaration.Def.{Def}
use Rattle.tasks.specs.declared.facts.Fact.TheVariants as fact
use Rattle.tasks.specs.declared.task.Task.{Task}
use Rattle.tasks.specs.Task.{DefinitionTree, BodyTree, MakesType, Makes, Defines, Induces, Constructs, Says, DeclarationTree, TaskTree}
use Rattle.tasks.specs.Facts.{equation_fact, body_facts, said_in, facts_from, facts}
use Rattle.tasks.specs.Meaning.{definition_at, definitions_at, task_at}
use Rattle.tasks.specs.Vocabulary.{of_task}
use Rattle.tasks.specs.Valid.{IsDefinition, IsValid}
use Rattle.evidence.specs.Drafts.{DraftTree}
use Rattle.evidence.specs.Facts.{fact_named, at_symbol, IsFoundByName}
use Rattle.evidence.specs.Stages.{IsOwnTask}
use Rattle.evidence.proofs.FactNames.{all_named}
use Rattle.tr_inline.specs.full_bodies.Listed.{AreDefsHeld}
use Rattle.checks.specs.recursive_groups.Groups.{is_recursive}
use Rattle.checks.specs.decl_checks.Structure.{defining_body}
use Rattle.inlining.specs.declared.modes.InlineMode.{InlineMode}
use Rattle.inlining.specs.declared.modes.InlineMode.TheVariants as mode
use Rattle.inlining.specs.Inlining.{is_trivial, plain_definitions, all_definitions, trivial_definitions, inlined_definitions}
use Rattle.inlining.proofs.Inlined.{inlined_defined}
use Rattle.tr_inline.specs.Definitions.{AreDefinedIn}
use Rattle.tasks.proofs.plain_laws.Lists.{All-right as all_right}
use Rattle.tasks.proofs.plain_laws.Lists.{All-left as all_left}

module _ (t : TaskTree) where
  abbrev IsNamed : DefinitionTree → Type 0
  IsNamed d = fact_named t (fact.Equation d.symbol) ≡ Some (at_symbol t d.symbol d.equation)

  group_named : (ds : List DefinitionTree) → All (IsFoundByName t) (map (equation_fact t.symbols) ds) → All IsNamed ds
  group_named [] h = All-nil IsNamed
  group_named (d ∷ ds) h =
      All-cons IsNamed d ds (All-head (IsFoundByName t) (equation_fact t.symbols d) (map (equation_fact t.symbols) ds) h) (group_named ds (All-tail (IsFoundByName t) (equation_fact t.symbols d) (map (equation_fact t.symbols) ds) h))

  taken_named : (r : Bool) (ds : List DefinitionTree) → All IsNamed ds → All IsNamed (if r then [] else ds)
  taken_named true ds h = All-nil IsNamed
  taken_named false ds h = h

  plain_named : (n vars : ℕ) (b : BodyTree) → All (IsFoundByName t) (body_facts t.symbols n vars b) → All IsNamed (plain_definitions b)
  plain_named n vars (Defines ds) h = taken_named (is_recursive ds) ds (group_named ds h)
  plain_named n vars (MakesType k) h = All-nil IsNamed
  plain_named n vars (Makes k) h = All-nil IsNamed
  plain_named n vars (Induces is) h = All-nil IsNamed
  plain_named n vars (Constructs ts) h = All-nil IsNamed
  plain_named n vars (Says a) h = All-nil IsNamed

  joined : (xs ys : List DefinitionTree) → All IsNamed xs → All IsNamed ys → All IsNamed (xs ++ ys)
  joined [] ys a b = b
  joined (x ∷ xs) ys a b = All-cons IsNamed x (xs ++ ys) (All-head IsNamed x xs a) (joined xs ys (All-tail IsNamed x xs a) b)

  definitions_named : (n : ℕ) (ds : List DeclarationTree) → All (IsFoundByName t) (facts_from t.symbols n ds) → All IsNamed (all_definitions ds)
  definitions_named n [] h = All-nil IsNamed
  definitions_named n (d ∷ ds) h =
      let rest = facts_from t.symbols (n + said_in d.body) ds in
      joined (plain_definitions d.body) (all_definitions ds) (plain_named n d.vars d.body (all_left (IsFoundByName t) (body_facts t.symbols n d.vars d.body) rest h))
      (definitions_named (n + said_in d.body) ds (all_right (IsFoundByName t) (body_facts t.symbols n d.vars d.body) rest h))

  kept_named : (r : Bool) (d : DefinitionTree) (ds : List DefinitionTree) → IsNamed d → All IsNamed ds → All IsNamed (if r then d ∷ ds else ds)
  kept_named true d ds p a = All-cons IsNamed d ds p a
  kept_named false d ds p a = a

  trivial_named : (ds : List DefinitionTree) → All IsNamed ds → All IsNamed (trivial_definitions ds)
  trivial_named [] a = All-nil IsNamed
  trivial_named (d ∷ ds) a = kept_named (is_trivial (defining_body d.equation)) d (trivial_definitions ds) (All-head IsNamed d ds a) (trivial_named ds (All-tail IsNamed d ds a))

  inlined_named : IsValid t → (m : InlineMode) → All IsNamed (inlined_definitions m t.decls)
  inlined_named valid mode.Trivial = trivial_named (all_definitions t.decls) (definitions_named 0 t.decls (all_named t valid))
  inlined_named valid mode.Goal = definitions_named 0 t.decls (all_named t valid)
  inlined_named valid mode.All = definitions_named 0 t.decls (all_named t valid)

-- the definitions that are listed of a draft's own task
module _ (d : DraftTree) (from : Task) (own : IsOwnTask d from) (m : InlineMode) (defs : List Def) (held : AreDefsHeld d.trees defs) (are : definitions_at d.trees defs ≡ inlined_definitions m (task_at d.trees from).decls) where
  pub listed_same : definitions_at d.trees defs ≡ inlined_definitions m d.task.decls
  listed_same = are ∙ ap (λ (t : TaskTree). inlined_definitions m t.decls) own.is

  at_each : (P : DefinitionTree → Type 0) → All P (inlined_definitions m d.task.decls) → (i : ℕ) (def : Def) → i < length defs → P (definition_at d.trees (get_or defs i def))
  at_each P h i def l =
      let n = length-map defs (definition_at d.trees) in
      let q : get_or (definitions_at d.trees defs) i (definition_at d.trees def) ≡ definition_at d.trees (get_or defs i def) = get_or-map (definition_at d.trees) defs i def (definition_at d.trees def) l in
      subst P q (subst (All P) (sym listed_same) h i (definition_at d.trees def) (omega (arith, l, n)))

  pub listed_defined : AreDefinedIn d defs
  listed_defined i def l = record {
    held = held i def l;
    valid = own.valid;
    defined = at_each (IsDefinition (of_task d.task)) (inlined_defined (of_task d.task) m d.task.decls own.valid.decls) i def l;
    named = at_each (IsNamed d.task) (inlined_named d.task own.valid m) i def l;
  }
