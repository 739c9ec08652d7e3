-- What a task becomes where polymorphic propositions are replaced by their wanted instances (Why3
-- manual, "discriminate"). The type variables of a proposition are those that are in it, whatever
-- its declaration counts; one in which none is stays as it is.
use Rattle.std.specs.Prelude.{ℕ, ◌+◌, ◌==◌, Bool, true, false, not, if◌then◌else◌, List, [], ◌∷◌, ◌++◌, map, filter, Option, Some, None}
use Rattle.std.specs.List.{flat_map}
use Rattle.tasks.specs.trees.Tree.{Tree, above_ty_vars}
use Rattle.tasks.specs.Task.{BodyTree, Defines, Induces, Says, DeclarationTree, TaskTree, PropositionTree, props}
use Rattle.name_tables.specs.Occurrences.{Occurrence}
use Rattle.name_tables.specs.Seen.{with_all}
use Rattle.tr_discriminate.specs.wanted_instances.Instances.{inner_instances}
use Rattle.tr_discriminate.specs.wanted_instances.Wanted.{wanted_formulas}

abbrev pub is_monomorphic : Tree → Bool
is_monomorphic a = above_ty_vars a == 0

-- ---- the three sets
abbrev pub monomorphic : List PropositionTree → List Tree
monomorphic ps = map (λ (p : PropositionTree). p.formula)
    (filter (λ (p : PropositionTree). is_monomorphic p.formula) ps)

abbrev pub polymorphic : List PropositionTree → List PropositionTree
polymorphic ps = filter (λ (p : PropositionTree). not (is_monomorphic p.formula)) ps

-- the ground instances of the monomorphic propositions, the locals and the goal
abbrev pub first_set : TaskTree → List Occurrence
first_set t =
    with_all [] (flat_map inner_instances (monomorphic (props t) ++ (t.locals ++ t.goal ∷ [])))

-- with those in the instances of propositions that are wanted at it
abbrev pub next_set : List PropositionTree → List Occurrence → List Occurrence
next_set ps s =
    with_all s (flat_map inner_instances (flat_map (wanted_formulas s) (polymorphic ps)))

abbrev pub last_set : TaskTree → List Occurrence
last_set t = next_set (props t) (next_set (props t) (first_set t))

-- ---- the task
-- an instance of a proposition, which counts no type variables
abbrev pub said_at : DeclarationTree → Tree → DeclarationTree
said_at d a = record { theory = d.theory; name = d.name; vars = 0; body = Says a }

abbrev pub proposition_of : ℕ → Tree → PropositionTree
proposition_of vars a = record { vars = vars; formula = a }

-- what is put in the place of a declaration, where the instances that are wanted are those at a set
abbrev pub put_in_place : List Occurrence → DeclarationTree → BodyTree → List DeclarationTree
put_in_place s d (Says a) = if is_monomorphic a then d
    ∷ [] else map (said_at d) (wanted_formulas s (proposition_of d.vars a))
put_in_place s d b = d ∷ []

abbrev pub discriminated_decls : List Occurrence → List DeclarationTree → List DeclarationTree
discriminated_decls s ds = flat_map (λ (d : DeclarationTree). put_in_place s d d.body) ds

abbrev pub discriminated_at : List Occurrence → TaskTree → TaskTree
discriminated_at s t = record t { decls = discriminated_decls s t.decls }

abbrev pub discriminated_task : TaskTree → TaskTree
discriminated_task t = discriminated_at (last_set t) t

-- ---- a definition or inductive declaration, which may not be there
abbrev pub is_misplaced : BodyTree → Bool
is_misplaced (Defines ds) = true
is_misplaced (Induces is) = true
is_misplaced _ = false

-- the first one, by its place
abbrev pub misplaced_from : ℕ → List DeclarationTree → Option ℕ
misplaced_from n [] = None
misplaced_from n (d ∷ ds) = if is_misplaced d.body then Some n else misplaced_from (n + 1) ds
