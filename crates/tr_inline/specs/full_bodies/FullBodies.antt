-- Full bodies in a store, and the rule for the uses of their symbols.
use Rattle.std.specs.Prelude.{◌≡◌, ℕ, ◌<◌, ◌==◌, if◌then◌else◌, Bool, true, List, [], ◌∷◌, map, Option, Some, None}
use Rattle.indexmap.specs.IndexMap.{IndexMap}
use Rattle.trees.specs.declared.TermId.{TermId}
use Rattle.trees.specs.declared.Sort.TheVariants.{Kind, Term}
use Rattle.trees.specs.Tree.{Tree, Two, Three, HFun, HPred}
use Rattle.trees.specs.Binding.{inst_types}
use Rattle.trees.specs.Node.{tree_at, Holds}
use Rattle.trees.specs.Sorts.{sort_of, IsList}
use Rattle.tasks.specs.declared.task.Task.{Task}
use Rattle.tasks.specs.Task.{TaskTree}
use Rattle.tasks.specs.Meaning.{task_at, TaskHeld}
use Rattle.tasks.specs.Typing.{members}
use Rattle.tasks.specs.Vocabulary.{Vocabulary, of_task}
use Rattle.tasks.specs.Valid.{IsValid}
use Rattle.inlining.specs.images.Images.{image}
use Rattle.inlining.specs.images.typing_laws.HasTyping.{HasSorts, over_parts}
use Rattle.inlining.specs.images.image_trees.Imaged.{RuleOver, IsTypedSomewhere, AreImages}
use Rattle.inlining.specs.Inlining.{use_body}
use Rattle.inlining.specs.FullBodies.{use_rule}
use Rattle.inlining.proofs.Bodies.{IsBody}
use Rattle.tr_inline.specs.declared.full_bodies.uses.FullBody.{FullBody}
use Rattle.tr_inline.specs.declared.full_bodies.uses.SymbolUse.{SymbolUse}
use Rattle.tr_inline.specs.full_bodies.Least.{HasLargeInstances}
use Rattle.tr_inline.specs.full_bodies.Arguments.{ArePutFor}

-- the last body of a symbol in a list, else the one that is known
abbrev pub body_for : ℕ → Option FullBody → List FullBody → Option FullBody
body_for k known [] = known
body_for k known (b ∷ bs) = body_for k (if k == b.symbol then Some b else known) bs

-- the rule of the bodies, in each of which those before are inlined, after another rule
abbrev pub rule_after : List Tree → (Tree → Tree) → List FullBody → Tree → Tree
rule_after s f [] = f
rule_after s f (b ∷ bs) = rule_after s (use_rule b.symbol (image f (tree_at s b.body)) f) bs

abbrev pub rule_in : (Tree → Tree) → TaskTree → RuleOver
rule_in f t = record { rule = f; vocabulary = of_task t }

abbrev pub rule_over_bodies : List Tree → Task → List FullBody → RuleOver
rule_over_bodies s task bodies = rule_in (rule_after s (λ e. e) bodies) (task_at s task)

-- the number of the full body; none where it is large
abbrev pub IsFull : List Tree → Tree → Option TermId → Type 0
IsFull s e (Some id) = Holds s id × (tree_at s id ≡ e)
IsFull s e None = HasLargeInstances e

-- each is the body of a symbol over the vocabulary, with its full body after a rule
abbrev pub AreFullBodies : List Tree → Vocabulary → (Tree → Tree) → List FullBody → Type 0
AreFullBodies s v f [] = Unit {0}
AreFullBodies s v f (b ∷ bs) =
    (Holds s b.body × IsBody v b.symbol (tree_at s b.body)
    × IsFull s (image f (tree_at s b.body)) b.full)
    × AreFullBodies s v (use_rule b.symbol (image f (tree_at s b.body)) f) bs

-- the task is valid, and the bodies are of it
pub record AreReady (s : List Tree) (task : Task) (bodies : List FullBody) : Type 0 where
  pub held : TaskHeld s task
  pub valid : IsValid (task_at s task)
  pub bodies_are : AreFullBodies s (of_task (task_at s task)) (λ e. e) bodies

-- what was found for a symbol is its body, and the rule puts the full body for its uses
pub record IsFoundBody (s : List Tree) (v : Vocabulary) (f : Tree → Tree) (k : ℕ)
    (b : FullBody) : Type 0 where
  pub whole : Tree
  pub is_body : IsBody v k whole
  pub full : IsFull s whole b.full
  pub function : (zs ts ty : Tree) → f (Three (HFun k) zs ts ty) ≡ use_body whole zs ts
  pub predicate : (zs ts : Tree) → f (Two (HPred k) zs ts) ≡ use_body whole zs ts

-- nothing was found for a symbol, and the rule leaves its uses
pub record LeavesUses (f : Tree → Tree) (k : ℕ) : Type 0 where
  pub function : (zs ts ty : Tree) → f (Three (HFun k) zs ts ty) ≡ Three (HFun k) zs ts ty
  pub predicate : (zs ts : Tree) → f (Two (HPred k) zs ts) ≡ Two (HPred k) zs ts

abbrev pub IsFound : List Tree → Vocabulary → (Tree → Tree) → ℕ → Option FullBody → Type 0
IsFound s v f k (Some b) = IsFoundBody s v f k b
IsFound s v f k None = LeavesUses f k

-- a use of such a symbol, and what it becomes
pub record IsUseAt (s : List Tree) (r : RuleOver) (e : TermId) (at : SymbolUse) : Type 0 where
  pub whole : Tree
  pub full : IsFull s whole at.full
  pub below : (at.types.0 < e.0) × (at.args.0 < e.0)
  pub types : IsList Kind (tree_at s at.types)
  pub args : IsList Term (tree_at s at.args)
  pub typed : IsTypedSomewhere r (tree_at s at.args)
  pub sorts : HasSorts (inst_types whole (members (tree_at s at.types)))
  pub images : members (image r.rule (tree_at s at.args))
      ≡ map (image r.rule) (members (tree_at s at.args))
  pub becomes : image r.rule (tree_at s e)
      ≡ use_body whole (tree_at s at.types) (image r.rule (tree_at s at.args))

-- the use that a node is; else it becomes the node over the images of its parts
abbrev pub IsUseOr : List Tree → RuleOver → TermId → Option SymbolUse → Type 0
IsUseOr s r e (Some at) = IsUseAt s r e at
IsUseOr s r e None = image r.rule (tree_at s e) ≡ over_parts r.rule (tree_at s e)

-- ---- arguments
-- the number of what is put in for one argument
pub record IsArgument {S : Type 0} (r : RuleOver) (used : Bool) (e : Tree) (s : List Tree)
    (m : IndexMap ℕ TermId S) (id : TermId) : Type 0 where
  pub held : Holds s id
  pub sort : sort_of (tree_at s id) ≡ Term
  pub is : used ≡ true → tree_at s id ≡ image r.rule e
  pub known : AreImages r s m

-- the number of the list of what is put in for arguments
pub record AreArguments {S : Type 0} (r : RuleOver) (body : Tree) (ms : List Tree) (s : List Tree)
    (m : IndexMap ℕ TermId S) (id : TermId) : Type 0 where
  pub held : Holds s id
  pub list : IsList Term (tree_at s id)
  pub are : ArePutFor r.rule body ms (members (tree_at s id))
  pub known : AreImages r s m
