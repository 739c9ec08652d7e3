-- The laws of the crate, as statements.
use Rattle.std.specs.Prelude.{◌≡◌, ℕ, ◌+◌, ◌≤◌, ◌⊎◌, List, [], ◌∷◌, ◌++◌, map, length, Some}
use Rattle.trees.specs.declared.Sort.TheVariants.{Kind, Term}
use Rattle.trees.specs.Tree.{Tree, Two, Head, head_of, binders_over, loose, pat_vars, above_params}
use Rattle.trees.specs.Binding.{inst, inst_many, AreClosed, Bound}
use Rattle.trees.specs.Sorts.{WellSorted, sort_of, type_of, IsList}
use Rattle.tasks.specs.Task.{TaskTree}
use Rattle.tasks.specs.Vocabulary.{Vocabulary, of_task}
use Rattle.tasks.specs.Typing.{TypedUnder, bound_types}
use Rattle.tasks.specs.Valid.{IsGround}
use Rattle.tasks.specs.MatchTests.{test, bind}
use Rattle.tasks.specs.typed_trees.instances.Instances.{IsTermOf}
use Rattle.images.specs.Images.{image, KeepsTree, AllSorted, IsOtherHead, IsNodeRule}
use Rattle.images.specs.Open.{IsEnvironment, IsOpenUnder, IsAt}
use Rattle.images.specs.OpenTerms.{AreOpenFor, StaysTyped, HasOf}
use Rattle.images.specs.Templates.{IsClosedType, FillsNodes, StaysTypedOpen}

-- ---- images
-- a rule that keeps typing at one node keeps it of a whole tree
abbrev pub ImagesKeepTyping : Type 0
ImagesKeepTyping = (v : Vocabulary) (f : Tree → Tree) → IsNodeRule v f
    → (types : List Tree) (e : Tree) → TypedUnder v types e → AllSorted f e
    → KeepsTree v types e (image f e)

-- a type or a list of types is its own image under a rule for terms and formulas
abbrev pub TypesAreImages : Type 0
TypesAreImages = (f : Tree → Tree) → ((e : Tree) → IsOtherHead (head_of e) → f e ≡ e) → (e : Tree)
    → WellSorted e → (sort_of e ≡ Kind) ⊎ IsList Kind e → image f e ≡ e

-- ---- environments
-- an open tree at an environment is closed, typed and ground, and has parameters below the same
-- number
abbrev pub OpenTreesClose : Type 0
OpenTreesClose = (t : TaskTree) (types env : List Tree) (n : ℕ) → IsEnvironment t types env n
    → (e : Tree) → IsOpenUnder t types e n → IsOpenUnder t [] (inst_many e env) n

-- the body of a tree at an environment, with a closed term put in for its variable, is the body at
-- the environment with this term
abbrev pub BodiesAreAt : Type 0
BodiesAreAt =
    (t : TaskTree) (types env : List Tree) (n : ℕ) (h : Head) (a b l x y ty : Tree)
    → bound_types h a ≡ ty ∷ [] → binders_over h a ≡ 1 → IsAt t types env (Two h a b) l n
    → l ≡ Two h x y
    → (m : ℕ) (c z : Tree) → n ≤ m → IsTermOf (of_task t) ty c → IsGround c → above_params c ≤ m
    → z ≡ inst y c → IsAt t (ty ∷ types) (env ++ c ∷ []) b z m

-- ---- templates
-- a closed term put into an open tree that has the variable 0 for one of its own variables and
-- closed terms for the others
abbrev pub TemplatesFill : Type 0
TemplatesFill =
    (x : Tree) → loose x ≡ 0 → pat_vars x ≡ 0 → (e ty : Tree) (before following : List Tree)
    → loose e ≤ length before + (1 + length following) → AreClosed before → AreClosed following
    → inst (inst_many e (before ++ Bound 0 ty ∷ following)) x
    ≡ inst_many e (before ++ x ∷ following)

abbrev pub NodesFill : Type 0
NodesFill = (x ty : Tree) → loose x ≡ 0 → FillsNodes x ty

abbrev pub NodesStayTyped : Type 0
NodesStayTyped = (v : Vocabulary) (x ty : Tree) → IsClosedType v ty → sort_of x ≡ Term
    → type_of x ≡ Some ty → StaysTypedOpen v x ty

-- ---- open terms
-- one open term put into an open tree
abbrev pub OneStaysTyped : Type 0
OneStaysTyped =
    (v : Vocabulary) (types : List Tree) (ty t b : Tree) → sort_of t ≡ Term → type_of t ≡ Some ty
    → TypedUnder v types t → TypedUnder v (ty ∷ types) b
    → StaysTyped v types b (inst b t) × HasOf b t (inst b t)

-- as many as there are innermost variables
abbrev pub ManyStayTyped : Type 0
ManyStayTyped = (v : Vocabulary) (types tys ts : List Tree) → AreOpenFor v types tys ts → (b : Tree)
    → TypedUnder v (tys ++ types) b → StaysTyped v types b (inst_many b ts)

-- ---- patterns
abbrev pub TestsAreAt : Type 0
TestsAreAt = (t : TaskTree) (env : List Tree) (p s : Tree) → WellSorted p
    → inst_many (test t p s) env ≡ test t p (inst_many s env)

abbrev pub BindsAreAt : Type 0
BindsAreAt = (t : TaskTree) (env : List Tree) (p s : Tree) → WellSorted p
    → map (λ e. inst_many e env) (bind t p s) ≡ bind t p (inst_many s env)
