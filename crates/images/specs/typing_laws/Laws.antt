-- The laws of the crate, as statements.
use Rattle.std.specs.Prelude.{◌≡◌, ℕ, ◌≤◌, List, [], ◌++◌, map, get_or}
use Rattle.trees.specs.Tree.{Tree, size}
use Rattle.trees.specs.Binding.{inst_types, inst_many, TyVar}
use Rattle.tasks.specs.Vocabulary.{Vocabulary}
use Rattle.tasks.specs.Typing.{TypedUnder}
use Rattle.tasks.proofs.TypeInstances.{IsSoundVocabulary}
use Rattle.images.specs.Images.{image}
use Rattle.images.specs.typing_laws.HasTyping.{HasTyping, IsTypeAt, AreTermsFor, KeepsTyping, IsTypedRule}

-- a typed tree has its typing
abbrev pub TypedHasTyping : Type 0
TypedHasTyping =
    (v : Vocabulary) (types : List Tree) (e : Tree) → TypedUnder v types e → HasTyping v types e

-- and a closed tree with its typing, of no more nodes than a stage allows, is typed
abbrev pub SmallIsTyped : Type 0
SmallIsTyped = (v : Vocabulary) (e : Tree) → HasTyping v [] e → size e ≤ 1048576 → TypedUnder v [] e

-- types put in, which may have type variables themselves
abbrev pub TypesKeepTyping : Type 0
TypesKeepTyping =
    (v : Vocabulary) → IsSoundVocabulary v → (tys : List Tree)
    → ((j : ℕ) → IsTypeAt v (get_or tys j (TyVar j))) → (types : List Tree) (e : Tree)
    → HasTyping v types e
    → HasTyping v (map (λ a. inst_types a tys) types) (inst_types e tys)

-- open terms put in for the innermost variables
abbrev pub TermsKeepTyping : Type 0
TermsKeepTyping = (v : Vocabulary) (types tys ts : List Tree) → AreTermsFor v types tys ts
    → (b : Tree) → HasTyping v (tys ++ types) b → HasTyping v types (inst_many b ts)

-- the image under a rule that keeps typing at one node
abbrev pub ImagesHaveTyping : Type 0
ImagesHaveTyping = (v : Vocabulary) (f : Tree → Tree) → IsTypedRule v f
    → (types : List Tree) (e : Tree) → HasTyping v types e → KeepsTyping v types e (image f e)

-- where the rule at the type instance of a typed node is the instance of the rule there, so it is
-- of images
abbrev pub ImagesAtTypes : Type 0
ImagesAtTypes =
    (v : Vocabulary) (f : Tree → Tree) → IsTypedRule v f → (ys : List Tree)
    → ((j : ℕ) → IsTypeAt v (get_or ys j (TyVar j)))
    → ((types : List Tree) (e : Tree) → HasTyping v types e
    → f (inst_types e ys) ≡ inst_types (f e) ys)
    → (types : List Tree) (e : Tree) → HasTyping v types e
    → image f (inst_types e ys) ≡ inst_types (image f e) ys
