-- What a clone makes of a theory's declarations, one after the other, beside what is there (Why3
-- manual, "theory cloning").
use Rattle.std.specs.Prelude.{◌≡◌, ◌≢◌, ℕ, suc, if◌then◌else◌, false, List, [], ◌∷◌, ◌++◌, map, All}
use Rattle.std.specs.List.{Contains}
use Rattle.std.specs.Str.{bytes_eq}
use Rattle.elab_groups.specs.tasks.Task.{SymbolTree, symbol_or, DeclarationTree, made, made_by}
use Rattle.elab_groups.specs.tasks.Roles.{is_constructor, role_in}
use Rattle.elab_groups.specs.tasks.Vocabulary.{is_empty}
use Rattle.clones.specs.Mapped.{Map}
use Rattle.clones.specs.Copies.{declaration_copied}
use Rattle.elab_groups.specs.parts.Entries.{builtin}
use Rattle.elaboration_laws.specs.Lists.{after}
use Rattle.elaboration_laws.specs.Tasks.{AreSound}
use Rattle.elaboration_laws.specs.Joined.{has_theory, Agree}
use Rattle.elaboration_laws.specs.Cloning.{IsImage, BecomesNew, IsFixed, KeepsBuilt}

-- an own declaration is copied or left out; one of another theory is joined, unless declarations of
-- that theory are there
pub data CopyStep : Type 0 where
  copies : DeclarationTree → CopyStep
  leaves : DeclarationTree → CopyStep
  joins : DeclarationTree → CopyStep

abbrev pub declaration_of : CopyStep → DeclarationTree
declaration_of (copies d) = d
declaration_of (leaves d) = d
declaration_of (joins d) = d

abbrev pub declarations_of : List CopyStep → List DeclarationTree
declarations_of ss = map declaration_of ss

abbrev pub taken_of : List CopyStep → List DeclarationTree
taken_of [] = []
taken_of (copies d ∷ ss) = taken_of ss
taken_of (leaves d ∷ ss) = taken_of ss
taken_of (joins d ∷ ss) = d ∷ taken_of ss

-- by a map, for the theory that clones, under names of scopes
abbrev pub made_of : Map → List ℕ → List ℕ → List DeclarationTree → CopyStep → List DeclarationTree
made_of m theory within first (copies d) = declaration_copied m theory within d ∷ []
made_of m theory within first (leaves d) = []
made_of m theory within first (joins d) = if has_theory first d.theory then [] else d ∷ []

abbrev pub made_from : Map → List ℕ → List ℕ → List DeclarationTree → List CopyStep
    → List DeclarationTree
made_from m theory within first [] = []
made_from m theory within first (s ∷ ss) =
    made_of m theory within first s ++ made_from m theory within first ss

-- numbers one after another, from this one on
abbrev pub AreConsecutive : ℕ → List ℕ → Type 0
AreConsecutive n [] = Unit {0}
AreConsecutive n (k ∷ ks) = (k ≡ n) × AreConsecutive (suc n) ks

-- what a declaration makes becomes what is numbered so
abbrev pub BecomesNumbered : Map → DeclarationTree → Type 0
BecomesNumbered m d = (n : ℕ) × AreConsecutive n (map m.symbols (made_by d.body))

-- a symbol of a copied declaration is new, and they are numbered one after another; one that is
-- left out became a symbol that is there; one of another theory stays
abbrev pub StepFits : List SymbolTree → Map → List SymbolTree → List ℕ → List ℕ
    → List DeclarationTree → CopyStep → Type 0
StepFits xs m symbols theory within first (copies d) =
    All (λ (k : ℕ). BecomesNew xs symbols m theory within k
    × (Contains (made first) (m.symbols k) → ⊥)) (made_by d.body) × BecomesNumbered m d
StepFits xs m symbols theory within first (leaves d) =
    All (λ (k : ℕ). IsImage (after symbols [] first) m (symbol_or xs k) k
    (is_constructor (role_in k d.body))) (made_by d.body)
StepFits xs m symbols theory within first (joins d) =
    All (IsFixed m) (made_by d.body) × (d.theory ≢ theory)

-- sound declarations over a signature are cloned beside sound ones over a later signature
pub record IsClone (xs more : List SymbolTree) (m : Map) (theory within : List ℕ)
    (first : List DeclarationTree) (ss : List CopyStep) : Type 0 where
  pub source : AreSound xs (declarations_of ss)
  pub others : AreSound xs (taken_of ss)
  pub first_sound : AreSound (xs ++ more) first
  pub agree : Agree first (taken_of ss)
  pub named : is_empty theory ≡ false
  pub not_built : bytes_eq theory builtin ≡ false
  pub built : KeepsBuilt xs m
  pub fit : All (StepFits xs m (xs ++ more) theory within first) ss
