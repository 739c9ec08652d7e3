-- Facts about a place, said of an equal one.
use Rattle.std.proofs.Common.{◌≡◌, ℕ, Bool, List, [], Option, None, sym, ap, subst, Err}
use Rattle.tasks.specs.trees.Tree.{Tree}
use Rattle.surface.specs.Lexeme.{Word}
use Rattle.name_resolution.specs.scopes.declared.Table.{Table}
use Rattle.name_resolution.specs.scopes.Names.{ScopeNames}
use Rattle.name_resolution.specs.Abstract.{Expression}
use Rattle.name_resolution.specs.Naming.{Tells, scope_at}
use Rattle.name_resolution.specs.Where.{Where}
use Rattle.name_resolution.specs.declared.NamingFault.{NamingFault}
use Rattle.elab_groups.specs.open_types.Pieces.{piece}
use Rattle.elab_groups.specs.declared.parts.solution.TypingFault.{TypingFault}
use Rattle.elab_groups.specs.parts.Declarations.{Made, made_fault}
use Rattle.elab_groups.specs.parts.Elaborated.{IsSolved, IsTypingFault}
use Rattle.elab_groups.specs.parts.Outcomes.{declared_in}
use Rattle.elab_groups.proofs.parts.AtScope.{declared_at}

pub solved_over : (w v : Where) (m n : ℕ) (e : Expression) (tree : Tree) (ms : List (ℕ × List Tree)) → w ≡ v → m ≡ n → IsSolved m (piece w [] m None e) tree ms → IsSolved n (piece v [] n None e) tree ms
solved_over w v m n e tree ms p q h = subst (λ (x : Where). IsSolved n (piece x [] n None e) tree ms) p (subst (λ (k : ℕ). IsSolved k (piece w [] k None e) tree ms) q h)

pub fault_over : (w v : Where) (m n : ℕ) (e : Expression) (f : TypingFault) → w ≡ v → m ≡ n → IsTypingFault m (piece w [] m None e).notes f → IsTypingFault n (piece v [] n None e).notes f
fault_over w v m n e f p q h = subst (λ (x : Where). IsTypingFault n (piece x [] n None e).notes f) p (subst (λ (k : ℕ). IsTypingFault k (piece w [] k None e).notes f) q h)

-- the first fault of names that are made, over the scopes of definitions
module _ (s : List Tree) (names : ScopeNames) (ms : List Made) where
  pub made_at : made_fault (declared_in (scope_at s names)) [] ms ≡ made_fault (declared_in names) [] ms
  made_at = ap (λ (d : Table → Word → Bool). made_fault d [] ms) (declared_at s names)

  pub told_at : (f : NamingFault) → Tells (Err f) (made_fault (declared_in names) [] ms) → Tells (Err f) (made_fault (declared_in (scope_at s names)) [] ms)
  told_at f h = subst (λ (m : Option NamingFault). Tells (Err f) m) (sym made_at) h
