-- Steps of goals over drafts that have grown, and after a fault.
use Rattle.std.proofs.Common.{◌≡◌, ℕ, List, [], ◌∷◌, ◌++◌, ◌∙◌, Result, IsErrAnd, append_assoc}
use Rattle.std.proofs.lemmas.Result.{IfOk-weaker}
use Rattle.std.proofs.lemmas.List.Elements.{All-cons, All-nil}
use Rattle.std.specs.declared.alloc.AllocError.{AllocError}
use Rattle.tasks.specs.trees.declared.TermId.{TermId}
use Rattle.tasks.specs.trees.Tree.{Tree}
use Rattle.tasks.specs.Task.{neg}
use Rattle.tasks.specs.Meaning.{trees_at}
use Rattle.tasks.proofs.outside.Passed.{no_value}
use Rattle.evidence.specs.Drafts.{DraftTree, Extends, Refutes, AreFormulas, IsFormulaAt}
use Rattle.evidence.specs.Laws.{Extends_trans}
use Rattle.evidence.proofs.Formulas.{same, formulas_later}
use Rattle.evidence.proofs.Ends.{neg_back}
use Rattle.evidence.specs.declared.proof_scripts.line.Line.{Line}
use Rattle.evidence.specs.proof_scripts.Scripts.{LineHeld, LinesHeld}
use Rattle.tr_split.specs.Gluing.{CanGlue, RefutesGoal, IsGlued, IsGoalOpened}

-- nothing was made
pub glued_none : (d d1 : DraftTree) (front : List TermId) (goal : TermId) (r : Result ℕ AllocError) (Q : AllocError → Type 0) → Extends d d1 → IsErrAnd r Q → IsGlued d d1 front goal r
glued_none d d1 front goal r Q x h = record { refutes = no_value (RefutesGoal d d1 front goal) Q r h; grows = x }

-- what is said of the later draft, by the trees of the earlier one
module _ (d d1 : DraftTree) (x : Extends d d1) (front : List TermId) (f : AreFormulas d front) (goal : TermId) (g : IsFormulaAt d goal) where
  pub refutes_before : (d2 : DraftTree) (k : ℕ) → RefutesGoal d1 d2 front goal k → RefutesGoal d d2 front goal k
  refutes_before d2 k r = neg_back d d1 x front f goal g d2 k r

  pub glued_before : (d2 : DraftTree) (r : Result ℕ AllocError) → IsGlued d1 d2 front goal r → IsGlued d d2 front goal r
  glued_before d2 r h = record { refutes = IfOk-weaker r (RefutesGoal d1 d2 front goal) (RefutesGoal d d2 front goal) (λ k q. refutes_before d2 k q) h.refutes; grows = Extends_trans d d1 d2 x h.grows }

-- the end of a goal, by equal trees
pub end_trees : (d : DraftTree) (k : ℕ) {f g : List Tree} {a b : Tree} → f ≡ g → a ≡ b → Refutes d k (f ++ neg a ∷ []) → Refutes d k (g ++ neg b ∷ [])
end_trees d k e q r = record { within = r.within; is = r.is ∙ cc (e, q) }

pub regroup_back : (d : DraftTree) (k : ℕ) (f : List Tree) (a b : Tree) → Refutes d k ((f ++ a ∷ []) ++ neg b ∷ []) → Refutes d k (f ++ a ∷ neg b ∷ [])
regroup_back d k f a b r = record { within = r.within; is = r.is ∙ append_assoc f (a ∷ []) (neg b ∷ []) }

-- what a goal is opened to can be glued
pub opened_can : (d d1 : DraftTree) (x : Extends d d1) (front : List TermId) (f : AreFormulas d front) (e : Tree) (n m : ℕ) (id : TermId) (made ends : List ℕ) → m ≡ n → ends ≡ made → IsGoalOpened d d1 front e n id made → CanGlue d1 front id m ends
opened_can d d1 x front f e n m id made ends p q o =
    let b : trees_at d1.trees front ≡ trees_at d.trees front = same d d1 x front f in
    record {
      front = formulas_later d d1 x front f;
      goal = o.formula;
      below = rw (b, o.is, p) o.below;
      ends = rw (b, o.is, q) o.ends;
    }

-- the lines of a script one by one
abbrev pub EachHeld : DraftTree → List Line → Type 0
EachHeld d [] = Unit {0}
EachHeld d (l ∷ ls) = LineHeld d l × EachHeld d ls

pub lines_held : (d : DraftTree) (ls : List Line) → EachHeld d ls → LinesHeld d ls
lines_held d [] h = All-nil (LineHeld d)
lines_held d (l ∷ ls) h = All-cons (LineHeld d) l ls h.0 (lines_held d ls h.1)
