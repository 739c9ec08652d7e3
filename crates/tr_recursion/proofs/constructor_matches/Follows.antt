-- The scripts of the crate, at the trees of their formulas.
use Rattle.std.proofs.Common.{◌≡◌, ℕ, List, [], ◌∷◌, ◌++◌, Some, slice_get, refl, sym, ap, subst, ◌∙◌}
use Rattle.std.proofs.lemmas.List.Elements.{All-nil}
use Rattle.trees.specs.declared.Sort.TheVariants.{Term}
use Rattle.trees.specs.Tree.{Tree, Leaf, Two, Three, HEnd, HCell, HFun}
use Rattle.trees.specs.Sorts.{sort_of}
use Rattle.tasks.specs.Task.{neg}
use Rattle.tasks.specs.Valid.{IsTypeOver}
use Rattle.congruence.specs.kernel.Right.{IsGroundExpression}
use Rattle.congruence.specs.kernel.rules.Forms.{equal, alike}
use Rattle.congruence.specs.kernel.rules.Rows.{IsRuleRow}
use Rattle.congruence.specs.kernel.rules.Trees.{RClash, RNotNot, RDistinct, RProject}
use Rattle.evidence.specs.Drafts.{DraftTree, Refutes}
use Rattle.evidence.proofs.Rules.{distinct_row, project_row}
use Rattle.evidence.specs.proof_scripts.Scripts.{KeptLine, CutLine, TailLine, MadeLine, Follows, IsOfTail, IsByRule}
use Rattle.evidence.proofs.proof_scripts.Lines.{clash_line, not_not_line}
use Rattle.congruence.proofs.Scripts.{claim_equal}
use Rattle.tr_recursion.specs.constructor_matches.Fields.{IsFieldOf}
use Rattle.tr_recursion.specs.constructor_matches.Asked.{AreOtherConstructors}

module _ (d : DraftTree) where
  pub under_follows : (goal h a : Tree) (value lemma : ℕ) → goal ≡ neg a → Refutes d value (h ∷ neg a ∷ []) → Refutes d lemma (neg h ∷ [])
      → Follows d [] (CutLine h ∷ KeptLine value (1 ∷ 0 ∷ []) ∷ KeptLine lemma (1 ∷ []) ∷ []) ((goal ∷ []) ∷ [])
  under_follows goal h a value lemma g r q =
      subst (λ (z : Tree). Follows d [] (CutLine h ∷ KeptLine value (1 ∷ 0 ∷ []) ∷ KeptLine lemma (1 ∷ []) ∷ []) ((z ∷ []) ∷ [])) (sym g)
      (record { kept = h ∷ neg a ∷ []; are = refl; refutes = r }, (record { kept = neg h ∷ []; are = refl; refutes = q }, tt))

  distinct_line : (s : List Tree) (e : Tree) → slice_get s 1 ≡ Some e → AreOtherConstructors d.task e → IsOfTail d.task s (RDistinct 1)
  distinct_line s e p o = record {
    names = record { trees = tt; types = All-nil (IsTypeOver d.task 0) };
    row = distinct_row d.task s 1 o.one o.two o.one_types o.one_args o.one_type o.two_types o.two_args o.two_type (p ∙ ap (λ (z : Tree). Some z) o.is) o.one_made o.two_made o.differ;
  }

  pub other_follows : (goal e : Tree) → goal ≡ neg (neg e) → AreOtherConstructors d.task e → Follows d [] (TailLine (RNotNot 0) ∷ TailLine (RDistinct 1) ∷ []) ((goal ∷ []) ∷ [])
  other_follows goal e g o =
      subst (λ (z : Tree). Follows d [] (TailLine (RNotNot 0) ∷ TailLine (RDistinct 1) ∷ []) ((z ∷ []) ∷ [])) (sym g)
      (not_not_line d.task (neg (neg e) ∷ []) 0 e refl, tt, (distinct_line (neg (neg e) ∷ e ∷ []) e refl o, tt, tt))

  field_line : (s : List Tree) (p z : Tree) → IsGroundExpression d.task p → sort_of p ≡ Term → IsFieldOf d.task p z → IsByRule d.task s (RProject p) ((alike p z ∷ []) ∷ [])
  field_line s p z g k f = record {
    names = record { trees = (g, tt); types = All-nil (IsTypeOver d.task 0) };
    row = subst (λ (e : Tree). IsRuleRow d.task s (RProject p) ((s ++ e ∷ []) ∷ [])) (sym (claim_equal p z k)) (by_shape p f.is);
  }
    where
      by_shape : (p : Tree) → p ≡ Three (HFun f.projection) f.types (Two HCell (Three (HFun f.con.symbol) f.con_types f.args f.con_type) (Leaf HEnd)) f.result → IsRuleRow d.task s (RProject p) ((s ++ equal p z ∷ []) ∷ [])
      by_shape p e = subst (λ (q : Tree). IsRuleRow d.task s (RProject q) ((s ++ equal q z ∷ []) ∷ [])) (sym e) (project_row d.task s f.projection f.place f.con f.types (Leaf HEnd) f.result f.con_types f.args f.con_type z f.role f.there)

  pub field_follows : (goal p z : Tree) → goal ≡ neg (equal p z) → IsGroundExpression d.task p → sort_of p ≡ Term → IsFieldOf d.task p z → Follows d [] (MadeLine (RProject p) (alike p z) ∷ TailLine (RClash 1 0) ∷ []) ((goal ∷ []) ∷ [])
  field_follows goal p z e g k f =
      subst (λ (x : Tree). Follows d [] (MadeLine (RProject p) (alike p z) ∷ TailLine (RClash 1 0) ∷ []) ((x ∷ []) ∷ [])) (sym e)
      (field_line (neg (equal p z) ∷ []) p z g k f, (clash_line d.task (neg (equal p z) ∷ alike p z ∷ []) 1 0 (alike p z) refl (ap (λ (x : Tree). Some (neg x)) (sym (claim_equal p z k))), tt, tt))
