-- The sides of a goal, and the ends of its parts.
use Rattle.std.proofs.Common.{◌≡◌, ℕ, ◌<◌, ◌≤◌, ◌+◌, ◌-◌, List, [], ◌∷◌, ◌++◌, length, get_or, drop, min, sym, ap, subst, ◌∙◌, arith}
use Rattle.std.proofs.lemmas.List.{length-append, get_or-append-add, get_or-drop, length-drop}
use Rattle.trees.specs.declared.TermId.{TermId}
use Rattle.trees.specs.Tree.{Tree, Leaf, Two, HEnd, HJoin}
use Rattle.trees.specs.Node.{tree_at}
use Rattle.tasks.specs.Task.{neg}
use Rattle.tasks.specs.Valid.{IsGroundFormula}
use Rattle.tasks.specs.Meaning.{trees_at}
use Rattle.evidence.specs.Drafts.{DraftTree, Extends, Refutes, AreFormulas, IsFormulaAt}
use Rattle.evidence.proofs.Rules.{refutes_later}
use Rattle.evidence.proofs.Formulas.{same}
use Rattle.trees.specs.declared.Op.{Op}
use Rattle.tr_split.specs.parts.Parts.{Joins}
use Rattle.tr_split.specs.parts.Glue.{EndsOfParts}

-- the sides of a formula that joins two are formulas of sequents
pub record Sides (d : DraftTree) (a b : TermId) : Type 0 where
  pub left : IsFormulaAt d a
  pub right : IsFormulaAt d b

pub sides_of : (d : DraftTree) (id : TermId) (op : Op) (a b : TermId) → Joins d.trees id op a b → IsFormulaAt d id → Sides d a b
sides_of d id op a b j f =
    let g : IsGroundFormula d.task (Two (HJoin op) (tree_at d.trees a) (tree_at d.trees b)) = subst (IsGroundFormula d.task) j.tree f.ground in
    let l : a.0 < id.0 = j.below.0 in
    let k : b.0 < id.0 = j.below.1 in
    record {
      left = record { held = omega (arith, f.held); ground = record { sort = j.left; typed = g.typed.2; ground = g.ground.0 } };
      right = record { held = omega (arith, f.held); ground = record { sort = j.right; typed = g.typed.3; ground = g.ground.1 } };
    }

pub ends_later : (d d1 : DraftTree) (x : Extends d d1) (front : List TermId) (f : AreFormulas d front) (ends : List ℕ) (parts : List Tree) → EndsOfParts d ends (trees_at d.trees front) parts → EndsOfParts d1 ends (trees_at d1.trees front) parts
ends_later d d1 x front f ends parts u = record {
  as_many = u.as_many;
  each = λ i h. let q = refutes_later d d1 x (get_or ends i 0) _ (u.each i h) in
      record { within = q.within; is = q.is ∙ ap (λ (z : List Tree). z ++ neg (get_or parts i (Leaf HEnd)) ∷ []) (sym (same d d1 x front f)) };
}

pub ends_right : (d : DraftTree) (ends second : List ℕ) (front xs ys : List Tree) (n : ℕ) → EndsOfParts d ends front (xs ++ ys) → second ≡ drop n ends → n ≡ length xs → EndsOfParts d second front ys
ends_right d ends second front xs ys n u e l =
    let m : length ends ≡ length xs + length ys = u.as_many ∙ length-append xs ys in
    let k : length (drop n ends) ≡ length ends - n = length-drop n ends in
    record {
      as_many = ap length e ∙ k ∙ omega arith;
      each = λ i h.
          let a : get_or second i 0 ≡ get_or ends (length xs + i) 0 = ap (λ (z : List ℕ). get_or z i 0) e ∙ get_or-drop n ends i 0 ∙ ap (λ (z : ℕ). get_or ends (z + i) 0) l in
          let b : get_or (xs ++ ys) (length xs + i) (Leaf HEnd) ≡ get_or ys i (Leaf HEnd) = get_or-append-add xs ys i (Leaf HEnd) in
          let r = u.each (length xs + i) (omega (arith, length-append xs ys)) in
          subst (λ (z : Tree). Refutes d (get_or second i 0) (front ++ neg z ∷ [])) b (subst (λ (z : ℕ). Refutes d z (front ++ neg (get_or (xs ++ ys) (length xs + i) (Leaf HEnd)) ∷ [])) (sym a) r);
    }

pub count_is : (n m k : ℕ) → n ≡ min m 18446744073709551615 → m ≤ k → k < 18446744073709551616 → n ≡ m
count_is n m k e l h = omega arith
