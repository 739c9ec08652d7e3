-- Sequents that end in a negation, and wider fronts, over drafts that have grown.
use Rattle.std.proofs.Common.{◌≡◌, ℕ, List, [], ◌∷◌, ◌++◌, All, sym, ap, subst, ◌∙◌, append_assoc}
use Rattle.std.proofs.lemmas.List.{map-append}
use Rattle.std.proofs.lemmas.List.Elements.{All-push}
use Rattle.trees.specs.declared.TermId.{TermId}
use Rattle.trees.specs.Tree.{Tree}
use Rattle.trees.specs.Node.{tree_at, Holds}
use Rattle.tasks.specs.Task.{neg}
use Rattle.tasks.specs.Valid.{IsGroundFormula}
use Rattle.tasks.specs.Meaning.{trees_at}
use Rattle.evidence.specs.Drafts.{DraftTree, Extends, Refutes, AreFormulas, IsFormulaAt}
use Rattle.evidence.proofs.Formulas.{same}

pub regroup : (d : DraftTree) (k : ℕ) (f t x : List Tree) → Refutes d k (f ++ (t ++ x)) → Refutes d k ((f ++ t) ++ x)
regroup d k f t x r = record { within = r.within; is = r.is ∙ sym (append_assoc f t x) }

-- a sequent that ends in a negation, by the trees of the earlier draft
pub end_back : (d d1 : DraftTree) (x : Extends d d1) (front : List TermId) (f : AreFormulas d front) (d2 : DraftTree) (k : ℕ) (n : TermId) (a : Tree) → tree_at d1.trees n ≡ neg a
    → Refutes d2 k (trees_at d1.trees front ++ trees_at d1.trees (n ∷ [])) → Refutes d2 k (trees_at d.trees front ++ neg a ∷ [])
end_back d d1 x front f d2 k n a e r =
    let b : trees_at d1.trees front ≡ trees_at d.trees front = same d d1 x front f in
    record { within = r.within; is = r.is ∙ cc (b, e) }

pub wider_formulas : (d : DraftTree) (front wider : List TermId) (a : TermId) → wider ≡ front ++ a ∷ [] → AreFormulas d front → IsFormulaAt d a → AreFormulas d wider
wider_formulas d front wider a e f g =
    let t : trees_at d.trees (front ++ a ∷ []) ≡ trees_at d.trees front ++ tree_at d.trees a ∷ [] = map-append (tree_at d.trees) front (a ∷ []) in
    let ground : All (IsGroundFormula d.task) (trees_at d.trees (front ++ a ∷ [])) = subst (All (IsGroundFormula d.task)) (sym t) (All-push (IsGroundFormula d.task) (trees_at d.trees front) (tree_at d.trees a) f.ground g.ground) in
    subst (AreFormulas d) (sym e) (record { held = All-push (Holds d.trees) front a f.held g.held; ground = ground })

pub wider_is : (d d1 : DraftTree) (x : Extends d d1) (front wider : List TermId) (a : TermId) → wider ≡ front ++ a ∷ [] → AreFormulas d front → IsFormulaAt d a
    → trees_at d1.trees wider ≡ trees_at d.trees front ++ tree_at d.trees a ∷ []
wider_is d d1 x front wider a e f g =
    let b : trees_at d1.trees front ≡ trees_at d.trees front = same d d1 x front f in
    let c : tree_at d1.trees a ≡ tree_at d.trees a = x.trees.same a.0 g.held in
    ap (trees_at d1.trees) e ∙ map-append (tree_at d1.trees) front (a ∷ []) ∙ cc (b, c)

pub neg_back : (d d1 : DraftTree) (x : Extends d d1) (front : List TermId) (f : AreFormulas d front) (a : TermId) (g : IsFormulaAt d a) (d2 : DraftTree) (k : ℕ)
    → Refutes d2 k (trees_at d1.trees front ++ neg (tree_at d1.trees a) ∷ []) → Refutes d2 k (trees_at d.trees front ++ neg (tree_at d.trees a) ∷ [])
neg_back d d1 x front f a g d2 k r =
    let e : trees_at d1.trees front ≡ trees_at d.trees front = same d d1 x front f in
    let h : tree_at d1.trees a ≡ tree_at d.trees a = x.trees.same a.0 g.held in
    record { within = r.within; is = r.is ∙ cc (e, h) }

pub neg_moved : (d d1 : DraftTree) (x : Extends d d1) (front : List TermId) (f : AreFormulas d front) (a : TermId) (g : IsFormulaAt d a) (d2 : DraftTree) (k : ℕ)
    → Refutes d2 k (trees_at d.trees front ++ neg (tree_at d.trees a) ∷ []) → Refutes d2 k (trees_at d1.trees front ++ neg (tree_at d1.trees a) ∷ [])
neg_moved d d1 x front f a g d2 k r =
    let e : trees_at d1.trees front ≡ trees_at d.trees front = same d d1 x front f in
    let h : tree_at d1.trees a ≡ tree_at d.trees a = x.trees.same a.0 g.held in
    record { within = r.within; is = r.is ∙ sym (cc (e, h)) }
