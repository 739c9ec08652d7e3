-- The formulas of a disjunction that is nested to the right, steps for each of them, and the cases of a term.
use Rattle.std.specs.List.{Contains}
use Rattle.std.proofs.Common.{◌≡◌, ℕ, List, [], ◌∷◌, ◌++◌, map, inl, inr, refl, sym, ap, subst, ◌∙◌, append_assoc}
use Rattle.tasks.specs.trees.declared.TermId.{TermId}
use Rattle.tasks.specs.trees.declared.Op.TheVariants.{Or}
use Rattle.tasks.specs.trees.Tree.{Tree, Two, HJoin}
use Rattle.tasks.specs.trees.Node.{tree_at}
use Rattle.tasks.specs.Task.{TaskTree, ConstructorTree, neg}
use Rattle.tasks.specs.MatchTests.{rebuilt}
use Rattle.tasks.specs.Valid.{IsGroundFormula}
use Rattle.kernel.specs.rules.Forms.{equal}
use Rattle.kernel.specs.rules.Trees.{RCase}
use Rattle.evidence.specs.Drafts.{DraftTree, Extends, Refutes, RefuteAll, IsFormulaAt}
use Rattle.evidence.specs.Rules.{RefuteAdded}
use Rattle.evidence.proofs.FactNames.{first_or_rest, rest_contains}
use Rattle.evidence.proofs.Formulas.{formula_later}
use Rattle.evidence.proofs.Rules.{case_row}
use Rattle.evidence.proofs.proof_scripts.Following.{refute_later}
use Rattle.tr_algebraic.specs.law_evidence.Shapes.{disjuncts, cases_at, HasCasesOf}
use Rattle.tr_algebraic.specs.law_evidence.CaseSteps.{AreDisjunctionParts, IsPartOf, with_each, MakeCases}

-- ---- the formulas after the first
module _ (d : DraftTree) (e first rest : TermId) (f : IsFormulaAt d e) (p : AreDisjunctionParts d.trees e first rest) where
  both : IsGroundFormula d.task (Two (HJoin Or) (tree_at d.trees first) (tree_at d.trees rest))
  both = subst (IsGroundFormula d.task) p.is f.ground

  pub rest_formula : IsFormulaAt d rest
  rest_formula = record { held = p.rest_held; ground = record { sort = both.typed.0.0.1; typed = both.typed.3; ground = both.ground.1 } }

module _ (s : List Tree) (e first rest : TermId) (p : AreDisjunctionParts s e first rest) where
  are_disjuncts : disjuncts (tree_at s e) ≡ tree_at s first ∷ disjuncts (tree_at s rest)
  are_disjuncts = ap disjuncts p.is

  pub rest_among : (c : Tree) → Contains (disjuncts (tree_at s rest)) c → Contains (disjuncts (tree_at s e)) c
  rest_among c m = subst (λ (z : List Tree). Contains z c) (sym are_disjuncts) (rest_contains c (tree_at s first) (disjuncts (tree_at s rest)) m)

  pub among_rest : (c : Tree) → Contains (disjuncts (tree_at s e)) c → (tree_at s first ≡ c → ⊥) → Contains (disjuncts (tree_at s rest)) c
  among_rest c m n = elim (first_or_rest c (tree_at s first) (disjuncts (tree_at s rest)) (subst (λ (z : List Tree). Contains z c) are_disjuncts m)) [
    | inl q ↦ absurd (n q)
    | inr r ↦ r
  ]

-- ---- a part of a disjunction
pub rest_part : (d : DraftTree) (whole part first rest : TermId) → IsPartOf d whole part → AreDisjunctionParts d.trees part first rest → IsPartOf d whole rest
rest_part d whole part first rest p q = record {
  formula = rest_formula d part first rest p.formula q;
  among = λ c m. p.among c (rest_among d.trees part first rest q c m);
}

pub part_later : (d d1 : DraftTree) (x : Extends d d1) (whole part : TermId) → IsFormulaAt d whole → IsPartOf d whole part → IsPartOf d1 whole part
part_later d d1 x whole part f p = record {
  formula = formula_later d d1 x part p.formula;
  among = λ c m. subst (λ (z : Tree). Contains (disjuncts z) c) (sym (x.trees.same whole.0 f.held)) (p.among c (subst (λ (z : Tree). Contains (disjuncts z) c) (x.trees.same part.0 p.formula.held) m));
}

-- ---- steps
refute_push : (d : DraftTree) (ks : List ℕ) (k : ℕ) (qs : List (List Tree)) (q : List Tree) → RefuteAll d ks qs → Refutes d k q → RefuteAll d (ks ++ k ∷ []) (qs ++ q ∷ [])
refute_push d [] k [] q r s = (s, tt)
refute_push d [] k (p ∷ qs) q r s = absurd r
refute_push d (j ∷ ks) k [] q r s = absurd r
refute_push d (j ∷ ks) k (p ∷ qs) q r s = (r.0, refute_push d ks k qs q r.1 s)

pub cases_one : (d d1 : DraftTree) (x : Extends d d1) (whole part : TermId) (old pushed : List ℕ) (k : ℕ) → pushed ≡ old ++ k ∷ [] → disjuncts (tree_at d.trees part) ≡ tree_at d.trees part ∷ []
    → Refutes d1 k (neg (tree_at d.trees whole) ∷ tree_at d.trees part ∷ []) → MakeCases d d1 whole part old pushed
cases_one d d1 x whole part old pushed k e q s done r =
    subst (λ (z : List Tree). RefuteAll d1 pushed (done ++ with_each (tree_at d.trees whole) z)) (sym q) (subst (λ (z : List ℕ). RefuteAll d1 z (done ++ with_each (tree_at d.trees whole) (tree_at d.trees part ∷ []))) (sym e) (refute_push d1 old k done (neg (tree_at d.trees whole) ∷ tree_at d.trees part ∷ []) (refute_later d d1 x old done r) s))

pub cases_more : (d d1 d2 : DraftTree) (x : Extends d d1) (whole part first rest : TermId) (old pushed new : List ℕ) (k : ℕ) → pushed ≡ old ++ k ∷ [] → IsFormulaAt d whole → AreDisjunctionParts d.trees part first rest
    → Refutes d1 k (neg (tree_at d.trees whole) ∷ tree_at d.trees first ∷ []) → MakeCases d1 d2 whole rest pushed new → MakeCases d d2 whole part old new
cases_more d d1 d2 x whole part first rest old pushed new k e f p s m done r =
    let q : List Tree = neg (tree_at d.trees whole) ∷ tree_at d.trees first ∷ [] in
    let W : List (List Tree) = with_each (tree_at d.trees whole) (disjuncts (tree_at d.trees rest)) in
    let same : with_each (tree_at d1.trees whole) (disjuncts (tree_at d1.trees rest)) ≡ W =
    ap (λ (z : Tree). with_each z (disjuncts (tree_at d1.trees rest))) (x.trees.same whole.0 f.held) ∙ ap (λ (z : Tree). with_each (tree_at d.trees whole) (disjuncts z)) (x.trees.same rest.0 p.rest_held) in
    let here : RefuteAll d1 pushed (done ++ q ∷ []) = subst (λ (z : List ℕ). RefuteAll d1 z (done ++ q ∷ [])) (sym e) (refute_push d1 old k done q (refute_later d d1 x old done r) s) in
    let all : RefuteAll d2 new ((done ++ q ∷ []) ++ with_each (tree_at d1.trees whole) (disjuncts (tree_at d1.trees rest))) = m (done ++ q ∷ []) here in
    let joined : (done ++ q ∷ []) ++ with_each (tree_at d1.trees whole) (disjuncts (tree_at d1.trees rest)) ≡ done ++ with_each (tree_at d.trees whole) (disjuncts (tree_at d.trees part)) =
    ap (λ (z : List (List Tree)). (done ++ q ∷ []) ++ z) same ∙ append_assoc done (q ∷ []) W ∙ ap (λ (z : List Tree). done ++ with_each (tree_at d.trees whole) z) (sym (are_disjuncts d.trees part first rest p)) in
    subst (RefuteAll d2 new) joined all

-- ---- the cases of a term
each_case : (t : TaskTree) (types x w : Tree) (cs : List ConstructorTree)
    → with_each w (cases_at t types cs x) ≡ map (λ (z : List Tree). (neg w ∷ []) ++ z) (map (λ (c : ConstructorTree). equal x (rebuilt t c.symbol c.projections types x) ∷ []) cs)
each_case t types x w [] = refl
each_case t types x w (c ∷ cs) = ap (λ (z : List (List Tree)). (neg w ∷ equal x (rebuilt t c.symbol c.projections types x) ∷ []) ∷ z) (each_case t types x w cs)

pub cases_added : (d : DraftTree) (x w : Tree) (s : List Tree) (steps : List ℕ) → s ≡ neg w ∷ [] → HasCasesOf d.task x w → RefuteAll d steps (with_each w (disjuncts w)) → RefuteAdded d s (RCase x) steps
cases_added d x w s steps q h r =
    subst (λ (z : List Tree). RefuteAdded d z (RCase x) steps) (sym q) (record {
      sequents = map (λ (z : List Tree). (neg w ∷ []) ++ z) (map (λ (c : ConstructorTree). equal x (rebuilt d.task c.symbol c.projections h.types x) ∷ []) h.cons);
      refuted = subst (RefuteAll d steps) (ap (with_each w) h.cases ∙ each_case d.task h.types x w h.cons) r;
      row = case_row d.task (neg w ∷ []) x h.types h.symbol h.cons h.type h.made;
    })
