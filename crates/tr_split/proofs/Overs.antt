-- What parts are under, over drafts that have grown, and the ends of all the parts.
use Rattle.std.proofs.Common.{◌≡◌, ℕ, ◌<◌, ◌≤◌, List, [], ◌∷◌, ◌++◌, length, map, get_or, refl, sym, ap, subst, ◌∙◌, arith}
use Rattle.std.proofs.lemmas.List.{length-map, get_or-map}
use Rattle.tasks.specs.trees.declared.TermId.{TermId}
use Rattle.tasks.specs.trees.Tree.{Tree, Leaf, Two, HEnd, HForall, HLet}
use Rattle.tasks.specs.trees.Node.{tree_at}
use Rattle.tasks.specs.trees.Binding.{inst}
use Rattle.tasks.specs.Task.{TaskTree, neg}
use Rattle.tasks.specs.Vocabulary.{of_task}
use Rattle.tasks.specs.Valid.{VariablesBelow}
use Rattle.tasks.specs.Meaning.{trees_at}
use Rattle.evidence.specs.Drafts.{DraftTree, Extends, Refutes, AreFormulas}
use Rattle.evidence.specs.Stages.{HaveSequents}
use Rattle.evidence.proofs.Rules.{refutes_later}
use Rattle.evidence.proofs.Formulas.{same, formula_later}
use Rattle.tasks.specs.typed_trees.instances.Instances.{IsTermOf, IsClosedTerm}
use Rattle.tr_split.specs.parts.Split.{imp}
use Rattle.tr_split.specs.parts.Glue.{EndsOfParts, sequent_of_part}
use Rattle.tr_split.specs.declared.over.Over.{Over}
use Rattle.tr_split.specs.declared.over.Over.TheVariants as stands
use Rattle.evidence.specs.proof_scripts.Added.{IsClosedTermAt}
use Rattle.tr_split.specs.Over.{OverHeld, whole_of, inner_of, extra_of}

module _ (d d1 : DraftTree) (x : Extends d d1) where
  term_later : (ty : Tree) (id : TermId) → IsClosedTermAt d ty id → IsClosedTermAt d1 ty id
  term_later ty id t =
      let e : tree_at d1.trees id ≡ tree_at d.trees id = x.trees.same id.0 t.held in
      record {
        held = omega (arith, x.trees.longer, t.held);
        closed = subst IsClosedTerm (sym e) t.closed;
        term = subst (λ (z : Tree). IsTermOf (of_task d1.task) ty z) (sym e) (subst (λ (u : TaskTree). IsTermOf (of_task u) ty (tree_at d.trees id)) (sym x.task) t.term);
        variables = subst (VariablesBelow 0) (sym e) t.variables;
      }

  pub over_later : (o : Over) → OverHeld d o → OverHeld d1 o
  over_later (stands.Hypothesis h) f = formula_later d d1 x h f
  over_later (stands.Universal ty t) f =
      let e : tree_at d1.trees ty ≡ tree_at d.trees ty = x.trees.same ty.0 f.0 in
      (omega (arith, x.trees.longer, f.0), subst (λ (z : Tree). IsClosedTermAt d1 z t) (sym e) (term_later (tree_at d.trees ty) t f.1))
  over_later (stands.Value v) f = record { ty = f.ty; term = term_later f.ty v f.term }

  pub whole_later : (o : Over) → OverHeld d o → (a : Tree) → whole_of d1.trees o a ≡ whole_of d.trees o a
  whole_later (stands.Hypothesis h) f a = let e : tree_at d1.trees h ≡ tree_at d.trees h = x.trees.same h.0 f.held in ap (λ (z : Tree). imp z a) e
  whole_later (stands.Universal ty t) f a = let e : tree_at d1.trees ty ≡ tree_at d.trees ty = x.trees.same ty.0 f.0 in ap (λ (z : Tree). Two HForall z a) e
  whole_later (stands.Value v) f a = let e : tree_at d1.trees v ≡ tree_at d.trees v = x.trees.same v.0 f.term.held in ap (λ (z : Tree). Two HLet z a) e

  pub inner_later : (o : Over) → OverHeld d o → (a : Tree) → inner_of d1.trees o a ≡ inner_of d.trees o a
  inner_later (stands.Hypothesis h) f a = refl
  inner_later (stands.Universal ty t) f a = let e : tree_at d1.trees t ≡ tree_at d.trees t = x.trees.same t.0 f.1.held in ap (inst a) e
  inner_later (stands.Value v) f a = let e : tree_at d1.trees v ≡ tree_at d.trees v = x.trees.same v.0 f.term.held in ap (inst a) e

  pub extra_later : (o : Over) → OverHeld d o → extra_of d1.trees o ≡ extra_of d.trees o
  extra_later (stands.Hypothesis h) f = let e : tree_at d1.trees h ≡ tree_at d.trees h = x.trees.same h.0 f.held in ap (λ (z : Tree). z ∷ []) e
  extra_later (stands.Universal ty t) f = refl
  extra_later (stands.Value v) f = refl

  -- the end of a part, over the draft that has grown
  pub whole_end : (front : List TermId) (f : AreFormulas d front) (o : Over) (g : OverHeld d o) (ends : List ℕ) (parts : List Tree) (i : ℕ) → EndsOfParts d ends (trees_at d.trees front) (map (whole_of d.trees o) parts) → i < length ends
      → Refutes d1 (get_or ends i 0) (trees_at d1.trees front ++ neg (whole_of d1.trees o (get_or parts i (Leaf HEnd))) ∷ [])
  whole_end front f o g ends parts i u l =
      let W = whole_of d.trees o in
      let p : Tree = get_or parts i (Leaf HEnd) in
      let n : length (map W parts) ≡ length parts = length-map parts W in
      let m : i < length parts = omega (arith, u.as_many) in
      let r = u.each i (omega arith) in
      let e : get_or (map W parts) i (Leaf HEnd) ≡ W p = get_or-map W parts i (Leaf HEnd) (Leaf HEnd) m in
      let a : trees_at d1.trees front ≡ trees_at d.trees front = same d d1 x front f in
      let q = refutes_later d d1 x (get_or ends i 0) _ r in
      let c : neg (get_or (map W parts) i (Leaf HEnd)) ≡ neg (whole_of d1.trees o p) = ap neg (e ∙ sym (whole_later o g p)) in
      record { within = q.within; is = q.is ∙ cc (a, c) }

  -- the end of the part alone, over what is assumed in the earlier draft
  pub inner_end : (d2 : DraftTree) (front : List TermId) (f : AreFormulas d front) (o : Over) (g : OverHeld d o) (k : ℕ) (parts : List Tree) (i : ℕ) → i < length parts
      → Refutes d2 k ((trees_at d1.trees front ++ extra_of d1.trees o) ++ neg (inner_of d1.trees o (get_or parts i (Leaf HEnd))) ∷ [])
      → Refutes d2 k (sequent_of_part (trees_at d.trees front ++ extra_of d.trees o) (map (inner_of d.trees o) parts) i)
  inner_end d2 front f o g k parts i l r =
      let I = inner_of d.trees o in
      let p : Tree = get_or parts i (Leaf HEnd) in
      let e : get_or (map I parts) i (Leaf HEnd) ≡ I p = get_or-map I parts i (Leaf HEnd) (Leaf HEnd) l in
      let a : trees_at d1.trees front ≡ trees_at d.trees front = same d d1 x front f in
      let b : extra_of d1.trees o ≡ extra_of d.trees o = extra_later o g in
      let c : neg (inner_of d1.trees o p) ≡ neg (get_or (map I parts) i (Leaf HEnd)) = ap neg (inner_later o g p ∙ sym e) in
      record { within = r.within; is = r.is ∙ cc (a, b, c) }

pub all_ends : (d : DraftTree) (ns ends : List ℕ) (front parts : List Tree) (w i : Tree → Tree) (n : ℕ) → HaveSequents d ns (sequent_of_part front (map i parts)) n → length ends ≡ length (map w parts) → length ends ≤ n → n ≤ length ends → EndsOfParts d ns front (map i parts)
all_ends d ns ends front parts w i n u e l m =
    let k : n ≡ length (map i parts) = omega (arith, e, length-map parts w, length-map parts i) in
    record { as_many = u.as_many ∙ k; each = λ j q. u.each j (omega arith) }
