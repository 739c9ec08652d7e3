-- The steps of inlining over a store, each after others.
use Rattle.std.proofs.Common.{◌≡◌, ℕ, max, inl, inr, Bool, true, List, [], ◌∷◌, length, Option, Some, None, Result, Ok, Err, IfErr, IsErrAnd, subst, refl, sym, ap, ◌∙◌}
use Rattle.indexmap.specs.IndexMap.{IndexMap}
use Rattle.trees.specs.declared.TermId.{TermId}
use Rattle.trees.specs.declared.Node.{Node}
use Rattle.trees.specs.declared.Node.TheVariants.{Bound, Cell}
use Rattle.trees.specs.declared.Sort.{Sort}
use Rattle.trees.specs.declared.Sort.TheVariants.{Term}
use Rattle.trees.specs.declared.Sort.TheVariants as sort
use Rattle.trees.specs.Tree.{Tree, Leaf, One, Two, Three, Head, HBound, HCell}
use Rattle.trees.specs.Sorts.{sort_of, IsList}
use Rattle.trees.specs.Binding.{inst_types, inst_many}
use Rattle.trees.specs.Node.{tree_at, node_tree, Holds, Grows, head_of_node}
use Rattle.tasks.specs.Typing.{members}
use Rattle.inlining.specs.images.Images.{image}
use Rattle.inlining.specs.images.typing_laws.HasTyping.{HasTyping, over_parts}
use Rattle.inlining.proofs.images.typing_laws.Sorted.{has_sorts}
use Rattle.inlining.proofs.images.TypedImages.{image_type, image_keeps_typing}
use Rattle.inlining.specs.images.image_trees.Imaged.{RuleOver, KeepsItsTyping, IsTypedSomewhere, AreImages}
use Rattle.inlining.proofs.images.image_trees.ImagedParts.{two_parts, go_on, as_before}
use Rattle.tr_inline.specs.declared.full_bodies.uses.Inlining.{Inlining}
use Rattle.tr_inline.specs.declared.full_bodies.uses.SymbolUse.{SymbolUse}
use Rattle.tr_inline.specs.declared.full_bodies.fault.InlineFault.{InlineFault}
use Rattle.tr_inline.specs.declared.full_bodies.fault.InlineFault.TheVariants as fault
use Rattle.tr_inline.specs.full_bodies.Least.{added, HasLargeInstances, is_used}
use Rattle.tr_inline.specs.full_bodies.Arguments.{ArePutFor, HasLargeArgument}
use Rattle.tr_inline.specs.full_bodies.Faults.{IsFaultOf, IsArgumentFault, IsArgumentsFault}
use Rattle.tr_inline.specs.full_bodies.FullBodies.{AreReady, IsFull, IsUseAt, AreArguments}
use Rattle.tr_inline.specs.full_bodies.Inlined.{rule_of, inlined_at, CanInline, IsInlined}
use Rattle.tr_inline.specs.full_bodies.lemmas.Later.{ready_later, rule_later}
use Rattle.tr_inline.proofs.full_bodies.Bodies.{rule_keeps}
use Rattle.tr_inline.proofs.full_bodies.Arguments.{put_for, large_put}
use Rattle.tr_inline.proofs.full_bodies.Least.{sum_joins, max_joins, larger, large_one, large_use, two_first, two_second, three_first, three_second, three_third}
pub use Rattle.evidence.proofs.images.match_terms.Growing.{cell_fits}

-- ---- as the store grows
module _ (x : Inlining) (s t : List Tree) (w : Grows s t) (r : AreReady s x.task.now x.bodies.now) where
  pub rule_same : rule_of t x ≡ rule_of s x
  rule_same = rule_later s t x.task.now x.bodies.now w r

  module _ (c : TermId) (h : Holds s c) where
    pub go : {S : Type 0} (m : IndexMap ℕ TermId S) → IsTypedSomewhere (rule_of s x) (tree_at s c) → AreImages (rule_of s x) t m → CanInline t x m c
    go m y k =
        go_on (λ z. rule_of z x) (λ z. AreReady z x.task.now x.bodies.now) (λ a b v p. rule_later a b x.task.now x.bodies.now v p) (λ a b v p. ready_later a b x.task.now x.bodies.now v p) s t w r c h m y k

    pub back : {S : Type 0} (u : List Tree) (m : IndexMap ℕ TermId S) (id : TermId) → IsInlined t x c u m id → IsInlined s x c u m id
    back u m id k =
        as_before (λ z. rule_of z x) (λ z. AreReady z x.task.now x.bodies.now) (λ a b v p. rule_later a b x.task.now x.bodies.now v p) (λ a b v p. ready_later a b x.task.now x.bodies.now v p) s t w r c h u m id k

    pub inlined_same : inlined_at t x c ≡ inlined_at s x c
    inlined_same = ap (λ (z : Tree). image (rule_of t x).rule z) (w.same c.0 h) ∙ ap (λ (z : RuleOver). image z.rule (tree_at s c)) rule_same

-- ---- faults
pub fault_as : (a b : Tree) → a ≡ b → (f : InlineFault) → IsFaultOf a f → IsFaultOf b f
fault_as a b q f h = subst (λ (z : Tree). IsFaultOf z f) q h

pub fault_within : (a b : Tree) → (HasLargeInstances a → HasLargeInstances b) → (f : InlineFault) → IsFaultOf a f → IsFaultOf b f
fault_within a b g fault.Memory h = tt
fault_within a b g fault.Large h = g h

-- ---- uses
module _ (s : List Tree) (r : RuleOver) (e : TermId) (at : SymbolUse) (u : IsUseAt s r e at) where
  pub use_made : (body : Tree) → body ≡ inst_types u.whole (members (tree_at s at.types)) → (ys : List Tree) → ArePutFor r.rule body (members (tree_at s at.args)) ys → inst_many body ys ≡ image r.rule (tree_at s e)
  use_made body q ys a =
      let here : ArePutFor r.rule (inst_types u.whole (members (tree_at s at.types))) (members (tree_at s at.args)) ys = subst (λ (z : Tree). ArePutFor r.rule z (members (tree_at s at.args)) ys) q a in
      ap (λ (z : Tree). inst_many z ys) q ∙ put_for r.rule (inst_types u.whole (members (tree_at s at.types))) u.sorts (members (tree_at s at.args)) ys here
      ∙ ap (inst_many (inst_types u.whole (members (tree_at s at.types)))) (sym u.images) ∙ sym u.becomes

  pub whole_large : HasLargeInstances u.whole → HasLargeInstances (image r.rule (tree_at s e))
  whole_large l = subst HasLargeInstances (sym u.becomes) (large_use u.whole (members (tree_at s at.types)) (members (image r.rule (tree_at s at.args))) l)

  pub argument_large : (body : Tree) → body ≡ inst_types u.whole (members (tree_at s at.types)) → HasLargeArgument r.rule body (members (tree_at s at.args)) → HasLargeInstances (image r.rule (tree_at s e))
  argument_large body q l =
      let here = subst (λ (z : Tree). HasLargeArgument r.rule z (members (tree_at s at.args))) q l in
      let put = large_put r.rule (inst_types u.whole (members (tree_at s at.types))) (members (tree_at s at.args)) here in
      subst HasLargeInstances (sym u.becomes) (subst (λ (z : List Tree). HasLargeInstances (inst_many (inst_types u.whole (members (tree_at s at.types))) z)) (sym u.images) put)

pub arguments_fault : (f : Tree → Tree) (body : Tree) (ms : List Tree) (e : Tree) → (HasLargeArgument f body ms → HasLargeInstances e) → (x : InlineFault) → IsArgumentsFault f body ms x → IsFaultOf e x
arguments_fault f body ms e g fault.Memory h = tt
arguments_fault f body ms e g fault.Large h = g h

-- ---- parts
pub not_bound : (n : Node) → ((i : ℕ) (a : TermId) → n ≡ Bound i a → ⊥) → (i : ℕ) → head_of_node n ≡ HBound i → ⊥
not_bound (Bound i a) g k q = g i a refl
not_bound _ g k q = absurd (cc)

module _ (f : Tree → Tree) (e : Tree) (over : image f e ≡ over_parts f e) where
  pub one_large : (h : Head) (a : Tree) → ((i : ℕ) → h ≡ HBound i → ⊥) → e ≡ One h a → HasLargeInstances (image f a) → HasLargeInstances (image f e)
  one_large h a n q l = subst HasLargeInstances (sym (over ∙ ap (over_parts f) q)) (large_one h (image f a) n l)

  pub two_large_first : (h : Head) (a b : Tree) → e ≡ Two h a b → HasLargeInstances (image f a) → HasLargeInstances (image f e)
  two_large_first h a b q l =
      subst HasLargeInstances (sym (over ∙ ap (over_parts f) q)) (larger (image f a) (Two h (image f a) (image f b)) (two_first added sum_joins h (image f a) (image f b)) (two_first max max_joins h (image f a) (image f b)) l)

  pub two_large_second : (h : Head) (a b : Tree) → e ≡ Two h a b → HasLargeInstances (image f b) → HasLargeInstances (image f e)
  two_large_second h a b q l =
      subst HasLargeInstances (sym (over ∙ ap (over_parts f) q)) (larger (image f b) (Two h (image f a) (image f b)) (two_second added sum_joins h (image f a) (image f b)) (two_second max max_joins h (image f a) (image f b)) l)

  pub three_large_first : (h : Head) (a b c : Tree) → e ≡ Three h a b c → HasLargeInstances (image f a) → HasLargeInstances (image f e)
  three_large_first h a b c q l =
      subst HasLargeInstances (sym (over ∙ ap (over_parts f) q))
      (larger (image f a) (Three h (image f a) (image f b) (image f c)) (three_first added sum_joins h (image f a) (image f b) (image f c)) (three_first max max_joins h (image f a) (image f b) (image f c)) l)

  pub three_large_second : (h : Head) (a b c : Tree) → e ≡ Three h a b c → HasLargeInstances (image f b) → HasLargeInstances (image f e)
  three_large_second h a b c q l =
      subst HasLargeInstances (sym (over ∙ ap (over_parts f) q))
      (larger (image f b) (Three h (image f a) (image f b) (image f c)) (three_second added sum_joins h (image f a) (image f b) (image f c)) (three_second max max_joins h (image f a) (image f b) (image f c)) l)

  pub three_large_third : (h : Head) (a b c : Tree) → e ≡ Three h a b c → HasLargeInstances (image f c) → HasLargeInstances (image f e)
  three_large_third h a b c q l =
      subst HasLargeInstances (sym (over ∙ ap (over_parts f) q))
      (larger (image f c) (Three h (image f a) (image f b) (image f c)) (three_third added sum_joins h (image f a) (image f b) (image f c)) (three_third max max_joins h (image f a) (image f b) (image f c)) l)

-- a variable, or a node without parts, is left
pub variable_left : (r : RuleOver) (e : Tree) (i : ℕ) (a : Tree) → KeepsItsTyping r → IsTypedSomewhere r e → image r.rule e ≡ over_parts r.rule e → e ≡ One (HBound i) a → e ≡ image r.rule e
variable_left r e i a keeps x over q =
    let y : HasTyping r.vocabulary x.0 (One (HBound i) a) = subst (HasTyping r.vocabulary x.0) q x.1 in
    let t : image r.rule a ≡ a = image_type r.vocabulary r.rule keeps a (has_sorts r.vocabulary x.0 a y.2) (inl y.0.0) in
    q ∙ ap (One (HBound i)) (sym t) ∙ sym (over ∙ ap (over_parts r.rule) q)

pub leaf_left : (r : RuleOver) (e : Tree) (h : Head) → image r.rule e ≡ over_parts r.rule e → e ≡ Leaf h → e ≡ image r.rule e
leaf_left r e h over q = q ∙ sym (over ∙ ap (over_parts r.rule) q)

-- ---- answers of calls that fail
pub err_passed : {T E : Type 0} (P : E → Type 0) (r : Result T E) (g : E) → IsErrAnd r (λ (e : E). e ≡ g) → P g → IfErr r P
err_passed P (Ok v) g h p = absurd h
err_passed P (Err e) g h p = subst P (sym h) p

pub none_full : (s : List Tree) (whole : Tree) (o : Option TermId) → ((y : TermId) → o ≡ Some y → ⊥) → IsFull s whole o → HasLargeInstances whole
none_full s whole None n h = h
none_full s whole (Some y) n h = absurd (n y refl)

-- ---- arguments
pub argument_fault_used : (used : Bool) (e : Tree) → used ≡ true → (f : InlineFault) → IsFaultOf e f → IsArgumentFault used e f
argument_fault_used used e q fault.Memory h = tt
argument_fault_used used e q fault.Large h = (q, h)

pub argument_fault_first : (f : Tree → Tree) (body args first rest : Tree) → args ≡ Two HCell first rest → (n : ℕ) → n ≡ length (members rest) → (z : InlineFault) → IsArgumentFault (is_used n body) (image f first) z
    → IsArgumentsFault f body (members args) z
argument_fault_first f body args first rest q n p fault.Memory h = tt
argument_fault_first f body args first rest q n p fault.Large h =
    subst (λ (z : Tree). HasLargeArgument f body (members z)) (sym q) (inl (subst (λ (k : ℕ). is_used k body ≡ true) p h.0, h.1))

pub argument_fault_rest : (f : Tree → Tree) (body args first rest : Tree) → args ≡ Two HCell first rest → (z : InlineFault) → IsArgumentsFault f body (members rest) z → IsArgumentsFault f body (members args) z
argument_fault_rest f body args first rest q fault.Memory h = tt
argument_fault_rest f body args first rest q fault.Large h = subst (λ (z : Tree). HasLargeArgument f body (members z)) (sym q) (inr h)

pub image_sort : {S : Type 0} (x : Inlining) (s : List Tree) (m : IndexMap ℕ TermId S) (e : TermId) → CanInline s x m e → sort_of (tree_at s e) ≡ Term → sort_of (inlined_at s x e) ≡ Term
image_sort x s m e can q =
    (image_keeps_typing (rule_of s x).vocabulary (rule_of s x).rule (rule_keeps s x.task.now x.bodies.now can.is_ready) can.typed.0 (tree_at s e) can.typed.1).sort ∙ q

pub typed_cell : (r : RuleOver) (e a b : Tree) → e ≡ Two HCell a b → IsTypedSomewhere r e → IsTypedSomewhere r a × IsTypedSomewhere r b
typed_cell r e a b q y = two_parts r e y HCell a b q

cell_list : (a b : Tree) → sort_of a ≡ Term → IsList Term (Two HCell a b)
cell_list a b q = (refl, inr (ap Some q))

pub cell_arguments : {S : Type 0} (r : RuleOver) (body args first rest : Tree) → args ≡ Two HCell first rest → (s : List Tree) (m : IndexMap ℕ TermId S) (made : TermId) (a b : Tree) → Holds s made → tree_at s made ≡ Two HCell a b
    → sort_of a ≡ Term → IsList Term b → (n : ℕ) → n ≡ length (members rest) → (is_used n body ≡ true → a ≡ image r.rule first) → ArePutFor r.rule body (members rest) (members b) → AreImages r s m
    → AreArguments r body (members args) s m made
cell_arguments r body args first rest q s m made a b h t sa lb n p one others known = record {
  held = h;
  list = subst (IsList Term) (sym t) (cell_list a b sa);
  are = subst (λ (z : Tree). ArePutFor r.rule body (members args) (members z)) (sym t)
      (subst (λ (z : Tree). ArePutFor r.rule body (members z) (a ∷ members b)) (sym q) ((λ u. one (subst (λ (k : ℕ). is_used k body ≡ true) (sym p) u)), others));
  known = known;
}

no_members : (s : List Tree) (n : Node) → ((a b : TermId) → n ≡ Cell a b → ⊥) → members (node_tree s n) ≡ []
no_members s (Cell a b) g = absurd (g a b refl)
no_members s _ g = refl

pub end_arguments : {S : Type 0} (r : RuleOver) (body : Tree) (s : List Tree) (m : IndexMap ℕ TermId S) (args : TermId) (n : Node) → Holds s args → IsList Term (tree_at s args) → tree_at s args ≡ node_tree s n
    → ((a b : TermId) → n ≡ Cell a b → ⊥) → AreImages r s m → AreArguments r body (members (tree_at s args)) s m args
end_arguments r body s m args n h l q g known =
    let none : members (tree_at s args) ≡ [] = ap members q ∙ no_members s n g in
    record { held = h; list = l; are = subst (λ (z : List Tree). ArePutFor r.rule body z z) (sym none) tt; known = known }
