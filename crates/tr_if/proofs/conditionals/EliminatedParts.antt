-- The node of a typed tree over its parts without their conditionals, made in a store.
use Rattle.std.proofs.Common.{◌≡◌, ℕ, List, ◌++◌, subst, sym, ap, ◌∙◌, arith}
use Rattle.trees.specs.declared.TermId.{TermId}
use Rattle.trees.specs.declared.Sort.TheVariants.{Formula}
use Rattle.trees.specs.Tree.{Tree, Leaf, One, Two, Three, Head, HPred, HEq, HIf, size}
use Rattle.trees.specs.Node.{tree_at, Holds, Grows}
use Rattle.trees.specs.Sorts.{Fits, sort_of}
use Rattle.tasks.specs.Typing.{bound_types}
use Rattle.evidence.specs.images.typing_laws.HasTyping.{HasTyping, over_parts}
use Rattle.evidence.proofs.images.TypedImages.{over_fits, image_over}
use Rattle.tr_if.specs.conditionals.Conditionals.{implications, cases_over, if_of_sort, if_rule, without_ifs}
use Rattle.tr_if.specs.declared.conditionals.growth.GrowthFault.{GrowthFault}
use Rattle.tr_if.specs.conditionals.Held.{CanEliminate, IsEliminated, IsRuled, IsByCases, IsGrowthFault}
use Rattle.tr_if.specs.conditionals.lemmas.Typed.{typed_rule}
use Rattle.tr_if.proofs.conditionals.Growing.{over_grows}
use Rattle.tr_if.proofs.conditionals.ByFirst.{growth_up, growth_same}

-- ---- the rule
pub predicate_rule : (e : Tree) (p : ℕ) (a b : Tree) → e ≡ Two (HPred p) a b → if_rule e ≡ cases_over e (λ u. u)
predicate_rule e p a b q = ap if_rule q ∙ sym (ap (λ (z : Tree). cases_over z (λ u. u)) q)

pub equation_rule : (e a b : Tree) → e ≡ Two HEq a b → if_rule e ≡ cases_over e (λ u. u)
equation_rule e a b q = ap if_rule q ∙ sym (ap (λ (z : Tree). cases_over z (λ u. u)) q)

pub predicate_sort : (e : Tree) (p : ℕ) (a b : Tree) → e ≡ Two (HPred p) a b → sort_of e ≡ Formula
predicate_sort e p a b q = ap sort_of q

pub equation_sort : (e a b : Tree) → e ≡ Two HEq a b → sort_of e ≡ Formula
equation_sort e a b q = ap sort_of q

pub by_cases_ruled : (e : Tree) (s : List Tree) (made : TermId) → if_rule e ≡ cases_over e (λ u. u) → IsByCases e s made → IsRuled e s made
by_cases_ruled e s made q c = record { held = c.formula.held; is = c.is ∙ sym q }

pub formula_rule : (e c a b : Tree) → e ≡ Three HIf c a b → sort_of a ≡ Formula → if_rule e ≡ implications c a b
formula_rule e c a b q r = ap if_rule q ∙ ap (λ z. if_of_sort z c a b) r

-- ---- parts
module _ (s : List Tree) (e : TermId) (can : CanEliminate s e) where
  part_at : (t : List Tree) → Grows s t → (a : TermId) → Holds s a → (types : List Tree) → HasTyping can.vocabulary types (tree_at s a) → CanEliminate t a
  part_at t w a h types x = record { held = omega (arith, h, w.longer); vocabulary = can.vocabulary; types = types; typed = rw (w.same a.0 h) x }

  pub one_can : (h : Head) (a : TermId) → Holds s a → tree_at s e ≡ One h (tree_at s a) → (t : List Tree) → Grows s t → CanEliminate t a
  one_can h a k q t w = part_at t w a k can.types (subst (HasTyping can.vocabulary can.types) q can.typed).2

  pub two_first_can : (h : Head) (a b : TermId) → Holds s a → tree_at s e ≡ Two h (tree_at s a) (tree_at s b) → (t : List Tree) → Grows s t → CanEliminate t a
  two_first_can h a b k q t w = part_at t w a k can.types (subst (HasTyping can.vocabulary can.types) q can.typed).2

  pub two_second_can : (h : Head) (a b : TermId) → Holds s b → tree_at s e ≡ Two h (tree_at s a) (tree_at s b) → (t : List Tree) → Grows s t → CanEliminate t b
  two_second_can h a b k q t w = part_at t w b k (bound_types h (tree_at s a) ++ can.types) (subst (HasTyping can.vocabulary can.types) q can.typed).3

  module _ (h : Head) (a b c : TermId) (q : tree_at s e ≡ Three h (tree_at s a) (tree_at s b) (tree_at s c)) (t : List Tree) (w : Grows s t) where
    three_typed : HasTyping can.vocabulary can.types (Three h (tree_at s a) (tree_at s b) (tree_at s c))
    three_typed = subst (HasTyping can.vocabulary can.types) q can.typed

    pub three_first_can : Holds s a → CanEliminate t a
    three_first_can k = part_at t w a k can.types three_typed.2

    pub three_second_can : Holds s b → CanEliminate t b
    three_second_can k = part_at t w b k can.types three_typed.3

    pub three_third_can : Holds s c → CanEliminate t c
    three_third_can k = part_at t w c k can.types three_typed.4

  pub over_fit : Fits (tree_at s e) → Fits (over_parts if_rule (tree_at s e))
  over_fit f = over_fits can.vocabulary if_rule (typed_rule can.vocabulary) can.types (tree_at s e) can.typed f

-- ---- the image of a part, in a later store
pub part_later : (t u : List Tree) → Grows t u → (a : Tree) (x : TermId) → IsEliminated a t x → tree_at u x ≡ without_ifs a
part_later t u w a x p = w.same x.0 p.held ∙ p.is

pub one_is : (e a m : Tree) (h : Head) → e ≡ One h a → m ≡ without_ifs a → One h m ≡ over_parts if_rule e
one_is e a m h q p = ap (λ (z : Tree). One h z) p ∙ sym (ap (over_parts if_rule) q)

pub two_is : (e a b m n : Tree) (h : Head) → e ≡ Two h a b → m ≡ without_ifs a → n ≡ without_ifs b → Two h m n ≡ over_parts if_rule e
two_is e a b m n h q p o = ap (λ (z : Tree). Two h z n) p ∙ ap (λ (z : Tree). Two h (without_ifs a) z) o ∙ sym (ap (over_parts if_rule) q)

pub three_is : (e a b c l m n : Tree) (h : Head) → e ≡ Three h a b c → l ≡ without_ifs a → m ≡ without_ifs b → n ≡ without_ifs c → Three h l m n ≡ over_parts if_rule e
three_is e a b c l m n h q p o u =
    ap (λ (z : Tree). Three h z m n) p ∙ ap (λ (z : Tree). Three h (without_ifs a) z n) o ∙ ap (λ (z : Tree). Three h (without_ifs a) (without_ifs b) z) u ∙ sym (ap (over_parts if_rule) q)

pub leaf_is : (e : Tree) (h : Head) → e ≡ Leaf h → e ≡ over_parts if_rule e
leaf_is e h q = q ∙ sym (ap (over_parts if_rule) q)

-- ---- the whole
pub whole_is : (e o m : Tree) → o ≡ over_parts if_rule e → m ≡ if_rule o → m ≡ without_ifs e
whole_is e o m q r = r ∙ ap if_rule q ∙ sym (image_over if_rule e)

pub whole_large : (e o : Tree) (f : GrowthFault) → o ≡ over_parts if_rule e → IsGrowthFault (size (if_rule o)) f → IsGrowthFault (size (without_ifs e)) f
whole_large e o f q g = growth_same _ _ f (ap size (ap if_rule q ∙ sym (image_over if_rule e))) g

pub over_large : (e : Tree) (f : GrowthFault) → IsGrowthFault (size (over_parts if_rule e)) f → IsGrowthFault (size (without_ifs e)) f
over_large e f g = growth_up _ _ f (over_grows e) g
