-- A typed formula at types, without its conditionals, is the formula without its conditionals, at
-- types.
use Rattle.std.proofs.Common.{◌≡◌, ℕ, inl, inr, List, [], get_or, None, refl, sym, ap, ◌∙◌}
use Rattle.trees.specs.declared.Sort.{Sort}
use Rattle.trees.specs.declared.Sort.TheVariants.{Kind, Term, Formula}
use Rattle.trees.specs.Tree.{Tree, Leaf, One, Two, Three, HTyVar, HCell, HFun, HPred, HEq, HIf}
use Rattle.trees.specs.Sorts.{sort_of, IsExpression}
use Rattle.trees.specs.Binding.{inst_types, TyVar}
use Rattle.tasks.specs.Vocabulary.{Vocabulary}
use Rattle.images.proofs.Images.{expression_sort}
use Rattle.evidence.specs.images.typing_laws.HasTyping.{HasTyping, IsTypeAt}
use Rattle.images.proofs.TypedImages.{image_at_types}
use Rattle.images.proofs.typing_laws.TypeInstances.{at_one, sort_at}
use Rattle.tr_if.specs.conditionals.Conditionals.{implications, first_if, cases_over, if_of_sort, if_rule, without_ifs}
use Rattle.tr_if.specs.conditionals.lemmas.Cases.{no_first}
use Rattle.tr_if.specs.conditionals.lemmas.Typed.{typed_rule}

-- a type is no expression
no_kind : (a : Tree) → IsExpression (sort_of a) → sort_of a ≡ Kind → ⊥
no_kind a (inl t) q = let e : Term ≡ Kind = sym t ∙ q in cc
no_kind a (inr t) q = let e : Formula ≡ Kind = sym t ∙ q in cc

module _ (v : Vocabulary) where
  no_if_kind : (types : List Tree) (c a b : Tree) → HasTyping v types (Three HIf c a b)
      → sort_of (Three HIf c a b) ≡ Kind → ⊥
  no_if_kind types c a b x q = no_kind a x.0.1 (sym (expression_sort a x.0.1) ∙ q)

  kind_has_none : (types : List Tree) (e : Tree) → HasTyping v types e → sort_of e ≡ Kind
      → first_if e ≡ None
  kind_has_none types (Leaf h) x q = refl
  kind_has_none types (One h a) x q = refl
  kind_has_none types (Two (HPred p) a b) x q = absurd (cc)
  kind_has_none types (Two HEq a b) x q = absurd (cc)
  kind_has_none types (Two HCell a b) x q = absurd (cc)
  kind_has_none types (Two _ a b) x q = refl
  kind_has_none types (Three HIf c a b) x q = absurd (no_if_kind types c a b x q)
  kind_has_none types (Three (HFun f) a b c) x q = absurd (cc)
  kind_has_none types (Three _ a b c) x q = refl

  kind_stays : (types : List Tree) (e : Tree) → HasTyping v types e → sort_of e ≡ Kind
      → if_rule e ≡ e
  kind_stays types (Leaf h) x q = refl
  kind_stays types (One h a) x q = refl
  kind_stays types (Two (HPred p) a b) x q = absurd (cc)
  kind_stays types (Two HEq a b) x q = absurd (cc)
  kind_stays types (Two _ a b) x q = refl
  kind_stays types (Three HIf c a b) x q = absurd (no_if_kind types c a b x q)
  kind_stays types (Three _ a b c) x q = refl

  module _ (ys : List Tree) (each : (j : ℕ) → IsTypeAt v (get_or ys j (TyVar j))) where
    abbrev at : Tree → Tree
    at e = inst_types e ys

    cases_at : (types : List Tree) (e : Tree) (over other : Tree → Tree) → HasTyping v types e
        → ((u : Tree) → other (at u) ≡ at (over u))
        → cases_over (at e) other ≡ at (cases_over e over)
    cases_at types (Leaf (HTyVar j)) over other x k =
        no_first (get_or ys j (TyVar j)) other
        (kind_has_none [] (get_or ys j (TyVar j)) (each j).1 (each j).0) ∙ k (Leaf (HTyVar j))
    cases_at types (Leaf h) over other x k = k (Leaf h)
    cases_at types (One h a) over other x k =
        ap (λ (z : Tree). cases_over z other) (at_one v ys each h a)
        ∙ ap other (sym (at_one v ys each h a)) ∙ k (One h a)
    cases_at types (Two (HPred p) tys args) over other x k =
        cases_at types args (λ u. over (Two (HPred p) tys u))
        (λ u. other (Two (HPred p) (at tys) u)) x.3 (λ u. k (Two (HPred p) tys u))
    cases_at types (Two HEq a b) over other x k =
        cases_at types a (λ u. cases_over b (λ w. over (Two HEq u w)))
        (λ u. cases_over (at b) (λ w. other (Two HEq u w))) x.2
        (λ u. cases_at types b (λ w. over (Two HEq u w)) (λ w. other (Two HEq (at u) w)) x.3
        (λ w. k (Two HEq u w)))
    cases_at types (Two HCell a b) over other x k =
        cases_at types a (λ u. cases_over b (λ w. over (Two HCell u w)))
        (λ u. cases_over (at b) (λ w. other (Two HCell u w))) x.2
        (λ u. cases_at types b (λ w. over (Two HCell u w)) (λ w. other (Two HCell (at u) w)) x.3
        (λ w. k (Two HCell u w)))
    cases_at types (Two h a b) over other x k = k (Two h a b)
    cases_at types (Three HIf c a b) over other x k =
        ap (λ (z : Tree). implications (at c) z (cases_over (at b) other))
        (cases_at types a over other x.3 k)
        ∙ ap (λ (z : Tree). implications (at c) (at (cases_over a over)) z)
        (cases_at types b over other x.4 k)
    cases_at types (Three (HFun f) tys args ty) over other x k =
        cases_at types args (λ u. over (Three (HFun f) tys u ty))
        (λ u. other (Three (HFun f) (at tys) u (at ty))) x.3 (λ u. k (Three (HFun f) tys u ty))
    cases_at types (Three h a b c) over other x k = k (Three h a b c)

    if_at : (c a b : Tree) (s : Sort) → if_of_sort s (at c) (at a) (at b) ≡ at (if_of_sort s c a b)
    if_at c a b Formula = refl
    if_at c a b _ = refl

    rule_at : (types : List Tree) (e : Tree) → HasTyping v types e → if_rule (at e) ≡ at (if_rule e)
    rule_at types (Leaf (HTyVar j)) x = kind_stays [] (get_or ys j (TyVar j)) (each j).1 (each j).0
    rule_at types (Leaf h) x = refl
    rule_at types (One h a) x = ap if_rule (at_one v ys each h a) ∙ sym (at_one v ys each h a)
    rule_at types (Two (HPred p) a b) x =
        cases_at types (Two (HPred p) a b) (λ u. u) (λ u. u) x (λ u. refl)
    rule_at types (Two HEq a b) x = cases_at types (Two HEq a b) (λ u. u) (λ u. u) x (λ u. refl)
    rule_at types (Two h a b) x = refl
    rule_at types (Three HIf c a b) x =
        ap (λ (s : Sort). if_of_sort s (at c) (at a) (at b)) (sort_at v ys each a)
        ∙ if_at c a b (sort_of a)
    rule_at types (Three h a b c) x = refl

    pub ifs_at_types : (types : List Tree) (e : Tree) → HasTyping v types e
        → without_ifs (at e) ≡ at (without_ifs e)
    ifs_at_types types e x = image_at_types v if_rule (typed_rule v) ys each rule_at types e x
