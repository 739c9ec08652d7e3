-- The conditionals of a typed atom go one at a time, the first one first.
use Rattle.std.proofs.Common.{◌≡◌, ℕ, ◌⊎◌, inl, inr, Bool, true, false, ◌||◌, List, Option, Some, None, option_map, refl, sym, ap, ◌∙◌}
use Rattle.trees.specs.declared.Sort.{Sort}
use Rattle.trees.specs.declared.Sort.TheVariants.{Kind, Term, Formula, Pattern, Branch}
use Rattle.trees.specs.declared.Sort.TheVariants as sort
use Rattle.trees.specs.Tree.{Tree, Leaf, One, Two, Three, Head, HTyApp, HBound, HParam, HCell, HFun, HPred, HEq, HNot, HJoin, HForall, HExists, HLet, HIf, HCase, HArm, HPatAny, HPatVar, HPatCon, HPatAlias}
use Rattle.trees.specs.Sorts.{sort_of, IsList, IsListOf, IsExpression}
use Rattle.tasks.specs.Vocabulary.{Vocabulary}
use Rattle.evidence.proofs.images.Images.{expression_sort, first_of}
use Rattle.evidence.specs.images.typing_laws.HasTyping.{HasTyping}
use Rattle.evidence.proofs.images.typing_laws.Sorted.{has_sorts}
use Rattle.evidence.proofs.images.TypedImages.{image_type}
use Rattle.tr_if.specs.conditionals.Conditionals.{implications, earlier, first_if, one_changed, replace_first, cases_over, if_of_sort, if_rule, without_ifs, has_let_or_match}
use Rattle.tr_if.specs.conditionals.Laws.{is_atom_head}
use Rattle.tr_if.specs.conditionals.lemmas.Cases.{no_first, first_case}
use Rattle.tr_if.specs.conditionals.lemmas.Typed.{typed_rule, ifs_keep_typing}

-- a term or a list of terms
abbrev AreTerms : Tree → Type 0
AreTerms e = (sort_of e ≡ Term) ⊎ IsList Term e

not_terms : (s : Sort) (o : Option Sort) → (s ≡ Term → ⊥) → (s ≡ sort.List → ⊥) → (s ≡ Term) ⊎ IsListOf Term s o → ⊥
not_terms s o a b (inl e) = a e
not_terms s o a b (inr l) = b l.0

no_formula : (o : Option Sort) → (Formula ≡ Term) ⊎ IsListOf Term Formula o → ⊥
no_formula o k = not_terms Formula o (λ e. cc) (λ e. cc) k

no_type : (o : Option Sort) → (Kind ≡ Term) ⊎ IsListOf Term Kind o → ⊥
no_type o k = not_terms Kind o (λ e. cc) (λ e. cc) k

no_pattern : (o : Option Sort) → (Pattern ≡ Term) ⊎ IsListOf Term Pattern o → ⊥
no_pattern o k = not_terms Pattern o (λ e. cc) (λ e. cc) k

-- a conditional over parts without conditional formulas
abbrev if_over : Tree → Tree
if_over (Three HIf c a b) = Three HIf (without_ifs c) (without_ifs a) (without_ifs b)
if_over e = e

earlier_over : (o p : Option Tree) → earlier (option_map if_over o) (option_map if_over p) ≡ option_map if_over (earlier o p)
earlier_over (Some e) p = refl
earlier_over None p = refl

either_false : (a b : Bool) → (a || b) ≡ false → (a ≡ false) × (b ≡ false)
either_false false b q = (refl, q)
either_false true b q = absurd (cc)

no_earlier : (o p : Option Tree) → earlier o p ≡ None → (o ≡ None) × (p ≡ None)
no_earlier None p q = (refl, q)
no_earlier (Some e) p q = absurd (cc)

module _ (v : Vocabulary) (types : List Tree) where
  -- a conditional term stays one
  if_term : (c a b : Tree) → HasTyping v types (Three HIf c a b) → AreTerms (Three HIf c a b) → without_ifs (Three HIf c a b) ≡ Three HIf (without_ifs c) (without_ifs a) (without_ifs b)
  if_term c a b x (inl q) =
      let s : sort_of (without_ifs a) ≡ Term = (ifs_keep_typing v types a x.3).sort ∙ sym (expression_sort a x.0.1) ∙ q in
      ap (λ (z : Sort). if_of_sort z (without_ifs c) (without_ifs a) (without_ifs b)) s
  if_term c a b x (inr l) = absurd (no_list x.0.1 (sym (expression_sort a x.0.1) ∙ l.0))
    where
      no_list : IsExpression (sort_of a) → sort_of a ≡ sort.List → ⊥
      no_list (inl t) q = let e : Term ≡ sort.List = sym t ∙ q in cc
      no_list (inr t) q = let e : Formula ≡ sort.List = sym t ∙ q in cc

  first_over : (e : Tree) → HasTyping v types e → AreTerms e → first_if (without_ifs e) ≡ option_map if_over (first_if e)
  first_over (Leaf h) x k = refl
  first_over (One h a) x k = refl
  first_over (Two (HPred p) a b) x k = absurd (no_formula None k)
  first_over (Two HEq a b) x k = absurd (no_formula None k)
  first_over (Two HCell a b) x (inl q) = absurd (cc)
  first_over (Two HCell a b) x (inr l) =
      let p = first_of Term a b x.0 l in
      ap (λ (z : Option Tree). earlier z (first_if (without_ifs b))) (first_over a x.2 (inl p.0)) ∙ ap (earlier (option_map if_over (first_if a))) (first_over b x.3 (inr p.1)) ∙ earlier_over (first_if a) (first_if b)
  first_over (Two _ a b) x k = refl
  first_over (Three HIf c a b) x k = ap first_if (if_term c a b x k)
  first_over (Three (HFun f) tys args ty) x k = first_over args x.3 (inr x.0.1)
  first_over (Three _ a b c) x k = refl

  cell_over : (o : Option Tree) (a b m n : Tree) → one_changed (option_map if_over o) HCell (without_ifs a) (without_ifs b) (without_ifs m) (without_ifs n) ≡ without_ifs (one_changed o HCell a b m n)
  cell_over (Some e) a b m n = refl
  cell_over None a b m n = refl

  place_over : (z e : Tree) → HasTyping v types e → AreTerms e → replace_first (without_ifs e) (without_ifs z) ≡ without_ifs (replace_first e z)
  place_over z (Leaf h) x k = refl
  place_over z (One h a) x k = refl
  place_over z (Two (HPred p) a b) x k = absurd (no_formula None k)
  place_over z (Two HEq a b) x k = absurd (no_formula None k)
  place_over z (Two HCell a b) x (inl q) = absurd (cc)
  place_over z (Two HCell a b) x (inr l) =
      let p = first_of Term a b x.0 l in
      ap (λ (o : Option Tree). one_changed o HCell (without_ifs a) (without_ifs b) (replace_first (without_ifs a) (without_ifs z)) (replace_first (without_ifs b) (without_ifs z))) (first_over a x.2 (inl p.0))
      ∙ ap (λ (w : Tree). one_changed (option_map if_over (first_if a)) HCell (without_ifs a) (without_ifs b) w (replace_first (without_ifs b) (without_ifs z))) (place_over z a x.2 (inl p.0))
      ∙ ap (λ (w : Tree). one_changed (option_map if_over (first_if a)) HCell (without_ifs a) (without_ifs b) (without_ifs (replace_first a z)) w) (place_over z b x.3 (inr p.1))
      ∙ cell_over (first_if a) a b (replace_first a z) (replace_first b z)
  place_over z (Two _ a b) x k = refl
  place_over z (Three HIf c a b) x k = ap (λ (w : Tree). replace_first w (without_ifs z)) (if_term c a b x k)
  place_over z (Three (HFun f) tys args ty) x k = ap (λ (w : Tree). Three (HFun f) (without_ifs tys) w (without_ifs ty)) (place_over z args x.3 (inr x.0.1))
  place_over z (Three _ a b c) x k = refl

  -- ---- atoms
  same_cases : (c p q r s : Tree) → p ≡ r → q ≡ s → implications c p q ≡ implications c r s
  same_cases c p q r s m n = ap (λ (z : Tree). implications c z q) m ∙ ap (λ (z : Tree). implications c r z) n

  predicate_first : (p : ℕ) (tys args c a b : Tree) → HasTyping v types (Two (HPred p) tys args) → first_if args ≡ Some (Three HIf c a b)
      → without_ifs (Two (HPred p) tys args) ≡ implications (without_ifs c) (without_ifs (replace_first (Two (HPred p) tys args) a)) (without_ifs (replace_first (Two (HPred p) tys args) b))
  predicate_first p tys args c a b x q =
      first_case (without_ifs c) (without_ifs a) (without_ifs b) (Two (HPred p) (without_ifs tys) (without_ifs args)) (first_over args x.3 (inr x.0.0.1) ∙ ap (option_map if_over) q) (λ u. u)
      ∙ same_cases (without_ifs c) _ _ _ _
      (ap (λ (w : Tree). cases_over (Two (HPred p) (without_ifs tys) w) (λ u. u)) (place_over a args x.3 (inr x.0.0.1)))
      (ap (λ (w : Tree). cases_over (Two (HPred p) (without_ifs tys) w) (λ u. u)) (place_over b args x.3 (inr x.0.0.1)))

  module _ (a b : Tree) (x : HasTyping v types (Two HEq a b)) where
    abbrev equation_over : Option Tree → Tree → Tree
    equation_over o z = one_changed (option_map if_over o) HEq (without_ifs a) (without_ifs b) (without_ifs (replace_first a z)) (without_ifs (replace_first b z))

    by_side : (o : Option Tree) (z : Tree) → cases_over (equation_over o z) (λ u. u) ≡ without_ifs (one_changed o HEq a b (replace_first a z) (replace_first b z))
    by_side (Some e) z = refl
    by_side None z = refl

    equation_place : (z : Tree) → replace_first (Two HEq (without_ifs a) (without_ifs b)) (without_ifs z) ≡ equation_over (first_if a) z
    equation_place z =
        ap (λ (o : Option Tree). one_changed o HEq (without_ifs a) (without_ifs b) (replace_first (without_ifs a) (without_ifs z)) (replace_first (without_ifs b) (without_ifs z))) (first_over a x.2 (inl x.0.0.0))
        ∙ ap (λ (w : Tree). one_changed (option_map if_over (first_if a)) HEq (without_ifs a) (without_ifs b) w (replace_first (without_ifs b) (without_ifs z))) (place_over z a x.2 (inl x.0.0.0))
        ∙ ap (λ (w : Tree). one_changed (option_map if_over (first_if a)) HEq (without_ifs a) (without_ifs b) (without_ifs (replace_first a z)) w) (place_over z b x.3 (inl x.0.0.1))

    equation_first_over : first_if (Two HEq (without_ifs a) (without_ifs b)) ≡ option_map if_over (first_if (Two HEq a b))
    equation_first_over =
        ap (λ (z : Option Tree). earlier z (first_if (without_ifs b))) (first_over a x.2 (inl x.0.0.0)) ∙ ap (earlier (option_map if_over (first_if a))) (first_over b x.3 (inl x.0.0.1)) ∙ earlier_over (first_if a) (first_if b)

    equation_first : (c m n : Tree) → first_if (Two HEq a b) ≡ Some (Three HIf c m n)
        → without_ifs (Two HEq a b) ≡ implications (without_ifs c) (without_ifs (replace_first (Two HEq a b) m)) (without_ifs (replace_first (Two HEq a b) n))
    equation_first c m n q =
        first_case (without_ifs c) (without_ifs m) (without_ifs n) (Two HEq (without_ifs a) (without_ifs b)) (equation_first_over ∙ ap (option_map if_over) q) (λ u. u)
        ∙ same_cases (without_ifs c) _ _ _ _
        (ap (λ (w : Tree). cases_over w (λ u. u)) (equation_place m) ∙ by_side (first_if a) m)
        (ap (λ (w : Tree). cases_over w (λ u. u)) (equation_place n) ∙ by_side (first_if a) n)

  pub first_comes_first : (h : Head) (a b c m n : Tree) → is_atom_head h → HasTyping v types (Two h a b) → first_if (Two h a b) ≡ Some (Three HIf c m n)
      → without_ifs (Two h a b) ≡ implications (without_ifs c) (without_ifs (replace_first (Two h a b) m)) (without_ifs (replace_first (Two h a b) n))
  first_comes_first (HPred p) a b c m n k x q = predicate_first p a b c m n x q
  first_comes_first HEq a b c m n k x q = equation_first a b x c m n q
  first_comes_first _ a b c m n k x q = absurd k

  -- ---- what has no conditional
  type_stays : (e : Tree) → HasTyping v types e → (sort_of e ≡ Kind) ⊎ IsList Kind e → without_ifs e ≡ e
  type_stays e x k = image_type v if_rule (typed_rule v) e (has_sorts v types e x) k

  term_stays : (e : Tree) → HasTyping v types e → AreTerms e → first_if e ≡ None → has_let_or_match e ≡ false → without_ifs e ≡ e
  term_stays (Leaf h) x k q n = refl
  term_stays (One (HBound i) a) x k q n = ap (λ (z : Tree). One (HBound i) z) (type_stays a x.2 (inl x.0.0))
  term_stays (One (HParam i) a) x k q n = ap (λ (z : Tree). One (HParam i) z) (type_stays a x.2 (inl x.0))
  term_stays (One HNot a) x k q n = absurd (no_formula None k)
  term_stays (One (HTyApp j) a) x k q n = absurd (no_type None k)
  term_stays (One HPatAny a) x k q n = absurd (no_pattern None k)
  term_stays (One HPatVar a) x k q n = absurd (no_pattern None k)
  term_stays (One HPatAlias a) x k q n = absurd (no_pattern None k)
  term_stays (One _ a) x k q n = absurd x.0
  term_stays (Two HCell a b) x (inl s) q n = absurd (cc)
  term_stays (Two HCell a b) x (inr l) q n =
      let p = first_of Term a b x.0 l in let o = no_earlier (first_if a) (first_if b) q in let m = either_false (has_let_or_match a) (has_let_or_match b) n in
      ap (λ (z : Tree). Two HCell z (without_ifs b)) (term_stays a x.2 (inl p.0) o.0 m.0) ∙ ap (λ (z : Tree). Two HCell a z) (term_stays b x.3 (inr p.1) o.1 m.1)
  term_stays (Two HLet a b) x k q n = absurd (cc)
  term_stays (Two HCase a b) x k q n = absurd (cc)
  term_stays (Two (HPred p) a b) x k q n = absurd (no_formula None k)
  term_stays (Two HEq a b) x k q n = absurd (no_formula None k)
  term_stays (Two (HJoin op) a b) x k q n = absurd (no_formula None k)
  term_stays (Two HForall a b) x k q n = absurd (no_formula None k)
  term_stays (Two HExists a b) x k q n = absurd (no_formula None k)
  term_stays (Two HArm a b) x k q n = absurd (not_terms Branch None (λ e. cc) (λ e. cc) k)
  term_stays (Two _ a b) x k q n = absurd x.0.0
  term_stays (Three HIf c a b) x k q n = absurd (cc)
  term_stays (Three (HFun f) tys args ty) x k q n =
      let m = either_false (has_let_or_match tys) (has_let_or_match args || has_let_or_match ty) n in let o = either_false (has_let_or_match args) (has_let_or_match ty) m.1 in
      ap (λ (z : Tree). Three (HFun f) z (without_ifs args) (without_ifs ty)) (type_stays tys x.2 (inr x.0.0)) ∙ ap (λ (z : Tree). Three (HFun f) tys z (without_ifs ty)) (term_stays args x.3 (inr x.0.1) q o.0)
      ∙ ap (λ (z : Tree). Three (HFun f) tys args z) (type_stays ty x.4 (inl x.0.2))
  term_stays (Three (HPatCon j) a b c) x k q n = absurd (no_pattern None k)
  term_stays (Three _ a b c) x k q n = absurd x.0

  pub others_stay : (h : Head) (a b : Tree) → is_atom_head h → HasTyping v types (Two h a b) → first_if (Two h a b) ≡ None → has_let_or_match (Two h a b) ≡ false → without_ifs (Two h a b) ≡ Two h a b
  others_stay (HPred p) a b k x q n =
      let m = either_false (has_let_or_match a) (has_let_or_match b) n in
      ap (λ (z : Tree). cases_over (Two (HPred p) z (without_ifs b)) (λ u. u)) (type_stays a x.2 (inr x.0.0.0)) ∙ ap (λ (z : Tree). cases_over (Two (HPred p) a z) (λ u. u)) (term_stays b x.3 (inr x.0.0.1) q m.1)
      ∙ no_first (Two (HPred p) a b) (λ u. u) q
  others_stay HEq a b k x q n =
      let m = either_false (has_let_or_match a) (has_let_or_match b) n in let o = no_earlier (first_if a) (first_if b) q in
      ap (λ (z : Tree). cases_over (Two HEq z (without_ifs b)) (λ u. u)) (term_stays a x.2 (inl x.0.0.0) o.0 m.0) ∙ ap (λ (z : Tree). cases_over (Two HEq a z) (λ u. u)) (term_stays b x.3 (inl x.0.0.1) o.1 m.1)
      ∙ no_first (Two HEq a b) (λ u. u) q
  others_stay _ a b k x q n = absurd k

  pub formula_becomes : (c a b : Tree) → HasTyping v types (Three HIf c a b) → sort_of a ≡ Formula → without_ifs (Three HIf c a b) ≡ implications (without_ifs c) (without_ifs a) (without_ifs b)
  formula_becomes c a b x q =
      let s : sort_of (without_ifs a) ≡ Formula = (ifs_keep_typing v types a x.3).sort ∙ q in ap (λ (z : Sort). if_of_sort z (without_ifs c) (without_ifs a) (without_ifs b)) s
