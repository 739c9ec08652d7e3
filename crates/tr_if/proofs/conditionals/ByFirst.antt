-- An atom by cases on its first conditional, made in a store.
use Rattle.std.proofs.Common.{◌≡◌, ℕ, ◌<◌, ◌≤◌, List, Some, Result, Ok, Err, IsErrAnd, IfErr, subst, sym, ap, ◌∙◌, arith}
use Rattle.trees.specs.declared.TermId.{TermId}
use Rattle.trees.specs.Tree.{Tree, Three, HIf, size}
use Rattle.trees.specs.Node.{tree_at, Holds, Grows}
use Rattle.trees.specs.Sorts.{sort_of}
use Rattle.tr_if.specs.conditionals.Conditionals.{implications, first_if, replace_first, cases_over}
use Rattle.tr_if.specs.declared.conditionals.firsts.IfParts.{IfParts}
use Rattle.tr_if.specs.declared.conditionals.growth.GrowthFault.{GrowthFault}
use Rattle.tr_if.specs.declared.conditionals.growth.GrowthFault.TheVariants as fault
use Rattle.tr_if.specs.conditionals.Held.{AreIfParts, CanPlace, IsMadeInPlace, IsFormulaNumber, IsByCases, IsGrowthFault}
use Rattle.tr_if.specs.conditionals.lemmas.Cases.{first_case}
use Rattle.tr_if.proofs.conditionals.Placing.{place_sorts, then_sort, else_sort, else_expression, then_smaller, else_smaller}

pub growth_up : (m n : ℕ) (f : GrowthFault) → m ≤ n → IsGrowthFault m f → IsGrowthFault n f
growth_up m n fault.Memory l g = tt
growth_up m n fault.TooLarge l g = omega (arith, l, g)

pub growth_same : (m n : ℕ) (f : GrowthFault) → m ≡ n → IsGrowthFault m f → IsGrowthFault n f
growth_same m n f q g = subst (λ (z : ℕ). IsGrowthFault z f) q g

-- a fault that a call passes on
pub growth_passed : {X : Type 0} (r : Result X GrowthFault) (f : GrowthFault) (n : ℕ) → IsErrAnd r (λ e. e ≡ f) → IsGrowthFault n f → IfErr r (IsGrowthFault n)
growth_passed (Ok x) f n h g = absurd h
growth_passed (Err e) f n h g = subst (IsGrowthFault n) (sym h) g

pub formula_later : (s t : List Tree) → Grows s t → (e : TermId) → IsFormulaNumber s e → IsFormulaNumber t e
formula_later s t w e f = record { held = omega (arith, f.held, w.longer); sort = ap sort_of (w.same e.0 f.held) ∙ f.sort }

module _ (s : List Tree) (e whole : TermId) (k : IfParts) (fe : IsFormulaNumber s e) (q : first_if (tree_at s e) ≡ Some (tree_at s whole)) (p : AreIfParts s (tree_at s whole) k) where
  abbrev condition : Tree
  condition = tree_at s k.condition

  abbrev then_part : Tree
  then_part = tree_at s k.then_part

  abbrev else_part : Tree
  else_part = tree_at s k.else_part

  first_is : first_if (tree_at s e) ≡ Some (Three HIf condition then_part else_part)
  first_is = q ∙ ap Some p.is

  pub then_can : CanPlace s e k.then_part
  then_can = record { held = fe.held; other_held = p.then_part; expression = p.fits.1; sort = then_sort (tree_at s e) condition then_part else_part first_is p.fits }

  pub else_can : CanPlace s e k.else_part
  else_can = record {
    held = fe.held;
    other_held = p.else_part;
    expression = else_expression (tree_at s e) condition then_part else_part first_is p.fits;
    sort = else_sort (tree_at s e) condition then_part else_part first_is p.fits;
  }

  first_size : size (implications condition (cases_over (replace_first (tree_at s e) then_part) (λ u. u)) (cases_over (replace_first (tree_at s e) else_part) (λ u. u))) ≡ size (cases_over (tree_at s e) (λ u. u))
  first_size = sym (ap size (first_case condition then_part else_part (tree_at s e) first_is (λ u. u)))

  module _ (s1 s2 : List Tree) (w1 : Grows s s1) (w2 : Grows s1 s2) (first second : TermId) (pf : IsMadeInPlace (tree_at s e) then_part s1 first) (ps : IsMadeInPlace (tree_at s1 e) (tree_at s1 k.else_part) s2 second) where
    first_tree : tree_at s2 first ≡ replace_first (tree_at s e) then_part
    first_tree = w2.same first.0 pf.held ∙ pf.is

    second_tree : tree_at s2 second ≡ replace_first (tree_at s e) else_part
    second_tree = ps.is ∙ ap (λ (z : Tree). replace_first z (tree_at s1 k.else_part)) (w1.same e.0 fe.held) ∙ ap (replace_first (tree_at s e)) (w1.same k.else_part.0 p.else_part)

    pub first_formula : IsFormulaNumber s2 first
    first_formula = record {
      held = omega (arith, pf.held, w2.longer);
      sort = ap sort_of first_tree ∙ (place_sorts then_part then_can.expression (tree_at s e) then_can.sort).sort ∙ fe.sort;
    }

    pub second_formula : IsFormulaNumber s2 second
    second_formula = record {
      held = ps.held;
      sort = ap sort_of second_tree ∙ (place_sorts else_part else_can.expression (tree_at s e) else_can.sort).sort ∙ fe.sort;
    }

    pub first_less : size (tree_at s2 first) < size (tree_at s e)
    first_less = let r = then_smaller (tree_at s e) condition then_part else_part first_is p.fits in let t : size (tree_at s2 first) ≡ size (replace_first (tree_at s e) then_part) = ap size first_tree in omega (arith, r, t)

    pub second_less : size (tree_at s2 second) < size (tree_at s e)
    second_less = let r = else_smaller (tree_at s e) condition then_part else_part first_is p.fits in let t : size (tree_at s2 second) ≡ size (replace_first (tree_at s e) else_part) = ap size second_tree in omega (arith, r, t)

    pub then_large : (f : GrowthFault) → IsGrowthFault (size (cases_over (tree_at s2 first) (λ u. u))) f → IsGrowthFault (size (cases_over (tree_at s e) (λ u. u))) f
    then_large f g =
        let t : size (cases_over (tree_at s2 first) (λ u. u)) ≡ size (cases_over (replace_first (tree_at s e) then_part) (λ u. u)) = ap (λ (z : Tree). size (cases_over z (λ u. u))) first_tree in
        growth_up _ _ f (omega (arith, t, first_size)) g

    module _ (s3 : List Tree) (w3 : Grows s2 s3) where
      second_again : tree_at s3 second ≡ replace_first (tree_at s e) else_part
      second_again = w3.same second.0 ps.held ∙ second_tree

      pub second_again_less : size (tree_at s3 second) < size (tree_at s e)
      second_again_less = let r = second_less in let t : size (tree_at s3 second) ≡ size (tree_at s2 second) = ap size (w3.same second.0 ps.held) in omega (arith, r, t)

      pub else_large : (f : GrowthFault) → IsGrowthFault (size (cases_over (tree_at s3 second) (λ u. u))) f → IsGrowthFault (size (cases_over (tree_at s e) (λ u. u))) f
      else_large f g =
          let t : size (cases_over (tree_at s3 second) (λ u. u)) ≡ size (cases_over (replace_first (tree_at s e) else_part) (λ u. u)) = ap (λ (z : Tree). size (cases_over z (λ u. u))) second_again in
          growth_up _ _ f (omega (arith, t, first_size)) g

      module _ (s4 : List Tree) (w4 : Grows s3 s4) (x y : TermId) (bx : IsByCases (tree_at s2 first) s3 x) (cy : IsByCases (tree_at s3 second) s4 y) where
        pub condition_formula : IsFormulaNumber s4 k.condition
        condition_formula = formula_later s3 s4 w4 k.condition (formula_later s2 s3 w3 k.condition (formula_later s1 s2 w2 k.condition (formula_later s s1 w1 k.condition (record { held = p.condition; sort = p.fits.0 }))))

        pub then_formula : IsFormulaNumber s4 x
        then_formula = formula_later s3 s4 w4 x bx.formula

        condition_tree : tree_at s4 k.condition ≡ condition
        condition_tree = let h1 : Holds s1 k.condition = omega (arith, p.condition, w1.longer) in let h2 : Holds s2 k.condition = omega (arith, h1, w2.longer) in let h3 : Holds s3 k.condition = omega (arith, h2, w3.longer) in
            w4.same k.condition.0 h3 ∙ w3.same k.condition.0 h2 ∙ w2.same k.condition.0 h1 ∙ w1.same k.condition.0 p.condition

        pub by_first_is : implications (tree_at s4 k.condition) (tree_at s4 x) (tree_at s4 y) ≡ cases_over (tree_at s e) (λ u. u)
        by_first_is =
            ap (λ (z : Tree). implications z (tree_at s4 x) (tree_at s4 y)) condition_tree
            ∙ ap (λ (z : Tree). implications condition z (tree_at s4 y)) (w4.same x.0 bx.formula.held ∙ bx.is ∙ ap (λ (z : Tree). cases_over z (λ u. u)) first_tree)
            ∙ ap (λ (z : Tree). implications condition (cases_over (replace_first (tree_at s e) then_part) (λ u. u)) z) (cy.is ∙ ap (λ (z : Tree). cases_over z (λ u. u)) second_again)
            ∙ sym (first_case condition then_part else_part (tree_at s e) first_is (λ u. u))
