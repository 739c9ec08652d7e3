-- Widths of what is in parentheses, and type variables after an operator.
use Rattle.std.proofs.Common.{◌≡◌, ℕ, suc, ◌==◌, cond, Bool, false, arith, List, [], ◌∷◌, length, sym, ap, ◌∙◌, refl}
use Rattle.std.proofs.lemmas.Bool.{ne_eqb}
use Rattle.surface.specs.declared.expressions.Expr.{Expr}
use Rattle.surface.specs.declared.types.TypeTree.{TypeTree}
use Rattle.surface.specs.declared.patterns.Pat.{Pat}
use Rattle.name_resolution.specs.Abstract.{Patterns, first_form, side_by_side, Expression, OperatorMeaning, connective_operator, equality_operator, symbol_operator, operated, grouped_forms, grouped_patterns, grouped, forms_of, expressions_of, patterns_of}
use Rattle.surface.specs.Surface as code
use Rattle.name_resolution.proofs.Nodes.{patterns_are}
use Rattle.name_resolution.proofs.Told.{counted, counted_forms, counted_patterns}
use Rattle.name_resolution.specs.variables.Seen.{SeenTree, with_width, form_seen, forms_seen, pattern_seen, patterns_seen, seen, all_seen}

pub operated_seen : (i : ℕ) (a : Expression) (o : OperatorMeaning) (b : Expression) (s : SeenTree) → seen s (operated i a o b) ≡ seen (seen s a) b
operated_seen i a (connective_operator o) b s = refl
operated_seen i a (equality_operator same) b s = refl
operated_seen i a (symbol_operator w) b s = refl

abbrev pub widened : ℕ → SeenTree → SeenTree
widened n s = cond (n == 1) s (with_width n s)

not_one : (n : ℕ) → (suc (suc n) == 1) ≡ false
not_one n = ne_eqb (suc (suc n)) 1 (λ e. let z : ⊥ = omega (arith, e) in z)

pub forms_widened : (i : ℕ) (xs : List TypeTree) (s : SeenTree) → forms_seen (widened (length xs) s) (forms_of xs) ≡ form_seen s (grouped_forms i (forms_of xs))
forms_widened i [] s = refl
forms_widened i (x ∷ []) s = refl
forms_widened i (x ∷ y ∷ zs) s =
    ap (λ (b : Bool). forms_seen (cond b s (with_width (suc (suc (length zs))) s)) (forms_of (x ∷ y ∷ zs))) (not_one (length zs)) ∙ ap (λ (n : ℕ). forms_seen (with_width (suc (suc n)) s) (forms_of (x ∷ y ∷ zs))) (sym (counted_forms zs))

pub expressions_widened : (i : ℕ) (xs : List Expr) (s : SeenTree) → all_seen (widened (length xs) s) (expressions_of xs) ≡ seen s (grouped i (expressions_of xs))
expressions_widened i [] s = refl
expressions_widened i (x ∷ []) s = refl
expressions_widened i (x ∷ y ∷ zs) s =
    ap (λ (b : Bool). all_seen (cond b s (with_width (suc (suc (length zs))) s)) (expressions_of (x ∷ y ∷ zs))) (not_one (length zs)) ∙ ap (λ (n : ℕ). all_seen (with_width (suc (suc n)) s) (expressions_of (x ∷ y ∷ zs))) (sym (counted zs))

pub patterns_widened : (i : ℕ) (xs : List Pat) (s : SeenTree) → patterns_seen (widened (length xs) s) (patterns_of xs) ≡ pattern_seen s (grouped_patterns i (patterns_of xs))
patterns_widened i [] s = refl
patterns_widened i (x ∷ []) s = refl
patterns_widened i (x ∷ y ∷ zs) s =
    ap (λ (b : Bool). patterns_seen (cond b s (with_width (suc (suc (length zs))) s)) (patterns_of (x ∷ y ∷ zs))) (not_one (length zs)) ∙ ap (λ (n : ℕ). patterns_seen (with_width (suc (suc n)) s) (patterns_of (x ∷ y ∷ zs))) (sym (counted_patterns zs))

pub side_widened : (xs : List Pat) (s : SeenTree) → patterns_seen (widened (length xs) s) (patterns_of xs) ≡ pattern_seen s (side_by_side (code.patterns xs))
side_widened xs s = patterns_widened (first_form (code.patterns xs)) xs s ∙ ap (λ (q : Patterns). pattern_seen s (grouped_patterns (first_form (code.patterns xs)) q)) (sym (patterns_are xs))
