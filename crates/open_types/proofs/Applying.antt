-- Uses in other words, and what is in parentheses.
use Rattle.std.proofs.Common.{◌≡◌, ℕ, Bool, true, false, not, List, [], ◌∷◌, length, get_or, Option, None, Result, Ok, Err, IfOk, refl, ap, subst, ◌∙◌, arith}
use Rattle.trees.specs.declared.Sort.TheVariants.{Formula}
use Rattle.trees.specs.Tree.{Tree}
use Rattle.trees.specs.Sorts.{sort_of}
use Rattle.surface.specs.declared.expressions.Expr.{Expr}
use Rattle.surface.specs.Lexeme.{Word}
use Rattle.name_resolution.specs.Abstract.{FieldName, Expression, Expressions, BoundNames, applied_expression, infix_expression, tuple_expression, field_expression, record_expression, quantified_expression, no_expressions, more_expressions, count_expressions}
use Rattle.name_resolution.specs.Faults.{faults, fault_if, name_fault}
use Rattle.name_resolution.specs.declared.NamingFault.TheVariants.{WrongKind}
use Rattle.name_resolution.specs.declared.world.World.{World}
use Rattle.open_types.specs.declared.draft.Constraints.{Constraints}
use Rattle.open_types.specs.declared.locals.Locals.{Locals}
use Rattle.name_resolution.specs.Naming.{where_at}
use Rattle.open_types.specs.Drafts.{CanWalk, CanUse, names_of_locals, is_due}
use Rattle.open_types.specs.Pieces.{equality}
use Rattle.trees.specs.declared.TermId.{TermId}
use Rattle.open_types.specs.Sizes.{size_of, sizes_of}
use Rattle.open_types.proofs.Walking.{in_infixed, in_tuple, in_field, in_record, none_both, must_be}

pub apply_same : (i : ℕ) {qs qs' : List Word} {x x' : Word} {es es' : Expressions} → qs ≡ qs' → x ≡ x' → es ≡ es' → applied_expression i qs x es ≡ applied_expression i qs' x' es'
apply_same i {qs' = qs'} {x = x} {x' = x'} {es = es} a b c = ap (λ (q : List Word). applied_expression i q x es) a ∙ (ap (λ (y : Word). applied_expression i qs' y es) b ∙ ap (applied_expression i qs' x') c)

-- told of an expression in other words
pub can_as : {s : List Tree} {d : Constraints} {w : World} {ls : Locals} {t : Option TermId} {e e' : Expression} → e ≡ e' → CanWalk s d w ls t e → CanWalk s d w ls t e'
can_as {s} {d} {w} {ls} {t} q c = subst (CanWalk s d w ls t) q c

-- an operator between two is a name before them
pub can_infix : {s : List Tree} {d : Constraints} {w : World} {ls : Locals} {t : Option TermId} (i : ℕ) (x : Word) (a b : Expression) → CanWalk s d w ls t (infix_expression i x a b) → CanWalk s d w ls t (applied_expression i [] x (more_expressions a (more_expressions b no_expressions)))
can_infix {s} {w = w} {ls = ls} {t = t} i x a b c = record { set = c.set; wanted = c.wanted; resolved = in_infixed (where_at s w) false (names_of_locals ls) (is_due t) i x a b c.resolved }

-- one alone counts as itself
pub first_size : (xs : List Expr) (d : Expr) → length xs ≡ 1 → size_of (get_or xs 0 d) ≡ sizes_of xs
first_size [] d h = absurd (cc)
first_size (x ∷ []) d h = omega arith
first_size (x ∷ y ∷ zs) d h = absurd (cc)

-- a use's operands have no fault where the use has none
pub can_use : {s : List Tree} {d : Constraints} {w : World} {ls : Locals} {t : Option TermId} (i : ℕ) (qs : List Word) (x : Word) (es : Expressions) → CanWalk s d w ls t (applied_expression i qs x es) → CanUse s d w ls t es
can_use {s} {w = w} {ls = ls} {t = t} i qs x es c = record { set = c.set; wanted = c.wanted; resolved = (none_both (name_fault (where_at s w) (names_of_locals ls) (is_due t) i qs x (count_expressions es)) (faults (where_at s w) false (names_of_locals ls) es) c.resolved).1 }

pub can_tuple : {s : List Tree} {d : Constraints} {w : World} {ls : Locals} {t : Option TermId} (i : ℕ) (es : Expressions) → CanWalk s d w ls t (tuple_expression i es) → CanUse s d w ls t es
can_tuple {s} {w = w} {ls = ls} {t = t} i es c = record { set = c.set; wanted = c.wanted; resolved = (in_tuple (where_at s w) false (names_of_locals ls) (is_due t) i es c.resolved).1 }

pub can_field : {s : List Tree} {d : Constraints} {w : World} {ls : Locals} {t : Option TermId} (i : ℕ) (e : Expression) (k : ℕ) (qs : List Word) (x : Word) → CanWalk s d w ls t (field_expression i e k qs x) → CanUse s d w ls t (more_expressions e no_expressions)
can_field {s} {w = w} {ls = ls} {t = t} i e k qs x c = record { set = c.set; wanted = c.wanted; resolved = in_field (where_at s w) false (names_of_locals ls) (is_due t) i e k qs x c.resolved }

pub can_record : {s : List Tree} {d : Constraints} {w : World} {ls : Locals} {t : Option TermId} (i : ℕ) (fs : List FieldName) (es : Expressions) → CanWalk s d w ls t (record_expression i fs es) → CanUse s d w ls t es
can_record {s} {w = w} {ls = ls} {t = t} i fs es c = record { set = c.set; wanted = c.wanted; resolved = (in_record (where_at s w) false (names_of_locals ls) (is_due t) i fs es c.resolved).2 }

-- under quantifiers a formula is due
pub quantified_due : {s : List Tree} {d : Constraints} {w : World} {ls : Locals} {t : Option TermId} (i : ℕ) (all : Bool) (bs : List BoundNames) (gs : Expressions) (e : Expression) → CanWalk s d w ls t (quantified_expression i all bs gs e) → is_due t ≡ true
quantified_due {t = t} i all bs gs e c = must_be (is_due t) _ (none_both (fault_if (not (is_due t)) (WrongKind i)) _ c.resolved).0

pub can_quantify : {s : List Tree} {d : Constraints} {w : World} {ls : Locals} {t : Option TermId} (i : ℕ) (all : Bool) (bs : List BoundNames) (gs : Expressions) (e : Expression) → CanWalk s d w ls t (quantified_expression i all bs gs e) → CanWalk s d w ls None (quantified_expression i all bs gs e)
can_quantify {s} {w = w} {ls = ls} {t = t} i all bs gs e c = record { set = c.set; wanted = tt; resolved = rw (quantified_due i all bs gs e c) at c.resolved }

pub equality_sort : (same : Bool) (a b : Tree) → sort_of (equality same a b) ≡ Formula
equality_sort true a b = refl
equality_sort false a b = refl

-- clauses of one result together
pub ifok_both : {A E : Type 0} (r : Result A E) {P Q R : A → Type 0} → ((x : A) → P x → Q x → R x) → IfOk r P → IfOk r Q → IfOk r R
ifok_both (Ok x) f p q = f x p q
ifok_both (Err e) f p q = tt

pub ifok_three : {A E : Type 0} (r : Result A E) {P Q R S : A → Type 0} → ((x : A) → P x → Q x → R x → S x) → IfOk r P → IfOk r Q → IfOk r R → IfOk r S
ifok_three (Ok x) f p q o = f x p q o
ifok_three (Err e) f p q o = tt
