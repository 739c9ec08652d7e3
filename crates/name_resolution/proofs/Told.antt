-- Faults of parts, told of the whole.
use Rattle.std.proofs.Common.{◌≡◌, ℕ, suc, Bool, true, false, List, [], ◌∷◌, ◌++◌, reverse, length, get_or, sym, ap, subst, ◌∙◌, Option, Some, None, Result, Ok, Err, refl}
use Rattle.std.specs.Prelude.{OnOk}
use Rattle.std.specs.Result.{IsErrAnd}
use mathlib.Core.List.{append-nil}
use Rattle.name_resolution.specs.declared.NamingFault.{NamingFault}
use Rattle.name_resolution.specs.declared.NamingFault.TheVariants.{Memory, Unknown, Duplicate, WrongKind, Arity}
use Rattle.surface.specs.declared.expressions.Expr.{Expr}
use Rattle.surface.specs.declared.expressions.ExprNode.TheVariants as ev
use Rattle.surface.specs.declared.types.TypeTree.{TypeTree}
use Rattle.surface.specs.declared.patterns.FieldPat.{FieldPat}
use Rattle.surface.specs.declared.patterns.Pat.{Pat}
use Rattle.surface.specs.declared.expressions.FieldValue.{FieldValue}
use Rattle.surface.specs.Forms as surface
use Rattle.surface.specs.Lexeme.{Word}
use Rattle.surface.specs.Surface as code
use Rattle.name_resolution.specs.Abstract.{Expression, Expressions, no_expressions, more_expressions, Patterns, no_patterns, more_patterns, Pattern, Alternatives, no_alternatives, more_alternatives, match_expression, MatchBranches, no_branches, more_branches, OperatorMeaning, connective_operator, equality_operator, symbol_operator, operated, let_by, let_name, TypeExpressions, no_types, more_types, tuple_expression, count_expressions, count_forms, count_patterns, grouped_forms, grouped_patterns, grouped, first_form, side_by_side, forms_of, expression_of, expressions_of, patterns_of, value_fields_of, field_values_of, pattern_fields_of, field_patterns_of}
use Rattle.name_resolution.specs.Where.{Where}
use Rattle.name_resolution.specs.Faults.{first_of, record_fault, name_fault, form_fault, forms_fault, fault, faults, pattern_fault, patterns_fault, pattern_names, patterns_names, alternatives_fault, alternatives_names, branch_fault, branches_fault, trigger_head, operator_head, trigger_other, token}
use Rattle.name_resolution.specs.Naming.{Tells, as_result}
use Rattle.name_resolution.proofs.Nodes.{patterns_are}
use Rattle.name_resolution.proofs.Operated.{matched_as}

-- the fault of a first part is the whole's
pub of_first : (e : NamingFault) (x y : Option NamingFault) → Tells (Err e) x → Tells (Err e) (first_of x y)
of_first Memory x y h = tt
of_first (Unknown t) x y h = rw h refl
of_first (Duplicate t) x y h = rw h refl
of_first (WrongKind t) x y h = rw h refl
of_first (Arity t) x y h = rw h refl

-- after a part without one, that of the rest
pub of_rest : (r : Result Unit NamingFault) (x y : Option NamingFault) → x ≡ None → Tells r y → Tells r (first_of x y)
of_rest r x y n h = rw n h

-- an answer that passes on an error
pub passed : (r : Result Unit NamingFault) (g : NamingFault) (x : Option NamingFault) → IsErrAnd r (λ (e : NamingFault). e ≡ g) → Tells (Err g) x → Tells r x
passed (Ok v) g x h k = absurd h
passed (Err e) g x h k = rw h k

-- want of memory tells nothing
pub no_memory : (r : Result Unit NamingFault) (x : Option NamingFault) → IsErrAnd r (λ (e : NamingFault). e ≡ Memory) → Tells r x
no_memory (Ok v) x h = absurd h
no_memory (Err e) x h = rw h tt

-- what is known is known after Ok
pub on_ok : {P : Type 0} (r : Result Unit NamingFault) → P → OnOk r P
on_ok (Ok v) p = p
on_ok (Err e) p = tt

-- an answer that is a fault or none
pub tells : (r : Result Unit NamingFault) (x : Option NamingFault) → r ≡ as_result x → Tells r x
tells r None h = rw h refl
tells r (Some Memory) h = rw h tt
tells r (Some (Unknown t)) h = rw h refl
tells r (Some (Duplicate t)) h = rw h refl
tells r (Some (WrongKind t)) h = rw h refl
tells r (Some (Arity t)) h = rw h refl

-- the number of arguments
pub counted : (es : List Expr) → count_expressions (expressions_of es) ≡ length es
counted [] = refl
counted (e ∷ es) = ap suc (counted es)

pub counted_forms : (ts : List TypeTree) → count_forms (forms_of ts) ≡ length ts
counted_forms [] = refl
counted_forms (t ∷ ts) = ap suc (counted_forms ts)

pub counted_patterns : (ps : List Pat) → count_patterns (patterns_of ps) ≡ length ps
counted_patterns [] = refl
counted_patterns (p ∷ ps) = ap suc (counted_patterns ps)

pub counted_values : (fs : List FieldValue) → count_expressions (field_values_of fs) ≡ length (value_fields_of fs)
counted_values [] = refl
counted_values (f ∷ fs) = ap suc (counted_values fs)

pub counted_field_patterns : (fs : List FieldPat) → count_patterns (field_patterns_of fs) ≡ length (pattern_fields_of fs)
counted_field_patterns [] = refl
counted_field_patterns (f ∷ fs) = ap suc (counted_field_patterns fs)

-- the names of a record's fields, told of as many parts
pub told_patterns : (w : Where) (r : Result Unit NamingFault) (i : ℕ) (fs gs : List FieldPat) → gs ≡ fs → Tells r (record_fault w false i (length (pattern_fields_of gs)) (pattern_fields_of gs))
    → Tells r (record_fault w false i (count_patterns (field_patterns_of fs)) (pattern_fields_of fs))
told_patterns w r i fs gs e h =
    subst (λ (n : ℕ). Tells r (record_fault w false i n (pattern_fields_of fs))) (sym (counted_field_patterns fs))
    (subst (λ (xs : List FieldPat). Tells r (record_fault w false i (length (pattern_fields_of xs)) (pattern_fields_of xs))) e h)

pub told_values : (w : Where) (r : Result Unit NamingFault) (i : ℕ) (fs : List FieldValue) → Tells r (record_fault w true i (length (value_fields_of fs)) (value_fields_of fs))
    → Tells r (record_fault w true i (count_expressions (field_values_of fs)) (value_fields_of fs))
told_values w r i fs h = subst (λ (n : ℕ). Tells r (record_fault w true i n (value_fields_of fs))) (sym (counted_values fs)) h

-- a name in other words
pub name_same : (w : Where) (ls : List Word) (due : Bool) (i : ℕ) {qs qs' : List Word} {x x' : Word} {n n' : ℕ} → qs ≡ qs' → x ≡ x' → n ≡ n' → name_fault w ls due i qs x n ≡ name_fault w ls due i qs' x' n'
name_same w ls due i {qs' = qs'} {x = x} {x' = x'} {n = n} a b d = ap (λ (q : List Word). name_fault w ls due i q x n) a ∙ (ap (λ (y : Word). name_fault w ls due i qs' y n) b ∙ ap (name_fault w ls due i qs' x') d)

-- an answer for one alone
pub first_alone : (r : Result Unit NamingFault) (x : Option NamingFault) → Tells r x → Tells r (first_of x None)
first_alone r None h = h
first_alone r (Some f) h = h

-- ---- what is in parentheses
pub first_none : (x : Option NamingFault) → first_of x None ≡ x
first_none None = refl
first_none (Some f) = refl

pub group_forms : (w : Where) (o : Bool) (i : ℕ) (fs : TypeExpressions) → forms_fault w o fs ≡ form_fault w o (grouped_forms i fs)
group_forms w o i no_types = refl
group_forms w o i (more_types f no_types) = first_none (form_fault w o f)
group_forms w o i (more_types f (more_types g gs)) = refl

pub group_one : (i : ℕ) (xs : List Expr) (d : Expr) → length xs ≡ 1 → grouped i (expressions_of xs) ≡ expression_of (get_or xs 0 d)
group_one i [] d h = absurd (cc)
group_one i (x ∷ []) d h = refl
group_one i (x ∷ y ∷ zs) d h = absurd (cc)

pub group_many : (i : ℕ) (xs : List Expr) → (length xs ≡ 1 → ⊥) → grouped i (expressions_of xs) ≡ tuple_expression i (expressions_of xs)
group_many i [] h = refl
group_many i (x ∷ []) h = absurd (h refl)
group_many i (x ∷ y ∷ zs) h = refl

-- ---- an operator between two
pub operated_head : (i : ℕ) (a : Expression) (o : OperatorMeaning) (b : Expression) → trigger_head (operated i a o b) ≡ operator_head o
operated_head i a (connective_operator o) b = refl
operated_head i a (equality_operator same) b = refl
operated_head i a (symbol_operator w) b = refl

pub operated_token : (i : ℕ) (a : Expression) (o : OperatorMeaning) (b : Expression) → token (operated i a o b) ≡ i
operated_token i a (connective_operator o) b = refl
operated_token i a (equality_operator same) b = refl
operated_token i a (symbol_operator w) b = refl

-- ---- a `let`
pub let_head : (o : Option Word) (i : ℕ) (ps : surface.SyntaxForms) (a b : Expression) → trigger_head (let_by o i ps a b) ≡ trigger_other
let_head None i ps a b = refl
let_head (Some x) i ps a b = refl

pub let_token : (o : Option Word) (i : ℕ) (ps : surface.SyntaxForms) (a b : Expression) → token (let_by o i ps a b) ≡ i
let_token None i ps a b = refl
let_token (Some x) i ps a b = refl

pattern_then : (x y z : Option NamingFault) → first_of (first_of x None) (first_of y (first_of (first_of x None) (first_of z None))) ≡ first_of x (first_of y z)
pattern_then (Some f) y z = refl
pattern_then None (Some f) z = refl
pattern_then None None z = first_none z

-- the pattern, then the value, then the body
pub let_fault : (w : Where) (o : Bool) (ls : List Word) (due : Bool) (i j : ℕ) (p : Pattern) (e b : Expression)
    → fault w o ls due (match_expression i true e (more_branches (more_alternatives j p no_alternatives) b no_branches))
    ≡ first_of (pattern_fault w [] p) (first_of (fault w o ls false e) (fault w o (reverse (pattern_names p) ++ ls) due b))
let_fault w o ls due i j p e b = pattern_then (pattern_fault w [] p) (fault w o ls false e) (fault w o (reverse (pattern_names p) ++ ls) due b)

pub let_as : (e : Expr) (ps : List Pat) (a b : Expr) → e.node ≡ ev.Let ps a b → let_name (code.patterns ps) ≡ None → (w : Where) (o : Bool) (ls : List Word) (due : Bool)
    → fault w o ls due (expression_of e)
    ≡ first_of (pattern_fault w [] (side_by_side (code.patterns ps))) (first_of (fault w o ls false (expression_of a)) (fault w o (reverse (pattern_names (side_by_side (code.patterns ps))) ++ ls) due (expression_of b)))
let_as e ps a b is q w o ls due =
    ap (fault w o ls due) (matched_as e ps a b is q)
    ∙ let_fault w o ls due e.at.main (first_form (code.patterns ps)) (side_by_side (code.patterns ps)) (expression_of a) (expression_of b)

-- ---- values of a `match`
pub due_group : (w : Where) (o : Bool) (ls : List Word) (i : ℕ) (es : Expressions) → faults w o ls es ≡ fault w o ls false (grouped i es)
due_group w o ls i no_expressions = refl
due_group w o ls i (more_expressions e no_expressions) = first_none (fault w o ls false e)
due_group w o ls i (more_expressions e (more_expressions f es)) = refl

-- ---- patterns
group_patterns : (w : Where) (us : List Word) (i : ℕ) (ps : Patterns) → patterns_fault w us ps ≡ pattern_fault w us (grouped_patterns i ps)
group_patterns w us i no_patterns = refl
group_patterns w us i (more_patterns p no_patterns) = first_none (pattern_fault w us p)
group_patterns w us i (more_patterns p (more_patterns q ps)) = refl

group_names : (i : ℕ) (ps : Patterns) → patterns_names ps ≡ pattern_names (grouped_patterns i ps)
group_names i no_patterns = refl
group_names i (more_patterns p no_patterns) = append-nil (pattern_names p)
group_names i (more_patterns p (more_patterns q ps)) = refl

pub enclosed_fault : (w : Where) (us : List Word) (i : ℕ) (ps : List Pat) → patterns_fault w us (patterns_of ps) ≡ pattern_fault w us (grouped_patterns i (patterns_of ps))
enclosed_fault w us i ps = group_patterns w us i (patterns_of ps)

pub enclosed_names : (i : ℕ) (ps : List Pat) → patterns_names (patterns_of ps) ≡ pattern_names (grouped_patterns i (patterns_of ps))
enclosed_names i ps = group_names i (patterns_of ps)

pub whole_fault : (w : Where) (us : List Word) (ps : List Pat) → patterns_fault w us (patterns_of ps) ≡ pattern_fault w us (side_by_side (code.patterns ps))
whole_fault w us ps =
    group_patterns w us (first_form (code.patterns ps)) (patterns_of ps) ∙ ap (λ (q : Patterns). pattern_fault w us (grouped_patterns (first_form (code.patterns ps)) q)) (sym (patterns_are ps))

pub whole_names : (ps : List Pat) → patterns_names (patterns_of ps) ≡ pattern_names (side_by_side (code.patterns ps))
whole_names ps = group_names (first_form (code.patterns ps)) (patterns_of ps) ∙ ap (λ (q : Patterns). pattern_names (grouped_patterns (first_form (code.patterns ps)) q)) (sym (patterns_are ps))

-- ---- branches
pub three : (x y z : Option NamingFault) → first_of (first_of x y) z ≡ first_of x (first_of y z)
three None y z = refl
three (Some f) y z = refl

pub branch_first : (w : Where) (o : Bool) (ls : List Word) (due : Bool) (ps : Alternatives) (b : Expression) (bs : MatchBranches)
    → first_of (branch_fault w o ls due ps b) (branches_fault w o ls due bs) ≡ branches_fault w o ls due (more_branches ps b bs)
branch_first w o ls due ps b bs = three (alternatives_fault w ps) (fault w o (reverse (alternatives_names ps) ++ ls) due b) (branches_fault w o ls due bs)
