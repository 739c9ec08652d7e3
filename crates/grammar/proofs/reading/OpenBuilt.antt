-- What is read as an open form, as branches or as a quantifier's names is right.
use Rattle.grammar.proofs.reading.Common.{◌≡◌, ℕ, ◌+◌, Bool, true, false, List, [], ◌∷◌, ◌++◌, None, refl, sym, ap, ◌∙◌, subst, append_assoc, arith, Symbol, Lexeme, Word, at, lx, mark, SyntaxForm, IsForm, IsPlaced, form_tail, more_forms, past, pattern_forms, write_form, AreBranches, IsLevel, IsPlacedTree, PlacedBranches, SyntaxTree, alternative_tail, binder_tail, binding, choice, ends_open, name_row, quantified, quantifier, separator, terms_tail, tight, type_part, write, write_branches, write_others, write_tail, write_trigger, ArmPart, CasesPart, binder_with, branch_of, next_term, Val, Vals, row, open_rows, rows}
use Rattle.tokens_why.specs.declared.terminal.Terminal.TheVariants as t
use Rattle.grammar.specs.declared.symbols.Symbol.TheVariants as s
use Rattle.grammar.proofs.reading.Reading.{past-append}
use Rattle.grammar.proofs.reading.FormsRead.{regroup}
use Rattle.grammar.proofs.reading.Operands.{both_right, past_op}
use Rattle.grammar.proofs.reading.TermsRight.{IsArm, write_arm, write_bound, write_branch, write_cases, write_terms_part}
use Rattle.grammar.proofs.reading.Good.{◌▸◌, AllRows, Good, Proper, RowOk, extend_ok}
use Rattle.grammar.proofs.reading.FormsBuilt.{pat_ok}

pub choice_tokens : (a b c xs y1 z1 y2 z2 y3 zs : List Lexeme) (n1 n2 : Word) → xs ≡ a ++ y1 → y1 ≡ lx t.ThenWord n1 ∷ z1 → n1 ≡ [] → z1 ≡ b ++ y2 → y2 ≡ lx t.ElseWord n2 ∷ z2 → n2 ≡ [] → z2 ≡ c ++ y3 → y3 ≡ zs → xs ≡ (a ++ (mark t.ThenWord ∷ (b ++ (mark t.ElseWord ∷ c)))) ++ zs
choice_tokens a b c xs y1 z1 y2 z2 y3 zs n1 n2 e1 e2 e3 e4 e5 e6 e7 e8 = rw (e1, e2, e3, e4, e5, e6, e7, e8) (sym (both_right a (mark t.ThenWord) (b ++ (mark t.ElseWord ∷ c)) zs ∙ ap (λ v. a ++ (mark t.ThenWord ∷ v)) (both_right b (mark t.ElseWord) c zs)))

pub choice_past : (a b c : List Lexeme) (i : ℕ) → past i (a ++ (mark t.ThenWord ∷ (b ++ (mark t.ElseWord ∷ c)))) ≡ past (past (past i a + 1) b + 1) c
choice_past a b c i = past_op a (mark t.ThenWord) (b ++ (mark t.ElseWord ∷ c)) i ∙ past_op b (mark t.ElseWord) c (past i a + 1)

pub bound_row : (a b c d : List Lexeme) → a ++ (b ++ (c ++ d)) ≡ ((a ++ b) ++ c) ++ d
bound_row a b c d = sym (append_assoc (a ++ b) c d ∙ append_assoc a b (c ++ d))

pub bound_tokens : (a b c d ys : List Lexeme) → (a ++ (b ++ (c ++ d))) ++ ys ≡ (((a ++ b) ++ c) ++ d) ++ ys
bound_tokens a b c d ys = ap (λ v. v ++ ys) (bound_row a b c d)

pub list_tokens : (a b c ys : List Lexeme) → a ++ ((b ++ c) ++ ys) ≡ ((a ++ b) ++ c) ++ ys
list_tokens a b c ys = sym (regroup a b c ys)

pub list_past : (a b c : List Lexeme) (i : ℕ) → past i ((a ++ b) ++ c) ≡ past (past i a) (b ++ c)
list_past a b c i = ap (past i) (append_assoc a b c) ∙ past-append a (b ++ c) i

-- A symbol that is read as an open form, and is an expression.
abbrev pub Opens : (top : Symbol) → (SyntaxTree → Val top) → Type 0
Opens top f = (k : List Symbol) (i : ℕ) (e : SyntaxTree) (xs ys : List Lexeme) (vs : Vals k) → IsLevel e → IsPlacedTree i e → ends_open e ≡ true → tight e ≡ 9 → xs ≡ write e ++ ys → Good true k (past i (write e)) ys vs → Good false (top ∷ k) i xs (f e, vs)

pub opens_expr : (m : ℕ) → Opens (s.Expr m) (λ e. e)
opens_expr m k i e xs ys vs l p o u x g = (ys, (l, p, λ z. omega (arith, u)), x, subst (λ b. Good b k (past i (write e)) ys vs) (sym o) g)

pub opens_form : Opens s.OpenForm (λ e. e)
opens_form k i e xs ys vs l p o u x g = (ys, (l, p), x, subst (λ b. Good b k (past i (write e)) ys vs) (sym o) g)

pub open_ok : (top : Symbol) (f : SyntaxTree → Val top) → Opens top f → AllRows top (open_rows top f)
open_ok top f h = (λ k i w xs vs p (y1, q1, e1, (y2, q2, e2, (y3, q3, e3, (y4, q4, e4, (y5, q5, e5, (zs, q6, e6, g)))))). h k i (choice (at i) vs.0 vs.1.1.0 vs.1.1.1.1.0) (lx t.IfWord w ∷ xs) zs vs.1.1.1.1.1.1 (q1.0, q3.0, q5.0) (refl, q1.1, q3.1, q5.1) refl refl
    (ap (λ v. lx t.IfWord v ∷ xs) p ∙ ap (λ v. mark t.IfWord ∷ v) (choice_tokens (write vs.0) (write vs.1.1.0) (write vs.1.1.1.1.0) xs y1 y2 y3 y4 y5 zs vs.1.0.text vs.1.1.1.0.text e1 e2 q2.1 e3 e4 q4.1 e5 e6))
    (subst (λ n. Good true k n zs vs.1.1.1.1.1.1) (sym (choice_past (write vs.0) (write vs.1.1.0) (write vs.1.1.1.1.0) (i + 1))) g))
    ▸ (λ k i w xs vs p (y1, q1, e1, (zs, q2, e2, g)). h k i (binding (at i) (more_forms vs.0 vs.1.0.patterns) vs.1.0.value vs.1.0.body) (lx t.LetWord w ∷ xs) zs vs.1.1 (tt, (q1.0, q2.0), q2.2.0, q2.2.2) (refl, (q1.1, q2.1), rw past-append q2.2.1, rw past-append q2.2.3) refl refl
    (ap (λ v. lx t.LetWord v ∷ xs) p ∙ ap (λ v. mark t.LetWord ∷ v) (e1 ∙ ap (λ v. write_form vs.0 ++ v) e2 ∙ list_tokens (write_form vs.0) (form_tail vs.1.0.patterns) (mark t.Equal ∷ (write vs.1.0.value ++ (mark t.InWord ∷ write vs.1.0.body))) zs))
    (subst (λ n. Good true k n zs vs.1.1) (sym (list_past (write_form vs.0) (form_tail vs.1.0.patterns) (mark t.Equal ∷ (write vs.1.0.value ++ (mark t.InWord ∷ write vs.1.0.body))) (i + 1))) g))
    ▸ quantifier_ok true
    ▸ quantifier_ok false
    ▸ tt
  where
    bare : {w : Word} (all : Bool) → Proper (quantifier all) w → w ≡ []
    bare true p = p
    bare false p = p

    quantifier_ok : (all : Bool) → RowOk top (row top (quantifier all) (s.Take t.Lident ∷ s.Binder ∷ []) (λ i w vs. f (quantified (at i) all (binder_with vs.0 vs.1.0 ∷ vs.1.0.bound.others) vs.1.0.bound.trigger vs.1.0.bound.body)))
    quantifier_ok all k i w xs vs p (y1, q1, e1, (zs, q2, e2, g)) = h k i (quantified (at i) all (binder_with vs.0 vs.1.0 ∷ vs.1.0.bound.others) vs.1.0.bound.trigger vs.1.0.bound.body) (lx (quantifier all) w ∷ xs) zs vs.1.1
        (tt, (tt, q2.1.0, q2.1.2.0), q2.1.2.2.0, q2.1.2.2.2) (refl, (((q1.0, q2.0), q2.1.1), rw past-append q2.1.2.1), rw (past-append, past-append) q2.1.2.2.1, rw (past-append, past-append) q2.1.2.2.3) refl refl
        (ap (λ v. lx (quantifier all) v ∷ xs) (bare all p) ∙ ap (λ v. mark (quantifier all) ∷ v) (e1 ∙ ap (λ v. lx t.Lident vs.0.text ∷ v) (e2 ∙ bound_tokens (name_row vs.1.0.names) (type_part vs.1.0.of_type) (binder_tail vs.1.0.bound.others) (write_trigger vs.1.0.bound.trigger ++ (mark t.Dot ∷ write vs.1.0.bound.body)) zs)))
        (subst (λ n. Good true k n zs vs.1.1) (ap (past (i + 1 + 1)) (bound_row (name_row vs.1.0.names) (type_part vs.1.0.of_type) (binder_tail vs.1.0.bound.others) (write_trigger vs.1.0.bound.trigger ++ (mark t.Dot ∷ write vs.1.0.bound.body)))) g)

-- a branch, from its first pattern on
pub arm_levels : (f : SyntaxForm) (a : ArmPart) (i : ℕ) → IsForm pattern_forms f × IsPlaced i f → IsArm (past i (write_form f)) a → AreBranches (branch_of f a) × PlacedBranches i (branch_of f a)
arm_levels f a i m n = ((tt, (tt, (m.0, n.0), n.2.0), n.2.2.0, n.2.2.2), (((m.1, n.1), rw past-append n.2.1), rw (past-append, past-append) n.2.2.1, rw (past-append, past-append) n.2.2.3))

pub arm_row : (a b c d e z : List Lexeme) → a ++ (b ++ (c ++ (mark t.Arrow ∷ (d ++ (e ++ z))))) ≡ (((a ++ b) ++ c) ++ (mark t.Arrow ∷ (d ++ e))) ++ z
arm_row a b c d e z = sym (simp append_assoc)

pub arm_tokens : (f : SyntaxForm) (a : ArmPart) (xs ys zs : List Lexeme) → xs ≡ write_form f ++ ys → ys ≡ write_arm a ++ zs → xs ≡ (write_branches (branch_of f a) ++ (mark t.EndWord ∷ [])) ++ zs
arm_tokens f a xs ys zs e d = e ∙ ap (λ v. write_form f ++ v) d ∙ sym (append_assoc (write_form f) (write_arm a) zs) ∙ ap (λ v. v ++ zs) (arm_row (write_form f) (form_tail a.patterns) (alternative_tail a.alternatives) (write a.body) (write_others a.others) (mark t.EndWord ∷ []))

pub arm_past : (f : SyntaxForm) (a : ArmPart) (i : ℕ) → past (past i (write_form f)) (write_arm a) ≡ past i (write_branches (branch_of f a) ++ (mark t.EndWord ∷ []))
arm_past f a i = sym (past-append (write_form f) (write_arm a) i) ∙ ap (past i) (arm_row (write_form f) (form_tail a.patterns) (alternative_tail a.alternatives) (write a.body) (write_others a.others) (mark t.EndWord ∷ []))

pub branches_ok : AllRows s.Branches (rows s.Branches)
branches_ok = (λ k i w xs vs p (ys, m, e, (zs, n, d, g)). (zs, arm_levels vs.0 vs.1.0 (i + 1) m n, ap (λ v. lx t.Bar v ∷ xs) p ∙ ap (λ v. mark t.Bar ∷ v) (arm_tokens vs.0 vs.1.0 xs ys zs e d), subst (λ j. Good false k j zs vs.1.1) (arm_past vs.0 vs.1.0 (i + 1)) g))
    ▸ (λ k i w xs vs p g. (xs, (tt, tt), ap (λ v. lx t.EndWord v ∷ xs) p, g))
    ▸ tt

pub branch_ok : AllRows s.Branch (rows s.Branch)
branch_ok = (λ k i w xs vs p (ys, m, e, (zs, n, d, g)). (zs, (tt, (arm_levels vs.0 vs.1.0 (i + 1) m n).0, (arm_levels vs.0 vs.1.0 (i + 1) m n).1), ap (λ v. lx t.Bar v ∷ xs) p ∙ ap (λ v. mark t.Bar ∷ v) (arm_tokens vs.0 vs.1.0 xs ys zs e d), subst (λ j. Good false k j zs vs.1.1) (arm_past vs.0 vs.1.0 (i + 1)) g))
    ▸ extend_ok s.Branch s.Pat (s.Arm ∷ []) (λ v vs. record { bar = false; branches = branch_of v vs.0 }) (rows s.Pat)
    (λ k i xs v vs (ys, m, e, (zs, n, d, g)). (zs, (tt, (arm_levels v vs.0 i m n).0, (arm_levels v vs.0 i m n).1), arm_tokens v vs.0 xs ys zs e d, subst (λ j. Good false k j zs vs.1) (arm_past v vs.0 i) g)) pat_ok

pub arm_ok : AllRows s.Arm (rows s.Arm)
arm_ok = (λ k i w xs vs p (ys, m, e, (zs, n, d, g)). (
  zs,
  ((m.0, n.0), (m.1, n.1), rw past-append n.2),
  ap (λ v. lx t.Comma v ∷ xs) p ∙ ap (λ v. mark t.Comma ∷ v) (e ∙ ap (λ v. write_form vs.0 ++ v) d ∙ list_tokens (write_form vs.0) (form_tail vs.1.0.patterns) (alternative_tail vs.1.0.alternatives ++ (mark t.Arrow ∷ (write vs.1.0.body ++ (write_others vs.1.0.others ++ (mark t.EndWord ∷ []))))) zs),
  subst (λ j. Good false k j zs vs.1.1) (sym (list_past (write_form vs.0) (form_tail vs.1.0.patterns) (alternative_tail vs.1.0.alternatives ++ (mark t.Arrow ∷ (write vs.1.0.body ++ (write_others vs.1.0.others ++ (mark t.EndWord ∷ []))))) (i + 1))) g,
))
    ▸ (λ k i w xs vs p (ys, m, e, (zs, n, d, g)). (
      zs,
      (tt, tt, ((tt, (m.0, n.0), n.2.0), ((m.1, n.1), rw past-append n.2.1), rw (past-append, past-append) n.2.2)),
      ap (λ v. lx t.Bar v ∷ xs) p ∙ ap (λ v. mark t.Bar ∷ v) (e ∙ ap (λ v. write_form vs.0 ++ v) d ∙ sym (append_assoc (write_form vs.0) (write_arm vs.1.0) zs) ∙ bound_tokens (write_form vs.0) (form_tail vs.1.0.patterns) (alternative_tail vs.1.0.alternatives) (mark t.Arrow ∷ (write vs.1.0.body ++ (write_others vs.1.0.others ++ (mark t.EndWord ∷ [])))) zs),
      subst (λ j. Good false k j zs vs.1.1) (sym (past-append (write_form vs.0) (write_arm vs.1.0) (i + 1)) ∙ ap (past (i + 1)) (bound_row (write_form vs.0) (form_tail vs.1.0.patterns) (alternative_tail vs.1.0.alternatives) (mark t.Arrow ∷ (write vs.1.0.body ++ (write_others vs.1.0.others ++ (mark t.EndWord ∷ [])))))) g,
    ))
    ▸ (λ k i w xs vs p (ys, q, e, (zs, n, d, g)). (zs, (tt, tt, (tt, tt, (q.0, q.1, n.0, n.1))), ap (λ v. lx t.Arrow v ∷ xs) p ∙ ap (λ v. mark t.Arrow ∷ v) (e ∙ ap (λ v. write vs.0 ++ v) d ∙ sym (append_assoc (write vs.0) (write_others vs.1.0 ++ (mark t.EndWord ∷ [])) zs)), subst (λ j. Good false k j zs vs.1.1) (sym (past-append (write vs.0) (write_others vs.1.0 ++ (mark t.EndWord ∷ [])) (i + 1))) g))
    ▸ tt

pub scrutinees_ok : AllRows s.Scrutinees (rows s.Scrutinees)
scrutinees_ok = (λ k i w xs vs p (ys, m, e, (zs, n, d, g)). (
  zs,
  ((m.0, n.0), (m.1, n.1), rw past-append n.2),
  ap (λ v. lx t.Comma v ∷ xs) p ∙ ap (λ v. mark t.Comma ∷ v) (e ∙ ap (λ v. write vs.0 ++ v) d ∙ list_tokens (write vs.0) (write_tail vs.1.0.others) (mark t.WithWord ∷ write_branch (record { bar = vs.1.0.bar; branches = vs.1.0.branches })) zs),
  subst (λ j. Good false k j zs vs.1.1) (sym (list_past (write vs.0) (write_tail vs.1.0.others) (mark t.WithWord ∷ write_branch (record { bar = vs.1.0.bar; branches = vs.1.0.branches })) (i + 1))) g,
))
    ▸ (λ k i w xs vs p (ys, m, e, g). (ys, (tt, tt, m), ap (λ v. lx t.WithWord v ∷ xs) p ∙ ap (λ v. mark t.WithWord ∷ v) e, g))
    ▸ tt

-- the tree of a `match`
pub cases_tokens : (e : SyntaxTree) (c : CasesPart) (xs ys zs : List Lexeme) → xs ≡ write e ++ ys → ys ≡ write_cases c ++ zs → xs ≡ ((write e ++ write_tail c.others) ++ (mark t.WithWord ∷ write_branch (record { bar = c.bar; branches = c.branches }))) ++ zs
cases_tokens e c xs ys zs h d = h ∙ ap (λ v. write e ++ v) d ∙ list_tokens (write e) (write_tail c.others) (mark t.WithWord ∷ write_branch (record { bar = c.bar; branches = c.branches })) zs

pub cases_past : (e : SyntaxTree) (c : CasesPart) (i : ℕ) → past (past i (write e)) (write_cases c) ≡ past i ((write e ++ write_tail c.others) ++ (mark t.WithWord ∷ write_branch (record { bar = c.bar; branches = c.branches })))
cases_past e c i = sym (list_past (write e) (write_tail c.others) (mark t.WithWord ∷ write_branch (record { bar = c.bar; branches = c.branches })) i)

pub letpats_ok : AllRows s.Letpats (rows s.Letpats)
letpats_ok = (λ k i w xs vs p (ys, m, e, (zs, n, d, g)). (
  zs,
  ((m.0, n.0), (m.1, n.1), rw past-append n.2),
  ap (λ v. lx t.Comma v ∷ xs) p ∙ ap (λ v. mark t.Comma ∷ v) (e ∙ ap (λ v. write_form vs.0 ++ v) d ∙ list_tokens (write_form vs.0) (form_tail vs.1.0.patterns) (mark t.Equal ∷ (write vs.1.0.value ++ (mark t.InWord ∷ write vs.1.0.body))) zs),
  subst (λ j. Good true k j zs vs.1.1) (sym (list_past (write_form vs.0) (form_tail vs.1.0.patterns) (mark t.Equal ∷ (write vs.1.0.value ++ (mark t.InWord ∷ write vs.1.0.body))) (i + 1))) g,
))
    ▸ (λ k i w xs vs p (y1, q1, e1, (y2, q2, e2, (y3, q3, e3, (zs, q4, e4, g)))). (
      zs,
      (tt, tt, (q1.0, q1.1, q3.0, q3.1)),
      ap (λ v. lx t.Equal v ∷ xs) p ∙ ap (λ v. mark t.Equal ∷ v) (e1 ∙ ap (λ v. write vs.0 ++ v) (e2 ∙ ap (λ v. lx t.InWord v ∷ y2) q2.1 ∙ ap (λ v. mark t.InWord ∷ v) (e3 ∙ ap (λ v. write vs.1.1.0 ++ v) e4)) ∙ sym (both_right (write vs.0) (mark t.InWord) (write vs.1.1.0) zs)),
      subst (λ j. Good true k j zs vs.1.1.1.1) (sym (past_op (write vs.0) (mark t.InWord) (write vs.1.1.0) (i + 1))) g,
    ))
    ▸ tt

pub binders_ok : AllRows s.Binders (rows s.Binders)
binders_ok = (λ k i w xs vs p (ys, m, e, (zs, n, d, g)). (
  zs,
  ((tt, n.1.0, n.1.2.0), (((m.0, n.0), n.1.1), rw past-append n.1.2.1), rw (past-append, past-append) n.1.2.2),
  ap (λ v. lx t.Comma v ∷ xs) p ∙ ap (λ v. mark t.Comma ∷ v) (e ∙ ap (λ v. lx t.Lident vs.0.text ∷ v) (d ∙ bound_tokens (name_row vs.1.0.names) (type_part vs.1.0.of_type) (binder_tail vs.1.0.bound.others) (write_trigger vs.1.0.bound.trigger ++ (mark t.Dot ∷ write vs.1.0.bound.body)) zs)),
  subst (λ j. Good true k j zs vs.1.1) (ap (past (i + 1 + 1)) (bound_row (name_row vs.1.0.names) (type_part vs.1.0.of_type) (binder_tail vs.1.0.bound.others) (write_trigger vs.1.0.bound.trigger ++ (mark t.Dot ∷ write vs.1.0.bound.body)))) g,
))
    ▸ (λ k i w xs vs p (ys, q, e, (zs, n, d, g)). (
      zs,
      (tt, tt, ((q.0, n.0), (q.1, n.1), n.2, rw (list_past (write vs.0) (terms_tail vs.1.0.terms vs.1.0.bars) (mark t.RBrack ∷ []) (i + 1), past-append) n.3)),
      ap (λ v. lx t.LBrack v ∷ xs) p ∙ ap (λ v. mark t.LBrack ∷ v) (e ∙ ap (λ v. write vs.0 ++ v) d ∙ trigger_tokens (write vs.0) (terms_tail vs.1.0.terms vs.1.0.bars) (write vs.1.0.body) zs),
      subst (λ j. Good true k j zs vs.1.1) (sym (past-append (write vs.0) (write_terms_part vs.1.0) (i + 1)) ∙ ap (past (i + 1)) (trigger_row (write vs.0) (terms_tail vs.1.0.terms vs.1.0.bars) (write vs.1.0.body))) g,
    ))
    ▸ (λ k i w xs vs p (ys, q, e, (zs, n, d, g)). (zs, (tt, tt, (tt, tt, q.0, q.1)), ap (λ v. lx t.Dot v ∷ xs) p ∙ ap (λ v. mark t.Dot ∷ v) (e ∙ ap (λ v. write vs.0 ++ v) d), g))
    ▸ tt
  where
    trigger_row : (a b c : List Lexeme) → a ++ (b ++ (mark t.RBrack ∷ mark t.Dot ∷ c)) ≡ ((a ++ b) ++ (mark t.RBrack ∷ [])) ++ (mark t.Dot ∷ c)
    trigger_row a b c = sym (append_assoc (a ++ b) (mark t.RBrack ∷ []) (mark t.Dot ∷ c) ∙ append_assoc a b (mark t.RBrack ∷ mark t.Dot ∷ c))

    trigger_tokens : (a b c ys : List Lexeme) → a ++ ((b ++ (mark t.RBrack ∷ mark t.Dot ∷ c)) ++ ys) ≡ (((a ++ b) ++ (mark t.RBrack ∷ [])) ++ (mark t.Dot ∷ c)) ++ ys
    trigger_tokens a b c ys = sym (append_assoc a (b ++ (mark t.RBrack ∷ mark t.Dot ∷ c)) ys) ∙ ap (λ v. v ++ ys) (trigger_row a b c)

pub binder_ok : AllRows s.Binder (rows s.Binder)
binder_ok = (λ k i w xs vs p (ys, n, e, g). (ys, ((refl, n.0), n.1), ap (λ v. lx t.Lident w ∷ v) e, g))
    ▸ (λ k i w xs vs p (ys, m, e, (zs, n, d, g)). (zs, (tt, (m.0, m.1, n)), ap (λ v. lx t.Colon v ∷ xs) p ∙ ap (λ v. mark t.Colon ∷ v) (e ∙ ap (λ v. write_form vs.0 ++ v) d ∙ sym (append_assoc (write_form vs.0) (write_bound vs.1.0) zs)), subst (λ j. Good true k j zs vs.1.1) (sym (past-append (write_form vs.0) (write_bound vs.1.0) (i + 1))) g))
    ▸ extend_ok s.Binder s.Binders [] (λ v vs. record { names = []; of_type = None; bound = v }) (rows s.Binders) (λ k i xs v vs (ys, n, e, g). (ys, (tt, (tt, tt, n)), e, g)) binders_ok

pub terms_ok : AllRows s.Trigger (rows s.Trigger)
terms_ok = term_ok false
    ▸ term_ok true
    ▸ (λ k i w xs vs p (y1, q1, e1, (y2, q2, e2, (zs, q3, e3, g))). (zs, (tt, tt, q2.0, q2.1), ap (λ v. lx t.RBrack v ∷ xs) p ∙ ap (λ v. mark t.RBrack ∷ v) (e1 ∙ ap (λ v. lx t.Dot v ∷ y1) q1.1 ∙ ap (λ v. mark t.Dot ∷ v) (e2 ∙ ap (λ v. write vs.1.0 ++ v) e3)), g))
    ▸ tt
  where
    bare : {w : Word} (b : Bool) → Proper (separator b) w → w ≡ []
    bare true p = p
    bare false p = p

    term_ok : (b : Bool) → RowOk s.Trigger (row s.Trigger (separator b) (s.Expr 0 ∷ s.Trigger ∷ []) (λ i w vs. next_term b vs.0 vs.1.0))
    term_ok b k i w xs vs p (ys, q, e, (zs, n, d, g)) = (
      zs,
      ((q.0, n.0), (q.1, n.1), n.2, rw past-append n.3),
      ap (λ v. lx (separator b) v ∷ xs) (bare b p) ∙ ap (λ v. mark (separator b) ∷ v) (e ∙ ap (λ v. write vs.0 ++ v) d ∙ list_tokens (write vs.0) (terms_tail vs.1.0.terms vs.1.0.bars) (mark t.RBrack ∷ mark t.Dot ∷ write vs.1.0.body) zs),
      subst (λ j. Good true k j zs vs.1.1) (sym (list_past (write vs.0) (terms_tail vs.1.0.terms vs.1.0.bars) (mark t.RBrack ∷ mark t.Dot ∷ write vs.1.0.body) (i + 1))) g,
    )
