-- Cases on the conditional terms of a typed atom are a typed formula, at types too.
use Rattle.std.proofs.Common.{◌≡◌, ℕ, ◌≤◌, ◌⊎◌, inl, inr, List, map, Option, Some, None, subst, refl, sym, ap, ◌∙◌, arith}
use Rattle.trees.specs.declared.Sort.{Sort}
use Rattle.trees.specs.declared.Sort.TheVariants.{Term, Formula}
use Rattle.trees.specs.Tree.{Tree, Leaf, One, Two, Three, HCell, HFun, HPred, HEq, HIf, head_of, above_params}
use Rattle.trees.specs.Sorts.{sort_of, type_of, first_sort, IsList, IsExpression}
use Rattle.tasks.specs.Task.{SymbolTree}
use Rattle.tasks.specs.Vocabulary.{Vocabulary}
use Rattle.tasks.specs.Typing.{members, entry, IsUse}
use Rattle.tasks.specs.Valid.{VariablesBelow, ParametersOf}
use Rattle.tasks.proofs.TypeInstances.{some_kept}
use Rattle.evidence.specs.images.Images.{IsOtherHead}
use Rattle.images.proofs.Images.{expression_sort, expression_type, expression_first, expression_members}
use Rattle.evidence.specs.images.typing_laws.HasTyping.{HasTyping, KeepsTyping, IsTypedRule}
use Rattle.images.proofs.typing_laws.Sorted.{formula_no_type}
use Rattle.images.proofs.TypedImages.{image_keeps_typing}
use Rattle.tr_if.specs.conditionals.Conditionals.{implications, cases_over, if_of_sort, if_rule, without_ifs}
use Rattle.tr_if.specs.conditionals.lemmas.Cases.{IsByParts, implications_keep, cases_keep}

module _ (v : Vocabulary) (types : List Tree) where
  -- what typing sees of a term or a list of terms
  pub record IsAlike (e m : Tree) : Type 0 where
    pub typed : HasTyping v types m
    pub sort : sort_of m ≡ sort_of e
    pub first : first_sort m ≡ first_sort e
    pub type : type_of m ≡ type_of e
    pub types_of : map type_of (members m) ≡ map type_of (members e)

  alike_refl : (e : Tree) → HasTyping v types e → IsAlike e e
  alike_refl e x = record { typed = x; sort = refl; first = refl; type = refl; types_of = refl }

  list_alike : (s : Sort) (e m : Tree) → IsAlike e m → IsList s e → IsList s m
  list_alike s e m w l = (w.sort ∙ l.0, by (first_sort m) w.first l.1)
    where
      by : (o : Option Sort) → o ≡ first_sort e → (first_sort e ≡ None) ⊎ (first_sort e ≡ Some s)
          → (o ≡ None) ⊎ (o ≡ Some s)
      by o q (inl n) = inl (q ∙ n)
      by o q (inr n) = inr (q ∙ n)

  use_alike : (e : SymbolTree) (tys args made : Tree) → IsAlike args made → IsUse e tys args
      → IsUse e tys made
  use_alike e tys args made w u = record { as_many = u.as_many; fit = w.types_of ∙ u.fit }

  -- a branch of a conditional stands for it
  branch_alike : (c a b e m : Tree) → IsExpression (sort_of e) → sort_of e ≡ sort_of a
      → type_of e ≡ type_of a → IsExpression (sort_of a) → IsAlike e m → IsAlike (Three HIf c a b) m
  branch_alike c a b e m ke s t ka w = record {
    typed = w.typed;
    sort = w.sort ∙ s ∙ sym (expression_sort a ka);
    first = w.first ∙ expression_first e ke;
    type = w.type ∙ t ∙ expression_type a ka;
    types_of = w.types_of ∙ ap (map type_of) (expression_members e ke);
  }

  function_alike : (f : ℕ) (tys args made ty : Tree)
      → HasTyping v types (Three (HFun f) tys args ty) → IsAlike args made
      → IsAlike (Three (HFun f) tys args ty) (Three (HFun f) tys made ty)
  function_alike f tys args made ty x w = record {
    typed = (
      (x.0.0, list_alike Term args made w x.0.1, x.0.2),
      (
        x.1.0,
        some_kept (entry v f) _ _
            (λ e q u. (u.0, use_alike e tys args made w u.1, u.2)) x.1.1,
      ),
      x.2,
      w.typed,
      x.4,
    );
    sort = refl;
    first = refl;
    type = refl;
    types_of = refl;
  }

  predicate_alike : (p : ℕ) (tys args made : Tree) → HasTyping v types (Two (HPred p) tys args)
      → IsAlike args made → IsAlike (Two (HPred p) tys args) (Two (HPred p) tys made)
  predicate_alike p tys args made x w = record {
    typed = (
      ((x.0.0.0, list_alike Term args made w x.0.0.1), tt),
      (x.1.0, some_kept (entry v p) _ _ (λ e q u. (u.0, use_alike e tys args made w u.1)) x.1.1),
      x.2,
      w.typed,
    );
    sort = refl;
    first = refl;
    type = refl;
    types_of = refl;
  }

  equation_alike : (a b m n : Tree) → HasTyping v types (Two HEq a b) → IsAlike a m → IsAlike b n
      → IsAlike (Two HEq a b) (Two HEq m n)
  equation_alike a b m n x w u = record {
    typed =
        (((w.sort ∙ x.0.0.0, u.sort ∙ x.0.0.1), tt), w.type ∙ x.1 ∙ sym u.type, w.typed, u.typed);
    sort = refl;
    first = refl;
    type = refl;
    types_of = refl;
  }

  cell_alike : (a b m n : Tree) → HasTyping v types (Two HCell a b) → IsAlike a m → IsAlike b n
      → IsAlike (Two HCell a b) (Two HCell m n)
  cell_alike a b m n x w u = record {
    typed = (
      (
        (
          λ q. x.0.0.0 (sym w.sort ∙ q),
          subst (λ (z : Sort). IsList z n) (sym w.sort)
              (list_alike (sort_of a) b n u x.0.0.1),
        ),
        tt,
      ),
      tt,
      w.typed,
      u.typed,
    );
    sort = refl;
    first = ap Some w.sort;
    type = refl;
    types_of = cc (w.type, u.types_of);
  }

  -- ---- formulas
  abbrev pub IsFormulaHere : Tree → Type 0
  IsFormulaHere e = (sort_of e ≡ Formula) × HasTyping v types e

  pub implications_typed : (c a b : Tree) → IsFormulaHere c → IsFormulaHere a → IsFormulaHere b
      → IsFormulaHere (implications c a b)
  implications_typed c a b p q r = (
    refl,
    (
      ((refl, refl), tt),
      tt,
      (((p.0, q.0), tt), tt, p.1, q.1),
      (((refl, r.0), tt), tt, (p.0, tt, p.1), r.1),
    ),
  )

  pub cases_typed : (e : Tree) (over : Tree → Tree) → HasTyping v types e
      → ((u : Tree) → IsAlike e u → IsFormulaHere (over u)) → IsFormulaHere (cases_over e over)
  cases_typed (Leaf h) over x k = k (Leaf h) (alike_refl (Leaf h) x)
  cases_typed (One h a) over x k = k (One h a) (alike_refl (One h a) x)
  cases_typed (Two (HPred p) tys args) over x k =
      cases_typed args (λ xs. over (Two (HPred p) tys xs)) x.3
      (λ u w. k (Two (HPred p) tys u) (predicate_alike p tys args u x w))
  cases_typed (Two HEq a b) over x k =
      cases_typed a (λ m. cases_over b (λ n. over (Two HEq m n))) x.2
      (λ m w. cases_typed b (λ n. over (Two HEq m n)) x.3
      (λ n u. k (Two HEq m n) (equation_alike a b m n x w u)))
  cases_typed (Two HCell a b) over x k =
      cases_typed a (λ m. cases_over b (λ n. over (Two HCell m n))) x.2
      (λ m w. cases_typed b (λ n. over (Two HCell m n)) x.3
      (λ n u. k (Two HCell m n) (cell_alike a b m n x w u)))
  cases_typed (Two h a b) over x k = k (Two h a b) (alike_refl (Two h a b) x)
  cases_typed (Three HIf c a b) over x k =
      let o : IsExpression (sort_of b) = subst IsExpression (sym x.0.2) x.0.1 in
      implications_typed c (cases_over a over) (cases_over b over) (x.0.0, x.2)
      (cases_typed a over x.3 (λ u w. k u (branch_alike c a b a u x.0.1 refl refl x.0.1 w)))
      (cases_typed b over x.4 (λ u w. k u (branch_alike c a b b u o x.0.2 (sym x.1) x.0.1 w)))
  cases_typed (Three (HFun f) tys args ty) over x k =
      cases_typed args (λ xs. over (Three (HFun f) tys xs ty)) x.3
      (λ u w. k (Three (HFun f) tys u ty) (function_alike f tys args u ty x w))
  cases_typed (Three h a b c) over x k = k (Three h a b c) (alike_refl (Three h a b c) x)

  atom_typed : (e : Tree) → sort_of e ≡ Formula → HasTyping v types e
      → IsFormulaHere (cases_over e (λ u. u))
  atom_typed e s x = cases_typed e (λ u. u) x (λ u w. (w.sort ∙ s, w.typed))

-- ---- type variables and parameters
pub variables_by_parts : (n : ℕ) → IsByParts (VariablesBelow n)
variables_by_parts n = record {
  one = λ a q. q;
  two = λ h a b p q. (p, q);
  of_two = λ h a b q. q;
  three = λ h a b c p q r. (p, q, r);
  of_three = λ h a b c q. (q.0, (q.1, q.2));
}

pub above_by_parts : (m : ℕ) → IsByParts (λ e. above_params e ≤ m)
above_by_parts m = record {
  one = λ a q. omega (arith, q);
  two = λ h a b p q. omega (arith, p, q);
  of_two = λ h a b q. (omega (arith, q), omega (arith, q));
  three = λ h a b c p q r. omega (arith, p, q, r);
  of_three = λ h a b c q. (omega (arith, q), (omega (arith, q), omega (arith, q)));
}

parameters_by_parts : (ps : List Tree) → IsByParts (ParametersOf ps)
parameters_by_parts ps = record {
  one = λ a q. (tt, q);
  two = λ h a b p q. (p, q);
  of_two = λ h a b q. q;
  three = λ h a b c p q r. (p, q, r);
  of_three = λ h a b c q. (q.0, (q.1, q.2));
}

-- ---- the rule
pub rule_others : (e : Tree) → IsOtherHead (head_of e) → if_rule e ≡ e
rule_others (Leaf h) k = refl
rule_others (One h a) k = refl
rule_others (Two (HPred p) a b) k = absurd k
rule_others (Two HEq a b) k = absurd k
rule_others (Two _ a b) k = refl
rule_others (Three HIf a b c) k = absurd k
rule_others (Three _ a b c) k = refl

module _ (v : Vocabulary) (types : List Tree) where
  same_kept : (e : Tree) → HasTyping v types e → KeepsTyping v types e e
  same_kept e x = record {
    typed = x;
    sort = refl;
    type = refl;
    variables = λ n h. h;
    above =
        λ m h. h;
    parameters = λ ps h. h;
  }

  cases_kept : (e : Tree) → sort_of e ≡ Formula → HasTyping v types e
      → KeepsTyping v types e (cases_over e (λ u. u))
  cases_kept e s x =
      let w = atom_typed v types e s x in record {
        typed = w.1;
        sort = w.0 ∙ sym s;
        type = formula_no_type (cases_over e (λ u. u)) w.0 ∙ sym (formula_no_type e s);
        variables =
            λ n q. cases_keep (VariablesBelow n) (variables_by_parts n) e (λ u. u) (λ u p. p) q;
        above =
            λ m q. cases_keep (λ a. above_params a ≤ m) (above_by_parts m) e (λ u. u) (λ u p. p) q;
        parameters =
            λ ps q. cases_keep (ParametersOf ps) (parameters_by_parts ps) e (λ u. u) (λ u p. p) q;
      }

  if_kept : (c a b : Tree) → HasTyping v types (Three HIf c a b) → (s : Sort) → sort_of a ≡ s
      → KeepsTyping v types (Three HIf c a b) (if_of_sort s c a b)
  if_kept c a b x Formula q =
      let w = implications_typed v types c a b (x.0.0, x.2) (q, x.3) (x.0.2 ∙ q, x.4) in record {
        typed = w.1;
        sort = sym (expression_sort a x.0.1 ∙ q);
        type = sym (sym (expression_type a x.0.1) ∙ formula_no_type a q);
        variables =
            λ n h. implications_keep (VariablesBelow n) (variables_by_parts n) c a b h.0 h.1 h.2;
        above = λ m h. implications_keep (λ e. above_params e ≤ m) (above_by_parts m) c a b
            (omega (arith, h)) (omega (arith, h)) (omega (arith, h));
        parameters =
            λ ps h. implications_keep (ParametersOf ps) (parameters_by_parts ps) c a b h.0 h.1 h.2;
      }
  if_kept c a b x _ q = same_kept (Three HIf c a b) x

  rule_kept : (e : Tree) → HasTyping v types e → KeepsTyping v types e (if_rule e)
  rule_kept (Leaf h) x = same_kept (Leaf h) x
  rule_kept (One h a) x = same_kept (One h a) x
  rule_kept (Two (HPred p) a b) x = cases_kept (Two (HPred p) a b) refl x
  rule_kept (Two HEq a b) x = cases_kept (Two HEq a b) refl x
  rule_kept (Two h a b) x = same_kept (Two h a b) x
  rule_kept (Three HIf c a b) x = if_kept c a b x (sort_of a) refl
  rule_kept (Three h a b c) x = same_kept (Three h a b c) x

pub typed_rule : (v : Vocabulary) → IsTypedRule v if_rule
typed_rule v = record { others = rule_others; keeps = λ types e k x. rule_kept v types e x }

pub ifs_keep_typing : (v : Vocabulary) (types : List Tree) (e : Tree) → HasTyping v types e
    → KeepsTyping v types e (without_ifs e)
ifs_keep_typing v types e x = image_keeps_typing v if_rule (typed_rule v) types e x
