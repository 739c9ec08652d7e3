-- The tasks of a split keep the symbols and the declarations, and are valid.
use Rattle.std.specs.Prelude.{◌≡◌, ℕ, List, [], ◌∷◌, ◌++◌, Ok, All, map, refl}
use Rattle.std.proofs.Common.{inl, inr, sym, subst, ◌∙◌}
use Rattle.std.proofs.lemmas.List.Elements.{All-map, All-append, All-cons, All-nil, All-weaker}
use Rattle.trees.specs.declared.Op.TheVariants.{And, AndThen, Imp, Iff}
use Rattle.trees.specs.declared.Sort.{Sort}
use Rattle.trees.specs.declared.Sort.TheVariants.{Kind, Term, Formula}
use Rattle.trees.specs.Tree.{Tree, Leaf, Two, Three, Head, HEnd, HCell, HArm, HTrue, HJoin, HForall, HLet, HIf, head_of}
use Rattle.trees.specs.Sorts.{yield, top_sort, sort_of, IsExpression, Fits}
use Rattle.tasks.specs.Task.{TaskTree, neg}
use Rattle.tasks.specs.Vocabulary.{Vocabulary, of_task}
use Rattle.tasks.specs.Typing.{TwoTyped, TypedUnder, bound_types}
use Rattle.tasks.specs.Valid.{ParametersOf, VariablesBelow, IsFormula, IsValid}
use Rattle.tasks.specs.Copying.{with_goal}
use Rattle.evidence.specs.Stages.{Keeps, Gives, limited_gives}
use Rattle.evidence.specs.task_parts.Kept.{judgement_keeps}
use Rattle.tr_split.specs.parts.Split.{imp, split, split_task}
use Rattle.tr_split.specs.parts.Parts.{IsSentence, Wraps}

-- what makes formulas of formulas
top_formula : (h : Head) (s : Sort) → top_sort h s ≡ Formula → s ≡ Formula
top_formula HEnd s e = absurd (cc)
top_formula HCell s e = absurd (cc)
top_formula HArm s e = absurd (cc)
top_formula _ s e = e

top_term : (h : Head) (s : Sort) → top_sort h s ≡ Term → s ≡ Term
top_term HEnd s e = absurd (cc)
top_term HCell s e = absurd (cc)
top_term HArm s e = absurd (cc)
top_term _ s e = e

-- an expression that yields a formula is one
yields : (e : Tree) → IsExpression (sort_of e) → yield e ≡ Formula → IsSentence e
yields e x y = elim x [
  | inl t ↦ let u : yield e ≡ Term = top_term (head_of e) (yield e) t in absurd (cc)
  | inr f ↦ f
]

pub let_sentence : (t a : Tree) → Fits (Two HLet t a) → IsSentence (Two HLet t a) → IsSentence a
let_sentence t a f s = yields a f.0.1 s

pub then_sentence : (c a b : Tree) → Fits (Three HIf c a b) → IsSentence (Three HIf c a b)
    → IsSentence a
then_sentence c a b f s = yields a f.1 s

pub else_sentence : (c a b : Tree) → Fits (Three HIf c a b) → IsSentence (Three HIf c a b)
    → IsSentence b
else_sentence c a b f s = f.2 ∙ then_sentence c a b f s

pub wraps_imp : (a : Tree) → IsSentence a → Wraps (HJoin Imp) a
wraps_imp a s = record { fits = λ e h. ((s, h), tt); sentence = λ e h. refl }

pub wraps_forall : (ty : Tree) → sort_of ty ≡ Kind → Wraps HForall ty
wraps_forall ty s = record { fits = λ e h. ((s, h), tt); sentence = λ e h. refl }

pub wraps_let : (t : Tree) → sort_of t ≡ Term → Wraps HLet t
wraps_let t s =
    record { fits = λ e h. ((s, inr h), tt); sentence = λ e h. top_formula (head_of e) (yield e) h }

-- a formula over a vocabulary, under binders of these types
record IsPart (v : Vocabulary) (params : List Tree) (vars : ℕ) (types : List Tree)
    (e : Tree) : Type 0 where
  pub sort : IsSentence e
  pub typed : TypedUnder v types e
  pub parameters : ParametersOf params e
  pub variables : VariablesBelow vars e

module _ (v : Vocabulary) (params : List Tree) (vars : ℕ) where
  -- what a part is under
  record IsFirst (types : List Tree) (h : Head) (a : Tree) : Type 0 where
    pub wraps : Wraps h a
    pub fits : (x : Tree) → TwoTyped v h a x
    pub typed : TypedUnder v types a
    pub parameters : ParametersOf params a
    pub variables : VariablesBelow vars a

  wrapped : (types : List Tree) (h : Head) (a : Tree) → IsFirst types h a → (x : Tree)
      → IsPart v params vars (bound_types h a ++ types) x → IsPart v params vars types (Two h a x)
  wrapped types h a f x p = record {
    sort = f.wraps.sentence x p.sort;
    typed = (f.wraps.fits x p.sort, f.fits x, f.typed, p.typed);
    parameters = (f.parameters, p.parameters);
    variables = (f.variables, p.variables);
  }

  all_wrapped : (types : List Tree) (h : Head) (a : Tree) (es : List Tree) → IsFirst types h a
      → All (IsPart v params vars (bound_types h a ++ types)) es
      → All (IsPart v params vars types) (map (Two h a) es)
  all_wrapped types h a es f p =
      All-map (IsPart v params vars types) (Two h a) es (λ k z l. wrapped types h a f _ (p k z l))

  under_imp : (types : List Tree) (a : Tree) → IsPart v params vars types a
      → IsFirst types (HJoin Imp) a
  under_imp types a p = record {
    wraps = wraps_imp a p.sort;
    fits = λ x. tt;
    typed =
        p.typed;
    parameters = p.parameters;
    variables = p.variables;
  }

  negated : (types : List Tree) (a : Tree) → IsPart v params vars types a
      → IsPart v params vars types (neg a)
  negated types a p = record {
    sort = refl;
    typed = (p.sort, tt, p.typed);
    parameters =
        (tt, p.parameters);
    variables = p.variables;
  }

  one_part : (types : List Tree) (e : Tree) → IsPart v params vars types e
      → All (IsPart v params vars types) (e ∷ [])
  one_part types e p =
      All-cons (IsPart v params vars types) e [] p (All-nil (IsPart v params vars types))

  parts : (types : List Tree) (e : Tree) → IsPart v params vars types e
      → All (IsPart v params vars types) (split e)
  parts types (Leaf HTrue) p = All-nil (IsPart v params vars types)
  parts types (Two (HJoin And) a b) p =
      let l : IsPart v params vars types a =
      record {
        sort = p.typed.0.0.0;
        typed = p.typed.2;
        parameters =
            p.parameters.0;
        variables = p.variables.0;
      } in
      let r : IsPart v params vars types b =
      record {
        sort = p.typed.0.0.1;
        typed = p.typed.3;
        parameters =
            p.parameters.1;
        variables = p.variables.1;
      } in
      All-append (IsPart v params vars types) (split a) (split b) (parts types a l)
      (parts types b r)
  parts types (Two (HJoin AndThen) a b) p =
      let l : IsPart v params vars types a =
      record {
        sort = p.typed.0.0.0;
        typed = p.typed.2;
        parameters =
            p.parameters.0;
        variables = p.variables.0;
      } in
      let r : IsPart v params vars types b =
      record {
        sort = p.typed.0.0.1;
        typed = p.typed.3;
        parameters =
            p.parameters.1;
        variables = p.variables.1;
      } in
      All-append (IsPart v params vars types) (split a) (map (imp a) (split b)) (parts types a l)
      (all_wrapped types (HJoin Imp) a (split b) (under_imp types a l) (parts types b r))
  parts types (Two (HJoin Imp) a b) p =
      let l : IsPart v params vars types a =
      record {
        sort = p.typed.0.0.0;
        typed = p.typed.2;
        parameters =
            p.parameters.0;
        variables = p.variables.0;
      } in
      let r : IsPart v params vars types b =
      record {
        sort = p.typed.0.0.1;
        typed = p.typed.3;
        parameters =
            p.parameters.1;
        variables = p.variables.1;
      } in
      all_wrapped types (HJoin Imp) a (split b) (under_imp types a l) (parts types b r)
  parts types (Two (HJoin Iff) a b) p =
      let l : IsPart v params vars types a =
      record {
        sort = p.typed.0.0.0;
        typed = p.typed.2;
        parameters =
            p.parameters.0;
        variables = p.variables.0;
      } in
      let r : IsPart v params vars types b =
      record {
        sort = p.typed.0.0.1;
        typed = p.typed.3;
        parameters =
            p.parameters.1;
        variables = p.variables.1;
      } in
      All-cons (IsPart v params vars types) (imp a b) (imp b a ∷ [])
      (wrapped types (HJoin Imp) a (under_imp types a l) b r)
      (one_part types (imp b a) (wrapped types (HJoin Imp) b (under_imp types b r) a l))
  parts types (Two HForall ty a) p =
      let f : IsFirst types HForall ty =
      record {
        wraps = wraps_forall ty p.typed.0.0.0;
        fits = λ x. tt;
        typed =
            p.typed.2;
        parameters = p.parameters.0;
        variables = p.variables.0;
      } in
      all_wrapped types HForall ty (split a) f
      (parts (bound_types HForall ty ++ types) a
      (record {
        sort = p.typed.0.0.1;
        typed = p.typed.3;
        parameters =
            p.parameters.1;
        variables = p.variables.1;
      }))
  parts types (Two HLet t a) p =
      let f : IsFirst types HLet t =
      record {
        wraps = wraps_let t p.typed.0.0.0;
        fits = λ x. tt;
        typed =
            p.typed.2;
        parameters = p.parameters.0;
        variables = p.variables.0;
      } in
      all_wrapped types HLet t (split a) f
      (parts (bound_types HLet t ++ types) a
      (record {
        sort = let_sentence t a p.typed.0 p.sort;
        typed = p.typed.3;
        parameters =
            p.parameters.1;
        variables = p.variables.1;
      }))
  parts types (Three HIf c a b) p =
      let q : IsPart v params vars types c =
      record {
        sort = p.typed.0.0;
        typed = p.typed.2;
        parameters = p.parameters.0;
        variables =
            p.variables.0;
      } in
      let l : IsPart v params vars types a =
      record {
        sort = then_sentence c a b p.typed.0 p.sort;
        typed = p.typed.3;
        parameters =
            p.parameters.1;
        variables = p.variables.1;
      } in
      let r : IsPart v params vars types b =
      record {
        sort = else_sentence c a b p.typed.0 p.sort;
        typed = p.typed.4;
        parameters =
            p.parameters.2;
        variables = p.variables.2;
      } in
      All-append (IsPart v params vars types) (map (imp c) (split a)) (map (imp (neg c)) (split b))
      (all_wrapped types (HJoin Imp) c (split a) (under_imp types c q) (parts types a l))
      (all_wrapped types (HJoin Imp) (neg c) (split b) (under_imp types (neg c) (negated types c q))
      (parts types b r))
  parts types e p = one_part types e p

-- each part of a goal of a valid task is a goal of it
goals : (t : TaskTree) → IsValid t → All (IsFormula t t.params 0) (split t.goal)
goals t valid =
    let whole : IsPart (of_task t) t.params 0 [] t.goal =
    record {
      sort = valid.goal.sort;
      typed = valid.goal.typed;
      parameters =
          valid.goal.parameters;
      variables = valid.goal.variables;
    } in
    All-weaker (IsPart (of_task t) t.params 0 []) (IsFormula t t.params 0)
    (λ e p. record {
      sort = p.sort;
      typed = p.typed;
      parameters = p.parameters;
      variables =
          p.variables;
    }) (split t.goal)
    (parts (of_task t) t.params 0 [] t.goal whole)

with_part : (t : TaskTree) (e : Tree) → IsValid t → IsFormula t t.params 0 e
    → Keeps t (with_goal t e)
with_part t e valid f = judgement_keeps t t.params t.locals e valid valid.params valid.locals f

-- the tasks that the equation gives
pub parts_are_split : (t : TaskTree) (ts : List TaskTree)
    → Gives (λ from. Ok (split_task from)) t ts → ts ≡ split_task t
parts_are_split t ts e = limited_gives (split_task t) ts e

pub keeps : (t : TaskTree) (ts : List TaskTree) → IsValid t
    → Gives (λ from. Ok (split_task from)) t ts → All (Keeps t) ts
keeps t ts valid e =
    subst (All (Keeps t)) (sym (parts_are_split t ts e))
    (All-map (Keeps t) (with_goal t) (split t.goal)
    (λ k z l. with_part t _ valid (goals t valid k z l)))
