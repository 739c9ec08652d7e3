-- Two problems with one text: the expressions that they assert, and the types of their parameters.
use Rattle.std.proofs.Common.{◌≡◌, ℕ, ◌+◌, Bool, true, false, if◌then◌else◌, List, [], ◌∷◌, ◌++◌, map, length, drop, get_or, codes, bytes_eq, refl, sym, ap, ◌∙◌, length-append, arith}
use Rattle.tasks.specs.trees.Tree.{Tree}
use Rattle.part_texts.specs.smt_law.s_expressions.Sexps.{Sexp, SexpWord, Group, Nothing, Then}
use Rattle.part_texts.proofs.smt_law.Forms.{Known}
use Rattle.part_texts.proofs.smt_law.Commands.{assertion, negated, formula_read, type_word, parameter_command, parameter_commands, assertions, ending, commands}

-- ---- the commands with a word
abbrev is_command : List ℕ → Sexp → Bool
is_command word (Group (Then (SexpWord w) rest)) = bytes_eq w word
is_command word _ = false

abbrev those : List ℕ → List Sexp → List Sexp
those word [] = []
those word (s ∷ ss) = if is_command word s then s ∷ those word ss else those word ss

those_join : (word : List ℕ) (ss us : List Sexp) → those word (ss ++ us) ≡ those word ss ++ those word us
those_join word [] us = refl
those_join word (s ∷ ss) us = elim (is_command word s) as (λ b. (if b then s ∷ those word (ss ++ us) else those word (ss ++ us)) ≡ (if b then s ∷ those word ss else those word ss) ++ those word us) [
  | true ↦ ap (λ z. s ∷ z) (those_join word ss us)
  | false ↦ those_join word ss us
]

abbrev asserts : List ℕ
asserts = codes "assert"

abbrev declares : List ℕ
declares = codes "declare-fun"

module _ (c : Known) where
  parameters_assert_none : (n : ℕ) (es : List Tree) → those asserts (parameter_commands c n es) ≡ []
  parameters_assert_none n [] = refl
  parameters_assert_none n (e ∷ es) = parameters_assert_none (n + 1) es

  parameters_declare : (n : ℕ) (es : List Tree) → those declares (parameter_commands c n es) ≡ parameter_commands c n es
  parameters_declare n [] = refl
  parameters_declare n (e ∷ es) = ap (λ z. parameter_command n (type_word c e) ∷ z) (parameters_declare (n + 1) es)

  premises_assert : (es : List Tree) → those asserts (assertions c es) ≡ assertions c es
  premises_assert [] = refl
  premises_assert (e ∷ es) = ap (λ z. assertion (formula_read c e) ∷ z) (premises_assert es)

  premises_declare_none : (es : List Tree) → those declares (assertions c es) ≡ []
  premises_declare_none [] = refl
  premises_declare_none (e ∷ es) = premises_declare_none es

  abbrev goal_command : Tree → Sexp
  goal_command goal = assertion (negated (formula_read c goal))

  asserted : (params premises : List Tree) (goal : Tree) → those asserts (commands c params premises goal) ≡ assertions c premises ++ goal_command goal ∷ []
  asserted params premises goal =
      those_join asserts (parameter_commands c 0 params) (assertions c premises ++ ending c goal)
      ∙ ap (λ z. z ++ those asserts (assertions c premises ++ ending c goal)) (parameters_assert_none 0 params)
      ∙ those_join asserts (assertions c premises) (ending c goal) ∙ ap (λ z. z ++ goal_command goal ∷ []) (premises_assert premises)

  append_none : (ss : List Sexp) → ss ++ [] ≡ ss
  append_none [] = refl
  append_none (s ∷ ss) = ap (λ z. s ∷ z) (append_none ss)

  declared : (params premises : List Tree) (goal : Tree) → those declares (commands c params premises goal) ≡ parameter_commands c 0 params
  declared params premises goal =
      those_join declares (parameter_commands c 0 params) (assertions c premises ++ ending c goal)
      ∙ ap (λ z. those declares (parameter_commands c 0 params) ++ z) (those_join declares (assertions c premises) (ending c goal) ∙ ap (λ z. z ++ []) (premises_declare_none premises))
      ∙ append_none (those declares (parameter_commands c 0 params)) ∙ parameters_declare 0 params

-- ---- what is in them
abbrev second_of : Sexp → Sexp
second_of (Group (Then a (Then s rest))) = s
second_of _ = Nothing

abbrev sort_in : Sexp → List ℕ
sort_in (Group (Then a (Then b (Then g (Then (SexpWord w) rest))))) = w
sort_in _ = []

second_ones : (c : Known) (es : List Tree) → map second_of (assertions c es) ≡ map (formula_read c) es
second_ones c [] = refl
second_ones c (e ∷ es) = ap (λ z. formula_read c e ∷ z) (second_ones c es)

sorts_in : (c : Known) (n : ℕ) (es : List Tree) → map sort_in (parameter_commands c n es) ≡ map (type_word c) es
sorts_in c n [] = refl
sorts_in c n (e ∷ es) = ap (λ z. type_word c e ∷ z) (sorts_in c (n + 1) es)

same_last : (xs ys : List Sexp) (x y : Sexp) → xs ++ x ∷ [] ≡ ys ++ y ∷ [] → (xs ≡ ys) × (x ≡ y)
same_last [] [] x y h = (refl, ap (λ z. get_or z 0 x) h)
same_last [] (b ∷ ys) x y h =
    let n : 1 ≡ length (b ∷ (ys ++ y ∷ [])) = ap length h in
    let m : length (ys ++ y ∷ []) ≡ length ys + 1 = length-append ys (y ∷ []) in
    absurd (omega (arith, n, m))
same_last (a ∷ xs) [] x y h =
    let n : length (a ∷ (xs ++ x ∷ [])) ≡ 1 = ap length h in
    let m : length (xs ++ x ∷ []) ≡ length xs + 1 = length-append xs (x ∷ []) in
    absurd (omega (arith, n, m))
same_last (a ∷ xs) (b ∷ ys) x y h =
    let more = same_last xs ys x y (ap (drop 1) h) in
    ((λ i. get_or (h i) 0 a ∷ more.0 i), more.1)

module _ (c e : Known) (params : List Tree) (premises : List Tree) (goal : Tree) (others : List Tree) (ends : List Tree) (aim : Tree) (same : commands c params premises goal ≡ commands e others ends aim) where
  lasts : (assertions c premises ≡ assertions e ends) × (goal_command c goal ≡ goal_command e aim)
  lasts = same_last (assertions c premises) (assertions e ends) (goal_command c goal) (goal_command e aim) (sym (asserted c params premises goal) ∙ ap (those asserts) same ∙ asserted e others ends aim)

  -- the premises, the goal and the sorts of the parameters are the same expressions
  pub same_premises : map (formula_read c) premises ≡ map (formula_read e) ends
  same_premises = sym (second_ones c premises) ∙ ap (map second_of) lasts.0 ∙ second_ones e ends

  pub same_goal : formula_read c goal ≡ formula_read e aim
  same_goal = ap (λ s. second_of (second_of s)) lasts.1

  pub same_sorts : map (type_word c) params ≡ map (type_word e) others
  same_sorts = sym (sorts_in c 0 params) ∙ ap (map sort_in) (sym (declared c params premises goal) ∙ ap (those declares) same ∙ declared e others ends aim) ∙ sorts_in e 0 others
