-- What a tree becomes without its `match`es has none.
use Rattle.std.specs.Prelude.{◌≡◌, ℕ, ◌+◌, ◌-◌, ◌<◌, ◌≤◌, nat_lt, suc, Bool, true, false, if◌then◌else◌, List, [], ◌∷◌, length, get_or, All, refl}
use Rattle.std.proofs.Common.{arith}
use Rattle.std.proofs.lemmas.Bool.Decides.{nat_tests}
use Rattle.std.proofs.lemmas.List.Elements.{All-cons, All-nil, All-append}
use Rattle.tasks.specs.trees.Tree.{Tree, Leaf, One, Two, Three, Head, HTyVar, HEnd, HCell, HBound, HParam, HNot, HPred, HForall, HExists, HArm, HCase, HFun, HIf, HPatVar, HPatAlias, HPatCon, binders_over}
use Rattle.tasks.specs.trees.Binding.{Change, change, leaf_by, one_by, shifting, shift, instantiating_many, inst_many, Bound}
use Rattle.tasks.specs.Task.{TaskTree}
use Rattle.tasks.specs.Conjunctions.{conjunction}
use Rattle.tasks.specs.Equations.{cells}
use Rattle.tasks.specs.MatchTests.{field, fields, rebuilt, constructor_projections, top, other_terms, parts, con_equation, tests, one_tests, two_tests, three_tests, test, pattern_terms, one_binds, two_binds, three_binds, bind}
use Rattle.tr_match.specs.match_forms.Forms.{branch_form, if_form, match_rule, without_matches}
use Rattle.tr_match.specs.images.Images.{image}
use Rattle.tr_algebraic.specs.algebraic_forms.NoMatch.{NoMatchInOne, NoMatchInTwo, NoMatchInThree, HasNoMatch}

-- ---- a node over parts without one
one_none : (h : Head) (A : Type 0) → A → NoMatchInOne h A
one_none HNot A a = a
one_none _ A a = tt

three_none : (h : Head) (A B C : Type 0) → A → B → C → NoMatchInThree h A B C
three_none (HFun f) A B C a b c = b
three_none HIf A B C a b c = (a, b, c)
three_none _ A B C a b c = tt

-- ---- terms that are put in
two_changed : (h : Head) (A B C D : Type 0) → (A → C) → (B → D) → NoMatchInTwo h A B
    → NoMatchInTwo h C D
two_changed HCase A B C D f g n = absurd n
two_changed (HPred p) A B C D f g n = g n
two_changed HForall A B C D f g n = g n
two_changed HExists A B C D f g n = g n
two_changed HArm A B C D f g n = g n
two_changed _ A B C D f g n = (f n.0, g n.1)

three_changed : (h : Head) (A B C D E F : Type 0) → (A → D) → (B → E) → (C → F)
    → NoMatchInThree h A B C → NoMatchInThree h D E F
three_changed (HFun f) A B C D E F x y z n = y n
three_changed HIf A B C D E F x y z n = (x n.0, y n.1, z n.2)
three_changed _ A B C D E F x y z n = tt

-- variables and parameters become what has no `match`
pub record PutsNone (f : Change) : Type 0 where
  pub bound : (d i : ℕ) (ty : Tree) → HasNoMatch (f.bound d i ty)
  pub param : (d n : ℕ) (ty : Tree) → HasNoMatch (f.param d n ty)
  pub ty_var : (j : ℕ) → HasNoMatch (f.ty_var j)

module _ (f : Change) (p : PutsNone f) where
  leaf_changed : (h : Head) → HasNoMatch (leaf_by f h)
  leaf_changed (HTyVar j) = p.ty_var j
  leaf_changed _ = tt

  one_changed : (d : ℕ) (h : Head) (a : Tree) (A : Type 0) → (A → HasNoMatch a) → NoMatchInOne h A
      → HasNoMatch (one_by f d h a)
  one_changed d (HBound i) a A g n = p.bound d i a
  one_changed d (HParam i) a A g n = p.param d i a
  one_changed d HNot a A g n = g n
  one_changed d _ a A g n = tt

  pub change_none : (d : ℕ) (e : Tree) → HasNoMatch e → HasNoMatch (change f d e)
  change_none d (Leaf h) n = leaf_changed h
  change_none d (One h a) n = one_changed d h (change f d a) (HasNoMatch a) (change_none d a) n
  change_none d (Two h a b) n =
      two_changed h (HasNoMatch a) (HasNoMatch b) (HasNoMatch (change f d a))
      (HasNoMatch (change f (d + binders_over h a) b)) (change_none d a)
      (change_none (d + binders_over h a) b) n
  change_none d (Three h a b c) n =
      three_changed h (HasNoMatch a) (HasNoMatch b) (HasNoMatch c) (HasNoMatch (change f d a))
      (HasNoMatch (change f d b)) (HasNoMatch (change f d c)) (change_none d a)
      (change_none d b) (change_none d c) n

shifting_none : (up from : ℕ) → PutsNone (shifting up from)
shifting_none up from = record { bound = λ d i ty. tt; param = λ d n ty. tt; ty_var = λ j. tt }

below_of : (n m : ℕ) → nat_lt n m ≡ true → n < m
below_of n m e = grind (arith, nat_tests)

above_of : (n m : ℕ) → nat_lt n m ≡ false → m ≤ n
above_of n m e = grind (arith, nat_tests)

many_bound : (ts : List Tree) → All HasNoMatch ts → (d i : ℕ) (ty : Tree)
    → HasNoMatch ((instantiating_many ts).bound d i ty)
many_bound ts a d i ty = by (nat_lt i d) refl
  where
    inside : (b : Bool) → nat_lt i d ≡ false → nat_lt i (d + length ts) ≡ b
        → HasNoMatch (if b then shift (get_or ts (length ts - 1 - (i - d)) ty) d 0 else Bound
        (i - length ts) ty)
    inside true e q =
        let l = below_of i (d + length ts) q in
        let m = above_of i d e in
        change_none (shifting d 0) (shifting_none d 0) 0 (get_or ts (length ts - 1 - (i - d)) ty)
        (a (length ts - 1 - (i - d)) ty (omega (arith, l, m)))
    inside false e q = tt

    by : (b : Bool) → nat_lt i d ≡ b
        → HasNoMatch (if b then Bound i ty
        else (if nat_lt i (d + length ts) then shift (get_or ts (length ts - 1 - (i - d)) ty) d 0
        else Bound (i - length ts) ty))
    by true e = tt
    by false e = inside (nat_lt i (d + length ts)) e refl

many_none : (ts : List Tree) → All HasNoMatch ts → (e : Tree) → HasNoMatch e
    → HasNoMatch (inst_many e ts)
many_none ts a e n = change_none (instantiating_many ts)
    (record { bound = many_bound ts a; param = λ d k ty. tt; ty_var = λ j. tt }) 0 e n

-- ---- tests of patterns, and the terms for their variables
cells_none : (es : List Tree) → All HasNoMatch es → HasNoMatch (cells es)
cells_none [] a = tt
cells_none (e ∷ es) a = (a 0 e (omega arith), cells_none es (λ k x l. a (suc k) x (omega arith)))

conjunction_none : (es : List Tree) → All HasNoMatch es → HasNoMatch (conjunction es)
conjunction_none [] a = tt
conjunction_none (e ∷ []) a = a 0 e (omega arith)
conjunction_none (e ∷ f ∷ es) a =
    (a 0 e (omega arith), conjunction_none (f ∷ es) (λ k x l. a (suc k) x (omega arith)))

top_none : (ss : List Tree) → All HasNoMatch ss → HasNoMatch (top ss)
top_none [] a = tt
top_none (s ∷ ss) a = a 0 s (omega arith)

others_none : (ss : List Tree) → All HasNoMatch ss → All HasNoMatch (other_terms ss)
others_none [] a = All-nil HasNoMatch
others_none (s ∷ ss) a = λ k x l. a (suc k) x (omega arith)

module _ (t : TaskTree) where
  fields_none : (js : List ℕ) (types s : Tree) → HasNoMatch s → All HasNoMatch (fields t js types s)
  fields_none [] types s n = All-nil HasNoMatch
  fields_none (j ∷ js) types s n =
      All-cons HasNoMatch (field t j types s) (fields t js types s) (n, tt)
      (fields_none js types s n)

  parts_none : (h : Head) (types : Tree) (ss : List Tree) → All HasNoMatch ss
      → All HasNoMatch (parts t h types ss)
  parts_none (HPatCon k) types ss a =
      fields_none (constructor_projections t k) types (top ss) (top_none ss a)
  parts_none _ types ss a = All-nil HasNoMatch

  one_tested : (h : Head) (es : List Tree) → All HasNoMatch es → All HasNoMatch (one_tests h es)
  one_tested HPatAlias es a = a
  one_tested _ es a = All-nil HasNoMatch

  two_tested : (h : Head) (es fs : List Tree) → All HasNoMatch es → All HasNoMatch fs
      → All HasNoMatch (two_tests h es fs)
  two_tested HCell es fs a b = All-append HasNoMatch es fs a b
  two_tested _ es fs a b = All-nil HasNoMatch

  three_tested : (h : Head) (types : Tree) (ss es : List Tree) → All HasNoMatch ss
      → All HasNoMatch es → All HasNoMatch (three_tests t h types ss es)
  three_tested (HPatCon k) types ss es a b =
      All-cons HasNoMatch (con_equation t k types (top ss)) es (
        top_none ss a,
        cells_none (fields t (constructor_projections t k) types (top ss))
            (fields_none (constructor_projections t k) types (top ss) (top_none ss a)),
      ) b
  three_tested _ types ss es a b = All-nil HasNoMatch

  tests_none : (p : Tree) (ss : List Tree) → All HasNoMatch ss → All HasNoMatch (tests t p ss)
  tests_none (Leaf h) ss a = All-nil HasNoMatch
  tests_none (One h p) ss a = one_tested h (tests t p ss) (tests_none p ss a)
  tests_none (Two h p q) ss a =
      two_tested h (tests t p (top ss ∷ [])) (tests t q (other_terms ss))
      (tests_none p (top ss ∷ [])
      (All-cons HasNoMatch (top ss) [] (top_none ss a) (All-nil HasNoMatch)))
      (tests_none q (other_terms ss) (others_none ss a))
  tests_none (Three h b p c) ss a =
      three_tested h b ss (tests t p (parts t h b ss)) a
      (tests_none p (parts t h b ss) (parts_none h b ss a))

  one_bound : (h : Head) (es ss : List Tree) → All HasNoMatch es → All HasNoMatch ss
      → All HasNoMatch (one_binds h es ss)
  one_bound HPatVar es ss a b = All-cons HasNoMatch (top ss) [] (top_none ss b) (All-nil HasNoMatch)
  one_bound HPatAlias es ss a b =
      All-append HasNoMatch es (top ss ∷ []) a
      (All-cons HasNoMatch (top ss) [] (top_none ss b) (All-nil HasNoMatch))
  one_bound _ es ss a b = All-nil HasNoMatch

  two_bound : (h : Head) (es fs : List Tree) → All HasNoMatch es → All HasNoMatch fs
      → All HasNoMatch (two_binds h es fs)
  two_bound HCell es fs a b = All-append HasNoMatch es fs a b
  two_bound _ es fs a b = All-nil HasNoMatch

  three_bound : (h : Head) (es : List Tree) → All HasNoMatch es → All HasNoMatch (three_binds h es)
  three_bound (HPatCon k) es a = a
  three_bound _ es a = All-nil HasNoMatch

  terms_none : (p : Tree) (ss : List Tree) → All HasNoMatch ss
      → All HasNoMatch (pattern_terms t p ss)
  terms_none (Leaf h) ss a = All-nil HasNoMatch
  terms_none (One h p) ss a = one_bound h (pattern_terms t p ss) ss (terms_none p ss a) a
  terms_none (Two h p q) ss a =
      two_bound h (pattern_terms t p (top ss ∷ [])) (pattern_terms t q (other_terms ss))
      (terms_none p (top ss ∷ [])
      (All-cons HasNoMatch (top ss) [] (top_none ss a) (All-nil HasNoMatch)))
      (terms_none q (other_terms ss) (others_none ss a))
  terms_none (Three h b p c) ss a =
      three_bound h (pattern_terms t p (parts t h b ss))
      (terms_none p (parts t h b ss) (parts_none h b ss a))

  alone : (s : Tree) → HasNoMatch s → All HasNoMatch (s ∷ [])
  alone s n = All-cons HasNoMatch s [] n (All-nil HasNoMatch)

  -- ---- forms
  branch_none : (c x others rest : Tree) → HasNoMatch c → HasNoMatch x → HasNoMatch rest
      → HasNoMatch (branch_form c x others rest)
  branch_none c x (Leaf HEnd) rest n m r = m
  branch_none c x (Leaf _) rest n m r = (n, m, r)
  branch_none c x (One _ a) rest n m r = (n, m, r)
  branch_none c x (Two _ a b) rest n m r = (n, m, r)
  branch_none c x (Three _ a b d) rest n m r = (n, m, r)

  form_none : (s b : Tree) → HasNoMatch s → HasNoMatch b → HasNoMatch (if_form t s b)
  form_none s (Two HCell (Two HArm p a) others) n m =
      branch_none (test t p s) (inst_many a (bind t p s)) others (if_form t s others)
      (conjunction_none (tests t p (s ∷ [])) (tests_none p (s ∷ []) (alone s n)))
      (many_none (bind t p s) (terms_none p (s ∷ []) (alone s n)) a m.0)
      (form_none s others n m.1)
  form_none s e n m = tt

  two_ruled : (h : Head) (a b : Tree) → HasNoMatch a → HasNoMatch b
      → HasNoMatch (match_rule t (Two h a b))
  two_ruled HCase a b n m = form_none a b n m
  two_ruled (HPred p) a b n m = m
  two_ruled HForall a b n m = m
  two_ruled HExists a b n m = m
  two_ruled HArm a b n m = m
  two_ruled _ a b n m = (n, m)

  pub image_none : (e : Tree) → HasNoMatch (without_matches t e)
  image_none (Leaf h) = tt
  image_none (One h a) = one_none h (HasNoMatch (without_matches t a)) (image_none a)
  image_none (Two h a b) =
      two_ruled h (without_matches t a) (without_matches t b) (image_none a) (image_none b)
  image_none (Three h a b c) =
      three_none h (HasNoMatch (without_matches t a)) (HasNoMatch (without_matches t b))
      (HasNoMatch (without_matches t c)) (image_none a) (image_none b) (image_none c)
