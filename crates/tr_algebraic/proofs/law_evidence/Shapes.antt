-- The shapes of laws stay where something is put in for their variables or type variables.
use Rattle.std.specs.Option.{option_map}
use Rattle.std.proofs.Common.{◌≡◌, ℕ, ◌+◌, ◌<◌, zero, suc, slice_get, Some, inl, inr, sym, ap, subst, ◌∙◌, arith}
use Rattle.tasks.specs.trees.Tree.{Tree, Leaf, One, Two, Three, HCell, HFun, HEq, HForall}
use Rattle.tasks.specs.trees.Binding.{Change, change, inst, instantiating}
use Rattle.tasks.specs.Task.{TaskTree, neg}
use Rattle.tasks.specs.Typing.{members}
use Rattle.kernel.specs.rules.Forms.{equal}
use Rattle.tr_algebraic.specs.law_evidence.Shapes.{leading_quantifiers, Quantified, IsProjected, AreApart, IsProjectedOrApart, BeginsOpenLaw}

zero_right : (d : ℕ) → d + 0 ≡ d
zero_right d = omega arith

members_change : (f : Change) (d : ℕ) (bs : Tree) (j : ℕ) (a : Tree) → slice_get (members bs) j ≡ Some a → slice_get (members (change f d bs)) j ≡ Some (change f d a)
members_change f d (Two HCell x xs) zero a e = ap (option_map (change f d)) e
members_change f d (Two HCell x xs) (suc j) a e = members_change f (d + 0) xs j a e ∙ ap (λ (k : ℕ). Some (change f k a)) (zero_right d)
members_change f d (Two _ x xs) j a e = absurd (cc)
members_change f d (Leaf h) j a e = absurd (cc)
members_change f d (One h x) j a e = absurd (cc)
members_change f d (Three h x y z) j a e = absurd (cc)

-- what is so of a formula stays so of what it is changed to
abbrev pub StaysChanged : (Tree → Type 0) → Type 0
StaysChanged P = (e : Tree) → P e → (f : Change) (d : ℕ) → P (change f d e)

module _ (t : TaskTree) where
  pub projected_stays : StaysChanged (IsProjected t)
  projected_stays e h f d = record {
    projection = h.projection;
    place = h.place;
    con = h.con;
    types = change f d h.types;
    rest = change f (d + 0) h.rest;
    type = change f d h.type;
    own = change f d h.own;
    args = change f d h.args;
    result = change f d h.result;
    value = change f (d + 0) h.value;
    is = ap (change f d) h.is;
    made = h.made;
    there = members_change f d h.args h.place h.value h.there ∙ ap (λ (k : ℕ). Some (change f k h.value)) (sym (zero_right d));
  }

  pub apart_stays : StaysChanged (AreApart t)
  apart_stays e h f d = record {
    first = h.first;
    second = h.second;
    types = change f d h.types;
    args = change f d h.args;
    type = change f d h.type;
    own = change f (d + 0) h.own;
    others = change f (d + 0) h.others;
    result = change f (d + 0) h.result;
    is = ap (change f d) h.is;
    first_made = h.first_made;
    second_made = h.second_made;
    different = h.different;
  }

  pub open_stays : StaysChanged (IsProjectedOrApart t)
  open_stays e (inl h) f d = inl (projected_stays e h f d)
  open_stays e (inr h) f d = inr (apart_stays e h f d)

  pub none_leads : (e : Tree) → IsProjectedOrApart t e → leading_quantifiers e ≡ 0
  none_leads e (inl h) = ap leading_quantifiers h.is
  none_leads e (inr h) = ap leading_quantifiers h.is

  pub open_begins : (n : ℕ) (e : Tree) → Quantified (IsProjectedOrApart t) n e → BeginsOpenLaw e
  open_begins zero e (inl h) = subst BeginsOpenLaw (sym h.is) tt
  open_begins zero e (inr h) = subst BeginsOpenLaw (sym h.is) tt
  open_begins (suc n) e h = subst BeginsOpenLaw (sym h.1.1.0) tt

  -- an equation is that of a projection, and a negation that of two constructors
  pub projected_of : (e a b : Tree) → e ≡ Two HEq a b → IsProjectedOrApart t e → IsProjected t e
  projected_of e a b q (inl h) = h
  projected_of e a b q (inr h) = absurd (let k : neg (equal (Three (HFun h.first) h.types h.args h.type) (Three (HFun h.second) h.own h.others h.result)) ≡ Two HEq a b = sym h.is ∙ q in cc)

  pub apart_of : (e a : Tree) → e ≡ neg a → IsProjectedOrApart t e → AreApart t e
  apart_of e a q (inl h) = absurd (let k : equal (Three (HFun h.projection) h.types (Two HCell (Three (HFun h.con.symbol) h.own h.args h.result) h.rest) h.type) h.value ≡ neg a = sym h.is ∙ q in cc)
  apart_of e a q (inr h) = h

-- ---- under quantifiers
pub quantified_stays : (P : Tree → Type 0) → StaysChanged P → (n : ℕ) (e : Tree) → Quantified P n e → (f : Change) (d : ℕ) → Quantified P n (change f d e)
quantified_stays P s zero e h f d = s e h f d
quantified_stays P s (suc n) e (ty, (b, (q, h))) f d = (change f d ty, (change f (d + 1) b, (ap (change f d) q, quantified_stays P s n b h f (d + 1))))

-- where one thing makes another
pub quantified_more : (P Q : Tree → Type 0) → ((e : Tree) → P e → Q e) → (n : ℕ) (e : Tree) → Quantified P n e → Quantified Q n e
quantified_more P Q w zero e h = w e h
quantified_more P Q w (suc n) e (ty, (b, (q, h))) = (ty, (b, (q, quantified_more P Q w n b h)))

pub count_of : (P : Tree → Type 0) → ((e : Tree) → P e → leading_quantifiers e ≡ 0) → (n : ℕ) (e : Tree) → Quantified P n e → leading_quantifiers e ≡ n
count_of P none zero e h = none e h
count_of P none (suc n) e (ty, (b, (q, h))) = ap leading_quantifiers q ∙ ap suc (count_of P none n b h)

-- a quantifier's body at a term has one quantifier less
pub record IsNext (P : Tree → Type 0) (e inner : Tree) : Type 0 where
  pub shape : (n : ℕ) × Quantified P n inner
  pub less : leading_quantifiers inner < leading_quantifiers e

pub next_of : (P : Tree → Type 0) → StaysChanged P → ((e : Tree) → P e → leading_quantifiers e ≡ 0) → (e ty b x : Tree) → e ≡ Two HForall ty b → (n : ℕ) × Quantified P n e → IsNext P e (inst b x)
next_of P s none e ty b x q (zero, h) = absurd (let z : leading_quantifiers e ≡ 0 = none e h in let m : leading_quantifiers e ≡ suc (leading_quantifiers b) = ap leading_quantifiers q in omega (arith, z, m))
next_of P s none e ty b x q (suc n, (ty2, (b2, (r, h)))) =
    let both : Two HForall ty2 b2 ≡ Two HForall ty b = sym r ∙ q in
    let same : b2 ≡ b = cc in
    let g : Quantified P n (inst b x) = quantified_stays P s n b (subst (Quantified P n) same h) (instantiating x) 0 in
    let m : leading_quantifiers (inst b x) ≡ n = count_of P none n (inst b x) g in
    let k : leading_quantifiers e ≡ suc n = count_of P none (suc n) e (ty2, (b2, (r, h))) in
    record { shape = (n, g); less = omega (arith, m, k) }

-- no quantifier is left where the formula isn't one
pub leaf_of : (P : Tree → Type 0) (e : Tree) → leading_quantifiers e ≡ 0 → ((e2 : Tree) → P e2 → leading_quantifiers e2 ≡ 0) → (n : ℕ) × Quantified P n e → P e
leaf_of P e z none (zero, h) = h
leaf_of P e z none (suc n, h) = absurd (let k : leading_quantifiers e ≡ suc n = count_of P none (suc n) e h in omega (arith, z, k))
