-- What is made has no fewer nodes than what it was made of.
use Rattle.std.proofs.Common.{◌≡◌, ◌+◌, ◌<◌, ◌≤◌, ap, arith}
use Rattle.trees.specs.declared.Sort.{Sort}
use Rattle.trees.specs.declared.Sort.TheVariants.{Formula}
use Rattle.trees.specs.Tree.{Tree, Leaf, One, Two, Three, Head, HPred, HEq, HIf, size}
use Rattle.trees.specs.Sorts.{sort_of}
use Rattle.evidence.specs.images.Images.{image}
use Rattle.evidence.specs.images.typing_laws.HasTyping.{over_parts}
use Rattle.evidence.proofs.images.TypedImages.{image_over}
use Rattle.tr_if.specs.conditionals.Conditionals.{cases_over, if_of_sort, if_rule, without_ifs}
use Rattle.tr_if.specs.conditionals.lemmas.Cases.{cases_grow}

pub atom_grows : (e : Tree) → size e ≤ size (cases_over e (λ u. u))
atom_grows e = let r = cases_grow e (λ u. u) 0 (λ u. omega arith) in omega (arith, r)

if_grows : (c a b : Tree) (s : Sort) → size (Three HIf c a b) ≤ size (if_of_sort s c a b)
if_grows c a b Formula = omega arith
if_grows c a b _ = omega arith

pub rule_grows : (e : Tree) → size e ≤ size (if_rule e)
rule_grows (Leaf h) = omega arith
rule_grows (One h a) = omega arith
rule_grows (Two (HPred p) a b) = atom_grows (Two (HPred p) a b)
rule_grows (Two HEq a b) = atom_grows (Two HEq a b)
rule_grows (Two _ a b) = omega arith
rule_grows (Three HIf c a b) = if_grows c a b (sort_of a)
rule_grows (Three _ a b c) = omega arith

pub over_grows : (e : Tree) → size (over_parts if_rule e) ≤ size (without_ifs e)
over_grows e = let r = rule_grows (over_parts if_rule e) in let q : size (without_ifs e) ≡ size (if_rule (over_parts if_rule e)) = ap size (image_over if_rule e) in omega (arith, r, q)

pub ifs_grow : (e : Tree) → size e ≤ size (without_ifs e)
ifs_grow (Leaf h) = over_grows (Leaf h)
ifs_grow (One h a) = let p = ifs_grow a in let r : size (image if_rule a) + 1 ≤ size (without_ifs (One h a)) = over_grows (One h a) in omega (arith, p, r)
ifs_grow (Two h a b) =
    let p = ifs_grow a in let q = ifs_grow b in let r : size (image if_rule a) + size (image if_rule b) + 1 ≤ size (without_ifs (Two h a b)) = over_grows (Two h a b) in omega (arith, p, q, r)
ifs_grow (Three h a b c) =
    let p = ifs_grow a in let q = ifs_grow b in let o = ifs_grow c in
    let r : size (image if_rule a) + size (image if_rule b) + size (image if_rule c) + 1 ≤ size (without_ifs (Three h a b c)) = over_grows (Three h a b c) in omega (arith, p, q, o, r)

-- ---- what is too large in a part is too large in the whole
pub one_large : (e : Tree) (h : Head) (a : Tree) → e ≡ One h a → 1048576 < size (without_ifs a) → 1048576 < size (over_parts if_rule e)
one_large e h a q l = let r : size (over_parts if_rule e) ≡ size (without_ifs a) + 1 = ap (λ (z : Tree). size (over_parts if_rule z)) q in omega (arith, r, l)

pub two_first_large : (e : Tree) (h : Head) (a b : Tree) → e ≡ Two h a b → 1048576 < size (without_ifs a) → 1048576 < size (over_parts if_rule e)
two_first_large e h a b q l = let r : size (over_parts if_rule e) ≡ size (without_ifs a) + size (without_ifs b) + 1 = ap (λ (z : Tree). size (over_parts if_rule z)) q in omega (arith, r, l)

pub two_second_large : (e : Tree) (h : Head) (a b : Tree) → e ≡ Two h a b → 1048576 < size (without_ifs b) → 1048576 < size (over_parts if_rule e)
two_second_large e h a b q l = let r : size (over_parts if_rule e) ≡ size (without_ifs a) + size (without_ifs b) + 1 = ap (λ (z : Tree). size (over_parts if_rule z)) q in omega (arith, r, l)

module _ (e : Tree) (h : Head) (a b c : Tree) (q : e ≡ Three h a b c) where
  three_size : size (over_parts if_rule e) ≡ size (without_ifs a) + size (without_ifs b) + size (without_ifs c) + 1
  three_size = ap (λ (z : Tree). size (over_parts if_rule z)) q

  pub three_first_large : 1048576 < size (without_ifs a) → 1048576 < size (over_parts if_rule e)
  three_first_large l = omega (arith, three_size, l)

  pub three_second_large : 1048576 < size (without_ifs b) → 1048576 < size (over_parts if_rule e)
  three_second_large l = omega (arith, three_size, l)

  pub three_third_large : 1048576 < size (without_ifs c) → 1048576 < size (over_parts if_rule e)
  three_third_large l = omega (arith, three_size, l)
