-- The types that are found along an instance are those of the instance, at each type variable of the tree; and they are types of the task.
use Rattle.std.proofs.Common.{◌≡◌, ◌+◌, ℕ, zero, suc, Bool, true, false, if◌then◌else◌, List, [], ◌∷◌, ◌++◌, ◌≤◌, length, get_or, All, refl, sym, ap, subst, ◌∙◌, arith}
use Rattle.std.specs.Prelude.{set}
use Rattle.std.proofs.lemmas.List.{length-set, get_or-set_same}
use Rattle.std.proofs.lemmas.List.Elements.{All-cons, All-nil, All-set}
use Rattle.tasks.specs.trees.declared.Sort.{Sort}
use Rattle.tasks.specs.trees.declared.Sort.TheVariants as sort
use Rattle.tasks.specs.trees.Tree.{Tree, Leaf, One, Two, Three, Head, HTyVar, HBound, HParam, binders_over}
use Rattle.tasks.specs.trees.Sorts.{sort_of, int_type}
use Rattle.tasks.specs.trees.Binding.{TyVar, change, one_by, leaf_by, typing, inst_types}
use Rattle.tasks.specs.Vocabulary.{Vocabulary}
use Rattle.tasks.specs.Typing.{bound_types, TypedUnder}
use Rattle.tasks.specs.Valid.{VariablesBelow, IsTypeIn}
use Rattle.tr_discriminate.specs.wanted_instances.lemmas.Typed.{kind_good}
use Rattle.tr_discriminate.specs.instance_sets.Made.{IsTypeTree}
use Rattle.tr_discriminate.specs.Found.{is_type_sort, leaf_found, types_found, ints}

-- ---- as many types stay
noted_long : (b : Bool) (j : ℕ) (e : Tree) (tys : List Tree) → length (if b then set tys j e else tys) ≡ length tys
noted_long true j e tys = length-set tys j e
noted_long false j e tys = refl

leaf_long : (h : Head) (e : Tree) (tys : List Tree) → length (leaf_found h e tys) ≡ length tys
leaf_long (HTyVar j) e tys = noted_long (is_type_sort (sort_of e)) j e tys
leaf_long _ e tys = refl

pub found_long : (a e : Tree) (tys : List Tree) → length (types_found a e tys) ≡ length tys
found_long (Leaf h) e tys = leaf_long h e tys
found_long (One h a) (One g x) tys = found_long a x tys
found_long (Two h a b) (Two g x y) tys = found_long b y (types_found a x tys) ∙ found_long a x tys
found_long (Three h a b c) (Three g x y z) tys = found_long c z (types_found b y (types_found a x tys)) ∙ found_long b y (types_found a x tys) ∙ found_long a x tys
found_long _ _ tys = refl

pub ints_long : (n : ℕ) → length (ints n) ≡ n
ints_long zero = refl
ints_long (suc n) = ap (λ (k : ℕ). suc k) (ints_long n)

-- a tree without type variables notes none
leaf_none : (h : Head) (e : Tree) (tys : List Tree) → VariablesBelow 0 (Leaf h) → leaf_found h e tys ≡ tys
leaf_none (HTyVar j) e tys g = absurd (omega (arith, g))
leaf_none _ e tys g = refl

pub found_none : (a e : Tree) (tys : List Tree) → VariablesBelow 0 a → types_found a e tys ≡ tys
found_none (Leaf h) e tys g = leaf_none h e tys g
found_none (One h a) (One k x) tys g = found_none a x tys g
found_none (Two h a b) (Two k x y) tys g = found_none b y (types_found a x tys) g.1 ∙ found_none a x tys g.0
found_none (Three h a b c) (Three k x y z) tys g = found_none c z (types_found b y (types_found a x tys)) g.2 ∙ found_none b y (types_found a x tys) g.1 ∙ found_none a x tys g.0
found_none _ _ tys g = refl

-- ---- along an instance
put_at : (tys : List Tree) (i j : ℕ) (v w d : Tree) → (j ≡ i → v ≡ w) → get_or tys j d ≡ w → get_or (set tys i v) j d ≡ w
put_at [] i j v w d f e = e
put_at (t ∷ tys) zero zero v w d f e = f refl
put_at (t ∷ tys) zero (suc j) v w d f e = e
put_at (t ∷ tys) (suc i) zero v w d f e = e
put_at (t ∷ tys) (suc i) (suc j) v w d f e = put_at tys i j v w d (λ q. f (ap (λ (k : ℕ). suc k) q)) e

module _ (ys : List Tree) where
  abbrev at : ℕ → Tree
  at j = get_or ys j (TyVar j)

  abbrev SameAt : ℕ → List Tree → Type 0
  SameAt j tys = get_or tys j (TyVar j) ≡ at j

  noted_keeps : (b : Bool) (i j : ℕ) (tys : List Tree) → SameAt j tys → SameAt j (if b then set tys i (at i) else tys)
  noted_keeps true i j tys p = put_at tys i j (at i) (at j) (TyVar j) (λ q. ap at (sym q)) p
  noted_keeps false i j tys p = p

  leaf_keeps : (h : Head) (j : ℕ) (tys : List Tree) → SameAt j tys → SameAt j (leaf_found h (leaf_by (typing ys) h) tys)
  leaf_keeps (HTyVar i) j tys p = noted_keeps (is_type_sort (sort_of (at i))) i j tys p
  leaf_keeps _ j tys p = p

  found_keeps : (d : ℕ) (a : Tree) (j : ℕ) (tys : List Tree) → SameAt j tys → SameAt j (types_found a (change (typing ys) d a) tys)
  found_keeps d (Leaf h) j tys p = leaf_keeps h j tys p
  found_keeps d (One (HBound i) a) j tys p = found_keeps d a j tys p
  found_keeps d (One (HParam n) a) j tys p = found_keeps d a j tys p
  found_keeps d (One _ a) j tys p = found_keeps d a j tys p
  found_keeps d (Two h a b) j tys p = found_keeps (d + binders_over h a) b j (types_found a (change (typing ys) d a) tys) (found_keeps d a j tys p)
  found_keeps d (Three h a b c) j tys p =
      let one = types_found a (change (typing ys) d a) tys in
      found_keeps d c j (types_found b (change (typing ys) d b) one) (found_keeps d b j one (found_keeps d a j tys p))

  -- the types are the same at each type variable of a tree
  abbrev LeafSame : Head → List Tree → Type 0
  LeafSame (HTyVar j) tys = SameAt j tys
  LeafSame _ tys = Unit {0}

  abbrev AreSame : Tree → List Tree → Type 0
  AreSame (Leaf h) tys = LeafSame h tys
  AreSame (One h a) tys = AreSame a tys
  AreSame (Two h a b) tys = AreSame a tys × AreSame b tys
  AreSame (Three h a b c) tys = AreSame a tys × AreSame b tys × AreSame c tys

  leaf_stays : (h : Head) (old new : List Tree) → ((j : ℕ) → SameAt j old → SameAt j new) → LeafSame h old → LeafSame h new
  leaf_stays (HTyVar j) old new f p = f j p
  leaf_stays _ old new f p = tt

  same_stays : (a : Tree) (old new : List Tree) → ((j : ℕ) → SameAt j old → SameAt j new) → AreSame a old → AreSame a new
  same_stays (Leaf h) old new f p = leaf_stays h old new f p
  same_stays (One h a) old new f p = same_stays a old new f p
  same_stays (Two h a b) old new f p = (same_stays a old new f p.0, same_stays b old new f p.1)
  same_stays (Three h a b c) old new f p = (same_stays a old new f p.0, same_stays b old new f p.1, same_stays c old new f p.2)

  one_same : (tys : List Tree) (d : ℕ) (h : Head) (x y : Tree) → x ≡ y → one_by (typing tys) d h x ≡ one_by (typing ys) d h y
  one_same tys d (HBound i) x y e = ap (One (HBound i)) e
  one_same tys d (HParam n) x y e = ap (One (HParam n)) e
  one_same tys d h x y e = ap (One h) e

  leaf_same : (tys : List Tree) (h : Head) → LeafSame h tys → leaf_by (typing tys) h ≡ leaf_by (typing ys) h
  leaf_same tys (HTyVar j) p = p
  leaf_same tys _ p = refl

  -- so are its instances
  instance_same : (tys : List Tree) (d : ℕ) (a : Tree) → AreSame a tys → change (typing tys) d a ≡ change (typing ys) d a
  instance_same tys d (Leaf h) p = leaf_same tys h p
  instance_same tys d (One h a) p = one_same tys d h (change (typing tys) d a) (change (typing ys) d a) (instance_same tys d a p)
  instance_same tys d (Two h a b) p = cc (instance_same tys d a p.0, instance_same tys (d + binders_over h a) b p.1)
  instance_same tys d (Three h a b c) p = cc (instance_same tys d a p.0, instance_same tys d b p.1, instance_same tys d c p.2)

  module _ (kinds : All IsTypeTree ys) where
    kind_at : (zs : List Tree) → All IsTypeTree zs → (j : ℕ) (e : Tree) → IsTypeTree e → IsTypeTree (get_or zs j e)
    kind_at [] a j e k = k
    kind_at (z ∷ zs) a zero e k = a 0 z (omega arith)
    kind_at (z ∷ zs) a (suc j) e k = kind_at zs (λ i x l. a (suc i) x (omega arith)) j e k

    noted_same : (b : Bool) (j : ℕ) (tys : List Tree) → b ≡ true → suc j ≤ length tys → SameAt j (if b then set tys j (at j) else tys)
    noted_same true j tys e l = get_or-set_same tys j (at j) (TyVar j) (omega (arith, l))
    noted_same false j tys e l = absurd (cc)

    leaf_agrees : (h : Head) (tys : List Tree) → VariablesBelow (length tys) (Leaf h) → LeafSame h (leaf_found h (leaf_by (typing ys) h) tys)
    leaf_agrees (HTyVar j) tys l = noted_same (is_type_sort (sort_of (at j))) j tys (ap is_type_sort (kind_at ys kinds j (TyVar j) refl)) (omega (arith, l))
    leaf_agrees _ tys l = tt

    below_found : (a e b : Tree) (tys : List Tree) → VariablesBelow (length tys) b → VariablesBelow (length (types_found a e tys)) b
    below_found a e b tys l = subst (λ (n : ℕ). VariablesBelow n b) (sym (found_long a e tys)) l

    found_agrees : (d : ℕ) (a : Tree) (tys : List Tree) → VariablesBelow (length tys) a → AreSame a (types_found a (change (typing ys) d a) tys)
    found_agrees d (Leaf h) tys l = leaf_agrees h tys l
    found_agrees d (One (HBound i) a) tys l = found_agrees d a tys l
    found_agrees d (One (HParam n) a) tys l = found_agrees d a tys l
    found_agrees d (One _ a) tys l = found_agrees d a tys l
    found_agrees d (Two h a b) tys l =
        let x = change (typing ys) d a in
        let k = d + binders_over h a in
        let one = types_found a x tys in
        (same_stays a one (types_found b (change (typing ys) k b) one) (λ j p. found_keeps k b j one p) (found_agrees d a tys l.0), found_agrees k b one (below_found a x b tys l.1))
    found_agrees d (Three h a b c) tys l =
        let x = change (typing ys) d a in
        let y = change (typing ys) d b in
        let z = change (typing ys) d c in
        let one = types_found a x tys in
        let two = types_found b y one in
        let three = types_found c z two in (
          same_stays a two three (λ j p. found_keeps d c j two p) (same_stays a one two (λ j p. found_keeps d b j one p) (found_agrees d a tys l.0)),
          same_stays b two three (λ j p. found_keeps d c j two p) (found_agrees d b one (below_found a x b tys l.1)),
          found_agrees d c two (below_found b y c one (below_found a x c tys l.2)),
        )

-- the instance at the types that are found along an instance is that instance
pub instance_again : (ys : List Tree) → All IsTypeTree ys → (a e : Tree) (tys : List Tree) → VariablesBelow (length tys) a → e ≡ inst_types a ys → e ≡ inst_types a (types_found a e tys)
instance_again ys kinds a e tys l q =
    q ∙ sym (instance_same ys (types_found a (inst_types a ys) tys) 0 a (found_agrees ys kinds 0 a tys l)) ∙ ap (λ (z : Tree). inst_types a (types_found a z tys)) (sym q)

-- ---- types of the task
module _ (v : Vocabulary) (int : IsTypeIn v 0 int_type) where
  abbrev Good : Tree → Type 0
  Good ty = IsTypeIn v 0 ty

  pub ints_good : (n : ℕ) → All Good (ints n)
  ints_good zero = All-nil Good
  ints_good (suc n) = All-cons Good int_type (ints n) int (ints_good n)

  kind_told : (k : Sort) → is_type_sort k ≡ true → k ≡ sort.Kind
  kind_told sort.Kind e = refl
  kind_told _ e = absurd (cc)

  noted_good : (b : Bool) (j : ℕ) (e : Tree) (tys : List Tree) → (b ≡ true → Good e) → All Good tys → All Good (if b then set tys j e else tys)
  noted_good true j e tys f a = All-set Good tys j e (f refl) a
  noted_good false j e tys f a = a

  leaf_good : (h : Head) (bs : List Tree) (e : Tree) (tys : List Tree) → TypedUnder v bs e → VariablesBelow 0 e → All Good tys → All Good (leaf_found h e tys)
  leaf_good (HTyVar j) bs e tys x g a = noted_good (is_type_sort (sort_of e)) j e tys (λ q. kind_good v int bs e (kind_told (sort_of e) q) x g) a
  leaf_good _ bs e tys x g a = a

  pub found_good : (a : Tree) (bs : List Tree) (e : Tree) (tys : List Tree) → TypedUnder v bs e → VariablesBelow 0 e → All Good tys → All Good (types_found a e tys)
  found_good (Leaf h) bs e tys x g w = leaf_good h bs e tys x g w
  found_good (One h a) bs (One k p) tys x g w = found_good a bs p tys x.2 g w
  found_good (Two h a b) bs (Two k p q) tys x g w = found_good b (bound_types k p ++ bs) q (types_found a p tys) x.3 g.1 (found_good a bs p tys x.2 g.0 w)
  found_good (Three h a b c) bs (Three k p q r) tys x g w =
      found_good c bs r (types_found b q (types_found a p tys)) x.4 g.2 (found_good b bs q (types_found a p tys) x.3 g.1 (found_good a bs p tys x.2 g.0 w))
  found_good _ bs _ tys x g w = w
