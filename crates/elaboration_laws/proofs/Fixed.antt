-- A type with `int` in the place of each part that is no type over the vocabulary: this commutes with assignments on types over
-- it, so it keeps equations between these.
use Rattle.std.proofs.Common.{◌≡◌, ℕ, ◌<◌, ◌==◌, ◌&&◌, suc, Bool, true, false, cond, nat_lt, length, Option, Some, None, IsSomeAnd, IsTrue, eq-eqb, refl, sym, ap, subst, ◌∙◌, arith}
use Rattle.std.proofs.lemmas.Bool.{eqb-true}
use Rattle.elab_groups.specs.trees.Tree.{Tree, Leaf, One, Two, Three, Head, HTyVar, HTyRigid, HTyApp, HEnd, HCell}
use Rattle.elab_groups.specs.trees.Sorts.{int_type}
use Rattle.elab_groups.specs.tasks.declared.signature.SymbolKind.{SymbolKind}
use Rattle.elab_groups.specs.tasks.declared.signature.SymbolKind.TheVariants.{Kind}
use Rattle.elab_groups.specs.tasks.Task.{SymbolTree}
use Rattle.elab_groups.specs.tasks.Vocabulary.{Vocabulary, passes}
use Rattle.elab_groups.specs.tasks.Typing.{members, entry, IsRigid, IsTypeSymbol}
use Rattle.elab_groups.specs.tasks.Valid.{VariablesBelow}
use Rattle.elab_groups.specs.open_types.unify_types.Assigned.{Variable, assign, IsTypeOrTypes, leaf_typed, one_typed, two_typed}
use Rattle.elaboration_laws.proofs.Over.{IsOver, leaf_over, one_over, two_over, members_assigned}
use Rattle.elaboration_laws.proofs.Entries.{both_true as left}

-- ---- tests
both : (a b : Bool) → IsTrue a → IsTrue b → IsTrue (a && b)
both a b x y = rw (x, y) refl

right : (a b : Bool) → IsTrue (a && b) → IsTrue b
right true b x = x
right false b x = absurd (cc)

abbrev is_kind : SymbolKind → Bool
is_kind Kind = true
is_kind _ = false

kind_is : (k : SymbolKind) → IsTrue (is_kind k) → k ≡ Kind
kind_is Kind x = refl
kind_is _ x = absurd (cc)

abbrev has_arity : ℕ → SymbolTree → Bool
has_arity n e = is_kind e.kind && n == e.vars

arity_told : (n : ℕ) (o : Option SymbolTree) → IsTrue (passes (has_arity n) o) → IsSomeAnd o (λ e. (e.kind ≡ Kind) × (n ≡ e.vars))
arity_told n None x = absurd (cc)
arity_told n (Some e) x = (kind_is e.kind (left (is_kind e.kind) (n == e.vars) x), eqb-true n e.vars (right (is_kind e.kind) (n == e.vars) x))

arity_passes : (n : ℕ) (o : Option SymbolTree) → IsSomeAnd o (λ e. (e.kind ≡ Kind) × (n ≡ e.vars)) → IsTrue (passes (has_arity n) o)
arity_passes n None x = absurd x
arity_passes n (Some e) x = both (is_kind e.kind) (n == e.vars) (rw x.0 refl) (eq-eqb n e.vars x.1)

other_way : (o : Option SymbolTree) → IsSomeAnd o (λ e. (e.kind ≡ Kind) × (0 ≡ e.vars)) → IsSomeAnd o (λ e. (e.kind ≡ Kind) × (e.vars ≡ 0))
other_way None x = x
other_way (Some e) x = (x.0, sym x.1)

one_way : (o : Option SymbolTree) → IsSomeAnd o (λ e. (e.kind ≡ Kind) × (e.vars ≡ 0)) → IsSomeAnd o (λ e. (e.kind ≡ Kind) × (0 ≡ e.vars))
one_way None x = x
one_way (Some e) x = (x.0, sym x.1)

module _ (v : Vocabulary) where
  abbrev is_rigid : ℕ → Bool
  is_rigid k = v.rigid k && passes (has_arity 0) (entry v k)

  abbrev is_symbol : ℕ → ℕ → Bool
  is_symbol k n = v.usable k && passes (has_arity n) (entry v k)

  rigid_told : (k : ℕ) → IsTrue (is_rigid k) → IsRigid v k
  rigid_told k x = (left (v.rigid k) _ x, other_way (entry v k) (arity_told 0 (entry v k) (right (v.rigid k) _ x)))

  rigid_passes : (k : ℕ) → IsRigid v k → is_rigid k ≡ true
  rigid_passes k x = both (v.rigid k) _ x.0 (arity_passes 0 (entry v k) (one_way (entry v k) x.1))

  symbol_told : (k n : ℕ) → IsTrue (is_symbol k n) → IsTypeSymbol v k n
  symbol_told k n x = (left (v.usable k) _ x, arity_told n (entry v k) (right (v.usable k) _ x))

  symbol_passes : (k n : ℕ) → IsTypeSymbol v k n → is_symbol k n ≡ true
  symbol_passes k n x = both (v.usable k) _ x.0 (arity_passes n (entry v k) x.1)

  -- ---- the type
  abbrev leaf_fixed : Head → Tree
  leaf_fixed (HTyRigid k) = cond (is_rigid k) (Leaf (HTyRigid k)) int_type
  leaf_fixed h = Leaf h

  abbrev one_fixed : Head → ℕ → Tree → Tree
  one_fixed (HTyApp k) n a = cond (is_symbol k n) (One (HTyApp k) a) int_type
  one_fixed h n a = One h a

  abbrev pub fixed : Tree → Tree
  fixed (Leaf h) = leaf_fixed h
  fixed (One h a) = one_fixed h (length (members a)) (fixed a)
  fixed (Two h a b) = Two h (fixed a) (fixed b)
  fixed (Three h a b c) = Three h (fixed a) (fixed b) (fixed c)

  leaf_members : (h : Head) → leaf_typed false h → length (members (fixed (Leaf h))) ≡ 0
  leaf_members HEnd t = refl
  leaf_members _ t = absurd t

  two_members : (h : Head) (a b : Tree) → two_typed false h → length (members (fixed b)) ≡ length (members b) → length (members (fixed (Two h a b))) ≡ length (members (Two h a b))
  two_members HCell a b t q = ap suc q
  two_members _ a b t q = absurd t

  members_fixed : (e : Tree) → IsTypeOrTypes false e → length (members (fixed e)) ≡ length (members e)
  members_fixed (Leaf h) t = leaf_members h t
  members_fixed (One h a) t = absurd t.0
  members_fixed (Two h a b) t = two_members h a b t.0 (members_fixed b t.2)
  members_fixed (Three h a b c) t = absurd t

  -- ---- it is a type over the vocabulary
  module _ (int : IsOver v true int_type) where
    leaf_fixed_over : (k : Bool) (h : Head) → leaf_typed k h → IsOver v k (fixed (Leaf h))
    leaf_fixed_over true (HTyVar j) t = tt
    leaf_fixed_over true (HTyRigid s) t = of (is_rigid s) refl
      where
        of : (b : Bool) → is_rigid s ≡ b → IsOver v true (cond b (Leaf (HTyRigid s)) int_type)
        of true q = rigid_told s q
        of false q = int
    leaf_fixed_over false HEnd t = tt
    leaf_fixed_over true _ t = absurd t
    leaf_fixed_over false _ t = absurd t

    one_fixed_over : (k : Bool) (h : Head) (a : Tree) → one_typed k h → IsTypeOrTypes false a → IsOver v false (fixed a) → IsOver v k (fixed (One h a))
    one_fixed_over true (HTyApp s) a t x o = of (is_symbol s (length (members a))) refl
      where
        of : (b : Bool) → is_symbol s (length (members a)) ≡ b → IsOver v true (cond b (One (HTyApp s) (fixed a)) int_type)
        of true q = (subst (λ (n : ℕ). IsTypeSymbol v s n) (sym (members_fixed a x)) (symbol_told s (length (members a)) q), o)
        of false q = int
    one_fixed_over true _ a t x o = absurd t
    one_fixed_over false _ a t x o = absurd t

    two_fixed_over : (k : Bool) (h : Head) → two_typed k h → two_over k h
    two_fixed_over false HCell t = tt
    two_fixed_over false _ t = absurd t
    two_fixed_over true _ t = absurd t

    pub fixed_over : (k : Bool) (e : Tree) → IsTypeOrTypes k e → IsOver v k (fixed e)
    fixed_over k (Leaf h) t = leaf_fixed_over k h t
    fixed_over k (One h a) t = one_fixed_over k h a t.0 t.1 (fixed_over false a t.1)
    fixed_over k (Two h a b) t = (two_fixed_over k h t.0, fixed_over true a t.1, fixed_over false b t.2)
    fixed_over k (Three h a b c) t = absurd t

  -- ---- it commutes with assignments
  module _ (r : ℕ) (f : ℕ → Tree) where
    abbrev after : ℕ → Tree
    after j = fixed (f j)

    leaf_commutes : (k : Bool) (h : Head) → leaf_over v k h → fixed (assign r f (Leaf h)) ≡ assign r after (Leaf h)
    leaf_commutes true (HTyVar j) o = of (nat_lt j r)
      where
        of : (b : Bool) → fixed (cond b (Variable j) (f j)) ≡ cond b (Variable j) (fixed (f j))
        of true = refl
        of false = refl
    leaf_commutes true (HTyRigid s) o = ap (λ (b : Bool). cond b (Leaf (HTyRigid s)) int_type) (rigid_passes s o)
    leaf_commutes false HEnd o = refl
    leaf_commutes true _ o = absurd o
    leaf_commutes false _ o = absurd o

    one_commutes : (k : Bool) (h : Head) (a : Tree) → one_over v k h (length (members a)) → IsOver v false a → fixed (assign r f a) ≡ assign r after a → fixed (assign r f (One h a)) ≡ assign r after (One h a)
    one_commutes true (HTyApp s) a o x q =
        ap (λ (n : ℕ). cond (is_symbol s n) (One (HTyApp s) (fixed (assign r f a))) int_type) (members_assigned v r f a x)
        ∙ ap (λ (b : Bool). cond b (One (HTyApp s) (fixed (assign r f a))) int_type) (symbol_passes s (length (members a)) o) ∙ ap (One (HTyApp s)) q
    one_commutes true _ a o x q = absurd o
    one_commutes false _ a o x q = absurd o

    pub fixed_assigned : (k : Bool) (e : Tree) → IsOver v k e → fixed (assign r f e) ≡ assign r after e
    fixed_assigned k (Leaf h) o = leaf_commutes k h o
    fixed_assigned k (One h a) o = one_commutes k h a o.0 o.1 (fixed_assigned false a o.1)
    fixed_assigned k (Two h a b) o = cc (fixed_assigned true a o.1, fixed_assigned false b o.2)
    fixed_assigned k (Three h a b c) o = absurd o

-- ---- without unknowns
-- where no unknown is in what is assigned, none is left
module _ (r : ℕ) (f : ℕ → Tree) (below : (j : ℕ) → VariablesBelow r (f j)) where
  leaf_closed : (h : Head) → VariablesBelow r (assign r f (Leaf h))
  leaf_closed (HTyVar j) = of (nat_lt j r) refl
    where
      of : (b : Bool) → nat_lt j r ≡ b → VariablesBelow r (cond b (Variable j) (f j))
      of true q = let l : j < r = grind arith in l
      of false q = below j
  leaf_closed _ = tt

  pub closed : (e : Tree) → VariablesBelow r (assign r f e)
  closed (Leaf h) = leaf_closed h
  closed (One h a) = closed a
  closed (Two h a b) = (closed a, closed b)
  closed (Three h a b c) = (closed a, closed b, closed c)
