-- The types that are found one by one are those of the least set.
use Rattle.std.proofs.Common.{◌≡◌, ◌↔◌, inl, inr, ℕ, ◌+◌, ◌<◌, ◌≤◌, Bool, true, false, IsTrue, List, [], ◌∷◌, ◌++◌, All, Contains, refl, sym, subst, arith}
use Rattle.std.proofs.lemmas.List.Elements.{All-push, All-contains, Contains-append_left, Contains-push}
use Rattle.trees.specs.Tree.{Tree, One, HTyApp}
use Rattle.tasks.specs.Task.{ConstructorTree, AlgebraicTree}
use Rattle.tasks.proofs.Declared.{any_iff}
use Rattle.checks.specs.decl_checks.Values.{type_symbols, HasValue, HaveValues, SomeHasValues, IsClosedOver, IsClosed, AreInhabited, is_member, NextValued}

-- ---- a larger set gives no fewer values
module _ (group : List ℕ) (small large : ℕ → Bool) (within : (k : ℕ) → IsTrue (small k) → IsTrue (large k)) where
  value_more : (t : Tree) → HasValue group small t → HasValue group large t
  value_more (One (HTyApp k) a) h = λ c. within k (h c)
  value_more _ h = tt

  values_more : (ts : List Tree) → HaveValues group small ts → HaveValues group large ts
  values_more [] h = tt
  values_more (t ∷ ts) h = (value_more t h.0, values_more ts h.1)

  some_more : (cs : List ConstructorTree) → SomeHasValues group small cs → SomeHasValues group large cs
  some_more [] h = h
  some_more (c ∷ cs) (inl h) = inl (values_more c.fields h)
  some_more (c ∷ cs) (inr h) = inr (some_more cs h)

known_within : (known : List ℕ) (set : ℕ → Bool) → All (λ k. IsTrue (set k)) known → (k : ℕ) → IsTrue (is_member known k) → IsTrue (set k)
known_within known set a k h = All-contains (λ j. IsTrue (set j)) known k a ((any_iff k known).0 h)

next_in : (group known : List ℕ) (ts : List AlgebraicTree) (set : ℕ → Bool) (k : ℕ) → All (λ j. IsTrue (set j)) known → IsClosedOver group ts set → NextValued group known ts k → IsTrue (set k)
next_in group known [] set k a c n = absurd n
next_in group known (t ∷ ts) set k a c (inl n) = subst (λ j. IsTrue (set j)) n.0 (c.0 (some_more group (is_member known) set (known_within known set a) t.cons n.1))
next_in group known (t ∷ ts) set k a c (inr n) = next_in group known ts set k a c.1 n

-- ---- the known types are of the least set
pub record AreKnown (ts : List AlgebraicTree) (known : List ℕ) : Type 0 where
  pub each : (set : ℕ → Bool) → IsClosed ts set → All (λ k. IsTrue (set k)) known

pub none_known : (ts : List AlgebraicTree) → AreKnown ts []
none_known ts = record { each = λ set c k d l. absurd (omega arith) }

pub more_known : (ts : List AlgebraicTree) (known : List ℕ) (k : ℕ) → AreKnown ts known → NextValued (type_symbols ts) known ts k → AreKnown ts (known ++ k ∷ [])
more_known ts known k a n = record {
  each = λ set c. All-push (λ j. IsTrue (set j)) known k (a.each set c) (next_in (type_symbols ts) known ts set k (a.each set c) c n);
}

-- ---- where nothing more is found, they are all of it
pub all_known : (ts : List AlgebraicTree) (known : List ℕ) → AreKnown ts known → All (Contains known) (type_symbols ts) → AreInhabited ts
all_known ts known a h = λ j d l set c. known_within known set (a.each set c) _ ((any_iff _ known).1 (h j d l))

pub known_all : (ts : List AlgebraicTree) (known : List ℕ) → IsClosed ts (is_member known) → AreInhabited ts → All (Contains known) (type_symbols ts)
known_all ts known c h = λ j d l. (any_iff _ known).0 (h j d l (is_member known) c)

-- ---- each round leaves fewer that are not known
abbrev pub one_left : Bool → ℕ
one_left true = 0
one_left false = 1

abbrev pub left_out : List ℕ → List AlgebraicTree → ℕ
left_out known [] = 0
left_out known (a ∷ ts) = one_left (is_member known a.symbol) + left_out known ts

left_less : (b c : Bool) → (IsTrue b → IsTrue c) → one_left c ≤ one_left b
left_less true true h = omega arith
left_less true false h = absurd (let e = h refl in cc)
left_less false true h = omega arith
left_less false false h = omega arith

pushed_in : (known : List ℕ) (k j : ℕ) → IsTrue (is_member known j) → IsTrue (is_member (known ++ k ∷ []) j)
pushed_in known k j h = (any_iff j (known ++ k ∷ [])).1 (Contains-append_left known (k ∷ []) j ((any_iff j known).0 h))

left_no_more : (known : List ℕ) (k : ℕ) (ts : List AlgebraicTree) → left_out (known ++ k ∷ []) ts ≤ left_out known ts
left_no_more known k [] = omega arith
left_no_more known k (a ∷ ts) = omega (arith, left_less (is_member known a.symbol) (is_member (known ++ k ∷ []) a.symbol) (pushed_in known k a.symbol), left_no_more known k ts)

drops : (b c : Bool) → (IsTrue b → ⊥) → IsTrue c → one_left c + 1 ≤ one_left b
drops true c n h = absurd (n refl)
drops false true n h = omega arith
drops false false n h = absurd (cc)

pub left_smaller : (group known : List ℕ) (ts : List AlgebraicTree) (k : ℕ) → NextValued group known ts k → left_out (known ++ k ∷ []) ts < left_out known ts
left_smaller group known [] k n = absurd n
left_smaller group known (a ∷ ts) k (inl n) =
    let out : IsTrue (is_member known a.symbol) → ⊥ = λ h. n.2 (subst (Contains known) n.0 ((any_iff a.symbol known).0 h)) in
    let here : IsTrue (is_member (known ++ k ∷ []) a.symbol) = (any_iff a.symbol (known ++ k ∷ [])).1 (subst (Contains (known ++ k ∷ [])) (sym n.0) (Contains-push known k)) in
    omega (arith, drops (is_member known a.symbol) (is_member (known ++ k ∷ []) a.symbol) out here, left_no_more known k ts)
left_smaller group known (a ∷ ts) k (inr n) =
    omega (arith, left_less (is_member known a.symbol) (is_member (known ++ k ∷ []) a.symbol) (pushed_in known k a.symbol), left_smaller group known ts k n)

-- ---- the same over lists in code
pub valued : (g h known more : List ℕ) (ts : List AlgebraicTree) (k : ℕ) → g ≡ h → known ≡ more → NextValued g known ts k → NextValued h more ts k
valued g h known more ts k p q n = subst (λ x. NextValued x more ts k) p (subst (λ x. NextValued g x ts k) q n)

pub saturated_iff : (ts : List AlgebraicTree) (known g k1 h k2 : List ℕ) (b : Bool) → g ≡ type_symbols ts → k1 ≡ known → h ≡ type_symbols ts → k2 ≡ known
    → AreKnown ts known → IsClosedOver g ts (is_member k1) → (IsTrue b ↔ All (Contains k2) h) → IsTrue b ↔ AreInhabited ts
saturated_iff ts known g k1 h k2 b eg e1 eh e2 a c i =
    let closed = subst (λ x. IsClosedOver x ts (is_member known)) eg (subst (λ x. IsClosedOver g ts (is_member x)) e1 c) in
    let found = subst (λ x. IsTrue b ↔ All (Contains known) x) eh (subst (λ x. IsTrue b ↔ All (Contains x) h) e2 i) in
    (λ t. all_known ts known a (found.0 t), λ n. found.1 (known_all ts known closed n))
