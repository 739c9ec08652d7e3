-- Ranks grow with those of the variables, and closed terms put in for variables of no lower rank don't raise them.
use Rattle.std.proofs.Common.{◌≡◌, ℕ, ◌+◌, ◌-◌, ◌<◌, ◌≤◌, List, length, get_or, ◌⊎◌, inl, inr, refl, sym, ap, subst, ◌∙◌, arith}
use Rattle.std.proofs.lemmas.Bool.{cases_lt}
use Rattle.trees.specs.declared.Sort.{Sort}
use Rattle.trees.specs.Tree.{Tree, Leaf, One, Two, Three, Head, HTyVar, HEnd, HCell, HBound, HParam, HFun, HLet, HCase, HArm, head_of, loose, one_loose, binders_over}
use Rattle.trees.specs.Binding.{change, leaf_by, one_by, instantiating_many, shift, AreClosed}
use Rattle.trees.specs.Sorts.{sort_of, top_sort, IsExpression}
use Rattle.trees.specs.laws.Indices.{ltb_true as lt_true, ltb_false as lt_false}
use Rattle.trees.specs.laws.Changes.{binders_over-change, one_loose_le}
use Rattle.trees.proofs.Laws.{shift_closed}
use Rattle.agreement.specs.Ranks.{ranks_put, zero_ranks, one_rank, passed, asked, bound_rank, three_rank, rank}
use Rattle.trees.proofs.Many.{many_below, many_at, many_above, cases_many, closed_terms, closed_at, puts_many}

-- ---- greater ranks of variables
pub put_inner : (m r : ℕ) (env : ℕ → ℕ) (i : ℕ) → i < m → ranks_put m r env i ≡ r
put_inner m r env i l = rw (lt_true i m l)

pub put_outer : (m r : ℕ) (env : ℕ → ℕ) (i : ℕ) → m ≤ i → ranks_put m r env i ≡ env (i - m)
put_outer m r env i l = rw (lt_false i m l)

abbrev pub Below : ℕ → (ℕ → ℕ) → (ℕ → ℕ) → Type 0
Below n env more = (i : ℕ) → i < n → env i ≤ more i

pub put_below : (n m k r s : ℕ) (env more : ℕ → ℕ) → k ≤ n + m → r ≤ s → Below n env more → Below k (ranks_put m r env) (ranks_put m s more)
put_below n m k r s env more kn rs b i l = by (cases_lt i m)
  where
    by : (i < m) ⊎ (m ≤ i) → ranks_put m r env i ≤ ranks_put m s more i
    by (inl u) = let p = put_inner m r env i u in let q = put_inner m s more i u in omega (arith, p, q, rs)
    by (inr u) = let p = put_outer m r env i u in let q = put_outer m s more i u in omega (arith, p, q, b (i - m) (omega (arith, l, kn, u)))

passed_more : (h : Head) (w v : ℕ) → w ≤ v → passed h w ≤ passed h v
passed_more HCell w v l = l
passed_more _ w v l = omega arith

asked_more : (h : Head) (n k w v : ℕ) → n ≤ k → w ≤ v → asked h n w ≤ asked h k v
asked_more HCase n k w v l m = l
asked_more HCell n k w v l m = m
asked_more _ n k w v l m = omega arith

bound_more : (h : Head) (n k w v : ℕ) → n ≤ k → w ≤ v → bound_rank h n w ≤ bound_rank h k v
bound_more HLet n k w v l m = l
bound_more HArm n k w v l m = m
bound_more _ n k w v l m = omega arith

one_more : (h : Head) (n a k : ℕ) (env more : ℕ → ℕ) → one_loose h k ≤ n → Below n env more → a ≤ a → (b : ℕ) → a ≤ b → one_rank h env a ≤ one_rank h more b
one_more (HBound i) n a k env more l e _ b ab = e i (omega (arith, l))
one_more (HParam m) n a k env more l e _ b ab = omega arith
one_more _ n a k env more l e _ b ab = ab

three_more : (h : Head) (a b c x y z : ℕ) → a ≤ x → b ≤ y → c ≤ z → three_rank h a b c ≤ three_rank h x y z
three_more (HFun f) a b c x y z p q r = q
three_more _ a b c x y z p q r = omega (arith, p, q, r)

pub rank_more : (e : Tree) (n w v : ℕ) (env more : ℕ → ℕ) → loose e ≤ n → Below n env more → w ≤ v → rank e env w ≤ rank e more v
rank_more (Leaf h) n w v env more l b wv = omega arith
rank_more (One h a) n w v env more l b wv = one_more h n (rank a env 0) (loose a) env more l b (omega arith) (rank a more 0) (rank_more a n 0 0 env more (one_loose_le h (loose a) n l) b (omega arith))
rank_more (Two h a c) n w v env more l b wv =
    let p = rank_more a n (passed h w) (passed h v) env more (omega (arith, l)) b (passed_more h w v wv) in
    let ra = rank a env (passed h w) in
    let sa = rank a more (passed h v) in
    let m = binders_over h a in
    let q = rank_more c (loose c) (asked h ra w) (asked h sa v) (ranks_put m (bound_rank h ra w) env) (ranks_put m (bound_rank h sa v) more) (omega arith) (put_below n m (loose c) (bound_rank h ra w) (bound_rank h sa v) env more (omega (arith, l)) (bound_more h ra sa w v p wv) b) (asked_more h ra sa w v p wv) in
    omega (arith, p, q)
rank_more (Three h a c e) n w v env more l b wv =
    three_more h (rank a env 0) (rank c env 0) (rank e env 0) (rank a more 0) (rank c more 0) (rank e more 0) (rank_more a n 0 0 env more (omega (arith, l)) b (omega arith)) (rank_more c n 0 0 env more (omega (arith, l)) b (omega arith)) (rank_more e n 0 0 env more (omega (arith, l)) b (omega arith))

-- no variables put in
pub rank_none : (e : Tree) (r w : ℕ) (env : ℕ → ℕ) → rank e (ranks_put 0 r env) w ≤ rank e env w
rank_none e r w env = rank_more e (loose e) w w (ranks_put 0 r env) env (omega arith) (λ i l. let p = put_outer 0 r env i (omega arith) in let q : env (i - 0) ≡ env i = ap env (omega arith) in omega (arith, p, q)) (omega arith)

-- what is no list and no branch has a rank of its own
no_list : (h : Head) (s : Sort) → IsExpression (top_sort h s) → (h ≡ HCell → ⊥) × (h ≡ HArm → ⊥)
no_list HEnd s k = (λ q. cc, λ q. cc)
no_list HCell s (inl e) = absurd (cc)
no_list HCell s (inr e) = absurd (cc)
no_list HArm s (inl e) = absurd (cc)
no_list HArm s (inr e) = absurd (cc)
no_list _ s k = (λ q. cc, λ q. cc)

own_rank : (e : Tree) (env : ℕ → ℕ) (w v : ℕ) → (head_of e ≡ HCell → ⊥) → (head_of e ≡ HArm → ⊥) → rank e env w ≡ rank e env v
own_rank (Leaf h) env w v p q = refl
own_rank (One h a) env w v p q = refl
own_rank (Two HCell a b) env w v p q = absurd (p refl)
own_rank (Two HArm a b) env w v p q = absurd (q refl)
own_rank (Two _ a b) env w v p q = refl
own_rank (Three h a b c) env w v p q = refl

pub expression_rank : (e : Tree) (env : ℕ → ℕ) (w v : ℕ) → IsExpression (sort_of e) → rank e env w ≡ rank e env v
expression_rank e env w v k = let n = no_list (head_of e) _ k in own_rank e env w v n.0 n.1

-- ---- closed terms put in
pub record Puts (ts : List Tree) (d : ℕ) (env more : ℕ → ℕ) : Type 0 where
  pub below : Below d env more
  pub at : (i k w : ℕ) (ty : Tree) → d ≤ i → i + k + 1 ≡ d + length ts → rank (get_or ts k ty) zero_ranks w ≤ more i
  pub above : (i : ℕ) → d + length ts ≤ i → env (i - length ts) ≤ more i

puts_under : (ts : List Tree) (d m k r s : ℕ) (env more : ℕ → ℕ) → k ≡ m → r ≤ s → Puts ts d env more → Puts ts (d + m) (ranks_put k r env) (ranks_put m s more)
puts_under ts d m k r s env more km rs p = record {
  below = λ i l. subst (λ (j : ℕ). ranks_put j r env i ≤ ranks_put m s more i) (sym km) (put_below d m (d + m) r s env more (omega arith) rs p.below i l);
  at = λ i j w ty l q. let e = put_outer m s more i (omega (arith, l)) in omega (arith, e, p.at (i - m) j w ty (omega (arith, l)) (omega (arith, q, l)));
  above = λ i l.
      let e = put_outer m s more i (omega (arith, l)) in
      let f = put_outer k r env (i - length ts) (omega (arith, l, km)) in
      let g : env (i - length ts - k) ≡ env (i - m - length ts) = ap env (omega (arith, km)) in
      omega (arith, e, f, g, p.above (i - m) (omega (arith, l)));
}

module _ (ts : List Tree) (c : AreClosed ts) where
  leaf_put : (h : Head) (env more : ℕ → ℕ) (w v : ℕ) → rank (leaf_by (instantiating_many ts) h) env w ≤ rank (Leaf h) more v
  leaf_put (HTyVar j) env more w v = omega arith
  leaf_put _ env more w v = omega arith

  bound_put : (d i w : ℕ) (x : Tree) (env more : ℕ → ℕ) → Puts ts d env more → rank ((instantiating_many ts).bound d i x) env w ≤ more i
  bound_put d i w x env more p = by (cases_many i d (length ts))
    where
      by : (i < d) ⊎ (((k : ℕ) × ((d ≤ i) × (i + k + 1 ≡ d + length ts))) ⊎ (d + length ts ≤ i)) → rank ((instantiating_many ts).bound d i x) env w ≤ more i
      by (inl l) = subst (λ (z : Tree). rank z env w ≤ more i) (sym (many_below ts d i x l)) (p.below i l)
      by (inr (inl (k, (l, q)))) =
          let n : loose (get_or ts k x) ≡ 0 = closed_at ts k x c (omega (arith, q, l)) in
          let e : shift (get_or ts k x) d 0 ≡ get_or ts k x = shift_closed (get_or ts k x) d 0 (omega (arith, n)) in
          subst (λ (z : Tree). rank z env w ≤ more i) (sym (many_at ts d i k x l q ∙ e)) (omega (arith, p.at i k w x l q, rank_more (get_or ts k x) 0 w w env zero_ranks (omega (arith, n)) (λ j m. absurd (omega (arith, m))) (omega arith)))
      by (inr (inr l)) = subst (λ (z : Tree). rank z env w ≤ more i) (sym (many_above ts d i x l)) (p.above i l)

  one_put : (d w v : ℕ) (h : Head) (x a : Tree) (env more : ℕ → ℕ) → Puts ts d env more → rank x env 0 ≤ rank a more 0 → rank (one_by (instantiating_many ts) d h x) env w ≤ rank (One h a) more v
  one_put d w v (HBound i) x a env more p q = bound_put d i w x env more p
  one_put d w v (HParam n) x a env more p q = omega arith
  one_put d w v _ x a env more p q = q

  pub rank_put : (e : Tree) (d w v : ℕ) (env more : ℕ → ℕ) → w ≤ v → Puts ts d env more → rank (change (instantiating_many ts) d e) env w ≤ rank e more v
  rank_put (Leaf h) d w v env more l p = leaf_put h env more w v
  rank_put (One h a) d w v env more l p = one_put d w v h (change (instantiating_many ts) d a) a env more p (rank_put a d 0 0 env more (omega arith) p)
  rank_put (Two h a b) d w v env more l p =
      let f = instantiating_many ts in
      let n : binders_over h (change f d a) ≡ binders_over h a = binders_over-change f (puts_many ts (closed_terms ts c)) d h a in
      let ra = rank (change f d a) env (passed h w) in
      let sa = rank a more (passed h v) in
      let x = rank_put a d (passed h w) (passed h v) env more (passed_more h w v l) p in
      let m = binders_over h a in
      let y = rank_put b (d + m) (asked h ra w) (asked h sa v) (ranks_put (binders_over h (change f d a)) (bound_rank h ra w) env) (ranks_put m (bound_rank h sa v) more) (asked_more h ra sa w v x l) (puts_under ts d m (binders_over h (change f d a)) (bound_rank h ra w) (bound_rank h sa v) env more n (bound_more h ra sa w v x l) p) in
      omega (arith, x, y)
  rank_put (Three h a b e) d w v env more l p =
      let f = instantiating_many ts in
      three_more h (rank (change f d a) env 0) (rank (change f d b) env 0) (rank (change f d e) env 0) (rank a more 0) (rank b more 0) (rank e more 0) (rank_put a d 0 0 env more (omega arith) p) (rank_put b d 0 0 env more (omega arith) p) (rank_put e d 0 0 env more (omega arith) p)
