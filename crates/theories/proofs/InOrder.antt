-- What the own declarations of a theory keep stands in order and once, so that what one of them makes becomes numbers one after another.
use Rattle.std.proofs.Common.{◌≡◌, ◌⊎◌, inl, inr, ℕ, ◌+◌, if◌then◌else◌, zero, suc, Bool, true, false, List, [], ◌∷◌, ◌++◌, map, length, slice_get, Contains, Some, option_to_list, refl, sym, ap, subst, ◌∙◌, arith, length-append, append_assoc, append-nil}
use Rattle.tasks.specs.Task.{DeclarationTree, made, made_by}
use Rattle.theory_states.specs.States.{KnownTree, at_places}
use Rattle.elaboration_laws.specs.Steps.{AreConsecutive}
use Rattle.elaboration_laws.specs.clones.clone_elements.Left.{Origin, decl_or}
use Rattle.elaboration_laws.specs.clones.clone_elements.Replacements.{PlacedEffects, is_replaced, kept_at, kept_of}
use Rattle.elaboration_laws.specs.clones.clone_copies.Origins.{is_own, own_among, origin_of}
use Rattle.elaboration_laws.proofs.Distinct.{IsDistinct, distinct_both}
use Rattle.elaboration_laws.proofs.TupleDecls.{made_both}
use Rattle.elaboration_laws.proofs.Places.{none_here, cases_of, here}
use Rattle.elaboration_laws.proofs.Numbers.{later}
use Rattle.elaboration_laws.proofs.Joined.{distinct_last as back_distinct, distinct_apart as apart_from}
use Rattle.theories.proofs.Numbers.{IsAt, contained}
use Rattle.theories.proofs.Owned.{kept_in, own_in, in_made}
use Rattle.elaboration_laws.proofs.Grown.{front_distinct as front}

-- ---- places of lists without repetition
one_at : (ks : List ℕ) → IsDistinct ks → (i j k : ℕ) → slice_get ks i ≡ Some k → slice_get ks j ≡ Some k → i ≡ j
one_at [] d i j k a b = absurd (cc (a))
one_at (x ∷ ks) d zero zero k a b = refl
one_at (x ∷ ks) d zero (suc j) k a b = let e : x ≡ k = cc (a) in absurd (d.0 (subst (Contains ks) (sym e) (contained ks j k b)))
one_at (x ∷ ks) d (suc i) zero k a b = let e : x ≡ k = cc (b) in absurd (d.0 (subst (Contains ks) (sym e) (contained ks i k a)))
one_at (x ∷ ks) d (suc i) (suc j) k a b = ap suc (one_at ks d.1 i j k a b)

after_front : (xs ys : List ℕ) → slice_get (xs ++ ys) (length xs) ≡ slice_get ys 0
after_front [] ys = refl
after_front (x ∷ xs) ys = after_front xs ys

-- what stands one after another becomes what is numbered so
pub in_order : (n : ℕ) (m : ℕ → ℕ) (whole before js after : List ℕ) (first : ℕ) → IsDistinct whole → whole ≡ before ++ (js ++ after) → first ≡ n + length before → ((k : ℕ) → Contains js k → IsAt n whole k (m k)) → AreConsecutive first (map m js)
in_order n m whole before [] after first d e f h = tt
in_order n m whole before (k ∷ js) after first d e f h =
    let a = h k (here k js) in
    let there : slice_get whole (length before) ≡ Some k = ap (λ (xs : List ℕ). slice_get xs (length before)) e ∙ after_front before (k ∷ (js ++ after)) in
    let same : a.place ≡ length before = one_at whole d a.place (length before) k a.at there in
    let is = a.is in
    let longer = length-append before (k ∷ []) in (
      omega (arith, is, same, f),
      in_order n m whole (before ++ k ∷ []) js after (suc first) d (e ∙ sym (append_assoc before (k ∷ []) (js ++ after))) (omega (arith, f, longer)) (λ i c. h i (later k i js c)),
    )

-- ---- what is kept of one place
pub record IsBlock (o : Origin) (effects : PlacedEffects) (ks : List ℕ) (p : ℕ) : Type 0 where
  pub before : List ℕ
  pub after : List ℕ
  pub is : kept_of o effects ks ≡ before ++ (made_by (decl_or o.decls p).body ++ after)

module _ (o : Origin) (effects : PlacedEffects) where
  pub block : (ks : List ℕ) (p : ℕ) → Contains ks p → is_replaced (effects p) ≡ false → IsBlock o effects ks p
  block [] p c q = absurd (none_here p c)
  block (j ∷ ks) p c q = of (cases_of j p ks c) (λ z. block ks p z q)
    where
      here_kept : kept_at o effects p ≡ made_by (decl_or o.decls p).body
      here_kept = ap (λ (b : Bool). if b then [] else made_by (decl_or o.decls p).body) q

      of : (j ≡ p) ⊎ Contains ks p → (Contains ks p → IsBlock o effects ks p) → IsBlock o effects (j ∷ ks) p
      of (inl e) f = record {
        before = [];
        after = kept_of o effects ks;
        is = ap (λ (xs : List ℕ). xs ++ kept_of o effects ks) (ap (kept_at o effects) e ∙ here_kept);
      }
      of (inr z) f = let r = f z in record {
        before = kept_at o effects j ++ r.before;
        after = r.after;
        is = ap (λ (xs : List ℕ). kept_at o effects j ++ xs) r.is ∙ sym (append_assoc (kept_at o effects j) r.before (made_by (decl_or o.decls p).body ++ r.after));
      }

-- ---- what is kept is made once
made_at : (ds : List DeclarationTree) (j : ℕ) → made (option_to_list (slice_get ds j)) ≡ made_by (decl_or ds j).body
made_at [] j = refl
made_at (d ∷ ds) zero = append-nil (made_by d.body)
made_at (d ∷ ds) (suc j) = made_at ds j

module _ (ds : List DeclarationTree) (t : KnownTree) (effects : PlacedEffects) where
  abbrev Kept : List ℕ → List ℕ
  Kept ks = kept_of (origin_of ds t) effects (own_among ds t.path ks)

  pub kept_once : (ks : List ℕ) → IsDistinct (made (at_places ds ks)) → IsDistinct (kept_of (origin_of ds t) effects (own_among ds t.path ks))
  kept_once [] h = tt
  kept_once (j ∷ ks) h = of (is_own ds t.path j) (is_replaced (effects j)) refl (kept_once ks (back_distinct (made one) (made (at_places ds ks)) split))
    where
      one : List DeclarationTree
      one = option_to_list (slice_get ds j)

      split : IsDistinct (made one ++ made (at_places ds ks))
      split = subst IsDistinct (made_both one (at_places ds ks)) h

      own : IsDistinct (made_by (decl_or ds j).body)
      own = subst IsDistinct (made_at ds j) (front (made one) (made (at_places ds ks)) split)

      apart : (k : ℕ) → Contains (made_by (decl_or ds j).body) k → Contains (Kept ks) k → ⊥
      apart k a b =
          let x = kept_in (origin_of ds t) effects (own_among ds t.path ks) k b in
          apart_from (made one) (made (at_places ds ks)) k split (subst (λ (xs : List ℕ). Contains xs k) (sym (made_at ds j)) a) (in_made ds ks x.place k (own_in ds t.path ks x.place x.among).0 x.makes)

      of : (b r : Bool) → is_replaced (effects j) ≡ r → IsDistinct (Kept ks) → IsDistinct (kept_of (origin_of ds t) effects ((if b then j ∷ [] else []) ++ own_among ds t.path ks))
      of false r z g = g
      of true true z g = subst (λ (b : Bool). IsDistinct ((if b then [] else made_by (decl_or ds j).body) ++ Kept ks)) (sym z) g
      of true false z g = subst (λ (b : Bool). IsDistinct ((if b then [] else made_by (decl_or ds j).body) ++ Kept ks)) (sym z) (distinct_both (made_by (decl_or ds j).body) (Kept ks) own g apart)
