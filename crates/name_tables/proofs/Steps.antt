-- What a walk gathers, step by step.
use Rattle.std.proofs.Common.{◌≡◌, ℕ, ◌<◌, Bool, true, false, cond, ◌||◌, nat_eq, if◌then◌else◌, List, [], ◌∷◌, ◌++◌, length, get_or, refl, sym, ap, subst, ◌∙◌, arith}
use Rattle.std.specs.List.{list_any}
use Rattle.std.proofs.lemmas.List.{append-nil}
use Rattle.std.proofs.lemmas.List.Elements.{All-nil}
use Rattle.std.proofs.lemmas.Bool.Decides.{nat_tests}
use Rattle.trees.specs.Tree.{Tree, Leaf, One, Two, Three, Head, HEnd}
use Rattle.name_tables.specs.Occurrences.{Occurrence, occurrence, in_type, occurrences, of_leaf}
use Rattle.name_tables.specs.Own.{own, inner}
use Rattle.name_tables.specs.Seen.{occurrence_at, seen_occurrences, has, with_one, with_all, AreIn, HasTypeArguments, KeyHeld, KeysHeld, IsSeen, Sees, TermsAreIn, IsWalk, WalksTerms, GainsKeys}
use Rattle.name_tables.proofs.Gathering.{in_later, added_in, with_all_there, with_all-append, in_joined, closed_one, types_of_there}

module _ (s : List Tree) where
  -- ---- sets of things
  pub gains_none : (keys : List (ℕ × ℕ)) → KeysHeld s keys → GainsKeys s keys [] keys
  gains_none keys h = record { held = h; is = refl }

  pub gains_then : (a b c : List (ℕ × ℕ)) (xs ys : List Occurrence) → GainsKeys s a xs b → GainsKeys s b ys c → GainsKeys s a (xs ++ ys) c
  gains_then a b c xs ys h k = record { held = k.held; is = k.is ∙ ap (λ z. with_all z ys) h.is ∙ sym (with_all-append (seen_occurrences s a) xs ys) }

  -- ---- what is seen
  pub seen_none : IsSeen s []
  seen_none = record { held = All-nil (KeyHeld s); closed = tt }

  pub sees_none : (keys : List (ℕ × ℕ)) → IsSeen s keys → Sees s keys [] keys
  sees_none keys h = record { seen = h; is = refl }

  pub sees_then : (a b c : List (ℕ × ℕ)) (xs ys : List Occurrence) → Sees s a xs b → Sees s b ys c → Sees s a (xs ++ ys) c
  sees_then a b c xs ys h k = record { seen = k.seen; is = k.is ∙ ap (λ z. with_all z ys) h.is ∙ sym (with_all-append (seen_occurrences s a) xs ys) }

  pub sees_in : (a b : List (ℕ × ℕ)) (xs : List Occurrence) → Sees s a xs b → AreIn (seen_occurrences s b) xs
  sees_in a b xs h = subst (λ z. AreIn z xs) (sym h.is) (added_in (seen_occurrences s a) xs)

  pub noted : (keys new : List (ℕ × ℕ)) (key : ℕ × ℕ) → IsSeen s keys → AreIn (seen_occurrences s keys) (in_type (occurrence_at s key).types) → GainsKeys s keys (occurrence_at s key ∷ []) new
      → Sees s keys (occurrence_at s key ∷ []) new
  noted keys new key h t g = record {
    seen = record { held = g.held; closed = subst HasTypeArguments (sym g.is) (closed_one (seen_occurrences s keys) (occurrence_at s key) h.closed t) };
    is = g.is;
  }

  -- a type that is there adds nothing
  pub type_there : (keys : List (ℕ × ℕ)) (k : ℕ) (args : Tree) → IsSeen s keys → has (seen_occurrences s keys) (occurrence k args) ≡ true → Sees s keys (in_type args ++ occurrence k args ∷ []) keys
  type_there keys k args h t =
      let os = seen_occurrences s keys in
      let there = in_joined os (in_type args) (occurrence k args ∷ []) (types_of_there os os (occurrence k args) h.closed t) (t, tt) in
      record { seen = h; is = sym (with_all_there os (in_type args ++ occurrence k args ∷ []) there) }

  -- ---- walks over terms
  done_later : (os ps : List Occurrence) (ids : List ℕ) → TermsAreIn s os ids → TermsAreIn s (with_all os ps) ids
  done_later os ps [] h = tt
  done_later os ps (id ∷ ids) h = (in_later os ps (occurrences (get_or s id (Leaf HEnd))) h.0, done_later os ps ids h.1)

  pub walks_none : (a : List (ℕ × ℕ)) (d : List ℕ) → IsWalk s a d → WalksTerms s a [] a d
  walks_none a d h = record { walk = h; is = refl }

  pub walks_then : (a b c : List (ℕ × ℕ)) (d e : List ℕ) (xs ys : List Occurrence) → WalksTerms s a xs b d → WalksTerms s b ys c e → WalksTerms s a (xs ++ ys) c e
  walks_then a b c d e xs ys h k = record { walk = k.walk; is = k.is ∙ ap (λ z. with_all z ys) h.is ∙ sym (with_all-append (seen_occurrences s a) xs ys) }

  pub walks_seen : (a b : List (ℕ × ℕ)) (d : List ℕ) (ps : List Occurrence) → IsWalk s a d → Sees s a ps b → WalksTerms s a ps b d
  walks_seen a b d ps h k = record { walk = record { seen = k.seen; done = subst (λ z. TermsAreIn s z d) (sym k.is) (done_later (seen_occurrences s a) ps d h.done) }; is = k.is }

  -- a term that was done adds nothing
  done_in : (os : List Occurrence) (ids : List ℕ) (id : ℕ) → TermsAreIn s os ids → list_any (nat_eq id) ids ≡ true → AreIn os (occurrences (get_or s id (Leaf HEnd)))
  done_in os [] id h e = absurd (cc)
  done_in os (j ∷ ids) id h e = elim (nat_eq id j) as (λ b. nat_eq id j ≡ b → (b || list_any (nat_eq id) ids) ≡ true → AreIn os (occurrences (get_or s id (Leaf HEnd)))) [
    | true ↦ λ q _. let same : j ≡ id = grind (arith, nat_tests) in subst (λ n. AreIn os (occurrences (get_or s n (Leaf HEnd)))) same h.0
    | false ↦ λ q more. done_in os ids id h.1 more
  ] refl e

  pub walks_done : (a : List (ℕ × ℕ)) (d : List ℕ) (id : ℕ) → IsWalk s a d → list_any (nat_eq id) d ≡ true → WalksTerms s a (occurrences (get_or s id (Leaf HEnd))) a d
  walks_done a d id h e =
      let os = seen_occurrences s a in
      record { walk = h; is = sym (with_all_there os (occurrences (get_or s id (Leaf HEnd))) (done_in os d id h.done e)) }

  done_push : (os : List Occurrence) (ids : List ℕ) (id : ℕ) → TermsAreIn s os ids → AreIn os (occurrences (get_or s id (Leaf HEnd))) → TermsAreIn s os (ids ++ id ∷ [])
  done_push os [] id h k = (k, tt)
  done_push os (j ∷ ids) id h k = (h.0, done_push os ids id h.1 k)

  -- and one more is done
  pub walks_marked : (a b : List (ℕ × ℕ)) (d e : List ℕ) (id : ℕ) → WalksTerms s a (occurrences (get_or s id (Leaf HEnd))) b d → e ≡ (if list_any (nat_eq id) d then d else d ++ id ∷ [])
      → WalksTerms s a (occurrences (get_or s id (Leaf HEnd))) b e
  walks_marked a b d e id h q = rw q (by (list_any (nat_eq id) d))
    where
      by : (c : Bool) → WalksTerms s a (occurrences (get_or s id (Leaf HEnd))) b (if c then d else d ++ id ∷ [])
      by true = h
      by false =
          let there : AreIn (seen_occurrences s b) (occurrences (get_or s id (Leaf HEnd))) = subst (λ z. AreIn z (occurrences (get_or s id (Leaf HEnd)))) (sym h.is) (added_in (seen_occurrences s a) (occurrences (get_or s id (Leaf HEnd)))) in
          record { walk = record { seen = h.walk.seen; done = done_push (seen_occurrences s b) d id h.walk.done there }; is = h.is }

  -- what a walk has seen
  pub walks_sees : (a b : List (ℕ × ℕ)) (d : List ℕ) (ps : List Occurrence) → WalksTerms s a ps b d → Sees s a ps b
  walks_sees a b d ps h = record { seen = h.walk.seen; is = h.is }

-- a term's own, and then its children's
pub parts_of_term : (e : Tree) → own e ++ inner e ≡ occurrences e
parts_of_term (Leaf h) = append-nil (of_leaf h)
parts_of_term (One h a) = refl
parts_of_term (Two h a b) = refl
parts_of_term (Three h a b c) = refl
