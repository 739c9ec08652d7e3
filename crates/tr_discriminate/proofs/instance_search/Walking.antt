-- What a walk gathers, step by step.
use Rattle.std.proofs.Common.{◌≡◌, ℕ, Bool, true, false, ◌||◌, nat_eq, if◌then◌else◌, List, [], ◌∷◌, ◌++◌, get_or, refl, sym, ap, subst, ◌∙◌, arith}
use Rattle.std.specs.List.{list_any}
use Rattle.std.proofs.lemmas.List.{append-nil}
use Rattle.std.proofs.lemmas.Bool.Decides.{nat_tests}
use Rattle.trees.specs.Tree.{Tree, Leaf, One, Two, Three, HEnd}
use Rattle.name_tables.specs.Occurrences.{Occurrence}
use Rattle.name_tables.specs.Seen.{seen_occurrences, with_all, AreIn, GainsKeys}
use Rattle.name_tables.proofs.Gathering.{in_later, added_in, with_all_there, with_all-append}
use Rattle.tr_discriminate.specs.wanted_instances.Instances.{inner_instances, types_within}
use Rattle.tr_discriminate.specs.declared.instance_search.gathering.Sought.{Sought}
use Rattle.tr_discriminate.specs.declared.instance_search.gathering.Sought.TheVariants.{Instances, Types}
use Rattle.tr_discriminate.specs.instance_search.Gather.{gathered, before_parts, after_parts, in_parts, TreesAreIn, IsGathering, WalkGains}

module _ (s : List Tree) (w : Sought) where
  abbrev at : ℕ → List Occurrence
  at id = gathered w (get_or s id (Leaf HEnd))

  done_later : (os ps : List Occurrence) (ids : List ℕ) → TreesAreIn s w os ids → TreesAreIn s w (with_all os ps) ids
  done_later os ps [] h = tt
  done_later os ps (id ∷ ids) h = (in_later os ps (at id) h.0, done_later os ps ids h.1)

  pub walks_none : (a : List (ℕ × ℕ)) (d : List ℕ) → IsGathering s w a d → WalkGains s w a [] a d
  walks_none a d h = record { walk = h; is = refl }

  pub walks_then : (a b c : List (ℕ × ℕ)) (d e : List ℕ) (xs ys : List Occurrence) → WalkGains s w a xs b d → WalkGains s w b ys c e → WalkGains s w a (xs ++ ys) c e
  walks_then a b c d e xs ys h k = record { walk = k.walk; is = k.is ∙ ap (λ z. with_all z ys) h.is ∙ sym (with_all-append (seen_occurrences s a) xs ys) }

  pub walks_gained : (a b : List (ℕ × ℕ)) (d : List ℕ) (ps : List Occurrence) → IsGathering s w a d → GainsKeys s a ps b → WalkGains s w a ps b d
  walks_gained a b d ps h k = record { walk = record { held = k.held; done = subst (λ z. TreesAreIn s w z d) (sym k.is) (done_later (seen_occurrences s a) ps d h.done) }; is = k.is }

  -- a tree that was done adds nothing
  done_in : (os : List Occurrence) (ids : List ℕ) (id : ℕ) → TreesAreIn s w os ids → list_any (nat_eq id) ids ≡ true → AreIn os (at id)
  done_in os [] id h e = absurd (cc)
  done_in os (j ∷ ids) id h e = elim (nat_eq id j) as (λ b. nat_eq id j ≡ b → (b || list_any (nat_eq id) ids) ≡ true → AreIn os (at id)) [
    | true ↦ λ q _. let same : j ≡ id = grind (arith, nat_tests) in subst (λ n. AreIn os (at n)) same h.0
    | false ↦ λ q more. done_in os ids id h.1 more
  ] refl e

  pub walks_done : (a : List (ℕ × ℕ)) (d : List ℕ) (id : ℕ) → IsGathering s w a d → list_any (nat_eq id) d ≡ true → WalkGains s w a (at id) a d
  walks_done a d id h e =
      let os = seen_occurrences s a in
      record { walk = h; is = sym (with_all_there os (at id) (done_in os d id h.done e)) }

  done_push : (os : List Occurrence) (ids : List ℕ) (id : ℕ) → TreesAreIn s w os ids → AreIn os (at id) → TreesAreIn s w os (ids ++ id ∷ [])
  done_push os [] id h k = (k, tt)
  done_push os (j ∷ ids) id h k = (h.0, done_push os ids id h.1 k)

  -- and one more is done
  pub walks_marked : (a b : List (ℕ × ℕ)) (d e : List ℕ) (id : ℕ) → WalkGains s w a (at id) b d → e ≡ (if list_any (nat_eq id) d then d else d ++ id ∷ []) → WalkGains s w a (at id) b e
  walks_marked a b d e id h q = rw q (by (list_any (nat_eq id) d))
    where
      by : (c : Bool) → WalkGains s w a (at id) b (if c then d else d ++ id ∷ [])
      by true = h
      by false =
          let there : AreIn (seen_occurrences s b) (at id) = subst (λ z. AreIn z (at id)) (sym h.is) (added_in (seen_occurrences s a) (at id)) in
          record { walk = record { held = h.walk.held; done = done_push (seen_occurrences s b) d id h.walk.done there }; is = h.is }

-- what is before the children, in them, and after them
pub parts_of_tree : (w : Sought) (e : Tree) → before_parts w e ++ (in_parts w e ++ after_parts w e) ≡ gathered w e
parts_of_tree Instances (Leaf h) = refl
parts_of_tree Instances (One h a) = append-nil (inner_instances a)
parts_of_tree Instances (Two h a b) = ap (λ z. before_parts Instances (Two h a b) ++ z) (append-nil (inner_instances a ++ inner_instances b))
parts_of_tree Instances (Three h a b c) = ap (λ z. before_parts Instances (Three h a b c) ++ z) (append-nil (inner_instances a ++ (inner_instances b ++ inner_instances c)))
parts_of_tree Types (Leaf h) = refl
parts_of_tree Types (One h a) = refl
parts_of_tree Types (Two h a b) = append-nil (types_within a ++ types_within b)
parts_of_tree Types (Three h a b c) = append-nil (types_within a ++ (types_within b ++ types_within c))
