-- Occurrences as they are gathered, each once.
use Rattle.std.proofs.Common.{◌≡◌, Bool, true, false, ◌||◌, ◌==◌, if◌then◌else◌, List, [], ◌∷◌, ◌++◌, refl, sym, ap, subst, ◌∙◌}
use Rattle.std.specs.List.{list_any}
use Rattle.std.proofs.lemmas.List.Folds.{list_any-append}
use Rattle.std.proofs.lemmas.Bool.Decides.{Decides-eqb}
use Rattle.linear_leaf.specs.Valuations.{same_tree}
use Rattle.linear_leaf.proofs.SameTree.{same_is, same_refl}
use Rattle.name_tables.specs.Occurrences.{Occurrence, occurrence, in_type}
use Rattle.name_tables.specs.Tables.{is_same}
use Rattle.name_tables.specs.Seen.{has, with_one, with_all, AreIn, TypesAreIn, HasTypeArguments}
use Rattle.std.proofs.lemmas.Bool.{or_left, or_right}
use Rattle.tasks.proofs.plain_laws.Bools.{and_first as and_left, and_second as and_right}

-- the test tells whether two are equal
pub same_occurrence : (o p : Occurrence) → is_same o p ≡ true → o ≡ p
same_occurrence o p h =
    let k = (Decides-eqb o.symbol p.symbol).0 (and_left (o.symbol == p.symbol) (same_tree o.types p.types) h) in
    let t = same_is o.types p.types (and_right (o.symbol == p.symbol) (same_tree o.types p.types) h) in
    (λ i. occurrence (k i) (t i))

pub same_itself : (o : Occurrence) → is_same o o ≡ true
same_itself o = let k = (Decides-eqb o.symbol o.symbol).1 refl in let t = same_refl o.types in rw (k, t) refl

pub or_none : (a : Bool) → (a || false) ≡ a
or_none true = refl
or_none false = refl

pub has_push : (os : List Occurrence) (p o : Occurrence) → has (os ++ p ∷ []) o ≡ (has os o || is_same o p)
has_push os p o = list_any-append (is_same o) os (p ∷ []) ∙ ap (λ b. has os o || b) (or_none (is_same o p))

-- one that is there adds nothing
pub with_one_there : (os : List Occurrence) (p : Occurrence) → has os p ≡ true → with_one os p ≡ os
with_one_there os p h = ap (λ b. if b then os else os ++ p ∷ []) h

pub with_one_new : (os : List Occurrence) (p : Occurrence) → has os p ≡ false → with_one os p ≡ os ++ p ∷ []
with_one_new os p h = ap (λ b. if b then os else os ++ p ∷ []) h

-- what was there stays
has_more : (os : List Occurrence) (p o : Occurrence) → has os o ≡ true → has (with_one os p) o ≡ true
has_more os p o h = elim (has os p) as (λ b. has (if b then os else os ++ p ∷ []) o ≡ true) [
  | true ↦ h
  | false ↦ has_push os p o ∙ or_left (has os o) (is_same o p) h
]

-- and the new one is there
has_added : (os : List Occurrence) (p : Occurrence) → has (with_one os p) p ≡ true
has_added os p = elim (has os p) as (λ b. has os p ≡ b → has (if b then os else os ++ p ∷ []) p ≡ true) [
  | true ↦ λ e. e
  | false ↦ λ e. has_push os p p ∙ or_right (has os p) (is_same p p) (same_itself p)
] refl

pub has_later : (os ps : List Occurrence) (o : Occurrence) → has os o ≡ true → has (with_all os ps) o ≡ true
has_later os [] o h = h
has_later os (p ∷ ps) o h = has_later (with_one os p) ps o (has_more os p o h)

pub in_later : (os ps qs : List Occurrence) → AreIn os qs → AreIn (with_all os ps) qs
in_later os ps [] h = tt
in_later os ps (q ∷ qs) h = (has_later os ps q h.0, in_later os ps qs h.1)

pub added_in : (os ps : List Occurrence) → AreIn (with_all os ps) ps
added_in os [] = tt
added_in os (p ∷ ps) = (has_later (with_one os p) ps p (has_added os p), added_in (with_one os p) ps)

pub with_all_there : (os ps : List Occurrence) → AreIn os ps → with_all os ps ≡ os
with_all_there os [] h = refl
with_all_there os (p ∷ ps) h = ap (λ z. with_all z ps) (with_one_there os p h.0) ∙ with_all_there os ps h.1

pub with_all-append : (os xs ys : List Occurrence) → with_all os (xs ++ ys) ≡ with_all (with_all os xs) ys
with_all-append os [] ys = refl
with_all-append os (x ∷ xs) ys = with_all-append (with_one os x) xs ys

pub in_joined : (os xs ys : List Occurrence) → AreIn os xs → AreIn os ys → AreIn os (xs ++ ys)
in_joined os [] ys h k = k
in_joined os (x ∷ xs) ys h k = (h.0, in_joined os xs ys h.1 k)

-- type arguments that are there stay there
types_later : (os ps qs : List Occurrence) → TypesAreIn os qs → TypesAreIn (with_all os ps) qs
types_later os ps [] h = tt
types_later os ps (q ∷ qs) h = (in_later os ps (in_type q.types) h.0, types_later os ps qs h.1)

types_joined : (os xs ys : List Occurrence) → TypesAreIn os xs → TypesAreIn os ys → TypesAreIn os (xs ++ ys)
types_joined os [] ys h k = k
types_joined os (x ∷ xs) ys h k = (h.0, types_joined os xs ys h.1 k)

pub closed_one : (os : List Occurrence) (p : Occurrence) → HasTypeArguments os → AreIn os (in_type p.types) → HasTypeArguments (with_one os p)
closed_one os p h k = elim (has os p) as (λ b. with_one os p ≡ (if b then os else os ++ p ∷ []) → HasTypeArguments (if b then os else os ++ p ∷ [])) [
  | true ↦ λ e. h
  | false ↦ λ e.
      let more : (qs : List Occurrence) → TypesAreIn os qs → TypesAreIn (os ++ p ∷ []) qs = λ qs t. subst (λ z. TypesAreIn z qs) e (types_later os (p ∷ []) qs t) in
      let last : AreIn (os ++ p ∷ []) (in_type p.types) = subst (λ z. AreIn z (in_type p.types)) e (in_later os (p ∷ []) (in_type p.types) k) in
      types_joined (os ++ p ∷ []) os (p ∷ []) (more os h) (last, tt)
] refl

-- the type arguments of one that is there
pub types_of_there : (os qs : List Occurrence) (o : Occurrence) → TypesAreIn os qs → has qs o ≡ true → AreIn os (in_type o.types)
types_of_there os [] o t h = absurd (cc)
types_of_there os (q ∷ qs) o t h = elim (is_same o q) as (λ b. is_same o q ≡ b → (b || has qs o) ≡ true → AreIn os (in_type o.types)) [
  | true ↦ λ e _. subst (λ (z : Occurrence). AreIn os (in_type z.types)) (sym (same_occurrence o q e)) t.0
  | false ↦ λ e more. types_of_there os qs o t.1 more
] refl h
