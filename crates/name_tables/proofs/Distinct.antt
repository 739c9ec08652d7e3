-- Gathering one by one is the list without repeats.
use Rattle.std.proofs.Common.{◌≡◌, Bool, true, false, cond, not, ◌&&◌, ◌||◌, if◌then◌else◌, List, [], ◌∷◌, ◌++◌, filter, refl, sym, ap, subst, ◌∙◌}
use Rattle.std.proofs.lemmas.List.{append-nil, append_assoc}
use Rattle.std.proofs.lemmas.List.Elements.{filter-append, filter_agree}
use Rattle.std.specs.List.{flat_map}
use Rattle.name_tables.specs.Occurrences.{Occurrence}
use Rattle.name_tables.specs.Tables.{is_same, distinct}
use Rattle.name_tables.specs.Seen.{has, with_one, with_all}
use Rattle.name_tables.proofs.Gathering.{same_occurrence, same_itself, has_push, with_one_there, with_one_new, with_all-append}

-- whether one isn't there
abbrev pub is_new : List Occurrence → Occurrence → Bool
is_new os o = not (has os o)

abbrev other : Occurrence → Occurrence → Bool
other p o = not (is_same p o)

same_symmetric : (o p : Occurrence) → is_same o p ≡ is_same p o
same_symmetric o p = elim (is_same o p) as (λ b. is_same o p ≡ b → b ≡ is_same p o) [
  | true ↦ λ e. sym (subst (λ (z : Occurrence). is_same z o ≡ true) (same_occurrence o p e) (same_itself o))
  | false ↦ λ e. elim (is_same p o) as (λ b. is_same p o ≡ b → false ≡ b) [
    | true ↦ λ f. sym e ∙ subst (λ (z : Occurrence). is_same z p ≡ true) (same_occurrence p o f) (same_itself p)
    | false ↦ λ f. refl
  ] refl
] refl

-- two filters in turn
filter_both : (p q : Occurrence → Bool) (xs : List Occurrence) → filter p (filter q xs) ≡ filter (λ x. p x && q x) xs
filter_both p q [] = refl
filter_both p q (x ∷ xs) =
    let ih = filter_both p q xs in
    let F : List Occurrence = filter p (filter q xs) in
    let G : List Occurrence = filter (λ y. p y && q y) xs in
    elim (q x) as (λ b. filter p (cond b (x ∷ filter q xs) (filter q xs)) ≡ cond (p x && b) (x ∷ G) G) [
      | true ↦ elim (p x) as (λ c. cond c (x ∷ F) F ≡ cond (c && true) (x ∷ G) G) [ true ↦ ap (λ z. x ∷ z) ih | false ↦ ih ]
      | false ↦ elim (p x) as (λ c. F ≡ cond (c && false) (x ∷ G) G) [ true ↦ ih | false ↦ ih ]
    ]

filter_all : (p : Occurrence → Bool) → ((x : Occurrence) → p x ≡ true) → (xs : List Occurrence) → filter p xs ≡ xs
filter_all p h [] = refl
filter_all p h (x ∷ xs) = ap (λ b. cond b (x ∷ filter p xs) (filter p xs)) (h x) ∙ ap (λ z. x ∷ z) (filter_all p h xs)

-- what isn't there is another one than what is
new_is_other : (os : List Occurrence) (x : Occurrence) → has os x ≡ true → (y : Occurrence) → is_new os y ≡ (is_new os y && other x y)
new_is_other os x h y = elim (is_same x y) as (λ b. is_same x y ≡ b → is_new os y ≡ (is_new os y && not b)) [
  | true ↦ λ e.
      let there : has os y ≡ true = subst (λ (z : Occurrence). has os z ≡ true) (same_occurrence x y e) h in
      rw there refl
  | false ↦ λ e. elim (is_new os y) as (λ b. b ≡ (b && true)) [ true ↦ refl | false ↦ refl ]
] refl

not_either : (a b : Bool) → not (a || b) ≡ (not a && not b)
not_either true b = refl
not_either false b = refl

new_by_one : (os : List Occurrence) (x y : Occurrence) → is_new (os ++ x ∷ []) y ≡ (is_new os y && other x y)
new_by_one os x y = ap not (has_push os x y ∙ ap (λ b. has os y || b) (same_symmetric y x)) ∙ not_either (has os y) (is_same x y)

pub gathered : (os xs : List Occurrence) → with_all os xs ≡ os ++ filter (is_new os) (distinct xs)
gathered os [] = sym (append-nil os)
gathered os (x ∷ xs) =
    let D = distinct xs in
    let F : List Occurrence = filter (is_new os) (filter (other x) D) in
    elim (has os x) as (λ b. has os x ≡ b → with_all (with_one os x) xs ≡ os ++ cond (not b) (x ∷ F) F) [
      | true ↦ λ h.
          let same : filter (is_new os) D ≡ F = filter_agree (is_new os) (λ y. is_new os y && other x y) (new_is_other os x h) D ∙ sym (filter_both (is_new os) (other x) D) in
          ap (λ z. with_all z xs) (with_one_there os x h) ∙ gathered os xs ∙ ap (λ z. os ++ z) same
      | false ↦ λ h.
          let same : filter (is_new (os ++ x ∷ [])) D ≡ F = filter_agree (is_new (os ++ x ∷ [])) (λ y. is_new os y && other x y) (new_by_one os x) D ∙ sym (filter_both (is_new os) (other x) D) in
          ap (λ z. with_all z xs) (with_one_new os x h) ∙ gathered (os ++ x ∷ []) xs ∙ append_assoc os (x ∷ []) (filter (is_new (os ++ x ∷ [])) D) ∙ ap (λ z. os ++ x ∷ z) same
    ] refl

pub distinct_is : (xs : List Occurrence) → with_all [] xs ≡ distinct xs
distinct_is xs = gathered [] xs ∙ filter_all (is_new []) (λ _. refl) (distinct xs)
