-- A bare symbol is found by the places of all that are bare.
use Rattle.std.proofs.Common.{◌≡◌, ℕ, ◌+◌, ◌<◌, suc, Bool, true, false, ◌&&◌, ◌||◌, if◌then◌else◌, List, [], ◌∷◌, ◌++◌, map, length, get_or, drop, All, Option, Some, None, Result, Ok, Err, IfOk, refl, sym, ap, subst, ◌∙◌, arith}
use Rattle.std.proofs.lemmas.List.{get_or-map, length-map, drop_more}
use Rattle.std.proofs.lemmas.List.Elements.{All-nil, All-cons, All-weaker}
use Rattle.trees.specs.Tree.{Tree}
use Rattle.tasks.specs.Meaning.{task_at}
use Rattle.name_tables.specs.Occurrences.{Occurrence, in_type}
use Rattle.name_tables.specs.Tables.{is_same, distinct, problem_things}
use Rattle.name_tables.specs.Seen.{occurrence_at, seen_occurrences, has, with_one, with_all}
use Rattle.name_tables.proofs.Gathering.{same_occurrence, has_push}
use Rattle.name_tables.proofs.Distinct.{distinct_is}
use Rattle.printed_problems.specs.declared.checks.Checker.{Checker}
use Rattle.printed_problems.specs.declared.fault.PrintFault.{PrintFault}
use Rattle.printed_problems.specs.Problems.{places_from}
use Rattle.printed_problems.specs.Faults.{is_bare, is_bare_in, place_where, at_place, syntax_fault, print_fault_or_else, first_print_fault, printed_type_fault}
use Rattle.printed_problems.specs.Checks.{CanCheck, MeetsFault, MeetsSeen, is_seen, first_where, bare_fault, the_task}
use Rattle.tasks.proofs.outside.Bools.{or_grouped as or_twice, or_false}

-- what is there with one more
has_one : (os : List Occurrence) (p o : Occurrence) → has (with_one os p) o ≡ (has os o || is_same o p)
has_one os p o = elim (has os p) as (λ b. has os p ≡ b → has (if b then os else os ++ p ∷ []) o ≡ (has os o || is_same o p)) [
  | true ↦ λ there. elim (is_same o p) as (λ c. is_same o p ≡ c → has os o ≡ (has os o || c)) [
    | true ↦ λ e. let h : has os o ≡ true = subst (λ (z : Occurrence). has os z ≡ true) (sym (same_occurrence o p e)) there in rw h refl
    | false ↦ λ e. or_false (has os o)
  ] refl
  | false ↦ λ there. has_push os p o
] refl

has_all : (os ps : List Occurrence) (o : Occurrence) → has (with_all os ps) o ≡ (has os o || has ps o)
has_all os [] o = or_false (has os o)
has_all os (p ∷ ps) o = has_all (with_one os p) ps o ∙ ap (λ b. b || has ps o) (has_one os p o) ∙ or_twice (has os o) (is_same o p) (has ps o)

-- nothing gets lost where repeats go
pub has_distinct : (os : List Occurrence) (o : Occurrence) → has (distinct os) o ≡ has os o
has_distinct os o = ap (λ z. has z o) (sym (distinct_is os)) ∙ has_all [] os o

-- the first place of those that pass one test, at which another test passes
first_of_places : (b g : Occurrence → Bool) (h : ℕ → Bool) (n : ℕ) (os : List Occurrence) → ((i : ℕ) (o : Occurrence) → i < length os → h (n + i) ≡ g (get_or os i o))
    → first_where h (places_from b n os) ≡ place_where (λ o. b o && g o) n os
first_of_places b g h n [] same = refl
first_of_places b g h n (o ∷ os) same =
    let zero_more : n ≡ n + 0 = omega arith in
    let here : h n ≡ g o = ap h zero_more ∙ same 0 o (omega arith) in
    let rest = first_of_places b g h (n + 1) os (λ i d l. let e : n + 1 + i ≡ n + suc i = omega arith in ap h e ∙ same (suc i) d (omega arith)) in
    let P = places_from b (n + 1) os in
    let W = place_where (λ x. b x && g x) (n + 1) os in
    elim (b o) as (λ c. first_where h (if c then n ∷ P else P) ≡ (if c && g o then Some n else W)) [
      | true ↦ (λ i. if here i then Some n else rest i)
      | false ↦ rest
    ]

place_agree : (p q : Occurrence → Bool) → ((o : Occurrence) → p o ≡ q o) → (n : ℕ) (os : List Occurrence) → place_where p n os ≡ place_where q n os
place_agree p q h n [] = refl
place_agree p q h n (o ∷ os) = (λ i. if h o i then Some n else place_agree p q h (n + 1) os i)

pub places_within : (b : Occurrence → Bool) (n : ℕ) (os : List Occurrence) → All (λ p. p < n + length os) (places_from b n os)
places_within b n [] = All-nil (λ p. p < n + 0)
places_within b n (o ∷ os) =
    let P = places_from b (n + 1) os in
    let rest : All (λ p. p < n + length (o ∷ os)) P = All-weaker (λ p. p < n + 1 + length os) (λ p. p < n + length (o ∷ os)) (λ p l. omega arith) P (places_within b (n + 1) os) in
    elim (b o) as (λ c. All (λ p. p < n + length (o ∷ os)) (if c then n ∷ P else P)) [
      | true ↦ All-cons (λ p. p < n + length (o ∷ os)) n P (omega arith) rest
      | false ↦ rest
    ]

-- a bare place is that of a thing
pub bare_within : (c : Checker) → CanCheck c → All (λ p. p < length c.things.now) c.bare.now
bare_within c can =
    let s = c.store.now in
    let d = c.driver.now in
    let t = task_at s c.task.now in
    let n : length (seen_occurrences s c.things.now) ≡ length c.things.now = length-map c.things.now (occurrence_at s) in
    subst (λ (z : List ℕ). All (λ p. p < length c.things.now) z) (sym can.bare)
    (All-weaker (λ p. p < 0 + length (seen_occurrences s c.things.now)) (λ p. p < length c.things.now) (λ p l. omega (arith, n)) _ (places_within (is_bare d t) 0 (seen_occurrences s c.things.now)))

pub found_bare : (c : Checker) → CanCheck c → (os : List Occurrence) → first_where (is_seen c.store.now c.things.now os) c.bare.now ≡ place_where (is_bare_in c.driver.now (the_task c) os) 0 (problem_things (the_task c))
found_bare c can os =
    let s = c.store.now in
    let keys = c.things.now in
    let b = is_bare c.driver.now (the_task c) in
    let no_key : ℕ × ℕ = (0, 0) in
    let n : length (seen_occurrences s keys) ≡ length keys = length-map keys (occurrence_at s) in
    ap (first_where (is_seen s keys os)) can.bare
    ∙ first_of_places b (has os) (is_seen s keys os) 0 (seen_occurrences s keys)
    (λ i o l. let e : 0 + i ≡ i = omega arith in ap (is_seen s keys os) e ∙ ap (has os) (sym (get_or-map (occurrence_at s) keys i no_key o (omega (arith, n)))))
    ∙ ap (place_where (is_bare_in c.driver.now (the_task c) os) 0) can.things

-- what is looked for among what occurs
pub syntax_is : (c : Checker) → CanCheck c → (seen : List (ℕ × ℕ)) (os : List Occurrence) → seen_occurrences c.store.now seen ≡ distinct os → bare_fault c seen ≡ syntax_fault c.driver.now (the_task c) os
syntax_is c can seen os e =
    let d = c.driver.now in
    let t = the_task c in
    let same : (o : Occurrence) → is_bare_in d t (seen_occurrences c.store.now seen) o ≡ is_bare_in d t os o = λ o. ap (λ b. is_bare d t o && b) (ap (λ z. has z o) e ∙ has_distinct os o) in
    ap at_place (found_bare c can (seen_occurrences c.store.now seen) ∙ place_agree (is_bare_in d t (seen_occurrences c.store.now seen)) (is_bare_in d t os) same 0 (problem_things t))

pub seen_meets : {E X : Type 0} (c : Checker) → CanCheck c → (seen : Result (List (ℕ × ℕ)) E) (os : List Occurrence) (r : Result X PrintFault) → IfOk seen (λ v. seen_occurrences c.store.now v ≡ distinct os)
    → MeetsSeen c seen r → MeetsFault r (syntax_fault c.driver.now (the_task c) os)
seen_meets c can (Ok v) os r e m = subst (MeetsFault r) (syntax_is c can v os e) m
seen_meets c can (Err x) os r e m = m (syntax_fault c.driver.now (the_task c) os)

-- where none is bare there is no fault
pub syntax_none : (c : Checker) → CanCheck c → (os : List Occurrence) → c.bare.now ≡ [] → syntax_fault c.driver.now (the_task c) os ≡ None
syntax_none c can os e = ap at_place (sym (found_bare c can os) ∙ ap (first_where (is_seen c.store.now c.things.now os)) e)

pub types_none : (c : Checker) → CanCheck c → c.bare.now ≡ [] → (types : List Tree) → first_print_fault (map (printed_type_fault c.driver.now (the_task c)) types) ≡ None
types_none c can e [] = refl
types_none c can e (x ∷ xs) = ap (λ g. print_fault_or_else g (first_print_fault (map (printed_type_fault c.driver.now (the_task c)) xs))) (syntax_none c can (in_type x) e) ∙ types_none c can e xs

-- a search from a place on
pub first_later : (h : ℕ → Bool) (ps : List ℕ) (i d : ℕ) (all : Option ℕ) → i < length ps → h (get_or ps i d) ≡ false → first_where h (drop i ps) ≡ all → first_where h (drop (i + 1) ps) ≡ all
first_later h ps i d all l off so =
    sym (ap (λ b. if b then Some (get_or ps i d) else first_where h (drop (i + 1) ps)) off) ∙ ap (first_where h) (sym (drop_more ps i d l)) ∙ so

pub first_here : (h : ℕ → Bool) (ps : List ℕ) (i d : ℕ) (all : Option ℕ) → i < length ps → h (get_or ps i d) ≡ true → first_where h (drop i ps) ≡ all → all ≡ Some (get_or ps i d)
first_here h ps i d all l on so =
    sym so ∙ ap (first_where h) (drop_more ps i d l) ∙ ap (λ b. if b then Some (get_or ps i d) else first_where h (drop (i + 1) ps)) on
