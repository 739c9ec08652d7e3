-- What the search finds, up to a number of assignments.
use Rattle.std.proofs.Common.{◌≡◌, ℕ, zero, suc, ◌<◌, ◌≤◌, ◌+◌, Bool, true, false, if◌then◌else◌, List, [], ◌∷◌, ◌++◌, map, filter, length, get_or, take, refl, sym, ap, ◌∙◌, arith, append_assoc, length-append}
use Rattle.std.specs.Prelude.{All}
use Rattle.std.specs.List.{flat_map}
use Rattle.std.proofs.lemmas.List.{append-nil, map-append, length-map, take_all}
use Rattle.std.proofs.Math.Seq.{take-append_seam}
use Rattle.std.proofs.lemmas.List.Elements.{All-push}
use Rattle.tasks.proofs.plain_laws.Lists.{flat_more}
use Rattle.trees.specs.declared.TermId.{TermId}
use Rattle.trees.specs.Tree.{Tree, Leaf, HEnd, above_ty_vars}
use Rattle.trees.specs.Node.{Holds, tree_at, trees_at}
use Rattle.trees.specs.Sorts.{int_type}
use Rattle.name_tables.specs.Occurrences.{Occurrence}
use Rattle.name_tables.specs.Seen.{seen_occurrences, GainsKeys}
use Rattle.tr_discriminate.specs.wanted_instances.Instances.{instance_types, has_variable}
use Rattle.tr_discriminate.specs.wanted_instances.Wanted.{type_choices, assignments, is_wanted, wanted_types}
use Rattle.tr_discriminate.specs.wanted_instances.Discriminated.{proposition_of}
use Rattle.tr_discriminate.specs.wanted_instances.Search.{found_from, may_go_on}
use Rattle.tr_discriminate.proofs.wanted_instances.Searching.{found_more, found_none, found_one}
use Rattle.tr_discriminate.specs.wanted_search.Search.{key_type, assignments_at, IsSearchResult, FindsUpTo, found_each}

-- the first ones of a list of which only the first ones were kept
take_again : {A : Type 0} (n : ℕ) (xs ys : List A) → take n (take n xs ++ ys) ≡ take n (xs ++ ys)
take_again zero xs ys = refl
take_again (suc n) [] ys = refl
take_again (suc n) (x ∷ xs) ys = ap (λ z. x ∷ z) (take_again n xs ys)

module _ (s : List Tree) (most : ℕ) where
  -- nothing more
  pub finds_none : (old : List (List TermId)) (found : List (List Tree)) → IsSearchResult s most old → found ≡ [] → FindsUpTo s most old found old
  finds_none old found h e = record {
    is_found = h;
    are = sym (ap (λ z. take (most + 1) (assignments_at s old ++ z)) e ∙ ap (take (most + 1)) (append-nil (assignments_at s old)) ∙ take_all (most + 1) (assignments_at s old) (omega (arith, length-map old (trees_at s), h.few)));
  }

  -- enough is there
  pub finds_enough : (old : List (List TermId)) (found : List (List Tree)) → IsSearchResult s most old → most < length old → FindsUpTo s most old found old
  finds_enough old found h l =
      let long : most + 1 ≡ length (assignments_at s old) = omega (arith, length-map old (trees_at s), h.few, l) in
      record { is_found = h; are = sym (ap (λ n. take n (assignments_at s old ++ found)) long ∙ take-append_seam (assignments_at s old) found) }

  -- one more
  pub finds_one : (old : List (List TermId)) (known : List TermId) (found : List (List Tree)) → IsSearchResult s most old → length old ≤ most → All (Holds s) known → found ≡ trees_at s known ∷ [] → FindsUpTo s most old found (old ++ known ∷ [])
  finds_one old known found h l k e = record {
    is_found = record { held = All-push (All (Holds s)) old known h.held k; few = omega (arith, length-append old (known ∷ []), l) };
    are =
        let long : length (map (trees_at s) (old ++ known ∷ [])) ≤ most + 1 = omega (arith, length-map (old ++ known ∷ []) (trees_at s), length-append old (known ∷ []), l) in
        sym (ap (λ z. take (most + 1) (assignments_at s old ++ z)) e ∙ ap (take (most + 1)) (sym (map-append (trees_at s) old (known ∷ []))) ∙ take_all (most + 1) (map (trees_at s) (old ++ known ∷ [])) long);
  }

  pub finds_then : (old mid new : List (List TermId)) (xs ys : List (List Tree)) → FindsUpTo s most old xs mid → FindsUpTo s most mid ys new → FindsUpTo s most old (xs ++ ys) new
  finds_then old mid new xs ys h k = record {
    is_found = k.is_found;
    are = k.are ∙ ap (λ z. take (most + 1) (z ++ ys)) h.are ∙ take_again (most + 1) (assignments_at s old ++ xs) ys ∙ ap (take (most + 1)) (append_assoc (assignments_at s old) xs ys);
  }

  pub finds_step : (old mid new : List (List TermId)) (xs ys all : List (List Tree)) → all ≡ xs ++ ys → FindsUpTo s most old xs mid → FindsUpTo s most mid ys new → FindsUpTo s most old all new
  finds_step old mid new xs ys all e h k = rw e (finds_then old mid new xs ys h k)

-- ---- the search over a store
module _ (s : List Tree) (set types : List (ℕ × ℕ)) (a : Tree) where
  abbrev instances : List Occurrence
  instances = seen_occurrences s set

  abbrev type_list : List Tree
  type_list = map (key_type s) types

  -- it goes on by one type variable
  pub goes_on_by : (known : List TermId) (left n : ℕ) (choices : List Tree) → left ≡ n + 1 → type_choices type_list a (length known) ≡ choices → found_from instances type_list a (trees_at s known) left ≡ found_each instances type_list a (trees_at s known) n choices
  goes_on_by known left n choices e q =
      let more : left ≡ suc n = omega (arith, e) in
      let one : found_from instances type_list a (trees_at s known) left ≡ found_from instances type_list a (trees_at s known) (suc n) = ap (found_from instances type_list a (trees_at s known)) more in
      let long : type_choices type_list a (length (trees_at s known)) ≡ choices = ap (type_choices type_list a) (length-map known (tree_at s)) ∙ q in
      one ∙ found_more instances type_list a (trees_at s known) n ∙ ap (flat_map (λ ty. found_from instances type_list a (trees_at s known ++ ty ∷ []) n)) long

  pub choices_used : (j : ℕ) → true ≡ has_variable j a → type_choices type_list a j ≡ type_list
  choices_used j e = ap (λ (b : Bool). if b then type_list else int_type ∷ []) (sym e)

  pub choices_unused : (j : ℕ) (int : ℕ) → false ≡ has_variable j a → get_or s int (Leaf HEnd) ≡ int_type → type_choices type_list a j ≡ map (key_type s) ((0, int) ∷ [])
  choices_unused j int e q = ap (λ (b : Bool). if b then type_list else int_type ∷ []) (sym e) ∙ ap (λ (z : Tree). z ∷ []) (sym q)

  -- nothing, where it may not go on; what is known, where all is
  pub stops : (known : List TermId) (left : ℕ) → false ≡ may_go_on instances a (trees_at s known) → found_from instances type_list a (trees_at s known) left ≡ []
  stops known left e = found_none instances type_list a (trees_at s known) left (sym e)

  pub ends : (known : List TermId) (left : ℕ) → left ≡ 0 → above_ty_vars a ≤ length known + left → true ≡ may_go_on instances a (trees_at s known) → found_from instances type_list a (trees_at s known) left ≡ trees_at s known ∷ []
  ends known left z l e =
      ap (found_from instances type_list a (trees_at s known)) z ∙ found_one instances type_list a (trees_at s known) (omega (arith, length-map known (tree_at s), l, z)) (sym e)

  -- one choice more
  pub each_more : (known : List TermId) (left : ℕ) (choices : List (ℕ × ℕ)) (i : ℕ) (d : ℕ × ℕ) → i < length choices
      → found_each instances type_list a (trees_at s known) left (map (key_type s) (take (i + 1) choices))
      ≡ found_each instances type_list a (trees_at s known) left (map (key_type s) (take i choices)) ++ found_from instances type_list a (trees_at s (known ++ record { 0 = (get_or choices i d).1 } ∷ [])) left
  each_more known left choices i d l =
      flat_more (λ ty. found_from instances type_list a (trees_at s known ++ ty ∷ []) left) (key_type s) choices i d l
      ∙ ap (λ (z : List Tree). found_each instances type_list a (trees_at s known) left (map (key_type s) (take i choices)) ++ found_from instances type_list a z left) (sym (map-append (tree_at s) known (record { 0 = (get_or choices i d).1 } ∷ [])))

  types_are : (keys : List (ℕ × ℕ)) → map (key_type s) keys ≡ map (λ (o : Occurrence). o.types) (seen_occurrences s keys)
  types_are [] = refl
  types_are (key ∷ keys) = ap (λ (z : List Tree). key_type s key ∷ z) (types_are keys)

  all_same : (yss : List (List Tree)) → map (λ ys. [] ++ ys) yss ≡ yss
  all_same [] = refl
  all_same (ys ∷ yss) = ap (λ (z : List (List Tree)). ys ∷ z) (all_same yss)

  -- and all of them begin with none
  pub starts : (vars : ℕ) → GainsKeys s [] (flat_map instance_types instances) types → found_from instances type_list a [] vars ≡ wanted_types instances (proposition_of vars a)
  starts vars g =
      ap (filter (is_wanted instances a)) (all_same (assignments type_list a 0 vars))
      ∙ ap (λ (z : List Tree). filter (is_wanted instances a) (assignments z a 0 vars)) (types_are types ∙ ap (map (λ (o : Occurrence). o.types)) g.is)
