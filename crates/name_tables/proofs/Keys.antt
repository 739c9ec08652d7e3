-- Keys stand for different occurrences, so a key is there where its occurrence is.
use Rattle.std.proofs.Common.{◌≡◌, ℕ, ◌<◌, ◌+◌, suc, Bool, true, false, cond, not, ◌&&◌, ◌||◌, ◌==◌, nat_eq, nat_lt, if◌then◌else◌, List, [], ◌∷◌, ◌++◌, map, length, get_or, Option, Some, None, refl, sym, ap, subst, ◌∙◌, arith}
use Rattle.std.specs.List.{list_any, position, position_or_len}
use Rattle.std.proofs.lemmas.List.Sums.{prefix_len-le-length}
use Rattle.std.proofs.lemmas.Bool.Decides.{nat_tests, Decides-eqb}
use Rattle.std.proofs.lemmas.List.{map-append, length-map}
use Rattle.std.proofs.lemmas.List.Elements.{All-tail, All-push}
use Rattle.trees.specs.declared.TermId.{TermId}
use Rattle.trees.specs.Tree.{Tree, Leaf, HEnd}
use Rattle.trees.specs.Node.{tree_at, Holds}
use Rattle.linear_leaf.specs.Valuations.{same_tree}
use Rattle.linear_leaf.proofs.SameTree.{same_is, same_refl}
use Rattle.name_tables.specs.Occurrences.{Occurrence}
use Rattle.name_tables.specs.Tables.{is_same, occurrence_place}
use Rattle.name_tables.specs.Seen.{occurrence_at, seen_occurrences, has, with_one, with_all, KeyHeld, KeysHeld, GainsKeys}

abbrev pub same_key : ℕ × ℕ → ℕ × ℕ → Bool
same_key x y = nat_eq x.0 y.0 && nat_eq x.1 y.1

-- equal trees have equal numbers
abbrev pub Apart : List Tree → Type 0
Apart s = (a b : TermId) → Holds s a → Holds s b → tree_at s a ≡ tree_at s b → a ≡ b

abbrev id_of : ℕ → TermId
id_of n = record { 0 = n }

module _ (s : List Tree) (apart : Apart s) where
  same_number : (m n : ℕ) → m < length s → n < length s → nat_eq m n ≡ same_tree (get_or s m (Leaf HEnd)) (get_or s n (Leaf HEnd))
  same_number m n h k = elim (same_tree (get_or s m (Leaf HEnd)) (get_or s n (Leaf HEnd))) as (λ b. same_tree (get_or s m (Leaf HEnd)) (get_or s n (Leaf HEnd)) ≡ b → nat_eq m n ≡ b) [
    | true ↦ λ e. let i : id_of m ≡ id_of n = apart (id_of m) (id_of n) h k (same_is (get_or s m (Leaf HEnd)) (get_or s n (Leaf HEnd)) e) in
        let j : m ≡ n = ap (λ (z : TermId). z.0) i in grind (arith, nat_tests)
    | false ↦ λ e. elim (nat_eq m n) as (λ b. nat_eq m n ≡ b → b ≡ false) [
      | true ↦ λ q. let j : m ≡ n = grind (arith, nat_tests) in
          let r : same_tree (get_or s m (Leaf HEnd)) (get_or s n (Leaf HEnd)) ≡ true = rw (← j) (same_refl (get_or s m (Leaf HEnd))) in sym r ∙ e
      | false ↦ λ q. refl
    ] refl
  ] refl

  pub same_keys : (x y : ℕ × ℕ) → KeyHeld s x → KeyHeld s y → same_key x y ≡ is_same (occurrence_at s x) (occurrence_at s y)
  same_keys x y h k = ap (λ b. nat_eq x.0 y.0 && b) (same_number x.1 y.1 h k)

  pub has_key : (keys : List (ℕ × ℕ)) (x : ℕ × ℕ) → KeyHeld s x → KeysHeld s keys → list_any (same_key x) keys ≡ has (seen_occurrences s keys) (occurrence_at s x)
  has_key [] x h a = refl
  has_key (y ∷ ys) x h a =
      ap (λ b. b || list_any (same_key x) ys) (same_keys x y h (a 0 y (omega arith)))
      ∙ ap (λ b. is_same (occurrence_at s x) (occurrence_at s y) || b) (has_key ys x h (All-tail (KeyHeld s) y ys a))

  -- a key is added where it isn't there
  pub key_added : (keys new : List (ℕ × ℕ)) (x : ℕ × ℕ) → KeyHeld s x → KeysHeld s keys → new ≡ (if list_any (same_key x) keys then keys else keys ++ x ∷ [])
      → GainsKeys s keys (occurrence_at s x ∷ []) new
  key_added keys new x h a e = rw e (by (list_any (same_key x) keys) (has_key keys x h a))
    where
      by : (b : Bool) → b ≡ has (seen_occurrences s keys) (occurrence_at s x) → GainsKeys s keys (occurrence_at s x ∷ []) (if b then keys else keys ++ x ∷ [])
      by true q = record { held = a; is = ap (λ b. if b then seen_occurrences s keys else seen_occurrences s keys ++ occurrence_at s x ∷ []) q }
      by false q = record {
        held = All-push (KeyHeld s) keys x a h;
        is = map-append (occurrence_at s) keys (x ∷ []) ∙ ap (λ b. if b then seen_occurrences s keys else seen_occurrences s keys ++ occurrence_at s x ∷ []) q;
      }

  step : (b c : Bool) (m n : ℕ) → b ≡ c → m ≡ n → cond (not b) (1 + m) 0 ≡ cond (not c) (1 + n) 0
  step b c m n e h = (λ i. cond (not (e i)) (1 + h i) 0)

  pub key_place : (keys : List (ℕ × ℕ)) (x : ℕ × ℕ) → KeyHeld s x → KeysHeld s keys → position_or_len (same_key x) keys ≡ occurrence_place (seen_occurrences s keys) (occurrence_at s x)
  key_place [] x h a = refl
  key_place (y ∷ ys) x h a = step _ _ _ _ (same_keys x y h (a 0 y (omega arith))) (key_place ys x h (All-tail (KeyHeld s) y ys a))

-- what a search found, or the length
pub place_found : (p : ℕ × ℕ → Bool) (keys : List (ℕ × ℕ)) (i : ℕ) → Some i ≡ position p keys → i ≡ position_or_len p keys
place_found p keys i e = by (nat_lt (position_or_len p keys) (length keys)) refl
  where
    by : (b : Bool) → nat_lt (position_or_len p keys) (length keys) ≡ b → i ≡ position_or_len p keys
    by true t = let f : Some i ≡ Some (position_or_len p keys) = e ∙ ap (λ c. cond c (Some (position_or_len p keys)) None) t in cc
    by false t = let f : Some i ≡ None = e ∙ ap (λ c. cond c (Some (position_or_len p keys)) None) t in absurd (cc)

pub place_missing : (p : ℕ × ℕ → Bool) (keys : List (ℕ × ℕ)) → None ≡ position p keys → length keys ≡ position_or_len p keys
place_missing p keys e = by (nat_lt (position_or_len p keys) (length keys)) refl
  where
    by : (b : Bool) → nat_lt (position_or_len p keys) (length keys) ≡ b → length keys ≡ position_or_len p keys
    by true t = let f : None ≡ Some (position_or_len p keys) = e ∙ ap (λ c. cond c (Some (position_or_len p keys)) None) t in absurd (cc)
    by false t = let w = prefix_len-le-length (λ x. not (p x)) keys in grind (arith, nat_tests)
