-- Numbers written and referred to one after another.
use Rattle.std.proofs.Common.{◌≡◌, ℕ, suc, ◌+◌, ◌<◌, ◌⊎◌, inl, inr, List, [], ◌∷◌, ◌++◌, length, get_or, take, All, Option, Some, None, Vec, slice_get, sym, refl, ap, subst, ◌∙◌, append_assoc, append-nil, arith}
use Rattle.std.proofs.lemmas.List.{take_more}
use Rattle.std.specs.Option.{option_map, option_and_then}
use Rattle.tasks.specs.trees.declared.TermId.{TermId}
use Rattle.tasks.specs.trees.declared.Node.{Node}
use Rattle.tasks.specs.trees.declared.Node.TheVariants.{Cell}
use Rattle.tasks.specs.trees.declared.Sort.{Sort}
use Rattle.tasks.specs.trees.Tree.{Tree, Two, HCell}
use Rattle.tasks.specs.trees.Node.{node_tree}
use Rattle.tasks.specs.trees.Sorts.{WellSorted, IsList, sort_of}
use Rattle.tasks.specs.Typing.{members}
use Rattle.step_lines.specs.tree_lines.Words.{LineWord, number, each}
use Rattle.step_writing.specs.tree_writing.Referring.{words_of, PushesNumbers, trees_of_sort, Refers, ReferAll}

pub no_cell : (s : List Tree) (n : Node) → ((a b : TermId) → n ≡ Cell a b → ⊥) → members (node_tree s n) ≡ []
no_cell s (Cell a b) h = absurd (h a b refl)
no_cell s _ h = refl

some_more : {A : Type 0} (ys : List A) (y : A) (o : Option (List A)) → o ≡ Some ys → option_map (λ zs. y ∷ zs) o ≡ Some (y ∷ ys)
some_more ys y o e = ap (option_map (λ zs. y ∷ zs)) e

-- what each of a list is, with one more at the end
pub each_end : {A B : Type 0} (f : A → Option B) (xs : List A) (x : A) (ys : List B) (y : B) → each f xs ≡ Some ys → f x ≡ Some y → each f (xs ++ x ∷ []) ≡ Some (ys ++ y ∷ [])
each_end f [] x ys y e h =
    let none : [] ≡ ys = cc in
    rw h (ap (λ l. Some (l ++ y ∷ [])) none)
each_end {A} {B} f (a ∷ others) x ys y e h = at (f a) (each f others) refl e (λ zs k. each_end f others x zs y k h) where
  at : (o : Option B) (rest : Option (List B)) → each f others ≡ rest → option_and_then (λ z. option_map (λ zs. z ∷ zs) rest) o ≡ Some ys → ((zs : List B) → each f others ≡ Some zs → each f (others ++ x ∷ []) ≡ Some (zs ++ y ∷ []))
      → option_and_then (λ z. option_map (λ zs. z ∷ zs) (each f (others ++ x ∷ []))) o ≡ Some (ys ++ y ∷ [])
  at None rest is e more = absurd (cc)
  at (Some z) None is e more = absurd (cc)
  at (Some z) (Some zs) is e more =
      let same : z ∷ zs ≡ ys = cc in
      ap (option_map (λ l. z ∷ l)) (more zs is) ∙ ap (λ l. Some (l ++ y ∷ [])) same

pub words_end : {Y : Type 0} (ws : List (Vec ℕ Y)) (w : Vec ℕ Y) → words_of (ws ++ w ∷ []) ≡ words_of ws ++ w.items ∷ []
words_end [] w = refl
words_end (v ∷ ws) w = ap (λ l. v.items ∷ l) (words_end ws w)

pub pushes_start : (old : List LineWord) → PushesNumbers old old []
pushes_start old = record { more = []; is = sym (append-nil old); numbers = refl }

-- the word of one number more
pub pushes_more : {Y : Type 0} (old : List LineWord) (ws new : List (Vec ℕ Y)) (w : Vec ℕ Y) (ns : List ℕ) (i n d : ℕ) → i < length ns → n ≡ get_or ns i d → number w.items ≡ Some n → new ≡ ws ++ w ∷ [] → PushesNumbers old (words_of ws) (take i ns)
    → PushesNumbers old (words_of new) (take (i + 1) ns)
pushes_more old ws new w ns i n d lt is reads e p = record {
  more = p.more ++ w.items ∷ [];
  is = ap words_of e ∙ words_end ws w ∙ ap (λ l. l ++ w.items ∷ []) p.is ∙ append_assoc old p.more (w.items ∷ []);
  numbers = each_end number p.more w.items (take i ns) n p.numbers reads ∙ ap Some (ap (λ k. take i ns ++ k ∷ []) is ∙ sym (take_more ns i d lt));
}

-- the members of a list as far as they have numbers
pub record ReferSoFar (s : List Tree) (lines : List (Option ℕ)) (list rest : Tree) (numbers : List ℕ) : Type 0 where
  pub done : List Tree
  pub is : members list ≡ done ++ members rest
  pub refer : (sort : Sort) → IsList sort list → IsList sort rest × ReferAll s lines sort numbers done

pub refer_start : (s : List Tree) (lines : List (Option ℕ)) (list : Tree) → ReferSoFar s lines list list []
refer_start s lines list = record { done = []; is = refl; refer = λ sort h. (h, λ r a. refl) }

same_sort : (a sort : Sort) → (Some a ≡ None) ⊎ (Some a ≡ Some sort) → a ≡ sort
same_sort a sort (inl e) = absurd (cc)
same_sort a sort (inr e) = cc

pub rest_list : (sort : Sort) (a b : Tree) → WellSorted (Two HCell a b) → IsList sort (Two HCell a b) → (sort_of a ≡ sort) × IsList sort b
rest_list sort a b w h =
    let same : sort_of a ≡ sort = same_sort (sort_of a) sort h.1 in
    (same, subst (λ (x : Sort). IsList x b) same w.0.0.1)

pub refer_more : (s : List Tree) (lines : List (Option ℕ)) (list rest a b : Tree) (numbers : List ℕ) (n : ℕ) → WellSorted rest → rest ≡ Two HCell a b → Refers s lines (sort_of a) n a → ReferSoFar s lines list rest numbers → ReferSoFar s lines list b (numbers ++ n ∷ [])
refer_more s lines list rest a b numbers n w e refers p = record {
  done = p.done ++ a ∷ [];
  is = p.is ∙ ap (λ x. p.done ++ members x) e ∙ sym (append_assoc p.done (a ∷ []) (members b));
  refer = λ sort h.
      let k = p.refer sort h in
      let l = rest_list sort a b (subst WellSorted e w) (subst (IsList sort) e k.0) in
      (l.1, λ r are. each_end (slice_get (trees_of_sort sort r)) numbers n p.done a (k.1 r are) (subst (λ (x : Sort). slice_get (trees_of_sort x r) n ≡ Some a) l.0 (refers r are)));
}

pub refer_all : (s : List Tree) (lines : List (Option ℕ)) (list rest : Tree) (numbers : List ℕ) → members rest ≡ [] → ReferSoFar s lines list rest numbers → (sort : Sort) → IsList sort list → ReferAll s lines sort numbers (members list)
refer_all s lines list rest numbers none p sort h r are = (p.refer sort h).1 r are ∙ ap Some (sym (p.is ∙ ap (λ l. p.done ++ l) none ∙ append-nil p.done))

pub others_all : (P : Tree → Type 0) (x a b : Tree) → x ≡ Two HCell a b → All P (members x) → All P (members b)
others_all P x a b e h k d lt =
    let l : members x ≡ a ∷ members b = ap members e in
    subst (λ (xs : List Tree). All P xs) l h (suc k) d (omega arith)
