-- Terms whose forms a printer has.
use Rattle.std.proofs.Common.{◌≡◌, ℕ, Bool, true, false, ◌&&◌, ◌||◌, nat_eq, if◌then◌else◌, List, [], ◌∷◌, ◌++◌, get_or, refl, sym, ap, subst, ◌∙◌, arith}
use Rattle.std.specs.List.{list_any}
use Rattle.std.proofs.lemmas.Bool.Decides.{nat_tests}
use Rattle.trees.specs.declared.Parts.{Parts}
use Rattle.trees.specs.declared.Parts.TheVariants as parts
use Rattle.trees.specs.Tree.{Tree, Leaf, One, Two, Three, Head, HEnd, head_of}
use Rattle.trees.specs.Node.{tree_at, assemble}
use Rattle.drivers.specs.declared.driver_items.kinds.Syntax.{Syntax}
use Rattle.printed_problems.specs.Faults.{has_head, has_forms}
use Rattle.printed_problems.specs.Checks.{Pass, parts_have_forms}
use Rattle.tasks.proofs.outside.Bools.{and_true}

-- the operator at the top, and the children
pub forms_of_parts : (p : Syntax) (e : Tree) → (has_head p (head_of e) && parts_have_forms p e) ≡ has_forms p e
forms_of_parts p (Leaf h) = and_true (has_head p h)
forms_of_parts p (One h a) = refl
forms_of_parts p (Two h a b) = refl
forms_of_parts p (Three h a b c) = refl

pub forms_are : (p : Syntax) (e : Tree) (a b : Bool) → has_head p (head_of e) ≡ a → parts_have_forms p e ≡ b → (a && b) ≡ has_forms p e
forms_are p e a b h k = (λ i. sym h i && sym k i) ∙ forms_of_parts p e

-- the children by their numbers
abbrev pub parts_formed : Syntax → List Tree → Parts → Bool
parts_formed p s parts.None = true
parts_formed p s (parts.One a) = has_forms p (tree_at s a)
parts_formed p s (parts.Two a b) = has_forms p (tree_at s a) && has_forms p (tree_at s b)
parts_formed p s (parts.Three a b c) = has_forms p (tree_at s a) && (has_forms p (tree_at s b) && has_forms p (tree_at s c))

assembled_formed : (p : Syntax) (s : List Tree) (h : Head) (ps : Parts) → parts_formed p s ps ≡ parts_have_forms p (assemble s h ps)
assembled_formed p s h parts.None = refl
assembled_formed p s h (parts.One a) = refl
assembled_formed p s h (parts.Two a b) = refl
assembled_formed p s h (parts.Three a b c) = refl

pub formed_parts : (p : Syntax) (s : List Tree) (e : Tree) (h : Head) (ps qs : Parts) → e ≡ assemble s h ps → qs ≡ ps → parts_formed p s qs ≡ parts_have_forms p e
formed_parts p s e h ps qs is same = ap (parts_formed p s) same ∙ assembled_formed p s h ps ∙ sym (ap (parts_have_forms p) is)

-- ---- terms that pass a test
module _ (test : Tree → Bool) (s : List Tree) where
  pub pass_there : (ids : List ℕ) (id : ℕ) → Pass test s ids → list_any (nat_eq id) ids ≡ true → test (get_or s id (Leaf HEnd)) ≡ true
  pass_there [] id h e = absurd (cc)
  pass_there (j ∷ ids) id h e = elim (nat_eq id j) as (λ b. nat_eq id j ≡ b → (b || list_any (nat_eq id) ids) ≡ true → test (get_or s id (Leaf HEnd)) ≡ true) [
    | true ↦ λ q _. let same : j ≡ id = grind (arith, nat_tests) in subst (λ n. test (get_or s n (Leaf HEnd)) ≡ true) same h.0
    | false ↦ λ q more. pass_there ids id h.1 more
  ] refl e

  pass_push : (ids : List ℕ) (id : ℕ) → Pass test s ids → test (get_or s id (Leaf HEnd)) ≡ true → Pass test s (ids ++ id ∷ [])
  pass_push [] id h k = (k, tt)
  pass_push (j ∷ ids) id h k = (h.0, pass_push ids id h.1 k)

  -- one more
  pub pass_marked : (ids new : List ℕ) (id : ℕ) → Pass test s ids → test (get_or s id (Leaf HEnd)) ≡ true → new ≡ (if list_any (nat_eq id) ids then ids else ids ++ id ∷ []) → Pass test s new
  pass_marked ids new id h k e = rw e (by (list_any (nat_eq id) ids))
    where
      by : (b : Bool) → Pass test s (if b then ids else ids ++ id ∷ [])
      by true = h
      by false = pass_push ids id h k

pub head_of_assembled : (s : List Tree) (h : Head) (ps : Parts) → head_of (assemble s h ps) ≡ h
head_of_assembled s h parts.None = refl
head_of_assembled s h (parts.One a) = refl
head_of_assembled s h (parts.Two a b) = refl
head_of_assembled s h (parts.Three a b c) = refl
