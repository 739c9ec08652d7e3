-- A number above the parameters of two formulas is new to one of them and the negation of the other.
use Rattle.std.proofs.Common.{◌≡◌, ℕ, ◌≤◌, false, [], ◌∷◌, sym, ap, subst, ◌∙◌}
use Rattle.std.proofs.lemmas.List.Elements.{All-cons, All-nil}
use Rattle.trees.proofs.Above.{no_param_above}
use Rattle.trees.specs.declared.TermId.{TermId}
use Rattle.trees.specs.Tree.{Tree, above_params}
use Rattle.trees.specs.Node.{tree_at, Holds}
use Rattle.trees.specs.Binding.{inst, Param}
use Rattle.trees.specs.Facts.{has_param}
use Rattle.tasks.specs.Task.{neg}
use Rattle.rules.specs.Rows.{IsNew}
use Rattle.evidence.specs.Drafts.{DraftTree, Extends}
use Rattle.congruence.proofs.Later.{tree_later}

-- two formulas with parameters below a number
pub new_pair : (n : ℕ) (l r : Tree) → above_params l ≤ n → above_params r ≤ n → IsNew n (l ∷ neg r ∷ [])
new_pair n l r a b = All-cons (λ (z : Tree). has_param z n ≡ false) l (neg r ∷ []) (no_param_above l n a) (All-cons (λ (z : Tree). has_param z n ≡ false) (neg r) [] (no_param_above (neg r) n b) (All-nil (λ (z : Tree). has_param z n ≡ false)))

-- the same in a later draft
pub new_later : (d d1 : DraftTree) (x : Extends d d1) (n : ℕ) (l r : TermId) → Holds d.trees l → Holds d.trees r → above_params (tree_at d.trees l) ≤ n → above_params (tree_at d.trees r) ≤ n
    → IsNew n (tree_at d1.trees l ∷ neg (tree_at d1.trees r) ∷ [])
new_later d d1 x n l r hl hr a b =
    new_pair n (tree_at d1.trees l) (tree_at d1.trees r) (subst (λ (z : Tree). above_params z ≤ n) (sym (tree_later d d1 x l hl)) a) (subst (λ (z : Tree). above_params z ≤ n) (sym (tree_later d d1 x r hr)) b)

module _ (d d1 : DraftTree) (x : Extends d d1) (n : ℕ) where
  pub new_at : (l r : TermId) → Holds d.trees l → Holds d.trees r → IsNew n (tree_at d.trees l ∷ neg (tree_at d.trees r) ∷ []) → IsNew n (tree_at d1.trees l ∷ neg (tree_at d1.trees r) ∷ [])
  new_at l r hl hr h =
      subst (λ (z : Tree). IsNew n (z ∷ neg (tree_at d1.trees r) ∷ [])) (sym (tree_later d d1 x l hl)) (subst (λ (z : Tree). IsNew n (tree_at d.trees l ∷ neg z ∷ [])) (sym (tree_later d d1 x r hr)) h)

  -- a parameter of a type, and a body at it
  pub param_later : (id ty : TermId) → Holds d.trees id → Holds d.trees ty → tree_at d.trees id ≡ Param n (tree_at d.trees ty) → tree_at d1.trees id ≡ Param n (tree_at d1.trees ty)
  param_later id ty h k q = tree_later d d1 x id h ∙ q ∙ ap (Param n) (sym (tree_later d d1 x ty k))

  pub body_later : (id a ty : TermId) → Holds d.trees id → Holds d.trees a → Holds d.trees ty → tree_at d.trees id ≡ inst (tree_at d.trees a) (Param n (tree_at d.trees ty)) → tree_at d1.trees id ≡ inst (tree_at d1.trees a) (Param n (tree_at d1.trees ty))
  body_later id a ty h j k q =
      tree_later d d1 x id h ∙ q ∙ ap (λ (z : Tree). inst z (Param n (tree_at d.trees ty))) (sym (tree_later d d1 x a j)) ∙ ap (λ (z : Tree). inst (tree_at d1.trees a) (Param n z)) (sym (tree_later d d1 x ty k))
