-- The uses that are found, and the nodes that the rule leaves.
use Rattle.std.proofs.Common.{◌≡◌, ℕ, ◌<◌, inr, List, [], ◌∷◌, get_or, Some, None, subst, refl, sym, ap, ◌∙◌}
use Rattle.trees.specs.declared.TermId.{TermId}
use Rattle.trees.specs.declared.Node.{Node}
use Rattle.trees.specs.declared.Node.TheVariants.{Fun, Pred}
use Rattle.trees.specs.Tree.{Tree, Leaf, One, Two, Three, HFun, HPred}
use Rattle.trees.specs.Binding.{TyVar}
use Rattle.trees.specs.declared.Sort.TheVariants.{Kind, Term}
use Rattle.trees.specs.Sorts.{IsList}
use Rattle.trees.specs.Node.{tree_at, node_tree}
use Rattle.tasks.specs.declared.task.Task.{Task}
use Rattle.tasks.specs.Meaning.{task_at}
use Rattle.tasks.specs.Typing.{members}
use Rattle.tasks.specs.Vocabulary.{of_task}
use Rattle.tasks.proofs.TypeInstances.{sound_task}
use Rattle.inlining.specs.images.Images.{image}
use Rattle.inlining.specs.images.typing_laws.HasTyping.{HasTyping, IsTypeAt, over_parts}
use Rattle.inlining.proofs.images.typing_laws.Sorted.{has_sorts}
use Rattle.inlining.proofs.images.typing_laws.TypeInstances.{has_types}
use Rattle.inlining.proofs.images.TypedImages.{image_type, image_over}
use Rattle.inlining.specs.images.image_trees.Imaged.{IsTypedSomewhere}
use Rattle.inlining.specs.Inlining.{use_body}
use Rattle.inlining.specs.FullBodies.{use_rule}
use Rattle.inlining.proofs.Bodies.{onto}
use Rattle.inlining.proofs.Uses.{member_types}
use Rattle.inlining.proofs.SinglePass.{members_image}
use Rattle.tr_inline.specs.declared.full_bodies.uses.FullBody.{FullBody}
use Rattle.tr_inline.specs.full_bodies.FullBodies.{body_for, rule_after, rule_over_bodies, AreReady, IsFound, IsFoundBody, LeavesUses, IsUseAt}
use Rattle.tr_inline.proofs.full_bodies.Bodies.{ready_steady, found_here}

module _ (s : List Tree) (task : Task) (bodies : List FullBody) (r : AreReady s task bodies) where
  module _ (e : TermId) (k : ℕ) (zs as' : TermId) (b : FullBody) (found : IsFoundBody s (of_task (task_at s task)) (rule_after s (λ z. z) bodies) k b) where
    use_at : (ts : List Tree) → IsList Kind (tree_at s zs) → IsList Term (tree_at s as') → HasTyping (of_task (task_at s task)) ts (tree_at s zs) → HasTyping (of_task (task_at s task)) ts (tree_at s as')
        → zs.0 < e.0 → as'.0 < e.0
        → image (rule_after s (λ z. z) bodies) (tree_at s e) ≡ use_body found.whole (image (rule_after s (λ z. z) bodies) (tree_at s zs)) (image (rule_after s (λ z. z) bodies) (tree_at s as'))
        → IsUseAt s (rule_over_bodies s task bodies) e (record { full = b.full; types = zs; args = as' })
    use_at ts lz la xz xa below above q =
        let sound = sound_task (task_at s task) r.valid in
        let steady = ready_steady s task bodies r in
        let each : (j : ℕ) → IsTypeAt (of_task (task_at s task)) (get_or (members (tree_at s zs)) j (TyVar j)) = λ j. member_types (of_task (task_at s task)) ts (tree_at s zs) lz xz j (TyVar j) (refl, (tt, tt)) in record {
          whole = found.whole;
          full = found.full;
          below = (below, above);
          types = lz;
          args = la;
          typed = (ts, xa);
          sorts = has_sorts _ _ _ (has_types (of_task (task_at s task)) (members (tree_at s zs)) each sound (onto found.is_body.symbol.args []) found.whole found.is_body.typed);
          images = members_image (of_task (task_at s task)) sound (rule_after s (λ z. z) bodies) steady ts (tree_at s as') la xa;
          becomes = q ∙ ap (λ (z : Tree). use_body found.whole z (image (rule_after s (λ y. y) bodies) (tree_at s as')))
              (image_type (of_task (task_at s task)) (rule_after s (λ y. y) bodies) steady.typed (tree_at s zs) (has_sorts _ ts (tree_at s zs) xz) (inr lz));
        }

  pub function_use : (e : TermId) (k : ℕ) (zs as' : TermId) (ty : Tree) (b : FullBody) → tree_at s e ≡ Three (HFun k) (tree_at s zs) (tree_at s as') ty → zs.0 < e.0 → as'.0 < e.0
      → IsTypedSomewhere (rule_over_bodies s task bodies) (tree_at s e) → body_for k None bodies ≡ Some b → IsUseAt s (rule_over_bodies s task bodies) e (record { full = b.full; types = zs; args = as' })
  function_use e k zs as' ty b q below above typed is =
      let found : IsFoundBody s (of_task (task_at s task)) (rule_after s (λ z. z) bodies) k b = subst (IsFound s (of_task (task_at s task)) (rule_after s (λ z. z) bodies) k) is (found_here s task bodies r k) in
      let x : HasTyping (of_task (task_at s task)) typed.0 (Three (HFun k) (tree_at s zs) (tree_at s as') ty) = subst (HasTyping (of_task (task_at s task)) typed.0) q typed.1 in
      use_at e k zs as' b found typed.0 x.0.0 x.0.1 x.2 x.3 below above (ap (image (rule_after s (λ z. z) bodies)) q ∙ found.function _ _ _)

  pub predicate_use : (e : TermId) (k : ℕ) (zs as' : TermId) (b : FullBody) → tree_at s e ≡ Two (HPred k) (tree_at s zs) (tree_at s as') → zs.0 < e.0 → as'.0 < e.0
      → IsTypedSomewhere (rule_over_bodies s task bodies) (tree_at s e) → body_for k None bodies ≡ Some b → IsUseAt s (rule_over_bodies s task bodies) e (record { full = b.full; types = zs; args = as' })
  predicate_use e k zs as' b q below above typed is =
      let found : IsFoundBody s (of_task (task_at s task)) (rule_after s (λ z. z) bodies) k b = subst (IsFound s (of_task (task_at s task)) (rule_after s (λ z. z) bodies) k) is (found_here s task bodies r k) in
      let x : HasTyping (of_task (task_at s task)) typed.0 (Two (HPred k) (tree_at s zs) (tree_at s as')) = subst (HasTyping (of_task (task_at s task)) typed.0) q typed.1 in
      use_at e k zs as' b found typed.0 x.0.0.0 x.0.0.1 x.2 x.3 below above (ap (image (rule_after s (λ z. z) bodies)) q ∙ found.predicate _ _)

  pub function_left : (k : ℕ) (e zs as' ty : Tree) → e ≡ Three (HFun k) zs as' ty → body_for k None bodies ≡ None → image (rule_after s (λ z. z) bodies) e ≡ over_parts (rule_after s (λ z. z) bodies) e
  function_left k e zs as' ty q is =
      let left : LeavesUses (rule_after s (λ z. z) bodies) k = subst (IsFound s (of_task (task_at s task)) (rule_after s (λ z. z) bodies) k) is (found_here s task bodies r k) in
      ap (image (rule_after s (λ z. z) bodies)) q ∙ left.function _ _ _ ∙ sym (ap (over_parts (rule_after s (λ z. z) bodies)) q)

  pub predicate_left : (k : ℕ) (e zs as' : Tree) → e ≡ Two (HPred k) zs as' → body_for k None bodies ≡ None → image (rule_after s (λ z. z) bodies) e ≡ over_parts (rule_after s (λ z. z) bodies) e
  predicate_left k e zs as' q is =
      let left : LeavesUses (rule_after s (λ z. z) bodies) k = subst (IsFound s (of_task (task_at s task)) (rule_after s (λ z. z) bodies) k) is (found_here s task bodies r k) in
      ap (image (rule_after s (λ z. z) bodies)) q ∙ left.predicate _ _ ∙ sym (ap (over_parts (rule_after s (λ z. z) bodies)) q)

-- ---- nodes that are no uses
abbrev pub IsNoUse : Tree → Type 0
IsNoUse (Three (HFun k) a b c) = ⊥
IsNoUse (Two (HPred k) a b) = ⊥
IsNoUse _ = Unit {0}

use_passes : (k : ℕ) (body : Tree) (f : Tree → Tree) (e : Tree) → IsNoUse e → use_rule k body f e ≡ f e
use_passes k body f (Three (HFun j) a b c) n = absurd n
use_passes k body f (Two (HPred j) a b) n = absurd n
use_passes k body f e n = refl

rule_passes : (s : List Tree) (bodies : List FullBody) (f : Tree → Tree) (e : Tree) → IsNoUse e → rule_after s f bodies e ≡ f e
rule_passes s [] f e n = refl
rule_passes s (x ∷ xs) f e n = rule_passes s xs (use_rule x.symbol (image f (tree_at s x.body)) f) e n ∙ use_passes x.symbol (image f (tree_at s x.body)) f e n

over_no_use : (f : Tree → Tree) (e : Tree) → IsNoUse e → IsNoUse (over_parts f e)
over_no_use f (Leaf h) n = tt
over_no_use f (One h a) n = tt
over_no_use f (Two (HPred k) a b) n = absurd n
over_no_use f (Two _ a b) n = tt
over_no_use f (Three (HFun k) a b c) n = absurd n
over_no_use f (Three _ a b c) n = tt

pub others_left : (s : List Tree) (bodies : List FullBody) (e : Tree) → IsNoUse e → image (rule_after s (λ z. z) bodies) e ≡ over_parts (rule_after s (λ z. z) bodies) e
others_left s bodies e n =
    image_over (rule_after s (λ z. z) bodies) e ∙ rule_passes s bodies (λ z. z) (over_parts (rule_after s (λ z. z) bodies) e) (over_no_use (rule_after s (λ z. z) bodies) e n)

pub no_use : (s : List Tree) (n : Node) → ((f : ℕ) (a b c : TermId) → n ≡ Fun f a b c → ⊥) → ((p : ℕ) (a b : TermId) → n ≡ Pred p a b → ⊥) → IsNoUse (node_tree s n)
no_use s (Fun f a b c) g h = absurd (g f a b c refl)
no_use s (Pred p a b) g h = absurd (h p a b refl)
no_use s _ g h = tt
