-- A use unfolded: the open one, and its instance, which is the closed use unfolded.
use Rattle.std.proofs.Common.{◌≡◌, ℕ, ◌==◌, inl, inr, Bool, true, false, if◌then◌else◌, List, length, Option, subst, refl, sym, ap, ◌∙◌, arith}
use Rattle.std.proofs.lemmas.Bool.Decides.{nat_tests}
use Rattle.trees.specs.declared.TermId.{TermId}
use Rattle.trees.specs.Tree.{Tree, Two, Three, HFun, HPred}
use Rattle.trees.specs.Binding.{instantiating_many, inst_many, AreClosed}
use Rattle.trees.specs.Node.{tree_at, trees_at, Holds}
use Rattle.trees.specs.declared.Sort.TheVariants.{Kind, Term}
use Rattle.trees.specs.Sorts.{WellSorted, sort_of, type_of, IsExpression, IsList}
use Rattle.tasks.specs.declared.declaration.Def.{Def}
use Rattle.tasks.specs.Task.{TaskTree, PropositionTree}
use Rattle.tasks.specs.Meaning.{definition_at}
use Rattle.tasks.specs.Vocabulary.{of_task}
use Rattle.tasks.proofs.TypeInstances.{IsSoundVocabulary, sound_task}
use Rattle.evidence.specs.Drafts.{DraftTree, Extends}
use Rattle.evidence.specs.Laws.{Extends_trans}
use Rattle.congruence.specs.declared.alike.AlikeBy.{AlikeBy}
use Rattle.congruence.specs.declared.alike.AlikeBy.TheVariants as alike
use Rattle.congruence.specs.Alike.{ArePair, Shows}
use Rattle.congruence.proofs.Later.{tree_later, held_later, closed_later, pair_later}
use Rattle.congruence.proofs.tasks.typed_trees.instances.Typed.{many_type}
use Rattle.checks.specs.decl_checks.Structure.{defining_body}
use Rattle.inlining.specs.Inlining.{use_body, unfold_rule}
use Rattle.inlining.specs.images.Images.{KeepsTree}
use Rattle.inlining.specs.images.Open.{IsOpenUnder}
use Rattle.inlining.proofs.images.Environments.{closed_for}
use Rattle.inlining.proofs.images.typing_laws.Sorted.{typed_has}
use Rattle.inlining.proofs.Bodies.{IsBody, defined_body}
use Rattle.inlining.proofs.Uses.{unfold_node_rule}
use Rattle.inlining.proofs.OpenInstances.{many_natural}
use Rattle.inlining.proofs.ImageChanges.{IsNoVariable}
use Rattle.inlining.proofs.UsesChanged.{rule_acts_alike}
use Rattle.walking.specs.Places.{types_for, IsInstanceAt, IsLinkOf}
use Rattle.walking.proofs.Places.{place_closed, place_sort}
use Rattle.walking.proofs.PlacesLater.{trees_later, place_later}
use Rattle.walking.proofs.Placed.{placed}
use Rattle.tr_inline.specs.Uses.{IsUseOf, IsNoUse}
use Rattle.tr_inline.specs.Definitions.{formula_or_end, body_in, unfolding_rule, IsDefinedIn}
use Rattle.tr_inline.specs.Unfolded.{AreUnfolded}
use Rattle.trees.proofs.Many.{closed_terms as closed_patterns}

-- ---- the rule
same_number : (k : ℕ) → (k == k) ≡ true
same_number k = grind (arith, nat_tests)

pub use_rule : (k : ℕ) (body e zs ts : Tree) → IsUseOf k e zs ts → unfold_rule k body e ≡ use_body body zs ts
use_rule k body e zs ts (inl p) = ap (unfold_rule k body) p.1 ∙ ap (λ (b : Bool). if b then use_body body zs ts else Three (HFun k) zs ts p.0) (same_number k)
use_rule k body e zs ts (inr p) = ap (unfold_rule k body) p ∙ ap (λ (b : Bool). if b then use_body body zs ts else Two (HPred k) zs ts) (same_number k)

pub no_use : (k : ℕ) (body e : Tree) → IsNoUse k e → unfold_rule k body e ≡ e
no_use k body (Three (HFun f) zs ts ty) n = by (f == k) refl
  where
    by : (b : Bool) → (f == k) ≡ b → (if b then use_body body zs ts else Three (HFun f) zs ts ty) ≡ Three (HFun f) zs ts ty
    by true q = absurd (n zs ts (inl (ty, ap (λ (i : ℕ). Three (HFun i) zs ts ty) (let m : f ≡ k = grind (arith, nat_tests, q) in m))))
    by false q = refl
no_use k body (Two (HPred f) zs ts) n = by (f == k) refl
  where
    by : (b : Bool) → (f == k) ≡ b → (if b then use_body body zs ts else Two (HPred f) zs ts) ≡ Two (HPred f) zs ts
    by true q = absurd (n zs ts (inr (ap (λ (i : ℕ). Two (HPred i) zs ts) (let m : f ≡ k = grind (arith, nat_tests, q) in m))))
    by false q = refl
no_use k body e n = refl

no_variable : (k : ℕ) (e zs ts : Tree) → IsUseOf k e zs ts → IsNoVariable e
no_variable k e zs ts (inl p) = subst IsNoVariable (sym p.1) tt
no_variable k e zs ts (inr p) = subst IsNoVariable (sym p) tt

-- the lists of a use
pub use_lists : (k : ℕ) (e zs ts : Tree) → IsUseOf k e zs ts → WellSorted e → IsList Kind zs × IsList Term ts
use_lists k e zs ts (inl p) w = let x : WellSorted (Three (HFun k) zs ts p.0) = subst WellSorted p.1 w in (x.0.0, x.0.1)
use_lists k e zs ts (inr p) w = let x : WellSorted (Two (HPred k) zs ts) = subst WellSorted p w in (x.0.0.0, x.0.0.1)

-- a use with closed terms put in
pub use_instance : (k : ℕ) (e zs ts : Tree) → IsUseOf k e zs ts → (us : List Tree) → IsUseOf k (inst_many e us) (inst_many zs us) (inst_many ts us)
use_instance k e zs ts (inl p) us = inl (inst_many p.0 us, ap (λ (z : Tree). inst_many z us) p.1)
use_instance k e zs ts (inr p) us = inr (ap (λ (z : Tree). inst_many z us) p)

pub use_same : (k : ℕ) (e f zs ts : Tree) → f ≡ e → IsUseOf k e zs ts → IsUseOf k f zs ts
use_same k e f zs ts q u = subst (λ (z : Tree). IsUseOf k z zs ts) (sym q) u

-- ---- definitions
pub body_of : (d : DraftTree) (def : Def) → IsDefinedIn d def → body_in d.task def.symbol ≡ defining_body (tree_at d.trees def.equation)
body_of d def r = ap (λ (o : Option PropositionTree). defining_body (formula_or_end o)) r.named

-- ---- the use
module _ (d d1 d2 : DraftTree) (x : Extends d d1) (y : Extends d1 d2) (def : Def) (r : IsDefinedIn d def) (env : List TermId) (e left : TermId) (n : ℕ) (p : IsInstanceAt d env e left n) (zs ts : Tree) (u : IsUseOf def.symbol (tree_at d.trees e) zs ts)
    (image right : TermId) (hi : Holds d1.trees image) (ei : tree_at d1.trees image ≡ unfolding_rule d.task def.symbol (tree_at d.trees e)) (hr : Holds d2.trees right) (er : tree_at d2.trees right ≡ inst_many (tree_at d1.trees image) (trees_at d1.trees env))
    (sorted : WellSorted (tree_at d1.trees image)) where
  abbrev E : List Tree
  E = trees_at d.trees env

  abbrev W : Tree
  W = unfolding_rule d.task def.symbol (tree_at d.trees e)

  sound : IsSoundVocabulary (of_task d.task)
  sound = sound_task d.task r.valid

  is_body : IsBody (of_task d.task) def.symbol (body_in d.task def.symbol)
  is_body = subst (IsBody (of_task d.task) def.symbol) (sym (body_of d def r)) (defined_body (of_task d.task) (definition_at d.trees def) r.defined)

  kept : KeepsTree (of_task d.task) (types_for E) (tree_at d.trees e) W
  kept = (unfold_node_rule (of_task d.task) sound def.symbol (body_in d.task def.symbol) is_body).keeps (types_for E) (tree_at d.trees e) p.sort p.at.shape.typed (subst WellSorted ei sorted)

  made_place : IsInstanceAt d2 env image right n
  made_place =
      let shape : IsOpenUnder d.task (types_for E) W n = record { typed = kept.typed; ground = kept.variables 0 p.at.shape.ground; above = kept.above n p.at.shape.above } in
      placed d d1 d2 x y env n W p.env_held p.at.around shape (subst IsExpression (sym kept.sort) p.sort) (kept.above (length d.task.params) p.own) p.order image right hi ei hr er

  closed : AreClosed E
  closed = closed_for (of_task d.task) (types_for E) E p.at.around.terms

  right_at : tree_at d2.trees right ≡ inst_many W E
  right_at = er ∙ ap (λ (z : Tree). inst_many z (trees_at d1.trees env)) ei ∙ ap (inst_many W) (trees_later d d1 x env p.env_held)

  right_is : tree_at d2.trees right ≡ unfolding_rule d.task def.symbol (tree_at d.trees left)
  right_is =
      let natural = many_natural E (closed_patterns E closed) in
      let acts = rule_acts_alike (of_task d.task) sound def.symbol (body_in d.task def.symbol) is_body (instantiating_many E) natural in
      let h = typed_has (of_task d.task) (types_for E) (tree_at d.trees e) p.at.shape.typed in
      right_at ∙ sym (acts.nodes (types_for E) (tree_at d.trees e) 0 (no_variable def.symbol (tree_at d.trees e) zs ts u) h) ∙ ap (unfolding_rule d.task def.symbol) (sym p.at.is)

  pair : ArePair d2 left right
  pair =
      let xy = Extends_trans d d1 d2 x y in
      let l : tree_at d2.trees left ≡ tree_at d.trees left = tree_later d d2 xy left p.left_held in
      let i : tree_at d2.trees image ≡ W = tree_later d1 d2 y image hi ∙ ei in
      record {
        left = closed_later d d2 xy left (place_closed d env e left n p);
        right = place_closed d2 env image right n made_place;
        sort = place_sort d2 env image right n made_place ∙ ap sort_of i ∙ kept.sort ∙ sym (place_sort d env e left n p) ∙ ap sort_of (sym l);
        type = ap type_of right_at ∙ many_type (of_task d.task) (types_for E) E p.at.around.terms W kept.typed ∙ kept.type
            ∙ sym (many_type (of_task d.task) (types_for E) E p.at.around.terms (tree_at d.trees e) p.at.shape.typed) ∙ ap type_of (sym p.at.is) ∙ ap type_of (sym l);
      }

  pub unfolded : AreUnfolded d d2 env e left n def.symbol image right
  unfolded = record { place = made_place; image_is = tree_later d1 d2 y image hi ∙ ei; right_is = right_is; pair = pair }

-- ---- later
module _ (d d1 : DraftTree) (x : Extends d d1) (k : ℕ) (env : List TermId) (e left : TermId) (n : ℕ) (p : IsInstanceAt d env e left n) where
  pub left_use : (zs ts : Tree) → IsUseOf k (tree_at d.trees e) zs ts → (zs' : Tree) × ((ts' : Tree) × IsUseOf k (tree_at d1.trees left) zs' ts')
  left_use zs ts u =
      let us = trees_at d.trees env in
      (inst_many zs us, (inst_many ts us, use_same k (inst_many (tree_at d.trees e) us) (tree_at d1.trees left) (inst_many zs us) (inst_many ts us) (tree_later d d1 x left p.left_held ∙ p.at.is) (use_instance k (tree_at d.trees e) zs ts u us)))

  pub right_later : (right : TermId) → tree_at d1.trees right ≡ unfolding_rule d.task k (tree_at d.trees left) → tree_at d1.trees right ≡ unfolding_rule d1.task k (tree_at d1.trees left)
  right_later right q = q ∙ ap (λ (t : TaskTree). unfolding_rule t k (tree_at d.trees left)) (sym x.task) ∙ ap (unfolding_rule d1.task k) (sym (tree_later d d1 x left p.left_held))

  pub use_link : (image right : TermId) → AreUnfolded d d1 env e left n k image right → (d2 : DraftTree) → Extends d1 d2 → (w : AlikeBy) → Shows d2 w (tree_at d1.trees left) (tree_at d1.trees right)
      → IsLinkOf d2 env left n (unfolding_rule d.task k (tree_at d.trees e)) (record { image = image; right = right; alike = w })
  use_link image right u d2 y w s =
      let q = pair_later d1 d2 y left right u.pair in
      record {
        is = tree_later d1 d2 y image u.place.open_held ∙ u.image_is;
        place = place_later d1 d2 y env image right n u.place;
        sort = q.sort;
        type = q.type;
        shows = subst (λ (z : Tree). Shows d2 w z (tree_at d2.trees right)) (sym (tree_later d1 d2 y left (held_later d d1 x left p.left_held)))
            (subst (λ (z : Tree). Shows d2 w (tree_at d1.trees left) z) (sym (tree_later d1 d2 y right u.place.left_held)) s);
      }

-- a node that is no use
pub other_link : (d : DraftTree) (k : ℕ) (env : List TermId) (e left : TermId) (n : ℕ) → IsInstanceAt d env e left n → IsNoUse k (tree_at d.trees e) → IsLinkOf d env left n (unfolding_rule d.task k (tree_at d.trees e)) (record { image = e; right = left; alike = alike.Same })
other_link d k env e left n p u = record { is = sym (no_use k (body_in d.task k) (tree_at d.trees e) u); place = p; sort = refl; type = refl; shows = refl }
