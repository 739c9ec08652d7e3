-- A formula with one definition more inlined.
use Rattle.std.proofs.Common.{◌≡◌, ℕ, suc, ◌+◌, ◌≤◌, List, [], ◌∷◌, ◌++◌, length, get_or, All, subst, refl, sym, ap, ◌∙◌, append_assoc, arith}
use Rattle.std.proofs.lemmas.List.{append-nil}
use Rattle.trees.specs.declared.TermId.{TermId}
use Rattle.trees.specs.Tree.{Tree, above_params}
use Rattle.trees.specs.Node.{tree_at}
use Rattle.tasks.specs.declared.declaration.Def.{Def}
use Rattle.tasks.specs.Task.{TaskTree}
use Rattle.tasks.specs.Meaning.{definition_at, definitions_at}
use Rattle.evidence.specs.Drafts.{DraftTree, Extends, IsFormulaAt}
use Rattle.evidence.specs.Laws.{Extends_trans, AddsTrees_refl, AddsTrees_extends}
use Rattle.congruence.specs.declared.alike.AlikeBy.TheVariants as alike
use Rattle.congruence.proofs.Later.{tree_later}
use Rattle.checks.specs.decl_checks.Structure.{defining_body}
use Rattle.inlining.specs.Inlining.{unfold_rule, with_uses_unfolded, inlined}
use Rattle.inlining.specs.images.Images.{image}
use Rattle.walking.specs.declared.linked.Linked.{Linked}
use Rattle.walking.specs.Places.{IsInstanceAt, IsLinkOf}
use Rattle.walking.proofs.Closed.{closed_place}
use Rattle.tr_inline.specs.Definitions.{unfolding_rule, IsDefinedIn, AreDefinedIn, defined_later}
use Rattle.tr_inline.specs.Passed.{IsPartlyInlined}
use Rattle.tr_inline.proofs.Unfolded.{body_of}

pub link_start : (d : DraftTree) (formula : TermId) (n : ℕ) → IsFormulaAt d formula → above_params (tree_at d.trees formula) ≤ length d.task.params → n ≡ length d.task.params
    → IsLinkOf d [] formula n (tree_at d.trees formula) (record { image = formula; right = formula; alike = alike.Same })
link_start d formula n f l q = record { is = refl; place = subst (IsInstanceAt d [] formula formula) (sym q) (closed_place d formula f l); sort = refl; type = refl; shows = refl }

pub same_image : (d : DraftTree) (def : Def) → IsDefinedIn d def → (e : Tree) → image (unfolding_rule d.task def.symbol) e ≡ with_uses_unfolded (definition_at d.trees def) e
same_image d def r e = ap (λ (b : Tree). image (unfold_rule def.symbol b) e) (body_of d def r)

defined_at : (d : DraftTree) (def : Def) (done left : List Def) → AreDefinedIn d (left ++ def ∷ done) → IsDefinedIn d def
defined_at d def done [] a = a 0 def (omega arith)
defined_at d def done (z ∷ zs) a = defined_at d def done zs (λ k e l. a (suc k) e (omega arith))

none_left : (xs : List Def) → length xs ≡ 0 → xs ≡ []
none_left [] q = refl
none_left (x ∷ xs) q = absurd (omega (arith, q))

module _ (d : DraftTree) (formula : TermId) (n : ℕ) (defs : List Def) where
  pub passed_none : Extends d d → (made : Linked) → IsLinkOf d [] formula n (tree_at d.trees formula) made → IsPartlyInlined d d formula n defs defs made
  passed_none x made k = record { grows = x; done = []; are = sym (append-nil defs); link = k }

  module _ (d1 : DraftTree) (old : List Def) (made : Linked) (p : IsPartlyInlined d d1 formula n defs old made) where
    pub passed_all : length old ≡ 0 → IsLinkOf d1 [] formula n (inlined (definitions_at d.trees defs) (tree_at d.trees formula)) made
    passed_all q = subst (λ (ds : List Def). IsLinkOf d1 [] formula n (inlined (definitions_at d.trees ds) (tree_at d.trees formula)) made) (sym (p.are ∙ ap (λ (z : List Def). z ++ p.done) (none_left old q))) p.link

    -- the last one that is left
    module _ (left : List Def) (def : Def) (q : old ≡ left ++ def ∷ []) where
      all_are : defs ≡ left ++ def ∷ p.done
      all_are = p.are ∙ ap (λ (z : List Def). z ++ p.done) q ∙ append_assoc left (def ∷ []) p.done

      pub last_defined : AreDefinedIn d defs → IsDefinedIn d def
      last_defined h = defined_at d def p.done left (subst (AreDefinedIn d) all_are h)

      pub next_defined : AreDefinedIn d defs → IsDefinedIn d1 def
      next_defined h = defined_later d d1 p.grows def (last_defined h)

      pub passed_more : IsDefinedIn d def → (d2 : DraftTree) → Extends d1 d2 → (next : Linked) → IsLinkOf d2 [] formula n (with_uses_unfolded (definition_at d1.trees def) (tree_at d1.trees made.image)) next → IsPartlyInlined d d2 formula n defs left next
      passed_more r d2 y next k =
          let same : definition_at d1.trees def ≡ definition_at d.trees def = ap (λ (e : Tree). record { symbol = def.symbol; equation = e }) (tree_later d d1 p.grows def.equation r.held) in
          let e : with_uses_unfolded (definition_at d1.trees def) (tree_at d1.trees made.image) ≡ inlined (definitions_at d.trees (def ∷ p.done)) (tree_at d.trees formula) =
          ap (with_uses_unfolded (definition_at d1.trees def)) p.link.is ∙ ap (λ z. with_uses_unfolded z (inlined (definitions_at d.trees p.done) (tree_at d.trees formula))) same in
          record { grows = Extends_trans d d1 d2 p.grows y; done = def ∷ p.done; are = all_are; link = subst (λ (z : Tree). IsLinkOf d2 [] formula n z next) e k }

pub link_same : (d : DraftTree) (formula : TermId) (n : ℕ) (e : Tree) (made : Linked) → IsLinkOf d [] formula n e made → IsLinkOf d [] formula n (tree_at d.trees made.image) made
link_same d formula n e made k = record { is = refl; place = k.place; sort = k.sort; type = k.type; shows = k.shows }

pub extends_itself : (d : DraftTree) → Extends d d
extends_itself d = AddsTrees_extends d d (AddsTrees_refl d)
