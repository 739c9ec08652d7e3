-- Lists of numbers of one sort, and what branches of a match stand for, as a store grows.
use Rattle.std.proofs.Common.{◌≡◌, ℕ, ◌+◌, zero, suc, List, [], ◌∷◌, ◌++◌, take, drop, map, length, true, subst, sym, ap, ◌∙◌, arith, append_assoc}
use Rattle.std.proofs.lemmas.List.{length-map, map-append}
use Rattle.std.specs.List.{list_all}
use Rattle.trees.specs.declared.TermId.{TermId}
use Rattle.trees.specs.declared.Sort.{Sort}
use Rattle.trees.specs.declared.Sort.TheVariants.{Kind, Term}
use Rattle.trees.specs.Tree.{Tree, One, HBound}
use Rattle.trees.specs.Node.{tree_at, trees_at, Holds, Grows}
use Rattle.trees.specs.Sorts.{sort_of, IsList}
use Rattle.trees.specs.binders.Visits.{AreHeldOfSort, trees_stay}
use Rattle.tasks.specs.Typing.{members}
use Rattle.tr_inline.specs.inlining.branch_equations.Branches.{is_plain_field, variables_above}
use Rattle.tr_recursion.specs.declared.recursion_forms.branches.Branch.{Branch}
use Rattle.tr_recursion.specs.recursion_forms.Read.{constructor_branch_at, IsBranchHeld}

pub held_append : (sort : Sort) (s : List Tree) (ids more : List TermId) → AreHeldOfSort sort s ids → AreHeldOfSort sort s more → AreHeldOfSort sort s (ids ++ more)
held_append sort s [] more h k = k
held_append sort s (id ∷ ids) more h k = (h.0, held_append sort s ids more h.1 k)

pub held_take : (sort : Sort) (s : List Tree) (n : ℕ) (ids : List TermId) → AreHeldOfSort sort s ids → AreHeldOfSort sort s (take n ids)
held_take sort s zero ids h = tt
held_take sort s (suc n) [] h = tt
held_take sort s (suc n) (id ∷ ids) h = (h.0, held_take sort s n ids h.1)

pub held_drop : (sort : Sort) (s : List Tree) (n : ℕ) (ids : List TermId) → AreHeldOfSort sort s ids → AreHeldOfSort sort s (drop n ids)
held_drop sort s zero ids h = h
held_drop sort s (suc n) [] h = tt
held_drop sort s (suc n) (id ∷ ids) h = held_drop sort s n ids h.1

-- the first one, and the others
pub held_split : (sort : Sort) (s : List Tree) (ids : List TermId) (x : TermId) (rest : List TermId) → ids ≡ x ∷ rest → AreHeldOfSort sort s ids → AreHeldOfSort sort s (x ∷ rest)
held_split sort s ids x rest e h = subst (AreHeldOfSort sort s) e h

-- one more, over a store that grew
pub one_more : (sort : Sort) (s s1 : List Tree) (g : Grows s s1) (ids new : List TermId) (id : TermId) (e : Tree) → AreHeldOfSort sort s ids → new ≡ ids ++ id ∷ [] → tree_at s1 id ≡ e → trees_at s1 new ≡ trees_at s ids ++ e ∷ []
one_more sort s s1 g ids new id e h q t =
    ap (trees_at s1) q ∙ map-append (tree_at s1) ids (id ∷ []) ∙ ap (λ (z : List Tree). z ++ tree_at s1 id ∷ []) (trees_stay sort s s1 ids g h) ∙ ap (λ (z : Tree). trees_at s ids ++ z ∷ []) t

-- one variable more
pub variables_more : (s s1 : List Tree) (g : Grows s s1) (below : ℕ) (types : List TermId) (ty : TermId) (rest old one : List TermId) (made : TermId) (last : List Tree) → types ≡ ty ∷ rest → AreHeldOfSort Kind s types → AreHeldOfSort Term s old
    → one ≡ old ++ made ∷ [] → tree_at s1 made ≡ One (HBound (length rest + below)) (tree_at s ty) → last ≡ trees_at s1 one ++ variables_above below (trees_at s1 rest) → last ≡ trees_at s old ++ variables_above below (trees_at s types)
variables_more s s1 g below types ty rest old one made last q h k o e r =
    let x = One (HBound (length rest + below)) (tree_at s ty) in
    r
    ∙ ap (λ (z : List Tree). z ++ variables_above below (trees_at s1 rest)) (one_more Term s s1 g old one made x k o e)
    ∙ ap (λ (z : List Tree). (trees_at s old ++ x ∷ []) ++ variables_above below z) (trees_stay Kind s s1 rest g (held_split Kind s types ty rest q h).1)
    ∙ append_assoc (trees_at s old) (x ∷ []) (variables_above below (trees_at s rest))
    ∙ ap (λ (n : ℕ). trees_at s old ++ One (HBound (n + below)) (tree_at s ty) ∷ variables_above below (trees_at s rest)) (sym (length-map rest (tree_at s)))
    ∙ ap (λ (ids : List TermId). trees_at s old ++ variables_above below (trees_at s ids)) (sym q)

module _ (s s1 : List Tree) (g : Grows s s1) (b : Branch) (h : IsBranchHeld s b) where
  pub branch_same : constructor_branch_at s1 b ≡ constructor_branch_at s b
  branch_same =
      let types = g.same b.types.0 h.types in
      let fields = g.same b.fields.0 h.fields in
      let type = g.same b.ty.0 h.type in
      let body = g.same b.body.0 h.body in
      ap (λ (z : Tree). record { symbol = b.symbol; types = z; fields = members (tree_at s1 b.fields); type = tree_at s1 b.ty; body = tree_at s1 b.body }) types
      ∙ ap (λ (z : Tree). record { symbol = b.symbol; types = tree_at s b.types; fields = members z; type = tree_at s1 b.ty; body = tree_at s1 b.body }) fields
      ∙ ap (λ (z : Tree). record { symbol = b.symbol; types = tree_at s b.types; fields = members (tree_at s b.fields); type = z; body = tree_at s1 b.body }) type
      ∙ ap (λ (z : Tree). record { symbol = b.symbol; types = tree_at s b.types; fields = members (tree_at s b.fields); type = tree_at s b.ty; body = z }) body

  pub branch_held_later : IsBranchHeld s1 b
  branch_held_later =
      let fields = g.same b.fields.0 h.fields in
      record {
        types = omega (arith, h.types, g.longer);
        kinds = subst (IsList Kind) (sym (g.same b.types.0 h.types)) h.kinds;
        fields = omega (arith, h.fields, g.longer);
        plain = ap (λ (z : Tree). list_all is_plain_field (members z)) fields ∙ h.plain;
        type = omega (arith, h.type, g.longer);
        kind = ap sort_of (g.same b.ty.0 h.type) ∙ h.kind;
        body = omega (arith, h.body, g.longer);
      }
