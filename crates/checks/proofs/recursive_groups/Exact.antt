-- The test of recursive groups is exactly what the checks of declarations call recursive.
use Rattle.std.proofs.Common.{◌≡◌, ◌↔◌, ℕ, ◌||◌, not, Bool, true, false, IsTrue, List, [], ◌∷◌, refl, sym}
use Rattle.std.proofs.lemmas.Bool.Decides.{Decides-or}
use Rattle.trees.specs.Tree.{Tree, Leaf, One, Two, Three, Head, HFun, HPred}
use Rattle.tasks.specs.Task.{DefinitionTree}
use Rattle.tasks.proofs.Declared.{no, any_iff}
use Rattle.checks.specs.decl_checks.Structure.{defining_body, defined, TopUses, Uses, SomeUses, IsRecursive}
use Rattle.checks.specs.node_tests.Each.{EachNode}
use Rattle.checks.specs.recursive_groups.Groups.{top_uses, TopLacks, uses, some_uses, is_recursive}

module _ (group : List ℕ) where
  two_exact : (h : Head) (a b : Tree) → IsTrue (top_uses group (Two h a b)) ↔ TopUses group (Two h a b)
  two_exact (HPred p) a b = any_iff p group
  two_exact _ a b = no (λ u. u)

  three_exact : (h : Head) (a b c : Tree) → IsTrue (top_uses group (Three h a b c)) ↔ TopUses group (Three h a b c)
  three_exact (HFun f) a b c = any_iff f group
  three_exact _ a b c = no (λ u. u)

  uses_exact : (e : Tree) → IsTrue (uses group e) ↔ Uses group e
  uses_exact (Leaf h) = no (λ u. u)
  uses_exact (One h a) = uses_exact a
  uses_exact (Two h a b) = Decides-or (top_uses group (Two h a b)) (uses group a || uses group b) (two_exact h a b) (Decides-or (uses group a) (uses group b) (uses_exact a) (uses_exact b))
  uses_exact (Three h a b c) = Decides-or (top_uses group (Three h a b c)) (uses group a || (uses group b || uses group c)) (three_exact h a b c)
      (Decides-or (uses group a) (uses group b || uses group c) (uses_exact a) (Decides-or (uses group b) (uses group c) (uses_exact b) (uses_exact c)))

  some_exact : (ds : List DefinitionTree) → IsTrue (some_uses group ds) ↔ SomeUses group ds
  some_exact [] = no (λ u. u)
  some_exact (d ∷ ds) = Decides-or (uses group (defining_body d.equation)) (some_uses group ds) (uses_exact (defining_body d.equation)) (some_exact ds)

pub recursive_exact : (ds : List DefinitionTree) → IsTrue (is_recursive ds) ↔ IsRecursive ds
recursive_exact ds = some_exact (defined ds) ds

-- ---- no node of a tree uses a member, or the tree does
neither : (a b : Bool) → a || b ≡ false → (a ≡ false) × (b ≡ false)
neither true b e = absurd (cc)
neither false b e = (refl, e)

either : (a b : Bool) → a ≡ false → b ≡ false → a || b ≡ false
either true b p q = absurd (cc)
either false b p q = q

module _ (group : List ℕ) where
  lacks : (e : Tree) → EachNode (TopLacks group) e → uses group e ≡ false
  lacks (Leaf h) n = refl
  lacks (One h a) n = lacks a n.1
  lacks (Two h a b) n = either (top_uses group (Two h a b)) (uses group a || uses group b) n.0 (either (uses group a) (uses group b) (lacks a n.1) (lacks b n.2))
  lacks (Three h a b c) n = either (top_uses group (Three h a b c)) (uses group a || (uses group b || uses group c)) n.0
      (either (uses group a) (uses group b || uses group c) (lacks a n.1) (either (uses group b) (uses group c) (lacks b n.2) (lacks c n.3)))

  each_lacks : (e : Tree) → uses group e ≡ false → EachNode (TopLacks group) e
  each_lacks (Leaf h) n = refl
  each_lacks (One h a) n = (refl, each_lacks a n)
  each_lacks (Two h a b) n =
      let p = neither (top_uses group (Two h a b)) (uses group a || uses group b) n in
      let q = neither (uses group a) (uses group b) p.1 in
      (p.0, each_lacks a q.0, each_lacks b q.1)
  each_lacks (Three h a b c) n =
      let p = neither (top_uses group (Three h a b c)) (uses group a || (uses group b || uses group c)) n in
      let q = neither (uses group a) (uses group b || uses group c) p.1 in
      let r = neither (uses group b) (uses group c) q.1 in
      (p.0, each_lacks a q.0, each_lacks b r.0, each_lacks c r.1)

  used_by : (b u : Bool) → (IsTrue b → u ≡ false) → (u ≡ false → IsTrue b) → not b ≡ u
  used_by true u p q = sym (p refl)
  used_by false true p q = refl
  used_by false false p q = absurd (let t = q refl in cc)

  pub used_or_not : (e : Tree) (b : Bool) → (IsTrue b ↔ EachNode (TopLacks group) e) → not b ≡ uses group e
  used_or_not e b h = used_by b (uses group e) (λ t. lacks e (h.0 t)) (λ u. h.1 (each_lacks e u))
