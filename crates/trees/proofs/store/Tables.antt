-- The table of a store, its nodes with what is kept beside them, as it grows.
use Rattle.std.proofs.Common.{zero, suc, cond, Bool, true, false, ◌≡◌, ◌≢◌, ℕ, ◌+◌, ◌<◌, ◌⊎◌, inl, inr, List, [], ◌∷◌, ◌++◌, Option, Some, None, is_some, length, get_or, slice_get, position, refl, sym, ap, ◌∙◌, arith}
use Rattle.std.specs.Map.{keys_of, values_of, lookup}
use Rattle.std.proofs.lemmas.List.{length_push, get_or_append_left, get_or_push, get_or_default}
use Rattle.std.proofs.lemmas.List.Quantifiers.{position-Some}
use Rattle.trees.specs.declared.Node.{Node}
use Rattle.trees.specs.declared.Node.TheVariants.{End}
use Rattle.trees.specs.declared.TermId.{TermId}
use Rattle.trees.specs.contracts.NodePartialEq.TheImpl.{ghosts}
use Rattle.trees.specs.Tree.{Tree, Leaf, HEnd}
use Rattle.trees.specs.Node.{tree_at, Holds, HasTree, node_tree, parts_of, AreBelow, Grows}
use Rattle.trees.specs.Sorts.{Fits, yield_type}
use Rattle.trees.proofs.SameNodes.{node_eq, node_eq_refl}
use Rattle.trees.specs.declared.store.kept.Summary.{Summary}
use Rattle.trees.specs.store.Nodes.{trees_of, IsSound}
use Rattle.trees.specs.store.Kept.{IsTypeId, IsKeptSummary, HasInt, IsSoundTable, empty_summary}
use Rattle.trees.proofs.store.NodeLists.{length-trees_of, trees_of-push, Grows_push, IsSound-push, fresh, held, tree_is, below_is}

abbrev pub Table : Type 0
Table = List (Node × Summary)

pub length_keys : (es : Table) → length (keys_of es) ≡ length es
length_keys [] = refl
length_keys (e ∷ es) = ap suc (length_keys es)

length_values : (es : Table) → length (values_of es) ≡ length es
length_values [] = refl
length_values (e ∷ es) = ap suc (length_values es)

keys_push : (es : Table) (e : Node × Summary) → keys_of (es ++ e ∷ []) ≡ keys_of es ++ e.0 ∷ []
keys_push [] e = refl
keys_push (x ∷ es) e = ap (λ (l : List Node). x.0 ∷ l) (keys_push es e)

values_push : (es : Table) (e : Node × Summary) → values_of (es ++ e ∷ []) ≡ values_of es ++ e.1 ∷ []
values_push [] e = refl
values_push (x ∷ es) e = ap (λ (l : List Summary). x.1 ∷ l) (values_push es e)

-- ---- an entry that is read
pub entry_within : (es : Table) (k : ℕ) (n : Node) (f : Summary) → Some (n, f) ≡ slice_get es k → k < length es
entry_within [] k n f h = absurd (cc)
entry_within (x ∷ es) zero n f h = omega arith
entry_within (x ∷ es) (suc k) n f h = let l = entry_within es k n f h in omega arith

pub entry_node : (es : Table) (k : ℕ) (n : Node) (f : Summary) → Some (n, f) ≡ slice_get es k → get_or (keys_of es) k End ≡ n
entry_node [] k n f h = absurd (cc)
entry_node (x ∷ es) zero n f h = let e : (n, f) ≡ x = cc in sym (ap (λ (p : Node × Summary). p.0) e)
entry_node (x ∷ es) (suc k) n f h = entry_node es k n f h

pub entry_summary : (es : Table) (k : ℕ) (n : Node) (f : Summary) → Some (n, f) ≡ slice_get es k → get_or (values_of es) k empty_summary ≡ f
entry_summary [] k n f h = absurd (cc)
entry_summary (x ∷ es) zero n f h = let e : (n, f) ≡ x = cc in sym (ap (λ (p : Node × Summary). p.1) e)
entry_summary (x ∷ es) (suc k) n f h = entry_summary es k n f h

module _ (es : Table) (s : List Tree) (is : trees_of (keys_of es) ≡ s) where
  pub length_table : length es ≡ length s
  length_table = omega (arith, length_keys es, length-trees_of (keys_of es), ap length is)

  module _ (sound : IsSoundTable es) (id : TermId) (h : Holds s id) (n : Node) (f : Summary) (e : Some (n, f) ≡ slice_get es id.0) where
    read : n ≡ get_or (keys_of es) id.0 n
    read = sym (entry_node es id.0 n f e) ∙ get_or_default (keys_of es) id.0 End n (held (keys_of es) s is id h)

    pub table_tree : tree_at s id ≡ node_tree s n
    table_tree = tree_is (keys_of es) s is sound.sound id h n read

    pub table_below : AreBelow id.0 (parts_of n)
    table_below = below_is (keys_of es) s is sound.sound id h n read

    pub table_summary : IsKeptSummary s f (tree_at s id)
    table_summary = rw (← is, ← entry_summary es id.0 n f e) (sound.kept id.0 (entry_within es id.0 n f e))

-- ---- what is kept stays right
IsTypeId-grows : (s t : List Tree) (r : Option TermId) (ty : Option Tree) → Grows s t → IsTypeId s r ty → IsTypeId t r ty
IsTypeId-grows s t None ty g h = h
IsTypeId-grows s t (Some id) ty g h = (omega (arith, g.longer, h.0), h.1 ∙ ap Some (sym (g.same id.0 h.0)))

IsKept-grows : (s t : List Tree) (f : Summary) (e : Tree) → Grows s t → IsKeptSummary s f e → IsKeptSummary t f e
IsKept-grows s t f e g h = record {
  size = h.size;
  height = h.height;
  loose = h.loose;
  variables = h.variables;
  above_types = h.above_types;
  above_params = h.above_params;
  sort = h.sort;
  ty = IsTypeId-grows s t f.ty (yield_type e) g h.ty;
}

pub HasInt-grows : (s t : List Tree) → Grows s t → HasInt s → HasInt t
HasInt-grows s t g h = record { held = omega (arith, g.longer, h.held); is = g.same 1 h.held ∙ h.is }

-- ---- a new entry
module _ (es : Table) (n : Node) (f : Summary) (sound : IsSound (keys_of es)) (below : AreBelow (length (keys_of es)) (parts_of n)) (fits : Fits (node_tree (trees_of (keys_of es)) n))
    (new : (k : ℕ) → k < length (keys_of es) → get_or (keys_of es) k End ≢ n) where
  abbrev s : List Tree
  s = trees_of (keys_of es)

  abbrev after : Table
  after = es ++ (n, f) ∷ []

  trees_after : trees_of (keys_of after) ≡ s ++ node_tree s n ∷ []
  trees_after = ap trees_of (keys_push es (n, f)) ∙ trees_of-push (keys_of es) n

  pub grows_after : Grows s (trees_of (keys_of after))
  grows_after = rw trees_after (Grows_push s (node_tree s n))

  pub sound_after : IsSound (keys_of after)
  sound_after = rw (keys_push es (n, f)) (IsSound-push (keys_of es) n sound below fits new)

  module _ (kept : (k : ℕ) → k < length es → IsKeptSummary s (get_or (values_of es) k empty_summary) (get_or s k (Leaf HEnd))) (own : IsKeptSummary s f (node_tree s n)) where
    at : (k : ℕ) → k < length after → (k < length es) ⊎ (k ≡ length es)
    at k h = let w : length after ≡ length es + 1 = length_push es (n, f) in grind arith

    kept_at : (k : ℕ) → (k < length es) ⊎ (k ≡ length es) → IsKeptSummary (s ++ node_tree s n ∷ []) (get_or (values_of es ++ f ∷ []) k empty_summary) (get_or (s ++ node_tree s n ∷ []) k (Leaf HEnd))
    kept_at k (inl h) =
        rw (
          get_or_append_left (values_of es) (f ∷ []) empty_summary k (omega (arith, length_values es)),
          get_or_append_left s (node_tree s n ∷ []) (Leaf HEnd) k (omega (arith, length_keys es, length-trees_of (keys_of es))),
        )
        (IsKept-grows s (s ++ node_tree s n ∷ []) (get_or (values_of es) k empty_summary) (get_or s k (Leaf HEnd)) (Grows_push s (node_tree s n)) (kept k h))
    kept_at k (inr h) =
        rw (
          get_or_push (values_of es) f empty_summary k (omega (arith, length_values es)),
          get_or_push s (node_tree s n) (Leaf HEnd) k (omega (arith, length_keys es, length-trees_of (keys_of es))),
        )
        (IsKept-grows s (s ++ node_tree s n ∷ []) f (node_tree s n) (Grows_push s (node_tree s n)) own)

    pub kept_after : (k : ℕ) → k < length after → IsKeptSummary (trees_of (keys_of after)) (get_or (values_of after) k empty_summary) (get_or (trees_of (keys_of after)) k (Leaf HEnd))
    kept_after k h = rw (trees_after, values_push es (n, f)) (kept_at k (at k h))

    pub table_after : HasInt s → IsSoundTable after
    table_after int = record { sound = sound_after; int = HasInt-grows s (trees_of (keys_of after)) grows_after int; kept = kept_after }

-- ---- a node that is looked for
abbrev eq : Node → Node → Bool
eq a b = (ghosts).eq a b

module _ (es : Table) (n : Node) where
  pub looked_in : (k : ℕ) → Some k ≡ position (eq n) (keys_of es) → (k < length es) × (get_or (keys_of es) k End ≡ n)
  looked_in k h =
      let p = position-Some (eq n) (keys_of es) k End (sym h) in
      (omega (arith, p.0, length_keys es), sym (node_eq n (get_or (keys_of es) k End) p.1))

  -- where a look-up gives nothing, no key passes
  module _ (t : Node → Bool) where
    tail_by : (e : Node × Summary) (fs : Table) (b : Bool) → t e.0 ≡ b → cond b (Some e.1) (lookup t fs) ≡ None → (t e.0 ≡ false) × (lookup t fs ≡ None)
    tail_by e fs true q h = absurd (cc)
    tail_by e fs false q h = (q, h)

    pub lookup_none : (fs : Table) → lookup t fs ≡ None → (k : ℕ) → k < length (keys_of fs) → t (get_or (keys_of fs) k End) ≡ false
    lookup_none [] h k l = absurd (omega arith)
    lookup_none (e ∷ fs) h zero l = (tail_by e fs (t e.0) refl h).0
    lookup_none (e ∷ fs) h (suc k) l = lookup_none fs (tail_by e fs (t e.0) refl h).1 k (omega arith)

  pub looked_out : lookup (eq n) es ≡ None → (k : ℕ) → k < length (keys_of es) → get_or (keys_of es) k End ≢ n
  looked_out h k l q =
      let a : eq n (get_or (keys_of es) k End) ≡ false = lookup_none (eq n) es h k l in
      let b : eq n n ≡ true = node_eq_refl n in
      let c : eq n n ≡ eq n (get_or (keys_of es) k End) = ap (eq n) (sym q) in
      cc

pub none_of : (r : Option Summary) → false ≡ is_some r → r ≡ None
none_of None h = refl
none_of (Some f) h = absurd (cc)

-- ---- a store that does not have a node, and then has it, in terms of its trees `s`
module _ (es : Table) (s : List Tree) (is : trees_of (keys_of es) ≡ s) where
  length_s : length (keys_of es) ≡ length s
  length_s = omega (arith, length-trees_of (keys_of es), ap length is)

  module _ (sound : IsSoundTable es) (n : Node) (below : AreBelow (length s) (parts_of n)) (fits : Fits (node_tree s n)) (out : lookup (eq n) es ≡ None) where
    below_keys : AreBelow (length (keys_of es)) (parts_of n)
    below_keys = rw length_s below

    fits_keys : Fits (node_tree (trees_of (keys_of es)) n)
    fits_keys = rw is fits

    pub not_there : HasTree s (node_tree s n) → ⊥
    not_there h =
        fresh (keys_of es) n sound.sound below_keys fits_keys (looked_out es n out) h.number (omega (arith, length_s, h.held))
        (rw is h.is)

    module _ (f : Summary) (own : IsKeptSummary s f (node_tree s n)) where
      pub added_table : IsSoundTable (es ++ (n, f) ∷ [])
      added_table = table_after es n f sound.sound below_keys fits_keys (looked_out es n out) sound.kept (rw is own) sound.int

  module _ (n : Node) (f : Summary) where
    trees_added : trees_of (keys_of (es ++ (n, f) ∷ [])) ≡ s ++ node_tree s n ∷ []
    trees_added = rw (keys_push es (n, f), trees_of-push (keys_of es) n, is) refl

    pub added_grows : Grows s (trees_of (keys_of (es ++ (n, f) ∷ [])))
    added_grows = rw trees_added (Grows_push s (node_tree s n))

    module _ (k : ℕ) (last : k ≡ length es) where
      pub added_held : k < length (trees_of (keys_of (es ++ (n, f) ∷ [])))
      added_held = rw trees_added (omega (arith, length_push s (node_tree s n), length_s, length_keys es))

      pub added_tree : get_or (trees_of (keys_of (es ++ (n, f) ∷ []))) k (Leaf HEnd) ≡ node_tree s n
      added_tree = rw trees_added (get_or_push s (node_tree s n) (Leaf HEnd) k (omega (arith, length_s, length_keys es)))
