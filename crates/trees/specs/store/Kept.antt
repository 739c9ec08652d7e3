-- What a store keeps beside its nodes, and its invariant.
use Rattle.std.specs.Prelude.{◌≡◌, ℕ, ◌<◌, List, length, get_or, min, Option, Some, None}
use Rattle.std.specs.Map.{keys_of, values_of}
use Rattle.trees.specs.declared.TermId.{TermId}
use Rattle.trees.specs.declared.Node.{Node}
use Rattle.trees.specs.declared.Sort.TheVariants.{Kind}
use Rattle.trees.specs.Tree.{Tree, Leaf, HEnd, size, height, loose, pat_vars, above_ty_vars, above_params}
use Rattle.trees.specs.Node.{tree_at, Holds}
use Rattle.trees.specs.Sorts.{yield, yield_type, int_type}
use Rattle.trees.specs.declared.store.kept.Summary.{Summary}
use Rattle.trees.specs.store.Nodes.{trees_of, IsSound}

-- the number of a type, where there is one
abbrev pub IsTypeId : List Tree → Option TermId → Option Tree → Type 0
IsTypeId s None ty = ty ≡ None
IsTypeId s (Some id) ty = Holds s id × (ty ≡ Some (tree_at s id))

-- what is kept beside the node of a tree
pub record IsKeptSummary (s : List Tree) (f : Summary) (e : Tree) : Type 0 where
  pub size : f.size ≡ min (size e) 18446744073709551615
  pub height : f.height ≡ min (height e) 18446744073709551615
  pub loose : f.loose ≡ loose e
  pub variables : f.variables ≡ min (pat_vars e) 18446744073709551615
  pub above_types : f.above_types ≡ min (above_ty_vars e) 18446744073709551615
  pub above_params : f.above_params ≡ min (above_params e) 18446744073709551615
  pub sort : f.sort ≡ yield e
  pub ty : IsTypeId s f.ty (yield_type e)

-- the type `int` is there
pub record HasInt (s : List Tree) : Type 0 where
  pub held : 1 < length s
  pub is : get_or s 1 (Leaf HEnd) ≡ int_type

abbrev pub empty_summary : Summary
empty_summary = record {
  size = 0;
  height = 0;
  loose = 0;
  variables = 0;
  above_types =
      0;
  above_params = 0;
  sort = Kind;
  ty = None;
}

-- the nodes are sound, `int` is there, and beside each node stands what is to be kept
pub record IsSoundTable (es : List (Node × Summary)) : Type 0 where
  pub sound : IsSound (keys_of es)
  pub int : HasInt (trees_of (keys_of es))
  pub kept : (k : ℕ) → k < length es
      → IsKeptSummary (trees_of (keys_of es)) (get_or (values_of es) k empty_summary)
      (get_or (trees_of (keys_of es)) k (Leaf HEnd))

-- the nodes are sound, and `int` is there
pub record IsSoundList (ns : List Node) : Type 0 where
  pub sound : IsSound ns
  pub int : HasInt (trees_of ns)
