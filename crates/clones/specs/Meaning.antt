-- What a map in code stands for, and what is remembered while trees are mapped.
use Rattle.std.specs.Prelude.{◌≡◌, ℕ, ◌<◌, nat_eq, List, length, get_or, Some, unwrap_or}
use Rattle.std.specs.Option.{option_map}
use Rattle.indexmap.specs.IndexMap.{IndexMap, get}
use Rattle.trees.specs.declared.TermId.{TermId}
use Rattle.trees.specs.declared.Sort.TheVariants.{Kind}
use Rattle.trees.specs.Tree.{Tree, Leaf, HEnd, HCell, head_of}
use Rattle.trees.specs.Node.{tree_at, Holds}
use Rattle.trees.specs.Sorts.{sort_of, yield, first_sort}
use Rattle.clones.specs.declared.maps.SymbolMap.{SymbolMap}
use Rattle.clones.specs.Mapped.{Map, mapped}

abbrev pub map_at : List Tree → SymbolMap → Map
map_at s m = record {
  symbols = λ k. unwrap_or (get nat_eq m.symbols k) k;
  types =
      λ k. option_map (tree_at s) (get nat_eq m.types k);
}

-- the types in it are held
pub record MapHeld (s : List Tree) (m : SymbolMap) : Type 0 where
  pub types : (k : ℕ) (v : TermId) → get nat_eq m.types k ≡ Some v
      → Holds s v × (sort_of (tree_at s v) ≡ Kind)

-- a tree of the same sort, which begins a list as the other does
pub record IsAlike (e made : Tree) : Type 0 where
  pub yields : yield made ≡ yield e
  pub sort : sort_of made ≡ sort_of e
  pub first : first_sort made ≡ first_sort e
  pub cell : head_of e ≡ HCell → head_of made ≡ HCell

-- the number of a mapped tree
pub record IsMapped (m : Map) (e : Tree) (s : List Tree) (id : TermId) : Type 0 where
  pub held : Holds s id
  pub is : tree_at s id ≡ mapped m e
  pub alike : IsAlike e (tree_at s id)

-- each remembered number is that of a mapped tree
pub record AreKnown {S : Type 0} (m : Map) (s : List Tree)
    (known : IndexMap ℕ TermId S) : Type 0 where
  pub each : (k : ℕ) (v : TermId) → get nat_eq known k ≡ Some v
      → (k < length s) × IsMapped m (get_or s k (Leaf HEnd)) s v
