-- What stands at the places of a record's fields: types, values and patterns, at assigned unknowns too.
use Rattle.std.proofs.Common.{◌≡◌, ◌≢◌, ℕ, ◌<◌, zero, suc, Bool, true, false, List, [], ◌∷◌, ◌++◌, map, replicate, length, get_or, slice_set, Some, None, ◌⊎◌, inl, inr, refl, sym, ap, subst, ◌∙◌, arith}
use Rattle.std.specs.Prelude.{pos}
use Rattle.std.specs.List.{AllByRecursion}
use Rattle.std.proofs.lemmas.List.{map-append, length-set, get_or-set_same, get_or-set_other}
use Rattle.std.proofs.Math.ListN.{length-map}
use Rattle.elab_groups.specs.trees.declared.Sort.{Sort}
use Rattle.elab_groups.specs.trees.declared.Sort.TheVariants.{Term}
use Rattle.elab_groups.specs.trees.Tree.{Tree, Leaf, Two, HEnd, HCell, HNum}
use Rattle.elab_groups.specs.trees.Sorts.{int_type, sort_of, type_of, first_sort, IsList, IsListOf}
use Rattle.elab_groups.specs.trees.Facts.{IndicesFit}
use Rattle.elab_groups.specs.tasks.Equations.{cells}
use Rattle.elab_groups.specs.tasks.Task.{symbol_or}
use Rattle.elab_groups.specs.tasks.Typing.{members}
use Rattle.elab_groups.specs.tasks.Vocabulary.{Vocabulary}
use Rattle.elab_groups.specs.open_types.unify_types.Assigned.{assign}
use Rattle.elab_groups.specs.name_resolution.Abstract.{FieldName, Expressions, no_expressions, more_expressions, count_expressions}
use Rattle.elab_groups.specs.name_resolution.Records.{record_named, put_at_places, named_after, each_named}
use Rattle.elab_groups.specs.name_resolution.Where.{Where}
use Rattle.elab_groups.proofs.name_resolution.Putting.{ArePaired, all_put, put_all, put_map, put_length, at_places_map}
use Rattle.elab_groups.proofs.name_resolution.Fielded.{AreNewPlaces, IsFielded, places_count}
use Rattle.elab_groups.specs.open_types.Patterns.{LocalTree, local, first_or_int, rest_of, place_types, PatternTree, pattern_tree, beside, side_by_side_trees, wildcard_tree, fields_tree}
use Rattle.elab_groups.specs.open_types.Pieces.{unknown_after, piece, pieces, field_places, values_placed}
use Rattle.elab_groups.proofs.open_types.Below.{both_all, each}
use Rattle.elaboration_laws.proofs.Over.{IsOver, IsGood, AreOver, members_cells}
use Rattle.elaboration_laws.proofs.Instances.{put_over, cells_assigned}
use Rattle.elaboration_laws.proofs.Forms.{ListTyped, end_typed, cell_typed}
use Rattle.elab_groups.proofs.name_resolution.Fielded.{none_count as none_long}

pub split_all : {A : Type 0} (P : A → Type 0) (xs ys : List A) → AllByRecursion P (xs ++ ys) → AllByRecursion P xs × AllByRecursion P ys
split_all P [] ys h = (tt, h)
split_all P (x ∷ xs) ys h = let k = split_all P xs ys h.1 in ((h.0, k.0), k.1)

-- ---- what is put at new places stays there
apart : (bs : List Bool) (p q : ℕ) → get_or bs p false ≡ false → get_or bs q false ≡ true → q ≢ p
apart bs p q n h = λ e. let z : true ≡ false = sym h ∙ ap (λ (k : ℕ). get_or bs k false) e ∙ n in absurd (cc (z))

module _ {A : Type 0} where
  put_keeps : (ps : List ℕ) (bs : List Bool) (zs ys : List A) (q : ℕ) (d : A) → AreNewPlaces bs ps → get_or bs q false ≡ true → get_or (put_at_places ps zs ys) q d ≡ get_or ys q d
  put_keeps [] bs zs ys q d n h = refl
  put_keeps (p ∷ ps) bs [] ys q d n h = refl
  put_keeps (p ∷ ps) bs (z ∷ zs) ys q d n h =
      let o : q ≢ p = apart bs p q n.1 h in
      put_keeps ps (slice_set bs p true) zs (slice_set ys p z) q d n.2 (get_or-set_other bs p q true false o ∙ h) ∙ get_or-set_other ys p q z d o

  module _ (P : A → Type 0) where
    at_index : (xs : List A) → AllByRecursion P xs → (k : ℕ) (d : A) → k < length xs → P (get_or xs k d)
    at_index [] h k d l = absurd (omega (arith, l))
    at_index (x ∷ xs) h zero d l = h.0
    at_index (x ∷ xs) h (suc k) d l = at_index xs h.1 k d (omega (arith, l))

    pub put_back : (ps : List ℕ) (bs : List Bool) (zs ys : List A) → AreNewPlaces bs ps → length bs ≡ length ys → length ps ≡ length zs → AllByRecursion P (put_at_places ps zs ys) → AllByRecursion P zs
    put_back [] bs [] ys n l c h = tt
    put_back [] bs (z ∷ zs) ys n l c h = absurd (omega (arith, c))
    put_back (p ∷ ps) bs [] ys n l c h = absurd (omega (arith, c))
    put_back (p ∷ ps) bs (z ∷ zs) ys n l c h =
        let all = put_at_places ps zs (slice_set ys p z) in
        let long : length (put_at_places ps zs (slice_set ys p z)) ≡ length ys = put_length ps zs (slice_set ys p z) ∙ length-set ys p z in
        let there : get_or (put_at_places ps zs (slice_set ys p z)) p z ≡ z =
        put_keeps ps (slice_set bs p true) zs (slice_set ys p z) p z n.2 (get_or-set_same bs p true false n.0) ∙ get_or-set_same ys p z z (omega (arith, n.0, l)) in (
          subst P there (at_index all h p z (omega (arith, n.0, l, long))),
          put_back ps (slice_set bs p true) zs (slice_set ys p z) n.2 (length-set bs p true ∙ l ∙ sym (length-set ys p z)) (omega (arith, c)) h,
        )

-- the places of the fields of a record among so many
pub new_among : (w : Where) (whole : Bool) (n : ℕ) (fs : List FieldName) (k : ℕ) → IsFielded w whole n fs → k ≡ length (symbol_or w.symbols (record_named w.symbols w.names fs)).args → AreNewPlaces (replicate k false) (field_places w fs)
new_among w whole n fs k f e = subst (λ (i : ℕ). AreNewPlaces (replicate i false) (field_places w fs)) (sym e) f.places

pub all_among_named : (w : Where) (n : ℕ) (fs : List FieldName) (k : ℕ) → IsFielded w true n fs → k ≡ length (symbol_or w.symbols (record_named w.symbols w.names fs)).args → each_named (named_after (field_places w fs) (replicate k false)) ≡ true
all_among_named w n fs k f e = subst (λ (i : ℕ). each_named (named_after (field_places w fs) (replicate i false)) ≡ true) (sym e) (f.all refl)

pub fields_long : (w : Where) (whole : Bool) (n : ℕ) (fs : List FieldName) → IsFielded w whole n fs → length (field_places w fs) ≡ n
fields_long w whole n fs f = places_count w.symbols w.names (record_named w.symbols w.names fs) fs ∙ f.count

-- ---- types at places
pub places_long : (ps : List ℕ) (ts : List Tree) → length (place_types ps ts) ≡ length ps
places_long [] ts = refl
places_long (p ∷ ps) ts = ap suc (places_long ps ts)

pub places_all : (P : Tree → Type 0) → P int_type → (ps : List ℕ) (ts : List Tree) → AllByRecursion P ts → AllByRecursion P (place_types ps ts)
places_all P i [] ts h = tt
places_all P i (p ∷ ps) ts h = (each P ts h p int_type i, places_all P i ps ts h)

pub places_over : (v : Vocabulary) → IsOver v true int_type → (ps : List ℕ) (ts : List Tree) → AreOver v ts → AreOver v (place_types ps ts)
places_over v i [] ts h = tt
places_over v i (p ∷ ps) ts h = (put_over v ts h p int_type i, places_over v i ps ts h)

-- ---- the variables of patterns at places
module _ (P : LocalTree → Type 0) where
  abbrev AllBound : PatternTree → Type 0
  AllBound q = AllByRecursion P q.variables

  sides_all : (ps : List PatternTree) → AllByRecursion AllBound ps → AllByRecursion P (side_by_side_trees ps).variables
  sides_all [] h = tt
  sides_all (p ∷ ps) h = both_all P p.variables (side_by_side_trees ps).variables h.0 (sides_all ps h.1)

  sides_back : (ps : List PatternTree) → AllByRecursion P (side_by_side_trees ps).variables → AllByRecursion AllBound ps
  sides_back [] h = tt
  sides_back (p ∷ ps) h = let k = split_all P p.variables (side_by_side_trees ps).variables h in (k.0, sides_back ps k.1)

  none_bound : (ts : List Tree) → AllByRecursion AllBound (map wildcard_tree ts)
  none_bound [] = tt
  none_bound (t ∷ ts) = (tt, none_bound ts)

  pub fields_all : (places : List ℕ) (ts : List Tree) (ps : List PatternTree) → AllByRecursion (λ (q : PatternTree). AllByRecursion P q.variables) ps → AllByRecursion P (fields_tree places ts ps).variables
  fields_all places ts ps h = sides_all (put_at_places places ps (map wildcard_tree ts)) (put_all AllBound places ps (map wildcard_tree ts) h (none_bound ts))

  pub fields_back : (places : List ℕ) (ts : List Tree) (ps : List PatternTree) → AreNewPlaces (replicate (length ts) false) places → length places ≡ length ps → AllByRecursion P (fields_tree places ts ps).variables
      → AllByRecursion (λ (q : PatternTree). AllByRecursion P q.variables) ps
  fields_back places ts ps n c h =
      put_back AllBound places (replicate (length ts) false) ps (map wildcard_tree ts) n (none_long (length ts) ∙ sym (length-map ts wildcard_tree)) c
      (sides_back (put_at_places places ps (map wildcard_tree ts)) h)

-- ---- lists of values
abbrev pub IsCells : Tree → Type 0
IsCells (Leaf HEnd) = Unit {0}
IsCells (Two HCell a b) = IsCells b
IsCells _ = ⊥

pub cells_members : (e : Tree) → IsCells e → e ≡ cells (members e)
cells_members (Leaf HEnd) h = refl
cells_members (Two HCell a b) h = ap (Two HCell a) (cells_members b h)
cells_members _ h = absurd h

pub pieces_cells : (w : Where) (ls : List LocalTree) (n : ℕ) (ts : List Tree) (es : Expressions) → IsCells (pieces w ls n ts es).tree
pieces_cells w ls n ts no_expressions = tt
pieces_cells w ls n ts (more_expressions e es) = pieces_cells w ls (unknown_after n (piece w ls n (Some (first_or_int ts)) e)) (rest_of ts) es

pub pieces_count : (w : Where) (ls : List LocalTree) (n : ℕ) (ts : List Tree) (es : Expressions) → length (members (pieces w ls n ts es).tree) ≡ count_expressions es
pieces_count w ls n ts no_expressions = refl
pieces_count w ls n ts (more_expressions e es) = ap suc (pieces_count w ls (unknown_after n (piece w ls n (Some (first_or_int ts)) e)) (rest_of ts) es)

cells_fit : (ts : List Tree) → AllByRecursion IndicesFit ts → IndicesFit (cells ts)
cells_fit [] h = tt
cells_fit (t ∷ ts) h = (h.0, cells_fit ts h.1)

pub fit_members : (ts : List Tree) → IndicesFit (cells ts) → AllByRecursion IndicesFit ts
fit_members [] h = tt
fit_members (t ∷ ts) h = (h.0, fit_members ts h.1)

abbrev pub no_value : Tree
no_value = Leaf (HNum (pos 0))

-- ---- at assigned unknowns
module _ (r : ℕ) (f : ℕ → Tree) where
  pub types_at : (ps : List ℕ) (ts : List Tree) → place_types ps (map (assign r f) ts) ≡ map (assign r f) (place_types ps ts)
  types_at ps ts = at_places_map (assign r f) int_type ps ts

  pub cells_at : (e : Tree) → IsCells e → assign r f e ≡ cells (map (assign r f) (members e))
  cells_at e h = ap (assign r f) (cells_members e h) ∙ cells_assigned r f (members e)

  members_at : (e : Tree) → IsCells e → members (assign r f e) ≡ map (assign r f) (members e)
  members_at e h = ap members (cells_at e h) ∙ members_cells (map (assign r f) (members e))

  no_values_at : (n : ℕ) → map (assign r f) (replicate n no_value) ≡ replicate n no_value
  no_values_at zero = refl
  no_values_at (suc n) = ap (λ (ts : List Tree). no_value ∷ ts) (no_values_at n)

  pub values_at : (places : List ℕ) (count : ℕ) (e : Tree) → IsCells e → assign r f (values_placed places count e) ≡ values_placed places count (assign r f e)
  values_at places count e h =
      cells_assigned r f (put_at_places places (members e) (replicate count no_value))
      ∙ ap cells (put_map (assign r f) places (members e) (replicate count no_value)
      ∙ ap (λ (zs : List Tree). put_at_places places zs (map (assign r f) (replicate count no_value))) (sym (members_at e h))
      ∙ ap (put_at_places places (members (assign r f e))) (no_values_at count))

  pub placed_at : (places : List ℕ) (ts : List Tree) (e : Tree) → IsCells e → assign r f (values_placed places (length ts) e) ≡ cells (put_at_places places (map (assign r f) (members e)) (replicate (length (map (assign r f) ts)) no_value))
  placed_at places ts e h =
      values_at places (length ts) e h
      ∙ ap (λ (zs : List Tree). cells (put_at_places places zs (replicate (length ts) no_value))) (members_at e h)
      ∙ ap (λ (k : ℕ). cells (put_at_places places (map (assign r f) (members e)) (replicate k no_value))) (sym (length-map ts (assign r f)))

  abbrev pub local_assigned : LocalTree → LocalTree
  local_assigned l = local l.name (assign r f l.type)

  abbrev pub tree_assigned : PatternTree → PatternTree
  tree_assigned p = pattern_tree (assign r f p.tree) (map local_assigned p.variables)

  sides_assigned : (ps : List PatternTree) → tree_assigned (side_by_side_trees ps) ≡ side_by_side_trees (map tree_assigned ps)
  sides_assigned [] = refl
  sides_assigned (p ∷ ps) =
      ap (pattern_tree (Two HCell (assign r f p.tree) (assign r f (side_by_side_trees ps).tree))) (map-append local_assigned p.variables (side_by_side_trees ps).variables)
      ∙ ap (beside (tree_assigned p)) (sides_assigned ps)

  wildcards_assigned : (ts : List Tree) → map tree_assigned (map wildcard_tree ts) ≡ map wildcard_tree (map (assign r f) ts)
  wildcards_assigned [] = refl
  wildcards_assigned (t ∷ ts) = ap (λ (ps : List PatternTree). wildcard_tree (assign r f t) ∷ ps) (wildcards_assigned ts)

  pub fields_assigned : (places : List ℕ) (ts : List Tree) (ps : List PatternTree) → tree_assigned (fields_tree places ts ps) ≡ fields_tree places (map (assign r f) ts) (map tree_assigned ps)
  fields_assigned places ts ps =
      sides_assigned (put_at_places places ps (map wildcard_tree ts))
      ∙ ap side_by_side_trees (put_map tree_assigned places ps (map wildcard_tree ts) ∙ ap (put_at_places places (map tree_assigned ps)) (wildcards_assigned ts))

-- ---- well typed values
module _ (v : Vocabulary) (types : List Tree) where
  abbrev pub IsValue : Tree → Tree → Type 0
  IsValue t e = IsGood v types e × (sort_of e ≡ Term) × (type_of e ≡ Some t)

  same_first : (a b : Sort) → (Some a ≡ None) ⊎ (Some a ≡ Some b) → a ≡ b
  same_first a b (inl q) = absurd (cc (q))
  same_first a b (inr q) = cc (q)

  pub listed_values : (ts es : List Tree) → ListTyped v Term types ts (cells es) → ArePaired IsValue ts es
  listed_values [] [] h = tt
  listed_values [] (e ∷ es) h = absurd (let q = h.2 in cc (q))
  listed_values (t ∷ ts) [] h = absurd (let q = h.2 in cc (q))
  listed_values (t ∷ ts) (e ∷ es) h =
      let k : sort_of e ≡ Term = same_first (sort_of e) Term h.1.1 in
      let fits : IsListOf (sort_of e) (sort_of (cells es)) (first_sort (cells es)) = h.0.0.0.0.1 in
      let rest : IsList Term (cells es) = subst (λ (z : Sort). IsListOf z (sort_of (cells es)) (first_sort (cells es))) k fits in
      let q = h.2 in
      let one : type_of e ≡ Some t = cc (q) in
      (((h.0.0.2, h.0.1.0), k, one), listed_values ts es ((h.0.0.3, h.0.1.1), rest, cc (q)))

  pub values_listed : (ts es : List Tree) → ArePaired IsValue ts es → ListTyped v Term types ts (cells es)
  values_listed [] [] h = end_typed v types Term
  values_listed [] (e ∷ es) h = absurd h
  values_listed (t ∷ ts) [] h = absurd h
  values_listed (t ∷ ts) (e ∷ es) h = cell_typed v types Term t ts e (cells es) (λ q. cc) h.0.0 h.0.1 h.0.2 (values_listed ts es h.1)

  -- the values of all fields, in the order of the fields
  pub placed_values : (places : List ℕ) (ts es : List Tree) → AreNewPlaces (replicate (length ts) false) places → length places ≡ length es → each_named (named_after places (replicate (length ts) false)) ≡ true
      → IndicesFit (cells (put_at_places places es (replicate (length ts) no_value))) → (IndicesFit (cells es) → ListTyped v Term types (place_types places ts) (cells es)) → ListTyped v Term types ts (cells (put_at_places places es (replicate (length ts) no_value)))
  placed_values places ts es n c a i x =
      let fit = put_back IndicesFit places (replicate (length ts) false) es (replicate (length ts) no_value) n (same_long (length ts)) c (fit_members (put_at_places places es (replicate (length ts) no_value)) i) in
      let pairs = listed_values (place_types places ts) es (x (cells_fit es fit)) in
      values_listed ts (put_at_places places es (replicate (length ts) no_value)) (all_put IsValue int_type places ts es no_value pairs a)
    where
      same_long : (k : ℕ) → length (replicate k false) ≡ length (replicate k no_value)
      same_long zero = refl
      same_long (suc k) = ap suc (same_long k)
