-- What is held stays as it is where a store grows.
use Rattle.std.proofs.Common.{◌≡◌, ◌<◌, List, [], ◌∷◌, ◌++◌, map, reverse, length, get_or, Option, Some, None, IfSome, option_map, refl, ap, subst, arith}
use Rattle.std.specs.List.{All, AllByRecursion}
use Rattle.std.proofs.lemmas.List.Elements.{recursion_from_All, All-append, All-cons, All-nil}
use Rattle.trees.specs.declared.TermId.{TermId}
use Rattle.trees.specs.Tree.{Tree}
use Rattle.trees.specs.Node.{tree_at, Holds, Grows}
use Rattle.trees.proofs.Nodes.{tree_at-grows}
use Rattle.scopes.specs.Names.{TypeName}
use Rattle.scopes.specs.declared.Referent.TheVariants as stands
use Rattle.surface.specs.Lexeme.{Word}
use Rattle.tasks.specs.declared.signature.SymbolInfo.{SymbolInfo}
use Rattle.tasks.specs.Meaning.{symbol_at, symbols_at, trees_at}
use Rattle.open_types.specs.declared.unify_types.Equation.{Equation}
use Rattle.open_types.specs.unify_types.Pairs.{HoldsEquation, HoldEquations, equations_at}
use Rattle.name_resolution.specs.Naming.{meaning_at, type_named, where_at}
use Rattle.name_resolution.specs.Where.{MeaningTree}
use Rattle.name_resolution.specs.declared.world.World.{World}
use Rattle.open_types.specs.declared.locals.Local.{Local}
use Rattle.open_types.specs.declared.locals.Locals.{Locals, Outside, Inside'}
use Rattle.open_types.specs.declared.draft.Constraints.{Constraints}
use Rattle.open_types.specs.declared.draft.MatchAt.{MatchAt}
use Rattle.open_types.specs.Drafts.{HoldsType, IsReady, MatchHeld, match_at, notes_at, MeaningHeld, SymbolTyped, WorldHeld, LocalsHeld, local_at, locals_at}
use Rattle.tasks.proofs.Growth.{map_agree as map_same}

-- functions that agree at each element of a list
mapped_same : {A B : Type 0} (f g : A → B) (xs : List A) → AllByRecursion (λ x. f x ≡ g x) xs → map f xs ≡ map g xs
mapped_same f g [] h = refl
mapped_same f g (x ∷ xs) h = cc (h.0, mapped_same f g xs h.1)

module _ (s s' : List Tree) (g : Grows s s') where
  pub held_grows : (id : TermId) → Holds s id → Holds s' id
  held_grows id h = omega (arith, h, g.longer)

  pub type_grows : (id : TermId) → HoldsType s id → HoldsType s' id
  type_grows id h = record { held = held_grows id h.held; kind = rw (tree_at-grows s s' id g h.held) h.kind }

  pub type_stays : (id : TermId) → HoldsType s id → tree_at s' id ≡ tree_at s id
  type_stays id h = tree_at-grows s s' id g h.held

  pub types_stay : (ids : List TermId) → All (HoldsType s) ids → trees_at s' ids ≡ trees_at s ids
  types_stay ids h = map_same (tree_at s') (tree_at s) ids (λ k e l. type_stays _ (h k e l))

  pub types_grow : (ids : List TermId) → All (HoldsType s) ids → All (HoldsType s') ids
  types_grow ids h = λ i d l. type_grows (get_or ids i d) (h i d l)

  -- ---- drafts
  equation_grows : (e : Equation) → HoldsEquation s e → HoldsEquation s' e
  equation_grows e h = record {
    left_held = held_grows e.left h.left_held;
    right_held = held_grows e.right h.right_held;
    left_kind = rw (tree_at-grows s s' e.left g h.left_held) h.left_kind;
    right_kind = rw (tree_at-grows s s' e.right g h.right_held) h.right_kind;
  }

  pub ready_grows : (d : Constraints) → IsReady s d → IsReady s' d
  ready_grows d h = record {
    equations = λ k e l. equation_grows (get_or d.equations k e) (h.equations k e l);
    matches = λ k m l. λ j p i. held_grows (get_or (get_or d.matches k m).patterns j p) (h.matches k m l j p i);
  }

  equation_pairs : (es : List Equation) → AllByRecursion (HoldsEquation s) es → equations_at s' es ≡ equations_at s es
  equation_pairs [] h = refl
  equation_pairs (e ∷ es) h = cc (tree_at-grows s s' e.left g h.0.left_held, tree_at-grows s s' e.right g h.0.right_held, equation_pairs es h.1)

  equations_stay : (es : List Equation) → HoldEquations s es → equations_at s' es ≡ equations_at s es
  equations_stay es h = equation_pairs es (recursion_from_All (HoldsEquation s) es h)

  match_stays : (m : MatchAt) → MatchHeld s m → match_at s' m ≡ match_at s m
  match_stays m h = cc (map_same (tree_at s') (tree_at s) m.patterns (λ k e l. tree_at-grows s s' (get_or m.patterns k e) g (h k e l)))

  pub notes_stay : (d : Constraints) → IsReady s d → notes_at s' d ≡ notes_at s d
  notes_stay d h = cc (equations_stay d.equations h.equations, map_same (match_at s') (match_at s) d.matches (λ k e l. match_stays _ (h.matches k e l)))

  -- ---- names
  meaning_stays : (m : Option TypeName) → IfSome m (MeaningHeld s) → option_map (meaning_at s') m ≡ option_map (meaning_at s) m
  meaning_stays None h = refl
  meaning_stays (Some (stands.Entry k)) h = refl
  meaning_stays (Some (stands.Alias n ty)) h = cc (type_stays (record { 0 = ty }) h)

  meaning_grows : (m : Option TypeName) → IfSome m (MeaningHeld s) → IfSome m (MeaningHeld s')
  meaning_grows None h = tt
  meaning_grows (Some (stands.Entry k)) h = tt
  meaning_grows (Some (stands.Alias n ty)) h = type_grows (record { 0 = ty }) h

  pub wanted_stays : (r : Option TermId) → IfSome r (HoldsType s) → option_map (tree_at s') r ≡ option_map (tree_at s) r
  wanted_stays None h = refl
  wanted_stays (Some id) h = cc (type_stays id h)

  pub wanted_grows : (r : Option TermId) → IfSome r (HoldsType s) → IfSome r (HoldsType s')
  wanted_grows None h = tt
  wanted_grows (Some id) h = type_grows id h

  symbol_stays : (i : SymbolInfo) → SymbolTyped s i → symbol_at s' i ≡ symbol_at s i
  symbol_stays i h = cc (types_stay i.args h.args, wanted_stays i.result h.result)

  symbol_grows : (i : SymbolInfo) → SymbolTyped s i → SymbolTyped s' i
  symbol_grows i h = record { args = λ k e l. type_grows _ (h.args k e l); result = wanted_grows i.result h.result }

  pub world_stays : (w : World) → WorldHeld s w → where_at s' w ≡ where_at s w
  world_stays w h =
      let symbols : symbols_at s' w.symbols.now ≡ symbols_at s w.symbols.now = map_same (symbol_at s') (symbol_at s) w.symbols.now (λ k e l. symbol_stays _ (h.symbols k e l)) in
      let new : List Word → Word → Option MeaningTree = λ qs x. option_map (meaning_at s') (type_named w.scope.now qs x) in
      let old : List Word → Word → Option MeaningTree = λ qs x. option_map (meaning_at s) (type_named w.scope.now qs x) in
      let types : new ≡ old = λ i. λ qs x. meaning_stays (type_named w.scope.now qs x) (h.types qs x) i in
      cc (symbols, types)

  pub world_grows : (w : World) → WorldHeld s w → WorldHeld s' w
  world_grows w h = record { symbols = λ k e l. symbol_grows _ (h.symbols k e l); types = λ qs x. meaning_grows (type_named w.scope.now qs x) (h.types qs x) }

  -- ---- variables
  local_stays : (l : Local) → HoldsType s l.ty → local_at s' l ≡ local_at s l
  local_stays l h = cc (type_stays l.ty h)

  pub each_stays : (ls : List Local) → All (λ (l : Local). HoldsType s l.ty) ls → map (local_at s') ls ≡ map (local_at s) ls
  each_stays ls h = map_same (local_at s') (local_at s) ls (λ k e l. local_stays (get_or ls k e) (h k e l))

  pub each_grows : (ls : List Local) → All (λ (l : Local). HoldsType s l.ty) ls → All (λ (l : Local). HoldsType s' l.ty) ls
  each_grows ls h = λ k e l. type_grows (get_or ls k e).ty (h k e l)

  pub locals_stay : (ls : Locals) → LocalsHeld s ls → locals_at s' ls ≡ locals_at s ls
  locals_stay Outside h = refl
  locals_stay (Inside' ls p outer) h = let e = each_stays ls.now h.0 in cc (ap reverse e, locals_stay outer h.1)

  pub locals_grow : (ls : Locals) → LocalsHeld s ls → LocalsHeld s' ls
  locals_grow Outside h = tt
  locals_grow (Inside' ls p outer) h = (each_grows ls.now h.0, locals_grow outer h.1)

-- the first of some types
pub first_held : (s : List Tree) (xs ys : List TermId) (y : TermId) → xs ≡ y ∷ ys → All (HoldsType s) xs → HoldsType s y
first_held s xs ys y e h = (subst (All (HoldsType s)) e h) 0 y (let m : 0 < length (y ∷ ys) = omega arith in m)

-- types after others
pub types_more : (s s' : List Tree) → Grows s s' → (ids : List TermId) (x : TermId) → All (HoldsType s) ids → HoldsType s' x → All (HoldsType s') (ids ++ x ∷ [])
types_more s s' g ids x h k = All-append (HoldsType s') ids (x ∷ []) (types_grow s s' g ids h) (All-cons (HoldsType s') x [] k (All-nil (HoldsType s')))
