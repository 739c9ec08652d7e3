-- Types of forms, one after another, and those in parentheses.
use Rattle.std.proofs.Common.{◌≡◌, ℕ, suc, ◌+◌, ◌<◌, List, [], ◌∷◌, ◌++◌, drop, length, get_or, option_map, refl, sym, ap, ◌∙◌, append_assoc}
use Rattle.std.specs.List.{All, AllByRecursion}
use Rattle.std.proofs.lemmas.List.Elements.{recursion_from_All}
use Rattle.trees.specs.binders.Visits.{HoldTypes}
use Rattle.surface.specs.Lexeme.{Word}
use Rattle.name_resolution.specs.Naming.{meaning_at, type_named, where_at}
use Rattle.name_resolution.specs.declared.world.World.{World}
use Rattle.std.proofs.lemmas.List.{at_drop_more}
use Rattle.trees.specs.declared.TermId.{TermId}
use Rattle.trees.specs.Tree.{Tree}
use Rattle.trees.specs.Node.{tree_at, Grows}
use Rattle.tasks.specs.Meaning.{trees_at}
use Rattle.surface.specs.declared.types.TypeTree.{TypeTree}
use Rattle.name_resolution.specs.Abstract.{TypeExpressions, no_types, more_types, count_forms, grouped_forms, type_expression_of, forms_of}
use Rattle.name_resolution.specs.Where.{Where}
use Rattle.open_types.specs.Pieces.{type_at, types_at, applied_meaning, tuple_type, group_type}
use Rattle.open_types.specs.Drafts.{HoldsType}
use Rattle.open_types.proofs.Growing.{types_stay}
use Rattle.open_types.proofs.Taking.{mapped_more}

pub form_step : (s1 s2 : List Tree) → Grows s1 s2 → (w : Where) (ids : List TermId) (x : TermId) → All (HoldsType s1) ids → (list : List TypeTree) (i : ℕ) (d : TypeTree) → i < length list
    → tree_at s2 x ≡ type_at w (type_expression_of (get_or list i d)) → (whole : List Tree) → trees_at s1 ids ++ types_at w (forms_of (drop i list)) ≡ whole
    → trees_at s2 (ids ++ x ∷ []) ++ types_at w (forms_of (drop (i + 1) list)) ≡ whole
form_step s1 s2 g w ids x h list i d l t whole e =
    let step = at_drop_more (λ (xs : List TypeTree). trees_at s1 ids ++ types_at w (forms_of xs)) list i d l in
    rw (mapped_more s2 ids x, types_stay s1 s2 g ids h, t) (rw append_assoc (sym step ∙ e))

-- one type in parentheses is itself
pub group_of : (w : Where) (i : ℕ) (fs : TypeExpressions) → type_at w (grouped_forms i fs) ≡ group_type w (types_at w fs)
group_of w i no_types = refl
group_of w i (more_types f no_types) = refl
group_of w i (more_types f (more_types g gs)) = cc (counted w gs)
  where
    counted : (w : Where) (gs : TypeExpressions) → count_forms gs ≡ length (types_at w gs)
    counted w no_types = refl
    counted w (more_types h hs) = ap suc (counted w hs)

pub group_one : (w : Where) (ts : List Tree) (d : Tree) → length ts ≡ 1 → get_or ts 0 d ≡ group_type w ts
group_one w [] d h = absurd (cc)
group_one w (t ∷ []) d h = refl
group_one w (t ∷ u ∷ us) d h = absurd (cc)

pub group_many : (w : Where) (ts : List Tree) → (length ts ≡ 1 → ⊥) → tuple_type w (length ts) ts ≡ group_type w ts
group_many w [] h = refl
group_many w (t ∷ []) h = absurd (h refl)
group_many w (t ∷ u ∷ us) h = refl

-- ---- types by their numbers
pub hold_each : (s : List Tree) (ids : List TermId) → AllByRecursion (HoldsType s) ids → HoldTypes s ids
hold_each s [] h = tt
hold_each s (id ∷ ids) h = ((h.0.held, h.0.kind), hold_each s ids h.1)

pub hold_types : (s : List Tree) (ids : List TermId) → All (HoldsType s) ids → HoldTypes s ids
hold_types s ids h = hold_each s ids (recursion_from_All (HoldsType s) ids h)

-- what a name stands for, in other words
pub named_same : (s s' : List Tree) (w : World) → where_at s' w ≡ where_at s w → {qs qs' : List Word} {x x' : Word} {ts ts' : List Tree} → qs ≡ qs' → x ≡ x' → ts ≡ ts'
    → applied_meaning (option_map (meaning_at s') (type_named w.scope.now qs x)) ts ≡ applied_meaning ((where_at s w).types qs' x') ts'
named_same s s' w e {qs} {qs'} {x} {x'} {ts} {ts'} a b d =
    ap (λ (v : Where). applied_meaning (v.types qs x) ts) e ∙ (ap (λ (q : List Word). applied_meaning ((where_at s w).types q x) ts) a ∙ (ap (λ (y : Word). applied_meaning ((where_at s w).types qs' y) ts) b ∙ ap (applied_meaning ((where_at s w).types qs' x')) d))
