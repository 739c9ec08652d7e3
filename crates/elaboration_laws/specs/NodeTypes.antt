-- The nodes of an expression in preorder, each with its types over unknowns: the one that is wanted
-- of it, and those that it takes.
use Rattle.std.specs.Prelude.{◌≡◌, ℕ, ◌+◌, ◌<◌, cond, List, [], ◌∷◌, ◌++◌, reverse, slice_get, Option, Some, None, ◌⊎◌}
use Rattle.std.specs.List.{AllByRecursion}
use Rattle.elab_groups.specs.trees.Tree.{Tree}
use Rattle.elab_groups.specs.tasks.Equations.{type_variables}
use Rattle.elab_groups.specs.open_types.unify_types.Assigned.{assign}
use Rattle.elab_groups.specs.open_types.unify_types.Pairs.{IsSolution}
use Rattle.elab_groups.specs.name_resolution.Abstract.{Pattern, Patterns, wildcard_pattern, variable_pattern, constructor_pattern, tuple_pattern, alias_pattern, record_pattern, no_patterns, more_patterns, Alternatives, no_alternatives, more_alternatives, Expression, Expressions, MatchBranches, applied_expression, infix_expression, integer_expression, true_expression, false_expression, tuple_expression, cast_expression, field_expression, record_expression, not_expression, connected_expression, equality_expression, if_expression, let_expression, match_expression, quantified_expression, no_expressions, more_expressions, no_branches, more_branches, count_patterns, count_expressions}
use Rattle.elab_groups.specs.name_resolution.Faults.{is_formula_trigger, token}
use Rattle.elab_groups.specs.name_resolution.Records.{record_named}
use Rattle.elab_groups.specs.name_resolution.Where.{Where}
use Rattle.elab_groups.specs.open_types.Patterns.{LocalTree, local, noted, taken, first_or_int, rest_of, entry_of, part_types, place_types, pattern_piece, alternatives_pieces, all_notes, first_variables}
use Rattle.elab_groups.specs.open_types.Pieces.{type_at, unknown, unknown_after, piece, noted_before, triggers_notes, Use, Local', Symbol', use_of_name, field_use, tuple_use, record_use, field_places, use_vars, parameters, binders_vars, bound, names}
use Rattle.elab_groups.specs.parts.Declarations.{GroupMember, with_vars}
use Rattle.elab_groups.specs.members.Members.{SignatureTree}
use Rattle.elab_groups.specs.Groups.{member_piece}
use Rattle.elaboration_laws.specs.GroupTypings.{body_locals}

pub record TypedNode : Type 0 where
  pub token : ℕ
  pub types : List Tree

abbrev pub types_due : Option Tree → List Tree
types_due None = []
types_due (Some t) = t ∷ []

-- a node that takes so many unknowns from n on
abbrev pub typed_node : ℕ → Option Tree → ℕ → ℕ → TypedNode
typed_node i t n k = record { token = i; types = types_due t ++ type_variables n k }

-- a variable has no arguments
abbrev pub of_symbol : Use → List TypedNode → List TypedNode
of_symbol (Local' i t) xs = []
of_symbol (Symbol' e) xs = xs

abbrev mutual
  pub pattern_nodes : Where → Option (List LocalTree) → ℕ → Tree → Pattern → List TypedNode
  pattern_nodes w first n t (wildcard_pattern i) = typed_node i (Some t) n 0 ∷ []
  pattern_nodes w first n t (variable_pattern i x) = typed_node i (Some t) n 0 ∷ []
  pattern_nodes w first n t (constructor_pattern i qs x ps) =
      let c = entry_of w.symbols (w.names qs x) in
      typed_node i (Some t) n c.symbol.vars
      ∷ patterns_nodes w first (n + c.symbol.vars) (part_types n c) ps
  pattern_nodes w first n t (tuple_pattern i ps) =
      let c = entry_of w.symbols (w.tuples (count_patterns ps)) in
      typed_node i (Some t) n c.symbol.vars
      ∷ patterns_nodes w first (n + c.symbol.vars) (part_types n c) ps
  pattern_nodes w first n t (alias_pattern p i x) =
      typed_node i (Some t) n 0 ∷ pattern_nodes w first n t p
  pattern_nodes w first n t (record_pattern i fs ps) =
      let c = entry_of w.symbols (Some (record_named w.symbols w.names fs)) in
      typed_node i (Some t) n c.symbol.vars
      ∷ patterns_nodes w first (n + c.symbol.vars)
      (place_types (field_places w fs) (part_types n c)) ps

  pub patterns_nodes : Where → Option (List LocalTree) → ℕ → List Tree → Patterns → List TypedNode
  patterns_nodes w first n ts no_patterns = []
  patterns_nodes w first n ts (more_patterns p ps) =
      pattern_nodes w first n (first_or_int ts) p
      ++ patterns_nodes w first (n + taken (pattern_piece w first n (first_or_int ts) p).notes)
      (rest_of ts) ps

abbrev pub later_nodes : Where → List LocalTree → ℕ → Tree → Alternatives → List TypedNode
later_nodes w first n t no_alternatives = []
later_nodes w first n t (more_alternatives i p ps) =
    pattern_nodes w (Some first) n t p
    ++ later_nodes w first (n + taken (pattern_piece w (Some first) n t p).notes) t ps

abbrev pub alternatives_nodes : Where → ℕ → Tree → Alternatives → List TypedNode
alternatives_nodes w n t no_alternatives = []
alternatives_nodes w n t (more_alternatives i p ps) =
    let one = pattern_piece w None n t p in
    pattern_nodes w None n t p ++ later_nodes w one.variables (n + taken one.notes) t ps

abbrev mutual
  pub nodes_of : Where → List LocalTree → ℕ → Option Tree → Expression → List TypedNode
  nodes_of w ls n t (applied_expression i qs x es) =
      let u = use_of_name w ls qs x in
      typed_node i t n (use_vars u)
      ∷ of_symbol u (all_nodes w ls (n + use_vars u) (parameters n u) es)
  nodes_of w ls n t (infix_expression i x a b) =
      let u = use_of_name w ls [] x in
      let m = n + use_vars u in
      let left = piece w ls m (Some (first_or_int (parameters n u))) a in
      typed_node i t n (use_vars u)
      ∷ of_symbol u (nodes_of w ls m (Some (first_or_int (parameters n u))) a
      ++ nodes_of w ls (unknown_after m left)
      (Some (first_or_int (rest_of (parameters n u)))) b)
  nodes_of w ls n t (integer_expression i z) = typed_node i t n 0 ∷ []
  nodes_of w ls n t (true_expression i) = typed_node i None n 0 ∷ []
  nodes_of w ls n t (false_expression i) = typed_node i None n 0 ∷ []
  nodes_of w ls n t (tuple_expression i es) =
      let u = tuple_use w (count_expressions es) in
      typed_node i t n (use_vars u)
      ∷ of_symbol u (all_nodes w ls (n + use_vars u) (parameters n u) es)
  nodes_of w ls n t (cast_expression i e f) =
      typed_node i t n 0 ∷ nodes_of w ls n (Some (type_at w f)) e
  nodes_of w ls n t (field_expression i e k qs x) =
      let u = field_use w qs x in
      typed_node i t n (use_vars u)
      ∷ nodes_of w ls (n + use_vars u) (Some (first_or_int (parameters n u))) e
  nodes_of w ls n t (record_expression i fs es) =
      let u = record_use w fs in
      typed_node i t n (use_vars u)
      ∷ all_nodes w ls (n + use_vars u) (place_types (field_places w fs) (parameters n u)) es
  nodes_of w ls n t (not_expression i e) = typed_node i None n 0 ∷ nodes_of w ls n None e
  nodes_of w ls n t (connected_expression i a o b) =
      typed_node i None n 0 ∷ (nodes_of w ls n None a
      ++ nodes_of w ls (unknown_after n (piece w ls n None a)) None b)
  nodes_of w ls n t (equality_expression i same a b) =
      typed_node i None n 1 ∷ (nodes_of w ls (n + 1) (Some (unknown n)) a
      ++ nodes_of w ls (unknown_after (n + 1) (piece w ls (n + 1) (Some (unknown n)) a))
      (Some (unknown n)) b)
  nodes_of w ls n t (if_expression i c a b) =
      let m = unknown_after n (piece w ls n None c) in
      typed_node i t n 0 ∷ (nodes_of w ls n None c
      ++ (nodes_of w ls m t a ++ nodes_of w ls (unknown_after m (piece w ls m t a)) t b))
  nodes_of w ls n t (let_expression i x a b) =
      typed_node i t n 1 ∷ (nodes_of w ls (n + 1) (Some (unknown n)) a
      ++ nodes_of w (local x (unknown n) ∷ ls)
      (unknown_after (n + 1) (piece w ls (n + 1) (Some (unknown n)) a)) t b)
  nodes_of w ls n t (match_expression i is_let e bs) =
      typed_node i t n 1 ∷ (nodes_of w ls (n + 1) (Some (unknown n)) e
      ++ branches_nodes w ls (unknown_after (n + 1) (piece w ls (n + 1) (Some (unknown n)) e))
      (unknown n) t bs)
  nodes_of w ls n t (quantified_expression i all bs gs b) =
      let inside = reverse (bound w n bs) ++ ls in
      let m = n + binders_vars bs in
      typed_node i None n (binders_vars bs)
      ∷ (triggers_nodes w inside m gs
      ++ nodes_of w inside (m + taken (triggers_notes w inside m gs)) None b)

  pub all_nodes : Where → List LocalTree → ℕ → List Tree → Expressions → List TypedNode
  all_nodes w ls n ts no_expressions = []
  all_nodes w ls n ts (more_expressions e es) =
      nodes_of w ls n (Some (first_or_int ts)) e
      ++ all_nodes w ls (unknown_after n (piece w ls n (Some (first_or_int ts)) e)) (rest_of ts) es

  -- a trigger that is a term takes an unknown
  pub triggers_nodes : Where → List LocalTree → ℕ → Expressions → List TypedNode
  triggers_nodes w ls n no_expressions = []
  triggers_nodes w ls n (more_expressions e es) =
      let is_formula = is_formula_trigger w (names ls) e in
      let one = cond is_formula (piece w ls n None e)
      (noted_before (noted [] (token e ∷ [])) (piece w ls (n + 1) (Some (unknown n)) e)) in
      cond is_formula (nodes_of w ls n None e)
      (typed_node (token e) None n 1 ∷ nodes_of w ls (n + 1) (Some (unknown n)) e)
      ++ triggers_nodes w ls (unknown_after n one) es

  pub branches_nodes : Where → List LocalTree → ℕ → Tree → Option Tree → MatchBranches
      → List TypedNode
  branches_nodes w ls n subject t no_branches = []
  branches_nodes w ls n subject t (more_branches ps b bs) =
      let ms = alternatives_pieces w n subject ps in
      let m = n + taken (all_notes ms) in
      let inside = reverse (first_variables ms) ++ ls in
      alternatives_nodes w n subject ps
      ++ (nodes_of w inside m t b
      ++ branches_nodes w ls (unknown_after m (piece w inside m t b)) subject t bs)

-- of the bodies of a group, one after another
abbrev pub member_nodes : Where → List LocalTree → ℕ → Option Tree → Option Expression
    → List TypedNode
member_nodes w ls n t None = []
member_nodes w ls n t (Some e) = nodes_of w ls n t e

abbrev pub bodies_nodes : Where → ℕ → List GroupMember → List SignatureTree → List TypedNode
bodies_nodes w n [] gs = []
bodies_nodes w n (m ∷ ms) [] = []
bodies_nodes w n (m ∷ ms) (g ∷ gs) =
    member_nodes (with_vars w g.vars) (body_locals m g) n g.result m.body
    ++ bodies_nodes w (unknown_after n (member_piece w n m g)) ms gs

abbrev pub Among : Tree → List Tree → Type 0
Among t [] = ⊥
Among t (u ∷ us) = (u ≡ t) ⊎ Among t us

-- a type that all solutions agree in
abbrev pub IsFixedType : ℕ → List (Tree × Tree) → Tree → Type 0
IsFixedType rigid es t = (f g : ℕ → Tree) → IsSolution rigid f es → IsSolution rigid g es
    → assign rigid f t ≡ assign rigid g t

-- the first node one of whose types differs between two solutions
pub record IsFirstOpenNode (rigid : ℕ) (es : List (Tree × Tree)) (xs : List TypedNode)
    (token : ℕ) : Type 0 where
  pub place : ℕ
  pub node : TypedNode
  pub there : slice_get xs place ≡ Some node
  pub named : node.token ≡ token
  pub type : Tree
  pub among : Among type node.types
  pub first : ℕ → Tree
  pub second : ℕ → Tree
  pub first_solves : IsSolution rigid first es
  pub second_solves : IsSolution rigid second es
  pub differ : assign rigid first type ≡ assign rigid second type → ⊥
  pub before : (j : ℕ) (x : TypedNode) → j < place → slice_get xs j ≡ Some x
      → AllByRecursion (IsFixedType rigid es) x.types
