-- Structural recursion (Gimenez, "Codifying guarded definitions with recursive schemes"): each
-- member of a group of definitions has an argument such that every use of a member in a body
-- passes, there, a variable that a pattern binds strictly inside the variable at the place of the
-- member that is defined.
use Rattle.std.specs.Prelude.{◌≡◌, ℕ, ◌*◌, ◌/◌, ◌%◌, ◌<◌, ◌==◌, Bool, true, false, ◌&&◌, if◌then◌else◌, List, [], ◌∷◌, ◌++◌, map, length, get_or, slice_get, Contains, ◌⊎◌, zero, suc, Option, Some, None, IsSomeAnd, codes}
use Rattle.std.specs.Str.{bytes_eq}
use Rattle.trees.specs.Tree.{Tree, Leaf, One, Two, Three, Head, HCell, HBound, HFun, HPred, HEq, HJoin, HForall, HExists, HLet, HCase, HArm, HPatVar, HPatCon, HPatAlias}
use Rattle.trees.specs.declared.Op.TheVariants.{Iff}
use Rattle.tasks.specs.declared.signature.SymbolKind.{SymbolKind}
use Rattle.tasks.specs.declared.signature.SymbolKind.TheVariants.{Constructor}
use Rattle.tasks.specs.Task.{SymbolTree, symbol_or, DefinitionTree}
use Rattle.tasks.specs.Typing.{members}
use Rattle.checks.specs.declared.decl_checks.standing.Standing.{Standing}
use Rattle.checks.specs.declared.decl_checks.standing.Standing.TheVariants.{Other, Whole, Inside}
pub use Rattle.tasks.specs.Vocabulary.{is_constructor_kind}

-- a variable by the number of binders between it and its own
abbrev pub bound_index : Tree → Option ℕ
bound_index (One (HBound i) type) = Some i
bound_index _ = None

abbrev pub standing_by : List Standing → Option ℕ → Standing
standing_by known (Some i) = get_or known i Other
standing_by known None = Other

-- how a term stands, under variables that stand so, innermost first: only a variable is more than
-- another term
abbrev pub standing : List Standing → Tree → Standing
standing known e = standing_by known (bound_index e)

-- how what is inside something stands, or (false) the thing itself
abbrev pub through : Bool → Standing → Standing
through true Other = Other
through true _ = Inside
through false s = s

-- a constructor of tuples
abbrev pub is_tuple_constructor : SymbolTree → Bool
is_tuple_constructor e = is_constructor_kind e.kind && bytes_eq e.theory (codes "BuiltIn")

-- the list of the members of a tuple of this constructor that is written out; none inside a term
abbrev pub components : List SymbolTree → Bool → ℕ → Tree → Option Tree
components symbols false c (Three (HFun f) types args type) =
    if (f == c) && is_tuple_constructor (symbol_or symbols f) then Some args else None
components symbols _ c _ = None

abbrev pub list_head : Tree → Tree
list_head (Two HCell a b) = a
list_head e = e

abbrev pub list_tail : Tree → Tree
list_tail (Two HCell a b) = b
list_tail e = e

abbrev pub one_bound : Head → Bool × Tree → List (Bool × Tree) → List (Bool × Tree)
one_bound HPatVar s inner = s ∷ []
one_bound HPatAlias s inner = s ∷ inner
one_bound _ s inner = []

abbrev pub two_bound : Head → List (Bool × Tree) → List (Bool × Tree) → List (Bool × Tree)
two_bound HCell rest first = rest ++ first
two_bound _ rest first = []

abbrev pub parts_bound : Option Tree → (Bool → Tree → List (Bool × Tree)) → Tree
    → List (Bool × Tree)
parts_bound (Some args) by_parts e = by_parts false args
parts_bound None by_parts e = by_parts true e

abbrev pub three_bound : Head → (ℕ → List (Bool × Tree)) → List (Bool × Tree)
three_bound (HPatCon c) by_constructor = by_constructor c
three_bound _ by_constructor = []

-- For each variable of a pattern that is matched with a term, or of a list with as many terms, the
-- last one first: the term that the variable is, or (true) inside of which it is. Under a
-- constructor it is inside; a tuple that is written out goes component by component.
abbrev pub bound_to : List SymbolTree → Bool → Tree → Tree → List (Bool × Tree)
bound_to symbols inside e (Leaf h) = []
bound_to symbols inside e (One h p) = one_bound h (inside, e) (bound_to symbols inside e p)
bound_to symbols inside e (Two h p ps) =
    two_bound h (bound_to symbols inside (list_tail e) ps) (bound_to symbols inside (list_head e) p)
bound_to symbols inside e (Three h types parts type) =
    three_bound h (λ c. parts_bound (components symbols inside c e)
    (λ under t. bound_to symbols under t parts) e)

abbrev pub stands : List Standing → Bool × Tree → Standing
stands known q = through q.0 (standing known q.1)

-- how the variables of a pattern stand that is matched with a term
abbrev pub learned : List SymbolTree → List Standing → Tree → Tree → List Standing
learned symbols known e p = map (stands known) (bound_to symbols false e p)

-- the argument at a place of a list is strictly inside
abbrev pub PassesInside : List Standing → Tree → ℕ → Type 0
PassesInside known args place =
    IsSomeAnd (slice_get (members args) place) (λ e. standing known e ≡ Inside)

-- Members of a group, each with the place of one of its arguments. Each use of a member passes
-- something inside there.
abbrev pub UsePasses : List (ℕ × ℕ) → List Standing → ℕ → Tree → Type 0
UsePasses [] known f args = Unit {0}
UsePasses (m ∷ ms) known f args =
    (m.0 ≡ f → PassesInside known args m.1) × UsePasses ms known f args

-- the use at the top of a tree, if it is one, passes something inside
abbrev pub TopPasses : List (ℕ × ℕ) → List Standing → Tree → Type 0
TopPasses chosen known (Two (HPred p) a b) = UsePasses chosen known p b
TopPasses chosen known (Three (HFun f) a b c) = UsePasses chosen known f b
TopPasses chosen known _ = Unit {0}

-- how the variables stand that an operator binds in its second child, where the branches around are
-- of a match on a term
abbrev pub bound_standings : List SymbolTree → List Standing → Tree → Head → Tree → List Standing
bound_standings symbols known e HForall a = Other ∷ []
bound_standings symbols known e HExists a = Other ∷ []
bound_standings symbols known e HLet a = Other ∷ []
bound_standings symbols known e HArm a = learned symbols known e a
bound_standings symbols known e _ a = []

-- how variables stand in the second child of a tree, where the branches around are of a match on a
-- term
abbrev pub standings_in : List SymbolTree → List Standing → Tree → Tree → List Standing
standings_in symbols known e (Two h a b) = bound_standings symbols known e h a ++ known
standings_in symbols known e _ = known

-- the term that the branches in an operator's second child are matched with
abbrev pub matched_in : Tree → Head → Tree → Tree
matched_in e HCase a = a
matched_in e _ a = e

-- each use of a member in a tree passes something inside at the member's place
abbrev pub UsesPassInside : List SymbolTree → List (ℕ × ℕ) → List Standing → Tree → Tree → Type 0
UsesPassInside symbols chosen known e (Leaf h) = Unit {0}
UsesPassInside symbols chosen known e (One h a) = UsesPassInside symbols chosen known e a
UsesPassInside symbols chosen known e (Two h a b) =
    TopPasses chosen known (Two h a b) × UsesPassInside symbols chosen known e a
    × UsesPassInside symbols chosen (bound_standings symbols known e h a ++ known)
    (matched_in e h a) b
UsesPassInside symbols chosen known e (Three h a b c) =
    TopPasses chosen known (Three h a b c) × UsesPassInside symbols chosen known e a
    × UsesPassInside symbols chosen known e b × UsesPassInside symbols chosen known e c

-- the parameters of a definition, of which one is the argument, the last one first
abbrev pub parameter_standings : ℕ → ℕ → List Standing
parameter_standings zero place = []
parameter_standings (suc n) place =
    (if n == place then Whole else Other) ∷ parameter_standings n place

-- the body of an equation
abbrev pub defining_body : Tree → Tree
defining_body (Two HForall a b) = defining_body b
defining_body (Two HEq a b) = b
defining_body (Two (HJoin Iff) a b) = b
defining_body e = e

-- the number of arguments of a symbol
abbrev pub symbol_arity : List SymbolTree → ℕ → ℕ
symbol_arity symbols k = length (symbol_or symbols k).args

-- A definition has this member, with the place of one of its arguments, and its body passes: the
-- argument is the same one for each use.
abbrev pub OnePasses : List SymbolTree → List (ℕ × ℕ) → DefinitionTree → ℕ × ℕ → Type 0
OnePasses symbols chosen d m =
    (m.0 ≡ d.symbol) × (m.1 < symbol_arity symbols d.symbol)
    × UsesPassInside symbols chosen (parameter_standings (symbol_arity symbols d.symbol) m.1)
    (defining_body d.equation) (defining_body d.equation)

-- so does each
abbrev pub AllPass : List SymbolTree → List (ℕ × ℕ) → List DefinitionTree → List (ℕ × ℕ) → Type 0
AllPass symbols chosen [] [] = Unit {0}
AllPass symbols chosen (d ∷ ds) (m ∷ ms) =
    OnePasses symbols chosen d m × AllPass symbols chosen ds ms
AllPass symbols chosen _ _ = ⊥

-- there are places, one a member, at which each body passes
pub record IsStructural (symbols : List SymbolTree) (ds : List DefinitionTree) : Type 0 where
  pub chosen : List (ℕ × ℕ)
  pub pass : AllPass symbols chosen ds chosen

abbrev pub defined : List DefinitionTree → List ℕ
defined ds = map (λ (d : DefinitionTree). d.symbol) ds

-- a member of the group is used at the top of a tree
abbrev pub TopUses : List ℕ → Tree → Type 0
TopUses group (Two (HPred p) a b) = Contains group p
TopUses group (Three (HFun f) a b c) = Contains group f
TopUses group _ = ⊥

-- a member is used in it
abbrev pub Uses : List ℕ → Tree → Type 0
Uses group (Leaf h) = ⊥
Uses group (One h a) = Uses group a
Uses group (Two h a b) = TopUses group (Two h a b) ⊎ (Uses group a ⊎ Uses group b)
Uses group (Three h a b c) =
    TopUses group (Three h a b c) ⊎ (Uses group a ⊎ (Uses group b ⊎ Uses group c))

-- some body uses a member of a group
abbrev pub SomeUses : List ℕ → List DefinitionTree → Type 0
SomeUses group [] = ⊥
SomeUses group (d ∷ ds) = Uses group (defining_body d.equation) ⊎ SomeUses group ds

abbrev pub IsRecursive : List DefinitionTree → Type 0
IsRecursive ds = SomeUses (defined ds) ds

-- how many choices of places there are
abbrev pub choices : List SymbolTree → List DefinitionTree → ℕ
choices symbols [] = 1
choices symbols (d ∷ ds) = symbol_arity symbols d.symbol * choices symbols ds

-- the choice of a number below that, by its digits
abbrev pub choice_of : List SymbolTree → List DefinitionTree → ℕ → List (ℕ × ℕ)
choice_of symbols [] n = []
choice_of symbols (d ∷ ds) n =
    (d.symbol, n % symbol_arity symbols d.symbol)
    ∷ choice_of symbols ds (n / symbol_arity symbols d.symbol)

-- the choice of a number passes
abbrev pub PassesAt : List SymbolTree → List DefinitionTree → ℕ → Type 0
PassesAt symbols ds n = AllPass symbols (choice_of symbols ds n) ds (choice_of symbols ds n)
