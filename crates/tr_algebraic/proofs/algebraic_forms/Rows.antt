-- Worked rows by computation: what is put in the place of lists, of two constructors with a field each, of three without fields, and
-- of a group of two types with one constructor each.
use Rattle.std.proofs.Common.{◌≡◌, ℕ, List, [], ◌∷◌, map, None, refl, codes}
use Rattle.trees.specs.declared.Op.TheVariants.{Or}
use Rattle.trees.specs.Tree.{Tree, One, Two, Three, HTyApp, HFun, HEq, HNot, HJoin, HForall}
use Rattle.trees.specs.Binding.{Bound, TyVar}
use Rattle.trees.specs.Sorts.{int_type}
use Rattle.tasks.specs.declared.signature.SymbolKind.{SymbolKind}
use Rattle.tasks.specs.declared.signature.SymbolKind.TheVariants.{Kind, Constructor, Projection}
use Rattle.tasks.specs.Task.{SymbolTree, int_symbol, ConstructorTree, BodyTree, MakesType, Makes, Constructs, Says, DeclarationTree}
use Rattle.tasks.specs.Equations.{cells}
use Rattle.tr_algebraic.specs.declared.algebraic_forms.origins.LawKind.TheVariants as law
use Rattle.tr_algebraic.specs.algebraic_forms.Groups.{group_laws, algebraic_rule}
use Rattle.tr_algebraic.specs.algebraic_forms.Search.{kinds_of_laws}

abbrev entry : SymbolKind → ℕ → SymbolTree
entry kind vars = record { theory = codes "T"; name = codes "f"; kind = kind; vars = vars; args = []; result = None }

abbrev declared : ℕ → BodyTree → DeclarationTree
declared vars body = record { theory = codes "T"; name = codes "t"; vars = vars; body = body }

abbrev con : ℕ → List Tree → List ℕ → ConstructorTree
con symbol fields projections = record { symbol = symbol; fields = fields; projections = projections }

abbrev at : ℕ → List Tree → List Tree → Tree → Tree
at f types ts ty = Three (HFun f) (cells types) (cells ts) ty

-- ---- type list 'a = Nil | Cons 'a (list 'a), of the numbers 1, 2, 3, with the projections 4 and 5
abbrev lists : Tree
lists = One (HTyApp 1) (cells (TyVar 0 ∷ []))

abbrev list_symbols : List SymbolTree
list_symbols = int_symbol ∷ entry Kind 1 ∷ entry Constructor 1 ∷ entry Constructor 1 ∷ entry Projection 1 ∷ entry Projection 1 ∷ []

abbrev nil : Tree
nil = at 2 (TyVar 0 ∷ []) [] lists

abbrev cons : Tree → Tree → Tree
cons x l = at 3 (TyVar 0 ∷ []) (x ∷ l ∷ []) lists

abbrev both : Tree → Tree
both e = Two HForall (TyVar 0) (Two HForall lists e)

list-row : algebraic_rule list_symbols (declared 1 (Constructs (record { symbol = 1; cons = con 2 [] [] ∷ con 3 (TyVar 0 ∷ lists ∷ []) (4 ∷ 5 ∷ []) ∷ [] } ∷ [])))
    ≡ declared 1 (MakesType 1) ∷ declared 1 (Makes 2) ∷ declared 1 (Makes 3) ∷ declared 1 (Makes 4) ∷ declared 1 (Makes 5)
    ∷ declared 1 (Says (both (Two HEq (at 4 (TyVar 0 ∷ []) (cons (Bound 1 (TyVar 0)) (Bound 0 lists) ∷ []) (TyVar 0)) (Bound 1 (TyVar 0)))))
    ∷ declared 1 (Says (both (Two HEq (at 5 (TyVar 0 ∷ []) (cons (Bound 1 (TyVar 0)) (Bound 0 lists) ∷ []) lists) (Bound 0 lists))))
    ∷ declared 1 (Says (both (One HNot (Two HEq nil (cons (Bound 1 (TyVar 0)) (Bound 0 lists))))))
    ∷ declared 1 (Says (Two HForall lists (Two (HJoin Or) (Two HEq (Bound 0 lists) nil) (Two HEq (Bound 0 lists) (cons (at 4 (TyVar 0 ∷ []) (Bound 0 lists ∷ []) (TyVar 0)) (at 5 (TyVar 0 ∷ []) (Bound 0 lists ∷ []) lists))))))
    ∷ []
list-row = refl

-- ---- type t = A int | B int, of the numbers 1, 2, 4, with the projections 3 and 5
abbrev t : Tree
t = One (HTyApp 1) (cells [])

abbrev t_symbols : List SymbolTree
t_symbols = int_symbol ∷ entry Kind 0 ∷ entry Constructor 0 ∷ entry Projection 0 ∷ entry Constructor 0 ∷ entry Projection 0 ∷ []

-- the variable of the first constructor is that of the outer quantifier
distinct-row : map (λ x. x.formula) (group_laws t_symbols (record { symbol = 1; cons = con 2 (int_type ∷ []) (3 ∷ []) ∷ con 4 (int_type ∷ []) (5 ∷ []) ∷ [] } ∷ []))
    ≡ Two HForall int_type (Two HEq (at 3 [] (at 2 [] (Bound 0 int_type ∷ []) t ∷ []) int_type) (Bound 0 int_type))
    ∷ Two HForall int_type (Two HEq (at 5 [] (at 4 [] (Bound 0 int_type ∷ []) t ∷ []) int_type) (Bound 0 int_type))
    ∷ Two HForall int_type (Two HForall int_type (One HNot (Two HEq (at 2 [] (Bound 1 int_type ∷ []) t) (at 4 [] (Bound 0 int_type ∷ []) t))))
    ∷ Two HForall t (Two (HJoin Or) (Two HEq (Bound 0 t) (at 2 [] (at 3 [] (Bound 0 t ∷ []) int_type ∷ []) t)) (Two HEq (Bound 0 t) (at 4 [] (at 5 [] (Bound 0 t ∷ []) int_type ∷ []) t)))
    ∷ []
distinct-row = refl

-- ---- type t = A | B | C, of the numbers 1 to 4
abbrev c : ℕ → Tree
c k = at k [] [] t

abbrev is : ℕ → Tree
is k = Two HEq (Bound 0 t) (c k)

pairs-row : map (λ x. x.formula) (group_laws t_symbols (record { symbol = 1; cons = con 2 [] [] ∷ con 3 [] [] ∷ con 4 [] [] ∷ [] } ∷ []))
    ≡ One HNot (Two HEq (c 2) (c 3)) ∷ One HNot (Two HEq (c 2) (c 4)) ∷ One HNot (Two HEq (c 3) (c 4)) ∷ Two HForall t (Two (HJoin Or) (is 2) (Two (HJoin Or) (is 3) (is 4))) ∷ []
pairs-row = refl

-- ---- type t = A with u = B t, of the numbers 1 to 4, with the projection 5
abbrev u : Tree
u = One (HTyApp 3) (cells [])

group-row : algebraic_rule t_symbols (declared 0 (Constructs (record { symbol = 1; cons = con 2 [] [] ∷ [] } ∷ record { symbol = 3; cons = con 4 (t ∷ []) (5 ∷ []) ∷ [] } ∷ [])))
    ≡ declared 0 (MakesType 1) ∷ declared 0 (Makes 2) ∷ declared 0 (MakesType 3) ∷ declared 0 (Makes 4) ∷ declared 0 (Makes 5) ∷ declared 0 (Says (Two HForall t (is 2)))
    ∷ declared 0 (Says (Two HForall t (Two HEq (at 5 [] (at 4 [] (Bound 0 t ∷ []) u ∷ []) t) (Bound 0 t))))
    ∷ declared 0 (Says (Two HForall u (Two HEq (Bound 0 u) (at 4 [] (at 5 [] (Bound 0 u ∷ []) t ∷ []) u))))
    ∷ []
group-row = refl

-- of which kind the laws are, type by type
kinds-row : kinds_of_laws (group_laws list_symbols (record { symbol = 1; cons = con 2 [] [] ∷ con 3 (TyVar 0 ∷ lists ∷ []) (4 ∷ 5 ∷ []) ∷ [] } ∷ record { symbol = 1; cons = con 2 [] [] ∷ [] } ∷ []))
    ≡ law.Projection ∷ law.Projection ∷ law.Distinctness ∷ law.Exhaustion ∷ law.Exhaustion ∷ []
kinds-row = refl

-- another declaration stays
other-row : algebraic_rule t_symbols (declared 0 (Makes 2)) ≡ declared 0 (Makes 2) ∷ []
other-row = refl
