-- Worked rows by computation: a type with two constructors, and lists at it.
use Rattle.std.proofs.Common.{◌≡◌, ℕ, ◌<◌, List, [], ◌∷◌, All, Any, Option, Some, None, inl, inr, zero, suc, refl, arith, codes}
use Rattle.std.proofs.lemmas.List.Elements.{All-nil, All-cons}
use Rattle.trees.specs.Tree.{Tree, Leaf, One, Two, Three, HTyVar, HTyApp, HEnd, HPatAny, HPatVar, HPatCon, HPatAlias}
use Rattle.trees.specs.Sorts.{type_of}
use Rattle.tasks.specs.declared.signature.SymbolKind.TheVariants.{Kind, Constructor}
use Rattle.tasks.specs.Task.{SymbolTree, int_symbol}
use Rattle.tasks.specs.Equations.{cells}
use Rattle.tasks.specs.Valid.{own_type}
use Rattle.checks.specs.match_cover.Shapes.{ShapeTree, unspecified, built, Shapes, no_shapes, more_shapes, IsShape, Builds, field_types, Meets, AreExhaustive, Escapes}

abbrev entry : ℕ → List Tree → Option Tree → SymbolTree
entry vars args result = record { theory = codes "T"; name = codes "s"; kind = Constructor; vars = vars; args = args; result = result }

abbrev type : ℕ → SymbolTree
type vars = record { theory = codes "T"; name = codes "t"; kind = Kind; vars = vars; args = []; result = None }

-- int, `type t = A | B`, `type list 'a = Nil | Cons 'a (list 'a)`
abbrev symbols : List SymbolTree
symbols =
    int_symbol ∷ type 0 ∷ entry 0 [] (Some (own_type 1 0)) ∷ entry 0 [] (Some (own_type 1 0)) ∷ type 1 ∷ entry 1 [] (Some (own_type 4 1))
    ∷ entry 1 (Leaf (HTyVar 0) ∷ own_type 4 1 ∷ []) (Some (own_type 4 1)) ∷ []

abbrev t : Tree
t = One (HTyApp 1) (Leaf HEnd)

abbrev list_of : Tree → Tree
list_of a = One (HTyApp 4) (cells (a ∷ []))

abbrev con : ℕ → List Tree → Tree → Tree
con k parts ty = Three (HPatCon k) (Leaf HEnd) (cells parts) ty

-- the fields of `Cons` at lists of t
fields-row : field_types symbols (list_of t) 6 ≡ t ∷ list_of t ∷ []
fields-row = refl

-- the pattern A alone leaves B, as it does under a name
escapes-row : Escapes symbols (con 2 [] t ∷ []) (built 3 no_shapes)
escapes-row = record {
  type = t;
  have = All-cons (λ p. type_of p ≡ Some t) (con 2 [] t) [] refl (All-nil (λ p. type_of p ≡ Some t));
  is = ((refl, refl), tt);
  unmet = All-cons (λ p. Meets (built 3 no_shapes) p → ⊥) (con 2 [] t) [] (λ h. (let e : 2 ≡ 3 = h.0 in omega (arith, e))) (All-nil (λ p. Meets (built 3 no_shapes) p → ⊥));
}

alias-row : Meets (built 3 no_shapes) (One HPatAlias (con 2 [] t)) → ⊥
alias-row h = let e : 2 ≡ 3 = h.0 in omega (arith, e)

-- the empty list leaves the unspecified shape
empty-row : Escapes symbols [] unspecified
empty-row = record { type = t; have = All-nil (λ p. type_of p ≡ Some t); is = tt; unmet = All-nil (λ p. Meets unspecified p → ⊥) }

-- `Cons _ Nil` meets the list of one member, and not a longer one
one-row : Meets (built 6 (more_shapes unspecified (more_shapes (built 5 no_shapes) no_shapes))) (con 6 (One HPatAny t ∷ con 5 [] (list_of t) ∷ []) (list_of t))
one-row = (refl, (tt, ((refl, tt), tt)))

longer-row : Meets (built 6 (more_shapes unspecified (more_shapes (built 6 (more_shapes unspecified (more_shapes unspecified no_shapes))) no_shapes))) (con 6 (One HPatAny t ∷ con 5 [] (list_of t) ∷ []) (list_of t)) → ⊥
longer-row h = let e : 5 ≡ 6 = h.1.1.0.0 in omega (arith, e)

-- an unspecified tail is met by each pattern
tail-row : Meets (built 6 (more_shapes unspecified (more_shapes unspecified no_shapes))) (con 6 (One HPatAny t ∷ con 5 [] (list_of t) ∷ []) (list_of t))
tail-row = (refl, (tt, (tt, tt)))
