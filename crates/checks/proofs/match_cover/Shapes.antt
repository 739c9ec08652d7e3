-- Shapes in code, one by one.
use Rattle.std.proofs.Common.{◌≡◌, ℕ, zero, suc, ◌+◌, ◌≤◌, List, [], ◌∷◌, ◌++◌, length, take, drop, refl, sym, ap, ◌∙◌, arith}
use Rattle.checks.specs.declared.match_cover.shape.ValueShape.{ValueShape as StoredShape, ValueShape-F}
use Rattle.checks.specs.declared.match_cover.shape.ValueShape.TheViews.{roll-ValueShape}
use Rattle.checks.specs.declared.match_cover.shape.ValueShape.TheFolds.{fold-roll-ValueShape}
use Rattle.checks.specs.match_cover.Shapes.{ShapeTree, unspecified, built, Shapes, no_shapes, more_shapes}
use Rattle.checks.specs.match_cover.Tables.{unknowns, number_of_shapes, append_shapes}
use Rattle.checks.specs.match_cover.Meaning.{known, shape_step, shape_of, shapes_of, first_shapes, shapes_after}

pub shape_of-roll : (r : ValueShape-F StoredShape) → shape_of (roll-ValueShape r) ≡ known r.con (shapes_of r.parts)
unfolding shape_of
shape_of-roll r = fold-roll-ValueShape ShapeTree shape_step r

pub unknowns_push : (xs : List StoredShape) (s : StoredShape) (n : ℕ) → shapes_of xs ≡ unknowns n → shape_of s ≡ unspecified → shapes_of (xs ++ s ∷ []) ≡ unknowns (n + 1)
unknowns_push [] s zero e u = ap (λ x. more_shapes x no_shapes) u
unknowns_push [] s (suc n) e u = absurd (cc)
unknowns_push (x ∷ xs) s zero e u = absurd (cc)
unknowns_push (x ∷ xs) s (suc n) e u =
    let h : shape_of x ≡ unspecified = cc in
    let r : shapes_of (xs ++ s ∷ []) ≡ unknowns (n + 1) = unknowns_push xs s n (cc) u in
    let k : suc n + 1 ≡ suc (n + 1) = omega arith in
    ap (λ y. more_shapes y (shapes_of (xs ++ s ∷ []))) h ∙ ap (λ y. more_shapes unspecified y) r ∙ ap unknowns (sym k)

pub shapes_taken : (n : ℕ) (xs : List StoredShape) → shapes_of (take n xs) ≡ first_shapes n (shapes_of xs)
shapes_taken zero xs = refl
shapes_taken (suc n) [] = refl
shapes_taken (suc n) (x ∷ xs) = ap (λ y. more_shapes (shape_of x) y) (shapes_taken n xs)

pub shapes_dropped : (n : ℕ) (xs : List StoredShape) → shapes_of (drop n xs) ≡ shapes_after n (shapes_of xs)
shapes_dropped zero xs = refl
shapes_dropped (suc n) [] = refl
shapes_dropped (suc n) (x ∷ xs) = shapes_dropped n xs

pub count_shapes : (xs : List StoredShape) → number_of_shapes (shapes_of xs) ≡ length xs
count_shapes [] = refl
count_shapes (x ∷ xs) = omega (arith, count_shapes xs)

pub front_after : (n : ℕ) (ss : Shapes) → append_shapes (first_shapes n ss) (shapes_after n ss) ≡ ss
front_after zero ss = refl
front_after (suc n) no_shapes = refl
front_after (suc n) (more_shapes s ss) = ap (λ y. more_shapes s y) (front_after n ss)

pub count_front : (n : ℕ) (ss : Shapes) → n ≤ number_of_shapes ss → number_of_shapes (first_shapes n ss) ≡ n
count_front zero ss l = refl
count_front (suc n) no_shapes l = absurd (omega arith)
count_front (suc n) (more_shapes s ss) l = omega (arith, count_front n ss (omega arith))

pub built_first : (xs rest all : List StoredShape) (first : StoredShape) (n k : ℕ) → all ≡ first ∷ rest → rest ≡ drop n xs → shape_of first ≡ built k (shapes_of (take n xs))
    → shapes_of all ≡ more_shapes (built k (first_shapes n (shapes_of xs))) (shapes_after n (shapes_of xs))
built_first xs rest all first n k a r f =
    ap shapes_of a ∙ ap (λ y. more_shapes y (shapes_of rest)) (f ∙ ap (built k) (shapes_taken n xs)) ∙ ap (λ y. more_shapes (built k (first_shapes n (shapes_of xs))) y) (ap shapes_of r ∙ shapes_dropped n xs)

not_none : (xs : List StoredShape) (y : StoredShape) → shapes_of (xs ++ y ∷ []) ≡ no_shapes → ⊥
not_none [] y e = cc
not_none (x ∷ xs) y e = cc

-- the last of one shape
pub only_shape : (all rest : List StoredShape) (last : StoredShape) (s : ShapeTree) → shapes_of all ≡ more_shapes s no_shapes → all ≡ rest ++ last ∷ [] → shape_of last ≡ s
only_shape all [] last s e p = let q : more_shapes (shape_of last) no_shapes ≡ more_shapes s no_shapes = sym (ap shapes_of p) ∙ e in cc
only_shape all (x ∷ rest) last s e p =
    let q : more_shapes (shape_of x) (shapes_of (rest ++ last ∷ [])) ≡ more_shapes s no_shapes = sym (ap shapes_of p) ∙ e in
    let z : shapes_of (rest ++ last ∷ []) ≡ no_shapes = cc in
    absurd (not_none rest last z)

pub some_shape : (all : List StoredShape) (s : ShapeTree) → shapes_of all ≡ more_shapes s no_shapes → all ≡ [] → ⊥
some_shape all s e z = let q : no_shapes ≡ more_shapes s no_shapes = sym (ap shapes_of z) ∙ e in cc
