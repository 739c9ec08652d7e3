-- Numbers that are written one after another into a list by number.
use Rattle.std.proofs.Common.{◌≡◌, ℕ, ◌+◌, ◌<◌, ◌||◌, ◌==◌, Bool, true, false, cond, List, [], ◌∷◌, length, get_or, drop, drop-cons, add-one, suc, slice_get, map, replicate, Some, None, refl, sym, ap, ◌∙◌, subst, arith}
use Rattle.std.specs.List.{list_any}
use Rattle.std.proofs.lemmas.List.{length-map, drop_all, get_or-map, get_or-replicate, length-replicate}
use Rattle.std.proofs.lemmas.Option.{slice_get-get_or, slice_get_past}
use Rattle.trees.specs.Tree.{Tree}
use Rattle.tasks.specs.declared.declaration.Decl.{Decl}
use Rattle.tasks.specs.Task.{DeclarationTree}
use Rattle.tasks.specs.Roles.{maker, is_made_by}
use Rattle.tasks.specs.Meaning.{body_at, declaration_at, declarations_at}
use Rattle.tasks.specs.Looking.{SetsWhere, AreMadeBy}

pub marks_none : (a : List ℕ) (v : ℕ) → SetsWhere a a (λ k. false) v
marks_none a v = record { as_long = refl; each = λ k d h. refl }

either : (b c : Bool) (v x : ℕ) → cond c v (cond b v x) ≡ cond (b || c) v x
either true true v x = refl
either true false v x = refl
either false c v x = refl

pub marks_then : {a b c : List ℕ} {f g : ℕ → Bool} {v : ℕ} → SetsWhere a b f v → SetsWhere b c g v → SetsWhere a c (λ k. f k || g k) v
marks_then {a = a} {f = f} {g = g} {v = v} one two = record {
  as_long = two.as_long ∙ one.as_long;
  each = λ k d h. two.each k d (omega (arith, one.as_long)) ∙ ap (λ x. cond (g k) v x) (one.each k d h) ∙ either (f k) (g k) v (get_or a k d);
}

-- ---- the makers of the declarations from a place on
abbrev pub AreMakersFrom : List Decl → ℕ → List ℕ → Type 0
AreMakersFrom ds place makers = (s : List Tree) (k : ℕ) → k < length makers → slice_get (declarations_at s ds) (get_or makers k 0) ≡ maker (declarations_at s (drop place ds)) k

choose : (b c : Bool) (p v x : ℕ) (all : List DeclarationTree) (d : DeclarationTree) (rest : List DeclarationTree) (k : ℕ) → p ≡ cond b v x → b ≡ c → slice_get all v ≡ Some d → slice_get all x ≡ maker rest k
    → slice_get all p ≡ cond c (Some d) (maker rest k)
choose true true p v x all d rest k e f g h = ap (slice_get all) e ∙ g
choose false false p v x all d rest k e f g h = ap (slice_get all) e ∙ h
choose true false p v x all d rest k e f g h = absurd (cc)
choose false true p v x all d rest k e f g h = absurd (cc)

pub makers_step : (ds : List Decl) (place : ℕ) (old new symbols : List ℕ) (d : Decl) → place < length ds → d ≡ get_or ds place d → AreMadeBy d.body symbols
    → SetsWhere old new (λ k. list_any (λ j. j == k) symbols) place → AreMakersFrom ds (place + 1) old → AreMakersFrom ds place new
makers_step ds place old new symbols d h e made m so s k l =
    let all = declarations_at s ds in
    let rest = declarations_at s (drop (place + 1) ds) in
    let cut : drop place ds ≡ d ∷ drop (place + 1) ds = subst (λ (z : ℕ). drop place ds ≡ d ∷ drop z ds) (sym (add-one place)) (drop-cons ds place d h ∙ ap (λ z. z ∷ drop (suc place) ds) (sym e)) in
    let same : list_any (λ j. j == k) symbols ≡ is_made_by k (body_at s d.body) = ap (list_any (λ j. j == k)) (made s) in
    let here : slice_get all place ≡ Some (declaration_at s d) =
    slice_get-get_or all place (declaration_at s d) (omega (arith, length-map ds (declaration_at s))) ∙ ap (λ (z : DeclarationTree). Some z) (get_or-map (declaration_at s) ds place d (declaration_at s d) h ∙ ap (declaration_at s) (sym e)) in
    let before : k < length old = omega (arith, m.as_long) in
    choose (list_any (λ j. j == k) symbols) (is_made_by k (body_at s d.body)) (get_or new k 0) place (get_or old k 0) all (declaration_at s d) rest k (m.each k 0 before) same here (so s k before)
    ∙ sym (ap (λ (z : List Decl). maker (declarations_at s z) k) cut)

pub makers_none : (ds : List Decl) (m : ℕ) (makers : List ℕ) → makers ≡ replicate m (length ds) → AreMakersFrom ds (length ds) makers
makers_none ds m makers e s k l =
    let short : k < m = omega (arith, ap length e, length-replicate m (length ds)) in
    let there : get_or makers k 0 ≡ length ds = ap (λ (z : List ℕ). get_or z k 0) e ∙ get_or-replicate m k (length ds) 0 short in
    ap (slice_get (declarations_at s ds)) there ∙ slice_get_past (declarations_at s ds) (length ds) (omega (arith, length-map ds (declaration_at s)))
    ∙ sym (ap (λ (z : List Decl). maker (declarations_at s z) k) (drop_all (length ds) ds (omega arith)))
