-- What the visits put in.
use Rattle.std.proofs.Common.{[], ◌∷◌, zero, suc, map, length, get_or, nat_lt, ◌-◌, ◌≡◌, ℕ, ◌+◌, ◌<◌, ◌≤◌, ◌⊎◌, inl, inr, List, refl, ap, ◌∙◌, arith, Bool, true, false, cond, ◌==◌}
use Rattle.std.proofs.lemmas.Bool.{cases_order}
use Rattle.trees.specs.declared.TermId.{TermId}
use Rattle.trees.specs.declared.Sort.{Sort}
use Rattle.trees.specs.declared.Sort.TheVariants.{Kind, Term}
use Rattle.trees.specs.Tree.{Tree, One, HBound, HParam}
use Rattle.trees.specs.Binding.{Bound, TyVar, shifting, shift, instantiating, instantiating_many, typing, closing}
use Rattle.trees.specs.Node.{tree_at, Holds, Grows}
use Rattle.trees.specs.Sorts.{sort_of}
use Rattle.trees.specs.Facts.{PutsSorts}
use Rattle.trees.specs.laws.Indices.{inst_below, inst_at, inst_above}
use Rattle.trees.specs.laws.Sorts.{sort_of-change}
use Rattle.std.proofs.lemmas.Bool.Decides.{nat_tests}
pub use Rattle.trees.specs.Node.{trees_at}

-- the number is held, of a term
abbrev pub HoldsTerm : List Tree → TermId → Type 0
HoldsTerm s id = Holds s id × (sort_of (tree_at s id) ≡ Term)

pub sorts_shifting : (up from : ℕ) → PutsSorts (shifting up from)
sorts_shifting up from = record { bound = λ _ _ _. refl; param = λ _ _ _. refl; ty_var = λ _. refl }

pub sorts_inst : (t : Tree) → sort_of t ≡ Term → PutsSorts (instantiating t)
sorts_inst t h = record {
  bound = λ d i ty. at d i ty (cases_order i d);
  param =
      λ _ _ _. refl;
  ty_var = λ _. refl;
}
  where
    at : (d i : ℕ) (ty : Tree) → (i ≡ d) ⊎ ((i < d) ⊎ (d < i))
        → sort_of ((instantiating t).bound d i ty) ≡ Term
    at d i ty (inl e) =
        ap sort_of (inst_at t d i ty e) ∙ sort_of-change (shifting d 0) (sorts_shifting d 0) 0 t ∙ h
    at d i ty (inr (inl l)) = ap sort_of (inst_below t d i ty l)
    at d i ty (inr (inr l)) = ap sort_of (inst_above t d i ty l)

pub inst_stays : (s t : List Tree) (by : TermId) → Grows s t → HoldsTerm s by
    → instantiating (tree_at t by) ≡ instantiating (tree_at s by)
inst_stays s t by w r = ap instantiating (w.same by.0 r.0)

pub inst_stays_ready : (s t : List Tree) (by : TermId) → Grows s t → HoldsTerm s by → HoldsTerm t by
inst_stays_ready s t by w r = (omega (arith, r.0, w.longer), ap sort_of (w.same by.0 r.0) ∙ r.1)

pub sorts_closing : (n : ℕ) → PutsSorts (closing n)
sorts_closing n =
    record { bound = λ _ _ _. refl; param = λ d m ty. at d m ty (m == n); ty_var = λ _. refl }
  where
    at : (d m : ℕ) (ty : Tree) (b : Bool)
        → sort_of (cond b (One (HBound d) ty) (One (HParam m) ty)) ≡ Term
    at d m ty true = refl
    at d m ty false = refl

-- each number is held, of a tree of this sort
abbrev pub AreHeldOfSort : Sort → List Tree → List TermId → Type 0
AreHeldOfSort sort s [] = Unit {0}
AreHeldOfSort sort s (id ∷ ids) =
    (Holds s id × (sort_of (tree_at s id) ≡ sort)) × AreHeldOfSort sort s ids

pub held_stays : (sort : Sort) (s t : List Tree) (ids : List TermId) → Grows s t
    → AreHeldOfSort sort s ids → AreHeldOfSort sort t ids
held_stays sort s t [] w r = tt
held_stays sort s t (id ∷ ids) w r = (
  (omega (arith, r.0.0, w.longer), ap sort_of (w.same id.0 r.0.0) ∙ r.0.1),
  held_stays sort s t
      ids w r.1,
)

pub trees_stay : (sort : Sort) (s t : List Tree) (ids : List TermId) → Grows s t
    → AreHeldOfSort sort s ids → trees_at t ids ≡ trees_at s ids
trees_stay sort s t [] w r = refl
trees_stay sort s t (id ∷ ids) w r = cc (w.same id.0 r.0.0, trees_stay sort s t ids w r.1)

-- the tree at a place of the list, or another one of the same sort
pub sort_at_place : (sort : Sort) (s : List Tree) (ids : List TermId) (k : ℕ) (e : Tree)
    → sort_of e ≡ sort → AreHeldOfSort sort s ids → sort_of (get_or (trees_at s ids) k e) ≡ sort
sort_at_place sort s [] k e h r = h
sort_at_place sort s (id ∷ ids) zero e h r = r.0.1
sort_at_place sort s (id ∷ ids) (suc k) e h r = sort_at_place sort s ids k e h r.1

pub sorts_typing : (s : List Tree) (ids : List TermId) → AreHeldOfSort Kind s ids
    → PutsSorts (typing (trees_at s ids))
sorts_typing s ids r = record {
  bound = λ _ _ _. refl;
  param = λ _ _ _. refl;
  ty_var =
      λ j. sort_at_place Kind s ids j (TyVar j) refl r;
}

within : (s : List Tree) (ids : List TermId) (k : ℕ) (e f : Tree) → k < length (trees_at s ids)
    → get_or (trees_at s ids) k e ≡ get_or (trees_at s ids) k f
within s [] k e f h = absurd (omega arith)
within s (id ∷ ids) zero e f h = refl
within s (id ∷ ids) (suc k) e f h = within s ids k e f (omega arith)

place : (i d n : ℕ) → nat_lt i d ≡ false → nat_lt i (d + n) ≡ true → n - 1 - (i - d) < n
place i d n q e =
    let l : i < d + n = grind (arith, nat_tests) in
    let k : d ≤ i = grind (arith, nat_tests) in
    omega arith

pub sorts_many : (s : List Tree) (ids : List TermId) → AreHeldOfSort Term s ids
    → PutsSorts (instantiating_many (trees_at s ids))
sorts_many s ids r = record {
  bound =
      λ d i ty. by d i ty (nat_lt i d) (nat_lt i (d + n)) refl refl;
  param = λ _ _ _. refl;
  ty_var =
      λ _. refl;
}
  where
    ts : List Tree
    ts = trees_at s ids

    n : ℕ
    n = length ts

    at : (d i : ℕ) (ty : Tree)
        → sort_of (shift (get_or ts (n - 1 - (i - d)) (Bound 0 ty)) d 0) ≡ Term
    at d i ty = sort_of-change (shifting d 0) (sorts_shifting d 0) 0
        (get_or ts (n - 1 - (i - d)) (Bound 0 ty))
        ∙ sort_at_place Term s ids (n - 1 - (i - d)) (Bound 0 ty) refl r

    by : (d i : ℕ) (ty : Tree) (b c : Bool) → nat_lt i d ≡ b → nat_lt i (d + n) ≡ c →
        sort_of (cond b (Bound i ty)
        (cond c (shift (get_or ts (n - 1 - (i - d)) ty) d 0) (Bound (i - n) ty))) ≡ Term
    by d i ty true c q e = refl
    by d i ty false false q e = refl
    by d i ty false true q e =
        let m : n - 1 - (i - d) < n = place i d n q e in
        ap (λ x. sort_of (shift x d 0)) (within s ids (n - 1 - (i - d)) ty (Bound 0 ty) m)
        ∙ at d i ty

-- each number is held, of a term; of a type
abbrev pub HoldTerms : List Tree → List TermId → Type 0
HoldTerms s ids = AreHeldOfSort Term s ids

abbrev pub HoldTypes : List Tree → List TermId → Type 0
HoldTypes s ids = AreHeldOfSort Kind s ids

pub many_stays_ready : (s t : List Tree) (ids : List TermId) → Grows s t → HoldTerms s ids
    → HoldTerms t ids
many_stays_ready s t ids w r = held_stays Term s t ids w r

pub many_stays : (s t : List Tree) (ids : List TermId) → Grows s t → HoldTerms s ids
    → instantiating_many (trees_at t ids) ≡ instantiating_many (trees_at s ids)
many_stays s t ids w r = ap instantiating_many (trees_stay Term s t ids w r)

pub typing_stays_ready : (s t : List Tree) (ids : List TermId) → Grows s t → HoldTypes s ids
    → HoldTypes t ids
typing_stays_ready s t ids w r = held_stays Kind s t ids w r

pub typing_stays : (s t : List Tree) (ids : List TermId) → Grows s t → HoldTypes s ids
    → typing (trees_at t ids) ≡ typing (trees_at s ids)
typing_stays s t ids w r = ap typing (trees_stay Kind s t ids w r)
