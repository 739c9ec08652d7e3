-- A table is split by the constructors of its first column.
use Rattle.std.proofs.Common.{◌≡◌, ℕ, zero, suc, ◌==◌, Bool, true, false, ◌⊎◌, inl, inr, List, [], ◌∷◌, ◌++◌, length, replicate, subst, refl, sym, ◌∙◌, arith}
use Rattle.std.proofs.lemmas.Bool.{eqb-true, eq-eqb}
use Rattle.trees.specs.Tree.{Tree, One, Three, HPatAny, HPatVar, HPatCon}
use Rattle.tasks.specs.Task.{SymbolTree}
use Rattle.tasks.specs.Typing.{members}
use Rattle.checks.proofs.match_cover.Fields.{fields_fit}
use Rattle.checks.specs.match_cover.Shapes.{ShapeTree, unspecified, built, Shapes, no_shapes, more_shapes, IsShape, AreShapes, Builds, field_types, without_aliases, Meets, AreMet, MeetsBuilt}
use Rattle.checks.specs.match_cover.Tables.{BareFits, RowFits, TableFits, AnyMet, NoneMet, Covers, Misses, unknowns, number_of_shapes, append_shapes, opened_if, opened, specialized, tails}

-- ---- shapes one after another
pub are_joined : (symbols : List SymbolTree) (ss us : Shapes) (ts rs : List Tree) → AreShapes symbols ss ts → AreShapes symbols us rs → AreShapes symbols (append_shapes ss us) (ts ++ rs)
are_joined symbols no_shapes us [] rs x y = y
are_joined symbols no_shapes us (t ∷ ts) rs x y = absurd x
are_joined symbols (more_shapes s ss) us [] rs x y = absurd x
are_joined symbols (more_shapes s ss) us (t ∷ ts) rs x y = (x.0, are_joined symbols ss us ts rs x.1 y)

pub counted : (symbols : List SymbolTree) (ss : Shapes) (ts : List Tree) → AreShapes symbols ss ts → number_of_shapes ss ≡ length ts
counted symbols no_shapes [] x = refl
counted symbols no_shapes (t ∷ ts) x = absurd x
counted symbols (more_shapes s ss) [] x = absurd x
counted symbols (more_shapes s ss) (t ∷ ts) x = omega (arith, counted symbols ss ts x.1)

pub are_unknown : (symbols : List SymbolTree) (ts : List Tree) → AreShapes symbols (unknowns (length ts)) ts
are_unknown symbols [] = tt
are_unknown symbols (t ∷ ts) = (tt, are_unknown symbols ts)

met_joined : (ss us : Shapes) (ps qs : List Tree) → AreMet ss ps → AreMet us qs → AreMet (append_shapes ss us) (ps ++ qs)
met_joined no_shapes us [] qs x y = y
met_joined no_shapes us (p ∷ ps) qs x y = absurd x
met_joined (more_shapes s ss) us [] qs x y = absurd x
met_joined (more_shapes s ss) us (p ∷ ps) qs x y = (x.0, met_joined ss us ps qs x.1 y)

met_parts : (ss us : Shapes) (ps qs : List Tree) → number_of_shapes ss ≡ length ps → AreMet (append_shapes ss us) (ps ++ qs) → AreMet ss ps × AreMet us qs
met_parts no_shapes us [] qs e x = (tt, x)
met_parts no_shapes us (p ∷ ps) qs e x = absurd (omega (arith, e))
met_parts (more_shapes s ss) us [] qs e x = absurd (omega (arith, e))
met_parts (more_shapes s ss) us (p ∷ ps) qs e x = let r = met_parts ss us ps qs (omega (arith, e)) x.1 in ((x.0, r.0), r.1)

-- a wildcard or a variable meets every shape
abbrev pub IsWild : Tree → Type 0
IsWild p = (s : ShapeTree) → Meets s p

any_wild : (a : Tree) → IsWild (One HPatAny a)
any_wild a unspecified = tt
any_wild a (built k ss) = tt

var_wild : (a : Tree) → IsWild (One HPatVar a)
var_wild a unspecified = tt
var_wild a (built k ss) = tt

wild_met : (p : Tree) → IsWild p → (ss us : Shapes) (n : ℕ) (qs : List Tree) → number_of_shapes ss ≡ n → AreMet us qs → AreMet (append_shapes ss us) (replicate n p ++ qs)
wild_met p w no_shapes us zero qs e y = y
wild_met p w no_shapes us (suc n) qs e y = absurd (omega (arith, e))
wild_met p w (more_shapes s ss) us zero qs e y = absurd (omega (arith, e))
wild_met p w (more_shapes s ss) us (suc n) qs e y = (w s, wild_met p w ss us n qs (omega (arith, e)) y)

wild_parts : (p : Tree) (ss us : Shapes) (n : ℕ) (qs : List Tree) → number_of_shapes ss ≡ n → AreMet (append_shapes ss us) (replicate n p ++ qs) → AreMet us qs
wild_parts p no_shapes us zero qs e y = y
wild_parts p no_shapes us (suc n) qs e y = absurd (omega (arith, e))
wild_parts p (more_shapes s ss) us zero qs e y = absurd (omega (arith, e))
wild_parts p (more_shapes s ss) us (suc n) qs e y = wild_parts p ss us n qs (omega (arith, e)) y.1

-- ---- a row that is taken apart
abbrev pub HasParts : ℕ → ℕ → Tree → Type 0
HasParts k n (Three (HPatCon c) types parts type) = c ≡ k → length (members parts) ≡ n
HasParts k n _ = Unit {0}

if_opened : (b : Bool) (row : List Tree) (ss : Shapes) → AnyMet ss (opened_if b row) → (b ≡ true) × AreMet ss row
if_opened true row ss (inl x) = (refl, x)
if_opened true row ss (inr x) = absurd x
if_opened false row ss x = absurd x

opened_if_met : (b : Bool) (row : List Tree) (ss : Shapes) → b ≡ true → AreMet ss row → AnyMet ss (opened_if b row)
opened_if_met true row ss e x = inl x
opened_if_met false row ss e x = absurd (cc)

module _ (symbols : List SymbolTree) (t : Tree) (k n : ℕ) (ws vs : Shapes) (long : number_of_shapes ws ≡ n) where
  pub met_of_opened : (b : Tree) (row : List Tree) → BareFits symbols t b → HasParts k n b → AnyMet (append_shapes ws vs) (opened k n b row) → MeetsBuilt k (AreMet ws) b × AreMet vs row
  met_of_opened (Three (HPatCon c) types parts type) row f h x =
      let r = if_opened (c == k) (members parts ++ row) (append_shapes ws vs) x in
      let e : c ≡ k = eqb-true c k r.0 in
      let q = met_parts ws vs (members parts) row (long ∙ sym (h e)) r.1 in
      ((e, q.0), q.1)
  met_of_opened (One HPatAny a) row f h (inl x) = (tt, wild_parts (One HPatAny a) ws vs n row long x)
  met_of_opened (One HPatAny a) row f h (inr x) = absurd x
  met_of_opened (One HPatVar a) row f h (inl x) = (tt, wild_parts (One HPatVar a) ws vs n row long x)
  met_of_opened (One HPatVar a) row f h (inr x) = absurd x
  met_of_opened _ row f h x = absurd f

  pub opened_met : (b : Tree) (row : List Tree) → BareFits symbols t b → MeetsBuilt k (AreMet ws) b → AreMet vs row → AnyMet (append_shapes ws vs) (opened k n b row)
  opened_met (Three (HPatCon c) types parts type) row f m x = opened_if_met (c == k) (members parts ++ row) (append_shapes ws vs) (eq-eqb c k m.0) (met_joined ws vs (members parts) row m.1 x)
  opened_met (One HPatAny a) row f m x = inl (wild_met (One HPatAny a) (any_wild a) ws vs n row long x)
  opened_met (One HPatVar a) row f m x = inl (wild_met (One HPatVar a) (var_wild a) ws vs n row long x)
  opened_met _ row f m x = absurd f

-- ---- what is taken apart fits the fields
row_long : (symbols : List SymbolTree) (ts ps : List Tree) → RowFits symbols ts ps → length ts ≡ length ps
row_long symbols [] [] x = refl
row_long symbols [] (p ∷ ps) x = absurd x
row_long symbols (t ∷ ts) [] x = absurd x
row_long symbols (t ∷ ts) (p ∷ ps) x = omega (arith, row_long symbols ts ps x.1)

row_joined : (symbols : List SymbolTree) (ts us ps qs : List Tree) → RowFits symbols ts ps → RowFits symbols us qs → RowFits symbols (ts ++ us) (ps ++ qs)
row_joined symbols [] us [] qs x y = y
row_joined symbols [] us (p ∷ ps) qs x y = absurd x
row_joined symbols (t ∷ ts) us [] qs x y = absurd x
row_joined symbols (t ∷ ts) us (p ∷ ps) qs x y = (x.0, row_joined symbols ts us ps qs x.1 y)

table_joined : (symbols : List SymbolTree) (ts : List Tree) (xs ys : List (List Tree)) → TableFits symbols ts xs → TableFits symbols ts ys → TableFits symbols ts (xs ++ ys)
table_joined symbols ts [] ys x y = y
table_joined symbols ts (r ∷ rs) ys x y = (x.0, table_joined symbols ts rs ys x.1 y)

if_fits : (symbols : List SymbolTree) (ts row : List Tree) (b : Bool) → (b ≡ true → RowFits symbols ts row) → TableFits symbols ts (opened_if b row)
if_fits symbols ts row true h = (h refl, tt)
if_fits symbols ts row false h = tt

any_fit : (symbols : List SymbolTree) (ts : List Tree) (a : Tree) → RowFits symbols ts (replicate (length ts) (One HPatAny a))
any_fit symbols [] a = tt
any_fit symbols (t ∷ ts) a = (tt, any_fit symbols ts a)

var_fit : (symbols : List SymbolTree) (ts : List Tree) (a : Tree) → RowFits symbols ts (replicate (length ts) (One HPatVar a))
var_fit symbols [] a = tt
var_fit symbols (t ∷ ts) a = (tt, var_fit symbols ts a)

module _ (symbols : List SymbolTree) (t : Tree) (ts : List Tree) (k : ℕ) (b : Builds symbols t k) where
  parts_here : (p : Tree) → BareFits symbols t p → HasParts k (length (field_types symbols t k)) p
  parts_here (Three (HPatCon c) types parts type) x = λ e. sym (row_long symbols (field_types symbols t k) (members parts) (fields_fit symbols t k c types parts type x e b))
  parts_here _ x = tt

  opened_fits : (p : Tree) (row : List Tree) → BareFits symbols t p → RowFits symbols ts row → TableFits symbols (field_types symbols t k ++ ts) (opened k (length (field_types symbols t k)) p row)
  opened_fits (Three (HPatCon c) types parts type) row x y =
      if_fits symbols (field_types symbols t k ++ ts) (members parts ++ row) (c == k)
      (λ e. row_joined symbols (field_types symbols t k) ts (members parts) row (fields_fit symbols t k c types parts type x (eqb-true c k e) b) y)
  opened_fits (One HPatAny a) row x y = (row_joined symbols (field_types symbols t k) ts _ row (any_fit symbols (field_types symbols t k) a) y, tt)
  opened_fits (One HPatVar a) row x y = (row_joined symbols (field_types symbols t k) ts _ row (var_fit symbols (field_types symbols t k) a) y, tt)
  opened_fits _ row x y = absurd x

  pub specialized_fits : (rows : List (List Tree)) → TableFits symbols (t ∷ ts) rows → TableFits symbols (field_types symbols t k ++ ts) (specialized k (length (field_types symbols t k)) rows)
  specialized_fits [] x = tt
  specialized_fits ([] ∷ rows) x = absurd x.0
  specialized_fits ((p ∷ row) ∷ rows) x =
      table_joined symbols (field_types symbols t k ++ ts) (opened k (length (field_types symbols t k)) (without_aliases p) row) (specialized k (length (field_types symbols t k)) rows)
      (opened_fits (without_aliases p) row x.0.0 x.0.1) (specialized_fits rows x.1)

-- ---- a table is met where its parts are
any_first : (ss : Shapes) (xs ys : List (List Tree)) → AnyMet ss (xs ++ ys) → AnyMet ss xs ⊎ AnyMet ss ys
any_first ss [] ys x = inr x
any_first ss (r ∷ rs) ys (inl x) = inl (inl x)
any_first ss (r ∷ rs) ys (inr x) = elim (any_first ss rs ys x) [ inl y ↦ inl (inr y) | inr y ↦ inr y ]

none_both : (ss : Shapes) (xs ys : List (List Tree)) → NoneMet ss (xs ++ ys) → NoneMet ss xs × NoneMet ss ys
none_both ss [] ys x = (tt, x)
none_both ss (r ∷ rs) ys x = let q = none_both ss rs ys x.1 in ((x.0, q.0), q.1)

not_any : (ss : Shapes) (xs : List (List Tree)) → NoneMet ss xs → AnyMet ss xs → ⊥
not_any ss [] x y = y
not_any ss (r ∷ rs) x (inl y) = x.0 y
not_any ss (r ∷ rs) x (inr y) = not_any ss rs x.1 y

module _ (symbols : List SymbolTree) (t : Tree) (ts : List Tree) (k : ℕ) (b : Builds symbols t k) (ws vs : Shapes) (long : number_of_shapes ws ≡ length (field_types symbols t k)) where
  any_specialized : (rows : List (List Tree)) → TableFits symbols (t ∷ ts) rows → AnyMet (append_shapes ws vs) (specialized k (length (field_types symbols t k)) rows) → AnyMet (more_shapes (built k ws) vs) rows
  any_specialized [] x m = m
  any_specialized ([] ∷ rows) x m = absurd x.0
  any_specialized ((p ∷ row) ∷ rows) x m =
      elim (any_first (append_shapes ws vs) (opened k (length (field_types symbols t k)) (without_aliases p) row) (specialized k (length (field_types symbols t k)) rows) m) [
        | inl h ↦ inl (met_of_opened symbols t k (length (field_types symbols t k)) ws vs long (without_aliases p) row x.0.0 (parts_here symbols t ts k b (without_aliases p) x.0.0) h)
        | inr h ↦ inr (any_specialized rows x.1 h)
      ]

  none_specialized : (rows : List (List Tree)) → TableFits symbols (t ∷ ts) rows → NoneMet (append_shapes ws vs) (specialized k (length (field_types symbols t k)) rows) → NoneMet (more_shapes (built k ws) vs) rows
  none_specialized [] x m = tt
  none_specialized ([] ∷ rows) x m = absurd x.0
  none_specialized ((p ∷ row) ∷ rows) x m =
      let q = none_both (append_shapes ws vs) (opened k (length (field_types symbols t k)) (without_aliases p) row) (specialized k (length (field_types symbols t k)) rows) m in (
        λ h. not_any (append_shapes ws vs) (opened k (length (field_types symbols t k)) (without_aliases p) row) q.0 (opened_met symbols t k (length (field_types symbols t k)) ws vs long (without_aliases p) row x.0.0 h.0 h.1),
        none_specialized rows x.1 q.1,
      )

any_unspecified : (s : ShapeTree) (vs : Shapes) (rows : List (List Tree)) → AnyMet (more_shapes s vs) rows → AnyMet (more_shapes unspecified vs) rows
any_unspecified s vs [] x = x
any_unspecified s vs ([] ∷ rows) (inl x) = absurd x
any_unspecified s vs ([] ∷ rows) (inr x) = inr (any_unspecified s vs rows x)
any_unspecified s vs ((p ∷ row) ∷ rows) (inl x) = inl (tt, x.1)
any_unspecified s vs ((p ∷ row) ∷ rows) (inr x) = inr (any_unspecified s vs rows x)

count_unknowns : (n : ℕ) → number_of_shapes (unknowns n) ≡ n
count_unknowns zero = refl
count_unknowns (suc n) = omega (arith, count_unknowns n)

are_parts : (symbols : List SymbolTree) (ss us : Shapes) (ts rs : List Tree) → number_of_shapes ss ≡ length ts → AreShapes symbols (append_shapes ss us) (ts ++ rs) → AreShapes symbols ss ts × AreShapes symbols us rs
are_parts symbols no_shapes us [] rs e x = (tt, x)
are_parts symbols no_shapes us (t ∷ ts) rs e x = absurd (omega (arith, e))
are_parts symbols (more_shapes s ss) us [] rs e x = absurd (omega (arith, e))
are_parts symbols (more_shapes s ss) us (t ∷ ts) rs e x = let r = are_parts symbols ss us ts rs (omega (arith, e)) x.1 in ((x.0, r.0), r.1)

-- each constructor's part covers, and there is a constructor
pub covers_split : (symbols : List SymbolTree) (t : Tree) (ts : List Tree) (rows : List (List Tree)) → TableFits symbols (t ∷ ts) rows → (j : ℕ) → Builds symbols t j
    → ((k : ℕ) → Builds symbols t k → Covers symbols (field_types symbols t k ++ ts) (specialized k (length (field_types symbols t k)) rows)) → Covers symbols (t ∷ ts) rows
covers_split symbols t ts rows x j b each no_shapes are = absurd are
covers_split symbols t ts rows x j b each (more_shapes unspecified vs) are =
    let fs = field_types symbols t j in
    let long : number_of_shapes (unknowns (length fs)) ≡ length fs = count_unknowns (length fs) in
    let m = each j b (append_shapes (unknowns (length fs)) vs) (are_joined symbols (unknowns (length fs)) vs fs ts (are_unknown symbols fs) are.1) in
    any_unspecified (built j (unknowns (length fs))) vs rows (any_specialized symbols t ts j b (unknowns (length fs)) vs long rows x m)
covers_split symbols t ts rows x j b each (more_shapes (built k ws) vs) are =
    let m = each k are.0.0 (append_shapes ws vs) (are_joined symbols ws vs (field_types symbols t k) ts are.0.1 are.1) in
    any_specialized symbols t ts k are.0.0 ws vs (counted symbols ws (field_types symbols t k) are.0.1) rows x m

-- what a constructor's part misses, the table misses
pub misses_split : (symbols : List SymbolTree) (t : Tree) (ts : List Tree) (rows : List (List Tree)) → TableFits symbols (t ∷ ts) rows → (k : ℕ) → Builds symbols t k → (ws vs : Shapes)
    → number_of_shapes ws ≡ length (field_types symbols t k) → Misses symbols (field_types symbols t k ++ ts) (specialized k (length (field_types symbols t k)) rows) (append_shapes ws vs) → Misses symbols (t ∷ ts) rows (more_shapes (built k ws) vs)
misses_split symbols t ts rows x k b ws vs long m =
    let r = are_parts symbols ws vs (field_types symbols t k) ts long m.are in
    record { are = ((b, r.0), r.1); unmet = none_specialized symbols t ts k b ws vs long rows x m.unmet }

-- no row is left
pub misses_empty : (symbols : List SymbolTree) (t : Tree) (ts : List Tree) (rows : List (List Tree)) → TableFits symbols (t ∷ ts) rows → (k : ℕ) → Builds symbols t k
    → specialized k (length (field_types symbols t k)) rows ≡ [] → Misses symbols (t ∷ ts) rows (more_shapes (built k (unknowns (length (field_types symbols t k)))) (unknowns (length ts)))
misses_empty symbols t ts rows x k b e =
    let fs = field_types symbols t k in
    let us = append_shapes (unknowns (length fs)) (unknowns (length ts)) in
    misses_split symbols t ts rows x k b (unknowns (length fs)) (unknowns (length ts)) (count_unknowns (length fs)) (record {
      are = are_joined symbols (unknowns (length fs)) (unknowns (length ts)) fs ts (are_unknown symbols fs) (are_unknown symbols ts);
      unmet = subst (NoneMet us) (sym e) tt;
    })

-- ---- a column without constructors
-- a bare pattern meets each constructor's shape of a type
abbrev pub MeetsAll : List SymbolTree → Tree → Tree → Type 0
MeetsAll symbols t b = (k : ℕ) (ss : Shapes) → IsShape symbols (built k ss) t → MeetsBuilt k (AreMet ss) b

abbrev pub PlainColumn : List SymbolTree → Tree → List (List Tree) → Type 0
PlainColumn symbols t [] = Unit {0}
PlainColumn symbols t ([] ∷ rows) = PlainColumn symbols t rows
PlainColumn symbols t ((p ∷ row) ∷ rows) = MeetsAll symbols t (without_aliases p) × PlainColumn symbols t rows

any_plain : (symbols : List SymbolTree) (t : Tree) (ts : List Tree) (rows : List (List Tree)) (s : ShapeTree) (vs : Shapes) → TableFits symbols (t ∷ ts) rows → PlainColumn symbols t rows
    → IsShape symbols s t → AnyMet vs (tails rows) → AnyMet (more_shapes s vs) rows
any_plain symbols t ts [] s vs x c i m = m
any_plain symbols t ts ([] ∷ rows) s vs x c i m = absurd x.0
any_plain symbols t ts ((p ∷ row) ∷ rows) unspecified vs x c i (inl m) = inl (tt, m)
any_plain symbols t ts ((p ∷ row) ∷ rows) (built k ss) vs x c i (inl m) = inl (c.0 k ss i, m)
any_plain symbols t ts ((p ∷ row) ∷ rows) s vs x c i (inr m) = inr (any_plain symbols t ts rows s vs x.1 c.1 i m)

pub covers_plain : (symbols : List SymbolTree) (t : Tree) (ts : List Tree) (rows : List (List Tree)) → TableFits symbols (t ∷ ts) rows → PlainColumn symbols t rows
    → Covers symbols ts (tails rows) → Covers symbols (t ∷ ts) rows
covers_plain symbols t ts rows x c h no_shapes are = absurd are
covers_plain symbols t ts rows x c h (more_shapes s vs) are = any_plain symbols t ts rows s vs x c are.0 (h vs are.1)

none_plain : (s : ShapeTree) (vs : Shapes) (rows : List (List Tree)) → NoneMet vs (tails rows) → NoneMet (more_shapes s vs) rows
none_plain s vs [] x = tt
none_plain s vs ([] ∷ rows) x = (λ h. h, none_plain s vs rows x.1)
none_plain s vs ((p ∷ row) ∷ rows) x = (λ h. x.0 h.1, none_plain s vs rows x.1)

pub misses_plain : (symbols : List SymbolTree) (t : Tree) (ts : List Tree) (rows : List (List Tree)) (vs : Shapes) → Misses symbols ts (tails rows) vs → Misses symbols (t ∷ ts) rows (more_shapes unspecified vs)
misses_plain symbols t ts rows vs m = record { are = (tt, m.are); unmet = none_plain unspecified vs rows m.unmet }

pub tails_fit : (symbols : List SymbolTree) (t : Tree) (ts : List Tree) (rows : List (List Tree)) → TableFits symbols (t ∷ ts) rows → TableFits symbols ts (tails rows)
tails_fit symbols t ts [] x = tt
tails_fit symbols t ts ([] ∷ rows) x = absurd x.0
tails_fit symbols t ts ((p ∷ row) ∷ rows) x = (x.0.1, tails_fit symbols t ts rows x.1)

-- where nothing builds its type
pub plain_unbuilt : (symbols : List SymbolTree) (t : Tree) (rows : List (List Tree)) → ((k : ℕ) → Builds symbols t k → ⊥) → PlainColumn symbols t rows
plain_unbuilt symbols t [] n = tt
plain_unbuilt symbols t ([] ∷ rows) n = plain_unbuilt symbols t rows n
plain_unbuilt symbols t ((p ∷ row) ∷ rows) n = (λ k ss i. absurd (n k i.0), plain_unbuilt symbols t rows n)
