-- What a table misses, by what its parts miss.
use Rattle.std.proofs.Common.{◌≡◌, ◌≢◌, ◌↔◌, inl, inr, ℕ, suc, ◌+◌, ◌-◌, ◌<◌, ◌≤◌, Bool, true, false, ◌||◌, List, [], ◌∷◌, ◌++◌, length, map, All, Any, Contains, Option, Some, None, MatchOption, option_map, refl, sym, ap, ◌∙◌, subst, arith}
use Rattle.std.proofs.lemmas.Bool.{and_parts}
use Rattle.std.proofs.lemmas.List.{length-map, length-append}
use Rattle.std.proofs.lemmas.List.Elements.{All-contains, All-head, All-tail, All-nil, All-cons}
use Rattle.trees.specs.Tree.{Tree, Leaf, One, Two, Three, HPatAny, HPatVar}
use Rattle.trees.specs.Binding.{inst_types}
use Rattle.trees.specs.Sorts.{type_of}
use Rattle.tasks.specs.Task.{SymbolTree, symbol_or}
use Rattle.checks.specs.match_cover.Shapes.{ShapeTree, unspecified, built, Shapes, no_shapes, more_shapes, IsConstructorEntryOf, Builds, type_arguments, field_types, AreShapes, without_aliases, MeetsBuilt, Meets, AreMet, IsPattern, HaveType, HaveOneType, AreExhaustive, Escapes}
use Rattle.checks.specs.match_cover.Tables.{RowFits, is_irrefutable, are_irrefutable, some_irrefutable, TableFits, IsTable, AnyMet, NoneMet, Covers, Misses, Answered, unknowns, number_of_shapes, append_shapes, specialized, tails, column_told, Splits, effort}
use Rattle.checks.specs.match_cover.Meaning.{first_shapes, shapes_after}
use Rattle.checks.proofs.match_cover.Fields.{pattern_fits}
use Rattle.checks.proofs.match_cover.Splitting.{counted, are_unknown, specialized_fits, covers_split, misses_split, PlainColumn, covers_plain, misses_plain, tails_fit, plain_unbuilt}
use Rattle.checks.proofs.match_cover.Told.{column_is, column_plain}
use Rattle.checks.proofs.match_cover.Effort.{tails_effort, split_effort}
use Rattle.checks.proofs.match_cover.Shapes.{front_after, count_front}

-- no row is left
pub answered_empty : (symbols : List SymbolTree) (w : ℕ) (rows : List (List Tree)) (us : Shapes) → rows ≡ [] → us ≡ unknowns w → Answered symbols w rows (Some us)
answered_empty symbols w rows us e u types long fits =
    let are : AreShapes symbols us types = subst (λ ss. AreShapes symbols ss types) (ap unknowns long ∙ sym u) (are_unknown symbols types) in
    record { are = are; unmet = subst (NoneMet us) (sym e) tt }

-- no column is left
first_met : (symbols : List SymbolTree) (rows : List (List Tree)) → rows ≢ [] → TableFits symbols [] rows → AnyMet no_shapes rows
first_met symbols [] n x = absurd (n refl)
first_met symbols ([] ∷ rows) n x = inl tt
first_met symbols ((p ∷ row) ∷ rows) n x = absurd x.0

pub answered_narrow : (symbols : List SymbolTree) (rows : List (List Tree)) → rows ≢ [] → Answered symbols 0 rows None
answered_narrow symbols rows n [] long fits no_shapes are = first_met symbols rows n fits
answered_narrow symbols rows n [] long fits (more_shapes s ss) are = absurd are
answered_narrow symbols rows n (t ∷ ts) long fits ss are = absurd (omega (arith, long))

-- some row meets all
met_by : (k : ℕ) (ss : Shapes) (p : Tree) → is_irrefutable p ≡ true → MeetsBuilt k (AreMet ss) p
met_by k ss (One HPatAny a) e = tt
met_by k ss (One HPatVar a) e = tt
met_by k ss (Leaf h) e = absurd (cc (e))
met_by k ss (One _ a) e = absurd (cc (e))
met_by k ss (Two h a b) e = absurd (cc (e))
met_by k ss (Three h a b c) e = absurd (cc (e))

met : (s : ShapeTree) (p : Tree) → is_irrefutable (without_aliases p) ≡ true → Meets s p
met unspecified p e = tt
met (built k ss) p e = met_by k ss (without_aliases p) e

all_met : (symbols : List SymbolTree) (ss : Shapes) (types row : List Tree) → AreShapes symbols ss types → RowFits symbols types row → are_irrefutable row ≡ true → AreMet ss row
all_met symbols no_shapes [] [] are fits e = tt
all_met symbols (more_shapes s ss) (t ∷ ts) (p ∷ ps) are fits e =
    let q = and_parts (is_irrefutable (without_aliases p)) (are_irrefutable ps) e in
    (met s p q.0, all_met symbols ss ts ps are.1 fits.1 q.1)
all_met symbols no_shapes (t ∷ ts) row are fits e = absurd are
all_met symbols (more_shapes s ss) [] row are fits e = absurd are
all_met symbols no_shapes [] (p ∷ ps) are fits e = absurd fits
all_met symbols (more_shapes s ss) (t ∷ ts) [] are fits e = absurd fits

any_met : (symbols : List SymbolTree) (ss : Shapes) (types : List Tree) (rows : List (List Tree)) → AreShapes symbols ss types → TableFits symbols types rows → some_irrefutable rows ≡ true → AnyMet ss rows
any_met symbols ss types [] are fits e = absurd (cc (e))
any_met symbols ss types (r ∷ rs) are fits e = by (are_irrefutable r) refl e (λ so. any_met symbols ss types rs are fits.1 so) where
  by : (b : Bool) → are_irrefutable r ≡ b → (b || some_irrefutable rs) ≡ true → (some_irrefutable rs ≡ true → AnyMet ss rs) → AnyMet ss (r ∷ rs)
  by true is so rest = inl (all_met symbols ss types r are fits.0 is)
  by false is so rest = inr (rest so)

pub answered_irrefutable : (symbols : List SymbolTree) (w : ℕ) (rows : List (List Tree)) → some_irrefutable rows ≡ true → Answered symbols w rows None
answered_irrefutable symbols w rows e types long fits ss are = any_met symbols ss types rows are fits e

-- ---- the constructors by which a table is split
splits_none : (symbols : List SymbolTree) (t : Tree) (ts : List Tree) (rows : List (List Tree)) (o : Option ℕ) → column_told rows ≡ o → TableFits symbols (t ∷ ts) rows
    → MatchOption o (◌≡◌ {A = List ℕ} [] []) (λ h. (k : ℕ) → Contains {X = ℕ} [] k ↔ IsConstructorEntryOf symbols h k) → PlainColumn symbols t rows
splits_none symbols t ts rows None e x s = column_plain symbols t ts rows x e
splits_none symbols t ts rows (Some h) e x s =
    let q = column_is symbols h t ts rows x e in
    plain_unbuilt symbols t rows (λ k b. let c = (s k).1 (subst (λ y. Builds symbols y k) q.is b) in omega (arith, c.1))

pub record IsSplitBy (symbols : List SymbolTree) (rows : List (List Tree)) (ks : List ℕ) (h : ℕ) : Type 0 where
  pub told : column_told rows ≡ Some h
  pub each : (k : ℕ) → Contains ks k ↔ IsConstructorEntryOf symbols h k

pub record IsSplit (symbols : List SymbolTree) (rows : List (List Tree)) (ks : List ℕ) : Type 0 where
  pub symbol : ℕ
  pub by : IsSplitBy symbols rows ks symbol

splits_some : (symbols : List SymbolTree) (rows : List (List Tree)) (ks : List ℕ) (o : Option ℕ) → ks ≢ [] → column_told rows ≡ o
    → MatchOption o (ks ≡ []) (λ h. (k : ℕ) → Contains ks k ↔ IsConstructorEntryOf symbols h k) → IsSplit symbols rows ks
splits_some symbols rows ks None n e s = absurd (n s)
splits_some symbols rows ks (Some h) n e s = record { symbol = h; by = record { told = e; each = s } }

pub is_split : (symbols : List SymbolTree) (rows : List (List Tree)) (ks : List ℕ) → ks ≢ [] → Splits symbols rows ks → IsSplit symbols rows ks
is_split symbols rows ks n s = splits_some symbols rows ks (column_told rows) n refl s

builds_here : (symbols : List SymbolTree) (t : Tree) (ts : List Tree) (rows : List (List Tree)) (ks : List ℕ) → IsSplit symbols rows ks → TableFits symbols (t ∷ ts) rows → (k : ℕ) → Contains ks k ↔ Builds symbols t k
builds_here symbols t ts rows ks s x k =
    let q = column_is symbols s.symbol t ts rows x s.by.told in
    subst (λ y. Contains ks k ↔ Builds symbols y k) (sym q.is) (s.by.each k)

-- ---- a column without constructors
pub answered_plain : (symbols : List SymbolTree) (w : ℕ) (rows : List (List Tree)) (ks : List ℕ) (o : Option Shapes) → 0 < w → ks ≡ [] → Splits symbols rows ks
    → Answered symbols (w - 1) (tails rows) o → Answered symbols w rows (option_map (more_shapes unspecified) o)
answered_plain symbols w rows ks o l z s h [] long fits = absurd (omega (arith, long, l))
answered_plain symbols w rows ks None l z s h (t ∷ ts) long fits =
    let p = splits_none symbols t ts rows (column_told rows) refl fits (subst (Splits symbols rows) z s) in
    covers_plain symbols t ts rows fits p (h ts (omega (arith, long, l)) (tails_fit symbols t ts rows fits))
answered_plain symbols w rows ks (Some ss) l z s h (t ∷ ts) long fits =
    misses_plain symbols t ts rows ss (h ts (omega (arith, long, l)) (tails_fit symbols t ts rows fits))

-- ---- a column with constructors
fields_long : (symbols : List SymbolTree) (t : Tree) (k : ℕ) → length (field_types symbols t k) ≡ length (symbol_or symbols k).args
fields_long symbols t k = length-map (symbol_or symbols k).args (λ a. inst_types a (type_arguments t))

-- the part of a constructor covers, whatever the types
abbrev pub PartCovers : List SymbolTree → ℕ → List (List Tree) → ℕ → Type 0
PartCovers symbols w rows k = Answered symbols (length (symbol_or symbols k).args + (w - 1)) (specialized k (length (symbol_or symbols k).args) rows) None

some_first : (ks : List ℕ) → ks ≢ [] → (j : ℕ) × Contains ks j
some_first [] n = absurd (n refl)
some_first (k ∷ ks) n = (k, (0, omega arith, refl))

part_here : (symbols : List SymbolTree) (w : ℕ) (rows : List (List Tree)) (t : Tree) (ts : List Tree) (k : ℕ) (o : Option Shapes) → 0 < w → length (t ∷ ts) ≡ w → TableFits symbols (t ∷ ts) rows → Builds symbols t k
    → Answered symbols (length (symbol_or symbols k).args + (w - 1)) (specialized k (length (symbol_or symbols k).args) rows) o
    → MatchOption o (Covers symbols (field_types symbols t k ++ ts) (specialized k (length (field_types symbols t k)) rows)) (Misses symbols (field_types symbols t k ++ ts) (specialized k (length (field_types symbols t k)) rows))
part_here symbols w rows t ts k o l long fits b h =
    let same = fields_long symbols t k in
    let f = specialized_fits symbols t ts k b rows fits in
    let at : Answered symbols (length (symbol_or symbols k).args + (w - 1)) (specialized k (length (field_types symbols t k)) rows) o =
    subst (λ n. Answered symbols (length (symbol_or symbols k).args + (w - 1)) (specialized k n rows) o) (sym same) h in
    at (field_types symbols t k ++ ts) (length-append (field_types symbols t k) ts ∙ omega (arith, same, long, l)) f

pub answered_covered : (symbols : List SymbolTree) (w : ℕ) (rows : List (List Tree)) (ks : List ℕ) → 0 < w → ks ≢ [] → Splits symbols rows ks → All (PartCovers symbols w rows) ks → Answered symbols w rows None
answered_covered symbols w rows ks l n s all [] long fits = absurd (omega (arith, long, l))
answered_covered symbols w rows ks l n s all (t ∷ ts) long fits =
    let q = is_split symbols rows ks n s in
    let j = some_first ks n in
    covers_split symbols t ts rows fits j.0 ((builds_here symbols t ts rows ks q fits j.0).0 j.1)
    (λ k b. part_here symbols w rows t ts k None l long fits b (All-contains (PartCovers symbols w rows) ks k all ((builds_here symbols t ts rows ks q fits k).1 b)))

pub answered_missed : (symbols : List SymbolTree) (w : ℕ) (rows : List (List Tree)) (ks : List ℕ) (k : ℕ) (us : Shapes) → 0 < w → Splits symbols rows ks → Contains ks k
    → Answered symbols (length (symbol_or symbols k).args + (w - 1)) (specialized k (length (symbol_or symbols k).args) rows) (Some us)
    → Answered symbols w rows (Some (more_shapes (built k (first_shapes (length (symbol_or symbols k).args) us)) (shapes_after (length (symbol_or symbols k).args) us)))
answered_missed symbols w rows ks k us l s c h [] long fits = absurd (omega (arith, long, l))
answered_missed symbols w rows ks k us l s c h (t ∷ ts) long fits =
    let n = length (symbol_or symbols k).args in
    let ne : ks ≢ [] = λ e. (let d : Contains [] k = subst (λ y. Contains y k) e c in omega (arith, d.1)) in
    let b = (builds_here symbols t ts rows ks (is_split symbols rows ks ne s) fits k).0 c in
    let m : Misses symbols (field_types symbols t k ++ ts) (specialized k (length (field_types symbols t k)) rows) us = part_here symbols w rows t ts k (Some us) l long fits b h in
    let same = fields_long symbols t k in
    let many : n ≤ number_of_shapes us = omega (arith, counted symbols us (field_types symbols t k ++ ts) m.are, length-append (field_types symbols t k) ts, same) in
    let j : Misses symbols (field_types symbols t k ++ ts) (specialized k (length (field_types symbols t k)) rows) (append_shapes (first_shapes n us) (shapes_after n us)) = subst (Misses symbols (field_types symbols t k ++ ts) (specialized k (length (field_types symbols t k)) rows)) (sym (front_after n us)) m in
    misses_split symbols t ts rows fits k b (first_shapes n us) (shapes_after n us) (count_front n us many ∙ sym same) j

-- ---- what the code asks of its parts
abbrev FirstTypes : List SymbolTree → ℕ → List (List Tree) → Type 0
FirstTypes symbols w rows = (t : Tree) × (ts : List Tree) × (length (t ∷ ts) ≡ w) × TableFits symbols (t ∷ ts) rows

types_apart : (symbols : List SymbolTree) (w : ℕ) (rows : List (List Tree)) (types : List Tree) → 0 < w → length types ≡ w → TableFits symbols types rows → FirstTypes symbols w rows
types_apart symbols w rows [] l e f = absurd (omega (arith, e, l))
types_apart symbols w rows (t ∷ ts) l e f = (t, ts, e, f)

first_types : (symbols : List SymbolTree) (w : ℕ) (rows : List (List Tree)) → 0 < w → IsTable symbols w rows → FirstTypes symbols w rows
first_types symbols w rows l x = types_apart symbols w rows x.types l x.long x.fits

pub tails_table : (symbols : List SymbolTree) (w : ℕ) (rows : List (List Tree)) → 0 < w → IsTable symbols w rows → IsTable symbols (w - 1) (tails rows)
tails_table symbols w rows l x =
    let q = first_types symbols w rows l x in
    record { types = q.1; long = omega (arith, q.2, l); fits = tails_fit symbols q.0 q.1 rows q.3 }

pub tails_smaller : (symbols : List SymbolTree) (w : ℕ) (rows : List (List Tree)) → 0 < w → IsTable symbols w rows → rows ≢ [] → effort symbols (tails rows) < effort symbols rows
tails_smaller symbols w rows l x n = let q = first_types symbols w rows l x in tails_effort symbols q.0 q.1 rows q.3 n

pub part_table : (symbols : List SymbolTree) (w : ℕ) (rows : List (List Tree)) (ks : List ℕ) (k : ℕ) → 0 < w → IsTable symbols w rows → IsSplit symbols rows ks → Contains ks k
    → IsTable symbols (length (symbol_or symbols k).args + (w - 1)) (specialized k (length (symbol_or symbols k).args) rows)
part_table symbols w rows ks k l x s c =
    let q = first_types symbols w rows l x in
    let b = (builds_here symbols q.0 q.1 rows ks s q.3 k).0 c in
    let same = fields_long symbols q.0 k in
    let f = specialized_fits symbols q.0 q.1 k b rows q.3 in
    record {
      types = field_types symbols q.0 k ++ q.1;
      long = length-append (field_types symbols q.0 k) q.1 ∙ omega (arith, same, q.2, l);
      fits = subst (λ n. TableFits symbols (field_types symbols q.0 k ++ q.1) (specialized k n rows)) same f;
    }

pub part_smaller : (symbols : List SymbolTree) (w : ℕ) (rows : List (List Tree)) (ks : List ℕ) (k : ℕ) → 0 < w → IsTable symbols w rows → rows ≢ [] → IsSplit symbols rows ks → Contains ks k
    → effort symbols (specialized k (length (symbol_or symbols k).args) rows) < effort symbols rows
part_smaller symbols w rows ks k l x n s c =
    let q = first_types symbols w rows l x in
    let b = (builds_here symbols q.0 q.1 rows ks s q.3 k).0 c in
    let f = specialized_fits symbols q.0 q.1 k b rows q.3 in
    subst (λ m. effort symbols (specialized k m rows) < effort symbols rows) (fields_long symbols q.0 k) (split_effort symbols q.0 q.1 k s.symbol rows q.3 n s.by.told f)

-- the shapes of a constructor's part are enough for its fields
pub part_long : (symbols : List SymbolTree) (w n : ℕ) (rows : List (List Tree)) (us : Shapes) → IsTable symbols (n + w) rows → Answered symbols (n + w) rows (Some us) → n ≤ number_of_shapes us
part_long symbols w n rows us x h = let m = h x.types x.long x.fits in omega (arith, counted symbols us x.types m.are, x.long)

-- ---- the patterns of a `match` as a table of one column
abbrev pub alone : List Tree → List (List Tree)
alone ps = map (λ p. p ∷ []) ps

alone_fits : (symbols : List SymbolTree) (t : Tree) (ps : List Tree) → All (IsPattern symbols) ps → HaveType ps t → TableFits symbols (t ∷ []) (alone ps)
alone_fits symbols t [] a h = tt
alone_fits symbols t (p ∷ ps) a h =
    let q : IsPattern symbols p = All-head (IsPattern symbols) p ps a in
    ((pattern_fits symbols t p q.sort q.typed (All-head (λ y. type_of y ≡ Some t) p ps h), tt), alone_fits symbols t ps (All-tail (IsPattern symbols) p ps a) (All-tail (λ y. type_of y ≡ Some t) p ps h))

pub alone_table : (symbols : List SymbolTree) (ps : List Tree) → All (IsPattern symbols) ps → HaveOneType ps → IsTable symbols 1 (alone ps)
alone_table symbols ps a h = record { types = h.type ∷ []; long = refl; fits = alone_fits symbols h.type ps a h.have }

alone_any : (s : ShapeTree) (ps : List Tree) → AnyMet (more_shapes s no_shapes) (alone ps) → Any (Meets s) ps
alone_any s [] m = absurd m
alone_any s (p ∷ ps) (inl m) = (0, p, omega arith, refl, m.0)
alone_any s (p ∷ ps) (inr m) = let r = alone_any s ps m in (suc r.0, r.1, omega (arith, r.2), r.3, r.4)

alone_none : (s : ShapeTree) (ps : List Tree) → NoneMet (more_shapes s no_shapes) (alone ps) → All (λ p. Meets s p → ⊥) ps
alone_none s [] m = All-nil (λ p. Meets s p → ⊥)
alone_none s (p ∷ ps) m = All-cons (λ q. Meets s q → ⊥) p ps (λ h. m.0 (h, tt)) (alone_none s ps m.1)

pub covers_exhaustive : (symbols : List SymbolTree) (ps : List Tree) → All (IsPattern symbols) ps → Answered symbols 1 (alone ps) None → AreExhaustive symbols ps
covers_exhaustive symbols ps a h t have s is = alone_any s ps (h (t ∷ []) refl (alone_fits symbols t ps a have) (more_shapes s no_shapes) (is, tt))

pub misses_escapes : (symbols : List SymbolTree) (ps : List Tree) (s : ShapeTree) → All (IsPattern symbols) ps → HaveOneType ps → Answered symbols 1 (alone ps) (Some (more_shapes s no_shapes)) → Escapes symbols ps s
misses_escapes symbols ps s a h m =
    let q = m (h.type ∷ []) refl (alone_fits symbols h.type ps a h.have) in
    record { type = h.type; have = h.have; is = q.are.0; unmet = alone_none s ps q.unmet }

pub escapes_not : (symbols : List SymbolTree) (ps : List Tree) (s : ShapeTree) → Escapes symbols ps s → AreExhaustive symbols ps → ⊥
escapes_not symbols ps s e x = let a = x e.type e.have s e.is in e.unmet a.0 a.1 a.2 (subst (Meets s) (sym a.3) a.4)

-- ---- what the cover of patterns answers
one_left : (symbols : List SymbolTree) (t : Tree) (ss : Shapes) → AreShapes symbols ss (t ∷ []) → (s : ShapeTree) × (ss ≡ more_shapes s no_shapes)
one_left symbols t no_shapes x = absurd x
one_left symbols t (more_shapes s no_shapes) x = (s, refl)
one_left symbols t (more_shapes s (more_shapes u ss)) x = absurd x.1

pub cover_left : (symbols : List SymbolTree) (ps : List Tree) (ss : Shapes) → All (IsPattern symbols) ps → HaveOneType ps → Answered symbols 1 (alone ps) (Some ss) → (s : ShapeTree) × (ss ≡ more_shapes s no_shapes) × Escapes symbols ps s
cover_left symbols ps ss a h m =
    let q = m (h.type ∷ []) refl (alone_fits symbols h.type ps a h.have) in
    let o = one_left symbols h.type ss q.are in
    (o.0, o.1, misses_escapes symbols ps o.0 a h (subst (λ y. Answered symbols 1 (alone ps) (Some y)) o.1 m))
