-- The parts of a problem, one after another.
use Rattle.std.proofs.Common.{◌≡◌, ℕ, ◌+◌, ◌<◌, ◌≤◌, Bool, true, false, ◌||◌, ◌==◌, if◌then◌else◌, List, [], ◌∷◌, ◌++◌, map, length, get_or, take, drop, Option, Some, None, refl, sym, ap, ◌∙◌, append_assoc}
use Rattle.std.specs.List.{list_any}
use Rattle.std.specs.Option.{is_some}
use Rattle.std.specs.Str.{bytes_eq}
use Rattle.std.proofs.lemmas.List.{append-nil, map_more, drop_more, drop_all}
use Rattle.trees.specs.Tree.{Tree}
use Rattle.tasks.specs.declared.declaration.Decl.{Decl}
use Rattle.tasks.specs.Task.{BodyTree, MakesType, Makes, Defines, Induces, Constructs, Says, DeclarationTree, PropositionTree, props_of, said_by}
use Rattle.tasks.specs.Meaning.{declaration_at, declarations_at}
use Rattle.drivers.specs.declared.driver_items.kinds.Piece.{Piece}
use Rattle.printed_problems.specs.Templates.{bytes_alone, template_in}
use Rattle.printed_problems.specs.Problems.{is_of_theory, texts_where, formula_of}
use Rattle.printed_problems.specs.Made.{text_if, said_formulas}

abbrev pub formulas : List DeclarationTree → List Tree
formulas ds = map formula_of (props_of ds)

formula_first : (d : DeclarationTree) (b : BodyTree) (more : List PropositionTree) → map formula_of (said_by d b ++ more) ≡ said_formulas b ++ map formula_of more
formula_first d (Says e) more = refl
formula_first d (MakesType k) more = refl
formula_first d (Makes k) more = refl
formula_first d (Defines ds) more = refl
formula_first d (Induces is) more = refl
formula_first d (Constructs ts) more = refl

formulas_push : (ds : List DeclarationTree) (d : DeclarationTree) → formulas (ds ++ d ∷ []) ≡ formulas ds ++ said_formulas d.body
formulas_push [] d = formula_first d d.body [] ∙ append-nil (said_formulas d.body)
formulas_push (x ∷ xs) d =
    formula_first x x.body (props_of (xs ++ d ∷ [])) ∙ ap (λ z. said_formulas x.body ++ z) (formulas_push xs d) ∙ sym (append_assoc (said_formulas x.body) (formulas xs) (said_formulas d.body))
    ∙ ap (λ z. z ++ said_formulas d.body) (sym (formula_first x x.body (props_of xs)))

pub formulas_more : (s : List Tree) (ds : List Decl) (i : ℕ) (d : Decl) → i < length ds → formulas (declarations_at s (take (i + 1) ds)) ≡ formulas (declarations_at s (take i ds)) ++ said_formulas (declaration_at s (get_or ds i d)).body
formulas_more s ds i d h = ap formulas (map_more (declaration_at s) ds i d h) ∙ formulas_push (declarations_at s (take i ds)) (declaration_at s (get_or ds i d))

-- ---- preludes
texts_one : (test : Option (List ℕ) → Bool) (p : Option (List ℕ) × List ℕ) (ps : List (Option (List ℕ) × List ℕ)) → texts_where test (p ∷ ps) ≡ text_if p.1 (test p.0) ++ texts_where test ps
texts_one test p ps = elim (test p.0) as (λ b. (if b then p.1 ∷ texts_where test ps else texts_where test ps) ≡ text_if p.1 b ++ texts_where test ps) [ true ↦ refl | false ↦ refl ]

pub texts_step : (test : Option (List ℕ) → Bool) (ps : List (Option (List ℕ) × List ℕ)) (i : ℕ) (p : Option (List ℕ) × List ℕ) (old new all : List (List ℕ)) → i < length ps → p ≡ get_or ps i p
    → new ≡ old ++ text_if p.1 (test p.0) → old ++ texts_where test (drop i ps) ≡ all → new ++ texts_where test (drop (i + 1) ps) ≡ all
texts_step test ps i p old new all h is e so =
    let rest = drop (i + 1) ps in
    ap (λ z. z ++ texts_where test rest) e ∙ append_assoc old (text_if p.1 (test p.0)) (texts_where test rest)
    ∙ ap (λ z. old ++ z) (sym (texts_one test p rest) ∙ ap (texts_where test) (ap (λ (z : Option (List ℕ) × List ℕ). z ∷ rest) is ∙ sym (drop_more ps i p h))) ∙ so

pub texts_end : (test : Option (List ℕ) → Bool) (ps : List (Option (List ℕ) × List ℕ)) (i : ℕ) (made all : List (List ℕ)) → length ps ≤ i → made ++ texts_where test (drop i ps) ≡ all → made ≡ all
texts_end test ps i made all h so = sym (append-nil made) ∙ ap (λ z. made ++ texts_where test z) (sym (drop_all i ps h)) ∙ so

-- ---- theories of declarations
pub theory_later : (s : List Tree) (path : List ℕ) (ds : List Decl) (i : ℕ) (d : Decl) (all : Bool) → i < length ds → d ≡ get_or ds i d → bytes_eq d.theory path ≡ false
    → list_any (is_of_theory path) (declarations_at s (drop i ds)) ≡ all → list_any (is_of_theory path) (declarations_at s (drop (i + 1) ds)) ≡ all
theory_later s path ds i d all h is off so =
    let rest = list_any (is_of_theory path) (declarations_at s (drop (i + 1) ds)) in
    sym (ap (λ b. b || rest) off) ∙ ap (λ z. list_any (is_of_theory path) (declarations_at s z)) (ap (λ (z : Decl). z ∷ drop (i + 1) ds) is ∙ sym (drop_more ds i d h)) ∙ so

pub theory_here : (s : List Tree) (path : List ℕ) (ds : List Decl) (i : ℕ) (d : Decl) (all : Bool) → i < length ds → d ≡ get_or ds i d → bytes_eq d.theory path ≡ true
    → list_any (is_of_theory path) (declarations_at s (drop i ds)) ≡ all → true ≡ all
theory_here s path ds i d all h is on so =
    let rest = list_any (is_of_theory path) (declarations_at s (drop (i + 1) ds)) in
    sym (ap (λ b. b || rest) on) ∙ ap (λ z. list_any (is_of_theory path) (declarations_at s z)) (ap (λ (z : Decl). z ∷ drop (i + 1) ds) is ∙ sym (drop_more ds i d h)) ∙ so

pub theory_end : (s : List Tree) (path : List ℕ) (ds : List Decl) (i : ℕ) (all : Bool) → length ds ≤ i → list_any (is_of_theory path) (declarations_at s (drop i ds)) ≡ all → false ≡ all
theory_end s path ds i all h so = ap (λ z. list_any (is_of_theory path) (declarations_at s z)) (sym (drop_all i ds h)) ∙ so

-- ---- templates
pub any_template : (ts : List (ℕ × List Piece)) (k : ℕ) → list_any (λ (t : ℕ × List Piece). t.0 == k) ts ≡ is_some (template_in ts k)
any_template [] k = refl
any_template (t ∷ ts) k = elim (t.0 == k) as (λ b. (b || list_any (λ (u : ℕ × List Piece). u.0 == k) ts) ≡ is_some (if b then Some t.1 else template_in ts k)) [ true ↦ refl | false ↦ any_template ts k ]

pub alone_some : (o : Option (List ℕ)) → is_some o ≡ is_some (bytes_alone o)
alone_some None = refl
alone_some (Some b) = refl
