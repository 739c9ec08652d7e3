-- The propositions of a task and the names of its facts, declaration by declaration.
use Rattle.std.proofs.Common.{◌≡◌, ℕ, ◌+◌, ◌<◌, ◌≤◌, List, [], ◌∷◌, ◌++◌, map, length, get_or, drop, drop-cons, add-one, suc, refl, sym, ap, ◌∙◌, subst, arith, append_assoc, length-append}
use Rattle.std.proofs.lemmas.List.{map-append, append-nil, drop_all}
use Rattle.trees.specs.declared.TermId.{TermId}
use Rattle.trees.specs.Tree.{Tree}
use Rattle.tasks.specs.declared.declaration.Body.{Body}
use Rattle.tasks.specs.declared.declaration.Body.TheVariants.{TypeSymbol, Symbol, Defs, Inductives, Algebraics, Prop}
use Rattle.tasks.specs.declared.declaration.Def.{Def}
use Rattle.tasks.specs.declared.declaration.Ind.{Ind}
use Rattle.tasks.specs.declared.declaration.Decl.{Decl}
use Rattle.tasks.specs.declared.proposition.Proposition.{Proposition as StoredProposition}
use Rattle.tasks.specs.declared.facts.Fact.{Fact}
use Rattle.tasks.specs.declared.facts.Fact.TheVariants.{Equation, Clause, Inversion}
use Rattle.tasks.specs.Task.{SymbolTree, said_by, props_of}
use Rattle.tasks.specs.Facts.{FactTree, body_facts, clause_facts, all_clause_facts, equation_fact, inversion_fact, facts_from}
use Rattle.tasks.specs.Facts as facts
use Rattle.tasks.specs.Meaning.{trees_at, definitions_at, inductives_at, body_at, declaration_at, declarations_at, proposition_at}
use Rattle.tasks.specs.Looking.{stored_clause_facts, all_clause_names, fact_names, fact_name, stored_said_in}

cut : (ds : List Decl) (i : ℕ) (d : Decl) → i < length ds → d ≡ get_or ds i d → drop i ds ≡ d ∷ drop (i + 1) ds
cut ds i d h e = subst (λ (z : ℕ). drop i ds ≡ d ∷ drop z ds) (sym (add-one i)) (drop-cons ds i d h ∙ ap (λ z. z ∷ drop (suc i) ds) (sym e))

-- ---- propositions
said_is : (s : List Tree) (d : Decl) (b : Body) → map (proposition_at s) (stored_said_in d b) ≡ said_by (declaration_at s d) (body_at s b)
said_is s d (TypeSymbol k) = refl
said_is s d (Symbol k) = refl
said_is s d (Defs ds) = refl
said_is s d (Inductives is) = refl
said_is s d (Algebraics ts) = refl
said_is s d (Prop a) = refl

abbrev pub PropsSoFar : List Decl → ℕ → List StoredProposition → Type 0
PropsSoFar ds i ps = (s : List Tree) → map (proposition_at s) ps ++ props_of (declarations_at s (drop i ds)) ≡ props_of (declarations_at s ds)

pub props_step : (ds : List Decl) (i : ℕ) (d : Decl) (old new : List StoredProposition) → i < length ds → d ≡ get_or ds i d → new ≡ old ++ stored_said_in d d.body → PropsSoFar ds i old → PropsSoFar ds (i + 1) new
props_step ds i d old new h e n so s =
    let rest = props_of (declarations_at s (drop (i + 1) ds)) in
    let said = said_by (declaration_at s d) (body_at s d.body) in
    ap (λ z. map (proposition_at s) z ++ rest) n ∙ ap (λ z. z ++ rest) (map-append (proposition_at s) old (stored_said_in d d.body)) ∙ append_assoc (map (proposition_at s) old) (map (proposition_at s) (stored_said_in d d.body)) rest
    ∙ ap (λ z. map (proposition_at s) old ++ (z ++ rest)) (said_is s d d.body) ∙ ap (λ (z : List Decl). map (proposition_at s) old ++ props_of (declarations_at s z)) (sym (cut ds i d h e)) ∙ so s

pub props_end : (ds : List Decl) (i : ℕ) (ps : List StoredProposition) → length ds ≤ i → PropsSoFar ds i ps → (s : List Tree) → map (proposition_at s) ps ≡ props_of (declarations_at s ds)
props_end ds i ps h so s = sym (append-nil (map (proposition_at s) ps)) ∙ ap (λ (z : List Decl). map (proposition_at s) ps ++ props_of (declarations_at s z)) (sym (drop_all i ds h)) ∙ so s

-- ---- facts
equations_are : (s : List Tree) (symbols : List SymbolTree) (ds : List Def) → map (λ (d : Def). Equation d.symbol) ds ≡ map fact_name (map (equation_fact symbols) (definitions_at s ds))
equations_are s symbols [] = refl
equations_are s symbols (d ∷ ds) = ap (λ z. Equation d.symbol ∷ z) (equations_are s symbols ds)

clauses_are : (s : List Tree) (k vars n : ℕ) (cs : List TermId) → stored_clause_facts k n cs ≡ map fact_name (clause_facts k vars n (trees_at s cs))
clauses_are s k vars n [] = refl
clauses_are s k vars n (c ∷ cs) = ap (λ z. Clause k n ∷ z) (clauses_are s k vars (n + 1) cs)

all_clauses_are : (s : List Tree) (symbols : List SymbolTree) (is : List Ind) → all_clause_names is ≡ map fact_name (all_clause_facts symbols (inductives_at s is))
all_clauses_are s symbols [] = refl
all_clauses_are s symbols (i ∷ is) =
    cc (clauses_are s i.symbol _ 0 i.clauses, all_clauses_are s symbols is, map-append fact_name (clause_facts i.symbol _ 0 (trees_at s i.clauses)) (all_clause_facts symbols (inductives_at s is)))

inversions_are : (s : List Tree) (symbols : List SymbolTree) (is : List Ind) → map (λ (i : Ind). Inversion i.symbol) is ≡ map fact_name (map (inversion_fact symbols) (inductives_at s is))
inversions_are s symbols [] = refl
inversions_are s symbols (i ∷ is) = ap (λ z. Inversion i.symbol ∷ z) (inversions_are s symbols is)

names_are : (s : List Tree) (symbols : List SymbolTree) (n vars : ℕ) (b : Body) → fact_names n b ≡ map fact_name (body_facts symbols n vars (body_at s b))
names_are s symbols n vars (TypeSymbol k) = refl
names_are s symbols n vars (Symbol k) = refl
names_are s symbols n vars (Defs ds) = equations_are s symbols ds
names_are s symbols n vars (Inductives is) =
    cc (all_clauses_are s symbols is, inversions_are s symbols is, map-append fact_name (all_clause_facts symbols (inductives_at s is)) (map (inversion_fact symbols) (inductives_at s is)))
names_are s symbols n vars (Algebraics ts) = refl
names_are s symbols n vars (Prop a) = refl

counted : (s : List Tree) (d : Decl) (b : Body) → length (stored_said_in d b) ≡ facts.said_in (body_at s b)
counted s d (TypeSymbol k) = refl
counted s d (Symbol k) = refl
counted s d (Defs ds) = refl
counted s d (Inductives is) = refl
counted s d (Algebraics ts) = refl
counted s d (Prop a) = refl

abbrev pub FactsSoFar : List Decl → ℕ → ℕ → List Fact → Type 0
FactsSoFar ds i n fs = (s : List Tree) (symbols : List SymbolTree) → fs ++ map fact_name (facts_from symbols n (declarations_at s (drop i ds))) ≡ map fact_name (facts_from symbols 0 (declarations_at s ds))

pub facts_step : (ds : List Decl) (i n m : ℕ) (d : Decl) (old new : List Fact) → i < length ds → d ≡ get_or ds i d → new ≡ old ++ fact_names n d.body → m ≡ n + length (stored_said_in d d.body)
    → FactsSoFar ds i n old → FactsSoFar ds (i + 1) m new
facts_step ds i n m d old new h e q c so s symbols =
    let rest = declarations_at s (drop (i + 1) ds) in
    let mine = body_facts symbols n d.vars (body_at s d.body) in
    let following = facts_from symbols (n + facts.said_in (body_at s d.body)) rest in
    let next : m ≡ n + facts.said_in (body_at s d.body) = c ∙ ap (λ z. n + z) (counted s d d.body) in
    let joined : map fact_name mine ++ map fact_name following ≡ map fact_name (mine ++ following) = sym (map-append fact_name mine following) in
    ap (λ z. z ++ map fact_name (facts_from symbols m rest)) q ∙ ap (λ z. (old ++ fact_names n d.body) ++ map fact_name (facts_from symbols z rest)) next
    ∙ append_assoc old (fact_names n d.body) (map fact_name following) ∙ ap (λ z. old ++ (z ++ map fact_name following)) (names_are s symbols n d.vars d.body) ∙ ap (λ z. old ++ z) joined
    ∙ ap (λ (z : List Decl). old ++ map fact_name (facts_from symbols n (declarations_at s z))) (sym (cut ds i d h e)) ∙ so s symbols

pub facts_end : (ds : List Decl) (i n : ℕ) (fs : List Fact) → length ds ≤ i → FactsSoFar ds i n fs → (s : List Tree) (symbols : List SymbolTree) → fs ≡ map fact_name (facts_from symbols 0 (declarations_at s ds))
facts_end ds i n fs h so s symbols = sym (append-nil fs) ∙ ap (λ (z : List Decl). fs ++ map fact_name (facts_from symbols n (declarations_at s z))) (sym (drop_all i ds h)) ∙ so s symbols
