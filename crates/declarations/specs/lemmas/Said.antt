-- What the propositions of rewritten declarations say.
use Rattle.std.specs.List.{Contains, flat_map}
use Rattle.std.proofs.Common.{inl, inr, ◌≡◌, ℕ, ◌+◌, List, [], ◌∷◌, ◌++◌, map, refl, sym, ap, ◌∙◌, arith, append_assoc}
use Rattle.std.proofs.lemmas.List.{append-nil, map-append}
use Rattle.std.proofs.lemmas.List.Elements.{Contains-append_left, Contains-append_right, Contains-append_cases}
use Rattle.tasks.specs.Task.{SymbolTree, BodyTree, MakesType, Makes, Defines, Induces, Constructs, Says, DeclarationTree, PropositionTree, props_of, said_by}
use Rattle.tasks.specs.Facts.{FactTree, facts_from, body_facts, said_in}
use Rattle.declarations.specs.Rewritten.{DeclarationRule}
use Rattle.declarations.specs.Said.{Sayings, said_from, content, AreSaid, AreOwnFacts, own_said}

props_after : (xs ys : List DeclarationTree) (ps : List PropositionTree) → props_of xs ≡ ps
    → props_of (xs ++ ys) ≡ ps ++ props_of ys
props_after [] ys ps e = ap (λ (z : List PropositionTree). z ++ props_of ys) e
props_after (d ∷ xs) ys ps e =
    ap (λ (z : List PropositionTree). said_by d d.body ++ z) (props_after xs ys (props_of xs) refl)
    ∙ sym (append_assoc (said_by d d.body) (props_of xs) (props_of ys))
    ∙ ap (λ (z : List PropositionTree). z ++ props_of ys) e

-- the propositions of rewritten declarations say what is listed
pub said_props : (g : DeclarationRule) (w : Sayings) → AreSaid g w
    → (symbols : List SymbolTree) (n : ℕ) (ds : List DeclarationTree)
    → props_of (flat_map (g symbols) ds) ≡ map content (said_from w symbols n ds)
said_props g w says symbols n [] = refl
said_props g w says symbols n (d ∷ ds) =
    props_after (g symbols d) (flat_map (g symbols) ds) (map content (w symbols n d))
    (says symbols n d)
    ∙ ap (λ (z : List PropositionTree). map content (w symbols n d) ++ z)
    (said_props g w says symbols (n + said_in d.body) ds)
    ∙ sym (map-append content (w symbols n d) (said_from w symbols (n + said_in d.body) ds))

-- and each of it is a fact of the declarations
pub said_listed : (w : Sayings) → AreOwnFacts w
    → (symbols : List SymbolTree) (n : ℕ) (ds : List DeclarationTree) (x : FactTree)
    → Contains (said_from w symbols n ds) x → Contains (facts_from symbols n ds) x
said_listed w are symbols n [] x h = h
said_listed w are symbols n (d ∷ ds) x h =
    elim (Contains-append_cases (w symbols n d) (said_from w symbols (n + said_in d.body) ds) x h) [
      | inl c ↦ Contains-append_left (body_facts symbols n d.vars d.body)
          (facts_from symbols (n + said_in d.body) ds) x (are symbols n d x c)
      | inr c ↦ Contains-append_right (body_facts symbols n d.vars d.body)
          (facts_from symbols (n + said_in d.body) ds) x
          (said_listed w are symbols (n + said_in d.body) ds x c)
    ]

-- ---- a declaration that stays says what it says itself
own_body : (n : ℕ) (d : DeclarationTree) (b : BodyTree) → said_by d b ≡ map content (own_said n d b)
own_body n d (Says a) = refl
own_body n d (MakesType k) = refl
own_body n d (Makes k) = refl
own_body n d (Defines ds) = refl
own_body n d (Induces is) = refl
own_body n d (Constructs ts) = refl

pub own_props : (n : ℕ) (d : DeclarationTree)
    → props_of (d ∷ []) ≡ map content (own_said n d d.body)
own_props n d = append-nil (said_by d d.body) ∙ own_body n d d.body

pub none_said : {P : Type 0} (x : FactTree) → Contains [] x → P
none_said x h = absurd (omega (arith, h.1))

own_body_facts : (symbols : List SymbolTree) (n : ℕ) (d : DeclarationTree) (b : BodyTree)
    (x : FactTree) → Contains (own_said n d b) x → Contains (body_facts symbols n d.vars b) x
own_body_facts symbols n d (Says a) x h = h
own_body_facts symbols n d (MakesType k) x h = none_said x h
own_body_facts symbols n d (Makes k) x h = none_said x h
own_body_facts symbols n d (Defines ds) x h = none_said x h
own_body_facts symbols n d (Induces is) x h = none_said x h
own_body_facts symbols n d (Constructs ts) x h = none_said x h

pub own_facts : (symbols : List SymbolTree) (n : ℕ) (d : DeclarationTree) (x : FactTree)
    → Contains (own_said n d d.body) x → Contains (body_facts symbols n d.vars d.body) x
own_facts symbols n d x h = own_body_facts symbols n d d.body x h
