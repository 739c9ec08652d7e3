-- The files of `stress`: a source whose axioms lead from each of its predicates to the next, and a
-- refutation of each part.
use Rattle.std.specs.Prelude.{ℕ, zero, suc, ◌+◌, ◌-◌, ◌*◌, ◌==◌, if◌then◌else◌, List, [], ◌∷◌, ◌++◌, codes, decimal}

-- a template with these numbers in turn for its marks, %
abbrev pub filled : List ℕ → List ℕ → List ℕ
filled [] ns = []
filled (c ∷ cs) [] = c ∷ filled cs []
filled (c ∷ cs) (n ∷ ns) = if c == 37 then decimal n ++ filled cs ns else c ∷ filled cs (n ∷ ns)

-- the texts for 0 to n - 1
abbrev pub for_each : (ℕ → List ℕ) → ℕ → List ℕ
for_each text zero = []
for_each text (suc n) = for_each text n ++ text n

-- predicate pI
abbrev pub predicate_line : ℕ → List ℕ
predicate_line i = filled (codes "predicate p%\n") (i ∷ [])

-- axiom aI: pJ -> pI, with i = j + 1
abbrev pub chain_axiom : ℕ → List ℕ
chain_axiom j = filled (codes "axiom a%: p% -> p%\n") ((j + 1) ∷ j ∷ (j + 1) ∷ [])

-- /\ pI, with i = j + 2
abbrev pub conjunct : ℕ → List ℕ
conjunct j = filled (codes " /\\ p%") ((j + 2) ∷ [])

-- the source whose goal has n parts, 1 at least
abbrev pub source_text : ℕ → List ℕ
source_text n =
    codes "theory S\n" ++ for_each predicate_line (n + 1) ++ codes "axiom a0: p0\n"
    ++ for_each chain_axiom n
    ++ codes "goal g: p1" ++ for_each conjunct (n - 1) ++ codes "\nend\n"

-- The expressions of the refutation of part k: pI has the number i, pI -> pJ with j = i + 1 has k +
-- 1 + i, and not pI has 2 k + 1 + i.
abbrev pub symbol_line : ℕ → List ℕ
symbol_line i = filled (codes "e sym p%_%\n") (i ∷ (i + 1) ∷ [])

abbrev pub implication_line : ℕ → List ℕ
implication_line i = filled (codes "e imp % %\n") (i ∷ (i + 1) ∷ [])

abbrev pub negation_line : ℕ → List ℕ
negation_line i = filled (codes "e not %\n") (i ∷ [])

-- the two steps of not p0
abbrev pub first_steps : ℕ → List ℕ
first_steps k =
    filled (codes "s % 0 : clash 1 0 :\ns % : fact 0 : 0\n") ((k * 2 + 1) ∷ (k * 2 + 1) ∷ [])

-- the four steps of not pI with i = j + 1, after those of not pJ, the last of which has the number
-- 4 j + 1
abbrev pub next_steps : ℕ → ℕ → List ℕ
next_steps k j =
    filled (codes "s % % % : clash 2 0 :\n") ((k * 2 + 2 + j) ∷ (k + 1 + j) ∷ (j + 1) ∷ [])
    ++ filled (codes "s % % % : keep 2 : %\n")
    ((k * 2 + 2 + j) ∷ (k + 1 + j) ∷ (k * 2 + 1 + j) ∷ (j * 4 + 1) ∷ [])
    ++ filled (codes "s % % : imp 1 : % %\n")
    ((k * 2 + 2 + j) ∷ (k + 1 + j) ∷ (j * 4 + 3) ∷ (j * 4 + 2) ∷ [])
    ++ filled (codes "s % : fact % : %\n") ((k * 2 + 2 + j) ∷ (j + 1) ∷ (j * 4 + 4) ∷ [])

-- the refutation of part k
abbrev pub refutation_text : ℕ → List ℕ
refutation_text k =
    for_each symbol_line (k + 1) ++ for_each implication_line k ++ for_each negation_line (k + 1)
    ++ first_steps k ++ for_each (next_steps k) k
