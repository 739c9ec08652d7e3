-- Rules and steps as data that a proof can tell apart, so that a `Model` may have them in its
-- value.
use Rattle.std.specs.Prelude.{◌≡◌, ℕ, ℤ, pos, zero, suc, List, [], ◌∷◌, get_or, refl}
use Rattle.std.specs.Coded.{Coded, code_by, coded×, coded_ℕ, coded_ℤ, coded_list}
use Rattle.trees.specs.Tree.{Tree, Leaf, HEnd}
use Rattle.trees.specs.Coding.{trees_code}
use Rattle.rules.specs.Trees.{RuleTree, RFalse, RNotTrue, RClash, RIrrefl, RDistinct, RLinear, RNotNot, RAnd, RNotAnd, RAndThen, RNotAndThen, ROr, RNotOr, ROrElse, RNotOrElse, RImp, RNotImp, RIff, RNotIff, RForall, RNotForall, RExists, RNotExists, RCut, RKeep, RRefl, RReplace, RLetDef, RIfDef, RMatchDef, RFact, RDef, RClause, RInv, RCase, RInject, RProject, RTrichotomy, RBound, StepTree}

abbrev numbers_code : Coded (List ℕ)
numbers_code = coded_list coded_ℕ

-- a rule's place in the table, its numbers, its pairs of a number and an integer, and its trees
abbrev rule_out : RuleTree → ℕ × (List ℕ × (List (ℕ × ℤ) × List Tree))
rule_out (RFalse i) = (0, (i ∷ [], ([], [])))
rule_out (RNotTrue i) = (1, (i ∷ [], ([], [])))
rule_out (RClash i j) = (2, (i ∷ j ∷ [], ([], [])))
rule_out (RIrrefl i) = (3, (i ∷ [], ([], [])))
rule_out (RDistinct i) = (4, (i ∷ [], ([], [])))
rule_out (RLinear uses) = (5, ([], (uses, [])))
rule_out (RNotNot i) = (6, (i ∷ [], ([], [])))
rule_out (RAnd i) = (7, (i ∷ [], ([], [])))
rule_out (RNotAnd i) = (8, (i ∷ [], ([], [])))
rule_out (RAndThen i) = (9, (i ∷ [], ([], [])))
rule_out (RNotAndThen i) = (10, (i ∷ [], ([], [])))
rule_out (ROr i) = (11, (i ∷ [], ([], [])))
rule_out (RNotOr i) = (12, (i ∷ [], ([], [])))
rule_out (ROrElse i) = (13, (i ∷ [], ([], [])))
rule_out (RNotOrElse i) = (14, (i ∷ [], ([], [])))
rule_out (RImp i) = (15, (i ∷ [], ([], [])))
rule_out (RNotImp i) = (16, (i ∷ [], ([], [])))
rule_out (RIff i) = (17, (i ∷ [], ([], [])))
rule_out (RNotIff i) = (18, (i ∷ [], ([], [])))
rule_out (RForall i e) = (19, (i ∷ [], ([], e ∷ [])))
rule_out (RNotForall i n) = (20, (i ∷ n ∷ [], ([], [])))
rule_out (RExists i n) = (21, (i ∷ n ∷ [], ([], [])))
rule_out (RNotExists i e) = (22, (i ∷ [], ([], e ∷ [])))
rule_out (RCut e) = (23, ([], ([], e ∷ [])))
rule_out (RKeep places) = (24, (places, ([], [])))
rule_out (RRefl e) = (25, ([], ([], e ∷ [])))
rule_out (RReplace i j e) = (26, (i ∷ j ∷ [], ([], e ∷ [])))
rule_out (RLetDef e) = (27, ([], ([], e ∷ [])))
rule_out (RIfDef e) = (28, ([], ([], e ∷ [])))
rule_out (RMatchDef e) = (29, ([], ([], e ∷ [])))
rule_out (RFact k types) = (30, (k ∷ [], ([], types)))
rule_out (RDef k types) = (31, (k ∷ [], ([], types)))
rule_out (RClause k c types) = (32, (k ∷ c ∷ [], ([], types)))
rule_out (RInv k types) = (33, (k ∷ [], ([], types)))
rule_out (RCase e) = (34, ([], ([], e ∷ [])))
rule_out (RInject i) = (35, (i ∷ [], ([], [])))
rule_out (RProject e) = (36, ([], ([], e ∷ [])))
rule_out (RTrichotomy a b) = (37, ([], ([], a ∷ b ∷ [])))
rule_out (RBound e n) = (38, ([], ((0, n) ∷ [], e ∷ [])))

abbrev nth_rule : List RuleTree → ℕ → RuleTree
nth_rule [] n = RKeep []
nth_rule (r ∷ rs) zero = r
nth_rule (r ∷ rs) (suc n) = nth_rule rs n

-- the rules of these numbers, pairs and trees, in the order of the table
abbrev rules_of : List ℕ → List (ℕ × ℤ) → List Tree → List RuleTree
rules_of ns us ts =
    let i = get_or ns 0 0 in
    let j = get_or ns 1 0 in
    let a = get_or ts 0 (Leaf HEnd) in
    let b = get_or ts 1 (Leaf HEnd) in
    let z = (get_or us 0 (0, pos 0)).1 in
    RFalse i ∷ RNotTrue i ∷ RClash i j ∷ RIrrefl i ∷ RDistinct i ∷ RLinear us ∷ RNotNot i ∷ RAnd i
    ∷ RNotAnd i ∷ RAndThen i ∷ RNotAndThen i ∷ ROr i ∷ RNotOr i ∷ ROrElse i ∷ RNotOrElse i
    ∷ RImp i ∷ RNotImp i ∷ RIff i ∷ RNotIff i ∷ RForall i a ∷ RNotForall i j ∷ RExists i j
    ∷ RNotExists i a ∷ RCut a ∷ RKeep ns ∷ RRefl a ∷ RReplace i j a ∷ RLetDef a ∷ RIfDef a
    ∷ RMatchDef a ∷ RFact i ts ∷ RDef i ts ∷ RClause i j ts ∷ RInv i ts ∷ RCase a ∷ RInject i
    ∷ RProject a ∷ RTrichotomy a b ∷ RBound a z ∷ []

abbrev rule_in : ℕ × (List ℕ × (List (ℕ × ℤ) × List Tree)) → RuleTree
rule_in p = nth_rule (rules_of p.1.0 p.1.1.0 p.1.1.1) p.0

pub rule_back : (r : RuleTree) → rule_in (rule_out r) ≡ r
rule_back (RFalse i) = refl
rule_back (RNotTrue i) = refl
rule_back (RClash i j) = refl
rule_back (RIrrefl i) = refl
rule_back (RDistinct i) = refl
rule_back (RLinear uses) = refl
rule_back (RNotNot i) = refl
rule_back (RAnd i) = refl
rule_back (RNotAnd i) = refl
rule_back (RAndThen i) = refl
rule_back (RNotAndThen i) = refl
rule_back (ROr i) = refl
rule_back (RNotOr i) = refl
rule_back (ROrElse i) = refl
rule_back (RNotOrElse i) = refl
rule_back (RImp i) = refl
rule_back (RNotImp i) = refl
rule_back (RIff i) = refl
rule_back (RNotIff i) = refl
rule_back (RForall i e) = refl
rule_back (RNotForall i n) = refl
rule_back (RExists i n) = refl
rule_back (RNotExists i e) = refl
rule_back (RCut e) = refl
rule_back (RKeep places) = refl
rule_back (RRefl e) = refl
rule_back (RReplace i j e) = refl
rule_back (RLetDef e) = refl
rule_back (RIfDef e) = refl
rule_back (RMatchDef e) = refl
rule_back (RFact k types) = refl
rule_back (RDef k types) = refl
rule_back (RClause k c types) = refl
rule_back (RInv k types) = refl
rule_back (RCase e) = refl
rule_back (RInject i) = refl
rule_back (RProject e) = refl
rule_back (RTrichotomy a b) = refl
rule_back (RBound e n) = refl

abbrev pub rule_code : Coded RuleTree
rule_code = code_by (ℕ × (List ℕ × (List (ℕ × ℤ) × List Tree)))
    (coded× coded_ℕ (coded× numbers_code (coded× (coded_list (coded× coded_ℕ coded_ℤ)) trees_code)))
    rule_out rule_in rule_back

abbrev pub step_code : Coded StepTree
step_code =
    code_by (List Tree × (RuleTree × List ℕ)) (coded× trees_code (coded× rule_code numbers_code))
    (λ st. (st.sequent, (st.rule, st.premises)))
    (λ p. record { sequent = p.0; rule = p.1.0; premises = p.1.1 }) (λ _. refl)

abbrev pub steps_code : Coded (List StepTree)
steps_code = coded_list step_code
