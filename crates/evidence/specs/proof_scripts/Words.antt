-- Rules whose places are counted after some formulas.
use Rattle.std.specs.Prelude.{◌≡◌, ℕ, ◌+◌, ◌≤◌, List, map}
use Rattle.trees.specs.Tree.{Tree}
use Rattle.rules.specs.Trees.{RuleTree, RFalse, RNotTrue, RClash, RIrrefl, RDistinct, RLinear, RNotNot, RAnd, RNotAnd, RAndThen, RNotAndThen, ROr, RNotOr, ROrElse, RNotOrElse, RImp, RNotImp, RIff, RNotIff, RForall, RNotForall, RExists, RNotExists, RKeep, RReplace, RInject}
use Rattle.evidence.specs.declared.proof_scripts.line.Word.{Word}
use Rattle.evidence.specs.declared.proof_scripts.line.Word.TheVariants as word
use Rattle.evidence.specs.proof_scripts.Scripts.{word_rule}

-- the rule with so many formulas before those in which its places were counted
abbrev pub rule_past : ℕ → RuleTree → RuleTree
rule_past n (RFalse i) = RFalse (n + i)
rule_past n (RNotTrue i) = RNotTrue (n + i)
rule_past n (RClash i j) = RClash (n + i) (n + j)
rule_past n (RIrrefl i) = RIrrefl (n + i)
rule_past n (RDistinct i) = RDistinct (n + i)
rule_past n (RLinear uses) = RLinear (map (λ u. (n + u.0, u.1)) uses)
rule_past n (RNotNot i) = RNotNot (n + i)
rule_past n (RAnd i) = RAnd (n + i)
rule_past n (RNotAnd i) = RNotAnd (n + i)
rule_past n (RAndThen i) = RAndThen (n + i)
rule_past n (RNotAndThen i) = RNotAndThen (n + i)
rule_past n (ROr i) = ROr (n + i)
rule_past n (RNotOr i) = RNotOr (n + i)
rule_past n (ROrElse i) = ROrElse (n + i)
rule_past n (RNotOrElse i) = RNotOrElse (n + i)
rule_past n (RImp i) = RImp (n + i)
rule_past n (RNotImp i) = RNotImp (n + i)
rule_past n (RIff i) = RIff (n + i)
rule_past n (RNotIff i) = RNotIff (n + i)
rule_past n (RForall i e) = RForall (n + i) e
rule_past n (RNotForall i m) = RNotForall (n + i) m
rule_past n (RExists i m) = RExists (n + i) m
rule_past n (RNotExists i e) = RNotExists (n + i) e
rule_past n (RKeep places) = RKeep (map (λ i. n + i) places)
rule_past n (RReplace i j e) = RReplace (n + i) (n + j) e
rule_past n (RInject i) = RInject (n + i)
rule_past n r = r

-- the word's places after so many formulas are no more than a number can tell
abbrev pub WordFits : ℕ → Word → Type 0
WordFits n (word.NotTrue i) = n + i ≤ 18446744073709551615
WordFits n (word.Clash i j) = (n + i ≤ 18446744073709551615) × (n + j ≤ 18446744073709551615)
WordFits n (word.Holding op i) = n + i ≤ 18446744073709551615
WordFits n (word.Failing op i) = n + i ≤ 18446744073709551615
WordFits n (word.Forall i t) = n + i ≤ 18446744073709551615
WordFits n (word.NotForall i m) = n + i ≤ 18446744073709551615
WordFits n (word.NotNot i) = n + i ≤ 18446744073709551615
WordFits n (word.Irrefl i) = n + i ≤ 18446744073709551615
WordFits n (word.Exists i m) = n + i ≤ 18446744073709551615
WordFits n (word.NotExists i t) = n + i ≤ 18446744073709551615
WordFits n (word.Replace i j e) = (n + i ≤ 18446744073709551615) × (n + j ≤ 18446744073709551615)
WordFits n (word.False i) = n + i ≤ 18446744073709551615
WordFits n (word.Distinct i) = n + i ≤ 18446744073709551615
WordFits n _ = Unit {0}

-- the word's rule has no place
pub record HasNoPlace (w : Word) : Type 0 where
  pub fits : WordFits 0 w
  pub same : (s : List Tree) → rule_past 0 (word_rule s w) ≡ word_rule s w
