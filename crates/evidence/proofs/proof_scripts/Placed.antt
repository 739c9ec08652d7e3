-- A rule's row over the tail is one over the whole sequent, with its places counted there; its places are within a sequent.
use Rattle.std.proofs.Common.{◌≡◌, ◌≢◌, ℕ, ◌+◌, ◌<◌, ◌≤◌, true, false, List, [], ◌∷◌, ◌++◌, length, slice_get, All, Option, Some, None, IsSomeAnd, refl, sym, ap, subst, ◌∙◌, arith}
use Rattle.std.proofs.lemmas.List.Elements.{All-append}
use Rattle.std.proofs.lemmas.Option.{slice_get_within}
use Rattle.trees.specs.declared.Op.{Op}
use Rattle.trees.specs.declared.Op.TheVariants.{And, AndThen, Or, OrElse, Imp, Iff}
use Rattle.trees.specs.Tree.{Tree}
use Rattle.trees.specs.Binding.{inst, Param}
use Rattle.trees.specs.Facts.{has_param, Each}
use Rattle.trees.specs.Node.{tree_at}
use Rattle.trees.specs.Sorts.{type_of}
use Rattle.tasks.specs.Task.{TaskTree, neg}
use Rattle.tasks.specs.Valid.{IsTypeOver}
use Rattle.kernel.specs.Right.{IsGroundExpression}
use Rattle.rules.specs.Trees.{RNotNot, RForall, RNotForall, RExists, RNotExists, RReplace, rule_trees, rule_types}
use Rattle.rules.specs.Forms.{negated, connected, universal, existential, equation_sides, let_of, if_of, application_parts, alike, by_cases}
use Rattle.rules.specs.Rows.{IsRuleRow, Adds, AtTerm, AtNew, Constructors, IsNew, IsTemplate}
use Rattle.evidence.specs.Rules.{NamesOwn, holding_rule, failing_rule}
use Rattle.evidence.proofs.Rules.{some_map}
use Rattle.evidence.proofs.Formulas.{following}
use Rattle.evidence.proofs.Lifted.{some_of}
use Rattle.evidence.specs.declared.proof_scripts.line.Word.{Word}
use Rattle.evidence.specs.declared.proof_scripts.line.Word.TheVariants as word
use Rattle.evidence.specs.proof_scripts.Scripts.{word_rule, IsMaker, one_added, adds, sequents_under, IsByRule, IsOfTail, IsNewTo}
use Rattle.evidence.specs.proof_scripts.Words.{rule_past, WordFits}

-- ---- places
pub holding_after : (n i : ℕ) (op : Op) → rule_past n (holding_rule op i) ≡ holding_rule op (n + i)
holding_after n i And = refl
holding_after n i AndThen = refl
holding_after n i Or = refl
holding_after n i OrElse = refl
holding_after n i Imp = refl
holding_after n i Iff = refl

pub failing_after : (n i : ℕ) (op : Op) → rule_past n (failing_rule op i) ≡ failing_rule op (n + i)
failing_after n i And = refl
failing_after n i AndThen = refl
failing_after n i Or = refl
failing_after n i OrElse = refl
failing_after n i Imp = refl
failing_after n i Iff = refl

-- ---- what is found at a place is within
module _ (xs : List Tree) where
  pub found_within : (i : ℕ) (a : Tree) → slice_get xs i ≡ Some a → i < length xs
  found_within i a e = slice_get_within xs i a e

  taken_within : {X : Type 0} (g : Option Tree → Option X) → g None ≡ None → (i : ℕ) (P : X → Type 0) → IsSomeAnd (g (slice_get xs i)) P → i < length xs
  taken_within g n i P h = by (slice_get xs i) refl
    where
      by : (o : Option Tree) → slice_get xs i ≡ o → i < length xs
      by None e = absurd (subst (λ z. IsSomeAnd z P) (ap g e ∙ n) h)
      by (Some a) e = slice_get_within xs i a e

  negated_place : (i : ℕ) (P : Tree → Type 0) → IsSomeAnd (negated (slice_get xs i)) P → i < length xs
  negated_place i P h = taken_within negated refl i P h

  pub twice_place : (i : ℕ) (P : Tree → Type 0) → IsSomeAnd (negated (negated (slice_get xs i))) P → i < length xs
  twice_place i P h = taken_within (λ o. negated (negated o)) refl i P h

  pub universal_place : (i : ℕ) (P : Tree × Tree → Type 0) → IsSomeAnd (universal (slice_get xs i)) P → i < length xs
  universal_place i P h = taken_within universal refl i P h

  pub existential_place : (i : ℕ) (P : Tree × Tree → Type 0) → IsSomeAnd (existential (slice_get xs i)) P → i < length xs
  existential_place i P h = taken_within existential refl i P h

  pub not_universal_place : (i : ℕ) (P : Tree × Tree → Type 0) → IsSomeAnd (universal (negated (slice_get xs i))) P → i < length xs
  not_universal_place i P h = taken_within (λ o. universal (negated o)) refl i P h

  pub not_existential_place : (i : ℕ) (P : Tree × Tree → Type 0) → IsSomeAnd (existential (negated (slice_get xs i))) P → i < length xs
  not_existential_place i P h = taken_within (λ o. existential (negated o)) refl i P h

  pub sides_place : (i : ℕ) (P : Tree × Tree → Type 0) → IsSomeAnd (equation_sides (slice_get xs i)) P → i < length xs
  sides_place i P h = taken_within equation_sides refl i P h

  not_sides_place : (i : ℕ) (P : Tree × Tree → Type 0) → IsSomeAnd (equation_sides (negated (slice_get xs i))) P → i < length xs
  not_sides_place i P h = taken_within (λ o. equation_sides (negated o)) refl i P h

  pub joined_place : (i : ℕ) (P : Op × Tree × Tree → Type 0) → IsSomeAnd (connected (slice_get xs i)) P → i < length xs
  joined_place i P h = taken_within connected refl i P h

  pub not_joined_place : (i : ℕ) (P : Op × Tree × Tree → Type 0) → IsSomeAnd (connected (negated (slice_get xs i))) P → i < length xs
  not_joined_place i P h = taken_within (λ o. connected (negated o)) refl i P h

  holding_place : (t : TaskTree) (op : Op) (i : ℕ) (ps : List (List Tree)) → IsRuleRow t xs (holding_rule op i) ps → i < length xs
  holding_place t And i ps h = joined_place i _ h
  holding_place t AndThen i ps h = joined_place i _ h
  holding_place t Or i ps h = joined_place i _ h
  holding_place t OrElse i ps h = joined_place i _ h
  holding_place t Imp i ps h = joined_place i _ h
  holding_place t Iff i ps h = joined_place i _ h

  failing_place : (t : TaskTree) (op : Op) (i : ℕ) (ps : List (List Tree)) → IsRuleRow t xs (failing_rule op i) ps → i < length xs
  failing_place t And i ps h = not_joined_place i _ h
  failing_place t AndThen i ps h = not_joined_place i _ h
  failing_place t Or i ps h = not_joined_place i _ h
  failing_place t OrElse i ps h = not_joined_place i _ h
  failing_place t Imp i ps h = not_joined_place i _ h
  failing_place t Iff i ps h = not_joined_place i _ h

  -- the places of a word whose rule has a row, with so many formulas before them
  pub word_fits : (t : TaskTree) (s : List Tree) (w : Word) (ps : List (List Tree)) (n m : ℕ) → IsRuleRow t xs (word_rule s w) ps → length xs ≡ m → n + m ≤ 18446744073709551615 → WordFits n w
  word_fits t s (word.NotTrue i) ps n m h e l = let k = found_within i _ h.0 in omega arith
  word_fits t s (word.Clash i j) ps n m h e l =
      let a = some_of (negated (slice_get xs j)) _ h in
      let k = negated_place j _ h in
      let o = found_within i a.0 a.1.1.0 in
      (omega arith, omega arith)
  word_fits t s (word.Holding op i) ps n m h e l = let k = holding_place t op i ps h in omega arith
  word_fits t s (word.Failing op i) ps n m h e l = let k = failing_place t op i ps h in omega arith
  word_fits t s (word.Cut a) ps n m h e l = tt
  word_fits t s (word.Forall i u) ps n m h e l = let k = universal_place i _ h in omega arith
  word_fits t s (word.NotForall i q) ps n m h e l = let k = not_universal_place i _ h in omega arith
  word_fits t s (word.LetDef a) ps n m h e l = tt
  word_fits t s (word.IfDef a) ps n m h e l = tt
  word_fits t s (word.MatchDef a) ps n m h e l = tt
  word_fits t s (word.NotNot i) ps n m h e l = let k = twice_place i _ h in omega arith
  word_fits t s (word.Irrefl i) ps n m h e l = let k = not_sides_place i _ h in omega arith
  word_fits t s (word.Exists i q) ps n m h e l = let k = existential_place i _ h in omega arith
  word_fits t s (word.NotExists i u) ps n m h e l = let k = not_existential_place i _ h in omega arith
  word_fits t s (word.Replace i j a) ps n m h e l =
      let b = some_of (equation_sides (slice_get xs i)) _ h in
      let k = sides_place i _ h in
      let o = found_within j _ b.1.1.1 in
      (omega arith, omega arith)
  word_fits t s (word.False i) ps n m h e l = let k = found_within i _ h.0 in omega arith
  word_fits t s (word.Refl a) ps n m h e l = tt
  word_fits t s (word.Distinct i) ps n m h e l = let k = sides_place i _ h in omega arith
  word_fits t s (word.Project a) ps n m h e l = tt

-- ---- rows
-- what is added of what was found
found_adds : {X : Type 0} (o : Option X) (P Q : X → Type 0) (g : X → Tree) (s : List Tree) → ((x : X) → P x → Q x) → IsSomeAnd o P → IsSomeAnd o (λ x. Q x × Adds s (sequents_under s (one_added o g)) ((g x ∷ []) ∷ []))
found_adds None P Q g s f h = absurd h
found_adds (Some x) P Q g s f h = (f x h, refl)

alone_adds : {X : Type 0} (o : Option X) (P : X → Type 0) (g : X → Tree) (s : List Tree) → IsSomeAnd o P → IsSomeAnd o (λ x. Adds s (sequents_under s (one_added o g)) ((g x ∷ []) ∷ []))
alone_adds None P g s h = absurd h
alone_adds (Some x) P g s h = refl

constructors_kept : (t : TaskTree) (S : List Tree) (ps qs : List (List Tree)) (a b : Tree) → Constructors t (λ c d. c ≢ d) a b (λ as' bs. ps ≡ qs) → Constructors t (λ c d. c ≢ d) a b (λ as' bs. Adds S [] [])
constructors_kept t S ps qs a b h = some_map (application_parts a) _ _ (λ p y. some_map (application_parts b) _ _ (λ q z. (z.0, z.1, z.2, refl)) y) h

-- the trees and the types of a rule are the same, wherever its places are counted
trees_after : (n : ℕ) (s : List Tree) (w : Word) → rule_trees (rule_past n (word_rule s w)) ≡ rule_trees (word_rule s w)
trees_after n s (word.NotTrue i) = refl
trees_after n s (word.Clash i j) = refl
trees_after n s (word.Holding And i) = refl
trees_after n s (word.Holding AndThen i) = refl
trees_after n s (word.Holding Or i) = refl
trees_after n s (word.Holding OrElse i) = refl
trees_after n s (word.Holding Imp i) = refl
trees_after n s (word.Holding Iff i) = refl
trees_after n s (word.Failing And i) = refl
trees_after n s (word.Failing AndThen i) = refl
trees_after n s (word.Failing Or i) = refl
trees_after n s (word.Failing OrElse i) = refl
trees_after n s (word.Failing Imp i) = refl
trees_after n s (word.Failing Iff i) = refl
trees_after n s (word.Cut a) = refl
trees_after n s (word.Forall i u) = refl
trees_after n s (word.NotForall i m) = refl
trees_after n s (word.LetDef e) = refl
trees_after n s (word.IfDef e) = refl
trees_after n s (word.MatchDef e) = refl
trees_after n s (word.NotNot i) = refl
trees_after n s (word.Irrefl i) = refl
trees_after n s (word.Exists i m) = refl
trees_after n s (word.NotExists i u) = refl
trees_after n s (word.Replace i j e) = refl
trees_after n s (word.False i) = refl
trees_after n s (word.Refl e) = refl
trees_after n s (word.Distinct i) = refl
trees_after n s (word.Project e) = refl

types_after : (n : ℕ) (s : List Tree) (w : Word) → rule_types (rule_past n (word_rule s w)) ≡ rule_types (word_rule s w)
types_after n s (word.NotTrue i) = refl
types_after n s (word.Clash i j) = refl
types_after n s (word.Holding And i) = refl
types_after n s (word.Holding AndThen i) = refl
types_after n s (word.Holding Or i) = refl
types_after n s (word.Holding OrElse i) = refl
types_after n s (word.Holding Imp i) = refl
types_after n s (word.Holding Iff i) = refl
types_after n s (word.Failing And i) = refl
types_after n s (word.Failing AndThen i) = refl
types_after n s (word.Failing Or i) = refl
types_after n s (word.Failing OrElse i) = refl
types_after n s (word.Failing Imp i) = refl
types_after n s (word.Failing Iff i) = refl
types_after n s (word.Cut a) = refl
types_after n s (word.Forall i u) = refl
types_after n s (word.NotForall i m) = refl
types_after n s (word.LetDef e) = refl
types_after n s (word.IfDef e) = refl
types_after n s (word.MatchDef e) = refl
types_after n s (word.NotNot i) = refl
types_after n s (word.Irrefl i) = refl
types_after n s (word.Exists i m) = refl
types_after n s (word.NotExists i u) = refl
types_after n s (word.Replace i j e) = refl
types_after n s (word.False i) = refl
types_after n s (word.Refl e) = refl
types_after n s (word.Distinct i) = refl
types_after n s (word.Project e) = refl

module _ (t : TaskTree) (F T : List Tree) (n : ℕ) (len : length F ≡ n) where
  abbrev S : List Tree
  S = F ++ T

  at : (i : ℕ) → slice_get S (n + i) ≡ slice_get T i
  at i = subst (λ (m : ℕ). slice_get S (m + i) ≡ slice_get T i) len (following F T i)

  replace_adds : (o : Option (Tree × Tree)) (P : Tree × Tree → Type 0) (i j : ℕ) (e : Tree)
      → IsSomeAnd o (λ p. IsSomeAnd (type_of p.0) (λ ty. IsTemplate t ty e) × (slice_get T j ≡ Some (inst e p.0)) × P p)
      → IsSomeAnd o (λ p. IsSomeAnd (type_of p.0) (λ ty. IsTemplate t ty e) × (slice_get S (n + j) ≡ Some (inst e p.0)) × Adds S (sequents_under S (one_added o (λ q. inst e q.1))) ((inst e p.1 ∷ []) ∷ []))
  replace_adds None P i j e h = absurd h
  replace_adds (Some p) P i j e h = (h.0, at j ∙ h.1, refl)

  pub row_after : (s : List Tree) (w : Word) → IsMaker w → IsOfTail t T (word_rule s w) → IsNewTo F (word_rule s w) → IsRuleRow t S (rule_past n (word_rule s w)) (sequents_under S (adds T (word_rule s w)))
  row_after s (word.NotTrue i) o h new = (at i ∙ h.row.0, refl)
  row_after s (word.Clash i j) o h new =
      let r = some_map (negated (slice_get T j)) _ (λ a. (slice_get S (n + i) ≡ Some a) × Adds S [] []) (λ a z. (at i ∙ z.0, refl)) h.row in
      subst (λ (z : Option Tree). IsSomeAnd (negated z) (λ a. (slice_get S (n + i) ≡ Some a) × Adds S [] [])) (sym (at j)) r
  row_after s (word.Holding op i) o h new = absurd o
  row_after s (word.Failing op i) o h new = absurd o
  row_after s (word.Cut a) o h new = absurd o
  row_after s (word.Forall i u) o h new =
      let r = found_adds (universal (slice_get T i)) _ (λ p. type_of (tree_at s u) ≡ Some p.0) (λ p. inst p.1 (tree_at s u)) S (λ p z. z.0) h.row in
      subst (λ (z : Option Tree). AtTerm (universal z) S (tree_at s u) true (sequents_under S (adds T (RForall i (tree_at s u))))) (sym (at i)) r
  row_after s (word.NotForall i m) o h new =
      let r = found_adds (universal (negated (slice_get T i))) _ (λ p. IsNew m S) (λ p. neg (inst p.1 (Param m p.0))) S (λ p z. All-append (λ a. has_param a m ≡ false) F T new z.0) h.row in
      subst (λ (z : Option Tree). AtNew (universal (negated z)) S m false (sequents_under S (adds T (RNotForall i m)))) (sym (at i)) r
  row_after s (word.LetDef e) o h new = alone_adds (let_of (tree_at s e)) _ (λ p. alike (tree_at s e) (inst p.1 p.0)) S h.row
  row_after s (word.IfDef e) o h new = alone_adds (if_of (tree_at s e)) _ (λ p. by_cases p.0 (tree_at s e) p.1 p.2) S h.row
  row_after s (word.MatchDef e) o h new = absurd o
  row_after s (word.NotNot i) o h new =
      let r = alone_adds (negated (negated (slice_get T i))) _ (λ a. a) S h.row in
      subst (λ (z : Option Tree). IsSomeAnd (negated (negated z)) (λ a. Adds S (sequents_under S (adds T (RNotNot i))) ((a ∷ []) ∷ []))) (sym (at i)) r
  row_after s (word.Irrefl i) o h new =
      let r = some_map (equation_sides (negated (slice_get T i))) _ (λ e. (e.0 ≡ e.1) × Adds S [] []) (λ e z. (z.0, refl)) h.row in
      subst (λ (z : Option Tree). IsSomeAnd (equation_sides (negated z)) (λ e. (e.0 ≡ e.1) × Adds S [] [])) (sym (at i)) r
  row_after s (word.Exists i m) o h new =
      let r = found_adds (existential (slice_get T i)) _ (λ p. IsNew m S) (λ p. inst p.1 (Param m p.0)) S (λ p z. All-append (λ a. has_param a m ≡ false) F T new z.0) h.row in
      subst (λ (z : Option Tree). AtNew (existential z) S m true (sequents_under S (adds T (RExists i m)))) (sym (at i)) r
  row_after s (word.NotExists i u) o h new =
      let r = found_adds (existential (negated (slice_get T i))) _ (λ p. type_of (tree_at s u) ≡ Some p.0) (λ p. neg (inst p.1 (tree_at s u))) S (λ p z. z.0) h.row in
      subst (λ (z : Option Tree). AtTerm (existential (negated z)) S (tree_at s u) false (sequents_under S (adds T (RNotExists i (tree_at s u))))) (sym (at i)) r
  row_after s (word.Replace i j e) o h new =
      let E = tree_at s e in
      let r = replace_adds (equation_sides (slice_get T i)) _ i j E h.row in
      subst (λ (z : Option Tree). IsSomeAnd (equation_sides z) (λ p. IsSomeAnd (type_of p.0) (λ ty. IsTemplate t ty E) × (slice_get S (n + j) ≡ Some (inst E p.0)) × Adds S (sequents_under S (adds T (RReplace i j E))) ((inst E p.1 ∷ []) ∷ []))) (sym (at i)) r
  row_after s (word.False i) o h new = (at i ∙ h.row.0, refl)
  row_after s (word.Refl e) o h new = (h.row.0, refl)
  row_after s (word.Distinct i) o h new =
      let r = some_map (equation_sides (slice_get T i)) _ (λ e. Constructors t (λ c d. c ≢ d) e.0 e.1 (λ as' bs. Adds S [] [])) (λ e z. constructors_kept t S _ _ e.0 e.1 z) h.row in
      subst (λ (z : Option Tree). IsSomeAnd (equation_sides z) (λ e. Constructors t (λ c d. c ≢ d) e.0 e.1 (λ as' bs. Adds S [] []))) (sym (at i)) r
  row_after s (word.Project e) o h new = absurd o

  -- the rule's terms are named the same
  pub names_after : (s : List Tree) (w : Word) → NamesOwn t (word_rule s w) → NamesOwn t (rule_past n (word_rule s w))
  names_after s w h = record { trees = subst (Each (IsGroundExpression t)) (sym (trees_after n s w)) h.trees; types = subst (All (IsTypeOver t 0)) (sym (types_after n s w)) h.types }

  pub tail_rule : (s : List Tree) (w : Word) → IsMaker w → IsOfTail t T (word_rule s w) → IsNewTo F (word_rule s w) → IsByRule t S (rule_past n (word_rule s w)) (adds T (word_rule s w))
  tail_rule s w o h new = record { names = names_after s w h.names; row = row_after s w o h new }
