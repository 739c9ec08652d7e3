-- What the words that a `match` doesn't name make.
use Rattle.std.proofs.Common.{◌≡◌, ℕ, ◌<◌, ◌≤◌, List, [], ◌∷◌, length, Option, None, refl, arith}
use Rattle.std.specs.Borrow.{Bor}
use Rattle.trees.specs.Tree.{Tree, One, Two, HEq, HNot, HParam}
use Rattle.tasks.specs.Task.{TaskTree}
use Rattle.name_tables.specs.declared.name_entries.names.NameEntry.{NameEntry}
use Rattle.step_lines.specs.declared.tree_lines.kinds.NodeWord.{NodeWord}
use Rattle.step_lines.specs.declared.tree_lines.kinds.NodeWord.TheVariants as word
use Rattle.step_lines.specs.tree_lines.Words.{LineWord, texts, at_number, one, two, three}
use Rattle.step_lines.specs.tree_lines.Lines.{Earlier, one_tree, two_tree, variable_tree, pattern_by, plain_by, expression_by}

abbrev pub IsNot : NodeWord → NodeWord → Type 0
IsNot w v = w ≡ v → ⊥

pub one_other : (w : NodeWord) → IsNot w word.Any → IsNot w word.Var → IsNot w word.As → (a : Tree) → One HNot a ≡ one_tree w a
one_other word.Any n0 n1 n2 a = absurd (n0 refl)
one_other word.Var n0 n1 n2 a = absurd (n1 refl)
one_other word.As n0 n1 n2 a = absurd (n2 refl)
one_other _ n0 n1 n2 a = refl

pub two_other : (w : NodeWord) → IsNot w word.And → IsNot w word.AndThen → IsNot w word.Or → IsNot w word.OrElse → IsNot w word.Imp → IsNot w word.Iff → IsNot w word.Forall → IsNot w word.Exists → IsNot w word.Let → (a b : Tree) → Two HEq a b ≡ two_tree w a b
two_other word.And n0 n1 n2 n3 n4 n5 n6 n7 n8 a b = absurd (n0 refl)
two_other word.AndThen n0 n1 n2 n3 n4 n5 n6 n7 n8 a b = absurd (n1 refl)
two_other word.Or n0 n1 n2 n3 n4 n5 n6 n7 n8 a b = absurd (n2 refl)
two_other word.OrElse n0 n1 n2 n3 n4 n5 n6 n7 n8 a b = absurd (n3 refl)
two_other word.Imp n0 n1 n2 n3 n4 n5 n6 n7 n8 a b = absurd (n4 refl)
two_other word.Iff n0 n1 n2 n3 n4 n5 n6 n7 n8 a b = absurd (n5 refl)
two_other word.Forall n0 n1 n2 n3 n4 n5 n6 n7 n8 a b = absurd (n6 refl)
two_other word.Exists n0 n1 n2 n3 n4 n5 n6 n7 n8 a b = absurd (n7 refl)
two_other word.Let n0 n1 n2 n3 n4 n5 n6 n7 n8 a b = absurd (n8 refl)
two_other _ n0 n1 n2 n3 n4 n5 n6 n7 n8 a b = refl

pub variable_other : (w : NodeWord) → IsNot w word.Bound → (n : ℕ) (ty : Tree) → One (HParam n) ty ≡ variable_tree w n ty
variable_other word.Bound n0 n ty = absurd (n0 refl)
variable_other _ n0 n ty = refl

module _ (t : TaskTree) (names : List NameEntry) (r : Earlier) where
  pub pattern_other : (w : NodeWord) → IsNot w word.Con → IsNot w word.As → (ws : List LineWord) → one (at_number r.types) (one_tree w) ws ≡ pattern_by t names r w ws
  pattern_other word.Con n0 n1 ws = absurd (n0 refl)
  pattern_other word.As n0 n1 ws = absurd (n1 refl)
  pattern_other _ n0 n1 ws = refl

  pub plain_other : (w : NodeWord) → IsNot w word.Bound → IsNot w word.Param → IsNot w word.Num → IsNot w word.True → IsNot w word.False → IsNot w word.Not → IsNot w word.Forall → IsNot w word.Exists → IsNot w word.If → (ws : List LineWord) → two (at_number r.expressions) (at_number r.expressions) (two_tree w) ws ≡ plain_by t names r w ws
  plain_other word.Bound n0 n1 n2 n3 n4 n5 n6 n7 n8 ws = absurd (n0 refl)
  plain_other word.Param n0 n1 n2 n3 n4 n5 n6 n7 n8 ws = absurd (n1 refl)
  plain_other word.Num n0 n1 n2 n3 n4 n5 n6 n7 n8 ws = absurd (n2 refl)
  plain_other word.True n0 n1 n2 n3 n4 n5 n6 n7 n8 ws = absurd (n3 refl)
  plain_other word.False n0 n1 n2 n3 n4 n5 n6 n7 n8 ws = absurd (n4 refl)
  plain_other word.Not n0 n1 n2 n3 n4 n5 n6 n7 n8 ws = absurd (n5 refl)
  plain_other word.Forall n0 n1 n2 n3 n4 n5 n6 n7 n8 ws = absurd (n6 refl)
  plain_other word.Exists n0 n1 n2 n3 n4 n5 n6 n7 n8 ws = absurd (n7 refl)
  plain_other word.If n0 n1 n2 n3 n4 n5 n6 n7 n8 ws = absurd (n8 refl)
  plain_other _ n0 n1 n2 n3 n4 n5 n6 n7 n8 ws = refl

  pub expression_other : (w : NodeWord) → IsNot w word.Sym → IsNot w word.Match → (ws : List LineWord) → plain_by t names r w ws ≡ expression_by t names r w ws
  expression_other word.Sym n0 n1 ws = absurd (n0 refl)
  expression_other word.Match n0 n1 ws = absurd (n1 refl)
  expression_other _ n0 n1 ws = refl

-- fewer words than a form has, and more
module _ {A B D : Type 0} (p : LineWord → Option A) (q : LineWord → Option B) where
  pub two_short : (f : A → B → D) (ws : List (Bor LineWord)) → length ws < 2 → None ≡ two p q f (texts ws)
  two_short f [] lt = refl
  two_short f (w ∷ []) lt = refl
  two_short f (w ∷ v ∷ ws) lt = absurd (omega arith)

  pub two_long : (f : A → B → D) (ws : List (Bor LineWord)) → 3 ≤ length ws → None ≡ two p q f (texts ws)
  two_long f [] le = refl
  two_long f (w ∷ []) le = refl
  two_long f (w ∷ v ∷ []) le = absurd (omega arith)
  two_long f (w ∷ v ∷ u ∷ ws) le = refl

module _ {A B C D : Type 0} (p : LineWord → Option A) (q : LineWord → Option B) (r : LineWord → Option C) where
  pub three_short : (f : A → B → C → D) (ws : List (Bor LineWord)) → length ws < 3 → None ≡ three p q r f (texts ws)
  three_short f [] lt = refl
  three_short f (w ∷ []) lt = refl
  three_short f (w ∷ v ∷ []) lt = refl
  three_short f (w ∷ v ∷ u ∷ ws) lt = absurd (omega arith)

  pub three_long : (f : A → B → C → D) (ws : List (Bor LineWord)) → 4 ≤ length ws → None ≡ three p q r f (texts ws)
  three_long f [] le = refl
  three_long f (w ∷ []) le = refl
  three_long f (w ∷ v ∷ []) le = refl
  three_long f (w ∷ v ∷ u ∷ []) le = absurd (omega arith)
  three_long f (w ∷ v ∷ u ∷ t ∷ ws) le = refl
