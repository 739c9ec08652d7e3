-- The constructors of tuples by width, gathered in order.
use Rattle.std.proofs.Common.{◌≡◌, ℕ, ◌+◌, ◌<◌, ◌==◌, Bool, true, false, cond, List, [], ◌∷◌, ◌++◌, drop, drop-cons, length, get_or, suc, Option, Some, None, refl, sym, ap, subst, ◌∙◌, add-one}
use Rattle.std.specs.Prelude.{◌&&◌}
use Rattle.std.specs.Str.{bytes_eq}
use Rattle.std.proofs.lemmas.Bool.{eqb-true}
use Rattle.trees.specs.Tree.{Tree}
use Rattle.tasks.specs.declared.signature.SymbolInfo.{SymbolInfo}
use Rattle.tasks.specs.Task.{SymbolTree}
use Rattle.tasks.specs.Meaning.{symbol_at, symbols_at}
use Rattle.tasks.specs.Vocabulary.{is_constructor_kind}
use Rattle.tasks.specs.Entries.{builtin, is_tuple, tuple_from}
use Rattle.theory_states.specs.goal_tasks.Tuples.{symbol_of_width}
use Rattle.theory_states.specs.declared.goal_tasks.tuples.TupleName.{TupleName}
use Rattle.tasks.proofs.outside.Bools.{and_true}

-- the first of two answers
abbrev pub or_number : Option ℕ → Option ℕ → Option ℕ
or_number None b = b
or_number (Some k) b = Some k

from_here : (w k : ℕ) (e : SymbolTree) (es : List SymbolTree) (b : Bool) → is_tuple w e ≡ b → tuple_from w k (e ∷ es) ≡ cond b (Some k) (tuple_from w (suc k) es)
from_here w k e es b h = rw h refl

module _ (s : List Tree) (w i : ℕ) (xs : List SymbolInfo) (d : SymbolInfo) (l : i < length xs) where
  split : tuple_from w i (symbols_at s (drop i xs)) ≡ tuple_from w i (symbol_at s (get_or xs i d) ∷ symbols_at s (drop (suc i) xs))
  split = ap (λ (ys : List SymbolInfo). tuple_from w i (symbols_at s ys)) (drop-cons xs i d l)

-- ---- constructors by width, gathered in order
-- an entry is a constructor of tuples of the width that its type variables tell alone
last_false : (a b c : Bool) → (a && (b && (false && c))) ≡ false
last_false true true c = refl
last_false true false c = refl
last_false false b c = refl

own_width : (n : ℕ) (e : SymbolTree) (b : Bool) → (e.vars == n) ≡ b → is_tuple n e ≡ (b && is_tuple e.vars e)
own_width n e true q = subst (λ (k : ℕ). is_tuple k e ≡ is_tuple e.vars e) (eqb-true e.vars n q) refl
own_width n e false q = ap (λ (b : Bool). is_constructor_kind e.kind && (bytes_eq e.theory builtin && (b && length e.args == n))) q ∙ last_false (is_constructor_kind e.kind) (bytes_eq e.theory builtin) (length e.args == n)

and_false : (b : Bool) → (b && false) ≡ false
and_false true = refl
and_false false = refl

abbrev found_if : Bool → ℕ → Option ℕ
found_if b k = cond b (Some k) None

found_first : (b : Bool) (k : ℕ) (m m' f : Option ℕ) → m ≡ or_number m' f → cond b (Some k) m ≡ or_number (cond b (Some k) m') f
found_first true k m m' f h = refl
found_first false k m m' f h = h

among_last : (ts : List TupleName) (t : TupleName) (n : ℕ) → symbol_of_width (ts ++ t ∷ []) n ≡ or_number (symbol_of_width ts n) (found_if (t.width == n) t.symbol)
among_last [] t n = refl
among_last (u ∷ ts) t n = found_first (u.width == n) u.symbol (symbol_of_width (ts ++ t ∷ []) n) (symbol_of_width ts n) (found_if (t.width == n) t.symbol) (among_last ts t n)

or_either : (a : Option ℕ) (b : Bool) (k : ℕ) (m : Option ℕ) → or_number (or_number a (found_if b k)) m ≡ or_number a (cond b (Some k) m)
or_either None true k m = refl
or_either None false k m = refl
or_either (Some j) b k m = refl

module _ (s : List Tree) (i : ℕ) (xs : List SymbolInfo) (d : SymbolInfo) (l : i < length xs) (ts : List TupleName) (n : ℕ) where
  abbrev here : SymbolTree
  here = symbol_at s (get_or xs i d)

  abbrev rest : Option ℕ
  rest = tuple_from n (i + 1) (symbols_at s (drop (i + 1) xs))

  next : (b : Bool) → is_tuple n here ≡ b → tuple_from n i (symbols_at s (drop i xs)) ≡ cond b (Some i) rest
  next b h = rw add-one (split s n i xs d l ∙ from_here n i here (symbols_at s (drop (suc i) xs)) b h)

  pub names_more : is_tuple here.vars here ≡ true → or_number (symbol_of_width (ts ++ record { width = here.vars; symbol = i } ∷ []) n) rest ≡ or_number (symbol_of_width ts n) (tuple_from n i (symbols_at s (drop i xs)))
  names_more h =
      let b : is_tuple n here ≡ (here.vars == n) = own_width n here (here.vars == n) refl ∙ (ap (λ (x : Bool). (here.vars == n) && x) h ∙ and_true (here.vars == n)) in
      ap (λ (m : Option ℕ). or_number m rest) (among_last ts (record { width = here.vars; symbol = i }) n) ∙ (or_either (symbol_of_width ts n) (here.vars == n) i rest ∙ ap (or_number (symbol_of_width ts n)) (sym (next (here.vars == n) b)))

  pub names_same : is_tuple here.vars here ≡ false → or_number (symbol_of_width ts n) rest ≡ or_number (symbol_of_width ts n) (tuple_from n i (symbols_at s (drop i xs)))
  names_same h =
      let b : is_tuple n here ≡ false = own_width n here (here.vars == n) refl ∙ (ap (λ (x : Bool). (here.vars == n) && x) h ∙ and_false (here.vars == n)) in
      ap (or_number (symbol_of_width ts n)) (sym (next false b))
