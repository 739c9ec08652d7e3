-- Without its values the machine is the machine of the grammar.
use Rattle.grammar.proofs.reading.Common.{◌≡◌, ℕ, ◌+◌, Bool, true, false, ◌&&◌, cond, List, [], ◌∷◌, map, Option, Some, None, option_map, refl, sym, ap, ◌∙◌, Terminal, Symbol, same, is_tail, is_seal, sealed, on_top, step, may_end, next_stack, run, ends, no_false, Lexeme, ReadingRow, Val, Vals, rows, at_end, blank, by_row, find, values_over, read, with_blank}
use Rattle.grammar.specs.declared.symbols.Symbol.TheVariants as s
use Rattle.grammar.specs.Table as table
use Rattle.grammar.specs.Machine as machine

abbrev pub has : {A : Type 0} → Option A → Bool
has None = false
has (Some v) = true

abbrev pub line_of : {s : Symbol} → ReadingRow s → table.Production
line_of r = record { first = r.first; following = r.symbols }

abbrev pub lines_of : {s : Symbol} → List (ReadingRow s) → List table.Production
lines_of [] = []
lines_of (r ∷ rs) = line_of r ∷ lines_of rs

-- the rows of a symbol are those of the table, and it may be empty where the table says so
pub record Erases (s : Symbol) : Type 0 where
  pub lines : lines_of (rows s) ≡ table.productions s
  pub empty : has (blank s) ≡ table.optional s

find_lines : {s : Symbol} → (rs : List (ReadingRow s)) (x : Terminal) → machine.find_production (lines_of rs) x ≡ option_map (λ r. r.symbols) (find rs x)
find_lines [] x = refl
find_lines (r ∷ rs) x = by_test (same r.first x) (find_lines rs x)
  where
    by_test : (b : Bool) → machine.find_production (lines_of rs) x ≡ option_map (λ q. q.symbols) (find rs x) → cond b (Some r.symbols) (machine.find_production (lines_of rs) x) ≡ option_map (λ q. q.symbols) (cond b (Some r) (find rs x))
    by_test true e = refl
    by_test false e = e

has_blank : (s : Symbol) (k : List Symbol) (o : Option (Val s)) (p : Option (Vals k)) → has (with_blank s k o p) ≡ (has o && has p)
has_blank s k (Some v) (Some vs) = refl
has_blank s k (Some v) None = refl
has_blank s k None p = refl

has_map : {A B : Type 0} → (f : A → B) (o : Option A) → has (option_map f o) ≡ has o
has_map f None = refl
has_map f (Some v) = refl

tail_optional : (top : Symbol) → is_tail top ≡ true → table.optional top ≡ true
tail_optional (s.Tail m u) h = refl
tail_optional _ h = absurd (no_false h)

module _ (erases : (s : Symbol) → Erases s) where
  end_erased : (k : List Symbol) → has (at_end k) ≡ may_end k
  end_erased [] = refl
  end_erased (s ∷ k) = has_blank s k (blank s) (at_end k) ∙ ap (λ b. b && has (at_end k)) (erases s).empty ∙ ap (λ b. table.optional s && b) (end_erased k)

  over_erased : (rest : (k : List Symbol) → Option (Vals k)) (xs : List Terminal) → ((k : List Symbol) → has (rest k) ≡ ends (run k xs)) → (i : ℕ) (x : Lexeme) (b : Bool) (k : List Symbol) → has (values_over rest i x b k) ≡ ends (next_stack (λ j. run j xs) (step b k x.terminal))
  over_erased rest xs f i x b [] = refl
  over_erased rest xs f i x b (s ∷ k) = by_seal (sealed b s) refl (λ c. over_erased rest xs f i x c k)
    where
      by_optional : (v : Bool) → ((c : Bool) → has (values_over rest i x c k) ≡ ends (next_stack (λ j. run j xs) (step c k x.terminal))) → (v && has (values_over rest i x (is_seal s) k)) ≡ ends (next_stack (λ j. run j xs) (on_top None v k (step (is_seal s) k x.terminal)))
      by_optional true g = g (is_seal s)
      by_optional false g = refl

      by_found : (o : Option (ReadingRow s)) → ((c : Bool) → has (values_over rest i x c k) ≡ ends (next_stack (λ j. run j xs) (step c k x.terminal))) → has (by_row s k rest i x.text o (with_blank s k (blank s) (values_over rest i x (is_seal s) k))) ≡ ends (next_stack (λ j. run j xs) (on_top (option_map (λ r. r.symbols) o) (table.optional s) k (step (is_seal s) k x.terminal)))
      by_found (Some r) g = has_map (λ vs. r.act k i x.text vs) (rest (r.following k)) ∙ f (r.following k) ∙ ap (λ l. ends (run l xs)) (r.flat k)
      by_found None g = has_blank s k (blank s) (values_over rest i x (is_seal s) k) ∙ ap (λ v. v && has (values_over rest i x (is_seal s) k)) (erases s).empty ∙ by_optional (table.optional s) g

      takes_is : machine.takes s x.terminal ≡ option_map (λ r. r.symbols) (find (rows s) x.terminal)
      takes_is = ap (λ l. machine.find_production l x.terminal) (sym (erases s).lines) ∙ find_lines (rows s) x.terminal

      by_seal : (v : Bool) → sealed b s ≡ v → ((c : Bool) → has (values_over rest i x c k) ≡ ends (next_stack (λ j. run j xs) (step c k x.terminal))) → has (cond v (with_blank s k (blank s) (values_over rest i x true k)) (by_row s k rest i x.text (find (rows s) x.terminal) (with_blank s k (blank s) (values_over rest i x (is_seal s) k)))) ≡ ends (next_stack (λ j. run j xs) (cond v (step true k x.terminal) (on_top (machine.takes s x.terminal) (table.optional s) k (step (is_seal s) k x.terminal))))
      by_seal true e g = has_blank s k (blank s) (values_over rest i x true k) ∙ ap (λ v. v && has (values_over rest i x true k)) ((erases s).empty ∙ tail_optional s (is_tail_of b e)) ∙ g true
        where
          is_tail_of : (c : Bool) → (c && is_tail s) ≡ true → is_tail s ≡ true
          is_tail_of true h = h
          is_tail_of false h = absurd (no_false h)
      by_seal false e g = by_found (find (rows s) x.terminal) g ∙ ap (λ t. ends (next_stack (λ j. run j xs) (on_top t (table.optional s) k (step (is_seal s) k x.terminal)))) (sym takes_is)

  -- What the grammar accepts is read, and nothing else.
  pub erased : (xs : List Lexeme) (i : ℕ) (k : List Symbol) → has (read xs i false k) ≡ ends (run k (map (λ x. x.terminal) xs))
  erased [] i k = end_erased k
  erased (x ∷ xs) i k = over_erased (λ k'. read xs (i + 1) false k') (map (λ y. y.terminal) xs) (λ k'. erased xs (i + 1) k') i x false k
