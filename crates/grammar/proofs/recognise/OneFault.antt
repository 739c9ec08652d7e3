-- The tokens of a text that are no source go wrong at one place.
use Rattle.grammar.proofs.recognise.Common.{◌≡◌, ◌<◌, ◌+◌, ◌-◌, ◌++◌, ◌∷◌, [], ◌∙◌, ℕ, List, true, take, drop, sym, ap, subst, arith, append_assoc, Token, accepts, Lexeme, rest, terminals, write_file, IsLevelFile, PlacedFile, Begins, IsLeastFault, whole_file, tree_accepted, taken_begins, proper_rest, proper_take, terminals_append}
use Rattle.std.proofs.Math.Seq.{take-add}
use Rattle.grammar.specs.declared.symbols.Symbol.TheVariants as s
use Rattle.grammar.proofs.Laws.{accepted_begins}

module _ (text : List ℕ) (ts : List Token) where
  abbrev tokens : List Lexeme
  tokens = rest text ts 0

  -- a source begins with fewer tokens too
  begins_front : (m k : ℕ) → Begins IsLevelFile write_file (take (m + k) tokens) → Begins IsLevelFile write_file (take m tokens)
  begins_front m k b =
      let more : List Lexeme = take k (drop m tokens) ++ b.following in
      let is : write_file b.tree ≡ take m tokens ++ more = b.of.tokens ∙ ap (λ v. v ++ b.following) (take-add m k tokens) ∙ append_assoc (take m tokens) (take k (drop m tokens)) b.following in
      let whole : accepts (s.File ∷ []) (terminals (take m tokens) ++ terminals more) ≡ true = ap (accepts (s.File ∷ [])) (sym (ap terminals is ∙ terminals_append (take m tokens) more)) ∙ tree_accepted s.File 0 IsLevelFile (PlacedFile 0) write_file (whole_file 0) b.tree b.of.right in
      let r = accepted_begins (s.File ∷ []) (terminals (take m tokens)) (terminals more) whole in
      taken_begins s.File 0 IsLevelFile (PlacedFile 0) write_file (whole_file 0) (take m tokens) r.0 (proper_take m tokens (proper_rest text ts 0)) r.1

  least_below : (i j : ℕ) → IsLeastFault IsLevelFile write_file tokens i → IsLeastFault IsLevelFile write_file tokens j → i < j → ⊥
  least_below i j a b h =
      let k : ℕ = j - (i + 1) in
      let is : j ≡ i + 1 + k = omega arith in
      let high = b.high in
      a.stops (omega arith) (begins_front (i + 1) k (subst (λ v. Begins IsLevelFile write_file (take v tokens)) is b.begins))

  pub one_least : (i j : ℕ) → IsLeastFault IsLevelFile write_file tokens i → IsLeastFault IsLevelFile write_file tokens j → i ≡ j
  one_least i j a b =
      let above : (i < j → ⊥) = least_below i j a b in
      let below : (j < i → ⊥) = least_below j i b a in
      omega arith
