-- A text has one reading.
use Rattle.std.proofs.Common.{◌≡◌, ℕ, List, [], ◌∷◌, ◌++◌, refl, sym, subst}
use Rattle.std.proofs.lemmas.List.{append_assoc, append-nil}
use Rattle.tokens_why.specs.declared.token.Token.{Token}
use Rattle.tokens_why.specs.Tokens.{Reads, AreTokens}
use Rattle.tokens_why.specs.Tokens as text
use Rattle.tokens_why.proofs.TurnLemmas.{Turn, first, turn, Reading, stopped}

pub reading_from : (bytes : List ℕ) (at : ℕ) (stop : text.Stop) (found ts : List Token) → Turn bytes at found → Reads bytes stop at ts → Reading bytes stop (found ++ ts)
reading_from bytes at stop found [] h r = subst (Reading bytes stop) (sym (append-nil found)) (stopped bytes at stop found r h)
reading_from bytes at stop found (t ∷ ts) h r =
    let more : Turn bytes t.end (found ++ t ∷ []) = turn bytes at t found (found ++ t ∷ []) (r.0, r.1) r.2 refl h in
    subst (Reading bytes stop) (append_assoc found (t ∷ []) ts) (reading_from bytes t.end stop (found ++ t ∷ []) ts more r.3)

pub one_tokens : (bytes : List ℕ) (ts us : List Token) → AreTokens bytes ts → AreTokens bytes us → ts ≡ us
one_tokens bytes ts us a b = sym ((reading_from bytes 0 text.whole [] ts (first bytes) a).only text.whole us b).1
