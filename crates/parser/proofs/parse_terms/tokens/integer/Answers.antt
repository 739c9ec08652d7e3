use Rattle.parser.proofs.parse_terms.Cited.{ℕ, ◌≡◌, ◌≤◌, ◌∷◌, [], pos, to_z, of_z, sym, subst, ap, ◌∙◌, arith, integer_word, greatest, literal_value, value_there}
use Rattle.std.specs.Int.{w128}
use Rattle.std.proofs.lemmas.Int.{to_z-of_z, fits_signed_from_abs}
use Rattle.parser.proofs.parse_terms.tokens.integer.Goals as goal

pub bytes-requires : goal.bytes-requires
bytes-requires c = c.args.source.texts c.args.i c.token-found.result c.token-found.ensures

pub unreachable-requires : goal.unreachable-requires
unreachable-requires c = c.in-None.ensures (subst (λ b. literal_value b ≤ greatest) (sym c.bytes.ensures) (value_there c.args.source c.args.i c.token-found.result c.requires.within c.token-found.ensures c.requires.integer).0)

kept : (n : ℕ) → n ≤ greatest → to_z w128 (of_z w128 (pos n)) ≡ pos n
kept n h = to_z-of_z w128 (pos n) (fits_signed_from_abs w128 (pos n) (omega arith))

pub returns : goal.returns
returns c = let h = c.in-Some.ensures in let e = (value_there c.args.source c.args.i c.token-found.result c.requires.within c.token-found.ensures c.requires.integer).1 in
    ap (λ z. integer_word (to_z w128 (of_z w128 z))) h.1 ∙ ap integer_word (kept (literal_value c.bytes.result.now) h.0) ∙ ap (λ b. literal_value b ∷ []) c.bytes.ensures ∙ e
