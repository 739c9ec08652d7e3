-- The terminals of the tokens of a text.
use Rattle.grammar.proofs.recognise.Common.{◌≡◌, ℕ, List, [], ◌∷◌, map, take, drop, refl, ap, ◌∙◌, Token, terminal_of, lexeme, rest, terminals, terminals_of}
use Rattle.std.specs.List.{take-map}

pub lexemes_terminals : (text : List ℕ) (ts : List Token) → terminals (map (lexeme text) ts) ≡ terminals_of ts
lexemes_terminals text [] = refl
lexemes_terminals text (k ∷ ts) = ap (λ v. terminal_of k.kind ∷ v) (lexemes_terminals text ts)

pub rest_terminals : (text : List ℕ) (ts : List Token) (i : ℕ) → terminals (rest text ts i) ≡ terminals_of (drop i ts)
rest_terminals text ts i = lexemes_terminals text (drop i ts)

pub front_terminals : (text : List ℕ) (ts : List Token) (i n : ℕ) → terminals (take n (rest text ts i)) ≡ terminals_of (take n (drop i ts))
front_terminals text ts i n = ap terminals (take-map (lexeme text) n (drop i ts)) ∙ lexemes_terminals text (take n (drop i ts))
