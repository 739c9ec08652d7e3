-- The names that most proofs cite, passed on from one place. Declares nothing.
pub use Rattle.std.proofs.Common.{List, Ok, suc, take, Option, None, if◌then◌else◌, inr, nat_eq, length-drop, append-nil, [], Bool, ◌<◌, false, zero, refl, get_or, ◌++◌, subst, ℕ, length, inl, nat_lt, ◌+◌, slice_range, Err, ◌∷◌, arith, append_assoc, ◌↔◌, Result, ◌-◌, ap, ◌⊎◌, ◌≤◌, true, sym, ◌&&◌, ◌||◌, drop, ◌≢◌, ◌≡◌, ◌*◌, Some, ◌∙◌}
pub use Rattle.std.proofs.lemmas.Bool.{eqb-true}
pub use Rattle.std.proofs.lemmas.Bool.Decides.{nat_tests}
pub use Rattle.std.proofs.lemmas.List.{get_or-drop, drop_more, take_all, drop-drop}
pub use Rattle.std.specs.List.{prefix_len, list_all}
pub use Rattle.tokens_why.specs.Bytes.{is_word_byte, is_operator_byte, is_letter, is_digit, is_lower}
pub use Rattle.tokens_why.specs.Gap.{gap_piece, gap, has_star_name, one_more, has_pair, byte_in, next, at_from, comment}
pub use Rattle.tokens_why.specs.Literal.{is_based, is_digit_or_line, digits_value, is_digit_of, radix_of, greatest, is_literal, digit_value}
pub use Rattle.tokens_why.specs.Longest.{HasNone, IsLongestToken, IsLongestTokenAt, based_radix}
pub use Rattle.tokens_why.specs.Strings.{kind_of, marks_kind, run_kind, only, placed_kind, lead_of, mark_kind, is_variable_name, word_kind, string_kind_by}
pub use Rattle.tokens_why.specs.Terminals.{terminal_of}
pub use Rattle.tokens_why.specs.Tokens.{LexicalAt, AreTokens, big, TokenBegins, LiteralFits, Stops, whole, Exceeds, IsToken, Reads, NoneBegins, lexical, Stop, BigLiteralAt}
pub use Rattle.tokens_why.specs.declared.token.Token.{Token}
pub use Rattle.tokens_why.specs.declared.token.TokenKind.{TokenKind}
pub use Rattle.word_tables.specs.Words.{place_in_words, is_same_word}
