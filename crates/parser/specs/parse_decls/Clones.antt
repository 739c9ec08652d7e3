-- What the words before propositions and symbols say.
use Rattle.parser.specs.parse_decls.Common.{Bool, true, false, Terminal}
use Rattle.tokens_why.specs.declared.terminal.Terminal.TheVariants as t
use Rattle.surface.specs.declared.declarations.PropKind.{PropKind}
use Rattle.surface.specs.declared.declarations.PropKind.TheVariants as pk
use Rattle.surface.specs.declared.declarations.SymbolWord.{SymbolWord}
use Rattle.surface.specs.declared.declarations.SymbolWord.TheVariants as sw

abbrev pub prop_kind : Terminal → PropKind
prop_kind t.AxiomWord = pk.Axiom
prop_kind t.LemmaWord = pk.Lemma
prop_kind _ = pk.Goal

abbrev pub begins_symbol : Terminal → Bool
begins_symbol t.FunctionWord = true
begins_symbol t.ConstantWord = true
begins_symbol t.PredicateWord = true
begins_symbol _ = false

abbrev pub symbol_word_of : Terminal → SymbolWord
symbol_word_of t.FunctionWord = sw.Function
symbol_word_of t.ConstantWord = sw.Constant
symbol_word_of _ = sw.Predicate
