-- The names that most definitions and contracts cite, passed on from one place. Declares nothing.
pub use Rattle.std.proofs.Common.{◌++◌, ◌&&◌, cond, append_assoc, sym, option_map, ◌+◌, true, Option, nat_le, Bool, ◌∙◌, refl}
pub use Rattle.std.specs.Prelude.{drop, List, ℕ, get_or}
pub use Rattle.tokens_why.specs.Alphabet.{same, operators}
pub use Rattle.grammar.specs.declared.symbols.Symbol.{Symbol}
pub use Rattle.surface.specs.Declarations.{type_element, inductive_decl, scope_decl, algebraic_decl, prop_element, use_decl, no_decls, Inductive, all_axioms, predicate_decl, type_decl, Member, Constructor, more_decls, clone_decl, SyntaxTheory, function_decl, prop_decl, SyntaxDeclaration, Algebraic, constant_decl, Element, SyntaxDeclarations, Clause, ParamGroup, symbol_element}
pub use Rattle.surface.specs.Forms.{fielded_form, star, variable, prefix_op, SyntaxForms, composed, SyntaxForm, called, wild, lower, more_forms, type_variable, aliased, Own, Called, upper, infix_op, no_forms, enclosed}
pub use Rattle.surface.specs.Lexeme.{lexeme_by, mark, Word, at, terminals, name, Lexeme}
pub use Rattle.surface.specs.Trees.{access, fielded_tree, no_branch, binds, cases, TypedBinder, prefixed, apply, Branches, untriggered, none, truth, SyntaxTrigger, binding, negation, binary, SyntaxTrees, group, literal, more, OperatorToken, branch, cast, op, SyntaxTree, triggered, falsity, choice, quantified}
pub use Rattle.surface.specs.declared.declarations.Link.{Link}
pub use Rattle.surface.specs.declared.names.Name.{Name}
pub use Rattle.surface.specs.declared.names.Path.{Path}
pub use Rattle.tokens_why.specs.declared.terminal.Terminal.{Terminal}
