-- What a further name and further entries leave.
use Rattle.std.proofs.Common.{◌≡◌, ℕ, ◌+◌, true, List, length, Option, refl, sym, ap, ◌∙◌, length-append}
use Rattle.std.proofs.Math.ListN.{length-map}
use Rattle.tasks.specs.trees.Tree.{Tree}
use Rattle.tasks.specs.Task.{SymbolTree}
use Rattle.tasks.specs.Meaning.{symbol_at, symbols_at}
use Rattle.tasks.specs.declared.signature.Signature.{Signature}
use Rattle.scopes.specs.declared.Table.TheVariants.{Propositions}
use Rattle.scopes.specs.Names.{TypeName, ScopeNames, with_name}
use Rattle.surface.specs.Lexeme.{Word}
use Rattle.scopes.proofs.Mapped.{named_with}
use Rattle.name_resolution.specs.Naming.{type_tree_at, meaning_at, scope_at, type_named, symbol_named}
use Rattle.name_resolution.specs.Where.{MeaningTree, NamesTree}
use Rattle.elab_groups.specs.parts.Entries.{IsExtended, tuple_in}
use Rattle.elab_groups.specs.parts.Outcomes.{over}
use Rattle.elab_groups.proofs.parts.Scopes.{types_past, symbols_past}

-- what a proposition's name leaves
over_past : (symbols : List SymbolTree) (x : Word) (t : MeaningTree) (names : NamesTree) (vars : List Word) → over symbols (with_name Propositions x t true names) vars ≡ over symbols names vars
over_past symbols x t names vars =
    let types : type_named (with_name Propositions x t true names) ≡ type_named names = λ i. λ qs y. types_past Propositions refl x t true names refl qs y i in
    let heard : symbol_named (with_name Propositions x t true names) ≡ symbol_named names = λ i. λ qs y. symbols_past Propositions refl x t true names refl qs y i in
    ap (λ (f : List Word → Word → Option MeaningTree). record { symbols = symbols; types = f; names = symbol_named (with_name Propositions x t true names); tuples = tuple_in symbols; vars = vars }) types
    ∙ ap (λ (f : List Word → Word → Option ℕ). record { symbols = symbols; types = type_named names; names = f; tuples = tuple_in symbols; vars = vars }) heard

pub over_kept : (s : List Tree) (symbols : List SymbolTree) (x : Word) (t : TypeName) (names : ScopeNames) (vars : List Word) → over symbols (scope_at s (with_name Propositions x t true names)) vars ≡ over symbols (scope_at s names) vars
over_kept s symbols x t names vars =
    ap (λ (ns : NamesTree). over symbols ns vars) (named_with (type_tree_at s) Propositions x t true names) ∙ over_past symbols x (meaning_at s t) (scope_at s names) vars

pub length_extended : {s s' : List Tree} {a b : Signature} (more : List SymbolTree) → IsExtended s a s' b more → length b.symbols ≡ length a.symbols + length more
length_extended {s} {s'} {a} {b} more h =
    sym (length-map b.symbols (symbol_at s')) ∙ ap length h.symbols ∙ length-append (symbols_at s a.symbols) more ∙ ap (λ (n : ℕ). n + length more) (length-map a.symbols (symbol_at s))
