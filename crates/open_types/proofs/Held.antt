-- What is typed is held: the entries of a signature.
use Rattle.std.proofs.Common.{List, All, IfSome, Option, Some, None}
use Rattle.std.proofs.lemmas.List.Elements.{All-weaker}
use Rattle.trees.specs.Tree.{Tree}
use Rattle.trees.specs.Node.{Holds}
use Rattle.trees.specs.declared.TermId.{TermId}
use Rattle.tasks.specs.declared.signature.SymbolInfo.{SymbolInfo}
use Rattle.tasks.specs.Meaning.{SymbolHeld}
use Rattle.open_types.specs.Drafts.{HoldsType, SymbolTyped}

pub result_held : (s : List Tree) (ty : Option TermId) → IfSome ty (HoldsType s) → IfSome ty (Holds s)
result_held s None h = tt
result_held s (Some id) h = h.held

pub symbol_held : (s : List Tree) (i : SymbolInfo) → SymbolTyped s i → SymbolHeld s i
symbol_held s i h = record {
  args = All-weaker (HoldsType s) (Holds s) (λ id k. k.held) i.args h.args;
  result = result_held s i.result h.result;
}

pub symbols_held : (s : List Tree) (is : List SymbolInfo) → All (SymbolTyped s) is → All (SymbolHeld s) is
symbols_held s is h = All-weaker (SymbolTyped s) (SymbolHeld s) (symbol_held s) is h
