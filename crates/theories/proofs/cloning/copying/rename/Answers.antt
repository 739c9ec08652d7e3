use Rattle.std.proofs.Common.{◌≡◌, ℕ, List, length, sym, ap, ◌∙◌}
use Rattle.std.proofs.Math.ListN.{length-map}
use Rattle.tasks.specs.trees.Tree.{Tree}
use Rattle.tasks.specs.Meaning.{symbol_at, symbols_at}
use Rattle.clones.specs.clone_elements.Replacements.{map_of}
use Rattle.clones.specs.clone_elements.Origins.{origin_at}
use Rattle.clones.specs.clone_elements.Meaning.{type_pairs_at, symbol_pairs}
use Rattle.theories.specs.cloning.ReadElements.{kept_by}
use Rattle.theories.proofs.cloning.copying.rename.Goals as goal
use Rattle.tasks.proofs.outside.Passed.{no_value}

pub returns : goal.returns
returns c =
    let s = c.args.store.now in
    let is = c.args.sig.now.symbols in
    let symbols = symbols_at s is in
    let p = c.args.replacement.now in
    let types = type_pairs_at s p.types.items in
    let pairs = symbol_pairs p.symbols.items in
    let first = c.len-first.result in
    let all : c.in_ok-symbols.symbols.items ≡ kept_by (origin_at s c.args.source.now) p = c.in_ok-symbols.ensures s in
    let ks : c.as_slice-3.result.now ≡ kept_by (origin_at s c.args.source.now) p = c.as_slice-3.ensures.value ∙ all in
    let n : first ≡ length symbols = c.len-first.ensures ∙ sym (length-map is (symbol_at s)) in
    record {
      is = c.in_ok-morphism.ensures.is
          ∙ (ap (λ (z : List (ℕ × Tree)). map_of z (symbol_pairs c.as_slice-2.result.now) first c.as_slice-3.result.now) (ap (type_pairs_at s) c.as_slice.ensures.value)
          ∙ (ap (λ (z : List (ℕ × ℕ)). map_of types z first c.as_slice-3.result.now) (ap symbol_pairs c.as_slice-2.ensures.value)
          ∙ (ap (λ (k : ℕ). map_of types pairs k c.as_slice-3.result.now) n
          ∙ ap (map_of types pairs (length symbols)) ks)));
      held = c.in_ok-morphism.ensures.held;
      symbols = all;
    }

pub returns-in_err-symbols : goal.returns-in_err-symbols
returns-in_err-symbols c = no_value _ _ c.from_residual.result c.from_residual.ensures.1

pub returns-in_err-morphism : goal.returns-in_err-morphism
returns-in_err-morphism c = no_value _ _ c.from_residual-in_err-morphism.result c.from_residual-in_err-morphism.ensures.1
