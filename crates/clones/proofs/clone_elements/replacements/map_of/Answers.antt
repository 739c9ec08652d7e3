use Rattle.std.proofs.Common.{◌≡◌, ap, ◌∙◌}
use Rattle.clones.specs.Mapped.{Map}
use Rattle.clones.specs.Meaning.{map_at}
use Rattle.clones.specs.clone_elements.Replacements.{same_map, with_numbers, with_symbols, with_mapped_types}
use Rattle.clones.specs.clone_elements.Meaning.{type_pairs_at, symbol_pairs}
use Rattle.clones.proofs.clone_elements.replacements.map_of.Goals as goal
use Rattle.tasks.proofs.outside.Passed.{no_value}

pub fill_map-requires : goal.fill_map-requires
fill_map-requires c = c.requires

pub returns-clause-is : goal.returns-clause-is
returns-clause-is c =
    let s = c.args.store.now in
    let ts = type_pairs_at s c.args.types.now in
    let ps = symbol_pairs c.args.symbols.now in
    let none : map_at s c.new-morphism.result ≡ same_map = λ i. record { symbols = λ k. c.new-morphism.ensures.symbols s k i; types = λ k. c.new-morphism.ensures.types s k i } in
    c.in_ok-fill_map.ensures.is ∙ ap (λ (m : Map). with_mapped_types ts (with_symbols ps (with_numbers c.args.first c.args.others.now m))) none

pub returns-clause-held : goal.returns-clause-held
returns-clause-held c = c.in_ok-fill_map.ensures.held (c.new-morphism.ensures.held c.args.store.now)

pub returns-in_err-fill_map-clause-is : goal.returns-in_err-fill_map-clause-is
returns-in_err-fill_map-clause-is c = no_value _ _ c.from_residual.result c.from_residual.ensures.1

pub returns-in_err-fill_map-clause-held : goal.returns-in_err-fill_map-clause-held
returns-in_err-fill_map-clause-held c = no_value _ _ c.from_residual.result c.from_residual.ensures.1
