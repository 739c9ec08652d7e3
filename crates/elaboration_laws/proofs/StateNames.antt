-- The name of a symbol stands for a symbol under a morphism.
use Rattle.std.proofs.Common.{◌≡◌, ◌≢◌, ℕ, refl, sym, ◌∙◌}
use Rattle.elab_groups.specs.tasks.declared.signature.SymbolKind.{SymbolKind}
use Rattle.elab_groups.specs.tasks.declared.signature.SymbolKind.TheVariants.{Kind, Predicate}
use Rattle.elab_groups.specs.tasks.Task.{symbol_or, int_symbol}
use Rattle.elab_groups.specs.tasks.Vocabulary.{Vocabulary}
use Rattle.elab_groups.specs.tasks.Typing.{MakesTerms}
use Rattle.clones.specs.Mapped.{Map}
use Rattle.elaboration_laws.specs.Scopes.{IsSymbolNumber}
use Rattle.elaboration_laws.specs.Morphisms.{KindBecomes, HasMappedTypes, IsMorphism}
use Rattle.elaboration_laws.proofs.ClonedNames.{slice_there}
use Rattle.std.proofs.lemmas.Option.{slice_get-get_or as some_at}

terms_kind : (j : SymbolKind) → MakesTerms j → j ≢ Kind
terms_kind Kind t e = t
terms_kind Predicate t e = t
terms_kind _ t e = cc

stays_symbol : (k j : SymbolKind) → KindBecomes k j → k ≢ Kind → j ≢ Kind
stays_symbol Kind j b n e = n refl
stays_symbol Predicate j b n e = let z : Predicate ≡ Kind = sym b ∙ e in cc
stays_symbol _ j b n e = terms_kind j b e

pub symbol_becomes : (v w : Vocabulary) (m : Map) (k : ℕ) → IsMorphism v w m → IsSymbolNumber v k → IsSymbolNumber w (m.symbols k)
symbol_becomes v w m k h s =
    let e = symbol_or v.symbols k in
    let x = h.symbols k e (some_at v.symbols k int_symbol s.there) s.usable s.kind in
    let r = slice_there w.symbols (m.symbols k) (λ j. KindBecomes e.kind j.kind × HasMappedTypes m e j) x.1 in
    record { there = r.0; usable = x.0; kind = stays_symbol e.kind (symbol_or w.symbols (m.symbols k)).kind r.1.0 s.kind }
