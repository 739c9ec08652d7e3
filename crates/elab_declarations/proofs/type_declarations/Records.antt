-- A type has the constructor of its record, or those that are written.
use Rattle.std.proofs.Common.{◌≡◌, ◌<◌, ◌≤◌, List, [], ◌∷◌, map, length, refl, arith}
use Rattle.surface.specs.Lexeme.{Word}
use Rattle.surface.specs.Declarations as source
use Rattle.surface.specs.SurfaceDeclarations.{param_of}
use Rattle.surface.specs.declared.declarations.ParamTree.{ParamTree}
use Rattle.elab_groups.specs.parts.Declarations.{constructor, record_constructor, type_constructors}

pub record_alone : (x : Word) (cs : List source.Constructor) (ps : List ParamTree) → 1 ≤ length ps → type_constructors x cs (map param_of ps) ≡ record_constructor x (map param_of ps) ∷ []
record_alone x cs [] h = absurd (omega (arith, h))
record_alone x cs (p ∷ ps) h = refl

pub no_record : (x : Word) (cs : List source.Constructor) (ps : List ParamTree) → length ps < 1 → type_constructors x cs (map param_of ps) ≡ map constructor cs
no_record x cs [] h = refl
no_record x cs (p ∷ ps) h = absurd (omega (arith, h))
