-- A further name of a group, by those that the group made before in its table, which an index has.
use Rattle.std.specs.Prelude.{ℕ, Bool, ◌||◌, List, map, Option, Vec}
use Rattle.std.specs.Option.{is_some}
use Rattle.indexmap.specs.IndexSet.{IndexSet}
use Rattle.surface.specs.Lexeme.{Word}
use Rattle.name_resolution.specs.declared.NamingFault.{NamingFault}
use Rattle.name_resolution.specs.declared.NamingFault.TheVariants.{Duplicate}
use Rattle.name_resolution.specs.Faults.{fault_if}
use Rattle.name_resolution.specs.Where.{place_of}
use Rattle.elab_groups.specs.parts.Declarations.{TokenName}

-- in the order in which they were made
abbrev pub indexed_names : {Y S : Type 0} → IndexSet (Vec ℕ Y) S → List Word
indexed_names s = map (λ v. v.items) s.keys

-- it is declared, or was made before
abbrev pub name_made : Bool → List Word → TokenName → Option NamingFault
name_made declared before c =
    fault_if (declared || is_some (place_of c.name before)) (Duplicate c.at)
