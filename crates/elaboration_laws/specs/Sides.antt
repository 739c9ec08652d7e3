-- The sides of a clone's elements where the clone stands, and the signature with the entries of its
-- copies.
use Rattle.std.specs.Prelude.{List, ◌++◌, map, length, None}
use Rattle.elab_groups.specs.tasks.Task.{SymbolTree, symbol_or}
use Rattle.elab_groups.specs.tasks.Vocabulary.{Vocabulary}
use Rattle.elab_groups.specs.tasks.Valid.{IsTypeIn}
use Rattle.elab_groups.specs.surface.Lexeme.{Word}
use Rattle.elab_groups.specs.surface.Declarations.{Element, type_element}
use Rattle.elab_groups.specs.parts.Outcomes.{Setting}
use Rattle.clones.specs.Copies.{entry_copied}
use Rattle.clones.specs.clone_elements.Left.{Origin, last_place}
use Rattle.clones.specs.clone_elements.Rights.{RightTree, type_right, rights_tuples}
use Rattle.clones.specs.clone_elements.Replacements.{SideTree, sides_made, effects_of, kept, clone_map}

-- with the entries of the tuples on the right
abbrev pub with_rights : Setting → List Element → Setting
with_rights c es = record c { symbols = c.symbols ++ rights_tuples c.symbols es }

-- the left sides name declarations of a theory
abbrev pub left_sides_at : Setting → Origin → List Element → List SideTree
left_sides_at c t es =
    sides_made (λ x. last_place c.symbols t x None t.own) c.symbols c.scope es

-- the type on the right is one at the type variables on the left
abbrev pub IsTypedRight : Vocabulary → Element → RightTree → Type 0
IsTypedRight v (type_element i c vs f) (type_right ty) = IsTypeIn v (length vs) ty
IsTypedRight v e r = Unit {0}

abbrev pub IsTypedSide : Vocabulary → SideTree → Type 0
IsTypedSide v x = IsTypedRight v x.element x.right

-- the entries of the copies, in a theory, under longer names
abbrev pub copies_made : Setting → Origin → List Element → Word → Word → List SymbolTree
copies_made c t es theory within =
    let symbols = (with_rights c es).symbols in
    let xs = left_sides_at c t es in
    map (λ k. entry_copied (clone_map symbols t xs) theory within (symbol_or symbols k))
    (kept t (effects_of xs))

-- the signature with them
abbrev pub with_copies : Setting → Origin → List Element → Word → Word → List SymbolTree
with_copies c t es theory within = (with_rights c es).symbols ++ copies_made c t es theory within
