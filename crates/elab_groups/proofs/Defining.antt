-- Definitions, one after another.
use Rattle.std.proofs.Common.{◌≡◌, ℕ, suc, Bool, true, false, not, List, [], ◌∷◌, ◌++◌, map, get_or, Option, Some, None, option_map, Bor, refl, sym, ap, subst, ◌∙◌, append_assoc, arith}
use Rattle.std.specs.List.{All}
use Rattle.std.specs.Option.{is_some, option_copied}
use Rattle.std.proofs.lemmas.List.{map-append}
use Rattle.std.proofs.lemmas.List.Elements.{All-append, All-cons, All-nil}
use Rattle.tasks.specs.trees.declared.TermId.{TermId}
use Rattle.tasks.specs.trees.Tree.{Tree}
use Rattle.tasks.specs.trees.Node.{Holds, Grows}
use Rattle.tasks.specs.trees.Sorts.{sort_of}
use Rattle.tasks.proofs.trees.Nodes.{tree_at-grows}
use Rattle.tasks.specs.declared.declaration.Def.{Def}
use Rattle.tasks.specs.declared.declaration.Decl.{Decl}
use Rattle.tasks.specs.Task.{DefinitionTree, DeclarationTree, Defines}
use Rattle.tasks.specs.Meaning.{trees_at, definition_at, declaration_at, declarations_at, DeclHeld}
use Rattle.name_resolution.specs.surface.declared.expressions.Expr.{Expr}
use Rattle.name_resolution.specs.Abstract.{Expression, expression_of}
use Rattle.open_types.proofs.Growing.{held_grows}
use Rattle.elab_groups.specs.parts.Declarations.{GroupMember}
use Rattle.elab_groups.proofs.parts.Putting.{trees_stay, all_held}
use Rattle.elab_groups.specs.declared.members.signing.Signed.{Signed}
use Rattle.elab_groups.specs.members.Members.{SignatureTree}
use Rattle.elab_groups.specs.members.Sources.{signed_at, SignedHeld}
use Rattle.elab_groups.proofs.members.SignaturesHeld.{all_signed_stay}
use Rattle.elab_groups.specs.Groups.{definitions, group_body}
use Rattle.elab_groups.specs.Bodies.{IsBody, AreBodies, AreDefined, AllHaveBodies}
use Rattle.tasks.proofs.Growth.{map_agree as map_same}

abbrev pub DefHeld : List Tree → Def → Type 0
DefHeld s d = Holds s d.equation

module _ (s s' : List Tree) (g : Grows s s') where
  pub defs_held : (ds : List Def) → All (DefHeld s) ds → All (DefHeld s') ds
  defs_held ds h = λ k e l. held_grows s s' g (get_or ds k e).equation (h k e l)

  defs_stay : (ds : List Def) → All (DefHeld s) ds → map (definition_at s') ds ≡ map (definition_at s) ds
  defs_stay ds h = map_same (definition_at s') (definition_at s) ds (λ k e l. let q = tree_at-grows s s' (get_or ds k e).equation g (h k e l) in cc (q))

  pub bodies_stay : (its : List Signed) (ids : List TermId) → AreBodies s its ids → AreBodies s' its ids
  bodies_stay its ids h = record { held = all_held s s' g ids h.held; sorts = ap (map sort_of) (trees_stay s s' g ids h.held) ∙ h.sorts }

pub defs_more : (s s' : List Tree) → Grows s s' → (ds : List Def) (d : Def) → All (DefHeld s) ds → DefHeld s' d → All (DefHeld s') (ds ++ d ∷ [])
defs_more s s' g ds d h k = All-append (DefHeld s') ds (d ∷ []) (defs_held s s' g ds h) (All-cons (DefHeld s') d [] k (All-nil (DefHeld s')))

-- the first of some bodies, and the others
pub first_body : (s : List Tree) (it : Signed) (its : List Signed) (id : TermId) (ids : List TermId) → AreBodies s (it ∷ its) (id ∷ ids) → IsBody s it.result id
first_body s it its id ids h = record { held = h.held 0 id (omega arith); sort = cc (h.sorts) }

pub other_bodies : (s : List Tree) (it : Signed) (its : List Signed) (id : TermId) (ids : List TermId) → AreBodies s (it ∷ its) (id ∷ ids) → AreBodies s its ids
other_bodies s it its id ids h = record { held = λ k d l. h.held (suc k) d (omega arith); sorts = cc (h.sorts) }

-- a definition after others
pub defined_step : (s s1 s2 : List Tree) → Grows s s1 → (ds new : List Def) (d : Def) (its : List Signed) (ids : List TermId) (k : ℕ) (one : DefinitionTree) → All (DefHeld s) ds → All (SignedHeld s) its → All (Holds s) ids
    → definition_at s1 d ≡ one
    → map (definition_at s2) new ≡ map (definition_at s1) (ds ++ d ∷ []) ++ definitions k (map (signed_at s1) its) (trees_at s1 ids)
    → map (definition_at s2) new ≡ map (definition_at s) ds ++ one ∷ definitions k (map (signed_at s) its) (trees_at s ids)
defined_step s s1 s2 g ds new d its ids k one h i j e q =
    let rest = definitions k (map (signed_at s) its) (trees_at s ids) in
    let a : map (definition_at s1) (ds ++ d ∷ []) ≡ map (definition_at s) ds ++ definition_at s1 d ∷ [] = map-append (definition_at s1) ds (d ∷ []) ∙ ap (λ (xs : List DefinitionTree). xs ++ definition_at s1 d ∷ []) (defs_stay s s1 g ds h) in
    q ∙ (rw (a, all_signed_stay s s1 g its i, trees_stay s s1 g ids j, e) (append_assoc (map (definition_at s) ds) (one ∷ []) rest))

-- a group whose first member has a body has a body for each
pub whole_defined : (m : GroupMember) (ms : List GroupMember) → AllHaveBodies (m ∷ ms) → is_some m.body ≡ true → AreDefined (m ∷ ms)
whole_defined m ms h k = (k, h k)

pub definitions_none : (k : ℕ) (gs : List SignatureTree) → definitions k gs [] ≡ []
definitions_none k [] = refl
definitions_none k (g ∷ gs) = refl

-- ---- what a first member has in its declaration
pub body_given : (b : Option (Bor Expr)) (none : Bool) → is_some b ≡ not none → none ≡ false → is_some (option_map expression_of (option_copied b)) ≡ true
body_given None none h q = let k : false ≡ not false = h ∙ ap not q in absurd (cc)
body_given (Some e) none h q = refl

pub body_lacking : (b : Option (Bor Expr)) (none : Bool) → is_some b ≡ not none → none ≡ true → option_map expression_of (option_copied b) ≡ None
body_lacking None none h q = refl
body_lacking (Some e) none h q = let k : true ≡ not true = h ∙ ap not q in absurd (cc)

pub group_defined : (b : Option Expression) (k : ℕ) (gs : List SignatureTree) (bs : List Tree) → is_some b ≡ true → group_body b k gs bs ≡ Defines (definitions k gs bs)
group_defined None k gs bs h = absurd (cc)
group_defined (Some e) k gs bs h = refl

-- ---- the only declaration
pub one_held : (s : List Tree) (ds : List Decl) (d : Decl) → ds ≡ [] → DeclHeld s d → All (DeclHeld s) (ds ++ d ∷ [])
one_held s ds d e h = All-append (DeclHeld s) ds (d ∷ []) (subst (All (DeclHeld s)) (sym e) (All-nil (DeclHeld s))) (All-cons (DeclHeld s) d [] h (All-nil (DeclHeld s)))

pub one_made : (s : List Tree) (ds : List Decl) (d : Decl) (x : DeclarationTree) → ds ≡ [] → declaration_at s d ≡ x → declarations_at s (ds ++ d ∷ []) ≡ x ∷ []
one_made s ds d x e h = ap (λ (xs : List Decl). declarations_at s (xs ++ d ∷ [])) e ∙ ap (λ (y : DeclarationTree). y ∷ []) h
