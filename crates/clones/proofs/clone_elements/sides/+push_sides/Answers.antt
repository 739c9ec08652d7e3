use Rattle.std.proofs.Common.{◌≡◌, ◌∷◌, ◌++◌, [], ℕ, List, Option, None, map, length, ap, subst, ◌∙◌, arith, append_assoc}
use Rattle.std.proofs.lemmas.List.{map-append}
use Rattle.std.proofs.lemmas.List.Elements.{All-push}
use Rattle.std.proofs.lemmas.Result.{on_ok_weaker}
use Rattle.tasks.proofs.trees.Nodes.{Grows_refl, Grows_trans}
use Rattle.tasks.specs.Task.{SymbolTree}
use Rattle.tasks.specs.Meaning.{symbols_at}
use Rattle.surface.specs.Lexeme.{Word}
use Rattle.surface.specs.Declarations.{Element}
use Rattle.surface.specs.SurfaceDeclarations.{element_of}
use Rattle.name_resolution.specs.Naming.{Tells, scope_at}
use Rattle.name_resolution.specs.Where.{NamesTree}
use Rattle.name_resolution.proofs.Told.{of_rest}
use Rattle.elab_groups.proofs.parts.Entering.{extended_both}
use Rattle.elab_groups.specs.parts.Entries.{IsExtended}
use Rattle.elab_groups.proofs.parts.Overs.{scope_stays}
use Rattle.elab_groups.proofs.parts.Tupled.{scopes_extended}
use Rattle.clones.specs.declared.clone_elements.replacements.Side.{Side as CodeSide}
use Rattle.clones.specs.clone_elements.Left.{place_by, element_key}
use Rattle.clones.specs.clone_elements.Rights.{right_tuples, right_made, right_fault, rights_fault, rights_tuples}
use Rattle.clones.specs.clone_elements.Replacements.{SideTree, sides_made}
use Rattle.clones.specs.clone_elements.Origins.{place_at}
use Rattle.clones.specs.clone_elements.Meaning.{side_at, sides_at, SideHeld}
use Rattle.clones.proofs.clone_elements.Growing.{sides_stay, sides_grow}
use Rattle.clones.proofs.clone_elements.sides.+push_sides.Goals as goal
use Rattle.tasks.proofs.outside.Passed.{no_ok}

pub push_sides-requires : goal.push_sides-requires
push_sides-requires t c =
    let s = c.args.store.now in
    let s1 = c.right_side.new.store in
    let w = c.right_side.ensures.grows in
    let first = c.in-Some.first in
    let ext = c.in_ok-right.ensures.entries first.now.at in
    let side : CodeSide = record { element = first; left = c.in_ok-left.left; right = c.in_ok-right.right } in
    let held : SideHeld s1 side = record { right = c.in_ok-right.ensures.held; within = c.in_ok-right.ensures.within first.now.at } in (
      omega (arith, ap length c.in-Some.ensures.cases.0),
      (
        ext.signature,
        (
          scopes_extended s s1 w c.args.sig.now c.right_side.new.sig _ c.args.scope.now c.requires.signature c.requires.scopes ext,
          rw c.in_ok-push.ensures.items (All-push (SideHeld s1) c.args.sides.now.items side (sides_grow s s1 w c.args.sides.now.items c.requires.held) held),
        ),
      ),
    )

pub returns-clause-sides : goal.returns-clause-sides
returns-clause-sides t c =
    let s = c.args.store.now in
    let s1 = c.right_side.new.store in
    let w = c.right_side.ensures.grows in
    let first = c.in-Some.first in
    let e = element_of first.now in
    let names = scope_at s c.args.scope.now in
    let places : Word → Option ℕ = place_at c.args.names.now in
    let symbols = symbols_at s c.args.sig.now.symbols in
    let es : List Element = map element_of c.in-Some.rest.now in
    let xs = c.args.sides.now.items in
    let ext = c.in_ok-right.ensures.entries first.now.at in
    let side : CodeSide = record { element = first; left = c.in_ok-left.left; right = c.in_ok-right.right } in
    let made : SideTree = record { element = e; left = place_by places (element_key e); right = right_made symbols names e } in
    let is : side_at s1 side ≡ made = λ i. record { element = e; left = c.in_ok-left.ensures first.now.at i; right = c.in_ok-right.ensures.made first.now.at i } in
    let old : sides_at s1 c.push.new.self.items ≡ sides_at s xs ++ made ∷ [] =
    ap (sides_at s1) c.in_ok-push.ensures.items ∙ (map-append (side_at s1) xs (side ∷ []) ∙ (ap (λ (z : List SideTree). z ++ side_at s1 side ∷ []) (sides_stay s s1 w xs c.requires.held) ∙ ap (λ (z : SideTree). sides_at s xs ++ z ∷ []) is)) in
    let more : List SymbolTree = symbols ++ right_tuples symbols e in
    let later : sides_made places (symbols_at s1 c.right_side.new.sig.symbols) (scope_at s1 c.args.scope.now) es ≡ sides_made places more names es =
    ap (λ (z : List SymbolTree). sides_made places z (scope_at s1 c.args.scope.now) es) ext.symbols ∙ ap (λ (ns : NamesTree). sides_made places more ns es) (scope_stays s s1 w (length c.args.sig.now.symbols) c.args.scope.now c.requires.scopes) in
    let after = sides_made places more names es in
    rw c.in-Some.ensures.cases.0 (on_ok_weaker c.push_sides.result (λ h. h ∙ (ap (λ (z : List SideTree). sides_at s1 c.push.new.self.items ++ z) later ∙ (ap (λ (z : List SideTree). z ++ after) old ∙ append_assoc (sides_at s xs) (made ∷ []) after))) c.push_sides.ensures.sides)

pub returns-clause-told : goal.returns-clause-told
returns-clause-told t c =
    let s = c.args.store.now in
    let s1 = c.right_side.new.store in
    let first = c.in-Some.first in
    let e = element_of first.now in
    let names = scope_at s c.args.scope.now in
    let symbols = symbols_at s c.args.sig.now.symbols in
    let es : List Element = map element_of c.in-Some.rest.now in
    let ext = c.in_ok-right.ensures.entries first.now.at in
    let more : List SymbolTree = symbols ++ right_tuples symbols e in
    let free : right_fault symbols names e ≡ None = c.in_ok-right.ensures.free first.now.at in
    let later : rights_fault (symbols_at s1 c.right_side.new.sig.symbols) (scope_at s1 c.args.scope.now) es ≡ rights_fault more names es =
    ap (λ (z : List SymbolTree). rights_fault z (scope_at s1 c.args.scope.now) es) ext.symbols ∙ ap (λ (ns : NamesTree). rights_fault more ns es) (scope_stays s s1 c.right_side.ensures.grows (length c.args.sig.now.symbols) c.args.scope.now c.requires.scopes) in
    rw c.in-Some.ensures.cases.0 (of_rest c.push_sides.result (right_fault symbols names e) (rights_fault more names es) free (subst (Tells c.push_sides.result) later c.push_sides.ensures.told))

pub returns-in_default-clause-grows : goal.returns-in_default-clause-grows
returns-in_default-clause-grows t c = Grows_refl c.args.store.now

pub right_side-requires-clause-signature : goal.right_side-requires-clause-signature
right_side-requires-clause-signature t c = c.requires.signature

pub right_side-requires-clause-scopes : goal.right_side-requires-clause-scopes
right_side-requires-clause-scopes t c = c.requires.scopes

pub returns-in_err-right-clause-entries : goal.returns-in_err-right-clause-entries
returns-in_err-right-clause-entries t c = no_ok _ _ c.from_residual.result c.from_residual.ensures.1

pub returns-in_err-right-clause-held : goal.returns-in_err-right-clause-held
returns-in_err-right-clause-held t c = no_ok _ _ c.from_residual.result c.from_residual.ensures.1

pub returns-in_err-right-clause-sides : goal.returns-in_err-right-clause-sides
returns-in_err-right-clause-sides t c = no_ok _ _ c.from_residual.result c.from_residual.ensures.1

pub returns-in_err-right-clause-grows : goal.returns-in_err-right-clause-grows
returns-in_err-right-clause-grows t c = c.right_side.ensures.grows

pub returns-in_err-left-clause-entries : goal.returns-in_err-left-clause-entries
returns-in_err-left-clause-entries t c = no_ok _ _ c.from_residual-in_err-left.result c.from_residual-in_err-left.ensures.1

pub returns-in_err-left-clause-held : goal.returns-in_err-left-clause-held
returns-in_err-left-clause-held t c = no_ok _ _ c.from_residual-in_err-left.result c.from_residual-in_err-left.ensures.1

pub returns-in_err-left-clause-sides : goal.returns-in_err-left-clause-sides
returns-in_err-left-clause-sides t c = no_ok _ _ c.from_residual-in_err-left.result c.from_residual-in_err-left.ensures.1

pub returns-in_err-left-clause-grows : goal.returns-in_err-left-clause-grows
returns-in_err-left-clause-grows t c = c.right_side.ensures.grows

pub returns-in_err-push-clause-entries : goal.returns-in_err-push-clause-entries
returns-in_err-push-clause-entries t c = no_ok _ _ c.from_residual-in_err-push.result c.from_residual-in_err-push.ensures.1

pub returns-in_err-push-clause-held : goal.returns-in_err-push-clause-held
returns-in_err-push-clause-held t c = no_ok _ _ c.from_residual-in_err-push.result c.from_residual-in_err-push.ensures.1

pub returns-in_err-push-clause-sides : goal.returns-in_err-push-clause-sides
returns-in_err-push-clause-sides t c = no_ok _ _ c.from_residual-in_err-push.result c.from_residual-in_err-push.ensures.1

pub returns-in_err-push-clause-grows : goal.returns-in_err-push-clause-grows
returns-in_err-push-clause-grows t c = c.right_side.ensures.grows

pub returns-clause-held : goal.returns-clause-held
returns-clause-held t c = c.push_sides.ensures.held

pub returns-clause-grows : goal.returns-clause-grows
returns-clause-grows t c = Grows_trans c.args.store.now c.right_side.new.store c.push_sides.new.store c.right_side.ensures.grows c.push_sides.ensures.grows

pub returns-clause-entries : goal.returns-clause-entries
returns-clause-entries t c =
    let s1 = c.right_side.new.store in
    let first = c.in-Some.first in
    let symbols = symbols_at c.args.store.now c.args.sig.now.symbols in
    let es : List Element = map element_of c.in-Some.rest.now in
    let more : List SymbolTree = right_tuples symbols (element_of first.now) in
    let ext = c.in_ok-right.ensures.entries first.now.at in
    rw c.in-Some.ensures.cases.0 (on_ok_weaker c.push_sides.result (λ h.
    extended_both more (rights_tuples (symbols ++ more) es) ext (subst (λ (z : List SymbolTree). IsExtended s1 c.right_side.new.sig c.push_sides.new.store c.push_sides.new.sig (rights_tuples z es)) ext.symbols h)) c.push_sides.ensures.entries)
