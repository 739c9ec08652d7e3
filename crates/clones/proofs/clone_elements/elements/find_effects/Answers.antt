use Rattle.std.proofs.Common.{◌≡◌, [], ℕ, List, None, length, sym, ap, subst, ◌∙◌}
use Rattle.std.specs.Prelude.{OnOk, IfErr}
use Rattle.std.proofs.Math.ListN.{length-map}
use Rattle.tasks.proofs.trees.Nodes.{Grows_refl}
use Rattle.tasks.specs.trees.Tree.{Tree}
use Rattle.tasks.specs.Task.{SymbolTree}
use Rattle.tasks.specs.Meaning.{symbol_at, symbols_at}
use Rattle.clones.specs.Mapped.{Map}
use Rattle.clones.specs.Meaning.{map_at}
use Rattle.clones.specs.clone_elements.Left.{Origin}
use Rattle.clones.specs.clone_elements.Replacements.{SideTree, no_effects, kept, map_of, tried_map, types_replaced}
use Rattle.clones.specs.clone_elements.Elements.{SidesTold}
use Rattle.clones.specs.clone_elements.Origins.{origin_at}
use Rattle.clones.specs.clone_elements.Meaning.{sides_at, IsElementRefused}
use Rattle.clones.proofs.clone_elements.elements.find_effects.Goals as goal
use Rattle.tasks.proofs.outside.Passed.{no_ok}

-- the map over these types is the one by which signatures are compared
tried_is : (symbols : List SymbolTree) (o : Origin) (xs : List SideTree) (m : Map) (ts : List (ℕ × Tree)) (n : ℕ) → ts ≡ types_replaced symbols o xs → n ≡ length symbols → m ≡ map_of ts [] n (kept o no_effects) → m ≡ tried_map symbols o xs
tried_is symbols o xs m ts n p q h = h ∙ (ap (λ (z : List (ℕ × Tree)). map_of z [] n (kept o no_effects)) p ∙ ap (λ (k : ℕ). map_of (types_replaced symbols o xs) [] k (kept o no_effects)) q)

pub tried_map-requires : goal.tried_map-requires
tried_map-requires c = c.requires.held

pub check_elements-requires-clause-signature : goal.check_elements-requires-clause-signature
check_elements-requires-clause-signature c = c.requires.signature

pub check_elements-requires-clause-decls : goal.check_elements-requires-clause-decls
check_elements-requires-clause-decls c = c.requires.decls

pub check_elements-requires-clause-map_held : goal.check_elements-requires-clause-map_held
check_elements-requires-clause-map_held c = c.in_ok-morphism.ensures.held

pub check_elements-requires-clause-sides : goal.check_elements-requires-clause-sides
check_elements-requires-clause-sides c = c.requires.sides

pub returns-clause-right : goal.returns-clause-right
returns-clause-right c =
    let s = c.args.store.now in
    let is = c.args.sig.now.symbols in
    let o = origin_at s c.args.source.now in
    let xs = sides_at s c.args.sides.now in
    let map_is = tried_is (symbols_at s is) o xs (map_at s c.in_ok-morphism.morphism) _ _ c.requires.types (sym (length-map is (symbol_at s))) c.in_ok-morphism.ensures.is in
    subst (λ (m : Map). OnOk c.check_elements.result (SidesTold (symbols_at s is) o m no_effects xs None)) map_is c.check_elements.ensures.right

pub returns-clause-effects : goal.returns-clause-effects
returns-clause-effects c = c.check_elements.ensures.effects

pub returns-clause-err : goal.returns-clause-err
returns-clause-err c =
    let s = c.args.store.now in
    let is = c.args.sig.now.symbols in
    let o = origin_at s c.args.source.now in
    let xs = sides_at s c.args.sides.now in
    let map_is = tried_is (symbols_at s is) o xs (map_at s c.in_ok-morphism.morphism) _ _ c.requires.types (sym (length-map is (symbol_at s))) c.in_ok-morphism.ensures.is in
    subst (λ (m : Map). IfErr c.check_elements.result (IsElementRefused (symbols_at s is) o m xs)) map_is c.check_elements.ensures.err

pub returns-clause-grows : goal.returns-clause-grows
returns-clause-grows c = c.check_elements.ensures.grows

pub returns-in_err-morphism-clause-right : goal.returns-in_err-morphism-clause-right
returns-in_err-morphism-clause-right c = no_ok _ _ c.from_residual.result c.from_residual.ensures.1

pub returns-in_err-morphism-clause-effects : goal.returns-in_err-morphism-clause-effects
returns-in_err-morphism-clause-effects c = no_ok _ _ c.from_residual.result c.from_residual.ensures.1

pub returns-in_err-morphism-clause-grows : goal.returns-in_err-morphism-clause-grows
returns-in_err-morphism-clause-grows c = Grows_refl c.args.store.now

pub check_elements-requires-clause-none : goal.check_elements-requires-clause-none
check_elements-requires-clause-none c = c.requires.none
