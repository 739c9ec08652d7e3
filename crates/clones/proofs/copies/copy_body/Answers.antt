use Rattle.std.proofs.Common.{◌≡◌, List, All, IfOk, sym, ap, subst, ◌∙◌}
use Rattle.trees.proofs.Nodes.{Grows_refl}
use Rattle.tasks.specs.declared.declaration.Def.{Def}
use Rattle.tasks.specs.declared.declaration.Ind.{Ind}
use Rattle.tasks.specs.declared.declaration.Alg.{Alg}
use Rattle.tasks.specs.declared.declaration.Body.{Body}
use Rattle.tasks.specs.declared.declaration.Body.TheVariants.{Defs, Inductives, Algebraics}
use Rattle.tasks.specs.Task.{BodyTree, MakesType, Makes, Defines, Induces, Constructs, Says}
use Rattle.tasks.specs.Meaning.{definitions_at, inductives_at, algebraics_at, body_at, InductiveHeld, AlgebraicHeld, BodyHeld}
use Rattle.clones.specs.Meaning.{map_at}
use Rattle.clones.specs.Copies.{DefHeld, body_mapped}
use Rattle.clones.proofs.copies.copy_body.Goals as goal
use Rattle.tasks.proofs.outside.Passed.{no_ok, no_value}

pub copy_defs-requires-clause-map_held : goal.copy_defs-requires-clause-map_held
copy_defs-requires-clause-map_held c = c.requires.map_held

pub copy_defs-requires-clause-known : goal.copy_defs-requires-clause-known
copy_defs-requires-clause-known c = c.requires.known

pub copy_defs-requires-clause-held : goal.copy_defs-requires-clause-held
copy_defs-requires-clause-held c =
    let s = c.args.store.now in
    let h : BodyHeld s (Defs c.in-Defs.defs) = subst (BodyHeld s) c.in-Defs.is c.requires.held in
    subst (λ (z : List Def). All (DefHeld s) z) (sym c.as_slice.ensures) h

pub returns-in-Defs-clause-tree : goal.returns-in-Defs-clause-tree
returns-in-Defs-clause-tree c =
    let s = c.args.store.now in
    let is : Defines (definitions_at s c.as_slice.result.now) ≡ body_at s c.args.body.now = ap (λ (z : List Def). Defines (definitions_at s z)) c.as_slice.ensures ∙ ap (body_at s) (sym c.in-Defs.is) in
    subst (λ (b : BodyTree). IfOk c.copy_defs.result (λ (v : Body). body_at c.copy_defs.new.store v ≡ body_mapped (map_at s c.args.morphism.now) b)) is c.copy_defs.ensures.tree

pub returns-in-Defs-clause-new_held : goal.returns-in-Defs-clause-new_held
returns-in-Defs-clause-new_held c = c.copy_defs.ensures.new_held

pub returns-in-Defs-clause-new_known : goal.returns-in-Defs-clause-new_known
returns-in-Defs-clause-new_known c = c.copy_defs.ensures.new_known

pub returns-in-Defs-clause-grows : goal.returns-in-Defs-clause-grows
returns-in-Defs-clause-grows c = c.copy_defs.ensures.grows

pub copy_inds-requires-clause-map_held : goal.copy_inds-requires-clause-map_held
copy_inds-requires-clause-map_held c = c.requires.map_held

pub copy_inds-requires-clause-known : goal.copy_inds-requires-clause-known
copy_inds-requires-clause-known c = c.requires.known

pub copy_inds-requires-clause-held : goal.copy_inds-requires-clause-held
copy_inds-requires-clause-held c =
    let s = c.args.store.now in
    let h : BodyHeld s (Inductives c.in-Inductives.inds) = subst (BodyHeld s) c.in-Inductives.is c.requires.held in
    subst (λ (z : List Ind). All (InductiveHeld s) z) (sym c.as_slice-in-Inductives.ensures) h

pub returns-in-Inductives-clause-tree : goal.returns-in-Inductives-clause-tree
returns-in-Inductives-clause-tree c =
    let s = c.args.store.now in
    let is : Induces (inductives_at s c.as_slice-in-Inductives.result.now) ≡ body_at s c.args.body.now = ap (λ (z : List Ind). Induces (inductives_at s z)) c.as_slice-in-Inductives.ensures ∙ ap (body_at s) (sym c.in-Inductives.is) in
    subst (λ (b : BodyTree). IfOk c.copy_inds.result (λ (v : Body). body_at c.copy_inds.new.store v ≡ body_mapped (map_at s c.args.morphism.now) b)) is c.copy_inds.ensures.tree

pub returns-in-Inductives-clause-new_held : goal.returns-in-Inductives-clause-new_held
returns-in-Inductives-clause-new_held c = c.copy_inds.ensures.new_held

pub returns-in-Inductives-clause-new_known : goal.returns-in-Inductives-clause-new_known
returns-in-Inductives-clause-new_known c = c.copy_inds.ensures.new_known

pub returns-in-Inductives-clause-grows : goal.returns-in-Inductives-clause-grows
returns-in-Inductives-clause-grows c = c.copy_inds.ensures.grows

pub copy_algs-requires-clause-map_held : goal.copy_algs-requires-clause-map_held
copy_algs-requires-clause-map_held c = c.requires.map_held

pub copy_algs-requires-clause-known : goal.copy_algs-requires-clause-known
copy_algs-requires-clause-known c = c.requires.known

pub copy_algs-requires-clause-held : goal.copy_algs-requires-clause-held
copy_algs-requires-clause-held c =
    let s = c.args.store.now in
    let h : BodyHeld s (Algebraics c.in-Algebraics.algs) = subst (BodyHeld s) c.in-Algebraics.is c.requires.held in
    subst (λ (z : List Alg). All (AlgebraicHeld s) z) (sym c.as_slice-in-Algebraics.ensures) h

pub returns-in-Algebraics-clause-tree : goal.returns-in-Algebraics-clause-tree
returns-in-Algebraics-clause-tree c =
    let s = c.args.store.now in
    let is : Constructs (algebraics_at s c.as_slice-in-Algebraics.result.now) ≡ body_at s c.args.body.now = ap (λ (z : List Alg). Constructs (algebraics_at s z)) c.as_slice-in-Algebraics.ensures ∙ ap (body_at s) (sym c.in-Algebraics.is) in
    subst (λ (b : BodyTree). IfOk c.copy_algs.result (λ (v : Body). body_at c.copy_algs.new.store v ≡ body_mapped (map_at s c.args.morphism.now) b)) is c.copy_algs.ensures.tree

pub returns-in-Algebraics-clause-new_held : goal.returns-in-Algebraics-clause-new_held
returns-in-Algebraics-clause-new_held c = c.copy_algs.ensures.new_held

pub returns-in-Algebraics-clause-new_known : goal.returns-in-Algebraics-clause-new_known
returns-in-Algebraics-clause-new_known c = c.copy_algs.ensures.new_known

pub returns-in-Algebraics-clause-grows : goal.returns-in-Algebraics-clause-grows
returns-in-Algebraics-clause-grows c = c.copy_algs.ensures.grows

pub returns-in-TypeSymbol-clause-tree : goal.returns-in-TypeSymbol-clause-tree
returns-in-TypeSymbol-clause-tree c = ap MakesType c.map_symbol.ensures ∙ ap (λ (b : Body). body_mapped (map_at c.args.store.now c.args.morphism.now) (body_at c.args.store.now b)) (sym c.in-TypeSymbol.is)

pub returns-in-TypeSymbol-clause-new_held : goal.returns-in-TypeSymbol-clause-new_held
returns-in-TypeSymbol-clause-new_held c = tt

pub returns-in-TypeSymbol-clause-new_known : goal.returns-in-TypeSymbol-clause-new_known
returns-in-TypeSymbol-clause-new_known c = c.requires.known

pub returns-in-TypeSymbol-clause-grows : goal.returns-in-TypeSymbol-clause-grows
returns-in-TypeSymbol-clause-grows c = Grows_refl c.args.store.now

pub returns-in-Symbol-clause-tree : goal.returns-in-Symbol-clause-tree
returns-in-Symbol-clause-tree c = ap Makes c.map_symbol-in-Symbol.ensures ∙ ap (λ (b : Body). body_mapped (map_at c.args.store.now c.args.morphism.now) (body_at c.args.store.now b)) (sym c.in-Symbol.is)

pub returns-in-Symbol-clause-new_held : goal.returns-in-Symbol-clause-new_held
returns-in-Symbol-clause-new_held c = tt

pub returns-in-Symbol-clause-new_known : goal.returns-in-Symbol-clause-new_known
returns-in-Symbol-clause-new_known c = c.requires.known

pub returns-in-Symbol-clause-grows : goal.returns-in-Symbol-clause-grows
returns-in-Symbol-clause-grows c = Grows_refl c.args.store.now

pub map_tree-requires-clause-map_held : goal.map_tree-requires-clause-map_held
map_tree-requires-clause-map_held c = c.requires.map_held

pub map_tree-requires-clause-known : goal.map_tree-requires-clause-known
map_tree-requires-clause-known c = c.requires.known

pub map_tree-requires-clause-held : goal.map_tree-requires-clause-held
map_tree-requires-clause-held c = subst (BodyHeld c.args.store.now) c.in-Prop.is c.requires.held

pub returns-in_ok-formula-in-Prop-clause-tree : goal.returns-in_ok-formula-in-Prop-clause-tree
returns-in_ok-formula-in-Prop-clause-tree c = ap Says c.in_ok-formula-in-Prop.ensures.mapped.is ∙ ap (λ (b : Body). body_mapped (map_at c.args.store.now c.args.morphism.now) (body_at c.args.store.now b)) (sym c.in-Prop.is)

pub returns-in_ok-formula-in-Prop-clause-new_held : goal.returns-in_ok-formula-in-Prop-clause-new_held
returns-in_ok-formula-in-Prop-clause-new_held c = c.in_ok-formula-in-Prop.ensures.mapped.held

pub returns-in_ok-formula-in-Prop-clause-new_known : goal.returns-in_ok-formula-in-Prop-clause-new_known
returns-in_ok-formula-in-Prop-clause-new_known c = c.in_ok-formula-in-Prop.ensures.known

pub returns-in_ok-formula-in-Prop-clause-grows : goal.returns-in_ok-formula-in-Prop-clause-grows
returns-in_ok-formula-in-Prop-clause-grows c = c.map_tree.ensures.grows

pub returns-in_err-formula-in-Prop-clause-tree : goal.returns-in_err-formula-in-Prop-clause-tree
returns-in_err-formula-in-Prop-clause-tree c = no_value _ _ c.from_residual.result c.from_residual.ensures.1

pub returns-in_err-formula-in-Prop-clause-new_held : goal.returns-in_err-formula-in-Prop-clause-new_held
returns-in_err-formula-in-Prop-clause-new_held c = no_value _ _ c.from_residual.result c.from_residual.ensures.1

pub returns-in_err-formula-in-Prop-clause-new_known : goal.returns-in_err-formula-in-Prop-clause-new_known
returns-in_err-formula-in-Prop-clause-new_known c = no_ok _ _ c.from_residual.result c.from_residual.ensures.1

pub returns-in_err-formula-in-Prop-clause-grows : goal.returns-in_err-formula-in-Prop-clause-grows
returns-in_err-formula-in-Prop-clause-grows c = c.map_tree.ensures.grows
