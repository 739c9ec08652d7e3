use Rattle.std.proofs.Common.{◌≡◌, ◌∷◌, inl, suc, List, All, None, get_or, length, ap, subst, ◌∙◌, arith, inr, Some, refl}
use Rattle.std.proofs.lemmas.Result.{IfOk-weaker}
use Rattle.tasks.proofs.trees.Nodes.{Grows_refl, Grows_trans}
use Rattle.tasks.specs.trees.Tree.{Tree}
use Rattle.tasks.specs.trees.Node.{Grows}
use Rattle.tasks.specs.Meaning.{symbols_at}
use Rattle.tasks.proofs.Growth.{decl_held_later}
use Rattle.elab_groups.proofs.parts.Entering.{entries_stay, signature_grows}
use Rattle.clones.specs.Meaning.{map_at}
use Rattle.clones.proofs.Steps.{map_held, map_stays, known_on}
use Rattle.clones.specs.declared.clone_elements.replacements.Side.{Side as CodeSide}
use Rattle.clones.specs.clone_elements.Replacements.{SideTree, with_side, with_sides}
use Rattle.clones.specs.clone_elements.Elements.{SideTold}
use Rattle.clones.specs.clone_elements.Origins.{origin_at}
use Rattle.clones.specs.clone_elements.Meaning.{side_at, sides_at, SideHeld, effects_at}
use Rattle.clones.proofs.clone_elements.Growing.{sides_stay, sides_grow}
use Rattle.clones.proofs.clone_elements.Told.{told_moved, origin_stays}
use Rattle.clones.proofs.clone_elements.elements.+check_sides.Goals as goal
use Rattle.tasks.proofs.outside.Passed.{no_value}

tail_held : (s : List Tree) (xs ys : List CodeSide) (y : CodeSide) → xs ≡ y ∷ ys → All (SideHeld s) xs → All (SideHeld s) ys
tail_held s xs ys y q h = let g : All (SideHeld s) (y ∷ ys) = subst (All (SideHeld s)) q h in λ k d l. g (suc k) d (omega arith)

pub check_sides-requires : goal.check_sides-requires
check_sides-requires t c =
    let s = c.args.store.now in
    let s1 = c.check_side.new.store in
    let w = c.check_side.ensures.grows in
    let x = c.args.trial.now in
    let h = c.requires.trial in (
      omega (arith, ap length c.in-Some.ensures.cases.0),
      (
        record {
          signature = signature_grows s s1 w x.sig.now.symbols h.signature;
          decls = λ k d l. decl_held_later s s1 w (get_or x.source.now.decls.now k d) (h.decls k d l);
          morphism = map_held s s1 w x.morphism.now h.morphism;
        },
        (known_on x.morphism.now s s1 w h.morphism c.check_side.new.known c.in_ok-token.ensures.known, sides_grow s s1 w c.in-Some.rest.now (tail_held s c.args.sides.now c.in-Some.rest.now c.in-Some.first.now c.in-Some.ensures.cases.0 c.requires.sides)),
      ),
    )

pub returns-in_ok-enter_side-in-None-clause-told : goal.returns-in_ok-enter_side-in-None-clause-told
returns-in_ok-enter_side-in-None-clause-told t c =
    let s = c.args.store.now in
    let s1 = c.check_side.new.store in
    let w : Grows s s1 = c.check_side.ensures.grows in
    let x = c.args.trial.now in
    let h = c.requires.trial in
    let mo = x.morphism.now in
    let symbols = symbols_at s x.sig.now.symbols in
    let o = origin_at s x.source.now in
    let first = c.in-Some.first.now in
    let rest = c.in-Some.rest.now in
    let held = tail_held s c.args.sides.now rest first c.in-Some.ensures.cases.0 c.requires.sides in
    let here : SideTold symbols o (map_at s mo) (effects_at c.args.effects.now) (side_at s first) None = subst (SideTold symbols o (map_at s mo) (effects_at c.args.effects.now) (side_at s first)) c.in-None.is c.in_ok-token.ensures.told in
    rw c.in-Some.ensures.cases.0 (IfOk-weaker c.check_sides.result _ _ (λ it g. inl (
      here,
      told_moved (symbols_at s1 x.sig.now.symbols) symbols (origin_at s1 x.source.now) o (map_at s1 mo) (map_at s mo) (effects_at c.enter_side.new.effects) (with_side (side_at s first) (effects_at c.args.effects.now)) (sides_at s1 rest) (sides_at s rest) it
          (entries_stay s s1 w x.sig.now.symbols h.signature) (origin_stays s s1 w x.source.now h.decls) (map_stays s s1 w mo h.morphism) (c.in_ok-enter_side-in-None.ensures s) (sides_stay s s1 w rest held) g,
    )) c.check_sides.ensures.told)

pub returns-in_ok-enter_side-in-None-clause-effects : goal.returns-in_ok-enter_side-in-None-clause-effects
returns-in_ok-enter_side-in-None-clause-effects t c =
    let s = c.args.store.now in
    let s1 = c.check_side.new.store in
    let first = c.in-Some.first.now in
    let rest = c.in-Some.rest.now in
    let held = tail_held s c.args.sides.now rest first c.in-Some.ensures.cases.0 c.requires.sides in
    rw c.in-Some.ensures.cases.0 (IfOk-weaker c.check_sides.result _ _ (λ it g e. g e ∙ (ap (λ (z : List SideTree). with_sides z (effects_at c.enter_side.new.effects)) (sides_stay s s1 c.check_side.ensures.grows rest held) ∙ ap (with_sides (sides_at s rest)) (c.in_ok-enter_side-in-None.ensures s))) c.check_sides.ensures.effects)

pub check_side-requires-clause-trial : goal.check_side-requires-clause-trial
check_side-requires-clause-trial t c = c.requires.trial

pub check_side-requires-clause-known : goal.check_side-requires-clause-known
check_side-requires-clause-known t c = c.requires.known

pub returns-in_err-token-clause-told : goal.returns-in_err-token-clause-told
returns-in_err-token-clause-told t c = no_value _ _ c.from_residual.result c.from_residual.ensures.1

pub returns-in_err-token-clause-effects : goal.returns-in_err-token-clause-effects
returns-in_err-token-clause-effects t c = no_value _ _ c.from_residual.result c.from_residual.ensures.1

pub returns-in_err-token-clause-grows : goal.returns-in_err-token-clause-grows
returns-in_err-token-clause-grows t c = c.check_side.ensures.grows

pub returns-in_err-enter_side-in-None-clause-told : goal.returns-in_err-enter_side-in-None-clause-told
returns-in_err-enter_side-in-None-clause-told t c = no_value _ _ c.from_residual-in_err-enter_side-in-None.result c.from_residual-in_err-enter_side-in-None.ensures.1

pub returns-in_err-enter_side-in-None-clause-effects : goal.returns-in_err-enter_side-in-None-clause-effects
returns-in_err-enter_side-in-None-clause-effects t c = no_value _ _ c.from_residual-in_err-enter_side-in-None.result c.from_residual-in_err-enter_side-in-None.ensures.1

pub returns-in_err-enter_side-in-None-clause-grows : goal.returns-in_err-enter_side-in-None-clause-grows
returns-in_err-enter_side-in-None-clause-grows t c = c.check_side.ensures.grows

pub returns-in_ok-enter_side-in-None-clause-grows : goal.returns-in_ok-enter_side-in-None-clause-grows
returns-in_ok-enter_side-in-None-clause-grows t c = Grows_trans c.args.store.now c.check_side.new.store c.check_sides.new.store c.check_side.ensures.grows c.check_sides.ensures.grows

pub returns-in_default-clause-grows : goal.returns-in_default-clause-grows
returns-in_default-clause-grows t c = Grows_refl c.args.store.now

pub returns-in-Some-2-clause-grows : goal.returns-in-Some-2-clause-grows
returns-in-Some-2-clause-grows t c = c.check_side.ensures.grows

pub returns-in-Some-2-clause-effects : goal.returns-in-Some-2-clause-effects
returns-in-Some-2-clause-effects t c = λ e. absurd (cc)

pub returns-in-Some-2-clause-told : goal.returns-in-Some-2-clause-told
returns-in-Some-2-clause-told t c =
    let s = c.args.store.now in
    let x = c.args.trial.now in
    let told : SideTold (symbols_at s x.sig.now.symbols) (origin_at s x.source.now) (map_at s x.morphism.now) (effects_at c.args.effects.now) (side_at s c.in-Some.first.now) (Some c.in-Some-2.token) =
    subst (SideTold (symbols_at s x.sig.now.symbols) (origin_at s x.source.now) (map_at s x.morphism.now) (effects_at c.args.effects.now) (side_at s c.in-Some.first.now)) c.in-Some-2.is c.in_ok-token.ensures.told in
    rw c.in-Some.ensures.cases.0 (inr (c.in-Some-2.token, refl, told))
