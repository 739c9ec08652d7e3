-- What steps stand for stays as a store grows.
use Rattle.std.proofs.Common.{◌≡◌, List, [], ◌∷◌, ◌++◌, length, get_or, take, inl, inr, refl, ap, ◌∙◌, arith}
use Rattle.std.proofs.lemmas.List.{length-append, take-append-le, get_or_append_left}
use Rattle.std.proofs.lemmas.Bool.{cases_lt}
use Rattle.std.proofs.Math.Seq.{take-append_seam, get_or-append_seam}
use Rattle.trees.specs.Tree.{Tree}
use Rattle.trees.specs.Node.{Grows}
use Rattle.tasks.specs.Task.{TaskTree}
use Rattle.tasks.specs.Meaning.{trees_at}
use Rattle.tasks.proofs.Growth.{map_agree, held_later, all_held_later, trees_later}
use Rattle.rules.specs.declared.rule.Step.{Step}
use Rattle.rules.specs.declared.rule.Rule.{Rule}
use Rattle.rules.specs.declared.rule.Rule.TheVariants.{Forall, NotExists, Cut, Refl, Replace, LetDef, IfDef, MatchDef, Fact, Def, Clause, Inv, Case, Project, Trichotomy, Bound}
use Rattle.rules.specs.Trees.{RuleTree, RForall, RNotExists, RCut, RRefl, RReplace, RLetDef, RIfDef, RMatchDef, RFact, RDef, RClause, RInv, RCase, RProject, RBound, StepTree, no_step, step_or}
use Rattle.kernel.specs.Right.{IsRight, AreRight}
use Rattle.rules.specs.Meaning.{rule_at, step_at, steps_at, RuleHeld, StepHeld, StepsHeld}

module _ (s s' : List Tree) (g : Grows s s') where
  pub rule_held_later : (r : Rule) → RuleHeld s r → RuleHeld s' r
  rule_held_later (Forall i e) h = held_later s s' g e h
  rule_held_later (NotExists i e) h = held_later s s' g e h
  rule_held_later (Cut e) h = held_later s s' g e h
  rule_held_later (Refl e) h = held_later s s' g e h
  rule_held_later (Replace i j e) h = held_later s s' g e h
  rule_held_later (LetDef e) h = held_later s s' g e h
  rule_held_later (IfDef e) h = held_later s s' g e h
  rule_held_later (MatchDef e) h = held_later s s' g e h
  rule_held_later (Fact k types) h = all_held_later s s' g types h
  rule_held_later (Def k types) h = all_held_later s s' g types h
  rule_held_later (Clause k c types) h = all_held_later s s' g types h
  rule_held_later (Inv k types) h = all_held_later s s' g types h
  rule_held_later (Case e) h = held_later s s' g e h
  rule_held_later (Project e) h = held_later s s' g e h
  rule_held_later (Trichotomy a b) h = (held_later s s' g a h.0, held_later s s' g b h.1)
  rule_held_later (Bound e n) h = held_later s s' g e h
  rule_held_later _ h = tt

  pub rule_later : (r : Rule) → RuleHeld s r → rule_at s' r ≡ rule_at s r
  rule_later (Forall i e) h = ap (λ (x : Tree). RForall i x) (g.same e.0 h)
  rule_later (NotExists i e) h = ap (λ (x : Tree). RNotExists i x) (g.same e.0 h)
  rule_later (Cut e) h = ap RCut (g.same e.0 h)
  rule_later (Refl e) h = ap RRefl (g.same e.0 h)
  rule_later (Replace i j e) h = ap (λ (x : Tree). RReplace i j x) (g.same e.0 h)
  rule_later (LetDef e) h = ap RLetDef (g.same e.0 h)
  rule_later (IfDef e) h = ap RIfDef (g.same e.0 h)
  rule_later (MatchDef e) h = ap RMatchDef (g.same e.0 h)
  rule_later (Fact k types) h = ap (λ (x : List Tree). RFact k x) (trees_later s s' g types h)
  rule_later (Def k types) h = ap (λ (x : List Tree). RDef k x) (trees_later s s' g types h)
  rule_later (Clause k c types) h = ap (λ (x : List Tree). RClause k c x) (trees_later s s' g types h)
  rule_later (Inv k types) h = ap (λ (x : List Tree). RInv k x) (trees_later s s' g types h)
  rule_later (Case e) h = ap RCase (g.same e.0 h)
  rule_later (Project e) h = ap RProject (g.same e.0 h)
  rule_later (Trichotomy a b) h = cc (g.same a.0 h.0, g.same b.0 h.1)
  rule_later (Bound e n) h = ap (λ (x : Tree). RBound x n) (g.same e.0 h)
  rule_later _ h = refl

  pub step_held_later : (st : Step) → StepHeld s st → StepHeld s' st
  step_held_later st h = record { sequent = all_held_later s s' g st.sequent h.sequent; rule = rule_held_later st.rule h.rule }

  pub step_later : (st : Step) → StepHeld s st → step_at s' st ≡ step_at s st
  step_later st h =
      let mk : List Tree → RuleTree → StepTree = λ q r. record { sequent = q; rule = r; premises = st.premises } in
      ap (λ q. mk q (rule_at s' st.rule)) (trees_later s s' g st.sequent h.sequent) ∙ ap (mk (trees_at s st.sequent)) (rule_later st.rule h.rule)

  pub steps_held_later : (steps : List Step) → StepsHeld s steps → StepsHeld s' steps
  steps_held_later steps a k d h = step_held_later _ (a k d h)

  pub steps_later : (steps : List Step) → StepsHeld s steps → steps_at s' steps ≡ steps_at s steps
  steps_later steps a = map_agree (step_at s') (step_at s) steps (λ k d h. step_later _ (a k d h))

-- a right step more
pub right_more : (t : TaskTree) (steps : List StepTree) (st : StepTree) → AreRight t steps → IsRight t steps st → AreRight t (steps ++ st ∷ [])
right_more t steps st a r k h =
    elim (cases_lt k (length steps)) [
      | inl l ↦ let e : take k (steps ++ st ∷ []) ≡ take k steps = take-append-le k steps (st ∷ []) (omega arith) in
          let f : step_or (steps ++ st ∷ []) k ≡ step_or steps k = get_or_append_left steps (st ∷ []) no_step k l in
          rw (e, f) (a k l)
      | inr l ↦ let n : k ≡ length steps = omega (arith, length-append steps (st ∷ [])) in
          let e : take k (steps ++ st ∷ []) ≡ steps = ap (λ z. take z (steps ++ st ∷ [])) n ∙ take-append_seam steps (st ∷ []) in
          let f : step_or (steps ++ st ∷ []) k ≡ st = ap (λ z. get_or (steps ++ st ∷ []) z no_step) n ∙ get_or-append_seam steps st [] no_step in
          rw (e, f) r
    ]
