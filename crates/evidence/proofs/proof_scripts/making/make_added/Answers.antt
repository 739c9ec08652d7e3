use Rattle.std.proofs.Common.{◌≡◌, List, Some, subst, ap, ◌∙◌, arith}
use Rattle.std.proofs.lemmas.List.{length-map}
use Rattle.trees.specs.declared.TermId.{TermId}
use Rattle.trees.specs.Tree.{Tree}
use Rattle.trees.specs.Node.{tree_at}
use Rattle.tasks.specs.Meaning.{trees_at}
use Rattle.evidence.specs.Drafts.{DraftTree}
use Rattle.evidence.specs.declared.proof_scripts.line.Word.{Word}
use Rattle.evidence.specs.proof_scripts.Scripts.{word_rule, WordHeld, adds, IsOfTail}
use Rattle.evidence.specs.proof_scripts.Added.{IsAdded}
use Rattle.evidence.proofs.proof_scripts.Made.{made_added}
use Rattle.evidence.proofs.proof_scripts.Placed.{universal_place, existential_place, not_universal_place, not_existential_place, sides_place}
use Rattle.evidence.proofs.proof_scripts.Adding.{forall_for, forall_added, exists_added, not_exists_for, not_exists_added, not_forall_added, let_added, if_added}
use Rattle.evidence.proofs.proof_scripts.making.make_added.Goals as goal

rule_at : (d : DraftTree) (T : List Tree) (w v : Word) → w ≡ v → IsOfTail d.task T (word_rule d.trees w) → IsOfTail d.task T (word_rule d.trees v)
rule_at d T w v e h = subst (λ (z : Word). IsOfTail d.task T (word_rule d.trees z)) e h

held_at : (s : List Tree) (w v : Word) → w ≡ v → WordHeld s w → WordHeld s v
held_at s w v e h = subst (WordHeld s) e h

added_at_word : (d d1 : DraftTree) (T : List Tree) (w v : Word) (id : TermId) → w ≡ v → IsAdded d1 id (adds T (word_rule d.trees v)) → IsAdded d1 id (adds T (word_rule d.trees w))
added_at_word d d1 T w v id e h = rw e h

pub at_place-requires-in-Forall : goal.at_place-requires-in-Forall
at_place-requires-in-Forall c =
    let d = c.args.draft.now in
    let T = trees_at d.trees c.args.tail.now in
    let h = rule_at d T c.args.word _ c.in-Forall.is c.requires.rule in
    omega (arith, universal_place T c.in-Forall.i _ h.row, length-map c.args.tail.now (tree_at d.trees))

pub at_place-requires-in-NotExists : goal.at_place-requires-in-NotExists
at_place-requires-in-NotExists c =
    let d = c.args.draft.now in
    let T = trees_at d.trees c.args.tail.now in
    let h = rule_at d T c.args.word _ c.in-NotExists.is c.requires.rule in
    omega (arith, not_existential_place T c.in-NotExists.i _ h.row, length-map c.args.tail.now (tree_at d.trees))

pub at_place-requires-in-Exists : goal.at_place-requires-in-Exists
at_place-requires-in-Exists c =
    let d = c.args.draft.now in
    let T = trees_at d.trees c.args.tail.now in
    let h = rule_at d T c.args.word _ c.in-Exists.is c.requires.rule in
    omega (arith, existential_place T c.in-Exists.i _ h.row, length-map c.args.tail.now (tree_at d.trees))

pub at_place-requires-in-NotForall : goal.at_place-requires-in-NotForall
at_place-requires-in-NotForall c =
    let d = c.args.draft.now in
    let T = trees_at d.trees c.args.tail.now in
    let h = rule_at d T c.args.word _ c.in-NotForall.is c.requires.rule in
    omega (arith, not_universal_place T c.in-NotForall.i _ h.row, length-map c.args.tail.now (tree_at d.trees))

pub at_place-requires-in-Replace : goal.at_place-requires-in-Replace
at_place-requires-in-Replace c =
    let d = c.args.draft.now in
    let T = trees_at d.trees c.args.tail.now in
    let h = rule_at d T c.args.word _ c.in-Replace.is c.requires.rule in
    omega (arith, sides_place T c.in-Replace.i _ h.row, length-map c.args.tail.now (tree_at d.trees))

pub make_body-requires-clause-term : goal.make_body-requires-clause-term
make_body-requires-clause-term c =
    let d = c.args.draft.now in
    let T = trees_at d.trees c.args.tail.now in
    let h = rule_at d T c.args.word _ c.in-Forall.is c.requires.rule in
    forall_for d T c.in-Forall.i _ c.in-Forall.t (c.at_place-in-Forall.ensures.is d.trees) (held_at d.trees c.args.word _ c.in-Forall.is c.requires.held) h

pub returns-in-Forall-clause-added : goal.returns-in-Forall-clause-added
returns-in-Forall-clause-added c =
    let d = c.args.draft.now in
    let T = trees_at d.trees c.args.tail.now in
    let h = rule_at d T c.args.word _ c.in-Forall.is c.requires.rule in
    made_added c.make_body.result c.make_body.new.draft _ _ c.make_body.ensures.formula c.make_body.ensures.tree (λ id f b. added_at_word d c.make_body.new.draft T c.args.word _ id c.in-Forall.is (forall_added d T c.in-Forall.i _ c.in-Forall.t c.make_body.new.draft id (c.at_place-in-Forall.ensures.is d.trees) h f b))

pub make_negated_body-requires-clause-term : goal.make_negated_body-requires-clause-term
make_negated_body-requires-clause-term c =
    let d = c.args.draft.now in
    let T = trees_at d.trees c.args.tail.now in
    let h = rule_at d T c.args.word _ c.in-NotExists.is c.requires.rule in
    not_exists_for d T c.in-NotExists.i _ c.in-NotExists.t (c.at_place-in-NotExists.ensures.is d.trees ∙ ap (λ (z : Tree). Some z) c.under_not-in-NotExists.ensures.tree) (held_at d.trees c.args.word _ c.in-NotExists.is c.requires.held) h

pub returns-in-NotExists-clause-added : goal.returns-in-NotExists-clause-added
returns-in-NotExists-clause-added c =
    let d = c.args.draft.now in
    let T = trees_at d.trees c.args.tail.now in
    let h = rule_at d T c.args.word _ c.in-NotExists.is c.requires.rule in
    let e = c.at_place-in-NotExists.ensures.is d.trees ∙ ap (λ (z : Tree). Some z) c.under_not-in-NotExists.ensures.tree in
    made_added c.make_negated_body.result c.make_negated_body.new.draft _ _ c.make_negated_body.ensures.formula c.make_negated_body.ensures.tree (λ id f b. added_at_word d c.make_negated_body.new.draft T c.args.word _ id c.in-NotExists.is (not_exists_added d T c.in-NotExists.i _ c.in-NotExists.t c.make_negated_body.new.draft id e h f b))

pub returns-in-NotForall-clause-added : goal.returns-in-NotForall-clause-added
returns-in-NotForall-clause-added c =
    let d = c.args.draft.now in
    let T = trees_at d.trees c.args.tail.now in
    let h = rule_at d T c.args.word _ c.in-NotForall.is c.requires.rule in
    let e = c.at_place-in-NotForall.ensures.is d.trees ∙ ap (λ (z : Tree). Some z) c.under_not-in-NotForall.ensures.tree in
    made_added c.make_negated_new_body.result c.make_negated_new_body.new.draft _ _ c.make_negated_new_body.ensures.formula c.make_negated_new_body.ensures.tree (λ id f b. added_at_word d c.make_negated_new_body.new.draft T c.args.word _ id c.in-NotForall.is (not_forall_added d T c.in-NotForall.i _ c.in-NotForall.n c.make_negated_new_body.new.draft id e h f b))

pub returns-in-Exists-clause-added : goal.returns-in-Exists-clause-added
returns-in-Exists-clause-added c =
    let d = c.args.draft.now in
    let T = trees_at d.trees c.args.tail.now in
    let h = rule_at d T c.args.word _ c.in-Exists.is c.requires.rule in
    made_added c.make_new_body.result c.make_new_body.new.draft _ _ c.make_new_body.ensures.formula c.make_new_body.ensures.tree (λ id f b. added_at_word d c.make_new_body.new.draft T c.args.word _ id c.in-Exists.is (exists_added d T c.in-Exists.i _ c.in-Exists.n c.make_new_body.new.draft id (c.at_place-in-Exists.ensures.is d.trees) h f b))

pub returns-in-IfDef-clause-added : goal.returns-in-IfDef-clause-added
returns-in-IfDef-clause-added c =
    let d = c.args.draft.now in
    let T = trees_at d.trees c.args.tail.now in
    made_added c.make_if_equation.result c.make_if_equation.new.draft _ _ c.make_if_equation.ensures.formula c.make_if_equation.ensures.tree (λ id f b. added_at_word d c.make_if_equation.new.draft T c.args.word _ id c.in-IfDef.is (if_added d T c.in-IfDef.e c.make_if_equation.new.draft id f b))

pub returns-in-LetDef-clause-added : goal.returns-in-LetDef-clause-added
returns-in-LetDef-clause-added c =
    let d = c.args.draft.now in
    let T = trees_at d.trees c.args.tail.now in
    made_added c.make_let_equation.result c.make_let_equation.new.draft _ _ c.make_let_equation.ensures.formula c.make_let_equation.ensures.tree (λ id f b. added_at_word d c.make_let_equation.new.draft T c.args.word _ id c.in-LetDef.is (let_added d T c.in-LetDef.e c.make_let_equation.new.draft id f b))
