-- The trees of steps, one after another.
use Rattle.std.proofs.Common.{◌≡◌, ℕ, ◌+◌, ◌<◌, List, [], ◌∷◌, ◌++◌, take, length, get_or, All, Some, refl, sym, ap, subst, ◌∙◌, append_assoc, append-nil}
use Rattle.std.specs.Prelude.{flat_map}
use Rattle.std.proofs.lemmas.List.{take_more, map_push, map-append}
use Rattle.std.proofs.lemmas.List.Concat.{flat_map-append}
use Rattle.std.proofs.lemmas.List.Elements.{All-cons, All-nil, All-append}
use Rattle.kernel.specs.trees.declared.TermId.{TermId}
use Rattle.kernel.specs.trees.Tree.{Tree}
use Rattle.kernel.specs.trees.Node.{tree_at, Holds}
use Rattle.kernel.specs.tasks.Meaning.{trees_at}
use Rattle.kernel.specs.rules.declared.rule.Step.{Step}
use Rattle.kernel.specs.rules.Meaning.{rule_at, step_at, steps_at}
use Rattle.step_lines.specs.declared.rule_words.argument.Argument.{Argument}
use Rattle.step_lines.specs.declared.rule_words.name.RuleName.{RuleName}
use Rattle.step_lines.specs.rule_words.Arguments.{ArgumentTree, ANumber, ASymbol, AInteger, AExpression, AType, argument_at, arguments_at, ArgumentHeld, ArgumentsHeld}
use Rattle.step_lines.specs.rule_words.Rules.{rule_from}
use Rattle.step_writing.specs.Named.{trees_in, step_trees}
use Rattle.step_writing.proofs.RuleParts.{rule_parts}

-- one tree more
pub tree_pushed : (s : List Tree) (old new : List TermId) (id : TermId) → new ≡ old ++ id ∷ [] → trees_at s new ≡ trees_at s old ++ tree_at s id ∷ []
tree_pushed s old new id e = ap (trees_at s) e ∙ map_push (tree_at s) old id

pub held_pushed : (s : List Tree) (old new : List TermId) (id : TermId) → new ≡ old ++ id ∷ [] → All (Holds s) old → Holds s id → All (Holds s) new
held_pushed s old new id e a h = subst (All (Holds s)) (sym e) (All-append (Holds s) old (id ∷ []) a (All-cons (Holds s) id [] h (All-nil (Holds s))))

in_both : (xs bs : List ArgumentTree) → trees_in (xs ++ bs) ≡ trees_in xs ++ trees_in bs
in_both [] bs = refl
in_both (AExpression e ∷ xs) bs = ap (λ (l : List Tree). e ∷ l) (in_both xs bs)
in_both (AType y ∷ xs) bs = ap (λ (l : List Tree). y ∷ l) (in_both xs bs)
in_both (ANumber n ∷ xs) bs = in_both xs bs
in_both (ASymbol n ∷ xs) bs = in_both xs bs
in_both (AInteger n ∷ xs) bs = in_both xs bs

pub arguments_more : (s : List Tree) (args : List Argument) (i : ℕ) (d : Argument) (start old new : List Tree) → i < length args → old ≡ start ++ trees_in (arguments_at s (take i args)) → new ≡ old ++ trees_in (argument_at s (get_or args i d) ∷ []) → new ≡ start ++ trees_in (arguments_at s (take (i + 1) args))
arguments_more s args i d start old new lt e f =
    let a = get_or args i d in
    let all : arguments_at s (take (i + 1) args) ≡ arguments_at s (take i args) ++ argument_at s a ∷ [] = ap (arguments_at s) (take_more args i d lt) ∙ map_push (argument_at s) (take i args) a in
    f ∙ ap (λ (l : List Tree). l ++ trees_in (argument_at s a ∷ [])) e ∙ append_assoc start (trees_in (arguments_at s (take i args))) (trees_in (argument_at s a ∷ []))
    ∙ ap (λ (l : List Tree). start ++ l) (sym (ap trees_in all ∙ in_both (arguments_at s (take i args)) (argument_at s a ∷ [])))

pub arguments_held : (s : List Tree) (args : List Argument) → ArgumentsHeld s args → All (ArgumentHeld s) args
arguments_held s [] h = All-nil (ArgumentHeld s)
arguments_held s (a ∷ args) h = All-cons (ArgumentHeld s) a args h.0 (arguments_held s args h.1)

pub step_pushed : (s : List Tree) (st : Step) (name : RuleName) (args : List Argument) (start old new : List TermId) → old ≡ start ++ st.sequent → trees_at s new ≡ trees_at s old ++ trees_in (arguments_at s args) → rule_from name (arguments_at s args) ≡ Some (rule_at s st.rule) → trees_at s new ≡ trees_at s start ++ step_trees (step_at s st)
step_pushed s st name args start old new e f r =
    f ∙ ap (λ (l : List Tree). l ++ trees_in (arguments_at s args)) (ap (trees_at s) e ∙ map-append (tree_at s) start st.sequent) ∙ append_assoc (trees_at s start) (trees_at s st.sequent) (trees_in (arguments_at s args))
    ∙ ap (λ (l : List Tree). trees_at s start ++ (trees_at s st.sequent ++ l)) (rule_parts name (arguments_at s args) (rule_at s st.rule) r).trees

pub steps_more : (s : List Tree) (steps : List Step) (i : ℕ) (st : Step) (old new : List Tree) → i < length steps → st ≡ get_or steps i st → old ≡ flat_map step_trees (steps_at s (take i steps)) → new ≡ old ++ step_trees (step_at s st) → new ≡ flat_map step_trees (steps_at s (take (i + 1) steps))
steps_more s steps i st old new lt is e f =
    let all : steps_at s (take (i + 1) steps) ≡ steps_at s (take i steps) ++ step_at s st ∷ [] = ap (steps_at s) (take_more steps i st lt ∙ ap (λ (x : Step). take i steps ++ x ∷ []) (sym is)) ∙ map_push (step_at s) (take i steps) st in
    f ∙ ap (λ (l : List Tree). l ++ step_trees (step_at s st)) e
    ∙ sym (ap (flat_map step_trees) all ∙ flat_map-append step_trees (steps_at s (take i steps)) (step_at s st ∷ []) ∙ ap (λ (l : List Tree). flat_map step_trees (steps_at s (take i steps)) ++ l) (append-nil (step_trees (step_at s st))))
