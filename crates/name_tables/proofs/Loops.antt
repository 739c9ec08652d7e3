-- Loops that gather, one step on.
use Rattle.std.proofs.Common.{◌≡◌, ℕ, ◌<◌, ◌+◌, List, [], ◌∷◌, ◌++◌, length, get_or, take, refl, sym, ap, ◌∙◌}
use Rattle.std.specs.List.{flat_map}
use Rattle.std.proofs.lemmas.List.{append-nil, append_assoc, map_more}
use Rattle.trees.specs.Tree.{Tree}
use Rattle.tasks.specs.declared.declaration.Decl.{Decl}
use Rattle.tasks.specs.Task.{BodyTree, MakesType, Makes, Defines, Induces, Constructs, Says, DeclarationTree, PropositionTree, TaskTree, props_of, said_by}
use Rattle.trees.specs.declared.TermId.{TermId}
use Rattle.trees.specs.Node.{tree_at}
use Rattle.tasks.specs.declared.task.Task.{Task}
use Rattle.tasks.specs.Meaning.{trees_at, declaration_at, declarations_at, task_at}
use Rattle.name_tables.specs.Occurrences.{Occurrence, in_type, occurrences, in_proposition, task_occurrences}
use Rattle.name_tables.specs.Own.{said_occurrences}
use Rattle.name_tables.specs.Fronts.{declared_occurrences, rest_occurrences}
use Rattle.name_tables.specs.Seen.{seen_occurrences, with_all, Sees, WalksTerms, GainsKeys}
use Rattle.name_tables.proofs.Steps.{gains_then, sees_then, walks_then, walks_sees}

pub said_first : (d : DeclarationTree) (b : BodyTree) (more : List PropositionTree) → flat_map in_proposition (said_by d b ++ more) ≡ said_occurrences b ++ flat_map in_proposition more
said_first d (Says e) more = refl
said_first d (MakesType k) more = refl
said_first d (Makes k) more = refl
said_first d (Defines ds) more = refl
said_first d (Induces is) more = refl
said_first d (Constructs ts) more = refl

propositions_push : (ds : List DeclarationTree) (d : DeclarationTree) → declared_occurrences (ds ++ d ∷ []) ≡ declared_occurrences ds ++ said_occurrences d.body
propositions_push [] d = said_first d d.body [] ∙ append-nil (said_occurrences d.body)
propositions_push (x ∷ xs) d =
    said_first x x.body (props_of (xs ++ d ∷ [])) ∙ ap (λ z. said_occurrences x.body ++ z) (propositions_push xs d) ∙ sym (append_assoc (said_occurrences x.body) (declared_occurrences xs) (said_occurrences d.body)) ∙ ap (λ z. z ++ said_occurrences d.body) (sym (said_first x x.body (props_of xs)))

pub propositions_more : (s : List Tree) (ds : List Decl) (i : ℕ) (d : Decl) → i < length ds → declared_occurrences (declarations_at s (take (i + 1) ds)) ≡ declared_occurrences (declarations_at s (take i ds)) ++ said_occurrences (declaration_at s (get_or ds i d)).body
propositions_more s ds i d h = ap declared_occurrences (map_more (declaration_at s) ds i d h) ∙ propositions_push (declarations_at s (take i ds)) (declaration_at s (get_or ds i d))

module _ (s : List Tree) where
  pub gains_step : (a b c : List (ℕ × ℕ)) (old one new : List Occurrence) → new ≡ old ++ one → GainsKeys s a old b → GainsKeys s b one c → GainsKeys s a new c
  gains_step a b c old one new e h k = rw e (gains_then s a b c old one h k)

  pub sees_step : (a b c : List (ℕ × ℕ)) (old one new : List Occurrence) → new ≡ old ++ one → Sees s a old b → Sees s b one c → Sees s a new c
  sees_step a b c old one new e h k = rw e (sees_then s a b c old one h k)

  pub walks_step : (a b c : List (ℕ × ℕ)) (d f : List ℕ) (old one new : List Occurrence) → new ≡ old ++ one → WalksTerms s a old b d → WalksTerms s b one c f → WalksTerms s a new c f
  walks_step a b c d f old one new e h k = rw e (walks_then s a b c d f old one h k)

-- what was gathered from a task: from its declarations, and then from the rest
pub task_gathered : (s : List Tree) (t : TaskTree) (a b : List (ℕ × ℕ)) → Sees s [] (declared_occurrences t.decls) a → Sees s a (rest_occurrences t) b → GainsKeys s [] (task_occurrences t) b
task_gathered s t a b h k = let both = sees_then s [] a b (declared_occurrences t.decls) (rest_occurrences t) h k in record { held = both.seen.held; is = both.is }

pub rest_gathered : (s : List Tree) (t : Task) (ps ls : List TermId) (a b c d : List (ℕ × ℕ)) (ids jds : List ℕ) → ps ≡ t.params → ls ≡ t.locals
    → Sees s a (flat_map in_type (trees_at s ps)) b → WalksTerms s b (flat_map occurrences (trees_at s ls)) c ids → WalksTerms s c (occurrences (tree_at s t.goal)) d jds → Sees s a (rest_occurrences (task_at s t)) d
rest_gathered s t ps ls a b c d ids jds p l h k g =
    let all = sees_then s a b d _ _ h (sees_then s b c d _ _ (walks_sees s b c ids _ k) (walks_sees s c d jds _ g)) in
    record {
      seen = all.seen;
      is = all.is ∙ (λ i. with_all (seen_occurrences s a) (flat_map in_type (trees_at s (p i)) ++ (flat_map occurrences (trees_at s (l i)) ++ occurrences (tree_at s t.goal))));
    }
