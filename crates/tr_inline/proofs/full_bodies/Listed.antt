-- Definitions that are chosen, group by group.
use Rattle.std.proofs.Common.{◌≡◌, ℕ, ◌+◌, ◌<◌, ◌≤◌, Bool, true, false, if◌then◌else◌, List, [], ◌∷◌, ◌++◌, map, length, get_or, drop, All, subst, refl, sym, ap, ◌∙◌, append_assoc}
use Rattle.std.proofs.lemmas.List.{at_drop_more, at_drop_all, append-nil, map-append}
use Rattle.std.proofs.lemmas.List.Elements.{All-push}
use Rattle.trees.specs.Tree.{Tree}
use Rattle.trees.specs.Node.{Holds}
use Rattle.tasks.specs.declared.declaration.Def.{Def}
use Rattle.tasks.specs.declared.declaration.Decl.{Decl}
use Rattle.tasks.specs.declared.declaration.Body.{Body}
use Rattle.tasks.specs.declared.declaration.Body.TheVariants.{Defs}
use Rattle.tasks.specs.Task.{DefinitionTree, BodyTree, Defines, DeclarationTree}
use Rattle.tasks.specs.Meaning.{definition_at, definitions_at, body_at, declaration_at, declarations_at}
use Rattle.inlining.specs.declared.modes.InlineMode.{InlineMode}
use Rattle.inlining.specs.declared.modes.InlineMode.TheVariants as mode
use Rattle.inlining.specs.Inlining.{is_trivial, plain_definitions, all_definitions, trivial_definitions, inlined_definitions}
use Rattle.checks.specs.recursive_groups.Groups.{is_recursive}
use Rattle.checks.specs.decl_checks.Structure.{defining_body}
use Rattle.tr_inline.specs.full_bodies.Chosen.{is_chosen, chosen}
use Rattle.tr_inline.specs.full_bodies.Listed.{AreDefsHeld, AreAppended}

-- ---- which are chosen
pick_joined : (t : Bool) (d : DefinitionTree) (xs ys : List DefinitionTree) → (if t then d ∷ (xs ++ ys) else xs ++ ys) ≡ (if t then d ∷ xs else xs) ++ ys
pick_joined true d xs ys = refl
pick_joined false d xs ys = refl

pub chosen_joined : (m : InlineMode) (xs ys : List DefinitionTree) → chosen m (xs ++ ys) ≡ chosen m xs ++ chosen m ys
chosen_joined m [] ys = refl
chosen_joined m (d ∷ xs) ys =
    ap (λ (z : List DefinitionTree). if is_chosen m (defining_body d.equation) then d ∷ z else z) (chosen_joined m xs ys) ∙ pick_joined (is_chosen m (defining_body d.equation)) d (chosen m xs) (chosen m ys)

trivial_chosen : (ds : List DefinitionTree) → chosen mode.Trivial ds ≡ trivial_definitions ds
trivial_chosen [] = refl
trivial_chosen (d ∷ ds) = ap (λ (z : List DefinitionTree). if is_trivial (defining_body d.equation) then d ∷ z else z) (trivial_chosen ds)

goal_chosen : (ds : List DefinitionTree) → chosen mode.Goal ds ≡ ds
goal_chosen [] = refl
goal_chosen (d ∷ ds) = ap (λ (z : List DefinitionTree). d ∷ z) (goal_chosen ds)

all_chosen : (ds : List DefinitionTree) → chosen mode.All ds ≡ ds
all_chosen [] = refl
all_chosen (d ∷ ds) = ap (λ (z : List DefinitionTree). d ∷ z) (all_chosen ds)

pub chosen_inlined : (m : InlineMode) (ds : List DeclarationTree) → chosen m (all_definitions ds) ≡ inlined_definitions m ds
chosen_inlined mode.Trivial ds = trivial_chosen (all_definitions ds)
chosen_inlined mode.Goal ds = goal_chosen (all_definitions ds)
chosen_inlined mode.All ds = all_chosen (all_definitions ds)

-- ---- a group
plain_group : (m : InlineMode) (ds : List DefinitionTree) → is_recursive ds ≡ false → chosen m (plain_definitions (Defines ds)) ≡ chosen m ds
plain_group m ds q = ap (λ (b : Bool). chosen m (if b then [] else ds)) q

recursive_group : (m : InlineMode) (ds : List DefinitionTree) → is_recursive ds ≡ true → chosen m (plain_definitions (Defines ds)) ≡ []
recursive_group m ds q = ap (λ (b : Bool). chosen m (if b then [] else ds)) q

-- ---- lists in a store
module _ (s : List Tree) (m : InlineMode) where
  pub appended_none : (old : List Def) → AreDefsHeld s old → AreAppended s [] old old
  appended_none old h = record { held = h; are = sym (append-nil (definitions_at s old)) }

  pub appended_as : (xs ys : List DefinitionTree) (old new : List Def) → xs ≡ ys → AreAppended s xs old new → AreAppended s ys old new
  appended_as xs ys old new q a = subst (λ (z : List DefinitionTree). AreAppended s z old new) q a

  pub appended_one : (d : Def) (old new : List Def) → new ≡ old ++ d ∷ [] → Holds s d.equation → AreDefsHeld s old → is_chosen m (defining_body (definition_at s d).equation) ≡ true → AreAppended s (chosen m (definition_at s d ∷ [])) old new
  appended_one d old new q h a is =
      let one : chosen m (definition_at s d ∷ []) ≡ definition_at s d ∷ [] = ap (λ (b : Bool). if b then definition_at s d ∷ [] else []) is in
      appended_as (definition_at s d ∷ []) (chosen m (definition_at s d ∷ [])) old new (sym one)
      (record { held = subst (AreDefsHeld s) (sym q) (All-push (λ (x : Def). Holds s x.equation) old d a h); are = ap (definitions_at s) q ∙ map-append (definition_at s) old (d ∷ []) })

  pub appended_no : (d : Def) (old : List Def) → AreDefsHeld s old → is_chosen m (defining_body (definition_at s d).equation) ≡ false → AreAppended s (chosen m (definition_at s d ∷ [])) old old
  appended_no d old a is = appended_as [] (chosen m (definition_at s d ∷ [])) old old (sym (ap (λ (b : Bool). if b then definition_at s d ∷ [] else []) is)) (appended_none old a)

  pub group_appended : (ds : List Def) (b : BodyTree) (old new : List Def) → b ≡ Defines (definitions_at s ds) → is_recursive (definitions_at s ds) ≡ false → AreAppended s (chosen m (definitions_at s ds)) old new → AreAppended s (chosen m (plain_definitions b)) old new
  group_appended ds b old new q r a =
      appended_as (chosen m (definitions_at s ds)) (chosen m (plain_definitions b)) old new (sym (plain_group m (definitions_at s ds) r) ∙ ap (λ (z : BodyTree). chosen m (plain_definitions z)) (sym q)) a

  pub recursive_left : (ds : List Def) (b : BodyTree) (old : List Def) → b ≡ Defines (definitions_at s ds) → is_recursive (definitions_at s ds) ≡ true → AreDefsHeld s old → AreAppended s (chosen m (plain_definitions b)) old old
  recursive_left ds b old q r a =
      appended_as [] (chosen m (plain_definitions b)) old old (sym (recursive_group m (definitions_at s ds) r) ∙ ap (λ (z : BodyTree). chosen m (plain_definitions z)) (sym q)) (appended_none old a)

  pub other_left : (b : Body) → ((ds : List Def) → b ≡ Defs ds → ⊥) → (old : List Def) → AreDefsHeld s old → AreAppended s (chosen m (plain_definitions (body_at s b))) old old
  other_left (Defs ds) n old a = absurd (n ds refl)
  other_left _ n old a = appended_none old a

  -- one more of a list that is read from its start
  module _ {X : Type 0} (f : List X → List DefinitionTree) where
    pub listed_more : (one : X → List DefinitionTree) → ((x : X) (xs : List X) → f (x ∷ xs) ≡ one x ++ f xs) → (xs : List X) (i : ℕ) (d : X) → i < length xs → (old new : List Def) (all : List DefinitionTree) → definitions_at s new ≡ definitions_at s old ++ one (get_or xs i d)
        → definitions_at s old ++ f (drop i xs) ≡ all → definitions_at s new ++ f (drop (i + 1) xs) ≡ all
    listed_more one step xs i d l old new all e k =
        let rest = f (drop (i + 1) xs) in
        ap (λ (z : List DefinitionTree). z ++ rest) e ∙ append_assoc (definitions_at s old) (one (get_or xs i d)) rest
        ∙ ap (λ (z : List DefinitionTree). definitions_at s old ++ z) (sym (at_drop_more f xs i d l ∙ step (get_or xs i d) (drop (i + 1) xs))) ∙ k

    pub listed_all : f [] ≡ [] → (xs : List X) (i : ℕ) → length xs ≤ i → (old : List Def) (all : List DefinitionTree) → definitions_at s old ++ f (drop i xs) ≡ all → definitions_at s old ≡ all
    listed_all e xs i l old all k =
        sym (append-nil (definitions_at s old)) ∙ ap (λ (z : List DefinitionTree). definitions_at s old ++ z) (sym e) ∙ sym (at_drop_all (λ (zs : List X). definitions_at s old ++ f zs) xs i l) ∙ k

  pub definition_step : (x : Def) (xs : List Def) → chosen m (definitions_at s (x ∷ xs)) ≡ chosen m (definition_at s x ∷ []) ++ chosen m (definitions_at s xs)
  definition_step x xs = chosen_joined m (definition_at s x ∷ []) (definitions_at s xs)

  pub declaration_step : (x : Decl) (xs : List Decl) → chosen m (all_definitions (declarations_at s (x ∷ xs))) ≡ chosen m (plain_definitions (body_at s x.body)) ++ chosen m (all_definitions (declarations_at s xs))
  declaration_step x xs = chosen_joined m (plain_definitions (body_at s x.body)) (all_definitions (declarations_at s xs))
