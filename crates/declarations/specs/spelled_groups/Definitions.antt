-- The groups of definitions that aren't recursive, spelled out, say formulas, and say what they
-- are.
use Rattle.std.specs.Prelude.{◌≡◌, Bool, true, false, if◌then◌else◌, ℕ, suc, List, [], ◌∷◌, map, All, Some, None}
use Rattle.std.proofs.Common.{sym, subst, arith}
use Rattle.std.proofs.lemmas.List.Elements.{All-cons, All-nil}
use Rattle.trees.specs.Tree.{Tree}
use Rattle.tasks.specs.Task.{SymbolTree, DefinitionTree, BodyTree, MakesType, Makes, Defines, Induces, Constructs, Says, made_by}
use Rattle.tasks.specs.Facts.{FactTree, equation_fact}
use Rattle.tasks.specs.Vocabulary.{Vocabulary}
use Rattle.tasks.specs.Valid.{IsDefinition, IsValidBody}
use Rattle.declarations.specs.Rewritten.{AreUsable}
use Rattle.declarations.specs.spelled_groups.Spelled.{IsSpellable, IsSayable, PatternsAreUsable, IsSpelling, SaysFacts}
use Rattle.checks.specs.recursive_groups.Groups.{is_recursive}
use Rattle.declarations.specs.spelled_groups.Groups.{definition_facts}

chosen_facts : (b : Bool) (fs gs : List FactTree) → (if b then None else Some fs) ≡ Some gs
    → gs ≡ fs
chosen_facts true fs gs q = absurd (cc)
chosen_facts false fs gs q = cc

equations_sayable : (v : Vocabulary) (ds : List DefinitionTree) → All (IsDefinition v) ds
    → All (IsSayable v) (map (equation_fact v.symbols) ds)
equations_sayable v [] a = All-nil (IsSayable v)
equations_sayable v (d ∷ ds) a =
    All-cons (IsSayable v) (equation_fact v.symbols d) (map (equation_fact v.symbols) ds)
    (a 0 d (omega arith)).formula (equations_sayable v ds (λ k e l. a (suc k) e (omega arith)))

definitions_only : (symbols : List SymbolTree) (b : BodyTree) (fs : List FactTree)
    → definition_facts symbols b ≡ Some fs → IsSpellable b
definitions_only symbols (Defines ds) fs q = tt
definitions_only symbols (Induces is) fs q = tt
definitions_only symbols (MakesType k) fs q = absurd (cc)
definitions_only symbols (Makes k) fs q = absurd (cc)
definitions_only symbols (Constructs ts) fs q = absurd (cc)
definitions_only symbols (Says a) fs q = absurd (cc)

definitions_valid : (Small : Tree → Type 0) (v : Vocabulary) (vars : ℕ) (b : BodyTree)
    (fs : List FactTree) → PatternsAreUsable v → AreUsable v (made_by b) → IsValidBody v vars b
    → definition_facts v.symbols b ≡ Some fs → All (λ (x : FactTree). Small x.formula) fs
    → All (IsSayable v) fs
definitions_valid Small v vars (Defines ds) fs m u a q n =
    subst (All (IsSayable v))
    (sym (chosen_facts (is_recursive ds) (map (equation_fact v.symbols) ds) fs q))
    (equations_sayable v ds a)
definitions_valid Small v vars (Induces is) fs m u a q n = absurd (cc)
definitions_valid Small v vars (MakesType k) fs m u a q n = absurd (cc)
definitions_valid Small v vars (Makes k) fs m u a q n = absurd (cc)
definitions_valid Small v vars (Constructs ts) fs m u a q n = absurd (cc)
definitions_valid Small v vars (Says e) fs m u a q n = absurd (cc)

pub definitions_spelling : (Small : Tree → Type 0) → IsSpelling Small definition_facts
definitions_spelling Small = record { only = definitions_only; valid = definitions_valid Small }

pub definitions_say_facts : SaysFacts definition_facts
definitions_say_facts symbols n vars (Defines ds) fs q =
    chosen_facts (is_recursive ds) (map (equation_fact symbols) ds) fs q
definitions_say_facts symbols n vars (Induces is) fs q = absurd (cc)
definitions_say_facts symbols n vars (MakesType k) fs q = absurd (cc)
definitions_say_facts symbols n vars (Makes k) fs q = absurd (cc)
definitions_say_facts symbols n vars (Constructs ts) fs q = absurd (cc)
definitions_say_facts symbols n vars (Says e) fs q = absurd (cc)
