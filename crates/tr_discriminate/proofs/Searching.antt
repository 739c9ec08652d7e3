-- One declaration after the other is asked for a proposition of which a formula is an instance; types are noted in a store.
use Rattle.std.proofs.Common.{◌≡◌, ◌≢◌, ◌↔◌, inl, inr, ◌+◌, ℕ, zero, suc, Bool, true, false, IsTrue, if◌then◌else◌, List, [], ◌∷◌, ◌++◌, length, slice_get, All, Option, Some, IsSomeAnd, refl, sym, ap, subst, ◌∙◌, arith}
use Rattle.std.specs.Prelude.{set}
use Rattle.std.proofs.lemmas.List.{map-set}
use Rattle.std.proofs.lemmas.List.Elements.{All-cons, All-nil}
use Rattle.tasks.specs.trees.declared.TermId.{TermId}
use Rattle.tasks.specs.trees.declared.Node.{Node}
use Rattle.tasks.specs.trees.declared.Node.TheVariants.{TyVar}
use Rattle.tasks.specs.trees.declared.Sort.{Sort}
use Rattle.tasks.specs.trees.declared.Sort.TheVariants as sort
use Rattle.tasks.specs.trees.Tree.{Tree}
use Rattle.tasks.specs.trees.Sorts.{sort_of, int_type}
use Rattle.tasks.specs.trees.Binding.{inst_types}
use Rattle.tasks.specs.trees.Node.{tree_at, node_tree, Holds}
use Rattle.tasks.specs.declared.declaration.Decl.{Decl}
use Rattle.tasks.specs.declared.declaration.Body.{Body}
use Rattle.tasks.specs.declared.declaration.Body.TheVariants.{TypeSymbol, Symbol, Defs, Inductives, Algebraics, Prop}
use Rattle.tasks.specs.declared.facts.Fact.TheVariants as fact
use Rattle.tasks.specs.declared.task.Task.{Task}
use Rattle.tasks.specs.Task.{DeclarationTree, TaskTree, PropositionTree, said_by, props, props_of}
use Rattle.tasks.specs.Meaning.{trees_at, body_at, declaration_at, declarations_at}
use Rattle.tasks.specs.Vocabulary.{Vocabulary, of_task}
use Rattle.tasks.specs.Typing.{TypedUnder}
use Rattle.tasks.specs.Valid.{VariablesBelow, IsTypeIn}
use Rattle.evidence.specs.Drafts.{DraftTree, IsFormulaAt}
use Rattle.evidence.specs.Facts.{IsFact}
use Rattle.evidence.specs.Stages.{IsOwnTask}
use Rattle.tr_discriminate.specs.wanted_instances.lemmas.Kept.{int_good}
use Rattle.trees.specs.binders.Visits.{HoldTypes}
use Rattle.tr_discriminate.specs.instance_sets.Made.{IsTypeTree}
use Rattle.tr_discriminate.specs.Found.{is_type_sort, type_noted, tree_noted, types_found, ints}
use Rattle.tr_discriminate.specs.Origins.{IsTypeInstance, IsSaidInstance, HasOrigin, IsInstanceThere, AreFrom}
use Rattle.tr_discriminate.proofs.Found.{instance_again, found_long, ints_long, ints_good, found_good}

-- ---- types in a store
pub hold_set : (s : List Tree) (ids : List TermId) (j : ℕ) (e : TermId) → Holds s e → IsTypeTree (tree_at s e) → HoldTypes s ids → HoldTypes s (set ids j e)
hold_set s [] j e h k a = tt
hold_set s (id ∷ ids) zero e h k a = ((h, k), a.1)
hold_set s (id ∷ ids) (suc j) e h k a = (a.0, hold_set s ids j e h k a.1)

pub hold_push : (s : List Tree) (ids : List TermId) (e : TermId) → Holds s e → IsTypeTree (tree_at s e) → HoldTypes s ids → HoldTypes s (ids ++ e ∷ [])
hold_push s [] e h k a = ((h, k), tt)
hold_push s (id ∷ ids) e h k a = (a.0, hold_push s ids e h k a.1)

pub holds_all : (s : List Tree) (ids : List TermId) → HoldTypes s ids → All (Holds s) ids
holds_all s [] h = All-nil (Holds s)
holds_all s (id ∷ ids) h = All-cons (Holds s) id ids h.0.0 (holds_all s ids h.1)

pub noted_set : (s : List Tree) (ids : List TermId) (j : ℕ) (e : TermId) → sort_of (tree_at s e) ≡ sort.Kind → trees_at s (set ids j e) ≡ type_noted j (tree_at s e) (trees_at s ids)
noted_set s ids j e k = map-set (tree_at s) ids j e ∙ sym (ap (λ (b : Sort). if is_type_sort b then set (trees_at s ids) j (tree_at s e) else trees_at s ids) k)

no_type : (k : Sort) → k ≢ sort.Kind → is_type_sort k ≡ false
no_type sort.Kind n = absurd (n refl)
no_type _ n = refl

pub noted_other : (j : ℕ) (e : Tree) (tys : List Tree) → sort_of e ≢ sort.Kind → type_noted j e tys ≡ tys
noted_other j e tys n = ap (λ (b : Bool). if b then set tys j e else tys) (no_type (sort_of e) n)

pub not_noted : (s : List Tree) (n : Node) (e : Tree) (tys : List Tree) → ((j : ℕ) → n ≢ TyVar j) → tree_noted (node_tree s n) e tys ≡ tys
not_noted s (TyVar j) e tys n = absurd (n j refl)
not_noted s _ e tys n = refl

ints_push : (n : ℕ) → ints n ++ int_type ∷ [] ≡ ints (suc n)
ints_push zero = refl
ints_push (suc n) = ap (λ (z : List Tree). int_type ∷ z) (ints_push n)

pub ints_more : (n m : ℕ) → m ≡ suc n → ints n ++ int_type ∷ [] ≡ ints m
ints_more n m e = ints_push n ∙ ap ints (sym e)

-- ---- declarations
module _ (s : List Tree) (e : Tree) where
  other_none : (vars : ℕ) (b : Body) → ((a : TermId) → b ≢ Prop a) → IsSaidInstance vars (body_at s b) e → ⊥
  other_none vars (Prop a) n h = n a refl
  other_none vars (TypeSymbol k) n h = h
  other_none vars (Symbol k) n h = h
  other_none vars (Defs ds) n h = h
  other_none vars (Inductives is) n h = h
  other_none vars (Algebraics ts) n h = h

  other_says : (d : Decl) (b : Body) → ((a : TermId) → b ≢ Prop a) → said_by (declaration_at s d) (body_at s b) ≡ []
  other_says d (Prop a) n = absurd (n a refl)
  other_says d (TypeSymbol k) n = refl
  other_says d (Symbol k) n = refl
  other_says d (Defs ds) n = refl
  other_says d (Inductives is) n = refl
  other_says d (Algebraics ts) n = refl

  module _ (d : Decl) (ds : List Decl) where
    pub after_other : ((a : TermId) → d.body ≢ Prop a) → HasOrigin (declarations_at s (d ∷ ds)) e → HasOrigin (declarations_at s ds) e
    after_other n (inl h) = absurd (other_none d.vars d.body n h)
    after_other n (inr h) = h

    pub from_other : ((a : TermId) → d.body ≢ Prop a) → (ps : List PropositionTree) (place : ℕ) → AreFrom ps place (props_of (declarations_at s (d ∷ ds))) → AreFrom ps place (props_of (declarations_at s ds))
    from_other n ps place h k = h k ∙ ap (λ (z : List PropositionTree). slice_get (z ++ props_of (declarations_at s ds)) k) (other_says d d.body n)

    module _ (a : TermId) (q : d.body ≡ Prop a) where
      abbrev said : PropositionTree
      said = record { vars = d.vars; formula = tree_at s a }

      props_first : props_of (declarations_at s (d ∷ ds)) ≡ said ∷ props_of (declarations_at s ds)
      props_first = ap (λ (b : Body). said_by (declaration_at s d) (body_at s b) ++ props_of (declarations_at s ds)) q

      missed : (r : Bool) (tys : List Tree) → IsTrue r ↔ (e ≡ inst_types (tree_at s a) tys) → r ≡ false → tys ≡ types_found (tree_at s a) e (ints d.vars) → IsTypeInstance d.vars (tree_at s a) e → ⊥
      missed r tys t f g i =
          let below = subst (λ (n : ℕ). VariablesBelow n (tree_at s a)) (sym (ints_long d.vars)) i.variables in
          let again : e ≡ inst_types (tree_at s a) tys = instance_again i.types i.kinds (tree_at s a) e (ints d.vars) below i.is ∙ ap (inst_types (tree_at s a)) (sym g) in
          let yes : r ≡ true = t.1 again in
          absurd (let both : true ≡ false = sym yes ∙ f in cc)

      pub after_missed : (r : Bool) (tys : List Tree) → IsTrue r ↔ (e ≡ inst_types (tree_at s a) tys) → r ≡ false → tys ≡ types_found (tree_at s a) e (ints d.vars) → HasOrigin (declarations_at s (d ∷ ds)) e → HasOrigin (declarations_at s ds) e
      after_missed r tys t f g (inl h) = absurd (missed r tys t f g (subst (λ (b : Body). IsSaidInstance d.vars (body_at s b) e) q h))
      after_missed r tys t f g (inr h) = h

      pub from_next : (ps : List PropositionTree) (place : ℕ) → AreFrom ps place (props_of (declarations_at s (d ∷ ds))) → AreFrom ps (place + 1) (props_of (declarations_at s ds))
      from_next ps place h k =
          let e : (place + 1) + k ≡ place + suc k = omega arith in
          ap (slice_get ps) e ∙ h (suc k) ∙ ap (λ (z : List PropositionTree). slice_get z (suc k)) props_first

      pub instance_here : (r : Bool) (tys : List Tree) → IsTrue r ↔ (e ≡ inst_types (tree_at s a) tys) → r ≡ true → tys ≡ types_found (tree_at s a) e (ints d.vars) → (ps : List PropositionTree) (place : ℕ) → AreFrom ps place (props_of (declarations_at s (d ∷ ds))) → IsInstanceThere ps place tys e
      instance_here r tys t f g ps place h =
          let z : place ≡ place + 0 = omega arith in
          let there : slice_get ps place ≡ Some said = ap (slice_get ps) z ∙ h 0 ∙ ap (λ (l : List PropositionTree). slice_get l 0) props_first in
          let long : length tys ≡ d.vars = ap length g ∙ found_long (tree_at s a) e (ints d.vars) ∙ ints_long d.vars in
          subst (λ (o : Option PropositionTree). IsSomeAnd o (λ p. (length tys ≡ p.vars) × (e ≡ inst_types p.formula tys))) (sym there) (long, t.0 f)

-- ---- what is cited
pub origin_here : (d : DraftTree) (from : Task) → IsOwnTask d from → (ds : List Decl) → ds ≡ from.decls → (e : Tree) → HasOrigin d.task.decls e → HasOrigin (declarations_at d.trees ds) e
origin_here d from own ds q e h = subst (λ (z : List DeclarationTree). HasOrigin z e) (sym (ap (declarations_at d.trees) q ∙ ap (λ (t : TaskTree). t.decls) own.is)) h

pub origin_fact : (d : DraftTree) (from : Task) → IsOwnTask d from → (ds : List Decl) → ds ≡ from.decls → (formula : TermId) → IsFormulaAt d formula → (place : ℕ) (ids slice : List TermId) → slice ≡ ids
    → ((ps : List PropositionTree) → AreFrom ps 0 (props_of (declarations_at d.trees ds)) → IsInstanceThere ps place (trees_at d.trees ids) (tree_at d.trees formula))
    → ((v : Vocabulary) → IsTypeIn v 0 int_type → TypedUnder v [] (tree_at d.trees formula) → VariablesBelow 0 (tree_at d.trees formula) → All (IsTypeIn v 0) (trees_at d.trees ids))
    → IsFact d.task d.task (fact.Proposition place) (trees_at d.trees slice) (tree_at d.trees formula)
origin_fact d from own ds q formula f place ids slice e there typed =
    let same : declarations_at d.trees ds ≡ d.task.decls = ap (declarations_at d.trees) q ∙ ap (λ (t : TaskTree). t.decls) own.is in
    subst (λ (z : List TermId). IsFact d.task d.task (fact.Proposition place) (trees_at d.trees z) (tree_at d.trees formula)) (sym e)
    (record {
      said = there (props d.task) (λ k. let z : 0 + k ≡ k = omega arith in ap (slice_get (props d.task)) z ∙ ap (λ (ds' : List DeclarationTree). slice_get (props_of ds') k) (sym same));
      ground = typed (of_task d.task) (int_good d.task own.valid) f.ground.typed f.ground.ground;
    })

pub types_good : (s : List Tree) (a e : Tree) (vars : ℕ) (tys : List Tree) → tys ≡ types_found a e (ints vars) → (v : Vocabulary) → IsTypeIn v 0 int_type → TypedUnder v [] e → VariablesBelow 0 e → All (IsTypeIn v 0) tys
types_good s a e vars tys q v int x g = subst (All (IsTypeIn v 0)) (sym q) (found_good v int a [] e (ints vars) x g (ints_good v int vars))
