-- What a search for wanted instances needs of a valid declaration, and the three sets over a store.
use Rattle.std.proofs.Common.{◌≡◌, ◌<◌, ℕ, zero, suc, Bool, true, false, cond, not, if◌then◌else◌, List, [], ◌∷◌, ◌++◌, map, filter, length, get_or, All, Some, None, refl, sym, ap, subst, ◌∙◌, arith}
use Rattle.std.specs.List.{flat_map}
use Rattle.std.proofs.lemmas.List.{append-nil}
use Rattle.std.proofs.lemmas.List.Concat.{flat_map-append}
use Rattle.std.proofs.lemmas.List.Elements.{All-map, All-weaker}
use Rattle.std.proofs.lemmas.Bool.Decides.{nat_tests}
use Rattle.tasks.proofs.plain_laws.Lists.{All-left}
use Rattle.tasks.specs.trees.Tree.{Tree, above_ty_vars}
use Rattle.tasks.specs.trees.Binding.{inst_types}
use Rattle.tasks.specs.trees.declared.TermId.{TermId}
use Rattle.tasks.specs.trees.Node.{tree_at, Grows}
use Rattle.tasks.proofs.trees.Above.{below_ty_vars}
use Rattle.tasks.specs.Task.{BodyTree, MakesType, Makes, Defines, Induces, Constructs, Says, DeclarationTree, TaskTree, PropositionTree, said_by, props, props_of}
use Rattle.tasks.specs.Vocabulary.{of_task}
use Rattle.tasks.specs.Valid.{IsTypeIn, IsValidBody, IsValidDecl, IsValid}
use Rattle.tasks.specs.declared.declaration.Decl.{Decl}
use Rattle.tasks.specs.declared.task.Task.{Task}
use Rattle.tasks.specs.Meaning.{trees_at, body_at, declaration_at, declarations_at, task_at, DeclHeld}
use Rattle.tasks.proofs.Growth.{map_agree, body_later, decl_held_later}
use Rattle.tasks.proofs.Ground.{above_ground}
use Rattle.tasks.proofs.TypeInstances.{below, formula_at_types}
use Rattle.evidence.specs.declared.stage.StageFault.{StageFault}
use Rattle.evidence.specs.declared.stage.StageFault.TheVariants as fault
use Rattle.name_tables.specs.Occurrences.{Occurrence, occurrence}
use Rattle.name_tables.specs.Seen.{occurrence_at, seen_occurrences, with_all, AreIn, KeyHeld, KeysHeld, GainsKeys}
use Rattle.name_tables.proofs.Steps.{gains_then}
use Rattle.name_tables.proofs.Gathering.{in_later, added_in, with_all_there, with_all-append}
use Rattle.tr_discriminate.specs.wanted_instances.Instances.{inner_instances, instance_types}
use Rattle.tr_discriminate.specs.wanted_instances.Wanted.{wanted_types, wanted_formulas}
use Rattle.tr_discriminate.specs.wanted_instances.Growing.{GoesOn}
use Rattle.tr_discriminate.specs.wanted_instances.Discriminated.{is_monomorphic, monomorphic, polymorphic, first_set, next_set, last_set, said_at, proposition_of, put_in_place, discriminated_decls}
use Rattle.tr_discriminate.proofs.wanted_instances.Growing.{goes_on_trans as goes_twice}
use Rattle.tr_discriminate.proofs.wanted_instances.Nodes.{first_goes_on, second_goes_on}
use Rattle.tr_discriminate.specs.wanted_instances.lemmas.Typed.{IsGoodInstance}
use Rattle.tr_discriminate.specs.wanted_instances.lemmas.Kept.{int_good, AreFor, wanted_for, last_good}
use Rattle.tr_discriminate.specs.instance_sets.Made.{IsRanked, IsTypeTree, IsSearchable, IsSearchableBody, IsAboveAllowed, monomorphic_formula, option_instances, said_instances}
use Rattle.tr_discriminate.specs.instance_sets.Sets.{IsKeySet, IsEarlySet, IsLargeAtSet}

-- ---- a declaration of a valid task
none_in : (e : Tree) (n : ℕ) → above_ty_vars e ≡ n → n ≡ 0 → is_monomorphic e ≡ true
none_in e n p q = grind (arith, nat_tests)

module _ (t : TaskTree) (valid : IsValid t) (s : List Occurrence) (goes : GoesOn s (last_set t)) where
  good : All (IsGoodInstance (of_task t) (int_good t valid)) s
  good = All-left (IsGoodInstance (of_task t) (int_good t valid)) s goes.more (subst (All (IsGoodInstance (of_task t) (int_good t valid))) goes.is (last_good t valid))

  body_ready : (vars : ℕ) (b : BodyTree) → IsValidBody (of_task t) vars b → IsSearchableBody s vars b
  body_ready vars (Says a) h =
      let p = proposition_of vars a in
      let all = wanted_for t valid s good p in
      record {
        above = below_ty_vars a vars (below vars a h.variables);
        kinds = All-weaker (AreFor t valid vars) (All IsTypeTree) (λ ys f. All-weaker (IsTypeIn (of_task t) 0) IsTypeTree (λ ty g. g.sort) ys f.good) (wanted_types s p) all;
        closed = All-map (λ (e : Tree). is_monomorphic e ≡ true) (inst_types a) (wanted_types s p) (All-weaker (AreFor t valid vars) (λ (ys : List Tree). is_monomorphic (inst_types a ys) ≡ true)
            (λ ys f. none_in (inst_types a ys) _ refl (above_ground (inst_types a ys) (formula_at_types t ys f.good valid [] vars a f.long h).ground)) (wanted_types s p) all);
      }
  body_ready vars (MakesType k) h = tt
  body_ready vars (Makes k) h = tt
  body_ready vars (Defines ds) h = tt
  body_ready vars (Induces is) h = tt
  body_ready vars (Constructs ts) h = tt

  pub ready : (d : DeclarationTree) → IsValidDecl (of_task t) d → IsSearchableBody s d.vars d.body
  ready d h = body_ready d.vars d.body h

  pub all_ready : (ds : List DeclarationTree) → All (IsValidDecl (of_task t)) ds → All (λ (d : DeclarationTree). IsSearchableBody s d.vars d.body) ds
  all_ready ds a = All-weaker (IsValidDecl (of_task t)) (λ (d : DeclarationTree). IsSearchableBody s d.vars d.body) ready ds a

-- ---- what monomorphic propositions say
abbrev own : List PropositionTree → List Occurrence
own ps = flat_map inner_instances (monomorphic ps)

abbrev says_own : BodyTree → List Occurrence
says_own b = option_instances (monomorphic_formula b)

own_first : (vars : ℕ) (a : Tree) (ps : List PropositionTree) → own (proposition_of vars a ∷ ps) ≡ says_own (Says a) ++ own ps
own_first vars a ps = by (is_monomorphic a)
  where
    by : (m : Bool) → flat_map inner_instances (map (λ (p : PropositionTree). p.formula) (cond m (proposition_of vars a ∷ filter (λ (p : PropositionTree). is_monomorphic p.formula) ps) (filter (λ (p : PropositionTree). is_monomorphic p.formula) ps)))
        ≡ option_instances (if m then Some a else None) ++ own ps
    by true = refl
    by false = refl

body_own : (d : DeclarationTree) (b : BodyTree) (ps : List PropositionTree) → says_own b ++ own ps ≡ own (said_by d b ++ ps)
body_own d (Says a) ps = sym (own_first d.vars a ps)
body_own d (MakesType k) ps = refl
body_own d (Makes k) ps = refl
body_own d (Defines ds) ps = refl
body_own d (Induces is) ps = refl
body_own d (Constructs ts) ps = refl

said_own : (ds : List DeclarationTree) → said_instances ds ≡ own (props_of ds)
said_own [] = refl
said_own (d ∷ ds) = ap (λ z. says_own d.body ++ z) (said_own ds) ∙ body_own d d.body (props_of ds)

in_two : (u xs ys : List Occurrence) → AreIn u (xs ++ ys) → AreIn u xs × AreIn u ys
in_two u [] ys h = (tt, h)
in_two u (x ∷ xs) ys h = let r = in_two u xs ys h.1 in ((h.0, r.0), r.1)

-- ---- the next set
module _ (s : List Occurrence) where
  abbrev asked : List PropositionTree → List Occurrence
  asked ps = flat_map inner_instances (flat_map (wanted_formulas s) (polymorphic ps))

  closed_said : (d : DeclarationTree) (es : List Tree) → All (λ (e : Tree). is_monomorphic e ≡ true) es → said_instances (map (said_at d) es) ≡ flat_map inner_instances es
  closed_said d [] a = refl
  closed_said d (e ∷ es) a =
      ap (λ (m : Bool). option_instances (if m then Some e else None) ++ said_instances (map (said_at d) es)) (a 0 e (omega arith))
      ∙ ap (λ z. inner_instances e ++ z) (closed_said d es (λ k x l. a (suc k) x (omega arith)))

  said_two : (xs ys : List DeclarationTree) → said_instances (xs ++ ys) ≡ said_instances xs ++ said_instances ys
  said_two xs ys = flat_map-append (λ (d : DeclarationTree). says_own d.body) xs ys

  module _ (d : DeclarationTree) (ds : List DeclarationTree) (again : (v : List Occurrence) → AreIn v (own (props_of ds)) → with_all v (said_instances (discriminated_decls s ds)) ≡ with_all v (asked (props_of ds))) where
    abbrev rest : List Occurrence
    rest = said_instances (discriminated_decls s ds)

    says_added : (u : List Occurrence) (a : Tree) → d.body ≡ Says a → IsSearchable s d.vars a → (m : Bool) → is_monomorphic a ≡ m
        → AreIn u (flat_map inner_instances (map (λ (p : PropositionTree). p.formula) (cond m (proposition_of d.vars a ∷ filter (λ (p : PropositionTree). is_monomorphic p.formula) (props_of ds)) (filter (λ (p : PropositionTree). is_monomorphic p.formula) (props_of ds)))))
        → with_all u (said_instances ((if m then d ∷ [] else map (said_at d) (wanted_formulas s (proposition_of d.vars a))) ++ discriminated_decls s ds))
        ≡ with_all u (flat_map inner_instances (flat_map (wanted_formulas s) (cond (not m) (proposition_of d.vars a ∷ polymorphic (props_of ds)) (polymorphic (props_of ds)))))
    says_added u a q r true e h =
        let two = in_two u (inner_instances a) (own (props_of ds)) h in
        let one : says_own d.body ≡ inner_instances a = ap says_own q ∙ ap (λ (m : Bool). option_instances (if m then Some a else None)) e in
        ap (λ z. with_all u (z ++ rest)) one ∙ with_all-append u (inner_instances a) rest ∙ ap (λ z. with_all z rest) (with_all_there u (inner_instances a) two.0) ∙ again u two.1
    says_added u a q r false e h =
        let es = wanted_formulas s (proposition_of d.vars a) in
        let new = flat_map inner_instances es in
        ap (with_all u) (said_two (map (said_at d) es) (discriminated_decls s ds)) ∙ ap (λ z. with_all u (z ++ rest)) (closed_said d es r.closed) ∙ with_all-append u new rest
        ∙ again (with_all u new) (in_later u new (own (props_of ds)) h) ∙ sym (with_all-append u new (asked (props_of ds)))
        ∙ ap (with_all u) (sym (flat_map-append inner_instances es (flat_map (wanted_formulas s) (polymorphic (props_of ds)))))

    body_added : (u : List Occurrence) (b : BodyTree) → d.body ≡ b → IsSearchableBody s d.vars b → AreIn u (own (said_by d b ++ props_of ds))
        → with_all u (said_instances (put_in_place s d b ++ discriminated_decls s ds)) ≡ with_all u (asked (said_by d b ++ props_of ds))
    body_added u (Says a) q r h = says_added u a q r (is_monomorphic a) refl h
    body_added u (MakesType k) q r h = ap (λ (b : BodyTree). with_all u (says_own b ++ rest)) q ∙ again u h
    body_added u (Makes k) q r h = ap (λ (b : BodyTree). with_all u (says_own b ++ rest)) q ∙ again u h
    body_added u (Defines es) q r h = ap (λ (b : BodyTree). with_all u (says_own b ++ rest)) q ∙ again u h
    body_added u (Induces is) q r h = ap (λ (b : BodyTree). with_all u (says_own b ++ rest)) q ∙ again u h
    body_added u (Constructs ts) q r h = ap (λ (b : BodyTree). with_all u (says_own b ++ rest)) q ∙ again u h

  added : (ds : List DeclarationTree) → All (λ (d : DeclarationTree). IsSearchableBody s d.vars d.body) ds → (u : List Occurrence) → AreIn u (own (props_of ds)) → with_all u (said_instances (discriminated_decls s ds)) ≡ with_all u (asked (props_of ds))
  added [] a u h = refl
  added (d ∷ ds) a u h = body_added d ds (added ds (λ k x l. a (suc k) x (omega arith))) u d.body refl (a 0 d (omega arith)) h

pub next_added : (t : TaskTree) → IsValid t → (s : List Occurrence) → IsEarlySet t s → with_all s (said_instances (discriminated_decls s t.decls)) ≡ next_set (props t) s
next_added t valid s h = added s t.decls (all_ready t valid s h.goes t.decls valid.decls) s h.own

-- ---- the first two sets
abbrev judged : TaskTree → List Occurrence
judged t = flat_map inner_instances (t.locals ++ t.goal ∷ [])

first_two : (t : TaskTree) → first_set t ≡ with_all (with_all [] (own (props t))) (judged t)
first_two t = ap (with_all []) (flat_map-append inner_instances (monomorphic (props t)) (t.locals ++ t.goal ∷ [])) ∙ with_all-append [] (own (props t)) (judged t)

pub first_early : (t : TaskTree) → IsEarlySet t (first_set t)
first_early t = record {
  goes = goes_twice (first_set t) (next_set (props t) (first_set t)) (last_set t) (first_goes_on t) (second_goes_on t);
  own = subst (λ z. AreIn z (own (props t))) (sym (first_two t)) (in_later (with_all [] (own (props t))) (judged t) (own (props t)) (added_in [] (own (props t))));
}

pub second_early : (t : TaskTree) → IsEarlySet t (next_set (props t) (first_set t))
second_early t = record { goes = second_goes_on t; own = in_later (first_set t) (asked (first_set t) (props t)) (own (props t)) (first_early t).own }

-- what was gathered from a task part by part
pub first_is : (t : TaskTree) → with_all [] (said_instances t.decls ++ (flat_map inner_instances t.locals ++ inner_instances t.goal)) ≡ first_set t
first_is t =
    let last : flat_map inner_instances t.locals ++ inner_instances t.goal ≡ judged t = ap (λ z. flat_map inner_instances t.locals ++ z) (sym (append-nil (inner_instances t.goal))) ∙ sym (flat_map-append inner_instances t.locals (t.goal ∷ [])) in
    ap (λ z. with_all [] (z ++ (flat_map inner_instances t.locals ++ inner_instances t.goal))) (said_own t.decls) ∙ ap (λ z. with_all [] (own (props t) ++ z)) last
    ∙ ap (with_all []) (sym (flat_map-append inner_instances (monomorphic (props t)) (t.locals ++ t.goal ∷ [])))

pub first_gathered : (s : List Tree) (t : Task) (ds : List Decl) (ls : List TermId) (a b c keys : List (ℕ × ℕ)) → a ≡ [] → ds ≡ t.decls → ls ≡ t.locals → GainsKeys s a (said_instances (declarations_at s ds)) b → GainsKeys s b (flat_map inner_instances (trees_at s ls)) c → GainsKeys s c (inner_instances (tree_at s t.goal)) keys
    → IsKeySet s (first_set (task_at s t)) keys
first_gathered s t ds ls a b c keys none d l h k g =
    let more = gains_then s b c keys (flat_map inner_instances (trees_at s ls)) (inner_instances (tree_at s t.goal)) k g in
    let all = gains_then s a b keys (said_instances (declarations_at s ds)) (flat_map inner_instances (trees_at s ls) ++ inner_instances (tree_at s t.goal)) h more in
    record {
      held = all.held;
      is = all.is
          ∙ (λ i. with_all (seen_occurrences s (none i)) (said_instances (declarations_at s (d i)) ++ (flat_map inner_instances (trees_at s (l i)) ++ inner_instances (tree_at s t.goal))))
          ∙ first_is (task_at s t);
    }

-- ---- too large
pub fault_there : (t : TaskTree) (s : List Occurrence) → GoesOn s (last_set t) → (f : StageFault) → IsAboveAllowed 1048576 (discriminated_decls s t.decls) f → IsLargeAtSet t f
fault_there t s goes fault.Memory x = tt
fault_there t s goes (fault.Misplaced decl) x = absurd x
fault_there t s goes fault.TooLarge x = record { set = s; goes = goes; large = omega (arith, x) }

-- ---- as the store grows
module _ (s s1 : List Tree) (g : Grows s s1) where
  key_later : (k : ℕ × ℕ) → KeyHeld s k → KeyHeld s1 k
  key_later k l = omega (arith, l, g.longer)

  pub keys_later : (keys : List (ℕ × ℕ)) → KeysHeld s keys → KeysHeld s1 keys
  keys_later keys a = All-weaker (KeyHeld s) (KeyHeld s1) key_later keys a

  pub seen_later : (keys : List (ℕ × ℕ)) → KeysHeld s keys → seen_occurrences s1 keys ≡ seen_occurrences s keys
  seen_later keys a = map_agree (occurrence_at s1) (occurrence_at s) keys (All-weaker (KeyHeld s) (λ (k : ℕ × ℕ). occurrence_at s1 k ≡ occurrence_at s k) (λ k l. ap (occurrence k.0) (g.same k.1 l)) keys a)

  pub ranked_later : (keys types : List (ℕ × ℕ)) → IsRanked s keys types → IsRanked s1 keys types
  ranked_later keys types r = record {
    held = keys_later keys r.held;
    types_are = record {
      held = keys_later types r.types_are.held;
      is = seen_later types r.types_are.held ∙ r.types_are.is ∙ ap (λ z. with_all [] (flat_map instance_types z)) (sym (seen_later keys r.held));
    };
  }

  pub set_later : (keys : List (ℕ × ℕ)) (set : List Occurrence) → IsKeySet s set keys → IsKeySet s1 set keys
  set_later keys set h = record { held = keys_later keys h.held; is = seen_later keys h.held ∙ h.is }

  pub ready_here : (keys : List (ℕ × ℕ)) → KeysHeld s keys → (ds : List Decl) → All (DeclHeld s) ds → All (λ (d : DeclarationTree). IsSearchableBody (seen_occurrences s keys) d.vars d.body) (declarations_at s ds) → (i : ℕ) (d : Decl) → i < length ds → d ≡ get_or ds i d
      → DeclHeld s d × (DeclHeld s1 d × IsSearchableBody (seen_occurrences s1 keys) d.vars (body_at s1 d.body))
  ready_here keys k [] h a i d l q = absurd (omega (arith, l))
  ready_here keys k (x ∷ ds) h a zero d l q =
      let held : DeclHeld s d = subst (DeclHeld s) (sym q) (h 0 x (omega arith)) in
      let here : IsSearchableBody (seen_occurrences s keys) d.vars (body_at s d.body) = subst (λ (z : Decl). IsSearchableBody (seen_occurrences s keys) z.vars (body_at s z.body)) (sym q) (a 0 (declaration_at s x) (omega arith)) in (
        held,
        (
          decl_held_later s s1 g d held,
          subst (λ (b : BodyTree). IsSearchableBody (seen_occurrences s1 keys) d.vars b) (sym (body_later s s1 g d.body held)) (subst (λ (z : List Occurrence). IsSearchableBody z d.vars (body_at s d.body)) (sym (seen_later keys k)) here),
        ),
      )
  ready_here keys k (x ∷ ds) h a (suc i) d l q = ready_here keys k ds (λ j e m. h (suc j) e (omega arith)) (λ j e m. a (suc j) e (omega arith)) i d (omega (arith, l)) q

  -- what is added to a set by the declarations at it
  pub added_set : (t : TaskTree) → IsValid t → (keys new : List (ℕ × ℕ)) → KeysHeld s keys → IsEarlySet t (seen_occurrences s keys) → (ds : List DeclarationTree) → ds ≡ discriminated_decls (seen_occurrences s keys) t.decls → GainsKeys s1 keys (said_instances ds) new
      → IsKeySet s1 (next_set (props t) (seen_occurrences s keys)) new
  added_set t valid keys new k h ds e a = record {
    held = a.held;
    is = a.is ∙ ap (λ z. with_all z (said_instances ds)) (seen_later keys k) ∙ ap (λ z. with_all (seen_occurrences s keys) (said_instances z)) e ∙ next_added t valid (seen_occurrences s keys) h;
  }

pub goes_itself : {A : Type 0} (xs ys : List A) → xs ≡ ys → GoesOn xs ys
goes_itself xs ys e = record { more = []; is = sym e ∙ sym (append-nil xs) }

-- the sets of a task by their keys
pub early_first : (s : List Tree) (t : TaskTree) (keys : List (ℕ × ℕ)) → IsKeySet s (first_set t) keys → IsEarlySet t (seen_occurrences s keys)
early_first s t keys h = subst (IsEarlySet t) (sym h.is) (first_early t)

pub early_second : (s s1 : List Tree) (t u : TaskTree) (keys new : List (ℕ × ℕ)) → u ≡ t → IsKeySet s (first_set t) keys → IsKeySet s1 (next_set (props t) (seen_occurrences s keys)) new → IsEarlySet u (seen_occurrences s1 new)
early_second s s1 t u keys new e h k =
    subst (λ (z : TaskTree). IsEarlySet z (seen_occurrences s1 new)) (sym e) (subst (IsEarlySet t) (sym (k.is ∙ ap (next_set (props t)) h.is)) (second_early t))

pub last_is : (s s1 s2 : List Tree) (t u : TaskTree) (keys more new : List (ℕ × ℕ)) → u ≡ t → IsKeySet s (first_set t) keys → IsKeySet s1 (next_set (props t) (seen_occurrences s keys)) more → IsKeySet s2 (next_set (props u) (seen_occurrences s1 more)) new
    → IsKeySet s2 (last_set t) new
last_is s s1 s2 t u keys more new e h k g = record { held = g.held; is = g.is ∙ ap (λ (z : TaskTree). next_set (props z) (seen_occurrences s1 more)) e ∙ ap (next_set (props t)) (k.is ∙ ap (next_set (props t)) h.is) }

pub fault_later : (t u : TaskTree) → u ≡ t → (f : StageFault) → IsLargeAtSet u f → IsLargeAtSet t f
fault_later t u e f h = subst (λ (z : TaskTree). IsLargeAtSet z f) e h
