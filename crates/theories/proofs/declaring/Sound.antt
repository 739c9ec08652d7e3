-- What is known stays sound as a declaration becomes known: it is valid where it is, and so is a goal.
use Rattle.std.proofs.Common.{◌≡◌, ℕ, ◌+◌, ◌≤◌, zero, suc, List, [], ◌∷◌, ◌++◌, map, take, length, get_or, All, Option, Some, None, refl, sym, ap, subst, ◌∙◌, arith, append-nil, length-append}
use Rattle.std.specs.List.{range_with_len}
use Rattle.std.proofs.lemmas.List.Elements.{All-nil, All-cons}
use Rattle.tasks.specs.trees.Tree.{Tree, Leaf, One, Two, Three, Head, HTyVar, HBound, HParam, binders_over}
use Rattle.tasks.specs.trees.Node.{tree_at, Holds}
use Rattle.tasks.specs.trees.Sorts.{WellSorted}
use Rattle.tasks.specs.trees.Binding.{change, typing, inst_types, leaf_by, one_by}
use Rattle.tasks.specs.trees.declared.TermId.{TermId}
use Rattle.tasks.specs.Task.{SymbolTree, Says, DeclarationTree, made}
use Rattle.tasks.specs.Meaning.{symbols_at, declarations_at}
use Rattle.tasks.specs.Valid.{VariablesBelow, LeafBelow, IsFormulaOver, IsValidDecl, IsQuoted}
use Rattle.theory_states.specs.Moves.{MoveTree}
use Rattle.elab_groups.specs.name_resolution.Naming.{scope_at}
use Rattle.surface.specs.Lexeme.{Word}
use Rattle.surface.specs.declared.names.At.{At}
use Rattle.surface.specs.Forms as surface
use Rattle.surface.specs.Trees.{SyntaxTree as SourceTree}
use Rattle.surface.specs.Declarations as source
use Rattle.surface.specs.declared.declarations.PropKind.{PropKind}
use Rattle.surface.specs.declared.declarations.PropKind.TheVariants as kind
use Rattle.elab_groups.specs.name_resolution.Abstract.{Expression, expression}
use Rattle.elab_groups.specs.declared.parts.made.Elaborated.{Elaborated}
use Rattle.elab_groups.specs.parts.Declarations.{TokenName, GroupMember, InductivePredicate, Declaration, abstract_type, alias, algebraic, member_group, inductive, proposition_declaration, declaration, symbol}
use Rattle.elab_groups.specs.parts.Outcomes.{Setting, Outcome, full_name}
use Rattle.elab_declarations.specs.elab_groups.members.Members.{SignatureTree}
use Rattle.elab_declarations.specs.elab_groups.Groups.{group_decls}
use Rattle.elab_declarations.specs.inductive_declarations.Inductives.{inductive_decls}
use Rattle.elab_declarations.specs.Outcomes.{proposition_seen, rigid_types, said_as, schematic, names_fault, IsProposition, IsOutcome, IsElaborated}
use Rattle.elaboration_laws.specs.Scopes.{IsTypedSignature, AreTypedScopes}
use Rattle.elaboration_laws.specs.Lists.{after, MakesBelow, IsGroupWhole, IsNoGoal, IsNextDeclaration, IsNextGoal}
use Rattle.elaboration_laws.specs.Valid.{IsTypedSetting, HaveNoFault}
use Rattle.elaboration_laws.proofs.Steps.{next_declaration}
use Rattle.elaboration_laws.proofs.Goals.{next_goal}
use Rattle.elaboration_laws.specs.theory_states.goal_tasks.Theories.{GoalTree}
use Rattle.elaboration_laws.specs.Tasks.{AreSound, IsToProve, IsGoalSaid, IsSoundAfter}
use Rattle.elaboration_laws.proofs.Grown.{own_below}
use Rattle.elaboration_laws.proofs.Next.{next_sound}
use Rattle.elaboration_laws.proofs.NextGoal.{proved_kept}
use Rattle.elaboration_laws.proofs.Once.{outcome_once}
use Rattle.theories.specs.declaring.Made.{moves_declared}
use Rattle.theory_states.specs.declared.states.AxiomAt.{AxiomAt}
use Rattle.theory_states.specs.declared.states.Opened.{Opened}
use Rattle.theory_states.specs.declared.states.Typed.{Typed}
use Rattle.theory_states.specs.States.{StateTree, visible_now}
use Rattle.theory_states.specs.Meaning.{state_at}
use Rattle.elaboration_laws.specs.TypedStates.{state_setting}
use Rattle.elaboration_laws.specs.Sound.{IsSoundAmong, IsSoundAxiom, IsSoundState, IsAfter, IsSoundAddition}
use Rattle.elaboration_laws.proofs.Places.{places_count}
use Rattle.elaboration_laws.proofs.Further.{state_further}
use Rattle.theories.specs.declaring.Declared.{to_prove, proposition_in, known_by, with_named}
use Rattle.theories.specs.declaring.Steps.{IsNextState, AreQuoted}
use Rattle.theories.proofs.declaring.Typed.{declared_typed}
use Rattle.theories.proofs.declaring.Named.{bodies_pass}
use Rattle.elaboration_laws.proofs.PlaceSteps.{first_of as last_of}

-- ---- a formula without type variables at types
module _ (tys : List Tree) where
  leaf_same : (h : Head) → LeafBelow 0 h → leaf_by (typing tys) h ≡ Leaf h
  leaf_same (HTyVar j) l = absurd (omega (arith, l))
  leaf_same _ l = refl

  one_same : (d : ℕ) (h : Head) (a b : Tree) → b ≡ a → one_by (typing tys) d h b ≡ One h a
  one_same d (HBound i) a b q = ap (One (HBound i)) q
  one_same d (HParam n) a b q = ap (One (HParam n)) q
  one_same d h a b q = ap (One h) q

  tree_same : (d : ℕ) (e : Tree) → VariablesBelow 0 e → change (typing tys) d e ≡ e
  tree_same d (Leaf h) l = leaf_same h l
  tree_same d (One h a) l = one_same d h a (change (typing tys) d a) (tree_same d a l)
  tree_same d (Two h a b) l = cc (tree_same d a l.0, tree_same (d + binders_over h a) b l.1)
  tree_same d (Three h a b c) l = cc (tree_same d a l.0, tree_same d b l.1, tree_same d c l.2)

take_front : {X : Type 0} (n : ℕ) (xs ys : List X) → n ≡ length xs → take n (xs ++ ys) ≡ xs
take_front zero [] ys q = refl
take_front zero (x ∷ xs) ys q = absurd (omega (arith, q))
take_front (suc n) [] ys q = absurd (omega (arith, q))
take_front (suc n) (x ∷ xs) ys q = ap (λ (r : List _). x ∷ r) (take_front n xs ys (omega (arith, q)))

axiom_last : (xs : List DeclarationTree) (x : DeclarationTree) (vs : List Word) → x.vars ≡ length vs → All IsQuoted vs → IsSoundAxiom (xs ++ x ∷ []) (record { decl = length xs; vars = vs })
axiom_last xs x vs q h = record {
  there = let n = length-append xs (x ∷ []) in omega (arith, n);
  count = λ d e. let i : Some x ≡ Some d = sym (last_of xs x) ∙ e in let j : x ≡ d = cc in ap (λ (z : DeclarationTree). z.vars) (sym j) ∙ q;
  quoted = h;
}

-- ---- a source's declaration and its proposition
no_goal : (d : source.SyntaxDeclaration) → proposition_in d ≡ None → IsNoGoal d
no_goal (source.prop_decl a k c e) q = absurd (cc)
no_goal (source.type_decl a n vs f) q = tt
no_goal (source.algebraic_decl a ts) q = tt
no_goal (source.function_decl a c ps f e ms) q = tt
no_goal (source.predicate_decl a c ps e ms) q = tt
no_goal (source.constant_decl a c f e) q = tt
no_goal (source.inductive_decl a ds) q = tt
no_goal (source.use_decl a k p n) q = tt
no_goal (source.clone_decl a k p n es) q = tt
no_goal (source.scope_decl a n ds) q = tt

abbrev IsNotGoal : PropKind → Type 0
IsNotGoal kind.Goal = ⊥
IsNotGoal _ = Unit {0}

-- what a proposition is called, with what is asked of one that is no goal
abbrev IsSaid : source.SyntaxDeclaration → PropKind → Expression → Type 0
IsSaid d k x = (y : TokenName) × (declaration d ≡ Some (proposition_declaration k y x)) × (IsNotGoal k → IsNoGoal d)

kind_said : (a : At) (c : surface.Called) (e : SourceTree) (k : PropKind) → IsNotGoal k → IsNoGoal (source.prop_decl a k c e)
kind_said a c e kind.Axiom n = tt
kind_said a c e kind.Lemma n = tt
kind_said a c e kind.Goal n = absurd n

said : (d : source.SyntaxDeclaration) (k : PropKind) (x : Expression) → proposition_in d ≡ Some (k, x) → IsSaid d k x
said (source.prop_decl a j c e) k x q =
    let same : let p : PropKind × Expression = (j, expression e) in p ≡ (k, x) = cc in
    let kinds : j ≡ k = ap (λ (p : PropKind × Expression). p.0) same in
    let parts : expression e ≡ x = ap (λ (p : PropKind × Expression). p.1) same in
    (symbol c, cc (kinds, parts), λ n. kind_said a c e j (subst IsNotGoal (sym kinds) n))
said (source.type_decl a n vs f) k x q = absurd (cc)
said (source.algebraic_decl a ts) k x q = absurd (cc)
said (source.function_decl a c ps f e ms) k x q = absurd (cc)
said (source.predicate_decl a c ps e ms) k x q = absurd (cc)
said (source.constant_decl a c f e) k x q = absurd (cc)
said (source.inductive_decl a ds) k x q = absurd (cc)
said (source.use_decl a i p n) k x q = absurd (cc)
said (source.clone_decl a i p n es) k x q = absurd (cc)
said (source.scope_decl a n ds) k x q = absurd (cc)

-- ---- at most one declaration is made
group_single : (theory within : Word) (ms : List GroupMember) (k : ℕ) (gs : List SignatureTree) (bs : List Tree) → length (group_decls theory within ms k gs bs) ≤ 1
group_single theory within [] k gs bs = omega arith
group_single theory within (m ∷ ms) k [] bs = omega arith
group_single theory within (m ∷ ms) k (g ∷ gs) bs = omega arith

inductive_single : (theory within : Word) (ds : List InductivePredicate) (k : ℕ) (bs : List Tree) → length (inductive_decls theory within ds k bs) ≤ 1
inductive_single theory within [] k bs = omega arith
inductive_single theory within (d ∷ ds) k bs = omega arith

single_of : (c : Setting) (x : Declaration) (o : Outcome) → IsOutcome c x o → length o.decls ≤ 1
single_of c (abstract_type x vs) o h = let q = ap (λ (i : Outcome). length i.decls) h in omega (arith, q)
single_of c (alias x vs f) o h = let q = ap (λ (i : Outcome). length i.decls) h in omega (arith, q)
single_of c (algebraic ts) o h = let q = ap (λ (i : Outcome). length i.decls) h in omega (arith, q)
single_of c (member_group ms) o h = rw h.decls (group_single c.theory c.within ms _ _ h.bodies)
single_of c (inductive ds) o h = rw h.decls (inductive_single c.theory c.within ds _ h.clauses)
single_of c (proposition_declaration k x e) o h = let q = ap length h.decls in omega (arith, q)

-- ---- a state after a declaration
module _ (s : List Tree) (t : Typed) (o : Opened) (d : source.SyntaxDeclaration) (s' : List Tree) (t' : Typed) (o1 : Opened) (it : Elaborated) (n : IsNextState s t o d s' t' o1 it) (sorted : (id : TermId) → Holds s' id → WellSorted (tree_at s' id))
    (whole : IsGroupWhole d) (quoted : AreQuoted d) (sound : IsSoundState (state_at s t o)) where
  abbrev c : StateTree
  c = state_at s t o

  abbrev st : Setting
  st = state_setting c

  abbrev ds : List DeclarationTree
  ds = visible_now c

  abbrev out : Outcome
  out = n.elaborated.outcome

  abbrev A : List SymbolTree
  A = c.symbols ++ out.symbols

  abbrev S1 : List SymbolTree
  S1 = symbols_at s' t'.sig.symbols

  abbrev ms : List MoveTree
  ms = moves_declared out.scope d

  abbrev N : StateTree
  N = with_named d out c

  typed : IsTypedSetting (after c.symbols [] ds) st
  typed = record { theory = sound.opened.named; source = sound.opened.source; signature = sound.opened.theory.signature; scopes = sound.opened.scopes }

  below : MakesBelow (length c.symbols) ds
  below = λ k i l. own_below c.symbols [] (get_or (made ds) k i) (sound.opened.theory.sound.own k i l)

  passes : HaveNoFault S1 (declarations_at s' it.decls)
  passes = bodies_pass S1 (declarations_at s' it.decls) n.checked

  count : length c.opened.visible ≡ length ds
  count = sym (places_count c.decls c.opened.visible sound.opened.theory.below)

  -- with other declarations, axioms and goals
  abbrev grown : List DeclarationTree → List ℕ → List AxiomAt → List GoalTree → StateTree
  grown dd v ax gg = record N { decls = dd; opened = record N.opened { visible = v; axioms = ax; goals = gg } }

  -- what was it is sound after what was visible
  record Adds (new : List DeclarationTree) (goals : List GoalTree) : Type 0 where
    decls_sound : AreSound A (ds ++ new)
    signature_typed : IsTypedSignature (after A [] (ds ++ new)) A
    scopes_typed : AreTypedScopes (after A [] (ds ++ new)) out.scope
    goals_sound : All (IsSoundAmong A (ds ++ new)) goals

  finish : (dd : List DeclarationTree) (v : List ℕ) (ax : List AxiomAt) (gg : List GoalTree) (new : List DeclarationTree) (axs : List AxiomAt) (goals : List GoalTree) → dd ≡ c.decls ++ new → All (λ (x : DeclarationTree). x.theory ≡ c.opened.path) new
      → v ≡ c.opened.visible ++ range_with_len (length c.decls) (length new) → ax ≡ c.opened.axioms ++ axs → All (IsSoundAxiom dd) axs → gg ≡ c.opened.goals ++ goals → Adds new goals → IsSoundState (grown dd v ax gg)
  finish dd v ax gg new axs goals p of q assumed axioms r h =
      let x = grown dd v ax gg in
      let a : IsAfter c x out.symbols new axs goals ms = record { symbols = refl; decls = p; of = of; known = refl; path = refl; visible = q; axioms_are = assumed; goals_are = r; moves_are = refl } in
      let b : IsSoundAddition c x new axs goals ms = record { sound = h.decls_sound; signature = h.signature_typed; scopes = h.scopes_typed; typed_moves = declared_typed (after A [] (ds ++ new)) out.scope h.scopes_typed d; sound_goals = h.goals_sound; sound_axioms = axioms } in
      state_further c x out.symbols new axs goals ms sound a b

  -- without a further axiom
  plain : (dd : List DeclarationTree) (v : List ℕ) (gg : List GoalTree) (new : List DeclarationTree) (goals : List GoalTree) → dd ≡ c.decls ++ new → All (λ (x : DeclarationTree). x.theory ≡ c.opened.path) new
      → v ≡ c.opened.visible ++ range_with_len (length c.decls) (length new) → gg ≡ c.opened.goals ++ goals → Adds new goals → IsSoundState (grown dd v c.opened.axioms gg)
  plain dd v gg new goals p of q r h = finish dd v c.opened.axioms gg new [] goals p of q (sym (append-nil c.opened.axioms)) (All-nil (IsSoundAxiom dd)) r h

  of_theory : All (λ (x : DeclarationTree). x.theory ≡ c.opened.path) out.decls
  of_theory = (outcome_once st n.parts out n.elaborated.is).of

  -- no goal: with all that is it
  all_added : (goals : List GoalTree) → IsNoGoal d → All (IsSoundAmong A (ds ++ out.decls)) goals → Adds out.decls goals
  all_added goals p h =
      let e = n.elaborated in
      let new = declarations_at s' it.decls in
      let next : IsNextDeclaration S1 (scope_at s' o1.scope) ds new = next_declaration st ds d n.parts t.sig s' t'.sig o1.scope it typed below n.of whole p e sorted n.kept.decls passes in
      let snd : AreSound S1 (ds ++ new) = next_sound st ds d n.parts t.sig s' t'.sig o1.scope it typed below n.of whole p e sorted n.kept.decls passes sound.opened.theory.sound in
      record {
        decls_sound = subst (λ (xs : List DeclarationTree). AreSound A (ds ++ xs)) e.decls (subst (λ (es : List SymbolTree). AreSound es (ds ++ new)) e.symbols_are snd);
        signature_typed = subst (λ (xs : List DeclarationTree). IsTypedSignature (after A [] (ds ++ xs)) A) e.decls (subst (λ (es : List SymbolTree). IsTypedSignature (after es [] (ds ++ new)) es) e.symbols_are next.signature);
        scopes_typed = subst (AreTypedScopes (after A [] (ds ++ out.decls))) e.scope
            (subst (λ (xs : List DeclarationTree). AreTypedScopes (after A [] (ds ++ xs)) (scope_at s' o1.scope)) e.decls (subst (λ (es : List SymbolTree). AreTypedScopes (after es [] (ds ++ new)) (scope_at s' o1.scope)) e.symbols_are next.scopes));
        goals_sound = h;
      }

  -- a declaration that is no proposition
  single : length out.decls ≤ 1
  single = single_of st n.parts out n.elaborated.is

  plain_sound : (xs : List DeclarationTree) → out.decls ≡ xs → length xs ≤ 1 → IsNoGoal d → IsSoundState (known_by None out.rigid xs N)
  plain_sound [] q l p =
      let h = subst (λ (new : List DeclarationTree). Adds new []) q (all_added [] p (All-nil (IsSoundAmong A (ds ++ out.decls)))) in
      plain c.decls c.opened.visible c.opened.goals [] [] (sym (append-nil c.decls)) (All-nil (λ (x : DeclarationTree). x.theory ≡ c.opened.path)) (sym (append-nil c.opened.visible)) (sym (append-nil c.opened.goals)) h
  plain_sound (x ∷ []) q l p =
      let h = subst (λ (new : List DeclarationTree). Adds new []) q (all_added [] p (All-nil (IsSoundAmong A (ds ++ out.decls)))) in
      plain (c.decls ++ x ∷ []) (c.opened.visible ++ length c.decls ∷ []) c.opened.goals (x ∷ []) [] refl (subst (All (λ (y : DeclarationTree). y.theory ≡ c.opened.path)) q of_theory) refl (sym (append-nil c.opened.goals)) h
  plain_sound (x ∷ y ∷ xs) q l p = absurd (omega arith)

  -- ---- a proposition
  module _ (k : PropKind) (x : Expression) (y : TokenName) (r : declaration d ≡ Some (proposition_declaration k y x)) where
    same : n.parts ≡ proposition_declaration k y x
    same = let q : Some n.parts ≡ Some (proposition_declaration k y x) = sym n.of ∙ r in cc

    abbrev E : IsElaborated st (proposition_declaration k y x) t.sig s' t'.sig o1.scope it
    E = record {
      outcome = out;
      is = subst (λ (z : Declaration). IsOutcome st z out) same n.elaborated.is;
      named = subst (λ (z : Declaration). names_fault st z ≡ None) same n.elaborated.named;
      symbols_are = n.elaborated.symbols_are;
      ints = n.elaborated.ints;
      scope = n.elaborated.scope;
      decls = n.elaborated.decls;
      rigid = n.elaborated.rigid;
      matches = n.elaborated.matches;
    }

    P : IsProposition st k y x out
    P = subst (λ (z : Declaration). IsOutcome st z out) same n.elaborated.is

    abbrev formula : Tree
    formula = said_as k out.rigid P.formula

    abbrev one : DeclarationTree
    one = record { theory = c.opened.path; name = full_name st y; vars = schematic k (proposition_seen x).vars; body = Says formula }

    abbrev goal : GoalTree
    goal = record { name = full_name st y; before = length c.opened.visible; prop = to_prove k out.rigid formula; rigid = out.rigid }

    abbrev are : out.decls ≡ one ∷ []
    are = P.decls

    goal_after : IsToProve k → inst_types formula (rigid_types it.rigid) ≡ to_prove k out.rigid formula → IsSoundAfter S1 ds goal
    goal_after i q =
        let of : IsGoalSaid (declarations_at s' it.decls) it.rigid goal =
        record { formula = formula; says = ap (map (λ (z : DeclarationTree). z.body)) (n.elaborated.decls ∙ are); prop = sym q; rigid = sym n.elaborated.rigid } in
        proved_kept st ds d y x t.sig s' t'.sig o1.scope it typed below sorted n.kept.decls passes (quoted k y x r) sound.opened.theory.sound goal of k i r E

    among : (new : List DeclarationTree) → IsSoundAfter S1 ds goal → All (IsSoundAmong A (ds ++ new)) (goal ∷ [])
    among new h =
        let front : take (length c.opened.visible) (ds ++ new) ≡ ds = take_front (length c.opened.visible) ds new count in
        let l : length c.opened.visible ≤ length (ds ++ new) = omega (arith, count, length-append ds new) in
        let z : IsSoundAfter A ds goal = subst (λ (es : List SymbolTree). IsSoundAfter es ds goal) n.elaborated.symbols_are h in
        All-cons (IsSoundAmong A (ds ++ new)) goal [] (record { before = l; sound = subst (λ (xs : List DeclarationTree). IsSoundAfter A xs goal) (sym front) z }) (All-nil (IsSoundAmong A (ds ++ new)))

  own_one : (x : DeclarationTree) → out.decls ≡ x ∷ [] → All (λ (z : DeclarationTree). z.theory ≡ c.opened.path) (x ∷ [])
  own_one x q = subst (All (λ (z : DeclarationTree). z.theory ≡ c.opened.path)) q of_theory

  axiom_sound : (x : Expression) (y : TokenName) (r : declaration d ≡ Some (proposition_declaration kind.Axiom y x)) → IsNoGoal d → IsSoundState (known_by (Some (kind.Axiom, x)) out.rigid out.decls N)
  axiom_sound x y r p =
      let d1 = one kind.Axiom x y r in
      let q : out.decls ≡ d1 ∷ [] = are kind.Axiom x y r in
      let h = subst (λ (new : List DeclarationTree). Adds new []) q (all_added [] p (All-nil (IsSoundAmong A (ds ++ out.decls)))) in
      let vs = (proposition_seen x).vars in
      let ax : AxiomAt = record { decl = length c.decls; vars = vs } in
      let assumed : IsSoundAxiom (c.decls ++ d1 ∷ []) ax = axiom_last c.decls d1 vs refl (quoted kind.Axiom y x r) in
      let z = finish (c.decls ++ d1 ∷ []) (c.opened.visible ++ length c.decls ∷ []) (c.opened.axioms ++ ax ∷ []) c.opened.goals (d1 ∷ []) (ax ∷ []) [] refl (own_one d1 q) refl refl
      (All-cons (IsSoundAxiom (c.decls ++ d1 ∷ [])) ax [] assumed (All-nil (IsSoundAxiom (c.decls ++ d1 ∷ [])))) (sym (append-nil c.opened.goals)) h in
      subst (λ (xs : List DeclarationTree). IsSoundState (known_by (Some (kind.Axiom, x)) out.rigid xs N)) (sym q) z

  lemma_sound : (x : Expression) (y : TokenName) (r : declaration d ≡ Some (proposition_declaration kind.Lemma y x)) → IsNoGoal d → IsSoundState (known_by (Some (kind.Lemma, x)) out.rigid out.decls N)
  lemma_sound x y r p =
      let d1 = one kind.Lemma x y r in
      let q : out.decls ≡ d1 ∷ [] = are kind.Lemma x y r in
      let f = formula kind.Lemma x y r in
      let own' = goal kind.Lemma x y r in
      let after' = goal_after kind.Lemma x y r tt (ap (λ (ks : List ℕ). inst_types f (rigid_types ks)) n.elaborated.rigid) in
      let h = subst (λ (new : List DeclarationTree). Adds new (own' ∷ [])) q (all_added (own' ∷ []) p (among kind.Lemma x y r out.decls after')) in
      let z = plain (c.decls ++ d1 ∷ []) (c.opened.visible ++ length c.decls ∷ []) (c.opened.goals ++ own' ∷ []) (d1 ∷ []) (own' ∷ []) refl (own_one d1 q) refl refl h in
      subst (λ (xs : List DeclarationTree). IsSoundState (known_by (Some (kind.Lemma, x)) out.rigid xs N)) (sym q) z

  goal_sound : (x : Expression) (y : TokenName) (r : declaration d ≡ Some (proposition_declaration kind.Goal y x)) → IsSoundState (known_by (Some (kind.Goal, x)) out.rigid out.decls N)
  goal_sound x y r =
      let e = n.elaborated in
      let d1 = one kind.Goal x y r in
      let q : out.decls ≡ d1 ∷ [] = are kind.Goal x y r in
      let f = formula kind.Goal x y r in
      let own' = goal kind.Goal x y r in
      let own = it.rigid in
      let next : IsNextGoal S1 (scope_at s' o1.scope) ds own (declarations_at s' it.decls) = next_goal st ds d y x t.sig s' t'.sig o1.scope it typed below r (E kind.Goal x y r) sorted n.kept.decls passes in
      let valid : All (IsValidDecl (after S1 own ds)) (d1 ∷ []) = subst (All (IsValidDecl (after S1 own ds))) (e.decls ∙ q) next.valid in
      let closed : IsFormulaOver (after S1 own ds) [] 0 f = valid 0 d1 (omega arith) in
      let after' = goal_after kind.Goal x y r tt (tree_same (rigid_types own) 0 f closed.variables) in
      let nil = sym (append-nil ds) in
      let signature' : IsTypedSignature (after A [] ds) A = subst (λ (es : List SymbolTree). IsTypedSignature (after es [] ds) es) e.symbols_are next.signature in
      let scopes' : AreTypedScopes (after A [] ds) out.scope = subst (AreTypedScopes (after A [] ds)) e.scope (subst (λ (es : List SymbolTree). AreTypedScopes (after es [] ds) (scope_at s' o1.scope)) e.symbols_are next.scopes) in
      let before' : AreSound A ds = subst (λ (es : List SymbolTree). AreSound es ds) e.symbols_are after'.before in
      let h : Adds [] (own' ∷ []) = record {
        decls_sound = subst (AreSound A) nil before';
        signature_typed = subst (λ (xs : List DeclarationTree). IsTypedSignature (after A [] xs) A) nil signature';
        scopes_typed = subst (λ (xs : List DeclarationTree). AreTypedScopes (after A [] xs) out.scope) nil scopes';
        goals_sound = among kind.Goal x y r [] after';
      } in
      let z = plain c.decls c.opened.visible (c.opened.goals ++ own' ∷ []) [] (own' ∷ []) (sym (append-nil c.decls)) (All-nil (λ (u : DeclarationTree). u.theory ≡ c.opened.path)) (sym (append-nil c.opened.visible)) refl h in
      subst (λ (xs : List DeclarationTree). IsSoundState (known_by (Some (kind.Goal, x)) out.rigid xs N)) (sym q) z

  kinds_sound : (k : PropKind) (x : Expression) → IsSaid d k x → IsSoundState (known_by (Some (k, x)) out.rigid out.decls N)
  kinds_sound kind.Axiom x i = axiom_sound x i.0 i.1 (i.2 tt)
  kinds_sound kind.Lemma x i = lemma_sound x i.0 i.1 (i.2 tt)
  kinds_sound kind.Goal x i = goal_sound x i.0 i.1

  any_sound : (p : Option (PropKind × Expression)) → proposition_in d ≡ p → IsSoundState (known_by p out.rigid out.decls N)
  any_sound None q = plain_sound out.decls refl single (no_goal d q)
  any_sound (Some p) q = kinds_sound p.0 p.1 (said d p.0 p.1 q)

  pub declared_sound : IsSoundState (known_by (proposition_in d) out.rigid out.decls N)
  declared_sound = any_sound (proposition_in d) refl
