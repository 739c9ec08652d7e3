-- A goal or lemma that is elaborated after sound declarations gives a sound goal.
use Rattle.std.proofs.Common.{◌≡◌, ℕ, ◌+◌, ◌<◌, ◌≤◌, ◌==◌, suc, true, false, List, [], ◌∷◌, ◌++◌, map, length, get_or, All, Some, IsTrue, refl, sym, ap, subst, ◌∙◌, arith, length-append, append_assoc}
use Rattle.std.specs.List.{list_any}
use Rattle.std.proofs.lemmas.List.Elements.{All-nil, All-cons}
use Rattle.elab_groups.specs.trees.Tree.{Tree, Leaf, One, Two, Three, Head, HTyVar, HTyRigid}
use Rattle.elab_groups.specs.trees.Binding.{inst_types}
use Rattle.elab_groups.specs.trees.declared.TermId.{TermId}
use Rattle.elab_groups.specs.trees.Node.{Holds, tree_at}
use Rattle.elab_groups.specs.trees.Sorts.{WellSorted}
use Rattle.elab_groups.specs.tasks.declared.signature.Signature.{Signature}
use Rattle.elab_groups.specs.tasks.Rigid.{rigid_symbol}
use Rattle.elab_groups.specs.tasks.Task.{SymbolTree, Says, DeclarationTree, made}
use Rattle.elab_groups.specs.tasks.Meaning.{symbols_at, declarations_at, DeclHeld}
use Rattle.elab_groups.specs.tasks.Vocabulary.{Vocabulary}
use Rattle.elab_groups.specs.tasks.Typing.{IsRigid}
use Rattle.elab_groups.specs.tasks.Valid.{LeafBelow, VariablesBelow, IsFormulaOver, IsTypeIn, IsValidBody, IsValidDecl, IsQuoted}
use Rattle.elab_groups.specs.scopes.Names.{ScopeNames}
use Rattle.elab_groups.specs.name_resolution.Naming.{scope_at}
use Rattle.elab_groups.specs.surface.Lexeme.{Word}
use Rattle.elab_groups.specs.surface.declared.declarations.PropKind.{PropKind}
use Rattle.elab_groups.specs.surface.declared.declarations.PropKind.TheVariants as kind
use Rattle.elab_groups.specs.surface.Declarations as source
use Rattle.elab_groups.specs.name_resolution.Abstract.{Expression}
use Rattle.elab_groups.specs.declared.parts.made.Elaborated.{Elaborated}
use Rattle.elab_groups.specs.parts.Declarations.{TokenName, proposition_declaration, declaration}
use Rattle.elab_groups.specs.parts.Outcomes.{Setting, tuples_wanting}
use Rattle.elab_declarations.specs.Outcomes.{proposition_seen, entry_numbers, rigid_types, IsProposition, IsElaborated}
use Rattle.elaboration_laws.specs.Scopes.{IsSubvocabulary, IsTypedSignature}
use Rattle.elaboration_laws.proofs.Extended.{entry_more, agrees_part, signature_agrees}
use Rattle.elaboration_laws.specs.Valid.{IsTypedSetting, HaveNoFault, IsValidElaborated}
use Rattle.elaboration_laws.specs.Lists.{after, MakesBelow, IsNextGoal}
use Rattle.elaboration_laws.proofs.Stays.{declaration_stays}
use Rattle.elaboration_laws.proofs.Propositions.{rigid_formula, count_rigid as count_types}
use Rattle.elaboration_laws.proofs.Elaborated.{elaborated_valid}
use Rattle.elaboration_laws.proofs.Steps.{setting, news}
use Rattle.elaboration_laws.proofs.Goals.{all_among, nothing_more, next_goal}
use Rattle.theory_states.specs.goal_tasks.Theories.{GoalTree}
use Rattle.elaboration_laws.specs.Tasks.{AreSound, IsQuotedAt, IsToProve, IsGoalSaid, IsSoundAfter}
use Rattle.elaboration_laws.proofs.Distinct.{IsDistinct, distinct_pairs}
use Rattle.elaboration_laws.proofs.Once.{distinct_step}
use Rattle.elaboration_laws.proofs.Next.{front_kept}
use Rattle.elaboration_laws.proofs.Algebraics.{at_end}

-- ---- type variables of a proposition
entries_between : (k : ℕ) (vs : List Word) → All (λ (i : ℕ). (k ≤ i) × (i < k + length vs)) (entry_numbers k vs)
entries_between k [] = All-nil (λ (i : ℕ). (k ≤ i) × (i < k + 0))
entries_between k (x ∷ vs) =
    let P : ℕ → Type 0 = λ i. (k ≤ i) × (i < k + suc (length vs)) in
    let rest = entries_between (k + 1) vs in
    All-cons P k (entry_numbers (k + 1) vs) (omega arith, omega arith) (λ j i l. let y = rest j i l in (let a = y.0 in omega (arith, a), let b = y.1 in omega (arith, b)))

pub entries_distinct : (k : ℕ) (vs : List Word) → IsDistinct (entry_numbers k vs)
entries_distinct k [] = tt
entries_distinct k (x ∷ vs) =
    let next : k + 1 ≡ suc k = omega arith in
    distinct_step k (k + 1 + length vs) (entry_numbers (k + 1) vs) (subst (λ (n : ℕ). All (λ (i : ℕ). (n ≤ i) × (i < k + 1 + length vs)) (entry_numbers (k + 1) vs)) next (entries_between (k + 1) vs)) (entries_distinct (k + 1) vs)

pub quoted_entries : (xs : List SymbolTree) (vs : List Word) (k : ℕ) → k ≡ length xs → All IsQuoted vs → All (IsQuotedAt (xs ++ map rigid_symbol vs)) (entry_numbers k vs)
quoted_entries xs [] k q h = All-nil (IsQuotedAt (xs ++ []))
quoted_entries xs (x ∷ vs) k q h =
    let e = rigid_symbol x in
    let same : (xs ++ e ∷ []) ++ map rigid_symbol vs ≡ xs ++ e ∷ map rigid_symbol vs = append_assoc xs (e ∷ []) (map rigid_symbol vs) in
    let rest = quoted_entries (xs ++ e ∷ []) vs (k + 1) (omega (arith, q, length-append xs (e ∷ []))) (λ i d l. h (suc i) d (omega (arith, l))) in
    All-cons (IsQuotedAt (xs ++ e ∷ map rigid_symbol vs)) k (entry_numbers (k + 1) vs) (record { name = x; quoted = h 0 x (omega arith); entry = at_end xs (map rigid_symbol vs) e k q })
    (subst (λ (es : List SymbolTree). All (IsQuotedAt es) (entry_numbers (k + 1) vs)) same rest)

-- ---- variables below more
leaf_below : (n : ℕ) (h : Head) → LeafBelow 0 h → LeafBelow n h
leaf_below n (HTyVar j) l = absurd (omega (arith, l))
leaf_below n _ l = tt

below_more : (n : ℕ) (e : Tree) → VariablesBelow 0 e → VariablesBelow n e
below_more n (Leaf h) l = leaf_below n h l
below_more n (One h a) l = below_more n a l
below_more n (Two h a b) l = (below_more n a l.0, below_more n b l.1)
below_more n (Three h a b c) l = (below_more n a l.0, below_more n b l.1, below_more n c l.2)

more_formula : (v : Vocabulary) (n : ℕ) (e : Tree) → IsFormulaOver v [] 0 e → IsFormulaOver v [] n e
more_formula v n e f = record { sort = f.sort; typed = f.typed; parameters = f.parameters; variables = below_more n e f.variables }

-- ---- over type variables of a goal
module _ (symbols : List SymbolTree) (ds : List DeclarationTree) (own : List ℕ) where
  abbrev v : Vocabulary
  v = after symbols own ds

  own_part : IsSubvocabulary (after symbols [] ds) v
  own_part = record {
    entries = λ k e q. q;
    rigid = λ k e q h. absurd (let z : true ≡ false = sym h in cc);
    usable = λ k e q h. h;
    matched = λ k e q h. h;
  }

  own_signature : IsTypedSignature (after symbols [] ds) symbols → IsTypedSignature v symbols
  own_signature h = record {
    int = h.int;
    int_usable = h.int_usable;
    scoped = h.scoped;
    entries = λ k e q u. entry_more (after symbols [] ds) v own_part e (h.entries k e q u);
    constructors = h.constructors;
    patterns = h.patterns;
    tuples = h.tuples;
    records = h.records;
  }

  types_in : (ks : List ℕ) → All (λ (k : ℕ). IsTrue (list_any (λ j. j == k) own)) ks → All (IsQuotedAt symbols) ks → All (IsTypeIn v 0) (rigid_types ks)
  types_in [] may at = All-nil (IsTypeIn v 0)
  types_in (k ∷ ks) may at =
      let x : IsQuotedAt symbols k = at 0 k (omega arith) in
      let here = x.entry in
      let is : IsRigid v k = (may 0 k (omega arith), rw here (refl, refl)) in
      All-cons (IsTypeIn v 0) (Leaf (HTyRigid k)) (rigid_types ks) (record { sort = refl; typed = (tt, is); variables = tt })
      (types_in ks (λ i d l. may (suc i) d (omega (arith, l))) (λ i d l. at (suc i) d (omega (arith, l))))

  pub at_types : (n : ℕ) (e : Tree) → IsTypedSignature (after symbols [] ds) symbols → All (IsQuotedAt symbols) own → length (rigid_types own) ≡ n → IsFormulaOver v [] n e → IsFormulaOver v [] 0 (inst_types e (rigid_types own))
  at_types n e sig at count f = rigid_formula v symbols (own_signature sig) own n e (types_in own (all_among own own (λ k h. h)) at) count f

  of_said : (new : List DeclarationTree) (n : ℕ) (theory name : Word) (e : Tree) → new ≡ record { theory = theory; name = name; vars = n; body = Says e } ∷ [] → All (IsValidDecl v) new → (a : Tree) → map (λ (d : DeclarationTree). d.body) new ≡ Says a ∷ [] → IsFormulaOver v [] n a
  of_said new n theory name e q valid a says =
      let one : DeclarationTree = record { theory = theory; name = name; vars = n; body = Says e } in
      let all : All (IsValidDecl v) (one ∷ []) = subst (All (IsValidDecl v)) q valid in
      let f : IsFormulaOver v [] n e = all 0 one (omega arith) in
      let bodies : Says e ∷ [] ≡ Says a ∷ [] = sym (ap (λ (ds : List DeclarationTree). map (λ (d : DeclarationTree). d.body) ds) q) ∙ says in
      let same : Says e ≡ Says a = cc in
      subst (IsValidBody v n) same f

-- ---- the goal
module _ (c : Setting) (ds : List DeclarationTree) (d : source.SyntaxDeclaration) (x : TokenName) (y : Expression) (g : Signature) (s : List Tree) (h : Signature) (names : ScopeNames) (it : Elaborated) (typed : IsTypedSetting (after c.symbols [] ds) c) (below : MakesBelow (length c.symbols) ds)
    (sorted : (id : TermId) → Holds s id → WellSorted (tree_at s id)) (held : All (DeclHeld s) it.decls) (passes : HaveNoFault (symbols_at s h.symbols) (declarations_at s it.decls)) (quoted : All IsQuoted (proposition_seen y).vars) (sound : AreSound c.symbols ds) (goal : GoalTree)
    (said : IsGoalSaid (declarations_at s it.decls) it.rigid goal) where
  abbrev all : List SymbolTree
  all = symbols_at s h.symbols

  abbrev new : List DeclarationTree
  new = declarations_at s it.decls

  abbrev own : List ℕ
  own = it.rigid

  abbrev vs : List Word
  vs = (proposition_seen y).vars

  abbrev first : List SymbolTree
  first = c.symbols ++ tuples_wanting c (proposition_seen y)

  finish : AreSound all ds → All (IsQuotedAt all) own → IsDistinct own → IsFormulaOver (after all own ds) [] 0 (inst_types said.formula (rigid_types own)) → IsSoundAfter all ds goal
  finish before at distinct f = record {
    before = before;
    goal = record {
      rigid = subst (All (IsQuotedAt all)) (sym said.rigid) at;
      once = distinct_pairs goal.rigid (subst IsDistinct (sym said.rigid) distinct);
      formula = subst (λ (ks : List ℕ). IsFormulaOver (after all ks ds) [] 0 goal.prop) (sym said.rigid) (subst (IsFormulaOver (after all own ds) [] 0) (sym said.prop) f);
    };
  }

  entries_at : (symbols : all ≡ first ++ map rigid_symbol vs) → own ≡ entry_numbers (length first) vs → All (IsQuotedAt all) own
  entries_at q o = subst (All (IsQuotedAt all)) (sym o) (subst (λ (es : List SymbolTree). All (IsQuotedAt es) (entry_numbers (length first) vs)) (sym q) (quoted_entries first vs (length first) refl quoted))

  distinct_at : own ≡ entry_numbers (length first) vs → IsDistinct own
  distinct_at o = subst IsDistinct (sym o) (entries_distinct (length first) vs)

  count_at : own ≡ entry_numbers (length first) vs → length (rigid_types own) ≡ length vs
  count_at o = ap (λ (ks : List ℕ). length (rigid_types ks)) o ∙ count_types (length first) vs

  goal_kept : declaration d ≡ Some (proposition_declaration kind.Goal x y) → IsElaborated c (proposition_declaration kind.Goal x y) g s h names it → IsSoundAfter all ds goal
  goal_kept q e =
      let p : IsProposition c kind.Goal x y e.outcome = e.is in
      let z : IsNextGoal all (scope_at s names) ds own new = next_goal c ds d x y g s h names it typed below q e sorted held passes in
      let split : all ≡ first ++ map rigid_symbol vs = e.symbols_are ∙ (ap (λ (es : List SymbolTree). c.symbols ++ es) p.symbols ∙ sym (append_assoc c.symbols (tuples_wanting c (proposition_seen y)) (map rigid_symbol vs))) in
      let o : own ≡ entry_numbers (length first) vs = e.rigid ∙ p.rigid in
      let at = entries_at split o in
      let f = of_said all ds own new 0 _ _ _ (e.decls ∙ p.decls) z.valid said.formula said.says in
      finish (front_kept c ds (proposition_declaration kind.Goal x y) g s h names it typed below e sound) at (distinct_at o)
      (at_types all ds own (length vs) said.formula z.signature at (count_at o) (more_formula (after all own ds) (length vs) said.formula f))

  lemma_kept : declaration d ≡ Some (proposition_declaration kind.Lemma x y) → IsElaborated c (proposition_declaration kind.Lemma x y) g s h names it → IsSoundAfter all ds goal
  lemma_kept q e =
      let lemma = proposition_declaration kind.Lemma x y in
      let p : IsProposition c kind.Lemma x y e.outcome = e.is in
      let v0 = after all [] (ds ++ new) in
      let none : made new ≡ [] = ap made e.decls ∙ ap made p.decls in
      let z : IsValidElaborated v0 s h names it = elaborated_valid v0 c (setting c ds lemma g s h names it typed below tt e [] (λ k l. refl)) d lemma g s h names it q e sorted held passes (news c ds lemma g s h names it typed below tt e []) tt in
      let agree = nothing_more all [] ds new none in
      let part : IsSubvocabulary v0 (after all [] ds) = agrees_part v0 (after all [] ds) all agree in
      let sig : IsTypedSignature (after all [] ds) all = signature_agrees v0 (after all [] ds) all agree z.signature in
      let valid : All (IsValidDecl (after all own ds)) new = λ i a l. declaration_stays (after all [] ds) (after all own ds) (own_part all ds own) (get_or new i a) (declaration_stays v0 (after all [] ds) part (get_or new i a) (z.decls i a l)) in
      let split : all ≡ first ++ map rigid_symbol vs = e.symbols_are ∙ (ap (λ (es : List SymbolTree). c.symbols ++ es) p.symbols ∙ sym (append_assoc c.symbols (tuples_wanting c (proposition_seen y)) (map rigid_symbol vs))) in
      let o : own ≡ entry_numbers (length first) vs = e.rigid ∙ p.rigid in
      let at = entries_at split o in
      let f = of_said all ds own new (length vs) _ _ _ (e.decls ∙ p.decls) valid said.formula said.says in
      finish (front_kept c ds lemma g s h names it typed below e sound) at (distinct_at o) (at_types all ds own (length vs) said.formula sig at (count_at o) f)

  pub proved_kept : (k : PropKind) → IsToProve k → declaration d ≡ Some (proposition_declaration k x y) → IsElaborated c (proposition_declaration k x y) g s h names it → IsSoundAfter all ds goal
  proved_kept kind.Goal t q e = goal_kept q e
  proved_kept kind.Lemma t q e = lemma_kept q e
  proved_kept kind.Axiom t q e = absurd t
