-- A goal after declarations is valid over what they make and its own type variables.
use Rattle.std.proofs.Common.{◌≡◌, inl, inr, ℕ, ◌+◌, ◌<◌, ◌==◌, false, List, [], ◌∷◌, ◌++◌, map, length, get_or, All, Some, None, IsTrue, refl, sym, ap, subst, ◌∙◌, arith, length-append, append_assoc}
use Rattle.std.specs.Option.{option_or}
use Rattle.std.specs.List.{list_any, Contains}
use Rattle.std.proofs.lemmas.Bool.Decides.{nat_tests}
use Rattle.std.proofs.lemmas.List.Elements.{All-nil, All-cons}
use Rattle.elab_groups.specs.trees.Tree.{Tree}
use Rattle.elab_groups.specs.trees.declared.TermId.{TermId}
use Rattle.elab_groups.specs.trees.Node.{Holds, tree_at}
use Rattle.elab_groups.specs.trees.Sorts.{WellSorted}
use Rattle.elab_groups.specs.tasks.declared.signature.Signature.{Signature}
use Rattle.elab_groups.specs.tasks.Rigid.{rigid_symbol}
use Rattle.elab_groups.specs.tasks.Task.{SymbolTree, DeclarationTree, made}
use Rattle.elab_groups.specs.tasks.Meaning.{symbols_at, declarations_at, DeclHeld}
use Rattle.elab_groups.specs.tasks.Roles.{maker}
use Rattle.elab_groups.proofs.tasks.Declared.{contains_step, any_iff, maker_made}
use Rattle.elab_groups.specs.scopes.Names.{ScopeNames}
use Rattle.elab_groups.specs.name_resolution.Naming.{scope_at}
use Rattle.elab_groups.specs.name_resolution.Where.{NamesTree}
use Rattle.elab_groups.specs.surface.Lexeme.{Word}
use Rattle.elab_groups.specs.surface.declared.declarations.PropKind.TheVariants as kind
use Rattle.elab_groups.specs.surface.Declarations as source
use Rattle.elab_groups.specs.name_resolution.Abstract.{Expression}
use Rattle.elab_groups.proofs.open_types.Walking.{none_both}
use Rattle.elab_groups.specs.declared.parts.made.Elaborated.{Elaborated}
use Rattle.elab_groups.specs.parts.Declarations.{TokenName, proposition_declaration, declaration, made_names, made_fault}
use Rattle.elab_groups.specs.parts.Outcomes.{Setting, declared_in, tuples_wanting}
use Rattle.elab_declarations.specs.Outcomes.{proposition_seen, rigid_names, entry_numbers, used_fault, IsProposition, IsElaborated}
use Rattle.elaboration_laws.specs.Signature.{with_entries}
use Rattle.elaboration_laws.specs.Scopes.{NamesNew, AgreeBelow, IsTypedSignature, AreTypedScopes}
use Rattle.elaboration_laws.proofs.Extended.{agrees_part, signature_agrees, scopes_part}
use Rattle.elaboration_laws.specs.Valid.{IsTypedSetting, HaveNoFault, IsTypedOutcome, IsValidElaborated}
use Rattle.elaboration_laws.specs.Lists.{after, MakesBelow, IsRigidAt, IsNextGoal}
use Rattle.elaboration_laws.proofs.Lists.{maker_both}
use Rattle.elaboration_laws.proofs.Stays.{declaration_stays}
use Rattle.elaboration_laws.proofs.Propositions.{proposition_typed}
use Rattle.elaboration_laws.proofs.Elaborated.{elaborated_valid}
use Rattle.elaboration_laws.proofs.Steps.{none_of, or_none, setting, news, longer}
use Rattle.elaboration_laws.proofs.Algebraics.{at_end}

-- ---- numbers of rigid type variables
far_numbers : (n k : ℕ) (names : List Word) → k < n → list_any (λ j. j == k) (entry_numbers n names) ≡ false
far_numbers n k [] l = refl
far_numbers n k (x ∷ names) l = let q = unequal n k l in rw q (far_numbers (n + 1) k names (omega arith))
  where
    unequal : (a b : ℕ) → b < a → (a == b) ≡ false
    unequal a b h = grind (arith, nat_tests)

pub all_among : (xs ks : List ℕ) → ((k : ℕ) → Contains xs k → Contains ks k) → All (λ (k : ℕ). IsTrue (list_any (λ j. j == k) ks)) xs
all_among [] ks f = All-nil (λ (k : ℕ). IsTrue (list_any (λ j. j == k) ks))
all_among (x ∷ xs) ks f = All-cons (λ (k : ℕ). IsTrue (list_any (λ j. j == k) ks)) x xs ((any_iff x ks).1 (f x (contains_step x x xs (inl refl)))) (all_among xs ks (λ k h. f k (contains_step x k xs (inr h))))

pub rigid_entries : (xs : List SymbolTree) (names : List Word) (k : ℕ) → k ≡ length xs → All (IsRigidAt (xs ++ map rigid_symbol names)) (entry_numbers k names)
rigid_entries xs [] k q = All-nil (IsRigidAt (xs ++ []))
rigid_entries xs (x ∷ names) k q =
    let e = rigid_symbol x in
    let same : (xs ++ e ∷ []) ++ map rigid_symbol names ≡ xs ++ e ∷ map rigid_symbol names = append_assoc xs (e ∷ []) (map rigid_symbol names) in
    let rest = rigid_entries (xs ++ e ∷ []) names (k + 1) (omega (arith, q, length-append xs (e ∷ []))) in
    All-cons (IsRigidAt (xs ++ e ∷ map rigid_symbol names)) k (entry_numbers (k + 1) names) (record { name = x; entry = at_end xs (map rigid_symbol names) e k q })
    (subst (λ (es : List SymbolTree). All (IsRigidAt es) (entry_numbers (k + 1) names)) same rest)

-- ---- what makes nothing
module _ (symbols : List SymbolTree) (own : List ℕ) (ds new : List DeclarationTree) (none : made new ≡ []) where
  maker_none : (k : ℕ) → maker new k ≡ None
  maker_none k = none_of (maker new k) (λ t. let c = maker_made k new t in let z : length (made new) ≡ 0 = ap length none in let l : c.0 < length (made new) = c.1 in omega (arith, z, l))

  maker_same : (k : ℕ) → maker (ds ++ new) k ≡ maker ds k
  maker_same k = maker_both ds new k ∙ (ap (option_or (maker ds k)) (maker_none k) ∙ or_none (maker ds k))

  pub nothing_more : AgreeBelow (after symbols own (ds ++ new)) (after symbols own ds) (length symbols)
  nothing_more = record {
    rigid = λ k l. refl;
    usable = λ k l. let q = maker_same k in cc;
    matched = λ k l. let q = maker_same k in cc;
  }

pub next_goal : (c : Setting) (ds : List DeclarationTree) (d : source.SyntaxDeclaration) (x : TokenName) (y : Expression) (g : Signature) (s : List Tree) (g' : Signature) (names : ScopeNames) (it : Elaborated) → IsTypedSetting (after c.symbols [] ds) c → MakesBelow (length c.symbols) ds
    → declaration d ≡ Some (proposition_declaration kind.Goal x y) → IsElaborated c (proposition_declaration kind.Goal x y) g s g' names it → ((id : TermId) → Holds s id → WellSorted (tree_at s id)) → All (DeclHeld s) it.decls → HaveNoFault (symbols_at s g'.symbols) (declarations_at s it.decls)
    → IsNextGoal (symbols_at s g'.symbols) (scope_at s names) ds it.rigid (declarations_at s it.decls)
next_goal c ds d x y g s g' names it h below q e sorted held passes =
    let goal = proposition_declaration kind.Goal x y in
    let n = length c.symbols in
    let all = symbols_at s g'.symbols in
    let new = declarations_at s it.decls in
    let own = it.rigid in
    let p : IsProposition c kind.Goal x y e.outcome = e.is in
    let tuples = tuples_wanting c (proposition_seen y) in
    let vs = rigid_names kind.Goal (proposition_seen y).vars in
    let first = c.symbols ++ tuples in
    let far : (k : ℕ) → k < n → list_any (λ j. j == k) own ≡ false = λ k l. let z = far_numbers (length first) k vs (omega (arith, l, length-append c.symbols tuples)) in rw (e.rigid, p.rigid) z in
    let v = after all own (ds ++ new) in
    let none : made new ≡ [] = ap made e.decls ∙ ap made p.decls in
    let valid' : IsValidElaborated v s g' names it = elaborated_valid v c (setting c ds goal g s g' names it h below tt e own far) d goal g s g' names it q e sorted held passes (news c ds goal g s g' names it h below tt e own) (all_among own own (λ k z. z)) in
    let v0 = after all [] (ds ++ new) in
    let named = none_both (made_fault (declared_in c.scope) [] (made_names goal)) (used_fault c goal) e.named in
    let typed : IsTypedOutcome v0 c e.outcome = proposition_typed v0 c (setting c ds goal g s g' names it h below tt e [] (λ k l. refl)) kind.Goal x y e.outcome named.1 p (subst (λ (es : List SymbolTree). NamesNew v0 n es) e.symbols_are (news c ds goal g s g' names it h below tt e [])) in
    let signature' : IsTypedSignature v0 all = subst (λ (es : List SymbolTree). IsTypedSignature v0 es) (sym e.symbols_are) typed.signature in
    let scopes' : AreTypedScopes (with_entries v0 all) (scope_at s names) =
    subst (λ (es : List SymbolTree). AreTypedScopes (with_entries v0 es) (scope_at s names)) (sym e.symbols_are) (subst (λ (m : NamesTree). AreTypedScopes (with_entries v0 (c.symbols ++ e.outcome.symbols)) m) (sym e.scope) typed.scopes) in
    let part = agrees_part v (after all own ds) all (nothing_more all own ds new none) in
    let part0 = agrees_part v0 (after all [] ds) all (nothing_more all [] ds new none) in
    let long = longer c ds goal g s g' names it h below tt e in
    let entries : All (IsRigidAt all) own =
    rw (e.rigid, p.rigid) (subst (λ (es : List SymbolTree). All (IsRigidAt es) (entry_numbers (length first) vs)) (append_assoc c.symbols tuples (map rigid_symbol vs) ∙ ap (λ (es : List SymbolTree). c.symbols ++ es) (sym p.symbols) ∙ sym e.symbols_are) (rigid_entries first vs (length first) refl)) in
    record {
      signature = signature_agrees v0 (after all [] ds) all (nothing_more all [] ds new none) signature';
      scopes = scopes_part (with_entries v0 all) (with_entries (after all [] ds) all) part0 (scope_at s names) scopes';
      valid = λ i a l. declaration_stays (with_entries v all) (with_entries (after all own ds) all) part (get_or new i a) (valid'.decls i a l);
      makes = λ i k l. let z : get_or (made ds) i k < n = below i k l in omega (arith, z, long);
      rigid = entries;
    }
