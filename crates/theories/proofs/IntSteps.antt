-- A declaration of a function or predicate without a body gives its own entry, where the theory int.Int is typed.
use Rattle.std.proofs.Common.{◌≡◌, ℕ, List, [], ◌∷◌, ◌++◌, codes, Some, None, sym, ap, subst, ◌∙◌}
use Rattle.tasks.specs.Task.{SymbolTree, DeclarationTree}
use Rattle.elaboration_laws.specs.name_resolution.Where.{NamesTree}
use Rattle.surface.specs.Declarations.{SyntaxDeclaration}
use Rattle.elaboration_laws.specs.elab_groups.parts.Declarations.{GroupMember, Declaration, member_group, declaration}
use Rattle.elaboration_laws.specs.elab_groups.parts.Outcomes.{Setting}
use Rattle.elaboration_laws.specs.elab_groups.Groups.{group_tuples, before_group, group_scope, IsGroup}
use Rattle.elaboration_laws.specs.elab_groups.members.Members.{member_entries}
use Rattle.elaboration_laws.specs.elab_declarations.Outcomes.{IsOutcome}
use Rattle.theory_states.specs.States.{StateTree, with_declaration, with_declarations}
use Rattle.elaboration_laws.specs.TypedStates.{state_setting}
use Rattle.theories.specs.declaring.Declared.{proposition_in, known_by, with_named, IsDeclared}
use Rattle.theories.specs.Typing.{ThenStep, IsPassed}

-- where a declaration of int.Int stands, whatever its number
abbrev pub int_setting : ℕ → List SymbolTree → NamesTree → Setting
int_setting number symbols scope = record { theory = codes "int.Int"; within = []; decl = number; symbols = symbols; scope = scope }

-- what it makes, and the names then
abbrev pub int_made : Setting → GroupMember → List SymbolTree
int_made c m = group_tuples c (m ∷ []) ++ member_entries c (before_group c (m ∷ [])) (m ∷ [])

abbrev pub int_scope : Setting → GroupMember → NamesTree
int_scope c m = group_scope c (m ∷ [])

-- these are the entries and the names in int.Int
pub record IsIntState (symbols : List SymbolTree) (scope : NamesTree) (c : StateTree) : Type 0 where
  pub symbols_are : c.symbols ≡ symbols
  pub scope_is : c.opened.scope ≡ scope
  pub within_is : c.opened.within ≡ []
  pub path_is : c.opened.path ≡ codes "int.Int"

setting_is : (symbols : List SymbolTree) (scope : NamesTree) (c : StateTree) → IsIntState symbols scope c → state_setting c ≡ int_setting c.number symbols scope
setting_is symbols scope c h =
    ap (λ (es : List SymbolTree). let it : Setting = record { theory = c.opened.path; within = c.opened.within; decl = c.number; symbols = es; scope = c.opened.scope } in it) h.symbols_are
    ∙ (ap (λ (n : NamesTree). let it : Setting = record { theory = c.opened.path; within = c.opened.within; decl = c.number; symbols = symbols; scope = n } in it) h.scope_is
    ∙ (ap (λ (w : List ℕ). let it : Setting = record { theory = c.opened.path; within = w; decl = c.number; symbols = symbols; scope = scope } in it) h.within_is
    ∙ ap (λ (p : List ℕ). let it : Setting = record { theory = p; within = []; decl = c.number; symbols = symbols; scope = scope } in it) h.path_is))

declarations_kept : (symbols : List SymbolTree) (scope : NamesTree) (ds : List DeclarationTree) (c : StateTree) → IsIntState symbols scope c → IsIntState symbols scope (with_declarations ds c)
declarations_kept symbols scope [] c h = h
declarations_kept symbols scope (d ∷ ds) c h =
    declarations_kept symbols scope ds (with_declaration d c) (record { symbols_are = h.symbols_are; scope_is = h.scope_is; within_is = h.within_is; path_is = h.path_is })

passed_kept : (symbols : List SymbolTree) (scope : NamesTree) (c c' : StateTree) → IsPassed c c' → IsIntState symbols scope c → IsIntState symbols scope c'
passed_kept symbols scope c c' e h = subst (IsIntState symbols scope) (sym e) (record { symbols_are = h.symbols_are; scope_is = h.scope_is; within_is = h.within_is; path_is = h.path_is })

one_declaration : (x y : Declaration) → Some x ≡ Some y → x ≡ y
one_declaration x y e = cc

module _ (d : SyntaxDeclaration) (m : GroupMember) (symbols more : List SymbolTree) (scope inner : NamesTree) where
  declared_group : (c c' : StateTree) → declaration d ≡ Some (member_group (m ∷ [])) → IsIntState symbols scope c → (e : IsDeclared d c c') → IsGroup (int_setting c.number symbols scope) (m ∷ []) e.outcome
  declared_group c c' p h e =
      let same : e.parts ≡ member_group (m ∷ []) = one_declaration e.parts (member_group (m ∷ [])) (sym e.of ∙ p) in
      let there : IsGroup (state_setting c) (m ∷ []) e.outcome = subst (λ (x : Declaration). IsOutcome (state_setting c) x e.outcome) same e.is in
      subst (λ (x : Setting). IsGroup x (m ∷ []) e.outcome) (setting_is symbols scope c h) there

  int_declared : (c c' : StateTree) → declaration d ≡ Some (member_group (m ∷ [])) → proposition_in d ≡ None
      → ((n : ℕ) → int_made (int_setting n symbols scope) m ≡ more) → ((n : ℕ) → int_scope (int_setting n symbols scope) m ≡ inner)
      → IsIntState symbols scope c → IsDeclared d c c' → IsIntState (symbols ++ more) inner c'
  int_declared c c' p q made named h e =
      let g = declared_group c c' p h e in
      let entries : c.symbols ++ e.outcome.symbols ≡ symbols ++ more = ap (λ (es : List SymbolTree). es ++ e.outcome.symbols) h.symbols_are ∙ ap (λ (es : List SymbolTree). symbols ++ es) (g.symbols ∙ made c.number) in
      let names : e.outcome.scope ≡ inner = g.scope ∙ named c.number in
      let after : IsIntState (symbols ++ more) inner (with_named d e.outcome c) = record { symbols_are = entries; scope_is = names; within_is = h.within_is; path_is = h.path_is } in
      let known : c' ≡ with_declarations e.outcome.decls (with_named d e.outcome c) = e.known ∙ ap (λ o. known_by o e.outcome.rigid e.outcome.decls (with_named d e.outcome c)) q in
      subst (IsIntState (symbols ++ more) inner) (sym known) (declarations_kept (symbols ++ more) inner e.outcome.decls (with_named d e.outcome c) after)

  pub int_typed : (c c' : StateTree) → declaration d ≡ Some (member_group (m ∷ [])) → proposition_in d ≡ None
      → ((n : ℕ) → int_made (int_setting n symbols scope) m ≡ more) → ((n : ℕ) → int_scope (int_setting n symbols scope) m ≡ inner)
      → IsIntState symbols scope c → ThenStep (IsDeclared d) IsPassed c c' → IsIntState (symbols ++ more) inner c'
  int_typed c c' p q made named h t = passed_kept (symbols ++ more) inner t.between c' t.second (int_declared c t.between p q made named h t.first)
