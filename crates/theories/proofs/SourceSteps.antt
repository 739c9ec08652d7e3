-- What is known stays typed and sound, one declaration after another.
use Rattle.std.proofs.Common.{ℕ, ◌+◌, suc, true, List, [], ◌∷◌, ◌++◌, All, refl, sym, subst, arith}
use Rattle.std.proofs.lemmas.List.Elements.{All-nil, All-cons, All-push}
use Rattle.tasks.specs.Vocabulary.{of_signature}
use Rattle.elaboration_laws.specs.scopes.Names.{with_scope}
use Rattle.surface.specs.tokens_why.declared.terminal.Terminal.TheVariants as t
use Rattle.theory_states.specs.declared.moves.Move.TheVariants.{Opens, Closes}
use Rattle.theory_states.specs.Moves.{left}
use Rattle.surface.specs.Lexeme.{Lexeme, mark, lx}
use Rattle.surface.specs.declared.names.Name.{Name}
use Rattle.surface.specs.declared.names.Path.{Path}
use Rattle.surface.specs.declared.declarations.Link.{Link}
use Rattle.surface.specs.Declarations.{Element, SyntaxDeclaration, SyntaxDeclarations, type_decl, algebraic_decl, function_decl, predicate_decl, constant_decl, inductive_decl, prop_decl, use_decl, clone_decl, scope_decl, no_decls, more_decls, write_decl, write_decls}
use Rattle.surface.specs.DeclarationRules.{IsLevelDecl, AreLevelDecls}
use Rattle.std.specs.Prelude.{Option, codes}
use Rattle.elaboration_laws.specs.Lists.{after}
use Rattle.elaboration_laws.specs.Moves.{IsTypedMove}
use Rattle.elaboration_laws.proofs.MovedScopes.{opened_typed, left_typed}
use Rattle.elaboration_laws.specs.Quoted.{IsQuotedLexeme}
use Rattle.elaboration_laws.proofs.Quoted.{whole_in}
use Rattle.elaboration_laws.specs.Placed.{ArePlaced}
use Rattle.theory_states.specs.States.{OpenedTree, StateTree, visible_now}
use Rattle.theory_states.specs.Uses.{IsTheoryUsed}
use Rattle.elaboration_laws.specs.TypedStates.{IsTypedState}
use Rattle.elaboration_laws.proofs.Keeping.{renamed_typed, used_typed}
use Rattle.elaboration_laws.specs.Sound.{IsSoundState}
use Rattle.elaboration_laws.proofs.Scoped.{uses_kept, scopes_kept}
use Rattle.theories.specs.cloning.Cloned.{IsCloned}
use Rattle.theories.proofs.cloning.TypedClone.{cloned_typed, cloned_placed}
use Rattle.theories.specs.Plain.{IsPlainState}
use Rattle.theories.proofs.Plain.{declared_plain, uses_plain, scopes_plain}
use Rattle.theories.proofs.Cloned.{cloned_plain, cloned_sound}
use Rattle.theories.specs.Typing.{ThenStep, IsPassed, IsOpened, IsLeft}
use Rattle.theories.specs.Sound.{IsSoundlyDeclared, IsSoundlyTyped, AreSoundlyTyped}
use Rattle.theories.proofs.Placing.{declared_placed}

-- ---- the tokens of parts
abbrev pub AreQuoted : List Lexeme → Type 0
AreQuoted ls = All IsQuotedLexeme ls

pub tail_of : (x : Lexeme) (xs : List Lexeme) → AreQuoted (x ∷ xs) → AreQuoted xs
tail_of x xs h = λ k d l. h (suc k) d (omega (arith, l))

pub front_of : (xs ys : List Lexeme) → AreQuoted (xs ++ ys) → AreQuoted xs
front_of [] ys h = All-nil IsQuotedLexeme
front_of (x ∷ xs) ys h = All-cons IsQuotedLexeme x xs (h 0 x (omega arith)) (front_of xs ys (tail_of x (xs ++ ys) h))

pub back_of : (xs ys : List Lexeme) → AreQuoted (xs ++ ys) → AreQuoted ys
back_of [] ys h = h
back_of (x ∷ xs) ys h = back_of xs ys (tail_of x (xs ++ ys) h)

-- ---- what is known in a theory
pub record IsGood (c : StateTree) : Type 0 where
  pub typed : IsTypedState c
  pub placed : ArePlaced c.symbols
  pub plain : IsPlainState c
  pub sound : IsSoundState c

pub passed_good : (c c' : StateTree) → IsPassed c c' → IsGood c → IsGood c'
passed_good c c' e h = subst IsGood (sym e) (record {
  typed = renamed_typed c c.opened (c.number + 1) refl h.typed.scopes h.typed.moves h.typed;
  placed = h.placed;
  plain = record { known = h.plain.known; opened = h.plain.opened };
  sound = record { opened = h.sound.opened; known = h.sound.known; apart = h.sound.apart; of = h.sound.of };
})

used_good : (l : Link) (p : Path) (n : Option Name) (c c' : StateTree) → IsTheoryUsed l p n c c' → IsGood c → IsGood c'
used_good l p n c c' u h = record {
  typed = used_typed l p n c c' u h.typed;
  placed = subst (λ (z : StateTree). ArePlaced z.symbols) (sym u.is) h.placed;
  plain = uses_plain l p n c c' h.plain u;
  sound = uses_kept l p n c c' h.sound u;
}

cloned_good : (l : Link) (p : Path) (n : Option Name) (es : List Element) (c c' : StateTree) → IsCloned l p n es c c' → IsGood c → IsGood c'
cloned_good l p n es c c' u h = record {
  typed = cloned_typed l p n es c c' u h.typed h.placed;
  placed = cloned_placed l p n es c c' u h.typed h.placed;
  plain = cloned_plain l p n es c c' u h.typed h.placed h.plain h.sound;
  sound = cloned_sound l p n es c c' u h.typed h.placed h.plain h.sound;
}

declared_good : (d : SyntaxDeclaration) (c c' : StateTree) → IsLevelDecl d → AreQuoted (write_decl d) → IsSoundlyDeclared d c c' → IsGood c → IsGood c'
declared_good d c c' w q u h = record {
  typed = u.typed;
  placed = declared_placed d c c' h.typed.theory u.declared h.placed;
  plain = declared_plain d c c' u.declared h.plain;
  sound = u.sound (whole_in d w) q h.sound;
}

logical_good : (d : SyntaxDeclaration) (c c' : StateTree) → IsLevelDecl d → AreQuoted (write_decl d) → ThenStep (IsSoundlyDeclared d) IsPassed c c' → IsGood c → IsGood c'
logical_good d c c' w q u h = passed_good u.between c' u.second (declared_good d c u.between w q u.first h)

-- ---- scopes
opened_good : (n : Name) (c c' : StateTree) → IsOpened n c c' → IsGood c → IsGood c'
opened_good n c c' u h =
    let v = of_signature c.symbols in
    let w = after c.symbols [] (visible_now c) in
    let o : OpenedTree = record c.opened { scope = with_scope n.text true c.opened.scope; within = c.opened.within ++ (n.text ++ codes "."); moves = c.opened.moves ++ Opens n.text ∷ [] } in
    subst IsGood (sym u.is) (record {
      typed = renamed_typed c o (c.number + 1) refl (opened_typed v n.text true c.opened.scope h.typed.scopes) (All-push (IsTypedMove v) c.opened.moves (Opens n.text) h.typed.moves tt) h.typed;
      placed = h.placed;
      plain = scopes_plain c o.within o.scope (Opens n.text ∷ []) (c.number + 1) h.plain;
      sound = scopes_kept c o.within o.scope (Opens n.text ∷ []) (c.number + 1) h.sound (opened_typed w n.text true c.opened.scope h.sound.opened.scopes)
          (All-cons (IsTypedMove w) (Opens n.text) [] tt (All-nil (IsTypedMove w)));
    })

left_good : (outer : List ℕ) (c c' : StateTree) → IsLeft outer c c' → IsGood c → IsGood c'
left_good outer c c' u h =
    let v = of_signature c.symbols in
    let w = after c.symbols [] (visible_now c) in
    let o : OpenedTree = record c.opened { scope = left c.opened.scope; within = outer; moves = c.opened.moves ++ Closes ∷ [] } in
    subst IsGood (sym u) (record {
      typed = renamed_typed c o c.number refl (left_typed v c.opened.scope h.typed.scopes) (All-push (IsTypedMove v) c.opened.moves Closes h.typed.moves tt) h.typed;
      placed = h.placed;
      plain = scopes_plain c outer o.scope (Closes ∷ []) c.number h.plain;
      sound = scopes_kept c outer o.scope (Closes ∷ []) c.number h.sound (left_typed w c.opened.scope h.sound.opened.scopes)
          (All-cons (IsTypedMove w) Closes [] tt (All-nil (IsTypedMove w)));
    })

-- ---- declarations
mutual
  pub decl_good : (d : SyntaxDeclaration) (c c' : StateTree) → IsLevelDecl d → AreQuoted (write_decl d) → IsSoundlyTyped d c c' → IsGood c → IsGood c'
  decl_good (type_decl a n vs f) c c' w q u h = logical_good (type_decl a n vs f) c c' w q u h
  decl_good (algebraic_decl a ts) c c' w q u h = logical_good (algebraic_decl a ts) c c' w q u h
  decl_good (function_decl a x ps f e ms) c c' w q u h = logical_good (function_decl a x ps f e ms) c c' w q u h
  decl_good (predicate_decl a x ps e ms) c c' w q u h = logical_good (predicate_decl a x ps e ms) c c' w q u h
  decl_good (constant_decl a x f e) c c' w q u h = logical_good (constant_decl a x f e) c c' w q u h
  decl_good (inductive_decl a ds) c c' w q u h = logical_good (inductive_decl a ds) c c' w q u h
  decl_good (prop_decl a k x e) c c' w q u h = logical_good (prop_decl a k x e) c c' w q u h
  decl_good (use_decl a l p n) c c' w q u h = passed_good u.between c' u.second (used_good l p n c u.between u.first h)
  decl_good (clone_decl a l p n es) c c' w q u h = passed_good u.between c' u.second (cloned_good l p n es c u.between u.first h)
  decl_good (scope_decl a n ds) c c' w q u h =
      let rest = write_decls ds ++ (mark t.EndWord ∷ []) in
      let r = front_of (write_decls ds) (mark t.EndWord ∷ []) (tail_of (lx t.Uident n.text) rest (tail_of (mark t.ScopeWord) (lx t.Uident n.text ∷ rest) q)) in
      left_good c.opened.within u.second.between c' u.second.second (decls_good ds u.between u.second.between w r u.second.first (opened_good n c u.between u.first h))

  pub decls_good : (ds : SyntaxDeclarations) (c c' : StateTree) → AreLevelDecls ds → AreQuoted (write_decls ds) → AreSoundlyTyped ds c c' → IsGood c → IsGood c'
  decls_good no_decls c c' w q u h = subst IsGood u h
  decls_good (more_decls d ds) c c' w q u h =
      decls_good ds u.between c' w.1 (back_of (write_decl d) (write_decls ds) q) u.second (decl_good d c u.between w.0 (front_of (write_decl d) (write_decls ds) q) u.first h)
