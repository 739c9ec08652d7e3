-- Names are words after the declarations of a theory, one after another.
use Rattle.std.proofs.Common.{ℕ, ◌-◌, zero, suc, codes, List, [], ◌∷◌, ◌++◌, length, All, Option, Some, None, slice_get, refl, sym, subst, arith}
use Rattle.std.specs.Option.{IfSome, unwrap_or}
use Rattle.std.proofs.lemmas.List.Elements.{All-nil, All-cons}
use Rattle.surface.specs.tokens_why.declared.terminal.Terminal.TheVariants as t
use Rattle.surface.specs.Lexeme.{Word, Lexeme, mark, lx}
use Rattle.surface.specs.declared.names.Name.{Name}
use Rattle.surface.specs.declared.names.Path.{Path}
use Rattle.surface.specs.declared.declarations.Link.{Link}
use Rattle.surface.specs.Declarations.{SyntaxDeclaration, SyntaxDeclarations, use_decl, clone_decl, scope_decl, no_decls, more_decls, link_words, path_from, write_path, renamed, substitution, write_decl, write_decls}
use Rattle.theory_states.specs.States.{StateTree}
use Rattle.theory_states.specs.Uses.{last_part, alias_text, IsTheoryUsed}
use Rattle.theories.specs.Typing.{IsPassed, IsOpened, IsDeclarationTyped, AreDeclarationsTyped}
use Rattle.tasks.specs.Words.{IsScopedName}
use Rattle.theories.specs.Lexemes.{IsWordLexeme, AreWordLexemes}
use Rattle.theories.specs.Names.{HasWordNames}
use Rattle.theories.proofs.Words.{written_name, joined}
use Rattle.elaboration_laws.proofs.Variables.{tail_of, front_of, back_of}
use Rattle.theories.proofs.Declared.{declared_words}
use Rattle.theories.proofs.WordCloned.{cloned_words}

abbrev Are : List Lexeme → Type 0
Are = AreWordLexemes

tail_at : (x : Lexeme) (xs : List Lexeme) → Are (x ∷ xs) → Are xs
tail_at = tail_of IsWordLexeme

front_at : (xs ys : List Lexeme) → Are (xs ++ ys) → Are xs
front_at = front_of IsWordLexeme

back_at : (xs ys : List Lexeme) → Are (xs ++ ys) → Are ys
back_at = back_of IsWordLexeme

-- ---- a path, and a name after `as`
parts_words : (w : Word) (ws : List Word) → Are (path_from w ws) → All IsScopedName (w ∷ ws)
parts_words w [] q = All-cons IsScopedName w [] (q 0 (lx t.Uident w) (omega arith)) (All-nil IsScopedName)
parts_words w (v ∷ ws) q = All-cons IsScopedName w (v ∷ ws) (q 0 (lx t.Lident w) (omega arith)) (parts_words v ws (tail_at (mark t.Dot) (path_from v ws) (tail_at (lx t.Lident w) (mark t.Dot ∷ path_from v ws) q)))

part_word : (ps : List Word) (k : ℕ) → All IsScopedName ps → IsScopedName (unwrap_or (slice_get ps k) [])
part_word [] k h = written_name [] refl
part_word (p ∷ ps) zero h = h 0 p (omega arith)
part_word (p ∷ ps) (suc k) h = part_word ps k (λ j d l. h (suc j) d (omega (arith, l)))

last_word : (ps : List Word) → Are (write_path ps) → IsScopedName (last_part ps)
last_word [] q = written_name [] refl
last_word (p ∷ ps) q = part_word (p ∷ ps) (length (p ∷ ps) - 1) (parts_words p ps q)

alias_word : (n : Option Name) → Are (renamed n) → IfSome (alias_text n) IsScopedName
alias_word None q = tt
alias_word (Some n) q = q 1 (lx t.Uident n.text) (omega arith)

-- ---- steps
passed_words : (c c' : StateTree) → IsPassed c c' → HasWordNames c → HasWordNames c'
passed_words c c' e h = subst HasWordNames (sym e) (record { symbols = h.symbols; within = h.within; axioms = h.axioms; known = h.known })

used_words : (l : Link) (p : Path) (n : Option Name) (c c' : StateTree) → IsTheoryUsed l p n c c' → HasWordNames c → HasWordNames c'
used_words l p n c c' u h = subst HasWordNames (sym u.is) (record { symbols = h.symbols; within = h.within; axioms = h.axioms; known = h.known })

opened_words : (n : Name) (c c' : StateTree) → IsScopedName n.text → IsOpened n c c' → HasWordNames c → HasWordNames c'
opened_words n c c' w o h = subst HasWordNames (sym o.is) (record {
  symbols = h.symbols;
  within = joined c.opened.within (n.text ++ codes ".") h.within (joined n.text (codes ".") w (written_name (codes ".") refl));
  axioms = h.axioms;
  known = h.known;
})

-- ---- declarations
mutual
  typed_words : (d : SyntaxDeclaration) (c c' : StateTree) → Are (write_decl d) → IsDeclarationTyped d c c' → HasWordNames c → HasWordNames c'
  typed_words (use_decl a l p n) c c' q s h = passed_words s.between c' s.second (used_words l p n c s.between s.first h)
  typed_words (clone_decl a l p n es) c c' q s h =
      let last = renamed n ++ substitution es in
      let r = back_at (link_words l) (write_path p.parts ++ last) (tail_at (mark t.CloneWord) (link_words l ++ (write_path p.parts ++ last)) q) in
      let path = last_word p.parts (front_at (write_path p.parts) last r) in
      let alias = alias_word n (front_at (renamed n) (substitution es) (back_at (write_path p.parts) last r)) in
      passed_words s.between c' s.second (cloned_words l p n es c s.between path alias s.first h)
  typed_words (scope_decl a n ds) c c' q s h =
      let end = mark t.EndWord ∷ [] in
      let inner = front_at (write_decls ds) end (tail_at (lx t.Uident n.text) (write_decls ds ++ end) (tail_at (mark t.ScopeWord) (lx t.Uident n.text ∷ (write_decls ds ++ end)) q)) in
      let opened = opened_words n c s.between (q 1 (lx t.Uident n.text) (omega arith)) s.first h in
      let m = all_typed_words ds s.between s.second.between inner s.second.first opened in
      subst HasWordNames (sym s.second.second) (record { symbols = m.symbols; within = h.within; axioms = m.axioms; known = m.known })
  typed_words d c c' q s h = passed_words s.between c' s.second (declared_words d c s.between q s.first h)

  pub all_typed_words : (ds : SyntaxDeclarations) (c c' : StateTree) → Are (write_decls ds) → AreDeclarationsTyped ds c c' → HasWordNames c → HasWordNames c'
  all_typed_words no_decls c c' q s h = subst HasWordNames s h
  all_typed_words (more_decls d ds) c c' q s h = all_typed_words ds s.between c' (back_at (write_decl d) (write_decls ds) q) s.second (typed_words d c s.between (front_at (write_decl d) (write_decls ds) q) s.first h)
