-- How the parts of a declaration make its elaboration.
use Rattle.std.proofs.Common.{◌≡◌, ℕ, ◌+◌, true, false, List, [], ◌∷◌, ◌++◌, map, length, Option, None, refl, sym, ap, subst, ◌∙◌, arith, length-append, Err}
use Rattle.std.specs.List.{All}
use Rattle.std.proofs.Math.ListN.{length-map}
use Rattle.tasks.specs.trees.Tree.{Tree}
use Rattle.tasks.specs.trees.Node.{Grows}
use Rattle.tasks.specs.Task.{SymbolTree, Says}
use Rattle.tasks.specs.Rigid.{rigid_symbol}
use Rattle.tasks.specs.Meaning.{symbol_at, symbols_at, declarations_at, DeclHeld}
use Rattle.tasks.specs.declared.signature.Signature.{Signature}
use Rattle.name_resolution.specs.scopes.declared.Table.TheVariants.{Propositions}
use Rattle.name_resolution.specs.scopes.declared.Referent.TheVariants as stands
use Rattle.name_resolution.specs.scopes.Names.{ScopeNames, with_name}
use Rattle.surface.specs.Lexeme.{Word}
use Rattle.surface.specs.declared.declarations.PropKind.{PropKind}
use Rattle.name_resolution.specs.Abstract.{Expression}
use Rattle.name_resolution.specs.declared.NamingFault.{NamingFault}
use Rattle.name_resolution.specs.Faults.{fault}
use Rattle.name_resolution.specs.Naming.{Tells, type_tree_at, scope_at}
use Rattle.name_resolution.specs.Where.{Where}
use Rattle.elab_groups.specs.open_types.Pieces.{NotedTree, piece}
use Rattle.elab_groups.specs.name_resolution.variables.Seen.{SeenTree}
use Rattle.elab_groups.specs.open_types.Drafts.{match_at, MatchHeld}
use Rattle.elab_groups.specs.declared.parts.made.Elaborated.{Elaborated}
use Rattle.elab_groups.specs.declared.parts.made.Place.{Place}
use Rattle.elab_groups.specs.declared.parts.solution.TypingFault.{TypingFault}
use Rattle.elab_groups.specs.parts.Elaborated.{IsSolved, IsTypingFault, elab_naming_fault, elab_typing_fault}
use Rattle.elab_groups.specs.parts.Declarations.{TokenName, proposition_declaration, made_names, made_fault}
use Rattle.elab_groups.specs.parts.Entries.{IsExtended, AreScopes, wanting_tuples}
use Rattle.elab_groups.specs.parts.Outcomes.{Setting, over, around, setting, declared_in, IsNameRefused, IsKept}
use Rattle.elab_declarations.specs.Outcomes.{proposition_seen, proposition_piece, rigid_names, entry_numbers, said_as, schematic, IsTypedProposition, IsElaborated, IsRefusal, names_fault, notes_of, rigid_of}
use Rattle.elab_groups.proofs.parts.AtScope.{entered_with}
use Rattle.elab_groups.proofs.parts.Overs.{scope_stays}
use Rattle.elab_groups.proofs.parts.Scopes.{scopes_grow, scopes_more}
use Rattle.elab_groups.proofs.parts.Entering.{extended_both}
use Rattle.elab_groups.proofs.parts.Keeping.{over_kept, length_extended}
use Rattle.elab_groups.proofs.parts.Refused.{no_fault, name_refused, name_free, made_refusal, used_refusal, typing_refusal}
use Rattle.elab_declarations.proofs.Over.{made_at, told_at}

-- a proposition, whose name stands for its number in the scopes afterwards
abbrev pub named_after : Place → ScopeNames → Word → ScopeNames
named_after p names x = with_name Propositions x (stands.Entry p.decl) true names

module _ (p : Place) (s : List Tree) (g : Signature) (names : ScopeNames) (k : PropKind) (x : TokenName) (e : Expression) where
  abbrev c : Setting
  c = setting p s g names

  abbrev made_here : Option NamingFault
  made_here = made_fault (declared_in (scope_at s names)) [] (made_names (proposition_declaration k x e))

  abbrev used_here : Option NamingFault
  used_here = fault (around c []) true [] true e

  piece_kept : proposition_piece (setting p s g (named_after p names x.name)) e ≡ proposition_piece (setting p s g names) e
  piece_kept = ap (λ (w : Where). piece w [] (length (proposition_seen e).vars) None e) (over_kept s (symbols_at s g.symbols ++ wanting_tuples (symbols_at s g.symbols) (proposition_seen e).widths) x.name (stands.Entry p.decl) names (proposition_seen e).vars)

  pub used_kept : fault (around (setting p s g (named_after p names x.name)) []) true [] true e ≡ fault (around (setting p s g names) []) true [] true e
  used_kept = ap (λ (w : Where). fault w true [] true e) (over_kept s (symbols_at s g.symbols) x.name (stands.Entry p.decl) names [])

  pub name_refusal : (f : NamingFault) → IsNameRefused (declared_in names Propositions x.name) x.at f → IsRefusal (setting p s g names) (proposition_declaration k x e) (elab_naming_fault p.decl f)
  name_refusal f h = made_refusal p.decl (rigid_of c (proposition_declaration k x e)) (notes_of c (proposition_declaration k x e)) made_here used_here f (told_at s names (made_names (proposition_declaration k x e)) f (name_refused (declared_in names Propositions x.name) x.at f None h))

  module _ (free : declared_in names Propositions x.name ≡ false) where
    made_free : made_fault (declared_in (scope_at s names)) [] (made_names (proposition_declaration k x e)) ≡ None
    made_free = made_at s names (made_names (proposition_declaration k x e)) ∙ name_free (declared_in names Propositions x.name) x.at None free

    pub use_refusal : (f : NamingFault) → Tells (Err f) (fault (around (setting p s g (named_after p names x.name)) []) true [] true e) → IsRefusal (setting p s g names) (proposition_declaration k x e) (elab_naming_fault p.decl f)
    use_refusal f h = used_refusal p.decl (rigid_of c (proposition_declaration k x e)) (notes_of c (proposition_declaration k x e)) made_here used_here f made_free (subst (λ (m : Option NamingFault). Tells (Err f) m) used_kept h)

    module _ (right : fault (around (setting p s g (named_after p names x.name)) []) true [] true e ≡ None) where
      all_named : names_fault (setting p s g names) (proposition_declaration k x e) ≡ None
      all_named = no_fault made_here used_here made_free (sym used_kept ∙ right)

      pub type_refusal : (f : TypingFault) → IsTypingFault (length (proposition_seen e).vars) (proposition_piece (setting p s g (named_after p names x.name)) e).notes f
          → IsRefusal (setting p s g names) (proposition_declaration k x e) (elab_typing_fault p.decl f)
      type_refusal f h = typing_refusal p.decl (rigid_of c (proposition_declaration k x e)) (notes_of c (proposition_declaration k x e)) (names_fault c (proposition_declaration k x e)) f all_named (subst (λ (q : NotedTree). IsTypingFault (length (proposition_seen e).vars) q.notes f) piece_kept h)

      pub elaborated : (s' : List Tree) (g' : Signature) (made : Elaborated) → Grows s s' → AreScopes s (length g.symbols) names → IsTypedProposition p s g (named_after p names x.name) k x.name e s' g' made
          → IsElaborated (setting p s g names) (proposition_declaration k x e) g s' g' (named_after p names x.name) made
      elaborated s' g' made w a h = record {
        outcome = record {
          symbols = wanting_tuples (symbols_at s g.symbols) (proposition_seen e).widths ++ map rigid_symbol (rigid_names k (proposition_seen e).vars);
          scope = with_name Propositions x.name (stands.Entry p.decl) true (scope_at s names);
          decls = declarations_at s' made.decls;
          rigid = made.rigid;
          matches = map (match_at s') made.matches;
        };
        is = record {
          formula = h.formula;
          solved = subst (λ (q : NotedTree). IsSolved (length (proposition_seen e).vars) q h.formula (map (match_at s') made.matches)) piece_kept h.solved;
          symbols = refl;
          scope = refl;
          rigid = h.rigid;
          decls = h.decls;
        };
        named = all_named;
        symbols_are = h.extended.symbols;
        ints = h.extended.ints;
        scope =
            entered_with (type_tree_at s') Propositions x.name p.decl names
            ∙ ap (with_name Propositions x.name (stands.Entry p.decl) true) (scope_stays s s' w (length g.symbols) names a);
        decls = refl;
        rigid = refl;
        matches = refl;
      }

  pub kept : (s' : List Tree) (g' : Signature) (made : Elaborated) → Grows s s' → AreScopes s (length g.symbols) names → IsTypedProposition p s g (named_after p names x.name) k x.name e s' g' made
      → IsKept s' g' (named_after p names x.name) made
  kept s' g' made w h t =
      let more = wanting_tuples (symbols_at s g.symbols) (proposition_seen e).widths ++ map rigid_symbol (rigid_names k (proposition_seen e).vars) in
      let l : length g'.symbols ≡ length g.symbols + length more = length_extended more t.extended in
      record {
        signature = t.extended.signature;
        scopes = scopes_grow s s' w (length g.symbols) (length g'.symbols) (omega (arith, l)) (named_after p names x.name) (scopes_more s (length g.symbols) names Propositions x.name (stands.Entry p.decl) true tt h);
        decls = t.decls_held;
        matches = t.matches_held;
      }

-- the parts of a proposition whose names are there, where `sn` is what is seen in it
module _ (p : Place) (s s1 s2 : List Tree) (g g1 g2 : Signature) (names : ScopeNames) (k : PropKind) (x : Word) (e : Expression) (made : Elaborated) where
  abbrev tuples : SeenTree → List SymbolTree
  tuples sn = wanting_tuples (symbols_at s g.symbols) sn.widths

  abbrev piece_at : SeenTree → NotedTree
  piece_at sn = piece (over (symbols_at s g.symbols ++ tuples sn) (scope_at s names) sn.vars) [] (length sn.vars) None e

  placed : (sn : SeenTree) → IsExtended s g s1 g1 (tuples sn) → length (symbols_at s g.symbols ++ tuples sn) ≡ length g1.symbols
  placed sn h = length-append (symbols_at s g.symbols) (tuples sn) ∙ ap (λ (n : ℕ). n + length (tuples sn)) (length-map g.symbols (symbol_at s)) ∙ sym (length_extended (tuples sn) h)

  pub typed_proposition : (sn : SeenTree) → sn ≡ proposition_seen e → IsExtended s g s1 g1 (tuples sn) → (formula : Tree) (ms : List (ℕ × List Tree)) → IsSolved (length sn.vars) (piece_at sn) formula ms
      → IsExtended s1 g1 s2 g2 (map rigid_symbol (rigid_names k sn.vars)) → made.rigid ≡ entry_numbers (length g1.symbols) (rigid_names k sn.vars)
      → declarations_at s2 made.decls ≡ record { theory = p.theory.now; name = p.within.now ++ x; vars = schematic k sn.vars; body = Says (said_as k made.rigid formula) } ∷ []
      → map (match_at s2) made.matches ≡ ms → All (DeclHeld s2) made.decls → All (MatchHeld s2) made.matches → IsTypedProposition p s g names k x e s2 g2 made
  typed_proposition sn q h formula ms t r n d m dh mh =
      let both = extended_both (tuples sn) (map rigid_symbol (rigid_names k sn.vars)) h r in
      let numbers : made.rigid ≡ entry_numbers (length (symbols_at s g.symbols ++ tuples sn)) (rigid_names k sn.vars) = n ∙ ap (λ (i : ℕ). entry_numbers i (rigid_names k sn.vars)) (sym (placed sn h)) in
      record {
        extended = subst (λ (v : SeenTree). IsExtended s g s2 g2 (tuples v ++ map rigid_symbol (rigid_names k v.vars))) q both;
        formula = formula;
        solved = subst (λ (v : SeenTree). IsSolved (length v.vars) (piece_at v) formula (map (match_at s2) made.matches)) q (subst (IsSolved (length sn.vars) (piece_at sn) formula) (sym m) t);
        rigid = subst (λ (v : SeenTree). made.rigid ≡ entry_numbers (length (symbols_at s g.symbols ++ tuples v)) (rigid_names k v.vars)) q numbers;
        decls = subst (λ (v : SeenTree). declarations_at s2 made.decls ≡ record { theory = p.theory.now; name = p.within.now ++ x; vars = schematic k v.vars; body = Says (said_as k made.rigid formula) } ∷ []) q d;
        decls_held = dh;
        matches_held = mh;
      }
