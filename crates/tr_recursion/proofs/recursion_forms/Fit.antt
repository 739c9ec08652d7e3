-- What definitions of a valid task say can be made.
use Rattle.std.proofs.Common.{◌≡◌, ℕ, suc, List, [], ◌∷◌, map, length, ◌<◌, slice_get, get_or, All, Option, Some, None, IfSome, refl, sym, ap, subst, ◌∙◌, arith}
use Rattle.std.proofs.lemmas.Option.{get_or_from_slice_get}
use Rattle.std.proofs.lemmas.List.{length-map}
use Rattle.std.proofs.lemmas.List.Elements.{All-cons, All-nil}
use Rattle.trees.specs.declared.TermId.{TermId}
use Rattle.trees.specs.Tree.{Tree}
use Rattle.trees.specs.Node.{tree_at, trees_at, Holds}
use Rattle.trees.specs.binders.Visits.{HoldTypes}
use Rattle.tasks.specs.declared.signature.SymbolInfo.{SymbolInfo}
use Rattle.tasks.specs.declared.declaration.Def.{Def}
use Rattle.tasks.specs.declared.declaration.Body.{Body}
use Rattle.tasks.specs.declared.declaration.Body.TheVariants.{Defs}
use Rattle.tasks.specs.declared.declaration.Decl.{Decl}
use Rattle.tasks.specs.Task.{SymbolTree, symbol_or, int_symbol}
use Rattle.tasks.specs.Vocabulary.{Vocabulary}
use Rattle.tasks.specs.Valid.{IsTypeIn, IsDefinition, IsValidBody}
use Rattle.tasks.specs.Meaning.{symbol_at, symbols_at, definition_at, definitions_at, body_at, SymbolHeld, BodyHeld}
use Rattle.declarations.specs.Stored.{IsValidIn}
use Rattle.declarations.proofs.spelled_groups.Saying.{got_some}
use Rattle.tr_inline.proofs.inlining.branch_equations.Formulas.{branches_sided}
use Rattle.tr_recursion.specs.recursion_forms.Made.{DefinitionIsFit}

module _ (s : List Tree) (v : Vocabulary) (infos : List SymbolInfo) (same : v.symbols ≡ symbols_at s infos) (held : All (SymbolHeld s) infos) where
  types_held : (vars : ℕ) (ids : List TermId) → All (Holds s) ids → All (IsTypeIn v vars) (trees_at s ids) → HoldTypes s ids
  types_held vars [] a b = tt
  types_held vars (id ∷ ids) a b = ((a 0 id (omega arith), (b 0 (tree_at s id) (omega arith)).sort), types_held vars ids (λ k d l. a (suc k) d (omega (arith, l))) (λ k d l. b (suc k) d (omega (arith, l))))

  entry_types : (k : ℕ) (o : Option SymbolInfo) → k < length infos → slice_get infos k ≡ o → All (IsTypeIn v (symbol_or v.symbols k).vars) (symbol_or v.symbols k).args → IfSome o (λ (e : SymbolInfo). HoldTypes s e.args)
  entry_types k None l e a = tt
  entry_types k (Some i) l e a =
      let q : symbol_or v.symbols k ≡ symbol_at s i = ap (λ (z : List SymbolTree). symbol_or z k) same ∙ got_some (symbol_at s) infos k int_symbol i e in
      let h : SymbolHeld s i = subst (SymbolHeld s) (get_or_from_slice_get infos k i i e) (held k i l) in
      types_held i.vars i.args h.args (subst (λ (z : SymbolTree). All (IsTypeIn v z.vars) z.args) q a)

  definition_fit : (d : Def) → Holds s d.equation → IsDefinition v (definition_at s d) → DefinitionIsFit s infos d
  definition_fit d h a =
      let l : d.symbol < length infos = omega (arith, a.signature.entry, ap length same, length-map infos (symbol_at s)) in
      record {
        held = h;
        entry = l;
        args = entry_types d.symbol (slice_get infos d.symbol) l refl a.signature.types.args;
        sided = branches_sided v (definition_at s d) a;
      }

  pub definitions_fit : (ds : List Def) → All (λ (d : Def). Holds s d.equation) ds → All (IsDefinition v) (definitions_at s ds) → All (DefinitionIsFit s infos) ds
  definitions_fit [] h a = All-nil (DefinitionIsFit s infos)
  definitions_fit (d ∷ ds) h a =
      All-cons (DefinitionIsFit s infos) d ds (definition_fit d (h 0 d (omega arith)) (a 0 (definition_at s d) (omega arith))) (definitions_fit ds (λ k e l. h (suc k) e (omega (arith, l))) (λ k e l. a (suc k) e (omega (arith, l))))

-- those of a group of a valid declaration
pub body_fit : (s : List Tree) (infos : List SymbolInfo) (d : Decl) → IsValidIn s infos d → (ds : List Def) → d.body ≡ Defs ds → All (DefinitionIsFit s infos) ds
body_fit s infos d h ds e =
    definitions_fit s h.vocabulary infos h.same h.symbols ds (subst (BodyHeld s) e h.held) (subst (λ (b : Body). IsValidBody h.vocabulary d.vars (body_at s b)) e h.valid)
