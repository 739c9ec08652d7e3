-- What groups of a valid task say can be made.
use Rattle.std.proofs.Common.{◌≡◌, ℕ, zero, suc, List, [], ◌∷◌, length, slice_get, All, Option, Some, None, IfSome, refl, ap, subst, ◌∙◌, arith}
use Rattle.std.proofs.lemmas.List.{length-map}
use Rattle.std.proofs.lemmas.List.Elements.{All-cons, All-nil}
use Rattle.trees.specs.declared.TermId.{TermId}
use Rattle.trees.specs.Tree.{Tree}
use Rattle.trees.specs.Node.{tree_at, trees_at, Holds}
use Rattle.tasks.specs.declared.signature.SymbolInfo.{SymbolInfo}
use Rattle.tasks.specs.declared.declaration.Ind.{Ind}
use Rattle.tasks.specs.declared.declaration.Body.{Body}
use Rattle.tasks.specs.declared.declaration.Body.TheVariants.{TypeSymbol, Symbol, Defs, Inductives, Algebraics, Prop}
use Rattle.tasks.specs.declared.declaration.Decl.{Decl}
use Rattle.tasks.specs.Task.{SymbolTree, symbol_or, int_symbol}
use Rattle.tasks.specs.Vocabulary.{Vocabulary}
use Rattle.tasks.specs.Valid.{IsFormulaOver, IsTypeIn, IsInductive, IsValidBody}
use Rattle.tasks.specs.Meaning.{symbol_at, symbols_at, inductive_at, inductives_at, body_at, SymbolHeld, InductiveHeld, BodyHeld}
use Rattle.declarations.specs.Stored.{IsValidIn}
use Rattle.declarations.specs.spelled_groups.Making.{IsKindAt, IsFormulaId, MemberIsFit, IsFit}
use Rattle.declarations.proofs.spelled_groups.Saying.{got_some}

module _ (s : List Tree) (v : Vocabulary) (infos : List SymbolInfo) (same : v.symbols ≡ symbols_at s infos) (held : All (SymbolHeld s) infos) where
  kinds : (vars : ℕ) (ids : List TermId) → All (Holds s) ids → All (IsTypeIn v vars) (trees_at s ids) → All (IsKindAt s) ids
  kinds vars [] a b = All-nil (IsKindAt s)
  kinds vars (id ∷ ids) a b = All-cons (IsKindAt s) id ids (record { held = a 0 id (omega arith); kind = (b 0 (tree_at s id) (omega arith)).sort }) (kinds vars ids (λ k d l. a (suc k) d (omega arith)) (λ k d l. b (suc k) d (omega arith)))

  formulas : (vars : ℕ) (ids : List TermId) → All (Holds s) ids → All (IsFormulaOver v [] vars) (trees_at s ids) → All (IsFormulaId s) ids
  formulas vars [] a b = All-nil (IsFormulaId s)
  formulas vars (id ∷ ids) a b = All-cons (IsFormulaId s) id ids (record { held = a 0 id (omega arith); formula = (b 0 (tree_at s id) (omega arith)).sort }) (formulas vars ids (λ k d l. a (suc k) d (omega arith)) (λ k d l. b (suc k) d (omega arith)))

  info_held : (is : List SymbolInfo) (k : ℕ) (i : SymbolInfo) → All (SymbolHeld s) is → slice_get is k ≡ Some i → SymbolHeld s i
  info_held [] k i a e = absurd (cc)
  info_held (j ∷ is) zero i a e = let q : j ≡ i = cc in subst (SymbolHeld s) q (a 0 j (omega arith))
  info_held (j ∷ is) (suc k) i a e = info_held is k i (λ m d l. a (suc m) d (omega arith)) e

  entry_kinds : (k : ℕ) (o : Option SymbolInfo) → slice_get infos k ≡ o → All (IsTypeIn v (symbol_or v.symbols k).vars) (symbol_or v.symbols k).args → IfSome o (λ (e : SymbolInfo). All (IsKindAt s) e.args)
  entry_kinds k None e a = tt
  entry_kinds k (Some i) e a =
      let q : symbol_or v.symbols k ≡ symbol_at s i = ap (λ (z : List SymbolTree). symbol_or z k) same ∙ got_some (symbol_at s) infos k int_symbol i e in
      kinds i.vars i.args (info_held infos k i held e).args (subst (λ (z : SymbolTree). All (IsTypeIn v z.vars) z.args) q a)

  member_fit : (group : List ℕ) (i : Ind) → InductiveHeld s i → IsInductive v group (inductive_at s i) → MemberIsFit s infos i
  member_fit group i h k = record {
    entry = omega (arith, k.signature.entry, ap length same, length-map infos (symbol_at s));
    args = entry_kinds i.symbol (slice_get infos i.symbol) refl k.signature.types.args;
    clauses = formulas (symbol_or v.symbols i.symbol).vars i.clauses h.clauses k.formulas;
  }

  members_fit : (group : List ℕ) (is : List Ind) → All (InductiveHeld s) is → All (IsInductive v group) (inductives_at s is) → All (MemberIsFit s infos) is
  members_fit group [] h k = All-nil (MemberIsFit s infos)
  members_fit group (i ∷ is) h k = All-cons (MemberIsFit s infos) i is (member_fit group i (h 0 i (omega arith)) (k 0 (inductive_at s i) (omega arith))) (members_fit group is (λ m d l. h (suc m) d (omega arith)) (λ m d l. k (suc m) d (omega arith)))

  body_fit : (vars : ℕ) (b : Body) → BodyHeld s b → IsValidBody v vars (body_at s b) → IsFit s infos b
  body_fit vars (Inductives is) h k = members_fit _ is h k
  body_fit vars (TypeSymbol j) h k = tt
  body_fit vars (Symbol j) h k = tt
  body_fit vars (Defs ds) h k = tt
  body_fit vars (Algebraics ts) h k = tt
  body_fit vars (Prop a) h k = tt

-- what a valid declaration says can be made
pub valid_fit : (s : List Tree) (infos : List SymbolInfo) (d : Decl) → IsValidIn s infos d → IsFit s infos d.body
valid_fit s infos d h = body_fit s h.vocabulary infos h.same h.symbols d.vars d.body h.held h.valid
