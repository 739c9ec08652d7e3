-- Types without a definition, and aliases, are valid.
use Rattle.std.proofs.Common.{◌≡◌, ℕ, ◌<◌, true, false, List, [], ◌∷◌, ◌++◌, length, slice_get, Some, None, refl, sym, ap, subst, ◌∙◌, arith, length-append}
use Rattle.std.proofs.lemmas.List.Elements.{All-nil, All-cons}
use Rattle.std.proofs.Math.ListN.{length-map}
use Rattle.elab_groups.specs.tasks.declared.signature.SymbolKind.TheVariants.{Kind}
use Rattle.elab_groups.specs.tasks.Task.{SymbolTree, symbol_or}
use Rattle.elab_groups.specs.tasks.Vocabulary.{Vocabulary}
use Rattle.elab_groups.specs.tasks.Valid.{IsTypeIn, IsValidDecl}
use Rattle.elab_groups.specs.scopes.declared.Table.TheVariants.{Types}
use Rattle.elab_groups.specs.scopes.declared.Referent.TheVariants as stands
use Rattle.elab_groups.specs.name_resolution.Abstract.{TypeExpression}
use Rattle.elab_groups.specs.name_resolution.Faults.{form_fault}
use Rattle.elab_groups.specs.open_types.Pieces.{type_at}
use Rattle.elab_groups.specs.parts.Elaborated.{unseen}
use Rattle.elab_groups.specs.parts.Entries.{type_entry}
use Rattle.elab_groups.specs.parts.Declarations.{TokenName, words}
use Rattle.elab_groups.specs.parts.Outcomes.{Setting, around, full_name}
use Rattle.elab_groups.proofs.parts.Alike.{form_alike}
use Rattle.elab_declarations.specs.Outcomes.{type_outcome, alias_seen, alias_outcome}
use Rattle.elaboration_laws.specs.Signature.{with_entries}
use Rattle.elaboration_laws.specs.Scopes.{NamesNew, IsTypedEntry, IsTypedThing}
use Rattle.elaboration_laws.proofs.Widths.{form_tuples}
use Rattle.elaboration_laws.proofs.Scopes.{scopes_more}
use Rattle.elaboration_laws.proofs.Extended.{signature_more, scopes_extended, records_later}
use Rattle.elaboration_laws.proofs.Tuples.{type_entry_typed}
use Rattle.elaboration_laws.specs.Valid.{IsTypedSetting, IsValidOutcome}
use Rattle.elaboration_laws.proofs.Settings.{inside, inside_scopes, inside_typed, world, tuples, same_names, form_in}

-- ---- an entry after others
pub last_is : (xs : List SymbolTree) (e : SymbolTree) → slice_get (xs ++ e ∷ []) (length xs) ≡ Some e
last_is [] e = refl
last_is (x ∷ xs) e = last_is xs e

pub last_or : (xs : List SymbolTree) (e : SymbolTree) → symbol_or (xs ++ e ∷ []) (length xs) ≡ e
last_or [] e = refl
last_or (x ∷ xs) e = last_or xs e

last_there : (xs : List SymbolTree) (e : SymbolTree) → length xs < length (xs ++ e ∷ [])
last_there xs e = omega (arith, length-append xs (e ∷ []))

-- ---- a type symbol
module _ (base : Vocabulary) (c : Setting) (h : IsTypedSetting base c) where
  pub type_valid : (x : TokenName) (n : ℕ) → NamesNew base (length c.symbols) (c.symbols ++ (type_outcome c x n).symbols) → IsValidOutcome base c (type_outcome c x n)
  type_valid x n news =
      let e = type_entry c.theory (full_name c x) n in
      let k = length c.symbols in
      let v = with_entries base (c.symbols ++ e ∷ []) in
      let may = (news k e (omega arith) (last_is c.symbols e)).usable (rw h.theory refl) in
      let t = type_entry_typed v c.theory (full_name c x) n in
      let kind : (symbol_or v.symbols k).kind ≡ Kind = ap (λ (i : SymbolTree). i.kind) (last_or c.symbols e) in
      record {
        signature = signature_more base c.symbols (e ∷ []) h.signature (All-cons (IsTypedEntry v) e [] t (All-nil (IsTypedEntry v))) news (records_later base c.symbols (e ∷ []) refl news);
        scopes = scopes_more (IsTypedThing v) c.scope Types x.name (stands.Entry k) true (record { there = last_there c.symbols e; usable = may; kind = kind })
            (scopes_extended base c.symbols (e ∷ []) c.scope h.scopes);
        decls = All-cons (IsValidDecl v) _ [] (record { entry = last_there c.symbols e; kind = kind; types = rw (last_or c.symbols e) t.types }) (All-nil (IsValidDecl v));
      }

  -- ---- an alias
  pub alias_valid : (x : TokenName) (vs : List TokenName) (f : TypeExpression) → form_fault (around c (words vs)) false f ≡ None → NamesNew base (length c.symbols) (c.symbols ++ (alias_outcome c x vs f).symbols) → IsValidOutcome base c (alias_outcome c x vs f)
  alias_valid x vs f q news =
      let seen = alias_seen f in
      let w = world base c h seen (words vs) in
      let v = with_entries base (inside base c h seen) in
      let resolved : form_fault w false f ≡ None = sym (form_alike (around c (words vs)) w (same_names base c h seen (words vs)).forms false f) ∙ q in
      let t : IsTypeIn v (length (words vs)) (type_at w f) = form_in base c h seen news (words vs) f resolved (form_tuples base w f unseen (tuples base c h seen news (words vs))) in
      let type : IsTypeIn v (length vs) (type_at w f) = subst (λ (n : ℕ). IsTypeIn v n (type_at w f)) (length-map vs (λ (i : TokenName). i.name)) t in
      record {
        signature = inside_typed base c h seen news;
        scopes = scopes_more (IsTypedThing v) c.scope Types x.name (stands.Alias (length vs) (type_at w f)) true type (inside_scopes base c h seen);
        decls = All-nil (IsValidDecl v);
      }
