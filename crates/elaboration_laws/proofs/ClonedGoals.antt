-- The goal that a clone makes of an axiom's copy is well formed after what is there.
use Rattle.std.proofs.Common.{◌≡◌, ℕ, true, false, List, [], ◌∷◌, ◌++◌, map, length, get_or, All, Contains, refl, sym, ap, ◌∙◌}
use Rattle.std.proofs.lemmas.List.{get_or_append_left}
use Rattle.std.proofs.lemmas.List.Elements.{All-nil, All-cons, All-append, Contains-get_or}
use Rattle.elab_groups.specs.trees.Tree.{Tree}
use Rattle.elab_groups.specs.trees.Facts.{TyVarsBelow}
use Rattle.elab_groups.specs.trees.Binding.{inst_types}
use Rattle.elab_groups.specs.tasks.Task.{SymbolTree, symbol_or, int_symbol, DeclarationTree, made_by}
use Rattle.elab_groups.specs.tasks.Rigid.{rigid_symbol}
use Rattle.elab_groups.specs.tasks.Valid.{IsQuoted, IsFormulaOver}
use Rattle.elab_groups.specs.open_types.Scoped.{IsScopedEntry}
use Rattle.elaboration_laws.specs.Scopes.{IsSubvocabulary, IsTypedSignature}
use Rattle.elaboration_laws.specs.Lists.{after}
use Rattle.elaboration_laws.proofs.Propositions.{formula_more, count_rigid as count_types}
use Rattle.elab_declarations.specs.Outcomes.{entry_numbers, rigid_types}
use Rattle.elaboration_laws.specs.Built.{IsBuiltRight}
use Rattle.elaboration_laws.specs.Tasks.{AreSound, IsQuotedAt, IsSoundAfter}
use Rattle.elaboration_laws.proofs.Distinct.{distinct_pairs}
use Rattle.elaboration_laws.proofs.Kept.{IsOfSource, source_kept}
use Rattle.elaboration_laws.proofs.Grown.{more_part, sound_more}
use Rattle.elaboration_laws.proofs.NextGoal.{quoted_entries, entries_distinct, at_types}
use Rattle.elaboration_laws.specs.Cloning.{IsMadeRight, AreMadeRight}
use Rattle.elaboration_laws.proofs.Vocabularies.{made_below}
use Rattle.elaboration_laws.proofs.CopiedSignatures.{signature_of}
use Rattle.elaboration_laws.proofs.Joined.{into_made}

rigids_of : (vs : List (List ℕ)) → All IsOfSource (map rigid_symbol vs)
rigids_of [] = All-nil IsOfSource
rigids_of (x ∷ vs) = All-cons IsOfSource (rigid_symbol x) (map rigid_symbol vs) refl (rigids_of vs)

rigids_scoped : (vs : List (List ℕ)) → All IsScopedEntry (map rigid_symbol vs)
rigids_scoped [] = All-nil IsScopedEntry
rigids_scoped (x ∷ vs) = All-cons IsScopedEntry (rigid_symbol x) (map rigid_symbol vs) (record { args = All-nil (TyVarsBelow 0); result = tt }) (rigids_scoped vs)

-- what is made right stays so with more entries
pub right_more : (symbols more : List SymbolTree) (ds : List DeclarationTree) → AreSound symbols ds → AreMadeRight symbols ds → AreMadeRight (symbols ++ more) ds
right_more symbols more ds sound right = λ i d l. λ j k n.
    let x = get_or ds i d in
    let y = get_or (made_by x.body) j k in
    let c : Contains (made_by x.body) y = Contains-get_or (made_by x.body) j k n in
    let same : symbol_or (symbols ++ more) y ≡ symbol_or symbols y = get_or_append_left symbols more int_symbol y (made_below symbols ds sound y (into_made ds x y (Contains-get_or ds i d l) c)) in
    one x y same (right i d l j k n)
  where
    one : (x : DeclarationTree) (y : ℕ) → symbol_or (symbols ++ more) y ≡ symbol_or symbols y → IsMadeRight symbols x y → IsMadeRight (symbols ++ more) x y
    one x y same r = record {
      result = λ t. rw same (r.result (rw same at t));
      constructor = λ q. r.constructor (ap (λ (e : SymbolTree). e.kind) (sym same) ∙ q);
    }

module _ (symbols : List SymbolTree) (now : List DeclarationTree) (sound : AreSound symbols now) (right : AreMadeRight symbols now) (scoped : All IsScopedEntry symbols) (e : Tree) (vs : List (List ℕ)) (f : IsFormulaOver (after symbols [] now) [] (length vs) e) (quoted : All IsQuoted vs) where
  abbrev all : List SymbolTree
  all = symbols ++ map rigid_symbol vs

  abbrev own : List ℕ
  own = entry_numbers (length symbols) vs

  built : IsBuiltRight all
  built = source_kept symbols (map rigid_symbol vs) sound.built (rigids_of vs)

  later : AreSound all now
  later = sound_more symbols (map rigid_symbol vs) now sound built

  signature : IsTypedSignature (after all [] now) all
  signature = signature_of all now later (All-append IsScopedEntry symbols (map rigid_symbol vs) scoped (rigids_scoped vs)) (right_more symbols (map rigid_symbol vs) now sound right)

  at : All (IsQuotedAt all) own
  at = quoted_entries symbols vs (length symbols) refl quoted

  own_part : IsSubvocabulary (after symbols [] now) (after all own now)
  own_part =
      let a = more_part symbols (map rigid_symbol vs) [] now in
      record { entries = a.entries; rigid = λ k x q h. absurd (let z : false ≡ true = h in cc); usable = a.usable; matched = a.matched }

  pub goal_sound : (name : List ℕ) (before : ℕ) → IsSoundAfter all now (record { name = name; before = before; prop = inst_types e (rigid_types own); rigid = own })
  goal_sound name before = record {
    before = later;
    goal = record {
      rigid = at;
      once = distinct_pairs own (entries_distinct (length symbols) vs);
      formula = at_types all now own (length vs) e signature at (count_types (length symbols) vs) (formula_more (after symbols [] now) (after all own now) own_part (length vs) e f);
    };
  }
