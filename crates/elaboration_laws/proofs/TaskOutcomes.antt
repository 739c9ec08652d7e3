-- What declarations make keeps right what is built in.
use Rattle.std.proofs.Common.{◌≡◌, ◌⊎◌, inl, ℕ, zero, suc, Some, false, List, [], ◌∷◌, ◌++◌, map, length, slice_get, get_or, All, refl, sym, ap, ◌∙◌, append-nil}
use Rattle.std.specs.Str.{bytes_eq}
use Rattle.std.proofs.lemmas.List.Elements.{All-nil, All-cons, All-append}
use Rattle.elab_groups.specs.trees.Tree.{Tree}
use Rattle.elab_groups.specs.tasks.Rigid.{rigid_symbol}
use Rattle.elab_groups.specs.tasks.Meaning.{symbols_at}
use Rattle.elab_groups.specs.tasks.declared.signature.Signature.{Signature}
use Rattle.elab_groups.specs.scopes.Names.{ScopeNames}
use Rattle.elab_groups.specs.declared.parts.made.Elaborated.{Elaborated}
use Rattle.elab_groups.specs.tasks.Task.{SymbolTree, int_symbol, ConstructorTree, AlgebraicTree}
use Rattle.elab_groups.specs.tasks.Valid.{own_type}
use Rattle.elab_groups.specs.surface.Lexeme.{Word}
use Rattle.elab_groups.specs.parts.Elaborated.{unseen}
use Rattle.elab_groups.specs.parts.Entries.{tuple_in, type_entry, other_words, field_entries, named_entries, builtin, wanting_tuples}
use Rattle.elab_groups.specs.parts.Declarations.{AlgebraicConstructor, AlgebraicType, GroupMember, Declaration, abstract_type, alias, algebraic, member_group, inductive, proposition_declaration}
use Rattle.elab_groups.specs.parts.Outcomes.{Setting, Outcome, full_name}
use Rattle.elab_declarations.specs.elab_groups.members.Members.{SignatureTree, signed_entries, signature_trees, members_seen, words_of_parameters}
use Rattle.elab_declarations.specs.elab_groups.Groups.{group_signatures}
use Rattle.elab_declarations.specs.inductive_declarations.Inductives.{as_members, before_inductives, inductives_seen}
use Rattle.elab_declarations.specs.type_declarations.Algebraics.{group_seen, type_entries, constructors_entries, group_trees, group_entries}
use Rattle.elab_declarations.specs.Outcomes.{alias_seen, proposition_seen, rigid_names, IsOutcome, IsElaborated}
use Rattle.elaboration_laws.specs.Built.{IsOfTuple, IsBuiltRight}
use Rattle.elaboration_laws.proofs.Kept.{IsOfSource, all_kept}

pub rigids_of : (names : List Word) → All IsOfSource (map rigid_symbol names)
rigids_of [] = All-nil IsOfSource
rigids_of (x ∷ xs) = All-cons IsOfSource (rigid_symbol x) (map rigid_symbol xs) refl (rigids_of xs)

-- an entry of this theory
abbrev pub OfTheory : Word → SymbolTree → Type 0
OfTheory theory e = e.theory ≡ theory

module _ (theory : Word) where
  abbrev Of : SymbolTree → Type 0
  Of = OfTheory theory

  pub signed_of : (within : Word) (ms : List GroupMember) (gs : List SignatureTree) → All Of (signed_entries theory within ms gs)
  signed_of within [] gs = All-nil Of
  signed_of within (m ∷ ms) [] = All-nil Of
  signed_of within (m ∷ ms) (g ∷ gs) = All-cons Of _ (signed_entries theory within ms gs) refl (signed_of within ms gs)

  pub types_of : (within : Word) (ts : List AlgebraicType) → All Of (type_entries theory within ts)
  types_of within [] = All-nil Of
  types_of within (a ∷ ts) = All-cons Of (type_entry theory (within ++ a.called.name) (length a.vars)) (type_entries theory within ts) refl (types_of within ts)

  fields_of : (within name : Word) (n : ℕ) (t : Tree) (i : ℕ) (ws : List Word) (fs : List Tree) → All Of (field_entries theory within name n t i ws fs)
  fields_of within name n t i ws [] = All-nil Of
  fields_of within name n t i ws (f ∷ fs) = All-cons Of _ (field_entries theory within name n t (suc i) (other_words ws) fs) refl (fields_of within name n t (suc i) (other_words ws) fs)

  constructors_of : (within : Word) (n : ℕ) (t : Tree) (ks : List AlgebraicConstructor) (cs : List ConstructorTree) → All Of (constructors_entries theory within n t ks cs)
  constructors_of within n t [] cs = All-nil Of
  constructors_of within n t (k ∷ ks) [] = All-nil Of
  constructors_of within n t (k ∷ ks) (c ∷ cs) =
      let ws = words_of_parameters k.fields in
      All-append Of (named_entries theory within k.own n t ws c.fields) (constructors_entries theory within n t ks cs)
      (All-cons Of _ (field_entries theory within k.own n t 1 ws c.fields) refl (fields_of within k.own n t 1 ws c.fields)) (constructors_of within n t ks cs)

  pub group_of : (within : Word) (ts : List AlgebraicType) (ys : List AlgebraicTree) → All Of (group_entries theory within ts ys)
  group_of within [] ys = All-nil Of
  group_of within (a ∷ ts) [] = All-nil Of
  group_of within (a ∷ ts) (y ∷ ys) =
      All-append Of (constructors_entries theory within (length a.vars) (own_type y.symbol (length a.vars)) a.constructors y.cons) (group_entries theory within ts ys)
      (constructors_of within (length a.vars) (own_type y.symbol (length a.vars)) a.constructors y.cons) (group_of within ts ys)

module _ (c : Setting) (source : bytes_eq c.theory builtin ≡ false) (h : IsBuiltRight c.symbols) where
  sourced : (es : List SymbolTree) → All (OfTheory c.theory) es → All IsOfSource es
  sourced es a = λ k e l. let q : (get_or es k e).theory ≡ c.theory = a k e l in rw q source

  split_kept : (o : Outcome) (ns : List ℕ) (own : List SymbolTree) → o.symbols ≡ wanting_tuples c.symbols ns ++ own → All IsOfSource own → IsBuiltRight (c.symbols ++ o.symbols)
  split_kept o ns own q k = rw q (all_kept c.symbols own ns h k)

  pub outcome_kept : (d : Declaration) (o : Outcome) → IsOutcome c d o → IsBuiltRight (c.symbols ++ o.symbols)
  outcome_kept (abstract_type x vs) o e =
      let t = type_entry c.theory (full_name c x) (length vs) in
      split_kept o [] (t ∷ []) (ap (λ (i : Outcome). i.symbols) e) (All-cons IsOfSource t [] source (All-nil IsOfSource))
  outcome_kept (alias x vs f) o e = let tuples = wanting_tuples c.symbols (alias_seen f).widths in split_kept o (alias_seen f).widths [] (ap (λ (i : Outcome). i.symbols) e ∙ sym (append-nil tuples)) (All-nil IsOfSource)
  outcome_kept (proposition_declaration k x y) o e = split_kept o (proposition_seen y).widths (map rigid_symbol (rigid_names k (proposition_seen y).vars)) e.symbols (rigids_of (rigid_names k (proposition_seen y).vars))
  outcome_kept (algebraic ts) o e =
      let T = type_entries c.theory c.within ts in
      let G = group_entries c.theory c.within ts (group_trees c ts) in
      split_kept o (group_seen ts).widths (T ++ G) (ap (λ (i : Outcome). i.symbols) e) (All-append IsOfSource T G (sourced T (types_of c.theory c.within ts)) (sourced G (group_of c.theory c.within ts (group_trees c ts))))
  outcome_kept (member_group ms) o e = split_kept o (members_seen unseen ms).widths (signed_entries c.theory c.within ms (group_signatures c ms)) e.symbols (sourced (signed_entries c.theory c.within ms (group_signatures c ms)) (signed_of c.theory c.within ms (group_signatures c ms)))
  outcome_kept (inductive ds) o e =
      let gs = signature_trees c (before_inductives c ds) (as_members ds) in
      split_kept o (inductives_seen unseen ds).widths (signed_entries c.theory c.within (as_members ds) gs) e.symbols (sourced (signed_entries c.theory c.within (as_members ds) gs) (signed_of c.theory c.within (as_members ds) gs))

pub elaborated_kept : (c : Setting) (d : Declaration) (g : Signature) (s : List Tree) (g' : Signature) (names : ScopeNames) (made : Elaborated) → bytes_eq c.theory builtin ≡ false → IsElaborated c d g s g' names made → IsBuiltRight c.symbols → IsBuiltRight (symbols_at s g'.symbols)
elaborated_kept c d g s g' names made q e h = rw e.symbols_are (outcome_kept c q h d e.outcome e.is)

-- ---- at the beginning
no_tuple : (n c : ℕ) → tuple_in (int_symbol ∷ []) n ≡ Some c → ⊥
no_tuple n c q = cc

alone : (k : ℕ) (e : SymbolTree) → slice_get (int_symbol ∷ []) k ≡ Some e → (k ≡ 0) ⊎ IsOfTuple (int_symbol ∷ []) k
alone zero e q = inl refl
alone (suc k) e q = absurd (cc)

pub begins : IsBuiltRight (int_symbol ∷ [])
begins = record { int = refl; tuples = λ n c q. absurd (no_tuple n c q); alone = λ k e q b. alone k e q }
