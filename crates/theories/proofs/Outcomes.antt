-- The entries that a declaration makes have words as names, where the names in it are words.
use Rattle.std.proofs.Common.{◌≡◌, ℕ, suc, List, [], ◌∷◌, ◌++◌, map, length, All, ap, arith}
use Rattle.std.proofs.lemmas.List.Elements.{All-nil, All-cons, All-append}
use Rattle.tasks.specs.trees.Tree.{Tree}
use Rattle.tasks.specs.Task.{SymbolTree, ConstructorTree, AlgebraicTree}
use Rattle.tasks.specs.Rigid.{rigid_symbol}
use Rattle.tasks.specs.Valid.{own_type}
use Rattle.surface.specs.Lexeme.{Word}
use Rattle.surface.specs.declared.declarations.PropKind.{PropKind}
use Rattle.surface.specs.declared.declarations.PropKind.TheVariants as kind
use Rattle.elaboration_laws.specs.elab_groups.parts.Elaborated.{unseen}
use Rattle.elaboration_laws.specs.elab_groups.parts.Entries.{type_entry, named_entries, wanting_tuples}
use Rattle.elaboration_laws.specs.elab_groups.parts.Declarations.{AlgebraicConstructor, AlgebraicType, GroupMember, Declaration, abstract_type, alias, algebraic, member_group, inductive, proposition_declaration}
use Rattle.elaboration_laws.specs.elab_groups.parts.Outcomes.{Setting, Outcome, full_name}
use Rattle.elaboration_laws.specs.elab_groups.members.Members.{SignatureTree, symbol_kind_of, signed_entries, signature_trees, members_seen, words_of_parameters}
use Rattle.elaboration_laws.specs.elab_groups.Groups.{group_signatures}
use Rattle.elaboration_laws.specs.elab_declarations.inductive_declarations.Inductives.{as_members, before_inductives, inductives_seen}
use Rattle.elaboration_laws.specs.elab_declarations.type_declarations.Algebraics.{group_seen, type_entries, constructors_entries, group_trees, group_entries}
use Rattle.elaboration_laws.specs.elab_declarations.Outcomes.{alias_seen, proposition_seen, rigid_names, IsOutcome}
use Rattle.tasks.specs.Words.{IsScopedName}
use Rattle.theories.specs.Names.{HaveWords}
use Rattle.theories.proofs.Words.{joined}
use Rattle.theories.proofs.Tuples.{HasWord, named_words, tuples_words}
use Rattle.theories.proofs.Written.{ConstructorsNamed, TypesNamed, MembersNamed, IsNamed}

-- ---- type variables
pub rigid_words : (vs : List Word) → All IsScopedName vs → HaveWords (map rigid_symbol vs)
rigid_words [] h = All-nil HasWord
rigid_words (v ∷ vs) h = All-cons HasWord (rigid_symbol v) (map rigid_symbol vs) (h 0 v (omega arith)) (rigid_words vs (λ k d l. h (suc k) d (omega (arith, l))))

own_names : (k : PropKind) (vs : List Word) → All IsScopedName vs → All IsScopedName (rigid_names k vs)
own_names kind.Axiom vs h = All-nil IsScopedName
own_names kind.Lemma vs h = h
own_names kind.Goal vs h = h

module _ (theory within : Word) (inner : IsScopedName within) where
  -- ---- functions and predicates
  signed_words : (ms : List GroupMember) (gs : List SignatureTree) → MembersNamed ms → HaveWords (signed_entries theory within ms gs)
  signed_words [] gs h = All-nil HasWord
  signed_words (m ∷ ms) [] h = All-nil HasWord
  signed_words (m ∷ ms) (g ∷ gs) h =
      All-cons HasWord (record { theory = theory; name = within ++ m.called.name; kind = symbol_kind_of m.result; vars = length g.vars; args = g.args; result = g.result }) (signed_entries theory within ms gs)
      (joined within m.called.name inner h.0) (signed_words ms gs h.1)

  -- ---- algebraic types
  types_words : (ts : List AlgebraicType) → TypesNamed ts → HaveWords (type_entries theory within ts)
  types_words [] h = All-nil HasWord
  types_words (a ∷ ts) h = All-cons HasWord (type_entry theory (within ++ a.called.name) (length a.vars)) (type_entries theory within ts) (joined within a.called.name inner h.0.name) (types_words ts h.1)

  constructors_words : (vars : ℕ) (type : Tree) (ks : List AlgebraicConstructor) (cs : List ConstructorTree) → ConstructorsNamed ks → HaveWords (constructors_entries theory within vars type ks cs)
  constructors_words vars type [] cs h = All-nil HasWord
  constructors_words vars type (k ∷ ks) [] h = All-nil HasWord
  constructors_words vars type (k ∷ ks) (c ∷ cs) h =
      let ws = words_of_parameters k.fields in
      All-append HasWord (named_entries theory within k.own vars type ws c.fields) (constructors_entries theory within vars type ks cs)
      (named_words theory within k.own vars type ws c.fields inner (joined within k.own inner h.0.name) h.0.fields) (constructors_words vars type ks cs h.1)

  group_words : (ts : List AlgebraicType) (ys : List AlgebraicTree) → TypesNamed ts → HaveWords (group_entries theory within ts ys)
  group_words [] ys h = All-nil HasWord
  group_words (a ∷ ts) [] h = All-nil HasWord
  group_words (a ∷ ts) (y ∷ ys) h =
      All-append HasWord (constructors_entries theory within (length a.vars) (own_type y.symbol (length a.vars)) a.constructors y.cons) (group_entries theory within ts ys)
      (constructors_words (length a.vars) (own_type y.symbol (length a.vars)) a.constructors y.cons h.0.constructors) (group_words ts ys h.1)

-- ---- all declarations
module _ (c : Setting) (inner : IsScopedName c.within) where
  tuples_then : (o : Outcome) (ns : List ℕ) (own : List SymbolTree) → o.symbols ≡ wanting_tuples c.symbols ns ++ own → HaveWords own → HaveWords o.symbols
  tuples_then o ns own q h = rw q (All-append HasWord (wanting_tuples c.symbols ns) own (tuples_words ns c.symbols) h)

  pub outcome_words : (d : Declaration) (o : Outcome) → IsOutcome c d o → IsNamed d → HaveWords o.symbols
  outcome_words (abstract_type x vs) o e h =
      let t = type_entry c.theory (full_name c x) (length vs) in
      tuples_then o [] (t ∷ []) (ap (λ (i : Outcome). i.symbols) e) (All-cons HasWord t [] (joined c.within x.name inner h) (All-nil HasWord))
  outcome_words (alias x vs f) o e h = let q : o.symbols ≡ wanting_tuples c.symbols (alias_seen f).widths = ap (λ (i : Outcome). i.symbols) e in rw q (tuples_words (alias_seen f).widths c.symbols)
  outcome_words (proposition_declaration k x y) o e h = let vs = rigid_names k (proposition_seen y).vars in tuples_then o (proposition_seen y).widths (map rigid_symbol vs) e.symbols (rigid_words vs (own_names k (proposition_seen y).vars h))
  outcome_words (algebraic ts) o e h =
      let T = type_entries c.theory c.within ts in
      let G = group_entries c.theory c.within ts (group_trees c ts) in
      let all = All-append HasWord T G (types_words c.theory c.within inner ts h) (group_words c.theory c.within inner ts (group_trees c ts) h) in
      tuples_then o (group_seen ts).widths (T ++ G) (ap (λ (i : Outcome). i.symbols) e) all
  outcome_words (member_group ms) o e h =
      let es = signed_entries c.theory c.within ms (group_signatures c ms) in
      tuples_then o (members_seen unseen ms).widths es e.symbols (signed_words c.theory c.within inner ms (group_signatures c ms) h)
  outcome_words (inductive ds) o e h =
      let gs = signature_trees c (before_inductives c ds) (as_members ds) in
      let es = signed_entries c.theory c.within (as_members ds) gs in
      tuples_then o (inductives_seen unseen ds).widths es e.symbols (signed_words c.theory c.within inner (as_members ds) gs h)
