-- A declaration has at most one outcome where it stands, and at most one first fault, and not both.
use Rattle.std.proofs.Common.{◌≡◌, ◌≢◌, ℕ, List, [], ◌∷◌, length, Option, None, refl, sym, ap, ap₂, ◌∙◌, arith}
use Rattle.tasks.specs.trees.Tree.{Tree}
use Rattle.tasks.specs.Task.{SymbolTree, DeclarationTree, Says}
use Rattle.surface.specs.declared.declarations.PropKind.{PropKind}
use Rattle.elaboration_laws.specs.name_resolution.Abstract.{Expression}
use Rattle.elaboration_laws.specs.name_resolution.declared.NamingFault.{NamingFault}
use Rattle.elaboration_laws.specs.open_types.Patterns.{Notes, no_notes}
use Rattle.elaboration_laws.specs.elab_groups.declared.parts.ElabFault.{ElabFault}
use Rattle.elaboration_laws.specs.elab_groups.declared.parts.ElabFault.TheVariants as elab
use Rattle.elaboration_laws.specs.elab_groups.declared.parts.solution.TypingFault.{TypingFault}
use Rattle.elaboration_laws.specs.elab_groups.declared.parts.solution.TypingFault.TheVariants as types
use Rattle.elaboration_laws.specs.elab_groups.parts.Elaborated.{IsTypingFault, elab_naming_fault, elab_typing_fault}
use Rattle.elaboration_laws.specs.elab_groups.parts.Declarations.{TokenName, Declaration, GroupMember, InductivePredicate, abstract_type, alias, algebraic, member_group, inductive, proposition_declaration}
use Rattle.elaboration_laws.specs.elab_groups.parts.Outcomes.{IsRefusalFor, wants_memory, of_names, of_types}
use Rattle.elaboration_laws.specs.elab_groups.Groups.{most_variables, bodies_pieces, pieces_notes, pieces_trees, group_decls}
use Rattle.elaboration_laws.specs.elab_declarations.inductive_declarations.Inductives.{formula_members, clause_signatures, inductive_decls}
use Rattle.elaboration_laws.specs.elab_declarations.Outcomes.{proposition_seen, said_as, schematic}
use Rattle.theories.proofs.determined.Solved.{one_tree, one_trees, one_typing_fault, fault_or}
use Rattle.elaboration_laws.specs.name_resolution.Where.{NamesTree}
use Rattle.elab_groups.specs.parts.Outcomes.{Setting, Outcome, full_name}
use Rattle.elab_groups.specs.Groups.{before_group, group_signatures, within_group, IsGroup}
use Rattle.elab_declarations.specs.inductive_declarations.Inductives.{before_inductives, within_inductives, IsInductiveGroup}
use Rattle.elab_declarations.specs.Outcomes.{proposition_piece, IsProposition, IsOutcome, names_fault, notes_of, rigid_of, IsRefusal}

-- ---- outcomes
of_parts : List SymbolTree → NamesTree → List DeclarationTree → List ℕ → List (ℕ × List Tree) → Outcome
of_parts symbols scope decls rigid matches = record { symbols = symbols; scope = scope; decls = decls; rigid = rigid; matches = matches }

by_parts : (o q : Outcome) → o.symbols ≡ q.symbols → o.scope ≡ q.scope → o.decls ≡ q.decls → o.rigid ≡ q.rigid → o.matches ≡ q.matches → o ≡ q
unfolding of_parts
by_parts o q e f i j k =
    ap₂ (λ (us : List SymbolTree) (n : NamesTree). of_parts us n o.decls o.rigid o.matches) e f
    ∙ ap₂ (λ (ds : List DeclarationTree) (ks : List ℕ). of_parts q.symbols q.scope ds ks o.matches) i j
    ∙ ap (of_parts q.symbols q.scope q.decls q.rigid) k

-- ---- the first fault, by names and type equations
not_memory : (decl : ℕ) (f : ElabFault) (g : TypingFault) → f ≡ elab_typing_fault decl g → f ≢ elab.Memory → g ≢ types.Memory
not_memory decl f g e n q = n (e ∙ ap (elab_typing_fault decl) q)

one_refusal : (decl : ℕ) (first : Option NamingFault) (rigid : ℕ) (ns : Notes) (f g : ElabFault) → IsRefusalFor decl first rigid ns f → IsRefusalFor decl first rigid ns g
    → f ≢ elab.Memory → g ≢ elab.Memory → f ≡ g
one_refusal decl first rigid ns f g (wants_memory e) b n m = absurd (n e)
one_refusal decl first rigid ns f g (of_names a e p) (wants_memory k) n m = absurd (m k)
one_refusal decl first rigid ns f g (of_types a e p t) (wants_memory k) n m = absurd (m k)
one_refusal decl first rigid ns f g (of_names a e p) (of_names b k q) n m = let same : a ≡ b = cc in e ∙ ap (elab_naming_fault decl) same ∙ sym k
one_refusal decl first rigid ns f g (of_names a e p) (of_types b k q t) n m = cc
one_refusal decl first rigid ns f g (of_types a e p t) (of_names b k q) n m = cc
one_refusal decl first rigid ns f g (of_types a e p t) (of_types b k q w) n m =
    e ∙ ap (elab_typing_fault decl) (one_typing_fault rigid ns a b t w (not_memory decl f a e n) (not_memory decl g b k m)) ∙ sym k

module _ (c : Setting) where
  said : PropKind → TokenName → Expression → List ℕ → Tree → List DeclarationTree
  said k x e rigid f = record { theory = c.theory; name = full_name c x; vars = schematic k (proposition_seen e).vars; body = Says (said_as k rigid f) } ∷ []

  one_proposition : (k : PropKind) (x : TokenName) (e : Expression) (o q : Outcome) → IsProposition c k x e o → IsProposition c k x e q → o ≡ q
  unfolding said
  one_proposition k x e o q a b =
      let one = one_tree (length (proposition_seen e).vars) (proposition_piece c e) a.formula b.formula o.matches q.matches a.solved b.solved in
      let rigid : o.rigid ≡ q.rigid = a.rigid ∙ sym b.rigid in
      by_parts o q (a.symbols ∙ sym b.symbols) (a.scope ∙ sym b.scope) (a.decls ∙ ap₂ (said k x e) rigid one.0 ∙ sym b.decls) rigid one.1

  one_group : (ms : List GroupMember) (o q : Outcome) → IsGroup c ms o → IsGroup c ms q → o ≡ q
  one_group ms o q a b =
      let gs = group_signatures c ms in
      let ps = bodies_pieces (within_group c ms) ms gs in
      let one = one_trees (most_variables gs) (pieces_notes ps) (pieces_trees ps) a.bodies b.bodies o.matches q.matches a.solved b.solved in
      by_parts o q (a.symbols ∙ sym b.symbols) (a.scope ∙ sym b.scope) (a.decls ∙ ap (group_decls c.theory c.within ms (length (before_group c ms)) gs) one.0 ∙ sym b.decls) (a.rigid ∙ sym b.rigid) one.1

  one_inductives : (ds : List InductivePredicate) (o q : Outcome) → IsInductiveGroup c ds o → IsInductiveGroup c ds q → o ≡ q
  one_inductives ds o q a b =
      let ps = bodies_pieces (within_inductives c ds) (formula_members ds) (clause_signatures ds) in
      let one = one_trees (most_variables (clause_signatures ds)) (pieces_notes ps) (pieces_trees ps) a.clauses b.clauses o.matches q.matches a.solved b.solved in
      by_parts o q (a.symbols ∙ sym b.symbols) (a.scope ∙ sym b.scope) (a.decls ∙ ap (inductive_decls c.theory c.within ds (length (before_inductives c ds))) one.0 ∙ sym b.decls) (a.rigid ∙ sym b.rigid) one.1

  pub one_outcome : (x : Declaration) (o q : Outcome) → IsOutcome c x o → IsOutcome c x q → o ≡ q
  one_outcome (abstract_type x vs) o q a b = a ∙ sym b
  one_outcome (alias x vs f) o q a b = a ∙ sym b
  one_outcome (proposition_declaration k x e) o q a b = one_proposition k x e o q a b
  one_outcome (algebraic ts) o q a b = a ∙ sym b
  one_outcome (member_group ms) o q a b = one_group ms o q a b
  one_outcome (inductive ds) o q a b = one_inductives ds o q a b

  -- ---- faults
  pub one_elaboration_fault : (x : Declaration) (f g : ElabFault) → IsRefusal c x f → IsRefusal c x g → f ≢ elab.Memory → g ≢ elab.Memory → f ≡ g
  one_elaboration_fault x f g a b n m = one_refusal c.decl (names_fault c x) (rigid_of c x) (notes_of c x) f g a b n m

  none_of_nothing : (f : TypingFault) → IsTypingFault 0 no_notes f → f ≢ types.Memory → ⊥
  none_of_nothing types.Memory h n = n refl
  none_of_nothing (types.Clash k) h n = let l = h.0 in omega arith
  none_of_nothing (types.Undetermined token) h n = let e = h.1 in cc

  types_right : (x : Declaration) (o : Outcome) (f : TypingFault) → IsOutcome c x o → IsTypingFault (rigid_of c x) (notes_of c x) f → f ≢ types.Memory → ⊥
  types_right (abstract_type x vs) o f is h n = none_of_nothing f h n
  types_right (alias x vs e) o f is h n = none_of_nothing f h n
  types_right (algebraic ts) o f is h n = none_of_nothing f h n
  types_right (proposition_declaration k x e) o f is h n = fault_or (rigid_of c (proposition_declaration k x e)) (notes_of c (proposition_declaration k x e)) f h n is.solved.determined
  types_right (member_group ms) o f is h n = fault_or (rigid_of c (member_group ms)) (notes_of c (member_group ms)) f h n is.solved.determined
  types_right (inductive ds) o f is h n = fault_or (rigid_of c (inductive ds)) (notes_of c (inductive ds)) f h n is.solved.determined

  pub refusal_or : (x : Declaration) (o : Outcome) (f : ElabFault) → IsRefusal c x f → f ≢ elab.Memory → names_fault c x ≡ None → IsOutcome c x o → ⊥
  refusal_or x o f (wants_memory e) n none is = n e
  refusal_or x o f (of_names a e p) n none is = cc
  refusal_or x o f (of_types a e p t) n none is = types_right x o a is t (not_memory c.decl f a e n)
