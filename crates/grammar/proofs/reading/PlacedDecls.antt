-- Each right file can be placed: one with the same tokens has its places.
use Rattle.grammar.proofs.reading.Common.{◌≡◌, ℕ, ◌+◌, List, [], ◌∷◌, ◌++◌, Option, Some, None, refl, ap, Name, Link, Word, at, lx, mark, name, SyntaxForm, past, type_forms, write_called, write_form, HasSome, PlacedNames, IsTypePart, PlacedPart, SyntaxTree, bar_before, name_row, type_part, write, Algebraic, Clause, Constructor, SyntaxDeclaration, SyntaxDeclarations, Element, Inductive, Member, ParamGroup, SyntaxTheory, algebraic_decl, algebraic_list, algebraic_tail, all_axioms, clause_list, clause_tail, clone_decl, constant_decl, constructor_list, constructor_tail, definition, element_tail, function_decl, heading, inductive_decl, inductive_list, inductive_tail, link_words, more_decls, no_decls, other_members, param_row, predicate_decl, prop_decl, prop_element, prop_word, renamed, scope_decl, substitution, symbol_element, typed_names, type_decl, type_element, type_equation, use_decl, variable_row, write_algebraic, write_clause, write_constructor, write_decl, write_decls, write_element, write_file, write_inductive, write_member, write_param, write_path, write_theory, AreAlgebraic, AreClauses, AreConstructors, AreElements, AreInductive, AreLevelDecls, AreMembers, AreParams, IsDefined, IsOptionalDefinition, IsElement, IsLevelDecl, IsLevelFile, IsLink, IsMember, IsTypedParam, PlacedAlgebraics, PlacedClauses, PlacedConstructors, PlacedDecl, PlacedDecls, PlacedDefinition, PlacedElement, PlacedElements, PlacedFile, PlacedInductives, PlacedMember, PlacedMembers, PlacedParams, PlacedRenamed, PlacedTyped, Bool, IsForm, IsPlaced, IsOneName, AreFields, IsTypeBody, PlacedFields, PlacedTypeBody, write_field, field_tail, write_type_body}
use Rattle.tokens_why.specs.declared.terminal.Terminal.TheVariants as t
use Rattle.surface.specs.declared.names.Path.{Path}
use Rattle.surface.specs.declared.declarations.Link.TheVariants as lk
use Rattle.grammar.proofs.reading.PlacedForms.{Put, PutList, following, form_at, join, moved}
use Rattle.grammar.proofs.reading.PlacedTerms.{names_at, part_at, tree_at}

variables_at : (i : ℕ) (ns : List Name) → Put (λ v. Unit {0}) (PlacedNames i) variable_row ns
variables_at i [] = record { value = []; right = tt; placed = tt; tokens = refl }
variables_at i (n ∷ ns) = let r = variables_at (i + 1) ns in
    record { value = name i n.text ∷ r.value; right = tt; placed = (refl, r.placed); tokens = following (lx t.TyVar n.text) r.tokens }

-- names with their type, or a type alone
pub record TypedAt (i : ℕ) (ns : List Name) (f : SyntaxForm) : Type 0 where
  pub names : List Name
  pub form : SyntaxForm
  pub right : IsTypedParam names form
  pub placed : PlacedTyped i names form
  pub tokens : typed_names names form ≡ typed_names ns f

typed_at : (i : ℕ) (ns : List Name) (f : SyntaxForm) → IsTypedParam ns f → TypedAt i ns f
typed_at i [] f h = let u = form_at type_forms i f h.1 in
    record { names = []; form = u.form; right = (u.part h.0, u.right); placed = u.placed; tokens = u.tokens }
typed_at i (n ∷ ns) f h = let r = names_at (i + 1 + 1) ns in let u = form_at type_forms (past (i + 1) (name_row (name (i + 1) n.text ∷ r.value)) + 1) f h in
    record {
      names = name (i + 1) n.text ∷ r.value;
      form = u.form;
      right = u.right;
      placed = ((refl, r.placed), u.placed);
      tokens = following (mark t.LParen) (following (lx t.Lident n.text) (join r.tokens (following (mark t.Colon) (join u.tokens refl))));
    }

abbrev param : List Name → SyntaxForm → ParamGroup
param ns f = record { names = ns; of_type = f }

params_at : (i : ℕ) (ps : List ParamGroup) → AreParams ps → Put AreParams (PlacedParams i) param_row ps
params_at i [] h = record { value = []; right = tt; placed = tt; tokens = refl }
params_at i (p ∷ ps) h = let u = typed_at i p.names p.of_type h.0 in let r = params_at (past i (write_param (param u.names u.form))) ps h.1 in
    record { value = param u.names u.form ∷ r.value; right = (u.right, r.right); placed = (u.placed, r.placed); tokens = join u.tokens r.tokens }

definition_at : (i : ℕ) (v : Option SyntaxTree) → IsOptionalDefinition v → Put IsOptionalDefinition (PlacedDefinition i) definition v
definition_at i None h = record { value = None; right = tt; placed = tt; tokens = refl }
definition_at i (Some e) h = let u = tree_at (i + 1) e h in
    record { value = Some u.tree; right = u.right; placed = u.placed; tokens = following (mark t.Equal) u.tokens }

member_at : (i : ℕ) (d : Member) → IsMember d → Put IsMember (PlacedMember i) write_member d
member_at i d h = let j = past i (write_called d.name) in
    let u = params_at j d.params h.1 in
    let v = part_at (past j (param_row u.value)) d.result h.2 in
    let w = tree_at (past (past j (param_row u.value)) (type_part v.value) + 1) d.body h.3 in
    record {
      value = record { name = moved i d.name; params = u.value; result = v.value; body = w.tree };
      right = (h.0, u.right, v.right, w.right);
      placed = (refl, u.placed, v.placed, w.placed);
      tokens = ap (λ q. write_called d.name ++ q) (join u.tokens (join v.tokens (following (mark t.Equal) w.tokens)));
    }

members_at : (i : ℕ) (ds : List Member) → AreMembers ds → Put AreMembers (PlacedMembers i) other_members ds
members_at i [] h = record { value = []; right = tt; placed = tt; tokens = refl }
members_at i (d ∷ ds) h = let u = member_at (i + 1) d h.0 in let r = members_at (past (i + 1) (write_member u.value)) ds h.1 in
    record { value = u.value ∷ r.value; right = (u.right, r.right); placed = (u.placed, r.placed); tokens = following (mark t.WithWord) (join u.tokens r.tokens) }

-- a definition and the members after it
pub record DefinedAt (i : ℕ) (v : Option SyntaxTree) (ds : List Member) : Type 0 where
  pub value : Option SyntaxTree
  pub members : List Member
  pub right : IsDefined value members
  pub placed : PlacedDefinition i value × PlacedMembers (past i (definition value)) members
  pub tokens : definition value ++ other_members members ≡ definition v ++ other_members ds

defined_at : (i : ℕ) (v : Option SyntaxTree) (ds : List Member) → IsDefined v ds → DefinedAt i v ds
defined_at i None [] h = record { value = None; members = []; right = tt; placed = (tt, tt); tokens = refl }
defined_at i None (d ∷ ds) h = absurd h
defined_at i (Some e) ds h = let u = tree_at (i + 1) e h.0 in let r = members_at (past (i + 1) (write u.tree)) ds h.1 in
    record { value = Some u.tree; members = r.value; right = (u.right, r.right); placed = (u.placed, r.placed); tokens = following (mark t.Equal) (join u.tokens r.tokens) }

abbrev constructor : Name → List ParamGroup → Constructor
constructor n fs = record { name = n; fields = fs }

constructors_at : (i : ℕ) (cs : List Constructor) → AreConstructors cs → PutList AreConstructors (PlacedConstructors i) HasSome constructor_list constructor_tail cs
constructors_at i [] h = record { value = []; right = tt; placed = tt; tokens = refl; tail = refl; some = λ p. p }
constructors_at i (c ∷ cs) h = let u = params_at (i + 1) c.fields h.0 in
    let e : write_constructor (constructor (name i c.name.text) u.value) ≡ write_constructor c = following (lx t.Uident c.name.text) u.tokens in
    let r = constructors_at (past i (write_constructor (constructor (name i c.name.text) u.value)) + 1) cs h.1 in
    record { value = constructor (name i c.name.text) u.value ∷ r.value; right = (u.right, r.right); placed = (refl, u.placed, r.placed); tokens = join e r.tail; tail = following (mark t.Bar) (join e r.tail); some = λ p. tt }

-- a field of a record
pub record FieldAt (i : ℕ) (p : ParamGroup) : Type 0 where
  pub value : ParamGroup
  pub one : IsOneName value.names
  pub right : IsForm type_forms value.of_type
  pub placed : PlacedNames i value.names × IsPlaced (past i (name_row value.names) + 1) value.of_type
  pub tokens : write_field value ≡ write_field p

field_at : (i : ℕ) (ns : List Name) (f : SyntaxForm) → IsOneName ns → IsForm type_forms f → FieldAt i (param ns f)
field_at i [] f o h = absurd o
field_at i (n ∷ []) f o h = let u = form_at type_forms (i + 1 + 1) f h in
    record { value = param (name i n.text ∷ []) u.form; one = tt; right = u.right; placed = ((refl, tt), u.placed); tokens = following (lx t.Lident n.text) (following (mark t.Colon) u.tokens) }
field_at i (n ∷ m ∷ ns) f o h = absurd o

fields_at : (i : ℕ) (ps : List ParamGroup) → AreFields ps → Put AreFields (PlacedFields (i + 1)) field_tail ps
fields_at i [] h = record { value = []; right = tt; placed = tt; tokens = refl }
fields_at i (p ∷ ps) h = let u = field_at (i + 1) p.names p.of_type h.0 h.1 in let r = fields_at (past (i + 1) (write_field u.value)) ps h.2 in
    record { value = u.value ∷ r.value; right = (u.one, u.right, r.right); placed = (u.placed.0, u.placed.1, r.placed); tokens = following (mark t.Semi) (join u.tokens r.tokens) }

-- constructors, or the fields of a record
pub record BodyAt (i : ℕ) (bar : Bool) (cs : List Constructor) (fs : List ParamGroup) (semi : Bool) : Type 0 where
  pub constructors : List Constructor
  pub fields : List ParamGroup
  pub right : IsTypeBody bar constructors fields semi
  pub placed : PlacedTypeBody i bar constructors fields
  pub tokens : write_type_body bar constructors fields semi ≡ write_type_body bar cs fs semi

body_at : (i : ℕ) (bar : Bool) (cs : List Constructor) (fs : List ParamGroup) (semi : Bool) → IsTypeBody bar cs fs semi → BodyAt i bar cs fs semi
body_at i bar cs [] semi h = let v = constructors_at (past i (bar_before bar)) cs h.1 in
    record { constructors = v.value; fields = []; right = (v.some h.0, v.right, h.2); placed = v.placed; tokens = ap (λ q. bar_before bar ++ q) v.tokens }
body_at i bar cs (p ∷ ps) semi h = let u = field_at (i + 1) p.names p.of_type h.0.0 h.0.1 in let r = fields_at (past (i + 1) (write_field u.value)) ps h.0.2 in
    record { constructors = []; fields = u.value ∷ r.value; right = ((u.one, u.right, r.right), refl, h.2); placed = (u.placed.0, u.placed.1, r.placed); tokens = following (mark t.LBrace) (join u.tokens (join r.tokens refl)) }

algebraics_at : (i : ℕ) (ts : List Algebraic) → AreAlgebraic ts → PutList AreAlgebraic (PlacedAlgebraics i) HasSome algebraic_list algebraic_tail ts
algebraics_at i [] h = record { value = []; right = tt; placed = tt; tokens = refl; tail = refl; some = λ p. p }
algebraics_at i (a ∷ ts) h = let u = variables_at (i + 1) a.vars in
    let v = body_at (past (i + 1) (variable_row u.value) + 1) a.bar a.constructors a.fields a.semi h.0 in
    let b : Algebraic = record { name = name i a.name.text; vars = u.value; bar = a.bar; constructors = v.constructors; fields = v.fields; semi = a.semi } in
    let e : write_algebraic b ≡ write_algebraic a = following (lx t.Lident a.name.text) (join u.tokens (following (mark t.Equal) v.tokens)) in
    let r = algebraics_at (past i (write_algebraic b) + 1) ts h.1 in
    record { value = b ∷ r.value; right = (v.right, r.right); placed = ((refl, u.placed, v.placed), r.placed); tokens = join e r.tail; tail = following (mark t.WithWord) (join e r.tail); some = λ p. tt }

clauses_at : (i : ℕ) (cs : List Clause) → AreClauses cs → PutList AreClauses (PlacedClauses i) HasSome clause_list clause_tail cs
clauses_at i [] h = record { value = []; right = tt; placed = tt; tokens = refl; tail = refl; some = λ p. p }
clauses_at i (c ∷ cs) h = let u = tree_at (past i (write_called c.name) + 1) c.prop h.1 in
    let b : Clause = record { name = moved i c.name; prop = u.tree } in
    let e : write_clause b ≡ write_clause c = ap (λ q. write_called c.name ++ q) (following (mark t.Colon) u.tokens) in
    let r = clauses_at (past i (write_clause b) + 1) cs h.2 in
    record { value = b ∷ r.value; right = (h.0, u.right, r.right); placed = (refl, u.placed, r.placed); tokens = join e r.tail; tail = following (mark t.Bar) (join e r.tail); some = λ p. tt }

inductives_at : (i : ℕ) (ds : List Inductive) → AreInductive ds → PutList AreInductive (PlacedInductives i) HasSome inductive_list inductive_tail ds
inductives_at i [] h = record { value = []; right = tt; placed = tt; tokens = refl; tail = refl; some = λ p. p }
inductives_at i (d ∷ ds) h = let u = params_at (past i (write_called d.name)) d.params h.1 in
    let v = clauses_at (past (past (past i (write_called d.name)) (param_row u.value) + 1) (bar_before d.bar)) d.clauses h.3 in
    let b : Inductive = record { name = moved i d.name; params = u.value; bar = d.bar; clauses = v.value } in
    let e : write_inductive b ≡ write_inductive d = ap (λ q. write_called d.name ++ q) (join u.tokens (following (mark t.Equal) (ap (λ q. bar_before d.bar ++ q) v.tokens))) in
    let r = inductives_at (past i (write_inductive b) + 1) ds h.4 in
    record { value = b ∷ r.value; right = (h.0, u.right, v.some h.2, v.right, r.right); placed = ((refl, u.placed, v.placed), r.placed); tokens = join e r.tail; tail = following (mark t.WithWord) (join e r.tail); some = λ p. tt }

element_at : (i : ℕ) (e : Element) → IsElement e → Put IsElement (PlacedElement i) write_element e
element_at i (type_element j c vs f) h = let u = variables_at (past (i + 1) (write_called c)) vs in let w = form_at type_forms (past (past (i + 1) (write_called c)) (variable_row u.value) + 1) f h.1 in
    record { value = type_element i (moved (i + 1) c) u.value w.form; right = (h.0, w.right); placed = (refl, refl, u.placed, w.placed); tokens = following (mark t.TypeWord) (ap (λ q. write_called c ++ q) (join u.tokens (following (mark t.Equal) w.tokens))) }
element_at i (symbol_element j s c d) h = record { value = symbol_element i s (moved (i + 1) c) (moved (past (i + 1) (write_called c) + 1) d); right = h; placed = (refl, refl, refl); tokens = refl }
element_at i (prop_element j k c) h = record { value = prop_element i k (moved (i + 1) c); right = h; placed = (refl, refl); tokens = refl }
element_at i (all_axioms j) h = record { value = all_axioms i; right = h; placed = refl; tokens = refl }

elements_at : (i : ℕ) (es : List Element) → AreElements es → PutList AreElements (PlacedElements i) (λ v. Unit {0}) substitution element_tail es
elements_at i [] h = record { value = []; right = tt; placed = tt; tokens = refl; tail = refl; some = λ p. tt }
elements_at i (e ∷ es) h = let u = element_at i e h.0 in let r = elements_at (past i (write_element u.value) + 1) es h.1 in
    record { value = u.value ∷ r.value; right = (u.right, r.right); placed = (u.placed, r.placed); tokens = following (mark t.WithWord) (join u.tokens r.tail); tail = following (mark t.Comma) (join u.tokens r.tail); some = λ p. tt }

renamed_at : (l : Link) (i : ℕ) (n : Option Name) → IsLink l n → Put (IsLink l) (PlacedRenamed i) renamed n
renamed_at l i None h = record { value = None; right = h; placed = tt; tokens = refl }
renamed_at lk.Bare i (Some n) h = record { value = Some (name (i + 1) n.text); right = h; placed = refl; tokens = refl }
renamed_at lk.Import i (Some n) h = record { value = Some (name (i + 1) n.text); right = h; placed = refl; tokens = refl }
renamed_at lk.Export i (Some n) h = absurd h

equation_at : (i : ℕ) (f : Option SyntaxForm) → IsTypePart f → Put IsTypePart (PlacedPart i) type_equation f
equation_at i None h = record { value = None; right = tt; placed = tt; tokens = refl }
equation_at i (Some f) h = let u = form_at type_forms (i + 1) f h in
    record { value = Some u.form; right = u.right; placed = u.placed; tokens = following (mark t.Equal) u.tokens }

abbrev path_at : ℕ → List Word → Path
path_at i ws = record { at = i; parts = ws }

mutual
  pub decl_at : (i : ℕ) (d : SyntaxDeclaration) → IsLevelDecl d → Put IsLevelDecl (PlacedDecl i) write_decl d
  decl_at i (type_decl a n vs f) h = let u = variables_at (i + 1 + 1) vs in let w = equation_at (past (i + 1 + 1) (variable_row u.value)) f h in
      record { value = type_decl (at i) (name (i + 1) n.text) u.value w.value; right = w.right; placed = (refl, refl, u.placed, w.placed); tokens = following (mark t.TypeWord) (following (lx t.Lident n.text) (join u.tokens w.tokens)) }
  decl_at i (algebraic_decl a ts) h = let u = algebraics_at (i + 1) ts h.1 in
      record { value = algebraic_decl (at i) u.value; right = (u.some h.0, u.right); placed = (refl, u.placed); tokens = following (mark t.TypeWord) u.tokens }
  decl_at i (function_decl a c ps f e ds) h = let j = past (i + 1) (write_called c) in
      let u = params_at j ps h.1 in
      let w = form_at type_forms (past j (param_row u.value) + 1) f h.2 in
      let v = defined_at (past (past j (param_row u.value) + 1) (write_form w.form)) e ds h.3 in
      record { value = function_decl (at i) (moved (i + 1) c) u.value w.form v.value v.members; right = (h.0, u.right, w.right, v.right); placed = (refl, refl, u.placed, w.placed, v.placed.0, v.placed.1); tokens = following (mark t.FunctionWord) (ap (λ q. write_called c ++ q) (join u.tokens (following (mark t.Colon) (join w.tokens v.tokens)))) }
  decl_at i (predicate_decl a c ps e ds) h = let j = past (i + 1) (write_called c) in
      let u = params_at j ps h.1 in
      let v = defined_at (past j (param_row u.value)) e ds h.2 in
      record { value = predicate_decl (at i) (moved (i + 1) c) u.value v.value v.members; right = (h.0, u.right, v.right); placed = (refl, refl, u.placed, v.placed.0, v.placed.1); tokens = following (mark t.PredicateWord) (ap (λ q. write_called c ++ q) (join u.tokens v.tokens)) }
  decl_at i (constant_decl a c f e) h = let j = past (i + 1) (write_called c) + 1 in
      let w = form_at type_forms j f h.1 in let v = definition_at (past j (write_form w.form)) e h.2 in
      record { value = constant_decl (at i) (moved (i + 1) c) w.form v.value; right = (h.0, w.right, v.right); placed = (refl, refl, w.placed, v.placed); tokens = following (mark t.ConstantWord) (ap (λ q. write_called c ++ q) (following (mark t.Colon) (join w.tokens v.tokens))) }
  decl_at i (inductive_decl a ds) h = let u = inductives_at (i + 1) ds h.1 in
      record { value = inductive_decl (at i) u.value; right = (u.some h.0, u.right); placed = (refl, u.placed); tokens = following (mark t.InductiveWord) u.tokens }
  decl_at i (prop_decl a k c e) h = let u = tree_at (past (i + 1) (write_called c) + 1) e h.1 in
      record { value = prop_decl (at i) k (moved (i + 1) c) u.tree; right = (h.0, u.right); placed = (refl, refl, u.placed); tokens = following (mark (prop_word k)) (ap (λ q. write_called c ++ q) (following (mark t.Colon) u.tokens)) }
  decl_at i (use_decl a l p n) h = let j = past (i + 1) (link_words l) in let u = renamed_at l (past j (write_path p.parts)) n h.1 in
      record { value = use_decl (at i) l (path_at j p.parts) u.value; right = (h.0, u.right); placed = (refl, refl, u.placed); tokens = following (mark t.UseWord) (ap (λ q. link_words l ++ (write_path p.parts ++ q)) u.tokens) }
  decl_at i (clone_decl a l p n es) h = let j = past (i + 1) (link_words l) in let u = renamed_at l (past j (write_path p.parts)) n h.1 in
      let v = elements_at (past (past j (write_path p.parts)) (renamed u.value) + 1) es h.2 in
      record { value = clone_decl (at i) l (path_at j p.parts) u.value v.value; right = (h.0, u.right, v.right); placed = (refl, refl, u.placed, v.placed); tokens = following (mark t.CloneWord) (ap (λ q. link_words l ++ (write_path p.parts ++ q)) (join u.tokens v.tokens)) }
  decl_at i (scope_decl a n ds) h = let u = decls_at (i + 1 + 1) ds h in
      record { value = scope_decl (at i) (name (i + 1) n.text) u.value; right = u.right; placed = (refl, refl, u.placed); tokens = following (mark t.ScopeWord) (following (lx t.Uident n.text) (join u.tokens refl)) }

  pub decls_at : (i : ℕ) (ds : SyntaxDeclarations) → AreLevelDecls ds → Put AreLevelDecls (PlacedDecls i) write_decls ds
  decls_at i no_decls h = record { value = no_decls; right = tt; placed = tt; tokens = refl }
  decls_at i (more_decls d ds) h = let u = decl_at i d h.0 in let r = decls_at (past i (write_decl u.value)) ds h.1 in
      record { value = more_decls u.value r.value; right = (u.right, r.right); placed = (u.placed, r.placed); tokens = join u.tokens r.tokens }

pub file_at : (i : ℕ) (hs : List SyntaxTheory) → IsLevelFile hs → Put IsLevelFile (PlacedFile i) write_file hs
file_at i [] h = record { value = []; right = tt; placed = tt; tokens = refl }
file_at i (theory ∷ hs) h = let u = decls_at (i + 1 + 1) theory.decls h.0 in
    let b : SyntaxTheory = record { at = at i; is_module = theory.is_module; name = name (i + 1) theory.name.text; decls = u.value } in
    let e : write_theory b ≡ write_theory theory = following (mark (heading theory.is_module)) (following (lx t.Uident theory.name.text) (join u.tokens refl)) in
    let r = file_at (past i (write_theory b)) hs h.1 in
    record { value = b ∷ r.value; right = (u.right, r.right); placed = (refl, refl, u.placed, r.placed); tokens = join e r.tokens }
