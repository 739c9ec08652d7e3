-- Which declarations, theories and files tokens can stand for, and where their parts stand.
use Rattle.std.specs.Prelude.{ℕ, ◌+◌, ◌≡◌, Bool, false, List, [], ◌∷◌, Option, Some, None}
use Rattle.surface.specs.Common.{⊤, Name, Link}
use Rattle.surface.specs.declared.declarations.Link.TheVariants as lk
use Rattle.surface.specs.Lexeme.{at}
use Rattle.surface.specs.Forms.{Own, lower, upper, Called, write_called, SyntaxForm, write_form, type_forms, IsForm, IsFormPart, IsHead, past, IsPlaced}
use Rattle.surface.specs.Trees.{SyntaxTree, name_row, type_part, bar_before, IsOwn, IsLevel, IsTypePart, HasSome, IsPlacedTree, PlacedNames, PlacedPart}
use Rattle.surface.specs.Declarations.{ParamGroup, Member, Constructor, Algebraic, Clause, Inductive, Element, type_element, symbol_element, prop_element, all_axioms, SyntaxDeclaration, SyntaxDeclarations, type_decl, algebraic_decl, function_decl, predicate_decl, constant_decl, inductive_decl, prop_decl, use_decl, clone_decl, scope_decl, no_decls, more_decls, SyntaxTheory, variable_row, write_param, param_row, definition, write_member, write_constructor, write_field, write_algebraic, write_clause, write_inductive, link_words, write_path, renamed, write_element, write_decl, write_theory}

-- the name of a symbol may be an operator, that of a proposition is of either case
abbrev pub IsSymbolName : Own → Type 0
IsSymbolName (upper w) = ⊥
IsSymbolName o = IsOwn o

abbrev pub IsProp : Own → Type 0
IsProp (lower w) = ⊤
IsProp (upper w) = ⊤
IsProp _ = ⊥

abbrev pub IsNewSymbol : Called → Type 0
IsNewSymbol c = (c.scopes ≡ []) × IsSymbolName c.own

abbrev pub IsNewProp : Called → Type 0
IsNewProp c = (c.scopes ≡ []) × IsProp c.own

-- the type of a parameter without names is one that may be as an argument
abbrev pub IsTypedParam : List Name → SyntaxForm → Type 0
IsTypedParam [] f = IsFormPart f × IsForm type_forms f
IsTypedParam (n ∷ ns) f = IsForm type_forms f

abbrev pub AreParams : List ParamGroup → Type 0
AreParams [] = ⊤
AreParams (p ∷ ps) = IsTypedParam p.names p.of_type × AreParams ps

abbrev pub IsMember : Member → Type 0
IsMember d = IsNewSymbol d.name × AreParams d.params × IsTypePart d.result × IsLevel d.body

abbrev pub AreMembers : List Member → Type 0
AreMembers [] = ⊤
AreMembers (d ∷ ds) = IsMember d × AreMembers ds

abbrev pub IsOptionalDefinition : Option SyntaxTree → Type 0
IsOptionalDefinition None = ⊤
IsOptionalDefinition (Some e) = IsLevel e

-- a definition, and the members after it, of which there are none without it
abbrev pub IsDefined : Option SyntaxTree → List Member → Type 0
IsDefined None [] = ⊤
IsDefined None (d ∷ ds) = ⊥
IsDefined (Some e) ds = IsLevel e × AreMembers ds

abbrev pub AreConstructors : List Constructor → Type 0
AreConstructors [] = ⊤
AreConstructors (c ∷ cs) = AreParams c.fields × AreConstructors cs

-- each field of a record has one name
abbrev pub IsOneName : List Name → Type 0
IsOneName (n ∷ []) = ⊤
IsOneName _ = ⊥

abbrev pub AreFields : List ParamGroup → Type 0
AreFields [] = ⊤
AreFields (p ∷ ps) = IsOneName p.names × IsForm type_forms p.of_type × AreFields ps

-- constructors, or the fields of a record
abbrev pub IsTypeBody : Bool → List Constructor → List ParamGroup → Bool → Type 0
IsTypeBody bar cs [] semi = HasSome cs × AreConstructors cs × (semi ≡ false)
IsTypeBody bar cs (p ∷ ps) semi = AreFields (p ∷ ps) × (cs ≡ []) × (bar ≡ false)

abbrev pub AreAlgebraic : List Algebraic → Type 0
AreAlgebraic [] = ⊤
AreAlgebraic (a ∷ as_) =
    IsTypeBody a.bar a.constructors a.fields a.semi × AreAlgebraic as_

abbrev pub AreClauses : List Clause → Type 0
AreClauses [] = ⊤
AreClauses (c ∷ cs) = IsNewProp c.name × IsLevel c.prop × AreClauses cs

abbrev pub AreInductive : List Inductive → Type 0
AreInductive [] = ⊤
AreInductive (d ∷ ds) = IsNewSymbol d.name × AreParams d.params × HasSome d.clauses
    × AreClauses d.clauses × AreInductive ds

-- what is exported has no new name
abbrev pub IsLink : Link → Option Name → Type 0
IsLink lk.Export (Some n) = ⊥
IsLink _ _ = ⊤

abbrev pub IsElement : Element → Type 0
IsElement (type_element i c vs f) = IsHead type_forms c.own × IsForm type_forms f
IsElement (symbol_element i s c d) = IsSymbolName c.own × IsSymbolName d.own
IsElement (prop_element i k c) = IsProp c.own
IsElement (all_axioms i) = ⊤

abbrev pub AreElements : List Element → Type 0
AreElements [] = ⊤
AreElements (e ∷ es) = IsElement e × AreElements es

abbrev mutual
  pub IsLevelDecl : SyntaxDeclaration → Type 0
  IsLevelDecl (type_decl a n vs f) = IsTypePart f
  IsLevelDecl (algebraic_decl a as_) = HasSome as_ × AreAlgebraic as_
  IsLevelDecl (function_decl a c ps f e ds) =
      IsNewSymbol c × AreParams ps × IsForm type_forms f × IsDefined e ds
  IsLevelDecl (predicate_decl a c ps e ds) = IsNewSymbol c × AreParams ps × IsDefined e ds
  IsLevelDecl (constant_decl a c f e) = IsNewSymbol c × IsForm type_forms f × IsOptionalDefinition e
  IsLevelDecl (inductive_decl a ds) = HasSome ds × AreInductive ds
  IsLevelDecl (prop_decl a k c e) = IsNewProp c × IsLevel e
  IsLevelDecl (use_decl a l p n) = HasSome p.parts × IsLink l n
  IsLevelDecl (clone_decl a l p n es) = HasSome p.parts × IsLink l n × AreElements es
  IsLevelDecl (scope_decl a n ds) = AreLevelDecls ds

  pub AreLevelDecls : SyntaxDeclarations → Type 0
  AreLevelDecls no_decls = ⊤
  AreLevelDecls (more_decls d ds) = IsLevelDecl d × AreLevelDecls ds

abbrev pub IsLevelFile : List SyntaxTheory → Type 0
IsLevelFile [] = ⊤
IsLevelFile (h ∷ hs) = AreLevelDecls h.decls × IsLevelFile hs

-- names in parentheses with their type, or a type alone
abbrev pub PlacedTyped : ℕ → List Name → SyntaxForm → Type 0
PlacedTyped i [] f = IsPlaced i f
PlacedTyped i (n ∷ ns) f =
    PlacedNames (i + 1) (n ∷ ns) × IsPlaced (past (i + 1) (name_row (n ∷ ns)) + 1) f

abbrev pub PlacedParams : ℕ → List ParamGroup → Type 0
PlacedParams i [] = ⊤
PlacedParams i (p ∷ ps) = PlacedTyped i p.names p.of_type × PlacedParams (past i (write_param p)) ps

-- after an equality sign
abbrev pub PlacedDefinition : ℕ → Option SyntaxTree → Type 0
PlacedDefinition i None = ⊤
PlacedDefinition i (Some e) = IsPlacedTree (i + 1) e

abbrev pub PlacedMember : ℕ → Member → Type 0
PlacedMember i d = (d.name.at ≡ i) × PlacedParams (past i (write_called d.name)) d.params
    × PlacedPart (past (past i (write_called d.name)) (param_row d.params)) d.result
    × IsPlacedTree (past (past (past i (write_called d.name)) (param_row d.params))
    (type_part d.result) + 1) d.body

-- each after `with`
abbrev pub PlacedMembers : ℕ → List Member → Type 0
PlacedMembers i [] = ⊤
PlacedMembers i (d ∷ ds) = PlacedMember (i + 1) d × PlacedMembers (past (i + 1) (write_member d)) ds

-- constructors, types, clauses, predicates and elements, with a token between
abbrev pub PlacedConstructors : ℕ → List Constructor → Type 0
PlacedConstructors i [] = ⊤
PlacedConstructors i (c ∷ cs) =
    (c.name.at ≡ i) × PlacedParams (i + 1) c.fields
    × PlacedConstructors (past i (write_constructor c) + 1) cs

abbrev pub PlacedFields : ℕ → List ParamGroup → Type 0
PlacedFields i [] = ⊤
PlacedFields i (p ∷ ps) = PlacedNames i p.names × IsPlaced (past i (name_row p.names) + 1) p.of_type
    × PlacedFields (past i (write_field p) + 1) ps

abbrev pub PlacedTypeBody : ℕ → Bool → List Constructor → List ParamGroup → Type 0
PlacedTypeBody i bar cs [] = PlacedConstructors (past i (bar_before bar)) cs
PlacedTypeBody i bar cs (p ∷ ps) = PlacedFields (i + 1) (p ∷ ps)

abbrev pub PlacedAlgebraic : ℕ → Algebraic → Type 0
PlacedAlgebraic i a = (a.name.at ≡ i) × PlacedNames (i + 1) a.vars
    × PlacedTypeBody (past (i + 1) (variable_row a.vars) + 1) a.bar a.constructors a.fields

abbrev pub PlacedAlgebraics : ℕ → List Algebraic → Type 0
PlacedAlgebraics i [] = ⊤
PlacedAlgebraics i (a ∷ as_) =
    PlacedAlgebraic i a × PlacedAlgebraics (past i (write_algebraic a) + 1) as_

abbrev pub PlacedClauses : ℕ → List Clause → Type 0
PlacedClauses i [] = ⊤
PlacedClauses i (c ∷ cs) = (c.name.at ≡ i) × IsPlacedTree (past i (write_called c.name) + 1) c.prop
    × PlacedClauses (past i (write_clause c) + 1) cs

abbrev pub PlacedInductive : ℕ → Inductive → Type 0
PlacedInductive i d = (d.name.at ≡ i) × PlacedParams (past i (write_called d.name)) d.params
    × PlacedClauses (past (past (past i (write_called d.name)) (param_row d.params) + 1)
    (bar_before d.bar)) d.clauses

abbrev pub PlacedInductives : ℕ → List Inductive → Type 0
PlacedInductives i [] = ⊤
PlacedInductives i (d ∷ ds) =
    PlacedInductive i d × PlacedInductives (past i (write_inductive d) + 1) ds

abbrev pub PlacedElement : ℕ → Element → Type 0
PlacedElement i (type_element j c vs f) =
    (j ≡ i) × (c.at ≡ i + 1) × PlacedNames (past (i + 1) (write_called c)) vs
    × IsPlaced (past (past (i + 1) (write_called c)) (variable_row vs) + 1) f
PlacedElement i (symbol_element j s c d) =
    (j ≡ i) × (c.at ≡ i + 1) × (d.at ≡ past (i + 1) (write_called c) + 1)
PlacedElement i (prop_element j k c) = (j ≡ i) × (c.at ≡ i + 1)
PlacedElement i (all_axioms j) = j ≡ i

abbrev pub PlacedElements : ℕ → List Element → Type 0
PlacedElements i [] = ⊤
PlacedElements i (e ∷ es) = PlacedElement i e × PlacedElements (past i (write_element e) + 1) es

-- a name after `as`
abbrev pub PlacedRenamed : ℕ → Option Name → Type 0
PlacedRenamed i None = ⊤
PlacedRenamed i (Some n) = n.at ≡ i + 1

-- Token i is the first one.
abbrev mutual
  pub PlacedDecl : ℕ → SyntaxDeclaration → Type 0
  PlacedDecl i (type_decl a n vs f) =
      (a ≡ at i) × (n.at ≡ i + 1) × PlacedNames (i + 1 + 1) vs
      × PlacedPart (past (i + 1 + 1) (variable_row vs)) f
  PlacedDecl i (algebraic_decl a as_) = (a ≡ at i) × PlacedAlgebraics (i + 1) as_
  PlacedDecl i (function_decl a c ps f e ds) =
      (a ≡ at i) × (c.at ≡ i + 1) × PlacedParams (past (i + 1) (write_called c)) ps
      × IsPlaced (past (past (i + 1) (write_called c)) (param_row ps) + 1) f
      × PlacedDefinition (past (past (past (i + 1) (write_called c)) (param_row ps) + 1)
      (write_form f)) e × PlacedMembers
      (past (past (past (past (i + 1) (write_called c)) (param_row ps) + 1) (write_form f))
      (definition e)) ds
  PlacedDecl i (predicate_decl a c ps e ds) =
      (a ≡ at i) × (c.at ≡ i + 1) × PlacedParams (past (i + 1) (write_called c)) ps
      × PlacedDefinition (past (past (i + 1) (write_called c)) (param_row ps)) e
      × PlacedMembers (past (past (past (i + 1) (write_called c)) (param_row ps)) (definition e)) ds
  PlacedDecl i (constant_decl a c f e) =
      (a ≡ at i) × (c.at ≡ i + 1) × IsPlaced (past (i + 1) (write_called c) + 1) f
      × PlacedDefinition (past (past (i + 1) (write_called c) + 1) (write_form f)) e
  PlacedDecl i (inductive_decl a ds) = (a ≡ at i) × PlacedInductives (i + 1) ds
  PlacedDecl i (prop_decl a k c e) =
      (a ≡ at i) × (c.at ≡ i + 1) × IsPlacedTree (past (i + 1) (write_called c) + 1) e
  PlacedDecl i (use_decl a l p n) =
      (a ≡ at i) × (p.at ≡ past (i + 1) (link_words l))
      × PlacedRenamed (past (past (i + 1) (link_words l)) (write_path p.parts)) n
  PlacedDecl i (clone_decl a l p n es) =
      (a ≡ at i) × (p.at ≡ past (i + 1) (link_words l))
      × PlacedRenamed (past (past (i + 1) (link_words l)) (write_path p.parts)) n
      × PlacedElements (past (past (past (i + 1) (link_words l)) (write_path p.parts))
      (renamed n) + 1) es
  PlacedDecl i (scope_decl a n ds) = (a ≡ at i) × (n.at ≡ i + 1) × PlacedDecls (i + 1 + 1) ds

  -- one after another
  pub PlacedDecls : ℕ → SyntaxDeclarations → Type 0
  PlacedDecls i no_decls = ⊤
  PlacedDecls i (more_decls d ds) = PlacedDecl i d × PlacedDecls (past i (write_decl d)) ds

abbrev pub PlacedFile : ℕ → List SyntaxTheory → Type 0
PlacedFile i [] = ⊤
PlacedFile i (h ∷ hs) = (h.at ≡ at i) × (h.name.at ≡ i + 1) × PlacedDecls (i + 1 + 1) h.decls
    × PlacedFile (past i (write_theory h)) hs
