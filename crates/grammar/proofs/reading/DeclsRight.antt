-- What the rules of declarations may be read as, and the tokens of that.
use Rattle.grammar.proofs.reading.Common.{◌≡◌, ℕ, ◌+◌, Bool, true, false, List, [], ◌∷◌, ◌++◌, Option, Some, None, ⊤, Name, Lexeme, lx, mark, AreForms, AreParts, Called, SyntaxForm, SyntaxForms, IsForm, IsPlaced, PlacedList, PlacedRow, form_list, form_row, form_tail, past, scoped, type_forms, write_called, write_form, HasSome, IsLevel, IsPlacedTree, IsTypePart, PlacedNames, PlacedPart, SyntaxTree, bar_before, ends_open, name_row, type_part, write, Algebraic, Constructor, Element, Inductive, Member, algebraic_tail, clause_list, clause_tail, constructor_list, constructor_tail, definition, inductive_tail, link_words, other_members, param_row, renamed, substitution, variable_row, write_path, AreAlgebraic, AreClauses, AreConstructors, AreElements, AreInductive, AreMembers, AreParams, IsDefined, IsLink, IsProp, PlacedAlgebraics, PlacedClauses, PlacedConstructors, PlacedDefinition, PlacedElements, PlacedInductives, PlacedMembers, PlacedParams, PlacedRenamed, AlgPart, BodyPart, ClausePart, ClausesPart, ClonedPart, ConPart, FieldsPart, MemberPart, NamePart, ParamPart, TvarsPart, TypePart, UpperPart, UsedPart, VarsPart, fields_of, is_algebraic, is_alias, name_names, name_types, param_names, param_types, scope_of, IsOneName, AreFields, PlacedFields, ParamGroup, RecordPart, write_field, field_tail, semicolon_after}
use Rattle.tokens_why.specs.declared.terminal.Terminal.TheVariants as t

abbrev pub write_fields : FieldsPart → List Lexeme
write_fields p = param_row p.fields ++ (constructor_tail p.constructors ++ algebraic_tail p.others)

abbrev pub write_rest_of : List ParamGroup → Bool → List Algebraic → List Lexeme
write_rest_of ps semi as_ = field_tail ps ++ (semicolon_after semi ++ (mark t.RBrace ∷ algebraic_tail as_))

abbrev pub write_record_rest : RecordPart → List Lexeme
write_record_rest r = write_rest_of r.fields r.semi r.others

abbrev pub write_next_of : List ParamGroup → Bool → List Algebraic → List Lexeme
write_next_of [] semi as_ = mark t.RBrace ∷ algebraic_tail as_
write_next_of (p ∷ ps) semi as_ = write_field p ++ write_rest_of ps semi as_

abbrev pub write_record_next : RecordPart → List Lexeme
write_record_next r = write_next_of r.fields r.semi r.others

abbrev pub write_con_of : Bool → List Constructor → List ParamGroup → Bool → List Algebraic → List Lexeme
write_con_of bar cs [] semi as_ = bar_before bar ++ (constructor_list cs ++ algebraic_tail as_)
write_con_of bar cs (p ∷ ps) semi as_ = mark t.LBrace ∷ (write_field p ++ write_rest_of ps semi as_)

abbrev pub write_con : ConPart → List Lexeme
write_con c = write_con_of c.bar c.constructors c.fields c.semi c.others

abbrev pub write_alg : AlgPart → List Lexeme
write_alg a = variable_row a.vars ++ (mark t.Equal ∷ write_con a.con)

abbrev pub write_upper : UpperPart → List Lexeme
write_upper (scope_of d ts) = mark t.Dot ∷ ((scoped d.scopes ++ (lx t.Lident d.last ∷ [])) ++ form_row ts)
write_upper (fields_of p) = write_fields p

abbrev pub write_type : TypePart → List Lexeme
write_type (is_alias f) = write_form f
write_type (is_algebraic c) = write_con c

abbrev pub write_equation : Option TypePart → List Lexeme
write_equation None = []
write_equation (Some d) = mark t.Equal ∷ write_type d

abbrev pub write_tvars : TvarsPart → List Lexeme
write_tvars v = variable_row v.vars ++ write_equation v.equation

abbrev pub write_typed : List Name → SyntaxForm → List Lexeme
write_typed ns f = name_row ns ++ (mark t.Colon ∷ (write_form f ++ (mark t.RParen ∷ [])))

abbrev pub write_pparen : ParamPart → List Lexeme
write_pparen (param_names ns f) = write_typed ns f
write_pparen (param_types fs) = form_list fs ++ (mark t.RParen ∷ [])

abbrev pub write_pname : NamePart → List Lexeme
write_pname (name_names ns f) = write_typed ns f
write_pname (name_types ts fs) = form_row ts ++ (form_tail fs ++ (mark t.RParen ∷ []))

abbrev pub write_body : BodyPart → List Lexeme
write_body b = definition b.definition ++ other_members b.members

abbrev pub write_member_part : MemberPart → List Lexeme
write_member_part p = type_part p.result ++ (mark t.Equal ∷ (write p.body ++ other_members p.others))

abbrev pub write_clauses : ClausesPart → List Lexeme
write_clauses p = clause_tail p.clauses ++ inductive_tail p.others

abbrev pub write_clause_part : ClausePart → List Lexeme
write_clause_part p = bar_before p.bar ++ (clause_list p.rest.clauses ++ inductive_tail p.rest.others)

abbrev pub write_used : UsedPart → List Lexeme
write_used u = link_words u.link ++ (write_path u.path.parts ++ renamed u.name)

abbrev pub write_cloned : ClonedPart → List Lexeme
write_cloned c = write_used c.used ++ substitution c.elements

abbrev pub write_axioms : Option Called → List Lexeme
write_axioms None = mark t.Dot ∷ []
write_axioms (Some c) = write_called c

abbrev pub write_qids : Option Called → List Lexeme
write_qids None = []
write_qids (Some c) = mark t.Dot ∷ write_called c

abbrev pub write_vars : VarsPart → List Lexeme
write_vars v = variable_row v.vars ++ (mark t.Equal ∷ write_form v.type)

abbrev pub AreOthers : ℕ → List Algebraic → Type 0
AreOthers i as_ = AreAlgebraic as_ × PlacedAlgebraics (i + 1) as_

abbrev pub IsFieldsRest : ℕ → List Constructor → List Algebraic → Type 0
IsFieldsRest i cs as_ = AreConstructors cs × PlacedConstructors (i + 1) cs × AreOthers (past i (constructor_tail cs)) as_

abbrev pub IsFields : ℕ → FieldsPart → Type 0
IsFields i p = AreParams p.fields × PlacedParams i p.fields × IsFieldsRest (past i (param_row p.fields)) p.constructors p.others

abbrev pub IsConRest : ℕ → List Constructor → List Algebraic → Type 0
IsConRest i cs as_ = HasSome cs × AreConstructors cs × PlacedConstructors i cs × AreOthers (past i (constructor_list cs)) as_

abbrev pub IsField : ℕ → ParamGroup → Type 0
IsField i p = IsOneName p.names × IsForm type_forms p.of_type × PlacedNames i p.names × IsPlaced (past i (name_row p.names) + 1) p.of_type

abbrev pub IsRestOf : ℕ → List ParamGroup → Bool → List Algebraic → Type 0
IsRestOf i ps semi as_ = AreFields ps × PlacedFields (i + 1) ps × AreOthers (past (past i (field_tail ps)) (semicolon_after semi) + 1) as_

abbrev pub IsRecordRest : ℕ → RecordPart → Type 0
IsRecordRest i r = IsRestOf i r.fields r.semi r.others

abbrev pub IsNextOf : ℕ → List ParamGroup → Bool → List Algebraic → Type 0
IsNextOf i [] semi as_ = (semi ≡ true) × AreOthers (i + 1) as_
IsNextOf i (p ∷ ps) semi as_ = IsField i p × IsRestOf (past i (write_field p)) ps semi as_

abbrev pub IsRecordNext : ℕ → RecordPart → Type 0
IsRecordNext i r = IsNextOf i r.fields r.semi r.others

abbrev pub IsConOf : ℕ → Bool → List Constructor → List ParamGroup → Bool → List Algebraic → Type 0
IsConOf i bar cs [] semi as_ = IsConRest (past i (bar_before bar)) cs as_ × (semi ≡ false)
IsConOf i bar cs (p ∷ ps) semi as_ = (cs ≡ []) × (bar ≡ false) × IsField (i + 1) p × IsRestOf (past (i + 1) (write_field p)) ps semi as_

abbrev pub IsCon : ℕ → ConPart → Type 0
IsCon i c = IsConOf i c.bar c.constructors c.fields c.semi c.others

abbrev pub IsAlg : ℕ → AlgPart → Type 0
IsAlg i a = PlacedNames i a.vars × IsCon (past i (variable_row a.vars) + 1) a.con

abbrev pub IsUpper : ℕ → UpperPart → Type 0
IsUpper i (scope_of d ts) = AreParts type_forms ts × PlacedRow (past (i + 1) (scoped d.scopes ++ (lx t.Lident d.last ∷ []))) ts
IsUpper i (fields_of p) = IsFields i p

abbrev pub IsType : ℕ → TypePart → Type 0
IsType i (is_alias f) = IsForm type_forms f × IsPlaced i f
IsType i (is_algebraic c) = IsCon i c

abbrev pub IsEquation : ℕ → Option TypePart → Type 0
IsEquation i None = ⊤
IsEquation i (Some d) = IsType (i + 1) d

abbrev pub IsTvars : ℕ → TvarsPart → Type 0
IsTvars i v = PlacedNames i v.vars × IsEquation (past i (variable_row v.vars)) v.equation

abbrev pub IsColon : ℕ → SyntaxForm → Type 0
IsColon i f = IsForm type_forms f × IsPlaced (i + 1) f

abbrev pub IsPparen : ℕ → ParamPart → Type 0
IsPparen i (param_names ns f) = HasSome ns × PlacedNames i ns × IsColon (past i (name_row ns)) f
IsPparen i (param_types fs) = AreForms type_forms fs × PlacedList i fs

abbrev pub IsNameRest : ℕ → SyntaxForms → Type 0
IsNameRest i fs = AreForms type_forms fs × PlacedList (i + 1) fs

abbrev pub IsPname : ℕ → NamePart → Type 0
IsPname i (name_names ns f) = PlacedNames i ns × IsColon (past i (name_row ns)) f
IsPname i (name_types ts fs) = AreParts type_forms ts × PlacedRow i ts × IsNameRest (past i (form_row ts)) fs

abbrev pub IsBody : ℕ → BodyPart → Type 0
IsBody i b = IsDefined b.definition b.members × PlacedDefinition i b.definition × PlacedMembers (past i (definition b.definition)) b.members

abbrev pub IsMemberRest : ℕ → SyntaxTree → List Member → Type 0
IsMemberRest i e ds = IsLevel e × IsPlacedTree (i + 1) e × AreMembers ds × PlacedMembers (past (i + 1) (write e)) ds

abbrev pub IsMemberPart : ℕ → MemberPart → Type 0
IsMemberPart i p = IsTypePart p.result × PlacedPart i p.result × IsMemberRest (past i (type_part p.result)) p.body p.others

abbrev pub ArePredicates : ℕ → List Inductive → Type 0
ArePredicates i ds = AreInductive ds × PlacedInductives (i + 1) ds

abbrev pub IsClauses : ℕ → ClausesPart → Type 0
IsClauses i p = AreClauses p.clauses × PlacedClauses (i + 1) p.clauses × ArePredicates (past i (clause_tail p.clauses)) p.others

abbrev pub IsClauseRest : ℕ → ClausesPart → Type 0
IsClauseRest i p = HasSome p.clauses × AreClauses p.clauses × PlacedClauses i p.clauses × ArePredicates (past i (clause_list p.clauses)) p.others

abbrev pub IsClausePart : ℕ → ClausePart → Type 0
IsClausePart i p = IsClauseRest (past i (bar_before p.bar)) p.rest

abbrev pub IsUsed : ℕ → UsedPart → Type 0
IsUsed i u = HasSome u.path.parts × IsLink u.link u.name × (u.path.at ≡ past i (link_words u.link)) × PlacedRenamed (past (past i (link_words u.link)) (write_path u.path.parts)) u.name

abbrev pub IsSubst : ℕ → List Element → Type 0
IsSubst i es = AreElements es × PlacedElements (i + 1) es

abbrev pub IsCloned : ℕ → ClonedPart → Type 0
IsCloned i c = IsUsed i c.used × IsSubst (past (past (past i (link_words c.used.link)) (write_path c.used.path.parts)) (renamed c.used.name)) c.elements

abbrev pub IsPropAt : ℕ → Called → Type 0
IsPropAt i c = (c.at ≡ i) × IsProp c.own

abbrev pub IsAxioms : ℕ → Option Called → Type 0
IsAxioms i None = ⊤
IsAxioms i (Some c) = IsPropAt i c

abbrev pub IsQids : ℕ → Option Called → Type 0
IsQids i None = ⊤
IsQids i (Some c) = IsPropAt (i + 1) c

abbrev pub IsVars : ℕ → VarsPart → Type 0
IsVars i v = PlacedNames i v.vars × IsColon (past i (variable_row v.vars)) v.type

abbrev pub value_open : Option SyntaxTree → Bool
value_open None = false
value_open (Some e) = ends_open e
