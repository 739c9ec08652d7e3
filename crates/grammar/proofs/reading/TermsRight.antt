-- What the rules of branches, `let` and quantifiers may be read as, and the tokens of that.
use Rattle.grammar.proofs.reading.Common.{◌≡◌, ⊤, ℕ, ◌+◌, Bool, true, Called, AreNamedForms, AreNamedTrees, PlacedFieldForms, PlacedFieldTrees, SyntaxTrees, no_forms, none, form_fields, form_fields_tail, tree_fields, tree_fields_tail, FormFields, TreeFields, IsLowerName, write_called, List, [], ◌∷◌, ◌++◌, Option, Lexeme, mark, AreForms, SyntaxForm, SyntaxForms, PlacedList, form_tail, past, pattern_forms, AreAlternatives, AreBinders, AreBranches, AreLevel, AreTerms, Branches, HasBranch, IsLevel, IsPlacedTree, IsTrigger, IsTypePart, PlacedAlternatives, PlacedBinders, PlacedBranches, PlacedCommas, PlacedNames, PlacedPart, PlacedTrigger, SyntaxTree, SyntaxTrigger, alternative_tail, bar_before, binder_tail, name_row, terms_tail, type_part, write, write_branches, write_others, write_tail, write_trigger, ArmPart, BinderPart, BoundPart, BranchPart, CasesPart, LetPart, TermsPart}
use Rattle.tokens_why.specs.declared.terminal.Terminal.TheVariants as t
use Rattle.grammar.proofs.reading.FormsRead.{close_fields}

-- fields one after the other
abbrev pub write_dots : List Called → List Lexeme
write_dots [] = []
write_dots (c ∷ cs) = mark t.Dot ∷ (write_called c ++ write_dots cs)

abbrev pub AreDots : ℕ → List Called → Type 0
AreDots i [] = ⊤
AreDots i (c ∷ cs) = (c.at ≡ i + 1) × IsLowerName c.own × AreDots (past (i + 1) (write_called c)) cs

-- fields of a record after the first one, and after a `;`, where there may be none
abbrev pub write_form_rest : FormFields → List Lexeme
write_form_rest r = form_fields_tail r.names r.forms ++ close_fields r.semi

abbrev pub next_forms : List Called → SyntaxForms → Bool → List Lexeme
next_forms [] ps semi = mark t.RBrace ∷ []
next_forms (c ∷ cs) ps semi = form_fields (c ∷ cs) ps ++ close_fields semi

abbrev pub IsFormRest : ℕ → List Called → SyntaxForms → Type 0
IsFormRest i cs ps = AreNamedForms cs ps × AreForms pattern_forms ps × PlacedFieldForms (i + 1) cs ps

abbrev pub IsFormNext : ℕ → List Called → SyntaxForms → Bool → Type 0
IsFormNext i [] ps semi = (ps ≡ no_forms) × (semi ≡ true)
IsFormNext i (c ∷ cs) ps semi = AreNamedForms (c ∷ cs) ps × AreForms pattern_forms ps × PlacedFieldForms i (c ∷ cs) ps

abbrev pub write_tree_rest : TreeFields → List Lexeme
write_tree_rest r = tree_fields_tail r.names r.trees ++ close_fields r.semi

abbrev pub next_trees : List Called → SyntaxTrees → Bool → List Lexeme
next_trees [] es semi = mark t.RBrace ∷ []
next_trees (c ∷ cs) es semi = tree_fields (c ∷ cs) es ++ close_fields semi

abbrev pub IsTreeRest : ℕ → List Called → SyntaxTrees → Type 0
IsTreeRest i cs es = AreNamedTrees cs es × AreLevel es × PlacedFieldTrees (i + 1) cs es

abbrev pub IsTreeNext : ℕ → List Called → SyntaxTrees → Bool → Type 0
IsTreeNext i [] es semi = (es ≡ none) × (semi ≡ true)
IsTreeNext i (c ∷ cs) es semi = AreNamedTrees (c ∷ cs) es × AreLevel es × PlacedFieldTrees i (c ∷ cs) es

abbrev pub write_arm : ArmPart → List Lexeme
write_arm a = form_tail a.patterns ++ (alternative_tail a.alternatives ++ (mark t.Arrow ∷ (write a.body ++ (write_others a.others ++ (mark t.EndWord ∷ [])))))

abbrev pub write_branch : BranchPart → List Lexeme
write_branch b = bar_before b.bar ++ (write_branches b.branches ++ (mark t.EndWord ∷ []))

abbrev pub write_cases : CasesPart → List Lexeme
write_cases c = write_tail c.others ++ (mark t.WithWord ∷ (bar_before c.bar ++ (write_branches c.branches ++ (mark t.EndWord ∷ []))))

abbrev pub write_let : LetPart → List Lexeme
write_let l = form_tail l.patterns ++ (mark t.Equal ∷ (write l.value ++ (mark t.InWord ∷ write l.body)))

abbrev pub write_bound : BoundPart → List Lexeme
write_bound b = binder_tail b.others ++ (write_trigger b.trigger ++ (mark t.Dot ∷ write b.body))

abbrev pub write_names : BinderPart → List Lexeme
write_names b = name_row b.names ++ (type_part b.of_type ++ write_bound b.bound)

abbrev pub write_terms_part : TermsPart → List Lexeme
write_terms_part p = terms_tail p.terms p.bars ++ (mark t.RBrack ∷ mark t.Dot ∷ write p.body)

abbrev pub IsArmBody : ℕ → SyntaxTree → Branches → Type 0
IsArmBody i e bs = IsLevel e × IsPlacedTree (i + 1) e × AreBranches bs × PlacedBranches (past (i + 1) (write e) + 1) bs

abbrev pub IsArmRest : ℕ → List SyntaxForms → SyntaxTree → Branches → Type 0
IsArmRest i pss e bs = AreAlternatives pss × PlacedAlternatives (i + 1) pss × IsArmBody (past i (alternative_tail pss)) e bs

abbrev pub IsArm : ℕ → ArmPart → Type 0
IsArm i a = AreForms pattern_forms a.patterns × PlacedList (i + 1) a.patterns × IsArmRest (past i (form_tail a.patterns)) a.alternatives a.body a.others

abbrev pub IsBranch : ℕ → BranchPart → Type 0
IsBranch i b = HasBranch b.branches × AreBranches b.branches × PlacedBranches (past i (bar_before b.bar)) b.branches

abbrev pub IsCases : ℕ → CasesPart → Type 0
IsCases i c = AreLevel c.others × PlacedCommas (i + 1) c.others × IsBranch (past i (write_tail c.others) + 1) (record { bar = c.bar; branches = c.branches })

abbrev pub IsLetRest : ℕ → SyntaxTree → SyntaxTree → Type 0
IsLetRest i e f = IsLevel e × IsPlacedTree (i + 1) e × IsLevel f × IsPlacedTree (past (i + 1) (write e) + 1) f

abbrev pub IsLet : ℕ → LetPart → Type 0
IsLet i l = AreForms pattern_forms l.patterns × PlacedList (i + 1) l.patterns × IsLetRest (past i (form_tail l.patterns)) l.value l.body

abbrev pub IsBoundRest : ℕ → SyntaxTrigger → SyntaxTree → Type 0
IsBoundRest i g e = IsTrigger g × PlacedTrigger i g × IsLevel e × IsPlacedTree (past i (write_trigger g) + 1) e

abbrev pub IsBound : ℕ → BoundPart → Type 0
IsBound i b = AreBinders b.others × PlacedBinders (i + 1) b.others × IsBoundRest (past i (binder_tail b.others)) b.trigger b.body

abbrev pub IsTyping : ℕ → Option SyntaxForm → BoundPart → Type 0
IsTyping i ty b = IsTypePart ty × PlacedPart i ty × IsBound (past i (type_part ty)) b

abbrev pub IsNames : ℕ → BinderPart → Type 0
IsNames i b = PlacedNames i b.names × IsTyping (past i (name_row b.names)) b.of_type b.bound

abbrev pub IsTerms : ℕ → TermsPart → Type 0
IsTerms i p = AreTerms p.terms p.bars × PlacedCommas (i + 1) p.terms × IsLevel p.body × IsPlacedTree (past i (terms_tail p.terms p.bars) + 1 + 1) p.body
