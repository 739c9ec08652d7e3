-- Types and patterns, their tokens, which of them are right, and where their parts stand.
use Rattle.std.specs.Prelude.{ℕ, ◌+◌, ◌≡◌, Bool, true, false, List, [], ◌∷◌, ◌++◌}
use Rattle.surface.specs.Common.{⊤, Terminal, At, Name}
use Rattle.tokens_why.specs.declared.terminal.Terminal.TheVariants as t
use Rattle.surface.specs.Lexeme.{Word, Lexeme, lx, mark, at}

-- a name after its scopes
pub data Own : Type 0 where
  lower : Word → Own
  upper : Word → Own
  infix_op : Terminal → Word → Own
  prefix_op : Terminal → Word → Own
  star : Own

pub record Called : Type 0 where
  pub at : ℕ
  pub scopes : List Word
  pub own : Own

abbrev pub called : ℕ → List Word → Own → Called
called i qs o = record { at = i; scopes = qs; own = o }

mutual
  pub data SyntaxForm : Type 0 where
    wild : At → SyntaxForm
    variable : At → Name → SyntaxForm
    type_variable : At → Word → SyntaxForm
    composed : At → Called → SyntaxForms → SyntaxForm
    enclosed : At → SyntaxForms → SyntaxForm
    aliased : At → SyntaxForm → Name → SyntaxForm
    -- fields of a record with their patterns, and whether a `;` is after the last one
    fielded_form : At → List Called → SyntaxForms → Bool → SyntaxForm

  pub data SyntaxForms : Type 0 where
    no_forms : SyntaxForms
    more_forms : SyntaxForm → SyntaxForms → SyntaxForms

abbrev pub scoped : List Word → List Lexeme
scoped [] = []
scoped (q ∷ qs) = lx t.Uident q ∷ mark t.Dot ∷ scoped qs

abbrev pub write_own : Own → List Lexeme
write_own (lower w) = lx t.Lident w ∷ []
write_own (upper w) = lx t.Uident w ∷ []
write_own (infix_op o w) = mark t.LParen ∷ lx o w ∷ mark t.RParen ∷ []
write_own (prefix_op o w) = mark t.LParen ∷ lx o w ∷ mark t.Wild ∷ mark t.RParen ∷ []
write_own star = mark t.StarName ∷ []

abbrev pub write_called : Called → List Lexeme
write_called c = scoped c.scopes ++ write_own c.own

abbrev pub semicolon_after : Bool → List Lexeme
semicolon_after true = mark t.Semi ∷ []
semicolon_after false = []

abbrev mutual
  pub write_form : SyntaxForm → List Lexeme
  write_form (wild a) = mark t.Wild ∷ []
  write_form (variable a n) = lx t.Lident n.text ∷ []
  write_form (type_variable a w) = lx t.TyVar w ∷ []
  write_form (composed a c ts) = write_called c ++ form_row ts
  write_form (enclosed a ts) = mark t.LParen ∷ (form_list ts ++ (mark t.RParen ∷ []))
  write_form (aliased a p n) = write_form p ++ (mark t.AsWord ∷ lx t.Lident n.text ∷ [])
  write_form (fielded_form a cs ps semi) =
      mark t.LBrace ∷ (form_fields cs ps ++ (semicolon_after semi ++ (mark t.RBrace ∷ [])))

  pub form_fields : List Called → SyntaxForms → List Lexeme
  form_fields (c ∷ cs) (more_forms p ps) =
      write_called c ++ (mark t.Equal ∷ (write_form p ++ form_fields_tail cs ps))
  form_fields _ _ = []

  pub form_fields_tail : List Called → SyntaxForms → List Lexeme
  form_fields_tail (c ∷ cs) (more_forms p ps) =
      mark t.Semi ∷ (write_called c ++ (mark t.Equal ∷ (write_form p ++ form_fields_tail cs ps)))
  form_fields_tail _ _ = []

  pub form_row : SyntaxForms → List Lexeme
  form_row no_forms = []
  form_row (more_forms p ps) = write_form p ++ form_row ps

  pub form_list : SyntaxForms → List Lexeme
  form_list no_forms = []
  form_list (more_forms p ps) = write_form p ++ form_tail ps

  pub form_tail : SyntaxForms → List Lexeme
  form_tail no_forms = []
  form_tail (more_forms p ps) = mark t.Comma ∷ (write_form p ++ form_tail ps)

pub data FormKind : Type 0 where
  type_forms : FormKind
  pattern_forms : FormKind

abbrev pub OfTypes : FormKind → Type 0
OfTypes type_forms = ⊤
OfTypes pattern_forms = ⊥

abbrev pub OfPatterns : FormKind → Type 0
OfPatterns type_forms = ⊥
OfPatterns pattern_forms = ⊤

abbrev pub IsHead : FormKind → Own → Type 0
IsHead type_forms (lower w) = ⊤
IsHead pattern_forms (upper w) = ⊤
IsHead _ _ = ⊥

abbrev pub IsLowerName : Own → Type 0
IsLowerName (lower w) = ⊤
IsLowerName _ = ⊥

abbrev pub HasForm : SyntaxForms → Type 0
HasForm no_forms = ⊥
HasForm (more_forms p ps) = ⊤

-- each form has its name
abbrev pub AreNamedForms : List Called → SyntaxForms → Type 0
AreNamedForms [] no_forms = ⊤
AreNamedForms (c ∷ cs) (more_forms p ps) = IsLowerName c.own × AreNamedForms cs ps
AreNamedForms _ _ = ⊥

abbrev pub IsFormPart : SyntaxForm → Type 0
IsFormPart (composed a c (more_forms p ps)) = ⊥
IsFormPart (aliased a p n) = ⊥
IsFormPart _ = ⊤

abbrev pub IsUnnamed : SyntaxForm → Type 0
IsUnnamed (aliased a p n) = ⊥
IsUnnamed _ = ⊤

abbrev mutual
  pub IsForm : FormKind → SyntaxForm → Type 0
  IsForm s (wild a) = OfPatterns s
  IsForm s (variable a n) = OfPatterns s
  IsForm s (type_variable a w) = OfTypes s
  IsForm s (composed a c ts) = IsHead s c.own × AreParts s ts
  IsForm s (enclosed a ts) = AreForms s ts
  IsForm s (aliased a p n) = OfPatterns s × IsUnnamed p × IsForm s p
  IsForm s (fielded_form a cs ps semi) =
      OfPatterns s × HasForm ps × AreNamedForms cs ps × AreForms s ps

  pub AreParts : FormKind → SyntaxForms → Type 0
  AreParts s no_forms = ⊤
  AreParts s (more_forms p ps) = IsFormPart p × IsForm s p × AreParts s ps

  pub AreForms : FormKind → SyntaxForms → Type 0
  AreForms s no_forms = ⊤
  AreForms s (more_forms p ps) = IsForm s p × AreForms s ps

-- the number of the token after those that begin at i
abbrev pub past : ℕ → List Lexeme → ℕ
past i [] = i
past i (x ∷ xs) = past (i + 1) xs

-- Token i is the first one.
abbrev mutual
  pub IsPlaced : ℕ → SyntaxForm → Type 0
  IsPlaced i (wild a) = a ≡ at i
  IsPlaced i (variable a n) = (a ≡ at i) × (n.at ≡ i)
  IsPlaced i (type_variable a w) = a ≡ at i
  IsPlaced i (composed a c ts) = (a ≡ at i) × (c.at ≡ i) × PlacedRow (past i (write_called c)) ts
  IsPlaced i (enclosed a ts) = (a ≡ at i) × PlacedList (i + 1) ts
  IsPlaced i (aliased a p n) = (a ≡ at i) × IsPlaced i p × (n.at ≡ past i (write_form p) + 1)
  IsPlaced i (fielded_form a cs ps semi) = (a ≡ at i) × PlacedFieldForms (i + 1) cs ps

  -- side by side
  pub PlacedRow : ℕ → SyntaxForms → Type 0
  PlacedRow i no_forms = ⊤
  PlacedRow i (more_forms p ps) = IsPlaced i p × PlacedRow (past i (write_form p)) ps

  -- with a token between
  pub PlacedList : ℕ → SyntaxForms → Type 0
  PlacedList i no_forms = ⊤
  PlacedList i (more_forms p ps) = IsPlaced i p × PlacedList (past i (write_form p) + 1) ps

  -- each after its name and `=`, with a token between
  pub PlacedFieldForms : ℕ → List Called → SyntaxForms → Type 0
  PlacedFieldForms i (c ∷ cs) (more_forms p ps) =
      (c.at ≡ i) × IsPlaced (past i (write_called c) + 1) p
      × PlacedFieldForms (past (past i (write_called c) + 1) (write_form p) + 1) cs ps
  PlacedFieldForms i _ _ = ⊤
