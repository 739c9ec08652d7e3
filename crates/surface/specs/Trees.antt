-- Terms and formulas, their tokens, the level rule, and where their parts stand.
use Rattle.std.specs.Prelude.{ℕ, ◌+◌, ◌≡◌, ◌≤◌, Bool, true, false, List, [], ◌∷◌, ◌++◌, Option, Some, None}
use Rattle.surface.specs.Common.{⊤, Terminal, prec, need, right, is_infix, is_prefix, is_operator, At, Name}
use Rattle.tokens_why.specs.declared.terminal.Terminal.TheVariants as t
use Rattle.surface.specs.Lexeme.{Lexeme, Word, at, lx, mark}
use Rattle.surface.specs.Forms.{HasForm, IsLowerName, semicolon_after, AreForms, Called, SyntaxForm, SyntaxForms, IsForm, IsPlaced, Own, lower, PlacedList, form_list, infix_op, more_forms, no_forms, past, pattern_forms, prefix_op, type_forms, write_called, write_form}

pub record OperatorToken : Type 0 where
  pub at : ℕ
  pub terminal : Terminal
  pub text : Word

abbrev pub op : ℕ → Terminal → Word → OperatorToken
op i x w = record { at = i; terminal = x; text = w }

-- the names that a quantifier binds, and their type
pub data TypedBinder : Type 0 where
  binds : List Name → Option SyntaxForm → TypedBinder

mutual
  pub data SyntaxTree : Type 0 where
    apply : At → Called → SyntaxTrees → SyntaxTree
    literal : At → Word → SyntaxTree
    truth : At → SyntaxTree
    falsity : At → SyntaxTree
    group : At → SyntaxTrees → SyntaxTree
    cast : At → SyntaxTree → SyntaxForm → SyntaxTree
    prefixed : At → OperatorToken → SyntaxTree → SyntaxTree
    negation : At → SyntaxTree → SyntaxTree
    binary : At → SyntaxTree → OperatorToken → SyntaxTree → SyntaxTree
    choice : At → SyntaxTree → SyntaxTree → SyntaxTree → SyntaxTree
    cases : At → SyntaxTrees → Bool → Branches → SyntaxTree
    -- a field of a term
    access : At → SyntaxTree → Called → SyntaxTree
    -- fields of a record with their values, and whether a `;` is after the last one
    fielded_tree : At → List Called → SyntaxTrees → Bool → SyntaxTree
    binding : At → SyntaxForms → SyntaxTree → SyntaxTree → SyntaxTree
    quantified : At → Bool → List TypedBinder → SyntaxTrigger → SyntaxTree → SyntaxTree

  pub data SyntaxTrees : Type 0 where
    none : SyntaxTrees
    more : SyntaxTree → SyntaxTrees → SyntaxTrees

  pub data Branches : Type 0 where
    no_branch : Branches
    branch : List SyntaxForms → SyntaxTree → Branches → Branches

  -- terms, and for each separator whether it is a bar
  pub data SyntaxTrigger : Type 0 where
    untriggered : SyntaxTrigger
    triggered : SyntaxTrees → List Bool → SyntaxTrigger

abbrev pub write_op : OperatorToken → Lexeme
write_op o = lx o.terminal o.text

-- names side by side
abbrev pub name_row : List Name → List Lexeme
name_row [] = []
name_row (n ∷ ns) = lx t.Lident n.text ∷ name_row ns

-- alternatives with bars between
abbrev pub alternative_tail : List SyntaxForms → List Lexeme
alternative_tail [] = []
alternative_tail (ps ∷ pss) = mark t.Bar ∷ (form_list ps ++ alternative_tail pss)

abbrev pub alternative_list : List SyntaxForms → List Lexeme
alternative_list [] = []
alternative_list (ps ∷ pss) = form_list ps ++ alternative_tail pss

abbrev pub type_part : Option SyntaxForm → List Lexeme
type_part None = []
type_part (Some f) = mark t.Colon ∷ write_form f

abbrev pub write_binder : TypedBinder → List Lexeme
write_binder (binds ns ty) = name_row ns ++ type_part ty

abbrev pub binder_tail : List TypedBinder → List Lexeme
binder_tail [] = []
binder_tail (b ∷ bs) = mark t.Comma ∷ (write_binder b ++ binder_tail bs)

abbrev pub binder_list : List TypedBinder → List Lexeme
binder_list [] = []
binder_list (b ∷ bs) = write_binder b ++ binder_tail bs

abbrev pub quantifier : Bool → Terminal
quantifier true = t.ForallWord
quantifier false = t.ExistsWord

abbrev pub bar_before : Bool → List Lexeme
bar_before true = mark t.Bar ∷ []
bar_before false = []

abbrev pub separator : Bool → Terminal
separator true = t.Bar
separator false = t.Comma

abbrev mutual
  pub write : SyntaxTree → List Lexeme
  write (apply a c ts) = write_called c ++ write_row ts
  write (literal a w) = lx t.Int w ∷ []
  write (truth a) = mark t.TrueWord ∷ []
  write (falsity a) = mark t.FalseWord ∷ []
  write (group a ts) = mark t.LParen ∷ (write_list ts ++ (mark t.RParen ∷ []))
  write (cast a e f) =
      mark t.LParen ∷ (write e ++ (mark t.Colon ∷ (write_form f ++ (mark t.RParen ∷ []))))
  write (prefixed a o e) = write_op o ∷ write e
  write (negation a e) = mark t.NotWord ∷ write e
  write (binary a e o f) = write e ++ (write_op o ∷ write f)
  write (choice a c e f) =
      mark t.IfWord ∷ (write c ++ (mark t.ThenWord ∷ (write e ++ (mark t.ElseWord ∷ write f))))
  write (cases a es bar bs) =
      mark t.MatchWord ∷ (write_list es
      ++ (mark t.WithWord ∷ (bar_before bar ++ (write_branches bs ++ (mark t.EndWord ∷ [])))))
  write (access a e c) = write e ++ (mark t.Dot ∷ write_called c)
  write (fielded_tree a cs es semi) =
      mark t.LBrace ∷ (tree_fields cs es ++ (semicolon_after semi ++ (mark t.RBrace ∷ [])))
  write (binding a ps e f) =
      mark t.LetWord ∷ (form_list ps ++ (mark t.Equal ∷ (write e ++ (mark t.InWord ∷ write f))))
  write (quantified a all bs g e) =
      mark (quantifier all) ∷ (binder_list bs ++ (write_trigger g ++ (mark t.Dot ∷ write e)))

  -- a value that no name is given for is written alone; a tree that is read has a name for each
  pub tree_fields : List Called → SyntaxTrees → List Lexeme
  tree_fields (c ∷ cs) (more e es) =
      write_called c ++ (mark t.Equal ∷ (write e ++ tree_fields_tail cs es))
  tree_fields [] (more e es) = write e ++ tree_fields_tail [] es
  tree_fields _ none = []

  pub tree_fields_tail : List Called → SyntaxTrees → List Lexeme
  tree_fields_tail (c ∷ cs) (more e es) =
      mark t.Semi ∷ (write_called c ++ (mark t.Equal ∷ (write e ++ tree_fields_tail cs es)))
  tree_fields_tail [] (more e es) = mark t.Semi ∷ (write e ++ tree_fields_tail [] es)
  tree_fields_tail _ none = []

  pub write_row : SyntaxTrees → List Lexeme
  write_row none = []
  write_row (more e es) = write e ++ write_row es

  pub write_list : SyntaxTrees → List Lexeme
  write_list none = []
  write_list (more e es) = write e ++ write_tail es

  pub write_tail : SyntaxTrees → List Lexeme
  write_tail none = []
  write_tail (more e es) = mark t.Comma ∷ (write e ++ write_tail es)

  pub write_branches : Branches → List Lexeme
  write_branches no_branch = []
  write_branches (branch ps e bs) =
      alternative_list ps ++ (mark t.Arrow ∷ (write e ++ write_others bs))

  pub write_others : Branches → List Lexeme
  write_others no_branch = []
  write_others (branch ps e bs) =
      mark t.Bar ∷ (alternative_list ps ++ (mark t.Arrow ∷ (write e ++ write_others bs)))

  pub write_trigger : SyntaxTrigger → List Lexeme
  write_trigger untriggered = []
  write_trigger (triggered es bars) = mark t.LBrack ∷ (write_terms es bars ++ (mark t.RBrack ∷ []))

  -- with commas and bars between
  pub write_terms : SyntaxTrees → List Bool → List Lexeme
  write_terms none bars = []
  write_terms (more e es) bars = write e ++ terms_tail es bars

  pub terms_tail : SyntaxTrees → List Bool → List Lexeme
  terms_tail none bars = []
  terms_tail (more e es) [] = mark t.Comma ∷ (write e ++ terms_tail es [])
  terms_tail (more e es) (b ∷ bs) = mark (separator b) ∷ (write e ++ terms_tail es bs)

-- how tightly a tree binds
abbrev pub tight : SyntaxTree → ℕ
tight (binary a e o f) = prec o.terminal
tight (negation a e) = 3
tight (prefixed a o e) = 8
tight _ = 9

abbrev pub ends_open : SyntaxTree → Bool
ends_open (binary a e o f) = ends_open f
ends_open (negation a e) = ends_open e
ends_open (prefixed a o e) = ends_open e
ends_open (choice a c e f) = true
ends_open (binding a ps e f) = true
ends_open (quantified a all bs g e) = true
ends_open _ = false

abbrev pub MayBeMarked : Terminal → Word → Type 0
MayBeMarked t.Equal w = w ≡ []
MayBeMarked t.Minus w = w ≡ []
MayBeMarked t.Arrow w = w ≡ []
MayBeMarked t.Equiv w = w ≡ []
MayBeMarked t.Disj w = w ≡ []
MayBeMarked t.OrOr w = w ≡ []
MayBeMarked t.Conj w = w ≡ []
MayBeMarked t.AndAnd w = w ≡ []
MayBeMarked _ w = ⊤

abbrev pub IsOwn : Own → Type 0
IsOwn (infix_op o w) = (is_operator o ≡ true) × MayBeMarked o w
IsOwn (prefix_op o w) = (is_operator o ≡ true) × MayBeMarked o w
IsOwn _ = ⊤

abbrev pub IsAtom : SyntaxTree → Type 0
IsAtom (apply a c (more e es)) = ⊥
IsAtom (prefixed a o e) = ⊥
IsAtom (negation a e) = ⊥
IsAtom (binary a e o f) = ⊥
IsAtom (choice a c e f) = ⊥
IsAtom (binding a ps e f) = ⊥
IsAtom (quantified a all bs g e) = ⊥
IsAtom _ = ⊤

-- what a field may be taken of
abbrev pub IsPlainTerm : SyntaxTree → Type 0
IsPlainTerm (apply a c none) = IsLowerName c.own
IsPlainTerm (group a es) = ⊤
IsPlainTerm (cast a e f) = ⊤
IsPlainTerm (cases a es bar bs) = ⊤
IsPlainTerm (access a e c) = ⊤
IsPlainTerm (fielded_tree a cs es semi) = ⊤
IsPlainTerm _ = ⊥

abbrev pub HasSome : {A : Type 0} → List A → Type 0
HasSome [] = ⊥
HasSome (x ∷ xs) = ⊤

abbrev pub HasSomeTree : SyntaxTrees → Type 0
HasSomeTree none = ⊥
HasSomeTree (more e es) = ⊤

-- each tree has its name
abbrev pub AreNamedTrees : List Called → SyntaxTrees → Type 0
AreNamedTrees [] none = ⊤
AreNamedTrees (c ∷ cs) (more e es) = IsLowerName c.own × AreNamedTrees cs es
AreNamedTrees _ _ = ⊥

abbrev pub HasBranch : Branches → Type 0
HasBranch no_branch = ⊥
HasBranch (branch ps e bs) = ⊤

abbrev pub AreAlternatives : List SyntaxForms → Type 0
AreAlternatives [] = ⊤
AreAlternatives (ps ∷ pss) = HasForm ps × AreForms pattern_forms ps × AreAlternatives pss

abbrev pub IsTypePart : Option SyntaxForm → Type 0
IsTypePart None = ⊤
IsTypePart (Some f) = IsForm type_forms f

abbrev pub AreBinders : List TypedBinder → Type 0
AreBinders [] = ⊤
AreBinders (binds ns ty ∷ bs) = HasSome ns × IsTypePart ty × AreBinders bs

abbrev mutual
  pub IsLevel : SyntaxTree → Type 0
  IsLevel (apply a c ts) = IsOwn c.own × AreAtoms ts
  IsLevel (literal a w) = ⊤
  IsLevel (truth a) = ⊤
  IsLevel (falsity a) = ⊤
  IsLevel (group a ts) = AreLevel ts
  IsLevel (cast a e f) = IsLevel e × IsForm type_forms f
  IsLevel (prefixed a o e) =
      (is_prefix o.terminal ≡ true) × MayBeMarked o.terminal o.text × (8 ≤ tight e) × IsLevel e
  IsLevel (negation a e) = (3 ≤ tight e) × IsLevel e
  IsLevel (binary a e o f) = (is_infix o.terminal ≡ true) × MayBeMarked o.terminal o.text
      × (ends_open e ≡ false) × (need o.terminal ≤ tight e) × (right o.terminal ≤ tight f)
      × IsLevel e × IsLevel f
  IsLevel (choice a c e f) = IsLevel c × IsLevel e × IsLevel f
  IsLevel (cases a es bar bs) = HasSomeTree es × AreLevel es × HasBranch bs × AreBranches bs
  IsLevel (access a e c) = IsPlainTerm e × IsLevel e × IsLowerName c.own
  IsLevel (fielded_tree a cs es semi) = HasSomeTree es × AreNamedTrees cs es × AreLevel es
  IsLevel (binding a ps e f) = HasForm ps × AreForms pattern_forms ps × IsLevel e × IsLevel f
  IsLevel (quantified a all bs g e) = HasSome bs × AreBinders bs × IsTrigger g × IsLevel e

  pub AreAtoms : SyntaxTrees → Type 0
  AreAtoms none = ⊤
  AreAtoms (more e es) = IsAtom e × IsLevel e × AreAtoms es

  pub AreLevel : SyntaxTrees → Type 0
  AreLevel none = ⊤
  AreLevel (more e es) = IsLevel e × AreLevel es

  pub AreBranches : Branches → Type 0
  AreBranches no_branch = ⊤
  AreBranches (branch ps e bs) = HasSome ps × AreAlternatives ps × IsLevel e × AreBranches bs

  pub IsTrigger : SyntaxTrigger → Type 0
  IsTrigger untriggered = ⊤
  IsTrigger (triggered none bars) = ⊥
  IsTrigger (triggered (more e es) bars) = IsLevel e × AreTerms es bars

  -- a separator before each term
  pub AreTerms : SyntaxTrees → List Bool → Type 0
  AreTerms none [] = ⊤
  AreTerms none (b ∷ bs) = ⊥
  AreTerms (more e es) [] = ⊥
  AreTerms (more e es) (b ∷ bs) = IsLevel e × AreTerms es bs

abbrev pub PlacedNames : ℕ → List Name → Type 0
PlacedNames i [] = ⊤
PlacedNames i (n ∷ ns) = (n.at ≡ i) × PlacedNames (i + 1) ns

abbrev pub PlacedPart : ℕ → Option SyntaxForm → Type 0
PlacedPart i None = ⊤
PlacedPart i (Some f) = IsPlaced (i + 1) f

abbrev pub PlacedBinder : ℕ → TypedBinder → Type 0
PlacedBinder i (binds ns ty) = PlacedNames i ns × PlacedPart (past i (name_row ns)) ty

-- binders and alternatives, with a token between
abbrev pub PlacedBinders : ℕ → List TypedBinder → Type 0
PlacedBinders i [] = ⊤
PlacedBinders i (b ∷ bs) = PlacedBinder i b × PlacedBinders (past i (write_binder b) + 1) bs

abbrev pub PlacedAlternatives : ℕ → List SyntaxForms → Type 0
PlacedAlternatives i [] = ⊤
PlacedAlternatives i (ps ∷ pss) =
    PlacedList i ps × PlacedAlternatives (past i (form_list ps) + 1) pss

-- Token i is the first one.
abbrev mutual
  pub IsPlacedTree : ℕ → SyntaxTree → Type 0
  IsPlacedTree i (apply a c ts) = (a ≡ at i) × (c.at ≡ i) × PlacedTrees (past i (write_called c)) ts
  IsPlacedTree i (literal a w) = a ≡ at i
  IsPlacedTree i (truth a) = a ≡ at i
  IsPlacedTree i (falsity a) = a ≡ at i
  IsPlacedTree i (group a ts) = (a ≡ at i) × PlacedCommas (i + 1) ts
  IsPlacedTree i (cast a e f) =
      (a ≡ at i) × IsPlacedTree (i + 1) e × IsPlaced (past (i + 1) (write e) + 1) f
  IsPlacedTree i (prefixed a o e) = (a ≡ at i) × (o.at ≡ i) × IsPlacedTree (i + 1) e
  IsPlacedTree i (negation a e) = (a ≡ at i) × IsPlacedTree (i + 1) e
  IsPlacedTree i (binary a e o f) =
      (a.first ≡ i) × (a.main ≡ o.at) × (o.at ≡ past i (write e)) × IsPlacedTree i e
      × IsPlacedTree (past i (write e) + 1) f
  IsPlacedTree i (choice a c e f) =
      (a ≡ at i) × IsPlacedTree (i + 1) c × IsPlacedTree (past (i + 1) (write c) + 1) e
      × IsPlacedTree (past (past (i + 1) (write c) + 1) (write e) + 1) f
  IsPlacedTree i (cases a es bar bs) =
      (a ≡ at i) × PlacedCommas (i + 1) es
      × PlacedBranches (past (past (i + 1) (write_list es) + 1) (bar_before bar)) bs
  IsPlacedTree i (access a e c) =
      (a ≡ at i) × IsPlacedTree i e × (c.at ≡ past i (write e) + 1)
  IsPlacedTree i (fielded_tree a cs es semi) = (a ≡ at i) × PlacedFieldTrees (i + 1) cs es
  IsPlacedTree i (binding a ps e f) =
      (a ≡ at i) × PlacedList (i + 1) ps × IsPlacedTree (past (i + 1) (form_list ps) + 1) e
      × IsPlacedTree (past (past (i + 1) (form_list ps) + 1) (write e) + 1) f
  IsPlacedTree i (quantified a all bs g e) =
      (a ≡ at i) × PlacedBinders (i + 1) bs × PlacedTrigger (past (i + 1) (binder_list bs)) g
      × IsPlacedTree (past (past (i + 1) (binder_list bs)) (write_trigger g) + 1) e

  -- each after its name and `=`, with a token between
  pub PlacedFieldTrees : ℕ → List Called → SyntaxTrees → Type 0
  PlacedFieldTrees i (c ∷ cs) (more e es) =
      (c.at ≡ i) × IsPlacedTree (past i (write_called c) + 1) e
      × PlacedFieldTrees (past (past i (write_called c) + 1) (write e) + 1) cs es
  PlacedFieldTrees i _ _ = ⊤

  -- side by side
  pub PlacedTrees : ℕ → SyntaxTrees → Type 0
  PlacedTrees i none = ⊤
  PlacedTrees i (more e es) = IsPlacedTree i e × PlacedTrees (past i (write e)) es

  -- with a token between
  pub PlacedCommas : ℕ → SyntaxTrees → Type 0
  PlacedCommas i none = ⊤
  PlacedCommas i (more e es) = IsPlacedTree i e × PlacedCommas (past i (write e) + 1) es

  -- branches with a token between, each with its arrow
  pub PlacedBranches : ℕ → Branches → Type 0
  PlacedBranches i no_branch = ⊤
  PlacedBranches i (branch ps e bs) =
      PlacedAlternatives i ps × IsPlacedTree (past i (alternative_list ps) + 1) e
      × PlacedBranches (past (past i (alternative_list ps) + 1) (write e) + 1) bs

  -- after a bracket
  pub PlacedTrigger : ℕ → SyntaxTrigger → Type 0
  PlacedTrigger i untriggered = ⊤
  PlacedTrigger i (triggered es bars) = PlacedCommas (i + 1) es
