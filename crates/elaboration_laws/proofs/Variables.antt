-- The type variables that are seen in a proposition of a source are texts of its tokens.
use Rattle.std.proofs.Common.{◌≡◌, ℕ, suc, Bool, true, false, cond, List, [], ◌∷◌, ◌++◌, map, All, Option, Some, None, option_map, refl, sym, subst, arith}
use Rattle.std.specs.Option.{is_some}
use Rattle.std.proofs.lemmas.List.Elements.{All-nil, All-cons, All-append}
use Rattle.elab_groups.specs.tokens_why.declared.terminal.Terminal.{Terminal}
use Rattle.elab_groups.specs.tokens_why.declared.terminal.Terminal.TheVariants as t
use Rattle.elab_groups.specs.surface.Lexeme.{Word, Lexeme, mark, lx}
use Rattle.elab_groups.specs.surface.Forms.{SyntaxForms, Called, write_called, semicolon_after, write_form, form_row, form_list, form_tail}
use Rattle.elab_groups.specs.surface.Forms as surface
use Rattle.elab_groups.specs.surface.Trees.{write, write_op, write_row, write_list, write_tail, tree_fields, tree_fields_tail, write_branches, write_others, write_trigger, write_terms, terms_tail, write_binder, binder_tail, binder_list, name_row, type_part, alternative_list, bar_before, separator, quantifier}
use Rattle.elab_groups.specs.surface.Trees as tree
use Rattle.elab_groups.specs.name_resolution.Abstract.{OperatorMeaning, connective_operator, equality_operator, symbol_operator, operator_meaning, operated, Pattern, Patterns, Alternatives, Expression, wildcard_pattern, variable_pattern, constructor_pattern, tuple_pattern, alias_pattern, record_pattern, no_patterns, more_patterns, no_alternatives, more_alternatives, type_expression, type_expressions, grouped_forms, count_forms, count_expressions, expression, expressions, match_branches, triggers, grouped, let_name, let_by, binder, branch_alternatives, first_tree, first_form, side_by_side}
use Rattle.elab_groups.specs.name_resolution.Where.{place_of}
use Rattle.elab_groups.specs.name_resolution.variables.Seen.{SeenTree, with_variable, with_width, form_seen, forms_seen, type_seen, binders_seen, pattern_seen, patterns_seen, alternatives_seen, seen, all_seen, branches_seen}
use Rattle.elab_groups.specs.parts.Elaborated.{unseen}

-- what is said of the text of a type variable
abbrev pub VariableAs : (Word → Type 0) → Terminal → Word → Type 0
VariableAs P t.TyVar w = P w
VariableAs P _ w = Unit {0}

abbrev pub IsVariable : (Word → Type 0) → Lexeme → Type 0
IsVariable P l = VariableAs P l.terminal l.text

-- ---- parts of what is written
module _ (Is : Lexeme → Type 0) where
  pub tail_of : (x : Lexeme) (xs : List Lexeme) → All Is (x ∷ xs) → All Is xs
  tail_of x xs h = λ k d l. h (suc k) d (omega (arith, l))

  pub front_of : (xs ys : List Lexeme) → All Is (xs ++ ys) → All Is xs
  front_of [] ys h = All-nil Is
  front_of (x ∷ xs) ys h = All-cons Is x xs (h 0 x (omega arith)) (front_of xs ys (tail_of x (xs ++ ys) h))

  pub back_of : (xs ys : List Lexeme) → All Is (xs ++ ys) → All Is ys
  back_of [] ys h = h
  back_of (x ∷ xs) ys h = back_of xs ys (tail_of x (xs ++ ys) h)

module _ (P : Word → Type 0) where
  abbrev Are : List Lexeme → Type 0
  Are ls = All (IsVariable P) ls

  abbrev VQ : SeenTree → Type 0
  VQ s = All P s.vars

  tail_at : (x : Lexeme) (xs : List Lexeme) → Are (x ∷ xs) → Are xs
  tail_at = tail_of (IsVariable P)

  front_at : (xs ys : List Lexeme) → Are (xs ++ ys) → Are xs
  front_at = front_of (IsVariable P)

  back_at : (xs ys : List Lexeme) → Are (xs ++ ys) → Are ys
  back_at = back_of (IsVariable P)

  -- ---- types
  with_told : (w : Word) (s : SeenTree) → P w → VQ s → VQ (with_variable w s)
  with_told w s q h = of (is_some (place_of w s.vars))
    where
      of : (b : Bool) → All P (cond b s.vars (s.vars ++ w ∷ []))
      of true = h
      of false = All-append P s.vars (w ∷ []) h (All-cons P w [] q (All-nil P))

  mutual
    form_told : (f : surface.SyntaxForm) (s : SeenTree) → Are (write_form f) → VQ s → VQ (form_seen s (type_expression f))
    form_told (surface.wild a) s q h = h
    form_told (surface.variable a n) s q h = h
    form_told (surface.type_variable a w) s q h = with_told w s (q 0 (lx t.TyVar w) (omega arith)) h
    form_told (surface.composed a c ts) s q h = row_told ts s (back_at (write_called c) (form_row ts) q) h
    form_told (surface.enclosed a ts) s q h = grouped_forms_told ts a.main s (front_at (form_list ts) (mark t.RParen ∷ []) (tail_at (mark t.LParen) (form_list ts ++ (mark t.RParen ∷ [])) q)) h
    form_told (surface.aliased a p n) s q h = h
    form_told (surface.fielded_form a cs ps semi) s q h = h

    row_told : (ts : SyntaxForms) (s : SeenTree) → Are (form_row ts) → VQ s → VQ (forms_seen s (type_expressions ts))
    row_told surface.no_forms s q h = h
    row_told (surface.more_forms p ps) s q h = row_told ps (form_seen s (type_expression p)) (back_at (write_form p) (form_row ps) q) (form_told p s (front_at (write_form p) (form_row ps) q) h)

    commas_told : (ts : SyntaxForms) (s : SeenTree) → Are (form_tail ts) → VQ s → VQ (forms_seen s (type_expressions ts))
    commas_told surface.no_forms s q h = h
    commas_told (surface.more_forms p ps) s q h =
        let r = tail_at (mark t.Comma) (write_form p ++ form_tail ps) q in
        commas_told ps (form_seen s (type_expression p)) (back_at (write_form p) (form_tail ps) r) (form_told p s (front_at (write_form p) (form_tail ps) r) h)

    grouped_forms_told : (ts : SyntaxForms) (i : ℕ) (s : SeenTree) → Are (form_list ts) → VQ s → VQ (form_seen s (grouped_forms i (type_expressions ts)))
    grouped_forms_told surface.no_forms i s q h = h
    grouped_forms_told (surface.more_forms p surface.no_forms) i s q h = form_told p s (front_at (write_form p) [] q) h
    grouped_forms_told (surface.more_forms p (surface.more_forms o ps)) i s q h =
        let rest = mark t.Comma ∷ (write_form o ++ form_tail ps) in
        let s' = with_width (count_forms (type_expressions (surface.more_forms p (surface.more_forms o ps)))) s in
        let r = tail_at (mark t.Comma) (write_form o ++ form_tail ps) (back_at (write_form p) rest q) in
        commas_told ps (form_seen (form_seen s' (type_expression p)) (type_expression o)) (back_at (write_form o) (form_tail ps) r) (form_told o (form_seen s' (type_expression p)) (front_at (write_form o) (form_tail ps) r) (form_told p s' (front_at (write_form p) rest q) h))

  type_told : (f : Option surface.SyntaxForm) (s : SeenTree) → Are (type_part f) → VQ s → VQ (type_seen s (option_map type_expression f))
  type_told None s q h = h
  type_told (Some f) s q h = form_told f s (tail_at (mark t.Colon) (write_form f) q) h

  binder_told : (b : tree.TypedBinder) (bs : List tree.TypedBinder) (s : SeenTree) → Are (write_binder b) → ((s : SeenTree) → VQ s → VQ (binders_seen s (map binder bs))) → VQ s → VQ (binders_seen s (map binder (b ∷ bs)))
  binder_told (tree.binds ns f) bs s q k h = k (type_seen s (option_map type_expression f)) (type_told f s (back_at (name_row ns) (type_part f) q) h)

  binders_told : (bs : List tree.TypedBinder) (s : SeenTree) → Are (binder_tail bs) → VQ s → VQ (binders_seen s (map binder bs))
  binders_told [] s q h = h
  binders_told (b ∷ bs) s q h =
      let r = tail_at (mark t.Comma) (write_binder b ++ binder_tail bs) q in
      binder_told b bs s (front_at (write_binder b) (binder_tail bs) r) (λ s' h'. binders_told bs s' (back_at (write_binder b) (binder_tail bs) r) h') h

  all_binders_told : (bs : List tree.TypedBinder) (s : SeenTree) → Are (binder_list bs) → VQ s → VQ (binders_seen s (map binder bs))
  all_binders_told [] s q h = h
  all_binders_told (b ∷ bs) s q h = binder_told b bs s (front_at (write_binder b) (binder_tail bs) q) (λ s' h'. binders_told bs s' (back_at (write_binder b) (binder_tail bs) q) h') h

  -- ---- patterns have no types
  mutual
    pattern_same : (p : Pattern) (s : SeenTree) → VQ s → VQ (pattern_seen s p)
    pattern_same (wildcard_pattern i) s h = h
    pattern_same (variable_pattern i x) s h = h
    pattern_same (constructor_pattern i qs x ps) s h = patterns_same ps s h
    pattern_same (tuple_pattern i ps) s h = patterns_same ps (with_width _ s) h
    pattern_same (alias_pattern p i x) s h = pattern_same p s h
    pattern_same (record_pattern i fs ps) s h = patterns_same ps s h

    patterns_same : (ps : Patterns) (s : SeenTree) → VQ s → VQ (patterns_seen s ps)
    patterns_same no_patterns s h = h
    patterns_same (more_patterns p ps) s h = patterns_same ps (pattern_seen s p) (pattern_same p s h)

  alternatives_same : (ps : Alternatives) (s : SeenTree) → VQ s → VQ (alternatives_seen s ps)
  alternatives_same no_alternatives s h = h
  alternatives_same (more_alternatives i p ps) s h = alternatives_same ps (pattern_seen s p) (pattern_same p s h)

  -- ---- terms and formulas
  operated_seen : (o : OperatorMeaning) (i : ℕ) (a b : Expression) (s : SeenTree) → seen s (operated i a o b) ≡ seen (seen s a) b
  operated_seen (connective_operator o) i a b s = refl
  operated_seen (equality_operator same) i a b s = refl
  operated_seen (symbol_operator w) i a b s = refl

  let_told : (o : Option Word) (i : ℕ) (ps : SyntaxForms) (a b : Expression) (s : SeenTree) → VQ (seen s a) → ((s : SeenTree) → VQ s → VQ (seen s b)) → VQ (seen s (let_by o i ps a b))
  let_told (Some x) i ps a b s h k = k (seen s a) h
  let_told None i ps a b s h k = k (alternatives_seen (seen s a) (more_alternatives (first_form ps) (side_by_side ps) no_alternatives)) (alternatives_same (more_alternatives (first_form ps) (side_by_side ps) no_alternatives) (seen s a) h)

  mutual
    tree_told : (e : tree.SyntaxTree) (s : SeenTree) → Are (write e) → VQ s → VQ (seen s (expression e))
    tree_told (tree.apply a c ts) s q h = trees_told ts s (back_at (write_called c) (write_row ts) q) h
    tree_told (tree.literal a w) s q h = h
    tree_told (tree.truth a) s q h = h
    tree_told (tree.falsity a) s q h = h
    tree_told (tree.group a ts) s q h = grouped_told ts a.main s (front_at (write_list ts) (mark t.RParen ∷ []) (tail_at (mark t.LParen) (write_list ts ++ (mark t.RParen ∷ [])) q)) h
    tree_told (tree.cast a e f) s q h =
        let end = mark t.RParen ∷ [] in
        let r = tail_at (mark t.LParen) (write e ++ (mark t.Colon ∷ (write_form f ++ end))) q in
        let u = tail_at (mark t.Colon) (write_form f ++ end) (back_at (write e) (mark t.Colon ∷ (write_form f ++ end)) r) in
        form_told f (seen s (expression e)) (front_at (write_form f) end u) (tree_told e s (front_at (write e) (mark t.Colon ∷ (write_form f ++ end)) r) h)
    tree_told (tree.prefixed a o e) s q h = tree_told e s (tail_at (write_op o) (write e) q) h
    tree_told (tree.negation a e) s q h = tree_told e s (tail_at (mark t.NotWord) (write e) q) h
    tree_told (tree.binary a e o f) s q h =
        let same = operated_seen (operator_meaning o.terminal o.text) a.main (expression e) (expression f) s in
        let r = tail_at (write_op o) (write f) (back_at (write e) (write_op o ∷ write f) q) in
        subst VQ (sym same) (tree_told f (seen s (expression e)) r (tree_told e s (front_at (write e) (write_op o ∷ write f) q) h))
    tree_told (tree.choice a c e f) s q h =
        let last = mark t.ElseWord ∷ write f in
        let mid = mark t.ThenWord ∷ (write e ++ last) in
        let r = tail_at (mark t.IfWord) (write c ++ mid) q in
        let u = tail_at (mark t.ThenWord) (write e ++ last) (back_at (write c) mid r) in
        let z = tail_at (mark t.ElseWord) (write f) (back_at (write e) last u) in
        tree_told f (seen (seen s (expression c)) (expression e)) z (tree_told e (seen s (expression c)) (front_at (write e) last u) (tree_told c s (front_at (write c) mid r) h))
    tree_told (tree.cases a es bar bs) s q h =
        let end = mark t.EndWord ∷ [] in
        let inner = bar_before bar ++ (write_branches bs ++ end) in
        let r = tail_at (mark t.MatchWord) (write_list es ++ (mark t.WithWord ∷ inner)) q in
        let u = back_at (bar_before bar) (write_branches bs ++ end) (tail_at (mark t.WithWord) inner (back_at (write_list es) (mark t.WithWord ∷ inner) r)) in
        branches_told bs (seen s (grouped (first_tree es) (expressions es))) (front_at (write_branches bs) end u) (grouped_told es (first_tree es) s (front_at (write_list es) (mark t.WithWord ∷ inner) r) h)
    tree_told (tree.access a e c) s q h = tree_told e s (front_at (write e) (mark t.Dot ∷ write_called c) q) h
    tree_told (tree.fielded_tree a cs es semi) s q h =
        let end = semicolon_after semi ++ (mark t.RBrace ∷ []) in
        fields_told cs es s (front_at (tree_fields cs es) end (tail_at (mark t.LBrace) (tree_fields cs es ++ end) q)) h
    tree_told (tree.binding a ps e f) s q h =
        let last = mark t.InWord ∷ write f in
        let mid = mark t.Equal ∷ (write e ++ last) in
        let r = tail_at (mark t.Equal) (write e ++ last) (back_at (form_list ps) mid (tail_at (mark t.LetWord) (form_list ps ++ mid) q)) in
        let u = tail_at (mark t.InWord) (write f) (back_at (write e) last r) in
        let_told (let_name ps) a.main ps (expression e) (expression f) s (tree_told e s (front_at (write e) last r) h) (λ s' h'. tree_told f s' u h')
    tree_told (tree.quantified a all bs g e) s q h =
        let last = mark t.Dot ∷ write e in
        let r = tail_at (mark (quantifier all)) (binder_list bs ++ (write_trigger g ++ last)) q in
        let u = back_at (binder_list bs) (write_trigger g ++ last) r in
        let z = tail_at (mark t.Dot) (write e) (back_at (write_trigger g) last u) in
        let s1 = binders_seen s (map binder bs) in
        tree_told e (all_seen s1 (triggers g)) z (trigger_told g s1 (front_at (write_trigger g) last u) (all_binders_told bs s (front_at (binder_list bs) (write_trigger g ++ last) r) h))

    trees_told : (es : tree.SyntaxTrees) (s : SeenTree) → Are (write_row es) → VQ s → VQ (all_seen s (expressions es))
    trees_told tree.none s q h = h
    trees_told (tree.more e es) s q h = trees_told es (seen s (expression e)) (back_at (write e) (write_row es) q) (tree_told e s (front_at (write e) (write_row es) q) h)

    fields_told : (cs : List Called) (es : tree.SyntaxTrees) (s : SeenTree) → Are (tree_fields cs es) → VQ s → VQ (all_seen s (expressions es))
    fields_told [] tree.none s q h = h
    fields_told (c ∷ cs) tree.none s q h = h
    fields_told [] (tree.more e es) s q h =
        let rest = tree_fields_tail [] es in
        fields_tail_told [] es (seen s (expression e)) (back_at (write e) rest q) (tree_told e s (front_at (write e) rest q) h)
    fields_told (c ∷ cs) (tree.more e es) s q h =
        let rest = tree_fields_tail cs es in
        let r = tail_at (mark t.Equal) (write e ++ rest) (back_at (write_called c) (mark t.Equal ∷ (write e ++ rest)) q) in
        fields_tail_told cs es (seen s (expression e)) (back_at (write e) rest r) (tree_told e s (front_at (write e) rest r) h)

    fields_tail_told : (cs : List Called) (es : tree.SyntaxTrees) (s : SeenTree) → Are (tree_fields_tail cs es) → VQ s → VQ (all_seen s (expressions es))
    fields_tail_told [] tree.none s q h = h
    fields_tail_told (c ∷ cs) tree.none s q h = h
    fields_tail_told [] (tree.more e es) s q h =
        let rest = tree_fields_tail [] es in
        let r = tail_at (mark t.Semi) (write e ++ rest) q in
        fields_tail_told [] es (seen s (expression e)) (back_at (write e) rest r) (tree_told e s (front_at (write e) rest r) h)
    fields_tail_told (c ∷ cs) (tree.more e es) s q h =
        let rest = tree_fields_tail cs es in
        let o = tail_at (mark t.Semi) (write_called c ++ (mark t.Equal ∷ (write e ++ rest))) q in
        let r = tail_at (mark t.Equal) (write e ++ rest) (back_at (write_called c) (mark t.Equal ∷ (write e ++ rest)) o) in
        fields_tail_told cs es (seen s (expression e)) (back_at (write e) rest r) (tree_told e s (front_at (write e) rest r) h)

    tail_told : (es : tree.SyntaxTrees) (s : SeenTree) → Are (write_tail es) → VQ s → VQ (all_seen s (expressions es))
    tail_told tree.none s q h = h
    tail_told (tree.more e es) s q h =
        let r = tail_at (mark t.Comma) (write e ++ write_tail es) q in
        tail_told es (seen s (expression e)) (back_at (write e) (write_tail es) r) (tree_told e s (front_at (write e) (write_tail es) r) h)

    grouped_told : (es : tree.SyntaxTrees) (i : ℕ) (s : SeenTree) → Are (write_list es) → VQ s → VQ (seen s (grouped i (expressions es)))
    grouped_told tree.none i s q h = h
    grouped_told (tree.more e tree.none) i s q h = tree_told e s (front_at (write e) [] q) h
    grouped_told (tree.more e (tree.more f es)) i s q h =
        let rest = mark t.Comma ∷ (write f ++ write_tail es) in
        let s' = with_width (count_expressions (expressions (tree.more e (tree.more f es)))) s in
        let r = tail_at (mark t.Comma) (write f ++ write_tail es) (back_at (write e) rest q) in
        tail_told es (seen (seen s' (expression e)) (expression f)) (back_at (write f) (write_tail es) r) (tree_told f (seen s' (expression e)) (front_at (write f) (write_tail es) r) (tree_told e s' (front_at (write e) rest q) h))

    branches_told : (bs : tree.Branches) (s : SeenTree) → Are (write_branches bs) → VQ s → VQ (branches_seen s (match_branches bs))
    branches_told tree.no_branch s q h = h
    branches_told (tree.branch ps e bs) s q h =
        let r = tail_at (mark t.Arrow) (write e ++ write_others bs) (back_at (alternative_list ps) (mark t.Arrow ∷ (write e ++ write_others bs)) q) in
        let s1 = alternatives_seen s (branch_alternatives ps) in
        others_told bs (seen s1 (expression e)) (back_at (write e) (write_others bs) r) (tree_told e s1 (front_at (write e) (write_others bs) r) (alternatives_same (branch_alternatives ps) s h))

    others_told : (bs : tree.Branches) (s : SeenTree) → Are (write_others bs) → VQ s → VQ (branches_seen s (match_branches bs))
    others_told tree.no_branch s q h = h
    others_told (tree.branch ps e bs) s q h =
        let inner = mark t.Arrow ∷ (write e ++ write_others bs) in
        let r = tail_at (mark t.Arrow) (write e ++ write_others bs) (back_at (alternative_list ps) inner (tail_at (mark t.Bar) (alternative_list ps ++ inner) q)) in
        let s1 = alternatives_seen s (branch_alternatives ps) in
        others_told bs (seen s1 (expression e)) (back_at (write e) (write_others bs) r) (tree_told e s1 (front_at (write e) (write_others bs) r) (alternatives_same (branch_alternatives ps) s h))

    trigger_told : (g : tree.SyntaxTrigger) (s : SeenTree) → Are (write_trigger g) → VQ s → VQ (all_seen s (triggers g))
    trigger_told tree.untriggered s q h = h
    trigger_told (tree.triggered es bars) s q h =
        let end = mark t.RBrack ∷ [] in
        terms_told es bars s (front_at (write_terms es bars) end (tail_at (mark t.LBrack) (write_terms es bars ++ end) q)) h

    terms_told : (es : tree.SyntaxTrees) (bars : List Bool) (s : SeenTree) → Are (write_terms es bars) → VQ s → VQ (all_seen s (expressions es))
    terms_told tree.none bars s q h = h
    terms_told (tree.more e es) bars s q h = terms_tail_told es bars (seen s (expression e)) (back_at (write e) (terms_tail es bars) q) (tree_told e s (front_at (write e) (terms_tail es bars) q) h)

    terms_tail_told : (es : tree.SyntaxTrees) (bars : List Bool) (s : SeenTree) → Are (terms_tail es bars) → VQ s → VQ (all_seen s (expressions es))
    terms_tail_told tree.none bars s q h = h
    terms_tail_told (tree.more e es) [] s q h =
        let r = tail_at (mark t.Comma) (write e ++ terms_tail es []) q in
        terms_tail_told es [] (seen s (expression e)) (back_at (write e) (terms_tail es []) r) (tree_told e s (front_at (write e) (terms_tail es []) r) h)
    terms_tail_told (tree.more e es) (b ∷ bars) s q h =
        let r = tail_at (mark (separator b)) (write e ++ terms_tail es bars) q in
        terms_tail_told es bars (seen s (expression e)) (back_at (write e) (terms_tail es bars) r) (tree_told e s (front_at (write e) (terms_tail es bars) r) h)

  pub variables_told : (e : tree.SyntaxTree) → Are (write e) → All P (seen unseen (expression e)).vars
  variables_told e q = tree_told e unseen q (All-nil P)
