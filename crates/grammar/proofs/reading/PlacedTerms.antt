-- Each right expression can be placed: one with the same tokens has its places.
use Rattle.grammar.proofs.reading.Common.{◌≡◌, ℕ, ◌+◌, ◌≤◌, Bool, List, [], ◌∷◌, ◌++◌, Option, Some, None, refl, sym, ap, ◌∙◌, subst, need, right, Name, At, at, lx, mark, name, SyntaxForm, SyntaxForms, form_list, past, pattern_forms, type_forms, write_called, Called, fielded_tree, tree_fields, tree_fields_tail, AreNamedTrees, PlacedFieldTrees, AreAlternatives, AreAtoms, AreBinders, AreBranches, AreLevel, AreTerms, TypedBinder, Branches, HasBranch, HasSome, HasSomeTree, IsAtom, IsLevel, IsPlacedTree, IsPlainTerm, access, IsTrigger, IsTypePart, PlacedAlternatives, PlacedBinder, PlacedBinders, PlacedBranches, PlacedCommas, PlacedNames, PlacedPart, PlacedTrees, PlacedTrigger, SyntaxTree, SyntaxTrees, SyntaxTrigger, alternative_list, alternative_tail, apply, bar_before, binary, binder_list, binder_tail, binding, binds, branch, cases, cast, choice, ends_open, falsity, group, literal, more, name_row, negation, no_branch, none, op, prefixed, quantified, quantifier, separator, terms_tail, tight, triggered, truth, type_part, untriggered, write, write_binder, write_branches, write_list, write_op, write_others, write_row, write_tail, write_trigger}
use Rattle.tokens_why.specs.declared.terminal.Terminal.TheVariants as t
use Rattle.grammar.proofs.reading.PlacedForms.{Put, PutList, following, form_at, join, list_at, moved}

pub names_at : (i : ℕ) (ns : List Name) → PutList (λ v. Unit {0}) (PlacedNames i) HasSome name_row name_row ns
names_at i [] = record { value = []; right = tt; placed = tt; tokens = refl; tail = refl; some = λ p. p }
names_at i (n ∷ ns) = let r = names_at (i + 1) ns in
    record { value = name i n.text ∷ r.value; right = tt; placed = (refl, r.placed); tokens = following (lx t.Lident n.text) r.tokens; tail = following (lx t.Lident n.text) r.tokens; some = λ p. tt }

pub part_at : (i : ℕ) (ty : Option SyntaxForm) → IsTypePart ty → Put IsTypePart (PlacedPart i) type_part ty
part_at i None h = record { value = None; right = tt; placed = tt; tokens = refl }
part_at i (Some f) h = let u = form_at type_forms (i + 1) f h in
    record { value = Some u.form; right = u.right; placed = u.placed; tokens = following (mark t.Colon) u.tokens }

binder_at : (i : ℕ) (b : TypedBinder) → AreBinders (b ∷ []) → Put (λ v. AreBinders (v ∷ [])) (PlacedBinder i) write_binder b
binder_at i (binds ns ty) h = let r = names_at i ns in let u = part_at (past i (name_row r.value)) ty h.1 in
    record { value = binds r.value u.value; right = (r.some h.0, u.right, tt); placed = (r.placed, u.placed); tokens = join r.tokens u.tokens }

split_binder : (b : TypedBinder) (bs : List TypedBinder) → AreBinders (b ∷ bs) → AreBinders (b ∷ []) × AreBinders bs
split_binder (binds ns ty) bs h = ((h.0, h.1, tt), h.2)

join_binder : (b : TypedBinder) (bs : List TypedBinder) → AreBinders (b ∷ []) → AreBinders bs → AreBinders (b ∷ bs)
join_binder (binds ns ty) bs h q = (h.0, h.1, q)

binders_at : (i : ℕ) (bs : List TypedBinder) → AreBinders bs → PutList AreBinders (PlacedBinders i) HasSome binder_list binder_tail bs
binders_at i [] h = record { value = []; right = tt; placed = tt; tokens = refl; tail = refl; some = λ p. p }
binders_at i (b ∷ bs) h = let q = split_binder b bs h in let u = binder_at i b q.0 in let r = binders_at (past i (write_binder u.value) + 1) bs q.1 in
    record { value = u.value ∷ r.value; right = join_binder u.value r.value u.right r.right; placed = (u.placed, r.placed); tokens = join u.tokens r.tail; tail = following (mark t.Comma) (join u.tokens r.tail); some = λ p. tt }

alternatives_at : (i : ℕ) (pss : List SyntaxForms) → AreAlternatives pss → PutList AreAlternatives (PlacedAlternatives i) HasSome alternative_list alternative_tail pss
alternatives_at i [] h = record { value = []; right = tt; placed = tt; tokens = refl; tail = refl; some = λ p. p }
alternatives_at i (ps ∷ pss) h = let u = list_at pattern_forms i ps h.1 in let r = alternatives_at (past i (form_list u.value) + 1) pss h.2 in
    record { value = u.value ∷ r.value; right = (u.some h.0, u.right, r.right); placed = (u.placed, r.placed); tokens = join u.tokens r.tail; tail = following (mark t.Bar) (join u.tokens r.tail); some = λ p. tt }

pub record TreeAt (i : ℕ) (e : SyntaxTree) : Type 0 where
  pub tree : SyntaxTree
  pub right : IsLevel tree
  pub placed : IsPlacedTree i tree
  pub tokens : write tree ≡ write e
  pub tightness : tight tree ≡ tight e
  pub open_end : ends_open tree ≡ ends_open e
  pub atom : IsAtom e → IsAtom tree
  pub plain : IsPlainTerm e → IsPlainTerm tree

-- names, each with its tree, by themselves and after others
pub record FieldTreesAt (i : ℕ) (cs : List Called) (es : SyntaxTrees) : Type 0 where
  pub names : List Called
  pub values : SyntaxTrees
  pub right : AreLevel values
  pub named : AreNamedTrees names values
  pub placed : PlacedFieldTrees i names values
  pub tokens : tree_fields names values ≡ tree_fields cs es
  pub tail : tree_fields_tail names values ≡ tree_fields_tail cs es
  pub some : HasSomeTree es → HasSomeTree values

-- after a separator each
pub record TermsAt (i : ℕ) (es : SyntaxTrees) (bars : List Bool) : Type 0 where
  pub value : SyntaxTrees
  pub right : AreTerms value bars
  pub placed : PlacedCommas i value
  pub tail : terms_tail value bars ≡ terms_tail es bars

abbrev at_operator : ℕ → ℕ → At
at_operator i j = record { first = i; main = j }

mutual
  pub tree_at : (i : ℕ) (e : SyntaxTree) → IsLevel e → TreeAt i e
  tree_at i (apply a c none) h = record { tree = apply (at i) (moved i c) none; right = h; placed = (refl, refl, tt); tokens = refl; tightness = refl; open_end = refl; atom = λ p. p; plain = λ p. p }
  tree_at i (apply a c (more e es)) h = let u = tree_at (past i (write_called c)) e h.1.1 in let r = atoms_at (past (past i (write_called c)) (write u.tree)) es h.1.2 in
      record { tree = apply (at i) (moved i c) (more u.tree r.value); right = (h.0, (u.atom h.1.0, u.right, r.right)); placed = (refl, refl, (u.placed, r.placed)); tokens = ap (λ v. write_called c ++ v) (join u.tokens r.tokens); tightness = refl; open_end = refl; atom = λ p. absurd p; plain = λ p. absurd p }
  tree_at i (literal a w) h = record { tree = literal (at i) w; right = h; placed = refl; tokens = refl; tightness = refl; open_end = refl; atom = λ p. p; plain = λ p. absurd p }
  tree_at i (truth a) h = record { tree = truth (at i); right = h; placed = refl; tokens = refl; tightness = refl; open_end = refl; atom = λ p. p; plain = λ p. absurd p }
  tree_at i (falsity a) h = record { tree = falsity (at i); right = h; placed = refl; tokens = refl; tightness = refl; open_end = refl; atom = λ p. p; plain = λ p. absurd p }
  tree_at i (group a es) h = let r = commas_at (i + 1) es h in
      record { tree = group (at i) r.value; right = r.right; placed = (refl, r.placed); tokens = following (mark t.LParen) (join r.tokens refl); tightness = refl; open_end = refl; atom = λ p. p; plain = λ p. p }
  tree_at i (cast a e f) h = let u = tree_at (i + 1) e h.0 in let w = form_at type_forms (past (i + 1) (write u.tree) + 1) f h.1 in
      record { tree = cast (at i) u.tree w.form; right = (u.right, w.right); placed = (refl, u.placed, w.placed); tokens = following (mark t.LParen) (join u.tokens (following (mark t.Colon) (join w.tokens refl))); tightness = refl; open_end = refl; atom = λ p. p; plain = λ p. p }
  tree_at i (prefixed a o e) h = let u = tree_at (i + 1) e h.3 in
      record { tree = prefixed (at i) (op i o.terminal o.text) u.tree; right = (h.0, h.1, subst (λ n. 8 ≤ n) (sym u.tightness) h.2, u.right); placed = (refl, refl, u.placed); tokens = following (write_op o) u.tokens; tightness = refl; open_end = u.open_end; atom = λ p. absurd p; plain = λ p. absurd p }
  tree_at i (negation a e) h = let u = tree_at (i + 1) e h.1 in
      record { tree = negation (at i) u.tree; right = (subst (λ n. 3 ≤ n) (sym u.tightness) h.0, u.right); placed = (refl, u.placed); tokens = following (mark t.NotWord) u.tokens; tightness = refl; open_end = u.open_end; atom = λ p. absurd p; plain = λ p. absurd p }
  tree_at i (binary a e o f) h = let u = tree_at i e h.5 in let w = tree_at (past i (write u.tree) + 1) f h.6 in
      record {
        tree = binary (at_operator i (past i (write u.tree))) u.tree (op (past i (write u.tree)) o.terminal o.text) w.tree;
        right = (h.0, h.1, u.open_end ∙ h.2, subst (λ n. need o.terminal ≤ n) (sym u.tightness) h.3, subst (λ n. right o.terminal ≤ n) (sym w.tightness) h.4, u.right, w.right);
        placed = (refl, refl, refl, u.placed, w.placed);
        tokens = join u.tokens (following (write_op o) w.tokens);
        tightness = refl;
        open_end = w.open_end;
        atom = λ p. absurd p;
        plain = λ p. absurd p;
      }
  tree_at i (choice a c e f) h = let u = tree_at (i + 1) c h.0 in let v = tree_at (past (i + 1) (write u.tree) + 1) e h.1 in let w = tree_at (past (past (i + 1) (write u.tree) + 1) (write v.tree) + 1) f h.2 in
      record { tree = choice (at i) u.tree v.tree w.tree; right = (u.right, v.right, w.right); placed = (refl, u.placed, v.placed, w.placed); tokens = following (mark t.IfWord) (join u.tokens (following (mark t.ThenWord) (join v.tokens (following (mark t.ElseWord) w.tokens)))); tightness = refl; open_end = refl; atom = λ p. absurd p; plain = λ p. absurd p }
  tree_at i (cases a es bar bs) h = let u = commas_at (i + 1) es h.1 in let w = branches_at (past (past (i + 1) (write_list u.value) + 1) (bar_before bar)) bs h.3 in
      record { tree = cases (at i) u.value bar w.value; right = (u.some h.0, u.right, w.some h.2, w.right); placed = (refl, u.placed, w.placed); tokens = following (mark t.MatchWord) (join u.tokens (following (mark t.WithWord) (ap (λ v. bar_before bar ++ v) (join w.tokens refl)))); tightness = refl; open_end = refl; atom = λ p. p; plain = λ p. p }
  tree_at i (access a e c) h = let u = tree_at i e h.1 in
      record { tree = access (at i) u.tree (moved (past i (write u.tree) + 1) c); right = (u.plain h.0, u.right, h.2); placed = (refl, u.placed, refl); tokens = join u.tokens refl; tightness = refl; open_end = refl; atom = λ p. p; plain = λ p. p }
  tree_at i (fielded_tree a cs es semi) h = let r = field_trees_at (i + 1) cs es h.1 h.2 in
      record { tree = fielded_tree (at i) r.names r.values semi; right = (r.some h.0, r.named, r.right); placed = (refl, r.placed); tokens = following (mark t.LBrace) (join r.tokens refl); tightness = refl; open_end = refl; atom = λ p. p; plain = λ p. p }
  tree_at i (binding a ps e f) h = let u = list_at pattern_forms (i + 1) ps h.1 in let v = tree_at (past (i + 1) (form_list u.value) + 1) e h.2 in let w = tree_at (past (past (i + 1) (form_list u.value) + 1) (write v.tree) + 1) f h.3 in
      record { tree = binding (at i) u.value v.tree w.tree; right = (u.some h.0, u.right, v.right, w.right); placed = (refl, u.placed, v.placed, w.placed); tokens = following (mark t.LetWord) (join u.tokens (following (mark t.Equal) (join v.tokens (following (mark t.InWord) w.tokens)))); tightness = refl; open_end = refl; atom = λ p. absurd p; plain = λ p. absurd p }
  tree_at i (quantified a all bs g e) h = let u = binders_at (i + 1) bs h.1 in let v = trigger_at (past (i + 1) (binder_list u.value)) g h.2 in let w = tree_at (past (past (i + 1) (binder_list u.value)) (write_trigger v.value) + 1) e h.3 in
      record { tree = quantified (at i) all u.value v.value w.tree; right = (u.some h.0, u.right, v.right, w.right); placed = (refl, u.placed, v.placed, w.placed); tokens = following (mark (quantifier all)) (join u.tokens (join v.tokens (following (mark t.Dot) w.tokens))); tightness = refl; open_end = refl; atom = λ p. absurd p; plain = λ p. absurd p }

  field_trees_at : (i : ℕ) (cs : List Called) (es : SyntaxTrees) → AreNamedTrees cs es → AreLevel es → FieldTreesAt i cs es
  field_trees_at i [] none n h = record { names = []; values = none; right = tt; named = tt; placed = tt; tokens = refl; tail = refl; some = λ p. p }
  field_trees_at i [] (more e es) n h = absurd n
  field_trees_at i (c ∷ cs) none n h = absurd n
  field_trees_at i (c ∷ cs) (more e es) n h =
      let u = tree_at (past i (write_called c) + 1) e h.0 in
      let r = field_trees_at (past (past i (write_called c) + 1) (write u.tree) + 1) cs es n.1 h.1 in
      let x = ap (λ v. write_called c ++ v) (following (mark t.Equal) (join u.tokens r.tail)) in
      record {
        names = moved i c ∷ r.names;
        values = more u.tree r.values;
        right = (u.right, r.right);
        named = (n.0, r.named);
        placed = (refl, u.placed, r.placed);
        tokens = x;
        tail = following (mark t.Semi) x;
        some = λ p. tt;
      }

  pub atoms_at : (i : ℕ) (es : SyntaxTrees) → AreAtoms es → Put AreAtoms (PlacedTrees i) write_row es
  atoms_at i none h = record { value = none; right = tt; placed = tt; tokens = refl }
  atoms_at i (more e es) h = let u = tree_at i e h.1 in let r = atoms_at (past i (write u.tree)) es h.2 in
      record { value = more u.tree r.value; right = (u.atom h.0, u.right, r.right); placed = (u.placed, r.placed); tokens = join u.tokens r.tokens }

  pub commas_at : (i : ℕ) (es : SyntaxTrees) → AreLevel es → PutList AreLevel (PlacedCommas i) HasSomeTree write_list write_tail es
  commas_at i none h = record { value = none; right = tt; placed = tt; tokens = refl; tail = refl; some = λ p. p }
  commas_at i (more e es) h = let u = tree_at i e h.0 in let r = commas_at (past i (write u.tree) + 1) es h.1 in
      record { value = more u.tree r.value; right = (u.right, r.right); placed = (u.placed, r.placed); tokens = join u.tokens r.tail; tail = following (mark t.Comma) (join u.tokens r.tail); some = λ p. tt }

  pub branches_at : (i : ℕ) (bs : Branches) → AreBranches bs → PutList AreBranches (PlacedBranches i) HasBranch write_branches write_others bs
  branches_at i no_branch h = record { value = no_branch; right = tt; placed = tt; tokens = refl; tail = refl; some = λ p. p }
  branches_at i (branch pss e bs) h = let u = alternatives_at i pss h.1 in let v = tree_at (past i (alternative_list u.value) + 1) e h.2 in let r = branches_at (past (past i (alternative_list u.value) + 1) (write v.tree) + 1) bs h.3 in
      record { value = branch u.value v.tree r.value; right = (u.some h.0, u.right, v.right, r.right); placed = (u.placed, v.placed, r.placed); tokens = join u.tokens (following (mark t.Arrow) (join v.tokens r.tail)); tail = following (mark t.Bar) (join u.tokens (following (mark t.Arrow) (join v.tokens r.tail))); some = λ p. tt }

  terms_at : (i : ℕ) (es : SyntaxTrees) (bars : List Bool) → AreTerms es bars → TermsAt i es bars
  terms_at i none [] h = record { value = none; right = tt; placed = tt; tail = refl }
  terms_at i none (b ∷ bs) h = absurd h
  terms_at i (more e es) [] h = absurd h
  terms_at i (more e es) (b ∷ bs) h = let u = tree_at i e h.0 in let r = terms_at (past i (write u.tree) + 1) es bs h.1 in
      record { value = more u.tree r.value; right = (u.right, r.right); placed = (u.placed, r.placed); tail = following (mark (separator b)) (join u.tokens r.tail) }

  trigger_at : (i : ℕ) (g : SyntaxTrigger) → IsTrigger g → Put IsTrigger (PlacedTrigger i) write_trigger g
  trigger_at i untriggered h = record { value = untriggered; right = tt; placed = tt; tokens = refl }
  trigger_at i (triggered none bars) h = absurd h
  trigger_at i (triggered (more e es) bars) h = let u = tree_at (i + 1) e h.0 in let r = terms_at (past (i + 1) (write u.tree) + 1) es bars h.1 in
      record { value = triggered (more u.tree r.value) bars; right = (u.right, r.right); placed = (u.placed, r.placed); tokens = following (mark t.LBrack) (join (join u.tokens r.tail) refl) }
