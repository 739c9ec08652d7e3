-- The patterns of branches and of `let`, and the names of quantifiers.
use Rattle.grammar.proofs.reading.Common.{◌≡◌, ℕ, ◌+◌, Bool, true, false, List, [], ◌∷◌, ◌++◌, Option, Some, None, refl, sym, ap, append_assoc, Terminal, Symbol, Name, Lexeme, lx, mark, name, AreForms, SyntaxForm, SyntaxForms, PlacedList, form_tail, more_forms, no_forms, past, pattern_forms, write_form, AreAlternatives, AreBinders, TypedBinder, Branches, IsTypePart, PlacedAlternatives, PlacedBinders, PlacedNames, PlacedPart, SyntaxTree, SyntaxTrigger, alternative_list, alternative_tail, bar_before, binder_tail, binds, branch, name_row, type_part, BoundPart, branch_of, ReadingRow, Vals, binder_own, branch_own, rows, find}
use Rattle.tokens_why.specs.declared.terminal.Terminal.TheVariants as t
use Rattle.grammar.specs.declared.symbols.Symbol.TheVariants as s
use Rattle.grammar.proofs.reading.Reading.{Extends, Reads, Stops, extended, past-append}
use Rattle.grammar.proofs.reading.FormsRead.{PatStops, reads_pat, reads_type}

pub tail_stops_pat : (ts : SyntaxForms) (zs : List Lexeme) → PatStops zs → PatStops (form_tail ts ++ zs)
tail_stops_pat no_forms zs n = n
tail_stops_pat (more_forms f fs) zs n = record { quids = refl; patoms = refl; as_part = refl }

-- patterns after a comma, up to a terminal that ends them
pub arm_patterns : (ps : SyntaxForms) (zs : List Lexeme) (i : ℕ) (k : List Symbol) (pss : List SyntaxForms) (e : SyntaxTree) (bs : Branches) (vs : Vals k) → AreForms pattern_forms ps → PlacedList (i + 1) ps → PatStops zs → Reads (s.Arm ∷ k) zs (past i (form_tail ps)) (record { patterns = no_forms; alternatives = pss; body = e; others = bs }, vs) → Reads (s.Arm ∷ k) (form_tail ps ++ zs) i (record { patterns = ps; alternatives = pss; body = e; others = bs }, vs)
arm_patterns no_forms zs i k pss e bs vs l p n h = h
arm_patterns (more_forms f fs) zs i k pss e bs vs l p n h = rw (append_assoc (write_form f) (form_tail fs) zs, reads_pat f (form_tail fs ++ zs) (i + 1) (s.Arm ∷ k) (record { patterns = fs; alternatives = pss; body = e; others = bs }, vs) l.0 p.0 (tail_stops_pat fs zs n) (arm_patterns fs zs (past (i + 1) (write_form f)) k pss e bs vs l.1 p.1 n (rw past-append at h))) refl

pub alternatives_stop : (pss : List SyntaxForms) (zs : List Lexeme) → PatStops (alternative_tail pss ++ (mark t.Arrow ∷ zs))
alternatives_stop [] zs = record { quids = refl; patoms = refl; as_part = refl }
alternatives_stop (ps ∷ pss) zs = record { quids = refl; patoms = refl; as_part = refl }

-- alternatives after a bar
pub arm_alternatives : (pss : List SyntaxForms) (zs : List Lexeme) (i : ℕ) (k : List Symbol) (e : SyntaxTree) (bs : Branches) (vs : Vals k) → AreAlternatives pss → PlacedAlternatives (i + 1) pss → Reads (s.Arm ∷ k) (mark t.Arrow ∷ zs) (past i (alternative_tail pss)) (record { patterns = no_forms; alternatives = []; body = e; others = bs }, vs) → Reads (s.Arm ∷ k) (alternative_tail pss ++ (mark t.Arrow ∷ zs)) i (record { patterns = no_forms; alternatives = pss; body = e; others = bs }, vs)
arm_alternatives [] zs i k e bs vs l p h = h
arm_alternatives (no_forms ∷ pss) zs i k e bs vs l p h = elim l.0 [ ]
arm_alternatives (more_forms f fs ∷ pss) zs i k e bs vs l p h = rw (
  append_assoc (write_form f ++ form_tail fs) (alternative_tail pss) (mark t.Arrow ∷ zs),
  append_assoc (write_form f) (form_tail fs) (alternative_tail pss ++ (mark t.Arrow ∷ zs)),
  reads_pat f (form_tail fs ++ (alternative_tail pss ++ (mark t.Arrow ∷ zs))) (i + 1) (s.Arm ∷ k) (record { patterns = fs; alternatives = pss; body = e; others = bs }, vs) l.1.0 p.0.0 (tail_stops_pat fs (alternative_tail pss ++ (mark t.Arrow ∷ zs)) (alternatives_stop pss zs))
      (arm_patterns fs (alternative_tail pss ++ (mark t.Arrow ∷ zs)) (past (i + 1) (write_form f)) k pss e bs vs l.1.1 p.0.1 (alternatives_stop pss zs) (arm_alternatives pss zs (past (past (i + 1) (write_form f)) (form_tail fs)) k e bs vs l.2 (rw past-append at p.1) (rw (past-append, past-append) at h))),
) refl

-- a branch from its first pattern on
pub reads_arms : (f : SyntaxForm) (fs : SyntaxForms) (pss : List SyntaxForms) (zs : List Lexeme) (i : ℕ) (k : List Symbol) (e : SyntaxTree) (bs : Branches) (vs : Vals k) → AreAlternatives (more_forms f fs ∷ pss) → PlacedAlternatives i (more_forms f fs ∷ pss) → Reads (s.Arm ∷ k) (mark t.Arrow ∷ zs) (past i (alternative_list (more_forms f fs ∷ pss))) (record { patterns = no_forms; alternatives = []; body = e; others = bs }, vs) → Reads (s.Pat ∷ s.Arm ∷ k) (alternative_list (more_forms f fs ∷ pss) ++ (mark t.Arrow ∷ zs)) i (f, (record { patterns = fs; alternatives = pss; body = e; others = bs }, vs))
reads_arms f fs pss zs i k e bs vs l p h = rw (append_assoc (write_form f ++ form_tail fs) (alternative_tail pss) (mark t.Arrow ∷ zs), append_assoc (write_form f) (form_tail fs) (alternative_tail pss ++ (mark t.Arrow ∷ zs))) (reads_pat f (form_tail fs ++ (alternative_tail pss ++ (mark t.Arrow ∷ zs))) i (s.Arm ∷ k) (record { patterns = fs; alternatives = pss; body = e; others = bs }, vs) l.1.0 p.0.0 (tail_stops_pat fs (alternative_tail pss ++ (mark t.Arrow ∷ zs)) (alternatives_stop pss zs))
    (arm_patterns fs (alternative_tail pss ++ (mark t.Arrow ∷ zs)) (past i (write_form f)) k pss e bs vs l.1.1 p.0.1 (alternatives_stop pss zs) (arm_alternatives pss zs (past (past i (write_form f)) (form_tail fs)) k e bs vs l.2 (rw past-append at p.1) (rw (past-append, past-append) at h))))

branch_apart : (x : Terminal) (r : ReadingRow s.Pat) → find (rows s.Pat) x ≡ Some r → find branch_own x ≡ None
branch_apart t.Bar r h = cc
branch_apart _ r h = refl

branch_extend : Extends s.Branch s.Pat (s.Arm ∷ []) (λ v vs. record { bar = false; branches = branch_of v vs.0 }) branch_own
branch_extend = record { is = refl; due = refl; apart = branch_apart }

-- branches after `with`
pub reads_branch : (bar : Bool) (f : SyntaxForm) (fs : SyntaxForms) (pss : List SyntaxForms) (xs : List Lexeme) (i : ℕ) (k : List Symbol) (e : SyntaxTree) (bs : Branches) (vs : Vals k) → Reads (s.Pat ∷ s.Arm ∷ k) xs (past i (bar_before bar)) (f, (record { patterns = fs; alternatives = pss; body = e; others = bs }, vs)) → Reads (s.Branch ∷ k) (bar_before bar ++ xs) i (record { bar = bar; branches = branch (more_forms f fs ∷ pss) e bs }, vs)
reads_branch true f fs pss xs i k e bs vs h = rw h refl
reads_branch false f fs pss xs i k e bs vs h = extended s.Branch s.Pat (s.Arm ∷ []) (λ v vs. record { bar = false; branches = branch_of v vs.0 }) branch_own branch_extend xs i k f (record { patterns = fs; alternatives = pss; body = e; others = bs }, vs) h

-- the other patterns of a `let`
pub reads_letpats : (ps : SyntaxForms) (zs : List Lexeme) (i : ℕ) (k : List Symbol) (e f : SyntaxTree) (vs : Vals k) → AreForms pattern_forms ps → PlacedList (i + 1) ps → Reads (s.Letpats ∷ k) (mark t.Equal ∷ zs) (past i (form_tail ps)) (record { patterns = no_forms; value = e; body = f }, vs) → Reads (s.Letpats ∷ k) (form_tail ps ++ (mark t.Equal ∷ zs)) i (record { patterns = ps; value = e; body = f }, vs)
reads_letpats no_forms zs i k e f vs l p h = h
reads_letpats (more_forms g gs) zs i k e f vs l p h = rw (append_assoc (write_form g) (form_tail gs) (mark t.Equal ∷ zs), reads_pat g (form_tail gs ++ (mark t.Equal ∷ zs)) (i + 1) (s.Letpats ∷ k) (record { patterns = gs; value = e; body = f }, vs) l.0 p.0 (tail_stops_pat gs (mark t.Equal ∷ zs) (record { quids = refl; patoms = refl; as_part = refl })) (reads_letpats gs zs (past (i + 1) (write_form g)) k e f vs l.1 p.1 (rw past-append at h))) refl

-- names, their type, and what comes after a binder
pub binder_names : (ns : List Name) (ty : Option SyntaxForm) (b : BoundPart) (zs : List Lexeme) (i : ℕ) (k : List Symbol) (vs : Vals k) → PlacedNames i ns → Reads (s.Binder ∷ k) zs (past i (name_row ns)) (record { names = []; of_type = ty; bound = b }, vs) → Reads (s.Binder ∷ k) (name_row ns ++ zs) i (record { names = ns; of_type = ty; bound = b }, vs)
binder_names [] ty b zs i k vs p h = h
binder_names (n ∷ ns) ty b zs i k vs p h = rw (binder_names ns ty b zs (i + 1) k vs p.1 h) (ap (λ v. Some (record { names = name v n.text ∷ ns; of_type = ty; bound = b }, vs)) (sym p.0))

binder_apart : (x : Terminal) (r : ReadingRow s.Binders) → find (rows s.Binders) x ≡ Some r → find binder_own x ≡ None
binder_apart t.Lident r h = cc
binder_apart t.Colon r h = cc
binder_apart _ r h = refl

binder_extend : Extends s.Binder s.Binders [] (λ v vs. record { names = []; of_type = None; bound = v }) binder_own
binder_extend = record { is = refl; due = refl; apart = binder_apart }

pub binder_type : (ty : Option SyntaxForm) (b : BoundPart) (zs : List Lexeme) (i : ℕ) (k : List Symbol) (vs : Vals k) → IsTypePart ty → PlacedPart i ty → Stops s.Targs zs → Reads (s.Binders ∷ k) zs (past i (type_part ty)) (b, vs) → Reads (s.Binder ∷ k) (type_part ty ++ zs) i (record { names = []; of_type = ty; bound = b }, vs)
binder_type None b zs i k vs l p n h = extended s.Binder s.Binders [] (λ v vs. record { names = []; of_type = None; bound = v }) binder_own binder_extend zs i k b vs h
binder_type (Some f) b zs i k vs l p n h = rw (reads_type f zs (i + 1) (s.Binders ∷ k) (b, vs) l p n h) refl

pub binders_stop : (bs : List TypedBinder) (zs : List Lexeme) → Stops s.Targs zs → Stops s.Targs (binder_tail bs ++ zs)
binders_stop [] zs n = n
binders_stop (b ∷ bs) zs n = refl

-- a binder after its first name
pub binder_after : (n : Name) (ns : List Name) (ty : Option SyntaxForm) (b : BoundPart) (zs : List Lexeme) (i : ℕ) (k : List Symbol) (vs : Vals k) → IsTypePart ty → PlacedNames i (n ∷ ns) → PlacedPart (past (i + 1) (name_row ns)) ty → Stops s.Targs zs → Reads (s.Binders ∷ k) zs (past (past (i + 1) (name_row ns)) (type_part ty)) (b, vs) → Reads (s.Take t.Lident ∷ s.Binder ∷ k) (lx t.Lident n.text ∷ (name_row ns ++ (type_part ty ++ zs))) i (n, (record { names = ns; of_type = ty; bound = b }, vs))
binder_after n ns ty b zs i k vs l p q m h = rw (binder_names ns ty b (type_part ty ++ zs) (i + 1) k vs p.1 (binder_type ty b zs (past (i + 1) (name_row ns)) k vs l q m h)) (ap (λ v. Some (name v n.text, (record { names = ns; of_type = ty; bound = b }, vs))) (sym p.0))

pub reads_binders : (bs : List TypedBinder) (g : SyntaxTrigger) (e : SyntaxTree) (zs : List Lexeme) (i : ℕ) (k : List Symbol) (vs : Vals k) → AreBinders bs → PlacedBinders (i + 1) bs → Stops s.Targs zs → Reads (s.Binders ∷ k) zs (past i (binder_tail bs)) (record { others = []; trigger = g; body = e }, vs) → Reads (s.Binders ∷ k) (binder_tail bs ++ zs) i (record { others = bs; trigger = g; body = e }, vs)
reads_binders [] g e zs i k vs l p n h = h
reads_binders (binds [] ty ∷ bs) g e zs i k vs l p n h = elim l.0 [ ]
reads_binders (binds (m ∷ ns) ty ∷ bs) g e zs i k vs l p n h = rw (append_assoc (name_row ns ++ type_part ty) (binder_tail bs) zs, append_assoc (name_row ns) (type_part ty) (binder_tail bs ++ zs), binder_after m ns ty (record { others = bs; trigger = g; body = e }) (binder_tail bs ++ zs) (i + 1) k vs l.1 p.0.0 p.0.1 (binders_stop bs zs n) (reads_binders bs g e zs (past (past (i + 1 + 1) (name_row ns)) (type_part ty)) k vs l.2 (rw past-append at p.1) n (rw (append_assoc, past-append, past-append) at h))) refl
