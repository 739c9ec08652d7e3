-- What follows where type variables, constructors and algebraic types are read.
use Rattle.parser.proofs.parse_decls.Common.{◌≡◌, ℕ, ◌+◌, ◌<◌, ◌≤◌, ◌⊎◌, inl, inr, Bool, true, false, not, ◌&&◌, ◌||◌, if◌then◌else◌, nat_le, List, [], ◌∷◌, ◌++◌, length, Option, Some, None, option_map, refl, sym, ap, ◌∙◌, subst, arith, append_assoc, append-nil, get_or_past, Terminal, Symbol, same, Name, Lexeme, at, name, called, composed, lower, ParamGroup, Algebraic, Constructor, algebraic_decl, more_decls, type_decl, AlgPart, FieldsPart, TvarsPart, VarsPart, fields_of, is_algebraic, is_alias, new_algebraic, scope_of, typed_as, upper_type, with_constructor, fields_own, fields_rows, upper_own, rows, ReadingRow, Val, Vals, extend, row, then_row, blank, find, read, below_or, from_cons, from_end, Begun, CanRead, CanRun, begins_atype, nowhere, lexemes_from, terminal_at, token_at, again, expand, extended, follow, many, missed, only, pass, stands_by, start, take, unexpand, IsDecl, IsReadAlgebraic, IsCon, IsConstructor, IsConstructors, IsReadNames, AreTypeVariablesAt, alg_part, begins_constructor, con_part, constructor_at, fields_part, IsRead, next, IsReadBody, IsRecord, begins_algebraic, goes_on_with_field, record_part, record_field, next_field, record_next_own, with_fields, extended_due}
use Rattle.tokens_why.specs.declared.terminal.Terminal.TheVariants as t
use Rattle.grammar.specs.declared.symbols.Symbol.TheVariants as s
use Rattle.grammar.specs.Machine.{is_seal}
use Rattle.grammar.proofs.reading.Reading.{Stops, find_apart, find_extend, passed}
use Rattle.grammar.proofs.reading.Common.{no_false}
use Rattle.parser.proofs.parse_terms.RecordsRead.{off_field, on_field}
use Rattle.parser.proofs.parse_terms.Steps.{all_apart, none_by, none_of, none_where}

le_self : (n : ℕ) → nat_le n n ≡ true
le_self n = search (arith)

zero_le : (n : ℕ) → nat_le 0 n ≡ true
zero_le n = search (arith)

-- what can be read of the symbols that come next
pub run_of : {xs : List Lexeme} {n : ℕ} {from : List Symbol → List Symbol} {i : ℕ} (to K : List Symbol → List Symbol) {act : (k : List Symbol) → Vals (to (K k)) → Vals (from k)} {j : ℕ} → Begun xs n from i (λ k. to (K k)) act j → CanRun xs to j
run_of {xs} {n} {from} {i} to K {act} {j} g = let q = g.reads g.can.following g.can.values g.can.reads in record { within = g.within; following = K g.can.following; values = q.0; reads = q.1 }

passed_at : (xs : List Lexeme) (j : ℕ) (a : Symbol) (v : Val a) (k : List Symbol) (us : Vals k) → blank a ≡ Some v → is_seal a ≡ false → find (rows a) (terminal_at xs j) ≡ None → read (lexemes_from xs j) j false k ≡ Some us → read (lexemes_from xs j) j false (a ∷ k) ≡ Some (v, us)
passed_at xs j a v k us b l f h = passed a v k (lexemes_from xs j) j us b l (by_length (below_or j (length xs))) h
  where
    by_length : (j < length xs) ⊎ (length xs ≤ j) → Stops a (lexemes_from xs j)
    by_length (inl q) = subst (Stops a) (sym (from_cons xs j q)) f
    by_length (inr q) = subst (Stops a) (sym (from_end xs j q)) tt

-- What is read otherwise may be read as a rule that is empty, and then so.
pub unpass : {xs : List Lexeme} {n : ℕ} {from : List Symbol → List Symbol} {i : ℕ} (a : Symbol) (v : Val a) (K : List Symbol → List Symbol) (by : (k : List Symbol) → Vals (a ∷ K k) → Vals (from k)) {j : ℕ} → blank a ≡ Some v → is_seal a ≡ false → find (rows a) (terminal_at xs j) ≡ None → Begun xs n from i K (λ k us. by k (v, us)) j → Begun xs n from i (λ k. a ∷ K k) by j
unpass {xs} {n} {from} {i} a v K by {j} b l f g = record {
  ahead = g.ahead;
  within = g.within;
  can = g.can;
  reads = λ k vs e. (let q = g.reads k vs e in ((v, q.0), passed_at xs j a v (K k) q.0 b l f q.1, q.2));
}

-- type variables
pub named_more : (xs : List Lexeme) (i : ℕ) (ns : List Name) (j : ℕ) (n : Name) → same t.TyVar (terminal_at xs j) ≡ true → n ≡ name j (token_at xs j).text → AreTypeVariablesAt xs i ns j → AreTypeVariablesAt xs i (ns ++ n ∷ []) (j + 1)
named_more xs i [] j n e h p = (subst (λ q. same t.TyVar (terminal_at xs q) ≡ true) (sym p) e, subst (λ q. n ≡ name q (token_at xs q).text) (sym p) h, ap (λ q. q + 1) p)
named_more xs i (v ∷ ns) j n e h p = (p.0, p.1, named_more xs (i + 1) ns j n e h p.2)

-- A rule that reads a type variable and then itself reads them all.
module _ (a : Symbol) (f : Name → Val a → Val a) (is : find (rows a) t.TyVar ≡ Some (row a t.TyVar (a ∷ []) (λ i w vs. f (name i w) vs.0))) (e : ℕ) (one : nat_le e 1 ≡ true) where
  pub variables_read : {xs : List Lexeme} {n : ℕ} {from : List Symbol → List Symbol} {i : ℕ} {K : List Symbol → List Symbol} {act : (k : List Symbol) → Vals (a ∷ K k) → Vals (from k)} {j m : ℕ} (ns : List Name) → AreTypeVariablesAt xs j ns m → nat_le e n ≡ true → Begun xs n from i (λ k. a ∷ K k) act j → Begun xs e from i (λ k. a ∷ K k) (λ k us. act k (many f ns us.0, us.1)) m
  variables_read {xs} {n} {from} {i} {K} {act} {j} {m} [] p l g = subst (λ q. Begun xs e from i (λ k. a ∷ K k) (λ k us. act k (us.0, us.1)) q) p (again g e l (λ k us. refl))
  variables_read {xs} {n} {from} {i} {K} {act} {j} {m} (v ∷ ns) p l g = let q = expand g t.TyVar p.0 refl is in
      again (variables_read {xs = xs} {n = 1} {from = from} {i = i} {K = K} {act = λ k us. act k (f (name j (token_at xs j).text) us.0, us.1)} {j = j + 1} {m = m} ns p.2 one q) e (le_self e) (λ k us. ap (λ u. act k (f u (many f ns us.0), us.1)) (sym p.1))

abbrev pub tvars_on : Name → TvarsPart → TvarsPart
tvars_on n v = record { vars = n ∷ v.vars; equation = v.equation }

abbrev pub algvars_on : Name → AlgPart → AlgPart
algvars_on n v = record { vars = n ∷ v.vars; con = v.con }

abbrev pub elvars_on : Name → VarsPart → VarsPart
elvars_on n v = record { vars = n ∷ v.vars; type = v.type }

pub tvars_many : (ns : List Name) (v : TvarsPart) → many tvars_on ns v ≡ record { vars = ns ++ v.vars; equation = v.equation }
tvars_many [] v = refl
tvars_many (n ∷ ns) v = ap (tvars_on n) (tvars_many ns v)

pub algvars_many : (ns : List Name) (v : AlgPart) → many algvars_on ns v ≡ record { vars = ns ++ v.vars; con = v.con }
algvars_many [] v = refl
algvars_many (n ∷ ns) v = ap (algvars_on n) (algvars_many ns v)

pub elvars_many : (ns : List Name) (v : VarsPart) → many elvars_on ns v ≡ record { vars = ns ++ v.vars; type = v.type }
elvars_many [] v = refl
elvars_many (n ∷ ns) v = ap (elvars_on n) (elvars_many ns v)

-- the fields of a constructor
abbrev pub field_on : ParamGroup → FieldsPart → FieldsPart
field_on f v = fields_part (f ∷ v.fields) v.constructors v.others

pub field_many : (fs : List ParamGroup) (v : FieldsPart) → many field_on fs v ≡ fields_part (fs ++ v.fields) v.constructors v.others
field_many [] v = refl
field_many (f ∷ fs) v = ap (field_on f) (field_many fs v)

fields_apart : (x : Terminal) → begins_atype x ≡ true → find fields_own x ≡ None
fields_apart x h = none_where fields_own (λ y. not (begins_atype y)) (t.Bar ∷ t.WithWord ∷ []) x refl refl (ap not h)

fields_some : (x : Terminal) → begins_atype x ≡ true → find (rows s.Fields) x ≡ None → ⊥
fields_some t.TyVar h e = cc
fields_some t.Lident h e = cc
fields_some t.Uident h e = cc
fields_some t.LParen h e = cc
fields_some _ h e = no_false h

-- where no type, no bar and no `with` stands, nothing comes after fields
fields_none : (x : Terminal) → begins_atype x ≡ false → same t.Bar x ≡ false → same t.WithWord x ≡ false → find (rows s.Fields) x ≡ None
fields_none x h b w = none_of s.Fields (t.Bar ∷ t.WithWord ∷ t.TyVar ∷ t.Lident ∷ t.Uident ∷ t.LParen ∷ []) x refl (b, (w, all_apart begins_atype (t.TyVar ∷ t.Lident ∷ t.Uident ∷ t.LParen ∷ []) x refl h))

abbrev pub Fields : List Lexeme → ℕ → List ParamGroup → ℕ → Type 0
Fields xs i fs j = Begun xs 0 (λ k. s.Fields ∷ k) i (λ k. s.Fields ∷ k) (λ k us. (many field_on fs us.0, us.1)) j

-- Where no field is there are no more of them.
module _ {xs : List Lexeme} {n : ℕ} {from : List Symbol → List Symbol} {i : ℕ} {K : List Symbol → List Symbol} {act : (k : List Symbol) → Vals (s.Fields ∷ K k) → Vals (from k)} {j : ℕ} (g : Begun xs n from i (λ k. s.Fields ∷ K k) act j) (o : begins_atype (terminal_at xs j) ≡ false) where
  abbrev NoFields : Type 0
  NoFields = Begun xs 0 from i (λ k. s.Fields ∷ K k) (λ k us. act k (fields_part [] us.0.constructors us.0.others, us.1)) j

  abbrev OnlyOthers : Type 0
  OnlyOthers = Begun xs 0 from i (λ k. s.Algs ∷ K k) (λ k us. act k (fields_part [] [] us.0, us.1)) j

  after_all : (by : (k : List Symbol) → Vals (s.Fields ∷ K k) → Vals (from k)) → ((k : List Symbol) (us : Vals (K k)) → act k (fields_part [] [] [], us) ≡ by k (fields_part [] [] [], us)) → same t.Bar (terminal_at xs j) ≡ false → same t.WithWord (terminal_at xs j) ≡ false → Begun xs 0 from i (λ k. s.Fields ∷ K k) by j
  after_all by f b w = let e = fields_none (terminal_at xs j) o b w in let p = pass g refl refl e in
      unpass s.Fields (fields_part [] [] []) K by refl refl e (again p 0 (zero_le n) f)

  pub no_fields : NoFields
  no_fields = by_bar (same t.Bar (terminal_at xs j)) refl
    where
      by_with : (b : Bool) → same t.Bar (terminal_at xs j) ≡ false → same t.WithWord (terminal_at xs j) ≡ b → NoFields
      by_with true h w = let l = g.ahead in let p = expand g t.WithWord w refl refl in unexpand s.Fields K (λ k us. act k (fields_part [] us.0.constructors us.0.others, us.1)) j t.WithWord w refl refl (omega arith) p
      by_with false h w = after_all (λ k us. act k (fields_part [] us.0.constructors us.0.others, us.1)) (λ k us. refl) h w

      by_bar : (b : Bool) → same t.Bar (terminal_at xs j) ≡ b → NoFields
      by_bar true h = let l = g.ahead in let p = expand g t.Bar h refl refl in unexpand s.Fields K (λ k us. act k (fields_part [] us.0.constructors us.0.others, us.1)) j t.Bar h refl refl (omega arith) p
      by_bar false h = by_with (same t.WithWord (terminal_at xs j)) h refl

  -- and where no bar is either, only other types come
  pub only_others : same t.Bar (terminal_at xs j) ≡ false → OnlyOthers
  only_others h = by_with (same t.WithWord (terminal_at xs j)) refl
    where
      by_with : (b : Bool) → same t.WithWord (terminal_at xs j) ≡ b → OnlyOthers
      by_with true w = let l = g.ahead in let p = expand g t.WithWord w refl refl in unexpand s.Algs K (λ k us. act k (fields_part [] [] us.0, us.1)) j t.WithWord w refl refl (omega arith) p
      by_with false w = let p = pass g refl refl (fields_none (terminal_at xs j) o h w) in
          unpass s.Algs [] K (λ k us. act k (fields_part [] [] us.0, us.1)) refl refl (none_of s.Algs (t.WithWord ∷ []) (terminal_at xs j) refl (w, tt)) (again p 0 (zero_le n) (λ k us. refl))

module _ (xs : List Lexeme) (i : ℕ) (fs : List ParamGroup) (j : ℕ) (g : Fields xs i fs j) where
  pub field_item : begins_atype (terminal_at xs j) ≡ true → Begun xs 0 (λ k. s.Fields ∷ k) i (λ k. s.Param ∷ s.Fields ∷ k) (λ k us. (many field_on fs (field_on us.0 us.1.0), us.1.1)) j
  field_item e = extended g s.Param (s.Fields ∷ []) (λ v vs. field_on v vs.0) fields_own refl (stands_by begins_atype xs j refl e) (fields_apart (terminal_at xs j) e) (fields_some (terminal_at xs j) e)

pub constructor_done : (xs : List Lexeme) (i : ℕ) (n : Name) (fs : List ParamGroup) (j : ℕ) → n ≡ name i (token_at xs i).text → begins_atype (terminal_at xs j) ≡ false → Fields xs (i + 1) fs j → IsConstructor xs i (record { name = n; fields = fs }) j
constructor_done xs i n fs j e o g = record {
  fields = fs;
  spelled = ap called_so (sym e);
  ends = o;
  is = again (no_fields g o) 0 refl (λ k us. ap (λ v. (v, us.1)) (field_many fs (fields_part [] us.0.constructors us.0.others) ∙ ap (λ v. fields_part v us.0.constructors us.0.others) (append-nil fs)));
}
  where
    called_so : Name → Constructor
    called_so v = record { name = v; fields = fs }

-- constructors with bars between them
pub record Constructors (xs : List Lexeme) (i : ℕ) (cs : List Constructor) (j : ℕ) : Type 0 where
  pub fields : List ParamGroup
  pub others : List Constructor
  pub spelled : constructor_at xs i fields ∷ others ≡ cs
  pub ends : begins_atype (terminal_at xs j) ≡ false
  pub is : Begun xs 0 (λ k. s.Fields ∷ k) (i + 1) (λ k. s.Fields ∷ k) (λ k us. (fields_part fields (others ++ us.0.constructors) us.0.others, us.1)) j

pub constructors_start : (xs : List Lexeme) (i : ℕ) (c : Constructor) (j : ℕ) → IsConstructor xs i c j → Constructors xs i (c ∷ []) j
constructors_start xs i c j r = record { fields = r.fields; others = []; spelled = ap (λ v. v ∷ []) r.spelled; ends = r.ends; is = r.is }

module _ (xs : List Lexeme) (i : ℕ) (cs : List Constructor) (j : ℕ) (g : Constructors xs i cs j) where
  module _ (e : same t.Bar (terminal_at xs j) ≡ true) where
    pub bar_read : Begun xs 1 (λ k. s.Fields ∷ k) (i + 1) (λ k. s.Take t.Uident ∷ s.Fields ∷ k) (λ k us. (fields_part g.fields (g.others ++ (record { name = us.0; fields = us.1.0.fields } ∷ us.1.0.constructors)) us.1.0.others, us.1.1)) (j + 1)
    bar_read = expand g.is t.Bar e refl refl

    pub constructors_more : (c : Constructor) (m : ℕ) → IsConstructor xs (j + 1) c m → Constructors xs i (cs ++ c ∷ []) m
    constructors_more c m r = record {
      fields = g.fields;
      others = g.others ++ constructor_at xs (j + 1) r.fields ∷ [];
      spelled = ap (λ v. constructor_at xs i g.fields ∷ (g.others ++ v ∷ [])) r.spelled ∙ ap (λ vs. vs ++ c ∷ []) g.spelled;
      ends = r.ends;
      is = again (follow {K = λ k. k} r.is (take bar_read)) 0 refl (λ k us. ap (λ v. (fields_part g.fields v us.0.others, us.1)) (sym (append_assoc g.others (constructor_at xs (j + 1) r.fields ∷ []) us.0.constructors)));
    }

  pub constructors_done : same t.Bar (terminal_at xs j) ≡ false → IsConstructors xs i cs j
  constructors_done e = record {
    fields = g.fields;
    others = g.others;
    spelled = g.spelled;
    is = again (only_others g.is g.ends e) 0 refl (λ k us. ap (λ v. (fields_part g.fields v us.0, us.1)) (append-nil g.others));
  }

-- a field of a record
module _ {xs : List Lexeme} {i : ℕ} (c : CanRead xs s.RecordField i) where
  pub field_name : same t.Lident (terminal_at xs i) ≡ true
  field_name = only (start c) t.Lident [] refl refl tt

  pub field_type : Begun xs 1 (λ k. s.RecordField ∷ k) i (λ k. s.TypeOf ∷ k) (λ k us. (record_field (name i (token_at xs i).text) us.0, us.1)) (i + 1 + 1)
  field_type = let p = expand (start c) t.Lident field_name refl refl in again (take p) 1 refl (λ k us. refl)

-- fields of a record with semicolons between them
pub record RecordFields (xs : List Lexeme) (i : ℕ) (ps : List ParamGroup) (j : ℕ) : Type 0 where
  pub first : ParamGroup
  pub others : List ParamGroup
  pub spelled : first ∷ others ≡ ps
  pub is : Begun xs 1 (λ k. s.RecordField ∷ s.RecordRest ∷ k) i (λ k. s.RecordRest ∷ k) (λ k us. (first, (record_part (others ++ us.0.fields) us.0.semi us.0.others, us.1))) j

pub record_start : {xs : List Lexeme} {i : ℕ} → CanRun xs (λ k. s.RecordField ∷ s.RecordRest ∷ k) i → (p : ParamGroup) (j : ℕ) → IsRead xs s.RecordField i p j → RecordFields xs i (p ∷ []) j
record_start c p j r = record { first = p; others = []; spelled = refl; is = again (next (start c) r) 1 refl (λ k us. refl) }

module _ (xs : List Lexeme) (i : ℕ) (ps : List ParamGroup) (j : ℕ) (g : RecordFields xs i ps j) where
  semi_read : same t.Semi (terminal_at xs j) ≡ true → Begun xs 1 (λ k. s.RecordField ∷ s.RecordRest ∷ k) i (λ k. s.RecordNext ∷ k) (λ k us. (g.first, (record_part (g.others ++ us.0.fields) us.0.semi us.0.others, us.1))) (j + 1)
  semi_read e = expand g.is t.Semi e refl refl

  pub record_item : goes_on_with_field (terminal_at xs j) (terminal_at xs (j + 1)) ≡ true → Begun xs 1 (λ k. s.RecordField ∷ s.RecordRest ∷ k) i (λ k. s.RecordField ∷ s.RecordRest ∷ k) (λ k us. (g.first, (record_part (g.others ++ (us.0 ∷ us.1.0.fields)) us.1.0.semi us.1.0.others, us.1.1))) (j + 1)
  record_item h = let q = on_field (terminal_at xs j) (terminal_at xs (j + 1)) h in
      extended_due (semi_read q.0) s.RecordField (s.RecordRest ∷ []) (λ v vs. next_field v vs.0) record_next_own refl refl (none_by record_next_own (t.RBrace ∷ []) (terminal_at xs (j + 1)) refl (q.1, tt))

  pub record_more : goes_on_with_field (terminal_at xs j) (terminal_at xs (j + 1)) ≡ true → (p : ParamGroup) (m : ℕ) → IsRead xs s.RecordField (j + 1) p m → RecordFields xs i (ps ++ p ∷ []) m
  record_more h p m r = record {
    first = g.first;
    others = g.others ++ p ∷ [];
    spelled = ap (λ vs. vs ++ p ∷ []) g.spelled;
    is = again (next (record_item h) r) 1 refl (λ k us. ap (λ v. (g.first, (record_part v us.0.semi us.0.others, us.1))) (sym (append_assoc g.others (p ∷ []) us.0.fields)));
  }

  -- the other brace, after a semicolon or not
  pub record_closed : goes_on_with_field (terminal_at xs j) (terminal_at xs (j + 1)) ≡ false → (b : Bool) (m : ℕ) → b ≡ same t.Semi (terminal_at xs j) → m ≡ (if b then j + 1 else j) → IsRecord xs i ps b (m + 1)
  record_closed h true m e q = subst (λ v. IsRecord xs i ps true (v + 1)) (sym q) (record {
    first = g.first;
    others = g.others;
    spelled = g.spelled;
    is = again (expand (semi_read (sym e)) t.RBrace (off_field (terminal_at xs j) (terminal_at xs (j + 1)) (sym e) h) refl refl) 1 refl (λ k us. ap (λ v. (g.first, (record_part v true us.0, us.1))) (append-nil g.others));
  })
  record_closed h false m e q = subst (λ v. IsRecord xs i ps false (v + 1)) (sym q) (record {
    first = g.first;
    others = g.others;
    spelled = g.spelled;
    is = again (expand g.is t.RBrace (only g.is t.RBrace (t.Semi ∷ []) refl refl (sym e, tt)) refl refl) 1 refl (λ k us. ap (λ v. (g.first, (record_part v false us.0, us.1))) (append-nil g.others));
  })

-- constructors or a record after an equality sign
module _ {xs : List Lexeme} {i : ℕ} (c : CanRead xs s.Con i) where
  module _ (e : same t.Bar (terminal_at xs i) ≡ true) where
    pub barred : Begun xs 1 (λ k. s.Con ∷ k) i (λ k. s.Take t.Uident ∷ s.Fields ∷ k) (λ k us. (with_constructor true us.0 us.1.0, us.1.1)) (i + 1)
    barred = let p = expand (start c) t.Bar e refl refl in again p 1 refl (λ k us. refl)

    pub barred_read : (cs : List Constructor) (j : ℕ) → IsConstructors xs (i + 1) cs j → IsCon xs i true cs [] false j
    barred_read cs j r = again (follow {K = λ k. k} r.is (take barred)) 1 refl (λ k us. ap (λ v. (con_part true v [] false us.0, us.1)) r.spelled)

  module _ (n : same t.LBrace (terminal_at xs i) ≡ false) (e : same t.Bar (terminal_at xs i) ≡ false) where
    pub unbarred_name : same t.Uident (terminal_at xs i) ≡ true
    unbarred_name = only (start c) t.Uident (t.Bar ∷ t.LBrace ∷ []) refl refl (e, (n, tt))

    pub unbarred : Begun xs 1 (λ k. s.Con ∷ k) i (λ k. s.Fields ∷ k) (λ k us. (with_constructor false (name i (token_at xs i).text) us.0, us.1)) (i + 1)
    unbarred = let p = expand (start c) t.Uident unbarred_name refl refl in again p 1 refl (λ k us. refl)

    pub unbarred_read : (cs : List Constructor) (j : ℕ) → IsConstructors xs i cs j → IsCon xs i false cs [] false j
    unbarred_read cs j r = again (follow {K = λ k. k} r.is unbarred) 1 refl (λ k us. ap (λ v. (con_part false v [] false us.0, us.1)) r.spelled)

  module _ (e : same t.LBrace (terminal_at xs i) ≡ true) where
    pub braced : Begun xs 1 (λ k. s.Con ∷ k) i (λ k. s.RecordField ∷ s.RecordRest ∷ k) (λ k us. (with_fields us.0 us.1.0, us.1.1)) (i + 1)
    braced = let p = expand (start c) t.LBrace e refl refl in again p 1 refl (λ k us. refl)

    pub braced_read : (ps : List ParamGroup) (semi : Bool) (j : ℕ) → IsRecord xs (i + 1) ps semi j → IsCon xs i false [] ps semi j
    braced_read ps semi j r = again (follow {K = λ k. k} r.is braced) 1 refl (λ k us. ap (λ v. (con_part false [] v semi us.0, us.1)) r.spelled)

-- an algebraic type
module _ {xs : List Lexeme} {i : ℕ} (c : CanRun xs (λ k. s.Take t.Lident ∷ s.Algvars ∷ k) i) where
  module _ (ns : List Name) (j : ℕ) (h : IsReadNames xs (i + 1) ns j) where
    algebraic_vars : Begun xs 1 (λ k. s.Take t.Lident ∷ s.Algvars ∷ k) i (λ k. s.Algvars ∷ k) (λ k us. (name i (token_at xs i).text, (many algvars_on ns us.0, us.1))) j
    algebraic_vars = variables_read s.Algvars algvars_on refl 1 refl ns h.names refl (take (start c))

    pub algebraic_sign : same t.Equal (terminal_at xs j) ≡ true
    algebraic_sign = only algebraic_vars t.Equal (t.TyVar ∷ []) refl refl (h.ends, tt)

    pub algebraic_equal : Begun xs 1 (λ k. s.Take t.Lident ∷ s.Algvars ∷ k) i (λ k. s.Con ∷ k) (λ k us. (name i (token_at xs i).text, (alg_part ns us.0, us.1))) (j + 1)
    algebraic_equal = let p = expand algebraic_vars t.Equal algebraic_sign refl refl in
        again p 1 refl (λ k us. ap (λ v. (name i (token_at xs i).text, (v, us.1))) (algvars_many ns (alg_part [] us.0) ∙ ap (λ v. alg_part v us.0) (append-nil ns)))

    pub algebraic_done : (n : Name) (a : Algebraic) (m : ℕ) → n ≡ name i (token_at xs i).text → IsReadBody xs (j + 1) n ns a m → IsReadAlgebraic xs i a m
    algebraic_done n a m e r = again (follow {K = λ k. k} r.is algebraic_equal) 1 refl (λ k us. ap (λ v. (v, (alg_part ns (con_part a.bar a.constructors a.fields a.semi us.0), us.1))) (sym (r.name ∙ e)) ∙ ap (λ v. (a.name, (alg_part v (con_part a.bar a.constructors a.fields a.semi us.0), us.1))) (sym r.vars))

-- after an equality sign
found_within : (xs : List Lexeme) (j : ℕ) (r : ReadingRow s.Fields) → find (rows s.Fields) (terminal_at xs j) ≡ Some r → j < length xs
found_within xs j r f = by_length (below_or j (length xs))
  where
    by_length : (j < length xs) ⊎ (length xs ≤ j) → j < length xs
    by_length (inl h) = h
    by_length (inr h) = let o : None ≡ Some r = sym (ap (λ v. find (rows s.Fields) v.terminal) (get_or_past xs j nowhere h)) ∙ f in cc

module _ {xs : List Lexeme} {n : ℕ} {from : List Symbol → List Symbol} {i : ℕ} {K : List Symbol → List Symbol} {act : (k : List Symbol) → Vals (s.Typedef ∷ K k) → Vals (from k)} {j : ℕ} (g : Begun xs n from i (λ k. s.Typedef ∷ K k) act j) where
  ahead_of : i ≤ j
  ahead_of = let l = g.ahead in omega arith

  upper_found : same t.Uident (terminal_at xs j) ≡ true → Begun xs 1 from i (λ k. s.Upper ∷ K k) (λ k us. act k (upper_type j (token_at xs j).text us.0, us.1)) (j + 1)
  upper_found e = expand g t.Uident e refl refl

  upper_none : (x : Terminal) → same t.Dot x ≡ false → find (rows s.Fields) x ≡ None → find (rows s.Upper) x ≡ None
  upper_none x d e = find_apart upper_own (extend s.Upper s.Fields [] (λ v vs. fields_of v) fields_rows) x (missed (row s.Upper t.Dot (s.Qlid ∷ s.Targs ∷ []) (λ i w vs. scope_of vs.0 vs.1.0)) [] x d refl) ∙ find_extend s.Upper s.Fields [] (λ v vs. fields_of v) fields_rows x ∙ ap (option_map (then_row s.Upper s.Fields [] (λ v vs. fields_of v))) e

  upper_some : (x : Terminal) (r : ReadingRow s.Fields) → same t.Dot x ≡ false → find (rows s.Fields) x ≡ Some r → find (rows s.Upper) x ≡ None → ⊥
  upper_some x r d e f = let h = sym f ∙ find_apart upper_own (extend s.Upper s.Fields [] (λ v vs. fields_of v) fields_rows) x (missed (row s.Upper t.Dot (s.Qlid ∷ s.Targs ∷ []) (λ i w vs. scope_of vs.0 vs.1.0)) [] x d refl) ∙ find_extend s.Upper s.Fields [] (λ v vs. fields_of v) fields_rows x ∙ ap (option_map (then_row s.Upper s.Fields [] (λ v vs. fields_of v))) e in cc

  fields_found : same t.Uident (terminal_at xs j) ≡ true → same t.Dot (terminal_at xs (j + 1)) ≡ false → Begun xs 1 from i (λ k. s.Fields ∷ K k) (λ k us. act k (upper_type j (token_at xs j).text (fields_of us.0), us.1)) (j + 1)
  fields_found e d = by_found (find (rows s.Fields) (terminal_at xs (j + 1))) refl
    where
      by_found : (o : Option (ReadingRow s.Fields)) → find (rows s.Fields) (terminal_at xs (j + 1)) ≡ o → Begun xs 1 from i (λ k. s.Fields ∷ K k) (λ k us. act k (upper_type j (token_at xs j).text (fields_of us.0), us.1)) (j + 1)
      by_found (Some r) f = extended (upper_found e) s.Fields [] (λ v vs. fields_of v) upper_own refl (found_within xs (j + 1) r f) (missed (row s.Upper t.Dot (s.Qlid ∷ s.Targs ∷ []) (λ i w vs. scope_of vs.0 vs.1.0)) [] (terminal_at xs (j + 1)) d refl) (upper_some (terminal_at xs (j + 1)) r d f)
      by_found None f = unpass s.Fields (fields_part [] [] []) K (λ k us. act k (upper_type j (token_at xs j).text (fields_of us.0), us.1)) refl refl f (pass (upper_found e) refl refl (upper_none (terminal_at xs (j + 1)) d f))

  -- constructors or a record
  by_constructor : begins_constructor (terminal_at xs j) (terminal_at xs (j + 1)) ≡ true → Begun xs 0 from i (λ k. s.Con ∷ K k) (λ k us. act k (is_algebraic us.0, us.1)) j
  by_constructor e = by_bar (same t.Bar (terminal_at xs j)) refl
    where
      by_dot : (b d : Bool) → same t.Bar (terminal_at xs j) ≡ false → same t.Uident (terminal_at xs j) ≡ b → same t.Dot (terminal_at xs (j + 1)) ≡ d → (b && not d) ≡ true → Begun xs 0 from i (λ k. s.Con ∷ K k) (λ k us. act k (is_algebraic us.0, us.1)) j
      by_dot true false h u d q = unexpand s.Con K (λ k us. act k (is_algebraic us.0, us.1)) j t.Uident u refl refl ahead_of (fields_found u d)
      by_dot true true h u d q = cc
      by_dot false d h u e q = cc

      rest_of : same t.Bar (terminal_at xs j) ≡ false → (same t.Uident (terminal_at xs j) && not (same t.Dot (terminal_at xs (j + 1)))) ≡ true
      rest_of h = subst (λ b. (b || (same t.Uident (terminal_at xs j) && not (same t.Dot (terminal_at xs (j + 1))))) ≡ true) h e

      by_bar : (b : Bool) → same t.Bar (terminal_at xs j) ≡ b → Begun xs 0 from i (λ k. s.Con ∷ K k) (λ k us. act k (is_algebraic us.0, us.1)) j
      by_bar true h = let p = expand g t.Bar h refl refl in unexpand s.Con K (λ k us. act k (is_algebraic us.0, us.1)) j t.Bar h refl refl ahead_of p
      by_bar false h = by_dot (same t.Uident (terminal_at xs j)) (same t.Dot (terminal_at xs (j + 1))) h refl refl (rest_of h)

  pub typedef_con : begins_algebraic (terminal_at xs j) (terminal_at xs (j + 1)) ≡ true → Begun xs 0 from i (λ k. s.Con ∷ K k) (λ k us. act k (is_algebraic us.0, us.1)) j
  typedef_con e = by_brace (same t.LBrace (terminal_at xs j)) refl
    where
      by_brace : (b : Bool) → same t.LBrace (terminal_at xs j) ≡ b → Begun xs 0 from i (λ k. s.Con ∷ K k) (λ k us. act k (is_algebraic us.0, us.1)) j
      by_brace true h = let p = expand g t.LBrace h refl refl in unexpand s.Con K (λ k us. act k (is_algebraic us.0, us.1)) j t.LBrace h refl refl ahead_of p
      by_brace false h = by_constructor (subst (λ b. (b || begins_constructor (terminal_at xs j) (terminal_at xs (j + 1))) ≡ true) h e)

  abbrev Alias : Type 0
  Alias = Begun xs 0 from i (λ k. s.TypeOf ∷ K k) (λ k us. act k (is_alias us.0, us.1)) j

  -- a type
  by_alias : same t.LBrace (terminal_at xs j) ≡ false → begins_constructor (terminal_at xs j) (terminal_at xs (j + 1)) ≡ false → Alias
  by_alias z e = by_bar (same t.Bar (terminal_at xs j)) refl
    where
      by_upper : (b d : Bool) → same t.Uident (terminal_at xs j) ≡ b → same t.Dot (terminal_at xs (j + 1)) ≡ d → (b && not d) ≡ false → same t.Bar (terminal_at xs j) ≡ false → same t.TyVar (terminal_at xs j) ≡ false → same t.LParen (terminal_at xs j) ≡ false → Alias
      by_upper true true u d q h v l = let p = expand (upper_found u) t.Dot d refl refl in
          let z = unexpand (s.Take t.Dot) (λ k. s.Qlid ∷ s.Targs ∷ K k) (λ k us. act k (is_alias (composed (at j) (called j ((token_at xs j).text ∷ us.1.0.scopes) (lower us.1.0.last)) us.1.1.0), us.1.1.1)) (j + 1) t.Dot d refl refl (after_of ahead_of) p in
          unexpand s.TypeOf K (λ k us. act k (is_alias us.0, us.1)) j t.Uident u refl refl ahead_of z
        where
          after_of : i ≤ j → i ≤ j + 1
          after_of a = omega arith
      by_upper true false u d q h v l = cc
      by_upper false d u f q h v l = let w = only g t.Lident (t.LBrace ∷ t.Bar ∷ t.TyVar ∷ t.LParen ∷ t.Uident ∷ []) refl refl (z, (h, (v, (l, (u, tt))))) in let p = expand g t.Lident w refl refl in unexpand s.TypeOf K (λ k us. act k (is_alias us.0, us.1)) j t.Lident w refl refl ahead_of p

      by_paren : (b : Bool) → same t.LParen (terminal_at xs j) ≡ b → same t.Bar (terminal_at xs j) ≡ false → same t.TyVar (terminal_at xs j) ≡ false → Alias
      by_paren true l h v = let p = expand g t.LParen l refl refl in unexpand s.TypeOf K (λ k us. act k (is_alias us.0, us.1)) j t.LParen l refl refl ahead_of p
      by_paren false l h v = by_upper (same t.Uident (terminal_at xs j)) (same t.Dot (terminal_at xs (j + 1))) refl refl (subst (λ b. (b || (same t.Uident (terminal_at xs j) && not (same t.Dot (terminal_at xs (j + 1))))) ≡ false) h e) h v l

      by_variable : (b : Bool) → same t.TyVar (terminal_at xs j) ≡ b → same t.Bar (terminal_at xs j) ≡ false → Alias
      by_variable true v h = let p = expand g t.TyVar v refl refl in unexpand s.TypeOf K (λ k us. act k (is_alias us.0, us.1)) j t.TyVar v refl refl ahead_of p
      by_variable false v h = by_paren (same t.LParen (terminal_at xs j)) refl h v

      by_bar : (b : Bool) → same t.Bar (terminal_at xs j) ≡ b → Alias
      by_bar true h = let f : true ≡ false = sym (ap (λ b. b || (same t.Uident (terminal_at xs j) && not (same t.Dot (terminal_at xs (j + 1))))) h) ∙ e in cc
      by_bar false h = by_variable (same t.TyVar (terminal_at xs j)) refl h

  pub typedef_alias : begins_algebraic (terminal_at xs j) (terminal_at xs (j + 1)) ≡ false → Alias
  typedef_alias e = by_brace (same t.LBrace (terminal_at xs j)) refl
    where
      by_brace : (b : Bool) → same t.LBrace (terminal_at xs j) ≡ b → Alias
      by_brace true h = let f : true ≡ false = sym (ap (λ b. b || begins_constructor (terminal_at xs j) (terminal_at xs (j + 1))) h) ∙ e in cc
      by_brace false h = by_alias h (subst (λ b. (b || begins_constructor (terminal_at xs j) (terminal_at xs (j + 1))) ≡ false) h e)

-- a declaration of a type
abbrev pub Typed : List Lexeme → ℕ → List Name → ℕ → Type 0
Typed xs i ns j = Begun xs 1 (λ k. s.Decls ∷ k) i (λ k. s.Tvars ∷ s.Decls ∷ k) (λ k us. (more_decls (typed_as (at i) (name (i + 1) (token_at xs (i + 1)).text) (ns ++ us.0.vars) us.0.equation) us.1.0, us.1.1)) j

module _ {xs : List Lexeme} {i : ℕ} (c : CanRead xs s.Decls i) (e : same t.TypeWord (terminal_at xs i) ≡ true) where
  pub type_start : Begun xs 1 (λ k. s.Decls ∷ k) i (λ k. s.Take t.Lident ∷ s.Tvars ∷ s.Decls ∷ k) (λ k us. (more_decls (typed_as (at i) us.0 us.1.0.vars us.1.0.equation) us.1.1.0, us.1.1.1)) (i + 1)
  type_start = expand (start c) t.TypeWord e refl refl

  pub type_name : same t.Lident (terminal_at xs (i + 1)) ≡ true
  type_name = only type_start t.Lident [] refl refl tt

  pub typed : (ns : List Name) (j : ℕ) → IsReadNames xs (i + 1 + 1) ns j → Typed xs i ns j
  typed ns j h = again (variables_read s.Tvars tvars_on refl 1 refl ns h.names refl (take type_start)) 1 refl (λ k us. ap (λ v. (more_decls (typed_as (at i) (name (i + 1) (token_at xs (i + 1)).text) v.vars v.equation) us.1.0, us.1.1)) (tvars_many ns us.0))

module _ (xs : List Lexeme) (i : ℕ) (n : Name) (ns : List Name) (j : ℕ) (g : Typed xs i ns j) (named : n ≡ name (i + 1) (token_at xs (i + 1)).text) where
  module _ (e : same t.Equal (terminal_at xs j) ≡ true) where
    equation : Begun xs 1 (λ k. s.Decls ∷ k) i (λ k. s.Typedef ∷ s.Decls ∷ k) (λ k us. (more_decls (typed_as (at i) n ns (Some us.0)) us.1.0, us.1.1)) (j + 1)
    equation = again (expand g t.Equal e refl refl) 1 refl (λ k us. ap (λ u. (more_decls (typed_as (at i) (name (i + 1) (token_at xs (i + 1)).text) u (Some us.0)) us.1.0, us.1.1)) (append-nil ns) ∙ ap (λ u. (more_decls (typed_as (at i) u ns (Some us.0)) us.1.0, us.1.1)) (sym named))

    pub alias_start : begins_algebraic (terminal_at xs (j + 1)) (terminal_at xs (j + 1 + 1)) ≡ false → Begun xs 0 (λ k. s.Decls ∷ k) i (λ k. s.TypeOf ∷ s.Decls ∷ k) (λ k us. (more_decls (type_decl (at i) n ns (Some us.0)) us.1.0, us.1.1)) (j + 1)
    alias_start b = typedef_alias equation b

    pub con_start : begins_algebraic (terminal_at xs (j + 1)) (terminal_at xs (j + 1 + 1)) ≡ true → Begun xs 0 (λ k. s.Decls ∷ k) i (λ k. s.Con ∷ s.Decls ∷ k) (λ k us. (more_decls (algebraic_decl (at i) (new_algebraic n ns us.0 ∷ us.0.others)) us.1.0, us.1.1)) (j + 1)
    con_start b = typedef_con equation b

-- algebraic types with `with` between them
abbrev pub Algebraics : List Lexeme → ℕ → List Algebraic → ℕ → Type 0
Algebraics xs i as_ j = Begun xs 1 (λ k. s.Decls ∷ k) i (λ k. s.Algs ∷ s.Decls ∷ k) (λ k us. (more_decls (algebraic_decl (at i) (as_ ++ us.0)) us.1.0, us.1.1)) j

pub algebraics_start : (xs : List Lexeme) (i : ℕ) (n : Name) (ns : List Name) (j : ℕ) → Typed xs i ns j → n ≡ name (i + 1) (token_at xs (i + 1)).text → same t.Equal (terminal_at xs j) ≡ true → begins_algebraic (terminal_at xs (j + 1)) (terminal_at xs (j + 1 + 1)) ≡ true → (a : Algebraic) (m : ℕ) → IsReadBody xs (j + 1) n ns a m → Algebraics xs i (a ∷ []) m
algebraics_start xs i n ns j g named e o a m r = again (follow {K = λ k. s.Decls ∷ k} r.is (con_start xs i n ns j g named e o)) 1 refl (λ k us. ap (λ v. (more_decls (algebraic_decl (at i) (so v ns ∷ us.0)) us.1.0, us.1.1)) (sym r.name) ∙ ap (λ v. (more_decls (algebraic_decl (at i) (so a.name v ∷ us.0)) us.1.0, us.1.1)) (sym r.vars))
  where
    so : Name → List Name → Algebraic
    so v vs = record { name = v; vars = vs; bar = a.bar; constructors = a.constructors; fields = a.fields; semi = a.semi }

module _ (xs : List Lexeme) (i : ℕ) (as_ : List Algebraic) (j : ℕ) (g : Algebraics xs i as_ j) where
  pub with_read : same t.WithWord (terminal_at xs j) ≡ true → Begun xs 1 (λ k. s.Decls ∷ k) i (λ k. s.Take t.Lident ∷ s.Algvars ∷ s.Decls ∷ k) (λ k us. (more_decls (algebraic_decl (at i) (as_ ++ (new_algebraic us.0 us.1.0.vars us.1.0.con ∷ us.1.0.con.others))) us.1.1.0, us.1.1.1)) (j + 1)
  with_read e = expand g t.WithWord e refl refl

  pub algebraics_more : (a : Algebraic) (m : ℕ) → same t.WithWord (terminal_at xs j) ≡ true → IsReadAlgebraic xs (j + 1) a m → Algebraics xs i (as_ ++ a ∷ []) m
  algebraics_more a m e r = again (follow {K = λ k. s.Decls ∷ k} r (with_read e)) 1 refl (λ k us. ap (λ v. (more_decls (algebraic_decl (at i) v) us.1.0, us.1.1)) (sym (append_assoc as_ (a ∷ []) us.0)))

  pub algebraics_done : same t.WithWord (terminal_at xs j) ≡ false → IsDecl xs i (algebraic_decl (at i) as_) j
  algebraics_done w = again (pass g refl refl (none_of s.Algs (t.WithWord ∷ []) (terminal_at xs j) refl (w, tt))) 1 refl (λ k us. ap (λ v. (more_decls (algebraic_decl (at i) v) us.0, us.1)) (append-nil as_))
