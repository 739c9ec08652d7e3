-- What a declaration makes is made once, after what was there, and has the theory in which it is there.
use Rattle.std.proofs.Common.{◌≡◌, ◌⊎◌, inl, inr, ℕ, ◌+◌, ◌-◌, ◌<◌, ◌≤◌, suc, false, List, [], ◌∷◌, ◌++◌, map, length, get_or, All, Option, Some, None, refl, sym, ap, subst, ◌∙◌, arith, length-append, append_assoc, append-nil}
use Rattle.std.specs.List.{Contains}
use Rattle.std.proofs.Math.ListN.{length-map}
use Rattle.std.proofs.lemmas.List.{get_or-append_right}
use Rattle.std.proofs.lemmas.List.Elements.{All-nil, All-cons, All-append, All-contains, All-get_or, Contains-append_cases, recursion_from_All}
use Rattle.elab_groups.specs.trees.Tree.{Tree}
use Rattle.elab_groups.specs.tasks.Task.{SymbolTree, symbol_or, int_symbol, DefinitionTree, InductiveTree, DeclarationTree, made, made_by, made_by_cons, made_by_types}
use Rattle.elab_groups.proofs.tasks.Declared.{none_in, contains_cases}
use Rattle.elab_groups.specs.name_resolution.Abstract.{Expression, TypeExpression}
use Rattle.elab_groups.specs.name_resolution.Records.{is_projection}
use Rattle.elab_groups.specs.surface.Lexeme.{Word}
use Rattle.elaboration_laws.proofs.MadeRecords.{AreNext, ConsNumbered, TypesNumbered, ArePlain, IsNumbered}
use Rattle.elab_groups.specs.name_resolution.Where.{Where}
use Rattle.elab_declarations.specs.elab_groups.members.Members.{parameter_types}
use Rattle.elab_declarations.proofs.elab_groups.members.MembersScoped.{types_count}
use Rattle.elab_groups.specs.parts.Entries.{type_entry}
use Rattle.elab_groups.specs.parts.Declarations.{TokenName, AlgebraicConstructor, GroupMember, AlgebraicType, InductivePredicate, Declaration, abstract_type, alias, algebraic, member_group, inductive, proposition_declaration, words, with_vars}
use Rattle.elab_groups.specs.parts.Outcomes.{Setting, Outcome, over, full_name, tuples_wanting}
use Rattle.elab_groups.specs.parts.Elaborated.{unseen}
use Rattle.elab_declarations.specs.elab_groups.members.Members.{SignatureTree, signed_entries, signature_trees, symbol_kind_of}
use Rattle.elab_declarations.specs.elab_groups.Groups.{definitions, group_body, group_tuples, before_group, group_signatures, IsGroup}
use Rattle.elab_declarations.specs.inductive_declarations.Inductives.{as_member, as_members, inductives_seen, before_inductives, induced, IsInductiveGroup}
use Rattle.elab_declarations.specs.type_declarations.Algebraics.{count_fields, entry_count, group_seen, first_type, first_constructor, numbering_from, type_entries, constructor_trees, algebraic_trees, group_trees, group_entries, group_outcome}
use Rattle.elab_declarations.specs.type_declarations.Algebraics as group
use Rattle.elab_declarations.specs.Outcomes.{type_outcome, IsOutcome}
use Rattle.elaboration_laws.proofs.Standing.{count_signed}
use Rattle.elaboration_laws.proofs.Made.{AreBetween, wider, one_between, no_numbers, signed_length, defined_between, induced_between}
use Rattle.elaboration_laws.proofs.MadeTypes.{numbers_between, cons_between, group_between, group_length, count_types}
use Rattle.elaboration_laws.proofs.Distinct.{IsDistinct, distinct_both}
use Rattle.elaboration_laws.proofs.TaskOutcomes.{OfTheory, signed_of, types_of, group_of}

-- ---- numbers that follow one another
between_at : (n m : ℕ) (ks : List ℕ) (k : ℕ) → AreBetween n m ks → Contains ks k → (n ≤ k) × (k < m)
between_at n m ks k h c = All-contains (λ (i : ℕ). (n ≤ i) × (i < m)) ks k h c

pub distinct_step : (k m : ℕ) (ks : List ℕ) → AreBetween (suc k) m ks → IsDistinct ks → IsDistinct (k ∷ ks)
distinct_step k m ks h d = ((λ c. let x = between_at (suc k) m ks k h c in omega (arith, x.0)), d)

defined_distinct : (k : ℕ) (gs : List SignatureTree) (bs : List Tree) → IsDistinct (map (λ (d : DefinitionTree). d.symbol) (definitions k gs bs))
defined_distinct k [] bs = tt
defined_distinct k (g ∷ gs) [] = tt
defined_distinct k (g ∷ gs) (b ∷ bs) = distinct_step k (suc k + length gs) (map (λ (d : DefinitionTree). d.symbol) (definitions (suc k) gs bs)) (defined_between (suc k) (suc k + length gs) gs bs (omega arith)) (defined_distinct (suc k) gs bs)

induced_distinct : (k : ℕ) (is : List InductivePredicate) (bs : List Tree) → IsDistinct (map (λ (i : InductiveTree). i.symbol) (induced k is bs))
induced_distinct k [] bs = tt
induced_distinct k (d ∷ is) bs = distinct_step k (suc k + length is) (map (λ (i : InductiveTree). i.symbol) (induced (suc k) is _)) (induced_between (suc k) (suc k + length is) is _ (omega arith)) (induced_distinct (suc k) is _)

-- ---- algebraic types
numbers_distinct : (n : ℕ) (ts : List Tree) → IsDistinct (numbering_from n ts)
numbers_distinct n [] = tt
numbers_distinct n (t ∷ ts) =
    let next : n + 1 ≡ suc n = omega arith in
    distinct_step n (n + 1 + length ts) (numbering_from (n + 1) ts) (subst (λ (i : ℕ). AreBetween i (n + 1 + length ts) (numbering_from (n + 1) ts)) next (numbers_between (n + 1) (n + 1 + length ts) ts (omega arith))) (numbers_distinct (n + 1) ts)

cons_distinct : (w : Where) (n : ℕ) (ks : List AlgebraicConstructor) → IsDistinct (made_by_cons (constructor_trees w n ks))
cons_distinct w n [] = tt
cons_distinct w n (k ∷ ks) =
    let fs = parameter_types w k.fields in
    let c = count_fields k.fields + 1 in
    let q = types_count w k.fields in
    let own = numbering_from (n + 1) fs in
    let rest = made_by_cons (constructor_trees w (n + c) ks) in
    let next : n + 1 ≡ suc n = omega arith in
    let inner : AreBetween (n + 1) (n + c) own = numbers_between (n + 1) (n + c) fs (omega (arith, q)) in
    let first : AreBetween n (n + c) (n ∷ own) = one_between n n (n + c) own (omega arith) (omega arith) (wider (n + 1) n (n + c) (n + c) own (omega arith) (omega arith) inner) in
    let later : AreBetween (n + c) (n + c + entry_count ks) rest = cons_between w (n + c) (n + c + entry_count ks) ks (omega arith) in
    distinct_both (n ∷ own) rest (distinct_step n (n + c) own (subst (λ (i : ℕ). AreBetween i (n + c) own) next inner) (numbers_distinct (n + 1) fs)) (cons_distinct w (n + c) ks)
    (λ j a b. let x = between_at n (n + c) (n ∷ own) j first a in let y = between_at (n + c) (n + c + entry_count ks) rest j later b in omega (arith, x.1, y.0))

-- a type, or a symbol of one
in_group : (w : Where) (i n : ℕ) (ts : List AlgebraicType) (k : ℕ) → Contains (made_by_types (algebraic_trees w i n ts)) k → ((i ≤ k) × (k < i + length ts)) ⊎ (n ≤ k)
in_group w i n [] k h = absurd (none_in k h)
in_group w i n (a ∷ ts) k h =
    let wa = with_vars w (words a.vars) in
    let c = entry_count a.constructors in
    let own = made_by_cons (constructor_trees wa n a.constructors) in
    let rest = made_by_types (algebraic_trees w (i + 1) (n + c) ts) in
    of own rest c (Contains-append_cases (i ∷ own) rest k h) (λ z. between_at n (n + c) own k (cons_between wa n (n + c) a.constructors (omega arith)) z) (λ z. in_group w (i + 1) (n + c) ts k z)
  where
    of : (own rest : List ℕ) (c : ℕ) → Contains (i ∷ own) k ⊎ Contains rest k → (Contains own k → (n ≤ k) × (k < n + c)) → (Contains rest k → ((i + 1 ≤ k) × (k < i + 1 + length ts)) ⊎ (n + c ≤ k)) → ((i ≤ k) × (k < i + suc (length ts))) ⊎ (n ≤ k)
    of own rest c (inl x) f g = one (contains_cases i k own x) (λ z. (f z).0)
      where
        one : (k ≡ i) ⊎ Contains own k → (Contains own k → n ≤ k) → ((i ≤ k) × (k < i + suc (length ts))) ⊎ (n ≤ k)
        one (inl q) f = inl (omega (arith, q), omega (arith, q))
        one (inr z) f = inr (f z)
    of own rest c (inr x) f g = two (g x)
      where
        two : ((i + 1 ≤ k) × (k < i + 1 + length ts)) ⊎ (n + c ≤ k) → ((i ≤ k) × (k < i + suc (length ts))) ⊎ (n ≤ k)
        two (inl y) = inl (let a = y.0 in omega (arith, a), let b = y.1 in omega (arith, b))
        two (inr y) = inr (omega (arith, y))

group_distinct : (w : Where) (i n : ℕ) (ts : List AlgebraicType) → i + length ts ≤ n → IsDistinct (made_by_types (algebraic_trees w i n ts))
group_distinct w i n [] l = tt
group_distinct w i n (a ∷ ts) l =
    let wa = with_vars w (words a.vars) in
    let c = entry_count a.constructors in
    let own = made_by_cons (constructor_trees wa n a.constructors) in
    let rest = made_by_types (algebraic_trees w (i + 1) (n + c) ts) in
    let inner : AreBetween n (n + c) own = cons_between wa n (n + c) a.constructors (omega arith) in
    distinct_both (i ∷ own) rest (distinct_step i (n + c) own (wider n (suc i) (n + c) (n + c) own (omega (arith, l)) (omega arith) inner) (cons_distinct wa n a.constructors)) (group_distinct w (i + 1) (n + c) ts (omega (arith, l)))
    (λ k x y. apart own c k (contains_cases i k own x) (λ z. between_at n (n + c) own k inner z) (in_group w (i + 1) (n + c) ts k y))
  where
    apart : (own : List ℕ) (c k : ℕ) → (k ≡ i) ⊎ Contains own k → (Contains own k → (n ≤ k) × (k < n + c)) → ((i + 1 ≤ k) × (k < i + 1 + length ts)) ⊎ (n + c ≤ k) → ⊥
    apart own c k (inl q) f (inl y) = let a = y.0 in omega (arith, q, a)
    apart own c k (inl q) f (inr y) = omega (arith, q, y, l)
    apart own c k (inr z) f (inl y) = let a = (f z).0 in let b = y.1 in omega (arith, a, b, l)
    apart own c k (inr z) f (inr y) = let a = (f z).1 in omega (arith, a, y)

-- the projections of each constructor come right after it
numbers_next : (n : ℕ) (ts : List Tree) → AreNext n (numbering_from (n + 1) ts)
numbers_next n [] = tt
numbers_next n (t ∷ ts) = (refl, numbers_next (n + 1) ts)

cons_numbered : (w : Where) (n : ℕ) (ks : List AlgebraicConstructor) → ConsNumbered (constructor_trees w n ks)
cons_numbered w n [] = tt
cons_numbered w n (k ∷ ks) = (numbers_next n (parameter_types w k.fields), cons_numbered w (n + (count_fields k.fields + 1)) ks)

group_numbered : (w : Where) (i n : ℕ) (ts : List AlgebraicType) → TypesNumbered (algebraic_trees w i n ts)
group_numbered w i n [] = tt
group_numbered w i n (a ∷ ts) = (cons_numbered (with_vars w (words a.vars)) n a.constructors, group_numbered w (i + 1) (n + entry_count a.constructors) ts)

-- functions and predicates are no projections
signed_kinds : (theory within : Word) (ms : List GroupMember) (gs : List SignatureTree) → All (λ (e : SymbolTree). is_projection e.kind ≡ false) (signed_entries theory within ms gs)
signed_kinds theory within [] gs = All-nil (λ (e : SymbolTree). is_projection e.kind ≡ false)
signed_kinds theory within (m ∷ ms) [] = All-nil (λ (e : SymbolTree). is_projection e.kind ≡ false)
signed_kinds theory within (m ∷ ms) (g ∷ gs) = All-cons (λ (e : SymbolTree). is_projection e.kind ≡ false) _ (signed_entries theory within ms gs) (of m.result) (signed_kinds theory within ms gs)
  where
    of : (t : Option TypeExpression) → is_projection (symbol_kind_of t) ≡ false
    of None = refl
    of (Some f) = refl

body_numbered : (symbols : List SymbolTree) (k : ℕ) (gs : List SignatureTree) (bs : List Tree) (b : Option Expression) → ArePlain symbols (made_by (group_body b k gs bs)) → IsNumbered symbols (group_body b k gs bs)
body_numbered symbols k gs bs None h = h
body_numbered symbols k gs bs (Some e) h = h

-- ---- outcomes
-- declarations of the theory
abbrev IsThere : Setting → List DeclarationTree → Type 0
IsThere c ds = All (λ (d : DeclarationTree). d.theory ≡ c.theory) ds

there_none : (c : Setting) (ds : List DeclarationTree) → ds ≡ [] → IsThere c ds
there_none c ds q = subst (IsThere c) (sym q) (All-nil (λ (d : DeclarationTree). d.theory ≡ c.theory))

there_one : (c : Setting) (ds : List DeclarationTree) (d : DeclarationTree) → ds ≡ d ∷ [] → d.theory ≡ c.theory → IsThere c ds
there_one c ds d q t = subst (IsThere c) (sym q) (All-cons (λ (e : DeclarationTree). e.theory ≡ c.theory) d [] t (All-nil (λ (e : DeclarationTree). e.theory ≡ c.theory)))

abbrev AreNumberedOnes : Setting → Outcome → Type 0
AreNumberedOnes c o = All (λ (d : DeclarationTree). IsNumbered (c.symbols ++ o.symbols) d.body) o.decls

numbered_none : (c : Setting) (o : Outcome) → o.decls ≡ [] → AreNumberedOnes c o
numbered_none c o q = subst (All (λ (d : DeclarationTree). IsNumbered (c.symbols ++ o.symbols) d.body)) (sym q) (All-nil (λ (d : DeclarationTree). IsNumbered (c.symbols ++ o.symbols) d.body))

numbered_one : (c : Setting) (o : Outcome) (d : DeclarationTree) → o.decls ≡ d ∷ [] → IsNumbered (c.symbols ++ o.symbols) d.body → AreNumberedOnes c o
numbered_one c o d q n =
    subst (All (λ (d : DeclarationTree). IsNumbered (c.symbols ++ o.symbols) d.body)) (sym q)
    (All-cons (λ (d : DeclarationTree). IsNumbered (c.symbols ++ o.symbols) d.body) d [] n (All-nil (λ (d : DeclarationTree). IsNumbered (c.symbols ++ o.symbols) d.body)))

pub record IsOnce (c : Setting) (o : Outcome) : Type 0 where
  pub distinct : IsDistinct (made o.decls)
  pub later : (k : ℕ) → Contains (made o.decls) k → length c.symbols ≤ k
  pub theory : (k : ℕ) → Contains (made o.decls) k → (symbol_or (c.symbols ++ o.symbols) k).theory ≡ c.theory
  pub of : All (λ (d : DeclarationTree). d.theory ≡ c.theory) o.decls
  pub numbered : All (λ (d : DeclarationTree). IsNumbered (c.symbols ++ o.symbols) d.body) o.decls

none_once : (c : Setting) (o : Outcome) → made o.decls ≡ [] → IsThere c o.decls → AreNumberedOnes c o → IsOnce c o
none_once c o q t n = record {
  numbered = n;
  of = t;
  distinct = rw q tt;
  later = λ k h. absurd (none_in k (subst (λ (ks : List ℕ). Contains ks k) q h));
  theory = λ k h. absurd (none_in k (subst (λ (ks : List ℕ). Contains ks k) q h));
}

module _ (c : Setting) (o : Outcome) (tuples own : List SymbolTree) (symbols : o.symbols ≡ tuples ++ own) (of : All (OfTheory c.theory) own) (n : ℕ) (at : n ≡ length c.symbols + length tuples) (ks : List ℕ) (are : made o.decls ≡ ks) (there : IsThere c o.decls) where
  -- what is made, by its entry
  entry_at : (k : ℕ) → n ≤ k → symbol_or (c.symbols ++ o.symbols) k ≡ get_or own (k - n) int_symbol
  entry_at k l =
      let front : length (c.symbols ++ tuples) ≡ n = length-append c.symbols tuples ∙ sym at in
      let same : (c.symbols ++ tuples) ++ own ≡ c.symbols ++ o.symbols = append_assoc c.symbols tuples own ∙ ap (λ (es : List SymbolTree). c.symbols ++ es) (sym symbols) in
      sym (ap (λ (es : List SymbolTree). symbol_or es k) same) ∙ get_or-append_right (c.symbols ++ tuples) own n k int_symbol front l

  made_plain : All (λ (e : SymbolTree). is_projection e.kind ≡ false) own → AreBetween n (n + length own) ks → ArePlain (c.symbols ++ o.symbols) ks
  made_plain p b = recursion_from_All (λ (k : ℕ). is_projection (symbol_or (c.symbols ++ o.symbols) k).kind ≡ false) ks (λ i d l.
      let k = get_or ks i d in
      let x = b i d l in
      let low = x.0 in
      let high = x.1 in
      ap (λ (e : SymbolTree). is_projection e.kind) (entry_at k low) ∙ All-get_or (λ (e : SymbolTree). is_projection e.kind ≡ false) own (k - n) int_symbol (omega (arith, low, high)) p)

  once_of : AreBetween n (n + length own) ks → IsDistinct ks → AreNumberedOnes c o → IsOnce c o
  once_of b d numbered' = record {
    of = there;
    numbered = numbered';
    distinct = rw are d;
    later = λ k h. let x = place k h in let l = x.0 in omega (arith, at, l);
    theory = λ k h.
        let x = place k h in
        let l = x.0 in
        let r = x.1 in
        let front : length (c.symbols ++ tuples) ≡ n = length-append c.symbols tuples ∙ sym at in
        let same : (c.symbols ++ tuples) ++ own ≡ c.symbols ++ o.symbols = append_assoc c.symbols tuples own ∙ ap (λ (es : List SymbolTree). c.symbols ++ es) (sym symbols) in
        let entry : symbol_or ((c.symbols ++ tuples) ++ own) k ≡ get_or own (k - n) int_symbol = get_or-append_right (c.symbols ++ tuples) own n k int_symbol front l in
        let own' : (get_or own (k - n) int_symbol).theory ≡ c.theory = All-get_or (OfTheory c.theory) own (k - n) int_symbol (omega (arith, l, r)) of in
        subst (λ (es : List SymbolTree). (symbol_or es k).theory ≡ c.theory) same (ap (λ (e : SymbolTree). e.theory) entry ∙ own');
  }
    where
      place : (k : ℕ) → Contains (made o.decls) k → (n ≤ k) × (k < n + length own)
      place k h = between_at n (n + length own) ks k b (subst (λ (xs : List ℕ). Contains xs k) are h)

type_once : (c : Setting) (x : TokenName) (n : ℕ) (o : Outcome) → o ≡ type_outcome c x n → IsOnce c o
type_once c x n o q =
    let k = length c.symbols in
    let e = type_entry c.theory (full_name c x) n in
    let theories = All-cons (OfTheory c.theory) e [] refl (All-nil (OfTheory c.theory)) in
    let there' = there_one c o.decls _ (ap (λ (i : Outcome). i.decls) q) refl in
    let one : AreBetween k (k + 1) (k ∷ []) = one_between k k (k + 1) [] (omega arith) (omega arith) (no_numbers k (k + 1)) in
    once_of c o [] (e ∷ []) (ap (λ (i : Outcome). i.symbols) q) theories k (omega arith) (k ∷ []) (ap (λ (i : Outcome). made i.decls) q) there'
    one ((λ h. none_in k h), tt)
    (numbered_one c o _ (ap (λ (i : Outcome). i.decls) q) (made_plain c o [] (e ∷ []) (ap (λ (i : Outcome). i.symbols) q) theories k (omega arith) (k ∷ []) (ap (λ (i : Outcome). made i.decls) q) there' (All-cons (λ (i : SymbolTree). is_projection i.kind ≡ false) e [] refl (All-nil (λ (i : SymbolTree). is_projection i.kind ≡ false))) one))

group_once : (c : Setting) (ts : List AlgebraicType) (o : Outcome) → o ≡ group_outcome c ts → IsOnce c o
group_once c ts o q =
    let tuples = tuples_wanting c (group_seen ts) in
    let T = type_entries c.theory c.within ts in
    let w = group.inside_types c ts in
    let i = first_type c ts in
    let m = first_constructor c ts in
    let G = group_entries c.theory c.within ts (group_trees c ts) in
    let many = count_types c.theory c.within ts in
    let long = group_length c.theory c.within w i m ts in
    let all = length-append T G in
    let ks = made_by_types (group_trees c ts) in
    once_of c o tuples (T ++ G) (ap (λ (j : Outcome). j.symbols) q) (All-append (OfTheory c.theory) T G (types_of c.theory c.within ts) (group_of c.theory c.within ts (group_trees c ts))) i (length-append c.symbols tuples) ks (ap (λ (j : Outcome). made j.decls) q ∙ append-nil ks) (there_one c o.decls _ (ap (λ (j : Outcome). j.decls) q) refl)
    (group_between w i i m (i + length (T ++ G)) ts (omega arith) (omega arith) (omega (arith, all, many, long)) (omega (arith, all, many, long)))
    (group_distinct w i m ts (omega arith)) (numbered_one c o _ (ap (λ (j : Outcome). j.decls) q) (group_numbered w i m ts))

pub body_between : (m : GroupMember) (ks : List GroupMember) (gs : List SignatureTree) (bs : List Tree) (k : ℕ) (b : Option Expression) → length gs ≡ length (m ∷ ks) → AreBetween k (k + length gs) (made_by (group_body b k gs bs))
body_between m ks gs bs k None q = one_between k k (k + length gs) [] (omega arith) (omega (arith, q)) (no_numbers k (k + length gs))
body_between m ks gs bs k (Some e) q = defined_between k (k + length gs) gs bs (omega arith)

body_distinct : (gs : List SignatureTree) (bs : List Tree) (k : ℕ) (b : Option Expression) → IsDistinct (made_by (group_body b k gs bs))
body_distinct gs bs k None = ((λ h. none_in k h), tt)
body_distinct gs bs k (Some e) = defined_distinct k gs bs

members_once : (c : Setting) (ms : List GroupMember) (o : Outcome) → IsGroup c ms o → IsOnce c o
members_once c [] o it = none_once c o (ap made it.decls) (there_none c o.decls it.decls) (numbered_none c o it.decls)
members_once c (m ∷ ks) o it =
    let ms = m ∷ ks in
    let gs = group_signatures c ms in
    let k = length (before_group c ms) in
    let tuples = group_tuples c ms in
    let count = count_signed (over (before_group c ms) c.scope []) ms in
    let bs = it.bodies in
    let own = signed_entries c.theory c.within ms gs in
    let long = signed_length c.theory c.within ms gs count in
    let list = made_by (group_body m.body k gs bs) in
    let between : AreBetween k (k + length own) list = subst (λ (n : ℕ). AreBetween k (k + n) list) (sym long) (body_between m ks gs bs k m.body count) in
    let there' = there_one c o.decls _ it.decls refl in
    let are = ap made it.decls ∙ append-nil list in
    once_of c o tuples own it.symbols (signed_of c.theory c.within ms gs) k (length-append c.symbols tuples) list are there' between (body_distinct gs bs k m.body)
    (numbered_one c o _ it.decls (body_numbered (c.symbols ++ o.symbols) k gs bs m.body
    (made_plain c o tuples own it.symbols (signed_of c.theory c.within ms gs) k (length-append c.symbols tuples) list are there' (signed_kinds c.theory c.within ms gs) between)))

inductives_once : (c : Setting) (ds : List InductivePredicate) (o : Outcome) → IsInductiveGroup c ds o → IsOnce c o
inductives_once c [] o it = none_once c o (ap made it.decls) (there_none c o.decls it.decls) (numbered_none c o it.decls)
inductives_once c (d ∷ is) o it =
    let ds = d ∷ is in
    let ms = as_members ds in
    let gs = signature_trees c (before_inductives c ds) ms in
    let k = length (before_inductives c ds) in
    let tuples = tuples_wanting c (inductives_seen unseen ds) in
    let count = count_signed (over (before_inductives c ds) c.scope []) ms in
    let own = signed_entries c.theory c.within ms gs in
    let long = signed_length c.theory c.within ms gs count in
    let list = map (λ (i : InductiveTree). i.symbol) (induced k ds it.clauses) in
    let many = length-map ds as_member in
    let same : length own ≡ length ds = long ∙ (count ∙ many) in
    let between : AreBetween k (k + length own) list = induced_between k (k + length own) ds it.clauses (omega (arith, same)) in
    let there' = there_one c o.decls _ it.decls refl in
    let are = ap made it.decls ∙ append-nil list in
    once_of c o tuples own it.symbols (signed_of c.theory c.within ms gs) k (length-append c.symbols tuples) list are there' between (induced_distinct k ds it.clauses)
    (numbered_one c o _ it.decls (made_plain c o tuples own it.symbols (signed_of c.theory c.within ms gs) k (length-append c.symbols tuples) list are there' (signed_kinds c.theory c.within ms gs) between))

pub outcome_once : (c : Setting) (d : Declaration) (o : Outcome) → IsOutcome c d o → IsOnce c o
outcome_once c (abstract_type x vs) o e = type_once c x (length vs) o e
outcome_once c (alias x vs f) o e = let none : o.decls ≡ [] = ap (λ (j : Outcome). j.decls) e in none_once c o (ap made none) (there_none c o.decls none) (numbered_none c o none)
outcome_once c (proposition_declaration k x y) o e = none_once c o (ap made e.decls) (there_one c o.decls _ e.decls refl) (numbered_one c o _ e.decls tt)
outcome_once c (algebraic ts) o e = group_once c ts o e
outcome_once c (member_group ms) o e = members_once c ms o e
outcome_once c (inductive ds) o e = inductives_once c ds o e
