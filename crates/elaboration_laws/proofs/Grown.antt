-- Declarations that are valid where they are stay so over a longer signature, one list after another, and in front of others.
use Rattle.std.proofs.Common.{◌≡◌, ◌⊎◌, inl, inr, ℕ, ◌<◌, ◌≤◌, ◌||◌, ◌&&◌, zero, suc, Bool, true, false, List, [], ◌∷◌, ◌++◌, length, get_or, slice_get, All, Option, Some, IsTrue, refl, sym, ap, subst, ◌∙◌, arith, append_assoc, append-nil}
use Rattle.std.specs.List.{Contains}
use Rattle.std.specs.Option.{is_some}
use Rattle.std.specs.Str.{bytes_eq}
use Rattle.std.proofs.lemmas.Bool.{cases_lt}
use Rattle.std.proofs.lemmas.List.{get_or_append_left}
use Rattle.std.proofs.lemmas.List.Elements.{All-nil, All-cons, All-contains, Contains-get_or, Contains-append_left}
use Rattle.elab_groups.specs.tasks.Task.{SymbolTree, symbol_or, int_symbol, DeclarationTree, made, made_by}
use Rattle.elab_groups.specs.tasks.Roles.{is_constructor, maker, role_by}
use Rattle.elab_groups.specs.tasks.Vocabulary.{passes, is_empty, is_constructor_kind}
use Rattle.elab_groups.specs.parts.Entries.{builtin}
use Rattle.elaboration_laws.specs.Scopes.{IsSubvocabulary}
use Rattle.elaboration_laws.proofs.Extended.{further}
use Rattle.elaboration_laws.specs.Lists.{is_built, after, AreValidAfter}
use Rattle.elaboration_laws.proofs.Propositions.{formula_more}
use Rattle.elaboration_laws.proofs.Stays.{declaration_stays}
use Rattle.theory_states.specs.goal_tasks.Theories.{GoalTree}
use Rattle.elaboration_laws.specs.Built.{IsBuiltRight}
use Rattle.elaboration_laws.proofs.MadeRecords.{records_more}
use Rattle.elaboration_laws.specs.Tasks.{IsOwnSymbol, IsOfTheory, AreSound, IsQuotedAt, IsSoundGoal, IsSoundAfter, HasRecords}
use Rattle.elaboration_laws.proofs.Distinct.{IsDistinct, distinct_pairs, pairs_distinct}
use Rattle.elaboration_laws.proofs.TupleDecls.{made_both}
use Rattle.elaboration_laws.proofs.TaskSound.{each_made}

pub none_sound : (symbols : List SymbolTree) → IsBuiltRight symbols → AreSound symbols []
none_sound symbols b = record { built = b; valid = tt; once = distinct_pairs [] tt; own = All-nil (IsOwnSymbol symbols); theories = All-nil (IsOfTheory symbols); records = All-nil (λ (d : DeclarationTree). HasRecords symbols (made_by d.body)) }

-- ---- more entries
module _ (xs ys : List SymbolTree) where
  passes_more : (test : SymbolTree → Bool) (k : ℕ) (e : SymbolTree) (b : Bool) → slice_get xs k ≡ Some e → IsTrue (passes test (slice_get xs k) || b) → IsTrue (passes test (slice_get (xs ++ ys) k) || b)
  passes_more test k e b q h =
      let z : slice_get (xs ++ ys) k ≡ slice_get xs k = further xs ys k e q ∙ sym q in
      subst (λ (o : Option SymbolTree). IsTrue (passes test o || b)) (sym z) h

  pub more_part : (r : List ℕ) (ds : List DeclarationTree) → IsSubvocabulary (after xs r ds) (after (xs ++ ys) r ds)
  more_part r ds = record {
    entries = λ k e q. further xs ys k e q;
    rigid = λ k e q h. h;
    usable = λ k e q h. passes_more is_built k e (is_some (maker ds k)) q h;
    matched = λ k e q h. passes_more (λ i. is_built i && is_constructor_kind i.kind) k e (is_constructor (role_by k (maker ds k))) q h;
  }

  more_valid : (before ds : List DeclarationTree) → AreValidAfter xs before ds → AreValidAfter (xs ++ ys) before ds
  more_valid before [] h = tt
  more_valid before (d ∷ ds) h = (declaration_stays (after xs [] (before ++ d ∷ [])) (after (xs ++ ys) [] (before ++ d ∷ [])) (more_part [] (before ++ d ∷ [])) d h.0, more_valid (before ++ d ∷ []) ds h.1)

  pub own_below : (k : ℕ) → IsOwnSymbol xs k → k < length xs
  own_below k o = of (cases_lt k (length xs))
    where
      of : (k < length xs) ⊎ (length xs ≤ k) → k < length xs
      of (inl l) = l
      of (inr l) = absurd (let q = past xs k l in let z : bytes_eq builtin builtin ≡ false = sym (ap (λ (e : SymbolTree). bytes_eq e.theory builtin) q) ∙ o.other in let u : true ≡ false = z in cc)
        where
          past : (es : List SymbolTree) (k : ℕ) → length es ≤ k → symbol_or es k ≡ int_symbol
          past [] k l = refl
          past (e ∷ es) zero l = absurd (omega (arith, l))
          past (e ∷ es) (suc k) l = past es k (omega (arith, l))

  own_more : (k : ℕ) → IsOwnSymbol xs k → IsOwnSymbol (xs ++ ys) k
  own_more k o =
      let q : symbol_or (xs ++ ys) k ≡ symbol_or xs k = get_or_append_left xs ys int_symbol k (own_below k o) in
      record { stands = ap (λ (e : SymbolTree). is_empty e.theory) q ∙ o.stands; other = ap (λ (e : SymbolTree). bytes_eq e.theory builtin) q ∙ o.other }

  theory_more : (ds : List DeclarationTree) → AreSound xs ds → All (IsOfTheory (xs ++ ys)) ds
  theory_more ds h = λ i d l j k m.
      let x = get_or ds i d in
      let n = get_or (made_by x.body) j k in
      let q : (symbol_or xs n).theory ≡ x.theory = h.theories i d l j k m in
      let c : Contains (made ds) n = each_made ds i d l n (Contains-get_or (made_by x.body) j k m) in
      let z : symbol_or (xs ++ ys) n ≡ symbol_or xs n = get_or_append_left xs ys int_symbol n (own_below n (All-contains (IsOwnSymbol xs) (made ds) n h.own c)) in
      ap (λ (e : SymbolTree). e.theory) z ∙ q

  all_records : (ds : List DeclarationTree) → AreSound xs ds → All (λ (d : DeclarationTree). HasRecords (xs ++ ys) (made_by d.body)) ds
  all_records ds h = λ i d l.
      let x = get_or ds i d in
      records_more xs ys (made_by x.body)
      (λ j k m. own_below (get_or (made_by x.body) j k) (All-contains (IsOwnSymbol xs) (made ds) (get_or (made_by x.body) j k) h.own (each_made ds i d l (get_or (made_by x.body) j k) (Contains-get_or (made_by x.body) j k m)))) (h.records i d l)

  pub sound_more : (ds : List DeclarationTree) → AreSound xs ds → IsBuiltRight (xs ++ ys) → AreSound (xs ++ ys) ds
  sound_more ds h b = record { built = b; valid = more_valid [] ds h.valid; once = h.once; own = λ k i l. own_more (get_or (made ds) k i) (h.own k i l); theories = theory_more ds h; records = all_records ds h }

  quoted_more : (k : ℕ) → IsQuotedAt xs k → IsQuotedAt (xs ++ ys) k
  quoted_more k q = record { name = q.name; quoted = q.quoted; entry = further xs ys k _ q.entry }

  goal_more : (ds : List DeclarationTree) (g : GoalTree) → IsSoundGoal xs ds g → IsSoundGoal (xs ++ ys) ds g
  goal_more ds g h = record {
    rigid = λ k i l. quoted_more (get_or g.rigid k i) (h.rigid k i l);
    once = h.once;
    formula = formula_more (after xs g.rigid ds) (after (xs ++ ys) g.rigid ds) (more_part g.rigid ds) 0 g.prop h.formula;
  }

  pub after_more : (ds : List DeclarationTree) (g : GoalTree) → IsSoundAfter xs ds g → IsBuiltRight (xs ++ ys) → IsSoundAfter (xs ++ ys) ds g
  after_more ds g h b = record { before = sound_more ds h.before b; goal = goal_more ds g h.goal }

-- ---- two lists
pub then_valid : (symbols : List SymbolTree) (before xs ys : List DeclarationTree) → AreValidAfter symbols before xs → AreValidAfter symbols (before ++ xs) ys → AreValidAfter symbols before (xs ++ ys)
then_valid symbols before [] ys h i = subst (λ (bs : List DeclarationTree). AreValidAfter symbols bs ys) (append-nil before) i
then_valid symbols before (x ∷ xs) ys h i =
    let same : (before ++ x ∷ []) ++ xs ≡ before ++ x ∷ xs = append_assoc before (x ∷ []) xs in
    (h.0, then_valid symbols (before ++ x ∷ []) xs ys h.1 (subst (λ (bs : List DeclarationTree). AreValidAfter symbols bs ys) (sym same) i))

front_valid : (symbols : List SymbolTree) (before xs ys : List DeclarationTree) → AreValidAfter symbols before (xs ++ ys) → AreValidAfter symbols before xs
front_valid symbols before [] ys h = tt
front_valid symbols before (x ∷ xs) ys h = (h.0, front_valid symbols (before ++ x ∷ []) xs ys h.1)

pub front_distinct : (xs ys : List ℕ) → IsDistinct (xs ++ ys) → IsDistinct xs
front_distinct [] ys h = tt
front_distinct (x ∷ xs) ys h = ((λ c. h.0 (Contains-append_left xs ys x c)), front_distinct xs ys h.1)

front_all : (P : DeclarationTree → Type 0) (xs ys : List DeclarationTree) → All P (xs ++ ys) → All P xs
front_all P [] ys h = All-nil P
front_all P (x ∷ xs) ys h = All-cons P x xs (h 0 x (omega arith)) (front_all P xs ys (λ k d l. h (suc k) d (omega (arith, l))))

pub front_sound : (symbols : List SymbolTree) (xs ys : List DeclarationTree) → AreSound symbols (xs ++ ys) → AreSound symbols xs
front_sound symbols xs ys h =
    let e = made_both xs ys in
    record {
      built = h.built;
      valid = front_valid symbols [] xs ys h.valid;
      once = distinct_pairs (made xs) (front_distinct (made xs) (made ys) (subst IsDistinct e (pairs_distinct (made (xs ++ ys)) h.once)));
      own = λ k i l.
          let c : Contains (made (xs ++ ys)) (get_or (made xs) k i) = subst (λ (ns : List ℕ). Contains ns (get_or (made xs) k i)) (sym e) (Contains-append_left (made xs) (made ys) (get_or (made xs) k i) (Contains-get_or (made xs) k i l)) in
          All-contains (IsOwnSymbol symbols) (made (xs ++ ys)) (get_or (made xs) k i) h.own c;
      theories = front_all (IsOfTheory symbols) xs ys h.theories;
      records = front_all (λ (d : DeclarationTree). HasRecords symbols (made_by d.body)) xs ys h.records;
    }
