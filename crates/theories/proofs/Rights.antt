-- Over what may be named after declarations, the types on the right sides of elements are types, and the symbols are symbols.
use Rattle.std.proofs.Common.{◌≡◌, ◌⊎◌, inl, inr, ℕ, ◌-◌, ◌<◌, ◌≤◌, ◌&&◌, ◌||◌, not, Bool, true, false, List, [], ◌∷◌, ◌++◌, length, slice_get, Contains, All, Option, Some, None, IfSome, IsTrue, option_map, unwrap_or, refl, sym, ap, subst, ◌∙◌, arith, append_assoc, append-nil}
use Rattle.std.specs.Option.{is_some}
use Rattle.std.specs.Str.{bytes_eq}
use Rattle.std.proofs.lemmas.List.Elements.{All-nil, All-cons, All-head, All-tail, Contains-append_cases}
use Rattle.tasks.specs.declared.signature.SymbolKind.{SymbolKind}
use Rattle.tasks.specs.declared.signature.SymbolKind.TheVariants.{Constructor}
use Rattle.tasks.specs.Task.{SymbolTree, int_symbol, DeclarationTree}
use Rattle.tasks.specs.Roles.{is_constructor, maker, role_by}
use Rattle.tasks.specs.Vocabulary.{Vocabulary, passes, is_empty, is_constructor_kind}
use Rattle.tasks.specs.Valid.{IsTypeIn}
use Rattle.elaboration_laws.specs.scopes.Names.{find_name, number_of}
use Rattle.elaboration_laws.specs.scopes.declared.Table.TheVariants.{Symbols}
use Rattle.elaboration_laws.specs.scopes.declared.Referent.TheVariants.{Entry, Alias}
use Rattle.surface.specs.Lexeme.{Word}
use Rattle.surface.specs.Declarations.{Element, type_element, symbol_element, prop_element, all_axioms}
use Rattle.elaboration_laws.specs.name_resolution.Abstract.{texts_of_names, type_expression, text_of_own}
use Rattle.elaboration_laws.specs.name_resolution.Where.{MeaningTree, NamesTree}
use Rattle.elaboration_laws.specs.name_resolution.variables.Seen.{form_seen}
use Rattle.elaboration_laws.specs.open_types.Pieces.{type_at}
use Rattle.elaboration_laws.specs.elab_groups.parts.Elaborated.{unseen}
use Rattle.elaboration_laws.specs.elab_groups.parts.Entries.{builtin, wanting_tuples}
use Rattle.elaboration_laws.specs.elab_groups.parts.Outcomes.{Setting, over}
use Rattle.elaboration_laws.specs.Signature.{with_entries}
use Rattle.elaboration_laws.specs.Scopes.{is_projection_kind, IsNamedBy, NamesNew, IsSubvocabulary, AgreeBelow, IsSymbolNumber, IsNameOfSymbol, IsTypedThing, AreTypedScopes}
use Rattle.elaboration_laws.proofs.Words.{self_word}
use Rattle.elaboration_laws.proofs.Scopes.{found_thing}
use Rattle.elaboration_laws.proofs.Extended.{further, in_either, slice_all, entries_part}
use Rattle.elaboration_laws.specs.Valid.{IsTypedSetting}
use Rattle.elaboration_laws.specs.Lists.{is_built, after}
use Rattle.elaboration_laws.proofs.Made.{tuples_built}
use Rattle.elaboration_laws.proofs.Joined.{matched_usable}
use Rattle.elaboration_laws.proofs.Places.{none_here}
use Rattle.elaboration_laws.proofs.CopiedRights.{right_typed}
use Rattle.elaboration_laws.specs.clones.clone_elements.Left.{Origin, symbol_at_place}
use Rattle.elaboration_laws.specs.clones.clone_elements.Rights.{RightTree, type_right, symbol_right, no_right, symbol_missing, called_symbol, right_made, right_fault, right_tuples, rights_tuples, rights_fault}
use Rattle.elaboration_laws.specs.clones.clone_elements.Replacements.{SideTree, sides_made, symbol_for, symbols_replaced}
use Rattle.elaboration_laws.specs.Sides.{IsTypedRight, IsTypedSide}
use Rattle.elaboration_laws.proofs.Rights.{right_more, texts_count}
use Rattle.std.proofs.lemmas.Option.{slice_get-get_or as some_at}
use Rattle.elaboration_laws.proofs.Declarations.{below as slice_below}
use Rattle.elaboration_laws.proofs.Names.{or_left as left_of}
use Rattle.elaboration_laws.proofs.Mapped.{only_here}
use Rattle.open_types.proofs.Walking.{none_both as first_none}

-- ---- with further entries
module _ (xs ys : List SymbolTree) (ds : List DeclarationTree) where
  front_same : (k : ℕ) → k < length xs → slice_get xs k ≡ slice_get (xs ++ ys) k
  front_same k l = let q = some_at xs k int_symbol l in q ∙ sym (further xs ys k _ q)

  pub agree : AgreeBelow (after xs [] ds) (after (xs ++ ys) [] ds) (length xs)
  agree = record {
    rigid = λ k l. refl;
    usable = λ k l. ap (λ (o : Option SymbolTree). passes is_built o || is_some (maker ds k)) (front_same k l);
    matched = λ k l. ap (λ (o : Option SymbolTree). passes (λ (e : SymbolTree). is_built e && is_constructor_kind e.kind) o || is_constructor (role_by k (maker ds k))) (front_same k l);
  }

-- ---- entries of tuples may be named
stands : (x y z : Bool) → z ≡ true → IsTrue (x && not (y && z)) → IsTrue (z && not y)
stands x y false e h = absurd (cc)
stands true true true e h = absurd (let z : false ≡ true = h in cc)
stands true false true e h = refl
stands false y true e h = absurd (let z : false ≡ true = h in cc)

con_built : (e : SymbolTree) → bytes_eq e.theory builtin ≡ true → e.kind ≡ Constructor → IsTrue (is_built e && is_constructor_kind e.kind)
con_built e b z =
    ap (λ (x : Bool). (x && not (is_projection_kind e.kind)) && is_constructor_kind e.kind) b
    ∙ ap (λ (j : SymbolKind). (true && not (is_projection_kind j)) && is_constructor_kind j) z

tuples_named : (pre zs rest : List SymbolTree) (ds : List DeclarationTree) → All (λ (e : SymbolTree). e.theory ≡ builtin) zs → NamesNew (after ((pre ++ zs) ++ rest) [] ds) (length pre) (pre ++ zs)
tuples_named pre zs rest ds built k e l q = of (in_either pre zs k e q)
  where
    all : List SymbolTree
    all = (pre ++ zs) ++ rest

    at : slice_get all k ≡ Some e
    at = further (pre ++ zs) rest k e q

    by : e.theory ≡ builtin → IsNamedBy (after all [] ds) k e
    by p =
        let b : bytes_eq e.theory builtin ≡ true = ap (λ (t : Word). bytes_eq t builtin) p ∙ self_word builtin in
        record {
          usable = λ h. left_of (passes is_built (slice_get all k)) (is_some (maker ds k)) (subst (λ (o : Option SymbolTree). IsTrue (passes is_built o)) (sym at) (stands (not (is_empty e.theory)) (is_projection_kind e.kind) (bytes_eq e.theory builtin) b h));
          matched = λ z. left_of (passes (λ (i : SymbolTree). is_built i && is_constructor_kind i.kind) (slice_get all k)) (is_constructor (role_by k (maker ds k)))
              (subst (λ (o : Option SymbolTree). IsTrue (passes (λ (i : SymbolTree). is_built i && is_constructor_kind i.kind) o)) (sym at) (con_built e b z));
          pattern = λ m. matched_usable all ds k m;
        }

    of : (slice_get pre k ≡ Some e) ⊎ ((length pre ≤ k) × (slice_get zs (k - length pre) ≡ Some e)) → IsNamedBy (after all [] ds) k e
    of (inl z) = absurd (let b = slice_below pre k e z in omega (arith, b, l))
    of (inr z) = by (slice_all (λ (i : SymbolTree). i.theory ≡ builtin) zs built (k - length pre) e z.1)

-- ---- types on right sides
module _ (all : List SymbolTree) (ds : List DeclarationTree) where
  abbrev w : Vocabulary
  w = after all [] ds

  record IsTypedElement (c : Setting) (e : Element) : Type 0 where
    right : IsTypedRight (with_entries w (c.symbols ++ right_tuples c.symbols e)) e (right_made c.symbols c.scope e)
    setting : IsTypedSetting w (record c { symbols = c.symbols ++ right_tuples c.symbols e })

  without : (c : Setting) → IsTypedSetting w c → IsTypedSetting w (record c { symbols = c.symbols ++ [] })
  without c h = subst (λ (es : List SymbolTree). IsTypedSetting w (record c { symbols = es })) (sym (append-nil c.symbols)) h

  element_typed : (c : Setting) (e : Element) (rest : List SymbolTree) → (c.symbols ++ right_tuples c.symbols e) ++ rest ≡ all → IsTypedSetting w c → right_fault c.symbols c.scope e ≡ None → IsTypedElement c e
  element_typed c (type_element i d vs f) rest whole h q =
      let ys = wanting_tuples c.symbols (form_seen unseen (type_expression f)).widths in
      let news : NamesNew w (length c.symbols) (c.symbols ++ ys) =
      subst (λ (es : List SymbolTree). NamesNew (after es [] ds) (length c.symbols) (c.symbols ++ ys)) whole (tuples_named c.symbols ys rest ds (tuples_built c.symbols (form_seen unseen (type_expression f)).widths)) in
      let z = right_typed w c (texts_of_names vs) (type_expression f) h q news in
      record {
        right = subst (λ (n : ℕ). IsTypeIn (with_entries w (c.symbols ++ ys)) n (type_at (over (c.symbols ++ ys) c.scope (texts_of_names vs)) (type_expression f))) (texts_count vs) z.type;
        setting = record { theory = h.theory; source = h.source; signature = z.signature; scopes = z.scopes };
      }
  element_typed c (symbol_element i s d e) rest whole h q = record { right = tt; setting = without c h }
  element_typed c (prop_element i k d) rest whole h q = record { right = tt; setting = without c h }
  element_typed c (all_axioms i) rest whole h q = record { right = tt; setting = without c h }

  pub sides_after : (places : Word → Option ℕ) (es : List Element) (c : Setting) (rest : List SymbolTree) → (c.symbols ++ rights_tuples c.symbols es) ++ rest ≡ all → IsTypedSetting w c → rights_fault c.symbols c.scope es ≡ None
      → All (IsTypedSide w) (sides_made places c.symbols c.scope es)
  sides_after places [] c rest whole h q = All-nil (IsTypedSide w)
  sides_after places (e ∷ es) c rest whole h q =
      let p = first_none (right_fault c.symbols c.scope e) (rights_fault (c.symbols ++ right_tuples c.symbols e) c.scope es) q in
      let more = right_tuples c.symbols e in
      let now = c.symbols ++ more in
      let later = rights_tuples now es in
      let same : (now ++ later) ++ rest ≡ all = ap (λ (zs : List SymbolTree). zs ++ rest) (append_assoc c.symbols more later) ∙ whole in
      let split : now ++ (later ++ rest) ≡ all = sym (append_assoc now later rest) ∙ same in
      let x = element_typed c e (later ++ rest) split h p.0 in
      let part : IsSubvocabulary (with_entries w now) w = subst (λ (zs : List SymbolTree). IsSubvocabulary (with_entries w now) (with_entries w zs)) split (entries_part w now (later ++ rest)) in
      All-cons (IsTypedSide w) _ (sides_made places now c.scope es)
      (right_more (with_entries w now) w part e (right_made c.symbols c.scope e) x.right)
      (sides_after places es (record c { symbols = now }) rest same x.setting p.1)

-- ---- symbols on right sides
module _ (v : Vocabulary) (names : NamesTree) (scopes : AreTypedScopes v names) where
  abbrev RightSymbol : RightTree → Type 0
  RightSymbol (symbol_right k) = IsSymbolNumber v k
  RightSymbol r = Unit {0}

  numbered : (o : Option MeaningTree) → IfSome o (IsNameOfSymbol v) → IfSome (option_map number_of o) (IsSymbolNumber v)
  numbered None h = tt
  numbered (Some (Entry k)) h = h
  numbered (Some (Alias vars t)) h = absurd h

  named_symbol : (token : ℕ) (o : Option ℕ) → symbol_missing token o ≡ None → IfSome o (IsSymbolNumber v) → IsSymbolNumber v (unwrap_or o 0)
  named_symbol token None q h = absurd (cc)
  named_symbol token (Some k) q h = h

  right_symbol : (symbols : List SymbolTree) (e : Element) → right_fault symbols names e ≡ None → RightSymbol (right_made symbols names e)
  right_symbol symbols (type_element i c vs f) q = tt
  right_symbol symbols (symbol_element i w c d) q = named_symbol d.at (called_symbol names d) q (numbered (find_name names Symbols (d.scopes ++ text_of_own d.own ∷ [])) (found_thing (IsTypedThing v) names scopes Symbols (d.scopes ++ text_of_own d.own ∷ [])))
  right_symbol symbols (prop_element i k c) q = tt
  right_symbol symbols (all_axioms i) q = tt

  abbrev SideSymbol : SideTree → Type 0
  SideSymbol x = RightSymbol x.right

  sides_symbols : (places : Word → Option ℕ) (es : List Element) (symbols : List SymbolTree) → rights_fault symbols names es ≡ None → All SideSymbol (sides_made places symbols names es)
  sides_symbols places [] symbols q = All-nil SideSymbol
  sides_symbols places (e ∷ es) symbols q =
      let p = first_none (right_fault symbols names e) (rights_fault (symbols ++ right_tuples symbols e) names es) q in
      All-cons SideSymbol _ (sides_made places (symbols ++ right_tuples symbols e) names es) (right_symbol symbols e p.0) (sides_symbols places es (symbols ++ right_tuples symbols e) p.1)

  pair_symbol : (t : Origin) (left : Option ℕ) (r : RightTree) (p : ℕ × ℕ) → RightSymbol r → Contains (symbol_for t left r) p → IsSymbolNumber v p.1
  pair_symbol t (Some place) (symbol_right k) p h c = let e : (symbol_at_place t.decls place, k) ≡ p = only_here _ p c in subst (λ (q : ℕ × ℕ). IsSymbolNumber v q.1) e h
  pair_symbol t (Some place) (type_right ty) p h c = absurd (none_here p c)
  pair_symbol t (Some place) no_right p h c = absurd (none_here p c)
  pair_symbol t None r p h c = absurd (none_here p c)

  pairs_symbols : (t : Origin) (xs : List SideTree) → All SideSymbol xs → (p : ℕ × ℕ) → Contains (symbols_replaced t xs) p → IsSymbolNumber v p.1
  pairs_symbols t [] h p c = absurd (none_here p c)
  pairs_symbols t (x ∷ xs) h p c = of (Contains-append_cases (symbol_for t x.left x.right) (symbols_replaced t xs) p c) (λ z. pairs_symbols t xs (All-tail SideSymbol x xs h) p z)
    where
      of : Contains (symbol_for t x.left x.right) p ⊎ Contains (symbols_replaced t xs) p → (Contains (symbols_replaced t xs) p → IsSymbolNumber v p.1) → IsSymbolNumber v p.1
      of (inl z) f = pair_symbol t x.left x.right p (All-head SideSymbol x xs h) z
      of (inr z) f = f z

  pub right_numbers : (places : Word → Option ℕ) (t : Origin) (es : List Element) (symbols : List SymbolTree) → rights_fault symbols names es ≡ None → (p : ℕ × ℕ) → Contains (symbols_replaced t (sides_made places symbols names es)) p → IsSymbolNumber v p.1
  right_numbers places t es symbols q p c = pairs_symbols t (sides_made places symbols names es) (sides_symbols places es symbols q) p c
