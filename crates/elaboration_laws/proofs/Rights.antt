-- Over a signature of which each entry that has a theory may be named, the types on right sides are types.
use Rattle.std.proofs.Common.{◌≡◌, ◌⊎◌, inl, inr, ℕ, ◌-◌, ◌<◌, ◌≤◌, not, false, List, [], ◌∷◌, ◌++◌, length, slice_get, All, Option, Some, None, IsTrue, refl, sym, ap, subst, ◌∙◌, arith, append_assoc, append-nil}
use Rattle.std.specs.Str.{bytes_eq}
use Rattle.std.proofs.lemmas.List.Elements.{All-nil, All-cons}
use Rattle.elab_groups.specs.tasks.Task.{SymbolTree, int_symbol}
use Rattle.elab_groups.specs.tasks.Vocabulary.{Vocabulary, of_signature, passes, is_empty, is_constructor_kind}
use Rattle.elab_groups.specs.tasks.Valid.{IsTypeIn}
use Rattle.elab_groups.specs.surface.Lexeme.{Word}
use Rattle.elab_groups.specs.surface.declared.names.Name.{Name}
use Rattle.elab_groups.specs.surface.Declarations.{Element, type_element, symbol_element, prop_element, all_axioms}
use Rattle.elab_groups.specs.name_resolution.Abstract.{TypeExpression, texts_of_names, type_expression}
use Rattle.elab_groups.specs.name_resolution.Faults.{form_fault}
use Rattle.elab_groups.specs.name_resolution.variables.Seen.{form_seen}
use Rattle.elab_groups.specs.open_types.Pieces.{type_at}
use Rattle.elab_groups.specs.parts.Elaborated.{unseen}
use Rattle.elab_groups.specs.parts.Entries.{builtin, wanting_tuples}
use Rattle.elab_groups.specs.parts.Outcomes.{Setting, over, around}
use Rattle.elab_groups.proofs.parts.Alike.{form_alike}
use Rattle.elaboration_laws.specs.Scopes.{IsNamedBy, NamesNew, IsSubvocabulary, AgreeBelow}
use Rattle.elaboration_laws.proofs.Extended.{further, in_either, slice_all, type_more}
use Rattle.elaboration_laws.proofs.Widths.{form_tuples}
use Rattle.elaboration_laws.specs.Valid.{IsTypedSetting}
use Rattle.elaboration_laws.proofs.Begin.{agrees}
use Rattle.elaboration_laws.proofs.Made.{tuples_built}
use Rattle.elaboration_laws.proofs.Settings.{inside_scopes, inside_typed, world, tuples, same_names, form_in}
use Rattle.elaboration_laws.specs.Built.{IsBuiltRight}
use Rattle.elaboration_laws.proofs.Kept.{all_kept}
use Rattle.clones.specs.clone_elements.Rights.{RightTree, type_right, symbol_right, no_right, right_tuples, right_fault, right_made, rights_tuples, rights_fault}
use Rattle.clones.specs.clone_elements.Replacements.{sides_made}
use Rattle.elaboration_laws.specs.Sides.{IsTypedRight, IsTypedSide, with_rights}
use Rattle.std.proofs.lemmas.Option.{slice_get-get_or as some_at}
use Rattle.elaboration_laws.proofs.Declarations.{below as slice_below}
use Rattle.elab_groups.proofs.open_types.Walking.{none_both as first_none}

-- ---- more entries
pub entries_more : (xs ys : List SymbolTree) → IsSubvocabulary (of_signature xs) (of_signature (xs ++ ys))
entries_more xs ys = record {
  entries = λ k e q. further xs ys k e q;
  rigid = λ k e q h. let z = further xs ys k e q in rw z (rw q at h);
  usable = λ k e q h. let z = further xs ys k e q in rw z (rw q at h);
  matched = λ k e q h. let z = further xs ys k e q in rw z (rw q at h);
}

-- further entries that have the theory of what is built in
module _ (xs ys : List SymbolTree) (built : All (λ (e : SymbolTree). e.theory ≡ builtin) ys) where
  abbrev all : List SymbolTree
  all = xs ++ ys

  front_same : (k : ℕ) → k < length xs → slice_get xs k ≡ slice_get all k
  front_same k l = let q = some_at xs k int_symbol l in q ∙ sym (further xs ys k _ q)

  agree : AgreeBelow (of_signature xs) (of_signature all) (length xs)
  agree = record {
    rigid = λ k l. ap (passes (λ (e : SymbolTree). is_empty e.theory)) (front_same k l);
    usable = λ k l. ap (passes (λ (e : SymbolTree). not (is_empty e.theory))) (front_same k l);
    matched = λ k l. ap (passes (λ (e : SymbolTree). is_constructor_kind e.kind)) (front_same k l);
  }

  new_named : NamesNew (of_signature all) (length xs) all
  new_named k e l q = of (in_either xs ys k e q)
    where
      by : e.theory ≡ builtin → IsNamedBy (of_signature all) k e
      by p =
          let named : IsTrue (not (is_empty e.theory)) = rw p refl in
          record {
            usable = λ h. rw q named;
            matched = λ z. rw (q, z) refl;
            pattern = λ m. rw q named;
          }

      of : (slice_get xs k ≡ Some e) ⊎ ((length xs ≤ k) × (slice_get ys (k - length xs) ≡ Some e)) → IsNamedBy (of_signature all) k e
      of (inl z) = absurd (let b = slice_below xs k e z in omega (arith, b, l))
      of (inr z) = by (slice_all (λ (i : SymbolTree). i.theory ≡ builtin) ys built (k - length xs) e z.1)

-- ---- one right side

record IsTypedForm (c : Setting) (vars : List Word) (f : TypeExpression) (es : List SymbolTree) : Type 0 where
  type : IsTypeIn (of_signature (c.symbols ++ es)) (length vars) (type_at (over (c.symbols ++ es) c.scope vars) f)
  setting : IsTypedSetting (of_signature (c.symbols ++ es)) (record c { symbols = c.symbols ++ es })

form_typed : (c : Setting) (vars : List Word) (f : TypeExpression) → IsTypedSetting (of_signature c.symbols) c → form_fault (around c vars) false f ≡ None → IsTypedForm c vars f (wanting_tuples c.symbols (form_seen unseen f).widths)
form_typed c vars f typed q =
    let seen = form_seen unseen f in
    let ys = wanting_tuples c.symbols seen.widths in
    let all = c.symbols ++ ys in
    let v = of_signature all in
    let built = tuples_built c.symbols seen.widths in
    let h : IsTypedSetting v c = agrees (of_signature c.symbols) v c (agree c.symbols ys built) typed in
    let news : NamesNew v (length c.symbols) all = new_named c.symbols ys built in
    let w = world v c h seen vars in
    let resolved : form_fault w false f ≡ None = sym (form_alike (around c vars) w (same_names v c h seen vars).forms false f) ∙ q in
    record {
      type = form_in v c h seen news vars f resolved (form_tuples v w f unseen (tuples v c h seen news vars));
      setting = record { theory = typed.theory; source = typed.source; signature = inside_typed v c h seen news; scopes = inside_scopes v c h seen };
    }

pub texts_count : (vs : List Name) → length (texts_of_names vs) ≡ length vs
texts_count [] = refl
texts_count (v ∷ vs) = let h = texts_count vs in omega (arith, h)

-- an element over a typed setting
record IsTypedElement (c : Setting) (e : Element) : Type 0 where
  right : IsTypedRight (of_signature (c.symbols ++ right_tuples c.symbols e)) e (right_made c.symbols c.scope e)
  setting : IsTypedSetting (of_signature (c.symbols ++ right_tuples c.symbols e)) (record c { symbols = c.symbols ++ right_tuples c.symbols e })

without : (c : Setting) → IsTypedSetting (of_signature c.symbols) c → IsTypedSetting (of_signature (c.symbols ++ [])) (record c { symbols = c.symbols ++ [] })
without c h = subst (λ (es : List SymbolTree). IsTypedSetting (of_signature es) (record c { symbols = es })) (sym (append-nil c.symbols)) h

element_typed : (c : Setting) (e : Element) → IsTypedSetting (of_signature c.symbols) c → right_fault c.symbols c.scope e ≡ None → IsTypedElement c e
element_typed c (type_element i d vs f) h q =
    let z = form_typed c (texts_of_names vs) (type_expression f) h q in
    let ys = wanting_tuples c.symbols (form_seen unseen (type_expression f)).widths in
    record {
      right = subst (λ (n : ℕ). IsTypeIn (of_signature (c.symbols ++ ys)) n (type_at (over (c.symbols ++ ys) c.scope (texts_of_names vs)) (type_expression f))) (texts_count vs) z.type;
      setting = z.setting;
    }
element_typed c (symbol_element i w d e) h q = record { right = tt; setting = without c h }
element_typed c (prop_element i k d) h q = record { right = tt; setting = without c h }
element_typed c (all_axioms i) h q = record { right = tt; setting = without c h }

-- ---- all of them
pub all_typed : (es : List Element) (c : Setting) → IsTypedSetting (of_signature c.symbols) c → rights_fault c.symbols c.scope es ≡ None → IsTypedSetting (of_signature (with_rights c es).symbols) (with_rights c es)
all_typed [] c h q = without c h
all_typed (e ∷ es) c h q =
    let p = first_none (right_fault c.symbols c.scope e) (rights_fault (c.symbols ++ right_tuples c.symbols e) c.scope es) q in
    let more = right_tuples c.symbols e in
    let z = all_typed es (record c { symbols = c.symbols ++ more }) (element_typed c e h p.0).setting p.1 in
    subst (λ (all : List SymbolTree). IsTypedSetting (of_signature all) (record c { symbols = all })) (append_assoc c.symbols more (rights_tuples (c.symbols ++ more) es)) z

pub right_more : (v w : Vocabulary) → IsSubvocabulary v w → (e : Element) (r : RightTree) → IsTypedRight v e r → IsTypedRight w e r
right_more v w part (type_element i c vs f) (type_right ty) h = type_more v w part (length vs) ty h
right_more v w part (type_element i c vs f) (symbol_right k) h = tt
right_more v w part (type_element i c vs f) no_right h = tt
right_more v w part (symbol_element i s c d) r h = tt
right_more v w part (prop_element i k c) r h = tt
right_more v w part (all_axioms i) r h = tt

pub rights_typed : (places : Word → Option ℕ) (es : List Element) (c : Setting) → IsTypedSetting (of_signature c.symbols) c → rights_fault c.symbols c.scope es ≡ None
    → All (IsTypedSide (of_signature (with_rights c es).symbols)) (sides_made places c.symbols c.scope es)
rights_typed places [] c h q = All-nil (IsTypedSide (of_signature (with_rights c []).symbols))
rights_typed places (e ∷ es) c h q =
    let p = first_none (right_fault c.symbols c.scope e) (rights_fault (c.symbols ++ right_tuples c.symbols e) c.scope es) q in
    let more = right_tuples c.symbols e in
    let now = c.symbols ++ more in
    let later = rights_tuples now es in
    let x = element_typed c e h p.0 in
    let z = rights_typed places es (record c { symbols = now }) x.setting p.1 in
    let all : now ++ later ≡ c.symbols ++ (more ++ later) = append_assoc c.symbols more later in
    let own : IsTypedRight (of_signature (now ++ later)) e (right_made c.symbols c.scope e) = right_more (of_signature now) (of_signature (now ++ later)) (entries_more now later) e (right_made c.symbols c.scope e) x.right in
    subst (λ (ss : List SymbolTree). All (IsTypedSide (of_signature ss)) (sides_made places c.symbols c.scope (e ∷ es))) all
    (All-cons (IsTypedSide (of_signature (now ++ later))) _ (sides_made places now c.scope es) own z)

-- what is built in
right_built : (symbols : List SymbolTree) (e : Element) → IsBuiltRight symbols → IsBuiltRight (symbols ++ right_tuples symbols e)
right_built symbols (type_element i c vs f) h =
    let ns = (form_seen unseen (type_expression f)).widths in
    subst (λ (es : List SymbolTree). IsBuiltRight (symbols ++ es)) (append-nil (wanting_tuples symbols ns)) (all_kept symbols [] ns h (All-nil (λ (e : SymbolTree). bytes_eq e.theory builtin ≡ false)))
right_built symbols (symbol_element i w c d) h = rw append-nil h
right_built symbols (prop_element i k c) h = rw append-nil h
right_built symbols (all_axioms i) h = rw append-nil h

pub rights_built : (es : List Element) (symbols : List SymbolTree) → IsBuiltRight symbols → IsBuiltRight (symbols ++ rights_tuples symbols es)
rights_built [] symbols h = rw append-nil h
rights_built (e ∷ es) symbols h =
    let more = right_tuples symbols e in
    subst IsBuiltRight (append_assoc symbols more (rights_tuples (symbols ++ more) es)) (rights_built es (symbols ++ more) (right_built symbols e h))
