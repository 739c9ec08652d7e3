-- Declarations that are valid where they are are valid over what all of them make.
use Rattle.std.proofs.Common.{◌≡◌, ℕ, ◌||◌, Bool, true, false, List, [], ◌∷◌, ◌++◌, All, Option, Some, None, IsTrue, refl, sym, subst, append_assoc}
use Rattle.std.specs.Option.{is_some, option_or}
use Rattle.std.proofs.lemmas.List.Elements.{All-nil, All-cons}
use Rattle.std.proofs.lemmas.List.Folds.{find-append}
use Rattle.elab_groups.specs.tasks.Task.{SymbolTree, DeclarationTree}
use Rattle.elab_groups.specs.tasks.Roles.{is_constructor, is_made_by, maker, role_by}
use Rattle.elab_groups.specs.tasks.Valid.{IsValidDecl}
use Rattle.elaboration_laws.specs.Scopes.{IsSubvocabulary}
use Rattle.elaboration_laws.specs.Lists.{after, AreValidAfter}
use Rattle.elaboration_laws.proofs.Stays.{declaration_stays}

pub or_more : (a b c : Bool) → (IsTrue b → IsTrue c) → IsTrue (a || b) → IsTrue (a || c)
or_more true b c f h = refl
or_more false b c f h = f h

-- the makers of two lists
pub maker_both : (xs ys : List DeclarationTree) (k : ℕ) → maker (xs ++ ys) k ≡ option_or (maker xs k) (maker ys k)
maker_both xs ys k = find-append (λ (d : DeclarationTree). is_made_by k d.body) xs ys

some_first : (o p : Option DeclarationTree) → IsTrue (is_some o) → IsTrue (is_some (option_or o p))
some_first None p h = absurd (let e : true ≡ false = sym h in cc)
some_first (Some d) p h = refl

role_first : (k : ℕ) (o p : Option DeclarationTree) → IsTrue (is_constructor (role_by k o)) → IsTrue (is_constructor (role_by k (option_or o p)))
role_first k None p h = absurd (let e : true ≡ false = sym h in cc)
role_first k (Some d) p h = h

module _ (symbols : List SymbolTree) where
  made_more : (xs ys : List DeclarationTree) (k : ℕ) → IsTrue (is_some (maker xs k)) → IsTrue (is_some (maker (xs ++ ys) k))
  made_more xs ys k h = let e = maker_both xs ys k in rw e (some_first (maker xs k) (maker ys k) h)

  role_more : (xs ys : List DeclarationTree) (k : ℕ) → IsTrue (is_constructor (role_by k (maker xs k))) → IsTrue (is_constructor (role_by k (maker (xs ++ ys) k)))
  role_more xs ys k h = let e = maker_both xs ys k in rw e (role_first k (maker xs k) (maker ys k) h)

  pub list_part : (r : List ℕ) (xs ys : List DeclarationTree) → IsSubvocabulary (after symbols r xs) (after symbols r (xs ++ ys))
  list_part r xs ys = record {
    entries = λ k e q. q;
    rigid = λ k e q h. h;
    usable = λ k e q h. or_more _ (is_some (maker xs k)) (is_some (maker (xs ++ ys) k)) (made_more xs ys k) h;
    matched = λ k e q h. or_more _ (is_constructor (role_by k (maker xs k))) (is_constructor (role_by k (maker (xs ++ ys) k))) (role_more xs ys k) h;
  }

  pub list_valid : (before ds : List DeclarationTree) → AreValidAfter symbols before ds → All (IsValidDecl (after symbols [] (before ++ ds))) ds
  list_valid before [] h = All-nil (IsValidDecl (after symbols [] (before ++ [])))
  list_valid before (d ∷ ds) h =
      let same : (before ++ d ∷ []) ++ ds ≡ before ++ d ∷ ds = append_assoc before (d ∷ []) ds in
      let one : IsValidDecl (after symbols [] ((before ++ d ∷ []) ++ ds)) d = declaration_stays (after symbols [] (before ++ d ∷ [])) (after symbols [] ((before ++ d ∷ []) ++ ds)) (list_part [] (before ++ d ∷ []) ds) d h.0 in
      subst (λ (xs : List DeclarationTree). All (IsValidDecl (after symbols [] xs)) (d ∷ ds)) same
      (All-cons (IsValidDecl (after symbols [] ((before ++ d ∷ []) ++ ds))) d ds one (list_valid (before ++ d ∷ []) ds h.1))
