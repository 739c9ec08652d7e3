-- The search finds what the filter of all assignments gives: it goes on by one variable, and what it leaves out isn't wanted.
use Rattle.std.proofs.Common.{◌≡◌, ◌<◌, ◌≤◌, ◌+◌, ℕ, zero, suc, Bool, true, false, ◌&&◌, ◌||◌, ◌==◌, not, cond, if◌then◌else◌, List, [], ◌∷◌, ◌++◌, map, filter, length, get_or, slice_get, refl, sym, ap, subst, ◌∙◌, arith, append_assoc, length-append}
use Rattle.std.specs.Prelude.{All}
use Rattle.std.specs.List.{flat_map, list_any}
use Rattle.std.proofs.lemmas.List.{append-nil, map-append}
use Rattle.std.proofs.lemmas.List.Elements.{filter-append}
use Rattle.tasks.proofs.plain_laws.Bools.{and_both as both}
use Rattle.tasks.specs.trees.Tree.{Tree, Leaf, One, Two, Three, Head, HTyVar, HBound, HParam, above_ty_vars}
use Rattle.tasks.specs.trees.Binding.{typing, inst_types, change, one_by, TyVar}
use Rattle.linear_leaf.specs.Valuations.{same_tree, same_head}
use Rattle.name_tables.specs.Occurrences.{Occurrence}
use Rattle.name_tables.specs.Tables.{is_same}
use Rattle.name_tables.specs.Seen.{has}
use Rattle.tr_discriminate.specs.wanted_instances.Instances.{at_types, has_variable, mentions}
use Rattle.tr_discriminate.specs.wanted_instances.Wanted.{driving, type_choices, assignments, is_wanted}
use Rattle.tr_discriminate.specs.wanted_instances.Search.{found_from, known_fits, leaf_fits, may_fit, matches, may_go_on}
use Rattle.tr_discriminate.proofs.wanted_instances.Growing.{each_weaker}
use Rattle.tr_discriminate.specs.wanted_instances.lemmas.Driving.{driving_below}

-- ---- one variable more
module _ (s : List Occurrence) (types : List Tree) (a : Tree) where
  map_twice : (known : List Tree) (ty : Tree) (yss : List (List Tree)) → map (λ ys. known ++ ys) (map (λ ys. ty ∷ ys) yss) ≡ map (λ ys. (known ++ ty ∷ []) ++ ys) yss
  map_twice known ty [] = refl
  map_twice known ty (ys ∷ yss) = ap (λ (z : List Tree). z ∷ map (λ y. known ++ y) (map (λ y. ty ∷ y) yss)) (sym (append_assoc known (ty ∷ []) ys)) ∙ ap (λ (z : List (List Tree)). ((known ++ ty ∷ []) ++ ys) ∷ z) (map_twice known ty yss)

  along : (known : List Tree) (n : ℕ) (cs : List Tree)
      → filter (is_wanted s a) (map (λ ys. known ++ ys) (flat_map (λ ty. map (λ ys. ty ∷ ys) (assignments types a (length known + 1) n)) cs)) ≡ flat_map (λ ty. found_from s types a (known ++ ty ∷ []) n) cs
  along known n [] = refl
  along known n (c ∷ cs) =
      let tail = flat_map (λ ty. map (λ ys. ty ∷ ys) (assignments types a (length known + 1) n)) cs in
      let long : length known + 1 ≡ length (known ++ c ∷ []) = sym (length-append known (c ∷ [])) in
      ap (filter (is_wanted s a)) (map-append (λ ys. known ++ ys) (map (λ ys. c ∷ ys) (assignments types a (length known + 1) n)) tail)
      ∙ filter-append (is_wanted s a) (map (λ ys. known ++ ys) (map (λ ys. c ∷ ys) (assignments types a (length known + 1) n))) (map (λ ys. known ++ ys) tail)
      ∙ ap (λ (z : List (List Tree)). filter (is_wanted s a) z ++ filter (is_wanted s a) (map (λ ys. known ++ ys) tail)) (map_twice known c (assignments types a (length known + 1) n) ∙ ap (λ (m : ℕ). map (λ ys. (known ++ c ∷ []) ++ ys) (assignments types a m n)) long)
      ∙ ap (λ (z : List (List Tree)). found_from s types a (known ++ c ∷ []) n ++ z) (along known n cs)

  pub found_more : (known : List Tree) (n : ℕ) → found_from s types a known (suc n) ≡ flat_map (λ ty. found_from s types a (known ++ ty ∷ []) n) (type_choices types a (length known))
  found_more known n = along known n (type_choices types a (length known))

  -- nothing is found where nothing that begins so is wanted
  none_found : (known : List Tree) (yss : List (List Tree)) → ((rest : List Tree) → is_wanted s a (known ++ rest) ≡ false) → filter (is_wanted s a) (map (λ ys. known ++ ys) yss) ≡ []
  none_found known [] w = refl
  none_found known (ys ∷ yss) w = ap (λ (b : Bool). cond b ((known ++ ys) ∷ filter (is_wanted s a) (map (λ y. known ++ y) yss)) (filter (is_wanted s a) (map (λ y. known ++ y) yss))) (w ys) ∙ none_found known yss w

-- ---- what is left out
and_true : (a b : Bool) → a ≡ true → b ≡ true → (a && b) ≡ true
and_true true b e f = f
and_true false b e f = absurd (cc)

one_same : (ys : List Tree) (d : ℕ) (g : Head) (a : Tree) → one_by (typing ys) d g a ≡ One g a
one_same ys d (HBound i) a = refl
one_same ys d (HParam i) a = refl
one_same ys d _ a = refl

known_at : (known rest : List Tree) (j : ℕ) (e : Tree) → same_tree (get_or (known ++ rest) j (TyVar j)) e ≡ true → known_fits (slice_get known j) e ≡ true
known_at [] rest j e h = refl
known_at (k ∷ known) rest zero e h = h
known_at (k ∷ known) rest (suc j) e h = at known j h
  where
    at : (ks : List Tree) (i : ℕ) → same_tree (get_or (ks ++ rest) i (TyVar (suc j))) e ≡ true → known_fits (slice_get ks i) e ≡ true
    at [] i x = refl
    at (y ∷ ks) zero x = x
    at (y ∷ ks) (suc i) x = at ks i x

module _ (known rest : List Tree) where
  leaf_fit : (g : Head) (d : ℕ) (e : Tree) → same_tree (change (typing (known ++ rest)) d (Leaf g)) e ≡ true → leaf_fits known g e ≡ true
  leaf_fit (HTyVar j) d e h = known_at known rest j e h
  leaf_fit _ d e h = h

  fit : (a : Tree) (d : ℕ) (e : Tree) → same_tree (change (typing (known ++ rest)) d a) e ≡ true → may_fit known a e ≡ true
  fit (Leaf g) d e h = leaf_fit g d e h
  fit (One g a) d (One k x) h =
      let e = subst (λ (z : Tree). same_tree z (One k x) ≡ true) (one_same (known ++ rest) d g (change (typing (known ++ rest)) d a)) h in
      let b = both (same_head g k) (same_tree (change (typing (known ++ rest)) d a) x) e in
      and_true (same_head g k) (may_fit known a x) b.0 (fit a d x b.1)
  fit (One g a) d (Leaf k) h = let e = subst (λ (z : Tree). same_tree z (Leaf k) ≡ true) (one_same (known ++ rest) d g (change (typing (known ++ rest)) d a)) h in absurd (cc)
  fit (One g a) d (Two k x y) h = let e = subst (λ (z : Tree). same_tree z (Two k x y) ≡ true) (one_same (known ++ rest) d g (change (typing (known ++ rest)) d a)) h in absurd (cc)
  fit (One g a) d (Three k x y z) h = let e = subst (λ (w : Tree). same_tree w (Three k x y z) ≡ true) (one_same (known ++ rest) d g (change (typing (known ++ rest)) d a)) h in absurd (cc)
  fit (Two g a b) d (Two k x y) h =
      let p = both (same_head g k) _ h in
      let q = both (same_tree (change (typing (known ++ rest)) d a) x) _ p.1 in
      and_true (same_head g k) (may_fit known a x && may_fit known b y) p.0 (and_true (may_fit known a x) (may_fit known b y) (fit a d x q.0) (fit b _ y q.1))
  fit (Two g a b) d (Leaf k) h = absurd (cc)
  fit (Two g a b) d (One k x) h = absurd (cc)
  fit (Two g a b) d (Three k x y z) h = absurd (cc)
  fit (Three g a b c) d (Three k x y z) h =
      let p = both (same_head g k) _ h in
      let q = both (same_tree (change (typing (known ++ rest)) d a) x) _ p.1 in
      let r = both (same_tree (change (typing (known ++ rest)) d b) y) _ q.1 in
      and_true (same_head g k) _ p.0 (and_true (may_fit known a x) _ (fit a d x q.0) (and_true (may_fit known b y) (may_fit known c z) (fit b d y r.0) (fit c d z r.1)))
  fit (Three g a b c) d (Leaf k) h = absurd (cc)
  fit (Three g a b c) d (One k x) h = absurd (cc)
  fit (Three g a b c) d (Two k x y) h = absurd (cc)

  matching : (o i : Occurrence) → is_same (at_types (known ++ rest) o) i ≡ true → matches known o i ≡ true
  matching o i h =
      let b = both (o.symbol == i.symbol) (same_tree (inst_types o.types (known ++ rest)) i.types) h in
      and_true (o.symbol == i.symbol) (may_fit known o.types i.types) b.0 (fit o.types 0 i.types b.1)

-- ---- where all type variables are known, what may be is
known_is : (known : List Tree) (j k : ℕ) (e : Tree) → j < length known → known_fits (slice_get known j) e ≡ true → same_tree (get_or known j (TyVar k)) e ≡ true
known_is [] j k e l h = absurd (omega arith)
known_is (y ∷ known) zero k e l h = h
known_is (y ∷ known) (suc j) k e l h = known_is known j k e (omega arith) h

module _ (known : List Tree) where
  leaf_is : (g : Head) (d : ℕ) (e : Tree) → above_ty_vars (Leaf g) ≤ length known → leaf_fits known g e ≡ true → same_tree (change (typing known) d (Leaf g)) e ≡ true
  leaf_is (HTyVar j) d e l h = known_is known j j e (omega arith) h
  leaf_is _ d e l h = h

  fit_is : (a : Tree) (d : ℕ) (e : Tree) → above_ty_vars a ≤ length known → may_fit known a e ≡ true → same_tree (change (typing known) d a) e ≡ true
  fit_is (Leaf g) d e l h = leaf_is g d e l h
  fit_is (One g a) d (One k x) l h =
      let b = both (same_head g k) (may_fit known a x) h in
      subst (λ (z : Tree). same_tree z (One k x) ≡ true) (sym (one_same known d g (change (typing known) d a))) (and_true (same_head g k) (same_tree (change (typing known) d a) x) b.0 (fit_is a d x l b.1))
  fit_is (One g a) d (Leaf k) l h = absurd (cc)
  fit_is (One g a) d (Two k x y) l h = absurd (cc)
  fit_is (One g a) d (Three k x y z) l h = absurd (cc)
  fit_is (Two g a b) d (Two k x y) l h =
      let p = both (same_head g k) _ h in
      let q = both (may_fit known a x) _ p.1 in
      and_true (same_head g k) _ p.0 (and_true (same_tree (change (typing known) d a) x) _ (fit_is a d x (omega (arith, l)) q.0) (fit_is b _ y (omega (arith, l)) q.1))
  fit_is (Two g a b) d (Leaf k) l h = absurd (cc)
  fit_is (Two g a b) d (One k x) l h = absurd (cc)
  fit_is (Two g a b) d (Three k x y z) l h = absurd (cc)
  fit_is (Three g a b c) d (Three k x y z) l h =
      let p = both (same_head g k) _ h in
      let q = both (may_fit known a x) _ p.1 in
      let r = both (may_fit known b y) _ q.1 in
      and_true (same_head g k) _ p.0 (and_true (same_tree (change (typing known) d a) x) _ (fit_is a d x (omega (arith, l)) q.0) (and_true (same_tree (change (typing known) d b) y) _ (fit_is b d y (omega (arith, l)) r.0) (fit_is c d z (omega (arith, l)) r.1)))
  fit_is (Three g a b c) d (Leaf k) l h = absurd (cc)
  fit_is (Three g a b c) d (One k x) l h = absurd (cc)
  fit_is (Three g a b c) d (Two k x y) l h = absurd (cc)

  match_is : (o i : Occurrence) → above_ty_vars o.types ≤ length known → matches known o i ≡ true → is_same (at_types known o) i ≡ true
  match_is o i l h =
      let b = both (o.symbol == i.symbol) (may_fit known o.types i.types) h in
      and_true (o.symbol == i.symbol) (same_tree (inst_types o.types known) i.types) b.0 (fit_is o.types 0 i.types l b.1)

-- ---- tests over lists
pub any_kept : {A : Type 0} (p q : A → Bool) → ((x : A) → p x ≡ true → q x ≡ true) → (xs : List A) → list_any p xs ≡ true → list_any q xs ≡ true
any_kept p q w [] h = h
any_kept p q w (x ∷ xs) h = by (p x) (q x) (w x) (any_kept p q w xs) h
  where
    by : (b c : Bool) → (b ≡ true → c ≡ true) → (list_any p xs ≡ true → list_any q xs ≡ true) → (b || list_any p xs) ≡ true → (c || list_any q xs) ≡ true
    by b true v again e = refl
    by true false v again e = absurd (let f = v refl in cc)
    by false false v again e = again e

any_filtered : {A : Type 0} (f p q : A → Bool) → ((x : A) → p x ≡ true → q x ≡ true) → (xs : List A) → list_any f (filter p xs) ≡ true → list_any (λ x. f x && q x) xs ≡ true
any_filtered f p q w [] h = h
any_filtered f p q w (x ∷ xs) h = by (p x) (q x) (f x) refl (w x) (any_filtered f p q w xs) h
  where
    by : (b c d : Bool) → f x ≡ d → (b ≡ true → c ≡ true) → (list_any f (filter p xs) ≡ true → list_any (λ y. f y && q y) xs ≡ true) → list_any f (cond b (x ∷ filter p xs) (filter p xs)) ≡ true → ((d && c) || list_any (λ y. f y && q y) xs) ≡ true
    by true true true e v again k = refl
    by true true false e v again k = again (ap (λ (z : Bool). z || list_any f (filter p xs)) (sym e) ∙ k)
    by true false d e v again k = absurd (let r = v refl in cc)
    by false c true e v again k = or_any c (again k)
      where
        or_any : (c : Bool) → list_any (λ y. f y && q y) xs ≡ true → (c || list_any (λ y. f y && q y) xs) ≡ true
        or_any true r = refl
        or_any false r = r
    by false c false e v again k = again k

-- and back, for members with a property
filtered_any : {A : Type 0} (P : A → Type 0) (f p q : A → Bool) → ((x : A) → P x → q x ≡ true → p x ≡ true) → (xs : List A) → All P xs → list_any (λ x. f x && q x) xs ≡ true → list_any f (filter p xs) ≡ true
filtered_any P f p q w [] a h = h
filtered_any P f p q w (x ∷ xs) a h = by (p x) (q x) (f x) refl (w x (a 0 x (omega arith))) (filtered_any P f p q w xs (λ k d l. a (suc k) d (omega arith))) h
  where
    by : (b c d : Bool) → f x ≡ d → (c ≡ true → b ≡ true) → (list_any (λ y. f y && q y) xs ≡ true → list_any f (filter p xs) ≡ true) → ((d && c) || list_any (λ y. f y && q y) xs) ≡ true → list_any f (cond b (x ∷ filter p xs) (filter p xs)) ≡ true
    by true c true e v again k = ap (λ (z : Bool). z || list_any f (filter p xs)) e
    by true c false e v again k = ap (λ (z : Bool). z || list_any f (filter p xs)) e ∙ again k
    by false true d e v again k = absurd (let r = v refl in cc)
    by false false true e v again k = again k
    by false false false e v again k = again k

-- where no instance of the set can mention a variable, nothing is wanted
pub goes_on : (s : List Occurrence) (a : Tree) (known rest : List Tree) → is_wanted s a (known ++ rest) ≡ true → may_go_on s a known ≡ true
goes_on s a known rest h = each_weaker (above_ty_vars a) _ _ (λ j. by j (has_variable j a)) h
  where
    by : (j : ℕ) (b : Bool) → (not b || list_any (mentions j) (filter (λ o. has s (at_types (known ++ rest) o)) (driving a))) ≡ true → (not b || list_any (λ o. mentions j o && list_any (matches known o) s) (driving a)) ≡ true
    by j false e = refl
    by j true e = any_filtered (mentions j) (λ o. has s (at_types (known ++ rest) o)) (λ o. list_any (matches known o) s) (λ o. any_kept (is_same (at_types (known ++ rest) o)) (matches known o) (matching known rest o) s) (driving a) e

abbrev Below : ℕ → Occurrence → Type 0
Below n o = above_ty_vars o.types ≤ n

-- and where all are known, what may be wanted is
all_known : (s : List Occurrence) (a : Tree) (known : List Tree) → above_ty_vars a ≤ length known → may_go_on s a known ≡ true → is_wanted s a known ≡ true
all_known s a known l h = each_weaker (above_ty_vars a) _ _ (λ j. by j (has_variable j a)) h
  where
    by : (j : ℕ) (b : Bool) → (not b || list_any (λ o. mentions j o && list_any (matches known o) s) (driving a)) ≡ true → (not b || list_any (mentions j) (filter (λ o. has s (at_types known o)) (driving a))) ≡ true
    by j false e = refl
    by j true e = filtered_any (Below (length known)) (mentions j) (λ o. has s (at_types known o)) (λ o. list_any (matches known o) s) (λ o k. any_kept (matches known o) (is_same (at_types known o)) (λ i. match_is known o i k) s) (driving a) (driving_below a (length known) l) e

pub same_tests : (a b : Bool) → (a ≡ true → b ≡ true) → (b ≡ true → a ≡ true) → a ≡ b
same_tests true b f g = sym (f refl)
same_tests false true f g = g refl
same_tests false false f g = refl

pub wanted_known : (s : List Occurrence) (a : Tree) (known : List Tree) → above_ty_vars a ≤ length known → may_go_on s a known ≡ is_wanted s a known
wanted_known s a known l = same_tests (may_go_on s a known) (is_wanted s a known) (all_known s a known l) (λ h. goes_on s a known [] (ap (is_wanted s a) (append-nil known) ∙ h))

not_wanted : (w m : Bool) → (w ≡ true → m ≡ true) → m ≡ false → w ≡ false
not_wanted true m f e = absurd (let g = f refl in cc)
not_wanted false m f e = refl

-- ---- what the search finds
module _ (s : List Occurrence) (types : List Tree) (a : Tree) where
  pub found_none : (known : List Tree) (n : ℕ) → may_go_on s a known ≡ false → found_from s types a known n ≡ []
  found_none known n e = none_found s types a known (assignments types a (length known) n) (λ rest. not_wanted (is_wanted s a (known ++ rest)) (may_go_on s a known) (goes_on s a known rest) e)

  pub found_one : (known : List Tree) → above_ty_vars a ≤ length known → may_go_on s a known ≡ true → found_from s types a known 0 ≡ known ∷ []
  found_one known l e = ap (λ (z : List Tree). if is_wanted s a z then z ∷ [] else []) (append-nil known) ∙ ap (λ (b : Bool). if b then known ∷ [] else []) (all_known s a known l e)
