-- A task whose declarations are rewritten one by one declares the same, and is valid where it was.
use Rattle.std.specs.Prelude.{◌≡◌, ◌≢◌, AllPairs, Bool, true, false, ◌||◌, ◌==◌, if◌then◌else◌, IsTrue, ℕ, suc, List, [], ◌∷◌, ◌++◌, All, Contains, Option, Some, None, refl}
use Rattle.std.specs.List.{list_any, flat_map}
use Rattle.std.specs.Option.{is_some, option_or}
use Rattle.std.proofs.Common.{inl, inr, sym, subst, ap, ◌∙◌, arith, append_assoc}
use Rattle.std.proofs.lemmas.List.{append-nil}
use Rattle.std.proofs.lemmas.List.Folds.{list_any-append, find-append}
use Rattle.std.proofs.lemmas.List.Elements.{All-nil, All-append, Contains-append_left, Contains-append_right}
use Rattle.plain_laws.proofs.Lists.{All-left, All-right}
use Rattle.tasks.specs.Task.{SymbolTree, TaskTree, DeclarationTree, made, made_by}
use Rattle.tasks.specs.Roles.{RoleTree, maker, role, role_by, role_in, is_made_by, is_constructor}
use Rattle.tasks.specs.Vocabulary.{Vocabulary, of_task}
use Rattle.tasks.specs.Valid.{IsTypeIn, IsFormulaOver, IsValid, IsValidDecl}
use Rattle.tasks.proofs.Declared.{contains_step, made_usable}
use Rattle.tasks.proofs.Moved.{IsWithin}
use Rattle.evidence.specs.Stages.{IsGrouped, Keeps}
use Rattle.evidence.specs.task_parts.Kept.{parts_keep}
use Rattle.declarations.specs.Rewritten.{DeclarationRule, rewritten_decls, rewritten_task, IsAsBefore, KeepsMade, KeepsConstructors, AreUsable, KeepsValid}
use Rattle.declarations.specs.Within.{NamesAll}

made_after : (xs ys : List DeclarationTree) (ks : List ℕ) → made xs ≡ ks
    → made (xs ++ ys) ≡ ks ++ made ys
made_after [] ys ks e = ap (λ (z : List ℕ). z ++ made ys) e
made_after (d ∷ xs) ys ks e =
    ap (λ (z : List ℕ). made_by d.body ++ z) (made_after xs ys (made xs) refl)
    ∙ sym (append_assoc (made_by d.body) (made xs) (made ys))
    ∙ ap (λ (z : List ℕ). z ++ made ys) e

-- a declaration that stays, alone
pub alone_made : (d : DeclarationTree) → made (d ∷ []) ≡ made_by d.body
alone_made d = append-nil (made_by d.body)

pub alone_role : (k : ℕ) (d : DeclarationTree) → is_made_by k d.body ≡ true
    → role_by k (maker (d ∷ []) k) ≡ role_in k d.body
alone_role k d m = by (is_made_by k d.body) m
  where
    by : (b : Bool) → b ≡ true → role_by k (if b then Some d else None) ≡ role_in k d.body
    by true e = refl
    by false e = absurd (cc)

some_if : (b : Bool) (d : DeclarationTree) (o : Option DeclarationTree)
    → is_some (if b then Some d else o) ≡ (b || is_some o)
some_if true d o = refl
some_if false d o = refl

-- a symbol is made by a declaration where it is among those that are made
some_maker : (ds : List DeclarationTree) (k : ℕ)
    → is_some (maker ds k) ≡ list_any (λ j. j == k) (made ds)
some_maker [] k = refl
some_maker (d ∷ ds) k =
    some_if (is_made_by k d.body) d (maker ds k)
    ∙ ap (λ (b : Bool). is_made_by k d.body || b) (some_maker ds k)
    ∙ sym (list_any-append (λ j. j == k) (made_by d.body) (made ds))

-- what is put in the place of a declaration comes first where it makes the symbol, and else doesn't
-- matter
by_first : (P : Option DeclarationTree → Option DeclarationTree → Type 0)
    (first rest old : Option DeclarationTree) (d : DeclarationTree) (b : Bool)
    → is_some first ≡ b → (b ≡ true → P first (Some d)) → P rest old
    → P (option_or first rest) (if b then Some d else old)
by_first P (Some x) rest old d true e p q = p refl
by_first P (Some x) rest old d false e p q = absurd (cc)
by_first P None rest old d true e p q = absurd (cc)
by_first P None rest old d false e p q = q

module _ (g : DeclarationRule) (h : KeepsMade g) where
  module _ (symbols : List SymbolTree) where
    pub made_rewritten : (ds : List DeclarationTree) → made (flat_map (g symbols) ds) ≡ made ds
    made_rewritten [] = refl
    made_rewritten (d ∷ ds) =
        made_after (g symbols d) (flat_map (g symbols) ds) (made_by d.body) (h.made symbols d)
        ∙ ap (λ (z : List ℕ). made_by d.body ++ z) (made_rewritten ds)

    first_made : (d : DeclarationTree) (k : ℕ)
        → is_some (maker (g symbols d) k) ≡ is_made_by k d.body
    first_made d k = some_maker (g symbols d) k ∙ ap (list_any (λ j. j == k)) (h.made symbols d)

    along : (P : Option DeclarationTree → Option DeclarationTree → Type 0) (k : ℕ) → P None None
        → ((d : DeclarationTree) → is_made_by k d.body ≡ true → P (maker (g symbols d) k) (Some d))
        → (ds : List DeclarationTree) → P (maker (flat_map (g symbols) ds) k) (maker ds k)
    along P k none one [] = none
    along P k none one (d ∷ ds) =
        subst (λ (o : Option DeclarationTree). P o (maker (d ∷ ds) k))
        (sym (find-append (λ (x : DeclarationTree). is_made_by k x.body) (g symbols d)
        (flat_map (g symbols) ds)))
        (by_first P (maker (g symbols d) k) (maker (flat_map (g symbols) ds) k) (maker ds k) d
        (is_made_by k d.body) (first_made d k) (one d) (along P k none one ds))

    some_rewritten : (k : ℕ) (ds : List DeclarationTree)
        → is_some (maker (flat_map (g symbols) ds) k) ≡ is_some (maker ds k)
    some_rewritten k ds = some_maker (flat_map (g symbols) ds) k
        ∙ ap (list_any (λ j. j == k)) (made_rewritten ds) ∙ sym (some_maker ds k)

  valid_rewritten : (Small : DeclarationTree → Type 0) (v w : Vocabulary) → KeepsValid Small g v w
      → (ds : List DeclarationTree) → AreUsable v (made ds) → All Small (flat_map (g v.symbols) ds)
      → All (IsValidDecl v) ds → All (IsValidDecl w) (flat_map (g v.symbols) ds)
  valid_rewritten Small v w p [] u n a = All-nil (IsValidDecl w)
  valid_rewritten Small v w p (d ∷ ds) u n a =
      All-append (IsValidDecl w) (g v.symbols d) (flat_map (g v.symbols) ds)
      (p d (λ k c. u k (Contains-append_left (made_by d.body) (made ds) k c))
      (All-left Small (g v.symbols d) (flat_map (g v.symbols) ds) n) (a 0 d (omega arith)))
      (valid_rewritten Small v w p ds
      (λ k c. u k (Contains-append_right (made_by d.body) (made ds) k c))
      (All-right Small (g v.symbols d) (flat_map (g v.symbols) ds) n)
      (λ k e l. a (suc k) e (omega arith)))

  module _ (t : TaskTree) where
    abbrev new : TaskTree
    new = rewritten_task g t

    -- each symbol is made as before, or as nothing more than a symbol
    pub roles_rewritten : (k : ℕ) → IsAsBefore (role new k) (role t k)
    roles_rewritten k = along t.symbols (λ a b. IsAsBefore (role_by k a) (role_by k b)) k (inl refl)
        (λ d. h.roles t.symbols d k) t.decls

    usable_same : (k : ℕ) → (of_task new).usable k ≡ (of_task t).usable k
    usable_same k = ap (λ (b : Bool). k == 0 || b) (some_rewritten t.symbols k t.decls)

    -- what the old task's terms may name, the new one's may
    pub names_all : NamesAll (of_task t) (of_task new)
    names_all = record { symbols = refl; rigid = λ k r. r; usable = λ k u. usable_same k ∙ u }

    constructor_before : (k : ℕ) (a b : RoleTree) → IsAsBefore a b → IsTrue (is_constructor a)
        → IsTrue (is_constructor b)
    constructor_before k a b (inl e) c =
        absurd (let f : true ≡ false = sym c ∙ ap is_constructor e in cc)
    constructor_before k a b (inr e) c = sym (ap is_constructor e) ∙ c

    -- and the other way round, with what patterns may name
    pub within : IsWithin (of_task new) (of_task t)
    within = record {
      symbols = refl;
      rigid = λ k r. r;
      usable =
          λ k u. sym (usable_same k) ∙ u;
      matched =
          λ k c. constructor_before k (role new k) (role t k) (roles_rewritten k) c;
    }

    grouped_as_before : (a b : RoleTree) → IsAsBefore a b → IsGrouped a → b ≡ a
    grouped_as_before a b (inl e) i = absurd (subst IsGrouped e i)
    grouped_as_before a b (inr e) i = sym e

    -- The task keeps what is declared and is valid, where its parameters, its locals and its goal
    -- are valid over the new vocabulary.
    pub kept_over : (Small : DeclarationTree → Type 0)
        → KeepsValid Small g (of_task t) (of_task new) → IsValid t → All Small (rewritten_decls g t)
        → All (IsTypeIn (of_task new) 0) t.params
        → All (IsFormulaOver (of_task new) t.params 0) t.locals
        → IsFormulaOver (of_task new) t.params 0 t.goal → Keeps t new
    kept_over Small p valid few params locals goal =
        parts_keep t (rewritten_decls g t) t.params t.locals t.goal valid (record {
          made = λ i. (
            subst (λ (ks : List ℕ). Contains ks i) (made_rewritten t.symbols t.decls),
            subst
                (λ (ks : List ℕ). Contains ks i) (sym (made_rewritten t.symbols t.decls)),
          );
          groups = λ i e. grouped_as_before (role new i) (role t i) (roles_rewritten i) e;
          once = subst (λ (ks : List ℕ). AllPairs (λ j k. j ≢ k) (0 ∷ t.rigid ++ ks))
              (sym (made_rewritten t.symbols t.decls)) valid.once;
          decls = valid_rewritten Small (of_task t) (of_task new) p t.decls
              (λ k c. made_usable t k (contains_step 0 k (made t.decls) (inr c))) few valid.decls;
          params = params;
          locals = locals;
          goal = goal;
        })

    module _ (c : KeepsConstructors g) where
      constructors_rewritten : (k : ℕ) → is_constructor (role new k) ≡ is_constructor (role t k)
      constructors_rewritten k =
          along t.symbols (λ a b. is_constructor (role_by k a) ≡ is_constructor (role_by k b)) k
          refl (λ d. c t.symbols d k) t.decls

      pub same_vocabulary : of_task new ≡ of_task t
      same_vocabulary = λ i. record {
        symbols = t.symbols;
        rigid = λ k. list_any (λ j. j == k) t.rigid;
        usable = λ k. usable_same k i;
        matched = λ k. constructors_rewritten k i;
      }

      -- The same, where the rule keeps declarations valid over the task's own vocabulary.
      pub rewritten_kept : (Small : DeclarationTree → Type 0)
          → KeepsValid Small g (of_task t) (of_task t) → IsValid t → All Small (rewritten_decls g t)
          → Keeps t new
      rewritten_kept Small p valid few =
          kept_over Small (subst (KeepsValid Small g (of_task t)) (sym same_vocabulary) p) valid few
          (subst (λ (v : Vocabulary). All (IsTypeIn v 0) t.params) (sym same_vocabulary)
          valid.params)
          (subst (λ (v : Vocabulary). All (IsFormulaOver v t.params 0) t.locals)
          (sym same_vocabulary) valid.locals)
          (subst (λ (v : Vocabulary). IsFormulaOver v t.params 0 t.goal) (sym same_vocabulary)
          valid.goal)
