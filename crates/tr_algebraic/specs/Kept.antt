-- The task in which algebraic types are symbols with their laws declares the same, and is valid.
use Rattle.std.specs.Prelude.{◌≡◌, ℕ, ◌+◌, suc, true, List, [], ◌∷◌, map, All, Option, Some, None, Result, Ok, refl}
use Rattle.std.proofs.Common.{sym, subst, ◌∙◌, arith}
use Rattle.std.proofs.lemmas.List.Elements.{All-cons, All-nil}
use Rattle.tasks.specs.trees.Tree.{Tree}
use Rattle.tasks.specs.Task.{BodyTree, MakesType, Makes, Defines, Induces, Constructs, Says, DeclarationTree, TaskTree}
use Rattle.tasks.specs.Valid.{IsValid}
use Rattle.evidence.specs.Stages.{IsGrouped, Keeps, Gives, stage_answer, limited_gives}
use Rattle.evidence.specs.Bounded.{gives_small}
use Rattle.walking.specs.evidence.stage_limits.Limits.{are_small}
use Rattle.walking.specs.evidence.changed_tasks.Changed.{with_formula, changed_declarations}
use Rattle.tr_match.specs.match_forms.Forms.{without_matches}
use Rattle.tr_match.specs.Kept.{matches_equation, matches_keep}
use Rattle.tr_algebraic.specs.algebraic_forms.NoMatch.{HasNoMatch}
use Rattle.tr_algebraic.specs.algebraic_tasks.Plain.{IsBodyWithoutMatches, AreDeclsWithoutMatches, IsTaskWithoutMatches}
use Rattle.tr_algebraic.specs.algebraic_tasks.Refused.{refused_by, refused_from}
use Rattle.tr_algebraic.specs.algebraic_tasks.Kept.{small_limited, small_before, laws_keep}
use Rattle.tr_algebraic.specs.Equation.{plain_task, algebraic_task, unless_refused, algebraic_equation}
use Rattle.tr_algebraic.specs.Images.{image_none}

-- ---- the equation
one_of : (o : Option ℕ) (u : TaskTree) (ts : List TaskTree)
    → stage_answer (unless_refused o u) ≡ Ok ts → (ts ≡ u ∷ []) × (o ≡ None)
one_of None u ts e = (limited_gives (u ∷ []) ts e, refl)
one_of (Some decl) u ts e = absurd (cc)

pub algebraic_one : (t : TaskTree) (ts : List TaskTree) → Gives algebraic_equation t ts
    → (ts ≡ algebraic_task t ∷ []) × (refused_from 0 t.decls ≡ None)
algebraic_one t ts e = one_of (refused_from 0 t.decls) (algebraic_task t) ts e

-- ---- the plain task
abbrev NotRefused : BodyTree → Type 0
NotRefused (Defines ds) = ⊥
NotRefused (Induces is) = ⊥
NotRefused _ = Unit {0}

taken_by : (n : ℕ) (b : BodyTree) (o : Option ℕ) → refused_by n b o ≡ None
    → NotRefused b × (o ≡ None)
taken_by n (Defines ds) o e = absurd (cc)
taken_by n (Induces is) o e = absurd (cc)
taken_by n (MakesType k) o e = (tt, e)
taken_by n (Makes k) o e = (tt, e)
taken_by n (Constructs ts) o e = (tt, e)
taken_by n (Says a) o e = (tt, e)

module _ (t : TaskTree) where
  plain_body : (d : DeclarationTree) (b : BodyTree) → d.body ≡ b → NotRefused b
      → IsBodyWithoutMatches (with_formula (without_matches t) d b).body
  plain_body d (Says a) q n = image_none t a
  plain_body d (MakesType k) q n = subst IsBodyWithoutMatches (sym q) tt
  plain_body d (Makes k) q n = subst IsBodyWithoutMatches (sym q) tt
  plain_body d (Constructs ts) q n = subst IsBodyWithoutMatches (sym q) tt
  plain_body d (Defines ds) q n = absurd n
  plain_body d (Induces is) q n = absurd n

  plain_decls : (n : ℕ) (ds : List DeclarationTree) → refused_from n ds ≡ None
      → AreDeclsWithoutMatches (changed_declarations (without_matches t) ds)
  plain_decls n [] e = All-nil (λ (d : DeclarationTree). IsBodyWithoutMatches d.body)
  plain_decls n (d ∷ ds) e =
      let k = taken_by n d.body (refused_from (n + 1) ds) e in
      All-cons (λ (x : DeclarationTree). IsBodyWithoutMatches x.body)
      (with_formula (without_matches t) d d.body) (changed_declarations (without_matches t) ds)
      (plain_body d d.body refl k.0) (plain_decls (n + 1) ds k.1)

  plain_locals : (ls : List Tree) → All HasNoMatch (map (without_matches t) ls)
  plain_locals [] = All-nil HasNoMatch
  plain_locals (l ∷ ls) = All-cons HasNoMatch (without_matches t l) (map (without_matches t) ls)
      (image_none t l) (plain_locals ls)

  plain_is : refused_from 0 t.decls ≡ None → IsTaskWithoutMatches (plain_task t)
  plain_is e = record {
    decls = plain_decls 0 t.decls e;
    locals = plain_locals t.locals;
    goal =
        image_none t t.goal;
  }

-- ---- one after the other
composed : (t u w : TaskTree) → Keeps t u → Keeps u w → Keeps t w
composed t u w a b = record {
  declared = record {
    symbols = b.declared.symbols ∙ a.declared.symbols;
    ints = b.declared.ints ∙ a.declared.ints;
    rigid = b.declared.rigid ∙ a.declared.rigid;
    made = λ k. (
      λ x. (a.declared.made k).0 ((b.declared.made k).0 x),
      λ x.
          (b.declared.made k).1 ((a.declared.made k).1 x),
    );
    groups = λ k g. let e = b.declared.groups k g in
        a.declared.groups k (subst IsGrouped (sym e) g) ∙ e;
  };
  valid = b.valid;
}

module _ (t : TaskTree) (ts : List TaskTree) (valid : IsValid t)
    (gives : Gives algebraic_equation t ts) where
  few : are_small (algebraic_task t ∷ []) ≡ true
  few = subst (λ (us : List TaskTree). are_small us ≡ true) (algebraic_one t ts gives).0
      (gives_small algebraic_equation t ts gives)

  pub plain_gives : Gives matches_equation t (plain_task t ∷ [])
  plain_gives = small_limited (plain_task t ∷ []) (small_before (plain_task t) few)

  plain_kept : Keeps t (plain_task t)
  plain_kept = matches_keep t (plain_task t ∷ []) valid plain_gives 0 (plain_task t) (omega arith)

  pub algebraic_kept : Keeps t (algebraic_task t)
  algebraic_kept = composed t (plain_task t) (algebraic_task t) plain_kept
      (laws_keep (plain_task t) plain_kept.valid (plain_is t (algebraic_one t ts gives).1) few)

  pub algebraic_task_keeps : All (Keeps t) ts
  algebraic_task_keeps = subst (All (Keeps t)) (sym (algebraic_one t ts gives).0)
      (All-cons (Keeps t) (algebraic_task t) [] algebraic_kept (All-nil (Keeps t)))
