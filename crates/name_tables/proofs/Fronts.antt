-- Tasks with the same declarations have the same notes of them.
use Rattle.std.proofs.Common.{◌≡◌, ℕ, ◌+◌, List, [], ◌∷◌, ◌++◌, length, filter, refl, sym, ap, subst, ◌∙◌, arith, length-append, Option, Some, None, IfSome, IsSomeAnd, Bor}
use Rattle.std.specs.List.{flat_map}
use Rattle.std.proofs.lemmas.List.{append-nil, length-map, nil_from_length}
use Rattle.trees.specs.Tree.{Tree}
use Rattle.tasks.specs.declared.declaration.Decl.{Decl}
use Rattle.tasks.specs.declared.task.Task.{Task}
use Rattle.tasks.specs.Task.{TaskTree, declared, made, made_by, props_of}
use Rattle.tasks.specs.Meaning.{body_at, declaration_at, declarations_at, task_at}
use Rattle.name_tables.specs.declared.noted.Noted.{Noted}
use Rattle.name_tables.specs.Occurrences.{Occurrence, task_occurrences}
use Rattle.name_tables.specs.Own.{said_occurrences}
use Rattle.name_tables.specs.Tables.{distinct, symbol_instances, problem_things}
use Rattle.name_tables.specs.Seen.{occurrence_at, seen_occurrences, with_all, KeysHeld, Sees}
use Rattle.name_tables.specs.Fronts.{declared_occurrences, rest_occurrences, things_among, bodies_at, HaveSameFront, IsNotedFor, IsFrontNoted}
use Rattle.name_tables.proofs.Distinct.{is_new, gathered}
use Rattle.name_tables.proofs.Grouped.{gathered_among}
use Rattle.name_tables.proofs.Loops.{said_first}
use Rattle.name_tables.proofs.Steps.{sees_then}

-- what declarations say and make is in their bodies
said_by_bodies : (s : List Tree) (ds : List Decl) → declared_occurrences (declarations_at s ds) ≡ flat_map said_occurrences (bodies_at s ds)
said_by_bodies s [] = refl
said_by_bodies s (d ∷ ds) =
    said_first (declaration_at s d) (body_at s d.body) (props_of (declarations_at s ds)) ∙ ap (λ z. said_occurrences (body_at s d.body) ++ z) (said_by_bodies s ds)

made_by_bodies : (s : List Tree) (ds : List Decl) → made (declarations_at s ds) ≡ flat_map made_by (bodies_at s ds)
made_by_bodies s [] = refl
made_by_bodies s (d ∷ ds) = ap (λ z. made_by (body_at s d.body) ++ z) (made_by_bodies s ds)

-- the notes of one task are those of another
pub noted_same : (s : List Tree) (a b : Task) (n : Noted) → HaveSameFront a b → IsNotedFor s (task_at s a) n → IsNotedFor s (task_at s b) n
noted_same s a b n f h =
    let said : declared_occurrences (declarations_at s a.decls) ≡ declared_occurrences (declarations_at s b.decls) = said_by_bodies s a.decls ∙ ap (flat_map said_occurrences) (f.bodies s) ∙ sym (said_by_bodies s b.decls) in
    let makes : made (declarations_at s a.decls) ≡ made (declarations_at s b.decls) = made_by_bodies s a.decls ∙ ap (flat_map made_by) (f.bodies s) ∙ sym (made_by_bodies s b.decls) in
    record {
      seen = subst (λ z. Sees s [] z n.seen.keys) said h.seen;
      held = h.held;
      things = h.things ∙ (λ i. distinct (flat_map (symbol_instances (f.ints i) (said i)) (0 ∷ f.rigid i ++ makes i)));
    }

-- where there are no more, none was added
none_added : (os ps : List Occurrence) → length (with_all os ps) ≡ length os → with_all os ps ≡ os
none_added os ps e =
    let more = filter (is_new os) (distinct ps) in
    let g : with_all os ps ≡ os ++ more = gathered os ps in
    let n : length (os ++ more) ≡ length os + length more = length-append os more in
    let m : length (os ++ more) ≡ length os = sym (ap length g) ∙ e in
    g ∙ ap (λ z. os ++ z) (nil_from_length more (omega (arith, n, m))) ∙ append-nil os

module _ (s : List Tree) (t : TaskTree) (n : Noted) (b : List (ℕ × ℕ)) (h : IsNotedFor s t n) (k : Sees s n.seen.keys (rest_occurrences t) b) where
  all_seen : seen_occurrences s b ≡ with_all [] (task_occurrences t)
  all_seen = (sees_then s [] n.seen.keys b (declared_occurrences t.decls) (rest_occurrences t) h.seen k).is

  -- what is in the table of what was gathered
  pub things_with_rest : things_among t (seen_occurrences s b) ≡ problem_things t
  things_with_rest = ap (things_among t) all_seen ∙ gathered_among t (task_occurrences t)

  -- and where the rest adds nothing
  pub things_without_more : length b ≡ length n.seen.keys → seen_occurrences s n.things ≡ problem_things t
  things_without_more e =
      let old = seen_occurrences s n.seen.keys in
      let m : length (seen_occurrences s b) ≡ length old = length-map b (occurrence_at s) ∙ e ∙ sym (length-map n.seen.keys (occurrence_at s)) in
      let same : seen_occurrences s b ≡ old = k.is ∙ none_added old (rest_occurrences t) (sym (ap length k.is) ∙ m) in
      h.things ∙ sym (gathered_among t (declared_occurrences t.decls)) ∙ ap (things_among t) (sym h.seen.is ∙ sym same) ∙ things_with_rest

-- what is noted of the declarations of a task
pub noted_made : (s : List Tree) (t : Task) (n : Noted) (ds : List Decl) (keys : List (ℕ × ℕ)) → ds ≡ t.decls → keys ≡ n.seen.keys → Sees s [] (declared_occurrences (declarations_at s ds)) n.seen.keys → KeysHeld s n.things
    → seen_occurrences s n.things ≡ things_among (task_at s t) (seen_occurrences s keys) → IsNotedFor s (task_at s t) n
noted_made s t n ds keys d k h held things =
    let u = task_at s t in
    let seen : Sees s [] (declared_occurrences u.decls) n.seen.keys = subst (λ (z : List Decl). Sees s [] (declared_occurrences (declarations_at s z)) n.seen.keys) d h in
    record {
      seen = seen;
      held = held;
      things = things ∙ ap (λ (z : List (ℕ × ℕ)). things_among u (seen_occurrences s z)) k ∙ ap (things_among u) seen.is ∙ gathered_among u (declared_occurrences u.decls);
    }

-- notes that are those of a task
noted_by : (s : List Tree) (n : Noted) (t : Task) (front : Option (Bor Task)) → IfSome front (λ f. IsNotedFor s (task_at s f.now) n) → IsSomeAnd front (λ f. HaveSameFront f.now t) → IsNotedFor s (task_at s t) n
noted_by s n t None i h = absurd h
noted_by s n t (Some f) i h = noted_same s f.now t n h i

pub noted_for : (s : List Tree) (n : Noted) (t : Task) → IsFrontNoted s n → IsSomeAnd n.front (λ f. HaveSameFront f.now t) → IsNotedFor s (task_at s t) n
noted_for s n t i h = noted_by s n t n.front i h
