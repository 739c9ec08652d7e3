-- The equations so far, the next one, and what is promised at the end.
use Rattle.std.proofs.Common.{◌≡◌, ℕ, ◌+◌, ◌<◌, ◌≤◌, List, [], ◌∷◌, ◌++◌, Option, Some, None, length, get_or, take, sym, refl, ap, ◌∙◌, subst, nat_eq}
use Rattle.std.proofs.lemmas.List.{take_more}
use Rattle.std.specs.HashMap.{HashMap, get}
use Rattle.trees.proofs.Nodes.{Grows_trans}
use Rattle.trees.specs.declared.TermId.{TermId}
use Rattle.trees.specs.Tree.{Tree}
use Rattle.trees.specs.Node.{tree_at, Grows}
use Rattle.open_types.specs.declared.unify_types.bindings.Bound.{Bound}
use Rattle.open_types.specs.declared.unify_types.Equation.{Equation}
use Rattle.open_types.specs.unify_types.Assigned.{assign, IsType, MeetsEquation, Solves}
use Rattle.open_types.specs.unify_types.Bound.{Binding, resolve, IsTriangular, Agrees, bound_over}
use Rattle.open_types.specs.unify_types.Further.{Unifies, Fails}
use Rattle.open_types.specs.unify_types.Valued.{AreValues, IsTreated}
use Rattle.open_types.specs.unify_types.Solution.{IsEquation, HasSolution, HasNoSolution, HasMostGeneral, IsValue, SolvesFirst}
use Rattle.open_types.proofs.unify_types.Assigning.{assign-unknown, agrees-resolve, resolve-agrees, resolve-types}
use Rattle.open_types.proofs.unify_types.Resolved.{tree_grown, held_grown, over_grown}
use Rattle.open_types.proofs.unify_types.Unified.{meets_grown, meets_before}
use Rattle.open_types.proofs.unify_types.Values.{assign-closed, Differ, open_differs}

solves_parts : (r : ℕ) (f : ℕ → Tree) (s : List Tree) (es : List Equation) (e : Equation) → Solves r f s (es ++ e ∷ []) → Solves r f s es × MeetsEquation r f s e
solves_parts r f s [] e h = (tt, h.0)
solves_parts r f s (x ∷ xs) e h = let p : Solves r f s xs × MeetsEquation r f s e = solves_parts r f s xs e h.1 in ((h.0, p.0), p.1)

solves_both : (r : ℕ) (f : ℕ → Tree) (s : List Tree) (es : List Equation) (e : Equation) → Solves r f s es → MeetsEquation r f s e → Solves r f s (es ++ e ∷ [])
solves_both r f s [] e h m = (m, tt)
solves_both r f s (x ∷ xs) e h m = (h.0, solves_both r f s xs e h.1 m)

pub equation_grown : (old s : List Tree) (e : Equation) → Grows old s → IsEquation old e → IsEquation s e
equation_grown old s e g p = record {
  left_held = held_grown old s e.left g p.left_held;
  right_held = held_grown old s e.right g p.right_held;
  left_type = subst (λ (t : Tree). IsType t) (sym (tree_grown old s e.left g p.left_held)) p.left_type;
  right_type = subst (λ (t : Tree). IsType t) (sym (tree_grown old s e.right g p.right_held)) p.right_type;
}

pub solves_next : (r : ℕ) (old : List Tree) (es : List Equation) (k : ℕ) (s s' : List Tree) (bs bs' : List Bound) (e : Equation)
    → SolvesFirst r old es k s bs → k < length es → get_or es k e ≡ e → IsEquation old e → Unifies r s bs e s' bs' → SolvesFirst r old es (k + 1) s' bs'
solves_next r old es k s s' bs bs' e p within at eq u =
    let more : take (k + 1) es ≡ take k es ++ e ∷ [] = take_more es k e within ∙ ap (λ (x : Equation). take k es ++ x ∷ []) at in
    record {
      grows = Grows_trans old s s' p.grows u.narrows.grows;
      bound = u.narrows.bound;
      triangular = u.narrows.triangular;
      forth = λ f h.
          let q : Solves r f old (take k es) × MeetsEquation r f old e = solves_parts r f old (take k es) e (subst (λ (l : List Equation). Solves r f old l) more h) in
          u.narrows.forth f (p.forth f q.0) (meets_grown r f old s e p.grows eq.left_held eq.right_held q.1);
      back = λ f h. subst (λ (l : List Equation). Solves r f old l) (sym more) (solves_both r f old (take k es) e (p.back f (u.narrows.back f h)) (meets_before r f old s e p.grows eq.left_held eq.right_held (u.solved f h)));
    }

pub clash_fails : (r : ℕ) (old : List Tree) (es : List Equation) (k : ℕ) (s : List Tree) (bs : List Bound) (e : Equation)
    → SolvesFirst r old es k s bs → k < length es → get_or es k e ≡ e → IsEquation old e → Fails r s bs e → HasNoSolution r old (take (k + 1) es)
clash_fails r old es k s bs e p within at eq fails f h =
    let more : take (k + 1) es ≡ take k es ++ e ∷ [] = take_more es k e within ∙ ap (λ (x : Equation). take k es ++ x ∷ []) at in
    let q : Solves r f old (take k es) × MeetsEquation r f old e = solves_parts r f old (take k es) e (subst (λ (l : List Equation). Solves r f old l) more h) in
    fails f (p.forth f q.0) (meets_grown r f old s e p.grows eq.left_held eq.right_held q.1)

pub clash_solved : (r : ℕ) (old : List Tree) (es : List Equation) (k : ℕ) (s : List Tree) (bs : List Bound) → SolvesFirst r old es k s bs → HasSolution r old (take k es)
clash_solved r old es k s bs p = record {
  assigned = resolve r (bound_over s bs);
  types = resolve-types r (bound_over s bs) p.triangular;
  solves = p.back (resolve r (bound_over s bs)) (resolve-agrees r (bound_over s bs) p.triangular);
}

pub most_general : (r : ℕ) (old : List Tree) (es : List Equation) (k : ℕ) (s : List Tree) (bs : List Bound) → SolvesFirst r old es k s bs → take k es ≡ es → HasMostGeneral r old es
most_general r old es k s bs p whole = record {
  assigned = resolve r (bound_over s bs);
  types = resolve-types r (bound_over s bs) p.triangular;
  solves = subst (λ (l : List Equation). Solves r (resolve r (bound_over s bs)) old l) whole (p.back (resolve r (bound_over s bs)) (resolve-agrees r (bound_over s bs) p.triangular));
  general = λ f h j above. agrees-resolve r f (bound_over s bs) (p.forth f (subst (λ (l : List Equation). Solves r f old l) (sym whole) h)) j above;
}

module _ {S : Type 0} where
  pub value_given : (r : ℕ) (old : List Tree) (es : List Equation) (k : ℕ) (s s' : List Tree) (bs : List Bound) (m : HashMap ℕ TermId S) → SolvesFirst r old es k s bs → take k es ≡ es → Grows s s'
      → AreValues r (bound_over s' bs) s' m → ((u : ℕ) → r ≤ u → IsTreated r (bound_over s' bs) m u) → (u : ℕ) → r ≤ u → IsValue r old es s' u (get nat_eq m u)
  value_given r old es k s s' bs m p whole g values treated u above = at (get nat_eq m u) refl where
    same : bound_over s' bs ≡ bound_over s bs
    same = over_grown s s' bs g p.bound

    triangular : IsTriangular r (bound_over s' bs)
    triangular = subst (λ (l : List Binding). IsTriangular r l) (sym same) p.triangular

    back : (f : ℕ → Tree) → Agrees r f (bound_over s' bs) → Solves r f old es
    back f h = subst (λ (l : List Equation). Solves r f old l) whole (p.back f (subst (λ (l : List Binding). Agrees r f l) same h))

    forth : (f : ℕ → Tree) → Solves r f old es → Agrees r f (bound_over s' bs)
    forth f h = subst (λ (l : List Binding). Agrees r f l) (sym same) (p.forth f (subst (λ (l : List Equation). Solves r f old l) (sym whole) h))

    at : (o : Option TermId) → get nat_eq m u ≡ o → IsValue r old es s' u o
    at None e =
        let d : Differ r (bound_over s' bs) u = open_differs r (bound_over s' bs) u triangular above (treated u above e) in
        record {
          first = d.first;
          second = d.second;
          first_types = d.first_types;
          second_types = d.second_types;
          first_solves = back d.first d.first_agrees;
          second_solves = back d.second d.second_agrees;
          differ = d.differ;
        }
    at (Some id) e =
        let v = values u id e in
        (v.0, λ f h. sym (agrees-resolve r f (bound_over s' bs) (forth f h) u above) ∙ sym (ap (assign r f) (v.1 ∙ assign-unknown r (resolve r (bound_over s' bs)) u above)) ∙ assign-closed r f (tree_at s' id) v.2)
