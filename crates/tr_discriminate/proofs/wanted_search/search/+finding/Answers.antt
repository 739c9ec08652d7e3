use Rattle.std.proofs.Common.{◌≡◌, ◌≤◌, ◌-◌, ℕ, true, false, ◌++◌, ◌∷◌, [], List, map, length, get_or, take, sym, ap, subst, ◌∙◌, arith, length-append}
use Rattle.std.specs.Vec.{vec_len}
use Rattle.std.proofs.lemmas.Result.{on_ok_weaker}
use Rattle.std.proofs.Math.Seq.{take-append_seam}
use Rattle.trees.specs.declared.TermId.{TermId}
use Rattle.trees.specs.Tree.{Tree}
use Rattle.trees.specs.Node.{tree_at, trees_at}
use Rattle.name_tables.specs.Seen.{seen_occurrences, GainsKeys}
use Rattle.tr_discriminate.specs.wanted_instances.Instances.{types_within, has_variable}
use Rattle.tr_discriminate.specs.wanted_instances.Search.{found_from, may_go_on}
use Rattle.tr_discriminate.specs.wanted_search.Search.{key_type, FindsUpTo}
use Rattle.tr_discriminate.proofs.wanted_search.Finding.{finds_none, finds_one, finds_step, goes_on_by, choices_used, choices_unused, stops, ends, each_more}
use Rattle.tr_discriminate.proofs.wanted_search.search.+finding.Goals as goal

pub find-returns-then-not-may_go_on-clause-found : goal.find-returns-then-not-may_go_on-clause-found
find-returns-then-not-may_go_on-clause-found t c =
    let s = c.args.store.now in
    let x = c.args.search.now in
    let a = tree_at s x.formula in
    let no = sym c.if-not-may_go_on.true ∙ c.may_go_on.ensures ∙ ap (λ (z : List TermId). may_go_on (seen_occurrences s x.set.now) a (trees_at s z)) c.as_slice.ensures.value in
    finds_none s x.most c.args.found.now.items _ c.requires.found (stops s x.set.now x.types.now a c.args.known.now.items c.args.left no)

pub find-returns-then-left-eq0-clause-found : goal.find-returns-then-left-eq0-clause-found
find-returns-then-left-eq0-clause-found t c =
    let s = c.args.store.now in
    let x = c.args.search.now in
    let a = tree_at s x.formula in
    let known = c.args.known.now.items in
    let old = c.args.found.now.items in
    let yes = sym c.if-not-may_go_on.false ∙ c.may_go_on.ensures ∙ ap (λ (z : List TermId). may_go_on (seen_occurrences s x.set.now) a (trees_at s z)) c.as_slice.ensures.value in
    let few : length old ≤ x.most = omega (arith, c.len.ensures, c.if-len-search.false) in
    let one = ends s x.set.now x.types.now a known c.args.left c.if-left-eq0.true c.requires.long yes in
    let is : c.push.new.self.items ≡ old ++ known ∷ [] = c.in_ok-push.ensures.items ∙ ap (λ (z : List TermId). old ++ z ∷ []) (c.in_ok-from_slice.ensures ∙ c.as_slice-then-left-eq0.ensures.value) in
    subst (FindsUpTo s x.most old _) (sym is) (finds_one s x.most old known _ c.requires.found few c.requires.known one)

pub find-returns-then-has_variable-clause-found : goal.find-returns-then-has_variable-clause-found
find-returns-then-has_variable-clause-found t c =
    let s = c.args.store.now in
    let x = c.args.search.now in
    let a = tree_at s x.formula in
    let known = c.args.known.now.items in
    let left = c.args.left in
    let inside = subst (GainsKeys s [] (types_within a)) (sym c.as_slice-2.ensures) c.requires.asking.inside in
    let count : vec_len c.args.known.now ≡ length known = omega (arith, c.args.known.now.ok.0) in
    let yes : true ≡ has_variable (length known) a = sym c.if-has_variable.true ∙ c.has_variable.ensures a inside ∙ ap (λ (n : ℕ). has_variable n a) (c.len-2.ensures ∙ count) in
    let all = goes_on_by s x.set.now x.types.now a known left (left - 1) (map (key_type s) x.types.now) (omega (arith, c.if-left-eq0.false)) (choices_used s x.set.now x.types.now a (length known) yes) in
    on_ok_weaker c.find_each.result (λ k. subst (λ (z : List (List Tree)). FindsUpTo s x.most c.args.found.now.items z c.find_each.new.found.items) (sym all) k) c.find_each.ensures.found

pub find-returns-clause-found : goal.find-returns-clause-found
find-returns-clause-found t c =
    let s = c.args.store.now in
    let x = c.args.search.now in
    let a = tree_at s x.formula in
    let known = c.args.known.now.items in
    let left = c.args.left in
    let int = c.int_type.result.0 in
    let inside = subst (GainsKeys s [] (types_within a)) (sym c.as_slice-2.ensures) c.requires.asking.inside in
    let count : vec_len c.args.known.now ≡ length known = omega (arith, c.args.known.now.ok.0) in
    let no : false ≡ has_variable (length known) a = sym c.if-has_variable.false ∙ c.has_variable.ensures a inside ∙ ap (λ (n : ℕ). has_variable n a) (c.len-2.ensures ∙ count) in
    let all = goes_on_by s x.set.now x.types.now a known left (left - 1) (map (key_type s) ((0, int) ∷ [])) (omega (arith, c.if-left-eq0.false)) (choices_unused s x.set.now x.types.now a (length known) int no c.int_type.ensures.tree) in
    on_ok_weaker c.find_each-2.result (λ k. subst (λ (z : List (List Tree)). FindsUpTo s x.most c.args.found.now.items z c.find_each-2.new.found.items) (sym all) k) c.find_each-2.ensures.found

abbrev no_key : ℕ × ℕ
no_key = (0, 0)

pub find_each-loop-key-preserved : goal.find_each-loop-key-preserved
find_each-loop-key-preserved t c =
    let s = c.args.store.now in
    let x = c.args.search.now in
    let a = tree_at s x.formula in
    let known = c.args.known.now.items in
    let i = c.loop-key.key-index in
    let id : TermId = record { 0 = (get_or c.args.choices.now i no_key).1 } in
    let pushed : c.push.new.self.items ≡ known ++ id ∷ [] = c.in_ok-push.ensures.items ∙ ap (λ (z : List TermId). z ++ id ∷ []) c.loop-key.invariant.known in
    let after : c.find.new.known.items ≡ known ++ id ∷ [] = c.in_ok-find.ensures.known ∙ pushed in
    let long : vec_len c.find.new.known - 1 ≡ length known = omega (arith, c.find.new.known.ok.0, ap length after, length-append known (id ∷ [])) in
    let next = subst (λ (z : List TermId). FindsUpTo s x.most c.loop-key.found.items (found_from (seen_occurrences s x.set.now) (map (key_type s) x.types.now) a (trees_at s z) c.args.left) c.find.new.found.items) pushed c.in_ok-find.ensures.found in
    record {
      known = c.pop.ensures.rest ∙ ap (take (vec_len c.find.new.known - 1)) after ∙ ap (λ (k : ℕ). take k (known ++ id ∷ [])) long ∙ take-append_seam known (id ∷ []);
      found = finds_step s x.most c.args.found.now.items c.loop-key.found.items c.find.new.found.items _ _ _ (each_more s x.set.now x.types.now a known c.args.left c.args.choices.now i no_key c.loop-key-test.true) c.loop-key.invariant.found next;
    }
