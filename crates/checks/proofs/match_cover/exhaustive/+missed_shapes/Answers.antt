use Rattle.std.proofs.Common.{◌≡◌, ◌+◌, ◌-◌, ◌<◌, length, get_or, Some, None, ap, sym, subst, ◌∙◌, arith, rules}
use Rattle.std.proofs.lemmas.List.Elements.{All-nil}
use Rattle.tasks.specs.Meaning.{symbols_at}
use Rattle.checks.specs.match_cover.Meaning.{shapes_of, table_at, TableHeld}
use Rattle.checks.specs.match_cover.Tables.{Answered, specialized, Splits}
use Rattle.std.specs.Option.{option_map}
use Rattle.checks.proofs.match_cover.Missing.{empty_is, empty_not, answer_empty, answer_narrow, next_table, next_smaller, answer_plain, left_table, left_smaller, enough, answer_missed, parts_more, answer_covered, in_list, read_same}
use Rattle.checks.proofs.match_cover.Answering.{answered_irrefutable}
use Rattle.checks.proofs.match_cover.exhaustive.+missed_shapes.Goals as goal

pub returns-then-is_empty : goal.returns-then-is_empty
returns-then-is_empty t c =
    answer_empty (symbols_at c.args.store.now c.args.sig.now.symbols) c.args.store.now c.args.at c.args.rows.now c.args.columns
    c.is_empty.result c.in_ok-all.all.items c.is_empty.ensures c.if-is_empty.true c.in_ok-all.ensures

pub returns-then-columns-eq0 : goal.returns-then-columns-eq0
returns-then-columns-eq0 t c =
    answer_narrow (symbols_at c.args.store.now c.args.sig.now.symbols) c.args.store.now c.args.at c.args.rows.now c.args.columns
    (empty_not c.args.rows.now c.is_empty.result c.is_empty.ensures c.if-is_empty.false) c.if-columns-eq0.true

pub returns-then-some_irrefutable : goal.returns-then-some_irrefutable
returns-then-some_irrefutable t c =
    answered_irrefutable (symbols_at c.args.store.now c.args.sig.now.symbols) c.args.columns (table_at c.args.store.now c.args.at c.args.rows.now)
    (sym c.some_irrefutable.ensures ∙ c.if-some_irrefutable.true)

pub missed_shapes-requires : goal.missed_shapes-requires
missed_shapes-requires t c =
    let symbols = symbols_at c.args.store.now c.args.sig.now.symbols in
    let s = c.args.store.now in
    let at = c.args.at in
    let rows = c.args.rows.now in
    let w = c.args.columns in
    let l : 0 < w = let n = c.if-columns-eq0.false in omega arith in
    let n = empty_not rows c.is_empty.result c.is_empty.ensures c.if-is_empty.false in
    let smaller = next_smaller symbols s at rows w l n c.requires.table in
    (search (rules, smaller), (c.requires.held, (c.requires.symbols_held, ((let f = c.requires.fits in omega arith), next_table symbols s at rows w l c.requires.table))))

pub returns-then-is_empty-2 : goal.returns-then-is_empty-2
returns-then-is_empty-2 t c =
    let symbols = symbols_at c.args.store.now c.args.sig.now.symbols in
    let l : 0 < c.args.columns = let n = c.if-columns-eq0.false in omega arith in
    answer_plain symbols c.args.store.now c.args.at c.args.rows.now c.args.columns c.in_ok-cons.cons.items
    (option_map (λ v. shapes_of v.items) c.in_ok-rest.rest) (option_map (λ v. shapes_of v.items) c.in_ok-whole.whole) l
    (sym c.as_slice-found.ensures.value ∙ empty_is c.as_slice-found.result.now c.is_empty-2.result c.is_empty-2.ensures c.if-is_empty-2.true)
    c.in_ok-cons.ensures c.in_ok-rest.ensures c.in_ok-whole.ensures

pub loop-con-init : goal.loop-con-init
loop-con-init t c = All-nil _

pub missed_shapes-requires-in-loop-con : goal.missed_shapes-requires-in-loop-con
missed_shapes-requires-in-loop-con t c =
    let symbols = symbols_at c.args.store.now c.args.sig.now.symbols in
    let s = c.args.store.now in
    let at = c.args.at in
    let rows = c.args.rows.now in
    let w = c.args.columns in
    let ks = c.as_slice-found.result.now in
    let i = c.loop-con.con-index in
    let k = get_or ks i 0 in
    let l : 0 < w = (let n = c.if-columns-eq0.false in omega arith) in
    let some = empty_not ks c.is_empty-2.result c.is_empty-2.ensures c.if-is_empty-2.false in
    let split : Splits symbols (table_at s at rows) ks = subst (Splits symbols (table_at s at rows)) (sym c.as_slice-found.ensures.value) c.in_ok-cons.ensures in
    let inside : i < length ks = c.loop-con-test.true in
    let has = in_list ks i k inside (read_same ks i inside) in
    let n = c.arity_of-arity.result in
    let m = c.in-Some.more in
    let left = c.as_slice.result.now in
    let wide : m ≡ n + (w - 1) = (let q = c.in-Some.ensures in omega (arith, q.1)) in
    let is : table_at s 0 left ≡ specialized k n (table_at s at rows) = ap (table_at s 0) c.as_slice.ensures.value ∙ c.in_ok-left.ensures.tree in
    let part = left_table symbols s at rows w ks k n m left c.arity_of-arity.ensures wide is l some split has c.requires.table in
    let rest = empty_not rows c.is_empty.result c.is_empty.ensures c.if-is_empty.false in
    let smaller = left_smaller symbols s at rows w ks k n m left c.arity_of-arity.ensures wide is l rest some split has c.requires.table in
    let held = subst (TableHeld s) (sym c.as_slice.ensures.value) c.in_ok-left.ensures.held in
    (search (rules, smaller), (held, (c.requires.symbols_held, ((let f = c.in-Some.ensures in omega (arith, f.0, wide)), part))))

pub with_built-requires : goal.with_built-requires
with_built-requires t c =
    let symbols = symbols_at c.args.store.now c.args.sig.now.symbols in
    let s = c.args.store.now in
    let at = c.args.at in
    let rows = c.args.rows.now in
    let w = c.args.columns in
    let ks = c.as_slice-found.result.now in
    let i = c.loop-con.con-index in
    let k = get_or ks i 0 in
    let l : 0 < w = (let n = c.if-columns-eq0.false in omega arith) in
    let some = empty_not ks c.is_empty-2.result c.is_empty-2.ensures c.if-is_empty-2.false in
    let split : Splits symbols (table_at s at rows) ks = subst (Splits symbols (table_at s at rows)) (sym c.as_slice-found.ensures.value) c.in_ok-cons.ensures in
    let inside : i < length ks = c.loop-con-test.true in
    let has = in_list ks i k inside (read_same ks i inside) in
    let n = c.arity_of-arity.result in
    let m = c.in-Some.more in
    let left = c.as_slice.result.now in
    let wide : m ≡ n + (w - 1) = (let q = c.in-Some.ensures in omega (arith, q.1)) in
    let is : table_at s 0 left ≡ specialized k n (table_at s at rows) = ap (table_at s 0) c.as_slice.ensures.value ∙ c.in_ok-left.ensures.tree in
    let part = left_table symbols s at rows w ks k n m left c.arity_of-arity.ensures wide is l some split has c.requires.table in
    let answer : Answered symbols m (table_at s 0 left) (Some (shapes_of c.in-Some-2.shapes.items)) =
    subst (λ o. Answered symbols m (table_at s 0 left) (option_map (λ v. shapes_of v.items) o)) c.in-Some-2.is c.in_ok-shapes.ensures in
    omega (arith, enough symbols s at rows w ks k n m left c.arity_of-arity.ensures wide is c.in-Some-2.shapes.items part answer, c.in-Some-2.shapes.ok.0)

pub returns-in-Some-2 : goal.returns-in-Some-2
returns-in-Some-2 t c =
    let symbols = symbols_at c.args.store.now c.args.sig.now.symbols in
    let s = c.args.store.now in
    let at = c.args.at in
    let rows = c.args.rows.now in
    let w = c.args.columns in
    let ks = c.as_slice-found.result.now in
    let i = c.loop-con.con-index in
    let k = get_or ks i 0 in
    let l : 0 < w = (let n = c.if-columns-eq0.false in omega arith) in
    let some = empty_not ks c.is_empty-2.result c.is_empty-2.ensures c.if-is_empty-2.false in
    let split : Splits symbols (table_at s at rows) ks = subst (Splits symbols (table_at s at rows)) (sym c.as_slice-found.ensures.value) c.in_ok-cons.ensures in
    let inside : i < length ks = c.loop-con-test.true in
    let has = in_list ks i k inside (read_same ks i inside) in
    let n = c.arity_of-arity.result in
    let m = c.in-Some.more in
    let left = c.as_slice.result.now in
    let wide : m ≡ n + (w - 1) = (let q = c.in-Some.ensures in omega (arith, q.1)) in
    let is : table_at s 0 left ≡ specialized k n (table_at s at rows) = ap (table_at s 0) c.as_slice.ensures.value ∙ c.in_ok-left.ensures.tree in
    let answer : Answered symbols m (table_at s 0 left) (Some (shapes_of c.in-Some-2.shapes.items)) =
    subst (λ o. Answered symbols m (table_at s 0 left) (option_map (λ v. shapes_of v.items) o)) c.in-Some-2.is c.in_ok-shapes.ensures in
    answer_missed symbols s at rows w ks k n m left c.arity_of-arity.ensures wide is c.in-Some-2.shapes.items c.in_ok-whole-in-Some-2.whole.items l split has answer c.in_ok-whole-in-Some-2.ensures

pub loop-con-preserved : goal.loop-con-preserved
loop-con-preserved t c =
    let symbols = symbols_at c.args.store.now c.args.sig.now.symbols in
    let s = c.args.store.now in
    let at = c.args.at in
    let rows = c.args.rows.now in
    let w = c.args.columns in
    let ks = c.as_slice-found.result.now in
    let i = c.loop-con.con-index in
    let k = get_or ks i 0 in
    let l : 0 < w = (let n = c.if-columns-eq0.false in omega arith) in
    let some = empty_not ks c.is_empty-2.result c.is_empty-2.ensures c.if-is_empty-2.false in
    let split : Splits symbols (table_at s at rows) ks = subst (Splits symbols (table_at s at rows)) (sym c.as_slice-found.ensures.value) c.in_ok-cons.ensures in
    let inside : i < length ks = c.loop-con-test.true in
    let has = in_list ks i k inside (read_same ks i inside) in
    let n = c.arity_of-arity.result in
    let m = c.in-Some.more in
    let left = c.as_slice.result.now in
    let wide : m ≡ n + (w - 1) = (let q = c.in-Some.ensures in omega (arith, q.1)) in
    let is : table_at s 0 left ≡ specialized k n (table_at s at rows) = ap (table_at s 0) c.as_slice.ensures.value ∙ c.in_ok-left.ensures.tree in
    let answer : Answered symbols m (table_at s 0 left) None =
    subst (λ o. Answered symbols m (table_at s 0 left) (option_map (λ v. shapes_of v.items) o)) c.in-None-2.is c.in_ok-shapes.ensures in
    parts_more symbols s at rows w ks k n m left c.arity_of-arity.ensures wide is i inside (read_same ks i inside) answer c.loop-con.invariant

pub returns : goal.returns
returns t c =
    let symbols = symbols_at c.args.store.now c.args.sig.now.symbols in
    let s = c.args.store.now in
    let at = c.args.at in
    let rows = c.args.rows.now in
    let w = c.args.columns in
    let ks = c.as_slice-found.result.now in
    let i = c.loop-con.con-index in
    let k = get_or ks i 0 in
    let l : 0 < w = (let n = c.if-columns-eq0.false in omega arith) in
    let some = empty_not ks c.is_empty-2.result c.is_empty-2.ensures c.if-is_empty-2.false in
    let split : Splits symbols (table_at s at rows) ks = subst (Splits symbols (table_at s at rows)) (sym c.as_slice-found.ensures.value) c.in_ok-cons.ensures in
    answer_covered symbols s at rows w ks i l some split (let e = c.loop-con-test.false in omega arith) c.loop-con.invariant
