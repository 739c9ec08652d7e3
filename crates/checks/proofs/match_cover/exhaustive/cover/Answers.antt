use Rattle.std.proofs.Common.{◌≡◌, [], ◌∷◌, ◌++◌, map, Some, None, ap, sym, ◌∙◌, subst, refl, arith}
use Rattle.std.specs.Option.{option_map, option_to_list}
use Rattle.tasks.specs.Meaning.{trees_at, symbols_at}
use Rattle.checks.specs.match_cover.Shapes.{Escapes}
use Rattle.checks.specs.match_cover.Tables.{Answered}
use Rattle.checks.specs.match_cover.Meaning.{shape_of, shapes_of, table_at, single_pattern}
use Rattle.checks.proofs.match_cover.Missing.{empty_is, empty_escapes, some_iff, rows_held, rows_table, none_exhaustive, escapes_last, never_empty}
use Rattle.checks.proofs.match_cover.exhaustive.cover.Goals as goal

pub returns-then-is_empty-clause-exhaustive : goal.returns-then-is_empty-clause-exhaustive
returns-then-is_empty-clause-exhaustive c =
    let symbols = symbols_at c.args.store.now c.args.sig.now.symbols in
    let ps = trees_at c.args.store.now c.args.patterns.now in
    let none = ap (trees_at c.args.store.now) (empty_is c.args.patterns.now c.is_empty.result c.is_empty.ensures c.if-is_empty.true) in
    some_iff symbols ps (shape_of c.unknown_shape.result) c.unknown_shape.result (subst (Escapes symbols ps) (sym c.unknown_shape.ensures) (empty_escapes symbols ps c.requires.one_type none))

pub returns-then-is_empty-clause-escapes : goal.returns-then-is_empty-clause-escapes
returns-then-is_empty-clause-escapes c =
    let symbols = symbols_at c.args.store.now c.args.sig.now.symbols in
    let ps = trees_at c.args.store.now c.args.patterns.now in
    let none = ap (trees_at c.args.store.now) (empty_is c.args.patterns.now c.is_empty.result c.is_empty.ensures c.if-is_empty.true) in
    subst (Escapes symbols ps) (sym c.unknown_shape.ensures) (empty_escapes symbols ps c.requires.one_type none)

pub missed_shapes-requires-clause-held : goal.missed_shapes-requires-clause-held
missed_shapes-requires-clause-held c =
    let ps = c.args.patterns.now in
    let are : c.as_slice.result.now ≡ map single_pattern ps = c.as_slice.ensures.value ∙ c.in_ok-push_alone.ensures ∙ ap (λ y. y ++ map single_pattern ps) c.new-rows.ensures.items in
    rows_held (symbols_at c.args.store.now c.args.sig.now.symbols) c.args.store.now ps c.as_slice.result.now are c.requires.held

pub missed_shapes-requires-clause-table : goal.missed_shapes-requires-clause-table
missed_shapes-requires-clause-table c =
    let ps = c.args.patterns.now in
    let are : c.as_slice.result.now ≡ map single_pattern ps = c.as_slice.ensures.value ∙ c.in_ok-push_alone.ensures ∙ ap (λ y. y ++ map single_pattern ps) c.new-rows.ensures.items in
    rows_table (symbols_at c.args.store.now c.args.sig.now.symbols) c.args.store.now ps c.as_slice.result.now are c.requires.patterns c.requires.one_type

pub returns-in-Some-last-clause-exhaustive : goal.returns-in-Some-last-clause-exhaustive
returns-in-Some-last-clause-exhaustive c =
    let symbols = symbols_at c.args.store.now c.args.sig.now.symbols in
    let s = c.args.store.now in
    let ps = c.args.patterns.now in
    let are : c.as_slice.result.now ≡ map single_pattern ps = c.as_slice.ensures.value ∙ c.in_ok-push_alone.ensures ∙ ap (λ y. y ++ map single_pattern ps) c.new-rows.ensures.items in
    let answer : Answered symbols 1 (table_at s 0 c.as_slice.result.now) (Some (shapes_of c.in-Some.shapes.items)) =
    subst (λ o. Answered symbols 1 (table_at s 0 c.as_slice.result.now) (option_map (λ v. shapes_of v.items) o)) c.in-Some.is c.in_ok-found.ensures in
    let last : c.in-Some.shapes.items ≡ c.pop-last.new.self.items ++ c.in-Some-last.shape ∷ [] = subst (λ o. c.in-Some.shapes.items ≡ c.pop-last.new.self.items ++ option_to_list o) c.in-Some-last.is c.pop-last.ensures.items in
    some_iff symbols (trees_at s ps) (shape_of c.in-Some-last.shape) c.in-Some-last.shape (escapes_last symbols s ps c.as_slice.result.now are c.requires.patterns c.requires.one_type c.in-Some.shapes.items answer c.pop-last.new.self.items c.in-Some-last.shape last)

pub returns-in-Some-last-clause-escapes : goal.returns-in-Some-last-clause-escapes
returns-in-Some-last-clause-escapes c =
    let symbols = symbols_at c.args.store.now c.args.sig.now.symbols in
    let s = c.args.store.now in
    let ps = c.args.patterns.now in
    let are : c.as_slice.result.now ≡ map single_pattern ps = c.as_slice.ensures.value ∙ c.in_ok-push_alone.ensures ∙ ap (λ y. y ++ map single_pattern ps) c.new-rows.ensures.items in
    let answer : Answered symbols 1 (table_at s 0 c.as_slice.result.now) (Some (shapes_of c.in-Some.shapes.items)) =
    subst (λ o. Answered symbols 1 (table_at s 0 c.as_slice.result.now) (option_map (λ v. shapes_of v.items) o)) c.in-Some.is c.in_ok-found.ensures in
    let last : c.in-Some.shapes.items ≡ c.pop-last.new.self.items ++ c.in-Some-last.shape ∷ [] = subst (λ o. c.in-Some.shapes.items ≡ c.pop-last.new.self.items ++ option_to_list o) c.in-Some-last.is c.pop-last.ensures.items in
    escapes_last symbols s ps c.as_slice.result.now are c.requires.patterns c.requires.one_type c.in-Some.shapes.items answer c.pop-last.new.self.items c.in-Some-last.shape last

pub unreachable-requires : goal.unreachable-requires
unreachable-requires c =
    let symbols = symbols_at c.args.store.now c.args.sig.now.symbols in
    let s = c.args.store.now in
    let ps = c.args.patterns.now in
    let are : c.as_slice.result.now ≡ map single_pattern ps = c.as_slice.ensures.value ∙ c.in_ok-push_alone.ensures ∙ ap (λ y. y ++ map single_pattern ps) c.new-rows.ensures.items in
    let answer : Answered symbols 1 (table_at s 0 c.as_slice.result.now) (Some (shapes_of c.in-Some.shapes.items)) =
    subst (λ o. Answered symbols 1 (table_at s 0 c.as_slice.result.now) (option_map (λ v. shapes_of v.items) o)) c.in-Some.is c.in_ok-found.ensures in
    never_empty symbols s ps c.as_slice.result.now are c.requires.patterns c.requires.one_type c.in-Some.shapes.items answer (let z = c.in-None-last.ensures.cases.0 in omega (arith, z, c.in-Some.shapes.ok.0))

pub returns-clause-exhaustive : goal.returns-clause-exhaustive
returns-clause-exhaustive c =
    let symbols = symbols_at c.args.store.now c.args.sig.now.symbols in
    let s = c.args.store.now in
    let ps = c.args.patterns.now in
    let are : c.as_slice.result.now ≡ map single_pattern ps = c.as_slice.ensures.value ∙ c.in_ok-push_alone.ensures ∙ ap (λ y. y ++ map single_pattern ps) c.new-rows.ensures.items in
    let answer : Answered symbols 1 (table_at s 0 c.as_slice.result.now) None =
    subst (λ o. Answered symbols 1 (table_at s 0 c.as_slice.result.now) (option_map (λ v. shapes_of v.items) o)) c.in-None.is c.in_ok-found.ensures in
    (λ _. none_exhaustive symbols s ps c.as_slice.result.now are c.requires.patterns answer, λ _. refl)
