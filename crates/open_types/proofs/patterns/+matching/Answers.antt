use Rattle.std.proofs.Common.{ℕ, ◌+◌, length, refl, sym, ap, ◌∙◌, arith}
use Rattle.std.proofs.lemmas.Result.{IfOk-weaker, on_ok_weaker}
use Rattle.std.specs.Option.{option_copied}
use Rattle.trees.specs.Tree.{One, HPatAlias}
use Rattle.trees.specs.Node.{tree_at}
use Rattle.trees.proofs.Nodes.{tree_at-grows, Grows_refl, Grows_trans}
use Rattle.tasks.specs.Meaning.{trees_at}
use Rattle.tasks.specs.declared.signature.SymbolInfo.{SymbolInfo}
use Rattle.surface.specs.Lexeme.{Word}
use Rattle.surface.specs.Surface.{own_of}
use Rattle.surface.specs.Surface as code
use Rattle.name_resolution.specs.Abstract.{text_of_own, abstract_pattern_of, patterns_of, field_name_of, pattern_fields_of, field_patterns_of}
use Rattle.name_resolution.specs.Naming.{where_at}
use Rattle.name_resolution.proofs.Nodes.{pattern_at-Wild, pattern_at-Var, pattern_at-Con, pattern_at-Group, pattern_at-Alias, pattern_at-Fields}
use Rattle.name_resolution.proofs.Told.{counted_patterns}
use Rattle.open_types.specs.declared.patterns.Part.{Part}
use Rattle.open_types.specs.Patterns.{taken, first_or_int, rest_of, pattern_piece}
use Rattle.open_types.specs.Drafts.{HoldsType, SymbolTyped, symbol_got, earlier_variables}
use Rattle.std.proofs.lemmas.List.Elements.{All-nil}
use Rattle.open_types.proofs.Fielding.{none_put, put_held, more_fields, parts_grow, part_made, fields_on, field_match, record_matched}
use Rattle.open_types.proofs.Growing.{held_grows, each_grows, world_grows, ready_grows, type_grows, type_stays, types_grow, types_stay}
use Rattle.open_types.proofs.Noting.{next, nothing_noted, no_elements}
use Rattle.open_types.proofs.Walking.{grown_sort}
use Rattle.open_types.proofs.Arguments.{entry_got, got_one, rest_all, rest_trees}
use Rattle.open_types.proofs.Matching.{earlier_stays, earlier_grows, none_bound, more_bound, match_on, match_first, match_rest, as_all_matched, matched_made, matched_end, matched_cell, pattern_cell_fits, constructor_matched, grouped_one, grouped_many}
use Rattle.open_types.proofs.PatternSizes.{some_pattern, patterns_size, pattern_size, pattern_size-Con, pattern_size-Group, pattern_size-Alias, pattern_size-Fields, fields_size, fields_split, first_pattern, parts_size}
use Rattle.open_types.proofs.patterns.+matching.Goals as goal

-- ---- leaves
pub walk_pattern-returns-in-Wild-clause-matched : goal.walk_pattern-returns-in-Wild-clause-matched
walk_pattern-returns-in-Wild-clause-matched t c =
    rw (pattern_at-Wild c.args.p.now c.in-Wild.is) (IfOk-weaker c.make.result _ _ (λ id m. matched_made (none_bound c.args.locals.now.items (Grows_refl _) c.requires.held (nothing_noted _ _ c.requires.ready)) c.make.ensures.grows m refl _ refl) c.make.ensures.made)

pub walk_pattern-returns-in_ok-bind_variable-in-Var-clause-matched : goal.walk_pattern-returns-in_ok-bind_variable-in-Var-clause-matched
walk_pattern-returns-in_ok-bind_variable-in-Var-clause-matched t c =
    let b = rw c.as_slice.ensures at c.in_ok-bind_variable-in-Var.ensures in
    rw (pattern_at-Var c.args.p.now c.in-Var.name c.in-Var.is) (IfOk-weaker c.make-in-Var.result _ _ (λ id m. matched_made b c.make-in-Var.ensures.grows m refl _ refl) c.make-in-Var.ensures.made)

-- ---- constructors
pub walk_pattern-walk_constructor-requires : goal.walk_pattern-walk_constructor-requires
walk_pattern-walk_constructor-requires t c =
    (omega (arith, pattern_size-Con c.args.p.now c.in-Con.name c.in-Con.parts c.in-Con.is, ap patterns_size c.as_slice-parts.ensures), c.requires)

pub walk_pattern-returns-in_ok-own-in-Con-clause-matched : goal.walk_pattern-returns-in_ok-own-in-Con-clause-matched
walk_pattern-returns-in_ok-own-in-Con-clause-matched t c =
    let own = c.as_slice-in-Con-3.ensures ∙ c.in_ok-own-in-Con.ensures ∙ ap (λ (x : Word). text_of_own (own_of c.in-Con.name.style x)) c.as_slice-in-Con.ensures in
    rw (pattern_at-Con c.args.p.now c.in-Con.name c.in-Con.parts c.in-Con.is) (rw (c.symbol_named-symbol.ensures, c.as_slice-in-Con-2.ensures, own, c.as_slice-parts.ensures) at c.walk_constructor.ensures.matched)

pub walk_pattern-walk_grouped-requires : goal.walk_pattern-walk_grouped-requires
walk_pattern-walk_grouped-requires t c =
    (omega (arith, pattern_size-Group c.args.p.now c.in-Group.parts c.in-Group.is, ap patterns_size c.as_slice-parts-in-Group.ensures), c.requires)

pub walk_pattern-returns-in-Group-clause-matched : goal.walk_pattern-returns-in-Group-clause-matched
walk_pattern-returns-in-Group-clause-matched t c =
    rw (pattern_at-Group c.args.p.now c.in-Group.parts c.in-Group.is) (rw c.as_slice-parts-in-Group.ensures at c.walk_grouped.ensures.matched)

-- ---- an alias
pub walk_pattern-walk_pattern-requires : goal.walk_pattern-walk_pattern-requires
walk_pattern-walk_pattern-requires t c =
    (omega (arith, pattern_size-Alias c.args.p.now c.in-Alias.inner c.in-Alias.name c.in-Alias.is, ap pattern_size c.get-inner.ensures), c.requires)

pub walk_pattern-bind_variable-requires-in-Alias-clause-ty : goal.walk_pattern-bind_variable-requires-in-Alias-clause-ty
walk_pattern-bind_variable-requires-in-Alias-clause-ty t c = type_grows _ _ c.walk_pattern.ensures.grows c.args.ty c.requires.wanted

pub walk_pattern-bind_variable-requires-in-Alias-clause-earlier : goal.walk_pattern-bind_variable-requires-in-Alias-clause-earlier
walk_pattern-bind_variable-requires-in-Alias-clause-earlier t c = earlier_grows _ _ c.walk_pattern.ensures.grows c.args.alternative c.requires.earlier

pub walk_pattern-returns-in_ok-bind_variable-in-Alias-clause-matched : goal.walk_pattern-returns-in_ok-bind_variable-in-Alias-clause-matched
walk_pattern-returns-in_ok-bind_variable-in-Alias-clause-matched t c =
    let g = c.walk_pattern.ensures.grows in
    let a = rw c.get-inner.ensures at c.in_ok-made-in-Alias.ensures.matched in
    let b = rw (c.as_slice-in-Alias.ensures, earlier_stays _ _ g c.args.alternative c.requires.earlier, type_stays _ _ g c.args.ty c.requires.wanted) at c.in_ok-bind_variable-in-Alias.ensures in
    rw (pattern_at-Alias c.args.p.now c.in-Alias.inner c.in-Alias.name c.in-Alias.is) (IfOk-weaker c.make-in-Alias.result _ _ (λ id m. matched_made (more_bound a.bound b) c.make-in-Alias.ensures.grows m refl _ (ap (One HPatAlias) a.tree)) c.make-in-Alias.ensures.made)

-- ---- the entry of a constructor
pub walk_constructor-begin_use-requires-clause-info : goal.walk_constructor-begin_use-requires-clause-info
walk_constructor-begin_use-requires-clause-info t c = rw (sym c.entry_at-info.ensures) at (got_one {X = SymbolInfo} (SymbolTyped c.args.store.now) c.args.world.now.symbols.now c.entry_number-symbol.result c.requires.world.symbols)

pub walk_constructor-types_put-requires-clause-args : goal.walk_constructor-types_put-requires-clause-args
walk_constructor-types_put-requires-clause-args t c =
    let typed = rw (sym c.entry_at-info.ensures) at (got_one {X = SymbolInfo} (SymbolTyped c.args.store.now) c.args.world.now.symbols.now c.entry_number-symbol.result c.requires.world.symbols) in
    types_grow _ _ c.begin_use.ensures.grows c.entry_args.result.now (c.entry_args.ensures.held c.args.store.now typed)

pub walk_constructor-walk_patterns-requires : goal.walk_constructor-walk_patterns-requires
walk_constructor-walk_patterns-requires t c =
    let g = Grows_trans _ _ _ c.begin_use.ensures.grows c.types_put.ensures.grows in
    let ready = ready_grows _ _ c.types_put.ensures.grows c.begin_use.new.draft c.in_ok-types.ensures.begun.noted.ready in
    (omega arith, match_on c.requires g ready (each_grows _ _ g c.args.locals.now.items c.requires.held) (rw c.as_slice-wanted.ensures.value c.in_ok-wanted.ensures.held))

pub walk_constructor-list_of-requires : goal.walk_constructor-list_of-requires
walk_constructor-list_of-requires t c =
    let g = Grows_trans _ _ _ c.types_put.ensures.grows c.walk_patterns.ensures.grows in
    rw c.as_slice-2.ensures.value (types_grow _ _ g c.in_ok-types.types.items c.in_ok-types.ensures.begun.held)

pub walk_constructor-make-requires-clause-held : goal.walk_constructor-make-requires-clause-held
walk_constructor-make-requires-clause-held t c =
    let g = Grows_trans _ _ _ (Grows_trans _ _ _ (Grows_trans _ _ _ c.begin_use.ensures.grows c.types_put.ensures.grows) c.walk_patterns.ensures.grows) c.list_of.ensures.grows in
    (c.in_ok-list.ensures.held, held_grows _ _ c.list_of.ensures.grows c.in_ok-made.made c.in_ok-made.ensures.matched.held, held_grows _ _ g c.args.ty c.requires.wanted.held)

pub walk_constructor-make-requires-clause-fits : goal.walk_constructor-make-requires-clause-fits
walk_constructor-make-requires-clause-fits t c =
    let g = Grows_trans _ _ _ (Grows_trans _ _ _ (Grows_trans _ _ _ c.begin_use.ensures.grows c.types_put.ensures.grows) c.walk_patterns.ensures.grows) c.list_of.ensures.grows in
    let parts = c.in_ok-made.ensures.matched in
    (c.in_ok-list.ensures.list, rw (tree_at-grows _ _ c.in_ok-made.made c.list_of.ensures.grows parts.held) parts.patterns, (type_grows _ _ g c.args.ty c.requires.wanted).kind)

pub walk_constructor-returns-clause-matched : goal.walk_constructor-returns-clause-matched
walk_constructor-returns-clause-matched t c =
    let s = c.args.store.now in
    let k = c.entry_number-symbol.result in
    let typed = rw (sym c.entry_at-info.ensures) at (got_one {X = SymbolInfo} (SymbolTyped s) c.args.world.now.symbols.now k c.requires.world.symbols) in
    let e = symbol_got s (option_copied c.entry_at-info.result) in
    let g = c.begin_use.ensures.grows in
    let same = entry_got s c.args.world.now.symbols.now k ∙ ap (symbol_got s) (sym c.entry_at-info.ensures) in
    let args = types_stay _ _ g c.entry_args.result.now (c.entry_args.ensures.held s typed) ∙ c.entry_args.ensures.trees s in
    let put = rw c.as_slice.ensures.value at c.in_ok-wanted.ensures.trees in
    let entry = c.entry_number-symbol.ensures (where_at s c.args.world.now).symbols in
    let parts = rw c.as_slice-wanted.ensures.value at c.in_ok-made.ensures.matched in
    let list = rw c.as_slice-2.ensures.value at c.in_ok-list.ensures.tree in
    IfOk-weaker c.make.result _ _ (λ id m. constructor_matched (patterns_of c.args.parts.now) c.requires c.in_ok-wanted.wanted.items c.entry_args.result.now c.in_ok-list.list k e _ same entry c.in_ok-types.ensures.begun g c.types_put.ensures.grows put args parts c.walk_patterns.ensures.grows c.list_of.ensures.grows list m c.make.ensures.grows) c.make.ensures.made

-- ---- patterns side by side
pub walk_patterns-returns-in_default-clause-matched : goal.walk_patterns-returns-in_default-clause-matched
walk_patterns-returns-in_default-clause-matched t c =
    rw (no_elements c.args.list.now c.in_default.ensures.cases) (IfOk-weaker c.make.result _ _ (λ id m. matched_end c.make.ensures.grows c.requires.ready c.requires.held m) c.make.ensures.made)

pub walk_patterns-walk_pattern-requires : goal.walk_patterns-walk_pattern-requires
walk_patterns-walk_pattern-requires t c =
    (omega (arith, parts_size c.args.list.now c.in-Some.rest.now c.in-Some.first.now c.in-Some.ensures.cases.0), match_first c.requires c.first_type-ty.result c.first_type-ty.ensures.held)

pub walk_patterns-walk_patterns-requires : goal.walk_patterns-walk_patterns-requires
walk_patterns-walk_patterns-requires t c =
    let a = c.in_ok-a.ensures.matched in
    (omega (arith, parts_size c.args.list.now c.in-Some.rest.now c.in-Some.first.now c.in-Some.ensures.cases.0, some_pattern (code.pattern_of c.in-Some.first.now)), rw c.other_types-wanted.ensures (match_rest c.requires c.walk_pattern.ensures.grows a.bound.noted.ready a.bound.held))

pub walk_patterns-make-requires-2-clause-fits : goal.walk_patterns-make-requires-2-clause-fits
walk_patterns-make-requires-2-clause-fits t c =
    let a = c.in_ok-a.ensures.matched in
    pattern_cell_fits (tree_at c.walk_patterns.new.store c.in_ok-a.a) (tree_at c.walk_patterns.new.store c.in_ok-b.b) (grown_sort _ _ c.walk_patterns.ensures.grows a.held a.sort) c.in_ok-b.ensures.matched.patterns

pub walk_patterns-returns-clause-matched : goal.walk_patterns-returns-clause-matched
walk_patterns-returns-clause-matched t c =
    let s = c.args.store.now in
    let n : ℕ = length c.args.draft.now.takers in
    let ids = c.args.wanted.now in
    let g = c.walk_pattern.ensures.grows in
    let a = rw c.first_type-ty.ensures.tree at c.in_ok-a.ensures.matched in
    let p = pattern_piece (where_at s c.args.world.now) (earlier_variables s c.args.alternative) n (first_or_int (trees_at s ids)) (abstract_pattern_of c.in-Some.first.now) in
    let types = types_stay _ _ g (rest_of ids) (rest_all (HoldsType s) ids c.requires.wanted) ∙ rest_trees s ids in
    let b = as_all_matched c.args.alternative c.requires.world c.requires.earlier g (rest_of ids) (n + taken p.notes) (rest_of (trees_at s ids)) (patterns_of c.in-Some.rest.now) (next a.bound.noted) types (rw c.other_types-wanted.ensures at c.in_ok-b.ensures.matched) in
    rw c.in-Some.ensures.cases.0 (IfOk-weaker c.make-2.result _ _ (λ id m. matched_cell a b c.walk_patterns.ensures.grows c.make-2.ensures.grows m) c.make-2.ensures.made)

-- ---- what is in parentheses
pub walk_grouped-walk_pattern-requires : goal.walk_grouped-walk_pattern-requires
walk_grouped-walk_pattern-requires t c = (omega (arith, first_pattern c.args.list.now c.index-list-0.result c.if-list-eq1.true, ap pattern_size c.index-list-0.is), c.requires)

pub walk_grouped-returns-then-list-eq1-clause-matched : goal.walk_grouped-returns-then-list-eq1-clause-matched
walk_grouped-returns-then-list-eq1-clause-matched t c = rw (grouped_one c.args.token c.args.list.now c.index-list-0.result c.if-list-eq1.true ∙ ap abstract_pattern_of (sym c.index-list-0.is)) c.walk_pattern.ensures.matched

pub walk_grouped-walk_constructor-requires : goal.walk_grouped-walk_constructor-requires
walk_grouped-walk_constructor-requires t c = (omega arith, c.requires)

pub walk_grouped-returns-clause-matched : goal.walk_grouped-returns-clause-matched
walk_grouped-returns-clause-matched t c =
    rw (grouped_many c.args.token c.args.list.now c.if-list-eq1.false) (rw (c.tuple_named-symbol.ensures c.args.store.now, sym (counted_patterns c.args.list.now)) at c.walk_constructor.ensures.matched)

-- ---- the fields of a record
pub walk_pattern-walk_record-requires : goal.walk_pattern-walk_record-requires
walk_pattern-walk_record-requires t c =
    (omega (arith, pattern_size-Fields c.args.p.now c.in-Fields.fields c.in-Fields.field-1 c.in-Fields.is, ap fields_size c.as_slice-fields.ensures), c.requires)

pub walk_pattern-returns-in-Fields-clause-matched : goal.walk_pattern-returns-in-Fields-clause-matched
walk_pattern-returns-in-Fields-clause-matched t c = rw (pattern_at-Fields c.args.p.now c.in-Fields.fields c.in-Fields.field-1 c.in-Fields.is) (rw c.as_slice-fields.ensures at c.walk_record.ensures.matched)

pub walk_record-begin_use-requires-clause-info : goal.walk_record-begin_use-requires-clause-info
walk_record-begin_use-requires-clause-info t c = rw (sym c.entry_at-info.ensures) at (got_one {X = SymbolInfo} (SymbolTyped c.args.store.now) c.args.world.now.symbols.now c.in_ok-owner.owner c.requires.world.symbols)

pub walk_record-types_put-requires-clause-args : goal.walk_record-types_put-requires-clause-args
walk_record-types_put-requires-clause-args t c =
    let typed = rw (sym c.entry_at-info.ensures) at (got_one {X = SymbolInfo} (SymbolTyped c.args.store.now) c.args.world.now.symbols.now c.in_ok-owner.owner c.requires.world.symbols) in
    types_grow _ _ c.begin_use.ensures.grows c.entry_args.result.now (c.entry_args.ensures.held c.args.store.now typed)

pub walk_record-push_wildcards-requires-clause-types : goal.walk_record-push_wildcards-requires-clause-types
walk_record-push_wildcards-requires-clause-types t c = rw c.as_slice-wanted.ensures.value c.in_ok-wanted.ensures.held

pub walk_record-push_wildcards-requires-clause-ready : goal.walk_record-push_wildcards-requires-clause-ready
walk_record-push_wildcards-requires-clause-ready t c = ready_grows _ _ c.types_put.ensures.grows c.begin_use.new.draft c.in_ok-types.ensures.begun.noted.ready

pub walk_record-push_wildcards-requires-clause-held : goal.walk_record-push_wildcards-requires-clause-held
walk_record-push_wildcards-requires-clause-held t c = rw c.new-parts.ensures (All-nil _)

pub walk_record-walk_fields-requires : goal.walk_record-walk_fields-requires
walk_record-walk_fields-requires t c =
    let g = Grows_trans _ _ _ (Grows_trans _ _ _ c.begin_use.ensures.grows c.types_put.ensures.grows) c.push_wildcards.ensures.grows in (
      omega arith,
      record {
        world = world_grows _ _ g c.args.world.now c.requires.world;
        ready = c.in_ok-push_wildcards.ensures.noted.ready;
        held = c.in_ok-push_wildcards.ensures.held;
        wanted = rw c.as_slice-wanted.ensures.value (types_grow _ _ c.push_wildcards.ensures.grows c.in_ok-wanted.wanted.items c.in_ok-wanted.ensures.held);
        earlier = earlier_grows _ _ g c.args.alternative c.requires.earlier;
      },
    )

pub walk_record-join_parts-requires-clause-ready : goal.walk_record-join_parts-requires-clause-ready
walk_record-join_parts-requires-clause-ready t c = c.in_ok-walk_fields.ensures.put.noted.ready

pub walk_record-join_parts-requires-clause-held : goal.walk_record-join_parts-requires-clause-held
walk_record-join_parts-requires-clause-held t c =
    let g = Grows_trans _ _ _ (Grows_trans _ _ _ (Grows_trans _ _ _ c.begin_use.ensures.grows c.types_put.ensures.grows) c.push_wildcards.ensures.grows) c.walk_fields.ensures.grows in
    each_grows _ _ g c.args.locals.now.items c.requires.held

pub walk_record-join_parts-requires-clause-parts : goal.walk_record-join_parts-requires-clause-parts
walk_record-join_parts-requires-clause-parts t c = rw c.as_slice-2.ensures c.in_ok-walk_fields.ensures.put.held

pub walk_record-list_of-requires : goal.walk_record-list_of-requires
walk_record-list_of-requires t c =
    let g = Grows_trans _ _ _ (Grows_trans _ _ _ (Grows_trans _ _ _ c.types_put.ensures.grows c.push_wildcards.ensures.grows) c.walk_fields.ensures.grows) c.join_parts.ensures.grows in
    rw c.as_slice-3.ensures.value (types_grow _ _ g c.in_ok-types.types.items c.in_ok-types.ensures.begun.held)

pub walk_record-make-requires-clause-held : goal.walk_record-make-requires-clause-held
walk_record-make-requires-clause-held t c =
    let g = Grows_trans _ _ _ (Grows_trans _ _ _ (Grows_trans _ _ _ (Grows_trans _ _ _ (Grows_trans _ _ _ c.begin_use.ensures.grows c.types_put.ensures.grows) c.push_wildcards.ensures.grows) c.walk_fields.ensures.grows) c.join_parts.ensures.grows) c.list_of.ensures.grows in
    (c.in_ok-list.ensures.held, held_grows _ _ c.list_of.ensures.grows c.in_ok-made.made c.in_ok-made.ensures.joined.held, held_grows _ _ g c.args.ty c.requires.wanted.held)

pub walk_record-make-requires-clause-fits : goal.walk_record-make-requires-clause-fits
walk_record-make-requires-clause-fits t c =
    let g = Grows_trans _ _ _ (Grows_trans _ _ _ (Grows_trans _ _ _ (Grows_trans _ _ _ (Grows_trans _ _ _ c.begin_use.ensures.grows c.types_put.ensures.grows) c.push_wildcards.ensures.grows) c.walk_fields.ensures.grows) c.join_parts.ensures.grows) c.list_of.ensures.grows in
    let parts = c.in_ok-made.ensures.joined in
    (c.in_ok-list.ensures.list, rw (tree_at-grows _ _ c.in_ok-made.made c.list_of.ensures.grows parts.held) parts.patterns, (type_grows _ _ g c.args.ty c.requires.wanted).kind)

pub walk_record-returns-clause-matched : goal.walk_record-returns-clause-matched
walk_record-returns-clause-matched t c =
    let s = c.args.store.now in
    let k = c.in_ok-owner.owner in
    let typed = rw (sym c.entry_at-info.ensures) at (got_one {X = SymbolInfo} (SymbolTyped s) c.args.world.now.symbols.now k c.requires.world.symbols) in
    let e = symbol_got s (option_copied c.entry_at-info.result) in
    let g = c.begin_use.ensures.grows in
    let same = entry_got s c.args.world.now.symbols.now k ∙ ap (symbol_got s) (sym c.entry_at-info.ensures) in
    let args = types_stay _ _ g c.entry_args.result.now (c.entry_args.ensures.held s typed) ∙ c.entry_args.ensures.trees s in
    let put = rw c.as_slice.ensures.value at c.in_ok-wanted.ensures.trees in
    let wild = rw (c.new-parts.ensures, c.as_slice-wanted.ensures.value) at c.in_ok-push_wildcards.ensures.parts in
    let fields = rw c.as_slice-wanted.ensures.value at c.in_ok-walk_fields.ensures.put in
    let joined = rw c.as_slice-2.ensures at c.in_ok-made.ensures.joined in
    let list = rw c.as_slice-3.ensures.value at c.in_ok-list.ensures.tree in
    IfOk-weaker c.make.result _ _ (λ id m. record_matched (field_patterns_of c.args.fields.now) (pattern_fields_of c.args.fields.now) c.requires c.in_ok-wanted.wanted.items c.entry_args.result.now c.in_ok-list.list k e (sym (c.in_ok-owner.ensures s)) same c.in_ok-types.ensures.begun g c.types_put.ensures.grows put args wild c.in_ok-push_wildcards.ensures.noted c.push_wildcards.ensures.grows c.in_ok-wanted.ensures.held fields c.walk_fields.ensures.grows joined c.join_parts.ensures.grows c.list_of.ensures.grows list m c.make.ensures.grows) c.make.ensures.made

pub walk_fields-returns-in_default-clause-put : goal.walk_fields-returns-in_default-clause-put
walk_fields-returns-in_default-clause-put t c = rw (no_elements c.args.fields.now c.in_default.ensures.cases) (none_put c.requires)

pub walk_fields-walk_pattern-requires : goal.walk_fields-walk_pattern-requires
walk_fields-walk_pattern-requires t c =
    (omega (arith, fields_split c.args.fields.now c.in-Some.rest.now c.in-Some.first.now c.in-Some.ensures.cases.0), field_match c.requires c.new-own.result.items c.new-own.ensures.items c.place_type-ty.result c.place_type-ty.ensures.held)

pub walk_fields-walk_fields-requires : goal.walk_fields-walk_fields-requires
walk_fields-walk_fields-requires t c =
    let g = c.walk_pattern.ensures.grows in
    let a = c.in_ok-pattern.ensures.matched in
    let one = part_made c.new-own.ensures.items a (record { pattern = c.in_ok-pattern.pattern; variables = c.from_vec-variables.result }) refl c.from_vec-variables.ensures in
    (omega (arith, fields_split c.args.fields.now c.in-Some.rest.now c.in-Some.first.now c.in-Some.ensures.cases.0, some_pattern (code.pattern_of c.in-Some.first.now.value)), fields_on c.requires g a.bound.noted.ready (put_held _ c.args.parts.now _ _ _ (parts_grow _ _ g c.args.parts.now c.requires.held) one.0 c.put_part.ensures))

pub walk_fields-returns-clause-put : goal.walk_fields-returns-clause-put
walk_fields-returns-clause-put t c =
    let a = c.in_ok-pattern.ensures.matched in
    let p : Part = record { pattern = c.in_ok-pattern.pattern; variables = c.from_vec-variables.result } in
    let one = part_made c.new-own.ensures.items a p refl c.from_vec-variables.ensures in
    rw c.in-Some.ensures.cases.0 (on_ok_weaker c.walk_fields.result (more_fields c.requires (field_name_of c.in-Some.first.now.name) (pattern_fields_of c.in-Some.rest.now) (abstract_pattern_of c.in-Some.first.now.value) (field_patterns_of c.in-Some.rest.now) c.args.owner c.in_ok-place.place c.place_type-ty.result p (c.in_ok-place.ensures c.args.store.now) c.place_type-ty.ensures.tree c.walk_pattern.ensures.grows a one.1 c.put_part.ensures) c.walk_fields.ensures.put)
