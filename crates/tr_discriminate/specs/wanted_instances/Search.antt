-- How the wanted assignments of a proposition are found: one type variable after the other, each
-- type in the order of the ranks, and no further than some driving instance can still be in the
-- set.
use Rattle.std.specs.Prelude.{ℕ, Bool, true, false, ◌==◌, ◌&&◌, ◌||◌, not, List, ◌++◌, map, filter, length, slice_get, Option, Some, None}
use Rattle.std.specs.List.{list_any}
use Rattle.tasks.specs.trees.Tree.{Tree, Leaf, One, Two, Three, Head, HTyVar, above_ty_vars}
use Rattle.linear_leaf.specs.Valuations.{same_tree, same_head}
use Rattle.name_tables.specs.Occurrences.{Occurrence}
use Rattle.tr_discriminate.specs.wanted_instances.Instances.{has_variable, mentions}
use Rattle.tr_discriminate.specs.wanted_instances.Wanted.{each_below, driving, assignments, is_wanted}

-- the wanted assignments that begin with these types, with so many more to choose
abbrev pub found_from : List Occurrence → List Tree → Tree → List Tree → ℕ → List (List Tree)
found_from s types a known n =
    filter (is_wanted s a) (map (λ ys. known ++ ys) (assignments types a (length known) n))

abbrev pub known_fits : Option Tree → Tree → Bool
known_fits None e = true
known_fits (Some ty) e = same_tree ty e

abbrev pub leaf_fits : List Tree → Head → Tree → Bool
leaf_fits known (HTyVar j) e = known_fits (slice_get known j) e
leaf_fits known h e = same_tree (Leaf h) e

-- whether a type, where its first variables are known and the others may be anything, may be this
-- ground type
abbrev pub may_fit : List Tree → Tree → Tree → Bool
may_fit known (Leaf h) e = leaf_fits known h e
may_fit known (One g a) (One h x) = same_head g h && may_fit known a x
may_fit known (Two g a b) (Two h x y) = same_head g h && (may_fit known a x && may_fit known b y)
may_fit known (Three g a b c) (Three h x y z) =
    same_head g h && (may_fit known a x && (may_fit known b y && may_fit known c z))
may_fit known _ e = false

abbrev pub matches : List Tree → Occurrence → Occurrence → Bool
matches known o i = (o.symbol == i.symbol) && may_fit known o.types i.types

-- whether a type variable, if it is in the formula, may be mentioned by a driving instance in the
-- set
abbrev pub may_mention : List Occurrence → Tree → List Tree → ℕ → Bool
may_mention s a known j = not (has_variable j a)
    || list_any (λ o. mentions j o && list_any (matches known o) s) (driving a)

abbrev pub may_go_on : List Occurrence → Tree → List Tree → Bool
may_go_on s a known = each_below (above_ty_vars a) (may_mention s a known)
