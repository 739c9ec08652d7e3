use Rattle.tr_recursion.proofs.recursion_forms.branches.+are_plain.Given as goal

abbrev pub decreases-are_plain : goal.decreases-are_plain
decreases-are_plain l = l.fields.0
