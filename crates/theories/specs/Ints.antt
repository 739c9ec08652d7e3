-- The entries of the theory int.Int, which is the first theory of the library (Why3's standard
-- library, "int.Int").
use Rattle.tasks.specs.trees.declared.ints.Ints.{Ints}

abbrev pub int_entries : Ints
int_entries = record { neg = 1; add = 2; sub = 3; mul = 4; lt = 5; le = 6; gt = 7; ge = 8 }
