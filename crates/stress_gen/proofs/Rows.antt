-- The files of `stress 1`, and the source and the second refutation of `stress 2`, written out.
use Rattle.std.proofs.Common.{◌≡◌, refl}
use Rattle.std.specs.Prelude.{codes}
use Rattle.std.specs.Fmt.{digits}
use Rattle.stress_gen.specs.Texts.{source_text, refutation_text}
use Rattle.stress_gen.specs.Files.{accepted_text}

source_of_one : source_text 1 ≡ codes "theory S\npredicate p0\npredicate p1\naxiom a0: p0\naxiom a1: p0 -> p1\ngoal g: p1\nend\n"
unfolding digits
source_of_one = refl

source_of_two : source_text 2 ≡ codes "theory S\npredicate p0\npredicate p1\npredicate p2\naxiom a0: p0\naxiom a1: p0 -> p1\naxiom a2: p1 -> p2\ngoal g: p1 /\\ p2\nend\n"
unfolding digits
source_of_two = refl

refutation_of_one : refutation_text 1 ≡ codes "e sym p0_1\ne sym p1_2\ne imp 0 1\ne not 0\ne not 1\ns 3 0 : clash 1 0 :\ns 3 : fact 0 : 0\ns 4 2 1 : clash 2 0 :\ns 4 2 3 : keep 2 : 1\ns 4 2 : imp 1 : 3 2\ns 4 : fact 1 : 4\n"
unfolding digits
refutation_of_one = refl

refutation_of_two : refutation_text 2 ≡ codes "e sym p0_1\ne sym p1_2\ne sym p2_3\ne imp 0 1\ne imp 1 2\ne not 0\ne not 1\ne not 2\ns 5 0 : clash 1 0 :\ns 5 : fact 0 : 0\ns 6 3 1 : clash 2 0 :\ns 6 3 5 : keep 2 : 1\ns 6 3 : imp 1 : 3 2\ns 6 : fact 1 : 4\ns 7 4 2 : clash 2 0 :\ns 7 4 6 : keep 2 : 5\ns 7 4 : imp 1 : 7 6\ns 7 : fact 2 : 8\n"
unfolding digits
refutation_of_two = refl

text_of_three : accepted_text 3 ≡ codes "parts 3\nlines 54\naccepted\n"
unfolding digits
text_of_three = refl
