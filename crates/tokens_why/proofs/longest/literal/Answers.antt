use Rattle.std.proofs.Common.{◌<◌, refl, arith}
use Rattle.tokens_why.proofs.TokenLemmas.{decimal-at, based-at}
use Rattle.tokens_why.proofs.longest.literal.Goals as goal

pub returns-then-radix-eq0 : goal.returns-then-radix-eq0
returns-then-radix-eq0 c = record {
  start_is = refl;
  ordered = omega (arith, c.class_end-end.ensures.place);
  longest = decimal-at c.args.text.now c.args.start c.class_end-end.result c.based_radix-radix.result c.requires.within c.requires.lead c.based_radix-radix.ensures.value c.if-radix-eq0.true c.class_end-end.ensures.place;
}

pub returns-else-radix-eq0 : goal.returns-else-radix-eq0
returns-else-radix-eq0 c =
    let end = c.class_end-end-else-radix-eq0 in
    let some : 0 < c.based_radix-radix.result = omega arith in
    record {
      start_is = refl;
      ordered = omega (arith, end.ensures.place);
      longest = based-at c.args.text.now c.args.start end.result c.based_radix-radix.result c.requires.within c.requires.lead c.based_radix-radix.ensures.value some (c.based_radix-radix.ensures.within some) end.ensures.place;
    }
