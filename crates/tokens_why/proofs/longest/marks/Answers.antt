use Rattle.std.proofs.Common.{refl, sym, ◌∙◌, arith}
use Rattle.tokens_why.proofs.TokenLemmas.{star-at, bars-at, mark-at, no-mark}
use Rattle.tokens_why.proofs.longest.marks.Goals as goal

pub returns-then-is_star_name : goal.returns-then-is_star_name
returns-then-is_star_name c =
    let s = star-at c.args.text.now c.args.start c.requires.lead (sym c.is_star_name.ensures ∙ c.if-is_star_name.true) in
    record { start_is = refl; ordered = omega arith; longest = s.1 }

pub returns-then-is_pair : goal.returns-then-is_pair
returns-then-is_pair c =
    let s = bars-at c.args.text.now c.args.start c.requires.lead (sym c.is_pair.ensures ∙ c.if-is_pair.true) in
    record { start_is = refl; ordered = omega arith; longest = s.1 }

pub returns-in-Some : goal.returns-in-Some
returns-in-Some c = record {
  start_is = refl;
  ordered = omega arith;
  longest = mark-at c.args.text.now c.args.start c.in-Some.kind c.requires.within c.requires.lead (sym c.is_star_name.ensures ∙ c.if-is_star_name.false) (sym c.is_pair.ensures ∙ c.if-is_pair.false) (sym c.mark_kind.ensures ∙ c.in-Some.is);
}

pub returns-in-None : goal.returns-in-None
returns-in-None c =
    no-mark c.args.text.now c.args.start c.requires.within c.requires.lead (sym c.is_star_name.ensures ∙ c.if-is_star_name.false) (sym c.is_pair.ensures ∙ c.if-is_pair.false) (sym c.mark_kind.ensures ∙ c.in-None.is)
