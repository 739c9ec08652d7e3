use Rattle.tokens_why.proofs.Common.{ap, refl, arith, list_all, is_operator_byte, byte_in, run_kind, string_kind_by}
use Rattle.tokens_why.proofs.LongestLemmas.{span-at, class-span}
use Rattle.tokens_why.proofs.longest.run.Goals as goal

pub returns : goal.returns
returns c =
    let text = c.args.text.now in
    record {
      start_is = refl;
      ordered = omega (arith, c.class_end-end.ensures.place);
      longest = span-at text c.args.start c.class_end-end.result _ (list_all is_operator_byte) run_kind c.run_kind-kind.result (omega arith) c.class_end-end.ensures.place
          (λ cs. ap (λ l. string_kind_by l (byte_in text c.args.start) cs) c.requires.lead) (class-span is_operator_byte _) c.run_kind-kind.ensures;
    }
