use Rattle.parser.proofs.parse_decls.Cited.{false, map, sym, ◌∙◌, subst, refl, can_run, param_of, constructor_of, lexemes, IsCon, braced, braced_read, rules, upto}
use Rattle.parser.proofs.parse_decls.types.algebraic.Goals as goal

pub record_fields-requires : goal.record_fields-requires
record_fields-requires c = can_run (braced c.requires (sym c.is_at-is_record.ensures ∙ c.if-is_record.true))

pub alternatives-requires : goal.alternatives-requires
alternatives-requires c = record { can = c.requires; none = sym c.is_at-is_record.ensures ∙ c.if-is_record.false }

pub returns-then-is_record : goal.returns-then-is_record
returns-then-is_record c = record {
  name = refl;
  vars = refl;
  is = subst (λ cs. IsCon (lexemes c.args.source) c.args.i false (map constructor_of cs) (map param_of c.in_ok-fields.fields) c.in_ok-fields.semi c.in_ok-fields.close) (sym c.new.ensures)
      (braced_read c.requires (sym c.is_at-is_record.ensures ∙ c.if-is_record.true) (map param_of c.in_ok-fields.fields) c.in_ok-fields.semi c.in_ok-fields.close c.in_ok-fields.ensures);
}

pub returns : goal.returns
returns c = record {
  name = refl;
  vars = refl;
  is = subst (λ ps. IsCon (lexemes c.args.source) c.args.i c.in_ok-bar.bar (map constructor_of c.in_ok-bar.cons) (map param_of ps) false c.in_ok-bar.end) (sym c.new-2.ensures) c.in_ok-bar.ensures;
}

-- the numbers of tokens, which are at most that of all tokens

pub overflow_add-i : goal.overflow_add-i
overflow_add-i c = let h = upto c.args.source c.args.i c.requires.within in search rules
