use Rattle.parser.proofs.parse_decls.Cited.{map, sym, ◌∙◌, [], refl, constructor_of, only, can_next, take, barred, barred_read, unbarred, unbarred_name, unbarred_read, rules, upto}
use Rattle.tokens_why.specs.declared.terminal.Terminal.TheVariants as t
use Rattle.parser.proofs.parse_decls.types.alternatives.Goals as goal

pub constructors-requires : goal.constructors-requires
constructors-requires c = let e = sym c.is_at-is_barred.ensures ∙ c.if-is_barred.true in record { name = (only (barred c.requires.can e) t.Uident [] refl refl tt); can = (can_next (take (barred c.requires.can e))) }

pub constructors-requires-2 : goal.constructors-requires-2
constructors-requires-2 c = let e = sym c.is_at-is_barred.ensures ∙ c.if-is_barred.false in record { name = unbarred_name c.requires.can c.requires.none e; can = (can_next (unbarred c.requires.can c.requires.none e)) }

pub returns-then-is_barred : goal.returns-then-is_barred
returns-then-is_barred c = barred_read c.requires.can (sym c.is_at-is_barred.ensures ∙ c.if-is_barred.true) (map constructor_of c.in_ok-following.following) c.in_ok-following.after c.in_ok-following.ensures

pub returns : goal.returns
returns c = unbarred_read c.requires.can c.requires.none (sym c.is_at-is_barred.ensures ∙ c.if-is_barred.false) (map constructor_of c.in_ok-cons.cons) c.in_ok-cons.end c.in_ok-cons.ensures

-- the numbers of tokens, which are at most that of all tokens

pub overflow_add-i : goal.overflow_add-i
overflow_add-i c = let h = upto c.args.source c.args.i c.requires.can.within in search rules
