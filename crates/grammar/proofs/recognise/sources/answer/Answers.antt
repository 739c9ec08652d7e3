use Rattle.std.proofs.Common.{arith}
use Rattle.grammar.proofs.recognise.Answering.{refusal_program, refusal_syntax, no_scope, no_word, beyond}
use Rattle.grammar.proofs.recognise.sources.answer.Goals as goal
use Rattle.grammar.proofs.recognise.sources.answer.Goals.{else-fault-via-then-fault+then-token-found+else-begins_program, else-fault-via-then-fault+else-token-found, else-fault-via-else-fault}

pub returns-then-begins_program : goal.returns-then-begins_program
returns-then-begins_program c = λ text ts same. refusal_program text ts c.args.found.now same c.args.fault.place c.args.fault.other_stands c.requires.shallow c.requires.fault c.if-fault.true c.if-token-found.true (let e = c.begins_program.ensures in let h = c.if-begins_program.true in cc)

pub returns-else-fault : goal.returns-else-fault
returns-else-fault c = λ text ts same. refusal_syntax text ts c.args.found.now same c.args.fault.place c.args.fault.other_stands c.requires.shallow c.requires.fault (elim c.else-fault.branch [
  | else-fault-via-then-fault+then-token-found+else-begins_program w ↦ no_word text ts c.args.found.now same c.args.fault.place c.args.fault.other_stands c.requires.shallow c.requires.fault w.if-token-found.true (let e = w.begins_program.ensures in let h = w.if-begins_program.false in cc)
  | else-fault-via-then-fault+else-token-found w ↦ beyond text ts c.args.found.now same c.args.fault.place c.args.fault.other_stands c.requires.shallow c.requires.fault (let h = w.if-token-found.false in omega (arith, h))
  | else-fault-via-else-fault w ↦ no_scope text ts c.args.found.now same c.args.fault.place c.args.fault.other_stands c.requires.shallow c.requires.fault w.if-fault.false
])
