use Rattle.part_texts.proofs.Parted.{problem_there, texts_step}
use Rattle.part_texts.proofs.texts.texts_after.Goals as goal

pub push_part-requires-clause-printer : goal.push_part-requires-clause-printer
push_part-requires-clause-printer c = record {
  can = c.in_ok-things.ensures.held;
  things = c.in_ok-things.ensures.things;
  names = c.as_slice.ensures;
  problem = problem_there c.args.store.now c.args.driver.now c.args.tasks.now c.args.problems.now c.loop-place.place c.index-tasks-place.result c.index-problems-place.result
      c.requires.problems c.index-tasks-place.is c.index-problems-place.is c.loop-place-test.true;
}

pub loop-place-preserved : goal.loop-place-preserved
loop-place-preserved c = (
  texts_step c.args.store.now c.args.driver.now c.args.tasks.now c.loop-place.place c.index-tasks-place.result c.loop-place.out.items c.push_part.new.out.items _ c.index-tasks-place.is c.loop-place-test.true
      c.in_ok-push_part.ensures c.loop-place.invariant.0,
  c.in_ok-things.ensures.noted,
)
