use Rattle.congruence.proofs.cases.under_conditions.Goals as goal

pub under-requires : goal.under-requires
under-requires c =
    let r = c.requires in
    record {
      left = record { pair = r.left.then_part; hypothesis = r.left.condition; value = r.left_values.then_value };
      right = record { pair = r.right.then_part; hypothesis = r.right.condition; value = r.right_values.then_value };
      sides = r.sides;
      goal = r.goal;
      goal_is = r.goal_is;
      parts = r.links.then_part;
    }

pub returns : goal.returns
returns c = record { refutes = c.under.ensures.refutes; grows = c.under.ensures.grows }
