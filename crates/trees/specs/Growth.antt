-- Growth of a store's trees is reflexive and transitive.
use Rattle.std.specs.Prelude.{List, refl}
use Rattle.std.proofs.Common.{◌∙◌, arith}
use Rattle.trees.specs.Tree.{Tree}
use Rattle.trees.specs.Node.{Grows}

pub Grows_refl : (s : List Tree) → Grows s s
Grows_refl s = record { longer = omega arith; same = λ k h. refl }

pub Grows_trans : (a b c : List Tree) → Grows a b → Grows b c → Grows a c
Grows_trans a b c g h = record {
  longer = omega (arith, g.longer, h.longer);
  same =
      λ k l. h.same k (omega (arith, g.longer)) ∙ g.same k l;
}
