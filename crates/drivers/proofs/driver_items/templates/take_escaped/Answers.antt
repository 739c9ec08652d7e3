use Rattle.std.proofs.Common.{◌≡◌, true, false, ◌&&◌, nat_eq, nat_le, [], ◌∷◌, ◌++◌, ap, ◌∙◌, arith}
use Rattle.std.proofs.lemmas.Bool.Decides.{nat_tests}
use Rattle.drivers.specs.declared.driver_items.kinds.Piece.TheVariants.{Argument}
use Rattle.drivers.specs.driver_items.Templates.{literal_pieces}
use Rattle.drivers.proofs.driver_items.Pieces.{digit-turn}
use Rattle.drivers.proofs.driver_items.templates.take_escaped.Goals as goal

pub returns : goal.returns
returns c =
    let a = c.args.byte in
    let old = c.args.pieces.now in
    let before = c.args.literal.now.items in
    let p : nat_eq a 37 ≡ false = grind (arith, nat_tests) in
    let d : (nat_le 49 a && nat_le a 57) ≡ true = grind (arith, nat_tests) in
    let e = c.in_ok-push-2.ensures.ok
    ∙ ap (λ v. v ++ Argument c.from.result ∷ []) (c.in_ok-put_literal.ensures ∙ ap (λ v. old ++ literal_pieces v) c.deref.ensures.value)
    ∙ ap (λ v. (old ++ literal_pieces before) ++ Argument v ∷ []) c.from.ensures in
    digit-turn a old c.push-2.new.self before c.clear.new.self.items p d e c.clear.ensures.items
