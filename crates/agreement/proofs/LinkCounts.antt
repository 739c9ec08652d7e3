-- A list of links of length 0 has none.
use Rattle.std.proofs.Common.{◌≡◌, List, [], ◌∷◌, length, refl, arith}
use Rattle.agreement.specs.declared.questions.Link.{Link}

pub no_links : (ws : List Link) → length ws ≡ 0 → ws ≡ []
no_links [] e = refl
no_links (w ∷ ws) e = absurd (omega (arith, e))
