-- The kinds of a path's tokens are the same whatever its first part is.
use Rattle.surface.proofs.unparse.Common.{◌≡◌, List, [], ◌∷◌, refl, Word, terminals, path_from}

pub any_first : (w : Word) (ws : List Word) → terminals (path_from w ws) ≡ terminals (path_from [] ws)
any_first w [] = refl
any_first w (v ∷ ws) = refl
