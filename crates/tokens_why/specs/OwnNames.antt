-- The names of symbols after those of their scopes, joined by dots.
use Rattle.std.specs.Prelude.{ℕ, Bool, true, false, List, [], ◌∷◌, nat_eq, if◌then◌else◌}
use Rattle.tokens_why.specs.Bytes.{is_upper}

-- Whether a name without those of its scopes begins otherwise than in upper case: that of `S.a`
-- does, those of `S.C` and `S.C'1` don't.
abbrev mutual
  pub is_lower_own : List ℕ → Bool
  is_lower_own [] = false
  is_lower_own (b ∷ bs) = if is_upper b then is_lower_after_dot bs else true

  -- after the first letter of a scope or of the name
  pub is_lower_after_dot : List ℕ → Bool
  is_lower_after_dot [] = false
  is_lower_after_dot (b ∷ bs) = if nat_eq b 46 then is_lower_own bs else is_lower_after_dot bs
