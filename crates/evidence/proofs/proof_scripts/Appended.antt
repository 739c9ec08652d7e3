-- Scripts one after the other: what the first refutes, and then what the second refutes.
use Rattle.std.proofs.Common.{◌≡◌, List, [], ◌∷◌, ◌++◌, slice_get, subst, append_assoc}
use Rattle.std.proofs.lemmas.List.{map-append}
use Rattle.trees.specs.Tree.{Tree}
use Rattle.tasks.specs.Task.{neg}
use Rattle.rules.specs.Forms.{negated, connected}
use Rattle.rules.specs.Rows.{where_true, where_false}
use Rattle.evidence.specs.Drafts.{DraftTree}
use Rattle.evidence.proofs.Rules.{some_map}
use Rattle.evidence.specs.declared.proof_scripts.line.Line.{Line}
use Rattle.evidence.specs.proof_scripts.Scripts.{LineTree, GivenLine, KeptLine, HoldingLine, FailingLine, CutLine, TailLine, MadeLine, script_line_at, lines_at, sequents_under, adds, Follows}

module _ (d : DraftTree) (f : List Tree) where
  -- what is opened before other sequents
  opened_before : (ls : List LineTree) (os ts us : List (List Tree)) → Follows d f ls ((os ++ ts) ++ us) → Follows d f ls (os ++ (ts ++ us))
  opened_before ls os ts us h = subst (Follows d f ls) (append_assoc os ts us) h

  pub follows_append : (ls ks : List LineTree) (ts us : List (List Tree)) → Follows d f ls ts → Follows d f ks us → Follows d f (ls ++ ks) (ts ++ us)
  follows_append [] ks [] us h g = g
  follows_append [] ks (t ∷ ts) us h g = absurd h
  follows_append (GivenLine k n ∷ ls) ks [] us h g = absurd h
  follows_append (KeptLine k ps ∷ ls) ks [] us h g = absurd h
  follows_append (MadeLine r a ∷ ls) ks [] us h g = absurd h
  follows_append (HoldingLine op i ∷ ls) ks [] us h g = absurd h
  follows_append (FailingLine op i ∷ ls) ks [] us h g = absurd h
  follows_append (CutLine a ∷ ls) ks [] us h g = absurd h
  follows_append (TailLine r ∷ ls) ks [] us h g = absurd h
  follows_append (GivenLine k n ∷ ls) ks (t ∷ ts) us h g = (h.0, follows_append ls ks ts us h.1 g)
  follows_append (KeptLine k ps ∷ ls) ks (t ∷ ts) us h g = (h.0, follows_append ls ks ts us h.1 g)
  follows_append (MadeLine r a ∷ ls) ks (t ∷ ts) us h g = (h.0, follows_append ls ks ((t ++ a ∷ []) ∷ ts) us h.1 g)
  follows_append (HoldingLine op i ∷ ls) ks (t ∷ ts) us h g =
      some_map (connected (slice_get t i)) _ _
      (λ p z. (z.0, opened_before (ls ++ ks) (sequents_under t (where_true op p.1 p.2)) ts us (follows_append ls ks (sequents_under t (where_true op p.1 p.2) ++ ts) us z.1 g))) h
  follows_append (FailingLine op i ∷ ls) ks (t ∷ ts) us h g =
      some_map (connected (negated (slice_get t i))) _ _
      (λ p z. (z.0, opened_before (ls ++ ks) (sequents_under t (where_false op p.1 p.2)) ts us (follows_append ls ks (sequents_under t (where_false op p.1 p.2) ++ ts) us z.1 g))) h
  follows_append (CutLine a ∷ ls) ks (t ∷ ts) us h g =
      let os = sequents_under t ((a ∷ []) ∷ (neg a ∷ []) ∷ []) in
      opened_before (ls ++ ks) os ts us (follows_append ls ks (os ++ ts) us h g)
  follows_append (TailLine r ∷ ls) ks (t ∷ ts) us h g =
      let os = sequents_under t (adds t r) in
      (h.0, h.1, opened_before (ls ++ ks) os ts us (follows_append ls ks (os ++ ts) us h.2 g))

-- the lines of both
pub lines_append : (s : List Tree) (ls ks : List Line) → lines_at s (ls ++ ks) ≡ lines_at s ls ++ lines_at s ks
lines_append s ls ks = map-append (script_line_at s) ls ks
