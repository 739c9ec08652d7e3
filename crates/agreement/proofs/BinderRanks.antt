-- The body of a binder at a closed term has a lower rank than the binder.
use Rattle.std.proofs.Common.{◌≡◌, ℕ, ◌≤◌, inl, [], ◌∷◌, refl, subst, arith}
use Rattle.trees.specs.Tree.{Tree, loose, pat_vars}
use Rattle.trees.specs.Binding.{inst}
use Rattle.trees.proofs.Many.{inst_is_many}
use Rattle.agreement.specs.Laws.{BodiesRankLower}
use Rattle.agreement.specs.Ranks.{rank, zero_ranks, ranks_put}
use Rattle.agreement.proofs.Ranks.{expression_rank}
use Rattle.agreement.proofs.PatternRanks.{body_rank}

-- one closed term of at most a rank
pub inst_rank : (e t : Tree) (r : ℕ) → loose t ≡ 0 → pat_vars t ≡ 0 → ((w : ℕ) → rank t zero_ranks w ≤ r) → rank (inst e t) zero_ranks 0 ≤ rank e (ranks_put 1 r zero_ranks) 0
inst_rank e t r l p k = subst (λ (z : Tree). rank z zero_ranks 0 ≤ rank e (ranks_put 1 r zero_ranks) 0) (inst_is_many e t) (body_rank r (t ∷ []) ((l, p), tt) (k, tt) e 1 refl)

pub binders_lower : BodiesRankLower
binders_lower v a s l p =
    let own : (w : ℕ) → rank v zero_ranks w ≤ rank v zero_ranks 0 = λ w. let z = expression_rank v zero_ranks w 0 (inl s) in omega (arith, z) in
    let r = inst_rank a v (rank v zero_ranks 0) l p own in (
      omega (arith, r),
      λ ty q.
          let z = inst_rank a v 0 l p (λ w. let o = own w in omega (arith, o, q)) in
          (omega (arith, z), omega (arith, z)),
    )
