use Rattle.std.proofs.Common.{◌≡◌, ◌+◌, ◌∷◌, [], ◌++◌, ap, ap₂, sym, subst, ◌∙◌, map, length, length-append, arith}
use Rattle.std.specs.List.{AllByRecursion}
use Rattle.ulfm_model.specs.{History.{first_ranks}, Records.{new_record}}
use Rattle.ulfm_comm.specs.{Counts.{new_rank, ranked}, Ranks.{IsEmptyList}}
use Rattle.ulfm_comm.proofs.Opening.{one_rank_more}
use Rattle.ulfm_comm.proofs.world.ranks_of.Goals as goal

pub loop-seen-preserved : goal.loop-seen-preserved
loop-seen-preserved g c =
    let limits = c.args.limits in
    let before = c.loop-seen.ranks.items in
    let more : length c.push.new.self.items ≡ length before + 1 = ap length c.in_ok-push.ensures.items ∙ length-append before (_ ∷ []) in
    let rank = c.with_state.ensures ∙ ap (λ own. ranked own 0) (c.in_ok-new.ensures ∙ ap (new_record limits) (c.len-number.ensures ∙ c.loop-seen.ranks.ok.0)) in (
      c.in_ok-push.ensures.items ∙ (ap₂ (λ xs x. xs ++ x ∷ []) c.loop-seen.invariant.0 rank
          ∙ (sym (one_rank_more limits (length before)) ∙ ap (λ n. map (new_rank limits) (first_ranks n)) (sym more))),
      omega (arith, more, c.loop-seen.invariant.1, ap length c.in-Some.ensures.steps.0),
      (subst (AllByRecursion (IsEmptyList limits.ranks)) c.in-Some.ensures.steps.0 c.loop-seen.invariant.2).1,
    )
