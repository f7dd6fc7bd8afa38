use Rattle.std.proofs.Common.{◌≡◌, ◌==◌, ◌&&◌, ℕ, Bool, true, false, List, length, not, refl, sym, ap, ap₂, ◌∙◌}
use Rattle.ulfm_model.specs.History.{has}
use Rattle.ulfm_judge.specs.CallsAt.{call_at}
use Rattle.ulfm_judge.proofs.polls.is_shrunk.Goals as goal

-- the last of five tests decides, where the others pass
last_of : (least out first made size : Bool) → least ≡ true → out ≡ false → (first && made) ≡ true → size ≡ (least && (not out && (first && (made && size))))
last_of true false true true size is_least is_out is_made = refl
last_of false out first made size is_least is_out is_made = absurd (cc is_least)
last_of true true first made size is_least is_out is_made = absurd (cc is_out)
last_of true false false made size is_least is_out is_made = absurd (cc is_made)
last_of true false true false size is_least is_out is_made = absurd (cc is_made)

pub returns-then-was_made : goal.returns-then-was_made
returns-then-was_made g c =
    let caller = (call_at c.args.view.now).caller.number in
    let out = ap (λ (ranks : List ℕ). has ranks caller) (sym c.deref.ensures.value) ∙ (sym c.has_rank.ensures ∙ c.if-not-has_rank.true) in
    ap₂ (λ (n : ℕ) (group : List ℕ). n == length group) c.from.ensures c.members_at-group.ensures
    ∙ last_of _ _ _ _ _ (sym c.has_least.ensures ∙ c.if-has_least.true) out (sym c.was_made-was_made.ensures ∙ c.if-was_made.true)
