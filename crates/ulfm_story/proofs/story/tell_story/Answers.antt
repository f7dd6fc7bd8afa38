use Rattle.std.proofs.Common.{◌≡◌, ◌∙◌, ℕ, ◌-◌, min, List, length, filter_map, ap, sym, subst}
use Rattle.ulfm_model.specs.declared.limits.Limits.{Limits}
use Rattle.ulfm_story.specs.declared.rows.Row.{Row}
use Rattle.ulfm_story.specs.{Stories.{decisions, told_of}, Tellings.{AreRowsOf, EndsAt}}
use Rattle.ulfm_story.proofs.story.tell_story.Goals as goal

pub returns : goal.returns
returns g c =
    let so = c.in_ok-tell_lines.ensures c.in-Ok.limits c.in_ok-telling.ensures in
    let made = c.in_ok-story.ensures in
    let story = c.in_ok-story.story in
    let rows : story.rows.items ≡ so.rows = made.1 ∙ so.is_told.rows_are in
    let ranks : story.limits.ranks ≡ c.in-Ok.limits.ranks = ap (λ (l : Limits). l.ranks) (made.0 ∙ so.is_told.world) in
    record {
      header = c.in-Some.first.now;
      behind = c.in-Some.rest.now;
      left = so.left;
      free = c.in-Some.ensures.0;
      splits = c.in-Some.ensures.1;
      rows = subst (λ (rs : List Row). AreRowsOf c.in-Some.rest.now rs so.left) (sym rows) so.are_rows;
      ends = subst (λ (rs : List Row). EndsAt (min c.args.lines 20000 - 1) (length rs) so.left) (sym rows) so.ends;
      decisions = ap (filter_map told_of) made.2 ∙ (so.is_told.notes ∙ (ap (λ (n : ℕ). decisions n so.rows) (sym ranks) ∙ ap (decisions story.limits.ranks) (sym rows)));
    }
