use Rattle.std.proofs.Common.{◌≡◌, ℕ, ◌<◌, ◌+◌, ◌-◌, min, ◌∷◌, ◌++◌, [], List, arith, length, length-append, ap, sym, subst, refl, inl, inr, Some, None, ◌∙◌}
use Rattle.ulfm_lines.specs.Telling.{TextTells}
use Rattle.ulfm_story.proofs.Stories.{no_split, rows_push, same_line, stops}
use Rattle.ulfm_story.specs.Tellings.{AreRowsOf, IsRowOf}
use Rattle.ulfm_script.specs.Buffers.{HasNoNewline}
use Rattle.ulfm_story.proofs.story.tell_lines.Goals as goal

pub lines-init : goal.lines-init
lines-init g c = λ limits first. ([], first, refl, refl)

pub lines-preserved : goal.lines-preserved
lines-preserved g c = λ limits first.
    let so = c.lines.invariant limits first in
    let less : length so.0 < 65536 = omega (arith, so.3, c.lines-test.true, c.min.ensures, c.saturating_sub-most.ensures) in
    let more = c.in_ok-tell.ensures limits so.0 so.1 less in
    let is_row : IsRowOf c.lines.left.now more.0 c.in-Some.behind.now = record {
      line = c.in-Some.line.now;
      ranks = c.read_line.new.group.items;
      free = c.in-Some.ensures.0;
      splits = c.in-Some.ensures.1;
      told = c.in-Some-2.told;
      tells = rw c.in-Some-2.is at c.in_ok-told.ensures.found;
      is_row = more.1;
    } in (
      so.0 ++ more.0 ∷ [],
      more.2,
      rows_push c.args.text.now so.0 c.lines.left.now c.in-Some.behind.now more.0 so.2 is_row,
      omega (arith, so.3, length-append so.0 (more.0 ∷ [])),
    )

pub returns-in_default : goal.returns-in_default
returns-in_default g c = λ limits first.
    stops limits c.args.text.now c.lines.left.now _ _ _ (c.lines.invariant limits first)
    (inr (λ line behind ranks told free splits tells. no_split line behind (subst HasNoNewline splits c.in_default.ensures)))

pub returns-in_default-2 : goal.returns-in_default-2
returns-in_default-2 g c = λ limits first.
    stops limits c.args.text.now c.lines.left.now _ _ _ (c.lines.invariant limits first)
    (inr (λ line behind ranks told free splits tells.
    let same = same_line line c.in-Some.line.now behind c.in-Some.behind.now free c.in-Some.ensures.0 (sym splits ∙ c.in-Some.ensures.1) in
    let read = c.in_ok-told.ensures.only told ranks (subst (λ (xs : List ℕ). TextTells xs ranks told) same tells) in
    absurd (cc (read.0, c.in_default-2.is))))

pub returns : goal.returns
returns g c = λ limits first.
    let so = c.lines.invariant limits first in
    stops limits c.args.text.now c.lines.left.now _ _ _ so
    (inl (omega (arith, so.3, c.lines-test.false, c.min.ensures, c.saturating_sub-most.ensures, c.lines.auto.number-end)))
