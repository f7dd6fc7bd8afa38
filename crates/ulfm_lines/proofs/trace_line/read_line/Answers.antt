use Rattle.std.proofs.Common.{◌≡◌, ◌≤◌, ◌∙◌, length, Some, ap, sym, subst, arith}
use Rattle.ulfm_script.specs.Words.{rest_at}
use Rattle.ulfm_lines.specs.{LineReading.{line_listing}, LineTexts.{TraceLine}, Telling.{TextTells}}
use Rattle.ulfm_lines.proofs.ReadLemmas.{few_read, found_read, no_head, none_read, only_read}
use Rattle.ulfm_lines.proofs.trace_line.read_line.Goals as goal

pub returns-in-Err-clause-only : goal.returns-in-Err-clause-only
returns-in-Err-clause-only g c = λ told ranks tells. absurd (no_head c.args.line.now c.in-Err.field-0 told ranks c.in-Err.ensures tells)

pub returns-then-not-branch-clause-only : goal.returns-then-not-branch-clause-only
returns-then-not-branch-clause-only g c = λ told ranks tells.
    absurd (none_read c.args.line.now c.read_ranks.new.group.items c.in-Ok.told (rest_at c.in-Ok.ranks) c.in_ok-read_ranks-in-Ok.field-0 c.if-not-branch.true c.in-Ok.ensures c.in_ok-read_ranks-in-Ok.ensures told ranks tells)

pub overflow_cast-len : goal.overflow_cast-len
overflow_cast-len g c =
    let short : length c.args.line.now ≤ 8192 = omega (arith, c.if-line-gt-LONGEST.false) in
    let few = few_read c.args.line.now c.read_ranks.new.group.items c.in-Ok.told (rest_at c.in-Ok.ranks) c.in_ok-read_ranks-in-Ok.field-0 c.if-not-branch.false c.in-Ok.ensures c.in_ok-read_ranks-in-Ok.ensures short in
    omega (arith, few, c.len.ensures, c.read_ranks.new.group.ok.0)

pub returns-else-not-branch-clause-found : goal.returns-else-not-branch-clause-found
returns-else-not-branch-clause-found g c =
    let short : length c.args.line.now ≤ 8192 = omega (arith, c.if-line-gt-LONGEST.false) in
    let size : c.len.result ≡ length c.read_ranks.new.group.items = omega (arith, c.len.ensures, c.read_ranks.new.group.ok.0) in
    let is : c.list.new.line ≡ line_listing (length c.read_ranks.new.group.items) c.in-Ok.told = c.list.ensures ∙ ap (λ n. line_listing n c.in-Ok.told) size in
    subst (TextTells c.args.line.now c.read_ranks.new.group.items) (sym is)
    (found_read c.args.line.now c.read_ranks.new.group.items c.in-Ok.told (rest_at c.in-Ok.ranks) c.in_ok-read_ranks-in-Ok.field-0 c.if-not-branch.false c.in-Ok.ensures c.in_ok-read_ranks-in-Ok.ensures short)

pub returns-else-not-branch-clause-only : goal.returns-else-not-branch-clause-only
returns-else-not-branch-clause-only g c = λ told ranks tells.
    let size : c.len.result ≡ length c.read_ranks.new.group.items = omega (arith, c.len.ensures, c.read_ranks.new.group.ok.0) in
    let is : c.list.new.line ≡ line_listing (length c.read_ranks.new.group.items) c.in-Ok.told = c.list.ensures ∙ ap (λ n. line_listing n c.in-Ok.told) size in
    let o = only_read c.args.line.now c.read_ranks.new.group.items c.in-Ok.told (rest_at c.in-Ok.ranks) c.in_ok-read_ranks-in-Ok.field-0 c.if-not-branch.false c.in-Ok.ensures c.in_ok-read_ranks-in-Ok.ensures told ranks tells in
    (ap (λ (t : TraceLine). Some t) (is ∙ o.0), o.1)
