use Rattle.std.proofs.Common.{◌≡◌, ◌+◌, ◌<◌, length, ap, sym, subst, arith}
use Rattle.ulfm_script.specs.Words.{rest_at}
use Rattle.ulfm_schedules.proofs.WordLemmas.{shorter, size_in}
use Rattle.ulfm_schedules.proofs.program.+begins_with.Goals as goal

pub begins_with-requires : goal.begins_with-requires
begins_with-requires t c =
    let behind : size_in (rest_at c.split_word.result.1) < length c.in-Some.wanted.now + 1 =
    subst (λ p. size_in p < length c.in-Some.wanted.now + 1) (sym (ap (λ p. p.1) c.split_word.ensures)) (shorter c.in-Some.wanted.now) in
    let measure : size_in (rest_at c.args.words) ≡ t = c.decreases in
    let whole : size_in (rest_at c.args.words) ≡ length c.in-Some.wanted.now + 1 = ap (λ x. size_in (rest_at x)) c.in-Some.is in
    let less : size_in (rest_at c.split_word.result.1) < t = omega arith in
    (less, tt)
