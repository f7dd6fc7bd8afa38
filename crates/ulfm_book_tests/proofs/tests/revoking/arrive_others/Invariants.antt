use Rattle.std.proofs.Common.{◌≡◌}
use Rattle.std.specs.List.{AllByRecursion}
use Rattle.ulfm_book_tests.proofs.tests.revoking.arrive_others.Given as goal

abbrev pub invariant-loop-member : goal.invariant-loop-member
invariant-loop-member g l =
    (l.outside ≡ l.fn.outside) × AllByRecursion (λ m. m.view.words ≡ l.outside.words) l.member-iterator.rest.items × AllByRecursion (λ m. m.view.words ≡ l.outside.words) l.ready.items
