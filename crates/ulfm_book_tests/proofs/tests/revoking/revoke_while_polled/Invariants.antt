use Rattle.std.proofs.Common.{◌≡◌}
use Rattle.std.specs.List.{AllByRecursion}
use Rattle.ulfm_book_tests.proofs.tests.revoking.revoke_while_polled.Given as goal

abbrev pub invariant-loop-replies : goal.invariant-loop-replies
invariant-loop-replies g l = AllByRecursion (λ d. d.1.view.words ≡ l.told.name) l.replies-iterator.rest.items
