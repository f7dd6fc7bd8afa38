use Rattle.std.proofs.Common.{sym, ◌∙◌}
use Rattle.ulfm_book_tests.proofs.tests.calls.declare_then_learn.Goals as goal

pub join-group-requires-after_bounds : goal.join-group-requires-after_bounds
join-group-requires-after_bounds g c κs within = (c.join-told.ensures.first ∙ sym c.requires, tt)
