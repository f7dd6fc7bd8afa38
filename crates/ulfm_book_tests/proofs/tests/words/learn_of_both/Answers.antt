use Rattle.std.proofs.Common.{ℕ, ◌<◌, false, [], arith}
use mathlib.Core.List.{IsPrefix}
use Rattle.ulfm_model.specs.declared.{place.Place.{Place}, place.Place.TheVariants.{List as ListAt, Revoked as RevokedAt}}
use Rattle.ulfm_model.specs.{History.{History}, Runs.{Did}, Words.{word_at}}
use Rattle.ulfm_words.proofs.Growing.{word_stays}
use Rattle.ulfm_book_tests.proofs.tests.words.learn_of_both.Goals as goal

module _ {P : Type 0} (pack : P → ℕ) (p : Place) (old new : History P) where
  still_set : IsPrefix old new → 0 < word_at pack old p → 0 < word_at pack new p
  still_set begins set = omega (arith, word_stays pack p old new begins set, set)

  set_after : Did false [] old new → 0 < word_at pack old p → 0 < word_at pack new p
  set_after did = still_set (did.since, did.goes_on)

pub returns : goal.returns
returns g c =
    let pack = g.P.Packed.pack in
    let at_first = c.learn.new.pass.seen in
    let at_second = c.learn-2.new.pass.seen in
    let at_load = c.load.new.pass.seen in
    let at_end = c.load-2.new.pass.seen in
    let one = still_set pack (ListAt 0) _ at_first c.learn.ensures.hears c.join-first.ensures.first.1 in
    let one_later = set_after pack (ListAt 0) at_second at_load c.load.ensures.loads.did (set_after pack (ListAt 0) at_first at_second c.learn-2.ensures.did one) in
    let two = still_set pack (RevokedAt 0) _ at_second c.learn-2.ensures.hears c.join-first.ensures.second.1 in
    let two_later = set_after pack (RevokedAt 0) at_load at_end c.load-2.ensures.loads.did (set_after pack (RevokedAt 0) at_second at_load c.load.ensures.loads.did two) in
    (omega (arith, c.load.ensures.word, one_later), omega (arith, c.load-2.ensures.word, two_later))
