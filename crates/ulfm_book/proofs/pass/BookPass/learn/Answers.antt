use Rattle.ulfm_book.proofs.Telling.{learn_tells}
use Rattle.ulfm_book.proofs.pass.BookPass.learn.Goals as goal

pub returns : goal.returns
returns g c =
    let seen = c.self.inside.seen in
    let told = c.told.inside.seen in
    let now = c.learn.new.self in
    learn_tells g.P.Meld.meld g.P.Packed.pack seen.book now.book told.book seen.log told.log now.log c.self.inside.trail.log.items c.args.told.now c.args.self.now
    c.told.view_is c.self.view_is c.requires.of c.learn.ensures.0 c.self.invariant c.learn.ensures.2 c.learn.ensures.3 c.learn.ensures.4.1.is_log
