use Rattle.ulfm_draw.proofs.Reading.{last_ends, last_put}
use Rattle.ulfm_draw.proofs.page.Page.finish.Goals as goal

pub returns-clause-well_formed : goal.returns-clause-well_formed
returns-clause-well_formed g c =
    last_put c.args.self.bytes.items c.fill.new.text.items c.extend_from_slice.new.self.items c.put_words.new.text.items c.extend_from_slice-2.new.self.items
    c.args.words.now c.args.self.stands c.in_ok-fill.ensures.reads c.in_ok-extend_from_slice.ensures.items c.in_ok-put_words.ensures
    c.in_ok-extend_from_slice-2.ensures.items

pub returns-clause-ends : goal.returns-clause-ends
returns-clause-ends g c =
    last_ends c.fill.new.text.items c.extend_from_slice.new.self.items c.put_words.new.text.items c.extend_from_slice-2.new.self.items
    c.args.words.now c.in_ok-extend_from_slice.ensures.items c.in_ok-put_words.ensures c.in_ok-extend_from_slice-2.ensures.items
