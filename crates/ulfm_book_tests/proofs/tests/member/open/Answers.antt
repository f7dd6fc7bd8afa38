use Rattle.std.proofs.Common.{◌≡◌, sym, ◌∙◌}
use Rattle.ulfm_model.proofs.Lists.{each_from}
use Rattle.ulfm_wait.specs.Members.{IsNewMember}
use Rattle.ulfm_book_tests.proofs.tests.member.open.Goals as goal

pub returns : goal.returns
returns g c =
    let outside = c.in_ok-outside.outside in
    let named = sym c.in_ok-outside.ensures.outside.words in
    each_from (IsNewMember g.P.Meld.meld g.P.Packed.pack c.in_ok-words.words) (λ m. m.view.words ≡ outside.words) (λ m is. is.name_is ∙ named)
    c.in_ok-outside.members.items c.in_ok-outside.ensures.members
