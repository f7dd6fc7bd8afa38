use Rattle.ulfm_model.proofs.WordRules.{has_words, sets_one_word}
use Rattle.ulfm_model.proofs.laws.words_tell_events.Goals as goal

pub returns : goal.returns
returns g c = λ pack limits h legal.
    let meld = g.P.Meld.meld in (has_words pack meld limits h legal, sets_one_word pack meld limits h)
