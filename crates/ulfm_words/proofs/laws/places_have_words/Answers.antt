use Rattle.ulfm_words.proofs.Keys.{key_lt, one_key}
use Rattle.ulfm_words.proofs.laws.places_have_words.Goals as goal

pub returns : goal.returns
returns c limits = record { inside = key_lt limits; apart = one_key limits }
