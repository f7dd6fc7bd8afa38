use Rattle.std.proofs.Common.{map}
use Rattle.ulfm_explore.specs.Views.{told_of}
use Rattle.ulfm_explore.proofs.showing.text_of.Goals as goal

pub returns-in_ok-text-in-None-clause-all : goal.returns-in_ok-text-in-None-clause-all
returns-in_ok-text-in-None-clause-all g c =
    λ none. record {
      told = map told_of c.in_ok-shown-in-None.shown.items;
      shown = c.in_ok-shown-in-None.ensures;
      text_is = rw c.as_slice.ensures.value at c.in_ok-text-in-None.ensures;
    }
