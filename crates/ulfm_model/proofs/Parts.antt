-- A legal trace in two parts.
use Rattle.std.proofs.Common.{◌≡◌, ◌++◌, List, [], ◌∷◌, refl}
use Rattle.ulfm_model.specs.Traces.{AreLegalAfter, Told, Traced, after, said_by}

module _ {P : Type 0} (meld : P → P → P) where
  pub legal_parts : (now : Traced P) (before rest : List (Told P)) → AreLegalAfter meld now (before ++ rest)
      → AreLegalAfter meld now before × AreLegalAfter meld (said_by now before) rest
  legal_parts now [] rest legal = (tt, legal)
  legal_parts now (told ∷ before) rest legal = let both = legal_parts (after now told.line) before rest legal.1 in ((legal.0, both.0), both.1)

  pub legal_append : (now : Traced P) (before rest : List (Told P)) → AreLegalAfter meld now before → AreLegalAfter meld (said_by now before) rest
      → AreLegalAfter meld now (before ++ rest)
  legal_append now [] rest one other = other
  legal_append now (told ∷ before) rest one other = (one.0, legal_append (after now told.line) before rest one.1 other)

pub said_append : {P : Type 0} (now : Traced P) (before rest : List (Told P)) → said_by now (before ++ rest) ≡ said_by (said_by now before) rest
said_append now [] rest = refl
said_append now (told ∷ before) rest = said_append (after now told.line) before rest
