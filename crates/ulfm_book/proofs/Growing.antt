-- How a log grows.
use Rattle.std.proofs.Common.{◌≡◌, List, [], ◌∷◌, ◌++◌, refl, ap, sym, ◌∙◌, append-nil}
use mathlib.Core.List.{IsPrefix}
use Rattle.ulfm_model.specs.declared.{block.Beside.{Beside}, event.Entry.{Entry}}
use Rattle.ulfm_model.specs.History.{MayFollow}
use Rattle.ulfm_model.proofs.Histories.{legal_push}
use Rattle.ulfm_words.specs.Besides.{written}
use Rattle.ulfm_book.specs.declared.{line.Line.{Line}, line.Line.TheVariants.{Opened, Made, Kept}}
use Rattle.ulfm_book.specs.{Logs.{HasLimitsFirst, HasNoLimits, IsLog, cached_in, history_in, limits_in, written_in}, Rules.{Extends}}

module _ {P : Type 0} where
  pub history_in-append : (xs ys : List (Line P)) → history_in (xs ++ ys) ≡ history_in xs ++ history_in ys
  history_in-append [] ys = refl
  history_in-append (Opened limits ∷ xs) ys = history_in-append xs ys
  history_in-append (Made e ∷ xs) ys = ap (λ h. e ∷ h) (history_in-append xs ys)
  history_in-append (Kept b ∷ xs) ys = history_in-append xs ys

  pub cached_in-append : (xs ys : List (Line P)) → cached_in (xs ++ ys) ≡ cached_in xs ++ cached_in ys
  cached_in-append [] ys = refl
  cached_in-append (Opened limits ∷ xs) ys = cached_in-append xs ys
  cached_in-append (Made e ∷ xs) ys = cached_in-append xs ys
  cached_in-append (Kept b ∷ xs) ys = ap (λ bs. b ∷ bs) (cached_in-append xs ys)

  limits_append : (log more : List (Line P)) → HasLimitsFirst log → limits_in (log ++ more) ≡ limits_in log
  limits_append [] more is = absurd is
  limits_append (Opened limits ∷ log) more is = refl
  limits_append (Made e ∷ log) more is = absurd is
  limits_append (Kept b ∷ log) more is = absurd is

  no_limits_push : (log : List (Line P)) (line : Line P) → HasNoLimits (line ∷ []) → HasNoLimits log → HasNoLimits (log ++ line ∷ [])
  no_limits_push [] line new is = new
  no_limits_push (Opened limits ∷ log) line new is = absurd is
  no_limits_push (Made e ∷ log) line new is = no_limits_push log line new is
  no_limits_push (Kept b ∷ log) line new is = no_limits_push log line new is

  limits_first_push : (log : List (Line P)) (line : Line P) → HasNoLimits (line ∷ []) → HasLimitsFirst log → HasLimitsFirst (log ++ line ∷ [])
  limits_first_push [] line new is = absurd is
  limits_first_push (Opened limits ∷ log) line new is = no_limits_push log line new is
  limits_first_push (Made e ∷ log) line new is = absurd is
  limits_first_push (Kept b ∷ log) line new is = absurd is

  -- an event's line has no block and no wing, and the line of such no event
  cached_made : (log : List (Line P)) (e : Entry P) → cached_in (log ++ Made e ∷ []) ≡ cached_in log
  cached_made log e = cached_in-append log (Made e ∷ []) ∙ append-nil (cached_in log)

  history_kept : (log : List (Line P)) (b : Beside) → history_in (log ++ Kept b ∷ []) ≡ history_in log
  history_kept log b = history_in-append log (Kept b ∷ []) ∙ append-nil (history_in log)

  module _ (meld : P → P → P) where
    -- the limits stay as a log grows
    pub limits_stay : (log more : List (Line P)) → IsLog meld log → limits_in (log ++ more) ≡ limits_in log
    limits_stay log more is = limits_append log more is.limits_first

    -- what a log that goes on shows
    pub sees : (old new : List (Line P)) → IsLog meld old → IsLog meld new → IsPrefix old new → Extends meld old new
    sees old new old_is new_is begins = record {
      limits = ap limits_in (sym begins.1) ∙ limits_stay old begins.0 old_is;
      history = (history_in begins.0, sym (history_in-append old begins.0) ∙ ap history_in begins.1);
      cached = (cached_in begins.0, sym (cached_in-append old begins.0) ∙ ap cached_in begins.1);
      is_log = new_is;
    }

    -- an event that may come next keeps it a log
    pub log_push : (log : List (Line P)) (e : Entry P) → IsLog meld log → MayFollow meld (limits_in log) (history_in log) e.event → IsLog meld (log ++ Made e ∷ [])
    log_push log e is may =
        let limits : limits_in (log ++ Made e ∷ []) ≡ limits_in log = limits_stay log (Made e ∷ []) is in
        let history : history_in (log ++ Made e ∷ []) ≡ history_in log ++ e ∷ [] = history_in-append log (Made e ∷ []) in
        record {
          limits_first = limits_first_push log (Made e) tt is.limits_first;
          legal = rw (limits, history) (legal_push meld (limits_in log) (history_in log) e is.legal may);
        }

    -- and so does a block or a wing
    pub log_kept : (log : List (Line P)) (b : Beside) → IsLog meld log → IsLog meld (log ++ Kept b ∷ [])
    log_kept log b is =
        let limits : limits_in (log ++ Kept b ∷ []) ≡ limits_in log = limits_stay log (Kept b ∷ []) is in
        let history : history_in (log ++ Kept b ∷ []) ≡ history_in log = history_kept log b in
        record {
          limits_first = limits_first_push log (Kept b) tt is.limits_first;
          legal = rw (limits, history) is.legal;
        }

    -- what the log comes to after either
    pub written_made : (log : List (Line P)) (e : Entry P) → IsLog meld log → written_in (log ++ Made e ∷ []) ≡ written (history_in log ++ e ∷ []) (limits_in log) (cached_in log)
    written_made log e is = λ i. written (history_in-append log (Made e ∷ []) i) (limits_stay log (Made e ∷ []) is i) (cached_made log e i)

    pub written_kept : (log : List (Line P)) (b : Beside) → IsLog meld log → written_in (log ++ Kept b ∷ []) ≡ written (history_in log) (limits_in log) (cached_in log ++ b ∷ [])
    written_kept log b is = λ i. written (history_kept log b i) (limits_stay log (Kept b ∷ []) is i) (cached_in-append log (Kept b ∷ []) i)
