-- The reply that stands first at a place.
use Rattle.std.proofs.Common.{◌≡◌, ◌<◌, ◌+◌, ◌∙◌, ℕ, List, length, drop, ap, sym, Option, Some, None, slice_index_or}
use Rattle.std.specs.Borrow.{Bor}
use Rattle.std.specs.Prelude.{slice_get, Vec, option_map}
use Rattle.std.specs.Slice.{IsItemAt}
use Rattle.std.proofs.lemmas.Option.{slice_get-get_or, slice_get_past}
use Rattle.std.proofs.lemmas.List.{drop_more}
use Rattle.ulfm_laws.specs.declared.flag_and.FlagAnd.{FlagAnd}
use Rattle.ulfm_model.specs.declared.reply.Reply.{Reply}
use Rattle.ulfm_filters.specs.RaceLines.{as_lists, or_next, reply_at, standing}

-- the vectors of replies that ranks have
abbrev pub Said : Type 0 → Type 0
Said A = Vec (Reply FlagAnd) A

-- what stands from the i-th rank on is what that rank has, or else what stands behind it
pub one_more : {A : Type 0} (place : ℕ) (xs : List (Said A)) (i : ℕ) (d : Said A) (x : Said A) (got : Option (Reply FlagAnd)) → i < length xs → slice_index_or xs i d ≡ x
    → standing (slice_get x.items place) ≡ got → reply_at place (as_lists (drop i xs)) ≡ or_next got (reply_at place (as_lists (drop (i + 1) xs)))
one_more {A} place xs i d x got lt is stands =
    ap (λ (ys : List (Said A)). reply_at place (as_lists ys)) (drop_more xs i d lt)
    ∙ ap (λ (y : Said A). or_next (standing (slice_get y.items place)) (reply_at place (as_lists (drop (i + 1) xs)))) is
    ∙ ap (λ (o : Option (Reply FlagAnd)). or_next o (reply_at place (as_lists (drop (i + 1) xs)))) stands

-- what is lent of a list is its element at that place
pub get_is : {X : Type 0} (xs : List X) (i : ℕ) (r : Option (Bor X)) → IsItemAt xs i r → option_map (λ (x : Bor X). x.now) r ≡ slice_get xs i
get_is xs i None h = sym (slice_get_past xs i h.3)
get_is xs i (Some x) h = sym (slice_get-get_or xs i x.now h.3.0 ∙ ap Some (sym h.1))
