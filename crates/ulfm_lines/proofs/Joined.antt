-- Pieces of traces, one behind another.
use Rattle.std.proofs.Common.{◌≡◌, ◌+◌, Bool, true, false, List, [], ◌∷◌, ◌++◌, length, filter, refl, ap, sym, ◌∙◌, append_assoc, length-append, if◌then◌else◌}
use Rattle.std.specs.List.{AllByRecursion}
use Rattle.ulfm_laws.specs.declared.flag_and.FlagAnd.{FlagAnd}
use Rattle.ulfm_model.specs.{Follows.{EndsInReply, steps_in, takes_step}, Traces.{Told}}
use Rattle.ulfm_lines.specs.LineTexts.{line_text, lines_text}

-- the text of lines behind lines
pub lines_append : (xs ys : List (Told FlagAnd)) → lines_text (xs ++ ys) ≡ lines_text xs ++ lines_text ys
lines_append [] ys = refl
lines_append (x ∷ xs) ys =
    ap (λ rest. line_text x.group x.line ++ 10 ∷ rest) (lines_append xs ys)
    ∙ sym (append_assoc (line_text x.group x.line) (10 ∷ lines_text xs) (lines_text ys))

-- what holds of each of both holds of each
pub all_append : {X : Type 0} (Q : X → Type 0) (xs ys : List X) → AllByRecursion Q xs → AllByRecursion Q ys → AllByRecursion Q (xs ++ ys)
all_append Q [] ys one other = other
all_append Q (x ∷ xs) ys one other = (one.0, all_append Q xs ys one.1 other)

filter_append : {X : Type 0} (p : X → Bool) (xs ys : List X) → filter p (xs ++ ys) ≡ filter p xs ++ filter p ys
filter_append p [] ys = refl
filter_append {X} p (x ∷ xs) ys = go (p x) (filter_append p xs ys)
  where
    go : (b : Bool) → filter p (xs ++ ys) ≡ filter p xs ++ filter p ys → (if b then x ∷ filter p (xs ++ ys) else filter p (xs ++ ys)) ≡ (if b then x ∷ filter p xs else filter p xs) ++ filter p ys
    go true same = ap (λ zs. x ∷ zs) same
    go false same = same

-- the steps that tell both
pub steps_append : (xs ys : List (Told FlagAnd)) → steps_in (xs ++ ys) ≡ steps_in xs + steps_in ys
steps_append xs ys = ap length (filter_append (λ (told : Told FlagAnd). takes_step told.line) xs ys) ∙ length-append (filter (λ (told : Told FlagAnd). takes_step told.line) xs) (filter (λ (told : Told FlagAnd). takes_step told.line) ys)

-- the last line of both is that of the second
pub ends_append : (xs ys : List (Told FlagAnd)) → EndsInReply ys → EndsInReply (xs ++ ys)
ends_append xs ys ends = (xs ++ ends.0, ends.1, ap (λ zs. xs ++ zs) ends.2 ∙ sym (append_assoc xs ends.0 (ends.1 ∷ [])), ends.3)
