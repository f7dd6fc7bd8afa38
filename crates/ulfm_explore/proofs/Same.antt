-- Lists that say the same, one by one.
use Rattle.std.proofs.Common.{◌≡◌, ◌∙◌, ℕ, ◌+◌, ◌<◌, List, [], ◌∷◌, ◌++◌, ap, get_or, length, map, sym, take}
use Rattle.std.proofs.lemmas.List.{get_or-map, map_more}

-- the next two say the same too
pub same_more : {X Y : Type 0} (f : X → Y) (xs ys : List X) (i : ℕ) (x y : X) → i < length xs → i < length ys → x ≡ get_or xs i x → y ≡ get_or ys i y → f x ≡ f y
    → map f (take i xs) ≡ map f (take i ys) → map f (take (i + 1) xs) ≡ map f (take (i + 1) ys)
same_more f xs ys i x y in_xs in_ys at_x at_y same so =
    map_more f xs i x in_xs ∙ ap (λ z. map f (take i xs) ++ f z ∷ []) (sym at_x) ∙ ap (λ zs. zs ++ f x ∷ []) so ∙ ap (λ z. map f (take i ys) ++ z ∷ []) same
    ∙ ap (λ z. map f (take i ys) ++ f z ∷ []) at_y ∙ sym (map_more f ys i y in_ys)

-- lists that say the same say it at each place
pub same_there : {X Y : Type 0} (f : X → Y) (xs ys : List X) (i : ℕ) (x y : X) → i < length xs → i < length ys → x ≡ get_or xs i x → y ≡ get_or ys i y
    → map f xs ≡ map f ys → f x ≡ f y
same_there f xs ys i x y in_xs in_ys at_x at_y same =
    ap f at_x ∙ sym (get_or-map f xs i x (f x) in_xs) ∙ ap (λ zs. get_or zs i (f x)) same ∙ get_or-map f ys i y (f x) in_ys ∙ ap f (sym at_y)
