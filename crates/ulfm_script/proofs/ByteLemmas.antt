-- Known bytes: what one call after another leaves of them.
use Rattle.std.proofs.Common.{◌≡◌, ℕ, suc, ◌+◌, ◌-◌, ◌<◌, ◌≤◌, List, [], ◌∷◌, ◌++◌, length, take, drop, get_or, length-drop, Option, Some, None, refl, sym, ap, ◌∙◌, append_assoc, arith, add-one}
use Rattle.std.specs.Prelude.{slice_range}
use Rattle.std.specs.Io.KnownBytes.{Keeps, Appends, Consumes, IsAtEnd, prepend_known}
use Rattle.std.proofs.lemmas.List.{append-nil, take-append-drop, take_all, length-take}
use Rattle.std.proofs.Math.Seq.{take-add, drop-cons}
use Rattle.ulfm_script.specs.Buffers.{HasNoNewline}
use Rattle.ulfm_script.specs.Written.{WritesPart}

-- known bytes that nobody touched
pub keeps_start : (a : Option (List ℕ)) → Keeps a a
keeps_start None = tt
keeps_start (Some xs) = refl

-- known bytes kept twice
pub keeps_then : (a b c : Option (List ℕ)) → Keeps a b → Keeps b c → Keeps a c
keeps_then None b c h k = tt
keeps_then (Some xs) None c h k = absurd h
keeps_then (Some xs) (Some ys) None h k = absurd k
keeps_then (Some xs) (Some ys) (Some zs) h k = k ∙ h

-- no byte is consumed
pub consumes_start : (a : Option (List ℕ)) → Consumes a a []
consumes_start None = tt
consumes_start (Some xs) = refl

-- bytes consumed, and then more
pub consumes_then : (a b c : Option (List ℕ)) (xs ys : List ℕ) → Consumes a b xs → Consumes b c ys → Consumes a c (xs ++ ys)
consumes_then None b c xs ys h k = tt
consumes_then (Some us) None c xs ys h k = absurd h
consumes_then (Some us) (Some vs) None xs ys h k = absurd k
consumes_then (Some us) (Some vs) (Some ws) xs ys h k = h ∙ ap (λ (t : List ℕ). xs ++ t) k ∙ sym (append_assoc xs ys ws)

-- bytes consumed, and then the rest kept
pub consumes_keeps : (a b c : Option (List ℕ)) (xs : List ℕ) → Consumes a b xs → Keeps b c → Consumes a c xs
consumes_keeps None b c xs h k = tt
consumes_keeps (Some us) None c xs h k = absurd h
consumes_keeps (Some us) (Some vs) None xs h k = absurd k
consumes_keeps (Some us) (Some vs) (Some ws) xs h k = h ∙ ap (λ (t : List ℕ). xs ++ t) (sym k)

-- no byte is appended
pub appends_start : (a : Option (List ℕ)) → Appends a a []
appends_start None = tt
appends_start (Some xs) = sym (append-nil xs)

-- bytes appended, and then more
pub appends_then : (a b c : Option (List ℕ)) (xs ys : List ℕ) → Appends a b xs → Appends b c ys → Appends a c (xs ++ ys)
appends_then None b c xs ys h k = tt
appends_then (Some us) None c xs ys h k = absurd h
appends_then (Some us) (Some vs) None xs ys h k = absurd k
appends_then (Some us) (Some vs) (Some ws) xs ys h k = k ∙ ap (λ (t : List ℕ). t ++ ys) h ∙ append_assoc us xs ys

-- bytes appended, and then all kept
pub appends_keeps : (a b c : Option (List ℕ)) (xs : List ℕ) → Appends a b xs → Keeps b c → Appends a c xs
appends_keeps None b c xs h k = tt
appends_keeps (Some us) None c xs h k = absurd h
appends_keeps (Some us) (Some vs) None xs h k = absurd k
appends_keeps (Some us) (Some vs) (Some ws) xs h k = k ∙ h

-- a beginning of the bytes was written, and then nothing more
pub writes_part : (a b c : Option (List ℕ)) (bytes : List ℕ) (i : ℕ) → Appends a b (take i bytes) → Keeps b c → WritesPart a c bytes
writes_part a b c bytes i h k = (take i bytes, (drop i bytes, take-append-drop i bytes), appends_keeps a b c (take i bytes) h k)

-- a buffer whose start has come to its end
pub none_pending : (xs : List ℕ) (s e : ℕ) → e ≤ s → slice_range xs s e ≡ []
none_pending xs s e h = let z : e - s ≡ 0 = omega arith in rw z refl

-- a buffer with a byte left: that byte and those behind it
pub some_pending : (xs : List ℕ) (s e : ℕ) → s < e → e ≤ length xs → slice_range xs s e ≡ get_or xs s 0 ∷ slice_range xs (s + 1) e
some_pending xs s e h k =
    let z : e - s ≡ suc (e - (s + 1)) = omega arith in
    let lt : s < length xs = omega arith in
    rw (z, drop-cons xs s 0 lt, add-one) refl

-- a buffer with a byte left keeps what is to be taken, and is not empty
pub already_filled : (xs : List ℕ) (s e : ℕ) (known : Option (List ℕ)) → s < e → e ≤ length xs
    → Keeps (prepend_known (slice_range xs s e) known) (prepend_known (slice_range xs s e) known)
    × (slice_range xs s e ≡ [] → IsAtEnd (prepend_known (slice_range xs s e) known))
already_filled xs s e known h k =
    let some = some_pending xs s e h k in
    (keeps_start (prepend_known (slice_range xs s e) known), λ none. cc)

-- what is pending of a small buffer is little
pub few_pending : (xs : List ℕ) (s e most : ℕ) → e ≤ length xs → length xs ≤ most → length (slice_range xs s e) ≤ most
few_pending xs s e most h k = omega (arith, length-take (e - s) (drop s xs))

-- a buffer that was read into
pub filled : (xs ys : List ℕ) (s e n : ℕ) (old new : Option (List ℕ)) → e ≤ s → Consumes old new (take n ys) → Keeps (prepend_known (slice_range xs s e) old) (prepend_known (slice_range ys 0 n) new)
filled xs ys s e n None new h k = tt
filled xs ys s e n (Some us) None h k = absurd k
filled xs ys s e n (Some us) (Some vs) h k =
    let z : n - 0 ≡ n = omega arith in rw (none_pending xs s e h, z) (sym k)

-- nothing is pending and the reader is at its end
pub at_end : (bytes : List ℕ) (new : Option (List ℕ)) → bytes ≡ [] → IsAtEnd new → IsAtEnd (prepend_known bytes new)
at_end bytes None e h = tt
at_end bytes (Some us) e h = rw e h

-- a buffer that was read into, with room: nothing is pending then only at the reader's end
pub read_into : (xs zs buf : List ℕ) (s e n : ℕ) (old new : Option (List ℕ)) → e ≤ s → zs ≡ buf → n ≤ length buf → 0 < length buf
    → Consumes old new (take n buf) × (n ≡ 0 → 0 < length buf → IsAtEnd new)
    → Keeps (prepend_known (slice_range xs s e) old) (prepend_known (slice_range zs 0 n) new)
    × (slice_range zs 0 n ≡ [] → IsAtEnd (prepend_known (slice_range zs 0 n) new))
read_into xs zs buf s e n old new h same fits room read =
    let none_read : slice_range zs 0 n ≡ [] → n ≡ 0 =
    λ none. omega (arith, ap length none, ap length same, length-take (n - 0) (drop 0 zs), length-drop 0 zs) in
    (rw same (filled xs buf s e n old new h read.0), λ none. at_end (slice_range zs 0 n) new none (read.1 (none_read none) room))

-- an empty buffer that was written over, and a reader that kept what it had
pub kept_empty : (xs zs : List ℕ) (s e : ℕ) (old new : Option (List ℕ)) → e ≤ s → Keeps old new
    → Keeps (prepend_known (slice_range xs s e) old) (prepend_known (slice_range zs s e) new)
kept_empty xs zs s e None new h k = tt
kept_empty xs zs s e (Some us) None h k = absurd k
kept_empty xs zs s e (Some us) (Some vs) h k = rw (none_pending xs s e h, none_pending zs s e h) k

-- the rest of a slice, as its range shows it
rest_is : (i : ℕ) (bytes : List ℕ) → take (length bytes - i) (drop i bytes) ≡ drop i bytes
rest_is i bytes = take_all (length bytes - i) (drop i bytes) (simp length-drop (omega arith))

-- the first i bytes were written, and then n more
pub appends_more : (a b c : Option (List ℕ)) (bytes : List ℕ) (i n : ℕ) → Appends a b (take i bytes) → Appends b c (take n (take (length bytes - i) (drop i bytes))) → Appends a c (take (i + n) bytes)
appends_more a b c bytes i n h k =
    rw take-add (appends_then a b c (take i bytes) (take n (drop i bytes)) h (rw (rest_is i bytes) at k))

-- the same as a part of all
pub writes_more : (a b c : Option (List ℕ)) (bytes : List ℕ) (i n : ℕ) → Appends a b (take i bytes) → Appends b c (take n (take (length bytes - i) (drop i bytes))) → WritesPart a c bytes
writes_more a b c bytes i n h k = (take (i + n) bytes, (drop (i + n) bytes, take-append-drop (i + n) bytes), appends_more a b c bytes i n h k)

-- nothing is left behind what is pending
pub end_behind : (bytes : List ℕ) (known : Option (List ℕ)) → IsAtEnd (prepend_known bytes known) → IsAtEnd known
end_behind bytes None h = tt
end_behind [] (Some xs) h = h
end_behind (x ∷ bytes) (Some xs) h = cc

-- where nothing is pending, the reader itself gave what was taken
pub taken_of_reader : (a b : Option (List ℕ)) (bytes done : List ℕ) → bytes ≡ [] → Consumes a (prepend_known bytes b) done → Consumes a b done
taken_of_reader None b bytes done e h = tt
taken_of_reader (Some us) None bytes done e h = absurd h
taken_of_reader (Some us) (Some vs) bytes done e h = h ∙ ap (λ (t : List ℕ). done ++ (t ++ vs)) e

-- a line of which something is kept has bytes
pub some_kept : (kept done : List ℕ) (n : ℕ) → kept ≡ take n done → 0 < length kept → 0 < length done
some_kept kept done n e h = omega (arith, ap length e, length-take n done)

-- keeping all is consuming nothing
pub keeps_nothing : (a b : Option (List ℕ)) → Keeps a b → Consumes a b []
keeps_nothing None b h = tt
keeps_nothing (Some us) None h = absurd h
keeps_nothing (Some us) (Some vs) h = sym h

-- nothing was kept of what was taken, so nothing was taken
pub none_taken : (a b c : Option (List ℕ)) (kept done : List ℕ) (n : ℕ) → kept ≡ take n done → length kept ≡ 0 → 0 < n → Consumes a b done → Keeps b c
    → Keeps a c
none_taken None b c kept done n e none some h k = tt
none_taken (Some us) None c kept done n e none some h k = absurd h
none_taken (Some us) (Some vs) None kept done n e none some h k = absurd k
none_taken (Some us) (Some vs) (Some ws) kept [] n e none some h k = k ∙ sym h
none_taken (Some us) (Some vs) (Some ws) kept (x ∷ xs) n e none some h k = absurd (omega (arith, ap length e, length-take n (x ∷ xs)))

-- a list without length is empty
pub no_items : (xs : List ℕ) → length xs ≡ 0 → xs ≡ []
no_items [] e = refl
no_items (x ∷ xs) e = absurd (omega (arith, e))

-- nothing is kept of nothing
pub none_kept : (kept : List ℕ) (n : ℕ) → kept ≡ [] → kept ≡ take n []
none_kept kept n e = e ∙ sym (take_all n [] (omega arith))
